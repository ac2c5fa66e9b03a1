-- A ball that is thrown over own entries lands at one of them over both floors, or at none.
use Rattle.std.proofs.Common.{◌≡◌, ◌⊎◌, inl, inr, ℕ, zero, suc, ◌+◌, ◌<◌, ◌≤◌, ◌==◌, Bool, true, false, cond, List, [], ◌∷◌, ◌++◌, map, length, drop, Option, Some, None, refl, sym, ap, ◌∙◌, subst, arith}
use Rattle.std.proofs.lemmas.List.{length-append}
use Rattle.std.proofs.lemmas.Bool.Decides.{nat_tests}
use Rattle.std.specs.Prelude.{nat_le}
use Rattle.au_term.specs.Term.{Term}
use Rattle.au_term.proofs.LogicLemmas.{not_equal}
use Rattle.au_model.specs.Terms.Each.{Each}
use Rattle.au_model.specs.Terms.Named.{NamedTerm}
use Rattle.au_model.specs.Terms.Substitutions.{Substitution}
use Rattle.au_model.specs.Terms.Unifier.{unifier}
use Rattle.au_model.specs.Terms.Copies.{copied, copy_takes}
use Rattle.au_model.proofs.EachLemmas.{each-append, each-drop}
use Rattle.run_model.specs.Programs.Bodies.{call_of}
use Rattle.run_model.specs.Goals.Outcomes.{Ball, Replies}
use Rattle.run_model.specs.Machine.Items.{Item, GoalItem, CatchMark, CollectMark, RemovalItem, Continuation, first_mark, before, with_next, resolve_continuation}
use Rattle.run_model.specs.Machine.Entries.{Entry, PlainEntry, CatchEntry, FindallEntry, EndEntry}
use Rattle.run_model.specs.Machine.Balls.{is_height, taken_by, next_mark, recovered, unwound}
use Rattle.run_model.specs.Machine.Heights.{after_reply}
use Rattle.tree_model.specs.Nodes.{BallGate}
use Rattle.tree_model.specs.Levels.{Level}
use Rattle.tree_model.specs.Floors.{floor_of}
use Rattle.tree_model.specs.Gates.{ball_scope, is_caught_above, goal_gate}
use Rattle.region_floor.specs.Deferred.{Deferred, with_term, items_now, deferred_now, joined_items, joined_continuation, joined_entry}
use Rattle.region_floor.specs.BareFloors.{bare_floor, AreOwnItems, AreOwn, IsOuterMark, goal_entries, bare_stack, true_stack, InfersPrivately}
use Rattle.region_floor.specs.BallLaws.{BallsArePrivate, IsBallGate, BallsAreGates, BallsLand}
use Rattle.region_floor.proofs.FloorSizeLemmas.{bare-size, floor-size, stack-size}
use Rattle.region_floor.proofs.JoinedLemmas.{joined-resolved}
use Rattle.region_floor.proofs.OwnGoalLemmas.{inferred, resolved-own}

-- the marks that are looked for: one is of the floor where there is none over the bare one
abbrev MarksFit : ℕ → Option ℕ → Option ℕ → Type 0
MarksFit n None None = Unit {0}
MarksFit n None (Some h) = h < n
MarksFit n (Some k) None = ⊥
MarksFit n (Some k) (Some h) = h ≡ k

outer-fit : (n : ℕ) (items : List (Item ℕ)) → Each (IsOuterMark n) items → MarksFit n None (first_mark items)
outer-fit n [] h = tt
outer-fit n (CatchMark k ∷ items) h = h.0
outer-fit n (GoalItem t k ∷ items) h = outer-fit n items h.1
outer-fit n (CollectMark t k ∷ items) h = outer-fit n items h.1
outer-fit n (RemovalItem k ∷ items) h = outer-fit n items h.1

own-fit : (n : ℕ) (now items : List (Item ℕ)) → Each (IsOuterMark n) now → AreOwnItems n items
    → MarksFit n (first_mark items) (first_mark (joined_items now items))
own-fit n now [] h o = tt
own-fit n now (CatchMark k ∷ items) h o = refl
own-fit n now (GoalItem t k ∷ items) h o = own-fit n now items h o
own-fit n now (CollectMark t k ∷ items) h o = own-fit n now items h o.1
own-fit n now (RemovalItem k ∷ []) h o =
    outer-fit n (drop k now ++ []) (each-append (IsOuterMark n) (drop k now) [] (each-drop (IsOuterMark n) k now h) tt)
own-fit n now (RemovalItem k ∷ i ∷ items) h o = absurd cc

term-outer : (n : ℕ) (i : Item ℕ) (t : Term) → IsOuterMark n i → IsOuterMark n (with_term i t)
term-outer n (GoalItem u h) t o = o
term-outer n (CatchMark h) t o = o
term-outer n (CollectMark u h) t o = o
term-outer n (RemovalItem k) t o = o

pub now-outer : (n : ℕ) (items : List (Item ℕ)) (vs : List NamedTerm) → Each (IsOuterMark n) items → Each (IsOuterMark n) (items_now items vs)
now-outer n [] vs h = tt
now-outer n (i ∷ items) [] h = tt
now-outer n (i ∷ items) (v ∷ vs) h = (term-outer n i v.term h.0, now-outer n items vs h.1)

height-fit : (n k : ℕ) (a b : Option ℕ) → n ≤ k → MarksFit n a b → is_height b k ≡ is_height a k
height-fit n k None None l f = refl
height-fit n k (Some i) None l f = absurd f
height-fit n k (Some i) (Some h) l f = ap (λ m. m == k) f
height-fit n k None (Some h) l f = not_equal h k (omega (arith, l, f))

-- it lands at an entry or nowhere
pub balls_land : BallsLand
balls_land b mark [] = inr refl
balls_land b mark (PlainEntry f ∷ es) = balls_land b mark es
balls_land b mark (FindallEntry results g f ∷ es) = balls_land b mark es
balls_land b mark (EndEntry e ∷ es) = balls_land b mark es
balls_land b mark (CatchEntry c r f ∷ es) =
    go (taken_by mark (length es) b c f) (balls_land b (next_mark mark (length es) f) es)
  where
    go : (o : Option Substitution)
        → ((g : Continuation ℕ) × (ds : List Entry) × (unwound b (next_mark mark (length es) f) es ≡ PlainEntry g ∷ ds))
        ⊎ (unwound b (next_mark mark (length es) f) es ≡ EndEntry (Some (copied b 0)) ∷ [])
        → ((g : Continuation ℕ) × (ds : List Entry) × (recovered o b r f es (unwound b (next_mark mark (length es) f) es) ≡ PlainEntry g ∷ ds))
        ⊎ (recovered o b r f es (unwound b (next_mark mark (length es) f) es) ≡ EndEntry (Some (copied b 0)) ∷ [])
    go None k = k
    go (Some s) k = inl (_, _, refl)

-- a ball that reaches the floor lands there or nowhere
below-floor : (levels : List Level) (b : Term) (mark : Option ℕ) (es : List Entry) → length es ≤ length levels
    → is_caught_above levels (unwound b mark es) ≡ false
below-floor levels b mark [] l = refl
below-floor levels b mark (PlainEntry f ∷ es) l = below-floor levels b mark es (omega arith)
below-floor levels b mark (FindallEntry results g f ∷ es) l = below-floor levels b mark es (omega arith)
below-floor levels b mark (EndEntry e ∷ es) l = below-floor levels b mark es (omega arith)
below-floor levels b mark (CatchEntry c r f ∷ es) l =
    go (taken_by mark (length es) b c f) (below-floor levels b (next_mark mark (length es) f) es (omega arith))
  where
    short : (t : Bool) → nat_le (length levels) (length es) ≡ t → t ≡ false
    short false e = refl
    short true e = absurd (grind (arith, nat_tests))

    go : (o : Option Substitution) → is_caught_above levels (unwound b (next_mark mark (length es) f) es) ≡ false
        → is_caught_above levels (recovered o b r f es (unwound b (next_mark mark (length es) f) es)) ≡ false
    go None k = k
    go (Some s) k = short (nat_le (length levels) (length es)) refl

pub bare-falls : (b : Term) (mark : Option ℕ) (n : ℕ) → unwound b mark (bare_floor n) ≡ EndEntry (Some (copied b 0)) ∷ []
bare-falls b mark zero = refl
bare-falls b mark (suc n) = bare-falls b mark n

module _ (d : Deferred) (levels : List Level) (b : Term) (outer : Each (IsOuterMark (length levels)) d.items) where
  abbrev n : ℕ
  n = length levels

  abbrev bare : List Entry → List Entry
  bare own = bare_stack levels own

  abbrev whole : List Entry → List Entry
  whole own = true_stack d levels own

  pub record Lands (st others : List Entry) : Type 0 where
    pub after : Continuation ℕ
    pub left : List Entry
    pub entries : st ≡ bare (PlainEntry after ∷ left)
    pub are_own : AreOwn n (PlainEntry after ∷ left)
    pub stands : others ≡ whole (PlainEntry after ∷ left)

  pub record Falls (st others : List Entry) : Type 0 where
    pub entries : st ≡ EndEntry (Some (copied b 0)) ∷ []
    pub falls : is_caught_above levels others ≡ false

  abbrev Landing : List Entry → List Entry → Type 0
  Landing st others = Lands st others ⊎ Falls st others

  pub marks-fit : (f : Continuation ℕ) → AreOwnItems n f.items → MarksFit n (first_mark f.items) (first_mark (joined_continuation d f).items)
  marks-fit f o = own-fit n (deferred_now d f) f.items (now-outer n d.items (drop d.named f.named) outer) o

  abbrev recovering : Substitution → Term → Continuation ℕ → ℕ → Continuation ℕ
  recovering s r f k = resolve_continuation s (with_next (f.next + copy_takes b) (before (GoalItem (call_of r) k ∷ []) f))

  recovers : (o : Option Substitution) (r : Term) (f : Continuation ℕ) (own further others : List Entry) → AreOwnItems n f.items → AreOwn n own
      → Landing further others
      → Landing (recovered o b r f (bare own) further) (recovered o b r (joined_continuation d f) (whole own) others)
  recovers None r f own further others i o below = below
  recovers (Some s) r f own further others i o below =
      let k = length (bare own) in
      inl (record {
        after = recovering s r f k;
        left = own;
        entries = refl;
        are_own = (resolved-own n s (GoalItem (call_of r) k ∷ f.items) i, o);
        stands = ap (λ m. PlainEntry (recovering s r (joined_continuation d f) m) ∷ whole own) (stack-size d levels own)
            ∙ ap (λ c. PlainEntry c ∷ whole own) (joined-resolved s d (with_next (f.next + copy_takes b) (before (GoalItem (call_of r) k ∷ []) f)));
      })

  -- at a catch, by whether its mark is looked for
  abbrev at_catch : Bool → Term → Term → Continuation ℕ → Option ℕ → List Entry → List Entry
  at_catch x c r f mark es =
      recovered (cond x (unifier ((c, copied b f.next) ∷ [])) None) b r f es (unwound b (cond x (first_mark f.items) mark) es)

  catches : (x : Bool) (c r : Term) (f : Continuation ℕ) (own : List Entry) (a z : Option ℕ) → AreOwnItems n f.items → AreOwn n own
      → MarksFit n a z → ((p q : Option ℕ) → MarksFit n p q → Landing (unwound b p (bare own)) (unwound b q (whole own)))
      → Landing (at_catch x c r f a (bare own)) (at_catch x c r (joined_continuation d f) z (whole own))
  catches true c r f own a z i o m below =
      recovers (unifier ((c, copied b f.next) ∷ [])) r f own (unwound b (first_mark f.items) (bare own))
      (unwound b (first_mark (joined_continuation d f).items) (whole own)) i o (below (first_mark f.items) (first_mark (joined_continuation d f).items) (marks-fit f i))
  catches false c r f own a z i o m below = below a z m

  pub landing : (own : List Entry) → AreOwn n own → (p q : Option ℕ) → MarksFit n p q
      → Landing (unwound b p (bare own)) (unwound b q (whole own))
  landing [] o p q m = inr (record {
    entries = bare-falls b p n;
    falls = below-floor levels b q (floor_of levels) (omega (arith, floor-size levels));
  })
  landing (PlainEntry f ∷ own) o p q m = landing own o.1 p q m
  landing (FindallEntry results l f ∷ own) o p q m = landing own o.1 p q m
  landing (EndEntry e ∷ own) o p q m = absurd o.0
  landing (CatchEntry c r f ∷ own) o p q m =
      let k = length (bare own) in
      let high : n ≤ k = omega (arith, length-append own (bare_floor n), bare-size n) in
      let same : is_height q (length (whole own)) ≡ is_height p k = ap (is_height q) (stack-size d levels own) ∙ height-fit n k p q high m in
      subst (λ y. Landing (at_catch (is_height p k) c r f p (bare own)) (at_catch y c r (joined_continuation d f) q (whole own))) (sym same)
      (catches (is_height p k) c r f own p q o.0 o.1 m (λ u v w. landing own o.1 u v w))

pub balls_are_private : BallsArePrivate
balls_are_private clauses d levels t b h r es e =
    go (landing d levels b h.outer t.below h.outcome.are_own.1 (first_mark t.after.items) (first_mark (joined_continuation d t.after).items)
    (marks-fit d levels b h.outer t.after h.outcome.are_own.0))
  where
    high : (left : List Entry) → nat_le (length levels) (length (true_stack d levels left)) ≡ true
    high left = test (nat_le (length levels) (length (true_stack d levels left))) refl
      where
        long : length levels ≤ length (true_stack d levels left)
        long = omega (arith, length-append (map (joined_entry d) left) (floor_of levels), floor-size levels)

        test : (x : Bool) → nat_le (length levels) (length (true_stack d levels left)) ≡ x → x ≡ true
        test true k = refl
        test false k = let far = long in absurd (grind (arith, nat_tests))

    go : Lands d levels b h.outer (after_reply (Ball b) t.after (bare_stack levels t.below)) (after_reply (Ball b) (joined_continuation d t.after) (true_stack d levels t.below))
        ⊎ Falls d levels b h.outer (after_reply (Ball b) t.after (bare_stack levels t.below)) (after_reply (Ball b) (joined_continuation d t.after) (true_stack d levels t.below))
        → InfersPrivately clauses d levels (goal_entries t) (PlainEntry r ∷ es)
    go (inl k) =
        inferred clauses d levels t (Replies (Ball b)) h.outcome.outcome
        (ap (λ st. cond (is_caught_above levels st) None (Some (BallGate (ball_scope levels st)))) k.stands
        ∙ ap (λ x. cond x None (Some (BallGate (ball_scope levels (true_stack d levels (PlainEntry k.after ∷ k.left)))))) (high k.left))
        (PlainEntry r ∷ es)
        (record { left = PlainEntry k.after ∷ k.left; entries = sym e ∙ k.entries; are_own = k.are_own; stands = k.stands })
    go (inr k) = let both : ◌≡◌ {A = List Entry} (PlainEntry r ∷ es) (EndEntry (Some (copied b 0)) ∷ []) = sym e ∙ k.entries in absurd cc

pub balls_are_gates : BallsAreGates
balls_are_gates clauses d levels t b h c e =
    go (landing d levels b h.outer t.below h.outcome.are_own.1 (first_mark t.after.items) (first_mark (joined_continuation d t.after).items)
    (marks-fit d levels b h.outer t.after h.outcome.are_own.0))
  where
    go : Lands d levels b h.outer (after_reply (Ball b) t.after (bare_stack levels t.below)) (after_reply (Ball b) (joined_continuation d t.after) (true_stack d levels t.below))
        ⊎ Falls d levels b h.outer (after_reply (Ball b) t.after (bare_stack levels t.below)) (after_reply (Ball b) (joined_continuation d t.after) (true_stack d levels t.below))
        → IsBallGate clauses d levels t b c
    go (inl k) = let both : ◌≡◌ {A = List Entry} (EndEntry c ∷ []) (bare_stack levels (PlainEntry k.after ∷ k.left)) = sym e ∙ k.entries in absurd cc
    go (inr k) =
        let both : ◌≡◌ {A = List Entry} (EndEntry c ∷ []) (EndEntry (Some (copied b 0)) ∷ []) = sym e ∙ k.entries in
        record {
          ball = cc;
          gate = ap (λ o. goal_gate levels o t.height (joined_continuation d t.after) (true_stack d levels t.below)) h.outcome.outcome
              ∙ ap (λ x. cond x None (Some (BallGate (ball_scope levels (after_reply (Ball b) (joined_continuation d t.after) (true_stack d levels t.below)))))) k.falls;
        }
