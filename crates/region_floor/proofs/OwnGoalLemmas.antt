-- What takes the place of a goal on top of own entries, over a bare floor and over the true one.
use Rattle.std.proofs.Common.{◌≡◌, ℕ, ◌-◌, ◌+◌, ◌≤◌, Bool, true, false, cond, List, [], ◌∷◌, ◌++◌, map, length, drop, Option, Some, None, refl, sym, ap, ap₂, ◌∙◌, subst, arith}
use Rattle.std.proofs.lemmas.List.{append_assoc, length-map, drop-map, drop-append-le, map-append, length-append}
use Rattle.std.specs.Prelude.{nat_lt}
use Rattle.au_term.specs.Term.{Term}
use Rattle.au_term.proofs.LogicLemmas.{not_lt_by}
use Rattle.au_model.specs.Terms.Each.{Each}
use Rattle.au_model.specs.Terms.Substitutions.{Substitution}
use Rattle.au_model.specs.Terms.Unifier.{unifier}
use Rattle.au_model.proofs.EachLemmas.{each-append, each-drop}
use Rattle.run_model.specs.Programs.Clauses.{Clause}
use Rattle.run_model.specs.Goals.Outcomes.{Solution, Solutions, ControlForm, GoesOnWith, EitherOf, TestOf, CutToScope, CatchOf, FindallOf, Outcome, Replies, Controls}
use Rattle.run_model.specs.Goals.GoalOutcomes.{outcome_of}
use Rattle.run_model.specs.Machine.Items.{Item, GoalItem, CatchMark, CollectMark, RemovalItem, Continuation, resolve_item, goals_at, before, with_next, removing}
use Rattle.run_model.specs.Machine.Entries.{Entry, PlainEntry, CatchEntry, FindallEntry, unified, solution_entry, solution_entries}
use Rattle.run_model.specs.Machine.Heights.{goals_entry, test_items, guarded_goal, after_reply, after_control}
use Rattle.tree_model.specs.Nodes.{CutGate}
use Rattle.tree_model.specs.Levels.{Level}
use Rattle.tree_model.specs.Floors.{floor_of, node_of}
use Rattle.tree_model.specs.Gates.{control_gate, goal_gate}
use Rattle.tree_model.specs.PrivateRuns.{own_at_rest, own_part, own_after, if_no_gate, goal_alone}
use Rattle.region_floor.specs.Deferred.{Deferred, deferred_now, joined_continuation, joined_entry}
use Rattle.region_floor.specs.BareFloors.{bare_floor, AreOwnItems, AreOwn, IsOwnEntry, TopGoal, goal_entries, bare_stack, true_stack, InfersPrivately}
use Rattle.region_floor.specs.PrivateLaws.{RemovesNothing, KeepsClauses, ControlsArePrivate, SolutionsArePrivate}
use Rattle.region_floor.proofs.FloorSizeLemmas.{bare-size, stack-size, part-over}
use Rattle.region_floor.proofs.JoinedLemmas.{before-joined, test-joined, joined-resolved}
use Rattle.region_floor.proofs.KeptClauseLemmas.{outcome-kept}

-- own entries are left over either floor
pub record Leaves (d : Deferred) (levels : List Level) (bare whole : List Entry) : Type 0 where
  pub left : List Entry
  pub entries : bare ≡ bare_stack levels left
  pub are_own : AreOwn (length levels) left
  pub stands : whole ≡ true_stack d levels left

pub inferred : (clauses : List Clause) (d : Deferred) (levels : List Level) (t : TopGoal) (o : Outcome) → outcome_of clauses t.goal t.after.next ≡ o
    → goal_gate levels o t.height (joined_continuation d t.after) (true_stack d levels t.below) ≡ None
    → (bare : List Entry) → Leaves d levels bare (goal_alone o t.height (joined_continuation d t.after) (true_stack d levels t.below))
    → InfersPrivately clauses d levels (goal_entries t) bare
inferred clauses d levels t o e g bare k =
    let floor = floor_of levels in
    let f = joined_continuation d t.after in
    let es = true_stack d levels t.below in
    record {
      left = k.left;
      entries = k.entries;
      are_own = k.are_own;
      inferred = ap (λ x. own_after floor (if_no_gate (goal_gate levels x t.height f es) (Some (goal_alone x t.height f es)))) e
          ∙ ap (λ x. own_after floor (if_no_gate x (Some (goal_alone o t.height f es)))) g
          ∙ ap (λ l. Some (own_at_rest floor (own_part floor l))) k.stands
          ∙ ap (λ l. Some (own_at_rest floor l)) (part-over (map (joined_entry d) k.left) floor);
    }

-- own items
pub goals-own : (n h : ℕ) (gs : List Term) (items : List (Item ℕ)) → AreOwnItems n items → AreOwnItems n (goals_at h gs ++ items)
goals-own n h [] items o = o
goals-own n h (g ∷ gs) items o = goals-own n h gs items o

test-own : (n m h : ℕ) (condition thens : List Term) (items : List (Item ℕ)) → AreOwnItems n items
    → AreOwnItems n (test_items m h condition thens ++ items)
test-own n m h [] thens items o = goals-own n h thens items o
test-own n m h (c ∷ condition) thens items o = test-own n m h condition thens items o

pub resolved-own : (n : ℕ) (s : Substitution) (items : List (Item ℕ)) → AreOwnItems n items → AreOwnItems n (map (resolve_item s) items)
resolved-own n s [] o = tt
resolved-own n s (GoalItem t h ∷ items) o = resolved-own n s items o
resolved-own n s (CatchMark h ∷ items) o = (o.0, resolved-own n s items o.1)
resolved-own n s (CollectMark t h ∷ items) o = (o.0, resolved-own n s items o.1)
resolved-own n s (RemovalItem k ∷ items) o = ap (map (resolve_item s)) o

module _ (d : Deferred) (levels : List Level) where
  abbrev n : ℕ
  n = length levels

  abbrev bare : List Entry → List Entry
  bare own = bare_stack levels own

  abbrev whole : List Entry → List Entry
  whole own = true_stack d levels own

  bare-high : (own : List Entry) → n ≤ length (bare own)
  bare-high own = omega (arith, length-append own (bare_floor n), bare-size n)

  goals_same : (h : ℕ) (gs : List Term) (f : Continuation ℕ) → goals_entry h gs (joined_continuation d f) ≡ joined_entry d (goals_entry h gs f)
  goals_same h gs f = ap PlainEntry (sym (before-joined d h gs f))

  -- control constructs
  cut_taken : (h : ℕ) (f : Continuation ℕ) (own : List Entry) → AreOwnItems n f.items → AreOwn n own → (b : Bool) → nat_lt h n ≡ b
      → cond b (Some (CutGate (node_of levels h))) None ≡ None
      → Leaves d levels (after_control CutToScope h f (bare own)) (after_control CutToScope h (joined_continuation d f) (whole own))
  cut_taken h f own i o true e g = absurd cc
  cut_taken h f own i o false e g =
      let high : n ≤ h = not_lt_by h n e in
      let over : length (bare own) ≡ length own + n = length-append own (bare_floor n) ∙ ap (λ k. length own + k) (bare-size n) in
      let few : length (bare own) - h ≤ length own = omega (arith, high, over) in
      let k : ℕ = length (bare own) - h in
      record {
        left = PlainEntry f ∷ drop k own;
        entries = ap (λ l. PlainEntry f ∷ l) (drop-append-le k own (bare_floor n) few);
        are_own = (i, each-drop (IsOwnEntry n) k own o);
        stands = ap (λ m. PlainEntry (joined_continuation d f) ∷ drop (m - h) (whole own)) (stack-size d levels own)
            ∙ ap (λ l. PlainEntry (joined_continuation d f) ∷ l)
            (drop-append-le k (map (joined_entry d) own) (floor_of levels) (omega (arith, few, length-map own (joined_entry d)))
            ∙ ap (λ l. l ++ floor_of levels) (drop-map (joined_entry d) k own));
      }

  control_taken : (form : ControlForm) (h : ℕ) (f : Continuation ℕ) (own : List Entry) → AreOwnItems n f.items → AreOwn n own
      → control_gate levels form h ≡ None → Leaves d levels (after_control form h f (bare own)) (after_control form h (joined_continuation d f) (whole own))
  control_taken (GoesOnWith gs) h f own i o g = record {
    left = goals_entry (length (bare own)) gs f ∷ own;
    entries = refl;
    are_own = (goals-own n (length (bare own)) gs f.items i, o);
    stands = ap (λ m. goals_entry m gs (joined_continuation d f) ∷ whole own) (stack-size d levels own)
        ∙ ap (λ e. e ∷ whole own) (goals_same (length (bare own)) gs f);
  }
  control_taken (EitherOf gs others) h f own i o g = record {
    left = goals_entry h gs f ∷ goals_entry h others f ∷ own;
    entries = refl;
    are_own = (goals-own n h gs f.items i, (goals-own n h others f.items i, o));
    stands = ap₂ (λ a b. a ∷ b ∷ whole own) (goals_same h gs f) (goals_same h others f);
  }
  control_taken (TestOf gs thens others) h f own i o g = record {
    left = PlainEntry (before (test_items (length (bare own)) h gs thens) f) ∷ goals_entry h others f ∷ own;
    entries = refl;
    are_own = (test-own n (length (bare own)) h gs thens f.items i, (goals-own n h others f.items i, o));
    stands = ap (λ m. PlainEntry (before (test_items m h gs thens) (joined_continuation d f)) ∷ goals_entry h others (joined_continuation d f) ∷ whole own)
        (stack-size d levels own)
        ∙ ap₂ (λ a b. a ∷ b ∷ whole own)
        (ap (λ l. PlainEntry (let c : Continuation ℕ = record { items = l; named = (joined_continuation d f).named; next = f.next } in c))
        (sym (test-joined (deferred_now d f) (length (bare own)) h gs thens f.items)))
        (goals_same h others f);
  }
  control_taken CutToScope h f own i o g = cut_taken h f own i o (nat_lt h n) refl g
  control_taken (CatchOf goal c r) h f own i o g = record {
    left = PlainEntry (before (guarded_goal (length (bare own)) goal ∷ CatchMark (length (bare own)) ∷ []) f) ∷ CatchEntry c r f ∷ own;
    entries = refl;
    are_own = ((bare-high own, i), (i, o));
    stands = ap (λ m. PlainEntry (before (guarded_goal m goal ∷ CatchMark m ∷ []) (joined_continuation d f)) ∷ CatchEntry c r (joined_continuation d f) ∷ whole own)
        (stack-size d levels own);
  }
  control_taken (FindallOf t goal l) h f own i o g = record {
    left = PlainEntry (before (guarded_goal (length (bare own)) goal ∷ CollectMark t (length (bare own)) ∷ []) f) ∷ FindallEntry [] l f ∷ own;
    entries = refl;
    are_own = ((bare-high own, i), (i, o));
    stands = ap (λ m. PlainEntry (before (guarded_goal m goal ∷ CollectMark t m ∷ []) (joined_continuation d f)) ∷ FindallEntry [] l (joined_continuation d f) ∷ whole own)
        (stack-size d levels own);
  }

  -- solutions
  unified-joined : (o : Option Substitution) (f : Continuation ℕ) → unified o (joined_continuation d f) ≡ map (joined_entry d) (unified o f)
  unified-joined None f = refl
  unified-joined (Some s) f = ap (λ c. PlainEntry c ∷ []) (joined-resolved s d f)

  unified-own : (o : Option Substitution) (f : Continuation ℕ) → AreOwnItems n f.items → AreOwn n (unified o f)
  unified-own None f i = tt
  unified-own (Some s) f i = (resolved-own n s f.items i, tt)

  abbrev going : ℕ → Continuation ℕ → Solution → Continuation ℕ
  going m f s = with_next (f.next + s.variables) (before (goals_at m s.goals) f)

  going-joined : (m : ℕ) (f : Continuation ℕ) (s : Solution) → going m (joined_continuation d f) s ≡ joined_continuation d (going m f s)
  going-joined m f s = ap (with_next (f.next + s.variables)) (sym (before-joined d m s.goals f))

  solution-plain : (m : ℕ) (f : Continuation ℕ) (s : Solution) → RemovesNothing s → solution_entry m f s ≡ unified (unifier s.equations) (going m f s)
  solution-plain m f s e =
      ap (λ r. unified (unifier s.equations) (with_next (f.next + s.variables) (before (goals_at m s.goals) (removing r f)))) e

  solution-joined : (m : ℕ) (f : Continuation ℕ) (s : Solution) → RemovesNothing s
      → solution_entry m (joined_continuation d f) s ≡ map (joined_entry d) (solution_entry m f s)
  solution-joined m f s e =
      solution-plain m (joined_continuation d f) s e ∙ ap (unified (unifier s.equations)) (going-joined m f s)
      ∙ unified-joined (unifier s.equations) (going m f s) ∙ ap (map (joined_entry d)) (sym (solution-plain m f s e))

  pub solutions-joined : (m : ℕ) (f : Continuation ℕ) (ss : List Solution) → Each RemovesNothing ss
      → solution_entries m (joined_continuation d f) ss ≡ map (joined_entry d) (solution_entries m f ss)
  solutions-joined m f [] h = refl
  solutions-joined m f (s ∷ ss) h =
      ap₂ ◌++◌ (solution-joined m f s h.0) (solutions-joined m f ss h.1)
      ∙ sym (map-append (joined_entry d) (solution_entry m f s) (solution_entries m f ss))

  pub solutions-own : (m : ℕ) (f : Continuation ℕ) (ss : List Solution) → Each RemovesNothing ss → AreOwnItems n f.items
      → AreOwn n (solution_entries m f ss)
  solutions-own m f [] h i = tt
  solutions-own m f (s ∷ ss) h i =
      each-append (IsOwnEntry n) (solution_entry m f s) (solution_entries m f ss)
      (subst (AreOwn n) (sym (solution-plain m f s h.0))
      (unified-own (unifier s.equations) (going m f s) (goals-own n m s.goals f.items i)))
      (solutions-own m f ss h.1 i)

  solutions_taken : (ss : List Solution) (f : Continuation ℕ) (own : List Entry) → Each RemovesNothing ss → AreOwnItems n f.items → AreOwn n own
      → Leaves d levels (after_reply (Solutions ss) f (bare own)) (after_reply (Solutions ss) (joined_continuation d f) (whole own))
  solutions_taken ss f own h i o =
      let m = length (bare own) in
      let new = solution_entries m f ss in
      record {
        left = new ++ own;
        entries = sym (append_assoc new own (bare_floor n));
        are_own = each-append (IsOwnEntry n) new own (solutions-own m f ss h i) o;
        stands = ap (λ k. solution_entries k (joined_continuation d f) ss ++ whole own) (stack-size d levels own)
            ∙ ap (λ l. l ++ whole own) (solutions-joined m f ss h)
            ∙ sym (append_assoc (map (joined_entry d) new) (map (joined_entry d) own) (floor_of levels))
            ∙ ap (λ l. l ++ floor_of levels) (sym (map-append (joined_entry d) new own));
      }

pub controls_are_private : ControlsArePrivate
controls_are_private clauses d levels t form h g =
    inferred clauses d levels t (Controls form) h.outcome g (after_control form t.height t.after (bare_stack levels t.below))
    (control_taken d levels form t.height t.after t.below h.are_own.0 h.are_own.1 g)

pub solutions_are_private : SolutionsArePrivate
solutions_are_private clauses d levels t ss h =
    inferred clauses d levels t (Replies (Solutions ss)) h.outcome refl (after_reply (Solutions ss) t.after (bare_stack levels t.below))
    (solutions_taken d levels ss t.after t.below (subst KeepsClauses h.outcome (outcome-kept clauses t.goal t.after.next)) h.are_own.0 h.are_own.1)
