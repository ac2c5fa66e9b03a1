-- A ball by names finds the catch that it finds by levels.
use Rattle.std.proofs.Common.{◌≡◌, ℕ, suc, ◌+◌, ◌≤◌, ◌==◌, Bool, true, false, cond, List, [], ◌∷◌, ◌++◌, map, length, Option, Some, None}
use Rattle.std.proofs.Common.{refl, sym, ap, ◌∙◌, subst, arith}
use Rattle.std.specs.Prelude.{◌||◌}
use Rattle.au_term.specs.Term.{Term}
use Rattle.run_model.specs.Programs.Clauses.{Clause}
use Rattle.au_model.specs.Terms.Substitutions.{Substitution}
use Rattle.au_model.specs.Terms.Unifier.{unifier}
use Rattle.au_model.specs.Terms.Copies.{copied, copy_takes}
use Rattle.run_model.specs.Programs.Bodies.{call_of}
use Rattle.run_model.specs.Machine.Items.{Item, GoalItem, CatchMark, CollectMark, RemovalItem, Continuation, first_mark}
use Rattle.run_model.specs.Machine.Items.{resolve_continuation}
use Rattle.run_model.specs.Machine.Items.{before, with_next}
use Rattle.tree_model.specs.Nodes.{Status, Inner}
use Rattle.tree_model.specs.Levels.{Level, level_node, plug}
use Rattle.tree_model.specs.Floors.{renamed_item}
use Rattle.tree_model.specs.PendingLists.{Step, Way, way_of, scope_on, named_continuation, list_right}
use Rattle.tree_model.specs.Ways.{is_on}
use Rattle.tree_model.specs.SoundTrees.{count_among, one_if, IsOpen}
use Rattle.tree_model.specs.Elements.{Name, same, Record, Element, Credit, Plain, EndOf, Catch, Findall, End}
use Rattle.tree_model.proofs.CountLemmas.{count_left, count_around}
use Rattle.interleaving.specs.Machine.{Machine, On, Here, gives}
use Rattle.interleaving.specs.Scopes.{Shared, Sought, Scope, Thrown, Caught, look, give, findall_with_result, recovery_look, scoped}
use Rattle.interleaving.specs.Segments.{found_in, search_in}
use Rattle.interleaving.proofs.ContextLemmas.{IsAround}
use Rattle.interleaving.proofs.WayLemmas.{cond-false, other_number}
use Rattle.interleaving.proofs.AppendLemmas.{append-assoc}
use Rattle.interleaving.proofs.NamingLemmas.{same-itself}
use Rattle.interleaving.proofs.ListEndLemmas.{on-counts, ends_in, no_end_among, other_node, scope_at}
use Rattle.interleaving.proofs.ListScopeLemmas.{IsDistinct}
use Rattle.interleaving.proofs.CaughtContextLemmas.{RootCaught}
use Rattle.interleaving.proofs.LowerListLemmas.{lower_back}
use Rattle.interleaving.proofs.CatchingLemmas.{CaughtBy, catching, MarkIsDormant, dormant_way, IsTaken, catching_taken}
use Rattle.au_term.proofs.LogicLemmas.{numbers_turned, false_true}

-- a mark by name
abbrev pub mark_name : Way → Option ℕ → Option Name
mark_name way None = None
mark_name way (Some s) = Some (scope_on way s)

pub first_name : (way : Way) (items : List (Item ℕ)) → first_mark (map (renamed_item (scope_on way) (scope_on way)) items)
    ≡ mark_name way (first_mark items)
first_name way [] = refl
first_name way (CatchMark s ∷ items) = refl
first_name way (GoalItem t s ∷ items) = first_name way items
first_name way (CollectMark t s ∷ items) = first_name way items
first_name way (RemovalItem n ∷ items) = first_name way items

-- the step to a recovery
abbrev pub second_step : Level → Step
second_step v = record { node = v.number; index = 1; kind = v.kind }

abbrev pub catch_element : Level → List Level → Term → Term → Continuation ℕ → Element
catch_element v up x r f = Catch (0 ∷ v.number ∷ []) (1 ∷ v.number ∷ []) x r (0 ∷ 1 ∷ v.number ∷ [])
    (named_continuation (second_step v ∷ way_of up) f)

-- the recovery by the names of the list
abbrev pub named_recovery : Term → Level → List Level → Term → Continuation ℕ → Substitution → Element
named_recovery ball v up r f o =
    Plain (0 ∷ 1 ∷ v.number ∷ []) (resolve_continuation o
    (with_next (f.next + copy_takes ball)
    (before (GoalItem (call_of r) (1 ∷ v.number ∷ []) ∷ []) (named_continuation (second_step v ∷ way_of up) f))))

module _ (clauses : List Clause) where
  abbrev m : Machine Shared Element Sought Record
  m = scoped clauses

  -- records change nothing that is looked for
  look_findall : (q : Sought) (s u : Name) (rs : List Term) (l : Term) (p : Name) (f : Continuation Name)
      → look q (Findall s u rs l p f) ≡ On q
  look_findall (Scope h x) s u rs l p f = refl
  look_findall (Thrown b None o) s u rs l p f = refl
  look_findall (Thrown b (Some h) o) s u rs l p f = refl
  look_findall (Caught b h o) s u rs l p f = refl

  look_give : (q : Sought) (r : Record) (x : Element) → look q (give r x) ≡ look q x
  look_give q r (Credit k rs) = refl
  look_give q r (Plain p f) = refl
  look_give q r (EndOf s) = refl
  look_give q r (Catch s u c t p f) = refl
  look_give q r (End p b) = refl
  look_give q r (Findall s u rs l p f) = go (same r.0 s) ∙ sym (look_findall q s u rs l p f)
    where
      go : (t : Bool) → look q (cond t (findall_with_result r.1 s u rs l p f) (Findall s u rs l p f)) ≡ On q
      go true = look_findall q s u _ l p _
      go false = look_findall q s u rs l p f

  pub look_gives : (q : Sought) (rs : List Record) (x : Element) → look q (gives m rs x) ≡ look q x
  look_gives q [] x = refl
  look_gives q (r ∷ rs) x = look_gives q rs (give r x) ∙ look_give q r x

  abbrev sought : Sought → List Record → List Element → Option (List Element)
  sought q rs xs = search_in m q (map (gives m rs) xs)

  pub next_in : (q : Sought) (rs : List Record) (x : Element) (xs : List Element) → search_in m q (map (gives m rs) (x ∷ xs))
      ≡ found_in m (look q x) (λ p. search_in m p (map (gives m rs) xs)) (map (gives m rs) xs)
  next_in q rs x xs = ap (λ l. found_in m l (λ p. search_in m p (map (gives m rs) xs)) (map (gives m rs) xs)) (look_gives q rs x)

  -- a ball passes what is not the end that it looks for
  first_false : (a b : Bool) → (a || b) ≡ false → (a ≡ false) × (b ≡ false)
  first_false false b e = (refl, e)
  first_false true b e = false_true (sym e)

  pub thrown_pass : (b : Term) (h o : Name) (rs : List Record) (xs ys : List Element) → ends_in h xs ≡ false
      → search_in m (Thrown b (Some h) o) (map (gives m rs) (xs ++ ys)) ≡ search_in m (Thrown b (Some h) o) (map (gives m rs) ys)
  thrown_pass b h o rs [] ys e = refl
  thrown_pass b h o rs (EndOf s ∷ xs) ys e =
      let k = first_false (same h s) (ends_in h xs) e in
      next_in (Thrown b (Some h) o) rs (EndOf s) (xs ++ ys)
      ∙ (ap (λ t. found_in m (cond t (On (Caught b h o)) (On (Thrown b (Some h) o))) (λ p. search_in m p (map (gives m rs) (xs ++ ys)))
      (map (gives m rs) (xs ++ ys))) k.0 ∙ thrown_pass b h o rs xs ys k.1)
  thrown_pass b h o rs (Credit k qs ∷ xs) ys e = next_in (Thrown b (Some h) o) rs (Credit k qs) (xs ++ ys) ∙ thrown_pass b h o rs xs ys e
  thrown_pass b h o rs (Plain p f ∷ xs) ys e = next_in (Thrown b (Some h) o) rs (Plain p f) (xs ++ ys) ∙ thrown_pass b h o rs xs ys e
  thrown_pass b h o rs (Catch s u c r p f ∷ xs) ys e = next_in (Thrown b (Some h) o) rs (Catch s u c r p f) (xs ++ ys)
      ∙ thrown_pass b h o rs xs ys e
  thrown_pass b h o rs (Findall s u res l p f ∷ xs) ys e = next_in (Thrown b (Some h) o) rs (Findall s u res l p f) (xs ++ ys)
      ∙ thrown_pass b h o rs xs ys e
  thrown_pass b h o rs (End p a ∷ xs) ys e = next_in (Thrown b (Some h) o) rs (End p a) (xs ++ ys) ∙ thrown_pass b h o rs xs ys e

  -- a cut passes it too
  pub scope_pass : (h : Name) (x : Element) (rs : List Record) (xs ys : List Element) → ends_in h xs ≡ false
      → search_in m (Scope h x) (map (gives m rs) (xs ++ ys)) ≡ search_in m (Scope h x) (map (gives m rs) ys)
  scope_pass h x rs [] ys e = refl
  scope_pass h x rs (EndOf s ∷ xs) ys e =
      let k = first_false (same h s) (ends_in h xs) e in
      next_in (Scope h x) rs (EndOf s) (xs ++ ys)
      ∙ (ap (λ t. found_in m (cond t (Here (x ∷ EndOf s ∷ [])) (On (Scope h x))) (λ p. search_in m p (map (gives m rs) (xs ++ ys)))
      (map (gives m rs) (xs ++ ys))) k.0 ∙ scope_pass h x rs xs ys k.1)
  scope_pass h x rs (Credit k qs ∷ xs) ys e = next_in (Scope h x) rs (Credit k qs) (xs ++ ys) ∙ scope_pass h x rs xs ys e
  scope_pass h x rs (Plain p f ∷ xs) ys e = next_in (Scope h x) rs (Plain p f) (xs ++ ys) ∙ scope_pass h x rs xs ys e
  scope_pass h x rs (Catch s u c r p f ∷ xs) ys e = next_in (Scope h x) rs (Catch s u c r p f) (xs ++ ys) ∙ scope_pass h x rs xs ys e
  scope_pass h x rs (Findall s u res l p f ∷ xs) ys e = next_in (Scope h x) rs (Findall s u res l p f) (xs ++ ys)
      ∙ scope_pass h x rs xs ys e
  scope_pass h x rs (End p a ∷ xs) ys e = next_in (Scope h x) rs (End p a) (xs ++ ys) ∙ scope_pass h x rs xs ys e

  pub scope_here : (h : Name) (x : Element) (rs : List Record) (ys : List Element)
      → search_in m (Scope h x) (map (gives m rs) (EndOf h ∷ ys)) ≡ Some (x ∷ EndOf h ∷ map (gives m rs) ys)
  scope_here h x rs ys =
      next_in (Scope h x) rs (EndOf h) ys
      ∙ ap (λ t. found_in m (cond t (Here (x ∷ EndOf h ∷ [])) (On (Scope h x))) (λ p. search_in m p (map (gives m rs) ys))
      (map (gives m rs) ys)) (same-itself h)

  -- at the end of a goal side, and at its catch
  pub to_catch : (b x r : Term) (o : Name) (rs : List Record) (v : Level) (up : List Level) (f : Continuation ℕ) (zs : List Element)
      → search_in m (Thrown b (Some (0 ∷ v.number ∷ [])) o) (map (gives m rs) (EndOf (0 ∷ v.number ∷ []) ∷ (catch_element v up x r f ∷ zs)))
      ≡ found_in m (recovery_look (unifier ((x, copied b f.next) ∷ [])) b r (1 ∷ v.number ∷ []) (0 ∷ 1 ∷ v.number ∷ [])
      (named_continuation (second_step v ∷ way_of up) f)
      (Thrown b (mark_name (second_step v ∷ way_of up) (first_mark f.items)) o)) (λ p. search_in m p (map (gives m rs) zs))
      (map (gives m rs) zs)
  to_catch b x r o rs v up f zs =
      let h = 0 ∷ v.number ∷ [] in
      let c = catch_element v up x r f in
      let g = named_continuation (second_step v ∷ way_of up) f in
      let take = unifier ((x, copied b f.next) ∷ []) in
      next_in (Thrown b (Some h) o) rs (EndOf h) (c ∷ zs)
      ∙ (ap (λ t. found_in m (cond t (On (Caught b h o)) (On (Thrown b (Some h) o))) (λ p. search_in m p (map (gives m rs) (c ∷ zs)))
      (map (gives m rs) (c ∷ zs))) (same-itself h)
      ∙ (next_in (Caught b h o) rs c zs
      ∙ (ap (λ t. found_in m (cond t (recovery_look take b r (1 ∷ v.number ∷ []) (0 ∷ 1 ∷ v.number ∷ []) g
      (Thrown b (first_mark g.items) o)) (On (Caught b h o))) (λ p. search_in m p (map (gives m rs) zs)) (map (gives m rs) zs))
      (same-itself h)
      ∙ ap (λ k. found_in m (recovery_look take b r (1 ∷ v.number ∷ []) (0 ∷ 1 ∷ v.number ∷ []) g (Thrown b k o))
      (λ p. search_in m p (map (gives m rs) zs)) (map (gives m rs) zs)) (first_name (second_step v ∷ way_of up) f.items))))

  -- the end of a recovery's alternative
  pub end_pass : (b : Term) (k : Option Name) (o : Name) (rs : List Record) (n : ℕ) (ys : List Element)
      → ((h : Name) → k ≡ Some h → same h (1 ∷ n ∷ []) ≡ false)
      → search_in m (Thrown b k o) (map (gives m rs) (EndOf (1 ∷ n ∷ []) ∷ ys)) ≡ search_in m (Thrown b k o) (map (gives m rs) ys)
  end_pass b None o rs n ys f = next_in (Thrown b None o) rs (EndOf (1 ∷ n ∷ [])) ys
  end_pass b (Some h) o rs n ys f =
      next_in (Thrown b (Some h) o) rs (EndOf (1 ∷ n ∷ [])) ys
      ∙ ap (λ t. found_in m (cond t (On (Caught b h o)) (On (Thrown b (Some h) o))) (λ p. search_in m p (map (gives m rs) ys))
      (map (gives m rs) ys)) (f h refl)

  -- a scope of what is above is told from a node's
  above_apart : (v : Level) (up : List Level) (s i : ℕ) → is_on (way_of up) v.number ≡ false → is_on (way_of up) s ≡ true
      → same (scope_on (way_of up) s) (i ∷ v.number ∷ []) ≡ false
  above_apart v up s i new on =
      let z = scope_at s (way_of up) on in
      ap (λ x. same x (i ∷ v.number ∷ [])) z.1
      ∙ other_node z.0 s i v.number (numbers_turned v.number s (other_number (way_of up) v.number s new on (v.number == s) refl))

  pub right_passes : (v : Level) (up : List Level) (s : ℕ) → IsDistinct (v ∷ up) → is_on (way_of up) v.number ≡ false → is_on (way_of up) s
      ≡ true → ends_in (scope_on (way_of up) s) (list_right (way_of up) v) ≡ false
  right_passes v up s d new on =
      let z = scope_at s (way_of up) on in
      let off = other_number (way_of up) v.number s new on (v.number == s) refl in
      let many : count_around s up + (one_if (v.number == s) + (count_left s v.left + count_among s v.right)) ≤ 1 = d s in
      let some = on-counts s up on in
      let none_right : count_among s v.right ≡ 0 = omega (arith, many, some) in
      ap (λ x. ends_in x (list_right (way_of up) v)) z.1
      ∙ either (same (z.0 ∷ s ∷ []) (length v.left ∷ v.number ∷ [])) _
      (other_node z.0 s (length v.left) v.number (numbers_turned v.number s off))
      (no_end_among z.0 s (way_of up) v.number v.kind (suc (length v.left)) v.right (numbers_turned v.number s off) none_right)
    where
      either : (a b : Bool) → a ≡ false → b ≡ false → (a || b) ≡ false
      either false b e f = f
      either true b e f = e

  -- a mark of what is above
  pub mark_up : (v : Level) (up : List Level) (k : Option ℕ) → is_on (way_of up) v.number ≡ false → MarkIsDormant up k
      → mark_name (second_step v ∷ way_of up) k ≡ mark_name (way_of up) k
  mark_up v up None new h = refl
  mark_up v up (Some s) new h = ap (λ (n : Name). Some n)
      (cond-false (v.number == s) _ (scope_on (way_of up) s)
      (other_number (way_of up) v.number s new (dormant_way up s h) (v.number == s) refl))

  pub mark_apart : (v : Level) (up : List Level) (k : Option ℕ) → is_on (way_of up) v.number ≡ false → MarkIsDormant up k → (h : Name)
      → mark_name (way_of up) k ≡ Some h → same h (1 ∷ v.number ∷ []) ≡ false
  mark_apart v up None new m h e = let no_way : ⊥ = cc in absurd no_way
  mark_apart v up (Some s) new m h e = ap (λ x. same x (1 ∷ v.number ∷ [])) (sym (some_same e))
      ∙ above_apart v up s 1 new (dormant_way up s m)
    where
      some_same : {a b : Name} → Some a ≡ Some b → a ≡ b
      some_same z = cc

  -- the segment up to the catch, and what is after it
  abbrev pub to_side : Level → List Level → Term → Term → Continuation ℕ → List Element → List Element
  to_side w up x r f zs = EndOf (0 ∷ w.number ∷ []) ∷ (catch_element w up x r f ∷ zs)

  abbrev pub Finds : Term → Name → List Record → List Level → Option ℕ → Type 0
  Finds ball o rs levels mark =
      (w : Level) (up : List Level) (r : Term) (f : Continuation ℕ) (u : Substitution) → catching ball levels mark ≡ CaughtBy w up r f u
      → (x : Term) → unifier ((x, copied ball f.next) ∷ []) ≡ Some u → (zs : List Element)
      → search_in m (Thrown ball (mark_name (way_of levels) mark) o)
      (map (gives m rs) (lower_back w.number levels ++ to_side w up x r f zs))
      ≡ Some (named_recovery ball w up r f u ∷ map (gives m rs) zs)

  -- a level that the ball passes
  pub passes_level : (ball : Term) (o : Name) (rs : List Record) (v : Level) (rest : List Level) (s : ℕ) → IsDistinct (v ∷ rest)
      → is_on (way_of rest) v.number ≡ false → is_on (way_of rest) s ≡ true → (v.number == s) ≡ false → (w : Level)
      → (v.number == w.number) ≡ false → (zs : List Element)
      → search_in m (Thrown ball (mark_name (way_of (v ∷ rest)) (Some s)) o) (map (gives m rs) (lower_back w.number (v ∷ rest) ++ zs))
      ≡ search_in m (Thrown ball (mark_name (way_of rest) (Some s)) o) (map (gives m rs) (lower_back w.number rest ++ zs))
  passes_level ball o rs v rest s d new on e w off zs =
      ap (λ n. search_in m (Thrown ball (Some n) o) (map (gives m rs) (lower_back w.number (v ∷ rest) ++ zs)))
      (cond-false (v.number == s) _ (scope_on (way_of rest) s) e)
      ∙ (ap (λ l. search_in m (Thrown ball (Some (scope_on (way_of rest) s)) o) (map (gives m rs) (l ++ zs)))
      (cond-false (v.number == w.number) [] (list_right (way_of rest) v ++ lower_back w.number rest) off)
      ∙ (ap (λ l. search_in m (Thrown ball (Some (scope_on (way_of rest) s)) o) (map (gives m rs) l))
      (append-assoc (list_right (way_of rest) v) (lower_back w.number rest) zs)
      ∙ thrown_pass ball (scope_on (way_of rest) s) o rs (list_right (way_of rest) v) (lower_back w.number rest ++ zs)
      (right_passes v rest s d new on)))

  pub off_catcher : (ball : Term) (v : Level) (rest : List Level) (status : Status) (k : Option ℕ) → IsAround (v ∷ rest) IsOpen
      → RootCaught (plug (v ∷ rest) status) → MarkIsDormant rest k → (w : Level) (up : List Level) (r : Term) (f : Continuation ℕ)
      (u : Substitution) → catching ball rest k ≡ CaughtBy w up r f u → (v.number == w.number) ≡ false
  off_catcher ball v rest status k a h m w up r f u e =
      let c = subst (IsTaken ball rest) e (catching_taken ball rest (Inner (level_node v status)) k a.1 h m) in
      other_number (way_of rest) v.number w.number a.0.new c.on (v.number == w.number) refl
