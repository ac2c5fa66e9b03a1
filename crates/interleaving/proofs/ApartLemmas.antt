-- What names nothing inside goes on so, and passes what was made inside.
use Rattle.std.proofs.Common.{◌≡◌, ℕ, zero, suc, ◌+◌, Bool, true, false, ◌&&◌, cond, List, [], ◌∷◌, ◌++◌, map, Option, Some, None, ◌==◌}
use Rattle.std.proofs.Common.{refl, sym, ap, ◌∙◌}
use Rattle.std.proofs.lemmas.Bool.{eqb-true, false≢true}
use Rattle.au_term.specs.Term.{Term}
use Rattle.au_model.specs.Terms.Each.{Each}
use Rattle.au_model.specs.Terms.Substitutions.{Substitution}
use Rattle.au_model.specs.Terms.Unifier.{unifier}
use Rattle.au_model.specs.Terms.Copies.{copied}
use Rattle.run_model.specs.Programs.Clauses.{Clause}
use Rattle.run_model.specs.Programs.Databases.{Database, without_clause}
use Rattle.run_model.specs.Goals.Worlds.{world_step}
use Rattle.run_model.specs.Goals.GoalOutcomes.{outcome_of}
use Rattle.run_model.specs.Goals.Outcomes.{Solution, Reply, Solutions, Ball, HaltNumber, ControlForm, GoesOnWith, EitherOf, TestOf}
use Rattle.run_model.specs.Goals.Outcomes.{CutToScope}
use Rattle.run_model.specs.Goals.Outcomes.{CatchOf, FindallOf, Outcome, Replies, Controls, AskWorld}
use Rattle.run_model.specs.Machine.Items.{Item, GoalItem, CatchMark, CollectMark, RemovalItem, Continuation, resolve_item, goals_at}
use Rattle.run_model.specs.Machine.Items.{with_items}
use Rattle.run_model.specs.Machine.Items.{with_next, before, removal_items, removing, without_marks, first_mark}
use Rattle.interleaving.specs.Machine.{Look, On, Here}
use Rattle.tree_model.specs.Elements.{Name, same, Record, Element, Credit, Plain, EndOf, Catch, Findall, End}
use Rattle.interleaving.specs.Scopes.{Shared, Sought, Scope, Thrown, Caught, Does, ElementReplacement, unified_element, solution_elements}
use Rattle.interleaving.specs.Scopes.{reply_place}
use Rattle.interleaving.specs.Scopes.{named_test_items, control_place, goal_act, removed, unmarked, item_act, act, recovery_look, look}
use Rattle.interleaving.specs.Scopes.{findall_with_result}
use Rattle.interleaving.specs.Scopes.{give, scoped}
use Rattle.interleaving.specs.Views.{IsApart, IsBeside, IsItemApart, IsRecordApart, IsBlind, IsInner}
use Rattle.interleaving.proofs.RunFrontLemmas.{each-append, PlaceOk, ActOk, LookOk, Closed, Unseen}
use Rattle.interleaving.proofs.AppendLemmas.{append-assoc}

both_true : (a b : Bool) → (a && b) ≡ true → a ≡ true × b ≡ true
both_true true b e = (refl, e)
both_true false b e = absurd (false≢true e)

pub same-true : (a b : Name) → same a b ≡ true → a ≡ b
same-true [] [] e = refl
same-true [] (b ∷ bs) e = absurd (false≢true e)
same-true (a ∷ names) [] e = absurd (false≢true e)
same-true (a ∷ names) (b ∷ bs) e =
    let h = both_true (a == b) (same names bs) e in
    let head = eqb-true a b h.0 in
    let tail = same-true names bs h.1 in
    cc

module _ (clauses : List Clause) (inside : Name → Bool) where
  abbrev S : Type 0
  S = List (Item Name)

  abbrev Apart : Name → Type 0
  Apart s = IsApart inside s

  abbrev Items : S → Type 0
  Items items = Each (IsItemApart inside) items

  abbrev Blind : Element → Type 0
  Blind x = IsBlind inside x

  abbrev pub IsMarkApart : Option Name → Type 0
  IsMarkApart None = Unit {0}
  IsMarkApart (Some s) = IsApart inside s

  abbrev pub IsSoughtApart : Sought → Type 0
  IsSoughtApart (Scope h x) = IsApart inside h × IsBlind inside x
  IsSoughtApart (Thrown b mark o) = IsMarkApart mark
  IsSoughtApart (Caught b h o) = IsApart inside h

  abbrev PlaceBlind : ElementReplacement → Type 0
  PlaceBlind p = PlaceOk (scoped clauses) (IsBlind inside) IsSoughtApart (IsRecordApart inside) p

  abbrev ActBlind : Does → Type 0
  ActBlind a = ActOk (scoped clauses) (IsBlind inside) IsSoughtApart (IsRecordApart inside) a

  abbrev LookBlind : Look Element Sought → Type 0
  LookBlind a = LookOk (scoped clauses) (IsBlind inside) IsSoughtApart (IsRecordApart inside) a

  beside_child : (s : Name) (i : ℕ) → IsBeside inside s → IsBeside inside (i ∷ s)
  beside_child s i h = λ more. ap inside (sym (append-assoc more (i ∷ []) s)) ∙ h (more ++ i ∷ [])

  mark-apart : (items : S) → Items items → IsMarkApart (first_mark items)
  mark-apart [] h = tt
  mark-apart (CatchMark s ∷ items) h = h.0
  mark-apart (GoalItem g k ∷ items) h = mark-apart items h.1
  mark-apart (CollectMark t s ∷ items) h = mark-apart items h.1
  mark-apart (RemovalItem n ∷ items) h = mark-apart items h.1

  goals-apart : (h : Name) (gs : List Term) (items : S) → Apart h → Items items → Items (goals_at h gs ++ items)
  goals-apart h [] items k i = i
  goals-apart h (g ∷ gs) items k i = (k, goals-apart h gs items k i)

  resolved-apart : (s : Substitution) (items : S) → Items items → Items (map (resolve_item s) items)
  resolved-apart s [] h = tt
  resolved-apart s (CatchMark k ∷ items) h = (h.0, resolved-apart s items h.1)
  resolved-apart s (GoalItem g k ∷ items) h = (h.0, resolved-apart s items h.1)
  resolved-apart s (CollectMark t k ∷ items) h = (h.0, resolved-apart s items h.1)
  resolved-apart s (RemovalItem n ∷ items) h = (tt, resolved-apart s items h.1)

  unified-blind : (o : Option Substitution) (p : Name) (f : Continuation Name) → IsBeside inside p → Items f.items
      → Each Blind (unified_element o p f)
  unified-blind None p f b i = tt
  unified-blind (Some s) p f b i = ((b, resolved-apart s f.items i), tt)

  removal-apart : (number : Option ℕ) (items : List (Item Name)) → Items items → Items (removal_items number ++ items)
  removal-apart None items i = i
  removal-apart (Some k) items i = (tt, i)

  solutions-blind : (n : ℕ) (p : Name) (f : Continuation Name) (ss : List Solution) → IsBeside inside p → Items f.items
      → Each Blind (solution_elements n p f ss)
  solutions-blind n p f [] b i = (tt, tt)
  solutions-blind n p f (s ∷ ss) b i =
      let one : Continuation Name = with_next (f.next + s.variables) (before (goals_at p s.goals) (removing s.removes f)) in
      each-append Blind (unified_element (unifier s.equations) (n ∷ p) one) (solution_elements (suc n) p f ss)
      (unified-blind (unifier s.equations) (n ∷ p) one (beside_child p n b) (goals-apart p s.goals (removing s.removes f).items (b []) (removal-apart s.removes f.items i)))
      (solutions-blind (suc n) p f ss b i)

  reply-blind : (r : Reply) (p : Name) (f : Continuation Name) → IsBeside inside p → Items f.items → PlaceBlind (reply_place r p f)
  reply-blind (Solutions ss) p f b i = solutions-blind zero p f ss b i
  reply-blind (Ball t) p f b i = mark-apart f.items i
  reply-blind (HaltNumber k) p f b i = tt

  control-blind : (o : ControlForm) (p h : Name) (f : Continuation Name) → IsBeside inside p → Apart h → Items f.items
      → PlaceBlind (control_place o p h f)
  control-blind (GoesOnWith gs) p h f b k i = ((beside_child p 0 b, goals-apart p gs f.items (b []) i), (tt, tt))
  control-blind (EitherOf gs others) p h f b k i =
      ((beside_child p 0 b, goals-apart h gs f.items k i), ((beside_child p 1 b, goals-apart h others f.items k i), tt))
  control-blind (TestOf gs thens others) p h f b k i =
      ((beside_child p 0 b, test-apart gs), (tt, ((beside_child p 1 b, goals-apart h others f.items k i), (tt, tt))))
    where
      test-apart : (gs : List Term) → Items (named_test_items (2 ∷ p) p h gs thens ++ f.items)
      test-apart [] = (b [], goals-apart h thens f.items k i)
      test-apart (g ∷ gs) = (beside_child p 2 b [], test-apart gs)
  control-blind CutToScope p h f b k i = (k, (b, i))
  control-blind (CatchOf g c r) p h f b k i = (
    (beside_child p 0 b, (beside_child p 2 b [], (beside_child p 2 b [], i))),
    (tt, ((beside_child p 2 b [], b [], beside_child p 1 b, i), (tt, tt))),
  )
  control-blind (FindallOf t g l) p h f b k i = (
    (beside_child p 0 b, (beside_child p 2 b [], (beside_child p 2 b [], i))),
    (tt, ((beside_child p 2 b [], b [], beside_child p 1 b, i), (tt, tt))),
  )

  goal-blind : (o : Outcome) (p h : Name) (f : Continuation Name) → IsBeside inside p → Apart h → Items f.items
      → ActBlind (goal_act clauses o p h f)
  goal-blind (Replies (Solutions ss)) p h f b k i = reply-blind (Solutions ss) p f b i
  goal-blind (Replies (Ball t)) p h f b k i = reply-blind (Ball t) p f b i
  goal-blind (Replies (HaltNumber n)) p h f b k i = λ w. tt
  goal-blind (Controls form) p h f b k i = control-blind form p h f b k i
  goal-blind (AskWorld g) p h f b k i = λ w. reply-blind (world_step clauses g f.next w.world).1 p f b i

  removed-blind : (o : Option Database) (p : Name) (f : Continuation Name) (w : Shared) → IsBeside inside p → Items f.items
      → PlaceBlind (removed o p f w).1
  removed-blind None p f w b i = tt
  removed-blind (Some db) p f w b i = ((b, i), tt)

  unmarked-blind : (items : S) (p : Name) (f : Continuation Name) → IsBeside inside p → Items items → ActBlind (unmarked items p f)
  unmarked-blind [] p f b i = (b, i)
  unmarked-blind (CollectMark t s ∷ items) p f b i = (i.0, tt)
  unmarked-blind (GoalItem t s ∷ items) p f b i = (b, i)
  unmarked-blind (CatchMark s ∷ items) p f b i = (b, i)
  unmarked-blind (RemovalItem s ∷ items) p f b i = (b, i)

  marks-apart : (items : S) → Items items → Items (without_marks items)
  marks-apart [] h = tt
  marks-apart (CatchMark s ∷ items) h = marks-apart items h.1
  marks-apart (GoalItem g k ∷ items) h = h
  marks-apart (CollectMark t s ∷ items) h = h
  marks-apart (RemovalItem n ∷ items) h = h

  items-blind : (items : S) (p : Name) (f : Continuation Name) → IsBeside inside p → Items items → ActBlind (item_act clauses items p f)
  items-blind [] p f b i = λ w. tt
  items-blind (GoalItem g h ∷ items) p f b i = goal-blind (outcome_of clauses g f.next) p h (with_items items f) b i.0 i.1
  items-blind (RemovalItem n ∷ items) p f b i = λ w. removed-blind (without_clause n w.world.database) p (with_items items f) w b i.1
  items-blind (CatchMark s ∷ items) p f b i = unmarked-blind (without_marks items) p f b (marks-apart items i.1)
  items-blind (CollectMark t s ∷ items) p f b i = (i.0, tt)

  act-blind : (x : Element) → Blind x → ActBlind (act clauses x)
  act-blind (Credit zero rs) h = h
  act-blind (Credit (suc k) rs) h = (h, tt)
  act-blind (Plain p f) h = items-blind f.items p f h.0 h.1
  act-blind (EndOf s) h = tt
  act-blind (Catch s u c r p f) h = tt
  act-blind (Findall s u results list p f) h = (h.2, (h.1, h.3))
  act-blind (End p b) h = λ w. tt

  either_look : (t : Bool) (a b : Look Element Sought) → LookBlind a → LookBlind b → LookBlind (cond t a b)
  either_look true a b h k = h
  either_look false a b h k = k

  recovered-blind : (o : Option Substitution) (b r : Term) (u p : Name) (f : Continuation Name) (q : Sought) → Apart u
      → IsBeside inside p → Items f.items → IsSoughtApart q → LookBlind (recovery_look o b r u p f q)
  recovered-blind None b r u p f q a h i k = k
  recovered-blind (Some s) b r u p f q a h i k = ((h, (a, resolved-apart s f.items i)), tt)

  look-blind : (q : Sought) (x : Element) → IsSoughtApart q → Blind x → LookBlind (look q x)
  look-blind (Scope h y) (EndOf s) k b = either_look (same h s) (Here (y ∷ EndOf s ∷ [])) (On (Scope h y)) (k.1, (tt, tt)) k
  look-blind (Scope h y) (Credit j rs) k b = k
  look-blind (Scope h y) (Plain p f) k b = k
  look-blind (Scope h y) (Catch s u c r p f) k b = k
  look-blind (Scope h y) (Findall s u results list p f) k b = k
  look-blind (Scope h y) (End p o) k b = k
  look-blind (Thrown b None o) (EndOf s) k h = k
  look-blind (Thrown b None o) (Credit j rs) k h = k
  look-blind (Thrown b None o) (Plain p f) k h = k
  look-blind (Thrown b None o) (Catch s u c r p f) k h = k
  look-blind (Thrown b None o) (Findall s u results list p f) k h = k
  look-blind (Thrown b None o) (End p e) k h = k
  look-blind (Thrown b (Some m) o) (EndOf s) k h = either_look (same m s) (On (Caught b m o)) (On (Thrown b (Some m) o)) k k
  look-blind (Thrown b (Some m) o) (Credit j rs) k h = k
  look-blind (Thrown b (Some m) o) (Plain p f) k h = k
  look-blind (Thrown b (Some m) o) (Catch s u c r p f) k h = k
  look-blind (Thrown b (Some m) o) (Findall s u results list p f) k h = k
  look-blind (Thrown b (Some m) o) (End p e) k h = k
  look-blind (Caught b m o) (Catch s u c r p f) k h =
      let next : Sought = Thrown b (first_mark f.items) o in
      let take : Option Substitution = unifier ((c, copied b f.next) ∷ []) in
      either_look (same m s) (recovery_look take b r u p f next) (On (Caught b m o))
      (recovered-blind take b r u p f next h.1 h.2 h.3 (mark-apart f.items h.3)) k
  look-blind (Caught b m o) (EndOf s) k h = k
  look-blind (Caught b m o) (Credit j rs) k h = k
  look-blind (Caught b m o) (Plain p f) k h = k
  look-blind (Caught b m o) (Findall s u results list p f) k h = k
  look-blind (Caught b m o) (End p e) k h = k

  either_blind : (t : Bool) (x y : Element) → Blind x → Blind y → Blind (cond t x y)
  either_blind true x y h k = h
  either_blind false x y h k = k

  give-blind : (r : Record) (x : Element) → IsRecordApart inside r → Blind x → Blind (give r x)
  give-blind r (Findall s u results list p f) k b = either_blind (same r.0 s) (findall_with_result r.1 s u results list p f)
      (Findall s u results list p f) b b
  give-blind r (Credit j rs) k b = b
  give-blind r (Plain p f) k b = b
  give-blind r (EndOf s) k b = b
  give-blind r (Catch s u c q p f) k b = b
  give-blind r (End p o) k b = b

  -- what names nothing inside goes on so
  pub blind_closed : Closed (scoped clauses) (IsBlind inside) IsSoughtApart (IsRecordApart inside)
  blind_closed = record { acts = act-blind; looks = look-blind; given = give-blind }

  not_same : (h s : Name) → Apart h → inside s ≡ true → same h s ≡ false
  not_same h s a e = go (same h s) refl
    where
      go : (b : Bool) → same h s ≡ b → b ≡ false
      go true f = absurd (false≢true (sym a ∙ ap inside (same-true h s f) ∙ e))
      go false f = refl

  passes : (q : Sought) (x : Element) → IsInner inside x → IsSoughtApart q → look q x ≡ On q
  passes (Scope h y) (EndOf s) i k = ap (λ t. cond t (Here (y ∷ EndOf s ∷ [])) (On (Scope h y))) (not_same h s k.0 i)
  passes (Scope h y) (Credit j rs) i k = refl
  passes (Scope h y) (Plain p f) i k = refl
  passes (Scope h y) (Catch s u c r p f) i k = refl
  passes (Scope h y) (Findall s u results list p f) i k = refl
  passes (Scope h y) (End p o) i k = refl
  passes (Thrown b None o) (EndOf s) i k = refl
  passes (Thrown b None o) (Credit j rs) i k = refl
  passes (Thrown b None o) (Plain p f) i k = refl
  passes (Thrown b None o) (Catch s u c r p f) i k = refl
  passes (Thrown b None o) (Findall s u results list p f) i k = refl
  passes (Thrown b None o) (End p e) i k = refl
  passes (Thrown b (Some m) o) (EndOf s) i k = ap (λ t. cond t (On (Caught b m o)) (On (Thrown b (Some m) o))) (not_same m s k i)
  passes (Thrown b (Some m) o) (Credit j rs) i k = refl
  passes (Thrown b (Some m) o) (Plain p f) i k = refl
  passes (Thrown b (Some m) o) (Catch s u c r p f) i k = refl
  passes (Thrown b (Some m) o) (Findall s u results list p f) i k = refl
  passes (Thrown b (Some m) o) (End p e) i k = refl
  passes (Caught b m o) (Catch s u c r p f) i k =
      ap (λ t. cond t (recovery_look (unifier ((c, copied b f.next) ∷ [])) b r u p f (Thrown b (first_mark f.items) o)) (On (Caught b m o)))
      (not_same m s k i.0)
  passes (Caught b m o) (EndOf s) i k = refl
  passes (Caught b m o) (Credit j rs) i k = refl
  passes (Caught b m o) (Plain p f) i k = refl
  passes (Caught b m o) (Findall s u results list p f) i k = refl
  passes (Caught b m o) (End p e) i k = refl

  pub inner-preserves : (r : Record) (x : Element) → IsInner inside x → IsRecordApart inside r → give r x ≡ x
  inner-preserves r (Findall s u results list p f) i k = ap
      (λ t. cond t (findall_with_result r.1 s u results list p f) (Findall s u results list p f)) (not_same r.0 s k i.0)
  inner-preserves r (Credit j rs) i k = refl
  inner-preserves r (Plain p f) i k = refl
  inner-preserves r (EndOf s) i k = refl
  inner-preserves r (Catch s u c q p f) i k = refl
  inner-preserves r (End p o) i k = refl

  pub inner_unseen : (xs : List Element) → Each (IsInner inside) xs
      → Each (Unseen (scoped clauses) (IsBlind inside) IsSoughtApart (IsRecordApart inside)) xs
  inner_unseen [] h = tt
  inner_unseen (x ∷ xs) h = (record { passed = λ q k. passes q x h.0 k; kept = λ r k. inner-preserves r x h.0 k }, inner_unseen xs h.1)
