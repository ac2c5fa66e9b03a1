-- What is made inside makes more inside, and what is under it sees none of its records.
use Rattle.std.proofs.Common.{◌≡◌, ℕ, zero, suc, ◌+◌, Bool, true, false, cond, List, [], ◌∷◌, Option, Some, None, refl, sym, ap, ◌∙◌}
use Rattle.std.proofs.lemmas.Bool.{false≢true}
use Rattle.au_term.specs.Term.{Term}
use Rattle.au_model.specs.Terms.Each.{Each}
use Rattle.au_model.specs.Terms.Substitutions.{Substitution}
use Rattle.au_model.specs.Terms.Unifier.{unifier}
use Rattle.au_model.specs.Terms.Copies.{copied}
use Rattle.run_model.specs.Programs.Clauses.{Clause}
use Rattle.run_model.specs.Programs.Databases.{Database, without_clause}
use Rattle.run_model.specs.Goals.Worlds.{world_step}
use Rattle.run_model.specs.Goals.GoalOutcomes.{outcome_of}
use Rattle.run_model.specs.Goals.Outcomes.{Solution, Reply, Solutions, Ball, HaltNumber, ControlForm, GoesOnWith, EitherOf, TestOf}
use Rattle.run_model.specs.Goals.Outcomes.{CutToScope}
use Rattle.run_model.specs.Goals.Outcomes.{CatchOf, FindallOf, Outcome, Replies, Controls, AskWorld}
use Rattle.run_model.specs.Machine.Items.{Item, GoalItem, CatchMark, CollectMark, RemovalItem, Continuation, goals_at, with_items}
use Rattle.run_model.specs.Machine.Items.{with_next}
use Rattle.run_model.specs.Machine.Items.{before, removing, without_marks, first_mark}
use Rattle.interleaving.specs.Machine.{Look, On, Here}
use Rattle.tree_model.specs.Elements.{Name, same, Record, Element, Credit, Plain, EndOf, Catch, Findall, End}
use Rattle.interleaving.specs.Scopes.{Shared, Sought, Scope, Thrown, Caught, Does, ElementReplacement, unified_element, solution_elements}
use Rattle.interleaving.specs.Scopes.{reply_place}
use Rattle.interleaving.specs.Scopes.{control_place, goal_act, removed, unmarked, item_act, act, recovery_look, look, findall_with_result}
use Rattle.interleaving.specs.Scopes.{give}
use Rattle.interleaving.specs.Scopes.{scoped}
use Rattle.interleaving.specs.Views.{IsInner, IsUnder, IsGrown}
use Rattle.interleaving.proofs.RunFrontLemmas.{each-append, PlaceOk, ActOk, LookOk, Closed}
use Rattle.interleaving.proofs.EarlyLemmas.{Ground}
use Rattle.interleaving.proofs.ApartLemmas.{same-true}

module _ (clauses : List Clause) (inside : Name → Bool) where
  abbrev pub IsSoughtInner : Sought → Type 0
  IsSoughtInner (Scope h x) = IsInner inside x
  IsSoughtInner (Thrown b mark o) = Unit {0}
  IsSoughtInner (Caught b h o) = Unit {0}

  abbrev pub IsAnyRecord : Record → Type 0
  IsAnyRecord r = Unit {0}

  any-records : (rs : List Record) → Each IsAnyRecord rs
  any-records [] = tt
  any-records (r ∷ rs) = (tt, any-records rs)

  abbrev Inner : Element → Type 0
  Inner x = IsInner inside x

  abbrev PlaceInner : ElementReplacement → Type 0
  PlaceInner p = PlaceOk (scoped clauses) (IsInner inside) IsSoughtInner IsAnyRecord p

  abbrev ActInner : Does → Type 0
  ActInner a = ActOk (scoped clauses) (IsInner inside) IsSoughtInner IsAnyRecord a

  abbrev LookInner : Look Element Sought → Type 0
  LookInner a = LookOk (scoped clauses) (IsInner inside) IsSoughtInner IsAnyRecord a

  module _ (child : IsGrown inside) where
    unified-inner : (o : Option Substitution) (p : Name) (f : Continuation Name) → inside p ≡ true → Each Inner (unified_element o p f)
    unified-inner None p f b = tt
    unified-inner (Some s) p f b = (b, tt)

    solutions-inner : (n : ℕ) (p : Name) (f : Continuation Name) (ss : List Solution) → inside p ≡ true
        → Each Inner (solution_elements n p f ss)
    solutions-inner n p f [] b = (b, tt)
    solutions-inner n p f (s ∷ ss) b =
        let one : Continuation Name = with_next (f.next + s.variables) (before (goals_at p s.goals) (removing s.removes f)) in
        each-append Inner (unified_element (unifier s.equations) (n ∷ p) one) (solution_elements (suc n) p f ss)
        (unified-inner (unifier s.equations) (n ∷ p) one (child n p b)) (solutions-inner (suc n) p f ss b)

    reply-inner : (r : Reply) (p : Name) (f : Continuation Name) → inside p ≡ true → PlaceInner (reply_place r p f)
    reply-inner (Solutions ss) p f b = solutions-inner zero p f ss b
    reply-inner (Ball t) p f b = tt
    reply-inner (HaltNumber k) p f b = tt

    control-inner : (o : ControlForm) (p h : Name) (f : Continuation Name) → inside p ≡ true → PlaceInner (control_place o p h f)
    control-inner (GoesOnWith gs) p h f b = (child 0 p b, (b, tt))
    control-inner (EitherOf gs others) p h f b = (child 0 p b, (child 1 p b, tt))
    control-inner (TestOf gs thens others) p h f b = (child 0 p b, (child 2 p b, (child 1 p b, (b, tt))))
    control-inner CutToScope p h f b = b
    control-inner (CatchOf g c r) p h f b = (child 0 p b, (child 2 p b, ((child 2 p b, child 1 p b), (b, tt))))
    control-inner (FindallOf t g l) p h f b = (child 0 p b, (child 2 p b, ((child 2 p b, child 1 p b), (b, tt))))

    goal-inner : (o : Outcome) (p h : Name) (f : Continuation Name) → inside p ≡ true → ActInner (goal_act clauses o p h f)
    goal-inner (Replies (Solutions ss)) p h f b = reply-inner (Solutions ss) p f b
    goal-inner (Replies (Ball t)) p h f b = tt
    goal-inner (Replies (HaltNumber n)) p h f b = λ w. tt
    goal-inner (Controls form) p h f b = control-inner form p h f b
    goal-inner (AskWorld g) p h f b = λ w. reply-inner (world_step clauses g f.next w.world).1 p f b

    removed-inner : (o : Option Database) (p : Name) (f : Continuation Name) (w : Shared) → inside p ≡ true → PlaceInner (removed o p f w).1
    removed-inner None p f w b = tt
    removed-inner (Some db) p f w b = (b, tt)

    unmarked-inner : (items : List (Item Name)) (p : Name) (f : Continuation Name) → inside p ≡ true → ActInner (unmarked items p f)
    unmarked-inner [] p f b = b
    unmarked-inner (CollectMark t s ∷ items) p f b = (tt, tt)
    unmarked-inner (GoalItem t s ∷ items) p f b = b
    unmarked-inner (CatchMark s ∷ items) p f b = b
    unmarked-inner (RemovalItem s ∷ items) p f b = b

    items-inner : (items : List (Item Name)) (p : Name) (f : Continuation Name) → inside p ≡ true → ActInner (item_act clauses items p f)
    items-inner [] p f b = λ w. tt
    items-inner (GoalItem g h ∷ items) p f b = goal-inner (outcome_of clauses g f.next) p h (with_items items f) b
    items-inner (RemovalItem n ∷ items) p f b = λ w. removed-inner (without_clause n w.world.database) p (with_items items f) w b
    items-inner (CatchMark s ∷ items) p f b = unmarked-inner (without_marks items) p f b
    items-inner (CollectMark t s ∷ items) p f b = (tt, tt)

    act-inner : (x : Element) → Inner x → ActInner (act clauses x)
    act-inner (Credit zero rs) h = any-records rs
    act-inner (Credit (suc k) rs) h = (tt, tt)
    act-inner (Plain p f) h = items-inner f.items p f h
    act-inner (EndOf s) h = tt
    act-inner (Catch s u c r p f) h = tt
    act-inner (Findall s u results list p f) h = h.1
    act-inner (End p b) h = λ w. tt

    inner_look : (t : Bool) (a b : Look Element Sought) → LookInner a → LookInner b → LookInner (cond t a b)
    inner_look true a b h k = h
    inner_look false a b h k = k

    recovered-inner : (o : Option Substitution) (b r : Term) (u p : Name) (f : Continuation Name) (q : Sought) → inside p ≡ true
        → IsSoughtInner q → LookInner (recovery_look o b r u p f q)
    recovered-inner None b r u p f q h k = k
    recovered-inner (Some s) b r u p f q h k = (h, tt)

    look-inner : (q : Sought) (x : Element) → IsSoughtInner q → Inner x → LookInner (look q x)
    look-inner (Scope h y) (EndOf s) k b = inner_look (same h s) (Here (y ∷ EndOf s ∷ [])) (On (Scope h y)) (k, (b, tt)) k
    look-inner (Scope h y) (Credit j rs) k b = k
    look-inner (Scope h y) (Plain p f) k b = k
    look-inner (Scope h y) (Catch s u c r p f) k b = k
    look-inner (Scope h y) (Findall s u results list p f) k b = k
    look-inner (Scope h y) (End p o) k b = k
    look-inner (Thrown b None o) (EndOf s) k h = k
    look-inner (Thrown b None o) (Credit j rs) k h = k
    look-inner (Thrown b None o) (Plain p f) k h = k
    look-inner (Thrown b None o) (Catch s u c r p f) k h = k
    look-inner (Thrown b None o) (Findall s u results list p f) k h = k
    look-inner (Thrown b None o) (End p e) k h = k
    look-inner (Thrown b (Some m) o) (EndOf s) k h = inner_look (same m s) (On (Caught b m o)) (On (Thrown b (Some m) o)) tt tt
    look-inner (Thrown b (Some m) o) (Credit j rs) k h = k
    look-inner (Thrown b (Some m) o) (Plain p f) k h = k
    look-inner (Thrown b (Some m) o) (Catch s u c r p f) k h = k
    look-inner (Thrown b (Some m) o) (Findall s u results list p f) k h = k
    look-inner (Thrown b (Some m) o) (End p e) k h = k
    look-inner (Caught b m o) (Catch s u c r p f) k h =
        let next : Sought = Thrown b (first_mark f.items) o in
        let take : Option Substitution = unifier ((c, copied b f.next) ∷ []) in
        inner_look (same m s) (recovery_look take b r u p f next) (On (Caught b m o)) (recovered-inner take b r u p f next h.1 tt) tt
    look-inner (Caught b m o) (EndOf s) k h = k
    look-inner (Caught b m o) (Credit j rs) k h = k
    look-inner (Caught b m o) (Plain p f) k h = k
    look-inner (Caught b m o) (Findall s u results list p f) k h = k
    look-inner (Caught b m o) (End p e) k h = k

    either_inner : (t : Bool) (x y : Element) → Inner x → Inner y → Inner (cond t x y)
    either_inner true x y h k = h
    either_inner false x y h k = k

    give-inner : (r : Record) (x : Element) → IsAnyRecord r → Inner x → Inner (give r x)
    give-inner r (Findall s u results list p f) k b = either_inner (same r.0 s) (findall_with_result r.1 s u results list p f)
        (Findall s u results list p f) b b
    give-inner r (Credit j rs) k b = b
    give-inner r (Plain p f) k b = b
    give-inner r (EndOf s) k b = b
    give-inner r (Catch s u c q p f) k b = b
    give-inner r (End p o) k b = b

    pub inner_closed : Closed (scoped clauses) (IsInner inside) IsSoughtInner IsAnyRecord
    inner_closed = record { acts = act-inner; looks = look-inner; given = give-inner }

  -- what is under
  either_under : (t : Bool) (x y : Element) → IsUnder inside x → IsUnder inside y → IsUnder inside (cond t x y)
  either_under true x y h k = h
  either_under false x y h k = k

  pub under_given : (r : Record) (x : Element) → IsUnder inside x → IsUnder inside (give r x)
  under_given r (Findall s u results list p f) b = either_under (same r.0 s) (findall_with_result r.1 s u results list p f)
      (Findall s u results list p f) b b
  under_given r (Credit j rs) b = b
  under_given r (Plain p f) b = b
  under_given r (EndOf s) b = b
  under_given r (Catch s u c q p f) b = b
  under_given r (End p o) b = b

  pub preserved_inside : (r : Record) → inside r.0 ≡ true → (z : Element) → IsUnder inside z → give r z ≡ z
  preserved_inside r i (Findall s u results list p f) b = go (same r.0 s) refl
    where
      go : (t : Bool) → same r.0 s ≡ t → cond t (findall_with_result r.1 s u results list p f) (Findall s u results list p f)
          ≡ Findall s u results list p f
      go true e = absurd (false≢true (sym b ∙ ap inside (sym (same-true r.0 s e)) ∙ i))
      go false e = refl
  preserved_inside r i (Credit j rs) b = refl
  preserved_inside r i (Plain p f) b = refl
  preserved_inside r i (EndOf s) b = refl
  preserved_inside r i (Catch s u c q p f) b = refl
  preserved_inside r i (End p o) b = refl

  pub passed_credit : (q : Sought) (k : ℕ) (rs : List Record) → look q (Credit k rs) ≡ On q
  passed_credit (Scope h x) k rs = refl
  passed_credit (Thrown b None o) k rs = refl
  passed_credit (Thrown b (Some h) o) k rs = refl
  passed_credit (Caught b h o) k rs = refl

  abbrev pub under_ground : Ground (scoped clauses)
  under_ground = record {
    Under = IsUnder inside;
    given = under_given;
    credit = Credit;
    spent = λ rs. refl;
    spends = λ k rs. refl;
    fixed
        = λ r k rs. refl;
    passed = passed_credit;
  }
