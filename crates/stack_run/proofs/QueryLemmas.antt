-- Queries in regions of their own, and goals that ask the world.
use Rattle.std.proofs.Common.{◌≡◌, ℕ, zero, suc, ◌+◌, ◌≤◌, List, [], ◌∷◌, ◌++◌, append-nil, length, map, Option, Some, None, refl, sym, ap, ap₂, ◌∙◌, subst, arith}
use Rattle.std.specs.Prelude.{codes}
use Rattle.au_term.specs.Term.{Term, VarTerm, AtomTerm, end, var_bound}
use Rattle.au_model.specs.Terms.Each.{Each}
use Rattle.run_model.specs.Programs.Bodies.{call_of}
use Rattle.run_model.specs.Programs.Clauses.{Clause}
use Rattle.run_model.specs.Goals.GoalOutcomes.{outcome_of}
use Rattle.run_model.specs.Goals.Outcomes.{AskWorld}
use Rattle.au_model.specs.Terms.Named.{NamedTerm, NamedVariable}
use Rattle.au_model.proofs.EquationsInTurnLemmas.{resolve-nothing}
use Rattle.run_model.specs.Machine.Entries.{PlainEntry, EndEntry}
use Rattle.run_model.specs.Machine.Items.{Item, GoalItem, Continuation, before, goals_at, resolve_item, resolve_named}
use Rattle.run_model.specs.Programs.Jobs.{Query, goals_bound, own_terms, query_bound}
use Rattle.clause_compile.specs.CompiledClauses.{goal_items}
use Rattle.clause_compile.specs.declared.item.Scope.TheVariants.{Local}
use Rattle.binding_array.specs.declared.cell.BindingCell.{BindingCell}
use Rattle.cell_store.specs.StoreView.{StoreView, meaning, IsValueIn, new_store, over_floor, with_numbers, with_mark}
use Rattle.region_split.specs.ChoicePoints.{Standing, alternative_entries, by_height, continuation_at, height_of_cut}
use Rattle.region_split.specs.Regions.{RegionView, region_setting, entries_of, heights_of, items_here, IsPositionIn, IsPositionOver}
use Rattle.region_split.specs.StackOperations.{new_region, AddsChoice, PutsGoals}
use Rattle.region_split.specs.Texts.{TextView}
use Rattle.region_split.specs.declared.choice.Alternatives.TheVariants.{QueryEnd}
use Rattle.region_split.specs.declared.frame.Position.{Position}
use Rattle.region_split.specs.declared.frame.FrameItem.{FrameItem}
use Rattle.region_split.specs.declared.frame.FrameItem.TheVariants as item
use Rattle.region_control.specs.Ahead.{IsGoalThere}
use Rattle.region_control.specs.declared.control.GoalPlace.{GoalPlace}
use Rattle.region_run.specs.Inferences.{item_goal}
use Rattle.region_run.specs.Runs.{AsksWorldNext}
use Rattle.region_world.proofs.AskedGoalLemmas.{asked_itself, call_never}
use Rattle.text_load.specs.QueryView.{goal_terms}
use Rattle.stack_run.specs.MachineView.{OpensQuery}

-- goals are what asks the world, by themselves
abbrev pub IsAskedBy : RegionView → FrameItem → Type 0
IsAskedBy r (item.Goal value) = (outcome_of r.text.clauses (meaning r.store value) r.store.now.next ≡ AskWorld (meaning r.store value)) × IsValueIn r.store value
IsAskedBy r (item.Call value) = ⊥
IsAskedBy r item.Cut = ⊥
IsAskedBy r item.True = ⊥
IsAskedBy r item.Fail = ⊥
IsAskedBy r item.CatchEnd = ⊥
IsAskedBy r (item.Collect value) = ⊥
IsAskedBy r (item.Removal number) = ⊥

-- no other goal asks
call_asks_nothing : (clauses : List Clause) (g : Term) (next : ℕ) (goal : Term) → outcome_of clauses (call_of g) next ≡ AskWorld goal → ⊥
unfolding outcome_of
call_asks_nothing clauses g next goal e = call_never 1 g end goal e

cut_asks_nothing : (clauses : List Clause) (next : ℕ) (goal : Term) → outcome_of clauses (AtomTerm (codes "!")) next ≡ AskWorld goal → ⊥
unfolding outcome_of
cut_asks_nothing clauses next goal e = cc

true_asks_nothing : (clauses : List Clause) (next : ℕ) (goal : Term) → outcome_of clauses (AtomTerm (codes "true")) next ≡ AskWorld goal → ⊥
unfolding outcome_of
true_asks_nothing clauses next goal e = cc

fail_asks_nothing : (clauses : List Clause) (next : ℕ) (goal : Term) → outcome_of clauses (AtomTerm (codes "fail")) next ≡ AskWorld goal → ⊥
unfolding outcome_of
fail_asks_nothing clauses next goal e = cc

some_same : (t u : Term) → Some t ≡ Some u → t ≡ u
some_same t u e = cc

none_some : (t : Term) → None ≡ Some t → ⊥
none_some t e = cc

-- what was asked is the goal itself
asked_of : (r : RegionView) (t : Term) (i : FrameItem) (g : GoalPlace) (a : AsksWorldNext r i g) → t ≡ a.goal → outcome_of r.text.clauses t r.store.now.next ≡ AskWorld t
asked_of r t i g a e =
    let own = asked_itself r.text.clauses a.goal r.store.now.next a.asked a.asks in
    subst (λ u. outcome_of r.text.clauses u r.store.now.next ≡ AskWorld u) (sym e) (a.asks ∙ ap AskWorld own)

pub asked_by : (r : RegionView) (i : FrameItem) (g : GoalPlace) → AsksWorldNext r i g → IsAskedBy r i
asked_by r (item.Goal value) g a = (asked_of r (meaning r.store value) (item.Goal value) g a (some_same (meaning r.store value) a.goal a.is), a.there.there)
asked_by r (item.Call value) g a = call_asks_nothing r.text.clauses (meaning r.store value) r.store.now.next _ (asked_of r _ (item.Call value) g a (some_same _ a.goal a.is))
asked_by r item.Cut g a = cut_asks_nothing r.text.clauses r.store.now.next _ (asked_of r _ item.Cut g a (some_same _ a.goal a.is))
asked_by r item.True g a = true_asks_nothing r.text.clauses r.store.now.next _ (asked_of r _ item.True g a (some_same _ a.goal a.is))
asked_by r item.Fail g a = fail_asks_nothing r.text.clauses r.store.now.next _ (asked_of r _ item.Fail g a (some_same _ a.goal a.is))
asked_by r item.CatchEnd g a = none_some a.goal a.is
asked_by r (item.Collect value) g a = none_some a.goal a.is
asked_by r (item.Removal number) g a = none_some a.goal a.is

-- the terms of a query's goals
pub terms_again : (gs : List Term) → goal_terms (goal_items (Local 0) gs) ≡ gs
terms_again [] = refl
terms_again (g ∷ gs) = ap (λ ts. g ∷ ts) (terms_again gs)

pub goals_below : (n : ℕ) (gs : List Term) → goals_bound gs ≤ n → Each (λ t. var_bound t ≤ n) gs
goals_below n [] h = tt
goals_below n (g ∷ gs) h = (omega arith, goals_below n gs (omega arith))

goals_unbound : (height : ℕ) (gs : List Term) → map (resolve_item []) (goals_at height gs) ≡ goals_at height gs
goals_unbound height [] = refl
goals_unbound height (g ∷ gs) = ap₂ (λ t is. GoalItem t height ∷ is) (resolve-nothing g) (goals_unbound height gs)

names_unbound : (vs : List NamedVariable) → map (resolve_named []) (own_terms vs) ≡ own_terms vs
names_unbound [] = refl
names_unbound (v ∷ vs) = ap (λ ns. record { name = v.name; term = VarTerm v.number } ∷ ns) (names_unbound vs)

-- a query that has not begun
module _ (text : TextView) (q : Query) (n : ℕ) (r1 r2 r3 : RegionView) (end_at : Position) (begun : r1 ≡ record (new_region text) { store = over_floor (with_numbers n (new_store text.code)) }) (bound : n ≡ query_bound q) (a : AddsChoice r1 r2 QueryEnd end_at) where
  abbrev first : RegionView
  first = record (new_region text) { store = over_floor (with_numbers n (new_store text.code)) }

  same_store : r2.store ≡ with_mark first.store
  same_store = ap (λ (x : RegionView). x.store) a.others ∙ ap (λ (x : RegionView). with_mark x.store) begun

  end_alone : (named : List NamedTerm) → entries_of named r2 ≡ EndEntry None ∷ []
  end_alone named =
      a.entries named
      ∙ (ap (λ alternatives. alternative_entries (region_setting named r1) r1.store.now (length (entries_of named r1)) (continuation_at (region_setting named r1) (heights_of named r1) r1.store.now a.choice.after) alternatives ++ entries_of named r1) a.is.0
      ∙ ap (λ (x : RegionView). EndEntry None ∷ entries_of named x) begun)

  pub goals_there : (terms : List Term) → terms ≡ q.goals → Each (λ t. var_bound t ≤ r2.store.now.next) terms
  goals_there terms e =
      let next : r2.store.now.next ≡ 0 + n = ap (λ (st : StoreView). st.now.next) same_store in
      subst (Each (λ t. var_bound t ≤ r2.store.now.next)) (sym e) (goals_below r2.store.now.next q.goals (omega (arith, next, bound)))

  abbrev own : List NamedTerm
  own = own_terms q.names

  abbrev all : List (Item ℕ) → List NamedTerm → ℕ → Continuation ℕ
  all items named next = record { items = items; named = named; next = next }

  abbrev by_store : StoreView → ℕ → List Term → List (Item ℕ) → Continuation ℕ
  by_store st h gs left = before (map (resolve_item st.now.bound) (goals_at h gs)) (all (map (resolve_item st.now.bound) (map (by_height (heights_of own r2)) left)) (map (resolve_named st.now.bound) own) st.now.next)

  begins : (nothing : Position) (terms : List Term) (h : ℕ) → terms ≡ q.goals → items_here r2 nothing ≡ [] → h ≡ 1 → by_store r2.store h terms (items_here r2 nothing) ≡ all (goals_at 1 q.goals) own (query_bound q)
  begins nothing terms h e none one =
      ap (λ left. by_store r2.store h terms left) none
      ∙ (ap (λ st. by_store st h terms []) same_store
      ∙ (ap₂ (λ k gs. by_store (with_mark first.store) k gs []) one e
      ∙ (ap (λ is. all (is ++ []) (map (resolve_named []) own) (0 + n)) (goals_unbound 1 q.goals)
      ∙ (ap (λ is. all is (map (resolve_named []) own) (0 + n)) (append-nil (goals_at 1 q.goals))
      ∙ ap₂ (all (goals_at 1 q.goals)) (names_unbound q.names) (let z : 0 + n ≡ query_bound q = omega (arith, bound) in z)))))

  pub query_begun : (nothing : Position) (terms : List Term) (cut : ℕ) (p : Position) → terms ≡ q.goals → items_here r2 nothing ≡ [] → ((named : List NamedTerm) → height_of_cut (heights_of named r2) cut ≡ length (entries_of named r2)) → cut ≡ length r2.choices
      → PutsGoals r2 r3 terms cut nothing p → OpensQuery text q r3 p
  query_begun nothing terms cut p e none height count put = record {
    entries = ap₂ (λ f es. PlainEntry f ∷ es) (put.goes_on own ∙ begins nothing terms (height_of_cut (heights_of own r2) cut) e none (height own ∙ ap length (end_alone own))) (ap (λ (st : Standing). st.entries) (put.stands own) ∙ end_alone own);
    position = subst (λ k. IsPositionOver r3 k p) (count ∙ sym (ap (λ (x : RegionView). length x.choices) put.others)) put.position;
    of_text = ap (λ (x : RegionView). x.text) put.others ∙ (ap (λ (x : RegionView). x.text) a.others ∙ ap (λ (x : RegionView). x.text) begun);
  }

-- goals alone ask the world
pub only_goals_ask : (r : RegionView) (i : FrameItem) (g : GoalPlace) → AsksWorldNext r i g → ((value : BindingCell) → i ≡ item.Goal value → ⊥) → ⊥
only_goals_ask r (item.Goal value) g a other = other value refl
only_goals_ask r (item.Call value) g a other = asked_by r (item.Call value) g a
only_goals_ask r item.Cut g a other = asked_by r item.Cut g a
only_goals_ask r item.True g a other = asked_by r item.True g a
only_goals_ask r item.Fail g a other = asked_by r item.Fail g a
only_goals_ask r item.CatchEnd g a other = asked_by r item.CatchEnd g a
only_goals_ask r (item.Collect value) g a other = asked_by r (item.Collect value) g a
only_goals_ask r (item.Removal number) g a other = asked_by r (item.Removal number) g a
