-- A findall whose goal has no solution left: its list is unified with the results next.
use Rattle.std.proofs.Common.{◌≡◌, ℕ, ◌+◌, ◌≤◌, List, [], ◌∷◌, length, refl, sym, ap, ap₂, ◌∙◌, subst, arith}
use Rattle.std.specs.Prelude.{codes}
use Rattle.au_term.specs.Term.{Term, var_bound}
use Rattle.au_model.specs.Terms.Each.{Each}
use Rattle.au_model.specs.Terms.Forms.{binary, list_term}
use Rattle.au_model.specs.Terms.Named.{NamedTerm}
use Rattle.au_model.specs.Terms.Substitutions.{Substitution, value_of, resolve}
use Rattle.au_model.proofs.ApplyLemmas.{apply-same, apply-apply}
use Rattle.au_model.proofs.EachLemmas.{each-more}
use Rattle.au_model.proofs.VariableBoundLemmas.{apply-below}
use Rattle.run_model.specs.Machine.Entries.{Entry, PlainEntry}
use Rattle.run_model.specs.Machine.Items.{GoalItem, Continuation, before, with_next}
use Rattle.binding_array.specs.declared.cell.BindingCell.{BindingCell}
use Rattle.cell_store.specs.StoreView.{StoreView, IsValidStore, IsValueIn, AddsText, text_in, value_term, meaning, with_numbers}
use Rattle.cell_store.proofs.CellMeaningLemmas.{term_below}
use Rattle.region_split.specs.ChoicePoints.{Standing, height_of_cut}
use Rattle.region_split.specs.Regions.{RegionView, entries_of, heights_of, continuation_here, IsPositionIn, IsPositionOver}
use Rattle.region_split.specs.ResultLists.{ResultsView, IsNumberedFrom, AreResultsFrom}
use Rattle.region_split.specs.StackOperations.{KeepsPositions, StaysStanding}
use Rattle.region_split.specs.declared.frame.FrameItem.TheVariants.{Goal as ValueGoal}
use Rattle.region_split.specs.declared.frame.Position.{Position}
use Rattle.region_control.specs.Ahead.{EndsFindall}
use Rattle.region_control.specs.declared.ahead.Ahead.TheVariants.{Goal}

-- what a term stands for is bound no further
pub resolved_stays : (st : StoreView) (t : Term) → IsValidStore st → resolve st.now.bound (resolve st.now.bound t) ≡ resolve st.now.bound t
resolved_stays st t valid = apply-apply (value_of st.now.bound) (value_of st.now.bound) t ∙ apply-same (λ n. resolve st.now.bound (value_of st.now.bound n)) (value_of st.now.bound) valid.final t

pub meaning_below : (st : StoreView) (c : BindingCell) → IsValidStore st → IsValueIn st c → var_bound (meaning st c) ≤ st.now.next
meaning_below st c valid i = apply-below (value_of st.now.bound) st.now.next st.now.next valid.below (value_term st c) (term_below (text_in st) st.now.next c i)

-- lists whose items are bound no further
list_stays : (s : Substitution) (ts : List Term) → Each (λ t. resolve s t ≡ t) ts → resolve s (list_term ts) ≡ list_term ts
list_stays s [] h = refl
list_stays s (t ∷ ts) h = ap₂ (λ u us. binary (codes ".") u us) h.0 (list_stays s ts h.1)

list_below : (n : ℕ) (ts : List Term) → Each (λ t. var_bound t ≤ n) ts → var_bound (list_term ts) ≤ n
list_below n [] h = omega arith
list_below n (t ∷ ts) h = let a = h.0 in let b = list_below n ts h.1 in omega (arith, a, b)

module _ (r r1 : RegionView) (list : BindingCell) (results : ResultsView) (after : Position) (k : ℕ) (valid : IsValidStore r.store) (position : IsPositionIn r after) (value : IsValueIn r.store list) (from : AreResultsFrom r.store.now.next results)
    (widened : r1 ≡ record r { store = with_numbers k r.store }) (number : r.store.now.next + k ≡ results.next) where
  same_list : meaning r1.store list ≡ meaning r.store list
  same_list = ap (λ (x : RegionView). meaning x.store list) widened

  -- the goal's numbers are there
  pub goal_below : (left t : Term) → left ≡ meaning r1.store list → t ≡ binary (codes "=") left (list_term results.terms) → var_bound t ≤ r1.store.now.next
  goal_below left t l e =
      let a = meaning_below r.store list valid value in
      let b = list_below results.next results.terms from.below in
      let c = ap var_bound (l ∙ same_list) in
      let d = ap var_bound e in
      let n : r1.store.now.next ≡ r.store.now.next + k = ap (λ (x : RegionView). x.store.now.next) widened in
      let f = from.next in
      omega (arith, a, b, c, d, n, f, number)

  module _ (r2 : RegionView) (goal : BindingCell) (cut : ℕ) (left t : Term) (l : left ≡ meaning r1.store list) (e : t ≡ binary (codes "=") left (list_term results.terms)) (adds : AddsText r1.store r2.store) (means : value_term r2.store goal ≡ t) (there : IsValueIn r2.store goal)
      (stays1 : StaysStanding r r1) (stays2 : StaysStanding r1 r2) (keeps : KeepsPositions r1 r2 (length r1.frames)) (count : cut ≡ length r2.choices) (height : (named : List NamedTerm) → height_of_cut (heights_of named r2) cut ≡ length (entries_of named r2)) where
    bound_same : r2.store.now.bound ≡ r.store.now.bound
    bound_same = adds.bound ∙ ap (λ (x : RegionView). x.store.now.bound) widened

    goal_means : resolve r2.store.now.bound (value_term r2.store goal) ≡ binary (codes "=") (meaning r.store list) (list_term results.terms)
    goal_means =
        ap₂ resolve bound_same (means ∙ (e ∙ ap (λ u. binary (codes "=") u (list_term results.terms)) (l ∙ same_list)))
        ∙ ap₂ (λ u us. binary (codes "=") u us) (resolved_stays r.store (value_term r.store list) valid)
        (list_stays r.store.now.bound results.terms (each-more (IsNumberedFrom r.store.now.next) (λ u. resolve r.store.now.bound u ≡ u) (λ u a. a r.store.now.bound valid.new) results.terms from.above))

    many : length r2.choices ≡ length r.choices
    many = ap (λ (x : RegionView). length x.choices) stays2.others ∙ ap (λ (x : RegionView). length x.choices) stays1.others

    after1 : IsPositionIn r1 after
    after1 = subst (λ n. IsPositionOver r1 n after) (sym (ap (λ (x : RegionView). length x.choices) stays1.others)) (stays1.position (length r.choices) after position)

    follows : (named : List NamedTerm) → continuation_here named r2 after ≡ with_next results.next (continuation_here named r after)
    follows named =
        let same : continuation_here named r2 after ≡ continuation_here named r1 after = (let x = keeps.same named after after1.frame after1 in cc) in
        same
        ∙ (ap (λ (x : RegionView). continuation_here named x after) widened
        ∙ ap (λ n. with_next n (continuation_here named r after)) number)

    abbrev goes_on : Term → ℕ → Continuation ℕ → List Entry → List Entry
    goes_on u n f es = PlainEntry (before (GoalItem u n ∷ []) f) ∷ es

    pub ends_findall : EndsFindall r r2 list results after (Goal (ValueGoal goal) (record { cut = cut; after = after }))
    ends_findall = record {
      entries = λ named.
          let es = entries_of named r in
          let f = with_next results.next (continuation_here named r after) in
          let same : entries_of named r2 ≡ es = ap (λ (x : Standing). x.entries) (stays2.stands named ∙ stays1.stands named) in
          let n : height_of_cut (heights_of named r2) cut ≡ length es = height named ∙ ap length same in
          sym (ap₂ (λ u m. goes_on u m (continuation_here named r2 after) (entries_of named r2)) goal_means n
          ∙ ap₂ (λ g xs. goes_on (binary (codes "=") (meaning r.store list) (list_term results.terms)) (length es) g xs) (follows named) same);
      there = record {
        goal = refl;
        there = there;
        place = record {
          scope = omega (arith, count);
          after = subst (λ n. IsPositionOver r2 n after) (sym (count ∙ many)) (stays2.position (length r.choices) after (stays1.position (length r.choices) after position));
        };
      };
    }
