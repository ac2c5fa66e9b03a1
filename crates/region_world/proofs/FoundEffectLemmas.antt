-- Effects by what they have found.
use Rattle.std.proofs.Common.{◌≡◌, ◌∙◌, ℕ, List, map, refl, sym, ap, subst}
use Rattle.au_term.specs.Term.{Term, Terms, end, more, term_at}
use Rattle.run_model.specs.Goals.OperatorGoals.{operator_solution}
use Rattle.run_model.specs.Goals.Outcomes.{Reply, Solutions}
use Rattle.clause_compile.specs.declared.event.Effect.{Effect}
use Rattle.clause_compile.specs.declared.event.Effect.TheVariants as effect
use Rattle.op_table.specs.OperatorView.{row_meant}
use Rattle.op_table.specs.declared.operator.OpRow.{OpRow}
use Rattle.cell_store.specs.StoreView.{StoreView, meaning}
use Rattle.binding_array.specs.declared.cell.BindingCell.{BindingCell}
use Rattle.effect_gate.specs.Effects.{AreRowsFor}
use Rattle.region_control.specs.GoalForms.{IsFormOf, argument_terms}
use Rattle.region_control.specs.declared.forms.GoalForm.{GoalForm}
use Rattle.region_world.specs.AskedEffects.{AsksWorld}
use Rattle.region_world.specs.FoundSolutions.{HasFound}
use Rattle.region_world.specs.RowSolutions.{AreAsked, operator_unified}
use Rattle.region_world.specs.declared.rows.Asked.{Asked}

-- operators by the arguments of a goal
module _ (st : StoreView) (goal : BindingCell) (form : GoalForm) (is : IsFormOf st goal form) (asked : Asked) (terms : AreAsked st (argument_terms st form.arguments) asked) where
  pub rows_reply : (e : Effect) (reply : Reply) (rows : List OpRow) → AsksWorld (meaning st goal) e → AreRowsFor e reply rows → reply ≡ Solutions (map (operator_unified st asked) (map row_meant rows))
  rows_reply (effect.CurrentOp p s n) reply rows asks are =
      let ts : more p (more s (more n end)) ≡ argument_terms st form.arguments = sym asks.1 ∙ is.arguments in
      let a : p ≡ meaning st asked.priority = ap (term_at 0) ts ∙ sym terms.0 in
      let b : s ≡ meaning st asked.specifier = ap (term_at 1) ts ∙ sym terms.1 in
      let c : n ≡ meaning st asked.name = ap (term_at 2) ts ∙ sym terms.2 in
      subst (λ (q : Terms). reply ≡ Solutions (map (operator_solution (term_at 0 q) (term_at 1 q) (term_at 2 q)) (map row_meant rows))) (three a b c) are
    where
      three : {a b c x y z : Term} → a ≡ x → b ≡ y → c ≡ z → more a (more b (more c end)) ≡ more x (more y (more z end))
      three h k l = cc
  rows_reply (effect.Call a) reply rows asks are = absurd are
  rows_reply (effect.Retract a) reply rows asks are = absurd are
  rows_reply (effect.Clause a b) reply rows asks are = absurd are
  rows_reply (effect.Write a) reply rows asks are = absurd are
  rows_reply (effect.Writeq a) reply rows asks are = absurd are
  rows_reply (effect.WriteCanonical a) reply rows asks are = absurd are
  rows_reply effect.Nl reply rows asks are = absurd are
  rows_reply (effect.PutChar a) reply rows asks are = absurd are
  rows_reply (effect.Asserta a) reply rows asks are = absurd are
  rows_reply (effect.Assertz a) reply rows asks are = absurd are
  rows_reply (effect.Abolish a) reply rows asks are = absurd are
  rows_reply (effect.Op a b c) reply rows asks are = absurd are
  rows_reply effect.Halt reply rows asks are = absurd are
  rows_reply (effect.HaltWith a) reply rows asks are = absurd are
  rows_reply (effect.Remove a) reply rows asks are = absurd are
  rows_reply (effect.Answer a b) reply rows asks are = absurd are
  rows_reply (effect.End a) reply rows asks are = absurd are

-- no other effect finds clauses
pub never_found : (e : Effect) (next : ℕ) → HasFound e next → ((t : Term) → e ≡ effect.Call t → ⊥) → ((t : Term) → e ≡ effect.Retract t → ⊥) → ((t u : Term) → e ≡ effect.Clause t u → ⊥) → ⊥
never_found (effect.Call a) next h call removal look = call a refl
never_found (effect.Retract a) next h call removal look = removal a refl
never_found (effect.Clause a b) next h call removal look = look a b refl
never_found (effect.Write a) next h call removal look = h.are
never_found (effect.Writeq a) next h call removal look = h.are
never_found (effect.WriteCanonical a) next h call removal look = h.are
never_found (effect.PutChar a) next h call removal look = h.are
never_found (effect.Asserta a) next h call removal look = h.are
never_found (effect.Assertz a) next h call removal look = h.are
never_found (effect.Abolish a) next h call removal look = h.are
never_found (effect.HaltWith a) next h call removal look = h.are
never_found (effect.Remove a) next h call removal look = h.are
never_found (effect.End a) next h call removal look = h.are
never_found effect.Nl next h call removal look = h.are
never_found effect.Halt next h call removal look = h.are
never_found (effect.Op a b c) next h call removal look = h.are
never_found (effect.CurrentOp a b c) next h call removal look = h.are
never_found (effect.Answer a b) next h call removal look = h.are
