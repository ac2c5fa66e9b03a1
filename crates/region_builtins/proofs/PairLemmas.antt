-- Two values that are made one, and then two others.
use Rattle.std.proofs.Common.{◌≡◌, [], ◌∷◌, Option, Some, None, sym, ap, ap₂, ◌∙◌, subst}
use Rattle.std.specs.Option.{option_map}
use Rattle.au_model.specs.Terms.EquationsInTurn.{after, further_unified}
use Rattle.au_model.specs.Terms.Substitutions.{Substitution, resolve, value_of}
use Rattle.au_model.specs.Terms.Unifier.{Equations, unifier}
use Rattle.au_model.proofs.EquationsInTurnLemmas.{front_first, resolve-after}
use Rattle.run_model.specs.Goals.BuiltinAnswers.{one_solution}
use Rattle.binding_array.specs.declared.cell.BindingCell.{BindingCell}
use Rattle.cell_store.specs.StoreView.{StoreView, IsValueIn, substitution, meaning, value_term, with_substitution}
use Rattle.cell_store.specs.UnificationSteps.{AreUnified, OnlyBinds}
use Rattle.region_split.specs.Regions.{RegionView}
use Rattle.region_split.specs.StackOperations.{StaysStanding}
use Rattle.region_split.proofs.SolvedLemmas.{stays_twice}
use Rattle.region_split.proofs.TrialLemmas.{resolved_twice}
use Rattle.region_control.specs.Controls.{IsGoalPlace}
use Rattle.region_control.specs.declared.control.GoalPlace.{GoalPlace}
use Rattle.region_control.specs.declared.replies.AfterGoal.TheVariants.{At, Failed}
use Rattle.region_builtins.specs.QuickAnswers.{AnswersIn, pair_meant}
use Rattle.region_builtins.proofs.ReplyLemmas.{no_unifier, all_unified}

-- a value is still there where others were bound
pub still_value : (old new : StoreView) (c : BindingCell) → OnlyBinds old new → IsValueIn old c → IsValueIn new c
still_value old new c kept there = subst (λ (s : StoreView). IsValueIn s c) (sym kept.others) there

module _ (r r1 : RegionView) (place : GoalPlace) (at : IsGoalPlace r place) (p q : BindingCell × BindingCell) (stays : StaysStanding r r1) where
  abbrev both : Equations
  both = pair_meant r.store p ∷ pair_meant r.store q ∷ []

  -- the first two have no unifier
  pub first_apart : unifier (pair_meant r.store p ∷ []) ≡ None → AnswersIn r r1 (one_solution both) place Failed
  first_apart none =
      no_unifier r place at r1 stays both
      (front_first (pair_meant r.store p ∷ []) (pair_meant r.store q ∷ []) ∙ ap (λ f. further_unified f (pair_meant r.store q ∷ [])) none)

  module _ (u : AreUnified p.0 p.1 r.store r1.store) (kept : OnlyBinds r.store r1.store) (r2 : RegionView) (goes_on : StaysStanding r1 r2) where
    meaning_is : (c : BindingCell) → meaning r1.store c ≡ resolve u.further (meaning r.store c)
    meaning_is c =
        ap (resolve r1.store.now.bound) (ap (λ (s : StoreView). value_term s c) kept.others)
        ∙ resolved_twice r.store.now.bound u.further r1.store.now.bound u.binds.bound (value_term r.store c)

    in_turn : (o : Option Substitution) → unifier (pair_meant r1.store q ∷ []) ≡ o → unifier both ≡ option_map (after u.further) o
    in_turn o e =
        front_first (pair_meant r.store p ∷ []) (pair_meant r.store q ∷ [])
        ∙ (ap (λ f. further_unified f (pair_meant r.store q ∷ [])) u.unified
        ∙ ap (option_map (after u.further)) (ap₂ (λ t v. unifier ((t, v) ∷ [])) (sym (meaning_is q.0)) (sym (meaning_is q.1)) ∙ e))

    pub second_apart : unifier (pair_meant r1.store q ∷ []) ≡ None → AnswersIn r r2 (one_solution both) place Failed
    second_apart none = no_unifier r place at r2 (stays_twice r r1 r2 stays goes_on) both (in_turn None none)

    pub both_unified : AreUnified q.0 q.1 r1.store r2.store → OnlyBinds r1.store r2.store → AnswersIn r r2 (one_solution both) place (At place.after)
    both_unified v further =
        all_unified r place at r2 (stays_twice r r1 r2 stays goes_on) both (after u.further v.further) (in_turn (Some v.further) v.unified)
        (λ n. v.binds.bound n ∙ (ap (resolve v.further) (u.binds.bound n) ∙ sym (resolve-after u.further v.further (value_of r.store.now.bound n))))
        (record { others = further.others ∙ ap (with_substitution (substitution r2.store)) kept.others })
