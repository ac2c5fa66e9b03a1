-- What goes on after a goal that holds once or fails.
use Rattle.std.proofs.Common.{◌≡◌, ℕ, ℤ, ◌+◌, Bool, true, false, List, [], ◌∷◌, ◌++◌, length, map, Some, None, refl, sym, ap, ap₂, ◌∙◌, subst, arith}
use Rattle.au_term.specs.Term.{VarTerm, IntTerm}
use Rattle.au_model.specs.Terms.Named.{NamedTerm}
use Rattle.au_model.specs.Terms.Substitutions.{Substitution}
use Rattle.au_model.specs.Terms.Unifier.{Equations, bound, unifier}
use Rattle.au_model.proofs.UnifierLemmas.{unifier-first}
use Rattle.std.specs.Option.{option_map}
use Rattle.run_model.specs.Goals.BuiltinAnswers.{Answer, equal, holds_if, one_solution}
use Rattle.run_model.specs.Machine.Items.{Continuation, with_next, resolve_continuation}
use Rattle.run_model.specs.Machine.Entries.{PlainEntry, unified}
use Rattle.binding_array.specs.declared.cell.BindingCell.{BindingCell}
use Rattle.binding_array.specs.declared.cell.BindingCell.TheVariants.{Var}
use Rattle.cell_store.specs.StoreView.{StoreView, BindsFurther, IsComposition, IsDereferenced, substitution, meaning, with_substitution}
use Rattle.cell_store.specs.UnificationSteps.{AreUnified, OnlyBinds}
use Rattle.cell_store.specs.declared.arguments.Arguments.{Arguments}
use Rattle.std_builtins.specs.Meanings.{answer_of}
use Rattle.std_builtins.specs.declared.table.Builtin.{Builtin}
use Rattle.region_split.specs.ChoicePoints.{Standing, by_height}
use Rattle.region_split.specs.Regions.{RegionView, entries_of, heights_of, items_here, continuation_here, IsPositionOver}
use Rattle.region_split.specs.StackOperations.{StaysStanding}
use Rattle.region_split.proofs.TrialLemmas.{same_parts, items_same, named_same, items_twice, named_twice}
use Rattle.region_control.specs.Controls.{IsGoalPlace}
use Rattle.region_control.specs.GoalForms.{argument_terms}
use Rattle.region_control.specs.declared.control.GoalPlace.{GoalPlace}
use Rattle.region_control.specs.declared.forms.GoalForm.{GoalForm}
use Rattle.region_control.specs.declared.replies.AfterGoal.{AfterGoal}
use Rattle.region_control.specs.declared.replies.AfterGoal.TheVariants.{At, Failed}
use Rattle.region_control.proofs.ControlLemmas.{place_in}
use Rattle.region_builtins.specs.QuickAnswers.{IsQuickAnswer, MakesOne, AnswersIn, AnswersFor}
use Rattle.region_builtins.specs.declared.quick.QuickAnswer.{QuickAnswer}

-- no numbers are taken
same_next : (f : Continuation ℕ) → with_next (f.next + 0) f ≡ f
same_next f = ap (λ n. with_next n f) (let e : f.next + 0 ≡ f.next = omega arith in e)

-- no equations
nothing_unified : unifier [] ≡ Some []
unfolding unifier
nothing_unified = refl

same_continuation : (f : Continuation ℕ) → resolve_continuation [] f ≡ f
same_continuation f = same_parts (items_same f.items) (named_same f.named) refl

module _ (r : RegionView) (place : GoalPlace) (at : IsGoalPlace r place) where
  -- a test
  pub nothing_bound : (es : Equations) → unifier es ≡ Some [] → AnswersIn r r (one_solution es) place (At place.after)
  nothing_bound es is name arity = (
    (λ named.
        let f = continuation_here named r place.after in
        let others = entries_of named r in
        ap (λ o. (unified o (with_next (f.next + 0) f) ++ []) ++ others) is
        ∙ ap (λ g. PlainEntry g ∷ others) (ap (resolve_continuation []) (same_next f) ∙ same_continuation f)),
    place_in r place at,
  )

  pub holds : AnswersIn r r (holds_if true) place (At place.after)
  holds = nothing_bound [] nothing_unified

  pub fails : AnswersIn r r (holds_if false) place Failed
  fails name arity = λ named. refl

  module _ (new : RegionView) (stays : StaysStanding r new) (es : Equations) where
    same_entries : (named : List NamedTerm) → entries_of named new ≡ entries_of named r
    same_entries named = ap (λ (s : Standing). s.entries) (stays.stands named)

    pub no_unifier : unifier es ≡ None → AnswersIn r new (one_solution es) place Failed
    no_unifier none name arity = λ named.
        let f = continuation_here named r place.after in
        ap (λ o. (unified o (with_next (f.next + 0) f) ++ []) ++ entries_of named r) none ∙ sym (same_entries named)

    module _ (further : Substitution) (is : unifier es ≡ Some further) (bound : IsComposition r.store.now.bound further new.store.now.bound) (kept : OnlyBinds r.store new.store) where
      bound_is : new ≡ record r { store = with_substitution (substitution new.store) r.store }
      bound_is = stays.others ∙ ap (λ (x : StoreView). record r { store = x }) kept.others

      follows : (named : List NamedTerm) → continuation_here named new place.after ≡ resolve_continuation further (continuation_here named r place.after)
      follows named =
          ap (λ (x : RegionView). continuation_here named x place.after) bound_is
          ∙ same_parts (items_twice r.store.now.bound further new.store.now.bound bound (map (by_height (heights_of named r)) (items_here r place.after))) (named_twice r.store.now.bound further new.store.now.bound bound named) refl

      pub all_unified : AnswersIn r new (one_solution es) place (At place.after)
      all_unified name arity = (
        (λ named.
            let f = continuation_here named r place.after in
            let others = entries_of named r in
            ap (λ o. (unified o (with_next (f.next + 0) f) ++ []) ++ others) is
            ∙ (ap (λ g. PlainEntry (resolve_continuation further g) ∷ others) (same_next f)
            ∙ sym (ap₂ (λ g xs. PlainEntry g ∷ xs) (follows named) (same_entries named)))),
        subst (λ n. IsPositionOver new n place.after) (sym (ap (λ (x : RegionView). length x.choices) stays.others)) (stays.position (length r.choices) place.after (place_in r place at)),
      )

  module _ (new : RegionView) (a b : BindingCell) (stays : StaysStanding r new) where
    pub not_unified : unifier ((meaning r.store a, meaning r.store b) ∷ []) ≡ None → AnswersIn r new (equal (meaning r.store a) (meaning r.store b)) place Failed
    not_unified none = no_unifier new stays ((meaning r.store a, meaning r.store b) ∷ []) none

    pub unified_goes_on : AreUnified a b r.store new.store → OnlyBinds r.store new.store → AnswersIn r new (equal (meaning r.store a) (meaning r.store b)) place (At place.after)
    unified_goes_on u kept = all_unified new stays ((meaning r.store a, meaning r.store b) ∷ []) u.further u.unified u.binds.bound kept

-- a free variable and an integer
number_unified : (v : ℕ) (z : ℤ) → unifier ((VarTerm v, IntTerm z) ∷ []) ≡ Some ((v, IntTerm z) ∷ [])
number_unified v z = unifier-first (VarTerm v) (IntTerm z) [] ∙ ap (option_map (bound v (IntTerm z))) nothing_unified

pub number_bound : (r : RegionView) (place : GoalPlace) (at : IsGoalPlace r place) (new : RegionView) (left : BindingCell) (v : ℕ) (z : ℤ) → IsDereferenced r.store left (Var v) → StaysStanding r new → BindsFurther r.store new.store ((v, IntTerm z) ∷ [])
    → AnswersIn r new (equal (meaning r.store left) (IntTerm z)) place (At place.after)
number_bound r place at new left v z d stays b =
    let is : meaning r.store left ≡ VarTerm v = sym d.same ∙ d.unbound in
    all_unified r place at new stays ((meaning r.store left, IntTerm z) ∷ []) ((v, IntTerm z) ∷ []) (ap (λ t. unifier ((t, IntTerm z) ∷ [])) is ∙ number_unified v z) b.bound (record { others = b.others })

-- an answer as the store showed it
pub quick_seen : (r : RegionView) (st : StoreView) (b : Builtin) (a : Arguments) (q : QuickAnswer) → st ≡ r.store → ((next : ℕ) → IsQuickAnswer st (answer_of b (argument_terms st a) next) q) → IsQuickAnswer r.store (answer_of b (argument_terms r.store a) r.store.now.next) q
quick_seen r st b a q e h = subst (λ (x : StoreView). IsQuickAnswer x (answer_of b (argument_terms x a) r.store.now.next) q) e (h r.store.now.next)

-- and what it says of values that become one, and of a test
pub pair_seen : (r : RegionView) (st : StoreView) (b : Builtin) (a : Arguments) (p : BindingCell × BindingCell) → st ≡ r.store → ((next : ℕ) → MakesOne st p (answer_of b (argument_terms st a) next)) → MakesOne r.store p (answer_of b (argument_terms r.store a) r.store.now.next)
pair_seen r st b a p e h = subst (λ (x : StoreView). MakesOne x p (answer_of b (argument_terms x a) r.store.now.next)) e (h r.store.now.next)

pub test_seen : (r : RegionView) (st : StoreView) (b : Builtin) (a : Arguments) (holds : Bool) → st ≡ r.store → ((next : ℕ) → answer_of b (argument_terms st a) next ≡ holds_if holds) → answer_of b (argument_terms r.store a) r.store.now.next ≡ holds_if holds
test_seen r st b a holds e h = subst (λ (x : StoreView). answer_of b (argument_terms x a) r.store.now.next ≡ holds_if holds) e (h r.store.now.next)

-- the same answer
pub answers_same : (r new : RegionView) (form : GoalForm) (answer other : Answer) (place : GoalPlace) (after : AfterGoal) → answer ≡ other → AnswersFor r new form other place after → AnswersFor r new form answer place after
answers_same r new form answer other place after e k = subst (λ x. AnswersFor r new form x place after) (sym e) k
