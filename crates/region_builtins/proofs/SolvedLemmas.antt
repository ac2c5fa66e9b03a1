-- Solutions of a built-in predicate in a region.
use Rattle.std.proofs.Common.{◌≡◌, ℕ, zero, suc, ◌+◌, ◌≤◌, true, List, [], ◌∷◌, ◌++◌, length, map, Option, Some, None, Ok, refl, sym, ap, ap₂, ◌∙◌, subst, arith}
use Rattle.std.proofs.lemmas.List.{map-append}
use Rattle.au_term.specs.Term.{Term, Terms, more, count, all_bound}
use Rattle.au_model.specs.Terms.Each.{Each}
use Rattle.au_model.specs.Terms.Lists.{terms_from}
use Rattle.au_model.specs.Terms.Named.{NamedTerm}
use Rattle.au_model.specs.Terms.Substitutions.{Substitution, apply, apply_all, value_of, resolve}
use Rattle.au_model.specs.Terms.Unifier.{Equations, equations_bound}
use Rattle.au_model.proofs.EachLemmas.{IfFound, found_row}
use Rattle.au_model.proofs.VariableBoundLemmas.{apply-below}
use Rattle.run_model.specs.Goals.BuiltinAnswers.{Answer, reply_of}
use Rattle.run_model.specs.Goals.Builtins.{builtins}
use Rattle.run_model.specs.Goals.Control.{is_named}
use Rattle.run_model.specs.Goals.Outcomes.{Solution, Solutions, Replies}
use Rattle.run_model.specs.Machine.Heights.{after_reply}
use Rattle.run_model.proofs.BuiltinRowBoundLemmas.{IsSolutionBelow, IsOutcomeBelow, IsRowBelow}
use Rattle.run_model.proofs.BuiltinBoundLemmas.{builtins_below}
use Rattle.clause_compile.specs.Places.{CodeView}
use Rattle.binding_array.specs.declared.cell.BindingCell.{BindingCell}
use Rattle.cell_store.specs.Arguments.{AreArguments, argument_at, arguments_from, arguments_in}
use Rattle.cell_store.specs.StoreView.{StoreView, IsValidStore, meaning, substitution, text_in, value_term}
use Rattle.cell_store.specs.declared.arguments.Arguments.{Arguments}
use Rattle.cell_store.proofs.WritingLemmas.{how_many}
use Rattle.std_builtins.specs.Answers.{solution_meant}
use Rattle.std_builtins.specs.Meanings.{answer_of}
use Rattle.std_builtins.specs.Rows.{IsRowOf}
use Rattle.std_builtins.specs.declared.answer.Solution.{Solution as Found}
use Rattle.std_builtins.specs.declared.table.Builtin.{Builtin}
use Rattle.std_builtins.proofs.Fixed.{IsFixed, IsAnswerFixed, answer_fixed}
use Rattle.region_split.specs.ClauseTrials.{entries_at, IsOptionalPosition}
use Rattle.region_split.specs.Regions.{RegionView, entries_of, continuation_here}
use Rattle.region_split.specs.Solutions.{equation_meant, IsEquationAt}
use Rattle.region_split.specs.StackOperations.{solution_here}
use Rattle.region_split.specs.SolutionTrials.{AreSolutionsHere, Solves}
use Rattle.region_split.specs.declared.frame.Position.{Position}
use Rattle.region_control.specs.GoalForms.{argument_terms, AreArgumentsIn}
use Rattle.region_control.specs.declared.control.GoalPlace.{GoalPlace}
use Rattle.region_control.specs.declared.forms.GoalForm.{GoalForm}
use Rattle.region_control.specs.Replies.{Leaves, LeavesOutcome}
use Rattle.region_control.specs.declared.replies.AfterGoal.{AfterGoal}
use Rattle.region_control.specs.declared.replies.AfterGoal.TheVariants.{At, Failed}
use Rattle.region_control.proofs.FindallEndLemmas.{resolved_stays}
use Rattle.region_builtins.specs.CopiedSolutions.{copied_equation, copied_solution}

-- arguments one after another
from_more : (code : CodeView) (base i at : ℕ) → arguments_from code base (suc i) at ≡ arguments_from code base i at ++ argument_at code base (at + i) ∷ []
from_more code base zero at = ap (λ j. argument_at code base j ∷ []) (let e : at ≡ at + 0 = omega arith in e)
from_more code base (suc i) at =
    let e : at + 1 + i ≡ at + suc i = omega arith in
    ap (λ ts. argument_at code base at ∷ ts) (from_more code base i (at + 1) ∙ ap (λ j. arguments_from code base i (at + 1) ++ argument_at code base j ∷ []) e)

pub one_more : (st : StoreView) (a : Arguments) (i : ℕ) (items now : List Term) (t : Term) (c : BindingCell) → items ≡ map (resolve (substitution st)) (arguments_from (text_in st) a.base i a.at) → now ≡ items ++ t ∷ [] → t ≡ meaning st c → value_term st c ≡ argument_at (text_in st) a.base (a.at + i)
    → now ≡ map (resolve (substitution st)) (arguments_from (text_in st) a.base (i + 1) a.at)
one_more st a i items now t c before is means e =
    let f = resolve (substitution st) in
    let n : i + 1 ≡ suc i = omega arith in
    is ∙ (ap₂ (λ xs u. xs ++ u ∷ []) before (means ∙ ap f e)
    ∙ sym (ap (λ m. map f (arguments_from (text_in st) a.base m a.at)) n
    ∙ (ap (map f) (from_more (text_in st) a.base i a.at) ∙ map-append f (arguments_from (text_in st) a.base i a.at) (argument_at (text_in st) a.base (a.at + i) ∷ []))))

list_resolved : (s : Substitution) (ts : List Term) → terms_from (map (resolve s) ts) ≡ apply_all (value_of s) (terms_from ts)
list_resolved s [] = refl
list_resolved s (t ∷ ts) = ap (more (resolve s t)) (list_resolved s ts)

pub all_resolved : (st : StoreView) (a : Arguments) (i : ℕ) (items : List Term) → i ≡ a.count → items ≡ map (resolve (substitution st)) (arguments_from (text_in st) a.base i a.at) → terms_from items ≡ argument_terms st a
all_resolved st a i items n e = ap terms_from (e ∙ ap (λ m. map (resolve (substitution st)) (arguments_from (text_in st) a.base m a.at)) n) ∙ list_resolved (substitution st) (arguments_in (text_in st) a)

-- arguments are bound no further, and their variables are there
all_stay : (st : StoreView) (ts : List Term) → IsValidStore st → apply_all (value_of (substitution st)) (apply_all (value_of (substitution st)) (terms_from ts)) ≡ apply_all (value_of (substitution st)) (terms_from ts)
all_stay st [] valid = refl
all_stay st (t ∷ ts) valid = ap₂ more (resolved_stays st t valid) (all_stay st ts valid)

all_below : (st : StoreView) (base n at : ℕ) → IsValidStore st → AreArguments (text_in st) st.now.next base n at → all_bound (apply_all (value_of (substitution st)) (terms_from (arguments_from (text_in st) base n at))) ≤ st.now.next
all_below st base zero at valid h = omega arith
all_below st base (suc n) at valid h =
    let first = apply-below (value_of (substitution st)) st.now.next st.now.next valid.below (argument_at (text_in st) base at) h.0.below in
    let rest = all_below st base n (at + 1) valid h.1 in
    omega (arith, first, rest)

-- copied sides
sides_here : (code : CodeView) (next m : ℕ) (es : Equations) → equations_bound es ≤ m → Each (IsEquationAt code next m) (map copied_equation es)
sides_here code next m [] h = tt
sides_here code next m (e ∷ es) h = ((omega (arith, h), omega (arith, h)), sides_here code next m es (omega (arith, h)))

sides_same : (s : Substitution) (es : Equations) → Each (λ e. (apply (value_of s) e.0 ≡ e.0) × (apply (value_of s) e.1 ≡ e.1)) es → map (λ (e : Term × Term). (resolve s e.0, resolve s e.1)) es ≡ es
sides_same s [] h = refl
sides_same s (e ∷ es) h = ap₂ (λ (q : Term × Term) qs. q ∷ qs) (pair_same _ _ e.0 e.1 h.0.0 h.0.1) (sides_same s es h.1)
  where
    pair_same : (a b c d : Term) → a ≡ c → b ≡ d → ◌≡◌ {A = Term × Term} (a, b) (c, d)
    pair_same a b c d h k = cc

module _ (r : RegionView) (form : GoalForm) (b : Builtin) (name : List ℕ) (row : IsRowOf name form.arguments.count b) (there : AreArgumentsIn r.store form.arguments) (valid : IsValidStore r.store) (ts : Terms) (next : ℕ) (seen : ts ≡ argument_terms r.store form.arguments) (number : next ≡ r.store.now.next) where
  abbrev answer : Answer
  answer = answer_of b (argument_terms r.store form.arguments) r.store.now.next

  same_answer : answer_of b ts next ≡ answer
  same_answer = ap₂ (answer_of b) seen number

  counted : count (argument_terms r.store form.arguments) ≡ form.arguments.count
  counted = how_many (substitution r.store) (text_in r.store) form.arguments.base form.arguments.count form.arguments.at

  rows_below : (ss : List Solution) → answer ≡ Ok ss → Each (IsSolutionBelow r.store.now.next) ss
  rows_below ss is =
      let found = subst (IfFound (λ c. IsRowBelow c × (is_named name form.arguments.count c ≡ true))) row.row (found_row IsRowBelow (is_named name form.arguments.count) builtins builtins_below) in
      subst (λ a. IsOutcomeBelow r.store.now.next (Replies (reply_of name form.arguments.count a))) is
      (found.0 (argument_terms r.store form.arguments) r.store.now.next counted (all_below r.store form.arguments.base form.arguments.count form.arguments.at valid there.there))

  rows_fixed : (ss : List Solution) → answer ≡ Ok ss → Each (IsFixed (value_of (substitution r.store))) ss
  rows_fixed ss is = subst (IsAnswerFixed (value_of (substitution r.store))) is
      (answer_fixed b (argument_terms r.store form.arguments) r.store.now.next (value_of (substitution r.store)) (let k = row.count in omega (arith, counted, k)) (all_stay r.store (arguments_in (text_in r.store) form.arguments) valid) valid.new)

  all_here : (found : List Found) → Each (IsSolutionBelow r.store.now.next) (map solution_meant found) → AreSolutionsHere r (map copied_solution (map solution_meant found))
  all_here [] h = tt
  all_here (s ∷ found) h = ((sides_here (text_in r.store) r.store.now.next (r.store.now.next + s.vars) s.equations.items h.0.0, tt), all_here found h.1)

  all_same : (found : List Found) → Each (IsFixed (value_of (substitution r.store))) (map solution_meant found) → map (solution_here r) (map copied_solution (map solution_meant found)) ≡ map solution_meant found
  all_same [] h = refl
  all_same (s ∷ found) h =
      ap₂ (λ (x : Solution) xs. x ∷ xs)
      (ap (λ es. (let x : Solution = record { equations = es; goals = []; removes = None; variables = s.vars } in x)) (meant_sides s.equations.items ∙ sides_same (substitution r.store) s.equations.items h.0.sides))
      (all_same found h.1)
    where
      meant_sides : (es : Equations) → map (equation_meant (text_in r.store) r.store.now.bound) (map copied_equation es) ≡ map (λ (e : Term × Term). (resolve (substitution r.store) e.0, resolve (substitution r.store) e.1)) es
      meant_sides [] = refl
      meant_sides (e ∷ es) = ap (λ qs. (resolve (substitution r.store) e.0, resolve (substitution r.store) e.1) ∷ qs) (meant_sides es)

  module _ (found : List Found) (is : answer_of b ts next ≡ Ok (map solution_meant found)) where
    known : answer ≡ Ok (map solution_meant found)
    known = sym same_answer ∙ is

    pub found_here : AreSolutionsHere r (map copied_solution (map solution_meant found))
    found_here = all_here found (rows_below (map solution_meant found) known)

    module _ (new : RegionView) (place : GoalPlace) (p : Option Position) (solves : Solves r new (map copied_solution (map solution_meant found)) place.after p) where
      entries : (named : List NamedTerm) → after_reply (Solutions (map solution_meant found)) (continuation_here named r place.after) (entries_of named r) ≡ entries_at named new p ++ entries_of named new
      entries named = ap (λ ss. after_reply (Solutions ss) (continuation_here named r place.after) (entries_of named r)) (sym (all_same found (rows_fixed (map solution_meant found) known))) ∙ solves.entries named

      by_answer : (after : AfterGoal) → Leaves (λ named. after_reply (Solutions (map solution_meant found)) (continuation_here named r place.after) (entries_of named r)) new after → LeavesOutcome r new (Replies (reply_of name form.arguments.count answer)) place after
      by_answer after k = subst (λ a. LeavesOutcome r new (Replies (reply_of name form.arguments.count a)) place after) (sym known) k

      pub solved_at : (q : Position) → p ≡ Some q → LeavesOutcome r new (Replies (reply_of name form.arguments.count answer)) place (At q)
      solved_at q e = by_answer (At q) ((λ named. entries named ∙ ap (λ o. entries_at named new o ++ entries_of named new) e), subst (IsOptionalPosition new (length new.choices)) e solves.position)

      pub solved_none : p ≡ None → LeavesOutcome r new (Replies (reply_of name form.arguments.count answer)) place Failed
      solved_none e = by_answer Failed (λ named. entries named ∙ ap (λ o. entries_at named new o ++ entries_of named new) e)
