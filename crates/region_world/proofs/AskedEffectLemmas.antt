-- The effects for which goals ask, and what these come to.
use Rattle.std.proofs.Common.{◌≡◌, ◌∙◌, ℕ, List, Option, Some, None, refl, sym, ap, ap₂, arith}
use Rattle.std.specs.Prelude.{codes}
use Rattle.au_term.specs.Term.{Term, Terms, end, more, count, term_at, arguments, argument_count}
use Rattle.au_model.specs.Terms.Forms.{name_of}
use Rattle.run_model.specs.Goals.Outcomes.{Reply}
use Rattle.run_model.specs.Goals.Worlds.{World, WorldConstruct, Statics, by_world_construct, dynamic_call, effect_on, world_construct_of, static_among, world_step}
use Rattle.run_model.specs.Programs.Clauses.{Clause as ClauseTerms}
use Rattle.run_model.specs.Programs.Databases.{clauses_of}
use Rattle.run_model.proofs.ConstructLemmas.{none_of}
use Rattle.clause_compile.specs.AtomNumbers.{name_at}
use Rattle.clause_compile.specs.declared.event.Effect.{Effect}
use Rattle.clause_compile.specs.declared.event.Effect.TheVariants as effect
use Rattle.binding_array.specs.declared.cell.BindingCell.{BindingCell}
use Rattle.cell_store.specs.StoreView.{StoreView, meaning, text_in}
use Rattle.effect_gate.specs.Effects.{effect_answer}
use Rattle.region_control.specs.GoalForms.{IsFormOf, argument_terms}
use Rattle.region_control.specs.declared.forms.GoalForm.{GoalForm}
use Rattle.region_world.specs.AskedEffects.{AsksWorld, IsGoalOf}

no_term : (ts : Terms) → count ts ≡ 0 → ts ≡ end
no_term end h = refl
no_term (more t ts) h = absurd (omega (arith, h))

one_term : (ts : Terms) → count ts ≡ 1 → ts ≡ more (term_at 0 ts) end
one_term end h = absurd (omega (arith, h))
one_term (more t end) h = refl
one_term (more t (more u ts)) h = absurd (omega (arith, h))

two_terms : (ts : Terms) → count ts ≡ 2 → ts ≡ more (term_at 0 ts) (more (term_at 1 ts) end)
two_terms end h = absurd (omega (arith, h))
two_terms (more t ts) h = ap (more t) (one_term ts (omega (arith, h)))

three_terms : (ts : Terms) → count ts ≡ 3 → ts ≡ more (term_at 0 ts) (more (term_at 1 ts) (more (term_at 2 ts) end))
three_terms end h = absurd (omega (arith, h))
three_terms (more t ts) h = ap (more t) (two_terms ts (omega (arith, h)))

-- a goal of a form
module _ (st : StoreView) (form : GoalForm) (name : List ℕ) (named : name_at (text_in st).names form.name ≡ name) (goal : BindingCell) (is : IsFormOf st goal form) where
  abbrev given : Terms
  given = argument_terms st form.arguments

  many : (n : ℕ) → form.arguments.count ≡ n → count given ≡ n
  many n e = ap count (sym is.arguments) ∙ (is.count ∙ e)

  pub asks_alone : form.arguments.count ≡ 0 → IsGoalOf name end (meaning st goal)
  asks_alone e = (is.name ∙ named, is.arguments ∙ no_term given (many 0 e))

  pub asks_with : (t : Term) → form.arguments.count ≡ 1 → t ≡ term_at 0 given → IsGoalOf name (more t end) (meaning st goal)
  asks_with t e a = (is.name ∙ named, is.arguments ∙ (one_term given (many 1 e) ∙ ap (λ x. more x end) (sym a)))

  pub asks_with_two : (t u : Term) → form.arguments.count ≡ 2 → t ≡ term_at 0 given → u ≡ term_at 1 given → IsGoalOf name (more t (more u end)) (meaning st goal)
  asks_with_two t u e a b = (is.name ∙ named, is.arguments ∙ (two_terms given (many 2 e) ∙ ap₂ (λ x y. more x (more y end)) (sym a) (sym b)))

  pub asks_with_three : (t u v : Term) → form.arguments.count ≡ 3 → t ≡ term_at 0 given → u ≡ term_at 1 given → v ≡ term_at 2 given → IsGoalOf name (more t (more u (more v end))) (meaning st goal)
  asks_with_three t u v e a b c = (
    is.name ∙ named,
    is.arguments
        ∙ (three_terms given (many 3 e)
        ∙ (ap₂ (λ x y. more x (more y (more (term_at 2 given) end))) (sym a) (sym b)
        ∙ ap (λ z. more t (more u (more z end))) (sym c))),
  )

-- what a goal comes to by its row and its arguments
abbrev by_row : Option WorldConstruct → Statics → Terms → Term → ℕ → World → World × Reply
by_row (Some c) statics ts goal next w = c.effect statics ts next w
by_row None statics ts goal next w = (w, dynamic_call (clauses_of w.database (name_of goal) (argument_count goal)) goal next)

as_row : (o : Option WorldConstruct) (statics : Statics) (goal : Term) (next : ℕ) (w : World) → by_world_construct o statics goal next w ≡ by_row o statics (arguments goal) goal next w
as_row (Some c) statics goal next w = refl
as_row None statics goal next w = refl

asked_by : (statics : Statics) (w : World) (goal : Term) (next : ℕ) (name : List ℕ) (ts : Terms) → IsGoalOf name ts goal → effect_on statics goal next w ≡ by_row (world_construct_of name (count ts)) statics ts goal next w
asked_by statics w goal next name ts h =
    as_row (world_construct_of (name_of goal) (argument_count goal)) statics goal next w
    ∙ ap₂ (λ n us. by_row (world_construct_of n (count us)) statics us goal next w) h.0 h.1

-- a goal asks the world for an effect
asked-as : (statics : Statics) (w : World) (goal : Term) (e : Effect) (next : ℕ) → AsksWorld goal e → effect_on statics goal next w ≡ effect_answer statics e next w
asked-as statics w goal (effect.Write a) next h = asked_by statics w goal next (codes "write") (more a end) h
asked-as statics w goal (effect.Writeq a) next h = asked_by statics w goal next (codes "writeq") (more a end) h
asked-as statics w goal (effect.WriteCanonical a) next h = asked_by statics w goal next (codes "write_canonical") (more a end) h
asked-as statics w goal effect.Nl next h = asked_by statics w goal next (codes "nl") end h
asked-as statics w goal (effect.PutChar a) next h = asked_by statics w goal next (codes "put_char") (more a end) h
asked-as statics w goal (effect.Asserta a) next h = asked_by statics w goal next (codes "asserta") (more a end) h
asked-as statics w goal (effect.Assertz a) next h = asked_by statics w goal next (codes "assertz") (more a end) h
asked-as statics w goal (effect.Retract a) next h = asked_by statics w goal next (codes "retract") (more a end) h
asked-as statics w goal (effect.Abolish a) next h = asked_by statics w goal next (codes "abolish") (more a end) h
asked-as statics w goal (effect.Clause a b) next h = asked_by statics w goal next (codes "clause") (more a (more b end)) h
asked-as statics w goal (effect.Op a b c) next h = asked_by statics w goal next (codes "op") (more a (more b (more c end))) h
asked-as statics w goal (effect.CurrentOp a b c) next h = asked_by statics w goal next (codes "current_op") (more a (more b (more c end))) h
asked-as statics w goal effect.Halt next h = asked_by statics w goal next (codes "halt") end h
asked-as statics w goal (effect.HaltWith a) next h = asked_by statics w goal next (codes "halt") (more a end) h
asked-as statics w goal (effect.Call a) next h =
    ap (λ o. by_world_construct o statics goal next w) (none_of (world_construct_of (name_of goal) (argument_count goal)) h.1)
    ∙ ap (λ t. (w, dynamic_call (clauses_of w.database (name_of t) (argument_count t)) t next)) (sym h.0)
asked-as statics w goal (effect.Remove a) next h = absurd h
asked-as statics w goal (effect.Answer a b) next h = absurd h
asked-as statics w goal (effect.End a) next h = absurd h

-- by the text's clauses
pub stepped-as : (statics : Statics) (clauses : List ClauseTerms) (w : World) (goal : Term) (e : Effect) (next : ℕ) → statics ≡ static_among clauses → AsksWorld goal e → world_step clauses goal next w ≡ effect_answer statics e next w
stepped-as statics clauses w goal e next same h = ap (λ s. effect_on s goal next w) (sym same) ∙ asked-as statics w goal e next h
