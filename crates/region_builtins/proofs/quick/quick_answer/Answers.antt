use Rattle.std.proofs.Common.{◌≡◌, ℕ, sym, ap, ap₂, ◌∙◌, subst}
use Rattle.au_term.specs.Term.{Term, Terms, term_at}
use Rattle.run_model.specs.Goals.TermParts.{functor_answer}
use Rattle.cell_store.specs.StoreView.{StoreView, meaning}
use Rattle.std_builtins.specs.Meanings.{answer_of}
use Rattle.std_builtins.specs.declared.table.Builtin.{Builtin}
use Rattle.std_builtins.specs.declared.table.Builtin.TheVariants.{Functor}
use Rattle.region_control.specs.GoalForms.{argument_terms}
use Rattle.region_builtins.specs.QuickAnswers.{IsQuickAnswer}
use Rattle.region_builtins.specs.declared.quick.QuickAnswer.{QuickAnswer}
use Rattle.region_builtins.proofs.quick.quick_answer.Goals as goal

functor_goal : (st : StoreView) (b : Builtin) (ts : Terms) (t name arity : Term) (q : QuickAnswer) → b ≡ Functor → t ≡ term_at 0 ts → name ≡ term_at 1 ts → arity ≡ term_at 2 ts
    → ((next : ℕ) → IsQuickAnswer st (functor_answer t name arity next) q) → (next : ℕ) → IsQuickAnswer st (answer_of b ts next) q
functor_goal st b ts t name arity q is first second third known next =
    subst (λ x. IsQuickAnswer st x q)
    (ap (λ u. functor_answer u name arity next) first
    ∙ (ap₂ (λ u v. functor_answer (term_at 0 ts) u v next) second third
    ∙ sym (ap (λ x. answer_of x ts next) is)))
    (known next)

pub returns-in-Functor : goal.returns-in-Functor
returns-in-Functor c =
    let st = c.args.store.now in
    functor_goal st c.args.builtin (argument_terms st c.args.arguments) (meaning st c.argument-term.result) (meaning st c.argument-name.result) (meaning st c.argument-in-Functor.result) c.functor_found.result
    c.in-Functor.is c.argument-term.ensures.term c.argument-name.ensures.term c.argument-in-Functor.ensures.term c.functor_found.ensures
