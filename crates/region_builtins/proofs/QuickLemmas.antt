-- Answers by what values are found to be.
use Rattle.std.proofs.Common.{◌≡◌, ℕ, pos, false, Bool, cond, [], ◌∷◌, sym, ap, ap₂, ◌∙◌}
use Rattle.au_term.specs.Term.{Term, IntTerm, argument_count}
use Rattle.run_model.specs.Goals.BuiltinAnswers.{one_solution}
use Rattle.run_model.specs.Goals.TermParts.{functor_answer, functor_built, functor_name}
use Rattle.run_model.specs.Goals.TermTests.{is_variable}

-- the name and the number of arguments of a term that is no variable
pub functor_known : (t name arity found : Term) (next n : ℕ) → is_variable t ≡ false → found ≡ functor_name t → n ≡ argument_count t → functor_answer t name arity next ≡ one_solution ((name, found) ∷ (arity, IntTerm (pos n)) ∷ [])
functor_known t name arity found next n bound named counted =
    ap (λ (b : Bool). cond b (functor_built t next name arity) (one_solution ((name, functor_name t) ∷ (arity, IntTerm (pos (argument_count t))) ∷ []))) bound
    ∙ ap₂ (λ u m. one_solution ((name, u) ∷ (arity, IntTerm (pos m)) ∷ [])) (sym named) (sym counted)
