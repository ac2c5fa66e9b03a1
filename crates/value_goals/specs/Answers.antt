-- Answers of goals on values.
use Rattle.std.specs.Prelude.{◌≡◌, Err}
use Rattle.au_model.specs.Terms.Faults.{error_term_of}
use Rattle.run_model.specs.Goals.BuiltinAnswers.{Answer}
use Rattle.arith_eval.specs.declared.evaluation.EvalRefusal.{EvalRefusal}
use Rattle.arith_eval.specs.declared.evaluation.EvalRefusal.TheVariants.{Fault, NoMemory}

-- why there are no values
abbrev pub IsRefusedAnswer : Answer → EvalRefusal → Type 0
IsRefusedAnswer answer (Fault fault) = answer ≡ Err (error_term_of fault)
IsRefusedAnswer answer NoMemory = Unit {0}
