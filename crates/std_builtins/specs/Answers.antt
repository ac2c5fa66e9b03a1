-- What a call answers.
use Rattle.std.specs.Prelude.{◌≡◌, List, [], map, None, Result, Ok, Err, Vec}
use Rattle.std.specs.Global.{Global}
use Rattle.au_term.specs.Term.{Term, AtomTerm}
use Rattle.au_model.specs.Terms.Faults.{error_term_of}
use Rattle.au_model.specs.Terms.Forms.{nil_name}
use Rattle.au_model.specs.Terms.ListForms.{ProperList}
use Rattle.run_model.specs.Goals.Outcomes.{Solution as SolutionTerms}
use Rattle.run_model.specs.Goals.BuiltinAnswers.{Answer}
use Rattle.run_model.specs.Goals.TermParts.{built_from}
use Rattle.std_builtins.specs.declared.answer.Solution.{Solution}
use Rattle.std_builtins.specs.declared.answer.BuiltinRefusal.{BuiltinRefusal}
use Rattle.std_builtins.specs.declared.answer.BuiltinRefusal.TheVariants.{Fault, NoMemory}

abbrev pub solution_meant : Solution → SolutionTerms
solution_meant s = record { equations = s.equations.items; goals = []; removes = None; variables = s.vars }

-- the solutions or the error of an answer, or running out of memory
abbrev pub IsAnswer : Answer → Result (Vec Solution Global) BuiltinRefusal → Type 0
IsAnswer a (Ok solutions) = a ≡ Ok (map solution_meant solutions.items)
IsAnswer a (Err (Fault fault)) = a ≡ Err (error_term_of fault)
IsAnswer a (Err NoMemory) = Unit {0}

-- a variable built from a list of items
abbrev pub built_from_list : Term → List Term → Answer
built_from_list t ts = built_from t (AtomTerm nil_name) (ProperList ts)
