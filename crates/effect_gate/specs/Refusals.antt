-- What functions answer that refuse an effect with an error.
use Rattle.std.specs.Prelude.{◌≡◌, Bool, true, ◌&&◌, ◌==◌, codes, List, map, Option, Some, None, Result, Ok, Err}
use Rattle.au_term.specs.Term.{Term, argument_count}
use Rattle.au_model.specs.Terms.Faults.{error_term_of}
use Rattle.au_model.specs.Terms.Forms.{name_of, is_callable, same_name}
use Rattle.au_model.specs.declared.types.Style.{Style}
use Rattle.au_model.specs.declared.types.Style.TheVariants.{Plain, Quoted, Canonical}
use Rattle.run_model.specs.Programs.Databases.{Database, NumberedClause, clauses_of}
use Rattle.run_model.specs.Programs.DatabaseChanges.{with_first_clause, with_last_clause}
use Rattle.run_model.specs.Programs.Bodies.{body_of}
use Rattle.run_model.specs.Programs.Clauses.{Clause}
use Rattle.clause_compile.specs.CompiledClauses.{shown, IsNumberedClause}
use Rattle.clause_compile.specs.declared.event.Effect.{Effect}
use Rattle.clause_compile.specs.declared.event.Effect.TheVariants as effect
use Rattle.proc_index.specs.Keys.{head_key}
use Rattle.dyn_clauses.specs.DatabaseView.{matching_numbered}
use Rattle.std.specs.Option.{option_map}
use Rattle.effect_gate.specs.Effects.{IsEffectApplied}
use Rattle.effect_gate.specs.declared.refusal.Refusal.{Refusal}
use Rattle.effect_gate.specs.declared.refusal.Refusal.TheVariants.{Fault, NoMemory}
use Rattle.effect_gate.specs.declared.assertion.End.{End}
use Rattle.effect_gate.specs.declared.assertion.End.TheVariants.{First, Last}
use Rattle.effect_gate.specs.declared.world.World.{World}
use Rattle.effect_gate.specs.declared.world.Applied.{Applied}
use Rattle.effect_gate.specs.declared.world.Applied.TheVariants.{Raise, Clauses, Fails}

-- no error and a value that is so, or this error
abbrev pub IsValueOrError : {X : Type 0} → Option Term → (X → Type 0) → Result X Refusal → Type 0
IsValueOrError e P (Ok x) = (e ≡ None) × P x
IsValueOrError e P (Err (Fault fault)) = e ≡ Some (error_term_of fault)
IsValueOrError e P (Err NoMemory) = Unit {0}

-- no error, or this one
abbrev pub IsPassedOrError : Option Term → Result (Unit {0}) Refusal → Type 0
IsPassedOrError e (Ok u) = e ≡ None
IsPassedOrError e (Err (Fault fault)) = e ≡ Some (error_term_of fault)
IsPassedOrError e (Err NoMemory) = Unit {0}

-- an effect was applied, or its goal raises an error
abbrev pub IsEffectDone : Effect → World → World → Result Applied Refusal → Type 0
IsEffectDone e old new (Ok applied) = IsEffectApplied e old new applied
IsEffectDone e old new (Err (Fault fault)) = IsEffectApplied e old new (Raise fault)
IsEffectDone e old new (Err NoMemory) = Unit {0}

abbrev pub writing : Style → Term → Effect
writing Plain t = effect.Write t
writing Quoted t = effect.Writeq t
writing Canonical t = effect.WriteCanonical t

abbrev pub assertion : End → Term → Effect
assertion First t = effect.Asserta t
assertion Last t = effect.Assertz t

-- a clause put at an end of its procedure
abbrev pub adding : End → Database → Clause → Database
adding First = with_first_clause
adding Last = with_last_clause

-- the clauses with which a head may unify, or none where its procedure is unknown
abbrev pub may_unify_with : Database → Term → Option (List NumberedClause)
may_unify_with db head = option_map (matching_numbered (head_key head)) (clauses_of db (name_of head) (argument_count head))

abbrev pub AreLookedUp : Option (List NumberedClause) → Applied → Type 0
AreLookedUp found Fails = found ≡ None
AreLookedUp found (Clauses cs) = found ≡ Some (map shown cs.items)
AreLookedUp found applied = ⊥

-- a refusal is this error, or running out of memory
abbrev pub IsErrorRefusal : Option Term → Refusal → Type 0
IsErrorRefusal e (Fault fault) = e ≡ Some (error_term_of fault)
IsErrorRefusal e NoMemory = Unit {0}

-- whether a term is a head and a body
abbrev pub has_body : Term → Bool
has_body t = same_name (name_of t) (codes ":-") && argument_count t == 2

-- the clause of a head and a body, as it is kept
abbrev pub IsKeptClause : Term → Term → Clause → Type 0
IsKeptClause head body c = (is_callable head ≡ true) × IsNumberedClause head (body_of body) c
