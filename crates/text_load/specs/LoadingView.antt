-- What is loaded of a text, as it is kept.
use Rattle.std.specs.Prelude.{◌≡◌, ℕ, true, false, List, map}
use Rattle.au_term.specs.Term.{argument_count}
use Rattle.au_model.specs.Terms.Each.{Each}
use Rattle.au_model.specs.Terms.Forms.{name_of}
use Rattle.run_model.specs.Programs.Clauses.{Clause, is_defined}
use Rattle.dyn_clauses.specs.declared.indicator.Indicator.{Indicator}
use Rattle.dyn_clauses.specs.DatabaseView.{is_static}
use Rattle.text_load.specs.LoadedTexts.{is_declared}

-- the set has these procedures
abbrev pub IsSetOf : List Indicator → List Indicator → Type 0
IsSetOf keys is = (i : Indicator) → is_static keys i ≡ is_declared is i.name i.arity

-- the set has the procedures of these clauses
abbrev pub AreProceduresOf : List Indicator → List Clause → Type 0
AreProceduresOf keys clauses = (i : Indicator) → is_static keys i ≡ is_defined clauses i.name i.arity

-- no dynamic procedure has a static clause, and each dynamic clause is of a dynamic procedure
pub record AreByDeclaration (declared : List Indicator) (statics dynamics : List Clause) : Type 0 where
  pub static : (i : Indicator) → is_declared declared i.name i.arity ≡ true → is_defined statics i.name i.arity ≡ false
  pub dynamic : Each (λ c. is_declared declared (name_of c.head) (argument_count c.head) ≡ true) dynamics
