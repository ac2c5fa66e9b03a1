-- Error terms (ISO/IEC 13211-1, 7.12.2): error(E, N/A), N/A being the goal that raised it.
use Rattle.std.specs.Prelude.{ℕ, List, codes}
use Rattle.au_term.specs.Term.{Term, AtomTerm, Compound, end, more}
use Rattle.au_model.specs.Terms.Forms.{unary, binary, indicator}

abbrev pub error_term : Term → List ℕ → ℕ → Term
error_term e name arity = binary (codes "error") e (indicator name arity)

abbrev pub instantiation_error : Term
instantiation_error = AtomTerm (codes "instantiation_error")

abbrev pub type_error : List ℕ → Term → Term
type_error type culprit = binary (codes "type_error") (AtomTerm type) culprit

abbrev pub existence_error : Term → Term
existence_error procedure = binary (codes "existence_error") (AtomTerm (codes "procedure")) procedure

abbrev pub representation_error : List ℕ → Term
representation_error limit = unary (codes "representation_error") (AtomTerm limit)

abbrev pub domain_error : List ℕ → Term → Term
domain_error domain culprit = binary (codes "domain_error") (AtomTerm domain) culprit

abbrev pub permission_error : List ℕ → List ℕ → Term → Term
permission_error action object culprit = Compound (codes "permission_error") (more (AtomTerm action) (more (AtomTerm object) (more culprit end)))

abbrev pub evaluation_error : List ℕ → Term
evaluation_error error = unary (codes "evaluation_error") (AtomTerm error)

abbrev pub syntax_error : List ℕ → Term
syntax_error error = unary (codes "syntax_error") (AtomTerm error)
