-- The error term of each fault (ISO/IEC 13211-1, 7.12.2).
use Rattle.std.specs.Prelude.{ℕ, List, codes}
use Rattle.au_term.specs.Term.{Term}
use Rattle.au_model.specs.Terms.Forms.{indicator}
use Rattle.au_model.specs.Terms.ErrorTerms.{instantiation_error, type_error, domain_error, existence_error, permission_error, representation_error, evaluation_error, syntax_error}
use Rattle.au_model.specs.declared.fault.TypeName.{TypeName}
use Rattle.au_model.specs.declared.fault.TypeName.TheVariants.{Callable, Atom, Atomic, Integer, CompoundTerm, ProperList, Pair, Character, PredicateIndicator, Evaluable}
use Rattle.au_model.specs.declared.fault.DomainName.{DomainName}
use Rattle.au_model.specs.declared.fault.DomainName.TheVariants.{Order, NotLessThanZero, NonEmptyList, OperatorPriority, OperatorSpecifier, ExitStatus}
use Rattle.au_model.specs.declared.fault.PermissionName.{PermissionName}
use Rattle.au_model.specs.declared.fault.PermissionName.TheVariants.{ModifyStaticProcedure, AccessPrivateProcedure, ModifyOperator, CreateOperator}
use Rattle.au_model.specs.declared.fault.LimitName.{LimitName}
use Rattle.au_model.specs.declared.fault.LimitName.TheVariants.{MaxArity, CharacterCode}
use Rattle.au_model.specs.declared.fault.EvalName.{EvalName}
use Rattle.au_model.specs.declared.fault.EvalName.TheVariants.{IntOverflow, ZeroDivisor, Undefined}
use Rattle.au_model.specs.declared.fault.Fault.{Fault}
use Rattle.au_model.specs.declared.fault.Fault.TheVariants.{Instantiation, WrongType, Domain, Existence, Permission, Representation, Evaluation, Syntax}

abbrev pub type_word : TypeName → List ℕ
type_word Callable = codes "callable"
type_word Atom = codes "atom"
type_word Atomic = codes "atomic"
type_word Integer = codes "integer"
type_word CompoundTerm = codes "compound"
type_word ProperList = codes "list"
type_word Pair = codes "pair"
type_word Character = codes "character"
type_word PredicateIndicator = codes "predicate_indicator"
type_word Evaluable = codes "evaluable"

abbrev pub domain_word : DomainName → List ℕ
domain_word Order = codes "order"
domain_word NotLessThanZero = codes "not_less_than_zero"
domain_word NonEmptyList = codes "non_empty_list"
domain_word OperatorPriority = codes "operator_priority"
domain_word OperatorSpecifier = codes "operator_specifier"
domain_word ExitStatus = codes "exit_status"

abbrev pub permission_error_of : PermissionName → Term → Term
permission_error_of ModifyStaticProcedure culprit = permission_error (codes "modify") (codes "static_procedure") culprit
permission_error_of AccessPrivateProcedure culprit = permission_error (codes "access") (codes "private_procedure") culprit
permission_error_of ModifyOperator culprit = permission_error (codes "modify") (codes "operator") culprit
permission_error_of CreateOperator culprit = permission_error (codes "create") (codes "operator") culprit

abbrev pub limit_word : LimitName → List ℕ
limit_word MaxArity = codes "max_arity"
limit_word CharacterCode = codes "character_code"

abbrev pub evaluation_word : EvalName → List ℕ
evaluation_word IntOverflow = codes "int_overflow"
evaluation_word ZeroDivisor = codes "zero_divisor"
evaluation_word Undefined = codes "undefined"

abbrev pub error_term_of : Fault → Term
error_term_of Instantiation = instantiation_error
error_term_of (WrongType type culprit) = type_error (type_word type) culprit
error_term_of (Domain domain culprit) = domain_error (domain_word domain) culprit
error_term_of (Existence name arity) = existence_error (indicator name arity)
error_term_of (Permission permission culprit) = permission_error_of permission culprit
error_term_of (Representation limit) = representation_error (limit_word limit)
error_term_of (Evaluation error) = evaluation_error (evaluation_word error)
error_term_of Syntax = syntax_error (codes "illegal_number")
