-- Terms as they are written.
use Rattle.std.specs.Prelude.{◌≡◌, ℕ, List, [], ◌∷◌, codes, pos, negsuc, refl}
use Rattle.au_term.specs.Term.{Term, VarTerm, IntTerm, AtomTerm}
use Rattle.au_model.specs.Terms.Forms.{unary, binary, list_term}
use Rattle.au_model.specs.Syntax.Operators.{OperatorTable, KindYf, with_operator, initial_operators}
use Rattle.au_model.specs.Writing.WrittenTerms.{written_term, written_as_value}
use Rattle.au_model.specs.declared.types.Style.TheVariants.{Plain, Quoted, Canonical}
use lib.Utf8.{encode}
use Rattle.std.specs.Fmt.{digits}

abbrev atom : List ℕ → Term
atom a = AtomTerm a

abbrev int : ℕ → Term
int n = IntTerm (pos n)

abbrev b : Term
b = atom (codes "b")

abbrev minus : Term → Term
minus t = unary (codes "-") t

abbrev minus_one : Term
minus_one = IntTerm (negsuc 0)

abbrev quoted : Term → List ℕ
quoted t = written_term Quoted initial_operators t

partial_list : quoted (binary (codes ".") (atom (codes "a")) (atom (codes "b"))) ≡ codes "[a|b]"
unfolding encode digits
partial_list = refl

minus_of_one : quoted (minus (int 1)) ≡ codes "- 1"
unfolding encode digits
minus_of_one = refl

negative : quoted minus_one ≡ codes "-1"
unfolding encode digits
negative = refl

negative_operand : quoted (binary (codes "-") (int 1) minus_one) ≡ codes "1- -1"
unfolding encode digits
negative_operand = refl

two_minuses : quoted (minus (minus (int 1))) ≡ codes "- - 1"
unfolding encode digits
two_minuses = refl

minus_of_negative : quoted (minus minus_one) ≡ codes "- -1"
unfolding encode digits
minus_of_negative = refl

minus_of_minus : quoted (minus (atom (codes "-"))) ≡ codes "- (-)"
unfolding encode digits
minus_of_minus = refl

not_both : quoted (unary (codes "\\+") (binary (codes ",") b b)) ≡ codes "\\+ (b,b)"
unfolding encode digits
not_both = refl

comma_argument : quoted (binary (codes "f") (atom (codes ",")) (binary (codes ",") b b)) ≡ codes "f(',',(b,b))"
unfolding encode digits
comma_argument = refl

clause_term : quoted (binary (codes ":-") b (binary (codes ",") b b)) ≡ codes "b :- b,b"
unfolding encode digits
clause_term = refl

clause_of_clause : quoted (binary (codes ":-") (binary (codes ":-") b b) b) ≡ codes "(b :- b) :- b"
unfolding encode digits
clause_of_clause = refl

operator_operand : quoted (binary (codes "=") b (atom (codes "\\+"))) ≡ codes "b = (\\+)"
unfolding encode digits
operator_operand = refl

operator_item : quoted (list_term (atom (codes "-") ∷ [])) ≡ codes "[-]"
unfolding encode digits
operator_item = refl

operator_in_braces : quoted (unary (codes "{}") (atom (codes "-"))) ≡ codes "{-}"
unfolding encode digits
operator_in_braces = refl

braces_of_two : quoted (binary (codes "{}") b b) ≡ codes "{}(b,b)"
unfolding encode digits
braces_of_two = refl

arrow_and_or : quoted (binary (codes ";") (binary (codes "->") b b) b) ≡ codes "b -> b ; b"
unfolding encode digits
arrow_and_or = refl

grouped_right : quoted (binary (codes "-") (int 1) (binary (codes "-") (int 2) (int 3))) ≡ codes "1-(2-3)"
unfolding encode digits
grouped_right = refl

grouped_left : quoted (binary (codes "-") (binary (codes "-") (int 1) (int 2)) (int 3)) ≡ codes "1-2-3"
unfolding encode digits
grouped_left = refl

powers : quoted (binary (codes "^") (binary (codes "^") (int 2) (int 3)) (int 4)) ≡ codes "(2^3)^4"
unfolding encode digits
powers = refl

minus_of_power : quoted (minus (binary (codes "^") (int 1) (int 2))) ≡ codes "- 1^2"
unfolding encode digits
minus_of_power = refl

power_of_negative : quoted (binary (codes "^") minus_one (int 2)) ≡ codes "-1^2"
unfolding encode digits
power_of_negative = refl

power_of_minus : quoted (binary (codes "^") (minus (int 1)) (int 2)) ≡ codes "(- 1)^2"
unfolding encode digits
power_of_minus = refl

line_feed : quoted (atom (10 ∷ [])) ≡ codes "'\\n'"
unfolding encode digits
line_feed = refl

delete : quoted (atom (127 ∷ [])) ≡ codes "'\\x7f\\'"
unfolding encode digits
delete = refl

tab : quoted (atom (9 ∷ [])) ≡ codes "'\\x9\\'"
unfolding encode digits
tab = refl

empty : quoted (atom []) ≡ codes "''"
unfolding encode digits
empty = refl

full_stop : quoted (atom (codes ".")) ≡ codes "'.'"
unfolding encode digits
full_stop = refl

comment : quoted (atom (codes "/*")) ≡ codes "'/*'"
unfolding encode digits
comment = refl

indicator : quoted (binary (codes "/") (atom (codes "is")) (int 2)) ≡ codes "(is)/2"
unfolding encode digits
indicator = refl

variable : quoted (unary (codes "f") (VarTerm 3)) ≡ codes "f(_3)"
unfolding encode digits
variable = refl

plain_name : written_term Plain initial_operators (unary (codes "-") (atom (codes "A"))) ≡ codes "-A"
unfolding encode digits
plain_name = refl

canonical_sum : written_term Canonical initial_operators (binary (codes "+") (int 1) (list_term (atom (codes "A") ∷ atom (codes "-") ∷ []))) ≡ codes "+(1,['A',-])"
unfolding encode digits
canonical_sum = refl

canonical_braces : written_term Canonical initial_operators (unary (codes "{}") (atom (codes "x"))) ≡ codes "{}(x)"
unfolding encode digits
canonical_braces = refl

value_clause : written_as_value initial_operators (binary (codes ":-") b b) ≡ codes "(b :- b)"
unfolding encode digits
value_clause = refl

value_operator : written_as_value initial_operators (atom (codes "-")) ≡ codes "(-)"
unfolding encode digits
value_operator = refl

-- a postfix operator that is no symbol run has a space in front, and a prefix operator of the same priority in brackets
abbrev table : OperatorTable
table = with_operator (with_operator initial_operators (record { name = codes "q"; operator = record { priority = 200; kind = KindYf } })) (record { name = codes "!!"; operator = record { priority = 200; kind = KindYf } })

word_postfix : written_term Quoted table (unary (codes "q") (minus b)) ≡ codes "(-b) q"
unfolding encode digits
word_postfix = refl

quoted_postfix : written_term Quoted table (unary (codes "!!") b) ≡ codes "b '!!'"
unfolding encode digits
quoted_postfix = refl
