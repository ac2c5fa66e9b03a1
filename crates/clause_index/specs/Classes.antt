-- Classes of heads: those with one name and number of arguments, and of these the ones with the same first key.
use Rattle.std.specs.Prelude.{ℕ, Bool, true, false, ◌&&◌, ◌||◌, ◌==◌, Option, Some, None}
use Rattle.std.specs.Ordering.{int_eq}
use Rattle.clause_index.specs.declared.key.NumberKey.{NumberKey}
use Rattle.clause_index.specs.declared.key.NumberKey.TheVariants.{Int, Atom, Functor}
use Rattle.clause_index.specs.declared.key.HeadKey.{HeadKey}
use Rattle.clause_index.specs.declared.key.Class.{Class}
use Rattle.clause_index.specs.declared.key.Class.TheVariants.{Procedure, WithoutKey, WithKey}

abbrev pub same_number_key : NumberKey → NumberKey → Bool
same_number_key (Int y) (Int z) = int_eq y z
same_number_key (Atom a) (Atom b) = a == b
same_number_key (Functor f m) (Functor g n) = f == g && m == n
same_number_key _ _ = false

abbrev pub same_class : Class → Class → Bool
same_class (Procedure f m) (Procedure g n) = f == g && m == n
same_class (WithoutKey f m) (WithoutKey g n) = f == g && m == n
same_class (WithKey f m k) (WithKey g n l) = f == g && (m == n && same_number_key k l)
same_class _ _ = false

-- all heads with its name and number of arguments
abbrev pub procedure_class : HeadKey → Class
procedure_class h = Procedure h.name h.arity

abbrev pub class_by : ℕ → ℕ → Option NumberKey → Class
class_by name arity None = WithoutKey name arity
class_by name arity (Some k) = WithKey name arity k

-- those of them with its first key
abbrev pub key_class : HeadKey → Class
key_class h = class_by h.name h.arity h.first

-- a head is of the class of its procedure, and of its own
abbrev pub is_of : Class → HeadKey → Bool
is_of c h = same_class (procedure_class h) c || same_class (key_class h) c

abbrev pub is_head_of : ℕ → ℕ → HeadKey → Bool
is_head_of name arity h = h.name == name && h.arity == arity

-- a goal with a first key, or with none, may match a head with a first key, or with none
abbrev pub keys_match : Option NumberKey → Option NumberKey → Bool
keys_match None l = true
keys_match (Some k) None = true
keys_match (Some k) (Some l) = same_number_key l k

abbrev pub can_match : ℕ → ℕ → Option NumberKey → HeadKey → Bool
can_match name arity key h = is_head_of name arity h && keys_match key h.first
