-- Procedures, and the map that finds them.
use Rattle.std.specs.Prelude.{◌≡◌, ℕ, ◌==◌, ◌&&◌, Bool, true, cond, List, [], ◌∷◌, ◌++◌, Option, Some, None, filter}
use Rattle.std.specs.BTreeMap.{BTreeMap, get}
use Rattle.std.specs.Cmp.Lexicographic.{slice_cmp}
use Rattle.std.specs.Ordering.{nat_cmp}
use Rattle.std.specs.Global.{Global}
use Rattle.std.specs.Prelude.{Vec}
use Rattle.au_term.specs.declared.atom.Atom.{Atom}
use Rattle.au_model.specs.Terms.Each.{Each}
use Rattle.au_model.specs.Terms.Forms.{is_callable}
use Rattle.run_model.specs.Programs.Clauses.{Clause as ClauseTerms, is_clause_of, is_defined}
use Rattle.proc_index.specs.declared.key.Key.{Key}
use Rattle.std.specs.declared.cmp.Ordering.{Ordering}
use Rattle.proc_index.specs.contracts.key.KeyOrd.TheImpl as key_ord
use Rattle.proc_index.specs.declared.procedure.Procedure.{Procedure}
use Rattle.proc_index.specs.Keys.{matching, head_key, is_any, same_key}
use Rattle.proc_index.specs.Places.{places}

-- the clauses of a procedure, in the order of the text
abbrev pub procedure_of : List ClauseTerms → List ℕ → ℕ → List ClauseTerms
procedure_of clauses name arity = filter (is_clause_of name arity) clauses

-- those of them that may match, where the procedure has a clause
abbrev pub candidates_of : List ClauseTerms → List ℕ → ℕ → Key → Option (List ClauseTerms)
candidates_of clauses name arity key = cond (is_defined clauses name arity) (Some (matching key (procedure_of clauses name arity))) None

-- the order of keys
abbrev pub key_cmp : Key → Key → Ordering
key_cmp = (key_ord.ghosts).cmp

abbrev pub Arities : Type 0
Arities = BTreeMap ℕ Procedure

abbrev pub found_places : Option (Vec ℕ Global) → List ℕ
found_places None = []
found_places (Some places) = places.items

-- the places that a procedure has, if it is there
abbrev pub all_in : Option Procedure → List ℕ
all_in None = []
all_in (Some p) = p.all.items

abbrev pub variables_in : Option Procedure → List ℕ
variables_in None = []
variables_in (Some p) = p.variables.items

abbrev pub keyed_in : Option Procedure → Key → List ℕ
keyed_in None key = []
keyed_in (Some p) key = found_places (get key_cmp p.keyed key)

abbrev pub found_in : Option Arities → ℕ → Option Procedure
found_in None arity = None
found_in (Some arities) arity = get nat_cmp arities arity

-- what the map has of a procedure
abbrev pub procedure_at : BTreeMap Atom Arities → List ℕ → ℕ → Option Procedure
procedure_at index name arity = found_in (get (slice_cmp nat_cmp) index name) arity

-- the places are those of the clauses that pass a test
pub record IsListed (o : Option Procedure) (p : ClauseTerms → Bool) (clauses : List ClauseTerms) : Type 0 where
  pub all : all_in o ≡ places p clauses
  pub variables : variables_in o ≡ places (λ c. p c && is_any (head_key c.head)) clauses
  pub keyed : (key : Key) → keyed_in o key ≡ places (λ c. p c && same_key key (head_key c.head)) clauses

-- the map has the places of each procedure of these clauses
abbrev pub IsIndexed : BTreeMap Atom Arities → List ClauseTerms → Type 0
IsIndexed index clauses = (name : List ℕ) (arity : ℕ) → IsListed (procedure_at index name arity) (is_clause_of name arity) clauses

-- a place is put after the others where it is the procedure's own
abbrev pub and_place : Bool → ℕ → List ℕ
and_place own place = cond own (place ∷ []) []

pub record GainsPlace (old now : Option Procedure) (own : Bool) (place : ℕ) (key : Key) : Type 0 where
  pub all : all_in now ≡ all_in old ++ and_place own place
  pub variables : variables_in now ≡ variables_in old ++ and_place (own && is_any key) place
  pub keyed : (k : Key) → keyed_in now k ≡ keyed_in old k ++ and_place (own && same_key k key) place

abbrev pub IsPut : Procedure → Procedure → ℕ → Key → Type 0
IsPut old now place key = GainsPlace (Some old) (Some now) true place key

abbrev pub IsPutUnder : BTreeMap Key (Vec ℕ Global) → BTreeMap Key (Vec ℕ Global) → Key → ℕ → Type 0
IsPutUnder old now key place = (k : Key) → found_places (get key_cmp now k) ≡ found_places (get key_cmp old k) ++ and_place (same_key k key) place

abbrev pub IsEmpty : Procedure → Type 0
IsEmpty p = (all_in (Some p) ≡ []) × (variables_in (Some p) ≡ []) × ((key : Key) → keyed_in (Some p) key ≡ [])

-- a clause of this head was put in at a place
abbrev pub IsAdded : BTreeMap Atom Arities → BTreeMap Atom Arities → ℕ → ClauseTerms → Type 0
IsAdded index now place c = (name : List ℕ) (arity : ℕ) → GainsPlace (procedure_at index name arity) (procedure_at now name arity) (is_clause_of name arity c) place (head_key c.head)

abbrev pub IsAddedTo : Arities → Arities → ℕ → ℕ → Key → Type 0
IsAddedTo arities now own place key = (arity : ℕ) → GainsPlace (get nat_cmp arities arity) (get nat_cmp now arity) (own == arity) place key

-- each clause has a head that names a procedure
abbrev pub HaveHeads : List ClauseTerms → Type 0
HaveHeads clauses = Each (λ c. is_callable c.head ≡ true) clauses

pub record IsIndexOf (index : BTreeMap Atom Arities) (clauses : List ClauseTerms) : Type 0 where
  pub indexed : IsIndexed index clauses
  pub heads : HaveHeads clauses
