-- What numbers say of a goal and of a head, where names have numbers.
use Rattle.std.specs.Prelude.{◌≡◌, ◌<◌, ℕ, false, List, [], ◌∷◌, length, Option, Some, None, true}
use Rattle.au_term.specs.Term.{Term, argument_count}
use Rattle.au_model.specs.Terms.Forms.{name_of, is_callable}
use Rattle.au_model.specs.Terms.Unifier.{unifier}
use Rattle.clause_compile.specs.AtomNumbers.{name_at, AreDistinct}
use Rattle.proc_index.specs.Keys.{head_key}
use Rattle.proc_index.specs.declared.key.Key.{Key}
use Rattle.proc_index.specs.declared.key.Key.TheVariants.{Any, Int as IntKey, Atom as AtomKey, Functor as FunctorKey}
use Rattle.clause_index.specs.Classes.{can_match}
use Rattle.clause_index.specs.declared.key.NumberKey.{NumberKey}
use Rattle.clause_index.specs.declared.key.NumberKey.TheVariants.{Int, Atom, Functor}
use Rattle.clause_index.specs.declared.key.HeadKey.{HeadKey}

-- the key with names in place of numbers
abbrev pub named_key : List (List ℕ) → Option NumberKey → Key
named_key names None = Any
named_key names (Some (Int z)) = IntKey z
named_key names (Some (Atom a)) = AtomKey (name_at names a)
named_key names (Some (Functor f n)) = FunctorKey (name_at names f) n

-- the numbers of a key are those of names
abbrev pub IsKeyAmong : List (List ℕ) → Option NumberKey → Type 0
IsKeyAmong names None = Unit {0}
IsKeyAmong names (Some (Int z)) = Unit {0}
IsKeyAmong names (Some (Atom a)) = a < length names
IsKeyAmong names (Some (Functor f n)) = f < length names

-- a term has this name, number of arguments and first key
pub record IsHeadKeyOf (names : List (List ℕ)) (t : Term) (k : HeadKey) : Type 0 where
  pub callable : is_callable t ≡ true
  pub name_there : k.name < length names
  pub name : name_at names k.name ≡ name_of t
  pub arity : k.arity ≡ argument_count t
  pub key_there : IsKeyAmong names k.first
  pub first : named_key names k.first ≡ head_key t

-- where no two names are the same, a goal unifies with no head that it may not match
abbrev pub NumbersTellApart : Type 0
NumbersTellApart = (names : List (List ℕ)) → AreDistinct names → (goal head : Term) (g h : HeadKey) → IsHeadKeyOf names goal g → IsHeadKeyOf names head h
    → can_match g.name g.arity g.first h ≡ false → unifier ((goal, head) ∷ []) ≡ None
