-- A program's text.
use Rattle.std.specs.Prelude.{◌≡◌, ◌≤◌, ℕ, true, List, [], ◌∷◌, ◌++◌, map, drop, Option, Some, None, MatchOption}
use Rattle.au_term.specs.Term.{Term, argument}
use Rattle.au_model.specs.Terms.Forms.{is_callable}
use Rattle.au_model.specs.Terms.Each.{Each}
use Rattle.run_model.specs.Programs.Bodies.{clause_goals_of}
use Rattle.run_model.specs.Programs.Clauses.{Clause, clause_variables}
use Rattle.clause_compile.specs.ClauseInvariant.{numbers_from}
use Rattle.clause_compile.specs.CompiledClauses.{clause_bound}
use Rattle.clause_compile.specs.Places.{CodeView, Keeps, IsPlaceOf, meaning_in}
use Rattle.clause_compile.specs.declared.place.Place.{Place}
use Rattle.proc_index.specs.Keys.{key_of}
use Rattle.proc_index.specs.declared.key.Key.TheVariants.{Any}
use Rattle.clause_index.specs.HeadKeys.{IsHeadKeyOf, IsKeyAmong, named_key}
use Rattle.clause_index.specs.declared.key.HeadKey.{HeadKey}
use Rattle.region_split.specs.declared.text.BodyItem.{BodyItem}
use Rattle.region_split.specs.declared.text.BodyItem.TheVariants.{Goal, BodyEnd}
use Rattle.region_split.specs.declared.text.InnerConstant.{InnerConstant}
use Rattle.region_split.specs.declared.text.KeyedArgument.{KeyedArgument}
use Rattle.region_split.specs.declared.text.PlacedClause.{PlacedClause}

-- its places, its bodies one after another, its clauses, and the numbers of their heads
pub record TextView : Type 0 where
  pub code : CodeView
  pub bodies : List BodyItem
  pub clauses : List Clause
  pub heads : List HeadKey

-- a body of these goals
abbrev pub body_items : List Place → List BodyItem
body_items goals = map Goal goals ++ BodyEnd ∷ []

-- the place of an argument of a term, counted from 0, or that there is none
abbrev pub IsArgumentPlace : CodeView → Term → ℕ → Option Place → Type 0
IsArgumentPlace code t i found = MatchOption found (key_of (argument i t) ≡ Any) (λ p. IsPlaceOf code p × (meaning_in code p ≡ argument i t))

-- an argument of a term has this key, if any is said to have one
abbrev pub IsKeyedArgument : List (List ℕ) → Term → Option KeyedArgument → Type 0
IsKeyedArgument names t None = Unit {0}
IsKeyedArgument names t (Some k) = IsKeyAmong names (Some k.key) × (named_key names (Some k.key) ≡ key_of (argument k.number t))

-- an argument of an argument of a term has this key, if one is said to
abbrev pub IsInnerConstant : List (List ℕ) → Term → Option InnerConstant → Type 0
IsInnerConstant names t None = Unit {0}
IsInnerConstant names t (Some k) = IsKeyAmong names (Some k.key) × (named_key names (Some k.key) ≡ key_of (argument k.number (argument k.of t)))

-- where a clause is: a place means its head, places of the goals of its body stand one after another, and its variables are
-- numbered from 0; and its keyed argument and the constant inside of an argument have their keys
pub record IsPlacedClause (code : CodeView) (bodies : List BodyItem) (c : Clause) (p : PlacedClause) : Type 0 where
  pub head_there : IsPlaceOf code p.head
  pub head : meaning_in code p.head ≡ c.head
  pub callable : is_callable c.head ≡ true
  pub goals : List Place
  pub following : List BodyItem
  pub body : drop p.body bodies ≡ body_items goals ++ following
  pub goals_there : Each (IsPlaceOf code) goals
  pub mean : map (meaning_in code) goals ≡ clause_goals_of c.body
  pub numbered : clause_variables c ≡ numbers_from 0 p.vars
  pub below : clause_bound c ≤ p.vars
  pub keyed : IsKeyedArgument code.names c.head p.keyed
  pub inner : IsInnerConstant code.names c.head p.inner

-- each clause is where it is said to be
abbrev pub ArePlacedClauses : CodeView → List BodyItem → List Clause → List PlacedClause → Type 0
ArePlacedClauses code bodies [] [] = Unit {0}
ArePlacedClauses code bodies [] (p ∷ ps) = ⊥
ArePlacedClauses code bodies (c ∷ cs) [] = ⊥
ArePlacedClauses code bodies (c ∷ cs) (p ∷ ps) = IsPlacedClause code bodies c p × ArePlacedClauses code bodies cs ps

-- each clause's head has these numbers
abbrev pub AreHeadKeys : List (List ℕ) → List Clause → List HeadKey → Type 0
AreHeadKeys names [] [] = Unit {0}
AreHeadKeys names [] (k ∷ ks) = ⊥
AreHeadKeys names (c ∷ cs) [] = ⊥
AreHeadKeys names (c ∷ cs) (k ∷ ks) = IsHeadKeyOf names c.head k × AreHeadKeys names cs ks

-- a clause was added to places and bodies
pub record AddsClause (old new : CodeView) (before after : List BodyItem) (c : Clause) (p : PlacedClause) : Type 0 where
  pub keeps : Keeps old new
  pub more : List BodyItem
  pub bodies : after ≡ before ++ more
  pub placed : IsPlacedClause new after c p
