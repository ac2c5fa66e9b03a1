-- What further bindings keep: one after another they are further bindings, and as equations they are of the branch's unifier.
use Rattle.std.specs.Prelude.{◌≡◌, ◌⊎◌, ℕ, ◌<◌, ◌≤◌, [], ◌∷◌, ◌++◌, map, Some}
use Rattle.au_term.specs.Term.{Term, VarTerm}
use Rattle.au_model.specs.Terms.Each.{Each}
use Rattle.au_model.specs.Terms.Substitutions.{Substitution, value_of, resolve}
use Rattle.au_model.specs.Terms.Unifier.{Equations, unifier, equations_bound}
use Rattle.au_model.specs.Terms.MostGeneral.{SameValues}
use Rattle.binding_array.specs.Represented.{IsFalling}
use Rattle.cell_store.specs.StoreView.{Moment, StoreView, substitution, value_term, IsValidStore}
use Rattle.cell_store.specs.MadeBindings.{Bindings, AreMadeSince}
use Rattle.branch_bindings.specs.BindingEquations.{HasBinding}
use Rattle.branch_bindings.specs.Extensions.{WrittenBindings, ExtendsBy}

-- a variable stands for no younger one
abbrev pub StandsForOlder : Substitution → Type 0
StandsForOlder s = (v w : ℕ) → value_of s v ≡ VarTerm w → w ≤ v

-- what a variable stands for has every binding applied
abbrev pub IsFinal : Substitution → Type 0
IsFinal s = (v : ℕ) → resolve s (value_of s v) ≡ value_of s v

-- each as an equation
abbrev pub written_equations : WrittenBindings → Equations
written_equations bs = map (λ b. (VarTerm b.0, b.1)) bs

-- those of a store, as they are written there
abbrev pub written_bindings : StoreView → Bindings → WrittenBindings
written_bindings st bs = map (λ b. (b.0, value_term st b.1)) bs

-- a variable and what it was bound to: no younger variable, and not itself
pub record IsFallingEquation (e : Term × Term) : Type 0 where
  pub variable : ℕ
  pub left_is : e.0 ≡ VarTerm variable
  pub older : (w : ℕ) → e.1 ≡ VarTerm w → w < variable

-- no variable is bound by two
abbrev pub BindApart : Equations → Type 0
BindApart [] = Unit {0}
BindApart (e ∷ eqs) = Each (λ d. d.0 ≡ e.0 → ⊥) eqs × BindApart eqs

-- bindings whose unifier has these values: a variable that none of them binds stands for itself
pub record AreUnifiedBindings (eqs : Equations) (s : Substitution) : Type 0 where
  pub each : Each IsFallingEquation eqs
  pub unified : SameValues (unifier eqs) (Some s)
  pub free_or_bound : (v : ℕ) → (value_of s v ≡ VarTerm v) ⊎ HasBinding eqs v

-- bindings of variables below a number, each bound once, whose unifier has these values
pub record AreSettledBindings (next : ℕ) (eqs : Equations) (s : Substitution) : Type 0 where
  pub each : Each IsFallingEquation eqs
  pub apart : BindApart eqs
  pub below : equations_bound eqs ≤ next
  pub unified : SameValues (unifier eqs) (Some s)

-- further bindings and then others are further bindings; without the first premise a variable that the first substitution binds
-- might be free by the second
abbrev pub ExtensionsCompose : Type 0
ExtensionsCompose = (a b c : Substitution) (n m : ℕ) (bs cs : WrittenBindings) → StandsForOlder a → ExtendsBy a b n bs → ExtendsBy b c m cs → n ≤ m
    → ExtendsBy a c m (bs ++ cs)

abbrev pub ExtensionsStayOlder : Type 0
ExtensionsStayOlder = (a b : Substitution) (n : ℕ) (bs : WrittenBindings) → StandsForOlder a → ExtendsBy a b n bs → StandsForOlder b

-- in what it gives all further bindings are applied
abbrev pub ExtensionsAreFinal : Type 0
ExtensionsAreFinal = (a b : Substitution) (n : ℕ) (bs : WrittenBindings) → StandsForOlder a → ExtendsBy a b n bs → IsFinal b

abbrev pub NothingExtends : Type 0
NothingExtends = (s : Substitution) (n : ℕ) → IsFinal s → ExtendsBy s s n []

-- with further bindings the unifier has their values
abbrev pub UnifiedBindingsExtend : Type 0
UnifiedBindingsExtend = (s t : Substitution) (n : ℕ) (eqs : Equations) (bs : WrittenBindings) → AreUnifiedBindings eqs s → ExtendsBy s t n bs
    → AreUnifiedBindings (eqs ++ written_equations bs) t

abbrev pub SettledBindingsExtend : Type 0
SettledBindingsExtend = (s t : Substitution) (n m : ℕ) (eqs : Equations) (bs : WrittenBindings) → AreSettledBindings n eqs s → ExtendsBy s t m bs → n ≤ m
    → AreSettledBindings m (eqs ++ written_equations bs) t

abbrev pub SettledAreUnified : Type 0
SettledAreUnified = (n : ℕ) (eqs : Equations) (s : Substitution) → AreSettledBindings n eqs s → AreUnifiedBindings eqs s

-- so the laws of extensions can be used of it
abbrev pub UnifiersStandForOlder : Type 0
UnifiersStandForOlder = (eqs : Equations) (s : Substitution) → SameValues (unifier eqs) (Some s) → StandsForOlder s

abbrev pub UnifiersAreFinal : Type 0
UnifiersAreFinal = (eqs : Equations) (s : Substitution) → SameValues (unifier eqs) (Some s) → IsFinal s

-- what a store has bound since a mark extends what was bound there
abbrev pub MadeBindingsExtend : Type 0
MadeBindingsExtend = (before : Moment) (st : StoreView) (bs : Bindings) → IsValidStore st → AreMadeSince before st bs → Each (λ b. IsFalling b.0 b.1) bs
    → ExtendsBy before.bound (substitution st) st.now.next (written_bindings st bs)
