-- What is next of an alternative that is out, past the ends of catches.
use Rattle.std.specs.Prelude.{◌≡◌, ℕ, List, [], ◌∷◌, map, Some}
use Rattle.au_term.specs.Term.{Term, VarTerm}
use Rattle.au_model.specs.Terms.Named.{NamedTerm}
use Rattle.au_model.specs.Terms.Substitutions.{resolve}
use Rattle.au_model.specs.declared.types.VarName.{VarName}
use Rattle.cell_store.specs.StoreView.{StoreView, substitution}
use Rattle.run_model.specs.Machine.Entries.{PlainEntry}
use Rattle.run_model.specs.Machine.Items.{Item, RemovalItem, Continuation, without_marks}
use Rattle.term_writer.specs.AnswerParts.{named_terms}
use Rattle.tree_model.specs.Effects.{spot_stack}
use Rattle.tree_model.specs.Floors.{floor_of}
use Rattle.tree_model.specs.Legality.{taken_at}
use Rattle.tree_model.specs.Levels.{Place, Spot, levels_of}
use Rattle.tree_model.specs.TreeStates.{TreeState}

-- an alternative has these items left, over the floor of its branch
pub record HasLeft (s : Spot) (items : List (Item ℕ)) : Type 0 where
  pub front : Continuation ℕ
  pub stack : spot_stack s ≡ PlainEntry front ∷ floor_of (levels_of s)
  pub left : without_marks front.items ≡ items

-- the removal of the clause of this number is next
pub record RemovesNext (number : ℕ) (s : Spot) : Type 0 where
  pub behind : List (Item ℕ)
  pub has : HasLeft s (RemovalItem number ∷ behind)

-- nothing is left, and the query's named variables stand for these terms
pub record AnswersNext (named : List NamedTerm) (s : Spot) : Type 0 where
  pub has : HasLeft s []
  pub named_are : has.front.named ≡ named

-- of what is out in a tree
abbrev pub IsRemovalNext : ℕ → ℕ → Place → TreeState → Type 0
IsRemovalNext number w a t = (s : Spot) → taken_at w a t ≡ Some s → RemovesNext number s

abbrev pub IsAnswerNext : List NamedTerm → ℕ → Place → TreeState → Type 0
IsAnswerNext named w a t = (s : Spot) → taken_at w a t ≡ Some s → AnswersNext named s

-- what a variable stands for in a store, and the named variables of a query
abbrev pub value_named : StoreView → VarName → Term
value_named st v = resolve (substitution st) (VarTerm v.number)

abbrev pub terms_named : StoreView → List VarName → List NamedTerm
terms_named st names = named_terms names (map (value_named st) names)
