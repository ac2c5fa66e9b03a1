-- What the program's variables and cells stand for.
use Rattle.std.specs.Prelude.{◌≡◌, ◌-◌, ◌<◌, ◌^◌, ℕ, List, map, Some}
use Rattle.std.specs.BTreeMap.{get}
use Rattle.std.specs.Cmp.Lexicographic.{slice_cmp}
use Rattle.std.specs.Ordering.{nat_cmp}
use Rattle.au_term.specs.PrefixOrder.{AreValidCells}
use Rattle.au_model.specs.Syntax.VariableNumbers as numbers
use Rattle.au_model.specs.Syntax.VariableNumbers.{number_of}
use Rattle.term_reader.specs.TermOutput as sheets
use Rattle.au_model.specs.Terms.Named.{variable_meant}
use Rattle.term_reader.specs.declared.variables.Variables.{Variables}
use Rattle.term_reader.specs.declared.output.TermOutput.{TermOutput}

-- the named variables and the next number are these, and the map finds the names
pub record IsVariablesOf (v : Variables) (vs : numbers.Variables) : Type 0 where
  pub named : map variable_meant v.named.items ≡ vs.named
  pub next : v.next ≡ vs.next
  pub low : v.next < 2 ^ 64 - 1
  pub found : (n : List ℕ) → get (slice_cmp nat_cmp) v.numbers n ≡ number_of vs.named n
  pub below : (n : List ℕ) (k : ℕ) → number_of vs.named n ≡ Some k → k < vs.next

-- the cells and the variables are these
pub record IsOutputOf (d : TermOutput) (s : sheets.TermOutput) : Type 0 where
  pub cells : d.cells.items ≡ s.cells
  pub sound : AreValidCells s.cells
  pub variables : IsVariablesOf d.variables s.variables

-- the variables after a variable came, and its number
pub record IsVariableNumbered (v : Variables) (vs : numbers.Variables) (n : List ℕ) (k : ℕ) : Type 0 where
  pub number : k ≡ (numbers.numbered_name vs n).0
  pub rest : IsVariablesOf v (numbers.numbered_name vs n).1
  pub low : k < 2 ^ 64 - 1

-- the variables after a name came that had none, and its number
abbrev pub IsNewVariable : Variables → numbers.Variables → List ℕ → ℕ → Type 0
IsNewVariable v vs name k = (k ≡ vs.next) × (k < 2 ^ 64 - 1) × IsVariablesOf v (numbers.new_name vs name)
