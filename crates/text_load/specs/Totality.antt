-- That the definitions leave no text out. No function decides these relations here, so it is not said which of two
-- holds, only that it is never neither.
use Rattle.std.specs.Prelude.{◌⊎◌, ℕ, List}
use Rattle.run_model.specs.Programs.Jobs.{Job}
use Rattle.au_model.specs.Syntax.Primaries.{Setting}
use Rattle.au_model.specs.Syntax.TermTexts.{SpellsTermWithEnd}
use Rattle.au_model.specs.Syntax.TextFaults.{Fault}
use Rattle.au_model.specs.Syntax.Trees.{Tree}
use Rattle.au_model.specs.declared.types.FaultKind.{FaultKind}
use Rattle.text_load.specs.LoadOutcome.{IsTextRefused}
use Rattle.text_load.specs.LoadedTexts.{Loading, FirstFault, IsRefused, Loads, LoadsTo}

abbrev pub IsNeverNeither : Type 0 → Type 0 → Type 0
IsNeverNeither A B = (A → ⊥) → (B → ⊥) → ⊥

abbrev pub HasTermFirst : Setting → List ℕ → Type 0
HasTermFirst s cs = (t : Tree) × (rest : List ℕ) × SpellsTermWithEnd s cs t rest

abbrev pub HasFault : Setting → List ℕ → Type 0
HasFault s cs = (kind : FaultKind) × (from : List ℕ) × Fault s cs kind from

abbrev pub HasAllLoaded : Loading → List ℕ → Type 0
HasAllLoaded l text = (all : Loading) × Loads l text all

abbrev pub HasFirstFault : Loading → List ℕ → Type 0
HasFirstFault l text = (kind : FaultKind) × (from : List ℕ) × FirstFault l text kind from

abbrev pub HasJob : List ℕ → List ℕ → Type 0
HasJob library text = (job : Job) × LoadsTo library text job

-- the library is refused, or else the text
abbrev pub HasRefusal : List ℕ → List ℕ → Type 0
HasRefusal library text =
    (line : ℕ) × (column : ℕ) × (kind : FaultKind) × (IsRefused library line column kind ⊎ IsTextRefused library text line column kind)
