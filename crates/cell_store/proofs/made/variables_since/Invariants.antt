use Rattle.std.proofs.Common.{ℕ}
use Rattle.std.specs.List.{Contains}
use Rattle.cell_store.specs.MadeBindings.{IsSince}
use Rattle.cell_store.proofs.made.variables_since.Given as goal

abbrev pub invariant-loop-variable : goal.invariant-loop-variable
invariant-loop-variable l = record {
  all : (v : ℕ) → IsSince l.trail l.below l.variable v → Contains l.variables.items v;
  others : (v : ℕ) → Contains l.variables.items v → IsSince l.trail l.below l.variable v;
}
