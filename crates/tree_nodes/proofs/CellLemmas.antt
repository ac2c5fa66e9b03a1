-- Cells by their index.
use Rattle.std.proofs.Common.{ℕ, zero, suc, ◌<◌, List, [], ◌∷◌, length, refl, arith}
use Rattle.std.specs.Prelude.{slice_get, IsSome}
use Rattle.tree_nodes.specs.Rows.{AlternativeCell}

pub some_within : (cells : List (ℕ × AlternativeCell)) (i : ℕ) → i < length cells → IsSome (slice_get cells i)
some_within [] i l = absurd (omega (arith, l))
some_within (x ∷ cells) zero l = refl
some_within (x ∷ cells) (suc i) l = some_within cells i (omega (arith, l))
