use Rattle.std.proofs.Common.{◌≡◌, ◌++◌, List, ℕ}
use Rattle.std.specs.Io.KnownBytes.{Appends}
use Rattle.au_io.proofs.stdout.write_pieces.Given as goal

abbrev pub invariant-loop : goal.invariant-loop
invariant-loop g l = (written : List ℕ) × (l.bytes ≡ written ++ l.rest) × Appends (g.W.Write.contents l.fn.out) (g.W.Write.contents l.out) written
