-- A note that was written, whole or in front.
use Rattle.std.proofs.Common.{◌++◌, ℕ, List, length, Option, Some, None, Result, Ok, Err, sym, ap, ◌∙◌, arith}
use Rattle.std.specs.Prelude.{OnOk, OnErr}
use Rattle.std.proofs.lemmas.List.{take_all}
use Rattle.au_io.specs.FaultCounts.{Appended, AppendedPrefix, HasCause}
use Rattle.aurora_cli.specs.Endings.{IsNotIncreased}

pub prefix_written : {T E : Type 0} (r : Result T E) (old now : Option (List ℕ)) (bytes : List ℕ) → OnOk r (Appended old now bytes) → OnErr r (AppendedPrefix old now bytes) → AppendedPrefix old now bytes
prefix_written r None now bytes h k = tt
prefix_written (Ok x) (Some old) now bytes h k = (length bytes, h ∙ ap (λ ys. Some (old ++ ys)) (sym (take_all (length bytes) bytes (omega arith))))
prefix_written (Err e) (Some old) now bytes h k = k

pub all_written : {T E : Type 0} (r : Result T E) (old now : Option (List ℕ)) (bytes : List ℕ) (before after : ℕ) → OnOk r (Appended old now bytes) → HasCause before after r → IsNotIncreased before after → Appended old now bytes
all_written (Ok x) old now bytes before after h cause none = h
all_written (Err e) old now bytes before after h cause none = absurd (none cause.failed)
