-- A bare floor has the heights of the floor for which it stands.
use Rattle.std.proofs.Common.{◌≡◌, ℕ, zero, suc, ◌+◌, ◌-◌, List, [], ◌∷◌, ◌++◌, map, length, take, refl, sym, ap, ap₂, ◌∙◌, arith}
use Rattle.std.proofs.Math.Seq.{take-append_seam}
use Rattle.std.proofs.lemmas.List.{length-append, length-map}
use Rattle.run_model.specs.Machine.Entries.{Entry}
use Rattle.tree_model.specs.Levels.{Level}
use Rattle.tree_model.specs.Floors.{floor_of}
use Rattle.tree_model.specs.PrivateRuns.{own_part}
use Rattle.region_floor.specs.Deferred.{Deferred, joined_entry}
use Rattle.region_floor.specs.BareFloors.{bare_floor, bare_stack, true_stack}

pub bare-size : (n : ℕ) → length (bare_floor n) ≡ n
bare-size zero = refl
bare-size (suc n) = ap suc (bare-size n)

pub floor-size : (levels : List Level) → length (floor_of levels) ≡ length levels
floor-size [] = refl
floor-size (v ∷ up) = ap suc (floor-size up)

pub stack-size : (d : Deferred) (levels : List Level) (own : List Entry) → length (true_stack d levels own) ≡ length (bare_stack levels own)
stack-size d levels own =
    length-append (map (joined_entry d) own) (floor_of levels)
    ∙ ap₂ ◌+◌ (length-map own (joined_entry d)) (floor-size levels ∙ sym (bare-size (length levels)))
    ∙ sym (length-append own (bare_floor (length levels)))

-- what is over a floor
pub part-over : (xs floor : List Entry) → own_part floor (xs ++ floor) ≡ xs
part-over xs floor =
    let many : length (xs ++ floor) - length floor ≡ length xs = omega (arith, length-append xs floor) in
    ap (λ n. take n (xs ++ floor)) many ∙ take-append_seam xs floor
