-- The next variable number never falls along a private run.
use Rattle.std.specs.Prelude.{ℕ, ◌≤◌, List, ◌∷◌}
use Rattle.run_model.specs.Machine.Items.{Continuation}
use Rattle.run_model.specs.Machine.Entries.{Entry, PlainEntry, CatchEntry, FindallEntry, EndEntry}
use Rattle.run_model.specs.Machine.FreeSteps.{HaveNoMarkFirst}
use Rattle.region_floor.specs.RegionRuns.{RegionRun, StandsAfter, AreOuter}

-- what is left to do numbers its new variables from here on
abbrev pub NumbersFrom : ℕ → Entry → Type 0
NumbersFrom n (PlainEntry f) = n ≤ f.next
NumbersFrom n (CatchEntry c r f) = n ≤ f.next
NumbersFrom n (FindallEntry results l f) = n ≤ f.next
NumbersFrom n (EndEntry b) = Unit {0}

-- where a goal or what is deferred is on top
abbrev pub NextNeverFalls : Type 0
NextNeverFalls =
    (r : RegionRun) (k n : ℕ) (f : Continuation ℕ) (es : List Entry) → AreOuter r → NumbersFrom n r.entry → HaveNoMarkFirst f.items
    → StandsAfter r k (PlainEntry f ∷ es) → n ≤ f.next
