-- The exit status of each ending.
use Rattle.std.specs.Prelude.{ℕ}
use Rattle.run_model.specs.declared.ending.Ending.{Ending}
use Rattle.run_model.specs.declared.ending.Ending.TheVariants.{Finished, Halted, Budget, Refused, TooLong, Usage, ReadFault, WriteFault, NoMemory}

abbrev pub status_of : Ending → ℕ
status_of Finished = 0
status_of (Halted k) = k
status_of (Usage u) = 64
status_of (Refused line column kind) = 65
status_of ReadFault = 66
status_of Budget = 67
status_of WriteFault = 68
status_of NoMemory = 69
status_of TooLong = 70
