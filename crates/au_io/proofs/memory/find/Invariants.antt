use Rattle.std.proofs.Common.{◌≡◌, drop}
use Rattle.au_io.specs.MemoryFiles.{file_of}
use Rattle.au_io.proofs.memory.find.Given as goal

abbrev pub invariant-loop-file : goal.invariant-loop-file
invariant-loop-file l = file_of l.name (drop l.file-index l.files) ≡ file_of l.name l.files
