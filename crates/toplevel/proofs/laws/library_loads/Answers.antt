use Rattle.toplevel.proofs.LibraryLemmas.{library-loads}
use Rattle.toplevel.proofs.laws.library_loads.Goals as goal

pub returns : goal.returns
returns c = library-loads
