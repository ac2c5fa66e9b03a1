use Rattle.proc_index.proofs.LawLemmas.{told_apart}
use Rattle.proc_index.proofs.laws.keys_tell_apart.Goals as goal

pub returns : goal.returns
returns c = told_apart
