use Rattle.std.proofs.Common.{◌∙◌, sym, ap, length}
use Rattle.proc_index.proofs.TakenLemmas.{length-clauses_in}
use Rattle.proc_index.proofs.taken.Taken.len.Goals as goal

pub returns : goal.returns
returns c = c.len.ensures.value ∙ (sym (length-clauses_in _ c.self.invariant) ∙ ap length c.self.view_is)
