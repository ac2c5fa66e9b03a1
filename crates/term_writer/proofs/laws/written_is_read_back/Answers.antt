use Rattle.term_writer.proofs.WrittenEndLemmas.{read_back}
use Rattle.term_writer.proofs.ReadVariableLemmas.{numbered-copy}
use Rattle.term_writer.proofs.laws.written_is_read_back.Goals as goal

pub returns-clause-spelled : goal.returns-clause-spelled
returns-clause-spelled c s table t h = read_back s table t h

pub returns-clause-copied : goal.returns-clause-copied
returns-clause-copied c t h = numbered-copy t h
