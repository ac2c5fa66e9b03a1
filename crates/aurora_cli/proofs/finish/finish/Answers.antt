use Rattle.std.proofs.Common.{subst}
use Rattle.au_io.specs.FaultCounts.{AppendedPrefix}
use Rattle.aurora_cli.proofs.NoteLemmas.{prefix_written}
use Rattle.aurora_cli.proofs.finish.finish.Goals as goal

pub returns-clause-prefix : goal.returns-clause-prefix
returns-clause-prefix g c =
    subst (AppendedPrefix (g.K.Sink.taken c.args.out.now) (g.K.Sink.taken c.write_all.new.self)) c.note_line-length.ensures.note
    (prefix_written c.write_all.result (g.K.Sink.taken c.args.out.now) (g.K.Sink.taken c.write_all.new.self) _ c.write_all.ensures.ok c.write_all.ensures.err)
