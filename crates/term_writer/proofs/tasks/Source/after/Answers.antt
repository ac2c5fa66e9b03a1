use Rattle.term_writer.specs.WritingSources.{term_of_source}
use Rattle.term_writer.proofs.TaskLemmas.{terms_after}
use Rattle.term_writer.proofs.tasks.Source.after.Goals as goal

pub returns : goal.returns
returns c = terms_after (term_of_source c.args.self) c.args.at c.term_end.result c.term_end.ensures.rest
