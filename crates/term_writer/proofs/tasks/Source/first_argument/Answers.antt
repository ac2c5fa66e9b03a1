use Rattle.term_writer.specs.WritingSources.{term_of_source}
use Rattle.term_writer.proofs.CompoundTaskLemmas.{firsts}
use Rattle.term_writer.proofs.tasks.Source.first_argument.Goals as goal

pub returns : goal.returns
returns c = let f = firsts (term_of_source c.args.self) c.args.at c.requires.place c.requires.some in record { place = f.place; arguments = f.taken; enough = f.enough }
