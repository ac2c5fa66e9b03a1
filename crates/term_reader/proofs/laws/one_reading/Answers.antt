use Rattle.term_reader.proofs.UniqueReadingLemmas.{same_reading}
use Rattle.term_reader.proofs.laws.one_reading.Goals as goal

pub returns : goal.returns
returns c = same_reading
