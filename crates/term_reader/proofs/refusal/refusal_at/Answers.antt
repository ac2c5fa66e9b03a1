use Rattle.term_reader.specs.PrimaryView.{setting_of}
use Rattle.term_reader.proofs.refusal.refusal_at.Goals as goal

pub returns : goal.returns
returns c = λ start h. c.refusal_of.ensures (setting_of c.args.source) start c.args.at c.in_ok-next.ensures.scan c.in_ok-next.ensures.place h
