use Rattle.std.proofs.Common.{◌≡◌, ◌∙◌}
use Rattle.std.proofs.lemmas.Result.{IfOk-weaker}
use Rattle.std.proofs.lemmas.Str.{chars-IsAscii}
use Rattle.std.specs.Str.{chars}
use Rattle.au_term.proofs.atom.Atom.ascii.Goals as goal

pub returns : goal.returns
returns c = IfOk-weaker c.new.result (λ name. name ≡ chars c.args.text.now) (λ name. name ≡ c.args.text.now) (λ name e. e ∙ chars-IsAscii c.args.text.now c.requires) c.new.ensures
