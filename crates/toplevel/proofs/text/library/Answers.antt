use Rattle.std.specs.Str.{chars}
use Rattle.std.proofs.Common.{refl}
use Rattle.toplevel.proofs.text.library.Goals as goal

pub returns : goal.returns
unfolding chars
returns c = refl
