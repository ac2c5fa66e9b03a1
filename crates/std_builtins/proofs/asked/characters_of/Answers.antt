use Rattle.std.proofs.Common.{◌∙◌, sym}
use Rattle.std.proofs.lemmas.Iterator.{YieldsList-from_chars}
use Rattle.std.proofs.lemmas.Iterator.Consumers.{YieldsList-end}
use Rattle.std_builtins.proofs.TextLemmas.{map_itself}
use Rattle.std_builtins.proofs.asked.characters_of.Goals as goal

pub returns : goal.returns
returns c =
    let xs = c.loop-c.yielded in
    let t = YieldsList-end (YieldsList-from_chars c.args.text.now c.utf8.text cc) xs _ c.loop-c.yielded_by _ _ c.in-None.is c.next.ensures.steps in
    c.loop-c.invariant ∙ (sym (map_itself xs) ∙ t.0)
