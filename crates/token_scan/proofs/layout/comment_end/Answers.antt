use Rattle.std.proofs.Common.{◌≡◌, ◌∙◌, None, slice_get, rules, ap}
use Rattle.au_model.specs.Syntax.Characters.{chars_from}
use Rattle.au_model.specs.Syntax.Layout.{after_comment}
use Rattle.token_scan.proofs.RunLemmas.{none_left}
use Rattle.token_scan.proofs.layout.comment_end.Goals as goal

pub returns-clause-none : goal.returns-clause-none
returns-clause-none c =
    let over : slice_get (chars_from c.args.text.now c.loop-c.here) 0 ≡ None = search rules in
    c.loop-c.invariant.1 ∙ ap after_comment (none_left (chars_from c.args.text.now c.loop-c.here) over)
