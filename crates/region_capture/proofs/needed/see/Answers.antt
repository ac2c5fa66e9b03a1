use Rattle.std.proofs.Common.{refl, sym, ◌∙◌}
use Rattle.region_capture.proofs.SeenLemmas.{sees_older, sees_written}
use Rattle.region_capture.proofs.needed.see.Goals as goal

pub returns-in_ok-write_binding-clause-more : goal.returns-in_ok-write_binding-clause-more
returns-in_ok-write_binding-clause-more c =
    let v = c.args.variable in
    let old = c.args.needed.now in
    sees_written c.args.store.now c.args.first old _ v c.requires.there c.requires.long (sym c.has.ensures ∙ c.if-not-has.true) c.in_ok-see.ensures c.if-variable-first.true c.in_ok-write_binding.ensures

pub returns-else-variable-first-clause-more : goal.returns-else-variable-first-clause-more
returns-else-variable-first-clause-more c =
    let v = c.args.variable in
    let old = c.args.needed.now in
    sees_older c.args.store.now c.args.first old _ v c.requires.there c.requires.long (sym c.has.ensures ∙ c.if-not-has.true) c.in_ok-see.ensures refl c.if-variable-first.false
