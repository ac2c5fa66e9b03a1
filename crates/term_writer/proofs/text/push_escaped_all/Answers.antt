use Rattle.std.proofs.Common.{◌++◌, sym, ap, ◌∙◌, append_assoc}
use Rattle.std.proofs.Common.{map-id}
use Rattle.std.proofs.lemmas.Iterator.{YieldsList-from_chars}
use Rattle.std.proofs.lemmas.Iterator.Consumers.{YieldsList-end}
use Rattle.au_model.specs.Writing.NameForms.{escaped, escaped_all}
use Rattle.term_writer.proofs.SeamLemmas.{escaped_more}
use Rattle.term_writer.proofs.text.push_escaped_all.Goals as goal

pub loop-c-preserved : goal.loop-c-preserved
loop-c-preserved c =
    let old = c.args.bytes.now.items in
    let done = c.loop-c.yielded in
    c.in_ok-push_escaped.ensures
    ∙ (ap (λ bs. bs ++ escaped c.in-Some.c) c.loop-c.invariant
    ∙ (append_assoc old (escaped_all done) (escaped c.in-Some.c) ∙ ap (λ t. old ++ t) (sym (escaped_more done c.in-Some.c))))

pub returns : goal.returns
returns c =
    let t = YieldsList-end (YieldsList-from_chars c.args.name.now c.utf8.name cc) c.loop-c.yielded _ c.loop-c.yielded_by _ _ c.in-None.is c.next.ensures.steps in
    c.loop-c.invariant ∙ ap (λ cs. c.args.bytes.now.items ++ escaped_all cs) (sym (map-id c.loop-c.yielded) ∙ t.0)
