use Rattle.std.proofs.Common.{OnOk, subst}
use Rattle.std.specs.Str.{chars}
use Rattle.au_model.specs.Syntax.Trees.{AtomTree}
use Rattle.au_model.specs.Terms.Forms.{nil_name}
use Rattle.term_reader.specs.OutputView.{IsOutputOf}
use Rattle.term_reader.specs.TermOutput.{emit_tree, emit_lists, emit_codes}
use Rattle.term_reader.proofs.TermOutputLemmas.{emit-codes}
use Rattle.term_reader.proofs.output.TermOutput.codes.Goals as goal

pub returns : goal.returns
returns c = λ s h.
    let cs = chars c.args.text.now in
    let it = c.in_ok-items.ensures s h in
    let on = emit_tree (emit_codes s cs) (AtomTree nil_name) in
    subst (λ z. OnOk c.list.result (IsOutputOf c.list.new.self z)) (emit-codes s cs)
    (subst (λ n. OnOk c.list.result (IsOutputOf c.list.new.self (emit_lists n on))) it.0 (c.list.ensures on (c.in_ok-nil.ensures (emit_codes s cs) it.1)))
