use Rattle.std.proofs.Common.{◌∙◌, ap}
use Rattle.au_term.specs.Term.{argument_count}
use Rattle.au_model.specs.Terms.Forms.{name_of}
use Rattle.proc_index.specs.Keys.{head_key}
use Rattle.proc_index.proofs.IndexLemmas.{added, taken_out}
use Rattle.proc_index.proofs.procs.add.Goals as goal

pub returns-clause-added : goal.returns-clause-added
returns-clause-added c =
    added c.args.index.now c.remove.new.self c.insert.new.self c.in_ok-name.name c.arity-arity.result c.args.place c.args.clause.now c.in_ok-key.key c.remove.result c.unwrap_or-arities.result c.add_to.new.arities
    (c.in_ok-name.ensures ∙ (c.name_of.ensures ∙ ap name_of c.head-head.ensures.head)) (c.arity-arity.ensures ∙ ap argument_count c.head-head.ensures.head) (c.in_ok-key.ensures ∙ ap head_key c.head-head.ensures.head)
    c.remove.ensures.value c.remove.ensures.updates.0 c.in_ok-insert.ensures.updates.0
    (taken_out c.remove.result c.new.result c.unwrap_or-arities.result c.new.ensures.empty c.unwrap_or-arities.ensures) c.in_ok-add_to.ensures
