use Rattle.std.proofs.Common.{sym, ap, ◌∙◌, subst}
use Rattle.std.specs.Prelude.{IfOk}
use Rattle.au_term.specs.Term.{AtomTerm}
use Rattle.run_model.specs.Goals.TermTests.{compare_answer}
use Rattle.cell_store.specs.StoreView.{meaning}
use Rattle.region_builtins.specs.QuickAnswers.{IsQuickAnswer}
use Rattle.region_builtins.proofs.OrderLemmas.{atom_seen}
use Rattle.region_builtins.proofs.quick.ordered.Goals as goal

pub returns-in-Atom : goal.returns-in-Atom
returns-in-Atom c =
    let st = c.args.store.now in
    subst (λ t. IfOk c.atom_ordered.result (IsQuickAnswer st (compare_answer t (meaning st c.args.left) (meaning st c.args.right))))
    (ap AtomTerm c.name.ensures ∙ sym (atom_seen st c.args.symbol c.dereference.result c.in-Atom.number c.dereference.ensures c.in-Atom.is)) c.atom_ordered.ensures
