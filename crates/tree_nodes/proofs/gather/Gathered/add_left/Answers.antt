use Rattle.std.proofs.Common.{◌≡◌, ap, ◌∙◌, arith}
use Rattle.tree_model.specs.Credits.{Credit, counted, added}
use Rattle.tree_nodes.specs.Rows.{credit_view}
use Rattle.tree_nodes.proofs.CreditLemmas.{same_credit}
use Rattle.tree_nodes.proofs.BatchLemmas.{left_records}
use Rattle.tree_nodes.proofs.SomeLemmas.{on_err}
use Rattle.tree_nodes.proofs.gather.Gathered.add_left.Goals as goal

pub returns-in_err-share_backwards-clause-some : goal.returns-in_err-share_backwards-clause-some
returns-in_err-share_backwards-clause-some c = on_err c.from_residual.result _ (λ e. c.in_err-share_backwards.ensures.some (c.batches.ensures.none e))

pub returns-clause-sum : goal.returns-clause-sum
returns-clause-sum c =
    let old = c.self.inside in
    let credit = c.args.credit.now in
    let inferences : c.saturating_add-self-inside.result ≡ counted credit.inferences old.inferences = (let e = c.saturating_add-self-inside.ensures in omega (arith, e)) in
    let answers : c.saturating_add-self-inside-2.result ≡ counted credit.answers old.answers = (let e = c.saturating_add-self-inside-2.ensures in omega (arith, e)) in
    same_credit _ _ _ _ _ _ inferences answers
    (left_records old.before.items c.batches.result.now old.behind.items c.share_backwards.new.out.items credit.records c.in_ok-share_backwards.ensures.shared c.batches.ensures.terms)
    ∙ ap (λ (o : Credit). added (credit_view credit) o) c.self.view_is
