use Rattle.std.proofs.Common.{◌≡◌, ap, ◌∙◌, arith}
use Rattle.tree_model.specs.Credits.{Credit, counted, added}
use Rattle.tree_nodes.specs.Rows.{credit_view}
use Rattle.tree_nodes.proofs.CreditLemmas.{same_credit}
use Rattle.tree_nodes.proofs.BatchLemmas.{right_records}
use Rattle.tree_nodes.proofs.SomeLemmas.{on_err}
use Rattle.tree_nodes.proofs.gather.Gathered.add_right.Goals as goal

pub returns-in_err-share_behind-clause-some : goal.returns-in_err-share_behind-clause-some
returns-in_err-share_behind-clause-some c = on_err c.from_residual.result _ (λ e. c.in_err-share_behind.ensures.some (c.batches.ensures.none e))

pub returns-clause-sum : goal.returns-clause-sum
returns-clause-sum c =
    let old = c.self.inside in
    let credit = c.args.credit.now in
    let inferences : c.saturating_add-self-inside.result ≡ counted old.inferences credit.inferences = (let e = c.saturating_add-self-inside.ensures in omega (arith, e)) in
    let answers : c.saturating_add-self-inside-2.result ≡ counted old.answers credit.answers = (let e = c.saturating_add-self-inside-2.ensures in omega (arith, e)) in
    same_credit _ _ _ _ _ _ inferences answers
    (right_records old.before.items old.behind.items c.batches.result.now c.share_behind.new.out.items credit.records c.in_ok-share_behind.ensures.shared c.batches.ensures.terms)
    ∙ ap (λ (o : Credit). added o (credit_view credit)) c.self.view_is
