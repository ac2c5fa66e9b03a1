use Rattle.std.proofs.Common.{◌≢◌, [], Option, sym, ap, ◌∙◌, subst, arith}
use Rattle.tree_model.specs.Credits.{Credit}
use Rattle.tree_model.specs.EventViews.{place_view}
use Rattle.tree_model.specs.declared.places.AltRef.{AltRef}
use Rattle.tree_nodes.specs.Rows.{credit_view}
use Rattle.tree_nodes.specs.RowViews.{parent_view}
use Rattle.tree_nodes.specs.Gathering.{IsFoldStep}
use Rattle.tree_nodes.specs.Folds.{FoldsUpTo, IsAbove}
use Rattle.tree_nodes.proofs.FoldLemmas.{folds_more, folds_end}
use Rattle.tree_nodes.proofs.SomeLemmas.{on_err, closes_some, step_some}
use Rattle.tree_nodes.proofs.NoneLemmas.{step_none, step_is_none}
use Rattle.tree_nodes.proofs.nodes.Nodes.folded.Goals as goal

pub loop-gathered-preserved : goal.loop-gathered-preserved
loop-gathered-preserved c =
    let nodes = c.args.self.now in
    let end = place_view c.loop-gathered.end in
    let step = subst (λ (o : Option AltRef). IsFoldStep nodes.rows end c.loop-gathered.gathered (parent_view o) c.fold_step.new.gathered) c.in-Some.is c.in_ok-above.ensures.step in
    let above = subst (λ (o : Option AltRef). IsAbove nodes.rows (parent_view o) end.node) c.in-Some.is c.in_ok-above.ensures.above in
    record {
      there = above.0;
      folds = folds_more nodes (place_view c.args.at) (credit_view c.args.credit) end c.loop-gathered.gathered (place_view c.in-Some.above) c.fold_step.new.gathered
          c.loop-gathered.invariant.folds step;
      above = let lower = above.1 in let before = c.loop-gathered.invariant.above in omega (arith, lower, before);
      none = λ h e. step_none nodes.rows end (place_view c.in-Some.above) c.loop-gathered.gathered c.fold_step.new.gathered h step (c.loop-gathered.invariant.none h e);
    }

pub returns-in_err-above-clause-provided : goal.returns-in_err-above-clause-provided
returns-in_err-above-clause-provided c =
    on_err c.from_residual.result _
    (step_some c.args.self.now (place_view c.args.at) (credit_view c.args.credit) (place_view c.loop-gathered.end) c.loop-gathered.gathered c.loop-gathered.invariant.folds
    c.in_err-above.ensures.some)

pub returns-in_err-above-clause-without : goal.returns-in_err-above-clause-without
returns-in_err-above-clause-without c = λ h e.
    absurd (step_is_none c.args.self.now.rows (place_view c.loop-gathered.end) c.loop-gathered.gathered h c.in_err-above.ensures.some (c.loop-gathered.invariant.none h e))

pub returns-in_err-total-clause-provided : goal.returns-in_err-total-clause-provided
returns-in_err-total-clause-provided c =
    let nodes = c.args.self.now in
    let end = place_view c.loop-gathered.end in
    let step = subst (λ (o : Option AltRef). IsFoldStep nodes.rows end c.loop-gathered.gathered (parent_view o) c.fold_step.new.gathered) c.in_default.is c.in_ok-above.ensures.step in
    on_err c.from_residual-in_err-total.result _
    (closes_some nodes (place_view c.args.at) (credit_view c.args.credit) end c.loop-gathered.gathered c.loop-gathered.invariant.folds
    (subst (λ (k : Credit). k.records ≢ []) step.sum c.in_err-total.ensures.some))

pub returns-in_err-total-clause-without : goal.returns-in_err-total-clause-without
returns-in_err-total-clause-without c = λ h e.
    let nodes = c.args.self.now in
    let end = place_view c.loop-gathered.end in
    let step = subst (λ (o : Option AltRef). IsFoldStep nodes.rows end c.loop-gathered.gathered (parent_view o) c.fold_step.new.gathered) c.in_default.is c.in_ok-above.ensures.step in
    absurd (c.in_err-total.ensures.some (ap (λ (k : Credit). k.records) step.sum ∙ c.loop-gathered.invariant.none h e))

pub returns-clause-folds : goal.returns-clause-folds
returns-clause-folds c =
    let nodes = c.args.self.now in
    let end = place_view c.loop-gathered.end in
    let step = subst (λ (o : Option AltRef). IsFoldStep nodes.rows end c.loop-gathered.gathered (parent_view o) c.fold_step.new.gathered) c.in_default.is c.in_ok-above.ensures.step in
    subst (λ (k : Credit). FoldsUpTo nodes (place_view c.args.at) (credit_view c.args.credit) end k) (sym c.in_ok-total.ensures.sum)
    (folds_end nodes (place_view c.args.at) (credit_view c.args.credit) end c.loop-gathered.gathered c.fold_step.new.gathered c.loop-gathered.invariant.folds step)
