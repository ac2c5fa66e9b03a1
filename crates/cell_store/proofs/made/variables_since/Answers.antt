use Rattle.std.proofs.Common.{◌≤◌, sym, subst, arith}
use Rattle.std.specs.List.{Contains}
use Rattle.std.proofs.lemmas.List.Filters.{dedup_is}
use Rattle.std.proofs.lemmas.List.Kept.{Contains-dedup_nat, Contains-from_dedup}
use Rattle.std.proofs.lemmas.List.Sorted.{Contains-permutation, IsPermutation-sym}
use Rattle.std.proofs.lemmas.Map.Keys.{IsStrictlyIncreasing-dedup}
use Rattle.cell_store.proofs.MadeBindingLemmas.{pushed_all, pushed_others, up_to, from_up_to}
use Rattle.cell_store.proofs.made.variables_since.Goals as goal

pub loop-variable-preserved : goal.loop-variable-preserved
loop-variable-preserved c =
    let is = c.in_ok-push.ensures.items in
    let from : c.args.below ≤ c.loop-variable.variable = omega arith in
    record {
      all = λ v h. subst (λ xs. Contains xs v) (sym is) (pushed_all c.args.trail.now c.loop-variable.variables.items c.args.below c.loop-variable.variable c.loop-variable.invariant.all v h);
      others = λ v h. pushed_others c.args.trail.now c.loop-variable.variables.items c.args.below c.loop-variable.variable from c.loop-variable.invariant.others v (subst (λ xs. Contains xs v) is h);
    }

pub returns-clause-rising : goal.returns-clause-rising
returns-clause-rising c = let is = dedup_is _ _ _ c.dedup.ensures.filtered in rw is (IsStrictlyIncreasing-dedup _ c.sort_unstable.ensures.sorted)

pub returns-clause-all : goal.returns-clause-all
returns-clause-all c =
    let is = dedup_is _ _ _ c.dedup.ensures.filtered in
    let moved = c.sort_unstable.ensures.permutation in
    λ v h. rw is (Contains-dedup_nat _ v (Contains-permutation _ _ v moved (c.loop-variable.invariant.all v (up_to c.args.trail.now c.args.below c.args.count c.loop-variable.variable v (omega arith) h))))

pub returns-clause-others : goal.returns-clause-others
returns-clause-others c =
    let is = dedup_is _ _ _ c.dedup.ensures.filtered in
    let moved = c.sort_unstable.ensures.permutation in
    λ v h. from_up_to c.args.trail.now c.args.below c.args.count c.loop-variable.variable v (omega arith) (c.loop-variable.invariant.others v (Contains-permutation _ _ v (IsPermutation-sym _ _ moved) (Contains-from_dedup _ _ v (rw is at h))))
