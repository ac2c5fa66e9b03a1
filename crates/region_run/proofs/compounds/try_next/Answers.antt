use Rattle.std.proofs.Common.{◌-◌, ap}
use Rattle.std.proofs.lemmas.Result.{IfOk-weaker}
use Rattle.region_run.proofs.GoingOnLemmas.{tried_next}
use Rattle.region_run.proofs.compounds.try_next.Goals as goal

pub returns-in-Some-clause-goes : goal.returns-in-Some-clause-goes
returns-in-Some-clause-goes c =
    let r = c.next_clause.new.self in
    let new = c.try_clause.new.self in
    IfOk-weaker c.try_clause.result _ _ (λ reached k. tried_next c.args.region.now r new c.in-Some.trial _ c.in-Some.ensures (ap (λ n. n - 1) c.in_ok-count.ensures.count) c.try_clause.ensures.kept reached k) c.try_clause.ensures.tried
