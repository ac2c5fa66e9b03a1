use Rattle.std.proofs.Common.{◌+◌, ◌∷◌, drop, ap, sym, ◌∙◌}
use Rattle.std.proofs.lemmas.List.{drop_more, drop_all}
use Rattle.region_split.specs.ResultLists.{ResultsView}
use Rattle.task_stops.specs.GatheredResults.{gathered, gathered_view}
use Rattle.task_stops.proofs.gather.gather.Goals as goal

pub loop-record-init : goal.loop-record-init
loop-record-init c = ap (λ ts. gathered c.args.records.now (let v : ResultsView = record { terms = ts; next = c.args.next } in v)) c.in_ok-terms.ensures

pub loop-record-preserved : goal.loop-record-preserved
loop-record-preserved c =
    let xs = c.args.records.now in
    let i = c.loop-record.record-index in
    let here = drop_more xs i c.record-item.result c.loop-record-test.true ∙ ap (λ y. y ∷ drop (i + 1) xs) (sym c.record-item.is) in
    ap (gathered (drop (i + 1) xs)) c.in_ok-push_copy.ensures
    ∙ (ap (λ ys. gathered ys (gathered_view c.loop-record.all)) (sym here) ∙ c.loop-record.invariant)

pub returns : goal.returns
returns c =
    ap (λ ys. gathered ys (gathered_view c.loop-record.all)) (sym (drop_all c.loop-record.record-index c.args.records.now c.loop-record-test.false))
    ∙ c.loop-record.invariant
