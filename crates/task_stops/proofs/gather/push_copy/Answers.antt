use Rattle.std.proofs.Common.{◌∷◌, [], ◌++◌, ap, sym, ◌∙◌}
use Rattle.region_split.specs.ResultLists.{ResultsView}
use Rattle.region_split.proofs.ResultLemmas.{own_copy}
use Rattle.task_stops.specs.GatheredResults.{gathered_view}
use Rattle.task_stops.proofs.gather.push_copy.Goals as goal

pub returns-then-bound-eq0 : goal.returns-then-bound-eq0
returns-then-bound-eq0 c =
    ap (λ ts. (let v : ResultsView = record { terms = ts; next = c.args.all.now.next } in v)) c.in_ok-push.ensures.items
    ∙ (ap (λ t. (let v : ResultsView = record { terms = c.args.all.now.terms.items ++ t ∷ []; next = c.args.all.now.next } in v)) c.in_ok-copy.ensures
    ∙ own_copy c.args.term.now (gathered_view c.args.all.now) (sym c.bound.ensures ∙ c.if-bound-eq0.true))
