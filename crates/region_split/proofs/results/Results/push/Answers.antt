use Rattle.std.proofs.Common.{◌∙◌, ap, sym}
use Rattle.region_split.specs.ResultLists.{ResultsView, with_copy}
use Rattle.region_split.proofs.ResultLemmas.{own_copy}
use Rattle.region_split.proofs.results.Results.push.Goals as goal

pub returns-then-bound-eq0-clause-ok : goal.returns-then-bound-eq0-clause-ok
returns-then-bound-eq0-clause-ok c =
    let before : ResultsView = record { terms = c.self.inside.terms.items; next = c.self.inside.next } in
    ap (λ ts. (let v : ResultsView = record { terms = ts; next = c.self.inside.next } in v)) c.in_ok-push.ensures.items
    ∙ (own_copy c.args.term before (sym c.bound.ensures ∙ c.if-bound-eq0.true)
    ∙ ap (with_copy c.args.term) c.self.view_is)
