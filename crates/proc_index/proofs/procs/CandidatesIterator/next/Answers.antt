use Rattle.std.proofs.Common.{◌<◌, ◌∷◌, ◌++◌, List, map, length, ap, ◌∙◌, sym, subst}
use Rattle.std.specs.Arc.{arc_value}
use Rattle.au_model.specs.Terms.Each.{Each}
use Rattle.run_model.specs.Programs.Clauses.{Clause as ClauseTerms}
use Rattle.proc_index.specs.Places.{merged, clauses_at}
use Rattle.proc_index.proofs.IndexLemmas.{here_at}
use Rattle.proc_index.proofs.procs.CandidatesIterator.next.Goals as goal

pub returns-clause-steps : goal.returns-clause-steps
returns-clause-steps c =
    let arcs = c.self.inside.clauses.now in
    let place = c.in_ok-place.place in
    let rest = merged c.take_least.new.self.left.now c.take_least.new.self.right.now in
    let within = subst (Each (λ i. i < length arcs)) c.in_ok-place.ensures c.self.invariant in
    let here = here_at arc_value arcs place c.index-self-place.result within.0 c.index-self-place.is in
    sym c.self.view_is ∙ (ap (clauses_at (map arc_value arcs)) c.in_ok-place.ensures
    ∙ (ap (λ (ds : List ClauseTerms). ds ++ clauses_at (map arc_value arcs) rest) here ∙ ap (λ (d : ClauseTerms). d ∷ clauses_at (map arc_value arcs) rest) (ap arc_value c.index-self-place.is)))
