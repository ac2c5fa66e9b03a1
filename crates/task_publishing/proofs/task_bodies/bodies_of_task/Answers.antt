use Rattle.std.proofs.Common.{subst}
use Rattle.public_tree.specs.Publishing.{bodies_view}
use Rattle.task_publishing.specs.PublishedRuns.{MeanPublished}
use Rattle.task_publishing.proofs.BodyLemmas.{leaves_bodies}
use Rattle.task_publishing.proofs.task_bodies.bodies_of_task.Goals as goal

pub returns : goal.returns
returns c =
    let nodes = c.args.nodes.now in
    let captured = c.in_ok-captured.captured in
    let goals = c.in_ok-goals.goals.now in
    let base = c.in_ok-goals.base in
    let numbers = c.args.numbers.now in
    let all = bodies_view c.in_ok-bodies.bodies.items in
    leaves_bodies nodes _ c.args.task c.in_ok-captured.region captured all numbers goals base c.own_entries_are_taken.ensures.taken c.unifiers_are_final.ensures.older
    c.unifiers_are_final.ensures.last c.places_are_levels.ensures c.in_ok-captured.ensures
    (subst (λ n. MeanPublished captured goals base numbers n all) c.drawn.ensures c.in_ok-bodies.ensures) c.requires.numbers c.in_ok-goals.ensures
