use Rattle.std.proofs.Common.{List, [], ◌∷◌, ◌++◌, ap, ◌∙◌}
use Rattle.au_term.specs.declared.segment.Segment.{Segment}
use Rattle.node_trail.specs.Segments.{all_some}
use Rattle.node_trail.proofs.LegLemmas.{all_some-more}
use Rattle.node_trail.proofs.legs.Legs.push.Goals as goal

pub returns : goal.returns
returns c = ap all_some c.in_ok-push.ensures.ok
    ∙ (all_some-more c.self.inside.list.items c.args.leg ∙ ap (λ (x : List Segment). x ++ c.args.leg ∷ []) c.self.view_is)
