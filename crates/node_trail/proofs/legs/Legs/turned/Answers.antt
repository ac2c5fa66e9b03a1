use Rattle.std.proofs.Common.{List, ◌++◌, ap, ◌∙◌, reverse}
use Rattle.au_term.specs.declared.segment.Segment.{Segment}
use Rattle.node_trail.specs.Segments.{all_some}
use Rattle.node_trail.proofs.LegLemmas.{turned_some, turned_none}
use Rattle.node_trail.proofs.legs.Legs.turned.Goals as goal

pub loop-last-preserved-in-Continue-1 : goal.loop-last-preserved-in-Continue-1
loop-last-preserved-in-Continue-1 c = ap (λ (x : List Segment). x ++ reverse (all_some c.pop.new.self.items)) c.in_ok-push.ensures
    ∙ turned_some c.loop-last.legs (reverse c.args.self) c.loop-last.left.items c.pop.new.self.items c.in-Some.last c.in-Some-last.leg c.in-Some.ensures.items c.in-Some-last.is
    c.loop-last.invariant

pub loop-last-preserved : goal.loop-last-preserved
loop-last-preserved c = turned_none c.loop-last.legs (reverse c.args.self) c.loop-last.left.items c.pop.new.self.items c.in-Some.last c.in-Some.ensures.items
    c.in_default-last.is c.loop-last.invariant
