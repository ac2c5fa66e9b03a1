use Rattle.std.proofs.Common.{length, subst}
use Rattle.std.specs.Arc.{arc_value}
use Rattle.region_split.specs.Regions.{RegionView}
use Rattle.region_split.specs.StackOperations.{KeepsPositions, StaysStanding}
use Rattle.region_split.proofs.StoreLemmas.{added_region, text_added, positions_kept}
use Rattle.region_split.proofs.region.Region.list_goal.Goals as goal

pub invariant_of-self : goal.invariant_of-self
invariant_of-self c =
    let s = c.self.inside in let r : RegionView = record { text = arc_value s.text; store = s.store; frames = s.frames.items; choices = s.choices.items } in
    added_region r c.self.invariant c.list_goal.new.self c.list_goal.ensures.others

pub returns-clause-stays : goal.returns-clause-stays
returns-clause-stays c =
    let s = c.self.inside in let r : RegionView = record { text = arc_value s.text; store = s.store; frames = s.frames.items; choices = s.choices.items } in
    subst (λ (x : RegionView). StaysStanding x (record r { store = c.list_goal.new.self })) c.self.view_is (text_added r c.self.invariant c.list_goal.new.self c.list_goal.ensures.others)

pub returns-clause-keeps : goal.returns-clause-keeps
returns-clause-keeps c =
    let s = c.self.inside in let r : RegionView = record { text = arc_value s.text; store = s.store; frames = s.frames.items; choices = s.choices.items } in
    subst (λ (x : RegionView). KeepsPositions x (record r { store = c.list_goal.new.self }) (length x.frames)) c.self.view_is (positions_kept r c.self.invariant c.list_goal.new.self c.list_goal.ensures.others)
