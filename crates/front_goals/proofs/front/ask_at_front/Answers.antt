use Rattle.std.proofs.Common.{◌∙◌, sym, ap, subst}
use Rattle.std.proofs.lemmas.Result.{IfOk-weaker}
use Rattle.cell_store.specs.StoreView.{IsValidStore, meaning}
use Rattle.effect_gate.specs.Effects.{world_meant}
use Rattle.region_control.proofs.ControlLemmas.{place_in}
use Rattle.region_split.specs.Regions.{RegionView, IsPositionIn}
use Rattle.region_world.specs.AskedEffects.{AsksWorldIn}
use Rattle.region_world.specs.WorldAnswers.{AnswersWorldGoal}
use Rattle.run_model.specs.Goals.Worlds.{static_among}
use Rattle.tree_core.specs.Histories.{state_of}
use Rattle.tree_model.specs.EventViews.{place_view}
use Rattle.std.specs.Arc.{arc_value}
use Rattle.task_world.proofs.FrontLemmas.{is_there}
use Rattle.front_goals.specs.KeptAtFront.{CanBeKept}
use Rattle.front_goals.proofs.KeptLemmas.{can_be_kept}
use Rattle.task_publishing.proofs.KeptLemmas.{number_drawn}
use Rattle.front_goals.specs.RepliesNext.{IsBoundThere, TellsNext}
use Rattle.front_goals.proofs.AskLemmas.{clauses_are, tells, world_is}
use Rattle.front_goals.proofs.AskedItemLemmas.{asks_itself, only_goals_ask}
use Rattle.front_goals.proofs.ToldGoalLemmas.{bound_there, next_there}
use Rattle.front_goals.proofs.front.ask_at_front.Goals as goal

pub unreachable-requires : goal.unreachable-requires
unreachable-requires g c = only_goals_ask c.args.task.task.region c.args.item c.args.place c.requires.stops.next.asks c.in_default.not-Goal

pub into_region-region-requires : goal.into_region-region-requires
into_region-region-requires g c = next_there c.args.task.task.region c.args.task.task.next c.args.item c.args.place c.requires.stops.next

pub ask_world-requires-clause-asks : goal.ask_world-requires-clause-asks
ask_world-requires-clause-asks g c =
    let r = c.args.task.task.region in
    let asks = asks_itself r c.args.item c.in-Goal.goal c.args.place c.in-Goal.is c.requires.stops.next.asks in
    let here : AsksWorldIn r (meaning r.store c.in-Goal.goal) = record { asked = meaning r.store c.in-Goal.goal; asks = asks.0 } in
    subst (λ (x : RegionView). AsksWorldIn x (meaning x.store c.in-Goal.goal)) (sym c.into_region-region.ensures.region) here

pub ask_world-requires-clause-statics : goal.ask_world-requires-clause-statics
ask_world-requires-clause-statics g c =
    let v = c.args.tree.now in
    let r = c.args.task.task.region in
    let a = place_view c.args.at in
    let valid : IsValidStore r.store = subst (λ (x : RegionView). IsValidStore x.store) c.into_region-region.ensures.region (subst IsValidStore c.store.ensures.store c.next-next.ensures.sound) in
    let same = clauses_are v c.args.worker a c.args.task.task c.args.item c.in-Goal.goal c.args.place c.in-Goal.is c.keeps_promises.ensures.nodes.placed c.stays_legal.ensures c.requires.out c.requires.stops valid in
    c.requires.statics ∙ ap static_among (same ∙ ap (λ (x : RegionView). x.text.clauses) (sym c.into_region-region.ensures.region))

pub take_answer-requires-clause-tells : goal.take_answer-requires-clause-tells
take_answer-requires-clause-tells g c =
    let v = c.args.tree.now in
    let r = c.args.task.task.region in
    let a = place_view c.args.at in
    let same = c.into_region-region.ensures.region in
    let valid : IsValidStore r.store = subst (λ (x : RegionView). IsValidStore x.store) same (subst IsValidStore c.store.ensures.store c.next-next.ensures.sound) in
    let old = world_meant c.args.world.now in
    let new = world_meant c.ask_world.new.world in
    let answers = subst (λ (x : RegionView). AnswersWorldGoal x (meaning x.store c.in-Goal.goal) old new c.in_ok-answer.answer) same c.in_ok-answer.ensures.answers in
    subst (λ (x : RegionView). TellsNext x c.in_ok-answer.answer c.args.worker a (state_of v.history)) (sym same)
    (tells v c.args.worker a c.args.task.task c.args.item c.in-Goal.goal c.args.place c.in-Goal.is c.keeps_promises.ensures.nodes.placed c.stays_legal.ensures c.requires.out c.requires.stops valid
    old new c.requires.world c.in_ok-answer.answer answers)

pub take_answer-requires-clause-bound : goal.take_answer-requires-clause-bound
take_answer-requires-clause-bound g c =
    let v = c.args.tree.now in
    let a = place_view c.args.at in
    subst (λ (x : RegionView). IsBoundThere v.nodes x.store.floor c.args.worker a (state_of v.history)) (sym c.into_region-region.ensures.region)
    (bound_there v.history.job v.nodes (state_of v.history) c.args.worker a c.args.task.task c.keeps_promises.ensures.nodes.placed c.requires.start)

pub take_answer-requires-clause-position : goal.take_answer-requires-clause-position
take_answer-requires-clause-position g c =
    subst (λ (x : RegionView). IsPositionIn x c.args.place.after) (sym c.into_region-region.ensures.region)
    (place_in c.args.task.task.region c.args.place c.requires.stops.next.asks.there.place)

pub returns-clause-world : goal.returns-clause-world
returns-clause-world g c =
    let v = c.args.tree.now in
    let r = c.args.task.task.region in
    let a = place_view c.args.at in
    let same = c.into_region-region.ensures.region in
    let valid : IsValidStore r.store = subst (λ (x : RegionView). IsValidStore x.store) same (subst IsValidStore c.store.ensures.store c.next-next.ensures.sound) in
    let old = world_meant c.args.world.now in
    let new = world_meant c.ask_world.new.world in
    let answers = subst (λ (x : RegionView). AnswersWorldGoal x (meaning x.store c.in-Goal.goal) old new c.in_ok-answer.answer) same c.in_ok-answer.ensures.answers in
    let after = world_is v c.args.worker a c.args.task.task c.args.item c.in-Goal.goal c.args.place c.in-Goal.is c.keeps_promises.ensures.nodes.placed c.stays_legal.ensures c.requires.out c.requires.stops valid
    old new c.requires.world c.in_ok-answer.answer answers c.requires.may in
    IfOk-weaker c.take_answer.result _ _ (λ step h. after) c.take_answer.ensures.comes

pub take_answer-requires-clause-kept : goal.take_answer-requires-clause-kept
take_answer-requires-clause-kept g c =
    let v = c.args.tree.now in
    let a = place_view c.args.at in
    let numbers = c.args.task.numbers.items in
    let text = arc_value c.args.text.now in
    let there = is_there v.history.job v.nodes (state_of v.history) c.args.worker a c.keeps_promises.ensures.nodes.placed c.requires.out in
    subst (λ (x : RegionView). CanBeKept v.nodes.rows a text numbers x) (sym c.into_region-region.ensures.region)
    (can_be_kept c.kept_regions_stay.ensures.leave v.nodes.rows a text numbers c.args.task.task (number_drawn v.nodes.rows a.node a.index there) c.requires.way)
