use Rattle.task_region.proofs.LoadLemmas.{nothing_over, goals_over, first_over, goals_loaded}
use Rattle.task_region.proofs.loading.load_goals.Goals as goal

pub push_item-requires-clause-after : goal.push_item-requires-clause-after
push_item-requires-clause-after c =
    nothing_over c.args.region.now c.args.cut c.nothing_left-nothing.result c.nothing_left-nothing.ensures.items c.nothing_left-nothing.ensures.position

pub push_goals-requires-clause-goals : goal.push_goals-requires-clause-goals
push_goals-requires-clause-goals c =
    goals_over c.args.region.now c.push_item.new.self _ c.args.cut c.nothing_left-nothing.result c.in_ok-rest.rest c.in_ok-rest.ensures.ok c.args.more.now c.requires.more

pub push_goals-requires-clause-after : goal.push_goals-requires-clause-after
push_goals-requires-clause-after c = c.in_ok-rest.ensures.ok.position

pub copy_in-requires : goal.copy_in-requires
copy_in-requires c =
    first_over c.args.region.now c.push_item.new.self c.push_goals.new.self _ c.args.cut c.nothing_left-nothing.result c.in_ok-rest.rest c.in_ok-after.after c.in_ok-rest.ensures.ok c.args.more.now c.in_ok-after.ensures c.args.goal.now c.requires.goal

pub returns : goal.returns
returns c = record {
  loads =
      goals_loaded c.args.region.now c.push_item.new.self c.push_goals.new.self c.copy_in.new.self c.nothing_left-nothing.result c.in_ok-rest.rest c.in_ok-after.after c.nothing_left-nothing.ensures.items c.args.goal.now c.args.more.now c.in_ok-value.value c.args.cut c.args.number c.requires.cut
      c.in_ok-rest.ensures.ok c.in_ok-after.ensures c.in_ok-value.ensures.text c.in_ok-value.ensures.stays c.in_ok-value.ensures.there c.in_ok-value.ensures.term;
}
