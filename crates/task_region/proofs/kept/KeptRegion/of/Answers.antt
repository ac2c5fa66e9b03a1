use Rattle.std.proofs.Common.{◌≡◌, length, sym, subst, arith}
use Rattle.tree_model.specs.EventViews.{place_view}
use Rattle.task_region.proofs.KeptRegionLemmas.{ends_under, taken_back}
use Rattle.task_region.proofs.kept.KeptRegion.of.Goals as goal
use Rattle.region_split.specs.QueryEnds.{IsEnd, AreEndsOldest}

pub push_choice-requires-clause-over : goal.push_choice-requires-clause-over
push_choice-requires-clause-over c =
    ends_under c.take_newest-end.new.self.choices c.take_newest-end.result (subst AreEndsOldest c.take_newest-end.ensures.choices c.ends_are_oldest.ensures.ends) (subst IsEnd (sym c.in-QueryEnd.is) tt)

pub returns : goal.returns
returns c =
    let long : c.len-count.result ≡ length c.args.numbers.items = let e = c.len-count.ensures in omega (arith, e) in
    taken_back c.args.region c.cut_to.new.self c.take_newest-end.new.self c.push_choice.new.self c.len-count.result c.take_newest-end.result (place_view c.args.at) c.args.numbers.items
    c.nothing_left-nothing.result c.cut_to.ensures c.take_newest-end.ensures c.in-QueryEnd.is c.ends_are_oldest.ensures.ends c.in_ok-push_choice.ensures.ok long
