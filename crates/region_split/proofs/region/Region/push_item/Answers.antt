use Rattle.region_split.proofs.ItemLemmas.{item_put}
use Rattle.region_split.proofs.region.Region.push_item.Goals as goal

pub returns-clause-ok : goal.returns-clause-ok
returns-clause-ok c = item_put c.args.self.now c.push_frame.new.self c.args.item c.args.cut c.in_ok-frame.frame c.args.after c.requires.item c.requires.mark c.requires.after c.in_ok-frame.ensures.ok
