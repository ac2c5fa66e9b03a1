use Rattle.tree_nodes.proofs.StayingLemmas.{made_then}
use Rattle.scheduler.proofs.turns.hand_out.Goals as goal

pub returns-in_err-at-2-clause-made : goal.returns-in_err-at-2-clause-made
returns-in_err-at-2-clause-made g c =
    made_then c.args.tree.now.nodes.rows c.claim.new.self.nodes.rows c.resume.new.self.nodes.rows c.claim.ensures.made c.resume.ensures.made

pub returns-clause-made : goal.returns-clause-made
returns-clause-made g c =
    made_then c.args.tree.now.nodes.rows c.claim.new.self.nodes.rows c.resume.new.self.nodes.rows c.claim.ensures.made c.resume.ensures.made
