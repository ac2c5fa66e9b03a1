use Rattle.std.proofs.Common.{ℕ, refl, ◌∙◌, subst}
use Rattle.tree_model.specs.Nodes.{Inner}
use Rattle.tree_nodes.proofs.GoingLemmas.{IsGoing, going_begins}
use Rattle.tree_nodes.proofs.DropStepLemmas.{stepped, ended}
use Rattle.tree_nodes.proofs.StayingLemmas.{made_same, made_then, made_shortened}
use Rattle.tree_nodes.proofs.drops.drop_node.Goals as goal

pub loop-next-init : goal.loop-next-init
loop-next-init c =
    let rows = c.args.table.now in
    let live = c.args.live.now in
    record {
      length = refl;
      made = made_same rows;
      going = λ read way parent node e h once. subst (λ (n : ℕ). IsGoing rows live rows live n (Inner node)) e (going_begins rows live read way parent node h);
    }

pub loop-next-preserved : goal.loop-next-preserved
loop-next-preserved c =
    let d = c.in-Some.ensures.step in
    let k = c.loop-next.invariant in
    record {
      length = d.shortened.length ∙ k.length;
      made = made_then c.args.table.now c.loop-next.table c.drop_step.new.table k.made (made_shortened c.loop-next.table c.drop_step.new.table c.loop-next.at d.taken d.shortened);
      going = λ read way parent node e h once.
          stepped c.args.table.now c.args.live.now c.loop-next.table c.loop-next.live c.loop-next.at c.args.top node once
          (k.going read way parent node e h once) read way parent h e c.drop_step.new.table d.shortened.same d.taken c.drop_step.new.live
          c.in-Some.next d.shortened.here d.next d.counted;
    }

pub returns-clause-drops : goal.returns-clause-drops
returns-clause-drops c =
    let d = c.in_default.ensures.step in
    let k = c.loop-next.invariant in
    record {
      length = d.shortened.length ∙ k.length;
      drops = λ read way parent node e h once.
          ended c.args.table.now c.args.live.now c.loop-next.table c.loop-next.live c.loop-next.at c.args.top node once
          (k.going read way parent node e h once) read way parent h e c.drop_step.new.table d.shortened.same d.taken c.drop_step.new.live
          d.shortened.here d.next d.counted;
    }

pub returns-clause-made : goal.returns-clause-made
returns-clause-made c =
    let d = c.in_default.ensures.step in
    made_then c.args.table.now c.loop-next.table c.drop_step.new.table c.loop-next.invariant.made (made_shortened c.loop-next.table c.drop_step.new.table c.loop-next.at d.taken d.shortened)
