use Rattle.std.proofs.Common.{sym, ap, ◌∙◌, subst}
use Rattle.region_split.specs.Regions.{IsLeftAt}
use Rattle.region_split.specs.declared.frame.Position.{Position}
use Rattle.region_control.proofs.BallLemmas.{walk_past, catch_found, walk_on, no_catch}
use Rattle.region_control.proofs.balls.first_catch.Goals as goal

pub returns-then-ends_catch : goal.returns-then-ends_catch
returns-then-ends_catch c =
    let r = c.args.region.now in
    catch_found r c.args.position c.loop-item.next c.loop-item.invariant c.in-First.item c.in-First.cut (subst (IsLeftAt r c.loop-item.next) c.in-First.is c.left_at.ensures) (sym c.ends_catch.ensures ∙ c.if-ends_catch.true)

pub loop-item-preserved-in-First : goal.loop-item-preserved-in-First
loop-item-preserved-in-First c =
    let r = c.args.region.now in
    let p = c.loop-item.next in
    let q : Position = record { frame = p.frame; at = c.in-Some.at } in
    walk_past r c.args.position p c.loop-item.invariant c.in-First.item c.in-First.cut (subst (IsLeftAt r p) c.in-First.is c.left_at.ensures) q
    (ap (λ n. (let x : Position = record { frame = p.frame; at = n } in x)) c.in-Some.ensures.1) (sym c.ends_catch.ensures ∙ c.if-ends_catch.false)

pub loop-item-preserved : goal.loop-item-preserved
loop-item-preserved c =
    let r = c.args.region.now in
    walk_on r c.args.position c.loop-item.next c.loop-item.invariant c.in-GoesOnAt.older (subst (IsLeftAt r c.loop-item.next) c.in-GoesOnAt.is c.left_at.ensures)

pub returns-in-Nothing : goal.returns-in-Nothing
returns-in-Nothing c =
    let r = c.args.region.now in
    no_catch r c.args.position c.loop-item.next c.loop-item.invariant (subst (IsLeftAt r c.loop-item.next) c.in-Nothing.is c.left_at.ensures)
