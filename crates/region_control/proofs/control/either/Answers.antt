use Rattle.std.proofs.Common.{◌∙◌, subst}
use Rattle.cell_store.specs.StoreView.{meaning}
use Rattle.run_model.specs.Goals.Outcomes.{EitherOf}
use Rattle.run_model.specs.Programs.Bodies.{goals_of}
use Rattle.region_split.specs.StackOperations.{PutsBefore}
use Rattle.region_split.specs.declared.choice.Alternatives.TheVariants.{Elsewhere}
use Rattle.region_split.specs.declared.frame.Position.{Position}
use Rattle.region_split.proofs.CallLemmas.{if_ok_then}
use Rattle.region_control.specs.Controls.{Controls}
use Rattle.region_control.specs.Goals.{goals_by, given_goals}
use Rattle.region_control.specs.declared.goals.Goals.TheVariants.{Body}
use Rattle.region_control.proofs.ControlLemmas.{put_position, put_goals, added_goals, either_goals}
use Rattle.region_control.proofs.control.either.Goals as goal

pub push_choice-requires-clause-position : goal.push_choice-requires-clause-position
push_choice-requires-clause-position c =
    let r0 = c.args.region.now in
    put_position r0 c.push_goals.new.region (goals_by (given_goals r0.store (Body c.args.right)) c.args.place.cut) c.args.place c.in_ok-other.other c.requires.place c.in_ok-other.ensures.ok

pub returns : goal.returns
returns c =
    let r0 = c.args.region.now in
    let r = c.push_goals.new.region in
    let r1 = c.push_choice.new.self in
    let last = c.push_goals-2.new.region in
    let g = c.args.place in
    let x = c.in_ok-other.ensures.ok in
    let others = given_goals r0.store (Body c.args.right) in
    let same = added_goals r r1 Elsewhere c.in_ok-other.other c.in_ok-push_choice.ensures.ok (Body c.args.left) ∙ put_goals r0 r (goals_by others g.cut) g.cut g.after c.in_ok-other.other x (Body c.args.left) in
    if_ok_then (PutsBefore r1 last (goals_by (given_goals r1.store (Body c.args.left)) g.cut) g.cut g.after) (Controls r0 last (EitherOf (goals_of (meaning r0.store c.args.left)) (goals_of (meaning r0.store c.args.right))) g) c.push_goals-2.result
    (λ (p : Position) y. either_goals r0 r r1 last (given_goals r0.store (Body c.args.left)) others g c.in_ok-other.other p c.requires.place x c.in_ok-push_choice.ensures.ok (subst (λ gs. PutsBefore r1 last (goals_by gs g.cut) g.cut g.after p) same y))
    c.push_goals-2.ensures.ok
