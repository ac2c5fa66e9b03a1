use Rattle.std.proofs.Common.{◌≡◌, length, refl, ◌∙◌, subst, arith}
use Rattle.region_split.specs.Backtracking.{TakesNext}
use Rattle.region_split.specs.declared.choice.Resumed.TheVariants.{AllDone}
use Rattle.region_split.proofs.BacktrackingLemmas.{resumed_by_steps, all_done}
use Rattle.region_split.proofs.region.Region.backtrack.Goals as goal

pub returns-in-Some-clause-steps : goal.returns-in-Some-clause-steps
returns-in-Some-clause-steps c =
    resumed_by_steps c.args.self.now c.loop-self.self c.take_next.new.self c.in-Some.next c.loop-self.invariant.0
    (subst (TakesNext c.loop-self.self c.take_next.new.self) c.in-Some.is c.in_ok-next.ensures.takes)

pub returns-clause-steps : goal.returns-clause-steps
returns-clause-steps c =
    let none : length c.loop-self.self.choices ≡ 0 = let h = c.height.ensures in let t = c.loop-self-test.false in omega (arith, h, t) in
    resumed_by_steps c.args.self.now c.loop-self.self c.loop-self.self AllDone c.loop-self.invariant.0 (all_done c.loop-self.self none)

pub loop-self-preserved : goal.loop-self-preserved
loop-self-preserved c =
    let takes = subst (TakesNext c.loop-self.self c.take_next.new.self) c.in-None.is c.in_ok-next.ensures.takes in
    ((λ named. c.loop-self.invariant.0 named ∙ takes.1 named), (c.in_ok-next.ensures.text ∙ c.loop-self.invariant.1.0, c.in_ok-next.ensures.floor ∙ c.loop-self.invariant.1.1))

pub loop-self-init : goal.loop-self-init
loop-self-init c = ((λ named. refl), (refl, refl))

pub returns-in-Some-clause-resumes : goal.returns-in-Some-clause-resumes
returns-in-Some-clause-resumes c =
    let takes = subst (TakesNext c.loop-self.self c.take_next.new.self) c.in-Some.is c.in_ok-next.ensures.takes in
    record { entries = λ named. c.loop-self.invariant.0 named ∙ takes.entries named; there = takes.there }

pub returns-clause-resumes : goal.returns-clause-resumes
returns-clause-resumes c =
    let none : length c.loop-self.self.choices ≡ 0 = let h = c.height.ensures in let t = c.loop-self-test.false in omega (arith, h, t) in
    let done = all_done c.loop-self.self none in
    record { entries = λ named. c.loop-self.invariant.0 named ∙ done.entries named; there = none }
