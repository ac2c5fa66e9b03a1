use Rattle.std.proofs.Common.{◌≡◌, length, refl, subst}
use Rattle.region_split.specs.ChoicePoints.{height_of_cut}
use Rattle.region_split.specs.Regions.{entries_of, heights_of}
use Rattle.region_control.specs.declared.balls.Catch.{Catch}
use Rattle.region_control.proofs.BallLemmas.{catch_taken}
use Rattle.region_control.proofs.balls.take_catch.Goals as goal

pub returns-clause-taken : goal.returns-clause-taken
returns-clause-taken c =
    let new = c.take_newest-alternatives.new.self in
    let k : Catch = record { catcher = c.in-Catch.catcher; recovery = c.in-Catch.recovery; after = c.take_newest-alternatives.result.after } in
    catch_taken c.args.region.now c.cut_to.new.self new c.args.over c.take_newest-alternatives.result c.requires c.cut_to.ensures c.take_newest-alternatives.ensures k c.in-Catch.is refl
    (λ named. subst (λ n. height_of_cut (heights_of named new) n ≡ length (entries_of named new)) c.in_ok-_height.ensures.count (c.in_ok-_height.ensures.height named))
