use Rattle.std.proofs.Common.{◌≡◌, ◌==◌, ◌<◌, true, false, length, refl, sym, arith}
use Rattle.std.proofs.lemmas.Bool.Decides.{nat_tests}
use Rattle.std.proofs.lemmas.Grind.{common_steps}
use Rattle.task_publishing.proofs.LiveLemmas.{adds_empty, adds_live}
use Rattle.task_publishing.proofs.steps.with_choice.Goals as goal

pub returns-then-is_empty : goal.returns-then-is_empty
returns-then-is_empty c =
    let test : (c.args.choice.alternatives.len == 0) ≡ true = sym c.if-is_empty.ensures in
    let none : length c.args.choice.alternatives.items ≡ 0 = grind (arith, nat_tests, common_steps) in
    adds_empty c.args.before _ c.args.choice none refl refl (sym c.in_ok-joined.ensures)

pub returns : goal.returns
returns c =
    let test : (c.args.choice.alternatives.len == 0) ≡ false = sym c.if-is_empty.ensures in
    let some : 0 < length c.args.choice.alternatives.items = grind (arith, nat_tests, common_steps) in
    adds_live c.args.before _ c.args.choice _ some c.in_ok-push.ensures.items refl refl refl refl (sym c.in_ok-joined.ensures) refl c.new.ensures
