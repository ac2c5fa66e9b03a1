use Rattle.std.proofs.Common.{arith}
use Rattle.aurora_cli.proofs.BudgetLemmas.{no_budget, not_parsed}
use Rattle.aurora_cli.proofs.words.budget_of.Goals as goal
use Rattle.aurora_cli.proofs.words.budget_of.Goals.{then-word-gt10-via-then-word-gt10, then-word-gt10-via-else-word-gt10+then-not-is_digits}

pub returns-then-word-gt10 : goal.returns-then-word-gt10
returns-then-word-gt10 c =
    elim c.then-word-gt10.branch [
      | then-word-gt10-via-then-word-gt10 w ↦ no_budget c.args.word.now (λ b. omega (arith, b.few, w.if-word-gt10.true))
      | then-word-gt10-via-else-word-gt10+then-not-is_digits w ↦ no_budget c.args.word.now (λ b. cc (b.digits, w.is_digits.ensures, w.if-not-is_digits.true))
    ]

pub returns-in_default-3 : goal.returns-in_default-3
returns-in_default-3 c = no_budget c.args.word.now (not_parsed c.args.word.now c.in_default.field-0 c.in_default.ensures.value.0)
