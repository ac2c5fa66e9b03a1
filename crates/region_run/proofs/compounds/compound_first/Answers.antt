use Rattle.std.proofs.Common.{Option, Some, None, sym, subst}
use Rattle.std.specs.Prelude.{IfSome, MatchOption}
use Rattle.region_control.specs.Ahead.{compound_goal, LiesAhead}
use Rattle.region_control.specs.declared.ahead.CompoundAhead.{CompoundAhead}
use Rattle.region_run.proofs.compounds.compound_first.Goals as goal

if_some : (o : Option CompoundAhead) (P : Type 0) (Q : CompoundAhead → Type 0) → MatchOption o P Q → IfSome o Q
if_some (Some g) P Q k = k
if_some None P Q k = tt

pub returns : goal.returns
returns c =
    let r = c.args.region.now in
    subst (λ s. IfSome c.compound_ahead.result (λ g. LiesAhead r r s (compound_goal g))) (sym c.in_ok-start.was) (if_some c.compound_ahead.result _ _ c.compound_ahead.ensures)
