use Rattle.region_split.specs.ClauseTrials.{TriesClause, Calls}
use Rattle.region_split.specs.declared.choice.Trial.{Trial}
use Rattle.region_split.proofs.CallLemmas.{only_called, if_ok_then}
use Rattle.region_split.proofs.region.Region.call_only.Goals as goal

pub returns : goal.returns
returns c =
    let r = c.args.self.now in
    let trial : Trial = record { goal = c.args.goal; clause = c.args.clause; after = c.args.after } in
    if_ok_then (TriesClause r c.try_clause.new.self trial c.in_ok-cut.cut) (Calls r c.try_clause.new.self c.args.goal c.args.after) c.try_clause.result
    (λ reached tried. only_called r c.try_clause.new.self c.args.goal c.args.after c.args.clause c.in_ok-cut.cut reached c.requires.only c.in_ok-cut.ensures.count c.in_ok-cut.ensures.height tried c.try_clause.ensures.kept)
    c.try_clause.ensures.tried
