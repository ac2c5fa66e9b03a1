use Rattle.region_capture.proofs.ClauseLemmas.{clause_captured}
use Rattle.region_capture.proofs.clauses.capture_clause.Goals as goal

pub returns : goal.returns
returns c =
    clause_captured c.args.region.now c.push_choice.new.self c.try_clause.new.self c.take_newest-mark.new.self c.args.trial c.in_ok-cut.cut c.take_newest-mark.result c.ends_are_oldest.ensures.marks c.in_ok-cut.ensures.count c.requires.clause c.requires.goal c.requires.after
    c.in_ok-push_choice.ensures.ok c.in_ok-reached.reached c.in_ok-reached.ensures.tried c.in_ok-reached.ensures.kept c.take_newest-mark.ensures c.args.items.now c.capture_reached.new.items c.in_ok-captured.captured c.in_ok-captured.ensures
