use Rattle.branch_order.proofs.SoughtLemmas.{closed_passed}
use Rattle.branch_order.proofs.sought.begin.Goals as goal

pub returns-clause-ahead : goal.returns-clause-ahead
returns-clause-ahead c = λ test most h. closed_passed c.args.nodes.now test c.args.node c.passed-passed.result.many most
    c.passed-passed.ensures.shut c.passed-passed.ensures.many h
