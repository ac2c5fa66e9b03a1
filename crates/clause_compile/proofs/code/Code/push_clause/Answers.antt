use Rattle.std.proofs.Common.{◌∙◌}
use Rattle.clause_compile.proofs.CodeLemmas.{keeps_twice}
use Rattle.clause_compile.proofs.code.Code.push_clause.Goals as goal

pub returns : goal.returns
returns c =
    let head = c.in_ok-head.ensures in
    let goals = c.in_ok-goals.ensures in
    let kept = goals.keeps.same c.in_ok-head.head head.there in
    record {
      keeps = keeps_twice c.args.self.now c.push_term.new.self c.push_goals.new.self head.keeps goals.keeps;
      head_there = kept.0;
      head = kept.1 ∙ (head.means ∙ c.head.ensures.head);
      goals_there = goals.there;
      goals = goals.mean;
      numbered = c.vars.ensures.numbered;
      below = c.vars.ensures.below;
    }
