use Rattle.std.proofs.Common.{sym, subst}
use Rattle.std.specs.Arc.{arc_value}
use Rattle.run_model.specs.Programs.Bodies.{clause_goals_of}
use Rattle.run_model.specs.Programs.Clauses.{Clause as ClauseTerms}
use Rattle.clause_compile.specs.GoalPlaces.{AreGoalsAt}
use Rattle.clause_compile.proofs.clause.Clause.goal_places.Goals as goal

pub returns : goal.returns
returns c =
    subst (λ (d : ClauseTerms). AreGoalsAt d.body c.deref.result.now (clause_goals_of d.body)) c.self.view_is
    (subst (λ places. AreGoalsAt (arc_value c.self.inside.body) places (clause_goals_of (arc_value c.self.inside.body))) (sym c.deref.ensures.value) c.self.invariant.goals)
