use Rattle.std.proofs.Common.{arith, sym, subst}
use Rattle.std.specs.Arc.{arc_value}
use Rattle.clause_compile.specs.GoalPlaces.{ArePlaces}
use Rattle.clause_compile.proofs.CompiledClauseLemmas.{body_is, part_places}
use Rattle.clause_compile.proofs.clause.Clause.goals.Goals as goal

pub goals_before-requires : goal.goals_before-requires
goals_before-requires c =
    let body = arc_value c.self.inside.body in
    subst (ArePlaces body c.args.base) (sym c.deref.ensures.value) (part_places body c.args.self.now.body c.args.base _ c.self.inside.goals.items (body_is _ _ c.self.view_is) c.requires (omega arith) c.self.invariant.goals.within)
