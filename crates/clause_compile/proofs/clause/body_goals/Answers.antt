use Rattle.std.proofs.Common.{◌∙◌, ◌++◌, ◌∷◌, Some, ap, map, sym, subst}
use Rattle.std.specs.Arc.{arc_value}
use Rattle.std.specs.Option.{option_map}
use Rattle.clause_compile.specs.BodyCells.{opens_plain_goal}
use Rattle.clause_compile.specs.declared.item.Item.TheVariants.{Goal}
use Rattle.au_term.specs.PrefixOrder.{AreValidCells}
use Rattle.au_term.specs.Shifted.{shifted}
use Rattle.run_model.specs.Programs.Bodies.{body_of, goals_of}
use Rattle.clause_compile.specs.GoalPlaces.{ArePlaces, subterms_at}
use Rattle.clause_compile.specs.CompiledClauses.{goal_items}
use Rattle.clause_compile.proofs.CompiledClauseLemmas.{called_places, called_are, plain_called}
use Rattle.clause_compile.proofs.clause.body_goals.Goals as goal

pub returns-then-is_plain_goal : goal.returns-then-is_plain_goal
returns-then-is_plain_goal c =
    ap (option_map (λ gs. goal_items c.args.cut gs ++ c.args.rest.now)) (plain_called c.args.body.now (ap opens_plain_goal (sym c.in_ok-top.ensures) ∙ (sym c.is_plain_goal.ensures ∙ c.if-is_plain_goal.true)))
    ∙ ap Some (ap (λ t. Goal t c.args.cut ∷ c.args.rest.now) (sym c.in_ok-term.ensures) ∙ sym c.in_ok-push.ensures)

pub goals_before-requires : goal.goals_before-requires
goals_before-requires c =
    subst (ArePlaces (arc_value c.in_ok-skeleton.skeleton) 0) (sym c.deref.ensures.value)
    (called_places c.in-Some.kept (arc_value c.in_ok-skeleton.skeleton) c.in_ok-places.places.items (goals_of c.in-Some.kept) c.in_ok-skeleton.ensures.ok (subst AreValidCells c.cells-cells.ensures.cells c.cells-cells.ensures.whole.sound) c.in_ok-places.ensures)

pub returns : goal.returns
returns c =
    called_are c.args.body.now c.in-Some.kept (arc_value c.in_ok-skeleton.skeleton) c.in_ok-places.places.items c.args.cut c.args.rest.now c.in_ok-goals_before.field-0
    (sym c.in-Some.is ∙ (c.in_ok-kept.ensures ∙ ap body_of c.in_ok-to_term.ensures)) c.in_ok-skeleton.ensures.ok c.in_ok-places.ensures
    (c.in_ok-goals_before.ensures ∙ ap (λ ps. goal_items c.args.cut (map (shifted 0) (subterms_at (arc_value c.in_ok-skeleton.skeleton) ps)) ++ c.args.rest.now) c.deref.ensures.value)
