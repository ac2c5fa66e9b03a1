use Rattle.std.proofs.Common.{◌≡◌, ◌+◌, map, drop, sym, ◌∙◌, subst}
use Rattle.tree_model.specs.EventViews.{place_view}
use Rattle.tree_model.specs.declared.places.AltRef.{AltRef}
use Rattle.task_stops.specs.Landings.{landing}
use Rattle.task_stops.proofs.FoundLemmas.{goes_further, goes_past, none_made, readable_above, suffix_up, up_above}
use Rattle.task_stops.proofs.landing.caught_up.Goals.{then-eq+in_ok-body+in_default, else-eq}
use Rattle.task_stops.proofs.landing.caught_up.Goals as goal

abbrev none : AltRef
none = record { node = 0; alternative = 0 }

pub recovery_body-requires-clause-there : goal.recovery_body-requires-clause-there
recovery_body-requires-clause-there c = (suffix_up c.args.nodes.now.rows c.args.places.now c.requires.up.0 c.loop-index.index _ c.requires.up.1 c.loop-index-test.true).there

pub recovery_body-requires-clause-up : goal.recovery_body-requires-clause-up
recovery_body-requires-clause-up c = up_above c.args.nodes.now.rows c.args.places.now c.requires.up.0 c.loop-index.index none c.requires.up.1 c.loop-index-test.true

pub recovery_body-requires-clause-readable : goal.recovery_body-requires-clause-readable
recovery_body-requires-clause-readable c = readable_above c.args.nodes.now.rows c.args.places.now c.loop-index.index none c.requires.readable c.loop-index-test.true

pub next_catch-mark-requires : goal.next_catch-mark-requires
next_catch-mark-requires c = (suffix_up c.args.nodes.now.rows c.args.places.now c.requires.up.0 c.loop-index.index _ c.requires.up.1 c.loop-index-test.true).there

pub loop-index-preserved : goal.loop-index-preserved
loop-index-preserved c =
    elim c.if-eq.branch [
      | then-eq+in_ok-body+in_default w ↦
          subst (λ m. landing c.args.nodes.now.rows c.args.ball.now c.args.first (map place_view c.args.places.now) ≡ landing c.args.nodes.now.rows c.args.ball.now m (map place_view (drop (c.loop-index.index + 1) c.args.places.now)))
          (sym (w.mark-is ∙ w.next_catch-mark.ensures))
          (goes_further _ _ _ _ _ _ none c.loop-index-test.true c.loop-index.invariant (sym (c.eq.ensures) ∙ w.if-eq.true) (none_made _ _ _ w.in_default.is w.in_ok-body.ensures))
      | else-eq w ↦
          subst (λ m. landing c.args.nodes.now.rows c.args.ball.now c.args.first (map place_view c.args.places.now) ≡ landing c.args.nodes.now.rows c.args.ball.now m (map place_view (drop (c.loop-index.index + 1) c.args.places.now)))
          (sym w.mark-is) (goes_past _ _ _ _ _ _ none c.loop-index-test.true c.loop-index.invariant (sym (c.eq.ensures) ∙ w.if-eq.false))
    ]
