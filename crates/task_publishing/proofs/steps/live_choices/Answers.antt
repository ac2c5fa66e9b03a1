use Rattle.std.proofs.Common.{List, refl, sym, subst}
use Rattle.region_capture.specs.declared.captured.CapturedChoice.{CapturedChoice}
use Rattle.task_publishing.specs.declared.steps.LiveChoices.{LiveChoices}
use Rattle.task_publishing.proofs.LiveLemmas.{AreLiveUpTo, none_live, one_live}
use Rattle.task_publishing.proofs.steps.live_choices.Goals as goal

pub loop-choice-init : goal.loop-choice-init
loop-choice-init c =
    let live : LiveChoices = record { choices = c.new.result; since = record { base = c.args.base; bindings = c.new-2.result } } in
    subst (λ (xs : List CapturedChoice). AreLiveUpTo c.args.base c.args.choices.items xs live)
    (sym c.into_iter-choice-iterator.ensures.into_iter_gives.0)
    (none_live c.args.base c.args.choices.items live c.new.ensures.items refl c.new-2.ensures)

pub loop-choice-preserved : goal.loop-choice-preserved
loop-choice-preserved c =
    one_live c.args.base c.args.choices.items c.next.new.self.rest.items c.in-Some.choice c.loop-choice.live c.in_ok-live.live
    (subst (λ (xs : List CapturedChoice). AreLiveUpTo c.args.base c.args.choices.items xs c.loop-choice.live) c.in-Some.ensures.steps.0
    c.loop-choice.invariant) c.in_ok-live.ensures
