use Rattle.std.proofs.Common.{◌≡◌, ◌∙◌, false, sym, ap, subst}
use Rattle.std.proofs.lemmas.Result.{IfOk-weaker}
use Rattle.au_model.specs.Terms.Forms.{is_callable}
use Rattle.run_model.specs.Goals.Outcomes.{Reply}
use Rattle.run_model.specs.Goals.WorldConstructs.{World as WorldTerms}
use Rattle.cell_store.specs.StoreView.{StoreView, meaning}
use Rattle.effect_gate.specs.Effects.{effect_answer, statics_of, world_meant}
use Rattle.region_world.specs.AskedEffects.{AsksWorld}
use Rattle.region_world.specs.WorldAnswers.{TellsReply}
use Rattle.region_world.proofs.AskedEffectLemmas.{stepped-as}
use Rattle.region_world.proofs.AskedGoalLemmas.{asked_callable}
use Rattle.region_world.proofs.asking.ask_world.Goals as goal

pub unreachable-requires : goal.unreachable-requires
unreachable-requires c =
    let r = c.args.region.now in
    let no : is_callable (meaning r.store c.args.goal) ≡ false = subst (λ (st : StoreView). is_callable (meaning st c.args.goal) ≡ false) c.store.ensures.store c.in_default.ensures in
    let yes = asked_callable r.text.clauses (meaning r.store c.args.goal) r.store.now.next c.requires.asks.asked c.requires.asks.asks in
    cc

pub applied_told-requires-clause-replied : goal.applied_told-requires-clause-replied
applied_told-requires-clause-replied c =
    let w = c.args.world.now in
    let next = c.args.region.now.store.now.next in
    record { reply = (effect_answer (statics_of w) c.in_ok-effect.effect next (world_meant w)).1; told = (c.in_ok-applied.ensures.applied next).1 }

pub returns-clause-answers : goal.returns-clause-answers
returns-clause-answers c =
    let r = c.args.region.now in
    let w = c.args.world.now in
    let next = r.store.now.next in
    let asks = subst (λ (st : StoreView). AsksWorld (meaning st c.args.goal) c.in_ok-effect.effect) c.store-2.ensures.store c.in_ok-effect.ensures in
    let step = stepped-as (statics_of w) r.text.clauses (world_meant w) (meaning r.store c.args.goal) c.in_ok-effect.effect next c.requires.statics asks in
    let applied = c.in_ok-applied.ensures.applied next in
    IfOk-weaker c.applied_told.result _ _
    (λ told k. record {
      world = applied.0 ∙ ap (λ (p : WorldTerms × Reply). p.0) (sym step);
      reply = subst (λ (p : WorldTerms × Reply). TellsReply r p.1 told) (sym step) (k (effect_answer (statics_of w) c.in_ok-effect.effect next (world_meant w)).1 applied.1);
    })
    c.applied_told.ensures
