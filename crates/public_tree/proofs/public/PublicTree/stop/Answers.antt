use Rattle.std.proofs.Common.{◌≡◌, ◌∷◌, [], ◌++◌, Bool, true, false, List, inl, ap, ◌∙◌, subst}
use Rattle.std.specs.Bool.{OnTrue}
use Rattle.tree_model.specs.Events.{Event, Stop}
use Rattle.public_tree.specs.PublicTrees.{PublicView, Answers, is_going}
use Rattle.public_tree.proofs.HandOutLemmas.{KeepsOthers, stops}
use Rattle.public_tree.proofs.public.PublicTree.stop.Goals as goal

pub stop-requires : goal.stop-requires
stop-requires c =
    let room = subst (λ (b : Bool). OnTrue b (c.args.self.now.log.stopped ≡ false)) c.if-is_going.true c.is_going.ensures.room in
    ap (λ (p : PublicView). p.log.stopped) c.self.view_is ∙ room

pub returns-then-is_going-clause-stops : goal.returns-then-is_going-clause-stops
returns-then-is_going-clause-stops c =
    let old = c.args.self.now in
    let w = c.args.worker in
    let was = c.self.view_is in
    let going : Answers old is_going true = subst (Answers old is_going) c.if-is_going.true c.is_going.ensures.going in
    let others : KeepsOthers old _ = record {
      lost = ap (λ (p : PublicView). p.lost) was;
      halted = ap (λ (p : PublicView). p.halted) was;
      budget = ap (λ (p : PublicView). p.budget) was;
      window = ap (λ (p : PublicView). p.window) was;
    } in
    let events : c.stop.new.self.events ≡ old.log.events ++ Stop w ∷ []
    = c.stop.ensures.events ∙ ap (λ (es : List Event). es ++ Stop w ∷ []) (ap (λ (p : PublicView). p.log.events) was) in
    inl (stops w old _ going (ap (λ (p : PublicView). p.nodes) was) others c.stop.ensures.stopped events)
