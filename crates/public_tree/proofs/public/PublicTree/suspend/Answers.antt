use Rattle.std.proofs.Common.{◌≡◌, ◌∷◌, [], ◌++◌, Bool, true, List, length, inl, ap, ◌∙◌, subst}
use Rattle.tree_model.specs.EventViews.{place_view}
use Rattle.tree_model.specs.Events.{Event, Suspend}
use Rattle.tree_model.specs.Nodes.{Waiting}
use Rattle.tree_nodes.specs.Rows.{gate_view}
use Rattle.public_tree.specs.PublicTrees.{PublicView, Answers, IsHeldAt, is_going, is_frozen_gate}
use Rattle.public_tree.proofs.HandOutLemmas.{KeepsOthers, held_at, given_back}
use Rattle.public_tree.proofs.public.PublicTree.suspend.Goals as goal

pub returns-clause-suspends : goal.returns-clause-suspends
returns-clause-suspends c =
    let old = c.args.self.now in
    let a = place_view c.args.at in
    let w = c.args.worker in
    let g = gate_view c.args.gate in
    let was = c.self.view_is in
    let going : Answers old is_going true = subst (Answers old is_going) c.if-not-is_going.false c.is_going.ensures.going in
    let held : IsHeldAt old.nodes c.set.new.self a (Waiting g)
    = subst (λ (p : PublicView). IsHeldAt p.nodes c.set.new.self a (Waiting g)) was
    (held_at c.self.inside.nodes c.set.new.self a c.spent-spent.result (Waiting g) c.set.ensures.set c.spent-spent.ensures) in
    let rows : length c.set.new.self.rows ≡ length old.nodes.rows = c.set.ensures.numbers.length ∙ ap (λ (p : PublicView). length p.nodes.rows) was in
    let others : KeepsOthers old _ = record {
      lost = ap (λ (p : PublicView). p.lost) was;
      halted = ap (λ (p : PublicView). p.halted) was;
      budget = ap (λ (p : PublicView). p.budget) was;
      window = ap (λ (p : PublicView). p.window) was;
    } in
    let stopped : c.note_back.new.self.stopped ≡ old.log.stopped = c.note_back.ensures.stopped ∙ ap (λ (p : PublicView). p.log.stopped) was in
    let events : c.note_back.new.self.events ≡ old.log.events ++ Suspend w a (is_frozen_gate g) ∷ []
    = c.note_back.ensures.events
    ∙ (ap (λ (es : List Event). es ++ Suspend w a c.is_frozen-frozen.result ∷ []) (ap (λ (p : PublicView). p.log.events) was)
    ∙ ap (λ (b : Bool). old.log.events ++ Suspend w a b ∷ []) c.is_frozen-frozen.ensures) in
    inl (given_back w old _ a g going c.requires.out (record { held = held; rows = rows; others = others; stopped = stopped }) events)
