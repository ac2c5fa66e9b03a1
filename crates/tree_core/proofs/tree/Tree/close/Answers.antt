use Rattle.std.proofs.Common.{◌≡◌, true, sym, ◌∙◌, subst}
use Rattle.std.specs.Prelude.{is_some, OnOk}
use Rattle.tree_model.specs.EventViews.{place_view}
use Rattle.tree_model.specs.Legality.{taken_at}
use Rattle.branch_reading.specs.Readings.{reading}
use Rattle.public_tree.specs.PublicTrees.{is_going}
use Rattle.public_tree.specs.Opening.{opening_body}
use Rattle.public_tree.specs.PublicClosing.{closing_event, RunEndsAs}
use Rattle.tree_core.specs.Histories.{TreeView, state_of, while_going, history_of}
use Rattle.tree_core.proofs.MoveLemmas.{room_to_come_back, closing_back}
use Rattle.tree_core.proofs.ReturnedLemmas.{out_of_each}
use Rattle.tree_core.proofs.TurnLemmas.{closing_legal, happens_kept, happens_noted}
use Rattle.tree_core.proofs.tree.Tree.close.Goals as goal

pub close-requires-clause-out : goal.close-requires-clause-out
close-requires-clause-out g c =
    let job = g.J.JobBrand.job in
    let p = c.self.inside.public in
    let w = c.args.worker in
    let a = place_view c.args.at in
    let was = sym c.self.view_is in
    out_of_each job p w a c.self.invariant (subst (λ (v : TreeView). is_some (taken_at w a (state_of v.history)) ≡ true) was c.requires.out)

pub close-requires-clause-promised : goal.close-requires-clause-promised
close-requires-clause-promised g c =
    let job = g.J.JobBrand.job in
    let p = c.self.inside.public in
    let w = c.args.worker in
    let a = place_view c.args.at in
    let was = sym c.self.view_is in
    let k = c.args.inferences in
    room_to_come_back c.handed_out_once.ensures job p c.self.invariant (closing_event c.args.end w a k) w a (closing_back c.args.end w a k)
    (closing_legal (state_of (history_of job p)) w a k c.args.end (subst (λ (v : TreeView). is_going (state_of v.history) ≡ true) was (sym c.is_going.ensures ∙ c.if-not-is_going.false)) (subst (λ (v : TreeView). is_some (taken_at w a (state_of v.history)) ≡ true) was c.requires.out) ((subst (λ (v : TreeView). RunEndsAs v.nodes c.args.end c.args.closing (opening_body c.args.woken) w a k (reading v.history.job) (state_of v.history)) was c.requires.ends)).ends)

pub invariant_of-self : goal.invariant_of-self
invariant_of-self g c =
    let job = g.J.JobBrand.job in
    let p = c.self.inside.public in
    let w = c.args.worker in
    let a = place_view c.args.at in
    let was = sym c.self.view_is in
    let k = c.args.inferences in
    happens_kept c.handed_out_once.ensures job p w a c.self.invariant
    (subst (λ (v : TreeView). is_going (state_of v.history) ≡ true) was (sym c.is_going.ensures ∙ c.if-not-is_going.false)) k (RunEndsAs p.nodes c.args.end c.args.closing (opening_body c.args.woken)) (closing_event c.args.end) (closing_back c.args.end w a k)
    (subst (λ (v : TreeView). RunEndsAs v.nodes c.args.end c.args.closing (opening_body c.args.woken) w a k (reading v.history.job) (state_of v.history)) was c.requires.ends) c.close.new.self c.close.result c.close.ensures.closes c.close.ensures.err c.close.ensures.promised c.close.ensures.kept

pub returns-clause-closes : goal.returns-clause-closes
returns-clause-closes g c =
    let job = g.J.JobBrand.job in
    let p = c.self.inside.public in
    let w = c.args.worker in
    let a = place_view c.args.at in
    let was = sym c.self.view_is in
    let k = c.args.inferences in
    subst (λ (v : TreeView). OnOk c.close.result (history_of job c.close.new.self ≡ while_going (closing_event c.args.end w a k) v.history)) c.self.view_is
    (happens_noted c.handed_out_once.ensures job p w a c.self.invariant
    (subst (λ (v : TreeView). is_going (state_of v.history) ≡ true) was (sym c.is_going.ensures ∙ c.if-not-is_going.false)) k (RunEndsAs p.nodes c.args.end c.args.closing (opening_body c.args.woken)) (closing_event c.args.end) (closing_back c.args.end w a k)
    (subst (λ (v : TreeView). RunEndsAs v.nodes c.args.end c.args.closing (opening_body c.args.woken) w a k (reading v.history.job) (state_of v.history)) was c.requires.ends) c.close.new.self c.close.result c.close.ensures.closes c.close.ensures.promised)
