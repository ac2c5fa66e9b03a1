use Rattle.std.proofs.Common.{◌≡◌, true, sym, ◌∙◌, subst}
use Rattle.std.specs.Prelude.{is_some, IfOk}
use Rattle.tree_model.specs.EventViews.{place_view}
use Rattle.tree_model.specs.Legality.{taken_at}
use Rattle.branch_reading.specs.Readings.{reading}
use Rattle.public_tree.specs.PublicTrees.{is_going}
use Rattle.public_tree.specs.Opening.{opening_body}
use Rattle.public_tree.specs.AnsweringAtOnce.{run_events, run_answering, RunAnswersAs}
use Rattle.tree_core.specs.Histories.{TreeView, state_of, history_of}
use Rattle.tree_core.specs.Turns.{where_taken}
use Rattle.tree_core.proofs.ReturnedLemmas.{out_of_each}
use Rattle.tree_core.proofs.RunTurnLemmas.{no_run, run_room, run_kept, run_noted, run_answer}
use Rattle.tree_core.proofs.tree.Tree.answer_at_once.Goals as goal

pub answer_at_once-requires-clause-out : goal.answer_at_once-requires-clause-out
answer_at_once-requires-clause-out g c =
    let job = g.J.JobBrand.job in
    let p = c.self.inside.public in
    let w = c.args.worker in
    let a = place_view c.args.at in
    let was = sym c.self.view_is in
    out_of_each job p w a c.self.invariant (subst (λ (v : TreeView). is_some (taken_at w a (state_of v.history)) ≡ true) was c.requires.out)

pub answer_at_once-requires-clause-promised : goal.answer_at_once-requires-clause-promised
answer_at_once-requires-clause-promised g c =
    let job = g.J.JobBrand.job in
    let p = c.self.inside.public in
    let w = c.args.worker in
    let a = place_view c.args.at in
    let k = c.args.inferences in
    let n = c.args.recoveries in
    let was = sym c.self.view_is in
    let body = opening_body c.args.woken in
    run_room c.handed_out_once.ensures c.one_shape_fits.ensures.fits c.events_keep_trees.ensures.history job p c.self.invariant w a k n c.args.closing body
    (subst (λ (v : TreeView). RunAnswersAs v.nodes c.args.closing body w a k n (reading v.history.job) (state_of v.history)) was c.requires.answers) c.requires.some
    (subst (λ (v : TreeView). is_going (state_of v.history) ≡ true) was (sym c.is_going.ensures ∙ c.if-not-is_going.false))
    (subst (λ (v : TreeView). is_some (taken_at w a (state_of v.history)) ≡ true) was c.requires.out)

pub invariant_of-self : goal.invariant_of-self
invariant_of-self g c =
    let job = g.J.JobBrand.job in
    let p = c.self.inside.public in
    let w = c.args.worker in
    let a = place_view c.args.at in
    let k = c.args.inferences in
    let n = c.args.recoveries in
    let was = sym c.self.view_is in
    let body = opening_body c.args.woken in
    let e = c.answer_at_once.ensures in
    run_kept c.handed_out_once.ensures c.one_shape_fits.ensures.fits c.events_keep_trees.ensures.history job p c.self.invariant w a k n c.args.closing body
    (subst (λ (v : TreeView). RunAnswersAs v.nodes c.args.closing body w a k n (reading v.history.job) (state_of v.history)) was c.requires.answers) c.requires.some
    (subst (λ (v : TreeView). is_going (state_of v.history) ≡ true) was (sym c.is_going.ensures ∙ c.if-not-is_going.false))
    (subst (λ (v : TreeView). is_some (taken_at w a (state_of v.history)) ≡ true) was c.requires.out) c.answer_at_once.new.self c.answer_at_once.result e.takes e.promised e.err e.kept

pub returns-clause-answer : goal.returns-clause-answer
returns-clause-answer g c =
    let job = g.J.JobBrand.job in
    let p = c.self.inside.public in
    let w = c.args.worker in
    let a = place_view c.args.at in
    let k = c.args.inferences in
    let n = c.args.recoveries in
    let was = sym c.self.view_is in
    let body = opening_body c.args.woken in
    subst (λ (v : TreeView). IfOk c.answer_at_once.result (λ r. r ≡ run_answering a k (state_of v.history))) c.self.view_is
    (run_answer c.handed_out_once.ensures c.one_shape_fits.ensures.fits c.events_keep_trees.ensures.history job p c.self.invariant w a k n c.args.closing body
    (subst (λ (v : TreeView). RunAnswersAs v.nodes c.args.closing body w a k n (reading v.history.job) (state_of v.history)) was c.requires.answers) c.requires.some
    (subst (λ (v : TreeView). is_going (state_of v.history) ≡ true) was (sym c.is_going.ensures ∙ c.if-not-is_going.false))
    (subst (λ (v : TreeView). is_some (taken_at w a (state_of v.history)) ≡ true) was c.requires.out) c.answer_at_once.result c.answer_at_once.ensures.answer)

pub returns-clause-noted : goal.returns-clause-noted
returns-clause-noted g c =
    let job = g.J.JobBrand.job in
    let p = c.self.inside.public in
    let w = c.args.worker in
    let a = place_view c.args.at in
    let k = c.args.inferences in
    let n = c.args.recoveries in
    let was = sym c.self.view_is in
    let body = opening_body c.args.woken in
    let e = c.answer_at_once.ensures in
    subst (λ (v : TreeView). IfOk c.answer_at_once.result (λ r. history_of job c.answer_at_once.new.self ≡ where_taken r (run_events (state_of v.history).next w a k n) v.history)) c.self.view_is
    (run_noted c.handed_out_once.ensures c.one_shape_fits.ensures.fits c.events_keep_trees.ensures.history job p c.self.invariant w a k n c.args.closing body
    (subst (λ (v : TreeView). RunAnswersAs v.nodes c.args.closing body w a k n (reading v.history.job) (state_of v.history)) was c.requires.answers) c.requires.some
    (subst (λ (v : TreeView). is_going (state_of v.history) ≡ true) was (sym c.is_going.ensures ∙ c.if-not-is_going.false))
    (subst (λ (v : TreeView). is_some (taken_at w a (state_of v.history)) ≡ true) was c.requires.out) c.answer_at_once.new.self c.answer_at_once.result e.takes e.promised)

pub returns-then-not-is_going-clause-answer : goal.returns-then-not-is_going-clause-answer
returns-then-not-is_going-clause-answer g c =
    no_run (place_view c.args.at) c.args.inferences (state_of c.args.self.now.history) (sym c.is_going.ensures ∙ c.if-not-is_going.true)
