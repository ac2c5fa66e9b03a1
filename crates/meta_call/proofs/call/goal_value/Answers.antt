use Rattle.std.proofs.Common.{◌≤◌, sym, ap, ◌∙◌, subst}
use Rattle.std.proofs.lemmas.Result.{IfOk-weaker}
use Rattle.au_term.specs.Term.{var_bound}
use Rattle.run_model.specs.Goals.Control.{with_arguments}
use Rattle.cell_store.specs.StoreView.{StoreView, value_term}
use Rattle.meta_call.specs.CalledTerms.{further_terms}
use Rattle.meta_call.proofs.CallLemmas.{goal_below, goal_means}
use Rattle.meta_call.proofs.call.goal_value.Goals as goal

pub copy_in-requires : goal.copy_in-requires
copy_in-requires c =
    let st = c.args.region.now.store in
    let made = c.in_ok-term-2.ensures ∙ (c.in_ok-term.ensures ∙ ap (λ (x : StoreView). with_arguments (value_term x c.args.callee) (further_terms x c.args.further)) c.store.ensures.store) in
    subst (λ t. var_bound t ≤ st.now.next) (sym made) (goal_below st c.args.callee c.args.further c.requires.callee c.requires.further)

pub returns-clause-goal : goal.returns-clause-goal
returns-clause-goal c =
    let st = c.args.region.now.store in
    let made = c.in_ok-term-2.ensures ∙ (c.in_ok-term.ensures ∙ ap (λ (x : StoreView). with_arguments (value_term x c.args.callee) (further_terms x c.args.further)) c.store.ensures.store) in
    IfOk-weaker c.copy_in.result _ _ (λ value h. goal_means st c.copy_in.new.self.store c.args.callee value c.args.further c.in_ok-term-2.term c.requires.room.callable c.copy_in.ensures.text.bound h made) c.copy_in.ensures.term
