use Rattle.std.proofs.Common.{◌≡◌, ◌≤◌, Some, sym, ap, ◌∙◌, subst}
use Rattle.au_term.specs.Term.{var_bound}
use Rattle.run_model.specs.Goals.Outcomes.{GoesOnWith}
use Rattle.run_model.specs.Programs.Bodies.{body_of, called_goals, goals_of}
use Rattle.cell_store.specs.StoreView.{StoreView, IsValidStore, meaning}
use Rattle.region_control.specs.Controls.{Controls}
use Rattle.region_control.specs.declared.replies.AfterGoal.TheVariants.{At}
use Rattle.meta_call.specs.Calls.{MakesTerms}
use Rattle.meta_call.proofs.CallLemmas.{comes_after, body_called, kept_below, kept_means}
use Rattle.meta_call.proofs.call.called_other.Goals as goal

pub copy_in-requires : goal.copy_in-requires
copy_in-requires c =
    let st = c.args.region.now.store in
    let valid = subst IsValidStore c.store.ensures.store c.next-next.ensures.sound in
    let kept : Some c.in-Some.body ≡ body_of (meaning st c.args.goal) = sym c.in-Some.is ∙ (c.in_ok-body.ensures ∙ ap (λ (x : StoreView). body_of (meaning x c.args.goal)) c.store-2.ensures.store) in
    subst (λ t. var_bound t ≤ st.now.next) (sym c.in_ok-body-in-Some.ensures) (kept_below st c.args.goal c.in-Some.body valid c.requires.goal kept)

pub returns-in_ok-position-in-Some-clause-comes : goal.returns-in_ok-position-in-Some-clause-comes
returns-in_ok-position-in-Some-clause-comes c =
    let r = c.args.region.now in
    let mid = c.copy_in.new.self in
    let new = c.call.new.region in
    let t = meaning r.store c.args.goal in
    let valid = subst IsValidStore c.store.ensures.store c.next-next.ensures.sound in
    let kept : Some c.in-Some.body ≡ body_of t = sym c.in-Some.is ∙ (c.in_ok-body.ensures ∙ ap (λ (x : StoreView). body_of (meaning x c.args.goal)) c.store-2.ensures.store) in
    let copied = c.in_ok-body-in-Some-2.ensures in
    let means = kept_means r.store mid.store c.args.goal c.in_ok-body-in-Some-2.body c.in-Some.body valid kept copied.text (copied.term ∙ c.in_ok-body-in-Some.ensures) in
    let p = c.in_ok-position-in-Some.position in
    let made : MakesTerms r mid = record { stays = copied.stays; keeps = copied.keeps } in
    comes_after r mid c.args.place made c.requires.place new c.args.arity t (called_goals t) (At p)
    (body_called mid new c.args.place p c.args.arity t c.in-Some.body (sym kept) (subst (λ u. Controls mid new (GoesOnWith (goals_of u)) c.args.place p) means c.in_ok-position-in-Some.ensures))
