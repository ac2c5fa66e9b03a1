use Rattle.std.proofs.Common.{◌≡◌, ◌≤◌, None, sym, ap, ◌∙◌, subst, arith}
use Rattle.au_term.specs.Term.{var_bound}
use Rattle.au_model.specs.Terms.Copies.{copied, copy_takes}
use Rattle.au_model.proofs.VariableBoundLemmas.{copied-below}
use Rattle.cell_store.specs.StoreView.{StoreView, IsValidStore}
use Rattle.cell_store.specs.UnificationSteps.{IsUnified}
use Rattle.region_split.specs.Regions.{RegionView}
use Rattle.region_split.proofs.SolvedLemmas.{stays_twice}
use Rattle.region_control.proofs.RecoveryLemmas.{same_unifier, takes_ball}
use Rattle.region_control.proofs.balls.recover.Goals as goal

pub copy_in-requires : goal.copy_in-requires
copy_in-requires c =
    let r = c.args.region.now in
    let number : c.from.result ≡ r.store.now.next = c.from.ensures ∙ (c.next.ensures.next ∙ ap (λ (st : StoreView). st.now.next) c.store.ensures.store) in
    let takes : c.in-Ok.takes ≡ copy_takes c.args.ball.now = c.in-Ok.ensures.1 ∙ c.in_ok-copy.ensures.takes in
    let term_is : c.in_ok-term.term ≡ copied c.args.ball.now r.store.now.next = c.in_ok-term.ensures ∙ (c.in_ok-copy.ensures.copy ∙ ap (copied c.args.ball.now) number) in
    let b = copied-below c.args.ball.now r.store.now.next in
    let e = ap var_bound term_is in
    subst (λ (x : RegionView). var_bound c.in_ok-term.term ≤ x.store.now.next) (sym c.in_ok-fresh.ensures.ok) (omega (arith, b, e, takes))

pub returns-then-not-branch-clause-recovers : goal.returns-then-not-branch-clause-recovers
returns-then-not-branch-clause-recovers c =
    let r = c.args.region.now in
    let r1 = c.fresh.new.self in
    let r2 = c.copy_in.new.self in
    let r3 = c.unify.new.self in
    let number : c.from.result ≡ r.store.now.next = c.from.ensures ∙ (c.next.ensures.next ∙ ap (λ (st : StoreView). st.now.next) c.store.ensures.store) in
    let takes : c.in-Ok.takes ≡ copy_takes c.args.ball.now = c.in-Ok.ensures.1 ∙ c.in_ok-copy.ensures.takes in
    let term_is : c.in_ok-term.term ≡ copied c.args.ball.now r.store.now.next = c.in_ok-term.ensures ∙ (c.in_ok-copy.ensures.copy ∙ ap (copied c.args.ball.now) number) in
    let valid : IsValidStore r.store = subst IsValidStore c.store.ensures.store c.next.ensures.sound in (
      same_unifier r r1 r2 c.args.ball.now c.args.catch c.in_ok-value.value c.in-Ok.takes valid takes c.in_ok-fresh.ensures.ok c.in_ok-value.ensures.text (c.in_ok-value.ensures.term ∙ term_is) None c.requires.catcher
          (subst (IsUnified c.args.catch.catcher c.in_ok-value.value r2.store r3.store) c.if-not-branch.true c.in_ok-unify.ensures.unified),
      stays_twice r r2 r3 (stays_twice r r1 r2 c.in_ok-fresh.ensures.stays c.in_ok-value.ensures.stays) c.in_ok-unify.ensures.stays,
    )

pub returns-clause-recovers : goal.returns-clause-recovers
returns-clause-recovers c =
    let r = c.args.region.now in
    let r1 = c.fresh.new.self in
    let r2 = c.copy_in.new.self in
    let r3 = c.unify.new.self in
    let number : c.from.result ≡ r.store.now.next = c.from.ensures ∙ (c.next.ensures.next ∙ ap (λ (st : StoreView). st.now.next) c.store.ensures.store) in
    let takes : c.in-Ok.takes ≡ copy_takes c.args.ball.now = c.in-Ok.ensures.1 ∙ c.in_ok-copy.ensures.takes in
    let term_is : c.in_ok-term.term ≡ copied c.args.ball.now r.store.now.next = c.in_ok-term.ensures ∙ (c.in_ok-copy.ensures.copy ∙ ap (copied c.args.ball.now) number) in
    let valid : IsValidStore r.store = subst IsValidStore c.store.ensures.store c.next.ensures.sound in
    takes_ball r r1 r2 c.args.ball.now c.args.catch c.in_ok-value.value c.in-Ok.takes valid takes c.in_ok-fresh.ensures.ok c.in_ok-value.ensures.text (c.in_ok-value.ensures.term ∙ term_is)
    c.in_ok-fresh.ensures.stays c.in_ok-value.ensures.stays c.in_ok-value.ensures.keeps c.requires.after r3 c.push_item.new.self
    (subst (IsUnified c.args.catch.catcher c.in_ok-value.value r2.store r3.store) c.if-not-branch.false c.in_ok-unify.ensures.unified) c.in_ok-unify.ensures.kept c.in_ok-unify.ensures.stays c.requires.catcher c.requires.recovery
    c.in_ok-cut.cut c.in_ok-position.position c.in_ok-cut.ensures.count c.in_ok-cut.ensures.height c.in_ok-position.ensures.ok
