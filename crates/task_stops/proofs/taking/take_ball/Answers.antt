use Rattle.std.proofs.Common.{◌≡◌, ◌≤◌, sym, ap, ◌∙◌, subst, arith}
use Rattle.au_term.specs.Term.{var_bound}
use Rattle.au_model.proofs.VariableBoundLemmas.{copied-below}
use Rattle.au_model.specs.Terms.Copies.{copied, copy_takes}
use Rattle.cell_store.specs.StoreView.{StoreView, AddsText, IsValidStore}
use Rattle.cell_store.specs.UnificationSteps.{IsUnified}
use Rattle.region_split.specs.Regions.{RegionView}
use Rattle.region_capture.specs.CaptureSteps.{AreWrittenOverFloor}
use Rattle.task_stops.proofs.TakenLemmas.{not_taken, taken}
use Rattle.task_stops.proofs.taking.take_ball.Goals as goal

pub copy_in-requires-2 : goal.copy_in-requires-2
copy_in-requires-2 c =
    let r = c.copy_in.new.self in
    let number : c.from.result ≡ r.store.now.next = c.from.ensures ∙ (c.next-base.ensures.next ∙ ap (λ (st : StoreView). st.now.next) c.store.ensures.store) in
    let takes : c.in-Ok.takes ≡ copy_takes c.args.ball.now = c.in-Ok.ensures.1 ∙ c.in_ok-copy.ensures.takes in
    let term_is : c.in_ok-copy-2.copy ≡ copied c.args.ball.now r.store.now.next = c.in_ok-copy-2.ensures ∙ (c.in_ok-copy.ensures.copy ∙ ap (copied c.args.ball.now) number) in
    let b = copied-below c.args.ball.now r.store.now.next in
    let e = ap var_bound term_is in
    subst (λ (x : RegionView). var_bound c.in_ok-copy-2.copy ≤ x.store.now.next) (sym c.in_ok-fresh.ensures.ok) (omega (arith, b, e, takes))

pub returns-then-not-branch : goal.returns-then-not-branch
returns-then-not-branch c =
    let r = c.copy_in.new.self in
    let number : c.from.result ≡ r.store.now.next = c.from.ensures ∙ (c.next-base.ensures.next ∙ ap (λ (st : StoreView). st.now.next) c.store.ensures.store) in
    let term_is : c.in_ok-copy-2.copy ≡ copied c.args.ball.now r.store.now.next = c.in_ok-copy-2.ensures ∙ (c.in_ok-copy.ensures.copy ∙ ap (copied c.args.ball.now) number) in
    let st4 = c.copy_in-2.new.self.store in
    not_taken c.args.region.now.store r.store st4 c.args.catcher.now c.args.ball.now c.in-Ok.takes c.in_ok-catcher.catcher c.in_ok-copy-3.copy
    (record {
      valid = subst IsValidStore c.store.ensures.store c.next-base.ensures.sound;
      first = subst (λ (x : RegionView). AddsText x.store r.store) c.set_floor.ensures c.in_ok-catcher.ensures.text;
      there = c.in_ok-catcher.ensures.there;
      term = c.in_ok-catcher.ensures.term;
      takes_is = c.in-Ok.ensures.1 ∙ c.in_ok-copy.ensures.takes;
      second = subst (λ (x : RegionView). AddsText x.store st4) c.in_ok-fresh.ensures.ok c.in_ok-copy-3.ensures.text;
      copy = c.in_ok-copy-3.ensures.term ∙ term_is;
    })
    (subst (IsUnified c.in_ok-catcher.catcher c.in_ok-copy-3.copy st4 c.unify.new.self.store) c.if-not-branch.true c.in_ok-unify.ensures.unified)

pub returns : goal.returns
returns c =
    let r = c.copy_in.new.self in
    let number : c.from.result ≡ r.store.now.next = c.from.ensures ∙ (c.next-base.ensures.next ∙ ap (λ (st : StoreView). st.now.next) c.store.ensures.store) in
    let term_is : c.in_ok-copy-2.copy ≡ copied c.args.ball.now r.store.now.next = c.in_ok-copy-2.ensures ∙ (c.in_ok-copy.ensures.copy ∙ ap (copied c.args.ball.now) number) in
    let st4 = c.copy_in-2.new.self.store in
    let st5 = c.unify.new.self.store in
    taken c.args.region.now.store r.store st4 c.args.catcher.now c.args.ball.now c.in-Ok.takes c.in_ok-catcher.catcher c.in_ok-copy-3.copy
    (record {
      valid = subst IsValidStore c.store.ensures.store c.next-base.ensures.sound;
      first = subst (λ (x : RegionView). AddsText x.store r.store) c.set_floor.ensures c.in_ok-catcher.ensures.text;
      there = c.in_ok-catcher.ensures.there;
      term = c.in_ok-catcher.ensures.term;
      takes_is = c.in-Ok.ensures.1 ∙ c.in_ok-copy.ensures.takes;
      second = subst (λ (x : RegionView). AddsText x.store st4) c.in_ok-fresh.ensures.ok c.in_ok-copy-3.ensures.text;
      copy = c.in_ok-copy-3.ensures.term ∙ term_is;
    })
    st5 (subst (IsUnified c.in_ok-catcher.catcher c.in_ok-copy-3.copy st4 st5) c.if-not-branch.false c.in_ok-unify.ensures.unified)
    (record { base = c.from-2.result; vars = c.from-3.result; bindings = c.in_ok-bindings.bindings }) (c.from-2.ensures ∙ (c.next-base.ensures.next ∙ ap (λ (st : StoreView). st.now.next) c.store.ensures.store)) c.from-3.ensures
    (subst (λ (st : StoreView). AreWrittenOverFloor st c.in_ok-bindings.bindings) c.store-2.ensures.store c.in_ok-bindings.ensures)
