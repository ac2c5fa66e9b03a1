use Rattle.std.proofs.Common.{◌∙◌, ap, subst}
use Rattle.cell_store.specs.StoreView.{StoreView}
use Rattle.region_capture.specs.CaptureSteps.{AreWrittenSince}
use Rattle.region_capture.proofs.positions.capture_position.Goals as goal

pub returns : goal.returns
returns c = record {
  items = c.in_ok-first.ensures.has;
  next = c.from-next.ensures ∙ (c.next.ensures.next ∙ ap (λ (st : StoreView). st.now.next) c.store-2.ensures.store);
  bindings = subst (λ (st : StoreView). AreWrittenSince st c.args.mark c.in_ok-bindings.bindings) c.store.ensures.store c.in_ok-bindings.ensures;
  adds = c.in_ok-first.ensures.adds;
}
