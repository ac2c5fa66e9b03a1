use Rattle.std.proofs.Common.{◌≡◌, Bool, List, false, length, replicate, ◌∙◌, ap, subst}
use Rattle.std.proofs.lemmas.List.{length-replicate}
use Rattle.au_model.specs.Terms.Each.{Each}
use Rattle.cell_store.specs.StoreView.{StoreView}
use Rattle.region_split.specs.Regions.{items_here}
use Rattle.region_capture.specs.KeptLevels.{IsItemReached}
use Rattle.region_capture.specs.NeededBindings.{KeepsSince}
use Rattle.region_capture.proofs.positions.capture_current.Goals as goal

pub returns : goal.returns
returns c =
    let r = c.args.region.now in
    let left = items_here r c.args.position in
    let is = c.store-store.ensures.store in
    let next = c.next.ensures.next ∙ ap (λ (st : StoreView). st.now.next) is in
    let unseen : c.in_ok-unseen.unseen ≡ replicate r.store.now.next false = c.in_ok-unseen.ensures ∙ ap (λ n. replicate n false) next in
    let since = subst (λ (st : StoreView). KeepsSince st c.args.mark c.in_ok-unseen.unseen c.in_ok-bindings.seen c.in_ok-bindings.bindings) is c.in_ok-bindings.ensures.keeps in
    record {
      items = c.in_ok-first.ensures.has;
      next = c.from-next.ensures ∙ (c.next-2.ensures.next ∙ ap (λ (st : StoreView). st.now.next) is);
      long = since.long ∙ (ap (λ (xs : List Bool). length xs) unseen ∙ length-replicate r.store.now.next false);
      level = since.level;
      reached = subst (λ (st : StoreView). Each (IsItemReached st.now.next c.in_ok-bindings.seen) left) is (c.in_ok-bindings.ensures.reached left c.in_ok-first.ensures.has);
      adds = c.in_ok-first.ensures.adds;
    }
