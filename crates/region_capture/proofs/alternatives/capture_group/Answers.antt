use Rattle.std.proofs.Common.{ap, ◌∙◌, subst}
use Rattle.cell_store.specs.StoreView.{StoreView, IsValidStore, value_term}
use Rattle.region_capture.proofs.GroupLemmas.{elsewhere_captured, catch_captured, findall_captured}
use Rattle.region_capture.proofs.alternatives.capture_group.Goals as goal

pub returns-in_ok-following-in-Elsewhere : goal.returns-in_ok-following-in-Elsewhere
returns-in_ok-following-in-Elsewhere c =
    let r = c.args.region.now in
    elsewhere_captured r c.args.after c.from-next.result (subst IsValidStore c.store.ensures.store c.next.ensures.sound) c.extensions_compose.ensures.nothing c.requires.after c.args.items.now c.capture_following.new.items c.args.alternatives c.requires.there c.in_ok-following-in-Elsewhere.following.items
    c.in_ok-following-in-Elsewhere.ensures (c.from-next.ensures ∙ (c.next.ensures.next ∙ ap (λ (st : StoreView). st.now.next) c.store.ensures.store)) c.in-Elsewhere.is

pub returns-in_ok-following-in-Catch : goal.returns-in_ok-following-in-Catch
returns-in_ok-following-in-Catch c =
    let r = c.args.region.now in
    catch_captured r c.args.after c.from-next.result (subst IsValidStore c.store.ensures.store c.next.ensures.sound) c.extensions_compose.ensures.nothing c.requires.after c.args.items.now c.capture_following-in-Catch.new.items c.args.alternatives c.requires.there c.in_ok-following-in-Catch.following.items
    c.in_ok-following-in-Catch.ensures c.in-Catch.catcher c.in-Catch.recovery c.in_ok-catcher-in-Catch.catcher c.in_ok-recovery-in-Catch.recovery (c.from-next.ensures ∙ (c.next.ensures.next ∙ ap (λ (st : StoreView). st.now.next) c.store.ensures.store))
    (c.in_ok-catcher-in-Catch.ensures ∙ ap (λ (st : StoreView). value_term st c.in-Catch.catcher) c.store-in-Catch.ensures.store) (c.in_ok-recovery-in-Catch.ensures ∙ ap (λ (st : StoreView). value_term st c.in-Catch.recovery) c.store-in-Catch-2.ensures.store) c.in-Catch.is

pub returns-in_ok-following-in-Findall : goal.returns-in_ok-following-in-Findall
returns-in_ok-following-in-Findall c =
    let r = c.args.region.now in
    findall_captured r c.args.after c.next-next.result (subst IsValidStore c.store.ensures.store c.next.ensures.sound) c.extensions_compose.ensures.nothing c.requires.after c.args.items.now c.capture_following-in-Findall.new.items c.args.alternatives c.requires.there c.in_ok-following-in-Findall.following.items
    c.in_ok-following-in-Findall.ensures c.in-Findall.list c.in-Findall.results c.in_ok-list-in-Findall.list c.into_terms-results.result c.next-next.ensures
    (c.in_ok-list-in-Findall.ensures ∙ ap (λ (st : StoreView). value_term st c.in-Findall.list) c.store-in-Findall.ensures.store) c.into_terms-results.ensures c.in-Findall.is
