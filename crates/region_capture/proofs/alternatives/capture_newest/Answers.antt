use Rattle.std.proofs.Common.{◌-◌, ◌<◌, [], ◌∷◌, List, length, length-append, sym, ap, ◌∙◌, subst, arith}
use Rattle.au_model.specs.Terms.Each.{Each}
use Rattle.cell_store.specs.StoreView.{StoreView, IsValidStore}
use Rattle.region_split.specs.declared.choice.ChoicePoint.{ChoicePoint}
use Rattle.region_capture.specs.KeptLevels.{IsKindReached, ReachesAlternative}
use Rattle.region_capture.specs.NeededBindings.{KeepsSince}
use Rattle.region_capture.specs.declared.captured.CapturedAlternative.{CapturedAlternative}
use Rattle.region_capture.proofs.GroupLemmas.{newest_captured, numbers_within}
use Rattle.region_capture.proofs.alternatives.capture_newest.Goals as goal

pub bindings_for_choice-requires-clause-numbers : goal.bindings_for_choice-requires-clause-numbers
bindings_for_choice-requires-clause-numbers c =
    let r = c.take_newest-alternatives.new.self in
    let lists = c.capture_group.new.items in
    let group = c.in_ok-kind.ensures in
    subst (λ (taken : List CapturedAlternative). Each (λ a. a.first < length lists) taken) (sym c.deref.ensures.value)
    (numbers_within lists r.store.now.bound r.store.now.next (length r.choices) c.in_ok-kind.alternatives.items group.captures.meant group.captures.are)

pub returns : goal.returns
returns c =
    let r = c.take_newest-alternatives.new.self in
    let taken = c.in_ok-kind.alternatives.items in
    let lists = c.capture_group.new.items in
    let seen = c.in_ok-below.seen in
    let mark = c.height-under.result - 1 in
    let more = c.requires.many in
    let high = c.height-under.ensures in
    let long = ap (λ (cs : List ChoicePoint). length cs) c.take_newest-alternatives.ensures.choices in
    let is = c.store-2.ensures.store in
    newest_captured c.args.region.now r c.capture_group.new.region c.take_newest-alternatives.result c.take_newest-alternatives.ensures c.args.items.now lists
    (record { kind = c.in_ok-kind.kind; alternatives = c.in_ok-kind.alternatives; below = c.in_ok-below.below; next = c.from-next.result }) c.in_ok-kind.ensures mark (omega (arith, more, high, long, length-append r.choices (c.take_newest-alternatives.result ∷ [])))
    c.ends_are_oldest-2.ensures.marks (subst IsValidStore c.store.ensures.store c.next.ensures.sound) c.args.seen seen
    (subst (λ (st : StoreView). KeepsSince st mark c.args.seen seen c.in_ok-below.below) is c.in_ok-below.ensures.keeps)
    (subst (λ (st : StoreView). IsKindReached st.now.next seen c.in_ok-kind.kind) is c.in_ok-below.ensures.kind)
    (subst (λ (xs : List CapturedAlternative). Each (ReachesAlternative c.capture_group.new.region.store.now.next seen lists) xs) c.deref.ensures.value
    (subst (λ (st : StoreView). Each (ReachesAlternative st.now.next seen lists) c.deref.result.now) is c.in_ok-below.ensures.alternatives))
    (c.from-next.ensures ∙ (c.next.ensures.next ∙ ap (λ (st : StoreView). st.now.next) c.store.ensures.store))
