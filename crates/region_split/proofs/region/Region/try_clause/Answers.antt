use Rattle.std.proofs.Common.{◌≡◌, ◌≤◌, Some, slice_get, sym, ap, ◌∙◌, subst}
use Rattle.au_term.specs.Term.{var_bound}
use Rattle.au_term.specs.Shifted.{shifted}
use Rattle.clause_compile.specs.Places.{IsPlaceOf, meaning_in}
use Rattle.cell_store.specs.StoreView.{StoreView, text_in, meaning, with_numbers}
use Rattle.cell_store.specs.UnificationSteps.{IsUnified}
use Rattle.region_split.specs.Texts.{TextView}
use Rattle.region_split.specs.declared.text.BodyItem.TheVariants.{BodyEnd}
use Rattle.region_split.specs.Regions.{RegionView}
use Rattle.region_split.proofs.TrialLemmas.{begins, head_there, head_below, goal_older, same_text, fails, enters_fact, enters_body}
use Rattle.region_split.proofs.region.Region.try_clause.Goals as goal

pub value-head-requires-clause-there : goal.value-head-requires-clause-there
value-head-requires-clause-there c =
    let r = c.args.self.now in
    let b = begins r c.args.trial c.placed-placed.result c.text.result.now c.store.result.now c.text.ensures c.store.ensures.store c.requires.clause c.placed-placed.ensures.clause c.placed-placed.ensures.sound c.store.ensures.program c.next-base.ensures.sound c.requires.goal in
    let is = c.store-2.ensures.store ∙ ap (λ (x : RegionView). x.store) c.in_ok-fresh.ensures.ok in
    subst (λ (x : StoreView). IsPlaceOf (text_in x) c.placed-placed.result.head) (sym is) (head_there r c.args.trial c.args.cut c.placed-placed.result b)

pub value-head-requires-clause-below : goal.value-head-requires-clause-below
value-head-requires-clause-below c =
    let r = c.args.self.now in
    let b = begins r c.args.trial c.placed-placed.result c.text.result.now c.store.result.now c.text.ensures c.store.ensures.store c.requires.clause c.placed-placed.ensures.clause c.placed-placed.ensures.sound c.store.ensures.program c.next-base.ensures.sound c.requires.goal in
    let is = c.store-2.ensures.store ∙ ap (λ (x : RegionView). x.store) c.in_ok-fresh.ensures.ok in
    let first = c.next-base.ensures.next ∙ ap (λ (x : StoreView). x.now.next) c.store.ensures.store in
    subst (λ (x : StoreView). var_bound (shifted c.next-base.result (meaning_in (text_in x) c.placed-placed.result.head)) ≤ x.now.next) (sym is)
    (subst (λ n. var_bound (shifted n (meaning_in (text_in (with_numbers c.placed-placed.result.vars r.store)) c.placed-placed.result.head)) ≤ (with_numbers c.placed-placed.result.vars r.store).now.next) (sym first) (head_below r c.args.trial c.args.cut c.placed-placed.result b))

pub unify_head-requires-clause-older : goal.unify_head-requires-clause-older
unify_head-requires-clause-older c =
    let r = c.args.self.now in
    let b = begins r c.args.trial c.placed-placed.result c.text.result.now c.store.result.now c.text.ensures c.store.ensures.store c.requires.clause c.placed-placed.ensures.clause c.placed-placed.ensures.sound c.store.ensures.program c.next-base.ensures.sound c.requires.goal in
    let first = c.next-base.ensures.next ∙ ap (λ (x : StoreView). x.now.next) c.store.ensures.store in
    subst (λ (x : RegionView). var_bound (meaning x.store c.args.trial.goal) ≤ c.next-base.result) (sym c.in_ok-fresh.ensures.ok)
    (subst (λ n. var_bound (meaning (with_numbers c.placed-placed.result.vars r.store) c.args.trial.goal) ≤ n) (sym first) (goal_older r c.args.trial c.args.cut c.placed-placed.result b))

pub returns-then-not-branch-clause-tried : goal.returns-then-not-branch-clause-tried
returns-then-not-branch-clause-tried c =
    let r = c.args.self.now in
    let b = begins r c.args.trial c.placed-placed.result c.text.result.now c.store.result.now c.text.ensures c.store.ensures.store c.requires.clause c.placed-placed.ensures.clause c.placed-placed.ensures.sound c.store.ensures.program c.next-base.ensures.sound c.requires.goal in
    let first = c.next-base.ensures.next ∙ ap (λ (x : StoreView). x.now.next) c.store.ensures.store in
    fails r c.args.trial c.args.cut c.placed-placed.result b c.fresh.new.self c.unify_head.new.self c.store-2.result.now c.next-base.result c.value-head.result c.in_ok-fresh.ensures.ok c.store-2.ensures.store first c.value-head.ensures.term c.unify_head.ensures.kept c.unify_head.ensures.stays
    (subst (IsUnified c.args.trial.goal c.value-head.result c.fresh.new.self.store c.unify_head.new.self.store) c.if-not-branch.true c.in_ok-unify_head.ensures.unified)

pub returns-in-Some-BodyEnd-clause-tried : goal.returns-in-Some-BodyEnd-clause-tried
returns-in-Some-BodyEnd-clause-tried c =
    let r = c.args.self.now in
    let b = begins r c.args.trial c.placed-placed.result c.text.result.now c.store.result.now c.text.ensures c.store.ensures.store c.requires.clause c.placed-placed.ensures.clause c.placed-placed.ensures.sound c.store.ensures.program c.next-base.ensures.sound c.requires.goal in
    let first = c.next-base.ensures.next ∙ ap (λ (x : StoreView). x.now.next) c.store.ensures.store in
    let same = c.text-2.ensures ∙ same_text r c.args.trial c.args.cut c.placed-placed.result b c.fresh.new.self c.unify_head.new.self c.store-2.result.now c.next-base.result c.value-head.result c.in_ok-fresh.ensures.ok c.store-2.ensures.store first c.value-head.ensures.term c.unify_head.ensures.kept c.unify_head.ensures.stays in
    let ends : slice_get r.text.bodies c.placed-placed.result.body ≡ Some BodyEnd = ap (λ (x : TextView). slice_get x.bodies c.placed-placed.result.body) (sym same) ∙ (sym c.get.ensures ∙ (c.in-Some-BodyEnd.is ∙ ap Some c.in-Some-BodyEnd.field-0-is)) in
    enters_fact r c.args.trial c.args.cut c.placed-placed.result b c.fresh.new.self c.unify_head.new.self c.store-2.result.now c.next-base.result c.value-head.result c.in_ok-fresh.ensures.ok c.store-2.ensures.store first c.value-head.ensures.term c.unify_head.ensures.kept c.unify_head.ensures.stays
    (subst (IsUnified c.args.trial.goal c.value-head.result c.fresh.new.self.store c.unify_head.new.self.store) c.if-not-branch.false c.in_ok-unify_head.ensures.unified) c.requires.after ends

pub returns-clause-tried : goal.returns-clause-tried
returns-clause-tried c =
    let r = c.args.self.now in
    let b = begins r c.args.trial c.placed-placed.result c.text.result.now c.store.result.now c.text.ensures c.store.ensures.store c.requires.clause c.placed-placed.ensures.clause c.placed-placed.ensures.sound c.store.ensures.program c.next-base.ensures.sound c.requires.goal in
    let first = c.next-base.ensures.next ∙ ap (λ (x : StoreView). x.now.next) c.store.ensures.store in
    enters_body r c.args.trial c.args.cut c.placed-placed.result b c.fresh.new.self c.unify_head.new.self c.store-2.result.now c.next-base.result c.value-head.result c.in_ok-fresh.ensures.ok c.store-2.ensures.store first c.value-head.ensures.term c.unify_head.ensures.kept c.unify_head.ensures.stays
    (subst (IsUnified c.args.trial.goal c.value-head.result c.fresh.new.self.store c.unify_head.new.self.store) c.if-not-branch.false c.in_ok-unify_head.ensures.unified) c.requires.after c.push_body.new.self c.in_ok-number.number c.in_ok-number.ensures.ok
