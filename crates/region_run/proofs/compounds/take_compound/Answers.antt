use Rattle.std.proofs.Common.{ℕ, ◌∙◌, sym, subst}
use Rattle.std.specs.Prelude.{IfSome}
use Rattle.binding_array.specs.declared.cell.BindingCell.TheVariants.{Compound}
use Rattle.cell_store.specs.Arguments.{HasFunctor}
use Rattle.cell_store.specs.StoreView.{StoreView, IsValueIn, text_in}
use Rattle.clause_compile.specs.AtomNumbers.{name_at}
use Rattle.goal_kinds.specs.Kinds.{IsKindOf}
use Rattle.region_control.proofs.ControlLemmas.{place_in}
use Rattle.region_control.specs.Ahead.{compound_goal, LiesAhead}
use Rattle.region_control.specs.GoalForms.{IsFormOf}
use Rattle.region_split.specs.ClauseTrials.{Calls}
use Rattle.region_run.proofs.RunLemmas.{takes_reached, takes_none, takes_asked, takes_compound}
use Rattle.region_run.proofs.compounds.take_compound.Goals as goal

pub call_by-requires-clause-after : goal.call_by-requires-clause-after
call_by-requires-clause-after c =
    let r = c.go_on.new.region in
    let l = subst (λ o. IfSome o (λ g. LiesAhead r r c.in_ok-start.start (compound_goal g))) c.in-Some.is c.compound_first.ensures in
    place_in r c.in-Some.compound.place l.there.place

pub returns-in-Some-2 : goal.returns-in-Some-2
returns-in-Some-2 c =
    let r = c.go_on.new.region in
    let next = c.in_ok-start.start in
    let g = c.in-Some.compound in
    let goes = c.in_ok-start.ensures in
    let l = subst (λ o. IfSome o (λ x. LiesAhead r r next (compound_goal x))) c.in-Some.is c.compound_first.ensures in
    let form = c.compound_form-form.result in
    let formed = subst (λ (st : StoreView). IsFormOf st (Compound g.at g.base) form) c.store-2.ensures.store c.compound_form-form.ensures in
    let known = subst (λ (st : StoreView). IsKindOf (name_at (text_in st).names form.name) form.arguments.count c.kind_of-kind.result) c.store-3.ensures.store c.kind_of-kind.ensures in
    let call = subst (IsKindOf (name_at (text_in r.store).names form.name) form.arguments.count) c.in-Call.is known in
    let f = c.functor-functor.result in
    let functor = subst (λ (st : StoreView). (base : ℕ) → IsValueIn st (Compound g.at base) → HasFunctor (text_in st) st.now.next g.at base f.0 f.1) c.store.ensures.store c.functor-functor.ensures.functor in
    takes_reached c.args.region.now r c.call_by.new.self c.args.start next goes.goes goes.text goes.floor c.ends_are_oldest.ensures.ends c.ends_are_oldest.ensures.marks g l f.0 f.1 (functor g.base l.there.there) form formed call c.in-Some-2.position (subst (Calls r c.call_by.new.self (Compound g.at g.base) g.place.after) c.in-Some-2.is c.in_ok-position.ensures)

pub returns-in-None : goal.returns-in-None
returns-in-None c =
    let r = c.go_on.new.region in
    let next = c.in_ok-start.start in
    let g = c.in-Some.compound in
    let goes = c.in_ok-start.ensures in
    let l = subst (λ o. IfSome o (λ x. LiesAhead r r next (compound_goal x))) c.in-Some.is c.compound_first.ensures in
    let form = c.compound_form-form.result in
    let formed = subst (λ (st : StoreView). IsFormOf st (Compound g.at g.base) form) c.store-2.ensures.store c.compound_form-form.ensures in
    let known = subst (λ (st : StoreView). IsKindOf (name_at (text_in st).names form.name) form.arguments.count c.kind_of-kind.result) c.store-3.ensures.store c.kind_of-kind.ensures in
    let call = subst (IsKindOf (name_at (text_in r.store).names form.name) form.arguments.count) c.in-Call.is known in
    let f = c.functor-functor.result in
    let functor = subst (λ (st : StoreView). (base : ℕ) → IsValueIn st (Compound g.at base) → HasFunctor (text_in st) st.now.next g.at base f.0 f.1) c.store.ensures.store c.functor-functor.ensures.functor in
    takes_none c.args.region.now r c.call_by.new.self c.args.start next goes.goes goes.text goes.floor c.ends_are_oldest.ensures.ends c.ends_are_oldest.ensures.marks g l f.0 f.1 (functor g.base l.there.there) form formed call (subst (Calls r c.call_by.new.self (Compound g.at g.base) g.place.after) c.in-None.is c.in_ok-position.ensures) (sym c.is_defined.ensures ∙ c.if-is_defined.true)

pub returns-in-None-2 : goal.returns-in-None-2
returns-in-None-2 c =
    let r = c.go_on.new.region in
    let next = c.in_ok-start.start in
    let g = c.in-Some.compound in
    let goes = c.in_ok-start.ensures in
    let l = subst (λ o. IfSome o (λ x. LiesAhead r r next (compound_goal x))) c.in-Some.is c.compound_first.ensures in
    let form = c.compound_form-form.result in
    let formed = subst (λ (st : StoreView). IsFormOf st (Compound g.at g.base) form) c.store-2.ensures.store c.compound_form-form.ensures in
    let known = subst (λ (st : StoreView). IsKindOf (name_at (text_in st).names form.name) form.arguments.count c.kind_of-kind.result) c.store-3.ensures.store c.kind_of-kind.ensures in
    let call = subst (IsKindOf (name_at (text_in r.store).names form.name) form.arguments.count) c.in-Call.is known in
    let f = c.functor-functor.result in
    let functor = subst (λ (st : StoreView). (base : ℕ) → IsValueIn st (Compound g.at base) → HasFunctor (text_in st) st.now.next g.at base f.0 f.1) c.store.ensures.store c.functor-functor.ensures.functor in
    takes_asked c.args.region.now r c.call_by.new.self c.args.start next goes.goes goes.text goes.floor c.ends_are_oldest.ensures.ends c.ends_are_oldest.ensures.marks g l f.0 f.1 (functor g.base l.there.there) form formed call (subst (Calls r c.call_by.new.self (Compound g.at g.base) g.place.after) c.in-None.is c.in_ok-position.ensures) (sym c.is_defined.ensures ∙ c.if-is_defined.false)

pub returns : goal.returns
returns c =
    let r = c.go_on.new.region in
    let next = c.in_ok-start.start in
    let g = c.in-Some.compound in
    let goes = c.in_ok-start.ensures in
    let l = subst (λ o. IfSome o (λ x. LiesAhead r r next (compound_goal x))) c.in-Some.is c.compound_first.ensures in
    let f = c.functor-functor.result in
    let functor = subst (λ (st : StoreView). (base : ℕ) → IsValueIn st (Compound g.at base) → HasFunctor (text_in st) st.now.next g.at base f.0 f.1) c.store.ensures.store c.functor-functor.ensures.functor in
    let took = c.in_ok-after.ensures in
    takes_compound c.args.region.now r c.taken_by_kind.new.region c.args.start next goes.goes goes.text goes.floor c.ends_are_oldest.ensures.ends c.ends_are_oldest.ensures.marks g l f.0 f.1
    (functor g.base l.there.there) c.in_ok-after.after took.infers took.text took.floor
