use Rattle.std.proofs.Common.{◌<◌, Bool, List, false, cond, length, set, nat_cmp, sym, ap, ◌∙◌, subst, arith}
use Rattle.std.specs.BTreeSet.{contains}
use Rattle.std.specs.Cmp.{unsigned_tied}
use Rattle.region_capture.proofs.SeenTableLemmas.{set_after, told_set_before, within_later}
use Rattle.region_capture.proofs.seen.SeenVariables.forget.Goals as goal

pub index_mut-requires : goal.index_mut-requires
index_mut-requires c =
    let s = c.self.inside in
    let v = c.args.variable in
    let there = within_later (contains nat_cmp s.older) s.first s.later.items v c.if-variable-self.false
    (subst (λ (xs : List Bool). v < length xs) (sym c.self.view_is) c.requires) in
    omega (arith, there, s.later.ok.0)

pub returns-then-variable-self : goal.returns-then-variable-self
returns-then-variable-self c =
    let s = c.self.inside in
    let v = c.args.variable in
    let f = contains nat_cmp s.older in
    told_set_before f (contains nat_cmp c.remove.new.self) v false
    (λ q. c.remove.ensures.updates.0 q ∙ ap (λ (b : Bool). cond b false (f q)) (unsigned_tied v q)) s.first s.later.items c.if-variable-self.true
    ∙ ap (λ (xs : List Bool). set xs v false) c.self.view_is

pub returns-else-variable-self : goal.returns-else-variable-self
returns-else-variable-self c =
    let s = c.self.inside in
    let v = c.args.variable in
    set_after (contains nat_cmp s.older) s.first s.later.items v false c.if-variable-self.false ∙ ap (λ (xs : List Bool). set xs v false) c.self.view_is
