use Rattle.std.proofs.Common.{◌<◌, Bool, List, true, cond, length, set, nat_cmp, sym, ap, ◌∙◌, subst, arith}
use Rattle.std.specs.BTreeSet.{contains}
use Rattle.std.specs.Cmp.{unsigned_tied}
use Rattle.region_capture.proofs.SeenTableLemmas.{set_after, told_set_before, within_later}
use Rattle.region_capture.proofs.seen.SeenVariables.see.Goals as goal

pub index_mut-requires : goal.index_mut-requires
index_mut-requires c =
    let s = c.self.inside in
    let v = c.args.variable in
    let there = within_later (contains nat_cmp s.older) s.first s.later.items v c.if-variable-self.false
    (subst (λ (xs : List Bool). v < length xs) (sym c.self.view_is) c.requires) in
    omega (arith, there, s.later.ok.0)

pub returns-in_ok-insert : goal.returns-in_ok-insert
returns-in_ok-insert c =
    let s = c.self.inside in
    let v = c.args.variable in
    let f = contains nat_cmp s.older in
    told_set_before f (contains nat_cmp c.insert.new.self) v true
    (λ q. c.in_ok-insert.ensures.updates.0 q ∙ ap (λ (b : Bool). cond b true (f q)) (unsigned_tied v q)) s.first s.later.items c.if-variable-self.true
    ∙ ap (λ (xs : List Bool). set xs v true) c.self.view_is

pub returns-else-variable-self : goal.returns-else-variable-self
returns-else-variable-self c =
    let s = c.self.inside in
    let v = c.args.variable in
    set_after (contains nat_cmp s.older) s.first s.later.items v true c.if-variable-self.false ∙ ap (λ (xs : List Bool). set xs v true) c.self.view_is
