use Rattle.std.proofs.Common.{◌<◌, ◌-◌, Bool, List, false, length, get_or, nat_cmp, sym, ap, ◌∙◌, subst, arith}
use Rattle.std.specs.BTreeSet.{contains}
use Rattle.region_capture.proofs.SeenTableLemmas.{told_after, told_anyway, told_before, within_later}
use Rattle.region_capture.proofs.seen.SeenVariables.has.Goals as goal

pub index-requires : goal.index-requires
index-requires c =
    let s = c.self.inside in
    let v = c.args.variable in
    let there = within_later (contains nat_cmp s.older) s.first s.later.items v c.if-variable-self.false
    (subst (λ (xs : List Bool). v < length xs) (sym c.self.view_is) c.requires) in
    omega (arith, there, s.later.ok.0)

pub returns-then-variable-self : goal.returns-then-variable-self
returns-then-variable-self c =
    let s = c.self.inside in
    let v = c.args.variable in
    c.contains.ensures
    ∙ (sym (told_before (contains nat_cmp s.older) s.first s.later.items v false c.if-variable-self.true) ∙ ap (λ (xs : List Bool). get_or xs v false) c.self.view_is)

pub returns-else-variable-self : goal.returns-else-variable-self
returns-else-variable-self c =
    let s = c.self.inside in
    let v = c.args.variable in
    let f = contains nat_cmp s.older in
    let there = within_later f s.first s.later.items v c.if-variable-self.false
    (subst (λ (xs : List Bool). v < length xs) (sym c.self.view_is) c.requires) in
    c.index.ensures
    ∙ (told_anyway s.later.items (v - s.first) c.index.result.now false there
    ∙ (sym (told_after f s.first s.later.items v false c.if-variable-self.false) ∙ ap (λ (xs : List Bool). get_or xs v false) c.self.view_is))
