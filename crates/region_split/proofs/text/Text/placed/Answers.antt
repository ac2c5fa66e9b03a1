use Rattle.std.proofs.Common.{◌≡◌, ◌<◌, length, map, slice_get, Some, ap, ◌∙◌, sym, subst, arith}
use Rattle.std.specs.Arc.{arc_value}
use Rattle.region_split.specs.Texts.{TextView, IsPlacedClause}
use Rattle.region_split.proofs.TextLemmas.{as_many_placed, placed_at}
use Rattle.region_split.proofs.text.Text.placed.Goals as goal

pub index-requires : goal.index-requires
index-requires c =
    let s = c.self.inside in
    let many = as_many_placed (arc_value s.code) s.bodies.items (map arc_value s.clauses.items) s.placed.items c.self.invariant.0 in
    let lt : c.args.number < length (map arc_value s.clauses.items) = subst (λ (t : TextView). c.args.number < length t.clauses) (sym c.self.view_is) c.requires in
    omega (arith, many, lt)

pub returns-clause-clause : goal.returns-clause-clause
returns-clause-clause c clause e =
    let s = c.self.inside in
    let there : slice_get (map arc_value s.clauses.items) c.args.number ≡ Some clause = ap (λ (t : TextView). slice_get t.clauses c.args.number) c.self.view_is ∙ e in
    subst (λ (t : TextView). IsPlacedClause t.code t.bodies clause c.index.result.now) c.self.view_is
    (placed_at (arc_value s.code) s.bodies.items (map arc_value s.clauses.items) s.placed.items c.args.number clause c.index.result.now c.self.invariant.0 there c.index.ensures)
