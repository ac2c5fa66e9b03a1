use Rattle.std.proofs.Common.{◌∙◌, ◌<◌, sym, ap, length, arith, rules, is_some, slice_index_or}
use Rattle.std.proofs.lemmas.Bool.{false≢true}
use Rattle.proc_index.specs.TakenClauses.{slot_value}
use Rattle.proc_index.proofs.TakenLemmas.{full_at, length-clauses_in, slice_get-clauses_in}
use Rattle.proc_index.proofs.taken.Taken.get.Goals as goal
use Rattle.proc_index.proofs.taken.Taken.get.Goals.{After-deref}

within : (c : After-deref) → c.args.place < length c.self.inside.slots.items
within c = omega (arith, length-clauses_in c.self.inside.slots.items c.self.invariant, ap length c.self.view_is)

pub bounds-deref-place : goal.bounds-deref-place
bounds-deref-place c = rw c.deref.ensures (within c)

pub offset_bounds-deref-place : goal.offset_bounds-deref-place
offset_bounds-deref-place c = let lt : c.args.place < length c.deref.result.now = rw c.deref.ensures (within c) in search rules

pub unreachable-requires : goal.unreachable-requires
unreachable-requires c =
    let full = full_at c.self.inside.slots.items c.args.place c.index-deref-place.result c.self.invariant (within (goal.at.unreachable-requires c).After-deref) in
    let item = c.index-deref-place.is ∙ ap (λ xs. slice_index_or xs c.args.place c.index-deref-place.result) c.deref.ensures in
    false≢true (sym (ap is_some c.in-None.is) ∙ (ap is_some item ∙ full))

pub returns : goal.returns
returns c =
    let got = slice_get-clauses_in c.self.inside.slots.items c.args.place c.index-deref-place.result c.self.invariant (within (goal.at.returns c).After-deref) in
    let item = c.index-deref-place.is ∙ ap (λ xs. slice_index_or xs c.args.place c.index-deref-place.result) c.deref.ensures in
    rw (← c.self.view_is) (got ∙ (ap slot_value (sym item) ∙ ap slot_value c.in-Some.is))
