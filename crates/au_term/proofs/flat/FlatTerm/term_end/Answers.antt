use Rattle.std.proofs.Common.{◌<◌, ◌≤◌, ◌+◌, length, arith, rules}
use Rattle.au_term.proofs.StoredTermLemmas.{stored, Ends, ends_by}
use Rattle.au_term.proofs.flat.FlatTerm.term_end.Goals as goal
use Rattle.au_term.proofs.flat.FlatTerm.term_end.Goals.{After-row_known-1}

stops : (c : After-row_known-1) → Ends c.args.self.now c.args.at (c.args.at + c.index.result.now)
stops c = ends_by _ _ _ _ _ c.index.result.now (stored c.args.self.now c.self.inside.cells.items c.self.inside.sizes.items c.self.invariant c.self.view_is) c.requires c.index.ensures

pub index-requires : goal.index-requires
index-requires c =
    let k = stored c.args.self.now c.self.inside.cells.items c.self.inside.sizes.items c.self.invariant c.self.view_is in
    let lt : c.args.at < length c.self.inside.sizes.items = omega (arith, k.long, c.requires) in search rules

pub overflow_add-result : goal.overflow_add-result
overflow_add-result c =
    let k = stored c.args.self.now c.self.inside.cells.items c.self.inside.sizes.items c.self.invariant c.self.view_is in
    let le : c.args.at + c.index.result.now ≤ length c.self.inside.sizes.items = omega (arith, k.long, (stops c).within) in search rules

pub returns : goal.returns
returns c = let e = stops c in record { end = e.end; rest = e.rest; within = e.within }
