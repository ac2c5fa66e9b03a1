use Rattle.std.proofs.Common.{◌≡◌, ◌∙◌, ◌&&◌, ℕ, true, cond, Some, None, ap, sym}
use Rattle.std.specs.Ordering.{nat_cmp}
use Rattle.std.specs.List.{list_any}
use Rattle.std.specs.BTreeMap.{get, is_at}
use Rattle.proc_index.specs.declared.key.Key.{Key}
use Rattle.proc_index.specs.ProcedureIndex.{key_cmp}
use Rattle.dyn_clauses.specs.PositionIndex.{is_noted}
use Rattle.dyn_clauses.proofs.PositionIndexLemmas.{noted_set, noted_kept, on_err, some_there}
use Rattle.dyn_clauses.proofs.keys.note.Goals as goal

pub returns-in_err-insert-clause-err : goal.returns-in_err-insert-clause-err
returns-in_err-insert-clause-err c =
    let w = c.insert.new.self in
    let there = c.in-Some.ensures.value in
    let set = (c.get_mut.follows.holds w).3 (some_there c.in-Some.positions.now (get key_cmp c.args.index.now c.args.key.now) there) in
    on_err c.from_residual.result ((k : Key) (q : ℕ) → is_noted (c.get_mut.follows.lender w) k q ≡ is_noted c.args.index.now k q)
    (noted_kept c.args.index.now (c.get_mut.follows.lender w) c.args.key.now c.args.position c.in-Some.positions.now w there set.0 c.in_err-insert.ensures.err)

pub returns-in-Some-clause-ok : goal.returns-in-Some-clause-ok
returns-in-Some-clause-ok c =
    let w = c.insert.new.self in
    let there = c.in-Some.ensures.value in
    let set = (c.get_mut.follows.holds w).3 (some_there c.in-Some.positions.now (get key_cmp c.args.index.now c.args.key.now) there) in
    noted_set c.args.index.now (c.get_mut.follows.lender w) c.args.key.now c.args.position (Some c.in-Some.positions.now) w true there set.0 c.in_ok-insert.ensures.updates.0

pub returns-clause-ok : goal.returns-clause-ok
returns-clause-ok c = λ k q.
    let before = c.get_mut.follows.lender-at-none in
    let key = c.in_ok-share.field-0 in
    let w = c.insert-2.new.self in
    let there = c.in_default.ensures.value ∙ (ap (λ i. get key_cmp i c.args.key.now) (sym c.get_mut.follows.holds-at-none) ∙ ap (get key_cmp before) (sym c.in_ok-share.ensures)) in
    let fresh = λ (p : ℕ). c.in_ok-insert-2.ensures.updates.0 p ∙ ap (λ ks. cond (is_at (nat_cmp c.args.position) p) true (list_any (is_at (nat_cmp p)) ks)) c.new-positions.ensures.empty in
    noted_set before c.insert-3.new.self key c.args.position None w true there c.in_ok-insert-3.ensures.updates.0 fresh k q
    ∙ (ap (λ j. cond (is_at (key_cmp j) k && is_at (nat_cmp c.args.position) q) true (is_noted before k q)) c.in_ok-share.ensures
    ∙ ap (λ i. cond (is_at (key_cmp c.args.key.now) k && is_at (nat_cmp c.args.position) q) true (is_noted i k q)) c.get_mut.follows.holds-at-none)
