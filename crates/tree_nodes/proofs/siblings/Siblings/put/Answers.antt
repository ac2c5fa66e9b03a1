use Rattle.std.proofs.Common.{◌≡◌, ◌<◌, ℕ, List, length, map, sym, ap, ◌∙◌, arith, subst, get_or}
use Rattle.std.specs.Prelude.{slice_get, slice_set}
use Rattle.tree_nodes.specs.Gaps.{shut_or_past, AreGaps}
use Rattle.tree_nodes.proofs.SiblingLemmas.{item_at}
use Rattle.std.proofs.lemmas.List.{length-map, map-set}
use Rattle.tree_nodes.specs.declared.siblings.Alternative.{Alternative}
use Rattle.tree_nodes.specs.Rows.{AlternativeCell}
use Rattle.tree_nodes.specs.Siblings.{alternative_view, ArePassed}
use Rattle.tree_nodes.proofs.SiblingLemmas.{put_below, put_open, put_bound}
use Rattle.tree_nodes.proofs.siblings.Siblings.put.Goals as goal

read : (items : List Alternative) (i : ℕ) (was there : Alternative) → was ≡ there → there ≡ get_or items i there → was ≡ get_or items i was
read items i was there e h = e ∙ (h ∙ ap (get_or items i) (sym e))

pub overflow_sub-self : goal.overflow_sub-self
overflow_sub-self c =
    let items = c.self.inside.items.items in
    let m = c.self.inside.many_open in
    let p = c.self.inside.passed in
    let was = c.replace-before.result in
    let now = c.args.alternative in
    let len = length-map items alternative_view in
    let req : c.args.index < length (map alternative_view items) = rw (c.self.view_is) c.requires in
    let l : c.args.index < length items = omega (arith, len, req) in
    let e : was ≡ get_or items c.args.index was = read items c.args.index was c.index_mut.result.now c.replace-before.ensures.value c.index_mut.ensures.value in
    let below = put_below items c.args.index was now m p l e c.self.invariant.counted in
    let one = c.open_one.ensures in
    omega (arith, below, one)

pub overflow_add-self : goal.overflow_add-self
overflow_add-self c =
    let items = c.self.inside.items.items in
    let m = c.self.inside.many_open in
    let p = c.self.inside.passed in
    let was = c.replace-before.result in
    let now = c.args.alternative in
    let len = length-map items alternative_view in
    let req : c.args.index < length (map alternative_view items) = rw (c.self.view_is) c.requires in
    let l : c.args.index < length items = omega (arith, len, req) in
    let e : was ≡ get_or items c.args.index was = read items c.args.index was c.index_mut.result.now c.replace-before.ensures.value c.index_mut.ensures.value in
    let bound = put_bound items c.args.index was now m p l e c.self.invariant.counted in
    let one = c.open_one.ensures in
    let two = c.open_one-now.ensures in
    let fits = c.len-many.ensures in
    omega (arith, bound, one, two, fits)

pub pass-self-inside-requires : goal.pass-self-inside-requires
pass-self-inside-requires c =
    let items = c.self.inside.items.items in
    let now = c.args.alternative in
    let from = c.passed_with-from.result in
    let dest : c.deref.result.now ≡ slice_set items c.args.index now
    = c.deref.ensures.value ∙ ap (slice_set items c.args.index) c.replace-before.ensures.after in
    let stays : ArePassed (slice_set (map alternative_view items) c.args.index (alternative_view now)) from
    = subst (λ (x : List (ℕ × AlternativeCell)). ArePassed (slice_set x c.args.index (alternative_view now)) from) (sym c.self.view_is) c.passed_with-from.ensures in
    subst (λ (x : List Alternative). ArePassed (map alternative_view x) from) (sym dest)
    (subst (λ (x : List (ℕ × AlternativeCell)). ArePassed x from) (sym (map-set alternative_view items c.args.index now)) stays)

pub invariant_of-self : goal.invariant_of-self
invariant_of-self c =
    let items = c.self.inside.items.items in
    let m = c.self.inside.many_open in
    let p = c.self.inside.passed in
    let was = c.replace-before.result in
    let now = c.args.alternative in
    let len = length-map items alternative_view in
    let req : c.args.index < length (map alternative_view items) = rw (c.self.view_is) c.requires in
    let l : c.args.index < length items = omega (arith, len, req) in
    let e : was ≡ get_or items c.args.index was = read items c.args.index was c.index_mut.result.now c.replace-before.ensures.value c.index_mut.ensures.value in
    let dest = c.replace-before.ensures.after in
    let count = put_open items c.args.index was now m p l e c.self.invariant.counted in
    let one = c.open_one.ensures in
    let two = c.open_one-now.ensures in
    let same : map alternative_view (slice_set items c.args.index c.replace-before.new.dest) ≡ map alternative_view (slice_set items c.args.index now)
    = ap (λ (x : Alternative). map alternative_view (slice_set items c.args.index x)) dest in
    let here = item_at items c.args.index was l e in
    let was_shut : shut_or_past (slice_get (map alternative_view items) c.args.index) ≡ c.is_closed.result = ap shut_or_past here ∙ sym c.is_closed.ensures in
    rw same (record {
      counted = record {
        open_are = omega (arith, count, one, two);
        passed = subst (λ (x : List Alternative). ArePassed (map alternative_view x) c.pass-self-inside.result) (c.deref.ensures.value ∙ ap (slice_set items c.args.index) dest) c.pass-self-inside.ensures;
      };
      beside = subst (AreGaps c.regap.new.gaps.items) (sym (map-set alternative_view items c.args.index now))
          (c.regap.ensures (map alternative_view items) (alternative_view now) (omega (arith, len, l)) was_shut (sym c.is_closed-shut.ensures) c.self.invariant.beside);
    })

pub returns : goal.returns
returns c =
    let items = c.self.inside.items.items in
    map-set alternative_view items c.args.index c.replace-before.new.dest
    ∙ (ap (λ (x : Alternative). slice_set (map alternative_view items) c.args.index (alternative_view x)) c.replace-before.ensures.after
    ∙ ap (λ (x : _). slice_set x c.args.index (alternative_view c.args.alternative)) c.self.view_is)
