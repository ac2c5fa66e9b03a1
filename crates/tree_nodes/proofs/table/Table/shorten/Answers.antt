use Rattle.std.proofs.Common.{◌+◌, ◌<◌, ◌≡◌, length, ap, sym, ◌∙◌, arith, subst, Option, length-set}
use Rattle.std.specs.Prelude.{slice_set}
use Rattle.tree_model.specs.Legality.{is_ready}
use Rattle.tree_nodes.specs.Rows.{StoredNode, Rows, row_of_node}
use Rattle.tree_nodes.specs.RowViews.{IsShortened}
use Rattle.tree_nodes.specs.Drops.{row_weight, drop_weight, IsShortenedAt}
use Rattle.tree_nodes.specs.Held.{is_waiting}
use Rattle.tree_nodes.proofs.RowLemmas.{row_at-read, row_at-set_same, row_at-set_other, weight-set}
use Rattle.tree_nodes.proofs.HeldLemmas.{shortened_count}
use Rattle.tree_nodes.proofs.table.Table.shorten.Goals as goal

pub invariant_of-self : goal.invariant_of-self
invariant_of-self c =
    let rows = c.self.inside.slots.items in
    let slot = c.index_mut-slot.result.now in
    let new = c.shorten-shortened.new.self in
    let held = c.self.inside.held in
    let off = c.shorten-shortened.result.1 in
    let rest = c.without-self-inside.result in
    let l : c.args.at < length rows = omega arith in
    let row : row_of_node rows c.args.at ≡ slot = row_at-read rows c.args.at slot l c.index_mut-slot.ensures.value in
    record {
      ready = shortened_count is_ready rows c.args.at slot new held.ready off.ready rest.ready l row c.self.invariant.ready c.shorten-shortened.ensures.ready
          c.without-self-inside.ensures.ready;
      waiting = shortened_count is_waiting rows c.args.at slot new held.waiting off.waiting rest.waiting l row c.self.invariant.waiting
          c.shorten-shortened.ensures.waiting c.without-self-inside.ensures.waiting;
    }

pub returns : goal.returns
returns c =
    let rows = c.self.inside.slots.items in
    let new = c.shorten-shortened.new.self in
    let l : c.args.at < length rows = omega arith in
    let same = row_at-set_same rows c.args.at new l in
    subst (λ (rs : Rows). IsShortenedAt rs (slice_set rows c.args.at new) c.args.at c.shorten-shortened.result.0) c.self.view_is (record {
      here = subst (λ (o : Option StoredNode). IsShortened o (row_of_node (slice_set rows c.args.at new) c.args.at) c.shorten-shortened.result.0)
          (sym (row_at-read rows c.args.at c.index_mut-slot.result.now l c.index_mut-slot.ensures.value))
          (subst (λ (o : Option StoredNode). IsShortened c.index_mut-slot.result.now o c.shorten-shortened.result.0) (sym same) c.shorten-shortened.ensures.shortened);
      same = λ m ne. row_at-set_other rows c.args.at new m ne;
      length = length-set rows c.args.at new;
      drop_weight = weight-set rows c.args.at new l ∙ ap (λ (o : Option StoredNode). drop_weight rows + row_weight o) (sym same);
    })
