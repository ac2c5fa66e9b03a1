use Rattle.std.proofs.Common.{◌<◌, ◌≡◌, length, Option, sym, ap, ◌∙◌, subst, length-set}
use Rattle.std.specs.Prelude.{IsSome, slice_get, slice_set}
use Rattle.tree_model.specs.EventViews.{place_view}
use Rattle.tree_model.specs.Legality.{is_ready}
use Rattle.tree_nodes.specs.Rows.{StoredNode, Rows, row_of_node, alternatives_at, cell_at}
use Rattle.tree_nodes.specs.RowViews.{with_state}
use Rattle.tree_nodes.specs.Siblings.{alternative_view}
use Rattle.tree_nodes.specs.Puts.{inner_at, IsReplaced}
use Rattle.tree_nodes.specs.Held.{is_waiting, AreHeldIn}
use Rattle.tree_nodes.proofs.RowLemmas.{row_at-read, row_at-set_same, row_at-set_other}
use Rattle.tree_nodes.proofs.HeldLemmas.{cell_within, replaced_count}
use Rattle.tree_nodes.proofs.table.Table.replace.Goals as goal

pub invariant_of-self : goal.invariant_of-self
invariant_of-self c =
    let rows = c.self.inside.slots.items in
    let a = place_view c.args.at in
    let slot = c.index_mut-slot.result.now in
    let cell = alternative_view c.args.alternative in
    let held = c.self.inside.held in
    let rest = c.without.result in
    let sum = c.with-self-inside.result in
    let there : IsSome (cell_at rows a) = subst (λ (rs : Rows). IsSome (cell_at rs a)) (sym c.self.view_is) c.requires.there in
    let l : a.node < length rows = cell_within rows a there in
    let row : row_of_node rows a.node ≡ slot = row_at-read rows a.node slot l c.index_mut-slot.ensures.value in
    let here : IsSome (slice_get (alternatives_at slot) a.index) = subst (λ (o : Option StoredNode). IsSome (slice_get (alternatives_at o) a.index)) row there in
    subst (λ (o : Option StoredNode). AreHeldIn sum (slice_set rows a.node o)) (sym c.put.ensures) (record {
      ready = replaced_count is_ready rows a.node a.index slot cell held.ready c.held_at-before.result.ready rest.ready c.of-now.result.ready sum.ready l row here
          c.self.invariant.ready c.held_at-before.ensures.ready c.without.ensures.ready c.of-now.ensures.ready c.with-self-inside.ensures.ready;
      waiting = replaced_count is_waiting rows a.node a.index slot cell held.waiting c.held_at-before.result.waiting rest.waiting c.of-now.result.waiting
          sum.waiting l row here c.self.invariant.waiting c.held_at-before.ensures.waiting c.without.ensures.waiting c.of-now.ensures.waiting
          c.with-self-inside.ensures.waiting;
    })

pub returns : goal.returns
returns c =
    let rows = c.self.inside.slots.items in
    let a = place_view c.args.at in
    let slot = c.index_mut-slot.result.now in
    let new = c.put.new.self in
    let cell = alternative_view c.args.alternative in
    let there : IsSome (cell_at rows a) = subst (λ (rs : Rows). IsSome (cell_at rs a)) (sym c.self.view_is) c.requires.there in
    let l : a.node < length rows = cell_within rows a there in
    let row : row_of_node rows a.node ≡ slot = row_at-read rows a.node slot l c.index_mut-slot.ensures.value in
    subst (λ (rs : Rows). IsReplaced rs (slice_set rows a.node new) a cell c.inner-below.result) c.self.view_is (record {
      row = row_at-set_same rows a.node new l ∙ (c.put.ensures ∙ ap (with_state a.index cell) (sym row));
      same = λ m ne. row_at-set_other rows a.node new m ne;
      length = length-set rows a.node new;
      inner = c.inner-below.ensures ∙ ap (λ (o : Option StoredNode). inner_at (slice_get (alternatives_at o) a.index)) (sym row);
    })
