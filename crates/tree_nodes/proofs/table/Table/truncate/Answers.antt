use Rattle.std.proofs.Common.{sym, ap, ◌∙◌, subst}
use Rattle.tree_model.specs.Legality.{is_ready}
use Rattle.tree_nodes.specs.Rows.{Rows}
use Rattle.tree_nodes.specs.Changes.{AreGone}
use Rattle.tree_nodes.specs.Held.{is_waiting, held_in, IsCountOf}
use Rattle.tree_nodes.proofs.HeldLemmas.{held_in-take}
use Rattle.tree_nodes.proofs.table.Table.truncate.Goals as goal

pub invariant_of-self : goal.invariant_of-self
invariant_of-self c =
    let rows = c.self.inside.slots.items in
    let gone : AreGone rows c.args.next = subst (λ (rs : Rows). AreGone rs c.args.next) (sym c.self.view_is) c.requires in
    record {
      ready = subst (IsCountOf c.self.inside.held.ready) (sym (ap (held_in is_ready) c.truncate.ensures.items ∙ held_in-take is_ready rows c.args.next gone))
          c.self.invariant.ready;
      waiting = subst (IsCountOf c.self.inside.held.waiting) (sym (ap (held_in is_waiting) c.truncate.ensures.items ∙ held_in-take is_waiting rows c.args.next gone))
          c.self.invariant.waiting;
    }
