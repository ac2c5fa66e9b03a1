use Rattle.std.proofs.Common.{◌≡◌, ℕ, None, length, refl, sym, ap, ◌∙◌, subst, length-take}
use Rattle.tree_nodes.specs.Rows.{Rows, row_of_node}
use Rattle.tree_nodes.specs.TreeTables.{NodesView}
use Rattle.tree_nodes.specs.Changes.{AreGone, GivesBack}
use Rattle.tree_nodes.specs.Staying.{AreAllSame}
use Rattle.tree_nodes.proofs.RowLemmas.{row_at-take}
use Rattle.tree_nodes.proofs.PutLemmas.{same_rows}
use Rattle.tree_nodes.proofs.FrontLemmas.{next_same}
use Rattle.tree_nodes.proofs.nodes.Nodes.give_back.Goals as goal

pub invariant_of-self : goal.invariant_of-self
invariant_of-self c =
    let old : NodesView = record { rows = c.self.inside.table; first = c.self.inside.first; live = c.self.inside.live; spare = c.self.inside.spare } in
    let new : NodesView = record { rows = c.truncate.new.self; first = c.self.inside.first; live = c.self.inside.live; spare = c.self.inside.spare } in
    let gone : AreGone old.rows c.args.next = subst (λ (o : NodesView). AreGone o.rows c.args.next) (sym c.self.view_is) c.requires in
    let rows : (m : ℕ) → row_of_node new.rows m ≡ row_of_node old.rows m = λ m. ap (λ (rs : Rows). row_of_node rs m) c.truncate.ensures ∙ row_at-take old.rows c.args.next m gone in
    let st = c.self.invariant.tree in
    record {
      tree = record { read = st.read; root = st.root; stands = same_rows old new st.read st.root rows refl refl st.stands };
      led = next_same old.rows new.rows old.first None c.self.inside.front.items rows c.self.invariant.led;
    }

pub returns-clause-given : goal.returns-clause-given
returns-clause-given c =
    let old : NodesView = record { rows = c.self.inside.table; first = c.self.inside.first; live = c.self.inside.live; spare = c.self.inside.spare } in
    let new : NodesView = record { rows = c.truncate.new.self; first = c.self.inside.first; live = c.self.inside.live; spare = c.self.inside.spare } in
    let gone : AreGone old.rows c.args.next = subst (λ (o : NodesView). AreGone o.rows c.args.next) (sym c.self.view_is) c.requires in
    let rows : (m : ℕ) → row_of_node new.rows m ≡ row_of_node old.rows m = λ m. ap (λ (rs : Rows). row_of_node rs m) c.truncate.ensures ∙ row_at-take old.rows c.args.next m gone in
    let given : GivesBack old new c.args.next = record {
      length = ap length c.truncate.ensures ∙ length-take c.args.next old.rows;
      spare = refl;
      same = λ read root s. same_rows old new read root rows refl refl s;
    } in
    subst (λ (o : NodesView). GivesBack o new c.args.next) c.self.view_is given

pub returns-clause-made : goal.returns-clause-made
returns-clause-made c =
    let gone : AreGone c.self.inside.table c.args.next = subst (λ (o : NodesView). AreGone o.rows c.args.next) (sym c.self.view_is) c.requires in
    subst (λ (o : NodesView). AreAllSame o.rows c.truncate.new.self) c.self.view_is
    (λ m. ap (λ (rs : Rows). row_of_node rs m) c.truncate.ensures ∙ row_at-take c.self.inside.table c.args.next m gone)
