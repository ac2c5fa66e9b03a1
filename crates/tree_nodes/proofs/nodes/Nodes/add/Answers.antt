use Rattle.std.proofs.Common.{◌≡◌, ℕ, ◌+◌, [], ◌∷◌, ◌++◌, length, Option, Some, sym, ap, ◌∙◌, subst, arith}
use Rattle.std.proofs.lemmas.Grind.{common_steps}
use Rattle.std.specs.Arc.{arc_value}
use Rattle.tree_nodes.specs.Bodies.{body_view}
use Rattle.tree_nodes.specs.Rows.{StoredNode, Rows}
use Rattle.tree_nodes.specs.RowViews.{parent_view, new_row}
use Rattle.tree_nodes.specs.TreeTables.{NodesView}
use Rattle.tree_nodes.specs.Changes.{Adds, CanHold, root_after}
use Rattle.tree_nodes.specs.Puts.{IsLinked}
use Rattle.tree_nodes.specs.Staying.{StayMade}
use Rattle.tree_nodes.proofs.AddLemmas.{adds, adds_stand}
use Rattle.tree_nodes.proofs.StayingLemmas.{made_unchanged, made_then, made_more, made_linked}
use Rattle.tree_nodes.proofs.FrontKeptLemmas.{add_kept}
use Rattle.tree_nodes.proofs.nodes.Nodes.add.Goals as goal

pub invariant_of-self-2 : goal.invariant_of-self-2
invariant_of-self-2 c =
    let old : NodesView = record { rows = c.self.inside.table; first = c.self.inside.first; live = c.self.inside.live; spare = c.self.inside.spare } in
    let new : NodesView = record { rows = c.link_cell.new.table; first = c.first_after-self-inside.result; live = c.in-Some.live; spare = c.self.inside.spare } in
    let parent = parent_view c.args.parent in
    let body = body_view (arc_value c.args.body) in
    let can : CanHold old parent = subst (λ (o : NodesView). CanHold o parent) (sym c.self.view_is) c.requires.open in
    let number : c.len-number.result ≡ length old.rows = grind (arith, common_steps) in
    let items : c.push.new.self ≡ old.rows ++ Some (new_row parent body) ∷ []
    = c.in_ok-push.ensures.ok ∙ ap (λ (r : Option StoredNode). old.rows ++ r ∷ []) c.in_ok-slot.ensures in
    let linked : IsLinked (old.rows ++ Some (new_row parent body) ∷ []) new.rows parent (length old.rows)
    = subst (λ (n : ℕ). IsLinked (old.rows ++ Some (new_row parent body) ∷ []) new.rows parent n) number
    (subst (λ (rs : Rows). IsLinked rs new.rows parent c.len-number.result) items c.link_cell.ensures) in
    let first : new.first ≡ root_after old.first parent (length old.rows) = c.first_after-self-inside.ensures ∙ ap (root_after old.first parent) number in
    let live : new.live ≡ old.live + 1 = grind (arith, common_steps) in
    add_kept old new parent body _ c.self.inside.front.items c.retreat.new.front.items c.self.invariant can linked first
    (adds_stand old new parent body c.self.invariant.tree can (adds old new parent body linked first live can)) c.retreat.ensures

pub returns-clause-added : goal.returns-clause-added
returns-clause-added c =
    let old : NodesView = record { rows = c.self.inside.table; first = c.self.inside.first; live = c.self.inside.live; spare = c.self.inside.spare } in
    let new : NodesView = record { rows = c.link_cell.new.table; first = c.first_after-self-inside.result; live = c.in-Some.live; spare = c.self.inside.spare } in
    let parent = parent_view c.args.parent in
    let body = body_view (arc_value c.args.body) in
    let can : CanHold old parent = subst (λ (o : NodesView). CanHold o parent) (sym c.self.view_is) c.requires.open in
    let number : c.len-number.result ≡ length old.rows = grind (arith, common_steps) in
    let items : c.push.new.self ≡ old.rows ++ Some (new_row parent body) ∷ []
    = c.in_ok-push.ensures.ok ∙ ap (λ (r : Option StoredNode). old.rows ++ r ∷ []) c.in_ok-slot.ensures in
    let linked : IsLinked (old.rows ++ Some (new_row parent body) ∷ []) new.rows parent (length old.rows)
    = subst (λ (n : ℕ). IsLinked (old.rows ++ Some (new_row parent body) ∷ []) new.rows parent n) number
    (subst (λ (rs : Rows). IsLinked rs new.rows parent c.len-number.result) items c.link_cell.ensures) in
    let first : new.first ≡ root_after old.first parent (length old.rows) = c.first_after-self-inside.ensures ∙ ap (root_after old.first parent) number in
    let live : new.live ≡ old.live + 1 = grind (arith, common_steps) in
    subst (λ (o : NodesView). Adds o c.advance.new.self parent c.len-number.result body) c.self.view_is
    (subst (λ (o : NodesView). Adds old o parent c.len-number.result body) (sym c.advance.ensures) (subst (λ (n : ℕ). Adds old new parent n body) (sym number) (adds old new parent body linked first live can)))

pub returns-in_err-push-clause-made : goal.returns-in_err-push-clause-made
returns-in_err-push-clause-made c =
    subst (λ (o : NodesView). StayMade o.rows c.push.new.self) c.self.view_is (made_unchanged c.self.inside.table c.push.new.self c.in_err-push.ensures.err)

pub returns-clause-made : goal.returns-clause-made
returns-clause-made c =
    let rows = c.self.inside.table in
    let pushed = c.push.new.self in
    let linked = c.link_cell.new.table in
    let more : StayMade rows pushed = subst (StayMade rows) (sym c.in_ok-push.ensures.ok) (made_more rows _) in
    subst (λ (o : NodesView). StayMade o.rows c.advance.new.self.rows) c.self.view_is
    (subst (λ (o : NodesView). StayMade rows o.rows) (sym c.advance.ensures)
    (made_then rows pushed linked more (made_linked pushed linked (parent_view c.args.parent) c.len-number.result c.link_cell.ensures)))
