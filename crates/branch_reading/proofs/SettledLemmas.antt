-- Entries that are numbered are those of settled branches.
use Rattle.std.proofs.Common.{◌≡◌, ◌⊎◌, ℕ, ◌≤◌, Bool, true, false, List, [], ◌∷◌, None, length, refl, sym, ap, ◌∙◌, subst, inl, inr, arith}
use Rattle.run_model.specs.Laws.Numbering.{IsEntryNumbered}
use Rattle.run_model.specs.Programs.Jobs.{Job}
use Rattle.clause_compile.specs.declared.item.Item.{Item as BranchItem}
use Rattle.clause_compile.specs.declared.item.Item.TheVariants.{Goal, CatchEnd, Collect, Remove, End}
use Rattle.tree_model.specs.Levels.{Level, put_left, level_node, plug}
use Rattle.tree_model.specs.Nodes.{Alternatives, alternative, Status, Pending, Inner}
use Rattle.tree_model.specs.NumberedTrees.{IsNumberedStatus, AreNumbered}
use Rattle.tree_nodes.specs.Bodies.{Branching}
use Rattle.tree_nodes.specs.Rows.{PendingCell}
use Rattle.tree_nodes.specs.TreeTables.{IsIn}
use Rattle.tree_nodes.proofs.PlaceLemmas.{taken_out}
use Rattle.tree_nodes.proofs.AddLemmas.{way_same}
use Rattle.branch_reading.specs.SettledWays.{items_on, is_way_settled}
use Rattle.branch_reading.specs.Readings.{entry_meant, entry_if, entry_on, unreadable, reading}
use Rattle.branch_reading.specs.NumberedReadings.{IsEndOn, NumberedTreesAreSettled}

numbered_right : (left : List (ℕ × Status)) (others : Alternatives) → AreNumbered (put_left left others) → AreNumbered others
numbered_right [] others h = h
numbered_right (a ∷ left) others h = (numbered_right left (alternative a.0 a.1 others) h).1

numbered_inside : (levels : List Level) (status : Status) → IsNumberedStatus (plug levels status) → IsNumberedStatus status
numbered_inside [] status h = h
numbered_inside (v ∷ up) status h =
    (numbered_right v.left (alternative v.spent status v.right) (numbered_inside up (Inner (level_node v status)) h)).0

-- what cannot be read is not numbered
not_numbered : {A : Type 0} → IsEntryNumbered unreadable → A
not_numbered h = let wrong : 1 ≤ 0 = h.named.0 in absurd (omega (arith, wrong))

-- unless it is the end of a query
numbered_or_end : (items : List BranchItem) → IsEntryNumbered (entry_meant items unreadable) → (way : Branching) → items_on way ≡ items → IsEndOn way
numbered_or_end [] h way e = not_numbered h
numbered_or_end (End ball ∷ []) h way e = (ball, e)
numbered_or_end (End ball ∷ i ∷ items) h way e = not_numbered h
numbered_or_end (Goal t s ∷ items) h way e = not_numbered h
numbered_or_end (CatchEnd s ∷ items) h way e = not_numbered h
numbered_or_end (Collect t s ∷ items) h way e = not_numbered h
numbered_or_end (Remove n ∷ items) h way e = not_numbered h

settled_by : (job : Job) (way : Branching) (settled : Bool) → is_way_settled way ≡ settled
    → IsEntryNumbered (entry_meant (items_on way) (entry_if settled (entry_on job way))) → (is_way_settled way ≡ true) ⊎ IsEndOn way
settled_by job way true e h = inl e
settled_by job way false e h = inr (numbered_or_end (items_on way) h way refl)

pub numbered_trees_are_settled : NumberedTreesAreSettled
numbered_trees_are_settled job nodes root stands numbered v up hold entry same way on =
    let placed : IsIn nodes.rows (reading job) [] None (plug (v ∷ up) (Pending hold entry)) = subst (IsIn nodes.rows (reading job) [] None) (sym same)
    stands.placed in
    let k = taken_out nodes.rows (reading job) (v ∷ up) (Pending hold entry) placed in
    let here : k.way ≡ way = way_same nodes.rows (reading job) (v ∷ up) k.way way (PendingCell hold) k.around on in
    let reads : entry ≡ reading job way = k.inside ∙ ap (reading job) here in
    let way_is : way ≡ (on.0.body, length v.left) ∷ on.1.0 = on.1.1.1 in
    let known : IsEntryNumbered entry = numbered_inside (v ∷ up) (Pending hold entry) (subst IsNumberedStatus (sym same) numbered) in
    let inner = (on.0.body, length v.left) ∷ on.1.0 in
    let here_known : IsEntryNumbered (reading job inner) = subst IsEntryNumbered (reads ∙ ap (reading job) way_is) known in
    record {
      reads = reads;
      settled = subst (λ w. (is_way_settled w ≡ true) ⊎ IsEndOn w) (sym way_is) (settled_by job inner (is_way_settled inner) refl here_known);
    }
