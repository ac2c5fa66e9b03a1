-- Where an alternative folds to.
use Rattle.std.proofs.Common.{◌≡◌, ℕ, zero, suc, false, List, [], ◌∷◌, ◌++◌, length, Option, Some, None, take, drop}
use Rattle.std.proofs.Common.{refl, sym, ap, ◌∙◌, arith, subst}
use Rattle.std.specs.Prelude.{◌&&◌, is_some}
use Rattle.tree_model.specs.Credits.{Credit, added, credit_of}
use Rattle.tree_model.specs.Nodes.{Numbered, Status, Inner, Closed}
use Rattle.tree_model.specs.Levels.{Level, level_node, plug, Place, place_at}
use Rattle.tree_nodes.specs.Bodies.{Branching, Reading}
use Rattle.tree_nodes.specs.Rows.{AlternativeCell, InnerCell, ClosedCell, StoredNode, Rows, row_of_node, alternatives_at, cell_at}
use Rattle.tree_nodes.specs.TreeTables.{cell_of, cells_of, IsBelow, IsIn, IsRoot, NodesView, IsTableOf, Stand, above_of}
use Rattle.tree_nodes.specs.Changes.{Folded, folded_on, folded_up, closed_tree, ClosesAt, SetsCell}
use Rattle.tree_nodes.specs.Gathering.{are_shut, shut_beside, with_beside, with_left, with_right_credits, IsFolding, StaysIn, IsStaying}
use Rattle.tree_nodes.specs.Folds.{IsFoldedTo, FoldsTo, FoldsUpTo, IsAbove}
use Rattle.tree_nodes.proofs.PlaceLemmas.{left_cells, length-left_cells, AreRound, taken_out}
use Rattle.tree_nodes.proofs.PutLemmas.{cell_there}
use Rattle.tree_nodes.proofs.LocateLemmas.{found, present}
use Rattle.tree_nodes.proofs.CreditLemmas.{beside_sum, beside_open}

pub take-seam : (xs ys : List (ℕ × AlternativeCell)) (y : ℕ × AlternativeCell) (n : ℕ) → length xs ≡ n → take n (xs ++ y ∷ ys) ≡ xs
take-seam [] ys y zero e = refl
take-seam [] ys y (suc n) e = absurd (omega (arith, e))
take-seam (x ∷ xs) ys y zero e = absurd (omega (arith, e))
take-seam (x ∷ xs) ys y (suc n) e = ap (λ (cells : List (ℕ × AlternativeCell)). x ∷ cells) (take-seam xs ys y n (omega (arith, e)))

drop-seam : (xs ys : List (ℕ × AlternativeCell)) (y : ℕ × AlternativeCell) (n : ℕ) → length xs ≡ n → drop (suc n) (xs ++ y ∷ ys) ≡ ys
drop-seam [] ys y zero e = refl
drop-seam [] ys y (suc n) e = absurd (omega (arith, e))
drop-seam (x ∷ xs) ys y zero e = absurd (omega (arith, e))
drop-seam (x ∷ xs) ys y (suc n) e = drop-seam xs ys y n (omega (arith, e))

module _ (rows : Rows) (read : Reading) (v : Level) (up : List Level) (was : Status) (c total : Credit) where
  -- the cells beside a place
  cells_round : (way : _) → AreRound rows read (v ∷ up) way (cell_of was) → (r : StoredNode) → row_of_node rows v.number ≡ Some r
      → (r.parent ≡ above_of up) × (r.cells ≡ left_cells v.left ++ (v.spent, cell_of was) ∷ cells_of v.right)
  cells_round way h r e =
      let same : Some r ≡ Some (record { parent = above_of up; body = h.0; cells = left_cells v.left ++ (v.spent, cell_of was) ∷ cells_of v.right })
      = sym e ∙ h.1.1.1.row in
      (ap parent_or same, ap (λ (o : Option StoredNode). alternatives_at o) same)
    where
      parent_or : Option StoredNode → Option Place
      parent_or None = None
      parent_or (Some r) = r.parent

  shut_round : (cells : List (ℕ × AlternativeCell)) → cells ≡ left_cells v.left ++ (v.spent, cell_of was) ∷ cells_of v.right
      → shut_beside (length v.left) cells ≡ (are_shut (left_cells v.left) && are_shut (cells_of v.right))
  shut_round cells e =
      ap (shut_beside (length v.left)) e
      ∙ (ap (λ (x : List (ℕ × AlternativeCell)). are_shut x && are_shut (drop (suc (length v.left)) (left_cells v.left ++ (v.spent, cell_of was) ∷ cells_of v.right)))
      (take-seam (left_cells v.left) (cells_of v.right) (v.spent, cell_of was) (length v.left) (length-left_cells v.left))
      ∙ ap (λ (x : List (ℕ × AlternativeCell)). are_shut (left_cells v.left) && are_shut x)
      (drop-seam (left_cells v.left) (cells_of v.right) (v.spent, cell_of was) (length v.left) (length-left_cells v.left)))

  with_round : (cells : List (ℕ × AlternativeCell)) → cells ≡ left_cells v.left ++ (v.spent, cell_of was) ∷ cells_of v.right
      → with_beside (length v.left) cells c ≡ with_left (left_cells v.left) (with_right_credits c (cells_of v.right))
  with_round cells e =
      ap (λ (x : List (ℕ × AlternativeCell)). with_beside (length v.left) x c) e
      ∙ (ap (λ (x : List (ℕ × AlternativeCell)). with_left x (with_right_credits c (drop (suc (length v.left)) (left_cells v.left ++ (v.spent, cell_of was) ∷ cells_of v.right))))
      (take-seam (left_cells v.left) (cells_of v.right) (v.spent, cell_of was) (length v.left) (length-left_cells v.left))
      ∙ ap (λ (x : List (ℕ × AlternativeCell)). with_left (left_cells v.left) (with_right_credits c x))
      (drop-seam (left_cells v.left) (cells_of v.right) (v.spent, cell_of was) (length v.left) (length-left_cells v.left)))

  -- one level up
  pub one_up : (way : _) → AreRound rows read (v ∷ up) way (cell_of was) → (above : Place) → IsFolding rows (place_at v) above c total
      → IsFoldedTo v up was c above total
  one_up way h above f = by_levels up refl
    where
      by_levels : (levels : List Level) → up ≡ levels → IsFoldedTo v up was c above total
      by_levels [] ups = absurd (let p = (cells_round way h f.row f.here).0 in let z : Some above ≡ None = sym f.parent ∙ (p ∙ ap above_of ups) in cc z)
      by_levels (u ∷ more) ups =
          let parts = cells_round way h f.row f.here in
          let shut = sym (shut_round f.row.cells parts.1) ∙ f.shut in
          let b = beside_sum v c shut in
          let here : Some above ≡ Some (place_at u) = sym f.parent ∙ (parts.0 ∙ ap above_of ups) in
          let place : place_at u ≡ above = ap (λ (o : Option Place). place_or above o) (sym here) in
          let round : AreRound rows read (u ∷ more) h.1.0 (InnerCell v.number) = subst (λ (l : List Level). AreRound rows read l h.1.0 (InnerCell v.number)) ups h.1.1.2 in
          let there = cell_there rows read u more h.1.0 (InnerCell v.number) round in
          let pairs : Some (u.spent, InnerCell v.number) ≡ Some (f.spent, f.cell) = sym there ∙ (ap (cell_at rows) place ∙ f.there) in
          let spent : f.spent ≡ u.spent = ap spent_or (sym pairs) in
          let sum : added (credit_of u.spent) b.0 ≡ total = b.1.sum (credit_of u.spent)
          ∙ (ap (added (credit_of u.spent)) (sym (with_round f.row.cells parts.1))
          ∙ (ap (λ (k : ℕ). added (credit_of k) (with_beside (length v.left) f.row.cells c)) (sym spent) ∙ sym f.sum)) in
          record {
            level = u;
            above = more;
            status = Inner (level_node v was);
            same = ap (λ (l : List Level). plug l (Inner (level_node v was))) ups;
            at = place;
            folds = ap (λ (l : List Level). folded_up (v ∷ l) c) ups
                ∙ (ap (λ (o : Option Credit). folded_on o (v ∷ u ∷ more) c (λ t. folded_up (u ∷ more) (added (credit_of u.spent) t))) b.1.all
                ∙ ap (folded_up (u ∷ more)) sum);
          }
        where
          place_or : Place → Option Place → Place
          place_or a None = a
          place_or a (Some b) = b

          spent_or : Option (ℕ × AlternativeCell) → ℕ
          spent_or None = 0
          spent_or (Some c) = c.0

  -- where it stays
  pub stays_here : (way : _) → AreRound rows read (v ∷ up) way (cell_of was) → IsStaying rows (place_at v) c total
      → folded_up (v ∷ up) c ≡ record { levels = v ∷ up; credit = total }
  stays_here way h s = by_levels up refl
    where
      by_levels : (levels : List Level) → up ≡ levels → folded_up (v ∷ up) c ≡ record { levels = v ∷ up; credit = total }
      by_levels [] ups = ap (λ (l : List Level). folded_up (v ∷ l) c) ups
          ∙ (ap (λ (k : Credit). record { levels = v ∷ []; credit = k }) (sym s.sum) ∙ ap (λ (l : List Level). record { levels = v ∷ l; credit = total }) (sym ups))
      by_levels (u ∷ more) ups =
          let parts = cells_round way h s.row s.here in
          let parent : s.row.parent ≡ Some (place_at u) = parts.0 ∙ ap above_of ups in
          let not_shut : shut_beside (length v.left) s.row.cells ≡ false = subst (λ (o : Option Place). StaysIn o (length v.left) s.row.cells) parent s.stays in
          let none = beside_open v c (sym (shut_round s.row.cells parts.1) ∙ not_shut) in
          ap (λ (l : List Level). folded_up (v ∷ l) c) ups
          ∙ (ap (λ (o : Option Credit). folded_on o (v ∷ u ∷ more) c (λ t. folded_up (u ∷ more) (added (credit_of u.spent) t))) none
          ∙ (ap (λ (k : Credit). record { levels = v ∷ u ∷ more; credit = k }) (sym s.sum) ∙ ap (λ (l : List Level). record { levels = v ∷ l; credit = total }) (sym ups)))

-- the alternative that a node is below is there
pub parent_above : (nodes : NodesView) (n : ℕ) (r : StoredNode) → Stand nodes → row_of_node nodes.rows n ≡ Some r → IsAbove nodes.rows r.parent n
parent_above nodes n r st e =
    let s = st.stands in
    let f = found n st.root (present nodes st.read st.root n r s e) in
    let placed = subst (IsIn nodes.rows st.read [] None) f.is s.placed in
    let k = taken_out nodes.rows st.read f.up (Inner (Numbered n f.kind f.alternatives)) placed in
    let parent : above_of f.up ≡ r.parent = ap parent_or (sym k.inside.1.0 ∙ e) in
    subst (λ (o : Option Place). IsAbove nodes.rows o n) parent (by_levels f.up k.way k.around k.inside.1.2)
  where
    parent_or : Option StoredNode → Option Place
    parent_or None = None
    parent_or (Some r) = r.parent

    by_levels : (up : List Level) (way : Branching) → AreRound nodes.rows st.read up way (InnerCell n) → IsBelow (above_of up) n → IsAbove nodes.rows (above_of up) n
    by_levels [] way h b = tt
    by_levels (v ∷ up) way h b = (ap is_some (cell_there nodes.rows st.read v up way (InnerCell n) h), b)

-- one step more, and the last one
pub folds_more : (nodes : NodesView) (a : Place) (c : Credit) (b : Place) (now : Credit) (above : Place) (total : Credit) → FoldsTo nodes a c b now
    → IsFolding nodes.rows b above now total → FoldsTo nodes a c above total
folds_more nodes a c b now above total h f read v up was e s =
    let k = h read v up was e s in
    let placed = subst (IsIn nodes.rows read [] None) k.same s.placed in
    let t = taken_out nodes.rows read (k.level ∷ k.above) k.status placed in
    let here : IsFolding nodes.rows (place_at k.level) above now total = subst (λ (p : Place). IsFolding nodes.rows p above now total) (sym k.at) f in
    let n = one_up nodes.rows read k.level k.above k.status now total t.way t.around above here in
    record { level = n.level; above = n.above; status = n.status; same = k.same ∙ n.same; at = n.at; folds = k.folds ∙ n.folds }

pub folds_begin : (nodes : NodesView) (a : Place) (c : Credit) → FoldsTo nodes a c a c
folds_begin nodes a c read v up was e s = record { level = v; above = up; status = was; same = refl; at = e; folds = refl }

pub folds_end : (nodes : NodesView) (a : Place) (c : Credit) (b : Place) (now total : Credit) → FoldsTo nodes a c b now
    → IsStaying nodes.rows b now total → FoldsUpTo nodes a c b total
folds_end nodes a c b now total h y read v up was e s =
    let k = h read v up was e s in
    let placed = subst (IsIn nodes.rows read [] None) k.same s.placed in
    let t = taken_out nodes.rows read (k.level ∷ k.above) k.status placed in
    let here : IsStaying nodes.rows (place_at k.level) now total = subst (λ (p : Place). IsStaying nodes.rows p now total) (sym k.at) y in (
      record { level = k.level; above = k.above; status = k.status; same = k.same; at = k.at; folds = k.folds ∙ ap (folded_up (k.level ∷ k.above)) (sym y.sum) },
      stays_here nodes.rows read k.level k.above k.status total total t.way t.around (record { row = here.row; here = here.here; stays = here.stays; sum = refl }),
    )

-- closing where it folds to is closing
pub closes_at : (old new : NodesView) (a : Place) (c : Credit) (b : Place) (total : Credit) (spent : ℕ) → FoldsUpTo old a c b total
    → ((cell : AlternativeCell) → (there : ℕ) → cell_at old.rows b ≡ Some (there, cell) → spent ≡ there)
    → SetsCell old new b spent (ClosedCell total) → ClosesAt old new a c
closes_at old new a c b total spent f same_spent h read v up was e s =
    let k = f read v up was e s in
    let t = subst (IsTableOf old read) k.0.same s in
    let p = taken_out old.rows read (k.0.level ∷ k.0.above) k.0.status t.placed in
    let there = cell_there old.rows read k.0.level k.0.above p.way (cell_of k.0.status) p.around in
    let spends : spent ≡ k.0.level.spent = same_spent (cell_of k.0.status) k.0.level.spent (ap (cell_at old.rows) (sym k.0.at) ∙ there) in
    let closed = h read k.0.level k.0.above k.0.status k.0.at t in
    let whole : IsTableOf new read (plug (k.0.level ∷ k.0.above) (Closed total))
    = subst (λ (n : ℕ). IsTableOf new read (plug (record k.0.level { spent = n } ∷ k.0.above) (Closed total))) spends closed in
    subst (λ (g : Folded). IsTableOf new read (closed_tree g)) (sym (k.0.folds ∙ k.1)) whole

-- what is provided for is no part of the tree
pub closes_same : (old middle new : NodesView) (a : Place) (c : Credit) → new.rows ≡ middle.rows → new.first ≡ middle.first → new.live ≡ middle.live
    → ClosesAt old middle a c → ClosesAt old new a c
closes_same old middle new a c r f l h read v up was e s =
    let k = h read v up was e s in
    let root = closed_tree (folded_up (v ∷ up) c) in
    record {
      placed = subst (λ (rows : Rows). IsIn rows read [] None root) (sym r) k.placed;
      rooted = subst (λ (o : Option ℕ). IsRoot o root) (sym f) k.rooted;
      distinct = k.distinct;
      others = λ n h. ap (λ (rows : Rows). row_of_node rows n) r ∙ k.others n h;
      live = l ∙ k.live;
    }
