-- Where sums have records.
use Rattle.std.proofs.Common.{◌≡◌, ◌≢◌, ℕ, zero, suc, List, [], ◌∷◌, ◌++◌, take, drop, Bool, true, Option, Some, None, refl, sym, ap, ◌∙◌, subst}
use Rattle.std.specs.Prelude.{slice_get, IsSome, Result, Ok, Err, OnErr}
use Rattle.std.specs.Option.{option_map}
use Rattle.tree_model.specs.Credits.{Credit, added, credit_of}
use Rattle.tree_model.specs.Closing.{and_then, all_left, all_right, all_closed}
use Rattle.tree_model.specs.Levels.{Level, Place}
use Rattle.tree_nodes.specs.Rows.{AlternativeCell, StoredNode, Rows, row_of_node, node_parent, cell_at}
use Rattle.tree_nodes.specs.TreeTables.{NodesView}
use Rattle.tree_nodes.specs.Changes.{Folded, folded_on, folded_up}
use Rattle.tree_nodes.specs.Gathering.{closed_in, add_left, add_right, with_left, with_right_credits, with_beside, IsFolding, FoldsWithRecords, Gathers, GathersRecords}
use Rattle.tree_nodes.specs.Folds.{FoldsTo, ClosesWithRecords}
use Rattle.tree_nodes.proofs.BatchLemmas.{some-before, some-behind}
use Rattle.tree_nodes.proofs.FoldLemmas.{folds_more}

pub on_err : {X E : Type 0} (r : Result X E) (P : Type 0) → P → OnErr r P
on_err (Ok x) P p = tt
on_err (Err e) P p = p

some_there : {X : Type 0} (o : Option X) → IsSome o → (x : X) × (o ≡ Some x)
some_there None h = absurd (cc h)
some_there (Some x) h = (x, refl)

-- what is added keeps what there was
add_left_kept : (o : Option Credit) (c : Credit) → c.records ≢ [] → (add_left o c).records ≢ []
add_left_kept None c h = h
add_left_kept (Some d) c h = some-behind d.records c.records h

pub left_kept : (cells : List (ℕ × AlternativeCell)) (c : Credit) → c.records ≢ [] → (with_left cells c).records ≢ []
left_kept [] c h = h
left_kept (x ∷ cells) c h = add_left_kept (closed_in x.1) (with_left cells c) (left_kept cells c h)

add_right_kept : (c : Credit) (o : Option Credit) → c.records ≢ [] → (add_right c o).records ≢ []
add_right_kept c None h = h
add_right_kept c (Some d) h = some-before c.records d.records h

right_kept : (c : Credit) (cells : List (ℕ × AlternativeCell)) → c.records ≢ [] → (with_right_credits c cells).records ≢ []
right_kept c [] h = h
right_kept c (x ∷ cells) h = right_kept (add_right c (closed_in x.1)) cells (add_right_kept c (closed_in x.1) h)

-- one of those that are added has records
pub left_here : (cells : List (ℕ × AlternativeCell)) (c : Credit) (i : ℕ) (x : ℕ × AlternativeCell) (d : Credit) → slice_get cells i ≡ Some x
    → closed_in x.1 ≡ Some d → d.records ≢ [] → (with_left cells c).records ≢ []
left_here [] c i x d e f h = absurd (cc e)
left_here (y ∷ cells) c zero x d e f h =
    let same : y ≡ x = cc e in
    let here : closed_in y.1 ≡ Some d = ap (λ (z : ℕ × AlternativeCell). closed_in z.1) same ∙ f in
    subst (λ (o : Option Credit). (add_left o (with_left cells c)).records ≢ []) (sym here) (some-before d.records (with_left cells c).records h)
left_here (y ∷ cells) c (suc i) x d e f h = add_left_kept (closed_in y.1) (with_left cells c) (left_here cells c i x d e f h)

pub right_here : (c : Credit) (cells : List (ℕ × AlternativeCell)) (i : ℕ) (x : ℕ × AlternativeCell) (d : Credit) → slice_get cells i ≡ Some x
    → closed_in x.1 ≡ Some d → d.records ≢ [] → (with_right_credits c cells).records ≢ []
right_here c [] i x d e f h = absurd (cc e)
right_here c (y ∷ cells) zero x d e f h =
    let same : y ≡ x = cc e in
    let here : closed_in y.1 ≡ Some d = ap (λ (z : ℕ × AlternativeCell). closed_in z.1) same ∙ f in
    right_kept (add_right c (closed_in y.1)) cells
    (subst (λ (o : Option Credit). (add_right c o).records ≢ []) (sym here) (some-behind c.records d.records h))
right_here c (y ∷ cells) (suc i) x d e f h = right_here (add_right c (closed_in y.1)) cells i x d e f h

pub beside_some : (cells : List (ℕ × AlternativeCell)) (i : ℕ) (c : Credit) (right : List (ℕ × AlternativeCell)) → (with_right_credits c right).records ≢ []
    → right ≡ drop (suc i) cells → (with_beside i cells c).records ≢ []
beside_some cells i c right h e =
    left_kept (take i cells) (with_right_credits c (drop (suc i) cells)) (subst (λ (k : List (ℕ × AlternativeCell)). (with_right_credits c k).records ≢ []) e h)

-- a sum only grows where it folds on
sum_kept : (l r : Option Credit) (c total : Credit) → and_then (and_then l (Some c)) r ≡ Some total → c.records ≢ [] → total.records ≢ []
sum_kept None r c total e h = absurd (cc e)
sum_kept (Some a) None c total e h = absurd (cc e)
sum_kept (Some a) (Some b) c total e h =
    let same : added (added a c) b ≡ total = cc e in
    subst (λ (t : Credit). t.records ≢ []) same
    (some-before (a.records ++ c.records) b.records (some-behind a.records c.records h))

folded_kept : (v : Level) (up : List Level) (c : Credit) → c.records ≢ [] → (folded_up (v ∷ up) c).credit.records ≢ []
folded_kept v [] c h = h
folded_kept v (u ∷ up) c h = by_sum (all_closed v c) refl (λ t k. folded_kept u up (added (credit_of u.spent) t) k)
  where
    go : Credit → Folded
    go t = folded_up (u ∷ up) (added (credit_of u.spent) t)

    by_sum : (o : Option Credit) → all_closed v c ≡ o → ((t : Credit) → t.records ≢ [] → (go t).credit.records ≢ [])
        → (folded_on (all_closed v c) (v ∷ u ∷ up) c go).credit.records ≢ []
    by_sum None e more = subst (λ (o : Option Credit). (folded_on o (v ∷ u ∷ up) c go).credit.records ≢ []) (sym e) h
    by_sum (Some t) e more = subst (λ (o : Option Credit). (folded_on o (v ∷ u ∷ up) c go).credit.records ≢ []) (sym e)
        (more t (sum_kept (all_left v.left) (all_right v.right) c t e h))

pub closes_some : (nodes : NodesView) (a : Place) (c : Credit) (b : Place) (total : Credit) → FoldsTo nodes a c b total → total.records ≢ []
    → ClosesWithRecords nodes a c
closes_some nodes a c b total f h read v up was e s =
    let k = f read v up was e s in
    subst (λ (g : Folded). g.credit.records ≢ []) (sym k.folds) (folded_kept k.level k.above total h)

pub step_some : (nodes : NodesView) (a : Place) (c : Credit) (b : Place) (now : Credit) → FoldsTo nodes a c b now
    → FoldsWithRecords nodes.rows b now → ClosesWithRecords nodes a c
step_some nodes a c b now h f =
    closes_some nodes a c f.above f.total (folds_more nodes a c b now f.above f.total h f.folds) f.some

-- where what is beside an alternative is added up, its node folds
module _ (rows : Rows) (at above : Place) (c : Credit) (p : node_parent rows at.node ≡ Some (Some above)) where
  parent_is : (r : StoredNode) → row_of_node rows at.node ≡ Some r → r.parent ≡ Some above
  parent_is r e = let z : Some r.parent ≡ Some (Some above) = ap (λ (o : Option StoredNode). option_map (λ x. x.parent) o) (sym e) ∙ p in cc z

  pub gathers_some : IsSome (cell_at rows above) → GathersRecords (row_of_node rows at.node) at.index c → FoldsWithRecords rows at c
  gathers_some there g = by_row (row_of_node rows at.node) refl
    where
      by_row : (o : Option StoredNode) → row_of_node rows at.node ≡ o → FoldsWithRecords rows at c
      by_row None e = absurd (subst (λ (o : Option StoredNode). GathersRecords o at.index c) e g)
      by_row (Some r) e =
          let k = subst (λ (o : Option StoredNode). GathersRecords o at.index c) e g in
          let cell = some_there (cell_at rows above) there in
          record {
            above = above;
            total = added (credit_of cell.0.0) (with_beside at.index r.cells c);
            folds = record { row = r; here = e; parent = parent_is r e; shut = k.0; spent = cell.0.0; cell = cell.0.1; there = cell.1; sum = refl };
            some = k.1;
          }

  pub gathers_fold : (d total : Credit) (shut : Bool) (spent : ℕ) → option_map (λ x. x.0) (cell_at rows above) ≡ Some spent → shut ≡ true
      → Gathers (row_of_node rows at.node) at.index shut c d → total ≡ added (credit_of spent) d → IsFolding rows at above c total
  gathers_fold d total shut spent there s g sum = by_row (row_of_node rows at.node) refl (cell_at rows above) refl
    where
      by_row : (o : Option StoredNode) → row_of_node rows at.node ≡ o → (q : Option (ℕ × AlternativeCell)) → cell_at rows above ≡ q → IsFolding rows at above c total
      by_row None e q f = absurd (subst (λ (o : Option StoredNode). Gathers o at.index shut c d) e g)
      by_row (Some r) e None f = absurd (let z : None ≡ Some spent = ap (λ (o : Option (ℕ × AlternativeCell)). option_map (λ x. x.0) o) (sym f) ∙ there in cc z)
      by_row (Some r) e (Some cell) f =
          let k : Gathers (Some r) at.index true c d = subst (λ (b : Bool). Gathers (Some r) at.index b c d) s (subst (λ (o : Option StoredNode). Gathers o at.index shut c d) e g) in
          let same : Some cell.0 ≡ Some spent = ap (λ (o : Option (ℕ × AlternativeCell)). option_map (λ x. x.0) o) (sym f) ∙ there in
          let is : cell.0 ≡ spent = cc same in
          record {
            row = r;
            here = e;
            parent = parent_is r e;
            shut = k.0;
            spent = cell.0;
            cell = cell.1;
            there = f;
            sum = sum ∙ (ap (λ (n : ℕ). added (credit_of n) d) (sym is) ∙ ap (added (credit_of cell.0)) k.1);
          }
