-- Numbers that are drawn and name no node change nothing of the tree.
use Rattle.std.proofs.Common.{◌≡◌, ℕ, zero, suc, ◌+◌, Bool, [], ◌∷◌, ◌++◌, length, List, Option, Some, None, Result, Ok, Err, refl, sym, ap, subst, arith}
use Rattle.std.proofs.lemmas.List.{length-append, length-replicate}
use Rattle.std.specs.Prelude.{slice_get, OnOk, OnErr}
use Rattle.tree_model.specs.Legality.{is_ready}
use Rattle.tree_model.specs.Levels.{Place}
use Rattle.tree_model.specs.Nodes.{Hold, Status}
use Rattle.tree_nodes.specs.Bodies.{Reading}
use Rattle.tree_nodes.specs.Fronts.{AreKept}
use Rattle.tree_nodes.specs.Held.{is_waiting, held_in, IsCountOf, AreHeldIn}
use Rattle.tree_nodes.specs.Rows.{StoredNode, Rows, row_of_node, alternatives_at, cell_at}
use Rattle.tree_nodes.specs.Skipping.{no_rows, skipping}
use Rattle.tree_nodes.specs.TreeTables.{NodesView, IsTableOf}
use Rattle.tree_nodes.specs.declared.front.Front.{Front}
use Rattle.tree_nodes.specs.declared.held.Held.{Held}
use Rattle.tree_nodes.proofs.PutLemmas.{same_rows}
use Rattle.tree_nodes.proofs.FrontLemmas.{next_same}

row_at-none : (n m : ℕ) → row_of_node (no_rows n) m ≡ None
row_at-none zero m = refl
row_at-none (suc n) zero = refl
row_at-none (suc n) (suc m) = row_at-none n m

pub row_at-skipped : (rows : Rows) (n m : ℕ) → row_of_node (rows ++ no_rows n) m ≡ row_of_node rows m
row_at-skipped [] n m = row_at-none n m
row_at-skipped (r ∷ rows) n zero = refl
row_at-skipped (r ∷ rows) n (suc m) = row_at-skipped rows n m

pub cell_at-skipped : (rows : Rows) (n : ℕ) (a : Place) → cell_at (rows ++ no_rows n) a ≡ cell_at rows a
cell_at-skipped rows n a = ap (λ (o : Option StoredNode). slice_get (alternatives_at o) a.index) (row_at-skipped rows n a.node)

pub length-skipped : (rows : Rows) (n : ℕ) → length (rows ++ no_rows n) ≡ length rows + n
length-skipped rows n =
    let one = length-append rows (no_rows n) in
    let many : length (no_rows n) ≡ n = length-replicate n None in
    omega (arith, one, many)

held_in-none : (sort : Hold → Bool) (n : ℕ) → held_in sort (no_rows n) ≡ 0
held_in-none sort zero = refl
held_in-none sort (suc n) = let h = held_in-none sort n in omega (arith, h)

pub held_in-skipped : (sort : Hold → Bool) (rows : Rows) (n : ℕ) → held_in sort (rows ++ no_rows n) ≡ held_in sort rows
held_in-skipped sort [] n = held_in-none sort n
held_in-skipped sort (r ∷ rows) n = let h = held_in-skipped sort rows n in omega (arith, h)

pub table_skipped : (nodes : NodesView) (n : ℕ) (read : Reading) (root : Status) → IsTableOf nodes read root → IsTableOf (skipping n nodes) read root
table_skipped nodes n read root s = same_rows nodes (skipping n nodes) read root (λ m. row_at-skipped nodes.rows n m) refl refl s

pub table_before : (nodes : NodesView) (n : ℕ) (read : Reading) (root : Status) → IsTableOf (skipping n nodes) read root → IsTableOf nodes read root
table_before nodes n read root s = same_rows (skipping n nodes) nodes read root (λ m. sym (row_at-skipped nodes.rows n m)) refl refl s

-- whether there was memory for them or not
pub skipped_held : {A E : Type 0} (h : Held) (rows new : Rows) (n : ℕ) (r : Result A E) → OnOk r (new ≡ rows ++ no_rows n) → OnErr r (new ≡ rows)
    → AreHeldIn h rows → AreHeldIn h new
skipped_held h rows new n (Ok x) e f k = subst (AreHeldIn h) (sym e) (record {
  ready = subst (IsCountOf h.ready) (sym (held_in-skipped is_ready rows n)) k.ready;
  waiting = subst (IsCountOf h.waiting) (sym (held_in-skipped is_waiting rows n)) k.waiting;
})
skipped_held h rows new n (Err x) e f k = subst (AreHeldIn h) (sym f) k

skipped_front : (nodes : NodesView) (n : ℕ) (front : List Front) → AreKept nodes front → AreKept (skipping n nodes) front
skipped_front nodes n front k = record {
  tree = record { read = k.tree.read; root = k.tree.root; stands = table_skipped nodes n k.tree.read k.tree.root k.tree.stands };
  led = next_same nodes.rows (nodes.rows ++ no_rows n) nodes.first None front (λ m. row_at-skipped nodes.rows n m) k.led;
}

pub skipped_kept : {A E : Type 0} (nodes : NodesView) (rows : Rows) (n : ℕ) (front : List Front) (r : Result A E) → OnOk r (rows ≡ nodes.rows ++ no_rows n)
    → OnErr r (rows ≡ nodes.rows) → AreKept nodes front → AreKept (record { rows = rows; first = nodes.first; live = nodes.live; spare = nodes.spare }) front
skipped_kept nodes rows n front (Ok x) e f k =
    subst (λ (rs : Rows). AreKept (record { rows = rs; first = nodes.first; live = nodes.live; spare = nodes.spare }) front) (sym e) (skipped_front nodes n front k)
skipped_kept nodes rows n front (Err x) e f k =
    subst (λ (rs : Rows). AreKept (record { rows = rs; first = nodes.first; live = nodes.live; spare = nodes.spare }) front) (sym f) k
