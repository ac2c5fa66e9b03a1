-- A node while it goes, from the right: each step, and the end.
use Rattle.std.proofs.Common.{◌≡◌, ◌≢◌, ℕ, ◌+◌, ◌-◌, ◌<◌, ◌≤◌, ◌==◌, List, [], ◌∷◌, Option, Some, None}
use Rattle.std.proofs.Common.{refl, sym, ap, ◌∙◌, arith, subst}
use Rattle.std.proofs.lemmas.List.{append-nil}
use Rattle.std.proofs.lemmas.Bool.{cases_eq}
use Rattle.std.proofs.Common.{inl, inr}
use Rattle.tree_model.specs.Nodes.{Kind, Node, Numbered, Alternatives, none, alternative, Status, Inner}
use Rattle.tree_model.specs.Nodes.{nodes_among, nodes_below}
use Rattle.tree_model.specs.Levels.{Level, put_left, plug, Place}
use Rattle.tree_model.specs.SoundTrees.{one_if, count_among, count_below}
use Rattle.tree_model.proofs.CountLemmas.{count_left, count_around, count-put, count_plug, one_if-same, one_if-other}
use Rattle.tree_nodes.specs.Bodies.{Branching, Reading}
use Rattle.tree_nodes.specs.Rows.{AlternativeCell, StoredNode, Rows, row_of_node}
use Rattle.tree_nodes.specs.RowViews.{with_cells}
use Rattle.tree_nodes.specs.TreeTables.{node_number, cells_of, IsNodeIn}
use Rattle.tree_nodes.proofs.PlaceLemmas.{left_cells, cells_of-put}
use Rattle.tree_nodes.proofs.DropLemmas.{all_left, done, on_path, nodes_done, done_within}

-- of a node its alternatives on the left are left
abbrev pub IsShort : Rows → Rows → ℕ → List (ℕ × Status) → Type 0
IsShort old rows n left = (r : StoredNode) × ((row_of_node old n ≡ Some r) × (row_of_node rows n ≡ Some (with_cells (left_cells left) r)))

abbrev pub AreShort : Rows → Rows → List Level → Type 0
AreShort old rows [] = Unit {0}
AreShort old rows (v ∷ path) = IsShort old rows v.number v.left × AreShort old rows path

-- the status is a node that goes: at this number everything to the right is gone, and on the path above
pub record IsGoing (old : Rows) (live : ℕ) (rows : Rows) (now : ℕ) (at : ℕ) (status : Status) : Type 0 where
  pub path : List Level
  pub kind : Kind
  pub left : List (ℕ × Status)
  pub right : Alternatives
  pub is : status ≡ plug path (Inner (Numbered at kind (put_left left right)))
  pub own : IsShort old rows at left
  pub above : AreShort old rows path
  pub gone : (m : ℕ) → 0 < count_among m right + done m path → row_of_node rows m ≡ None
  pub same : (m : ℕ) → count_among m right + done m path ≡ 0 → m ≢ at → on_path m path ≡ 0 → row_of_node rows m ≡ row_of_node old m
  pub counted : now ≡ live - (nodes_among right + nodes_done path)

-- all of it is still there
pub going_begins : (rows : Rows) (live : ℕ) (read : Reading) (way : Branching) (parent : Option Place) (node : Node)
    → IsNodeIn rows read way parent node → IsGoing rows live rows live (node_number node) (Inner node)
going_begins rows live read way parent (Numbered n kind others) h =
    let all = all_left others [] in
    let cells : cells_of others ≡ left_cells all.all = ap cells_of all.is ∙ (cells_of-put all.all none ∙ append-nil (left_cells all.all)) in
    let r : StoredNode = record { parent = parent; body = h.0; cells = cells_of others } in
    let now : row_of_node rows n ≡ Some (with_cells (left_cells all.all) r) = h.1.0 ∙ ap (λ (cs : List (ℕ × AlternativeCell)). Some (with_cells cs r)) cells in
    record {
      path = [];
      kind = kind;
      left = all.all;
      right = none;
      is = ap (λ (rest : Alternatives). Inner (Numbered n kind rest)) all.is;
      own = (r, (h.1.0, now));
      above = tt;
      gone = λ m l. absurd (omega (arith, l));
      same = λ m l ne on. refl;
      counted = omega arith;
    }

abbrev pub IsOnce : Status → Type 0
IsOnce status = (m : ℕ) → count_below m status ≤ 1

-- how often a number is at the node, on its left and right, and on the path
pub counted_once : (n : ℕ) (kind : Kind) (path : List Level) (left : List (ℕ × Status)) (right : Alternatives) (status : Status) → IsOnce status
    → status ≡ plug path (Inner (Numbered n kind (put_left left right))) → (m : ℕ)
    → count_around m path + (one_if (n == m) + (count_left m left + count_among m right)) ≤ 1
counted_once n kind path left right status once is m =
    let whole : count_below m (plug path (Inner (Numbered n kind (put_left left right)))) ≤ 1 = subst (λ (s : Status). count_below m s ≤ 1) is (once m) in
    let parts = count_plug m path (Inner (Numbered n kind (put_left left right))) in
    let here = count-put m left right in
    omega (arith, whole, parts, here)

-- the rows on a path are the same where the table has changed at no number of it
above_kept : (old rows new : Rows) (n : ℕ) (path : List Level) → ((m : ℕ) → m ≢ n → row_of_node new m ≡ row_of_node rows m) → on_path n path ≡ 0
    → AreShort old rows path → AreShort old new path
above_kept old rows new n [] same off h = tt
above_kept old rows new n (v ∷ path) same off h =
    let ne : v.number ≢ n = λ e. (let z = one_if-same n in let y : one_if (v.number == n) ≡ one_if (n == n) = ap (λ (k : ℕ). one_if (k == n)) e in omega (arith, off, z, y)) in
    ((h.0.0, (h.0.1.0, same v.number ne ∙ h.0.1.1)), above_kept old rows new n path same (omega (arith, off)) h.1)

module _ (old : Rows) (live : ℕ) (rows : Rows) (now : ℕ) (at : ℕ) (status : Status) (once : IsOnce status) (g : IsGoing old live rows now at status)
    (new : Rows) (changed : (m : ℕ) → m ≢ at → row_of_node new m ≡ row_of_node rows m) where
  once_here : (m : ℕ) → count_around m g.path + (one_if (at == m) + (count_left m g.left + count_among m g.right)) ≤ 1
  once_here = counted_once at g.kind g.path g.left g.right status once g.is

  -- an alternative without a node below it was taken off
  pub passed : (spent : ℕ) (there : Status) (left : List (ℕ × Status)) → g.left ≡ (spent, there) ∷ left
      → ((m : ℕ) → count_below m there ≡ 0) → nodes_below there ≡ 0
      → row_of_node new at ≡ Some (with_cells (left_cells left) g.own.0) → IsGoing old live new now at status
  passed spent there left lefts zero_count zero_nodes row = record {
    path = g.path;
    kind = g.kind;
    left = left;
    right = alternative spent there g.right;
    is = g.is ∙ ap (λ (l : List (ℕ × Status)). plug g.path (Inner (Numbered at g.kind (put_left l g.right)))) lefts;
    own = (g.own.0, (g.own.1.0, row));
    above = above_kept old rows new at g.path changed (let z = once_here at in let y = one_if-same at in let x = done_within at g.path in omega (arith, z, y, x)) g.above;
    gone = λ m l. (let z = zero_count m in
        let ne : m ≢ at = λ e. (let l' = subst (λ (k : ℕ). 0 < (count_below k there + count_among k g.right) + done k g.path) e l in
        let z' = zero_count at in let w = once_here at in let y = one_if-same at in let x = done_within at g.path in omega (arith, l', z', w, y, x)) in
        changed m ne ∙ g.gone m (omega (arith, l, z)));
    same = λ m l ne on. (let z = zero_count m in changed m ne ∙ g.same m (omega (arith, l, z)) ne on);
    counted = let c = g.counted in omega (arith, c, zero_nodes);
  }

  -- an alternative was taken off, and the node below it is next
  pub entered : (spent below : ℕ) (kind : Kind) (others : Alternatives) (left : List (ℕ × Status)) → g.left ≡ (spent, Inner (Numbered below kind others)) ∷ left
      → (r : StoredNode) → row_of_node old below ≡ Some r → r.cells ≡ cells_of others
      → row_of_node new at ≡ Some (with_cells (left_cells left) g.own.0) → IsGoing old live new now below status
  entered spent below kind others left lefts r there cells row =
      let v : Level = record { number = at; kind = g.kind; left = left; spent = spent; right = g.right } in
      let all = all_left others [] in
      let all_cells : cells_of others ≡ left_cells all.all = ap cells_of all.is ∙ (cells_of-put all.all none ∙ append-nil (left_cells all.all)) in
      let at_once : (m : ℕ) → count_around m g.path + (one_if (at == m) + (((one_if (below == m) + count_among m others) + count_left m left) + count_among m g.right)) ≤ 1 =
      (λ m. subst (λ (l : List (ℕ × Status)). count_around m g.path + (one_if (at == m) + (count_left m l + count_among m g.right)) ≤ 1) lefts (once_here m)) in
      let own_one = one_if-same below in
      let at_below = at_once below in
      let below_path = done_within below g.path in
      let apart : below ≢ at = (λ e. (let z = one_if-same at in let y : one_if (at == below) ≡ one_if (at == at) = ap (λ (k : ℕ). one_if (at == k)) e in omega (arith, z, y, own_one, at_below))) in
      let still : row_of_node new below ≡ row_of_node old below = changed below apart ∙ g.same below (omega (arith, own_one, at_below, below_path)) apart (omega (arith, own_one, at_below, below_path)) in
      record {
        path = v ∷ g.path;
        kind = kind;
        left = all.all;
        right = none;
        is = (g.is ∙ ap (λ (l : List (ℕ × Status)). plug g.path (Inner (Numbered at g.kind (put_left l g.right)))) lefts)
            ∙ ap (λ (rest : Alternatives). plug (v ∷ g.path) (Inner (Numbered below kind rest))) all.is;
        own = (r, (there, (still ∙ there) ∙ ap (λ (cs : List (ℕ × AlternativeCell)). Some (with_cells cs r)) (cells ∙ all_cells)));
        above = (
          (g.own.0, (g.own.1.0, row)),
          above_kept old rows new at g.path changed (let z = once_here at in let y = one_if-same at in let x = done_within at g.path in omega (arith, z, y, x)) g.above,
        );
        gone = λ m l. (let ne : m ≢ at = λ e. (let l' = subst (λ (k : ℕ). 0 < 0 + (count_among k g.right + done k g.path)) e l in
            let w = once_here at in let y = one_if-same at in let x = done_within at g.path in omega (arith, l', w, y, x)) in
            changed m ne ∙ g.gone m (omega (arith, l)));
        same = λ m l ne on. (let off : m ≢ at = λ e. (let on' = subst (λ (k : ℕ). one_if (at == k) + on_path k g.path ≡ 0) e on in let y = one_if-same at in omega (arith, on', y)) in
            changed m off ∙ g.same m (omega (arith, l)) off (omega (arith, on)));
        counted = let c = g.counted in omega (arith, c);
      }

  -- a node without alternatives was taken out, and the one above it is next
  pub left_behind : (v : Level) (path : List Level) → g.path ≡ v ∷ path → g.left ≡ [] → row_of_node new at ≡ None → IsGoing old live new (now - 1) v.number status
  left_behind v path paths lefts row =
      let gone_node : Node = Numbered at g.kind (put_left g.left g.right) in
      let counts : (m : ℕ) → count_among m (put_left g.left g.right) ≡ count_among m g.right = (λ m. let z = count-put m g.left g.right in
      let y : count_left m g.left ≡ 0 = ap (count_left m) lefts in omega (arith, z, y)) in
      let nodes : nodes_among (put_left g.left g.right) ≡ nodes_among g.right = ap (λ (l : List (ℕ × Status)). nodes_among (put_left l g.right)) lefts in
      let shorts : AreShort old rows (v ∷ path) = subst (AreShort old rows) paths g.above in
      let dones : (m : ℕ) → done m g.path ≡ count_among m v.right + done m path = (λ m. ap (done m) paths) in
      let ons : (m : ℕ) → on_path m g.path ≡ one_if (v.number == m) + on_path m path = (λ m. ap (on_path m) paths) in
      let kept : AreShort old new (v ∷ path) = above_kept old rows new at (v ∷ path) changed
      (let z = once_here at in let y = one_if-same at in let x = done_within at g.path in let w = ons at in omega (arith, z, y, x, w)) shorts in
      record {
        path = path;
        kind = v.kind;
        left = v.left;
        right = alternative v.spent (Inner gone_node) v.right;
        is = g.is ∙ ap (λ (p : List Level). plug p (Inner gone_node)) paths;
        own = kept.0;
        above = kept.1;
        gone = λ m l. elim (cases_eq m at) [
          | inl e ↦ ap (row_of_node new) e ∙ row
          | inr ne ↦ changed m ne ∙ g.gone m (let z = counts m in let y = dones m in let x = one_if-other at m (λ e. ne (sym e)) in omega (arith, l, z, y, x))
        ];
        same = λ m l ne on. (let off : m ≢ at = (λ e. (let l' = subst (λ (k : ℕ). ((one_if (at == k) + count_among k (put_left g.left g.right)) + count_among k v.right) + done k path ≡ 0) e l in
            let y = one_if-same at in omega (arith, l', y))) in
            let z = counts m in let y = dones m in let x = ons m in
            let w : one_if (v.number == m) ≡ 0 = one_if-other v.number m (λ e. ne (sym e)) in
            changed m off ∙ g.same m (omega (arith, l, z, y)) off (omega (arith, on, x, w)));
        counted = let c = g.counted in let d : nodes_done g.path ≡ nodes_among v.right + nodes_done path = ap nodes_done paths in omega (arith, c, d, nodes);
      }
