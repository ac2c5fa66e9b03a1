-- A node goes step by step.
use Rattle.std.proofs.Common.{◌≡◌, ◌≢◌, ℕ, ◌+◌, ◌-◌, ◌<◌, ◌==◌, Bool, true, false, cond, List, [], ◌∷◌, ◌++◌, Option, Some, None}
use Rattle.std.proofs.Common.{refl, sym, ap, ◌∙◌, arith, subst}
use Rattle.std.proofs.Common.{inl, inr}
use Rattle.std.proofs.lemmas.Bool.{cases_eq}
use Rattle.tree_model.specs.declared.places.AltRef.{AltRef}
use Rattle.tree_model.specs.EventViews.{place_view}
use Rattle.tree_model.specs.Nodes.{Node, Numbered, Status, Pending, Inner, Closed}
use Rattle.tree_model.specs.Nodes.{nodes_in, nodes_among, nodes_below}
use Rattle.tree_model.specs.Levels.{Level, put_left, plug, Place}
use Rattle.tree_model.specs.SoundTrees.{one_if, count_in, count_among, count_below}
use Rattle.tree_model.proofs.CountLemmas.{count_left, count-put, one_if-same, one_if-other}
use Rattle.tree_nodes.specs.declared.row.Shortened.{Shortened}
use Rattle.tree_nodes.specs.declared.row.Shortened.TheVariants as shortened
use Rattle.tree_nodes.specs.Bodies.{Branching, Reading}
use Rattle.tree_nodes.specs.Rows.{AlternativeCell, StoredNode, Rows, row_of_node}
use Rattle.tree_nodes.specs.RowViews.{parent_view, with_cells, inner_of, IsShorter, IsGone, IsShortened}
use Rattle.tree_nodes.specs.TreeTables.{node_number, cell_of, cells_of, IsNodeIn, IsIn}
use Rattle.tree_nodes.specs.Drops.{next_of, live_after, IsDropped}
use Rattle.tree_nodes.proofs.PlaceLemmas.{left_cells}
use Rattle.tree_nodes.proofs.DropLemmas.{snoc_same, snoc_some, above_from, inside, done, on_path, nodes_done, done_within, outermost}
use Rattle.tree_nodes.proofs.GoingLemmas.{IsGoing, IsOnce, passed, entered, left_behind, counted_once}

no_left : (left : List (ℕ × Status)) → left_cells left ≡ [] → left ≡ []
no_left [] e = refl
no_left (a ∷ left) e = absurd (snoc_some (left_cells left) (a.0, cell_of a.1) e)

abbrev node_or : Option Place → ℕ
node_or None = 0
node_or (Some a) = a.node

abbrev number_or : Status → ℕ
number_or (Inner node) = node_number node
number_or (Pending hold entry) = 0
number_or (Closed credit) = 0

module _ (old : Rows) (live : ℕ) (rows : Rows) (now : ℕ) (at top : ℕ) (node : Node) (once : IsOnce (Inner node)) (g : IsGoing old live rows now at (Inner node))
    (read : Reading) (way : Branching) (parent : Option Place) (placed : IsNodeIn old read way parent node) (is_top : node_number node ≡ top)
    (new : Rows) (changed : (m : ℕ) → m ≢ at → row_of_node new m ≡ row_of_node rows m) where
  -- the row of the current node
  own_parent : g.own.0.parent ≡ above_from parent g.path
  own_parent =
      let k = inside old read way parent g.path (Inner (Numbered at g.kind (put_left g.left g.right))) (subst (IsIn old read way parent) g.is placed) in
      let same : Some g.own.0 ≡ Some (record { parent = above_from parent g.path; body = k.inside.0; cells = cells_of (put_left g.left g.right) }) = sym g.own.1.0 ∙ k.inside.1.0 in
      ap parent_of same
    where
      parent_of : Option StoredNode → Option Place
      parent_of None = None
      parent_of (Some r) = r.parent

  gone_row : (p : Option AltRef) → IsShortened (row_of_node rows at) (row_of_node new at) (shortened.Row p) → IsGone (with_cells (left_cells g.left) g.own.0) (row_of_node new at) p
  gone_row p h = subst (λ (o : Option StoredNode). IsShortened o (row_of_node new at) (shortened.Row p)) g.own.1.1 h

  shorter_row : (p : Option ℕ) → IsShortened (row_of_node rows at) (row_of_node new at) (shortened.Alternative p) → IsShorter (with_cells (left_cells g.left) g.own.0) (row_of_node new at) p
  shorter_row p h = subst (λ (o : Option StoredNode). IsShortened o (row_of_node new at) (shortened.Alternative p)) g.own.1.1 h

  top_at : g.path ≡ [] → at ≡ top
  top_at e =
      let h : Inner node ≡ plug [] (Inner (Numbered at g.kind (put_left g.left g.right))) = g.is ∙ ap (λ (p : List Level). plug p (Inner (Numbered at g.kind (put_left g.left g.right)))) e in
      sym (ap number_or h) ∙ is_top

  -- on to the node above
  upward : (p : AltRef) (next : ℕ) → IsGone (with_cells (left_cells g.left) g.own.0) (row_of_node new at) (Some p) → at ≢ top → next ≡ p.node
      → IsGoing old live new (now - 1) next (Inner node)
  upward p next h ne e = by_path g.path refl
    where
      by_path : (path : List Level) → g.path ≡ path → IsGoing old live new (now - 1) next (Inner node)
      by_path [] paths = absurd (ne (top_at paths))
      by_path (v ∷ path) paths =
          let parents : Some (place_view p) ≡ above_from parent (v ∷ path) = h.parent ∙ (own_parent ∙ ap (above_from parent) paths) in
          let nodes : p.node ≡ v.number = ap node_or parents in
          subst (λ (n : ℕ). IsGoing old live new (now - 1) n (Inner node)) (sym (e ∙ nodes))
          (left_behind old live rows now at (Inner node) once g new changed v path paths (no_left g.left h.were) h.are)

  -- on at the same node, or below
  onward : (p : Option ℕ) (next : ℕ) → IsShorter (with_cells (left_cells g.left) g.own.0) (row_of_node new at) p
      → Some next ≡ next_of at top (shortened.Alternative p) → IsGoing old live new now next (Inner node)
  onward p next h e = by_left g.left refl
    where
      by_status : (spent : ℕ) (there : Status) (left : List (ℕ × Status)) → g.left ≡ (spent, there) ∷ left → p ≡ inner_of (cell_of there)
          → row_of_node new at ≡ Some (with_cells (left_cells left) g.own.0) → IsGoing old live new now next (Inner node)
      by_status spent (Pending hold entry) left lefts inner row =
          let here : Some next ≡ Some at = e ∙ ap (λ (o : Option ℕ). next_of at top (shortened.Alternative o)) inner in
          subst (λ (n : ℕ). IsGoing old live new now n (Inner node)) (sym (cc here))
          (passed old live rows now at (Inner node) once g new changed spent (Pending hold entry) left lefts (λ m. refl) refl row)
      by_status spent (Closed credit) left lefts inner row =
          let here : Some next ≡ Some at = e ∙ ap (λ (o : Option ℕ). next_of at top (shortened.Alternative o)) inner in
          subst (λ (n : ℕ). IsGoing old live new now n (Inner node)) (sym (cc here))
          (passed old live rows now at (Inner node) once g new changed spent (Closed credit) left lefts (λ m. refl) refl row)
      by_status spent (Inner (Numbered below kind others)) left lefts inner row =
          let here : Some next ≡ Some below = e ∙ ap (λ (o : Option ℕ). next_of at top (shortened.Alternative o)) inner in
          let v : Level = record { number = at; kind = g.kind; left = left; spent = spent; right = g.right } in
          let whole : Inner node ≡ plug (v ∷ g.path) (Inner (Numbered below kind others)) = g.is
          ∙ ap (λ (l : List (ℕ × Status)). plug g.path (Inner (Numbered at g.kind (put_left l g.right)))) lefts in
          let k = inside old read way parent (v ∷ g.path) (Inner (Numbered below kind others)) (subst (IsIn old read way parent) whole placed) in
          subst (λ (n : ℕ). IsGoing old live new now n (Inner node)) (sym (cc here))
          (entered old live rows now at (Inner node) once g new changed spent below kind others left lefts
          (record { parent = above_from parent (v ∷ g.path); body = k.inside.0; cells = cells_of others }) k.inside.1.0 refl row)

      by_left : (left : List (ℕ × Status)) → g.left ≡ left → IsGoing old live new now next (Inner node)
      by_left [] lefts = absurd (snoc_some h.cells h.last (sym (ap left_cells (sym lefts) ∙ h.were)))
      by_left (a ∷ left) lefts =
          let snoc : left_cells left ++ (a.0, cell_of a.1) ∷ [] ≡ h.cells ++ h.last ∷ [] = ap left_cells (sym lefts) ∙ h.were in
          let parts = snoc_same (left_cells left) h.cells (a.0, cell_of a.1) h.last snoc in
          by_status a.0 a.1 left lefts (h.inner ∙ ap (λ (x : ℕ × AlternativeCell). inner_of x.1) (sym parts.1))
          (h.are ∙ ap (λ (cs : List (ℕ × AlternativeCell)). Some (with_cells cs g.own.0)) (sym parts.0))

  by_test : (b : Bool) → (at == top) ≡ b → (p : AltRef) (next : ℕ) → IsGone (with_cells (left_cells g.left) g.own.0) (row_of_node new at) (Some p)
      → Some next ≡ cond b None (Some p.node) → IsGoing old live new (now - 1) next (Inner node)
  by_test true t p next h e = absurd (cc e)
  by_test false t p next h e = upward p next h (λ i. (let z : (at == at) ≡ false = ap (λ (k : ℕ). at == k) i ∙ t in absurd (grind arith))) (cc e)

  pub stepped : (s : Shortened) (left next : ℕ) → IsShortened (row_of_node rows at) (row_of_node new at) s → Some next ≡ next_of at top s → left ≡ live_after now s
      → IsGoing old live new left next (Inner node)
  stepped shortened.Nothing left next h e l = absurd (cc e)
  stepped (shortened.Row None) left next h e l = absurd (cc e)
  stepped (shortened.Row (Some p)) left next h e l = subst (λ (n : ℕ). IsGoing old live new n next (Inner node)) (sym l)
      (by_test (at == top) refl p next (gone_row (Some p) h) e)
  stepped (shortened.Alternative p) left next h e l = subst (λ (n : ℕ). IsGoing old live new n next (Inner node)) (sym l)
      (onward p next (shorter_row p h) e)

  -- the node itself has gone
  whole_gone : g.path ≡ [] → left_cells g.left ≡ [] → row_of_node new at ≡ None → IsDropped old live new (now - 1) node
  whole_gone paths lefts row =
      let h : Inner node ≡ Inner (Numbered at g.kind (put_left g.left g.right)) = g.is ∙ ap (λ (p : List Level). plug p (Inner (Numbered at g.kind (put_left g.left g.right)))) paths in
      let none_left = no_left g.left lefts in
      let counts : (m : ℕ) → count_in m node ≡ one_if (at == m) + count_among m g.right = (λ m.
      let a : count_in m node ≡ one_if (at == m) + count_among m (put_left g.left g.right) = ap (count_below m) h in
      let b = count-put m g.left g.right in
      let c : count_left m g.left ≡ 0 = ap (count_left m) none_left in omega (arith, a, b, c)) in
      let nodes : nodes_in node ≡ 1 + nodes_among g.right = ap nodes_below h ∙ ap (λ (l : List (ℕ × Status)). 1 + nodes_among (put_left l g.right)) none_left in
      let dones : (m : ℕ) → done m g.path ≡ 0 = (λ m. ap (done m) paths) in
      record {
        gone = λ m l. elim (cases_eq m at) [
          | inl e ↦ ap (row_of_node new) e ∙ row
          | inr ne ↦ changed m ne ∙ g.gone m (let a = counts m in let b = one_if-other at m (λ e. ne (sym e)) in omega (arith, l, a, b))
        ];
        same = λ m l. (let a = counts m in let d = dones m in
            let ne : m ≢ at = (λ e. (let a' = counts at in let l' = subst (λ (k : ℕ). count_in k node ≡ 0) e l in let b = one_if-same at in omega (arith, a', l', b))) in
            changed m ne ∙ g.same m (omega (arith, l, a, d)) ne (ap (on_path m) paths));
        counted = let c = g.counted in let d : nodes_done g.path ≡ 0 = ap nodes_done paths in omega (arith, c, d, nodes);
      }

  -- only the outermost node ends it
  at_end : at ≡ top → g.path ≡ []
  at_end e = by_path g.path refl
    where
      by_path : (path : List Level) → g.path ≡ path → g.path ≡ []
      by_path [] paths = paths
      by_path (v ∷ path) paths =
          let here : Inner node ≡ plug (v ∷ path) (Inner (Numbered at g.kind (put_left g.left g.right))) = g.is ∙ ap (λ (p : List Level). plug p (Inner (Numbered at g.kind (put_left g.left g.right)))) paths in
          let on = outermost v path (Inner (Numbered at g.kind (put_left g.left g.right))) node here in
          let on_at : 0 < on_path at (v ∷ path) = subst (λ (k : ℕ). 0 < on_path k (v ∷ path)) (is_top ∙ sym e) on in
          let all = counted_once at g.kind g.path g.left g.right (Inner node) once g.is at in
          let within = done_within at g.path in
          let same : on_path at g.path ≡ on_path at (v ∷ path) = ap (on_path at) paths in
          let one = one_if-same at in
          absurd (omega (arith, on_at, all, within, same, one))

  no_parent : parent_view None ≡ g.own.0.parent → g.path ≡ []
  no_parent e = by_path g.path refl
    where
      by_path : (path : List Level) → g.path ≡ path → g.path ≡ []
      by_path [] paths = paths
      by_path (v ∷ path) paths = absurd (let z : None ≡ above_from parent (v ∷ path) = e ∙ (own_parent ∙ ap (above_from parent) paths) in cc z)

  end_test : (b : Bool) → (at == top) ≡ b → (p : AltRef) → None ≡ cond b None (Some p.node) → g.path ≡ []
  end_test true t p e = at_end (grind arith)
  end_test false t p e = absurd (cc e)

  pub ended : (s : Shortened) (left : ℕ) → IsShortened (row_of_node rows at) (row_of_node new at) s → None ≡ next_of at top s → left ≡ live_after now s
      → IsDropped old live new left node
  ended shortened.Nothing left h e l = absurd (subst (λ (o : Option StoredNode). IsShortened o (row_of_node new at) shortened.Nothing) g.own.1.1 h)
  ended (shortened.Row None) left h e l = let k = gone_row None h in
      subst (λ (n : ℕ). IsDropped old live new n node) (sym l) (whole_gone (no_parent k.parent) k.were k.are)
  ended (shortened.Row (Some p)) left h e l = let k = gone_row (Some p) h in
      subst (λ (n : ℕ). IsDropped old live new n node) (sym l) (whole_gone (end_test (at == top) refl p e) k.were k.are)
  ended (shortened.Alternative None) left h e l = absurd (cc e)
  ended (shortened.Alternative (Some below)) left h e l = absurd (cc e)
