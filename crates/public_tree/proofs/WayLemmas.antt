-- The way down to a place is the same in a table to which a node was added: what it reads as tells ways apart.
use Rattle.std.proofs.Common.{◌≡◌, ℕ, suc, ◌+◌, ◌≤◌, ◌==◌, List, [], ◌∷◌, ◌++◌, length, Option, Some, None, refl, sym, ap, ◌∙◌, subst}
use Rattle.std.specs.Coded.{Coded, codes, coded_list, coded×, coded_ℕ}
use base.Stored.{Gv, gnil, gnum, gcons}
use Rattle.au_term.specs.Term.{Term, Terms, end, more, VarTerm, AtomTerm, IntTerm, Compound}
use Rattle.au_term.specs.PrefixOrder.{term_code}
use Rattle.au_term.specs.contracts.flat.FlatTerm as flat
use Rattle.au_term.specs.contracts.shared.Shared as shared
use Rattle.run_model.specs.Machine.Entries.{EndEntry}
use Rattle.tree_model.specs.Nodes.{Numbered, Alternatives, none, alternative, Status, Pending, Inner, Closed, nodes_among, nodes_below}
use Rattle.tree_model.specs.Levels.{Level, Place, place_at}
use Rattle.tree_model.specs.SoundTrees.{one_if, count_among, count_below}
use Rattle.tree_nodes.specs.Bodies.{Body, Branching, Reading}
use Rattle.tree_nodes.specs.Rows.{AlternativeCell, InnerCell, StoredNode, Rows, row_of_node}
use Rattle.tree_nodes.specs.TreeTables.{node_number, cell_of, cells_of, AreIn, IsIn, NodesView, IsRoot, IsTableOf, above_of}
use Rattle.tree_nodes.proofs.PlaceLemmas.{left_cells, AreRound}

-- there is one way down to a place
pub one_way : (rows : Rows) (read other : Reading) (up above : List Level) (way path : Branching) (c d : AlternativeCell) → above_of up ≡ above_of above
    → AreRound rows read up way c → AreRound rows other above path d → way ≡ path
one_way rows read other [] [] way path c d e h k = h ∙ sym k
one_way rows read other [] (w ∷ above) way path c d e h k = absurd (cc e)
one_way rows read other (v ∷ up) [] way path c d e h k = absurd (cc e)
one_way rows read other (v ∷ up) (w ∷ above) way path c d e h k =
    let at : place_at v ≡ place_at w = cc e in
    let row : Some (record { parent = above_of up; body = h.0; cells = left_cells v.left ++ (v.spent, c) ∷ cells_of v.right })
    ≡ Some (record { parent = above_of above; body = k.0; cells = left_cells w.left ++ (w.spent, d) ∷ cells_of w.right })
    = sym h.1.1.1.row ∙ (ap (λ (p : Place). row_of_node rows p.node) at ∙ k.1.1.1.row) in
    let same : ◌≡◌ {A = StoredNode} (record { parent = above_of up; body = h.0; cells = left_cells v.left ++ (v.spent, c) ∷ cells_of v.right })
    (record { parent = above_of above; body = k.0; cells = left_cells w.left ++ (w.spent, d) ∷ cells_of w.right }) = cc row in
    let upper : h.1.0 ≡ k.1.0
    = one_way rows read other up above h.1.0 k.1.0 (InnerCell v.number) (InnerCell w.number) (ap (λ (r : StoredNode). r.parent) same) h.1.1.2 k.1.1.2 in
    h.1.1.0
    ∙ (ap (λ (b : Body). (b, length v.left) ∷ h.1.0) (ap (λ (r : StoredNode). r.body) same)
    ∙ (ap (λ (i : ℕ). (k.0, i) ∷ h.1.0) (ap (λ (p : Place). p.index) at)
    ∙ (ap (λ (x : Branching). (k.0, length w.left) ∷ x) upper ∙ sym k.1.1.0)))

-- the same table stands for a tree of other entries, where its branches read otherwise
pub record Reread (rows : Rows) (read : Reading) (way : Branching) (parent : Option Place) (was : Status) : Type 0 where
  pub now : Status
  pub inside : IsIn rows read way parent now
  pub cell : cell_of now ≡ cell_of was
  pub count : (m : ℕ) → count_below m now ≡ count_below m was
  pub nodes : nodes_below now ≡ nodes_below was

record RereadAmong (rows : Rows) (read : Reading) (way : Branching) (body : Body) (n i : ℕ) (were : Alternatives) : Type 0 where
  now : Alternatives
  inside : AreIn rows read way body n i now
  cells : cells_of now ≡ cells_of were
  count : (m : ℕ) → count_among m now ≡ count_among m were
  nodes : nodes_among now ≡ nodes_among were

mutual
  reread : (rows : Rows) (read other : Reading) (way : Branching) (parent : Option Place) (was : Status) → IsIn rows read way parent was → Reread rows other way parent was
  reread rows read other way parent (Pending hold entry) h = record { now = Pending hold (other way); inside = refl; cell = refl; count = λ m. refl; nodes = refl }
  reread rows read other way parent (Closed credit) h = record { now = Closed credit; inside = tt; cell = refl; count = λ m. refl; nodes = refl }
  reread rows read other way parent (Inner (Numbered n kind others)) h =
      let k = reread_among rows read other way h.0 n 0 others h.1.3 in
      record {
        now = Inner (Numbered n kind k.now);
        inside = (
          h.0,
          (
            h.1.0 ∙ ap (λ (cells : List (ℕ × AlternativeCell)). Some (record { parent = parent; body = h.0; cells = cells })) (sym k.cells),
            h.1.1,
            h.1.2,
            k.inside,
          ),
        );
        cell = refl;
        count = λ m. ap (λ (x : ℕ). one_if (n == m) + x) (k.count m);
        nodes = ap (λ (x : ℕ). 1 + x) k.nodes;
      }

  reread_among : (rows : Rows) (read other : Reading) (way : Branching) (body : Body) (n i : ℕ) (were : Alternatives) → AreIn rows read way body n i were
      → RereadAmong rows other way body n i were
  reread_among rows read other way body n i none h = record { now = none; inside = tt; cells = refl; count = λ m. refl; nodes = refl }
  reread_among rows read other way body n i (alternative spent status others) h =
      let k = reread rows read other ((body, i) ∷ way) (Some (record { node = n; index = i })) status h.0 in
      let l = reread_among rows read other way body n (suc i) others h.1 in
      record {
        now = alternative spent k.now l.now;
        inside = (k.inside, l.inside);
        cells = ap (λ (c : AlternativeCell). (spent, c) ∷ cells_of l.now) k.cell ∙ ap (λ (cs : List (ℕ × AlternativeCell)). (spent, cell_of status) ∷ cs) l.cells;
        count = λ m. ap (λ (x : ℕ). x + count_among m l.now) (k.count m) ∙ ap (λ (x : ℕ). count_below m status + x) (l.count m);
        nodes = ap (λ (x : ℕ). x + nodes_among l.now) k.nodes ∙ ap (λ (x : ℕ). nodes_below status + x) l.nodes;
      }

root_by_cell : (first : Option ℕ) (now was : Status) → cell_of now ≡ cell_of was → IsRoot first was → IsRoot first now
root_by_cell first now (Pending hold entry) e r = absurd r
root_by_cell first (Pending hold entry) (Inner node) e r = absurd (cc e)
root_by_cell first (Closed credit) (Inner node) e r = absurd (cc e)
root_by_cell first (Inner other) (Inner node) e r = let same : node_number other ≡ node_number node = cc e in r ∙ ap Some (sym same)
root_by_cell first (Pending hold entry) (Closed credit) e r = absurd (cc e)
root_by_cell first (Closed other) (Closed credit) e r = r
root_by_cell first (Inner node) (Closed credit) e r = absurd (cc e)

pub reread_table : (nodes : NodesView) (read other : Reading) (root : Status) → IsTableOf nodes read root → (now : Status) × IsTableOf nodes other now
reread_table nodes read other root s =
    let k = reread nodes.rows read other [] None root s.placed in (
      k.now,
      record {
        placed = k.inside;
        rooted = root_by_cell nodes.first k.now root k.cell s.rooted;
        distinct = λ n. subst (λ (x : ℕ). x ≤ 1) (sym (k.count n)) (s.distinct n);
        others = λ n e. s.others n (sym (k.count n) ∙ e);
        live = s.live ∙ sym k.nodes;
      },
    )

-- a reading that tells all ways apart
pub way_coded : Coded Branching
way_coded = coded_list (coded× (hlevel (codes, term_code, flat.the_row.coded, shared.the_row.coded)) coded_ℕ)

abbrev pub code_term : Gv → Term
code_term gnil = AtomTerm []
code_term (gnum n) = VarTerm n
code_term (gcons a b) = Compound [] (more (code_term a) (more (code_term b) end))

abbrev mutual
  term_code_of : Term → Gv
  term_code_of (VarTerm n) = gnum n
  term_code_of (IntTerm z) = gnil
  term_code_of (AtomTerm a) = gnil
  term_code_of (Compound f ts) = pair_of ts

  pair_of : Terms → Gv
  pair_of end = gnil
  pair_of (more t ts) = gcons (term_code_of t) (second_of ts)

  second_of : Terms → Gv
  second_of end = gnil
  second_of (more t ts) = term_code_of t

code_back : (g : Gv) → term_code_of (code_term g) ≡ g
code_back gnil = refl
code_back (gnum n) = refl
code_back (gcons a b) = ap (λ (x : Gv). gcons x (term_code_of (code_term b))) (code_back a) ∙ ap (gcons a) (code_back b)

abbrev pub telling : Reading
telling way = EndEntry (Some (code_term (way_coded.code way)))

pub told_apart : (way path : Branching) → telling way ≡ telling path → way ≡ path
told_apart way path e =
    let terms : code_term (way_coded.code way) ≡ code_term (way_coded.code path) = cc e in
    way_coded.inj way path (sym (code_back (way_coded.code way)) ∙ (ap term_code_of terms ∙ code_back (way_coded.code path)))
