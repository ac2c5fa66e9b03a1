-- Pruning, alternative by alternative and level by level.
use Rattle.std.proofs.Common.{◌≡◌, ℕ, suc, ◌+◌, ◌<◌, ◌≤◌, ◌==◌, Bool, true, false, cond, List, ◌∷◌, ◌++◌, length, Option, Some, None, refl, sym, ap, ◌∙◌, arith, subst, length-append}
use Rattle.std.proofs.lemmas.Option.{slice_get_within}
use Rattle.std.specs.Prelude.{IsSome}
use Rattle.tree_model.specs.Credits.{no_credit}
use Rattle.tree_model.specs.Nodes.{Numbered, Alternatives, none, alternative, Status, Inner, Closed}
use Rattle.tree_model.specs.Levels.{Level, put_left, level_node, plug, Place, place_at}
use Rattle.tree_model.specs.Pruning.{emptied, pruned}
use Rattle.tree_nodes.specs.Bodies.{Reading}
use Rattle.tree_nodes.specs.Rows.{AlternativeCell, ClosedCell, Rows, row_of_node, node_parent, alternatives_at, cell_at}
use Rattle.tree_nodes.specs.TreeTables.{cell_of, cells_of, NodesView, IsTableOf, Stand, above_of}
use Rattle.tree_nodes.specs.Changes.{SetsCell, KeepsNumbers}
use Rattle.tree_nodes.specs.Puts.{IsPlaceIn}
use Rattle.tree_nodes.specs.Folds.{IsAbove}
use Rattle.tree_nodes.proofs.CellLemmas.{some_within}
use Rattle.tree_nodes.proofs.PlaceLemmas.{left_cells, length-left_cells, cells_of-put, taken_out}
use Rattle.tree_nodes.proofs.LocateLemmas.{located}
use Rattle.tree_nodes.proofs.PutLemmas.{is_some_cell}
use Rattle.tree_nodes.proofs.WalkLemmas.{cells_beside, cell_here, parent_here, one_level_up, no_level_up}
use Rattle.prune_ops.specs.Prunes.{PrunesLevel, IsPruningAt, PrunesTo, IsPrunedUp, PrunesUp, if_within, within_scope}

pub prunes_begin : (nodes : NodesView) (a : Place) → PrunesTo nodes nodes a (a.index + 1)
prunes_begin nodes a read v up was e s = record {
  left = (v.spent, was) ∷ v.left;
  rest = v.right;
  stands = s;
  passed = (let z : length v.left ≡ a.index = ap (λ (p : Place). p.index) e in let y : length ((v.spent, was) ∷ v.left) ≡ suc (length v.left) = refl in omega (arith, z, y));
  same = refl;
}

-- how many alternatives the node has
width_at : (nodes : NodesView) (read : Reading) (v : Level) (up : List Level) (was : Status) (j : ℕ) (p : IsPruningAt nodes read v up was j)
    → length (alternatives_at (row_of_node nodes.rows v.number)) ≡ j + length (cells_of p.rest)
width_at nodes read v up was j p =
    let k = taken_out nodes.rows read up (Inner (Numbered v.number v.kind (put_left p.left p.rest))) p.stands.placed in
    let cells : alternatives_at (row_of_node nodes.rows v.number) ≡ left_cells p.left ++ cells_of p.rest = ap alternatives_at k.inside.1.0 ∙ cells_of-put p.left p.rest in
    let size : length (left_cells p.left ++ cells_of p.rest) ≡ length (left_cells p.left) + length (cells_of p.rest) = length-append (left_cells p.left) (cells_of p.rest) in
    let left = length-left_cells p.left in
    let whole : length (alternatives_at (row_of_node nodes.rows v.number)) ≡ length (left_cells p.left ++ cells_of p.rest) = ap length cells in
    let passed = p.passed in
    omega (arith, whole, size, left, passed)

width_emptied : (rest : Alternatives) → length (cells_of (emptied rest)) ≡ length (cells_of rest)
width_emptied none = refl
width_emptied (alternative spent status others) = ap suc (width_emptied others)

-- the width stays
pub same_width : (old nodes : NodesView) (read : Reading) (v : Level) (up : List Level) (was : Status) (j : ℕ) → IsTableOf old read (plug (v ∷ up) was)
    → (p : IsPruningAt nodes read v up was j) → j + length (cells_of p.rest) ≡ length (alternatives_at (row_of_node old.rows v.number))
same_width old nodes read v up was j s p =
    let a : length (cells_of (put_left p.left (emptied p.rest))) ≡ length (left_cells p.left) + length (cells_of (emptied p.rest))
    = ap length (cells_of-put p.left (emptied p.rest)) ∙ length-append (left_cells p.left) (cells_of (emptied p.rest)) in
    let b : length (cells_of (put_left v.left (alternative v.spent was (emptied v.right)))) ≡ length (left_cells v.left) + length (cells_of (alternative v.spent was (emptied v.right)))
    = ap length (cells_of-put v.left (alternative v.spent was (emptied v.right))) ∙ length-append (left_cells v.left) (cells_of (alternative v.spent was (emptied v.right))) in
    let same : length (cells_of (put_left p.left (emptied p.rest))) ≡ length (cells_of (put_left v.left (alternative v.spent was (emptied v.right))))
    = ap (λ (x : Alternatives). length (cells_of x)) p.same in
    let old_cells : length (alternatives_at (row_of_node old.rows v.number)) ≡ length (left_cells v.left) + length ((v.spent, cell_of was) ∷ cells_of v.right)
    = ap length (cells_beside old read v up was s) ∙ length-append (left_cells v.left) ((v.spent, cell_of was) ∷ cells_of v.right) in
    let c = width_emptied p.rest in
    let d = width_emptied v.right in
    let left = length-left_cells p.left in
    let passed = p.passed in
    omega (arith, a, b, same, old_cells, c, d, left, passed)

-- one alternative more
pub prunes_more : (old nodes new : NodesView) (a : Place) (j spent : ℕ) → PrunesTo old nodes a j → j < length (alternatives_at (row_of_node old.rows a.node))
    → ((there : ℕ) (cell : AlternativeCell) → cell_at nodes.rows (record { node = a.node; index = j }) ≡ Some (there, cell) → spent ≡ there)
    → SetsCell nodes new (record { node = a.node; index = j }) spent (ClosedCell no_credit) → PrunesTo old new a (j + 1)
prunes_more old nodes new a j spent p l same_spent h read v up was e s =
    let k = p read v up was e s in
    let node : v.number ≡ a.node = ap (λ (q : Place). q.node) e in
    let width = same_width old nodes read v up was j s k in
    let within : 0 < length (cells_of k.rest) = (let z : length (alternatives_at (row_of_node old.rows v.number)) ≡ length (alternatives_at (row_of_node old.rows a.node)) = ap (λ (n : ℕ). length (alternatives_at (row_of_node old.rows n))) node in omega (arith, l, width, z)) in
    by_rest k.left k.rest k.stands k.passed k.same within node
  where
    by_rest : (left : List (ℕ × Status)) (rest : Alternatives) → IsTableOf nodes read (plug up (Inner (Numbered v.number v.kind (put_left left rest))))
        → length left ≡ j → put_left left (emptied rest) ≡ put_left ((v.spent, was) ∷ v.left) (emptied v.right) → 0 < length (cells_of rest) → v.number ≡ a.node
        → IsPruningAt new read v up was (j + 1)
    by_rest left none st passed same within node = absurd (omega (arith, within))
    by_rest left (alternative sp there others) st passed same within node =
        let w : Level = record { number = v.number; kind = v.kind; left = left; spent = sp; right = others } in
        let place : place_at w ≡ record { node = a.node; index = j } = ap (λ (i : ℕ). record { node = v.number; index = i }) passed ∙ ap (λ (n : ℕ). record { node = n; index = j }) node in
        let spends : spent ≡ sp = same_spent sp (cell_of there) (ap (cell_at nodes.rows) (sym place) ∙ cell_here nodes read w up there st) in
        let closed = h read w up there place st in
        record {
          left = (sp, Closed no_credit) ∷ left;
          rest = others;
          stands = subst (λ (x : ℕ). IsTableOf new read (plug (record w { spent = x } ∷ up) (Closed no_credit))) spends closed;
          passed = (let y : length ((sp, Closed no_credit) ∷ left) ≡ suc (length left) = refl in omega (arith, passed, y));
          same = same;
        }

pub prunes_all : (old new : NodesView) (a : Place) (j : ℕ) → PrunesTo old new a j → length (alternatives_at (row_of_node old.rows a.node)) ≤ j → PrunesLevel old new a
prunes_all old new a j p l read v up was e s =
    let k = p read v up was e s in
    let node : v.number ≡ a.node = ap (λ (q : Place). q.node) e in
    let width = same_width old new read v up was j s k in
    let nothing : length (cells_of k.rest) ≡ 0 = (let z : length (alternatives_at (row_of_node old.rows v.number)) ≡ length (alternatives_at (row_of_node old.rows a.node)) = ap (λ (n : ℕ). length (alternatives_at (row_of_node old.rows n))) node in omega (arith, l, width, z)) in
    by_rest k.left k.rest k.stands k.same nothing
  where
    by_rest : (left : List (ℕ × Status)) (rest : Alternatives) → IsTableOf new read (plug up (Inner (Numbered v.number v.kind (put_left left rest))))
        → put_left left (emptied rest) ≡ put_left ((v.spent, was) ∷ v.left) (emptied v.right) → length (cells_of rest) ≡ 0
        → IsTableOf new read (plug (record v { right = emptied v.right } ∷ up) was)
    by_rest left none st same z = subst (λ (x : Alternatives). IsTableOf new read (plug up (Inner (Numbered v.number v.kind x)))) same st
    by_rest left (alternative sp there others) st same z = absurd (omega (arith, z))

-- the place is still there, and so are those to its right
pub place_stays : (old nodes : NodesView) (a : Place) (j i : ℕ) → Stand old → IsSome (cell_at old.rows a) → PrunesTo old nodes a j
    → i < length (alternatives_at (row_of_node old.rows a.node)) → IsSome (cell_at nodes.rows (record { node = a.node; index = i }))
place_stays old nodes a j i st there p l =
    let c = is_some_cell (cell_at old.rows a) there in
    let k = located old st.read st.root a c.0 st.stands c.1 in
    let s = subst (IsTableOf old st.read) k.is st.stands in
    let q = p st.read k.level k.above k.status k.at s in
    let width = width_at nodes st.read k.level k.above k.status j q in
    let same = same_width old nodes st.read k.level k.above k.status j s q in
    let node : k.level.number ≡ a.node = ap (λ (x : Place). x.node) k.at in
    let w : length (alternatives_at (row_of_node nodes.rows a.node)) ≡ length (alternatives_at (row_of_node nodes.rows k.level.number)) = ap (λ (n : ℕ). length (alternatives_at (row_of_node nodes.rows n))) (sym node) in
    let z : length (alternatives_at (row_of_node old.rows k.level.number)) ≡ length (alternatives_at (row_of_node old.rows a.node)) = ap (λ (n : ℕ). length (alternatives_at (row_of_node old.rows n))) node in
    some_within (alternatives_at (row_of_node nodes.rows a.node)) i (omega (arith, l, width, same, w, z))

pub within_some : (rows : Rows) (a : Place) → IsSome (cell_at rows a) → a.index < length (alternatives_at (row_of_node rows a.node))
within_some rows a h = let c = is_some_cell (cell_at rows a) h in slice_get_within (alternatives_at (row_of_node rows a.node)) a.index c.0 c.1

-- pruning begins, and goes on level by level
at_scope : (scope : ℕ) (v : Level) (up : List Level) → (v.number == scope) ≡ true → pruned scope (v ∷ up) ≡ v ∷ up
at_scope scope v up e = ap (λ (b : Bool). cond b (v ∷ up) (record v { right = emptied v.right } ∷ pruned scope up)) e

off_scope : (scope : ℕ) (v : Level) (up : List Level) → (v.number == scope) ≡ false → pruned scope (v ∷ up) ≡ record v { right = emptied v.right } ∷ pruned scope up
off_scope scope v up e = ap (λ (b : Bool). cond b (v ∷ up) (record v { right = emptied v.right } ∷ pruned scope up)) e

pub pruned_begin : (nodes : NodesView) (a : Place) (scope : ℕ) → PrunesUp nodes nodes a scope (within_scope scope (Some a))
pruned_begin nodes a scope read v up was e s = by_test (a.node == scope) refl
  where
    same_test : (v.number == scope) ≡ (a.node == scope)
    same_test = ap (λ (p : Place). p.node == scope) e

    by_test : (b : Bool) → (a.node == scope) ≡ b → IsPrunedUp nodes read v up was scope (if_within b a)
    by_test true t = subst (λ (ls : List Level). IsTableOf nodes read (plug ls was)) (sym (at_scope scope v up (same_test ∙ t))) s
    by_test false t = record { level = v; above = up; status = was; stands = s; at = e; below = same_test ∙ t; same = refl }

module _ (old new : NodesView) (read : Reading) (v : Level) (up : List Level) (was : Status) (scope : ℕ) (level : Level) (above : List Level) (status : Status)
    (here : IsTableOf new read (plug (record level { right = emptied level.right } ∷ above) status)) (below : (level.number == scope) ≡ false)
    (same : plug (pruned scope (v ∷ up)) was ≡ plug (pruned scope (level ∷ above)) status) where
  same_more : plug (pruned scope (v ∷ up)) was ≡ plug (pruned scope above) (Inner (level_node (record level { right = emptied level.right }) status))
  same_more = same ∙ ap (λ (ls : List Level). plug ls status) (off_scope scope level above below)

  by_test : (t : Bool) (q : Place) → (q.node == scope) ≡ t → above_of above ≡ Some q → IsPrunedUp new read v up was scope (if_within t q)
  by_test true q t z =
      let u = one_level_up level above q z in
      let whole : pruned scope above ≡ above = ap (pruned scope) u.is
      ∙ (at_scope scope u.level u.above (ap (λ (p : Place). p.node == scope) u.at ∙ t) ∙ sym u.is) in
      subst (IsTableOf new read) (sym (same_more ∙ ap (λ (ls : List Level). plug ls (Inner (level_node (record level { right = emptied level.right }) status))) whole)) here
  by_test false q t z =
      let u = one_level_up level above q z in
      record {
        level = u.level;
        above = u.above;
        status = Inner (level_node (record level { right = emptied level.right }) status);
        stands = subst (λ (ls : List Level). IsTableOf new read (plug ls (Inner (level_node (record level { right = emptied level.right }) status)))) u.is here;
        at = u.at;
        below = ap (λ (p : Place). p.node == scope) u.at ∙ t;
        same = same_more ∙ ap (λ (ls : List Level). plug (pruned scope ls) (Inner (level_node (record level { right = emptied level.right }) status))) u.is;
      }

  by_parent : (o : Option Place) → above_of above ≡ o → IsPrunedUp new read v up was scope (within_scope scope o)
  by_parent None z =
      let top = no_level_up above z in
      let whole : pruned scope above ≡ above = ap (pruned scope) top ∙ sym top in
      subst (IsTableOf new read) (sym (same_more ∙ ap (λ (ls : List Level). plug ls (Inner (level_node (record level { right = emptied level.right }) status))) whole)) here
  by_parent (Some q) z = by_test (q.node == scope) q refl z

pub pruned_more : (old nodes new : NodesView) (a : Place) (scope : ℕ) (b : Place) (parent : Option Place) → PrunesUp old nodes a scope (Some b)
    → PrunesLevel nodes new b → node_parent new.rows b.node ≡ Some parent → PrunesUp old new a scope (within_scope scope parent)
pruned_more old nodes new a scope b parent p h e read v up was at s =
    let k = p read v up was at s in
    let here = h read k.level k.above k.status k.at k.stands in
    by_parent old new read v up was scope k.level k.above k.status here k.below k.same parent
    (parent_here new read (record k.level { right = emptied k.level.right }) k.above k.status parent here
    (ap (λ (q : Place). node_parent new.rows q.node) k.at ∙ e))

pub place_below : (rows : Rows) (scope : ℕ) (parent : Option Place) (n : ℕ) → IsAbove rows parent n → IsPlaceIn rows (within_scope scope parent)
place_below rows scope None n h = tt
place_below rows scope (Some a) n h = by_bool (a.node == scope)
  where
    by_bool : (b : Bool) → IsPlaceIn rows (if_within b a)
    by_bool true = tt
    by_bool false = h.0

pub numbers_kept : (a b c : NodesView) → KeepsNumbers a b → KeepsNumbers b c → KeepsNumbers a c
numbers_kept a b c h k = record { length = k.length ∙ h.length; spare = k.spare ∙ h.spare }
