-- The front through each change of a table.
use Rattle.std.proofs.Common.{◌≡◌, ℕ, Bool, true, false, cond, List, [], ◌∷◌, ◌++◌, length, Option, Some, None}
use Rattle.std.proofs.Common.{refl, sym, ap, ◌∙◌, arith, subst, inl, inr}
use Rattle.std.specs.Prelude.{IsSome}
use Rattle.tree_model.specs.Nodes.{Numbered, Status, Pending, Inner, Closed, nodes_below}
use Rattle.tree_model.specs.Levels.{Place, place_at}
use Rattle.tree_nodes.specs.declared.front.Front.{Front}
use Rattle.tree_nodes.specs.Bodies.{Body}
use Rattle.tree_nodes.specs.Rows.{AlternativeCell, PendingCell, InnerCell, ClosedCell, StoredNode, Rows, row_of_node, cell_at}
use Rattle.tree_nodes.specs.RowViews.{new_row, with_state}
use Rattle.tree_nodes.specs.Gathering.{is_shut_at}
use Rattle.tree_nodes.specs.TreeTables.{IsRoot, NodesView, IsTableOf, Stand}
use Rattle.tree_nodes.specs.Changes.{Fits, CanHold, is_pending, root_after}
use Rattle.tree_nodes.specs.Puts.{IsStatePut, IsLinked}
use Rattle.tree_nodes.specs.Fronts.{AreNext, IsLastOf, IsNextDown, Retreats, IsBeyond, KeepsFront, AreKept}
use Rattle.tree_nodes.proofs.RowLemmas.{row_at_within}
use Rattle.tree_nodes.proofs.LocateLemmas.{located}
use Rattle.tree_nodes.proofs.PutLemmas.{put_stand, rows_left, is_some_cell}
use Rattle.tree_nodes.proofs.AddLemmas.{row_at-more}
use Rattle.tree_nodes.proofs.FrontLemmas.{some_row, IsChanged, are_kept, next-front, next-snoc, next_at_first}

put_changed : (old new : NodesView) (a : Place) (cell : ℕ × AlternativeCell) → Stand old → IsSome (cell_at old.rows a)
    → IsStatePut old.rows old.live new.rows new.live a cell → new.first ≡ old.first → IsChanged old.rows new.rows a cell
put_changed old new a cell st there p f =
    let c = is_some_cell (cell_at old.rows a) there in
    let k = located old st.read st.root a c.0 st.stands c.1 in
    let P : Place → Type 0 = λ b. IsStatePut old.rows old.live new.rows new.live b cell in
    let s = subst (IsTableOf old st.read) k.is st.stands in
    let q : IsStatePut old.rows old.live new.rows new.live (place_at k.level) cell = subst P (sym k.at) p in
    let left = rows_left old new st.read k.level k.above k.status cell s q f cell.1 refl in
    let node : k.level.number ≡ a.node = ap (λ (b : Place). b.node) k.at in
    let changed : IsChanged old.rows new.rows (place_at k.level) cell = record {
      here = λ x y. left k.level.number y ∙ q.replaced.row;
      same = λ m ne x y. left m y ∙ q.replaced.same m ne;
    } in
    subst (λ (b : Place). IsChanged old.rows new.rows b cell) k.at changed

pub put_kept : (old new : NodesView) (a : Place) (cell : ℕ × AlternativeCell) (limit : ℕ) (front left : List Front) → AreKept old front → IsSome (cell_at old.rows a)
    → IsStatePut old.rows old.live new.rows new.live a cell → new.first ≡ old.first → Fits (cell_at old.rows a) cell.1 → KeepsFront old.rows a cell.1 limit
    → Retreats new.rows limit front left → AreKept new left
put_kept old new a cell limit front left k there p f fit keeps r =
    let st = put_stand old new a cell k.tree there p f fit in
    let led : AreNext old.rows old.first None left = next-front old.rows old.first None left r.0.0 (subst (AreNext old.rows old.first None) r.0.1 k.led) in
    record {
      tree = st;
      led = (are_kept old new a cell limit k.tree st (put_changed old new a cell k.tree there p f) there keeps None left f led r.1).0;
    }

-- a node is added
pending_open : (o : Option (ℕ × AlternativeCell)) → is_pending o ≡ true → (IsSome o) × (is_shut_at o ≡ false)
pending_open None e = absurd (cc e)
pending_open (Some (n, PendingCell hold)) e = (refl, refl)
pending_open (Some (n, InnerCell m)) e = absurd (cc e)
pending_open (Some (n, ClosedCell credit)) e = absurd (cc e)

first_none : (nodes : NodesView) → Stand nodes → nodes.live ≡ 0 → nodes.first ≡ None
first_none nodes st e = by_root st.root st.stands.rooted (sym st.stands.live ∙ e)
  where
    by_root : (root : Status) → IsRoot nodes.first root → nodes_below root ≡ 0 → nodes.first ≡ None
    by_root (Pending hold entry) h z = absurd h
    by_root (Closed credit) h z = h
    by_root (Inner (Numbered n kind others)) h z = absurd (omega (arith, z))

no_front : (front past : List Front) → front ++ past ≡ [] → front ≡ []
no_front [] past e = refl
no_front (f ∷ front) past e = absurd (cc e)

old_row : (rows : Rows) (r : Option StoredNode) (m : ℕ) → IsSome (row_of_node rows m) → row_of_node (rows ++ r ∷ []) m ≡ row_of_node rows m
old_row rows r m there =
    let s = some_row (row_of_node rows m) there in
    let l = row_at_within rows m s.0 s.1 in
    row_at-more rows r m (λ e. omega (arith, l, e))

pub add_kept : (old new : NodesView) (parent : Option Place) (body : Body) (limit : ℕ) (front left : List Front) → AreKept old front → CanHold old parent
    → IsLinked (old.rows ++ Some (new_row parent body) ∷ []) new.rows parent (length old.rows) → new.first ≡ root_after old.first parent (length old.rows)
    → Stand new → Retreats new.rows limit front left → AreKept new left
add_kept old new None body limit front left k can linked f st r =
    let none = next_at_first old.rows old.first front (first_none old k.tree can) k.led in
    let empty : left ≡ [] = no_front left r.0.0 (sym r.0.1 ∙ none) in
    record { tree = st; led = subst (AreNext new.rows new.first None) (sym empty) tt }
add_kept old new (Some a) body limit front left k can linked f st r =
    let n = length old.rows in
    let led : AreNext old.rows old.first None left = next-front old.rows old.first None left r.0.0 (subst (AreNext old.rows old.first None) r.0.1 k.led) in
    let was = pending_open (cell_at old.rows a) can in
    let changed : IsChanged old.rows new.rows a (linked.spent, InnerCell n) = record {
      here = λ x y. linked.replaced.row ∙ ap (λ (o : Option StoredNode). with_state a.index (linked.spent, InnerCell n) o) (old_row old.rows (Some (new_row (Some a) body)) a.node x);
      same = λ m ne x y. linked.replaced.same m ne ∙ old_row old.rows (Some (new_row (Some a) body)) m x;
    } in
    let beyond : IsBeyond old.rows a (InnerCell n) = record {
      was = was.1;
      now = λ m there e. (let s = some_row (row_of_node old.rows m) there in let same : n ≡ m = cc e in let l = row_at_within old.rows m s.0 s.1 in omega (arith, same, l));
    } in
    record {
      tree = st;
      led = (are_kept old new a (linked.spent, InnerCell n) limit k.tree st changed was.0 (inr (inl beyond)) None left f led r.1).0;
    }

-- one node more, where there was memory for it
pub pushed_kept : (nodes : NodesView) (front new : List Front) (last : Option Front) (e : Front) (ok : Bool) → AreKept nodes front → IsLastOf front last
    → IsNextDown nodes.rows nodes.first last e → new ≡ cond ok (front ++ e ∷ []) front → AreKept nodes new
pushed_kept nodes front new last e true k l n is =
    record { tree = k.tree; led = subst (AreNext nodes.rows nodes.first None) (sym is) (next-snoc nodes.rows nodes.first front last e k.led l n) }
pushed_kept nodes front new last e false k l n is = record { tree = k.tree; led = subst (AreNext nodes.rows nodes.first None) (sym is) k.led }
