-- Where a number is in the tree.
use Rattle.std.proofs.Common.{◌≡◌, ℕ, zero, suc, ◌+◌, ◌<◌, List, [], ◌∷◌, ◌++◌, length, Option, Some, None, refl, sym, ap, ◌∙◌, arith}
use Rattle.std.proofs.Common.{subst, inl, inr}
use Rattle.std.specs.Prelude.{slice_get}
use Rattle.std.proofs.lemmas.Bool.{cases_lt, cases_eq}
use Rattle.std.proofs.lemmas.Option.{slice_get_within}
use Rattle.tree_model.specs.Nodes.{Kind, Numbered, Alternatives, none, alternative, Status, Pending, Inner, Closed}
use Rattle.tree_model.specs.Levels.{Level, put_left, level_node, plug, Place, place_at}
use Rattle.tree_model.specs.SoundTrees.{count_among, count_below}
use Rattle.tree_model.proofs.CountLemmas.{one_if-other}
use Rattle.tree_nodes.specs.Bodies.{Reading}
use Rattle.tree_nodes.specs.Rows.{AlternativeCell, StoredNode, row_of_node, alternatives_at, cell_at}
use Rattle.tree_nodes.specs.TreeTables.{cells_of, IsIn, NodesView, IsTableOf}
use Rattle.tree_nodes.proofs.PlaceLemmas.{taken_out}

-- a status is a node of this number in a context
pub record IsFound (n : ℕ) (status : Status) : Type 0 where
  pub up : List Level
  pub kind : Kind
  pub alternatives : Alternatives
  pub is : status ≡ plug up (Inner (Numbered n kind alternatives))

plug-append : (levels more : List Level) (status : Status) → plug (levels ++ more) status ≡ plug more (plug levels status)
plug-append [] more status = refl
plug-append (v ∷ levels) more status = plug-append levels more (Inner (level_node v status))

found_below : (n : ℕ) (v : Level) (status : Status) → IsFound n status → IsFound n (Inner (level_node v status))
found_below n v status f = record {
  up = f.up ++ v ∷ [];
  kind = f.kind;
  alternatives = f.alternatives;
  is = ap (λ (s : Status). Inner (level_node v s)) f.is ∙ sym (plug-append f.up (v ∷ []) (Inner (Numbered n f.kind f.alternatives)));
}

mutual
  pub found : (n : ℕ) (status : Status) → 0 < count_below n status → IsFound n status
  found n (Pending hold e) l = absurd (omega (arith, l))
  found n (Closed c) l = absurd (omega (arith, l))
  found n (Inner (Numbered m kind alternatives)) l =
      elim (cases_eq m n) [
        | inl e ↦ record { up = []; kind = kind; alternatives = alternatives; is = ap (λ k. Inner (Numbered k kind alternatives)) e }
        | inr ne ↦ found_among n m kind [] alternatives (let z = one_if-other m n ne in omega (arith, l, z))
      ]

  found_among : (n m : ℕ) (kind : Kind) (left : List (ℕ × Status)) (others : Alternatives) → 0 < count_among n others
      → IsFound n (Inner (Numbered m kind (put_left left others)))
  found_among n m kind left none l = absurd (omega (arith, l))
  found_among n m kind left (alternative spent status others) l =
      elim (cases_lt 0 (count_below n status)) [
        | inl here ↦ found_below n (record { number = m; kind = kind; left = left; spent = spent; right = others }) status (found n status here)
        | inr not ↦ found_among n m kind ((spent, status) ∷ left) others (omega (arith, l, not))
      ]

-- alternatives as they are round the one with an index
pub record IsSplit (others : Alternatives) (left : List (ℕ × Status)) (i : ℕ) : Type 0 where
  pub before : List (ℕ × Status)
  pub spent : ℕ
  pub status : Status
  pub right : Alternatives
  pub is : put_left left others ≡ put_left before (alternative spent status right)
  pub index : length before ≡ length left + i

pub split_at : (others : Alternatives) (left : List (ℕ × Status)) (i : ℕ) → i < length (cells_of others) → IsSplit others left i
split_at none left i l = absurd (omega (arith, l))
split_at (alternative spent status others) left zero l = record {
  before = left;
  spent = spent;
  status = status;
  right = others;
  is = refl;
  index = omega arith;
}
split_at (alternative spent status others) left (suc i) l =
    let r = split_at others ((spent, status) ∷ left) i (omega (arith, l)) in
    let longer : length ((spent, status) ∷ left) ≡ suc (length left) = refl in
    record { before = r.before; spent = r.spent; status = r.status; right = r.right; is = r.is; index = let z = r.index in omega (arith, z, longer) }

-- a place of a tree
pub record IsAt (root : Status) (a : Place) : Type 0 where
  pub level : Level
  pub above : List Level
  pub status : Status
  pub is : root ≡ plug (level ∷ above) status
  pub at : place_at level ≡ a

pub present : (nodes : NodesView) (read : Reading) (root : Status) (n : ℕ) (r : StoredNode) → IsTableOf nodes read root → row_of_node nodes.rows n ≡ Some r
    → 0 < count_below n root
present nodes read root n r s e =
    elim (cases_lt 0 (count_below n root)) [ inl l ↦ l | inr not ↦ absurd (let z = s.others n (omega (arith, not)) in cc (z, e)) ]

at_row : (nodes : NodesView) (read : Reading) (root : Status) (n i : ℕ) (r : StoredNode) → IsTableOf nodes read root → row_of_node nodes.rows n ≡ Some r
    → i < length r.cells → IsAt root (record { node = n; index = i })
at_row nodes read root n i r s e l =
    let f = found n root (present nodes read root n r s e) in
    let placed : IsIn nodes.rows read [] None (plug f.up (Inner (Numbered n f.kind f.alternatives))) = subst (IsIn nodes.rows read [] None) f.is s.placed in
    let k = taken_out nodes.rows read f.up (Inner (Numbered n f.kind f.alternatives)) placed in
    let same : r.cells ≡ cells_of f.alternatives = cc (e, k.inside.1.0) in
    let p = split_at f.alternatives [] i (subst (λ (cells : List (ℕ × AlternativeCell)). i < length cells) same l) in
    let v : Level = record { number = n; kind = f.kind; left = p.before; spent = p.spent; right = p.right } in
    let index : length p.before ≡ i = (let z = p.index in omega (arith, z)) in
    record {
      level = v;
      above = f.up;
      status = p.status;
      is = f.is ∙ ap (λ (others : Alternatives). plug f.up (Inner (Numbered n f.kind others))) p.is;
      at = ap (λ (j : ℕ). record { node = n; index = j }) index;
    }

pub located : (nodes : NodesView) (read : Reading) (root : Status) (a : Place) (c : ℕ × AlternativeCell) → IsTableOf nodes read root
    → cell_at nodes.rows a ≡ Some c → IsAt root a
located nodes read root a c s e = at_option (row_of_node nodes.rows a.node) refl e
  where
    at_option : (o : Option StoredNode) → row_of_node nodes.rows a.node ≡ o → slice_get (alternatives_at o) a.index ≡ Some c → IsAt root a
    at_option None h k = absurd (cc k)
    at_option (Some r) h k = at_row nodes read root a.node a.index r s h (slice_get_within r.cells a.index c k)
