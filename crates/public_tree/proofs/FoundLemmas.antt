-- An alternative that is out to a worker, in the tree and in the table.
use Rattle.std.proofs.Common.{◌≡◌, ℕ, Bool, true, false, cond, List, [], ◌∷◌, ◌++◌, Option, Some, None, refl, sym, ap, ◌∙◌, subst, append_assoc}
use Rattle.std.specs.Prelude.{find, is_some, ◌&&◌}
use Rattle.au_term.proofs.LogicLemmas.{both}
use Rattle.tree_model.specs.Nodes.{Kind, Alternatives, alternative, Status, Pending, Inner, Closed}
use Rattle.tree_model.specs.Levels.{Level, put_left, level_node, plug, Place, same_place, place_at, Spot, place_of_spot, pending_in, pending_among, pending_below, pending_of}
use Rattle.tree_model.specs.Legality.{is_taken_by}
use Rattle.tree_nodes.specs.Bodies.{Reading}
use Rattle.tree_nodes.specs.Rows.{AlternativeCell, cell_at}
use Rattle.tree_nodes.specs.TreeTables.{cell_of, NodesView, IsTableOf}
use Rattle.tree_nodes.proofs.LocateLemmas.{IsAt, located}
use Rattle.tree_nodes.proofs.WalkLemmas.{cell_here, cell_at_place}
use Rattle.interleaving.proofs.AppendLemmas.{found}
use Rattle.interleaving.proofs.PluggedLemmas.{IsIn, all_in}
use Rattle.interleaving.proofs.UnchangedPlaceLemmas.{same_place-is, place_self}
use Rattle.public_tree.specs.PublicTrees.{is_taken_cell, is_taken_at}

-- what is pending at a place is among what is pending in the tree
record IsAmong (spots part : List Spot) : Type 0 where
  front : List Spot
  back : List Spot
  are : spots ≡ front ++ (part ++ back)

passed_left : (up : List Level) (n : ℕ) (kind : Kind) (left : List (ℕ × Status)) (others : Alternatives)
    → (front : List Spot) × (pending_among up n kind [] (put_left left others) ≡ front ++ pending_among up n kind left others)
passed_left up n kind [] others = ([], refl)
passed_left up n kind (a ∷ left) others =
    let h = passed_left up n kind left (alternative a.0 a.1 others) in
    let here = pending_below (record { number = n; kind = kind; left = left; spent = a.0; right = others }) up a.1 in
    (h.0 ++ here, h.1 ∙ sym (append_assoc h.0 here (pending_among up n kind (a ∷ left) others)))

in_node : (v : Level) (up : List Level) (status : Status) → IsAmong (pending_in up (level_node v status)) (pending_below v up status)
in_node v up status =
    let h = passed_left up v.number v.kind v.left (alternative v.spent status v.right) in
    record { front = h.0; back = pending_among up v.number v.kind ((v.spent, status) ∷ v.left) v.right; are = h.1 }

further : (spots part inner : List Spot) → IsAmong spots part → IsAmong part inner → IsAmong spots inner
further spots part inner h k = record {
  front = h.front ++ k.front;
  back = k.back ++ h.back;
  are = h.are
      ∙ (ap (λ (x : List Spot). h.front ++ (x ++ h.back)) k.are
      ∙ (ap (λ (x : List Spot). h.front ++ x) (append_assoc k.front (inner ++ k.back) h.back ∙ ap (λ (x : List Spot). k.front ++ x) (append_assoc inner k.back h.back))
      ∙ sym (append_assoc h.front k.front (inner ++ (k.back ++ h.back)))));
}

at_place : (v : Level) (up : List Level) (status : Status) → IsAmong (pending_of (plug (v ∷ up) status)) (pending_below v up status)
at_place v [] status = in_node v [] status
at_place v (u ∷ up) status = further (pending_of (plug (u ∷ up) (Inner (level_node v status)))) (pending_in (u ∷ up) (level_node v status))
    (pending_below v (u ∷ up) status) (at_place u up (Inner (level_node v status))) (in_node v (u ∷ up) status)

passing_found : (test : Spot → Bool) (front back : List Spot) (s : Spot) → test s ≡ true → is_some (find test (front ++ s ∷ back)) ≡ true
passing_found test [] back s e = ap (λ (b : Bool). is_some (cond b (Some s) (find test back))) e
passing_found test (x ∷ front) back s e = by_test (test x) (passing_found test front back s e)
  where
    by_test : (b : Bool) → is_some (find test (front ++ s ∷ back)) ≡ true → is_some (cond b (Some x) (find test (front ++ s ∷ back))) ≡ true
    by_test true h = refl
    by_test false h = h

-- the table says whether an alternative is out to a worker
module _ (nodes : NodesView) (w : ℕ) (a : Place) (read : Reading) (root : Status) (s : IsTableOf nodes read root) where
  abbrev test : Spot → Bool
  test r = is_taken_by w r.hold && same_place a (place_of_spot r)

  in_table : (r : Spot) → find test (pending_of root) ≡ Some r → is_taken_at w (cell_at nodes.rows a) ≡ true
  in_table r e =
      let f = found (IsIn root) test (pending_of root) r (all_in root) e in
      let parts = both (is_taken_by w r.hold) (same_place a (place_of_spot r)) f.passes in
      let at : a ≡ place_of_spot r = same_place-is a (place_of_spot r) parts.1 in
      let here = cell_here nodes read r.level r.above (Pending r.hold r.entry) (subst (IsTableOf nodes read) (sym f.holds) s) in
      ap (λ (p : Place). is_taken_at w (cell_at nodes.rows p)) at ∙ (ap (is_taken_at w) here ∙ parts.0)

  in_tree : (c : ℕ × AlternativeCell) → cell_at nodes.rows a ≡ Some c → is_taken_cell w c.1 ≡ true → is_some (find test (pending_of root)) ≡ true
  in_tree c e h =
      let k = located nodes read root a c s e in
      let same : ◌≡◌ {A = Option (ℕ × AlternativeCell)} (Some (k.level.spent, cell_of k.status)) (Some c) = sym (cell_at_place nodes read root a s k) ∙ e in
      let taken : is_taken_cell w (cell_of k.status) ≡ true = ap (is_taken_at w) same ∙ h in
      ap (λ (x : Status). is_some (find test (pending_of x))) k.is ∙ by_status k k.status taken (at_place k.level k.above k.status)
    where
      by_status : (k : IsAt root a) (t : Status) → is_taken_cell w (cell_of t) ≡ true → IsAmong (pending_of (plug (k.level ∷ k.above) k.status)) (pending_below k.level k.above t)
          → is_some (find test (pending_of (plug (k.level ∷ k.above) k.status))) ≡ true
      by_status k (Inner node) h m = absurd (cc h)
      by_status k (Closed credit) h m = absurd (cc h)
      by_status k (Pending hold entry) h m =
          let spot : Spot = record { level = k.level; above = k.above; hold = hold; entry = entry } in
          let passes : test spot ≡ true = ap (λ (b : Bool). b && same_place a (place_at k.level)) h
          ∙ (ap (same_place a) k.at ∙ place_self a) in
          ap (λ (x : List Spot). is_some (find test x)) m.are ∙ passing_found test m.front m.back spot passes

  pub out_is : is_taken_at w (cell_at nodes.rows a) ≡ is_some (find test (pending_of root))
  out_is = by_cell (cell_at nodes.rows a) refl (find test (pending_of root)) refl
    where
      by_taken : (c : ℕ × AlternativeCell) → cell_at nodes.rows a ≡ Some c → (b : Bool) → is_taken_cell w c.1 ≡ b → (o : Option Spot)
          → find test (pending_of root) ≡ o → b ≡ is_some o
      by_taken c e true h o f = sym (ap is_some (sym f) ∙ in_tree c e h)
      by_taken c e false h None f = refl
      by_taken c e false h (Some r) f = sym h ∙ (ap (is_taken_at w) (sym e) ∙ in_table r f)

      by_cell : (o : Option (ℕ × AlternativeCell)) → cell_at nodes.rows a ≡ o → (r : Option Spot) → find test (pending_of root) ≡ r
          → is_taken_at w o ≡ is_some r
      by_cell None e None f = refl
      by_cell None e (Some r) f = ap (is_taken_at w) (sym e) ∙ in_table r f
      by_cell (Some c) e r f = by_taken c e (is_taken_cell w c.1) refl r f
