-- What is round a node in the list sees nothing of the node.
use Rattle.std.proofs.Common.{◌≡◌, ℕ, suc, ◌==◌, Bool, true, false, cond, List, [], ◌∷◌, map, length, refl, sym, ap, ◌∙◌, subst, arith}
use Rattle.au_term.specs.Term.{Term}
use Rattle.au_model.specs.Terms.Each.{Each}
use Rattle.run_model.specs.Machine.Items.{Item, GoalItem, CatchMark, CollectMark, RemovalItem}
use Rattle.run_model.specs.Machine.Entries.{Entry, PlainEntry, CatchEntry, FindallEntry, EndEntry}
use Rattle.tree_model.specs.Nodes.{Kind, CatchNode, FindallNode, Ready, TakenBy, Waiting, Dormant, Node, Numbered, Alternatives, none}
use Rattle.tree_model.specs.Nodes.{alternative, Status, Pending, Inner, Closed}
use Rattle.tree_model.specs.Levels.{Level}
use Rattle.tree_model.specs.Floors.{renamed_item}
use Rattle.tree_model.specs.Pruning.{is_findall}
use Rattle.tree_model.specs.Elements.{Name, Element, Credit, Plain, EndOf, Catch, Findall, End}
use Rattle.tree_model.specs.PendingLists.{Step, Way, way_of, scope_on, findall_on, element_on, list_in, list_among, list_below, list_left}
use Rattle.tree_model.specs.PendingLists.{list_right, level_front, front_of, back_of}
use Rattle.tree_model.specs.Ways.{is_on, way_from, way_above, AreScoped, IsOnWay}
use Rattle.tree_model.specs.SoundTrees.{one_if, count_in, count_among, count_below, IsOpen, IsSound as IsSoundStatus, IsSoundNode}
use Rattle.tree_model.specs.SoundTrees.{AreSound}
use Rattle.tree_model.proofs.CountLemmas.{count_left, count_around}
use Rattle.interleaving.specs.Roots.{rooted}
use Rattle.interleaving.specs.Views.{IsApart, IsBeside, IsItemApart, IsRecordApart, IsBlind, IsUnder}
use Rattle.interleaving.proofs.ContextLemmas.{LeftSound, IsAround}
use Rattle.interleaving.proofs.WayLemmas.{reach-on, through-on, one_if-zero, other_number, off_way}
use Rattle.interleaving.proofs.AppendLemmas.{each-append}
use Rattle.interleaving.proofs.RootLemmas.{are_distinguished}
use Rattle.interleaving.proofs.ListEndLemmas.{scope_at}
use Rattle.au_term.proofs.LogicLemmas.{numbers_turned}

module _ (n : ℕ) where
  -- names of this node
  abbrev pub of_node : Name → Bool
  of_node = rooted (λ m. m == n)

  -- names of steps, of others
  pub beside : (i m : ℕ) → (m == n) ≡ false → IsBeside of_node (0 ∷ i ∷ m ∷ [])
  beside i m h more = are_distinguished.by_root (λ k. k == n) 0 (i ∷ m ∷ []) more ∙ h

  on_other : (way : Way) (s : ℕ) → is_on way n ≡ false → is_on way s ≡ true → (s == n) ≡ false
  on_other way s o h = numbers_turned n s (other_number way n s o h (n == s) refl)

  pub scope_apart : (way : Way) (s : ℕ) → is_on way n ≡ false → is_on way s ≡ true → IsApart of_node (scope_on way s)
  scope_apart way s o h = let z = scope_at s way h in subst (λ x. of_node x ≡ false) (sym z.1) (on_other way s o h)

  findall_apart : (way : Way) → is_on way n ≡ false → IsApart of_node (findall_on way)
  findall_apart [] o = refl
  findall_apart (a ∷ way) o = go (a.node == n) refl (findall_apart way) o
    where
      inner : (b c : Bool) → (a.node == n) ≡ false → of_node (findall_on way) ≡ false
          → of_node (cond b (cond c (0 ∷ a.node ∷ []) (findall_on way)) (findall_on way)) ≡ false
      inner false c e h = h
      inner true false e h = h
      inner true true e h = e

      go : (b : Bool) → (a.node == n) ≡ b → (is_on way n ≡ false → of_node (findall_on way) ≡ false) → cond b true (is_on way n) ≡ false
          → of_node (findall_on (a ∷ way)) ≡ false
      go true e f o = let no_way : ⊥ = cc in absurd no_way
      go false e f o = inner (is_findall a.kind) (a.index == 0) e (f o)

  -- a part of a way
  pub from_on : (way : Way) (s r : ℕ) → is_on (way_from way s) r ≡ true → is_on way r ≡ true
  from_on [] s r h = h
  from_on (a ∷ way) s r h = go (a.node == s) (from_on way s r) h
    where
      behind : (c : Bool) → is_on way r ≡ true → cond c true (is_on way r) ≡ true
      behind true z = refl
      behind false z = z

      go : (b : Bool) → (is_on (way_from way s) r ≡ true → is_on way r ≡ true) → is_on (cond b (a ∷ way) (way_from way s)) r ≡ true
          → is_on (a ∷ way) r ≡ true
      go true f k = k
      go false f k = behind (a.node == r) (f k)

  pub above_on : (way : Way) (s r : ℕ) → is_on (way_above way s) r ≡ true → is_on way r ≡ true
  above_on [] s r h = h
  above_on (a ∷ way) s r h = go (a.node == s) (above_on way s r) h
    where
      behind : (c : Bool) → is_on way r ≡ true → cond c true (is_on way r) ≡ true
      behind true z = refl
      behind false z = z

      go : (b : Bool) → (is_on (way_above way s) r ≡ true → is_on way r ≡ true) → is_on (cond b way (way_above way s)) r ≡ true
          → is_on (a ∷ way) r ≡ true
      go true f k = behind (a.node == r) k
      go false f k = behind (a.node == r) (f k)

  pub items_apart : (base way : Way) (items : List (Item ℕ)) → ((s : ℕ) → is_on way s ≡ true → IsApart of_node (scope_on base s))
      → AreScoped way items → Each (IsItemApart of_node) (map (renamed_item (scope_on base) (scope_on base)) items)
  items_apart base way [] f h = tt
  items_apart base way (RemovalItem number ∷ items) f h = (tt, items_apart base way items f h)
  items_apart base way (GoalItem t s ∷ items) f h =
      (f s (reach-on way s h.0), items_apart base (way_from way s) items (λ r k. f r (from_on way s r k)) h.1)
  items_apart base way (CatchMark s ∷ items) f h =
      (f s (through-on CatchNode way s h.0), items_apart base (way_above way s) items (λ r k. f r (above_on way s r k)) h.1)
  items_apart base way (CollectMark t s ∷ items) f h =
      (f s (through-on FindallNode way s h.0), items_apart base (way_above way s) items (λ r k. f r (above_on way s r k)) h.1)

  -- elements of entries of other nodes
  element_blind : (a : Step) (way : Way) (e : Entry) → is_on (a ∷ way) n ≡ false → (a.node == n) ≡ false → IsOnWay (a ∷ way) e
      → IsBlind of_node (element_on (a ∷ way) e)
  element_blind a way (PlainEntry f) o e i =
      (beside a.index a.node e, items_apart (a ∷ way) (a ∷ way) f.items (λ s k. scope_apart (a ∷ way) s o k) i.scoped)
  element_blind a way (CatchEntry c r f) o e i = (
    e,
    e,
    beside a.index a.node e,
    items_apart (a ∷ way) way f.items (λ s k. scope_apart (a ∷ way) s o (behind s k (a.node == s)))
        i.scoped,
  )
    where
      behind : (s : ℕ) → is_on way s ≡ true → (c : Bool) → cond c true (is_on way s) ≡ true
      behind s z true = refl
      behind s z false = z
  element_blind a way (FindallEntry results l f) o e i = (
    e,
    e,
    beside a.index a.node e,
    items_apart (a ∷ way) way f.items (λ s k. scope_apart (a ∷ way) s o (behind s k (a.node == s)))
        i.scoped,
  )
    where
      behind : (s : ℕ) → is_on way s ≡ true → (c : Bool) → cond c true (is_on way s) ≡ true
      behind s z true = refl
      behind s z false = z
  element_blind a way (EndEntry b) o e i = beside a.index a.node e

  pub records_apart : (way : Way) (ts : List Term) → is_on way n ≡ false → Each (IsRecordApart of_node) (map (λ t. (findall_on way, t)) ts)
  records_apart way [] o = tt
  records_apart way (t ∷ ts) o = (findall_apart way o, records_apart way ts o)

  step_off : (m i : ℕ) (kind : Kind) (way : Way) → (m == n) ≡ false → is_on way n ≡ false
      → is_on (record { node = m; index = i; kind = kind } ∷ way) n ≡ false
  step_off m i kind way e o = ap (λ b. cond b true (is_on way n)) e ∙ o

  mutual
    node_blind : (way : Way) (node : Node) → is_on way n ≡ false → count_in n node ≡ 0 → IsSoundNode way node
        → Each (IsBlind of_node) (list_in way node)
    node_blind way (Numbered m kind alternatives) o c h =
        let here : one_if (m == n) ≡ 0 = omega (arith, c) in
        let rest : count_among n alternatives ≡ 0 = omega (arith, c) in
        among_blind way m kind 0 alternatives o (one_if-zero (m == n) here) rest h.3

    among_blind : (way : Way) (m : ℕ) (kind : Kind) (i : ℕ) (others : Alternatives) → is_on way n ≡ false → (m == n) ≡ false
        → count_among n others ≡ 0 → AreSound way m kind i others → Each (IsBlind of_node) (list_among way m kind i others)
    among_blind way m kind i none o e c h = tt
    among_blind way m kind i (alternative spent status others) o e c h =
        let here : count_below n status ≡ 0 = omega (arith, c) in
        let rest : count_among n others ≡ 0 = omega (arith, c) in
        let a : Step = record { node = m; index = i; kind = kind } in
        each-append (IsBlind of_node) (list_below (a ∷ way) spent status) _
        (status_blind a way spent status (step_off m i kind way e o) e here h.0)
        (tt, among_blind way m kind (suc i) others o e rest h.1)

    pub status_blind : (a : Step) (way : Way) (spent : ℕ) (status : Status) → is_on (a ∷ way) n ≡ false → (a.node == n) ≡ false
        → count_below n status ≡ 0 → IsSoundStatus (a ∷ way) status → Each (IsBlind of_node) (list_below (a ∷ way) spent status)
    status_blind a way spent (Inner node) o e c h = (tt, node_blind (a ∷ way) node o c h)
    status_blind a way spent (Closed k) o e c h = (records_apart (a ∷ way) k.records o, tt)
    status_blind a way spent (Pending Dormant x) o e c h = (element_blind a way x o e h.0, tt)
    status_blind a way spent (Pending Ready x) o e c h = (tt, (element_blind a way x o e h.0, tt))
    status_blind a way spent (Pending (TakenBy w) x) o e c h = (tt, (element_blind a way x o e h.0, tt))
    status_blind a way spent (Pending (Waiting g) x) o e c h = (tt, (element_blind a way x o e h.0, tt))

  pub left_blind : (way : Way) (m : ℕ) (kind : Kind) (left : List (ℕ × Status)) → is_on way n ≡ false → (m == n) ≡ false
      → count_left n left ≡ 0 → LeftSound way m kind left → Each (IsBlind of_node) (list_left way m kind left)
  left_blind way m kind [] o e c h = tt
  left_blind way m kind (x ∷ left) o e c h =
      let here : count_below n x.1 ≡ 0 = omega (arith, c) in
      let rest : count_left n left ≡ 0 = omega (arith, c) in
      let a : Step = record { node = m; index = length left; kind = kind } in
      each-append (IsBlind of_node) (list_left way m kind left) _ (left_blind way m kind left o e rest h.1)
      (each-append (IsBlind of_node) (list_below (a ∷ way) x.0 x.1) _
      (status_blind a way x.0 x.1 (step_off m (length left) kind way e o) e here h.0) (tt, tt))

  -- the levels above
  pub off_levels : (up : List Level) → count_around n up ≡ 0 → is_on (way_of up) n ≡ false
  off_levels up c = off_way n up c

  pub front_blind : (up : List Level) → count_around n up ≡ 0 → IsAround up IsOpen → Each (IsBlind of_node) (front_of up)
  front_blind [] c h = tt
  front_blind (v ∷ up) c h =
      let above : count_around n up ≡ 0 = omega (arith, c) in
      let here : one_if (v.number == n) ≡ 0 = omega (arith, c) in
      let left : count_left n v.left ≡ 0 = omega (arith, c) in
      each-append (IsBlind of_node) (front_of up) (level_front up v) (front_blind up above h.1)
      (tt, left_blind (way_of up) v.number v.kind v.left (off_levels up above) (one_if-zero (v.number == n) here) left h.0.left)

  -- no findall of the node is after
  blind_under : (xs : List Element) → Each (IsBlind of_node) xs → Each (IsUnder of_node) xs
  blind_under [] h = tt
  blind_under (Credit k rs ∷ xs) h = (tt, blind_under xs h.1)
  blind_under (Plain p f ∷ xs) h = (tt, blind_under xs h.1)
  blind_under (EndOf s ∷ xs) h = (tt, blind_under xs h.1)
  blind_under (Catch s u c r p f ∷ xs) h = (tt, blind_under xs h.1)
  blind_under (Findall s u results list p f ∷ xs) h = (h.0.0, blind_under xs h.1)
  blind_under (End p b ∷ xs) h = (tt, blind_under xs h.1)

  pub back_blind : (up : List Level) → count_around n up ≡ 0 → IsAround up IsOpen → Each (IsBlind of_node) (back_of up)
  back_blind [] c h = tt
  back_blind (v ∷ up) c h =
      let above : count_around n up ≡ 0 = omega (arith, c) in
      let here : one_if (v.number == n) ≡ 0 = omega (arith, c) in
      let right : count_among n v.right ≡ 0 = omega (arith, c) in
      each-append (IsBlind of_node) (list_right (way_of up) v) (back_of up) (
        tt,
        among_blind (way_of up) v.number v.kind (suc (length v.left)) v.right (off_levels up above)
            (one_if-zero (v.number == n) here) right h.0.right,
      ) (back_blind up above h.1)

  pub back_under : (up : List Level) → count_around n up ≡ 0 → IsAround up IsOpen → Each (IsUnder of_node) (back_of up)
  back_under up c h = blind_under (back_of up) (back_blind up c h)
