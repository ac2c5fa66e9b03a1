-- Nodes that are made below what is out, or given back.
use Rattle.std.proofs.Common.{◌≡◌, ℕ, ◌+◌, ◌≤◌, List, ◌∷◌, length, Option, Some, None, refl, sym, ap, ◌∙◌, subst, arith}
use Rattle.std.specs.Option.{option_map}
use Rattle.std.specs.Prelude.{IsSome, is_some}
use Rattle.run_model.specs.Machine.Entries.{Entry}
use Rattle.tree_model.specs.Levels.{Level, plug, Place, place_at}
use Rattle.tree_model.specs.Nodes.{Hold, Ready, TakenBy, Status, Pending, Inner, Closed}
use Rattle.tree_model.proofs.CountLemmas.{count_around, count_plug}
use Rattle.tree_nodes.specs.Bodies.{Body, Branching, Reading}
use Rattle.tree_nodes.specs.Changes.{SetsCell, AreGone, GivesBack}
use Rattle.tree_nodes.specs.Rows.{AlternativeCell, PendingCell, row_of_node, cell_at}
use Rattle.tree_nodes.specs.TakingBack.{TakesBack}
use Rattle.tree_nodes.specs.TreeTables.{cell_of, NodesView, IsTableOf, Stand, IsWayTo}
use Rattle.tree_nodes.proofs.AddLemmas.{numbers_within, way_to, way_same}
use Rattle.tree_nodes.proofs.LocateLemmas.{located}
use Rattle.tree_nodes.proofs.PlaceLemmas.{taken_out}
use Rattle.tree_nodes.proofs.PutLemmas.{is_some_cell}
use Rattle.tree_nodes.proofs.WalkLemmas.{cell_here}
use Rattle.public_tree.specs.Publishing.{nest, IsReadyAt, AddsBelow, MakesNodes, IsSameWith}
use Rattle.public_tree.proofs.WayLemmas.{one_way, reread_table, telling, told_apart}

abbrev pub cell_or : AlternativeCell → Option (ℕ × AlternativeCell) → AlternativeCell
cell_or other None = other
cell_or other (Some c) = c.1

-- an entry that another cell says to be pending
pending_is : (status : Status) (hold : Hold) → cell_of status ≡ PendingCell hold → (entry : Entry) × (status ≡ Pending hold entry)
pending_is (Pending other entry) hold e = let same : other ≡ hold = cc e in (entry, ap (λ (h : Hold). Pending h entry) same)
pending_is (Inner node) hold e = absurd (cc e)
pending_is (Closed credit) hold e = absurd (cc e)

-- where an entry changes hands, the way to it is the same
module _ (old new : NodesView) (a : Place) (spent : ℕ) (to : Hold) (set : SetsCell old new a spent (PendingCell to)) where
  module _ (read : Reading) (v : Level) (up : List Level) (hold : Hold) (entry : Entry) (way : Branching) (at : place_at v ≡ a)
      (s : IsTableOf old read (plug (v ∷ up) (Pending hold entry))) (down : IsWayTo old.rows (v ∷ up) way) where
    abbrev now : Level
    now = record v { spent = spent }

    pub handed_on : IsTableOf new read (plug (now ∷ up) (Pending to entry))
    handed_on = let k = set read v up (Pending hold entry) at s in subst (λ (e : Entry). IsTableOf new read (plug (now ∷ up) (Pending to e))) k.1.0 k.1.1

    pub way_on : IsWayTo new.rows (now ∷ up) way
    way_on =
        let k = taken_out new.rows read (now ∷ up) (Pending to entry) handed_on.placed in
        let t = reread_table old read telling (plug (v ∷ up) (Pending hold entry)) s in
        let cell : cell_at old.rows a ≡ Some (v.spent, PendingCell hold) = ap (cell_at old.rows) (sym at) ∙ cell_here old read v up (Pending hold entry) s in
        let l = located old telling t.0 a (v.spent, PendingCell hold) t.1 cell in
        let there = subst (IsTableOf old telling) l.is t.1 in
        let here : Some (l.level.spent, cell_of l.status) ≡ Some (v.spent, PendingCell hold)
        = sym (cell_here old telling l.level l.above l.status there) ∙ (ap (cell_at old.rows) l.at ∙ cell) in
        let cells : cell_of l.status ≡ PendingCell hold = ap (cell_or (PendingCell hold)) here in
        let e = pending_is l.status hold cells in
        let table : IsTableOf old telling (plug (l.level ∷ l.above) (Pending hold e.0)) = subst (λ (x : Status). IsTableOf old telling (plug (l.level ∷ l.above) x)) e.1 there in
        let p = taken_out old.rows telling (l.level ∷ l.above) (Pending hold e.0) table.placed in
        let o = taken_out old.rows read (v ∷ up) (Pending hold entry) s.placed in
        let before = one_way old.rows telling read (l.level ∷ l.above) (v ∷ up) p.way o.way (PendingCell hold) (PendingCell hold) (ap Some (l.at ∙ sym at)) p.around o.around in
        let was = way_same old.rows read (v ∷ up) o.way way (PendingCell hold) o.around down in
        let n = set telling l.level l.above (Pending hold e.0) l.at table in
        let w : Level = record l.level { spent = spent } in
        let q = taken_out new.rows telling (w ∷ l.above) (Pending to n.0) n.1.1.placed in
        let same : p.way ≡ q.way = told_apart p.way q.way (sym p.inside ∙ (sym n.1.0 ∙ q.inside)) in
        let after = one_way new.rows telling read (w ∷ l.above) (now ∷ up) q.way k.way (PendingCell to) (PendingCell to) (ap Some (l.at ∙ sym at)) q.around k.around in
        let is : k.way ≡ way = sym after ∙ (sym same ∙ (before ∙ was)) in
        subst (IsWayTo new.rows (now ∷ up)) is (way_to new.rows read (now ∷ up) k.way (PendingCell to) k.around)

  -- and what it was set to is there
  pub set_there : Stand old → IsSome (cell_at old.rows a) → option_map (λ (c : ℕ × AlternativeCell). c.1) (cell_at new.rows a) ≡ Some (PendingCell to)
  set_there st there =
      let c = is_some_cell (cell_at old.rows a) there in
      let l = located old st.read st.root a c.0 st.stands c.1 in
      let k = set st.read l.level l.above l.status l.at (subst (IsTableOf old st.read) l.is st.stands) in
      ap (λ (b : Place). option_map (λ (c : ℕ × AlternativeCell). c.1) (cell_at new.rows b)) (sym l.at)
      ∙ ap (λ (o : Option (ℕ × AlternativeCell)). option_map (λ c. c.1) o) (cell_here new st.read (record l.level { spent = spent }) l.above (Pending to k.0) k.1.1)

-- nodes are made where the entry was made ready
pub makes_nodes : (old ready new : NodesView) (a : Place) (spent k total : ℕ) (bodies : List Body) → option_map (λ (c : ℕ × AlternativeCell). c.0) (cell_at old.rows a) ≡ Some spent
    → total ≡ spent + k → SetsCell old ready a total (PendingCell Ready) → length ready.rows ≡ length old.rows → AddsBelow ready new a bodies → MakesNodes old new a k bodies
makes_nodes old ready new a spent k total bodies there sum set same adds = record {
  numbers = (let z = adds.numbers in omega (arith, z, same));
  placed = λ read v up hold entry way at s down.
      let table = handed_on old ready a total Ready set read v up hold entry way at s down in
      let w = way_on old ready a total Ready set read v up hold entry way at s down in
      let made = adds.placed read (record v { spent = total }) up (Pending Ready entry) way at table w in
      let here : cell_at old.rows a ≡ Some (v.spent, PendingCell hold) = ap (cell_at old.rows) (sym at) ∙ cell_here old read v up (Pending hold entry) s in
      let spends : Some spent ≡ Some v.spent = sym there ∙ ap (λ (o : Option (ℕ × AlternativeCell)). option_map (λ c. c.0) o) here in
      let is : total ≡ v.spent + k = (let z : spent ≡ v.spent = cc spends in sum ∙ ap (λ (n : ℕ). n + k) z) in
      subst (λ (n : ℕ). IsTableOf new read (plug (record v { spent = n } ∷ up) (nest read way (length old.rows) bodies))) is
      (subst (λ (n : ℕ). IsTableOf new read (plug (record v { spent = total } ∷ up) (nest read way n bodies))) same made);
}

-- the entry is taken back from where nodes were made
module _ (ready some back : NodesView) (a : Place) (w spent : ℕ) (bodies : List Body) (adds : AddsBelow ready some a bodies) (takes : TakesBack some back a w spent) where
  module _ (read : Reading) (v : Level) (up : List Level) (entry : Entry) (at : place_at v ≡ a) (s : IsTableOf ready read (plug (v ∷ up) (Pending Ready entry))) where
    taken_back : IsTableOf back read (plug (record v { spent = spent } ∷ up) (Pending (TakenBy w) entry))
    taken_back =
        let t = taken_out ready.rows read (v ∷ up) (Pending Ready entry) s.placed in
        let down = way_to ready.rows read (v ∷ up) t.way (PendingCell Ready) t.around in
        let made = adds.placed read v up (Pending Ready entry) t.way at s down in
        let way = adds.same_way read v up (Pending Ready entry) t.way at s down in
        subst (λ (e : Entry). IsTableOf back read (plug (record v { spent = spent } ∷ up) (Pending (TakenBy w) e))) (sym t.inside)
        (takes read v up (nest read t.way (length ready.rows) bodies) t.way at made way)

    pub gone_from : (m : ℕ) → length ready.rows ≤ m → row_of_node back.rows m ≡ None
    gone_from m l =
        let within = numbers_within ready read (plug (v ∷ up) (Pending Ready entry)) m s l in
        let p = count_plug m (v ∷ up) (Pending Ready entry) in
        let q = count_plug m (record v { spent = spent } ∷ up) (Pending (TakenBy w) entry) in
        let same : count_around m (record v { spent = spent } ∷ up) ≡ count_around m (v ∷ up) = refl in
        taken_back.others m (omega (arith, within, p, q, same))

pub nodes_there : (ready some : NodesView) (a : Place) (bodies : List Body) → Stand ready → IsReadyAt ready.rows a → AddsBelow ready some a bodies → IsSome (cell_at some.rows a)
nodes_there ready some a bodies st is adds = by_cell (cell_at ready.rows a) refl is
  where
    by_cell : (o : Option (ℕ × AlternativeCell)) → cell_at ready.rows a ≡ o → option_map (λ c. c.1) o ≡ Some (PendingCell Ready) → IsSome (cell_at some.rows a)
    by_cell None e f = absurd (cc f)
    by_cell (Some c) e f =
        let l = located ready st.read st.root a c st.stands e in
        let there = subst (IsTableOf ready st.read) l.is st.stands in
        let t = taken_out ready.rows st.read (l.level ∷ l.above) l.status there.placed in
        let made = adds.placed st.read l.level l.above l.status t.way l.at there (way_to ready.rows st.read (l.level ∷ l.above) t.way (cell_of l.status) t.around) in
        ap is_some (ap (cell_at some.rows) (sym l.at) ∙ cell_here some st.read l.level l.above (nest st.read t.way (length ready.rows) bodies) made)

pub are_gone : (ready some back : NodesView) (a : Place) (w spent : ℕ) (bodies : List Body) → Stand ready → IsReadyAt ready.rows a → AddsBelow ready some a bodies
    → TakesBack some back a w spent → AreGone back.rows (length ready.rows)
are_gone ready some back a w spent bodies st is adds takes = by_cell (cell_at ready.rows a) refl is
  where
    by_cell : (o : Option (ℕ × AlternativeCell)) → cell_at ready.rows a ≡ o → option_map (λ c. c.1) o ≡ Some (PendingCell Ready) → AreGone back.rows (length ready.rows)
    by_cell None e f = absurd (cc f)
    by_cell (Some c) e f = λ m less.
        let l = located ready st.read st.root a c st.stands e in
        let there = subst (IsTableOf ready st.read) l.is st.stands in
        let here : Some (l.level.spent, cell_of l.status) ≡ Some c = sym (cell_here ready st.read l.level l.above l.status there) ∙ (ap (cell_at ready.rows) l.at ∙ e) in
        let cell : c.1 ≡ PendingCell Ready = cc f in
        let cells : cell_of l.status ≡ PendingCell Ready = ap (cell_or (PendingCell Ready)) here ∙ cell in
        let p = pending_is l.status Ready cells in
        let table : IsTableOf ready st.read (plug (l.level ∷ l.above) (Pending Ready p.0)) = subst (λ (x : Status). IsTableOf ready st.read (plug (l.level ∷ l.above) x)) p.1 there in
        gone_from ready some back a w spent bodies adds takes st.read l.level l.above p.0 l.at table m less

-- and all is as before
pub same_with : (old ready some back given : NodesView) (a : Place) (w spent total n : ℕ) (bodies : List Body)
    → option_map (λ (c : ℕ × AlternativeCell). c.0) (cell_at old.rows a) ≡ Some spent → SetsCell old ready a total (PendingCell Ready) → length ready.rows ≡ length old.rows
    → AddsBelow ready some a bodies → TakesBack some back a w spent → length back.rows ≡ length some.rows → n ≡ length old.rows → GivesBack back given n → IsSameWith old given w a
same_with old ready some back given a w spent total n bodies there set same adds takes kept drawn gives = record {
  numbers = (let z = gives.length in let x = adds.numbers in omega (arith, z, x, same, kept, drawn));
  same = λ read v up entry at s.
      let t = taken_out old.rows read (v ∷ up) (Pending (TakenBy w) entry) s.placed in
      let down = way_to old.rows read (v ∷ up) t.way (PendingCell (TakenBy w)) t.around in
      let table = handed_on old ready a total Ready set read v up (TakenBy w) entry t.way at s down in
      let again = taken_back ready some back a w spent bodies adds takes read (record v { spent = total }) up entry at table in
      let here : cell_at old.rows a ≡ Some (v.spent, PendingCell (TakenBy w)) = ap (cell_at old.rows) (sym at) ∙ cell_here old read v up (Pending (TakenBy w) entry) s in
      let spends : Some spent ≡ Some v.spent = sym there ∙ ap (λ (o : Option (ℕ × AlternativeCell)). option_map (λ c. c.0) o) here in
      let is : spent ≡ v.spent = cc spends in
      gives.same read (plug (v ∷ up) (Pending (TakenBy w) entry))
      (subst (λ (m : ℕ). IsTableOf back read (plug (record v { spent = m } ∷ up) (Pending (TakenBy w) entry))) is again);
}
