-- Nodes that are added one below the other.
use Rattle.std.proofs.Common.{◌≡◌, ℕ, suc, ◌+◌, Bool, true, false, cond, List, [], ◌∷◌, ◌++◌, length, drop, Option, Some, None, refl, sym, ap, ◌∙◌, subst, arith}
use Rattle.std.proofs.Common.{append_assoc, append-nil}
use Rattle.std.specs.Option.{option_map}
use Rattle.std.specs.Prelude.{◌==◌, nat_le}
use Rattle.clause_compile.specs.declared.event.Branch.{Branch}
use Rattle.run_model.specs.Machine.Entries.{Entry}
use Rattle.tree_model.specs.Nodes.{Hold, Ready, Node, Numbered, alternative, Status, Pending, Inner, Closed}
use Rattle.tree_model.specs.Levels.{Level, level_node, plug, Place, place_at}
use Rattle.tree_nodes.specs.Bodies.{Body, BodyKind, ChoiceBody, ConditionBody, CatchBody, FindallBody, QueryBody, Branching, Reading, IsWhole, guards_kind, node_kind, first_hold, new_alternatives, new_node}
use Rattle.tree_nodes.specs.Changes.{AddsNode, is_pending}
use Rattle.tree_nodes.specs.Rows.{AlternativeCell, PendingCell, InnerCell, ClosedCell, Rows, cell_at}
use Rattle.tree_nodes.specs.TreeTables.{cell_of, NodesView, IsTableOf, Stand, IsWayTo}
use Rattle.tree_nodes.proofs.AddLemmas.{way_to, way_same}
use Rattle.tree_nodes.proofs.LocateLemmas.{located}
use Rattle.tree_nodes.proofs.PlaceLemmas.{taken_out}
use Rattle.tree_nodes.proofs.WalkLemmas.{cell_here}
use Rattle.public_tree.specs.Publishing.{nest, IsReadyAt, AddsBelow}
use Rattle.public_tree.proofs.WayLemmas.{one_way, reread_table, telling, told_apart}

-- the first alternative of a new node
abbrev pub first_level : Reading → Branching → ℕ → Body → Level
first_level read way n body = record { number = n; kind = node_kind body.kind; left = []; spent = 0; right = new_alternatives read way body 1 (drop 1 body.branches) }

first_is_ready : (kind : BodyKind) → first_hold kind 0 ≡ Ready
first_is_ready ChoiceBody = refl
first_is_ready ConditionBody = refl
first_is_ready (CatchBody catcher recovery) = refl
first_is_ready (FindallBody results list) = refl
first_is_ready QueryBody = refl

first_alternatives : (read : Reading) (way : Branching) (body : Body) → IsWhole body
    → new_alternatives read way body 0 body.branches ≡ alternative 0 (Pending Ready (read ((body, 0) ∷ way))) (new_alternatives read way body 1 (drop 1 body.branches))
first_alternatives read way body whole = by_branches body.branches whole
  where
    none : (guarded : Bool) → cond guarded (0 == 2) (nat_le 1 0) ≡ true → ⊥
    none true e = cc e
    none false e = cc e

    by_branches : (bs : List Branch) → cond (guards_kind body.kind) (length bs == 2) (nat_le 1 (length bs)) ≡ true
        → new_alternatives read way body 0 bs ≡ alternative 0 (Pending Ready (read ((body, 0) ∷ way))) (new_alternatives read way body 1 (drop 1 bs))
    by_branches [] e = absurd (none (guards_kind body.kind) e)
    by_branches (b ∷ bs) e = ap (λ (h : Hold). alternative 0 (Pending h (read ((body, 0) ∷ way))) (new_alternatives read way body 1 bs)) (first_is_ready body.kind)

new_first : (read : Reading) (way : Branching) (n : ℕ) (body : Body) → IsWhole body
    → new_node read way n body ≡ level_node (first_level read way n body) (Pending Ready (read ((body, 0) ∷ way)))
new_first read way n body whole = ap (Numbered n (node_kind body.kind)) (first_alternatives read way body whole)

module _ (old new : NodesView) (a : Place) (n : ℕ) (body : Body) (adds : AddsNode old new a n body) (whole : IsWhole body) where
  pub table_first : (read : Reading) (v : Level) (up : List Level) (was : Status) (way : Branching) → place_at v ≡ a → IsTableOf old read (plug (v ∷ up) was)
      → IsWayTo old.rows (v ∷ up) way → IsTableOf new read (plug (first_level read way n body ∷ v ∷ up) (Pending Ready (read ((body, 0) ∷ way))))
  table_first read v up was way at s w =
      subst (λ (node : Node). IsTableOf new read (plug (v ∷ up) (Inner node))) (new_first read way n body whole) (adds read v up was way at s w)

  -- the way down to it is known by a reading that tells ways apart
  pub way_first : (read : Reading) (v : Level) (up : List Level) (was : Status) (way : Branching) → place_at v ≡ a → IsTableOf old read (plug (v ∷ up) was)
      → IsWayTo old.rows (v ∷ up) way → IsWayTo new.rows (first_level read way n body ∷ v ∷ up) ((body, 0) ∷ way)
  way_first read v up was way at s w =
      let first = first_level read way n body in
      let now = table_first read v up was way at s w in
      let k = taken_out new.rows read (first ∷ v ∷ up) (Pending Ready (read ((body, 0) ∷ way))) now.placed in
      let t = reread_table old read telling (plug (v ∷ up) was) s in
      let cell : cell_at old.rows a ≡ Some (v.spent, cell_of was) = ap (cell_at old.rows) (sym at) ∙ cell_here old read v up was s in
      let l = located old telling t.0 a (v.spent, cell_of was) t.1 cell in
      let there = subst (IsTableOf old telling) l.is t.1 in
      let p = taken_out old.rows telling (l.level ∷ l.above) l.status there.placed in
      let o = taken_out old.rows read (v ∷ up) was s.placed in
      let before : p.way ≡ way = one_way old.rows telling read (l.level ∷ l.above) (v ∷ up) p.way o.way (cell_of l.status) (cell_of was) (ap Some (l.at ∙ sym at)) p.around o.around
      ∙ way_same old.rows read (v ∷ up) o.way way (cell_of was) o.around w in
      let told = table_first telling l.level l.above l.status p.way l.at there (way_to old.rows telling (l.level ∷ l.above) p.way (cell_of l.status) p.around) in
      let first_told = first_level telling p.way n body in
      let q = taken_out new.rows telling (first_told ∷ l.level ∷ l.above) (Pending Ready (telling ((body, 0) ∷ p.way))) told.placed in
      let same : (body, 0) ∷ p.way ≡ q.way = told_apart ((body, 0) ∷ p.way) q.way q.inside in
      let here : q.way ≡ k.way = one_way new.rows telling read (first_told ∷ l.level ∷ l.above) (first ∷ v ∷ up) q.way k.way (PendingCell Ready) (PendingCell Ready) refl q.around k.around in
      let is : k.way ≡ (body, 0) ∷ way = sym here ∙ (sym same ∙ ap (λ (x : Branching). (body, 0) ∷ x) before) in
      subst (IsWayTo new.rows (first ∷ v ∷ up)) is (way_to new.rows read (first ∷ v ∷ up) k.way (PendingCell Ready) k.around)

-- a place that is ready reads as its branch
ready_entry : (was : Status) (spent : ℕ) → option_map (λ (c : ℕ × AlternativeCell). c.1) (Some (spent, cell_of was)) ≡ Some (PendingCell Ready)
    → (entry : Entry) × (was ≡ Pending Ready entry)
ready_entry (Pending hold entry) spent e =
    let cell : PendingCell hold ≡ PendingCell Ready = cc e in
    let same : hold ≡ Ready = cc cell in
    (entry, ap (λ (h : Hold). Pending h entry) same)
ready_entry (Inner node) spent e = absurd (cc e)
ready_entry (Closed credit) spent e = absurd (cc e)

pub ready_open : (rows : Rows) (a : Place) → IsReadyAt rows a → is_pending (cell_at rows a) ≡ true
ready_open rows a e = by_cell (cell_at rows a) e
  where
    by_cell : (o : Option (ℕ × AlternativeCell)) → option_map (λ c. c.1) o ≡ Some (PendingCell Ready) → is_pending o ≡ true
    by_cell None e = absurd (cc e)
    by_cell (Some (spent, PendingCell hold)) e = refl
    by_cell (Some (spent, InnerCell n)) e = absurd (cc e)
    by_cell (Some (spent, ClosedCell credit)) e = absurd (cc e)

pub nothing_added : (now : NodesView) (p : Place) → IsReadyAt now.rows p → AddsBelow now now p []
nothing_added now p ready = record {
  numbers = (let z : length now.rows ≡ length now.rows + 0 = omega arith in z);
  placed = λ read v up was way at s w.
      let here : cell_at now.rows p ≡ Some (v.spent, cell_of was) = ap (cell_at now.rows) (sym at) ∙ cell_here now read v up was s in
      let k = ready_entry was v.spent (ap (λ (o : Option (ℕ × AlternativeCell)). option_map (λ c. c.1) o) (sym here) ∙ ready) in
      let table : IsTableOf now read (plug (v ∷ up) (Pending Ready k.0)) = subst (λ (x : Status). IsTableOf now read (plug (v ∷ up) x)) k.1 s in
      let t = taken_out now.rows read (v ∷ up) (Pending Ready k.0) table.placed in
      let entry : k.0 ≡ read way = t.inside ∙ ap read (way_same now.rows read (v ∷ up) t.way way (PendingCell Ready) t.around w) in
      subst (λ (e : Entry). IsTableOf now read (plug (v ∷ up) (Pending Ready e))) entry table;
  same_way = λ read v up was way at s w. w;
}

-- one more node below the first alternative of the one before
module _ (now more : NodesView) (p : Place) (n : ℕ) (body : Body) (adds : AddsNode now more p n body) (whole : IsWhole body) (number : n ≡ length now.rows)
    (longer : length more.rows ≡ length now.rows + 1) where
  abbrev pub below : Place
  below = record { node = n; index = 0 }

  pub one_below : (final : NodesView) (bodies : List Body) → AddsBelow more final below bodies → AddsBelow now final p (body ∷ bodies)
  one_below final bodies h = record {
    numbers = (let z = h.numbers in let l : length (body ∷ bodies) ≡ suc (length bodies) = refl in omega (arith, z, longer, l));
    placed = λ read v up was way at s w.
        let first = table_first now more p n body adds whole read v up was way at s w in
        let down = way_first now more p n body adds whole read v up was way at s w in
        let there = h.placed read (first_level read way n body) (v ∷ up) (Pending Ready (read ((body, 0) ∷ way))) ((body, 0) ∷ way) refl first down in
        let next : length more.rows ≡ suc (length now.rows) = (let z : length now.rows + 1 ≡ suc (length now.rows) = omega arith in longer ∙ z) in
        subst (λ (m : ℕ). IsTableOf final read (plug (v ∷ up) (Inner (Numbered m (node_kind body.kind)
        (alternative 0 (nest read ((body, 0) ∷ way) (suc (length now.rows)) bodies) (new_alternatives read way body 1 (drop 1 body.branches))))))) number
        (subst (λ (m : ℕ). IsTableOf final read (plug (v ∷ up) (Inner (Numbered n (node_kind body.kind)
        (alternative 0 (nest read ((body, 0) ∷ way) m bodies) (new_alternatives read way body 1 (drop 1 body.branches))))))) next there);
    same_way = λ read v up was way at s w.
        let first = table_first now more p n body adds whole read v up was way at s w in
        let down = way_first now more p n body adds whole read v up was way at s w in
        let there = h.same_way read (first_level read way n body) (v ∷ up) (Pending Ready (read ((body, 0) ∷ way))) ((body, 0) ∷ way) refl first down in
        let same : ◌≡◌ {A = Branching} ((body, 0) ∷ way) ((there.0.body, 0) ∷ there.1.0) = there.1.1.1 in
        let above : way ≡ there.1.0 = cc same in
        subst (IsWayTo final.rows (v ∷ up)) (sym above) there.1.1.2;
  }

  pub ready_below : Stand now → is_pending (cell_at now.rows p) ≡ true → IsReadyAt more.rows below
  ready_below st pending = by_cell (cell_at now.rows p) refl pending
    where
      by_cell : (o : Option (ℕ × AlternativeCell)) → cell_at now.rows p ≡ o → is_pending o ≡ true → IsReadyAt more.rows below
      by_cell None is e = absurd (cc e)
      by_cell (Some c) is e =
          let l = located now st.read st.root p c st.stands is in
          let there = subst (IsTableOf now st.read) l.is st.stands in
          let k = taken_out now.rows st.read (l.level ∷ l.above) l.status there.placed in
          let first = table_first now more p n body adds whole st.read l.level l.above l.status k.way l.at there
          (way_to now.rows st.read (l.level ∷ l.above) k.way (cell_of l.status) k.around) in
          ap (λ (o : Option (ℕ × AlternativeCell)). option_map (λ c. c.1) o)
          (cell_here more st.read (first_level st.read k.way n body) (l.level ∷ l.above) (Pending Ready (st.read ((body, 0) ∷ k.way))) first)

-- whatever is added from here on is added behind what was
abbrev pub GoesOn : NodesView → NodesView → Place → Place → List Body → Type 0
GoesOn old now a p done = (final : NodesView) (bodies : List Body) → AddsBelow now final p bodies → AddsBelow old final a (done ++ bodies)

pub added_so_far : (old now : NodesView) (a p : Place) (done : List Body) → IsReadyAt now.rows p → GoesOn old now a p done → AddsBelow old now a done
added_so_far old now a p done ready more = subst (AddsBelow old now a) (append-nil done) (more now [] (nothing_added now p ready))

pub goes_on : (old now more : NodesView) (a p : Place) (done : List Body) (body : Body) (n : ℕ) → AddsNode now more p n body → IsWhole body → n ≡ length now.rows
    → length more.rows ≡ length now.rows + 1 → GoesOn old now a p done → GoesOn old more a (record { node = n; index = 0 }) (done ++ body ∷ [])
goes_on old now more a p done body n adds whole number longer h = λ final bodies k.
    subst (AddsBelow old final a) (sym (append_assoc done (body ∷ []) bodies)) (h final (body ∷ bodies) (one_below now more p n body adds whole number longer final bodies k))
