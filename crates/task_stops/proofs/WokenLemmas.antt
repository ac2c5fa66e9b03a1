-- A body that was made of what sleeps beside a place reads as what wakes there.
use Rattle.std.proofs.Common.{◌≡◌, ◌⊎◌, ℕ, zero, suc, ◌+◌, ◌<◌, get_or, arith, Bool, true, false, IfOk, Result, Ok, Err, List, [], ◌∷◌, ◌++◌, length, Option, Some, None, slice_get, refl, sym, ap, ◌∙◌, subst}
use Rattle.std.specs.Option.{option_map}
use Rattle.std.specs.Prelude.{IsSome}
use Rattle.au_term.specs.Term.{Term}
use Rattle.clause_compile.specs.declared.event.Branch.{Branch}
use Rattle.clause_compile.specs.declared.item.Item.{Item as BranchItem}
use Rattle.run_model.specs.Programs.Jobs.{Job}
use Rattle.tree_model.specs.EventViews.{place_view}
use Rattle.tree_model.specs.Levels.{Level, Place, plug}
use Rattle.tree_model.specs.Nodes.{Dormant, none, Status, Pending}
use Rattle.tree_model.specs.NumberedTrees.{IsNumberedStatus}
use Rattle.tree_model.specs.SoundTrees.{IsSound}
use Rattle.tree_nodes.specs.Bodies.{Body, BodyKind, ChoiceBody, ConditionBody, CatchBody, FindallBody, QueryBody, Branching, Reading}
use Rattle.tree_nodes.specs.Rows.{AlternativeCell, PendingCell, InnerCell, StoredNode, Rows, row_of_node, cell_at, credit_view}
use Rattle.tree_nodes.specs.TreeTables.{cells_of, NodesView, IsTableOf, above_of}
use Rattle.tree_nodes.proofs.AddLemmas.{way_to}
use Rattle.tree_nodes.proofs.LocateLemmas.{IsAt, located}
use Rattle.tree_nodes.proofs.PlaceLemmas.{left_cells, IsPlaced, taken_out}
use Rattle.tree_nodes.proofs.PutLemmas.{is_some_cell}
use Rattle.tree_closing.specs.Closings.{IsSingle, ReadsWoken, is_waking, woken_entry}
use Rattle.tree_closing.specs.Sleeping.{right_of, is_asleep_at, IsBesideSleeper, IsSleeping}
use Rattle.tree_closing.specs.declared.way_up.Closing.{Closing}
use Rattle.tree_closing.proofs.ChangeLemmas.{as_sleeper, asleep_there, first_there, hang_together}
use Rattle.tree_closing.proofs.SleeperLemmas.{IsSleeper, one_beside, one_sleeps, sleeping_of}
use Rattle.branch_reading.specs.NumberedReadings.{IsEndOn, IsSettledReading, NumberedTreesAreSettled}
use Rattle.branch_reading.specs.Readings.{reading}
use Rattle.branch_reading.specs.SettledWays.{is_way_settled}
use Rattle.public_tree.specs.PublicClosing.{HasSingle, ReadsAs}
use Rattle.region_split.specs.ResultLists.{ResultsView}
use Rattle.task_stops.specs.GatheredResults.{gathered, unifying_item}
use Rattle.task_stops.specs.WokenBodies.{IsGivenFor, IsMadeWoken, IsNoCatch, quiet_body, same_body, woken_by}
use Rattle.task_stops.proofs.QuietLemmas.{BranchLaws}
use Rattle.task_stops.proofs.SameWayLemmas.{ways_same}
use Rattle.task_stops.proofs.WokenReadingLemmas.{woken_reads}

single_made : (n : ℕ) (records : List Term) (k : BodyKind) (second : Branch) → IsSingle (woken_by n records k second)
single_made n records ChoiceBody second = record { kind = refl; one = refl }
single_made n records ConditionBody second = record { kind = refl; one = refl }
single_made n records (CatchBody catcher recovery) second = record { kind = refl; one = refl }
single_made n records (FindallBody results list) second = record { kind = refl; one = refl }
single_made n records QueryBody second = record { kind = refl; one = refl }

abbrev row_or : StoredNode → Option StoredNode → StoredNode
row_or r None = r
row_or r (Some x) = x

module _ (nodes : NodesView) (b : Place) (records : List Term) (body : Body) (m : IsMadeWoken nodes.rows b records body) where
  pub is_single : IsSingle body
  is_single = subst IsSingle (sym m.made) (single_made b.node records m.row.body.kind m.second)

  module _ (beside : IsBesideSleeper nodes.rows b) (job : Job) (root : Status) (table : IsTableOf nodes (reading job) root) (sound : IsSound [] root)
      (numbered : IsNumberedStatus root) (no_catch : IsNoCatch nodes.rows b) (law : NumberedTreesAreSettled) (laws : BranchLaws) where
    abbrev right : IsAt root (right_of b)
    right =
        let c = is_some_cell (cell_at nodes.rows (right_of b)) (asleep_there (cell_at nodes.rows (right_of b)) beside.asleep) in
        located nodes (reading job) root (right_of b) c.0 table c.1

    there : IsSome (cell_at nodes.rows b)
    there = first_there nodes (reading job) right.level right.above right.status b (subst (IsTableOf nodes (reading job)) right.is table) right.at beside.first

    first : IsAt root b
    first = let c = is_some_cell (cell_at nodes.rows b) there in located nodes (reading job) root b c.0 table c.1

    here : IsTableOf nodes (reading job) (plug (first.level ∷ first.above) first.status)
    here = subst (IsTableOf nodes (reading job)) first.is table

    sound_here : IsSound [] (plug (first.level ∷ first.above) first.status)
    sound_here = subst (IsSound []) first.is sound

    sleeper : IsSleeper first.level
    sleeper = one_beside nodes b (reading job) first.level first.above first.status first.at here beside.first beside.asleep sound_here

    abbrev asleep : Level
    asleep = record { number = first.level.number; kind = first.level.kind; left = (first.level.spent, first.status) ∷ []; spent = sleeper.asleep.spent; right = none }

    beside_is : plug (first.level ∷ first.above) first.status ≡ plug (asleep ∷ first.above) (Pending Dormant sleeper.entry)
    beside_is = as_sleeper first.level first.above first.status sleeper.entry sleeper.asleep

    asleep_table : IsTableOf nodes (reading job) (plug (asleep ∷ first.above) (Pending Dormant sleeper.entry))
    asleep_table = subst (IsTableOf nodes (reading job)) beside_is here

    placed : IsPlaced nodes.rows (reading job) (asleep ∷ first.above) (Pending Dormant sleeper.entry)
    placed = taken_out nodes.rows (reading job) (asleep ∷ first.above) (Pending Dormant sleeper.entry) asleep_table.placed

    abbrev body_here : Body
    body_here = placed.around.0

    abbrev above_here : Branching
    above_here = placed.around.1.0

    way_is : placed.way ≡ (body_here, 1) ∷ above_here
    way_is = placed.around.1.1.0

    settled : IsSettledReading job placed.way sleeper.entry
    settled =
        law job nodes (plug (asleep ∷ first.above) (Pending Dormant sleeper.entry)) asleep_table (subst IsNumberedStatus (first.is ∙ beside_is) numbered) asleep first.above Dormant
        sleeper.entry refl placed.way (way_to nodes.rows (reading job) (asleep ∷ first.above) placed.way (PendingCell Dormant) placed.around)

    -- its row
    node_is : first.level.number ≡ b.node
    node_is = ap (λ (p : Place). p.node) first.at

    abbrev row_found : StoredNode
    row_found = record {
      parent = above_of first.above;
      body = body_here;
      cells = left_cells asleep.left ++ (asleep.spent, PendingCell Dormant) ∷ cells_of asleep.right;
    }

    row_here : row_of_node nodes.rows b.node ≡ Some row_found
    row_here = ap (row_of_node nodes.rows) (sym node_is) ∙ placed.around.1.1.1.row

    body_same : (r : StoredNode) → row_of_node nodes.rows b.node ≡ Some r → r.body ≡ body_here
    body_same r e = ap (λ (o : Option StoredNode). (row_or r o).body) (sym e ∙ row_here)

    parent_same : (r : StoredNode) → row_of_node nodes.rows b.node ≡ Some r → r.parent ≡ above_of first.above
    parent_same r e = ap (λ (o : Option StoredNode). (row_or r o).parent) (sym e ∙ row_here)

    sleeps : IsSleeping (sleeping_of m.row.body.kind) (Some sleeper.entry)
    sleeps =
        subst (IsSleeping (sleeping_of m.row.body.kind)) sleeper.is
        (one_sleeps nodes b m.row.body beside.first beside.asleep (ap (option_map (λ (r : StoredNode). r.body)) m.is) (reading job) first.level first.above first.status first.at here
        sound_here)

    reads_here : reading job ((body, 0) ∷ (m.row.body, 1) ∷ above_here) ≡ woken_entry b.node records (reading job ((m.row.body, 1) ∷ above_here))
    reads_here =
        let same : (body_here, 1) ∷ above_here ≡ (m.row.body, 1) ∷ above_here = ap (λ (x : Body). (let w : Branching = (x, 1) ∷ above_here in w)) (sym (body_same m.row m.is)) in
        let on : placed.way ≡ (m.row.body, 1) ∷ above_here = way_is ∙ same in
        ap (λ (x : Body). reading job ((x, 0) ∷ (m.row.body, 1) ∷ above_here)) m.made
        ∙ woken_reads laws job m.row.body above_here m.second m.there b.node records sleeper.entry (settled.reads ∙ ap (reading job) on)
        (subst (λ (w : Branching). (is_way_settled w ≡ true) ⊎ IsEndOn w) on settled.settled) sleeps (λ catcher recovery is. no_catch m.row m.is catcher recovery is)

    pub reads_woken : ReadsWoken (reading job) nodes.rows b records body
    reads_woken r up above there_is parent_is on hang =
        let real = way_to nodes.rows (reading job) first.above above_here (InnerCell first.level.number) placed.around.1.1.2 in
        let linked = hang_together nodes.rows (reading job) first.above above_here (InnerCell first.level.number) placed.around.1.1.2 in
        let above_same : above_here ≡ above = ways_same nodes.rows first.above up above_here above real on linked hang (sym (parent_same r there_is) ∙ sym parent_is) in
        let body_is : m.row.body ≡ r.body = body_same m.row m.is ∙ sym (body_same r there_is) in
        subst (λ (x : Body). reading job ((body, 0) ∷ (x, 1) ∷ above) ≡ woken_entry b.node records (reading job ((x, 1) ∷ above))) body_is
        (subst (λ (w : Branching). reading job ((body, 0) ∷ (m.row.body, 1) ∷ w) ≡ woken_entry b.node records (reading job ((m.row.body, 1) ∷ w))) above_same reads_here)

single_where : (waking : Bool) (body : Body) → IsSingle body → HasSingle waking (Some body)
single_where true body h = h
single_where false body h = tt

reads_where : (waking : Bool) (read : Reading) (rows : Rows) (b : Place) (records : List Term) (body : Body) → (waking ≡ true → ReadsWoken read rows b records body)
    → ReadsAs read rows b records waking (Some body)
reads_where true read rows b records body h = h refl
reads_where false read rows b records body h = tt

-- a body for what sleeps where a closing rests
pub given_for : (nodes : NodesView) (closing : Closing) (body : Body) → NumberedTreesAreSettled → BranchLaws → IsBesideSleeper nodes.rows (place_view closing.end)
    → IsMadeWoken nodes.rows (place_view closing.end) (credit_view closing.credit).records body → IsGivenFor nodes closing (Some body)
given_for nodes closing body law laws beside m =
    let b = place_view closing.end in
    let records = (credit_view closing.credit).records in
    record {
      given = single_where (is_waking closing.beside) body (is_single nodes b records body m);
      reads = λ job root table sound numbered no_catch. reads_where (is_waking closing.beside) (reading job) nodes.rows b records body
          (λ waking. reads_woken nodes b records body m beside job root table sound numbered (no_catch waking) law laws);
    }

none_where : (waking : Bool) → waking ≡ false → HasSingle waking None
none_where true h = absurd (cc h)
none_where false h = tt

reads_none : (waking : Bool) (read : Reading) (rows : Rows) (b : Place) (records : List Term) → waking ≡ false → ReadsAs read rows b records waking None
reads_none true read rows b records h = absurd (cc h)
reads_none false read rows b records h = tt

-- none is wanted where nothing wakes
pub none_given : (nodes : NodesView) (closing : Closing) → is_waking closing.beside ≡ false → IsGivenFor nodes closing None
none_given nodes closing quiet = record {
  given = none_where (is_waking closing.beside) quiet;
  reads = λ job root table sound numbered no_catch. reads_none (is_waking closing.beside) (reading job) nodes.rows (place_view closing.end) (credit_view closing.credit).records quiet;
}

-- what a table has at a node
row_of_body : (o : Option StoredNode) (b : Body) → option_map (λ (r : StoredNode). r.body) o ≡ Some b → (r : StoredNode) × ((o ≡ Some r) × (r.body ≡ b))
row_of_body None b e = absurd (cc e)
row_of_body (Some r) b e = (r, (refl, cc e))

pub got_at : (xs : List Branch) (i : ℕ) (d : Branch) → i < length xs → d ≡ get_or xs i d → slice_get xs i ≡ Some d
got_at [] i d lt e = absurd (omega (arith, lt))
got_at (x ∷ xs) zero d lt e = ap Some (sym e)
got_at (x ∷ xs) (suc i) d lt e = got_at xs i d (omega (arith, lt)) e

pub second_within : (cells : List (ℕ × AlternativeCell)) → is_asleep_at (slice_get cells 1) ≡ true → 1 < length cells
second_within [] h = absurd (cc h)
second_within (x ∷ []) h = absurd (cc h)
second_within (x ∷ y ∷ cells) h = omega arith

-- by what was asked of the nodes
pub made_woken : (rows : Rows) (a : Place) (records : List Term) (body b : Body) (second : Branch) (k : BodyKind)
    → option_map (λ (r : StoredNode). r.body) (row_of_node rows a.node) ≡ Some b → slice_get b.branches 1 ≡ Some second → b.kind ≡ k
    → body ≡ woken_by a.node records k second → IsMadeWoken rows a records body
made_woken rows a records body b second k e there kind made =
    let r = row_of_body (row_of_node rows a.node) b e in
    let kinds : r.0.body.kind ≡ k = ap (λ (x : Body). x.kind) r.1.1 ∙ kind in
    record {
      row = r.0;
      is = r.1.0;
      second = second;
      there = ap (λ (x : Body). slice_get x.branches 1) r.1.1 ∙ there;
      made = made ∙ ap (λ (x : BodyKind). woken_by a.node records x second) (sym kinds);
    }

pub following_made : (body : Body) (n : ℕ) (records results : List Term) (list : Term) (second : Branch) (next : ℕ) (goals : List BranchItem) (item : BranchItem) (all : ResultsView)
    → body ≡ quiet_body next goals all.next → goals ≡ item ∷ second.goals → item ≡ unifying_item n list all.terms → all ≡ gathered records (record { terms = results; next = next })
    → next ≡ second.segment.base + second.segment.vars → body ≡ woken_by n records (FindallBody results list) second
following_made body n records results list second next goals item all e gs is view number =
    e
    ∙ (ap (λ (xs : List BranchItem). quiet_body next xs all.next) (gs ∙ ap (λ (i : BranchItem). (let xs : List BranchItem = i ∷ second.goals in xs)) is)
    ∙ (ap (λ (x : ResultsView). quiet_body next (unifying_item n list x.terms ∷ second.goals) x.next) view
    ∙ ap (λ (m : ℕ). (let g = gathered records (record { terms = results; next = m }) in quiet_body m (unifying_item n list g.terms ∷ second.goals) g.next)) number))

pub same_made : (body : Body) (second : Branch) (next : ℕ) → body ≡ quiet_body next second.goals next → next ≡ second.segment.base + second.segment.vars → body ≡ same_body second
same_made body second next e number = e ∙ ap (λ (m : ℕ). quiet_body m second.goals m) number
