-- A cut that is taken, in the tree for which the nodes stand.
use Rattle.std.proofs.Common.{◌≡◌, ℕ, suc, ◌+◌, ◌==◌, Bool, true, false, cond, List, [], ◌∷◌, ◌++◌, length, Option, Some, None, refl, sym, ap, ◌∙◌, subst, arith}
use Rattle.std.specs.Prelude.{is_some}
use Rattle.run_model.specs.Machine.Entries.{Entry}
use Rattle.tree_model.specs.Events.{Prune}
use Rattle.tree_model.specs.Effects.{or_none, where_some, spending, cut_at, gate_pruned, spot_stack, after_allowed, after_event}
use Rattle.tree_model.specs.Legality.{taken_at, at_spot, gate_of, may_prune, is_allowed, is_legal}
use Rattle.tree_model.specs.Nodes.{Gate, CutGate, Node, Status, Pending, Inner, single}
use Rattle.tree_model.specs.Levels.{Level, plug, Place, Spot, levels_of}
use Rattle.tree_model.specs.Floors.{node_of, with_nodes}
use Rattle.tree_model.specs.PrivateRuns.{taken_alone}
use Rattle.tree_model.specs.Pruning.{Task, emptied, pruned, tasks_pruned}
use Rattle.tree_model.specs.TreeStates.{TreeState}
use Rattle.tree_nodes.specs.Bodies.{Body, Reading}
use Rattle.tree_nodes.specs.Changes.{is_pending}
use Rattle.tree_nodes.specs.Rows.{cell_at}
use Rattle.tree_nodes.specs.TreeTables.{NodesView, IsTableOf}
use Rattle.tree_nodes.proofs.AddLemmas.{way_to}
use Rattle.tree_nodes.proofs.PlaceLemmas.{taken_out}
use Rattle.tree_nodes.proofs.WalkLemmas.{cell_here}
use Rattle.prune_ops.specs.Cuts.{CutsAt}
use Rattle.interleaving.proofs.LegalLemmas.{event_sound}
use Rattle.interleaving.proofs.OpenSpotLemmas.{taken_at_open}
use Rattle.public_tree.specs.PublicTrees.{PublicView, IsRooted, IsPublicOf, Answers, NotesIn, IsSameTree, is_going, IsOut}
use Rattle.public_tree.specs.PrunedTasks.{FindsTasks}
use Rattle.public_tree.specs.PublicPruning.{IsClearedAt, ReadsAsTop, CutsAs}
use Rattle.public_tree.proofs.HandOutLemmas.{legal_while_going, rooted_round, taken_place}

pub same_tree : (p : PublicView) → IsSameTree p p
same_tree p = record { noted = refl; budget = refl; window = refl; stands = λ read t h. h }

-- whether an entry is cleared
pub not_pending : (nodes : NodesView) (a : Place) (scope : ℕ) → is_pending (cell_at nodes.rows a) ≡ false → IsClearedAt nodes a scope false
not_pending nodes a scope none_there read v up hold entry at s =
    let here = ap (cell_at nodes.rows) (sym at) ∙ cell_here nodes read v up (Pending hold entry) s in
    absurd (let z : true ≡ false = sym (ap is_pending here) ∙ none_there in cc z)

-- what is out to a worker
pub table_out : (nodes : NodesView) (w : ℕ) (a : Place) (read : Reading) (t : TreeState) (s : Spot) → IsTableOf nodes read t.root → taken_at w a t ≡ Some s
    → IsTableOf nodes read (plug (levels_of s) (Pending s.hold s.entry))
table_out nodes w a read t s h e = subst (IsTableOf nodes read) (sym (taken_at_open w a t s e).inside) h

-- whether a cut is allowed
cut_allowed : (p : PublicView) (w : ℕ) (a : Place) (n : ℕ) (result : Bool) → IsClearedAt p.nodes a n result
    → (read : Reading) (t : TreeState) (s : Spot) → IsPublicOf p read t → taken_at w a t ≡ Some s → gate_of t s ≡ Some (CutGate n)
    → is_allowed t (Prune w a) ≡ result
cut_allowed p w a n result cleared read t s h e gate =
    let table = table_out p.nodes w a read t s h.placed e in
    ap (λ (o : Option Spot). at_spot o (λ r. may_prune (levels_of r) (gate_of t r))) e
    ∙ (ap (may_prune (levels_of s)) gate ∙ sym (cleared read s.level s.above s.hold s.entry (taken_place w a t s e) table))

pub by_out : {A : Type 0} → (p : PublicView) (w : ℕ) (a : Place) → IsOut p w a → (read : Reading) (t : TreeState) → IsPublicOf p read t
    → ((s : Spot) → taken_at w a t ≡ Some s → A) → A
by_out {A = A} p w a out read t h go = by_spot (taken_at w a t) refl (out read t h)
  where
    by_spot : (o : Option Spot) → taken_at w a t ≡ o → is_some o ≡ true → A
    by_spot None e f = absurd (cc f)
    by_spot (Some s) e f = go s e

pub not_cleared : (p : PublicView) (w : ℕ) (a : Place) (n : ℕ) (body : Body) → Answers p is_going true → IsOut p w a → IsClearedAt p.nodes a n false
    → (read : Reading) (t : TreeState) → IsPublicOf p read t → CutsAs p.nodes.rows n body w a read t
    → (is_going t ≡ true) × (is_allowed t (Prune w a) ≡ false)
not_cleared p w a n body going out cleared read t h known =
    (sym (going read t h), by_out p w a out read t h (λ s e. cut_allowed p w a n false cleared read t s h e (known s e).0))

-- the levels that are pruned are round a place
rooted_pruned : (scope : ℕ) (v : Level) (up : List Level) (status : Status) → IsRooted (plug (pruned scope (v ∷ up)) status)
rooted_pruned scope v up status = by_test (v.number == scope)
  where
    by_test : (b : Bool) → IsRooted (plug (cond b (v ∷ up) (record v { right = emptied v.right } ∷ pruned scope up)) status)
    by_test true = rooted_round v up status
    by_test false = rooted_round (record v { right = emptied v.right }) (pruned scope up) status

-- a cut is taken
module _ (w : ℕ) (old new : PublicView) (a : Place) (n : ℕ) (body : Body) (going : Answers old is_going true) (out : IsOut old w a)
    (cleared : IsClearedAt old.nodes a n true)
    (cuts : CutsAt old.nodes new.nodes a n body) (rows : length new.nodes.rows ≡ length old.nodes.rows + 1)
    (lost : FindsTasks old.nodes a n old.lost new.lost) (halted : new.halted ≡ old.halted) (budget : new.budget ≡ old.budget)
    (window : new.window ≡ old.window) (stopped : new.log.stopped ≡ old.log.stopped)
    (events : new.log.events ≡ old.log.events ++ Prune w a ∷ []) where
  legal : (read : Reading) (t : TreeState) → IsPublicOf old read t → CutsAs old.nodes.rows n body w a read t → is_legal t (Prune w a) ≡ true
  legal read t h known = by_out old w a out read t h
      (λ s e. legal_while_going t (Prune w a) (sym (going read t h)) (cut_allowed old w a n true cleared read t s h e (known s e).0))

  module _ (read : Reading) (t : TreeState) (h : IsPublicOf old read t) (known : CutsAs old.nodes.rows n body w a read t) (s : Spot)
      (e : taken_at w a t ≡ Some s) where
    table : IsTableOf old.nodes read (plug (levels_of s) (Pending s.hold s.entry))
    table = table_out old.nodes w a read t s h.placed e

    cut_table : (x : ReadsAsTop read (taken_out old.nodes.rows read (levels_of s) (Pending s.hold s.entry) table.placed).way body (levels_of s)
        (or_none (taken_alone t.job.clauses (spot_stack s))))
        → IsTableOf new.nodes read (plug (pruned n (spending 1 (levels_of s))) (Inner (single t.next (with_nodes (node_of (levels_of s)) x.entry))))
    cut_table x =
        let k = taken_out old.nodes.rows read (levels_of s) (Pending s.hold s.entry) table.placed in
        let now = cuts read s.level s.above (Pending s.hold s.entry) k.way (taken_place w a t s e) table
        (way_to old.nodes.rows read (levels_of s) k.way _ k.around) in
        subst (λ (m : ℕ). IsTableOf new.nodes read (plug (pruned n (spending 1 (levels_of s))) (Inner (single m (with_nodes (node_of (levels_of s)) x.entry))))) h.next
        (subst (λ (y : Node). IsTableOf new.nodes read (plug (pruned n (spending 1 (levels_of s))) (Inner y))) (x.node (length old.nodes.rows)) now)

    after : (x : ReadsAsTop read (taken_out old.nodes.rows read (levels_of s) (Pending s.hold s.entry) table.placed).way body (levels_of s)
        (or_none (taken_alone t.job.clauses (spot_stack s)))) → after_allowed t (Prune w a) ≡ cut_at s n (x.entry ∷ x.under) t
    after x =
        ap (λ (o : Option Spot). where_some o t (λ r. gate_pruned r (gate_of t r) (or_none (taken_alone t.job.clauses (spot_stack r))) t)) e
        ∙ (ap (λ (g : Option Gate). gate_pruned s g (or_none (taken_alone t.job.clauses (spot_stack s))) t) (known s e).0
        ∙ ap (λ (es : List Entry). cut_at s n es t) x.top)

    top : ReadsAsTop read (taken_out old.nodes.rows read (levels_of s) (Pending s.hold s.entry) table.placed).way body (levels_of s)
        (or_none (taken_alone t.job.clauses (spot_stack s)))
    top =
        let k = taken_out old.nodes.rows read (levels_of s) (Pending s.hold s.entry) table.placed in
        (known s e).1 k.way (way_to old.nodes.rows read (levels_of s) k.way _ k.around)

    stands : IsPublicOf new read (after_event t (Prune w a))
    unfolding after_event
    stands =
        let is = after top in
        let more : length new.nodes.rows ≡ suc t.next = (let z = h.next in omega (arith, rows, z)) in
        record {
          placed = subst (λ (x : TreeState). IsTableOf new.nodes read x.root) (sym is) (cut_table top);
          next = more ∙ ap (λ (x : TreeState). x.next) (sym is);
          lost = lost read s.level s.above (Pending s.hold s.entry) (taken_place w a t s e) table
              ∙ (ap (λ (ts : List Task). ts ++ tasks_pruned n (levels_of s)) h.lost ∙ ap (λ (x : TreeState). x.lost) (sym is));
          halted = halted ∙ (h.halted ∙ ap (λ (x : TreeState). x.halted) (sym is));
          budget = budget ∙ (h.budget ∙ ap (λ (x : TreeState). x.budget) (sym is));
          window = window ∙ (h.window ∙ ap (λ (x : TreeState). x.window) (sym is));
          stopped = stopped ∙ (h.stopped ∙ ap (λ (x : TreeState). x.stopped) (sym is));
          sound = event_sound t (Prune w a) h.sound (legal read t h known);
          rooted = subst (λ (x : TreeState). IsRooted x.root) (sym is)
              (rooted_pruned n (record (s.level) { spent = s.level.spent + 1 }) s.above (Inner (single t.next (with_nodes (node_of (levels_of s)) top.entry))));
        }

  pub cut_taken : (read : Reading) (t : TreeState) → IsPublicOf old read t → CutsAs old.nodes.rows n body w a read t → NotesIn old new (Prune w a) read t
  cut_taken read t h known = record {
    noted = events;
    budget = budget;
    window = window;
    legal = legal read t h known;
    stands = by_out old w a out read t h (λ s e. stands read t h known s e);
  }
