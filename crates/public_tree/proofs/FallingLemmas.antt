-- A ball that falls, in the tree for which the nodes stand.
use Rattle.std.proofs.Common.{◌≡◌, ℕ, suc, ◌+◌, Bool, true, false, List, [], ◌∷◌, ◌++◌, length, Option, Some, None, sym, ap, ◌∙◌, subst, arith}
use Rattle.run_model.specs.Machine.Entries.{Entry}
use Rattle.tree_model.specs.Credits.{Credit, credit_of}
use Rattle.tree_model.specs.Events.{Prune}
use Rattle.tree_model.specs.Effects.{or_none, where_some, grown, ball_falls, gate_pruned, spot_stack, after_allowed, after_event}
use Rattle.tree_model.specs.Legality.{taken_at, at_spot, gate_of, may_prune, is_allowed, is_legal}
use Rattle.tree_model.specs.Nodes.{Gate, BallGate, Pending, Inner, single}
use Rattle.tree_model.specs.Levels.{plug, Place, Spot, levels_of}
use Rattle.tree_model.specs.Closing.{Grown, wakes, with_right}
use Rattle.tree_model.specs.Floors.{node_of, with_nodes}
use Rattle.tree_model.specs.Gates.{ball_scope}
use Rattle.tree_model.specs.PrivateRuns.{taken_alone}
use Rattle.tree_model.specs.Pruning.{Task, tasks_pruned, ball_closes}
use Rattle.tree_model.specs.SoundTrees.{IsSound}
use Rattle.tree_model.specs.TreeStates.{TreeState}
use Rattle.tree_nodes.specs.Bodies.{Body, Reading}
use Rattle.tree_nodes.specs.TreeTables.{IsTableOf}
use Rattle.prune_ops.specs.Falls.{IsLanding, LandsBelow, LandsNowhere, ReadsBeside, LandsBeside}
use Rattle.interleaving.proofs.LegalLemmas.{event_sound}
use Rattle.interleaving.proofs.OpenSpotLemmas.{taken_at_open}
use Rattle.public_tree.specs.PublicTrees.{PublicView, IsRooted, IsPublicOf, Answers, NotesIn, is_going, IsOut}
use Rattle.public_tree.specs.PrunedTasks.{FindsTasks}
use Rattle.public_tree.specs.PublicPruning.{IsClearedAt, ReadsAsFallen, LandsAs}
use Rattle.public_tree.proofs.HandOutLemmas.{legal_while_going, rooted_round, taken_place}
use Rattle.public_tree.proofs.PruningLemmas.{table_out, by_out}
use Rattle.public_tree.proofs.BallGateLemmas.{FallsIn, falls_in}

-- what a ball leaves, and that something sleeps at its scope
falls_at : (p : PublicView) (w : ℕ) (a : Place) (n : ℕ) (read : Reading) (t : TreeState) (s : Spot) → IsPublicOf p read t
    → taken_at w a t ≡ Some s → gate_of t s ≡ Some (BallGate n) → FallsIn t.job.clauses (levels_of s) s.entry n
unfolding gate_of
falls_at p w a n read t s h e gate =
    let o = taken_at_open w a t s e in
    falls_in t.job.clauses (levels_of s) s.hold s.entry n (subst (IsSound []) (sym o.inside) h.sound.sound) o.opened gate

fall_allowed : (p : PublicView) (w : ℕ) (a : Place) (n : ℕ) (result : Bool) → IsClearedAt p.nodes a n result
    → (read : Reading) (t : TreeState) (s : Spot) → IsPublicOf p read t → taken_at w a t ≡ Some s → gate_of t s ≡ Some (BallGate n)
    → is_allowed t (Prune w a) ≡ result
fall_allowed p w a n result cleared read t s h e gate =
    let table = table_out p.nodes w a read t s h.placed e in
    ap (λ (o : Option Spot). at_spot o (λ r. may_prune (levels_of r) (gate_of t r))) e
    ∙ (ap (may_prune (levels_of s)) gate ∙ sym (cleared read s.level s.above s.hold s.entry (taken_place w a t s e) table))

pub not_cleared : (p : PublicView) (w : ℕ) (a : Place) (n : ℕ) (body : Body) → Answers p is_going true → IsOut p w a → IsClearedAt p.nodes a n false
    → (read : Reading) (t : TreeState) → IsPublicOf p read t → LandsAs p.nodes.rows n body w a read t
    → (is_going t ≡ true) × (is_allowed t (Prune w a) ≡ false)
not_cleared p w a n body going out cleared read t h known =
    (sym (going read t h), by_out p w a out read t h (λ s e. fall_allowed p w a n false cleared read t s h e (known s e).0))

-- it lands somewhere
pub no_landing : (p : PublicView) (w : ℕ) (a : Place) (n : ℕ) (body : Body) → IsOut p w a → IsClearedAt p.nodes a n true → LandsNowhere p.nodes a n
    → (read : Reading) (t : TreeState) → IsPublicOf p read t → LandsAs p.nodes.rows n body w a read t
    → (is_going t ≡ true) × (is_allowed t (Prune w a) ≡ false)
no_landing p w a n body out cleared nowhere read t h known = by_out p w a out read t h (λ s e. absurd (lands s e))
  where
    lands : (s : Spot) → taken_at w a t ≡ Some s → ⊥
    lands s e =
        let table = table_out p.nodes w a read t s h.placed e in
        let at = taken_place w a t s e in
        let clear = sym (cleared read s.level s.above s.hold s.entry at table) in
        let f = falls_at p w a n read t s h e (known s e).0 in
        let z : Some f.slept ≡ None = sym f.sleeps ∙ nowhere read s.level s.above (Pending s.hold s.entry) at table clear in
        cc z

-- a ball is taken
module _ (w : ℕ) (old new : PublicView) (a b : Place) (n : ℕ) (total : Credit) (body : Body) (going : Answers old is_going true) (out : IsOut old w a)
    (cleared : IsClearedAt old.nodes a n true)
    (lands : LandsBelow old.nodes a n b total) (beside : LandsBeside old.nodes new.nodes b total body) (rows : length new.nodes.rows ≡ length old.nodes.rows + 1)
    (lost : FindsTasks old.nodes a n old.lost new.lost) (halted : new.halted ≡ old.halted) (budget : new.budget ≡ old.budget)
    (window : new.window ≡ old.window) (stopped : new.log.stopped ≡ old.log.stopped)
    (events : new.log.events ≡ old.log.events ++ Prune w a ∷ []) where
  legal : (read : Reading) (t : TreeState) → IsPublicOf old read t → LandsAs old.nodes.rows n body w a read t → is_legal t (Prune w a) ≡ true
  legal read t h known = by_out old w a out read t h
      (λ s e. legal_while_going t (Prune w a) (sym (going read t h)) (fall_allowed old w a n true cleared read t s h e (known s e).0))

  module _ (read : Reading) (t : TreeState) (h : IsPublicOf old read t) (known : LandsAs old.nodes.rows n body w a read t) (s : Spot)
      (e : taken_at w a t ≡ Some s) where
    table : IsTableOf old.nodes read (plug (levels_of s) (Pending s.hold s.entry))
    table = table_out old.nodes w a read t s h.placed e

    landing : IsLanding n s.level s.above (Pending s.hold s.entry) b total
    landing = lands read s.level s.above (Pending s.hold s.entry) (taken_place w a t s e) table
        (sym (cleared read s.level s.above s.hold s.entry (taken_place w a t s e) table))

    fallen : ReadsAsFallen read old.nodes.rows n body (levels_of s) (or_none (taken_alone t.job.clauses (spot_stack s)))
    fallen = (known s e).1

    abbrev woken : Entry
    woken = with_nodes (node_of (levels_of s)) fallen.entry

    abbrev after_fall : Grown
    after_fall = ball_closes t.next n (levels_of s) (credit_of 1) woken

    closes : after_fall ≡ wakes t.next landing.level landing.above total woken
    closes = landing.lands t.next woken

    fall_table : IsTableOf new.nodes read after_fall.root
    fall_table =
        let o = taken_at_open w a t s e in
        let sound : IsSound [] (plug (levels_of s) (Pending s.hold s.entry)) = subst (IsSound []) (sym o.inside) h.sound.sound in
        let below : ReadsBeside read old.nodes.rows b body woken
        = subst (λ (m : ℕ). ReadsBeside read old.nodes.rows (record { node = m; index = 0 }) body woken) (sym landing.on) fallen.beside in
        let now = beside read landing.level landing.above landing.status woken landing.at (subst (IsTableOf old.nodes read) landing.same table)
        (subst (IsSound []) landing.same sound) below in
        subst (λ (g : Grown). IsTableOf new.nodes read g.root) (sym closes)
        (subst (λ (m : ℕ). IsTableOf new.nodes read (wakes m landing.level landing.above total woken).root) h.next now)

    after : after_allowed t (Prune w a) ≡ grown after_fall (record t { lost = t.lost ++ tasks_pruned n (levels_of s) })
    after =
        let f = falls_at old w a n read t s h e (known s e).0 in
        let scope : ball_scope (levels_of s) (fallen.entry ∷ fallen.under) ≡ n
        = ap (ball_scope (levels_of s)) (sym fallen.top ∙ ap or_none f.taken) ∙ f.scope in
        ap (λ (o : Option Spot). where_some o t (λ r. gate_pruned r (gate_of t r) (or_none (taken_alone t.job.clauses (spot_stack r))) t)) e
        ∙ (ap (λ (g : Option Gate). gate_pruned s g (or_none (taken_alone t.job.clauses (spot_stack s))) t) (known s e).0
        ∙ (ap (λ (es : List Entry). ball_falls s es t) fallen.top
        ∙ ap (λ (m : ℕ). grown (ball_closes t.next m (levels_of s) (credit_of 1) woken) (record t { lost = t.lost ++ tasks_pruned m (levels_of s) })) scope))

    stands : IsPublicOf new read (after_event t (Prune w a))
    unfolding after_event
    stands =
        let is = after in
        let more : length new.nodes.rows ≡ suc t.next = (let z = h.next in omega (arith, rows, z)) in
        record {
          placed = subst (λ (x : TreeState). IsTableOf new.nodes read x.root) (sym is) fall_table;
          next = more ∙ (ap (λ (g : Grown). g.next) (sym closes) ∙ ap (λ (x : TreeState). x.next) (sym is));
          lost = lost read s.level s.above (Pending s.hold s.entry) (taken_place w a t s e) table
              ∙ (ap (λ (ts : List Task). ts ++ tasks_pruned n (levels_of s)) h.lost ∙ ap (λ (x : TreeState). x.lost) (sym is));
          halted = halted ∙ (h.halted ∙ ap (λ (x : TreeState). x.halted) (sym is));
          budget = budget ∙ (h.budget ∙ ap (λ (x : TreeState). x.budget) (sym is));
          window = window ∙ (h.window ∙ ap (λ (x : TreeState). x.window) (sym is));
          stopped = stopped ∙ (h.stopped ∙ ap (λ (x : TreeState). x.stopped) (sym is));
          sound = event_sound t (Prune w a) h.sound (legal read t h known);
          rooted = subst (λ (x : TreeState). IsRooted x.root) (sym is)
              (subst (λ (g : Grown). IsRooted g.root) (sym closes) (rooted_round (with_right (Inner (single t.next woken)) landing.level) landing.above _));
        }

  pub ball_taken : (read : Reading) (t : TreeState) → IsPublicOf old read t → LandsAs old.nodes.rows n body w a read t → NotesIn old new (Prune w a) read t
  ball_taken read t h known = record {
    noted = events;
    budget = budget;
    window = window;
    legal = legal read t h known;
    stands = by_out old w a out read t h (λ s e. stands read t h known s e);
  }
