-- What is taken at the front, in the tree for which the nodes stand.
use Rattle.std.proofs.Common.{◌≡◌, ℕ, suc, ◌+◌, Bool, true, false, List, [], ◌∷◌, ◌++◌, length, Option, Some, None, refl, sym, ap, ◌∙◌, subst, arith}
use Rattle.std.specs.Option.{option_map}
use Rattle.std.specs.Prelude.{◌&&◌}
use Rattle.run_model.specs.Machine.Entries.{Entry}
use Rattle.run_model.specs.Programs.Jobs.{Query}
use Rattle.tree_model.specs.Closing.{closes}
use Rattle.tree_model.specs.Credits.{Credit, credit_of}
use Rattle.tree_model.specs.Effects.{spending, closed_with, query_opens, front_taken, spot_stack, world_moved, where_some, after_allowed, after_event}
use Rattle.tree_model.specs.Events.{Answer}
use Rattle.tree_model.specs.EventViews.{place_view}
use Rattle.tree_model.specs.FrontGates.{Taken, Continues, Answered, Raises, Halts, QueryEnds, taken_at_front}
use Rattle.tree_model.specs.Legality.{taken_at, at_spot, gate_of, is_world_gate, is_spot_at, is_allowed, is_legal}
use Rattle.tree_model.specs.Levels.{plug, Place, same_place, Spot, levels_of, place_of_spot, pending_of}
use Rattle.tree_model.specs.Nodes.{Gate, WorldGate, TakenBy, Hold, Node, Status, Pending, Inner}
use Rattle.tree_model.specs.SoundTrees.{IsSound}
use Rattle.tree_model.specs.TreeStates.{TreeState, first_spot, leftmost, opened_node}
use Rattle.tree_nodes.specs.Bodies.{Body, Branching, Reading, new_node}
use Rattle.tree_nodes.specs.Changes.{SetsCell, Adds, is_pending}
use Rattle.tree_nodes.specs.Rows.{AlternativeCell, PendingCell, InnerCell, cell_at, credit_view}
use Rattle.tree_nodes.specs.TreeTables.{cell_of, NodesView, IsTableOf, IsWayTo}
use Rattle.tree_nodes.proofs.AddLemmas.{way_to}
use Rattle.tree_nodes.proofs.PlaceLemmas.{taken_out}
use Rattle.tree_nodes.proofs.WalkLemmas.{cell_here}
use Rattle.tree_closing.specs.Closings.{is_waking}
use Rattle.tree_closing.specs.declared.way_up.Closing.{Closing}
use Rattle.interleaving.proofs.LegalLemmas.{event_sound}
use Rattle.interleaving.proofs.OpenSpotLemmas.{taken_at_open}
use Rattle.interleaving.proofs.UnchangedPlaceLemmas.{same_place-is}
use Rattle.public_tree.specs.PublicTrees.{PublicView, IsRooted, IsPublicOf, NotesIn, IsOut, IsLeftmostAt}
use Rattle.public_tree.specs.PublicClosing.{ReadsAs, IsGrownTo, RestsIn}
use Rattle.public_tree.specs.Answering.{taken_as, is_first_at, IsBarred, ReadsAsLeft, ReadsAsNext, front_credit, ClosesAs, GrowsAt, SpendsAt}
use Rattle.public_tree.proofs.HandOutLemmas.{KeepsOthers, first_spot_at, legal_while_going, rooted_round, taken_place}
use Rattle.public_tree.proofs.PruningLemmas.{table_out, by_out}
use Rattle.public_tree.proofs.PublishingLemmas.{hold_out}

-- what has no entry is not the leftmost one
pub not_open : (nodes : NodesView) (a : Place) → is_pending (cell_at nodes.rows a) ≡ false → IsLeftmostAt nodes a false
not_open nodes a none_there read root table sound = by_first (first_spot (pending_of root)) refl
  where
    by_first : (o : Option Spot) → first_spot (pending_of root) ≡ o → false ≡ is_spot_at a o
    by_first None e = refl
    by_first (Some s) e = by_test (same_place a (place_of_spot s)) refl
      where
        by_test : (b : Bool) → same_place a (place_of_spot s) ≡ b → false ≡ same_place a (place_of_spot s)
        by_test false f = sym f
        by_test true f =
            let at : Some (place_of_spot s) ≡ Some a = ap Some (sym (same_place-is a (place_of_spot s) f)) in
            let first = first_spot_at root a sound (ap (option_map place_of_spot) e ∙ at) in
            let here = ap (cell_at nodes.rows) (sym first.at)
            ∙ cell_here nodes read first.spot.level first.spot.above (Pending first.spot.hold first.spot.entry) (subst (IsTableOf nodes read) first.plugged table) in
            absurd (let z : true ≡ false = sym (ap is_pending here) ∙ none_there in cc z)

-- whether it is allowed to take what is out at the front
answer_allowed : (w : ℕ) (a : Place) (result : Bool) (t : TreeState) (s : Spot) → taken_at w a t ≡ Some s → gate_of t s ≡ Some WorldGate
    → result ≡ is_first_at a t → is_allowed t (Answer w a false) ≡ result
answer_allowed w a result t s e gate first =
    ap (λ (o : Option Spot). at_spot o (λ r. is_world_gate (gate_of t r) && is_spot_at a (leftmost t))) e
    ∙ (ap (λ (g : Option Gate). is_world_gate g && is_spot_at a (leftmost t)) gate ∙ sym first)

-- the parts of a tree for which the public part stands
pub record IsAfter (new : PublicView) (read : Reading) (x : TreeState) : Type 0 where
  pub placed : IsTableOf new.nodes read x.root
  pub next : length new.nodes.rows ≡ x.next
  pub lost : new.lost ≡ x.lost
  pub halted : new.halted ≡ x.halted
  pub budget : new.budget ≡ x.budget
  pub window : new.window ≡ x.window
  pub stopped : new.log.stopped ≡ x.stopped
  pub rooted : IsRooted x.root

-- the tree in the world that the front leaves
abbrev pub moved : TreeState → Spot → TreeState
moved t s = record t { world = (taken_at_front t.job.clauses (spot_stack s) t.world).0 }

-- what is out is taken at the front
module _ (w : ℕ) (old new : PublicView) (a : Place) (free : IsBarred old a None) (out : IsOut old w a) (read : Reading) (t : TreeState) (h : IsPublicOf old read t) where
  legal : (s : Spot) → taken_at w a t ≡ Some s → gate_of t s ≡ Some WorldGate → is_legal t (Answer w a false) ≡ true
  legal s e gate = legal_while_going t (Answer w a false) (sym (free.0 read t h)) (answer_allowed w a true t s e gate (free.1 read t h))

  stands : (s : Spot) → taken_at w a t ≡ Some s → gate_of t s ≡ Some WorldGate → IsAfter new read (front_taken s (taken_as t s) (moved t s))
      → IsPublicOf new read (after_event t (Answer w a false))
  unfolding after_event
  stands s e gate k =
      let is : after_allowed t (Answer w a false) ≡ front_taken s (taken_as t s) (moved t s)
      = ap (λ (o : Option Spot). where_some o t (λ r. world_moved r (taken_at_front t.job.clauses (spot_stack r) t.world) t)) e in
      record {
        placed = subst (λ (x : TreeState). IsTableOf new.nodes read x.root) (sym is) k.placed;
        next = k.next ∙ ap (λ (x : TreeState). x.next) (sym is);
        lost = k.lost ∙ ap (λ (x : TreeState). x.lost) (sym is);
        halted = k.halted ∙ ap (λ (x : TreeState). x.halted) (sym is);
        budget = k.budget ∙ ap (λ (x : TreeState). x.budget) (sym is);
        window = k.window ∙ ap (λ (x : TreeState). x.window) (sym is);
        stopped = k.stopped ∙ ap (λ (x : TreeState). x.stopped) (sym is);
        sound = event_sound t (Answer w a false) h.sound (legal s e gate);
        rooted = subst (λ (x : TreeState). IsRooted x.root) (sym is) k.rooted;
      }

  pub front_noted : new.budget ≡ old.budget → new.window ≡ old.window → new.log.events ≡ old.log.events ++ Answer w a false ∷ []
      → ((s : Spot) → taken_at w a t ≡ Some s → (gate_of t s ≡ Some WorldGate) × IsAfter new read (front_taken s (taken_as t s) (moved t s)))
      → NotesIn old new (Answer w a false) read t
  front_noted budget window events after = record {
    noted = events;
    budget = budget;
    window = window;
    legal = by_out old w a out read t h (λ s e. legal s e (after s e).0);
    stands = by_out old w a out read t h (λ s e. stands s e (after s e).0 (after s e).1);
  }

-- a new node is below the place, with one inference more
pub grows_at : (old mid new : NodesView) (a : Place) (spent : ℕ) (body : Body) (n : ℕ) → n ≡ length old.rows
    → option_map (λ c. c.0) (cell_at old.rows a) ≡ Some spent → Adds old mid (Some a) n body → SetsCell mid new a (spent + 1) (InnerCell n)
    → GrowsAt old new a body
grows_at old mid new a spent body n number there adds set read v up was way at s w =
    let was_spent : cell_at old.rows a ≡ Some (v.spent, cell_of was) = ap (cell_at old.rows) (sym at) ∙ cell_here old read v up was s in
    let same : Some spent ≡ Some v.spent = sym there ∙ ap (λ (o : Option (ℕ × AlternativeCell)). option_map (λ c. c.0) o) was_spent in
    let spends : spent ≡ v.spent = cc same in
    let node : Status = Inner (new_node read way n body) in
    let below = adds read v up was way at s w in
    let linked = set read v up node at below in
    subst (λ (m : ℕ). IsTableOf new read (plug (record v { spent = v.spent + 1 } ∷ up) (Inner (new_node read way m body)))) number
    (subst (λ (k : ℕ). IsTableOf new read (plug (record v { spent = k + 1 } ∷ up) node)) spends linked)

-- the tree with a node below a place, and these queries left
abbrev with_node : Spot → Node → List Query → TreeState → TreeState
with_node s node qs x = record x { root = plug (spending 1 (levels_of s)) (Inner node); next = suc x.next; queries = qs }

module _ (w : ℕ) (old new : PublicView) (a : Place) (body : Body) (grows : GrowsAt old.nodes new.nodes a body)
    (rows : length new.nodes.rows ≡ length old.nodes.rows + 1) (others : KeepsOthers old new) (stopped : new.log.stopped ≡ old.log.stopped) where
  node_after : (read : Reading) (t : TreeState) (s : Spot) → IsPublicOf old read t → taken_at w a t ≡ Some s → (way : Branching)
      → IsWayTo old.nodes.rows (levels_of s) way → (made : Node) → new_node read way t.next body ≡ made → (qs : List Query)
      → IsAfter new read (with_node s made qs (moved t s))
  node_after read t s h e way down made same qs =
      let table = table_out old.nodes w a read t s h.placed e in
      let now = grows read s.level s.above (Pending s.hold s.entry) way (taken_place w a t s e) table down in
      let more : length new.nodes.rows ≡ suc t.next = (let z = h.next in omega (arith, rows, z)) in
      record {
        placed = subst (λ (y : Node). IsTableOf new.nodes read (plug (spending 1 (levels_of s)) (Inner y)))
            (ap (λ (m : ℕ). new_node read way m body) h.next ∙ same) now;
        next = more;
        lost = others.lost ∙ h.lost;
        halted = others.halted ∙ h.halted;
        budget = others.budget ∙ h.budget;
        window = others.window ∙ h.window;
        stopped = stopped ∙ h.stopped;
        rooted = rooted_round (record s.level { spent = s.level.spent + 1 }) s.above (Inner made);
      }

  -- the branches on the way down to what is out
  by_way : {A : Type 0} → (read : Reading) (t : TreeState) (s : Spot) → IsPublicOf old read t → taken_at w a t ≡ Some s
      → ((way : Branching) → IsWayTo old.nodes.rows (levels_of s) way → A) → A
  by_way read t s h e go =
      let table = table_out old.nodes w a read t s h.placed e in
      let k = taken_out old.nodes.rows read (levels_of s) (Pending s.hold s.entry) table.placed in
      go k.way (way_to old.nodes.rows read (levels_of s) k.way (PendingCell s.hold) k.around)

  pub goes_on_after : (read : Reading) (t : TreeState) (s : Spot) → IsPublicOf old read t → taken_at w a t ≡ Some s
      → ((way : Branching) → IsWayTo old.nodes.rows (levels_of s) way → ReadsAsLeft read way body (levels_of s) (taken_as t s))
      → IsAfter new read (front_taken s (taken_as t s) (moved t s))
  goes_on_after read t s h e reads = by_way read t s h e (λ way down.
      let x = reads way down in
      let is = ap (λ (y : Taken). front_taken s y (moved t s)) x.goes_on in
      subst (IsAfter new read) (sym is) (node_after read t s h e way down _ (x.node t.next) t.queries))

  pub query_after : (read : Reading) (t : TreeState) (s : Spot) → IsPublicOf old read t → taken_at w a t ≡ Some s
      → ((way : Branching) → IsWayTo old.nodes.rows (levels_of s) way → ReadsAsNext read way body t.next (taken_as t s) t.queries)
      → IsAfter new read (front_taken s (taken_as t s) (moved t s))
  query_after read t s h e reads = by_way read t s h e (λ way down.
      let x = reads way down in
      let is : front_taken s (taken_as t s) (moved t s) ≡ query_opens s (x.query ∷ x.further) (moved t s)
      = ap (λ (y : Taken). front_taken s y (moved t s)) x.ends ∙ ap (λ (qs : List Query). query_opens s qs (moved t s)) x.next in
      subst (IsAfter new read) (sym is) (node_after read t s h e way down (opened_node t.next x.query) x.node x.further))

-- the front closes with its credit
front_closes : (s : Spot) (front : Taken) (x : TreeState) (c : Credit) → front_credit front x.queries ≡ Some c → front_taken s front x ≡ closed_with s c x
front_closes s (Continues []) x c e = let same : credit_of 1 ≡ c = cc e in ap (λ (y : Credit). closed_with s y x) same
front_closes s (Continues (f ∷ fs)) x c e = absurd (cc e)
front_closes s Answered x c e = let same : record { inferences = 1; answers = 1; records = [] } ≡ c = cc e in ap (λ (y : Credit). closed_with s y x) same
front_closes s (Raises es) x c e = absurd (cc e)
front_closes s (Halts k) x c e = absurd (cc e)
front_closes s QueryEnds x c e = by_queries x.queries e
  where
    by_queries : (qs : List Query) → front_credit QueryEnds qs ≡ Some c → query_opens s qs x ≡ closed_with s c x
    by_queries [] f = let same : credit_of 1 ≡ c = cc f in ap (λ (y : Credit). closed_with s y x) same
    by_queries (q ∷ qs) f = absurd (cc f)

pub closes_after : (w : ℕ) (old new : PublicView) (a : Place) (closing : Closing) (body : Option Body)
    → RestsIn old.nodes new.nodes (place_view closing.end) (credit_view closing.credit) closing.beside body → KeepsOthers old new
    → new.log.stopped ≡ old.log.stopped → (read : Reading) (t : TreeState) (s : Spot) → IsPublicOf old read t → taken_at w a t ≡ Some s
    → ReadsAs read old.nodes.rows (place_view closing.end) (credit_view closing.credit).records (is_waking closing.beside) body
    → ClosesAs old.nodes a closing (front_credit (taken_as t s) t.queries) → IsAfter new read (front_taken s (taken_as t s) (moved t s))
closes_after w old new a closing body closed others stopped read t s h e given r =
    let spot = taken_at_open w a t s e in
    let table = table_out old.nodes w a read t s h.placed e in
    let sound : IsSound [] (plug (levels_of s) (Pending s.hold s.entry)) = subst (IsSound []) (sym spot.inside) h.sound.sound in
    let now = closed a r.credit read s.level s.above (Pending s.hold s.entry) r.rests (taken_place w a t s e) table sound given in
    let g : IsGrownTo new.nodes read (closes t.next (levels_of s) r.credit) = subst (λ (n : ℕ). IsGrownTo new.nodes read (closes n (levels_of s) r.credit)) h.next now in
    subst (IsAfter new read) (sym (front_closes s (taken_as t s) (moved t s) r.credit r.closes))
    (record {
      placed = g.placed;
      next = g.next;
      lost = others.lost ∙ h.lost;
      halted = others.halted ∙ h.halted;
      budget = others.budget ∙ h.budget;
      window = others.window ∙ h.window;
      stopped = stopped ∙ h.stopped;
      rooted = g.rooted;
    })

-- one inference more is spent on what is out
pub spends_at : (old new : NodesView) (w : ℕ) (a : Place) (spent : ℕ) → option_map (λ c. c.0) (cell_at old.rows a) ≡ Some spent
    → SetsCell old new a (spent + 1) (PendingCell (TakenBy w)) → SpendsAt old new w a
spends_at old new w a spent there set read v up was entry at s =
    let k = set read v up (Pending was entry) at s in
    let was_spent : cell_at old.rows a ≡ Some (v.spent, PendingCell was) = ap (cell_at old.rows) (sym at) ∙ cell_here old read v up (Pending was entry) s in
    let same : Some spent ≡ Some v.spent = sym there ∙ ap (λ (o : Option (ℕ × AlternativeCell)). option_map (λ c. c.0) o) was_spent in
    let spends : spent ≡ v.spent = cc same in
    subst (λ (n : ℕ). IsTableOf new read (plug (record v { spent = n + 1 } ∷ up) (Pending (TakenBy w) entry))) spends
    (subst (λ (y : Entry). IsTableOf new read (plug (record v { spent = spent + 1 } ∷ up) (Pending (TakenBy w) y))) k.1.0 k.1.1)

pub halts_after : (w : ℕ) (old new : PublicView) (a : Place) (k : ℕ) → SpendsAt old.nodes new.nodes w a
    → length new.nodes.rows ≡ length old.nodes.rows → new.halted ≡ Some k → new.lost ≡ old.lost → new.budget ≡ old.budget → new.window ≡ old.window
    → new.log.stopped ≡ old.log.stopped → (read : Reading) (t : TreeState) (s : Spot) → IsPublicOf old read t → taken_at w a t ≡ Some s
    → taken_as t s ≡ Halts k → IsAfter new read (front_taken s (taken_as t s) (moved t s))
halts_after w old new a k spends rows halted lost budget window stopped read t s h e halts =
    let table = table_out old.nodes w a read t s h.placed e in
    let now = spends read s.level s.above s.hold s.entry (taken_place w a t s e) table in
    let is = ap (λ (y : Taken). front_taken s y (moved t s)) halts in
    subst (IsAfter new read) (sym is)
    (record {
      placed = subst (λ (x : Hold). IsTableOf new.nodes read (plug (spending 1 (levels_of s)) (Pending x s.entry))) (sym (hold_out w a t s e)) now;
      next = rows ∙ h.next;
      lost = lost ∙ h.lost;
      halted = halted;
      budget = budget ∙ h.budget;
      window = window ∙ h.window;
      stopped = stopped ∙ h.stopped;
      rooted = rooted_round (record s.level { spent = s.level.spent + 1 }) s.above (Pending s.hold s.entry);
    })
