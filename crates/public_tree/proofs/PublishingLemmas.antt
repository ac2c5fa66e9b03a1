-- What is out becomes nodes, in the tree for which the nodes stand.
use Rattle.std.proofs.Common.{◌≡◌, ℕ, suc, ◌+◌, ◌≤◌, Bool, true, List, [], ◌∷◌, ◌++◌, length, Option, Some, None, refl, sym, ap, ◌∙◌, subst, arith}
use Rattle.std.specs.Prelude.{is_some, nat_le, ◌&&◌}
use Rattle.au_term.proofs.LogicLemmas.{both}
use Rattle.run_model.specs.Machine.Entries.{Entry}
use Rattle.tree_model.specs.Closing.{Grown}
use Rattle.tree_model.specs.Effects.{spending, run_placed, where_some, grown, after_allowed, after_event}
use Rattle.tree_model.specs.Events.{Event, Nodes}
use Rattle.tree_model.specs.Legality.{is_taken_by, taken_at, at_spot, run_of, run_fits, is_legal}
use Rattle.tree_model.specs.Levels.{plug, Place, same_place, Spot, levels_of, place_of_spot, pending_of}
use Rattle.tree_model.specs.Nodes.{Hold, Ready, TakenBy, Waiting, Dormant, Status, Pending}
use Rattle.tree_model.specs.Shapes.{placed}
use Rattle.tree_model.specs.TreeStates.{TreeState}
use Rattle.tree_nodes.specs.Bodies.{Body, Reading}
use Rattle.tree_nodes.specs.Rows.{PendingCell}
use Rattle.tree_nodes.specs.TreeTables.{IsTableOf}
use Rattle.tree_nodes.proofs.AddLemmas.{way_to}
use Rattle.tree_nodes.proofs.PlaceLemmas.{taken_out}
use Rattle.interleaving.proofs.AppendLemmas.{found}
use Rattle.interleaving.proofs.OpenSpotLemmas.{taken_at_open}
use Rattle.interleaving.proofs.PluggedLemmas.{IsIn, all_in}
use Rattle.public_tree.specs.PublicTrees.{PublicView, IsPublicOf, Answers, NotesIn, IsSameTree, is_going, IsOut}
use Rattle.public_tree.specs.Publishing.{body_sizes, nest, RunReadsAs, MakesNodes, IsSameWith}
use Rattle.public_tree.proofs.HandOutLemmas.{KeepsOthers, legal_while_going, rooted_round, taken_place}
use Rattle.public_tree.proofs.GrownLemmas.{stands_grown}

as_many : (bodies : List Body) → length (body_sizes bodies) ≡ length bodies
as_many [] = refl
as_many (b ∷ bodies) = ap suc (as_many bodies)

-- the entries to which a run has come that fits
entries_of : (low : ℕ) (sizes : List ℕ) (run : Option (List Entry)) → run_fits low sizes run ≡ true → (es : List Entry) × (run ≡ Some es)
entries_of low sizes None h = absurd (cc h)
entries_of low sizes (Some es) h = (es, refl)

-- so many inferences more are spent, and there are these nodes
abbrev nodes_made : TreeState → Spot → ℕ → List ℕ → List Entry → Grown
nodes_made t s k sizes es = record { root = plug (spending k (levels_of s)) (placed t.next sizes (levels_of s) es); next = t.next + length sizes }

module _ (w : ℕ) (old new : PublicView) (a : Place) (k : ℕ) (bodies : List Body) (going : Answers old is_going true) (out : IsOut old w a) (one : 1 ≤ k)
    (made : MakesNodes old.nodes new.nodes a k bodies) (others : KeepsOthers old new) (stopped : new.log.stopped ≡ old.log.stopped)
    (read : Reading) (t : TreeState) (h : IsPublicOf old read t) (known : RunReadsAs old.nodes.rows bodies w a k read t) where
  abbrev sizes : List ℕ
  sizes = body_sizes bodies

  abbrev event : Event
  event = Nodes w a k sizes

  legal_at : (s : Spot) → taken_at w a t ≡ Some s → is_legal t event ≡ true
  legal_at s at =
      let some : nat_le 1 k ≡ true = grind (arith, one) in
      legal_while_going t event (sym (going read t h))
      (ap (λ (o : Option Spot). at_spot o (λ r. nat_le 1 k && run_fits (length (levels_of r)) sizes (run_of t r k))) at
      ∙ (ap (λ (b : Bool). b && run_fits (length (levels_of s)) sizes (run_of t s k)) some ∙ known.fits s at))

  stands_at : (s : Spot) → taken_at w a t ≡ Some s → IsPublicOf new read (after_event t event)
  stands_at s at =
      let e = entries_of (length (levels_of s)) sizes (run_of t s k) (known.fits s at) in
      let after : after_allowed t event ≡ grown (nodes_made t s k sizes e.0) t
      = ap (λ (o : Option Spot). where_some o t (λ r. run_placed r k sizes (run_of t r k) t)) at ∙ ap (λ (run : Option (List Entry)). run_placed s k sizes run t) e.1 in
      let spot = taken_at_open w a t s at in
      let table : IsTableOf old.nodes read (plug (levels_of s) (Pending s.hold s.entry)) = subst (IsTableOf old.nodes read) (sym spot.inside) h.placed in
      let way = taken_out old.nodes.rows read (levels_of s) (Pending s.hold s.entry) table.placed in
      let down = way_to old.nodes.rows read (levels_of s) way.way (PendingCell s.hold) way.around in
      let now = made.placed read s.level s.above s.hold s.entry way.way (taken_place w a t s at) table down in
      let named : IsTableOf new.nodes read (plug (spending k (levels_of s)) (nest read way.way t.next bodies))
      = subst (λ (n : ℕ). IsTableOf new.nodes read (plug (spending k (levels_of s)) (nest read way.way n bodies))) h.next now in
      let lengths : length sizes ≡ length bodies = as_many bodies in
      stands_grown old new event read t (nodes_made t s k sizes e.0) others stopped
      (record {
        placed = subst (λ (x : Status). IsTableOf new.nodes read (plug (spending k (levels_of s)) x)) (known.reads s way.way e.0 at down e.1) named;
        next = made.numbers ∙ (ap (λ (n : ℕ). n + length bodies) h.next ∙ ap (λ (n : ℕ). t.next + n) (sym lengths));
        rooted = rooted_round (record s.level { spent = s.level.spent + k }) s.above (placed t.next sizes (levels_of s) e.0);
      })
      h after (legal_at s at)

  by_spot : {A : Type 0} → (o : Option Spot) → taken_at w a t ≡ o → is_some o ≡ true → ((s : Spot) → taken_at w a t ≡ Some s → A) → A
  by_spot None is f go = absurd (cc f)
  by_spot (Some s) is f go = go s is

  pub published_out : new.log.events ≡ old.log.events ++ event ∷ [] → NotesIn old new event read t
  published_out events = record {
    noted = events;
    budget = others.budget;
    window = others.window;
    legal = by_spot (taken_at w a t) refl (out read t h) legal_at;
    stands = by_spot (taken_at w a t) refl (out read t h) stands_at;
  }

-- what is out to a worker is in its hands
taken_hold : (w : ℕ) (hold : Hold) → is_taken_by w hold ≡ true → hold ≡ TakenBy w
taken_hold w (TakenBy v) e = let same : w ≡ v = grind (arith, e) in ap TakenBy (sym same)
taken_hold w Ready e = absurd (cc e)
taken_hold w (Waiting g) e = absurd (cc e)
taken_hold w Dormant e = absurd (cc e)

pub hold_out : (w : ℕ) (a : Place) (t : TreeState) (s : Spot) → taken_at w a t ≡ Some s → s.hold ≡ TakenBy w
hold_out w a t s e =
    let spot = found (IsIn t.root) (λ r. is_taken_by w r.hold && same_place a (place_of_spot r)) (pending_of t.root) s (all_in t.root) e in
    taken_hold w s.hold (both (is_taken_by w s.hold) (same_place a (place_of_spot s)) spot.passes).0

-- nothing has happened where the nodes are the same with what is out
pub same_out : (w : ℕ) (old new : PublicView) (a : Place) → IsOut old w a → IsSameWith old.nodes new.nodes w a → KeepsOthers old new → new.log.stopped ≡ old.log.stopped
    → new.log.events ≡ old.log.events → IsSameTree old new
same_out w old new a out same others stopped events = record {
  noted = events;
  budget = others.budget;
  window = others.window;
  stands = λ read t h. stands read t h (taken_at w a t) refl (out read t h);
}
  where
    stands : (read : Reading) (t : TreeState) → IsPublicOf old read t → (o : Option Spot) → taken_at w a t ≡ o → is_some o ≡ true → IsPublicOf new read t
    stands read t h None is f = absurd (cc f)
    stands read t h (Some s) is f =
        let hold : s.hold ≡ TakenBy w = hold_out w a t s is in
        let root : plug (levels_of s) (Pending (TakenBy w) s.entry) ≡ t.root
        = ap (λ (x : Hold). plug (levels_of s) (Pending x s.entry)) (sym hold) ∙ (taken_at_open w a t s is).inside in
        let table : IsTableOf old.nodes read (plug (levels_of s) (Pending (TakenBy w) s.entry)) = subst (IsTableOf old.nodes read) (sym root) h.placed in
        record {
          placed = subst (IsTableOf new.nodes read) root (same.same read s.level s.above s.entry (taken_place w a t s is) table);
          next = same.numbers ∙ h.next;
          lost = others.lost ∙ h.lost;
          halted = others.halted ∙ h.halted;
          budget = others.budget ∙ h.budget;
          window = others.window ∙ h.window;
          stopped = stopped ∙ h.stopped;
          sound = h.sound;
          rooted = h.rooted;
        }
