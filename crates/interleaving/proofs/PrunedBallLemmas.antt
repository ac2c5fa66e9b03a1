-- A ball at an alternative that is out: the list runs as before.
use Rattle.std.proofs.Common.{◌≡◌, ℕ, suc, ◌+◌, ◌≤◌, true, false, List, [], ◌∷◌, ◌++◌, map, length, Option, Some, None, refl, sym, ap}
use Rattle.std.proofs.Common.{◌∙◌, subst, arith}
use Rattle.au_term.specs.Term.{Term}
use Rattle.au_model.specs.Terms.Substitutions.{Substitution}
use Rattle.au_model.specs.Terms.Copies.{copied, copy_takes}
use Rattle.run_model.specs.Programs.Bodies.{call_of}
use Rattle.run_model.specs.Machine.Items.{GoalItem, Continuation, before, with_next, resolve_continuation}
use Rattle.run_model.specs.Machine.Entries.{Entry, PlainEntry, CatchEntry}
use Rattle.tree_model.specs.Credits.{credit_of}
use Rattle.tree_model.specs.Nodes.{Pending, Inner, Closed, single}
use Rattle.tree_model.specs.Levels.{Level, plug, Spot, levels_of}
use Rattle.tree_model.specs.Floors.{floor_of, node_of, with_nodes}
use Rattle.tree_model.specs.Gates.{ball_scope}
use Rattle.tree_model.specs.Orders.{levels_below}
use Rattle.tree_model.specs.Closing.{with_right, wakes}
use Rattle.tree_model.specs.Pruning.{ball_closes}
use Rattle.tree_model.specs.TreeStates.{TreeState}
use Rattle.tree_model.specs.Effects.{ball_falls}
use Rattle.tree_model.specs.PendingLists.{way_of, element_on, list_right, named_continuation, pending_list, front_of, back_of}
use Rattle.tree_model.specs.Ways.{under_query}
use Rattle.tree_model.specs.SoundTrees.{IsOpen, IsSoundTree}
use Rattle.tree_model.specs.CaughtTrees.{IsCaught, IsLastQuery, IsUnspent, IsCaughtTree}
use Rattle.tree_model.specs.Elements.{Name, Credit, Plain, End}
use Rattle.interleaving.specs.Machine.{gives, Infers, Seek}
use Rattle.interleaving.specs.Scopes.{Thrown, act, scoped}
use Rattle.interleaving.specs.Quiet.{IsQuiet, inferences, records}
use Rattle.interleaving.specs.Roots.{extends}
use Rattle.interleaving.specs.Views.{IsBlind}
use Rattle.interleaving.specs.Laws.{MayBecome}
use Rattle.interleaving.specs.Sound.{IsSound}
use Rattle.interleaving.specs.Follows.{lead, Follows}
use Rattle.interleaving.proofs.ContextLemmas.{IsAround}
use Rattle.interleaving.proofs.EntryLemmas.{length-floor}
use Rattle.interleaving.proofs.OpenSpotLemmas.{IsOpenSpot, IsPlaced, placed_at, count_at}
use Rattle.interleaving.proofs.SoundClosingLemmas.{free_at}
use Rattle.interleaving.proofs.ClosingSoundLemmas.{IsFree}
use Rattle.interleaving.proofs.AppendLemmas.{append-assoc, each-append}
use Rattle.interleaving.proofs.ListChangeLemmas.{taken_in_front}
use Rattle.interleaving.proofs.LeadLemmas.{lead-quiet, follows_then, follows_becoming, follows_same}
use Rattle.interleaving.proofs.ClockLemmas.{AreClear, quiet-append, inferences-append, front_quiet, list_round}
use Rattle.interleaving.proofs.ListScopeLemmas.{IsDistinct}
use Rattle.interleaving.proofs.ListsSoundLemmas.{lists_are_sound}
use Rattle.interleaving.proofs.ListMarkLemmas.{around-down}
use Rattle.interleaving.proofs.FoldLemmas.{HaveNoSideRecords, caught_out}
use Rattle.interleaving.proofs.EndLemmas.{has_end, quiet_no_end, end_after, back_end, round_end}
use Rattle.interleaving.proofs.FrontCloseLemmas.{bare, unspent_out}
use Rattle.interleaving.proofs.FrontSoundLemmas.{front_short, own_inside}
use Rattle.interleaving.proofs.CaughtContextLemmas.{IsCaughtRoot}
use Rattle.interleaving.proofs.CaughtClosingLemmas.{dormant_there}
use Rattle.interleaving.proofs.BallLevelLemmas.{ball_credit, wakes_in, ball_closes_at}
use Rattle.interleaving.proofs.CatchingLemmas.{Catching, Uncaught, CaughtBy, catching, catching_entries, by_heights_of, MarkIsDormant}
use Rattle.interleaving.proofs.CatchingLemmas.{IsTaken}
use Rattle.interleaving.proofs.CatchingLemmas.{IsCatcher}
use Rattle.interleaving.proofs.BallPlaceLemmas.{scope_down, query_at}
use Rattle.interleaving.proofs.BallSearchLemmas.{mark_name}
use Rattle.interleaving.proofs.BallCatchLemmas.{none_lost, loses}
use Rattle.interleaving.proofs.BallFollowsLemmas.{ball_taken, free_top}
use Rattle.interleaving.proofs.BallRecoveryLemmas.{ball_wakes}
use Rattle.interleaving.proofs.LostBallLemmas.{unmarked_becomes, all_clear, lost_end, lost_ball_closes}

-- what a prune does
pub record PruneMoves (t new : TreeState) : Type 0 where
  pub world : new.world ≡ t.world
  pub queries : new.queries ≡ t.queries
  pub halted : new.halted ≡ t.halted
  pub follows : Follows t.job.clauses (pending_list t.root) (pending_list new.root)
  pub going : IsQuiet (pending_list new.root) → ⊥

module _ (t : TreeState) (i : IsSoundTree t) (k : IsCaughtTree t) (running : t.halted ≡ None) (s : Spot) (o : IsOpenSpot t.root s)
    (f : Continuation ℕ) (entry : s.entry ≡ PlainEntry f) where
  abbrev levels : List Level
  levels = levels_of s

  abbrev pub own_of : Name
  own_of = 0 ∷ length s.level.left ∷ s.level.number ∷ []

  abbrev own : Name
  own = 0 ∷ length s.level.left ∷ s.level.number ∷ []

  abbrev named : Continuation Name
  named = named_continuation (way_of (levels_of s)) f

  pub placed_here : IsPlaced s
  placed_here = placed_at t s i o

  pub free_here : IsFree t.next (levels_of s)
  free_here = free_at t s i o

  pub distinct_here : IsDistinct (levels_of s)
  distinct_here n = subst (λ x. x ≤ 1) (count_at t s o n) (i.distinct n)

  pub root_here : IsCaughtRoot (plug (levels_of s) (Pending s.hold s.entry))
  root_here = record {
    caught = subst (IsCaught (λ n. false) false false) (sym o.inside) k.caught;
    last = subst IsLastQuery (sym o.inside) k.last;
    unspent = subst (IsUnspent 0) (sym o.inside) (k.unspent running);
  }

  pub unspent_here : s.level.spent ≡ 0
  unspent_here = unspent_out s.level s.above (Pending s.hold s.entry) root_here.unspent

  pub sides_here : HaveNoSideRecords (levels_of s)
  sides_here = (caught_out (levels_of s) (Pending s.hold s.entry) root_here.caught).0

  pub list_here : pending_list t.root
      ≡ front_of (levels_of s) ++ (Credit s.level.spent []
      ∷ (Plain (0 ∷ length s.level.left ∷ s.level.number ∷ []) (named_continuation (way_of (levels_of s)) f) ∷ back_of (levels_of s)))
  list_here = list_round t.root s o.inside o.opened
      ∙ ap (λ e. front_of (levels_of s) ++ (Credit s.level.spent [] ∷ (element_on (way_of (levels_of s)) e ∷ back_of (levels_of s))))
      entry

  pub sound_here : IsSound (front_of (levels_of s)
      ++ (Credit s.level.spent [] ∷ (Plain (0 ∷ length s.level.left ∷ s.level.number ∷ []) (named_continuation (way_of (levels_of s)) f)
      ∷ back_of (levels_of s))))
  sound_here = subst IsSound list_here (lists_are_sound t i k)

  module _ (ball : Term) (mark : Option ℕ) (sleeps : MarkIsDormant (levels_of s) mark) where
    abbrev Throws : Type 0
    Throws = act t.job.clauses (bare t.job.clauses own named) ≡ Infers (Seek (Thrown ball (mark_name (way_of levels) mark) own))

    -- the node that takes a ball
    pub scope_is : (w : Level) (up : List Level) (r : Term) (g : Continuation ℕ) (u : Substitution)
        → IsCatcher ball (levels_of s) w up r g u → node_of (levels_of s) (suc (length (floor_of up))) ≡ w.number
    scope_is w up r g u c = ap (λ n. node_of levels (suc n)) (length-floor up) ∙ scope_down levels w.number w up c.down c.on

    -- the recovery that wakes
    abbrev pub recovery : List Level → Term → Continuation ℕ → Substitution → Continuation ℕ
    recovery up r g u = resolve_continuation u
        (with_next (g.next + copy_takes ball) (before (GoalItem (call_of r) (length (floor_of up)) ∷ []) (by_heights_of up g)))

    abbrev woken : List Level → Term → Continuation ℕ → Substitution → Entry
    woken up r g u = with_nodes (node_of levels) (PlainEntry (recovery up r g u))

    pub root_is : (w : Level) (up : List Level) (r : Term) (g : Continuation ℕ) (u : Substitution) → IsCatcher ball (levels_of s) w up r g u
        → (ball_falls s (catching_entries ball (CaughtBy w up r g u)) t).root
        ≡ (wakes t.next w up (ball_credit w.number (levels_of s) (credit_of 1)) (woken up r g u)).root
    root_is w up r g u c =
        let e = woken up r g u in
        let l = ball_closes_at t.next w.number levels (Pending s.hold s.entry) (credit_of 1) e in
        ap (λ n. (ball_closes t.next n levels (credit_of 1) e).root) (scope_is w up r g u c)
        ∙ ap (λ x. x.root) (l.ball_closes ∙ ap (λ d. wakes_in t.next d (ball_credit w.number levels (credit_of 1)) e) c.down)

    pub caught_ends : (w : Level) (up : List Level) (r : Term) (g : Continuation ℕ) (u : Substitution)
        → IsCatcher ball (levels_of s) w up r g u
        → has_end (pending_list (ball_falls s (catching_entries ball (CaughtBy w up r g u)) t).root) ≡ true
    caught_ends w up r g u c =
        let top : IsAround (w ∷ up) IsOpen = subst (λ l. IsAround l IsOpen) c.down (around-down levels w.number placed_here.around) in
        let asked = (dormant_there w up IsOpen c.sleeper.spent (CatchEntry c.catcher r g) top.0 c.sleeper.right).asked in
        let x = with_right (Inner (single t.next (woken up r g u))) w in
        ap (λ z. has_end (pending_list z)) (root_is w up r g u c) ∙ round_end (x ∷ up) (Closed (ball_credit w.number levels (credit_of 1)))
        (end_after (list_right (way_of up) x) (back_of up) (back_end up top.1 asked))

    caught_follows : (w : Level) (up : List Level) (r : Term) (g : Continuation ℕ) (u : Substitution)
        → IsCatcher ball (levels_of s) w up r g u → catching ball (levels_of s) mark ≡ CaughtBy w up r g u
        → AreClear (levels_below (Some w.number) (levels_of s)) → Throws
        → IsSound (pending_list (ball_falls s (catching_entries ball (CaughtBy w up r g u)) t).root)
        → Follows t.job.clauses (pending_list t.root) (pending_list (ball_falls s (catching_entries ball (CaughtBy w up r g u)) t).root)
    caught_follows w up r g u c falls clear throws j =
        let clauses = t.job.clauses in
        let v = s.level in
        let a = placed_here.around in
        let status = Pending s.hold s.entry in
        let own_in = free_top clauses t.next v s.above own named a distinct_here free_here sides_here w up r g u ball c in
        let one = ball_taken clauses t.next v s.above own named a distinct_here free_here sides_here w up r g u ball c status mark
        root_here sleeps falls clear own_in throws in
        let same = root_is w up r g u c in
        let two = ball_wakes clauses t.next v s.above own named a distinct_here free_here sides_here w up r g u ball c
        (recovery up r g u) refl refl refl clear unspent_here (one.sound sound_here)
        (subst (λ x. IsSound (pending_list x)) same j) in
        subst (λ x. Follows clauses (pending_list t.root) (pending_list x)) (sym same)
        (follows_then clauses _ _ _ (follows_same clauses _ _ list_here) (follows_then clauses _ _ _ one.follows two))

    lost_follows : under_query (way_of (levels_of s)) ≡ true → catching ball (levels_of s) mark ≡ Uncaught
        → AreClear (levels_below (Some (ball_scope (levels_of s) (catching_entries ball Uncaught))) (levels_of s)) → Throws
        → PruneMoves t (ball_falls s (catching_entries ball Uncaught) t)
    lost_follows asked falls below throws =
        let clauses = t.job.clauses in
        let v = s.level in
        let a = placed_here.around in
        let status = Pending s.hold s.entry in
        let b = Some (copied ball 0) in
        let q = query_at levels a asked in
        let clear = all_clear clauses t.next v s.above status a root_here.last q below in
        let front = front_of levels in
        let back = back_of levels in
        let xs = front ++ (Credit v.spent [] ∷ []) in
        let quiet = quiet-append front (Credit v.spent [] ∷ []) (front_quiet levels clear) tt in
        let sought = Thrown ball (mark_name (way_of levels) mark) own in
        let blind = each-append (IsBlind (extends own)) front (Credit v.spent [] ∷ [])
        (front_short (length v.left) v.number levels clear) (tt, tt) in
        let one = unmarked_becomes clauses (extends own) xs own named (Seek sought) back throws blind
        (own_inside (length v.left) v.number) in
        let two = taken_in_front clauses xs (bare clauses own named) (Seek sought) [] back tt quiet throws in
        let none = none_lost clauses ball own sought (map (gives (scoped clauses) (records xs)) back) (refl, refl)
        (loses clauses ball own (records xs) levels status mark a distinct_here root_here.caught sleeps falls) in
        let list : pending_list t.root ≡ xs ++ (Plain own named ∷ back) = list_here
        ∙ sym (append-assoc front (Credit v.spent [] ∷ []) (Plain own named ∷ back)) in
        let total : inferences xs ≡ inferences front + (v.spent + 0) = inferences-append front (Credit v.spent [] ∷ []) in
        let before : lead (xs ++ (Plain own named ∷ back)) ≡ inferences xs + 0 = lead-quiet xs (Plain own named ∷ back) quiet in
        let between : lead (xs ++ (bare clauses own named ∷ back)) ≡ inferences xs + 0 = lead-quiet xs (bare clauses own named ∷ back)
        quiet in
        let first = follows_becoming clauses (xs ++ (Plain own named ∷ back)) (xs ++ (bare clauses own named ∷ back)) one
        (omega (arith, before, between)) in
        let taken = follows_becoming clauses (xs ++ (bare clauses own named ∷ back)) (Credit (inferences xs + 1) [] ∷ (End own b ∷ []))
        (subst (λ l. MayBecome clauses (xs ++ (bare clauses own named ∷ back)) (Credit (inferences xs + 1) [] ∷ l)) none two)
        (omega (arith, between)) in
        let u = unspent_here in
        let lands_so = lost_ball_closes clauses t.next v s.above status a root_here.last q below own b (inferences xs + 1) u
        (omega (arith, total, u)) in
        record {
          world = refl;
          queries = refl;
          halted = refl;
          follows = follows_then clauses _ _ _ (follows_same clauses _ _ list)
              (follows_then clauses _ _ _ first (follows_then clauses _ _ _ taken lands_so));
          going = λ z. quiet_no_end (pending_list (ball_falls s (catching_entries ball Uncaught) t).root) z
              (lost_end clauses t.next v s.above status a root_here.last q below b);
        }

    pub falls_so : under_query (way_of (levels_of s)) ≡ true → (x : Catching) → catching ball (levels_of s) mark ≡ x
        → IsTaken ball (levels_of s) x → AreClear
        (levels_below (Some (ball_scope (levels_of s) (catching_entries ball x))) (levels_of s)) → Throws
        → IsSound (pending_list (ball_falls s (catching_entries ball x) t).root) → PruneMoves t (ball_falls s (catching_entries ball x) t)
    falls_so asked Uncaught falls c below throws j = lost_follows asked falls below throws
    falls_so asked (CaughtBy w up r g u) falls c below throws j =
        record {
          world = refl;
          queries = refl;
          halted = refl;
          follows = caught_follows w up r g u c falls
              (subst (λ n. AreClear (levels_below (Some n) levels)) (scope_is w up r g u c) below) throws j;
          going = λ z. quiet_no_end (pending_list (ball_falls s (catching_entries ball (CaughtBy w up r g u)) t).root) z
              (caught_ends w up r g u c);
        }
