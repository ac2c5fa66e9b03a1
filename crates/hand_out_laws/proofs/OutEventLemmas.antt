-- No event leaves more tasks at a place than are out there by the events.
use Rattle.std.proofs.Common.{◌≡◌, ℕ, ◌+◌, ◌≤◌, ◌==◌, Bool, true, false, cond, List, [], ◌∷◌, length, Option, Some, None, refl, sym, ap, ◌∙◌, arith}
use Rattle.std.specs.Prelude.{◌&&◌, ◌||◌, nat_le}
use Rattle.std.specs.List.{list_any}
use Rattle.run_model.specs.Machine.Entries.{Entry}
use Rattle.tree_model.specs.Nodes.{Gate, Hold, Ready, TakenBy, Waiting, Dormant, Pending}
use Rattle.tree_model.specs.Levels.{Place, same_place, Spot, levels_of, place_of_spot}
use Rattle.tree_model.specs.PrivateRuns.{taken_alone}
use Rattle.tree_model.specs.Pruning.{Task, task_at}
use Rattle.tree_model.specs.FrontGates.{taken_at_front}
use Rattle.tree_model.specs.Events.{Event, Claim, Nodes, Empty, Collected, Lost, Suspend, Resume, Prune, Answer, Stop}
use Rattle.tree_model.specs.TreeStates.{TreeState, pending_spots}
use Rattle.tree_model.specs.Legality.{is_spot_at, is_taken_by, claimable, resumable, taken_at, gate_of, run_of, run_fits, is_task, at_spot, is_allowed}
use Rattle.tree_model.specs.Effects.{with_status, or_none, gate_pruned, world_moved, spot_stack, run_placed, without_task, where_some, gate_or_frozen, after_allowed}
use Rattle.tree_model.specs.SoundTrees.{one_if}
use Rattle.interleaving.proofs.AppendLemmas.{found}
use Rattle.interleaving.proofs.OpenSpotLemmas.{claimable_open, resumable_open}
use Rattle.interleaving.proofs.PluggedLemmas.{IsIn, all_in}
use Rattle.interleaving.proofs.UnchangedPlaceLemmas.{same_place-is}
use Rattle.au_term.proofs.LogicLemmas.{and-left, and-right, false_true}
use Rattle.tree_core.specs.TasksOut.{without_place, out_by}
use Rattle.hand_out_laws.proofs.TaskCountLemmas.{tasks_at, round_tasks, node_here, index_here, plug_tasks}
use Rattle.hand_out_laws.proofs.TaskClosingLemmas.{tree_tasks}
use Rattle.hand_out_laws.proofs.GivenBackLemmas.{all_tasks, LeavesRound, closing_leaves, run_leaves, prune_leaves, front_whole, front_leaves}

-- how often a place is among others
abbrev pub times_among : Place → List Place → ℕ
times_among a [] = 0
times_among a (b ∷ places) = one_if (same_place a b) + times_among a places

-- there are no more tasks of a tree at a place than that
abbrev pub AreAmong : TreeState → List Place → Type 0
AreAmong t places = (a : Place) → all_tasks a t ≤ times_among a places

dropped : (a b : Place) (places : List Place) → times_among a places ≤ one_if (same_place a b) + times_among a (without_place b places)
dropped a b [] = omega arith
dropped a b (c ∷ places) = by_first (same_place b c) refl (dropped a b places)
  where
    by_first : (x : Bool) → same_place b c ≡ x → times_among a places ≤ one_if (same_place a b) + times_among a (without_place b places)
        → times_among a (c ∷ places) ≤ one_if (same_place a b) + times_among a (cond x places (c ∷ without_place b places))
    by_first true e h = let same = ap (λ (p : Place). one_if (same_place a p)) (same_place-is b c e) in omega (arith, same)
    by_first false e h = omega (arith, h)

-- the task of an alternative that is out to a worker
own_task : (a : Place) (w n i : ℕ) (hold : Hold) → is_taken_by w hold ≡ true
    → tasks_at a (task_at hold n i) ≡ one_if (same_place a (record { node = n; index = i }))
own_task a w n i (TakenBy v) h = omega arith
own_task a w n i Ready h = false_true h
own_task a w n i (Waiting g) h = false_true h
own_task a w n i Dormant h = false_true h

one_task : (a : Place) (n i : ℕ) (hold : Hold) → tasks_at a (task_at hold n i) ≤ one_if (same_place a (record { node = n; index = i }))
one_task a n i (TakenBy v) = omega arith
one_task a n i Ready = omega arith
one_task a n i (Waiting g) = omega arith
one_task a n i Dormant = omega arith

module _ (t : TreeState) (places : List Place) (among : AreAmong t places) where
  root_tasks : (a : Place) (s : Spot) → IsIn t.root s
      → tree_tasks a t.root ≡ round_tasks a (levels_of s) + tasks_at a (task_at s.hold (node_here (levels_of s)) (index_here (levels_of s)))
  root_tasks a s i = ap (tree_tasks a) (sym i) ∙ plug_tasks a (levels_of s) (Pending s.hold s.entry)

  -- one more goes out
  goes_out : (w : ℕ) (b : Place) (s : Spot) → IsIn t.root s → b ≡ place_of_spot s
      → AreAmong (with_status s (Pending (TakenBy w) s.entry) t) (b ∷ places)
  goes_out w b s i e a =
      let old = root_tasks a s i in
      let new = plug_tasks a (levels_of s) (Pending (TakenBy w) s.entry) in
      let one = one_task a (node_here (levels_of s)) (index_here (levels_of s)) (TakenBy w) in
      let same = ap (λ (p : Place). one_if (same_place a p)) e in
      let m = among a in
      omega (arith, old, new, one, same, m)

  offered_out : (w : ℕ) (b : Place) (o : Option Spot) → ((s : Spot) → o ≡ Some s → IsIn t.root s) → is_spot_at b o ≡ true
      → AreAmong (where_some o t (λ s. with_status s (Pending (TakenBy w) s.entry) t)) (b ∷ places)
  offered_out w b None f h = false_true h
  offered_out w b (Some s) f h = goes_out w b s (f s refl) (same_place-is b (place_of_spot s) h)

  -- what is out comes back
  comes_back : (w : ℕ) (b : Place) (test : Spot → Bool) (new : Spot → TreeState) (o : Option Spot) → taken_at w b t ≡ o → at_spot o test ≡ true
      → (where_some o t new).halted ≡ None → ((s : Spot) → test s ≡ true → (new s).halted ≡ None → LeavesRound t s (new s))
      → AreAmong (where_some o t new) (without_place b places)
  comes_back w b test new None e h n f a = false_true h
  comes_back w b test new (Some s) e h n f a =
      let k = found (IsIn t.root) (λ r. is_taken_by w r.hold && same_place b (place_of_spot r)) (pending_spots t) s (all_in t.root) e in
      let own = own_task a w (node_here (levels_of s)) (index_here (levels_of s)) s.hold (and-left (is_taken_by w s.hold) _ k.passes) in
      let here = same_place-is b (place_of_spot s) (and-right (is_taken_by w s.hold) _ k.passes) in
      let same = ap (λ (p : Place). one_if (same_place a p)) here in
      let old = root_tasks a s k.holds in
      let round = f s h n a in
      let m = among a in
      let d = dropped a b places in
      omega (arith, own, same, old, round, m, d)

  -- a task that was pruned is given up
  given_up : (w : ℕ) (b : Place) → list_any (is_task w b) t.lost ≡ true → AreAmong (record t { lost = without_task w b t.lost }) (without_place b places)
  given_up w b h a = let l = fewer t.lost h in let m = among a in let d = dropped a b places in omega (arith, l, m, d)
    where
      fewer : (tasks : List Task) → list_any (is_task w b) tasks ≡ true
          → tasks_at a (without_task w b tasks) + one_if (same_place a b) ≤ tasks_at a tasks
      fewer [] h = false_true h
      fewer (task ∷ tasks) h = by_first (is_task w b task) refl (fewer tasks) h
        where
          by_first : (x : Bool) → is_task w b task ≡ x
              → (list_any (is_task w b) tasks ≡ true → tasks_at a (without_task w b tasks) + one_if (same_place a b) ≤ tasks_at a tasks)
              → (x || list_any (is_task w b) tasks) ≡ true
              → tasks_at a (cond x tasks (task ∷ without_task w b tasks)) + one_if (same_place a b) ≤ tasks_at a (task ∷ tasks)
          by_first true e f k =
              let same = ap (λ (p : Place). one_if (same_place a p)) (same_place-is task.at b (and-right (task.worker == w) _ e)) in
              omega (arith, same)
          by_first false e f k = let l = f k in omega (arith, l)

  waits : (s : Spot) (frozen : Bool) (g : Option Gate) → LeavesRound t s (with_status s (Pending (gate_or_frozen frozen g) s.entry) t)
  waits s frozen g a =
      let h = plug_tasks a (levels_of s) (Pending (gate_or_frozen frozen g) s.entry) in
      let z = ap (tasks_at a) (no_task frozen g) in
      omega (arith, h, z)
    where
      no_task : (b : Bool) (g : Option Gate) → task_at (gate_or_frozen b g) (node_here (levels_of s)) (index_here (levels_of s)) ≡ []
      no_task true g = refl
      no_task false (Some g) = refl
      no_task false None = refl

  run_back : (s : Spot) (k : ℕ) (sizes : List ℕ) (o : Option (List Entry)) → (nat_le 1 k && run_fits (length (levels_of s)) sizes o) ≡ true
      → LeavesRound t s (run_placed s k sizes o t)
  run_back s k sizes None h = false_true (and-right (nat_le 1 k) false h)
  run_back s k sizes (Some es) h = run_leaves t s k sizes es

  pub allowed_among : (e : Event) → is_allowed t e ≡ true → (after_allowed t e).halted ≡ None → AreAmong (after_allowed t e) (out_by e places)
  unfolding gate_of
  allowed_among (Claim w b) h n = offered_out w b (claimable t) (λ s e. (claimable_open t s e).inside) h
  allowed_among (Resume w b) h n = offered_out w b (resumable t) (λ s e. (resumable_open t s e).inside) h
  allowed_among (Suspend w b true) h n = comes_back w b _ _ (taken_at w b t) refl h n (λ s p q. waits s true (gate_of t s))
  allowed_among (Suspend w b false) h n = comes_back w b _ _ (taken_at w b t) refl h n (λ s p q. waits s false (gate_of t s))
  allowed_among (Nodes w b k sizes) h n = comes_back w b _ _ (taken_at w b t) refl h n (λ s p q. run_back s k sizes (run_of t s k) p)
  allowed_among (Empty w b k) h n = comes_back w b _ _ (taken_at w b t) refl h n (λ s p q. closing_leaves t s _)
  allowed_among (Collected w b k) h n = comes_back w b _ _ (taken_at w b t) refl h n (λ s p q. closing_leaves t s _)
  allowed_among (Lost w b) h n = given_up w b h
  allowed_among (Prune w b) h n = comes_back w b _ (λ s. gate_pruned s (gate_of t s) (or_none (taken_alone t.job.clauses (spot_stack s))) t)
      (taken_at w b t) refl h n (λ s p q. prune_leaves t s t.job.clauses (spot_stack s) p)
  allowed_among (Answer w b true) h n = false_true h
  allowed_among (Answer w b false) h n = comes_back w b _ (λ s. world_moved s (taken_at_front t.job.clauses (spot_stack s) t.world) t)
      (taken_at w b t) refl h n
      (λ s p q. front_leaves (record t { world = (taken_at_front t.job.clauses (spot_stack s) t.world).0 }) s
      (taken_at_front t.job.clauses (spot_stack s) t.world).1 (front_whole t.job.clauses (spot_stack s) t.world) q)
  allowed_among (Stop w) h n = among
