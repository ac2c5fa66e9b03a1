-- A goal of the world at the front that throws.
use Rattle.std.proofs.Common.{◌≡◌, ℕ, suc, ◌+◌, true, false, List, [], ◌∷◌, ◌++◌, map, length, Option, Some, None, refl, sym, ap, ◌∙◌}
use Rattle.std.proofs.Common.{subst, arith}
use Rattle.au_term.specs.Term.{Term}
use Rattle.au_model.specs.Terms.Substitutions.{Substitution}
use Rattle.au_model.specs.Terms.Copies.{copied}
use Rattle.run_model.specs.Goals.Worlds.{World, world_step}
use Rattle.run_model.specs.Machine.Balls.{unwound}
use Rattle.run_model.specs.Goals.Outcomes.{Ball, AskWorld}
use Rattle.run_model.specs.Goals.GoalOutcomes.{outcome_of}
use Rattle.run_model.specs.Machine.Items.{Item, GoalItem, Continuation, with_items, without_marks, first_mark}
use Rattle.run_model.specs.Machine.Entries.{PlainEntry, CatchEntry}
use Rattle.tree_model.specs.Nodes.{Pending, Dormant}
use Rattle.tree_model.specs.Levels.{Level, Place, Spot, levels_of}
use Rattle.tree_model.specs.Floors.{floor_of, renamed_item, query_node}
use Rattle.tree_model.specs.FrontGates.{world_taken, goal_at_front}
use Rattle.tree_model.specs.Events.{Answer}
use Rattle.tree_model.specs.TreeStates.{TreeState}
use Rattle.tree_model.specs.Legality.{taken_at}
use Rattle.tree_model.specs.Effects.{ball_falls, world_moved, after_event}
use Rattle.tree_model.specs.PendingLists.{way_of, scope_on, named_continuation, pending_list, front_of, back_of}
use Rattle.tree_model.specs.Ways.{under_query}
use Rattle.tree_model.specs.SoundTrees.{IsSoundTree}
use Rattle.tree_model.specs.CaughtTrees.{MarksCaught, IsCaughtTree}
use Rattle.tree_model.specs.Elements.{Name, Record, Element, Credit, Plain, EndOf, End}
use Rattle.interleaving.specs.Machine.{Machine, AsksWorld, Seek, gives, placed, search_for, free_steps, run, seen}
use Rattle.interleaving.specs.Scopes.{Shared, Sought, Thrown, ElementReplacement, act, item_act, goal_act, world_replied, scoped}
use Rattle.interleaving.specs.Quiet.{inferences, records}
use Rattle.interleaving.specs.Sound.{IsSound}
use Rattle.interleaving.specs.Follows.{lead, Follows}
use Rattle.interleaving.specs.HistoryInvariants.{shared_of, AnswerMoves}
use Rattle.interleaving.proofs.RoundtripLemmas.{by_heights}
use Rattle.interleaving.proofs.OpenSpotLemmas.{IsOpenSpot}
use Rattle.interleaving.proofs.AppendLemmas.{append-assoc}
use Rattle.interleaving.proofs.RunFrontLemmas.{map-none}
use Rattle.interleaving.proofs.QuietCreditLemmas.{gives-fixed}
use Rattle.interleaving.proofs.ListChangeLemmas.{records_given}
use Rattle.interleaving.proofs.SoundEarlyLemmas.{sound-after}
use Rattle.interleaving.proofs.SoundStepLemmas.{asks-sound}
use Rattle.interleaving.proofs.LeadLemmas.{lead-quiet, follows_then, follows_from, follows_becoming}
use Rattle.interleaving.proofs.ClockLemmas.{IsFirst, quiet-append, inferences-append, front_quiet}
use Rattle.interleaving.proofs.EndLemmas.{end_pending}
use Rattle.interleaving.proofs.HaltMoveLemmas.{dropped_names}
use Rattle.interleaving.proofs.ListScopeLemmas.{dormant_on}
use Rattle.interleaving.proofs.ListsSoundLemmas.{lists_are_sound}
use Rattle.interleaving.proofs.WakeLemmas.{second_right}
use Rattle.interleaving.proofs.FrontCloseLemmas.{bare}
use Rattle.interleaving.proofs.CaughtFrontLemmas.{clear_part}
use Rattle.interleaving.proofs.CatchingLemmas.{Catching, Uncaught, CaughtBy, catching, catching_entries, MarkIsDormant, IsTaken, IsCatcher}
use Rattle.interleaving.proofs.CatchingLemmas.{ball_scope_falls}
use Rattle.interleaving.proofs.CatchingLemmas.{catching_taken, first_height, first_dormant}
use Rattle.interleaving.proofs.BallPlaceLemmas.{query_at}
use Rattle.interleaving.proofs.LowerListLemmas.{lower_back, back_split}
use Rattle.interleaving.proofs.BallSearchLemmas.{mark_name, first_name, named_recovery, catch_element}
use Rattle.interleaving.proofs.BallCatchLemmas.{finds, search_found, none_lost, loses}
use Rattle.interleaving.proofs.BallFollowsLemmas.{free_top}
use Rattle.interleaving.proofs.BallRecoveryLemmas.{ball_wakes, front_passes, front_sound}
use Rattle.interleaving.proofs.LostBallLemmas.{lost_end, lost_ball_closes}
use Rattle.interleaving.proofs.PrunedBallLemmas.{placed_here, free_here, distinct_here, root_here, unspent_here, sides_here, list_here}
use Rattle.interleaving.proofs.PrunedBallLemmas.{sound_here, root_is, recovery, caught_ends}
use Rattle.interleaving.proofs.FrontStepLemmas.{bare_sound, front_taken, gate_moves}
use Rattle.interleaving.proofs.WorldGoalLemmas.{moved_is, fh}

module _ (t : TreeState) (w : ℕ) (a : Place) (s : Spot) (f : Continuation ℕ) (e : taken_at w a t ≡ Some s)
    (entry : s.entry ≡ PlainEntry f) (answers : ℕ) (i : IsSoundTree t) (k : IsCaughtTree t) (running : t.halted ≡ None)
    (first : IsFirst t s) (asked : under_query (way_of (levels_of s)) ≡ true) where
  abbrev levels : List Level
  levels = levels_of s

  abbrev v : Level
  v = s.level

  abbrev m : Machine Shared Element Sought Record
  m = scoped t.job.clauses

  abbrev own : Name
  own = 0 ∷ length s.level.left ∷ s.level.number ∷ []

  abbrev sc : ℕ → Name
  sc = scope_on (way_of (levels_of s))

  abbrev named : Continuation Name
  named = named_continuation (way_of (levels_of s)) f

  o : IsOpenSpot t.root s
  o = record { inside = first.inside; opened = first.opened }

  -- the tree after a ball
  abbrev fallen : World → Term → Catching → TreeState
  fallen after ball x = record (ball_falls s (catching_entries ball x) (record t { world = after }))
      { history = t.history ++ Answer w a false ∷ [] }

  module _ (g : Shared → Shared × ElementReplacement) (after : World) (ball : Term) (mark : Option ℕ)
      (sleeps : MarkIsDormant (levels_of s) mark)
      (asks : act t.job.clauses (bare t.job.clauses own named) ≡ AsksWorld g)
      (place : (v : Shared) → v ≡ shared_of answers t → (g v).1 ≡ Seek (Thrown ball (mark_name (way_of (levels_of s)) mark) own)) where
    abbrev sought : Sought
    sought = Thrown ball (mark_name (way_of levels) mark) own

    abbrev given : List Element → List Element
    given xs = map (gives m (records (front_of levels))) xs

    taken : (new : TreeState) → (g (shared_of answers t)).0 ≡ shared_of answers new → (ys : List Element)
        → search_for m sought (given (back_of levels)) ≡ ys → (n : ℕ)
        → run m (inferences (front_of levels) + suc n) (shared_of answers t)
        (free_steps m [] (front_of levels ++ (Credit v.spent [] ∷ (Plain own named ∷ back_of levels))))
        ≡ run m n (shared_of answers new) (free_steps m [] ys)
    taken new world ys found n =
        front_taken t.job.clauses (front_of levels) (back_of levels) v.spent own named g (shared_of answers t) n
        (front_quiet levels first.clear) (unspent_here t i k running s o f entry) asks
        ∙ (ap (λ x. run m n x (free_steps m [] (placed m (g (shared_of answers t)).1 (given (back_of levels))))) world
        ∙ ap (λ l. run m n (shared_of answers new) (free_steps m [] l))
        (ap (λ p. placed m p (given (back_of levels))) (place (shared_of answers t) refl) ∙ found))

    caught_moves : (c : Level) (up : List Level) (r : Term) (h : Continuation ℕ) (u : Substitution)
        → IsCatcher ball (levels_of s) c up r h u → catching ball (levels_of s) mark ≡ CaughtBy c up r h u → (g (shared_of answers t)).0
        ≡ shared_of answers (fallen after ball (CaughtBy c up r h u))
        → IsSoundTree (fallen after ball (CaughtBy c up r h u)) → IsCaughtTree (fallen after ball (CaughtBy c up r h u))
        → AnswerMoves t (fallen after ball (CaughtBy c up r h u)) answers answers
    caught_moves c up r h u q falls world j b =
        let clauses = t.job.clauses in
        let new = fallen after ball (CaughtBy c up r h u) in
        let p = placed_here t i k running s o f entry in
        let d = distinct_here t i k running s o f entry in
        let free = free_here t i k running s o f entry in
        let sides = sides_here t i k running s o f entry in
        let root = root_here t i k running s o f entry in
        let unspent = unspent_here t i k running s o f entry in
        let status = Pending s.hold s.entry in
        let clear = clear_part (Some c.number) levels first.clear in
        let end = EndOf (1 ∷ c.number ∷ []) in
        let zs = end ∷ back_of up in
        let back : back_of levels ≡ lower_back c.number levels ++ (EndOf (0 ∷ c.number ∷ []) ∷ (catch_element c up q.catcher r h ∷ zs))
        = back_split c.number levels ∙ (ap (λ l. lower_back c.number levels ++ back_of l) q.down
        ∙ ap (λ l. lower_back c.number levels ++ (l ++ back_of up))
        (second_right c up q.sleeper.spent (Pending Dormant (CatchEntry q.catcher r h)) q.sleeper.left q.sleeper.right)) in
        let rest = named_recovery ball c up r h u ∷ zs in
        let finds_at = λ (rs : List Record). finds clauses ball own rs levels status mark p.around d root.caught sleeps c up r h u falls
        q.catcher q.unifies zs in
        let rs = records (front_of levels) in
        let found : search_for m sought (given (back_of levels)) ≡ named_recovery ball c up r h u ∷ given zs = ap
        (λ l. search_for m sought (given l)) back ∙ search_found clauses sought _ _ (finds_at rs) in
        let fixed : given rest ≡ named_recovery ball c up r h u ∷ given zs = ap (λ x. x ∷ given zs)
        (gives-fixed clauses rs (named_recovery ball c up r h u) tt) in
        let behind = (sound-after (front_of levels) _ (sound_here t i k running s o f entry)).1 in
        let placed_sound : IsSound (search_for m sought (back_of levels)) = subst (λ x. IsSound (placed m x (back_of levels)))
        (place (shared_of answers t) refl)
        (asks-sound clauses (bare clauses own named) g (back_of levels) asks (bare_sound clauses own named (back_of levels) behind)
        (shared_of answers t)) in
        let plain : search_for m sought (back_of levels)
        ≡ rest = ap (search_for m sought) (sym (map-none m (back_of levels)) ∙ ap (map (gives m [])) back)
        ∙ (search_found clauses sought _ _ (finds_at []) ∙ ap (λ l. named_recovery ball c up r h u ∷ l) (map-none m zs)) in
        let rest_sound : IsSound rest = subst IsSound plain placed_sound in
        let own_in = free_top clauses t.next v s.above own named p.around d free sides c up r h u ball q in
        let mid = front_sound clauses t.next v s.above own named p.around d free sides c up r h u ball q clear own_in
        (sound_here t i k running s o f entry) rest_sound in
        let one = front_passes clauses t.next v s.above own named p.around d free sides c up r h u ball q clear in
        let same = root_is t i k running s o f entry ball mark sleeps c up r h u q in
        let two = ball_wakes clauses t.next v s.above own named p.around d free sides c up r h u ball q
        (recovery t i k running s o f entry ball mark sleeps up r h u) refl refl refl clear unspent mid
        (subst (λ x. IsSound (pending_list x)) same (lists_are_sound new j b)) in
        gate_moves t new s answers i k running first (record {
          element = Plain own named;
          list = list_here t i k running s o f entry;
          left = named_recovery ball c up r h u ∷ given zs;
          taken = taken new world _ found;
          credit = v.spent + 1;
          one = refl;
          rest = rest;
          follows = follows_from _ clauses _ _ (subst (λ x. Follows clauses (front_of levels ++ (Credit (v.spent + 1) [] ∷ rest))
              (pending_list x)) (sym same) (follows_then clauses _ _ _ one.follows two));
          alike = λ n. ap (λ l. seen (run m n (shared_of answers new) (free_steps m [] l))) (sym fixed);
          running = running;
        }) (λ l. absurd (end_pending new j (caught_ends t i k running s o f entry ball mark sleeps c up r h u q) l))

    lost_moves : catching ball (levels_of s) mark ≡ Uncaught → (g (shared_of answers t)).0 ≡ shared_of answers (fallen after ball Uncaught)
        → IsSoundTree (fallen after ball Uncaught) → IsCaughtTree (fallen after ball Uncaught)
        → AnswerMoves t (fallen after ball Uncaught) answers answers
    lost_moves falls world j b =
        let clauses = t.job.clauses in
        let new = fallen after ball Uncaught in
        let p = placed_here t i k running s o f entry in
        let d = distinct_here t i k running s o f entry in
        let root = root_here t i k running s o f entry in
        let unspent = unspent_here t i k running s o f entry in
        let status = Pending s.hold s.entry in
        let ball_end = End own (Some (copied ball 0)) in
        let q = query_at levels p.around asked in
        let below = clear_part (Some (query_node levels)) levels first.clear in
        let front = front_of levels in
        let rs = records front in
        let found = none_lost clauses ball own sought (given (back_of levels)) (refl, refl)
        (loses clauses ball own rs levels status mark p.around d root.caught sleeps falls) in
        let xs = front ++ (Credit (v.spent + 1) [] ∷ []) in
        let quiet = quiet-append front (Credit (v.spent + 1) [] ∷ []) (front_quiet levels first.clear) tt in
        let rows = records_given clauses xs [] (ball_end ∷ []) tt quiet in
        let fixed : map (gives m (records xs)) (ball_end ∷ [])
        ≡ ball_end ∷ [] = ap (λ x. x ∷ []) (gives-fixed clauses (records xs) ball_end tt) in
        let total : inferences xs ≡ inferences front + (v.spent + 1 + 0) = inferences-append front (Credit (v.spent + 1) [] ∷ []) in
        let long : lead (xs ++ (ball_end ∷ [])) ≡ inferences xs + 0 = lead-quiet xs (ball_end ∷ []) quiet in
        let one : Follows clauses (xs ++ (ball_end ∷ [])) (Credit (inferences xs) [] ∷ (ball_end ∷ [])) = subst
        (λ l. Follows clauses (xs ++ (ball_end ∷ [])) (Credit (inferences xs) [] ∷ l)) fixed
        (follows_becoming clauses (xs ++ (ball_end ∷ [])) (Credit (inferences xs) [] ∷ map (gives m (records xs)) (ball_end ∷ []))
        rows (omega (arith, long))) in
        let two = lost_ball_closes clauses t.next v s.above status p.around root.last q below own (Some (copied ball 0)) (inferences xs)
        unspent (omega (arith, total, unspent)) in
        let joined : xs ++ (ball_end ∷ []) ≡ front ++ (Credit (v.spent + 1) [] ∷ (ball_end ∷ [])) = append-assoc front
        (Credit (v.spent + 1) [] ∷ []) (ball_end ∷ []) in
        gate_moves t new s answers i k running first (record {
          element = Plain own named;
          list = list_here t i k running s o f entry;
          left = ball_end ∷ [];
          taken = taken new world _ found;
          credit = v.spent + 1;
          one = refl;
          rest = ball_end ∷ [];
          follows = follows_from _ clauses _ _ (subst (λ l. Follows clauses l (pending_list new.root)) joined
              (follows_then clauses _ _ _ one two));
          alike = λ n. ap (λ l. seen (run m n (shared_of answers new) (free_steps m [] l)))
              (sym (ap (λ x. x ∷ []) (gives-fixed clauses rs ball_end tt)));
          running = running;
        }) (λ l. absurd (end_pending new j (lost_end clauses t.next v s.above status p.around root.last q below (Some (copied ball 0))) l))

    pub falls_move : (x : Catching) → catching ball (levels_of s) mark ≡ x → IsTaken ball (levels_of s) x → (g (shared_of answers t)).0
        ≡ record (shared_of answers t) { world = after; halted = None } → IsSoundTree (fallen after ball x)
        → IsCaughtTree (fallen after ball x) → AnswerMoves t (fallen after ball x) answers answers
    falls_move Uncaught falls q world j b = lost_moves falls
        (world ∙ ap (λ h. record { world = after; queries = t.queries; answers = answers; halted = h }) (sym running)) j b
    falls_move (CaughtBy c up r h u) falls q world j b = caught_moves c up r h u q falls
        (world ∙ ap (λ h. record { world = after; queries = t.queries; answers = answers; halted = h }) (sym running)) j b

  -- a goal of the world that throws
  pub ball_moves : (goal ask : Term) (scope : ℕ) (items : List (Item ℕ)) (after : World) (ball : Term) → without_marks f.items
      ≡ GoalItem goal scope ∷ items → MarksCaught (dormant_on (levels_of s)) items → outcome_of t.job.clauses goal f.next ≡ AskWorld ask
      → world_step t.job.clauses ask f.next t.world ≡ (after, Ball ball) → IsSoundTree (after_event t (Answer w a false))
      → IsCaughtTree (after_event t (Answer w a false)) → AnswerMoves t (after_event t (Answer w a false)) answers answers
  ball_moves goal ask scope items after ball q marks outcome step j r =
      let clauses = t.job.clauses in
      let mark = first_mark items in
      let sleeps = first_dormant levels items marks in
      let p = placed_here t i k running s o f entry in
      let root = root_here t i k running s o f entry in
      let status = Pending s.hold s.entry in
      let lands_so : unwound ball (first_mark (by_heights levels items)) (floor_of levels)
      ≡ catching_entries ball (catching ball levels mark) =
      ap (λ n. unwound ball n (floor_of levels)) (first_height levels items) ∙ ball_scope_falls ball levels status mark p.around
      root.caught sleeps in
      let high = fh t w a s f e entry in
      let tree : after_event t (Answer w a false) ≡ fallen after ball (catching ball levels mark) =
      moved_is t w a s f e entry (GoalItem goal scope ∷ items) q
      ∙ (ap (λ x. record (world_moved s
      (goal_at_front clauses x (with_items (by_heights levels items) high) (floor_of levels) t.world) t)
      { history = t.history ++ Answer w a false ∷ [] }) outcome
      ∙ (ap (λ x. record (world_moved s (world_taken x (with_items (by_heights levels items) high) (floor_of levels)) t)
      { history = t.history ++ Answer w a false ∷ [] }) step
      ∙ ap (λ es. record (ball_falls s es (record t { world = after })) { history = t.history ++ Answer w a false ∷ [] }) lands_so)) in
      let nr : Continuation Name = record { items = map (renamed_item sc sc) items; named = f.named; next = f.next } in
      let g : Shared → Shared × ElementReplacement = λ v. world_replied (world_step clauses ask f.next v.world) own nr v in
      let ws : without_marks named.items ≡ GoalItem goal (sc scope) ∷ map (renamed_item sc sc) items = dropped_names sc sc f.items
      ∙ ap (map (renamed_item sc sc)) q in
      let asks : act clauses (bare clauses own named)
      ≡ AsksWorld g = ap (λ is. item_act clauses is own (with_items (without_marks named.items) named)) ws
      ∙ ap (λ x. goal_act clauses x own (sc scope) nr) outcome in
      let place : (g (shared_of answers t)).1 ≡ Seek (Thrown ball (mark_name (way_of levels) mark) own) = ap
      (λ x. (world_replied x own nr (shared_of answers t)).1) step
      ∙ ap (λ n. Seek (Thrown ball n own)) (first_name (way_of levels) items) in
      let world : (g (shared_of answers t)).0 ≡ record (shared_of answers t) { world = after; halted = None } = ap
      (λ x. (world_replied x own nr (shared_of answers t)).0) step in
      subst (λ new. AnswerMoves t new answers answers) (sym tree)
      (falls_move g after ball mark sleeps asks (λ x y. ap (λ z. (g z).1) y ∙ place) (catching ball levels mark) refl
      (catching_taken ball levels status mark p.around root.caught sleeps) world (subst IsSoundTree tree j) (subst IsCaughtTree tree r))
