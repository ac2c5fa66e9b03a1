-- The end of a query at the front.
use Rattle.std.proofs.Common.{◌≡◌, ℕ, suc, ◌+◌, ◌==◌, ◌≤◌, true, false, List, [], ◌∷◌, ◌++◌, map, length, Option, Some, None, refl, sym}
use Rattle.std.proofs.Common.{ap, ◌∙◌, subst, arith}
use Rattle.au_term.specs.Term.{Term}
use Rattle.run_model.specs.Programs.Jobs.{Query, own_terms, query_bound}
use Rattle.au_model.specs.Writing.Lines.{end_line}
use Rattle.run_model.specs.Goals.Worlds.{writes}
use Rattle.run_model.specs.Machine.States.{remaining_queries}
use Rattle.run_model.specs.Machine.Items.{GoalItem, goals_at}
use Rattle.run_model.specs.Machine.Entries.{PlainEntry, EndEntry}
use Rattle.tree_model.specs.Credits.{credit_of}
use Rattle.tree_model.specs.Nodes.{QueryNode, Pending, Inner, Closed}
use Rattle.tree_model.specs.Levels.{Place, plug, Spot, levels_of}
use Rattle.tree_model.specs.Floors.{renamed_item, with_heights, floor_of}
use Rattle.tree_model.specs.FrontGates.{taken_at_front}
use Rattle.tree_model.specs.Events.{Answer}
use Rattle.tree_model.specs.TreeStates.{TreeState, opened_node}
use Rattle.tree_model.specs.Legality.{taken_at}
use Rattle.tree_model.specs.Effects.{spending, query_opens, spot_stack, world_moved, where_some, after_event}
use Rattle.tree_model.specs.PendingLists.{Step, Way, way_of, scope_on, element_on, list_in, pending_list, front_of, back_of}
use Rattle.tree_model.specs.SoundTrees.{IsSoundTree}
use Rattle.tree_model.specs.CaughtTrees.{IsCaught, IsUnspent, IsNoEnd, IsLastQuery, IsCaughtTree}
use Rattle.tree_model.specs.Elements.{Name, Element, Credit, EndOf, End}
use Rattle.tree_model.proofs.CountLemmas.{count_around}
use Rattle.interleaving.specs.Machine.{gives, free_steps, run, seen}
use Rattle.interleaving.specs.Scopes.{Shared, opened_elements, query_end_taken, scoped}
use Rattle.interleaving.specs.Quiet.{inferences, records}
use Rattle.interleaving.specs.HeightMachine.{HeightEntry}
use Rattle.interleaving.specs.Erased.{element_count, height, with_height, erased}
use Rattle.interleaving.specs.Sound.{IsSound}
use Rattle.interleaving.specs.Follows.{lead}
use Rattle.interleaving.specs.HistoryInvariants.{shared_of, AnswerMoves}
use Rattle.interleaving.proofs.ListRoundLemmas.{around}
use Rattle.interleaving.proofs.WayLemmas.{cond-true}
use Rattle.interleaving.proofs.OpenSpotLemmas.{IsOpenSpot, placed_at, count_at}
use Rattle.interleaving.proofs.SoundClosingLemmas.{free_at}
use Rattle.interleaving.proofs.NamingLemmas.{from_own}
use Rattle.interleaving.proofs.QuietCreditLemmas.{map-fixed}
use Rattle.interleaving.proofs.PreservedLemmas.{opened-sound}
use Rattle.interleaving.proofs.SoundEarlyLemmas.{sound-after}
use Rattle.interleaving.proofs.RunHeightLemmas.{names_are_free}
use Rattle.interleaving.proofs.LeadLemmas.{follows_same, follows_from, lead-quiet}
use Rattle.interleaving.proofs.FinishingLemmas.{credits_over}
use Rattle.interleaving.proofs.ClockLemmas.{IsFirst, front_quiet, quiet-append}
use Rattle.interleaving.proofs.EndLemmas.{has_end, end_pending, end_after}
use Rattle.interleaving.proofs.ListScopeLemmas.{IsDistinct}
use Rattle.interleaving.proofs.ListsSoundLemmas.{lists_are_sound}
use Rattle.interleaving.proofs.FoldLemmas.{caught_out}
use Rattle.interleaving.proofs.ClosingListLemmas.{closed_list}
use Rattle.interleaving.proofs.FrontCloseLemmas.{unspent_out}
use Rattle.interleaving.proofs.FrontSoundLemmas.{ended_sound}
use Rattle.interleaving.proofs.BaredLemmas.{bare_becomes}
use Rattle.interleaving.proofs.PlacedNameLemmas.{bare}
use Rattle.interleaving.proofs.FrontEntriesLemmas.{map-parts}
use Rattle.interleaving.proofs.QueryLastLemmas.{RightsNone, rights_none, OnlyEnds, back_ends, ends_lead, ends_given, ends_take_no_step}
use Rattle.interleaving.proofs.QueryLastLemmas.{ends_erased, ends_quiet, closes_lead}
use Rattle.interleaving.proofs.FrontStepLemmas.{front_asked, gate_moves}
use Rattle.au_term.proofs.LogicLemmas.{number_same}

-- goals in a scope, by heights
goals_high : (h g : Name → ℕ) (p q : Name) → h p ≡ g q → (gs : List Term) → map (with_height h) (goals_at p gs)
    ≡ map (with_height g) (goals_at q gs)
goals_high h g p q e [] = refl
goals_high h g p q e (t ∷ gs) = ap (λ n. GoalItem t n ∷ map (with_height h) (goals_at p gs)) e
    ∙ ap (λ l. GoalItem t (g q) ∷ l) (goals_high h g p q e gs)

goals_named : (sc : ℕ → Name) (n : ℕ) (gs : List Term) → map (renamed_item sc sc) (goals_at n gs) ≡ goals_at (sc n) gs
goals_named sc n [] = refl
goals_named sc n (t ∷ gs) = ap (λ l. GoalItem t (sc n) ∷ l) (goals_named sc n gs)

-- the next query's list, by the names of the run and of its node
opened_same : (p : Name) (q : Query) (qs : List Query) (way : Way) (next : ℕ) (back : List Element) → OnlyEnds back
    → erased (opened_elements p (q ∷ qs)) ≡ erased (bare (list_in way (opened_node next q)) ++ back)
opened_same p q qs way next back ends =
    let none = ends_erased back ends in
    let step : Step = record { node = next; index = 0; kind = QueryNode } in
    let here : scope_on (step ∷ way) next ≡ 0 ∷ next ∷ [] = cond-true (next == next) _ (scope_on way next) (number_same next) in
    let tail = End (0 ∷ 1 ∷ next ∷ []) None ∷ (EndOf (1 ∷ next ∷ []) ∷ back) in
    let zs = EndOf (0 ∷ next ∷ []) ∷ tail in
    let ys = EndOf p ∷ (End (1 ∷ p) None ∷ []) in
    let one : height ys p ≡ 1 = ap element_count (from_own p (End (1 ∷ p) None ∷ [])) in
    let two : height zs (0 ∷ next ∷ []) ≡ suc (element_count back) = ap element_count (from_own (0 ∷ next ∷ []) tail) in
    let same : height ys p ≡ height zs (0 ∷ next ∷ []) = one ∙ (ap suc (sym none.1) ∙ sym two) in
    let items : map (with_height (height ys)) (goals_at p q.goals)
    ≡ map (with_height (height zs)) (map (renamed_item (scope_on (step ∷ way)) (scope_on (step ∷ way))) (goals_at next q.goals)) =
    goals_high (height ys) (height zs) p (0 ∷ next ∷ []) same q.goals
    ∙ ap (map (with_height (height zs)))
    (sym (goals_named (scope_on (step ∷ way)) next q.goals ∙ ap (λ n. goals_at n q.goals) here)) in
    ap (λ l. HeightEntry (PlainEntry (record { items = l; named = own_terms q.names; next = query_bound q })) ∷ HeightEntry
    (EndEntry None) ∷ []) items
    ∙ ap (λ l. HeightEntry (PlainEntry
    (record {
      items = map (with_height (height zs))
          (map (renamed_item (scope_on (step ∷ way)) (scope_on (step ∷ way))) (goals_at next q.goals));
      named = own_terms q.names;
      next =
          query_bound q;
    })) ∷ HeightEntry (EndEntry None) ∷ l) (sym none.0)

module _ (t : TreeState) (w : ℕ) (a : Place) (s : Spot) (b : Option Term) (e : taken_at w a t ≡ Some s) (entry : s.entry ≡ EndEntry b) where
  abbrev pub ended_tree : List Query → TreeState
  ended_tree qs = record (query_opens s qs (record t { world = writes (end_line t.world.operators b) t.world }))
      { history = t.history ++ Answer w a false ∷ [] }

  ended_is : after_event t (Answer w a false) ≡ ended_tree t.queries
  unfolding after_event
  ended_is =
      ap (λ o. record (where_some o t (λ r. world_moved r (taken_at_front t.job.clauses (spot_stack r) t.world) t))
      { history = t.history ++ Answer w a false ∷ [] }) e
      ∙ ap (λ x. record (world_moved s (taken_at_front t.job.clauses (with_heights (levels_of s) x ∷ floor_of (levels_of s)) t.world) t)
      { history = t.history ++ Answer w a false ∷ [] }) entry

  module _ (answers : ℕ) (i : IsSoundTree t) (k : IsCaughtTree t) (running : t.halted ≡ None) (first : IsFirst t s) where
    abbrev own : Name
    own = 0 ∷ length s.level.left ∷ s.level.number ∷ []

    abbrev world_after : Shared
    world_after = record (shared_of answers t) {
      world = writes
          (end_line t.world.operators b) t.world;
      queries = remaining_queries t.queries;
    }

    open_spot : IsOpenSpot t.root s
    open_spot = record { inside = first.inside; opened = first.opened }

    old_list : pending_list t.root ≡ front_of (levels_of s) ++ (Credit s.level.spent [] ∷ (End own b ∷ back_of (levels_of s)))
    old_list = first.list ∙ ap (λ x. front_of (levels_of s)
        ++ (Credit s.level.spent [] ∷ (element_on (way_of (levels_of s)) x ∷ back_of (levels_of s)))) entry

    unspent : s.level.spent ≡ 0
    unspent = unspent_out s.level s.above (Pending s.hold s.entry) (subst (IsUnspent 0) (sym first.inside) (k.unspent running))

    rights : RightsNone (levels_of s)
    rights = rights_none (levels_of s) (Pending s.hold s.entry) (λ z. subst IsNoEnd entry z) (subst IsLastQuery (sym first.inside) k.last)

    taken : (n : ℕ) → run (scoped t.job.clauses) (inferences (front_of (levels_of s)) + suc n) (shared_of answers t)
        (free_steps (scoped t.job.clauses) []
        (front_of (levels_of s) ++ (Credit s.level.spent [] ∷ (End own b ∷ back_of (levels_of s)))))
        ≡ run (scoped t.job.clauses) n world_after (free_steps (scoped t.job.clauses) [] (opened_elements own t.queries))
    taken n = front_asked t.job.clauses (front_of (levels_of s)) (back_of (levels_of s)) s.level.spent (End own b) (query_end_taken b own)
        (shared_of answers t) n (front_quiet (levels_of s) first.clear) unspent refl

    -- the last query
    last_moves : t.queries ≡ [] → IsSoundTree (ended_tree []) → IsCaughtTree (ended_tree []) → AnswerMoves t (ended_tree []) answers answers
    last_moves none j r =
        let new = ended_tree [] in
        let levels = levels_of s in
        let clauses = t.job.clauses in
        let front = front_of levels in
        let back = back_of levels in
        let one = credit_of 1 in
        let p = placed_at t s i open_spot in
        let distinct : IsDistinct levels = λ n. subst (λ x. x ≤ 1) (count_at t s open_spot n) (i.distinct n) in
        let fresh : count_around t.next levels ≡ 0 = (free_at t s i open_spot).fresh t.next (omega arith) in
        let caught = caught_out levels (Pending s.hold s.entry)
        (subst (λ root. IsCaught (λ n. false) false false root) (sym open_spot.inside) k.caught) in
        let base : pending_list (plug levels (Closed one)) ≡ front ++ (Credit 1 [] ∷ back) = closed_list levels one in
        let ends = back_ends levels rights in
        let sound_base : IsSound (pending_list (plug levels (Closed one))) = subst IsSound (sym base)
        (ended_sound (length s.level.left) s.level.number clauses levels s.level.spent 1 b back first.clear
        (subst IsSound old_list (lists_are_sound t i k))) in
        let m = scoped clauses in
        let free_taken = closes_lead t.next levels one p.around first.clear rights caught.0 in
        let less = free_taken.less in
        let quiet = front_quiet levels first.clear in
        let whole : lead (front ++ (Credit 1 [] ∷ back)) ≡ inferences front + (1 + lead back) = lead-quiet front (Credit 1 [] ∷ back)
        quiet in
        let count : lead (pending_list t.root) ≡ inferences front + s.level.spent = first.leads in
        let zero_back : lead back ≡ 0 = ends_lead back ends in
        let none_spent = unspent in
        let is_base = ap lead base in
        gate_moves t new s answers i k running first (record {
          element = End own b;
          list = old_list;
          left = [];
          taken = λ n. taken n ∙ (ap (λ qs.
              run m n (record (shared_of answers t)
              { world = writes (end_line t.world.operators b) t.world; queries = remaining_queries qs })
              (free_steps m [] (opened_elements own qs)))
              none ∙ ap (λ qs. run m n (record (shared_of answers t)
              { world = writes (end_line t.world.operators b) t.world; queries = qs }) []) (sym none));
          credit = 1;
          one = (let u = unspent in omega (arith, u));
          rest = back;
          follows = record {
            alike = λ n w x y. ap seen (credits_over clauses (front ++ (Credit 1 [] ∷ back)) n w
                (quiet-append front (Credit 1 [] ∷ back) quiet (ends_quiet back ends))
                (omega (arith, x, whole, count, zero_back, none_spent))
                ∙ sym (credits_over clauses (pending_list new.root) n w free_taken.quiet
                (omega (arith, x, less, whole, count, zero_back, none_spent, is_base))));
            lead = λ x b l. free_taken.enough x b (omega (arith, is_base, l));
          };
          alike = λ n. ap (λ l. seen (run m n (shared_of answers new) l))
              (sym (ap (free_steps m []) (ends_given clauses (records front) back ends) ∙ ends_take_no_step clauses back ends));
          running = running;
        }) (λ l. omega (arith, less, whole, count, zero_back, is_base))

    -- the next query
    next_moves : (q : Query) (qs : List Query) → t.queries ≡ q ∷ qs → IsSoundTree (ended_tree (q ∷ qs))
        → IsCaughtTree (ended_tree (q ∷ qs)) → AnswerMoves t (ended_tree (q ∷ qs)) answers answers
    next_moves q qs some j r =
        let new = ended_tree (q ∷ qs) in
        let levels = levels_of s in
        let clauses = t.job.clauses in
        let m = scoped clauses in
        let front = front_of levels in
        let back = back_of levels in
        let rs = records front in
        let inner = list_in (way_of levels) (opened_node t.next q) in
        let ends = back_ends levels rights in
        let list : pending_list new.root ≡ front ++ (Credit (s.level.spent + 1) [] ∷ (inner ++ back)) = around (spending 1 levels)
        (Inner (opened_node t.next q)) in
        let fixed : map (gives m rs) (inner ++ back) ≡ inner ++ back = map-parts clauses rs inner back
        ∙ (ap (λ l. l ++ map (gives m rs) back) (map-fixed clauses rs inner (tt, (tt, (tt, (tt, (tt, tt))))))
        ∙ ap (λ l. inner ++ l) (ends_given clauses rs back ends)) in
        let sound : IsSound (inner ++ back) =
        (sound-after front (Credit (s.level.spent + 1) [] ∷ (inner ++ back)) (subst IsSound list (lists_are_sound new j r))).1 in
        let bares = bare_becomes clauses [] inner back in
        let free = names_are_free clauses (opened_elements own (q ∷ qs)) (bare inner ++ back) (opened-sound own (q ∷ qs))
        (bares.sound sound)
        (opened_same own q qs (way_of levels) t.next back ends) in
        let still : has_end (pending_list new.root) ≡ true = ap has_end list
        ∙ end_after front (Credit (s.level.spent + 1) [] ∷ (inner ++ back)) refl in
        gate_moves t new s answers i k running first (record {
          element = End own b;
          list = old_list;
          left = opened_elements own (q ∷ qs);
          taken = λ n. taken n ∙ ap (λ x.
              run m n (record (shared_of answers t)
              { world = writes (end_line t.world.operators b) t.world; queries = remaining_queries x })
              (free_steps m [] (opened_elements own x)))
              some;
          credit = s.level.spent + 1;
          one = refl;
          rest = inner ++ back;
          follows = follows_from _ clauses _ _ (follows_same clauses _ _ (sym list));
          alike = λ n. free n (shared_of answers new)
              ∙ (sym (bares.alike n (shared_of answers new)) ∙ ap (λ l. seen (run m n (shared_of answers new) (free_steps m [] l)))
              (sym fixed));
          running = running;
        }) (λ l. absurd (end_pending new j still l))

    pub ends_move : IsSoundTree (after_event t (Answer w a false)) → IsCaughtTree (after_event t (Answer w a false))
        → AnswerMoves t (after_event t (Answer w a false)) answers answers
    ends_move j r = subst (λ new. AnswerMoves t new answers answers) (sym ended_is)
        (go t.queries refl (subst IsSoundTree ended_is j) (subst IsCaughtTree ended_is r))
      where
        go : (qs : List Query) → t.queries ≡ qs → IsSoundTree (ended_tree qs) → IsCaughtTree (ended_tree qs)
            → AnswerMoves t (ended_tree qs) answers answers
        go [] q j r = last_moves q j r
        go (x ∷ qs) q j r = next_moves x qs q j r
