-- Prefix and End, from what a legal history keeps.
use Rattle.std.proofs.Common.{◌≡◌, ℕ, zero, suc, ◌+◌, ◌-◌, ◌≤◌, ◌<◌, Bool, true, false, cond, List, [], ◌∷◌, Option, Some, None, refl}
use Rattle.std.proofs.Common.{sym, ap, ◌∙◌, subst, arith}
use Rattle.std.specs.Prelude.{min, nat_le, ◌≢◌}
use Rattle.run_model.specs.declared.ending.RunEnding.{RunEnding}
use Rattle.run_model.specs.declared.ending.RunEnding.TheVariants.{Budget, Finished, Halted}
use Rattle.run_model.specs.Machine.Entries.{Entry}
use Rattle.run_model.specs.Programs.Jobs.{Job}
use Rattle.run_model.specs.Machine.Runs.{seq, text_of, ending_of, ending_by, answers_of, inferences_of}
use Rattle.run_model.specs.Laws.RunLaws.{IsPrefixOf, TextGrows}
use Rattle.tree_model.specs.Credits.{greatest}
use Rattle.tree_model.specs.Nodes.{Pending, credits_below}
use Rattle.tree_model.specs.Levels.{Level, plug, Spot, levels_of}
use Rattle.tree_model.specs.Orders.{clock_of, answers_left, credits_left}
use Rattle.tree_model.specs.TreeStates.{TreeState, leftmost, first_spot, pending_spots, ended, end_by, counts, counts_by}
use Rattle.tree_model.specs.PendingLists.{pending_list}
use Rattle.tree_model.specs.Promises.{KeepsPrefix}
use Rattle.tree_model.specs.Elements.{Element}
use Rattle.interleaving.specs.Machine.{free_steps, run, seen, is_finished}
use Rattle.interleaving.specs.Scopes.{Shared, first_shared, scoped}
use Rattle.interleaving.specs.Counted.{counted_steps}
use Rattle.interleaving.specs.Quiet.{IsQuiet}
use Rattle.interleaving.specs.Readings.{opening_list, has_ended}
use Rattle.interleaving.specs.Follows.{lead}
use Rattle.interleaving.specs.HistoryInvariants.{shared_of, left_by, tree_list, IsInStep}
use Rattle.interleaving.proofs.RunHeightLemmas.{named_run}
use Rattle.interleaving.proofs.ClockLemmas.{leftmost_known, none_left}
use Rattle.interleaving.proofs.EndLemmas.{not_over, first_end}
use Rattle.interleaving.proofs.FinishingLemmas.{root_counts, counted_turn, credits_over}
use Rattle.interleaving.proofs.GoingLemmas.{going, not_halted, true_clock}
use Rattle.interleaving.proofs.LeadLemmas.{world_stays}
use Rattle.tree_model.specs.GivenAnswers.{answers_in, AreInOrder}
use Rattle.interleaving.proofs.AnswerOrderLemmas.{answers_round, plug_answers, RightsEmpty, rights_empty}
use Rattle.interleaving.proofs.AnswerClosingLemmas.{shown_below, shown_left}

module _ (job : Job) (budget : ℕ) (below : budget ≤ greatest) (t : TreeState) (h : IsInStep job budget t) where
  abbrev after : ℕ → Shared × List Element
  after n = run (scoped job.clauses) n (first_shared job) (free_steps (scoped job.clauses) [] (opening_list job))

  abbrev tree_run : List Element → ℕ → Shared × List Element
  tree_run xs n = run (scoped job.clauses) n (shared_of h.answers t) (free_steps (scoped job.clauses) [] xs)

  run-none : (n : ℕ) (w : Shared) → run (scoped job.clauses) n w [] ≡ (w, [])
  run-none zero w = refl
  run-none (suc n) w = run-none n w

  -- the world at the first inference from which the runs are alike
  at_from : (after h.from).0 ≡ shared_of h.answers t
  at_from = ap (λ s. s.0) (h.alike h.from (omega arith) (let e = h.early in omega (arith, e, below))) ∙ go t.halted refl
    where
      go : (o : Option ℕ) → t.halted ≡ o → (tree_run (tree_list t) h.from).0 ≡ shared_of h.answers t
      go None e = ap (λ l. (tree_run l h.from).0) (not_halted t e) ∙ world_stays job.clauses (pending_list t.root) h.from
          (shared_of h.answers t) (h.ahead e)
      go (Some k) e = ap (λ l. (tree_run l h.from).0) (ap (λ o. left_by o (pending_list t.root)) e)
          ∙ ap (λ s. s.0) (run-none h.from (shared_of h.answers t))

  -- what the sequential run has at an inference from there on
  world_at : (n : ℕ) → (after n).0 ≡ shared_of h.answers t → (seq job n).world ≡ t.world
  world_at n e = ap (λ w. w.world) (sym (named_run job n).state ∙ e)

  text_front : TextGrows job → IsPrefixOf t.world.written (text_of job budget)
  text_front grows =
      let e = h.early in
      let same : h.from + (budget - h.from) ≡ budget = omega (arith, e) in
      let g : IsPrefixOf (text_of job h.from) (text_of job (h.from + (budget - h.from))) = grows h.from (budget - h.from) in
      let w : (seq job h.from).world.written ≡ t.world.written = ap (λ x. x.written) (world_at h.from at_from) in
      subst (λ x. IsPrefixOf x (text_of job budget)) w (subst (λ n. IsPrefixOf (text_of job h.from) (text_of job n)) same g)

  pub keeps_prefix : TextGrows job → KeepsPrefix job budget t
  keeps_prefix grows = record { text = text_front grows; world = at_clock }
    where
      at_clock : (s : Spot) → leftmost t ≡ Some s → ended t ≡ None → t.world ≡ (seq job (clock_of (levels_of s))).world
      at_clock s l e =
          let g = going t e in
          let same : g.spot ≡ s = let both : Some g.spot ≡ Some s = sym g.first ∙ l in cc in
          let c = true_clock t budget below h.same_budget h.sound g in
          let clock : clock_of (levels_of s)
          ≡ lead (pending_list t.root) = subst (λ r. clock_of (levels_of r) ≡ lead (pending_list t.root)) same c.1 in
          let small = c.0 in
          let here : (after (lead (pending_list t.root))).0
          ≡ shared_of h.answers t = ap (λ s. s.0)
          (h.alike (lead (pending_list t.root)) (h.ahead g.halted) (omega (arith, small, below)))
          ∙ (ap (λ l. (tree_run l (lead (pending_list t.root))).0) (not_halted t g.halted)
          ∙ world_stays job.clauses (pending_list t.root) (lead (pending_list t.root)) (shared_of h.answers t) (omega arith)) in
          sym (ap (λ n. (seq job n).world) clock ∙ world_at (lead (pending_list t.root)) here)

  -- how it ends
  abbrev IsAtEnd : Bool → Type 0
  IsAtEnd over = seen (after budget) ≡ (shared_of h.answers t, over)

  at_budget : (over : Bool) → seen (tree_run (tree_list t) budget) ≡ (shared_of h.answers t, over) → IsAtEnd over
  at_budget over e = h.alike budget h.early below ∙ e

  none_over : (es : List Entry) → is_finished es ≡ true → es ≡ []
  none_over [] e = refl
  none_over (x ∷ es) e = let no_way : ⊥ = cc in absurd no_way

  some_left : (es : List Entry) (o : Option ℕ) → is_finished es ≡ false → ending_by es o ≡ Budget
  some_left [] o e = let no_way : ⊥ = cc in absurd no_way
  some_left (x ∷ es) o e = refl

  abbrev IsRight : RunEnding → Type 0
  IsRight e = (t.world.written ≡ text_of job budget) × (e ≡ ending_of job budget) × (e ≢ Budget → (counts t).1 ≡ inferences_of job budget)

  world_right : (over : Bool) → IsAtEnd over → t.world.written ≡ text_of job budget
  world_right over e = sym (ap (λ x. x.written) (world_at budget (ap (λ s. s.0) e)))

  halts_right : (over : Bool) → IsAtEnd over → (seq job budget).halted ≡ t.halted
  halts_right over e = ap (λ w. w.halted) (sym (named_run job budget).state ∙ ap (λ s. s.0) e)

  over_right : (over : Bool) → IsAtEnd over → is_finished (seq job budget).entries ≡ over
  over_right over e = sym (named_run job budget).over ∙ ap (λ s. s.1) e

  -- the sequential count where the run is over from there on
  count_right : ((n : ℕ) → h.from ≤ n → n ≤ budget → has_ended job.clauses (first_shared job) (opening_list job) n ≡ true)
      → inferences_of job budget ≡ h.from
  count_right f = (named_run job budget).inferences ∙ counted_at budget h.early (λ n l. h.going n l) f
    where
      counted_at : (b : ℕ) → h.from ≤ b → ((n : ℕ) → n < h.from → has_ended job.clauses (first_shared job) (opening_list job) n ≡ false)
          → ((n : ℕ) → h.from ≤ n → n ≤ b → has_ended job.clauses (first_shared job) (opening_list job) n ≡ true)
          → counted_steps (has_ended job.clauses (first_shared job) (opening_list job)) b ≡ h.from
      counted_at b l g f = counted_turn (has_ended job.clauses (first_shared job) (opening_list job)) h.from g b f l

  -- halted
  halted_right : (k : ℕ) → t.halted ≡ Some k → IsRight (Halted k)
  halted_right k e =
      let nothing : tree_list t ≡ [] = ap (λ o. left_by o (pending_list t.root)) e in
      let over : (n : ℕ) → tree_run (tree_list t) n ≡ (shared_of h.answers t, []) = λ n. ap (λ l. tree_run l n) nothing
      ∙ run-none n (shared_of h.answers t) in
      let z : IsAtEnd true = at_budget true (ap (λ s. (s.0, is_finished s.1)) (over budget)) in
      let left : (seq job budget).entries ≡ [] = none_over (seq job budget).entries (over_right true z) in
      let by : ending_of job budget ≡ ending_by [] (Some k) = ap (λ es. ending_by es (seq job budget).halted) left
      ∙ ap (ending_by []) (halts_right true z ∙ e) in
      let flags : (n : ℕ) → h.from ≤ n → n ≤ budget → has_ended job.clauses (first_shared job) (opening_list job) n
      ≡ true = λ n a b. ap (λ s. s.1) (h.alike n a (omega (arith, b, below))) ∙ ap (λ s. is_finished s.1) (over n) in
      (world_right true z, sym by, λ n. shown (leftmost t) refl ∙ sym (count_right flags))
    where
      stop : (lead (pending_list t.root) ≡ h.from) × (leftmost t ≡ None → ⊥)
      stop = h.stopped k e

      shown : (o : Option Spot) → leftmost t ≡ o → (counts_by o t.root).1 ≡ h.from
      shown None q = absurd (stop.1 q)
      shown (Some s) q =
          let c : clock_of (levels_of s) ≡ min greatest (lead (pending_list t.root)) = (leftmost_known t h.sound s q).clock in
          let early = h.early in
          let same = stop.0 in
          omega (arith, c, same, early, below)

  -- finished
  finished_right : t.halted ≡ None → leftmost t ≡ None → IsRight Finished
  finished_right e l =
      let quiet : IsQuiet (pending_list t.root) = none_left t h.sound l in
      let early = h.early in
      let low : lead (pending_list t.root) ≤ h.from = h.finished e l in
      let high : h.from ≤ lead (pending_list t.root) = h.ahead e in
      let over : (n : ℕ) → h.from ≤ n → tree_run (tree_list t) n ≡ (shared_of h.answers t, []) = λ n a. ap (λ l. tree_run l n)
      (not_halted t e) ∙ credits_over job.clauses (pending_list t.root) n (shared_of h.answers t) quiet (omega (arith, low, a)) in
      let z : IsAtEnd true = at_budget true (ap (λ s. (s.0, is_finished s.1)) (over budget h.early)) in
      let left : (seq job budget).entries ≡ [] = none_over (seq job budget).entries (over_right true z) in
      let by : ending_of job budget ≡ ending_by [] None = ap (λ es. ending_by es (seq job budget).halted) left
      ∙ ap (ending_by []) (halts_right true z ∙ e) in
      let flags : (n : ℕ) → h.from ≤ n → n ≤ budget → has_ended job.clauses (first_shared job) (opening_list job) n
      ≡ true = λ n a b. ap (λ s. s.1) (h.alike n a (omega (arith, b, below))) ∙ ap (λ s. is_finished s.1) (over n a) in
      (world_right true z, sym by, λ n. shown quiet low high ∙ sym (count_right flags))
    where
      none_first : (spots : List Spot) → first_spot spots ≡ None → spots ≡ []
      none_first [] q = refl
      none_first (s ∷ ss) q = let no_way : ⊥ = cc in absurd no_way

      shown : IsQuiet (pending_list t.root) → lead (pending_list t.root) ≤ h.from → h.from ≤ lead (pending_list t.root)
          → (counts_by (leftmost t) t.root).1 ≡ h.from
      shown q a b =
          let early = h.early in
          let c : (credits_below t.root).inferences ≡ lead (pending_list t.root) = root_counts t.root h.sound.sound
          (none_first (pending_spots t) l) q (omega (arith, a, early, below)) in
          ap (λ o. (counts_by o t.root).1) l ∙ (let z : (credits_below t.root).inferences ≡ h.from = omega (arith, c, a, b) in z)

  -- at the budget
  budget_right : (s : Spot) → t.halted ≡ None → leftmost t ≡ Some s → budget ≤ clock_of (levels_of s) → IsRight Budget
  budget_right s e l b =
      let k = leftmost_known t h.sound s l in
      let c : clock_of (levels_of s) ≡ min greatest (lead (pending_list t.root)) = k.clock in
      let far : budget ≤ lead (pending_list t.root) = omega (arith, c, b) in
      let world : (tree_run (tree_list t) budget).0 ≡ shared_of h.answers t = ap (λ l. (tree_run l budget).0) (not_halted t e)
      ∙ world_stays job.clauses (pending_list t.root) budget (shared_of h.answers t) far in
      let over : Bool = is_finished (tree_run (tree_list t) budget).1 in
      let z : IsAtEnd over = at_budget over (ap (λ w. (w, over)) world) in
      let goes : over ≡ false = ap (λ l. is_finished (tree_run l budget).1) (not_halted t e)
      ∙ not_over job.clauses (pending_list t.root) budget (shared_of h.answers t) (first_end t s h.sound k) far in (
        world_right over z,
        sym (some_left (seq job budget).entries (seq job budget).halted (over_right over z ∙ goes)),
        λ n.
            absurd (n refl),
      )

  abbrev IsEnd : RunEnding → Type 0
  IsEnd e = ended t ≡ Some e

  pub all_right : (e : RunEnding) → IsEnd e → IsRight e
  all_right e q = go t.halted refl (leftmost t) refl q
    where
      go : (o : Option ℕ) → t.halted ≡ o → (p : Option Spot) → leftmost t ≡ p → end_by o p t.budget ≡ Some e → IsRight e
      go (Some k) a p b q = subst IsRight (let z : Halted k ≡ e = cc in z) (halted_right k a)
      go None a None b q = subst IsRight (let z : Finished ≡ e = cc in z) (finished_right a b)
      go None a (Some s) b q = at_clock (nat_le t.budget (clock_of (levels_of s))) refl q
        where
          at_clock : (c : Bool) → nat_le t.budget (clock_of (levels_of s)) ≡ c → cond c (Some Budget) None ≡ Some e → IsRight e
          at_clock true r z = let same : Budget
              ≡ e = cc in subst IsRight same (budget_right s a b (subst (λ n. n ≤ clock_of (levels_of s)) h.same_budget (grind arith)))
          at_clock false r z = let no_way : ⊥ = cc in absurd no_way

  -- the answers
  left_shown : (levels : List Level) → RightsEmpty levels → answers_round levels ≤ greatest → answers_left levels ≡ answers_round levels
  left_shown [] r l = refl
  left_shown (v ∷ up) r l =
      let right = r.0 in
      let one = left_shown up r.1 (omega (arith, l)) in
      let two = shown_left v.left (omega (arith, l)) in
      let here : answers_left (v ∷ up) ≡ min greatest (answers_left up + (credits_left v.left).answers) = refl in
      omega (arith, right, one, two, here, l)

  tree_answers : (counts t).0 ≡ h.answers
  tree_answers = go (leftmost t) refl ∙ h.given
    where
      few : answers_in t.root ≤ greatest
      few = let a = h.given in let b = h.fewer in let c = h.early in omega (arith, a, b, c, below)

      go : (o : Option Spot) → leftmost t ≡ o → (counts_by o t.root).0 ≡ answers_in t.root
      go None e = shown_below t.root few
      go (Some s) e =
          let k = leftmost_known t h.sound s e in
          let whole = plug_answers (levels_of s) (Pending s.hold s.entry) in
          let same : answers_in (plug (levels_of s) (Pending s.hold s.entry)) ≡ answers_in t.root = ap answers_in k.inside in
          let rights = rights_empty (levels_of s) (Pending s.hold s.entry) refl (subst AreInOrder (sym k.inside) h.ordered) in
          left_shown (levels_of s) rights (omega (arith, whole, same, few))
          ∙ (let z : answers_round (levels_of s) ≡ answers_in t.root = omega (arith, whole, same) in z)

  -- the state of the sequential run at the budget is the tree's
  shared_right : (e : RunEnding) → IsEnd e → (after budget).0 ≡ shared_of h.answers t
  shared_right e q = ends t.halted refl (leftmost t) refl q
    where
      ends : (o : Option ℕ) → t.halted ≡ o → (p : Option Spot) → leftmost t ≡ p → end_by o p t.budget ≡ Some e → (after budget).0
          ≡ shared_of h.answers t
      ends (Some k) a p b z = ap (λ s. s.0) (h.alike budget h.early below)
          ∙ ap (λ l. (tree_run l budget).0) (ap (λ o. left_by o (pending_list t.root)) a)
          ∙ ap (λ s. s.0) (run-none budget (shared_of h.answers t))
      ends None a None b z =
          let quiet = none_left t h.sound b in
          let low = h.finished a b in
          let early = h.early in
          ap (λ s. s.0) (h.alike budget h.early below)
          ∙ (ap (λ l. (tree_run l budget).0) (not_halted t a)
          ∙ ap (λ s. s.0) (credits_over job.clauses (pending_list t.root) budget (shared_of h.answers t) quiet (omega (arith, low, early))))
      ends None a (Some s) b z = at_clock (nat_le t.budget (clock_of (levels_of s))) refl z
        where
          at_clock : (c : Bool) → nat_le t.budget (clock_of (levels_of s)) ≡ c → cond c (Some Budget) None ≡ Some e → (after budget).0
              ≡ shared_of h.answers t
          at_clock false r z = let no_way : ⊥ = cc in absurd no_way
          at_clock true r z =
              let k = leftmost_known t h.sound s b in
              let c : clock_of (levels_of s) ≡ min greatest (lead (pending_list t.root)) = k.clock in
              let high : budget ≤ clock_of (levels_of s) = subst (λ n. n ≤ clock_of (levels_of s)) h.same_budget (grind arith) in
              let far : budget ≤ lead (pending_list t.root) = omega (arith, c, high) in
              ap (λ s. s.0) (h.alike budget h.early below)
              ∙ (ap (λ l. (tree_run l budget).0) (not_halted t a) ∙ world_stays job.clauses (pending_list t.root) budget
              (shared_of h.answers t) far)

  pub answers_right : (e : RunEnding) → IsEnd e → (counts t).0 ≡ answers_of job budget
  answers_right e q = tree_answers ∙ ap (λ w. w.answers) (sym (sym (named_run job budget).state ∙ shared_right e q))
