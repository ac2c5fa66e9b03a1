-- What is after the events so far is after one more.
use Rattle.std.proofs.Common.{◌≡◌, ℕ, suc, ◌+◌, ◌≤◌, ◌<◌, Bool, true, false, List, [], ◌∷◌, Some, None, refl, sym, ap, ◌∙◌, subst, arith}
use Rattle.std.specs.Prelude.{nat_le}
use Rattle.run_model.specs.Programs.Jobs.{Job}
use Rattle.tree_model.specs.Credits.{greatest}
use Rattle.tree_model.specs.Events.{Event, Claim, Nodes, Empty, Collected, Lost, Suspend, Resume, Prune, Answer, Stop}
use Rattle.tree_model.specs.TreeStates.{TreeState, opening_tree}
use Rattle.tree_model.specs.Legality.{is_legal}
use Rattle.tree_model.specs.Effects.{after_event}
use Rattle.tree_model.specs.Histories.{after_events, are_legal, tree_after, IsLegalHistory}
use Rattle.tree_model.specs.PendingLists.{pending_list}
use Rattle.tree_model.specs.SoundTrees.{IsSoundTree}
use Rattle.interleaving.specs.Machine.{free_steps, run, seen, is_finished}
use Rattle.interleaving.specs.Scopes.{first_shared, scoped}
use Rattle.interleaving.specs.Readings.{opening_list, has_ended}
use Rattle.interleaving.specs.Follows.{lead, Follows}
use Rattle.interleaving.specs.HistoryInvariants.{shared_of, tree_list, IsSeenFrom, IsInStep, ListFollows, AnswerMoves, IsOwn, EventFollows}
use Rattle.interleaving.specs.HistoryInvariants.{AnswersMove, PreservesCaught, IsAny}
use Rattle.tree_model.specs.CaughtTrees.{IsCaughtTree}
use Rattle.interleaving.proofs.LegalLemmas.{event_sound}
use Rattle.interleaving.proofs.FieldLemmas.{event_job, event_budget}
use Rattle.interleaving.proofs.LeadLemmas.{goes_on}
use Rattle.interleaving.proofs.OpeningLemmas.{opening_in_step}
use Rattle.interleaving.proofs.GoingLemmas.{IsGoing, going, legal_parts, not_halted, same_shared, true_clock}
use Rattle.tree_model.specs.GivenAnswers.{answers_in}
use Rattle.tree_model.specs.AnswersTold.{answers_next, answers_told}
use Rattle.interleaving.proofs.AnswerClosingLemmas.{IsOrdered}
use Rattle.interleaving.proofs.AnswerTreeLemmas.{answers_preserved}
use Rattle.interleaving.proofs.AnswerEventLemmas.{next_few}
use Rattle.au_term.proofs.LogicLemmas.{and-right, and-left}

module _ (job : Job) (budget : ℕ) (below : budget ≤ greatest) where
  -- an event that changes the list alone
  own_step : (t new : TreeState) → new.job ≡ t.job → new.budget ≡ t.budget → IsSoundTree new → IsCaughtTree new
      → (h : IsInStep job budget t) → IsGoing t → ListFollows t new → IsOrdered new.root (answers_in t.root + 0)
      → IsInStep job budget new
  own_step t new j b i q h g f o =
      let none : new.halted ≡ None = f.halted ∙ g.halted in
      let follows : Follows job.clauses (pending_list t.root) (pending_list new.root) = subst
      (λ x. Follows x.clauses (pending_list t.root) (pending_list new.root)) h.same_job f.follows in
      let start : (n : ℕ) → seen (run (scoped job.clauses) n (shared_of h.answers t) (free_steps (scoped job.clauses) [] (tree_list t)))
      ≡ seen (run (scoped job.clauses) n (shared_of h.answers t) (free_steps (scoped job.clauses) [] (pending_list t.root))) = λ n.
      ap (λ l. seen (run (scoped job.clauses) n (shared_of h.answers t) (free_steps (scoped job.clauses) [] l)))
      (not_halted t g.halted) in
      let stop : (n : ℕ) → seen (run (scoped job.clauses) n (shared_of h.answers t)
      (free_steps (scoped job.clauses) [] (pending_list new.root)))
      ≡ seen (run (scoped job.clauses) n (shared_of h.answers new) (free_steps (scoped job.clauses) [] (tree_list new))) = λ n.
      ap (λ w. seen (run (scoped job.clauses) n w (free_steps (scoped job.clauses) [] (pending_list new.root))))
      (same_shared h.answers t new f.world f.queries f.halted)
      ∙ ap (λ l. seen (run (scoped job.clauses) n (shared_of h.answers new) (free_steps (scoped job.clauses) [] l)))
      (sym (not_halted new none)) in
      let early = h.early in
      record {
        same_job = j ∙ h.same_job;
        same_budget = b ∙ h.same_budget;
        sound = i;
        caught = q;
        answers = h.answers;
        ordered = o.0;
        given = o.1 ∙ (let z = h.given in omega (arith, z));
        fewer = h.fewer;
        from = h.from;
        early = h.early;
        alike = λ n a c. h.alike n a c ∙ (start n ∙ (follows.alike n (shared_of h.answers t) c ∙ stop n));
        ahead = λ z. follows.lead h.from (omega (arith, early, below)) (h.ahead g.halted);
        finished = λ z l. absurd (f.pending g.spot g.first l);
        stopped = λ k e. let both : None ≡ Some k = sym none ∙ e in let no_way : ⊥ = cc in absurd no_way;
        going = h.going;
      }

  -- an answer
  answer_step : (t new : TreeState) → new.job ≡ t.job → new.budget ≡ t.budget → IsSoundTree new → IsCaughtTree new
      → (h : IsInStep job budget t) → IsGoing t → (more : ℕ) → more ≤ 1 → AnswerMoves t new h.answers (h.answers + more)
      → IsOrdered new.root (answers_in t.root + more) → IsInStep job budget new
  answer_step t new j b i q h g more one f o =
      let c : ℕ = lead (pending_list t.root) in
      let clock = true_clock t budget below h.same_budget h.sound g in
      let small : c < budget = clock.0 in
      let ahead : h.from ≤ c = h.ahead g.halted in
      let start : (n : ℕ) → seen (run (scoped job.clauses) n (shared_of h.answers t) (free_steps (scoped job.clauses) [] (tree_list t)))
      ≡ seen (run (scoped job.clauses) n (shared_of h.answers t) (free_steps (scoped job.clauses) [] (pending_list t.root))) = λ n.
      ap (λ l. seen (run (scoped job.clauses) n (shared_of h.answers t) (free_steps (scoped job.clauses) [] l)))
      (not_halted t g.halted) in
      let moves : IsSeenFrom job.clauses (suc c) (shared_of h.answers t) (pending_list t.root) (shared_of (h.answers + more) new)
      (tree_list new) = subst (λ x. IsSeenFrom x.clauses (suc c) (shared_of h.answers t) (pending_list t.root)
      (shared_of (h.answers + more) new) (tree_list new)) h.same_job f.seen in
      let last : is_finished (run (scoped job.clauses) c (shared_of h.answers t)
      (free_steps (scoped job.clauses) [] (pending_list t.root))).1
      ≡ false = subst (λ x. has_ended x.clauses (shared_of h.answers t) (pending_list t.root) c ≡ false) h.same_job f.going in
      let old : (n : ℕ) → h.from ≤ n → n ≤ c → has_ended job.clauses (first_shared job) (opening_list job) n
      ≡ has_ended job.clauses (shared_of h.answers t) (pending_list t.root) n = λ n a l. ap (λ s. s.1)
      (h.alike n a (omega (arith, l, small, below)) ∙ start n) in
      record {
        same_job = j ∙ h.same_job;
        same_budget = b ∙ h.same_budget;
        sound = i;
        caught = q;
        answers = h.answers + more;
        ordered = o.0;
        given = o.1 ∙ ap (λ n. n + more) h.given;
        fewer = (let z = h.fewer in omega (arith, z, ahead, one));
        from = suc c;
        early = omega (arith, small);
        alike = λ n a l. h.alike n (omega (arith, a, ahead)) l ∙ (start n ∙ moves n a l);
        ahead = λ z. f.ahead z (suc c) (omega (arith, small, below)) (omega arith);
        finished = λ z l. f.finished z l;
        stopped = λ k e. f.stopped k e;
        going = λ n l. before n (nat_le h.from n) refl l old last;
      }
    where
      before : (n : ℕ) (d : Bool) → nat_le h.from n ≡ d → n < suc (lead (pending_list t.root))
          → ((n : ℕ) → h.from ≤ n → n ≤ lead (pending_list t.root) → has_ended job.clauses (first_shared job) (opening_list job) n
          ≡ has_ended job.clauses (shared_of h.answers t) (pending_list t.root) n)
          → has_ended job.clauses (shared_of h.answers t) (pending_list t.root) (lead (pending_list t.root)) ≡ false
          → has_ended job.clauses (first_shared job) (opening_list job) n ≡ false
      before n false e l old last = h.going n (grind arith)
      before n true e l old last = at_most (nat_le (lead (pending_list t.root)) n) refl
        where
          from_on : h.from ≤ n
          from_on = grind arith

          at_most : (d : Bool) → nat_le (lead (pending_list t.root)) n ≡ d → has_ended job.clauses (first_shared job) (opening_list job)
              n ≡ false
          at_most true z = let high : lead (pending_list t.root) ≤ n = grind arith in let same : lead (pending_list t.root)
              ≡ n = omega (arith, high, l) in old n from_on (omega (arith, l))
              ∙ subst (λ k. has_ended job.clauses (shared_of h.answers t) (pending_list t.root) k ≡ false) same last
          at_most false z = let low : n < lead (pending_list t.root) = grind arith in old n from_on (omega (arith, l))
              ∙ goes_on job.clauses (pending_list t.root) n (shared_of h.answers t) low

  module _ (own : EventFollows IsOwn) (answers : AnswersMove) (kept : PreservesCaught IsAny) where
    step : (t : TreeState) (e : Event) → IsInStep job budget t → is_legal t e ≡ true → IsInStep job budget (after_event t e)
    step t e h l = pick e l
      where
        new : (e : Event) → is_legal t e ≡ true → IsSoundTree (after_event t e)
        new e l = event_sound t e h.sound l

        few : IsGoing t → answers_in t.root < greatest
        few g = let z = h.given in let f = h.fewer in let a = h.ahead g.halted in let c =
            (true_clock t budget below h.same_budget h.sound g).0 in omega (arith, z, f, a, c, below)

        none_told : (e : Event) → IsOwn e → IsOrdered (after_event t e).root (answers_in t.root + answers_told t e)
            → IsOrdered (after_event t e).root (answers_in t.root + 0)
        none_told (Claim w a) o k = k
        none_told (Nodes w a n sizes) o k = k
        none_told (Empty w a n) o k = k
        none_told (Collected w a n) o k = k
        none_told (Lost w a) o k = k
        none_told (Suspend w a frozen) o k = k
        none_told (Resume w a) o k = k
        none_told (Prune w a) o k = k
        none_told (Stop w) o k = k
        none_told (Answer w a frozen) o k = absurd o

        simply : (e : Event) → IsOwn e → is_legal t e ≡ true → IsInStep job budget (after_event t e)
        simply e o l = own_step t (after_event t e) (event_job t e) (event_budget t e) (new e l) (kept t e tt h.sound h.caught l) h
            (going t (legal_parts t e l).0) (own t e o h.sound h.caught (new e l) (kept t e tt h.sound h.caught l) l)
            (none_told e o (answers_preserved t h.sound h.caught h.ordered (few (going t (legal_parts t e l).0)) e l))

        pick : (e : Event) → is_legal t e ≡ true → IsInStep job budget (after_event t e)
        pick (Claim w a) l = simply (Claim w a) tt l
        pick (Nodes w a k sizes) l = simply (Nodes w a k sizes) tt l
        pick (Empty w a k) l = simply (Empty w a k) tt l
        pick (Collected w a k) l = simply (Collected w a k) tt l
        pick (Lost w a) l = simply (Lost w a) tt l
        pick (Suspend w a frozen) l = simply (Suspend w a frozen) tt l
        pick (Resume w a) l = simply (Resume w a) tt l
        pick (Prune w a) l = simply (Prune w a) tt l
        pick (Stop w) l = simply (Stop w) tt l
        pick (Answer w a true) l = let z = (legal_parts t (Answer w a true) l).1 in let no_way : ⊥ = clash z in absurd no_way
          where
            clash : false ≡ true → ⊥
            clash z = cc
        pick (Answer w a false) l = answer_step t (after_event t (Answer w a false)) (event_job t (Answer w a false))
            (event_budget t (Answer w a false)) (new (Answer w a false) l) (kept t (Answer w a false) tt h.sound h.caught l) h
            (going t (legal_parts t (Answer w a false) l).0) (answers_next t) (next_few t)
            (answers t w a h.answers h.sound h.caught (new (Answer w a false) l) (kept t (Answer w a false) tt h.sound h.caught l) l)
            (answers_preserved t h.sound h.caught h.ordered (few (going t (legal_parts t (Answer w a false) l).0)) (Answer w a false) l)

    steps : (t : TreeState) (es : List Event) → IsInStep job budget t → are_legal t es ≡ true → IsInStep job budget (after_events t es)
    steps t [] h l = h
    steps t (e ∷ es) h l = steps (after_event t e) es (step t e h (and-left (is_legal t e) _ l)) (and-right (is_legal t e) _ l)

    pub history_in_step : (window : ℕ) (es : List Event) → IsLegalHistory job budget window es
        → IsInStep job budget (tree_after job budget window es)
    history_in_step window es l = steps (opening_tree job budget window) es (opening_in_step job budget window) l
