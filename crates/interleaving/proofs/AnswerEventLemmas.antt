-- Answers at the front, from what the other gates of the world do.
use Rattle.std.proofs.Common.{◌≡◌, ℕ, ◌+◌, ◌-◌, ◌≤◌, ◌⊎◌, inl, inr, true, false, List, [], ◌∷◌, map, ◌++◌, Option, Some, None, refl, sym}
use Rattle.std.proofs.Common.{ap, ◌∙◌, subst, arith}
use Rattle.std.specs.Prelude.{◌&&◌}
use Rattle.au_term.specs.Term.{Term}
use Rattle.run_model.specs.Programs.Clauses.{Clause}
use Rattle.run_model.specs.Goals.Worlds.{World, world_step}
use Rattle.run_model.specs.Goals.Outcomes.{Reply, Solutions, Ball, HaltNumber, Outcome, Replies, Controls, AskWorld}
use Rattle.run_model.specs.Goals.GoalOutcomes.{outcome_of}
use Rattle.tree_model.specs.Halting.{HaltsBy}
use Rattle.interleaving.proofs.HaltMoveLemmas.{dropped_names, halts_tree, halted_tree, halted_moves}
use Rattle.run_model.specs.Machine.Items.{Item, GoalItem, CatchMark, CollectMark, RemovalItem, Continuation, with_items, without_marks}
use Rattle.run_model.specs.Machine.Entries.{Entry, PlainEntry, CatchEntry, FindallEntry, EndEntry}
use Rattle.tree_model.specs.Levels.{Place, Spot, levels_of}
use Rattle.tree_model.specs.Floors.{height_of, floor_of, with_heights, renamed_item, renamed_continuation}
use Rattle.tree_model.specs.FrontGates.{reply_taken, goal_at_front, removal_at_front, item_at_front, taken_at_front}
use Rattle.tree_model.specs.Events.{Event, Answer}
use Rattle.tree_model.specs.TreeStates.{TreeState, leftmost, ended}
use Rattle.tree_model.specs.Legality.{is_spot_at, taken_at, gate_of, is_world_gate, at_spot, is_allowed}
use Rattle.tree_model.specs.Effects.{spot_stack, world_moved, where_some, after_event}
use Rattle.tree_model.specs.SoundTrees.{IsSoundTree}
use Rattle.run_model.specs.Programs.Databases.{Database, without_clause}
use Rattle.tree_model.specs.AnswersTold.{answers_by, answers_at, answers_first, answers_next}
use Rattle.tree_model.specs.CaughtTrees.{IsCaughtTree}
use Rattle.interleaving.specs.HistoryInvariants.{AnswerMoves, AnswersMove, OthersMove}
use Rattle.interleaving.proofs.OpenSpotLemmas.{placed_at, taken_at_open}
use Rattle.interleaving.proofs.ClockLemmas.{leftmost_known}
use Rattle.interleaving.proofs.GoingLemmas.{going, legal_parts}
use Rattle.interleaving.proofs.RunEventLemmas.{asked_at}
use Rattle.interleaving.proofs.SpotsApartLemmas.{taken_first}
use Rattle.interleaving.proofs.AnsweredMoveLemmas.{unmarked_names, answered_tree, answered_moves}
use Rattle.au_term.proofs.LogicLemmas.{and-right, false_true}

-- the tree after an answer
answered_is : (t : TreeState) (w : ℕ) (a : Place) (s : Spot) (f : Continuation ℕ) → taken_at w a t ≡ Some s → s.entry ≡ PlainEntry f
    → without_marks f.items ≡ [] → after_event t (Answer w a false) ≡ answered_tree t s f (Answer w a false)
unfolding after_event
answered_is t w a s f e entry bare =
    let e_event : Event = Answer w a false in
    let heights = height_of (levels_of s) in
    let fh = renamed_continuation heights (λ n. heights n - 1) f in
    ap (λ o. record (where_some o t (λ r. world_moved r (taken_at_front t.job.clauses (spot_stack r) t.world) t))
    { history = t.history ++ e_event ∷ [] }) e
    ∙ (ap (λ x. record (world_moved s (taken_at_front t.job.clauses (with_heights (levels_of s) x ∷ floor_of (levels_of s)) t.world) t)
    { history = t.history ++ e_event ∷ [] }) entry
    ∙ ap (λ is. record (world_moved s (item_at_front t.job.clauses is fh (floor_of (levels_of s)) t.world) t)
    { history = t.history ++ e_event ∷ [] }) (unmarked_names heights (λ n. heights n - 1) f.items bare))

-- whether an entry is an answer
abbrev IsBare : Entry → Type 0
IsBare e = (f : Continuation ℕ) × (e ≡ PlainEntry f) × (without_marks f.items ≡ [])

abbrev IsNotBare : Entry → Type 0
IsNotBare e = (f : Continuation ℕ) → e ≡ PlainEntry f → without_marks f.items ≡ [] → ⊥

plain_items : (f g : Continuation ℕ) → PlainEntry f ≡ PlainEntry g → f ≡ g
plain_items f g e = cc

bare_or_not : (e : Entry) → IsBare e ⊎ IsNotBare e
bare_or_not (EndEntry b) = inr (λ f e h. let no_way : ⊥ = cc in no_way)
bare_or_not (CatchEntry c r k) = inr (λ f e h. let no_way : ⊥ = cc in no_way)
bare_or_not (FindallEntry results l k) = inr (λ f e h. let no_way : ⊥ = cc in no_way)
bare_or_not (PlainEntry k) = go (without_marks k.items) refl
  where
    go : (is : List (Item ℕ)) → without_marks k.items ≡ is → IsBare (PlainEntry k) ⊎ IsNotBare (PlainEntry k)
    go [] h = inl (k, refl, h)
    go (i ∷ is) h = inr (λ f e z. not_both f (plain_items k f e) z)
      where
        not_both : (f : Continuation ℕ) → k ≡ f → without_marks f.items ≡ [] → ⊥
        not_both f e z = let both : ◌≡◌ {A = List (Item ℕ)} (i ∷ is) [] = sym h ∙ (ap (λ x. without_marks x.items) e ∙ z) in cc

-- the tree after a halt
halted_is : (t : TreeState) (w : ℕ) (a : Place) (s : Spot) (f : Continuation ℕ) (goal : Term) (scope : ℕ) (items : List (Item ℕ))
    (k : ℕ) (after : World) → taken_at w a t ≡ Some s → s.entry ≡ PlainEntry f → without_marks f.items ≡ GoalItem goal scope ∷ items
    → HaltsBy t.job.clauses (outcome_of t.job.clauses goal f.next) f.next t.world k after → after_event t (Answer w a false)
    ≡ halted_tree t s after k (Answer w a false)
unfolding after_event
halted_is t w a s f goal scope items k after e entry bare h =
    let e_event : Event = Answer w a false in
    let heights = height_of (levels_of s) in
    let marks : ℕ → ℕ = λ n. heights n - 1 in
    let fh = renamed_continuation heights marks f in
    let left = map (renamed_item heights marks) items in
    ap (λ o. record (where_some o t (λ r. world_moved r (taken_at_front t.job.clauses (spot_stack r) t.world) t))
    { history = t.history ++ e_event ∷ [] }) e
    ∙ (ap (λ x. record (world_moved s (taken_at_front t.job.clauses (with_heights (levels_of s) x ∷ floor_of (levels_of s)) t.world) t)
    { history = t.history ++ e_event ∷ [] }) entry
    ∙ (ap (λ is. record (world_moved s (item_at_front t.job.clauses is fh (floor_of (levels_of s)) t.world) t)
    { history = t.history ++ e_event ∷ [] }) (dropped_names heights marks f.items ∙ ap (map (renamed_item heights marks)) bare)
    ∙ ap (λ r. record (world_moved s r t) { history = t.history ++ e_event ∷ [] })
    (halts_tree t.job.clauses (outcome_of t.job.clauses goal f.next) (with_items left fh) (floor_of (levels_of s)) t.world after k
    h)))

-- whether an entry halts
abbrev IsHalt : TreeState → Entry → Type 0
IsHalt t e = (f : Continuation ℕ) × (goal : Term) × (scope : ℕ) × (items : List (Item ℕ)) × (k : ℕ) × (after : World)
    × (e ≡ PlainEntry f) × (without_marks f.items ≡ GoalItem goal scope ∷ items) × HaltsBy t.job.clauses
    (outcome_of t.job.clauses goal f.next) f.next t.world k after

abbrev IsNoHalt : TreeState → Entry → Type 0
IsNoHalt t e = (f : Continuation ℕ) (goal : Term) (scope : ℕ) (items : List (Item ℕ)) (k : ℕ) (after : World) → e ≡ PlainEntry f
    → without_marks f.items ≡ GoalItem goal scope ∷ items → HaltsBy t.job.clauses (outcome_of t.job.clauses goal f.next) f.next t.world
    k after → ⊥

-- whether a goal halts
halts_or_not : (clauses : List Clause) (o : Outcome) (next : ℕ) (w : World)
    → ((k : ℕ) × (after : World) × HaltsBy clauses o next w k after) ⊎ ((k : ℕ) (after : World) → HaltsBy clauses o next w k after → ⊥)
halts_or_not clauses (Controls form) next w = inr (λ k after h. h)
halts_or_not clauses (Replies (HaltNumber k)) next w = inl (k, w, (refl, refl))
halts_or_not clauses (Replies (Solutions ss)) next w = inr (λ k after h. let e = h.0 in let no_way : ⊥ = cc in no_way)
halts_or_not clauses (Replies (Ball b)) next w = inr (λ k after h. let e = h.0 in let no_way : ⊥ = cc in no_way)
halts_or_not clauses (AskWorld goal) next w = go (world_step clauses goal next w).1 refl
  where
    go : (r : Reply) → (world_step clauses goal next w).1 ≡ r
        → ((k : ℕ) × (after : World) × (world_step clauses goal next w ≡ (after, HaltNumber k))) ⊎
        ((k : ℕ) (after : World) → world_step clauses goal next w ≡ (after, HaltNumber k) → ⊥)
    go (HaltNumber k) e = inl (k, (world_step clauses goal next w).0, ap (λ r. ((world_step clauses goal next w).0, r)) e)
    go (Solutions ss) e = inr (λ k after h. let both : Solutions ss ≡ HaltNumber k = sym e
        ∙ ap (λ x. x.1) h in let no_way : ⊥ = cc in no_way)
    go (Ball b) e = inr (λ k after h. let both : Ball b ≡ HaltNumber k = sym e ∙ ap (λ x. x.1) h in let no_way : ⊥ = cc in no_way)

halt_or_not : (t : TreeState) (e : Entry) → IsHalt t e ⊎ IsNoHalt t e
halt_or_not t (EndEntry b) = inr (λ f g h is k after e z y. let no_way : ⊥ = cc in no_way)
halt_or_not t (CatchEntry c r x) = inr (λ f g h is k after e z y. let no_way : ⊥ = cc in no_way)
halt_or_not t (FindallEntry results l x) = inr (λ f g h is k after e z y. let no_way : ⊥ = cc in no_way)
halt_or_not t (PlainEntry x) = go (without_marks x.items) refl
  where
    other : (is : List (Item ℕ)) → without_marks x.items ≡ is
        → ((goal : Term) (scope : ℕ) (items : List (Item ℕ)) → is ≡ GoalItem goal scope ∷ items → ⊥) → IsNoHalt t (PlainEntry x)
    other is q n f g h items k after e z y = n g h items (sym q ∙ (ap (λ c. without_marks c.items) (plain_items x f e) ∙ z))

    go : (is : List (Item ℕ)) → without_marks x.items ≡ is → IsHalt t (PlainEntry x) ⊎ IsNoHalt t (PlainEntry x)
    go [] q = inr (other [] q (λ g h items e. let no_way : ⊥ = cc in no_way))
    go (CatchMark s ∷ is) q = inr (other (CatchMark s ∷ is) q (λ g h items e. let no_way : ⊥ = cc in no_way))
    go (CollectMark c s ∷ is) q = inr (other (CollectMark c s ∷ is) q (λ g h items e. let no_way : ⊥ = cc in no_way))
    go (RemovalItem n ∷ is) q = inr (other (RemovalItem n ∷ is) q (λ g h items e. let no_way : ⊥ = cc in no_way))
    go (GoalItem goal scope ∷ is) q = pick (halts_or_not t.job.clauses (outcome_of t.job.clauses goal x.next) x.next t.world)
      where
        same_goal : (g : Term) (h : ℕ) (items : List (Item ℕ)) → ◌≡◌ {A = List (Item ℕ)} (GoalItem goal scope ∷ is)
            (GoalItem g h ∷ items) → goal ≡ g
        same_goal g h items e = cc

        pick : ((k : ℕ) × (after : World) × HaltsBy t.job.clauses (outcome_of t.job.clauses goal x.next) x.next t.world k after) ⊎
            ((k : ℕ) (after : World) → HaltsBy t.job.clauses (outcome_of t.job.clauses goal x.next) x.next t.world k after → ⊥)
            → IsHalt t (PlainEntry x) ⊎ IsNoHalt t (PlainEntry x)
        pick (inl y) = inl (x, goal, scope, is, y.0, y.1, refl, q, y.2)
        pick (inr n) = inr (λ f g h items k after e z y. not_this f g h items k after (plain_items x f e) z y)
          where
            not_this : (f : Continuation ℕ) (g : Term) (h : ℕ) (items : List (Item ℕ)) (k : ℕ) (after : World) → x ≡ f
                → without_marks f.items ≡ GoalItem g h ∷ items → HaltsBy t.job.clauses (outcome_of t.job.clauses g f.next) f.next
                t.world k after → ⊥
            not_this f g h items k after e z y =
                let goal_is : goal ≡ g = same_goal g h items (sym q ∙ (ap (λ c. without_marks c.items) e ∙ z)) in
                n k after (subst (λ c. HaltsBy t.job.clauses (outcome_of t.job.clauses goal c.next) c.next t.world k after) (sym e)
                (subst (λ c. HaltsBy t.job.clauses (outcome_of t.job.clauses c f.next) f.next t.world k after) (sym goal_is) y))

-- replies give no answer
reply_none : (r : Reply) (f : Continuation ℕ) (es : List Entry) → answers_by (reply_taken r f es) ≡ 0
reply_none (Solutions ss) f es = refl
reply_none (Ball b) f es = refl
reply_none (HaltNumber k) f es = refl

goal_none : (clauses : List Clause) (o : Outcome) (f : Continuation ℕ) (es : List Entry) (w : World)
    → answers_by (goal_at_front clauses o f es w).1 ≡ 0
goal_none clauses (AskWorld goal) f es w = reply_none (world_step clauses goal f.next w).1 f es
goal_none clauses (Replies r) f es w = reply_none r f es
goal_none clauses (Controls form) f es w = refl

removal_none : (db : Option Database) (f : Continuation ℕ) (w : World) → answers_by (removal_at_front db f w).1 ≡ 0
removal_none None f w = refl
removal_none (Some db) f w = refl

-- how many answers are given at an alternative
module _ (t : TreeState) (s : Spot) where
  abbrev heights : ℕ → ℕ
  heights = height_of (levels_of s)

  abbrev high : Continuation ℕ → Continuation ℕ
  high f = renamed_continuation (height_of (levels_of s)) (λ n. height_of (levels_of s) n - 1) f

  bare_gives : IsBare s.entry → answers_at t s ≡ 1
  bare_gives b = ap (λ x. answers_by (taken_at_front t.job.clauses (with_heights (levels_of s) x ∷ floor_of (levels_of s)) t.world).1)
      b.1 ∙ ap (λ is. answers_by (item_at_front t.job.clauses is (high b.0) (floor_of (levels_of s)) t.world).1)
      (unmarked_names heights (λ n. heights n - 1) b.0.items b.2)

  other_gives : (e : Entry) → s.entry ≡ e → IsNotBare e → answers_at t s ≡ 0
  other_gives e q n = ap (λ x. answers_by
      (taken_at_front t.job.clauses (with_heights (levels_of s) x ∷ floor_of (levels_of s)) t.world).1) q ∙ here e n
    where
      items : (f : Continuation ℕ) (is : List (Item ℕ)) → without_marks f.items ≡ is → (is ≡ [] → ⊥)
          → answers_by (item_at_front t.job.clauses (map (renamed_item heights (λ n. heights n - 1)) is) (high f)
          (floor_of (levels_of s)) t.world).1 ≡ 0
      items f [] z n = absurd (n refl)
      items f (GoalItem x h ∷ is) z n = goal_none t.job.clauses (outcome_of t.job.clauses x f.next) _ _ t.world
      items f (CatchMark h ∷ is) z n = refl
      items f (CollectMark x h ∷ is) z n = refl
      items f (RemovalItem x ∷ is) z n = removal_none (without_clause x t.world.database) _ t.world

      here : (e : Entry) → IsNotBare e
          → answers_by (taken_at_front t.job.clauses (with_heights (levels_of s) e ∷ floor_of (levels_of s)) t.world).1 ≡ 0
      here (EndEntry b) n = refl
      here (CatchEntry c r f) n = refl
      here (FindallEntry results l f) n = refl
      here (PlainEntry f) n =
          subst (λ is. answers_by (item_at_front t.job.clauses is (high f) (floor_of (levels_of s)) t.world).1 ≡ 0)
          (sym (dropped_names heights (λ n. heights n - 1) f.items)) (items f (without_marks f.items) refl (λ z. n f refl z))

  pub few_answers : (e : Entry) → s.entry ≡ e → answers_at t s ≤ 1
  few_answers e q = pick (bare_or_not s.entry)
    where
      pick : IsBare s.entry ⊎ IsNotBare s.entry → answers_at t s ≤ 1
      pick (inl b) = let z = bare_gives b in omega (arith, z)
      pick (inr n) = let z = other_gives s.entry refl n in omega (arith, z)

pub next_few : (t : TreeState) → answers_next t ≤ 1
next_few t = go (leftmost t)
  where
    go : (o : Option Spot) → answers_first t o ≤ 1
    go None = omega arith
    go (Some s) = few_answers t s s.entry refl

pub answers_move : OthersMove → AnswersMove
answers_move others t w a answers i k j r l = go (taken_at w a t) refl parts.1
  where
    parts : (ended t ≡ None) × (is_allowed t (Answer w a false) ≡ true)
    parts = legal_parts t (Answer w a false) l

    go : (o : Option Spot) → taken_at w a t ≡ o → at_spot o (λ s. is_world_gate (gate_of t s) && is_spot_at a (leftmost t)) ≡ true
        → AnswerMoves t (after_event t (Answer w a false)) answers (answers + answers_next t)
    go None e x = false_true x
    go (Some s) e x = pick (bare_or_not s.entry)
      where
        first_is : leftmost t ≡ Some s
        first_is = taken_first t w a s i e (and-right (is_world_gate (gate_of t s)) _ x)

        counts : (n : ℕ) → answers_at t s ≡ n → answers + n ≡ answers + answers_next t
        counts n z = ap (λ m. answers + m) (sym z ∙ ap (answers_first t) (sym first_is))

        pick : IsBare s.entry ⊎ IsNotBare s.entry → AnswerMoves t (after_event t (Answer w a false)) answers (answers + answers_next t)
        pick (inr n) = further (halt_or_not t s.entry)
          where
            same_spot : (y : Spot) → leftmost t ≡ Some y → y ≡ s
            same_spot y q = let both : Some y ≡ Some s = sym q ∙ first_is in cc

            none_given : AnswerMoves t (after_event t (Answer w a false)) answers answers
                → AnswerMoves t (after_event t (Answer w a false)) answers (answers + answers_next t)
            none_given z = subst (AnswerMoves t (after_event t (Answer w a false)) answers)
                ((let same : answers ≡ answers + 0 = omega arith in same) ∙ counts 0 (other_gives t s s.entry refl n)) z

            further : IsHalt t s.entry ⊎ IsNoHalt t s.entry → AnswerMoves t (after_event t (Answer w a false)) answers
                (answers + answers_next t)
            further (inr m) = none_given (others t w a answers i k j r l
                (λ y f q z h. n f (subst (λ b. b.entry ≡ PlainEntry f) (same_spot y q) z) h)
                (λ y f goal scope items b after q z h c. m f goal scope items b after
                (subst (λ x. x.entry ≡ PlainEntry f) (same_spot y q) z) h c))
            further (inl b) =
                let is = halted_is t w a s b.0 b.1 b.2 b.3 b.4 b.5 e b.6 b.7 b.8 in
                let g = going t parts.0 in
                none_given (subst (λ new. AnswerMoves t new answers answers) (sym is)
                (halted_moves t s b.0 b.1 b.2 b.3 b.5 b.4 (Answer w a false) answers i k g.halted (leftmost_known t i s first_is)
                b.6 b.7 b.8 (subst IsSoundTree is j)))
        pick (inl b) =
            let is = answered_is t w a s b.0 e b.1 b.2 in
            let o = taken_at_open w a t s e in
            let g = going t parts.0 in
            let no_end : (c : Option Term) → s.entry ≡ EndEntry c → ⊥ = λ c z. let both : PlainEntry b.0 ≡ EndEntry c = sym b.1
            ∙ z in let no_way : ⊥ = cc in no_way in
            subst (AnswerMoves t (after_event t (Answer w a false)) answers) (counts 1 (bare_gives t s b))
            (subst (λ new. AnswerMoves t new answers (answers + 1)) (sym is)
            (answered_moves t s b.0 (Answer w a false) answers i k g.halted (leftmost_known t i s first_is) b.1 b.2
            (asked_at t s o (placed_at t s i o) no_end) (subst IsSoundTree is j) (subst IsCaughtTree is r)))
