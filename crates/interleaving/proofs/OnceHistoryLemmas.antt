-- Every event of a legal history hands out and takes back in order.
use Rattle.std.proofs.Common.{◌≡◌, ◌≢◌, ℕ, ◌+◌, ◌≤◌, ◌==◌, Bool, true, false, List, [], ◌∷◌, Option, Some, None, refl, sym, ap, ◌∙◌}
use Rattle.std.proofs.Common.{subst, arith}
use Rattle.std.specs.Prelude.{◌&&◌, ◌||◌, not, is_none}
use Rattle.std.specs.List.{list_any}
use Rattle.au_model.specs.Terms.Each.{Each}
use Rattle.run_model.specs.Programs.Jobs.{Query, Job}
use Rattle.tree_model.specs.Nodes.{Gate, TakenBy, Pending, nodes_below}
use Rattle.tree_model.specs.Levels.{Place, same_place, Spot, levels_of}
use Rattle.tree_model.specs.PrivateRuns.{taken_alone}
use Rattle.tree_model.specs.Pruning.{Task}
use Rattle.tree_model.specs.FrontGates.{taken_at_front}
use Rattle.tree_model.specs.Events.{Event, Claim, Nodes, Empty, Collected, Lost, Suspend, Resume, Prune, Answer, Stop}
use Rattle.tree_model.specs.TreeStates.{TreeState, opening_root, opening_tree, pending_spots, leftmost, ended, end_by}
use Rattle.tree_model.specs.Legality.{is_spot_at, claimable, may_resume, resumable, taken_at, gate_of, run_of, is_task, at_spot}
use Rattle.tree_model.specs.Legality.{is_allowed, is_legal}
use Rattle.tree_model.specs.Effects.{with_status, closed_with, or_none, gate_pruned, world_moved, spot_stack, run_placed, without_task}
use Rattle.tree_model.specs.Effects.{where_some, gate_or_frozen, after_allowed, after_event}
use Rattle.tree_model.specs.Histories.{are_legal}
use Rattle.tree_model.specs.HandOuts.{Handed, Never, Out, Away, Over, resumed, given_back, handed_by, and_so_on, handed_after}
use Rattle.tree_model.specs.Promises.{Once}
use Rattle.tree_model.specs.SoundTrees.{one_if, IsSoundTree}
use Rattle.interleaving.proofs.AppendLemmas.{found}
use Rattle.interleaving.proofs.WayLemmas.{cond-true, cond-false}
use Rattle.interleaving.proofs.PluggedLemmas.{IsIn, all_in}
use Rattle.interleaving.proofs.HandOutCountLemmas.{handed, at, preserved_root}
use Rattle.interleaving.proofs.HandOutPlaceLemmas.{tasks_at, IsOut}
use Rattle.interleaving.proofs.LegalLemmas.{allowed_sound, event_sound, opening_sound}
use Rattle.interleaving.proofs.UnchangedPlaceLemmas.{same_place-is, place_self}
use Rattle.interleaving.proofs.OnceLemmas.{IsPreserved, after_one, moved_at, elsewhere, here, all_defined, lost_elsewhere}
use Rattle.interleaving.proofs.OnceChangeLemmas.{closed_moved}
use Rattle.interleaving.proofs.OnceEventLemmas.{taken_out, taken_here, closing, stack_some, prune_moves, front_whole, answer_moves}
use Rattle.interleaving.proofs.OnceEventLemmas.{nodes_move, waiting_away, spot_is, holding, claim_preserved}
use Rattle.au_term.proofs.LogicLemmas.{and-right, and-left, number_same}

resume_preserved : (G : Place → Option Handed) (t : TreeState) (w : ℕ) (a : Place) → IsPreserved G t → t.halted ≡ None → IsSoundTree t
    → (o : Option Spot) → resumable t ≡ o → is_spot_at a o ≡ true
    → IsPreserved (moved_at G a (resumed w)) (where_some o t (λ s. with_status s (Pending (TakenBy w) s.entry) t))
resume_preserved G t w a k z st None e h = let no_way : ⊥ = cc in absurd no_way
resume_preserved G t w a k z st (Some s) e h =
    let f = found (IsIn t.root) (λ r. may_resume r r.hold) (pending_spots t) s (all_in t.root) e in
    holding G t a (resumed w) (TakenBy w) s k z st (spot_is a s h) f.holds (ap (resumed w) (waiting_away s s.hold f.passes))

suspend_preserved : (G : Place → Option Handed) (t : TreeState) (w : ℕ) (a : Place) (frozen : Bool) (test : Spot → Bool) → IsPreserved G t
    → t.halted ≡ None → IsSoundTree t → (o : Option Spot) → taken_at w a t ≡ o → at_spot o test ≡ true
    → IsPreserved (moved_at G a (given_back Away w))
    (where_some o t (λ s. with_status s (Pending (gate_or_frozen frozen (gate_of t s)) s.entry) t))
suspend_preserved G t w a frozen test k z st None e h = let no_way : ⊥ = cc in absurd no_way
suspend_preserved G t w a frozen test k z st (Some s) e h =
    let i = taken_here w a t s e in
    holding G t a (given_back Away w) (gate_or_frozen frozen (gate_of t s)) s k z st i.here_is i.inside
    (taken_out w Away s.hold i.held ∙ ap (λ x. Some x) (sym (waits frozen (gate_of t s))))
  where
    waits : (b : Bool) (g : Option Gate) → handed (gate_or_frozen b g) ≡ Away
    waits true g = refl
    waits false (Some g) = refl
    waits false None = refl

-- a task that was pruned comes back
is_its : (w : ℕ) (a : Place) (task : Task) → is_task w a task ≡ true → (task.at ≡ a) × (task.worker ≡ w)
is_its w a task h = (same_place-is task.at a (and-right (task.worker == w) _ h), number task.worker w (and-left (task.worker == w) _ h))
  where
    number : (m n : ℕ) → (m == n) ≡ true → m ≡ n
    number m n e = grind arith

record IsBack (G : Place → Option Handed) (w : ℕ) (a : Place) (tasks : List Task) : Type 0 where
  mine : G a ≡ Some (Out w)
  less : (b : Place) → tasks_at b (without_task w a tasks) ≤ tasks_at b tasks
  one_less : tasks_at a (without_task w a tasks) + 1 ≤ tasks_at a tasks
  others : Each (IsOut G) (without_task w a tasks)

comes_back : (G : Place → Option Handed) (w : ℕ) (a : Place) (tasks : List Task) → Each (IsOut G) tasks → list_any (is_task w a) tasks
    ≡ true → IsBack G w a tasks
comes_back G w a [] o h = let no_way : ⊥ = cc in absurd no_way
comes_back G w a (task ∷ tasks) o h = go (is_task w a task) refl (comes_back G w a tasks o.1) h
  where
    go : (b : Bool) → is_task w a task ≡ b → (list_any (is_task w a) tasks ≡ true → IsBack G w a tasks)
        → (b || list_any (is_task w a) tasks) ≡ true → IsBack G w a (task ∷ tasks)
    go true e f k =
        let i = is_its w a task e in
        let same : without_task w a (task ∷ tasks) ≡ tasks = cond-true (is_task w a task) tasks (task ∷ without_task w a tasks) e in
        let self : one_if (same_place a task.at) ≡ 1 = ap (λ p. one_if (same_place a p)) i.0 ∙ ap one_if (place_self a) in
        record {
          mine = ap G (sym i.0) ∙ (o.0 ∙ ap (λ v. Some (Out v)) i.1);
          less = λ b. omega (arith, ap (tasks_at b) same);
          one_less = omega (arith, ap (tasks_at a) same, self);
          others = subst (Each (IsOut G)) (sym same) o.1;
        }
    go false e f k =
        let r = f k in
        let same : without_task w a (task ∷ tasks) ≡ task ∷ without_task w a tasks = cond-false (is_task w a task) tasks
        (task ∷ without_task w a tasks) e in
        record {
          mine = r.mine;
          less = λ b. omega (arith, ap (tasks_at b) same, r.less b);
          one_less = omega (arith, ap (tasks_at a) same, r.one_less);
          others = subst (Each (IsOut G)) (sym same) (o.0, r.others);
        }

lost_preserved : (G : Place → Option Handed) (t : TreeState) (w : ℕ) (a : Place) → IsPreserved G t → t.halted ≡ None
    → list_any (is_task w a) t.lost ≡ true → IsPreserved (moved_at G a (given_back Over w)) (record t { lost = without_task w a t.lost })
lost_preserved G t w a k z h =
    let g = k.going z in
    let r = comes_back G w a t.lost g.lost h in
    let q : given_back Over w (Out w) ≡ Some Over = cond-true (w == w) (Some Over) None (number_same w) in
    let now : moved_at G a (given_back Over w) a ≡ Some Over = here G a (given_back Over w) (Out w) Over r.mine q in
    let e = elsewhere G a (given_back Over w) k.defined in
    let one = g.once a in
    record {
      defined = all_defined G a (given_back Over w) Over k.defined now;
      going = λ y. record {
        agrees = preserved_root G (moved_at G a (given_back Over w)) a e t.root (omega (arith, r.one_less, one)) g.agrees;
        new = λ b l. new_at b l (same_place a b) refl;
        lost = lost_elsewhere G (moved_at G a (given_back Over w)) a e (without_task w a t.lost) (omega (arith, r.one_less, one)) r.others;
        once = λ b. omega (arith, r.less b, g.once b);
        old = λ b l. omega (arith, r.less b, g.old b l);
      };
    }
  where
    new_at : (b : Place) → t.next ≤ b.node → (c : Bool) → same_place a b ≡ c → moved_at G a (given_back Over w) b ≡ Some Never
    new_at b l true e =
        let g = k.going z in
        let same : a ≡ b = same_place-is a b e in
        let r = comes_back G w a t.lost g.lost h in
        let none_old : tasks_at a t.lost ≡ 0 = ap (λ p. tasks_at p t.lost) same ∙ g.old b l in
        let no_way : ⊥ = omega (arith, r.one_less, none_old) in absurd no_way
    new_at b l false e = elsewhere G a (given_back Over w) k.defined b e ∙ (k.going z).new b l

-- each event
same_preserved : (G F : Place → Option Handed) (t : TreeState) → ((a : Place) → G a ≡ F a) → IsPreserved G t → IsPreserved F t
same_preserved G F t e k = let path : G ≡ F = λ i a. e a i in subst (λ H. IsPreserved H t) path k

allowed_preserved : (G : Place → Option Handed) (t : TreeState) (e : Event) → IsPreserved G t → t.halted ≡ None → IsSoundTree t
    → is_allowed t e
    ≡ true → IsPreserved (after_one G e) (after_allowed t e)
unfolding gate_of
allowed_preserved G t (Claim w a) k z st h = claim_preserved G t w a k z st (claimable t) refl h
allowed_preserved G t (Resume w a) k z st h = resume_preserved G t w a k z st (resumable t) refl h
allowed_preserved G t (Suspend w a true) k z st h = suspend_preserved G t w a true _ k z st (taken_at w a t) refl h
allowed_preserved G t (Suspend w a false) k z st h = suspend_preserved G t w a false _ k z st (taken_at w a t) refl h
allowed_preserved G t (Nodes w a n sizes) k z st h =
    closing G t w a _ (λ s. run_placed s n sizes (run_of t s n) t) k z st (taken_at w a t) refl h
    (allowed_sound t (Nodes w a n sizes) st h) (λ s p g th y. nodes_move G t s w n sizes k.defined g th (run_of t s n) p)
allowed_preserved G t (Empty w a n) k z st h =
    closing G t w a _ (λ s. closed_with s (record { inferences = n; answers = 0; records = [] }) t) k z st (taken_at w a t) refl h
    (allowed_sound t (Empty w a n) st h)
    (λ s p g th y. record { gone = []; moved = closed_moved G t s (given_back Over w) k.defined g th _ t.world })
allowed_preserved G t (Collected w a n) k z st h =
    closing G t w a _ _ k z st (taken_at w a t) refl h (allowed_sound t (Collected w a n) st h)
    (λ s p g th y. record { gone = []; moved = closed_moved G t s (given_back Over w) k.defined g th _ t.world })
allowed_preserved G t (Lost w a) k z st h = lost_preserved G t w a k z h
allowed_preserved G t (Prune w a) k z st h =
    closing G t w a _ (λ s. gate_pruned s (gate_of t s) (or_none (taken_alone t.job.clauses (spot_stack s))) t) k z st (taken_at w a t)
    refl h (allowed_sound t (Prune w a) st h)
    (λ s p g th y. prune_moves G t s w k.defined g th (gate_of t s) p (or_none (taken_alone t.job.clauses (spot_stack s)))
    (stack_some t.job.clauses (levels_of s) (spot_stack s) p))
allowed_preserved G t (Answer w a true) k z st h = let no_way : ⊥ = cc in absurd no_way
allowed_preserved G t (Answer w a false) k z st h =
    closing G t w a _ (λ s. world_moved s (taken_at_front t.job.clauses (spot_stack s) t.world) t) k z st (taken_at w a t) refl h
    (allowed_sound t (Answer w a false) st h)
    (λ s p g th y. answer_moves G t s w k.defined g th (taken_at_front t.job.clauses (spot_stack s) t.world).0
    (taken_at_front t.job.clauses (spot_stack s) t.world).1 (front_whole t.job.clauses (spot_stack s) t.world) y)
allowed_preserved G t (Stop w) k z st h = same_preserved G (after_one G (Stop w)) (record t { stopped = true }) (λ a. unchanged (G a))
    (record {
      defined = k.defined;
      going = λ y. let g = k.going y in record
          { agrees = g.agrees; new = g.new; lost = g.lost; once = g.once; old = g.old };
    })
  where
    unchanged : (o : Option Handed) → o ≡ and_so_on o (λ h. Some h)
    unchanged None = refl
    unchanged (Some h) = refl

event_preserved : (G : Place → Option Handed) (t : TreeState) (e : Event) → IsPreserved G t → IsSoundTree t → is_legal t e ≡ true
    → IsPreserved (after_one G e) (after_event t e)
unfolding is_legal after_event
event_preserved G t e k st h =
    let rest = and-right (not t.stopped) _ h in
    let open_tree : is_none (ended t) ≡ true = and-left (is_none (ended t)) _ rest in
    let r = allowed_preserved G t e k (no_halt t.halted open_tree) st (and-right (is_none (ended t)) _ rest) in
    record {
      defined = r.defined;
      going = λ y. let g = r.going y in record
          { agrees = g.agrees; new = g.new; lost = g.lost; once = g.once; old = g.old };
    }
  where
    no_halt : (o : Option ℕ) → is_none (end_by o (leftmost t) t.budget) ≡ true → o ≡ None
    no_halt None z = refl
    no_halt (Some n) z = let no_way : ⊥ = cc in absurd no_way

events_preserved : (t : TreeState) (es : List Event) (G : Place → Option Handed) → IsPreserved G t → IsSoundTree t → are_legal t es ≡ true
    → (a : Place) → and_so_on (G a) (handed_after a es) ≢ None
events_preserved t [] G k st h a = same (G a) (k.defined a)
  where
    same : (o : Option Handed) → o ≢ None → and_so_on o (λ x. Some x) ≢ None
    same None d = d
    same (Some x) d = d
events_preserved t (e ∷ es) G k st h a = go (and-left (is_legal t e) _ h) (events_preserved (after_event t e) es (after_one G e))
    (joined (G a))
  where
    joined : (o : Option Handed) → and_so_on o (handed_after a (e ∷ es)) ≡ and_so_on (and_so_on o (handed_by a e)) (handed_after a es)
    joined None = refl
    joined (Some x) = refl

    go : is_legal t e ≡ true → (IsPreserved (after_one G e) (after_event t e) → IsSoundTree (after_event t e)
        → are_legal (after_event t e) es ≡ true → (b : Place) → and_so_on (after_one G e b) (handed_after b es) ≢ None) →
        and_so_on (G a) (handed_after a (e ∷ es)) ≡ and_so_on (after_one G e a) (handed_after a es)
        → and_so_on (G a) (handed_after a (e ∷ es)) ≢ None
    go l f j n = f (event_preserved G t e k st l) (event_sound t e st l) (and-right (is_legal t e) _ h) a (sym j ∙ n)

opening_preserved : (job : Job) (budget window : ℕ) → IsPreserved (λ a. Some Never) (opening_tree job budget window)
opening_preserved job budget window = go job.queries
  where
    some_none : Some Never ≡ None → ⊥
    some_none z = cc

    few : (a : Place) → 0 + (one_if (same_place a (at 0 0)) + (one_if (same_place a (at 0 1)) + 0)) ≤ 1
    few a = pick (a.index == 0) refl (a.index == 1) refl (a.node == 0)
      where
        pick : (x : Bool) → (a.index == 0) ≡ x → (y : Bool) → (a.index == 1) ≡ y → (n : Bool)
            → 0 + (one_if (n && x) + (one_if (n && y) + 0)) ≤ 1
        pick true e true f n = let z : a.index ≡ 0 = grind arith in let o : a.index
            ≡ 1 = grind arith in let no_way : ⊥ = omega (arith, z, o) in absurd no_way
        pick true e false f true = omega arith
        pick true e false f false = omega arith
        pick false e true f true = omega arith
        pick false e true f false = omega arith
        pick false e false f true = omega arith
        pick false e false f false = omega arith

    go : (qs : List Query) → IsPreserved (λ a. Some Never)
        (record (opening_tree job budget window) { root = opening_root qs; next = nodes_below (opening_root qs) })
    go [] = record {
      defined = λ a. some_none;
      going = λ y.
          record { agrees = tt; new = λ a l. refl; lost = tt; once = λ a. omega arith; old = λ a l. refl };
    }
    go (q ∷ qs) = record {
      defined = λ a. some_none;
      going = λ y.
          record { agrees = (refl, (refl, tt)); new = λ a l. refl; lost = tt; once = few; old = λ a l. refl };
    }

pub once : Once
once job budget window es a h = events_preserved (opening_tree job budget window) es (λ b. Some Never) (opening_preserved job budget window)
    (opening_sound job budget window) h a
