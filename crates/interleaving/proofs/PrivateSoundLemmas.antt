-- A private run keeps its entries on their ways.
use Rattle.std.proofs.Common.{◌≡◌, ℕ, suc, ◌+◌, ◌-◌, ◌≤◌, ◌==◌, Bool, true, false, cond, List, [], ◌∷◌, ◌++◌, length, drop, Option, Some}
use Rattle.std.proofs.Common.{None, refl, sym, ap, ◌∙◌, subst, arith}
use Rattle.std.specs.Prelude.{codes, nat_lt}
use Rattle.std.proofs.lemmas.List.{length-append}
use Rattle.au_term.specs.Term.{Term, AtomTerm}
use Rattle.run_model.specs.Programs.Bodies.{call_of}
use Rattle.au_model.specs.Terms.Substitutions.{Substitution}
use Rattle.au_model.specs.Terms.Copies.{copy_takes}
use Rattle.run_model.specs.Goals.Outcomes.{Reply, Solutions, Ball, HaltNumber, ControlForm, GoesOnWith, EitherOf, TestOf, CutToScope}
use Rattle.run_model.specs.Goals.Outcomes.{CatchOf}
use Rattle.run_model.specs.Goals.Outcomes.{FindallOf}
use Rattle.run_model.specs.Machine.Items.{Item, GoalItem, CatchMark, CollectMark, Continuation, goals_at, resolve_continuation, before}
use Rattle.run_model.specs.Machine.Items.{with_next}
use Rattle.run_model.specs.Machine.Items.{first_mark}
use Rattle.run_model.specs.Machine.Entries.{Entry, PlainEntry, CatchEntry, FindallEntry, EndEntry, solution_entries}
use Rattle.run_model.specs.Machine.Balls.{taken_by, next_mark, recovered, unwound}
use Rattle.run_model.specs.Machine.Heights.{goals_entry, test_items, guarded_goal, after_reply, after_control}
use Rattle.tree_model.specs.Nodes.{CutGate, BallGate, CatchNode, FindallNode}
use Rattle.tree_model.specs.Levels.{Level}
use Rattle.tree_model.specs.Floors.{node_of}
use Rattle.tree_model.specs.Gates.{ball_scope, is_caught_above, control_gate, reply_gate}
use Rattle.tree_model.specs.PendingLists.{Way}
use Rattle.tree_model.specs.Ways.{is_barrier, in_reach, through, way_from, way_above, AreScoped, under_query, IsAsked}
use Rattle.interleaving.proofs.AppendLemmas.{append-assoc}
use Rattle.interleaving.proofs.WayLemmas.{cond-true}
use Rattle.interleaving.proofs.RoundtripLemmas.{weaken_from}
use Rattle.interleaving.proofs.BallLemmas.{IsLow, ball_scope_low}
use Rattle.interleaving.proofs.CollapseLemmas.{as_scopes}
use Rattle.interleaving.proofs.StackLemmas.{IsCounted, counted_path, stack_way, length-stack, counted_stack, AreOver, drop_over}
use Rattle.interleaving.proofs.StackLemmas.{resolved_scopes, top_reach, top_from, top_goals, scope_goals, over_plain, solutions_over}
use Rattle.interleaving.proofs.StackLemmas.{drop-append, from_stack, stack_asked}
use Rattle.au_term.proofs.LogicLemmas.{number_same, le_by, not_lt_by}

-- own entries over a floor
pub record IsOwn (w : Way) (floor result : List Entry) : Type 0 where
  pub own : List Entry
  pub joined : result ≡ own ++ floor
  pub over : AreOver w own

-- a floor and its way
pub record IsFloor (w : Way) (floor : List Entry) : Type 0 where
  pub counted : IsCounted w
  pub length_same : length floor ≡ length w

-- the number of entries of a stack names the top of its way
pub stack_length : (w : Way) (floor es : List Entry) → IsFloor w floor → length (es ++ floor) ≡ length (stack_way es w)
stack_length w floor es k = omega (arith, length-append es floor, length-stack es w, k.length_same)

-- what is current: the rest of an entry whose first goal has a scope in reach
pub record IsGoal (w : Way) (es : List Entry) (h : ℕ) (items : List (Item ℕ)) : Type 0 where
  pub asked : under_query (stack_way es w) ≡ true
  pub reach : in_reach (stack_way es w) h ≡ true
  pub rest : AreScoped (way_from (stack_way es w) h) (as_scopes items)
  pub over : AreOver w es

rest_of : (w : Way) (es : List Entry) (h : ℕ) (items : List (Item ℕ)) → IsCounted w → IsGoal w es h items
    → IsAsked (stack_way es w) (as_scopes items)
rest_of w es h items c g = record {
  asked = g.asked;
  scoped = weaken_from (stack_way es w) h (as_scopes items) (counted_path (stack_way es w) (counted_stack es w c))
      g.reach g.rest;
}

-- a ball that lands at an own entry
no_low : (levels : List Level) (n : ℕ) → length levels ≡ n → (es : List Entry) → IsLow n es → is_caught_above levels es ≡ true → ⊥
no_low levels n l [] h k = h
no_low levels n l (PlainEntry f ∷ es) h k = omega (arith, h, l, le_by (length levels) (length es) k)
no_low levels n l (EndEntry b ∷ es) h k = cc
no_low levels n l (CatchEntry c r f ∷ es) h k = h
no_low levels n l (FindallEntry results x f ∷ es) h k = h

ball_scope_own : (w : Way) (floor : List Entry) → IsFloor w floor → (ball : Term) (es : List Entry) (mark : Option ℕ) → AreOver w es
    → (levels : List Level) → length levels ≡ length floor → is_caught_above levels (unwound ball mark (es ++ floor)) ≡ true
    → IsOwn w floor (unwound ball mark (es ++ floor))
ball_scope_own w floor k ball [] mark o levels l h = absurd
    (no_low levels (length floor) l (unwound ball mark floor) (ball_scope_low ball mark floor) h)
ball_scope_own w floor k ball (PlainEntry f ∷ es) mark o levels l h = ball_scope_own w floor k ball es mark o.1 levels l h
ball_scope_own w floor k ball (FindallEntry results x f ∷ es) mark o levels l h = ball_scope_own w floor k ball es mark o.1 levels l h
ball_scope_own w floor k ball (EndEntry b ∷ es) mark o levels l h = ball_scope_own w floor k ball es mark o.1 levels l h
ball_scope_own w floor k ball (CatchEntry x r f ∷ es) mark o levels l h = go (taken_by mark (length (es ++ floor)) ball x f) h
    (λ j. ball_scope_own w floor k ball es (next_mark mark (length (es ++ floor)) f) o.1 levels l j)
  where
    go : (s : Option Substitution) → is_caught_above levels
        (recovered s ball r f (es ++ floor) (unwound ball (next_mark mark (length (es ++ floor)) f) (es ++ floor))) ≡ true →
        (is_caught_above levels (unwound ball (next_mark mark (length (es ++ floor)) f) (es ++ floor)) ≡ true
        → IsOwn w floor (unwound ball (next_mark mark (length (es ++ floor)) f) (es ++ floor))) →
        IsOwn w floor (recovered s ball r f (es ++ floor) (unwound ball (next_mark mark (length (es ++ floor)) f) (es ++ floor)))
    go None j f = f j
    go (Some s) j z =
        let n = length (es ++ floor) in
        let top = stack_length w floor es k in
        let goal : AreScoped (stack_way es w) (as_scopes (GoalItem (call_of r) n ∷ f.items)) = top_goals (stack_way es w) n
        (counted_stack es w k.counted) top o.0.asked (call_of r ∷ []) f.items o.0.scoped in
        record {
          own = PlainEntry (resolve_continuation s (with_next (f.next + copy_takes ball) (before (GoalItem (call_of r) n ∷ []) f))) ∷ es;
          joined = refl;
          over = (record { asked = o.0.asked; scoped = resolved_scopes s (stack_way es w) (GoalItem (call_of r) n ∷ f.items) goal }, o.1);
        }

-- the control constructs
pub form_own : (w : Way) (floor es : List Entry) (o : ControlForm) (h : ℕ) (f : Continuation ℕ) → IsFloor w floor → IsGoal w es h f.items
    → (levels : List Level) → length levels ≡ length floor → control_gate levels o h ≡ None
    → IsOwn w floor (after_control o h f (es ++ floor))
form_own w floor es (GoesOnWith gs) h f k g levels l q =
    let r = rest_of w es h f.items k.counted g in
    record {
      own = goals_entry (length (es ++ floor)) gs f ∷ es;
      joined = refl;
      over = (
        record {
          asked = g.asked;
          scoped = top_goals (stack_way es w) (length (es ++ floor)) (counted_stack es w k.counted)
              (stack_length w floor es k) g.asked gs f.items r.scoped;
        },
        g.over,
      );
    }
form_own w floor es (EitherOf gs others) h f k g levels l q =
    let p = counted_path (stack_way es w) (counted_stack es w k.counted) in
    let second : IsAsked (stack_way es w) (as_scopes (goals_at h others ++ f.items)) = record
    { asked = g.asked; scoped = scope_goals (stack_way es w) h p g.reach others f.items g.rest } in
    let first : IsAsked (stack_way es w) (as_scopes (goals_at h gs ++ f.items)) = record
    { asked = g.asked; scoped = scope_goals (stack_way es w) h p g.reach gs f.items g.rest } in
    record {
      own = goals_entry h gs f ∷ goals_entry h others f ∷ es;
      joined = refl;
      over = (over_plain w (goals_entry h others f ∷ []) es (goals_at h gs ++ f.items) k.counted tt first, (second, g.over));
    }
form_own w floor es (TestOf condition thens others) h f k g levels l q =
    let n = length (es ++ floor) in
    let W = stack_way es w in
    let c = counted_stack es w k.counted in
    let p = counted_path W c in
    let other = goals_entry h others f in
    let V = stack_way (other ∷ es) w in
    let cv : IsCounted V = counted_stack (other ∷ es) w k.counted in
    let second : IsAsked W (as_scopes (goals_at h others ++ f.items)) = record
    { asked = g.asked; scoped = scope_goals W h p g.reach others f.items g.rest } in
    let then_items = goals_at h thens ++ f.items in
    let after : IsAsked W (as_scopes (GoalItem (AtomTerm (codes "!")) n ∷ then_items)) = record {
      asked = g.asked;
      scoped = (
        top_reach W n c (stack_length w floor es k) g.asked,
        subst
            (λ x. AreScoped x (as_scopes then_items)) (sym (top_from W n c (stack_length w floor es k)))
            (scope_goals W h p g.reach thens f.items g.rest),
      );
    } in
    let low : IsAsked V (as_scopes (GoalItem (AtomTerm (codes "!")) n ∷ then_items)) = over_plain w (other ∷ []) es
    (GoalItem (AtomTerm (codes "!")) n ∷ then_items) k.counted tt after in
    let lengths : suc n ≡ length V = ap suc (stack_length w floor es k) in
    let whole : AreScoped V (as_scopes (goals_at (suc n) condition ++ (GoalItem (AtomTerm (codes "!")) n ∷ then_items))) = top_goals V
    (suc n) cv lengths low.asked condition (GoalItem (AtomTerm (codes "!")) n ∷ then_items) low.scoped in
    let same : goals_at (suc n) condition ++ (GoalItem (AtomTerm (codes "!")) n ∷ then_items)
    ≡ test_items n h condition thens ++ f.items = sym
    (append-items (goals_at (suc n) condition) (GoalItem (AtomTerm (codes "!")) n ∷ goals_at h thens) f.items) in
    record {
      own = PlainEntry (before (test_items n h condition thens) f) ∷ other ∷ es;
      joined = refl;
      over = (record { asked = low.asked; scoped = subst (λ items. AreScoped V (as_scopes items)) same whole }, (second, g.over));
    }
  where
    append-items : (xs ys zs : List (Item ℕ)) → (xs ++ ys) ++ zs ≡ xs ++ (ys ++ zs)
    append-items xs ys zs = append-assoc xs ys zs
form_own w floor es (CatchOf goal catcher recovery) h f k g levels l q =
    let n = length (es ++ floor) in
    let W = stack_way es w in
    let V = stack_way (CatchEntry catcher recovery f ∷ es) w in
    let cv : IsCounted V = counted_stack (CatchEntry catcher recovery f ∷ es) w k.counted in
    let r = rest_of w es h f.items k.counted g in
    let same : suc (length es + length w) ≡ suc n = ap suc (sym (length-stack es w) ∙ sym (stack_length w floor es k)) in
    let self : (suc (length es + length w) == suc n) ≡ true = ap (λ m. m == suc n) same ∙ number_same (suc n) in
    let side : through CatchNode V (suc n) ≡ true = cond-true (suc (length es + length w) == suc n) true _ self in
    let above : way_above V (suc n) ≡ W = cond-true (suc (length es + length w) == suc n) W (way_above W (suc n)) self in
    let lengths : suc n ≡ length V = ap suc (stack_length w floor es k) in
    let mark : AreScoped V (as_scopes (CatchMark n ∷ f.items)) =
    (side, subst (λ x. AreScoped x (as_scopes f.items)) (sym above) r.scoped) in
    record {
      own = PlainEntry (before (guarded_goal n goal ∷ CatchMark n ∷ []) f) ∷ CatchEntry catcher recovery f ∷ es;
      joined = refl;
      over = (
        record {
          asked = g.asked;
          scoped = top_goals V (suc n) cv lengths g.asked (call_of goal ∷ []) (CatchMark n ∷ f.items) mark;
        },
        (r, g.over),
      );
    }
form_own w floor es (FindallOf template goal list) h f k g levels l q =
    let n = length (es ++ floor) in
    let W = stack_way es w in
    let V = stack_way (FindallEntry [] list f ∷ es) w in
    let cv : IsCounted V = counted_stack (FindallEntry [] list f ∷ es) w k.counted in
    let r = rest_of w es h f.items k.counted g in
    let same : suc (length es + length w) ≡ suc n = ap suc (sym (length-stack es w) ∙ sym (stack_length w floor es k)) in
    let self : (suc (length es + length w) == suc n) ≡ true = ap (λ m. m == suc n) same ∙ number_same (suc n) in
    let side : through FindallNode V (suc n) ≡ true = cond-true (suc (length es + length w) == suc n) true _ self in
    let above : way_above V (suc n) ≡ W = cond-true (suc (length es + length w) == suc n) W (way_above W (suc n)) self in
    let lengths : suc n ≡ length V = ap suc (stack_length w floor es k) in
    let asked : under_query V ≡ true = g.asked in
    let mark : AreScoped V (as_scopes (CollectMark template n ∷ f.items)) =
    (side, subst (λ x. AreScoped x (as_scopes f.items)) (sym above) r.scoped) in
    record {
      own = PlainEntry (before (guarded_goal n goal ∷ CollectMark template n ∷ []) f) ∷ FindallEntry [] list f ∷ es;
      joined = refl;
      over = (
        record {
          asked = asked;
          scoped = top_goals V (suc n) cv lengths asked (call_of goal ∷ [])
              (CollectMark template n ∷ f.items) mark;
        },
        (r, g.over),
      );
    }
form_own w floor es CutToScope h f k g levels l q =
    let n = length (es ++ floor) in
    let high : length floor ≤ h = omega (arith, l, not_lt_by h (length levels) (no_gate (nat_lt h (length levels)) q)) in
    let bound : h ≤ length (stack_way es w) = reach_bound (stack_way es w) h (counted_stack es w k.counted) g.reach in
    let total : n ≡ length es + length floor = length-append es floor in
    let kept : n - h ≤ length es = omega (arith, total, high) in
    let sums : (n - h) + h ≡ length es + length w = omega (arith, total, k.length_same, bound, length-stack es w) in
    record {
      own = PlainEntry f ∷ drop (n - h) es;
      joined = ap (λ xs. PlainEntry f ∷ xs) (drop-append (n - h) es floor kept);
      over = (
        record {
          asked = asked_below;
          scoped = subst (λ x. AreScoped x (as_scopes f.items))
              (from_stack w es h (n - h) k.counted sums kept) g.rest;
        },
        drop_over w (n - h) es g.over,
      );
    }
  where
    no_gate : (b : Bool) → cond b (Some (CutGate (node_of levels h))) None ≡ None → b ≡ false
    no_gate false e = refl
    no_gate true e = let no_way : ⊥ = cc in absurd no_way

    reach_bound : (way : Way) (s : ℕ) → IsCounted way → in_reach way s ≡ true → s ≤ length way
    reach_bound [] s c r = let no_way : ⊥ = cc in absurd no_way
    reach_bound (a ∷ way) s c r = go (a.node == s) refl (is_barrier a) (reach_bound way s c.1) r
      where
        go : (b : Bool) → (a.node == s) ≡ b → (d : Bool) → (in_reach way s ≡ true → s ≤ length way)
            → cond b true (cond d false (in_reach way s)) ≡ true → s ≤ suc (length way)
        go true e d z j = let same : a.node ≡ s = grind arith in omega (arith, same, c.0)
        go false e false z j = omega (arith, z j)
        go false e true z j = let no_way : ⊥ = cc in absurd no_way

    asked_below : under_query (stack_way (drop (length (es ++ floor) - h) es) w) ≡ true
    asked_below = stack_asked (drop (length (es ++ floor) - h) es) w ∙ (sym (stack_asked es w) ∙ g.asked)

-- a goal that is no gate
pub reply_own : (w : Way) (floor es : List Entry) (r : Reply) (h : ℕ) (f : Continuation ℕ) → IsFloor w floor → IsGoal w es h f.items
    → (levels : List Level) → length levels ≡ length floor → reply_gate levels r f (es ++ floor) ≡ None
    → IsOwn w floor (after_reply r f (es ++ floor))
reply_own w floor es (Solutions ss) h f k g levels l q = record {
  own = solution_entries (length (es ++ floor)) f ss ++ es;
  joined = sym (append-assoc (solution_entries (length (es ++ floor)) f ss) es floor);
  over = solutions_over w (length (es ++ floor)) f ss es k.counted (stack_length w floor es k) (rest_of w es h f.items k.counted g) g.over;
}
reply_own w floor es (Ball b) h f k g levels l q = ball_scope_own w floor k b es (first_mark f.items) g.over levels l
    (no_gate (is_caught_above levels (unwound b (first_mark f.items) (es ++ floor))) q)
  where
    no_gate : (c : Bool) → cond c None (Some (BallGate (ball_scope levels (unwound b (first_mark f.items) (es ++ floor))))) ≡ None
        → c ≡ true
    no_gate true e = refl
    no_gate false e = let no_way : ⊥ = cc in absurd no_way
reply_own w floor es (HaltNumber m) h f k g levels l q = let no_way : ⊥ = cc in absurd no_way
