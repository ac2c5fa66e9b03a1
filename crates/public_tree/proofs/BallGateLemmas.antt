-- Where a ball that is a gate lands: beside what sleeps.
use Rattle.std.proofs.Common.{◌≡◌, ℕ, suc, ◌-◌, ◌<◌, ◌==◌, Bool, true, false, cond, List, [], ◌∷◌, length, Option, Some, None, refl, sym, ap, ◌∙◌, subst, arith}
use Rattle.std.specs.Prelude.{nat_lt}
use Rattle.au_term.specs.Term.{Term}
use Rattle.au_term.proofs.LogicLemmas.{number_same}
use Rattle.au_model.specs.Terms.Substitutions.{Substitution}
use Rattle.run_model.specs.Programs.Clauses.{Clause}
use Rattle.run_model.specs.Goals.GoalOutcomes.{outcome_of}
use Rattle.run_model.specs.Goals.Outcomes.{Solutions, Ball, HaltNumber, GoesOnWith, EitherOf, TestOf, CutToScope, CatchOf, FindallOf, Outcome, Replies, Controls, AskWorld}
use Rattle.run_model.specs.Machine.Balls.{taken_by, next_mark, recovered, unwound}
use Rattle.run_model.specs.Machine.Items.{Item, GoalItem, CatchMark, CollectMark, RemovalItem, Continuation, with_items, first_mark}
use Rattle.run_model.specs.Machine.Entries.{Entry, PlainEntry, CatchEntry, FindallEntry, EndEntry}
use Rattle.tree_model.specs.Nodes.{CutGate, BallGate, Hold, Ready, TakenBy, Waiting, Dormant, Kind, ChoiceNode, CatchNode, FindallNode, QueryNode, Alternatives, none, alternative, Status, Pending, Inner, Closed}
use Rattle.tree_model.specs.Levels.{Level, level_node, plug}
use Rattle.tree_model.specs.Closing.{dormant_right, guarded}
use Rattle.tree_model.specs.Floors.{renamed_continuation, height_of, node_of, with_heights, right_entry, floor_of, query_kind, query_node}
use Rattle.tree_model.specs.Gates.{ball_scope, is_caught_above, goal_gate, item_gate, gate_on}
use Rattle.tree_model.specs.PendingLists.{way_of}
use Rattle.tree_model.specs.PrivateRuns.{goal_alone, item_alone, taken_alone}
use Rattle.tree_model.specs.SoundTrees.{Profile, IsOpen, IsDormant, guards, profile, profiles, are_pair, is_shape, IsSound}
use Rattle.tree_model.specs.Ways.{is_on, is_query, under_query}
use Rattle.interleaving.proofs.ContextLemmas.{put_profiles, profiles-put}
use Rattle.interleaving.proofs.EntryLemmas.{length-floor}
use Rattle.interleaving.proofs.GrowingLemmas.{none_dormant-of}
use Rattle.interleaving.proofs.WayLemmas.{cond-true, cond-false, other_number}
use Rattle.prune_ops.specs.Falls.{down_to, sleeper_on}
use Rattle.branch_order.proofs.LeftmostLemmas.{sound-right}

-- the levels of a place of a sound tree: no number comes twice, and each node has its shape
record IsLevel (up : List Level) (v : Level) (p : Profile) : Type 0 where
  new : is_on (way_of up) v.number ≡ false
  shape : is_shape v.kind (put_profiles v.left (p ∷ profiles v.right)) ≡ true

abbrev AreLevels : List Level → Profile → Type 0
AreLevels [] p = Unit {0}
AreLevels (v ∷ up) p = IsLevel up v p × AreLevels up IsOpen

sound_round : (levels : List Level) (status : Status) → IsSound [] (plug levels status) → AreLevels levels (profile status) × IsSound (way_of levels) status
sound_round [] status h = (tt, h)
sound_round (v ∷ up) status h =
    let k = sound_round up (Inner (level_node v status)) h in
    let part = sound-right (way_of up) v.number v.kind v.left (alternative v.spent status v.right) k.1.3 in
    let shape : is_shape v.kind (put_profiles v.left (profile status ∷ profiles v.right)) ≡ true
    = ap (is_shape v.kind) (sym (profiles-put v.left (alternative v.spent status v.right))) ∙ k.1.1 in
    ((record { new = k.1.0; shape = shape }, k.0), part.0)

-- where something sleeps after an alternative, that is the first one
record IsThree (ps : List Profile) : Type 0 where
  a : Profile
  b : Profile
  c : Profile
  others : List Profile
  is : ps ≡ a ∷ (b ∷ (c ∷ others))

three : (left : List (ℕ × Status)) (a b c : Profile) (ps : List Profile) → IsThree (put_profiles left (a ∷ (b ∷ (c ∷ ps))))
three [] a b c ps = record { a = a; b = b; c = c; others = ps; is = refl }
three (x ∷ left) a b c ps = three left (profile x.1) a b (c ∷ ps)

no_three : (k : Kind) (left : List (ℕ × Status)) (a b c : Profile) (ps : List Profile) → are_pair k (put_profiles left (a ∷ (b ∷ (c ∷ ps)))) ≡ true → ⊥
no_three k left a b c ps h =
    let t = three left a b c ps in
    let z : false ≡ true = ap (are_pair k) (sym t.is) ∙ h in
    cc z

dormant_first : (kind : Kind) (left : List (ℕ × Status)) (k : Kind) (ps : List Profile) → is_shape kind (put_profiles left (IsOpen ∷ (IsDormant k ∷ ps))) ≡ true
    → length left ≡ 0
dormant_first kind [] k ps h = refl
dormant_first ChoiceNode (a ∷ left) k ps h = absurd (let z : false ≡ true = none_dormant-of (a ∷ left) (IsOpen ∷ (IsDormant k ∷ ps)) h in cc z)
dormant_first CatchNode (a ∷ left) k ps h = absurd (no_three CatchNode left (profile a.1) IsOpen (IsDormant k) ps h)
dormant_first FindallNode (a ∷ left) k ps h = absurd (no_three FindallNode left (profile a.1) IsOpen (IsDormant k) ps h)
dormant_first QueryNode (a ∷ left) k ps h = absurd (no_three QueryNode left (profile a.1) IsOpen (IsDormant k) ps h)

-- the end of a query sleeps after its goals
query_sleeps : (left : List (ℕ × Status)) (right : Alternatives) → length left ≡ 0 → is_shape QueryNode (put_profiles left (IsOpen ∷ profiles right)) ≡ true
    → (e : Entry) × (elim left as (λ l. Option Entry) [ [] ↦ dormant_right right | a ∷ rest ↦ None ] ≡ Some e)
query_sleeps (x ∷ left) right z h = absurd (let y : suc (length left) ≡ 0 = z in omega (arith, y))
query_sleeps [] none z h = absurd (cc h)
query_sleeps [] (alternative sp status (alternative sq other others)) z h = absurd (cc h)
query_sleeps [] (alternative sp (Inner node) none) z h = absurd (cc h)
query_sleeps [] (alternative sp (Closed credit) none) z h = absurd (cc h)
query_sleeps [] (alternative sp (Pending Ready e) none) z h = absurd (cc h)
query_sleeps [] (alternative sp (Pending (TakenBy w) e) none) z h = absurd (cc h)
query_sleeps [] (alternative sp (Pending (Waiting g) e) none) z h = absurd (cc h)
query_sleeps [] (alternative sp (Pending Dormant e) none) z h = (e, refl)

record IsQueryOn (levels : List Level) : Type 0 where
  on : is_on (way_of levels) (query_node levels) ≡ true
  slept : Entry
  sleeps : sleeper_on (down_to (query_node levels) levels) ≡ Some slept

query_on : (levels : List Level) → AreLevels levels IsOpen → under_query (way_of levels) ≡ true → IsQueryOn levels
query_on [] h u = absurd (cc u)
query_on (v ∷ up) h u = by_kind v.kind refl (query_on up h.1)
  where
    other : query_node (v ∷ up) ≡ query_node up → IsQueryOn up → IsQueryOn (v ∷ up)
    other same k =
        let off : (v.number == query_node up) ≡ false = other_number (way_of up) v.number (query_node up) h.0.new k.on (v.number == query_node up) refl in
        record {
          on = ap (is_on (way_of (v ∷ up))) same ∙ (cond-false (v.number == query_node up) true (is_on (way_of up) (query_node up)) off ∙ k.on);
          slept = k.slept;
          sleeps = ap (λ (n : ℕ). sleeper_on (down_to n (v ∷ up))) same
              ∙ (ap sleeper_on (cond-false (v.number == query_node up) (v ∷ up) (down_to (query_node up) up) off) ∙ k.sleeps);
        }

    further : (k : Kind) → v.kind ≡ k → is_query k ≡ false → query_kind k v.number (query_node up) ≡ query_node up
        → (under_query (way_of up) ≡ true → IsQueryOn up) → IsQueryOn (v ∷ up)
    further k e n q above =
        other (ap (λ (x : Kind). query_kind x v.number (query_node up)) e ∙ q)
        (above (sym (ap (λ (x : Bool). cond x (length v.left == 0) (under_query (way_of up))) (ap is_query e ∙ n)) ∙ u))

    by_kind : (k : Kind) → v.kind ≡ k → (under_query (way_of up) ≡ true → IsQueryOn up) → IsQueryOn (v ∷ up)
    by_kind ChoiceNode e above = further ChoiceNode e refl refl above
    by_kind CatchNode e above = further CatchNode e refl refl above
    by_kind FindallNode e above = further FindallNode e refl refl above
    by_kind QueryNode e above =
        let same : query_node (v ∷ up) ≡ v.number = ap (λ (x : Kind). query_kind x v.number (query_node up)) e in
        let index : (length v.left == 0) ≡ true = sym (ap (λ (x : Kind). cond (is_query x) (length v.left == 0) (under_query (way_of up))) e) ∙ u in
        let first : length v.left ≡ 0 = grind (arith, index) in
        let k = query_sleeps v.left v.right first (ap (λ (x : Kind). is_shape x (put_profiles v.left (IsOpen ∷ profiles v.right))) (sym e) ∙ h.0.shape) in
        record {
          on = ap (is_on (way_of (v ∷ up))) same ∙ cond-true (v.number == v.number) true (is_on (way_of up) v.number) (number_same v.number);
          slept = k.0;
          sleeps = ap (λ (n : ℕ). sleeper_on (down_to n (v ∷ up))) same
              ∙ (ap sleeper_on (cond-true (v.number == v.number) (v ∷ up) (down_to v.number up) (number_same v.number)) ∙ k.1);
        }

-- what a ball that is a gate leaves, and its scope
record IsBallOf (levels : List Level) (taken : Option (List Entry)) (floor : List Entry) (n : ℕ) : Type 0 where
  pub ball : Term
  pub mark : Option ℕ
  pub is : taken ≡ Some (unwound ball mark floor)
  pub scope : ball_scope levels (unwound ball mark floor) ≡ n

goal_ball : (levels : List Level) (o : Outcome) (h : ℕ) (f : Continuation ℕ) (es : List Entry) (n : ℕ) → goal_gate levels o h f es ≡ Some (BallGate n)
    → IsBallOf levels (Some (goal_alone o h f es)) es n
goal_ball levels (Replies (Solutions ss)) h f es n e = absurd (cc e)
goal_ball levels (Replies (HaltNumber k)) h f es n e = absurd (cc e)
goal_ball levels (AskWorld goal) h f es n e = absurd (cc e)
goal_ball levels (Controls (GoesOnWith gs)) h f es n e = absurd (cc e)
goal_ball levels (Controls (EitherOf gs others)) h f es n e = absurd (cc e)
goal_ball levels (Controls (TestOf c t o)) h f es n e = absurd (cc e)
goal_ball levels (Controls (CatchOf g c r)) h f es n e = absurd (cc e)
goal_ball levels (Controls (FindallOf t g l)) h f es n e = absurd (cc e)
goal_ball levels (Controls CutToScope) h f es n e = by_test (nat_lt h (length levels)) e
  where
    by_test : (b : Bool) → cond b (Some (CutGate (node_of levels h))) None ≡ Some (BallGate n) → IsBallOf levels (Some (goal_alone (Controls CutToScope) h f es)) es n
    by_test true g = absurd (cc g)
    by_test false g = absurd (cc g)
goal_ball levels (Replies (Ball b)) h f es n e = by_test (is_caught_above levels (unwound b (first_mark f.items) es)) e
  where
    by_test : (c : Bool) → cond c None (Some (BallGate (ball_scope levels (unwound b (first_mark f.items) es)))) ≡ Some (BallGate n)
        → IsBallOf levels (Some (goal_alone (Replies (Ball b)) h f es)) es n
    by_test true g = absurd (cc g)
    by_test false g = record { ball = b; mark = first_mark f.items; is = refl; scope = cc g }

item_ball : (clauses : List Clause) (levels : List Level) (items : List (Item ℕ)) (f : Continuation ℕ) (es : List Entry) (n : ℕ)
    → item_gate clauses levels items f es ≡ Some (BallGate n) → IsBallOf levels (item_alone clauses items f es) es n
item_ball clauses levels [] f es n e = absurd (cc e)
item_ball clauses levels (CatchMark h ∷ items) f es n e = absurd (cc e)
item_ball clauses levels (CollectMark t h ∷ items) f es n e = absurd (cc e)
item_ball clauses levels (RemovalItem number ∷ items) f es n e = absurd (cc e)
item_ball clauses levels (GoalItem g h ∷ items) f es n e = goal_ball levels (outcome_of clauses g f.next) h (with_items items f) es n e

-- where a ball comes to on the floor of a branch
record IsCaught (levels : List Level) (es : List Entry) : Type 0 where
  pub goes_on : Continuation ℕ
  pub level : Level
  pub above : List Level
  pub slept : Entry
  pub is : es ≡ PlainEntry goes_on ∷ floor_of above
  pub number : node_of levels (suc (length above)) ≡ level.number
  pub on : is_on (way_of levels) level.number ≡ true
  pub low : length above < length levels
  pub down : down_to level.number levels ≡ level ∷ above
  pub sleeps : guarded level ≡ Some slept

data Fall (levels : List Level) (es : List Entry) : Type 0 where
  Ends : (b : Option Term) → es ≡ EndEntry b ∷ [] → Fall levels es
  Caught : IsCaught levels es → Fall levels es

-- the recovery of a catch sleeps after the first alternative
first_sleeps : (up : List Level) (v : Level) (c r : Term) (f : Continuation ℕ) → IsLevel up v IsOpen → right_entry v.right ≡ CatchEntry c r f
    → guarded v ≡ Some (CatchEntry c r f)
first_sleeps up v c r f l e = by_right v.right refl e
  where
    by_left : (left : List (ℕ × Status)) → length left ≡ 0 → (right : Alternatives) → dormant_right right ≡ Some (CatchEntry c r f)
        → elim left as (λ l. Option Entry) [ [] ↦ dormant_right right | a ∷ rest ↦ None ] ≡ Some (CatchEntry c r f)
    by_left [] z right h = h
    by_left (x ∷ left) z right h = absurd (let y : suc (length left) ≡ 0 = z in omega (arith, y))

    by_right : (right : Alternatives) → v.right ≡ right → right_entry right ≡ CatchEntry c r f → guarded v ≡ Some (CatchEntry c r f)
    by_right none g h = absurd (cc h)
    by_right (alternative sp (Inner node) others) g h = absurd (cc h)
    by_right (alternative sp (Closed credit) others) g h = absurd (cc h)
    by_right (alternative sp (Pending Ready slept) others) g h = absurd (cc h)
    by_right (alternative sp (Pending (TakenBy w) slept) others) g h = absurd (cc h)
    by_right (alternative sp (Pending (Waiting gate) slept) others) g h = absurd (cc h)
    by_right (alternative sp (Pending Dormant slept) others) g h =
        let shape : is_shape v.kind (put_profiles v.left (IsOpen ∷ IsDormant (guards slept) ∷ profiles others)) ≡ true
        = ap (λ (x : Alternatives). is_shape v.kind (put_profiles v.left (IsOpen ∷ profiles x))) (sym g) ∙ l.shape in
        by_left v.left (dormant_first v.kind v.left (guards slept) (profiles others) shape) v.right (ap dormant_right g ∙ ap Some h)

-- what was found further up
further_up : (v : Level) (up : List Level) (es : List Entry) → is_on (way_of up) v.number ≡ false → Fall up es → Fall (v ∷ up) es
further_up v up es new (Ends b e) = Ends b e
further_up v up es new (Caught k) =
    let low = k.low in
    let other : (suc (length k.above) == suc (length up)) ≡ false = (let ne : length k.above < length up = low in grind (arith, ne)) in
    let off : (v.number == k.level.number) ≡ false = other_number (way_of up) v.number k.level.number new k.on (v.number == k.level.number) refl in
    Caught (record {
      goes_on = k.goes_on;
      level = k.level;
      above = k.above;
      slept = k.slept;
      is = k.is;
      number = cond-false (suc (length k.above) == suc (length up)) v.number (node_of up (suc (length k.above))) other ∙ k.number;
      on = cond-false (v.number == k.level.number) true (is_on (way_of up) k.level.number) off ∙ k.on;
      low = let z : length (v ∷ up) ≡ suc (length up) = refl in omega (arith, low, z);
      down = cond-false (v.number == k.level.number) (v ∷ up) (down_to k.level.number up) off ∙ k.down;
      sleeps = k.sleeps;
    })

caught_at : (v : Level) (up : List Level) (g : Continuation ℕ) (slept : Entry) → guarded v ≡ Some slept → Fall (v ∷ up) (PlainEntry g ∷ floor_of up)
caught_at v up g slept e = Caught (record {
  goes_on = g;
  level = v;
  above = up;
  slept = slept;
  is = refl;
  number = cond-true (suc (length up) == suc (length up)) v.number (node_of up (suc (length up))) (number_same (suc (length up)));
  on = cond-true (v.number == v.number) true (is_on (way_of up) v.number) (number_same v.number);
  low = let z : length (v ∷ up) ≡ suc (length up) = refl in omega (arith, z);
  down = cond-true (v.number == v.number) (v ∷ up) (down_to v.number up) (number_same v.number);
  sleeps = e;
})

falls_down : (ball : Term) (mark : Option ℕ) (levels : List Level) → AreLevels levels IsOpen → Fall levels (unwound ball mark (floor_of levels))
falls_down ball mark [] h = Ends _ refl
falls_down ball mark (v ∷ up) h = by_entry (right_entry v.right) refl (λ m. falls_down ball m up h.1)
  where
    by_taken : (c r : Term) (f k : Continuation ℕ) → right_entry v.right ≡ CatchEntry c r f → (o : Option Substitution)
        → Fall up (unwound ball (next_mark mark (length (floor_of up)) k) (floor_of up))
        → Fall (v ∷ up) (recovered o ball r k (floor_of up) (unwound ball (next_mark mark (length (floor_of up)) k) (floor_of up)))
    by_taken c r f k g (Some s) below = caught_at v up _ (CatchEntry c r f) (first_sleeps up v c r f h.0 g)
    by_taken c r f k g None below = further_up v up _ h.0.new below

    by_entry : (e : Entry) → right_entry v.right ≡ e → ((m : Option ℕ) → Fall up (unwound ball m (floor_of up)))
        → Fall (v ∷ up) (unwound ball mark (with_heights up e ∷ floor_of up))
    by_entry (PlainEntry f) g below = further_up v up _ h.0.new (below mark)
    by_entry (FindallEntry results l f) g below = further_up v up _ h.0.new (below mark)
    by_entry (EndEntry b) g below = further_up v up _ h.0.new (below mark)
    by_entry (CatchEntry c r f) g below =
        let k = renamed_continuation (height_of up) (λ s. height_of up s - 1) f in
        by_taken c r f k g (taken_by mark (length (floor_of up)) ball c k) (below (next_mark mark (length (floor_of up)) k))

-- at its scope something sleeps
scope_sleeps : (levels : List Level) (es : List Entry) → AreLevels levels IsOpen → under_query (way_of levels) ≡ true → Fall levels es
    → (e : Entry) × (sleeper_on (down_to (ball_scope levels es) levels) ≡ Some e)
scope_sleeps levels es h asked (Ends b is) =
    let q = query_on levels h asked in
    (q.slept, ap (λ (x : List Entry). sleeper_on (down_to (ball_scope levels x) levels)) is ∙ q.sleeps)
scope_sleeps levels es h asked (Caught k) =
    let scope : ball_scope levels es ≡ k.level.number
    = ap (ball_scope levels) k.is ∙ (ap (λ (x : ℕ). node_of levels (suc x)) (length-floor k.above) ∙ k.number) in
    (k.slept, ap (λ (x : ℕ). sleeper_on (down_to x levels)) scope ∙ (ap sleeper_on k.down ∙ k.sleeps))

-- of a sound tree, wherever a ball is thrown
pub ball_sleeps : (levels : List Level) (hold : Hold) (f : Continuation ℕ) (ball : Term) (mark : Option ℕ) → IsSound [] (plug levels (Pending hold (PlainEntry f)))
    → profile (Pending hold (PlainEntry f)) ≡ IsOpen → (slept : Entry) × (sleeper_on (down_to (ball_scope levels (unwound ball mark (floor_of levels))) levels) ≡ Some slept)
ball_sleeps levels hold f ball mark s p =
    let k = sound_round levels (Pending hold (PlainEntry f)) s in
    let around : AreLevels levels IsOpen = subst (AreLevels levels) p k.0 in
    scope_sleeps levels (unwound ball mark (floor_of levels)) around k.1.0.asked (falls_down ball mark levels around)

-- and where one is a gate
pub record FallsIn (clauses : List Clause) (levels : List Level) (e : Entry) (n : ℕ) : Type 0 where
  pub ball : Term
  pub mark : Option ℕ
  pub taken : taken_alone clauses (with_heights levels e ∷ floor_of levels) ≡ Some (unwound ball mark (floor_of levels))
  pub scope : ball_scope levels (unwound ball mark (floor_of levels)) ≡ n
  pub slept : Entry
  pub sleeps : sleeper_on (down_to n levels) ≡ Some slept

pub falls_in : (clauses : List Clause) (levels : List Level) (hold : Hold) (e : Entry) (n : ℕ) → IsSound [] (plug levels (Pending hold e))
    → profile (Pending hold e) ≡ IsOpen → gate_on clauses levels (with_heights levels e ∷ floor_of levels) ≡ Some (BallGate n) → FallsIn clauses levels e n
falls_in clauses levels hold (EndEntry b) n s p g = absurd (cc g)
falls_in clauses levels hold (CatchEntry c r f) n s p g = absurd (cc g)
falls_in clauses levels hold (FindallEntry results l f) n s p g = absurd (cc g)
falls_in clauses levels hold (PlainEntry f) n s p g =
    let x = item_ball clauses levels _ _ (floor_of levels) n g in
    let slept = ball_sleeps levels hold f x.ball x.mark s p in
    record {
      ball = x.ball;
      mark = x.mark;
      taken = x.is;
      scope = x.scope;
      slept = slept.0;
      sleeps = ap (λ (m : ℕ). sleeper_on (down_to m levels)) (sym x.scope) ∙ slept.1;
    }
