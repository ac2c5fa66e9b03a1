-- Inferences of a region one after another.
use Rattle.std.proofs.Common.{Box}
use Rattle.std.specs.Global.{Global}
use Rattle.au_term.specs.declared.flat.FlatTerm.{FlatTerm}
use Rattle.std.proofs.Common.{◌≡◌, ℕ, suc, ◌+◌, ◌<◌, ◌≤◌, Bool, true, false, List, [], ◌∷◌, ◌++◌, length, Option, Some, None, refl, sym, ap, ap₂, ◌∙◌, subst, arith}
use Rattle.au_term.specs.Term.{Term, argument_count}
use Rattle.au_model.specs.Terms.Named.{NamedTerm}
use Rattle.run_model.specs.Goals.GoalOutcomes.{outcome_of}
use Rattle.run_model.specs.Goals.Outcomes.{Solutions, Ball, HaltNumber, Outcome, Replies, Controls, AskWorld}
use Rattle.run_model.specs.Machine.Entries.{Entry, EndEntry}
use Rattle.run_model.specs.Machine.Items.{Continuation}
use Rattle.run_model.specs.Machine.States.{State, step, with_free_steps, entry_taken, goal_taken, with_entries}
use Rattle.au_model.specs.Terms.Forms.{name_of}
use Rattle.run_model.specs.Programs.Clauses.{Clause, is_defined}
use Rattle.binding_array.specs.declared.cell.BindingCell.{BindingCell}
use Rattle.binding_array.specs.declared.cell.BindingCell.TheVariants.{Compound}
use Rattle.run_model.proofs.StepLemmas.{step_is}
use Rattle.run_model.specs.Machine.FreeSteps.{take_free_steps}
use Rattle.region_split.specs.QueryEnds.{AreEndsOldest}
use Rattle.region_split.specs.ChoicePoints.{height_of_cut}
use Rattle.region_split.specs.ClauseTrials.{entries_at, Calls, IsOptionalPosition}
use Rattle.region_split.specs.Texts.{TextView}
use Rattle.region_split.specs.Regions.{RegionView, entries_of, heights_of, continuation_here, position_entry, IsPositionIn}
use Rattle.region_split.specs.declared.frame.FrameItem.{FrameItem}
use Rattle.region_split.specs.declared.frame.FrameItem.TheVariants as item
use Rattle.region_split.specs.declared.frame.Position.{Position}
use Rattle.region_control.specs.Ahead.{is_goal_item, goal_entry, ahead_entries, compound_goal, IsGoalThere, IsThereAhead, LiesAhead}
use Rattle.region_control.specs.declared.ahead.Ahead.{Ahead}
use Rattle.region_control.specs.declared.ahead.CompoundAhead.{CompoundAhead}
use Rattle.region_control.specs.Replies.{Leaves, LeavesOutcome}
use Rattle.region_control.specs.declared.ahead.Ahead.TheVariants as ahead
use Rattle.region_control.specs.declared.control.GoalPlace.{GoalPlace}
use Rattle.region_control.specs.declared.replies.AfterGoal.{AfterGoal}
use Rattle.region_control.specs.declared.replies.AfterGoal.TheVariants.{At, Failed, Uncaught, AsksWorld}
use Rattle.region_control.specs.GoalForms.{IsFormOf}
use Rattle.region_control.specs.declared.forms.GoalForm.{GoalForm}
use Rattle.au_model.specs.Terms.Substitutions.{resolve}
use Rattle.cell_store.proofs.WritingLemmas.{how_many}
use Rattle.cell_store.specs.Arguments.{HasFunctor}
use Rattle.cell_store.specs.StoreView.{StoreView, meaning, substitution, text_in}
use Rattle.clause_compile.specs.AtomNumbers.{name_at}
use Rattle.goal_kinds.specs.Kinds.{IsKindOf}
use Rattle.goal_kinds.specs.declared.kind.GoalKind.{GoalKind}
use Rattle.goal_kinds.specs.declared.kind.GoalKind.TheVariants as kind
use Rattle.region_run.specs.Inferences.{is_procedure_call, item_goal, Infers, InfersItem}
use Rattle.region_run.specs.Runs.{run_on, AsksWorldNext, GoesOnFrom, IsStop, Runs, TakesFirst, TakesCompoundFirst, TakesCall, stop_entries, stop_of}
use Rattle.region_run.proofs.InferenceLemmas.{item_infers, call_asks, called_at, called_none, calls_defined}
use Rattle.region_run.specs.declared.running.Ran.{Ran}
use Rattle.region_run.specs.declared.running.Stop.TheVariants as stop

-- the entries after a goal that went on, failed, or raised a ball that nothing caught
abbrev after_entries : List NamedTerm → RegionView → AfterGoal → List Entry
after_entries named r (At p) = position_entry named r p ∷ entries_of named r
after_entries named r Failed = entries_of named r
after_entries named r (Uncaught ball) = EndEntry (Some ball.value) ∷ []
after_entries named r AsksWorld = []

left_so : (entries : List NamedTerm → List Entry) (r : RegionView) (after : AfterGoal) → Leaves entries r after → (named : List NamedTerm) → entries named ≡ after_entries named r after
left_so entries r (At p) h named = h.0 named
left_so entries r Failed h named = h named
left_so entries r (Uncaught ball) h named = h named
left_so entries r AsksWorld h named = absurd h

abbrev pub IsTaken : AfterGoal → Type 0
IsTaken (At p) = Unit {0}
IsTaken Failed = Unit {0}
IsTaken (Uncaught ball) = Unit {0}
IsTaken AsksWorld = ⊥

asks_none : (after : AfterGoal) → after ≡ AsksWorld → IsTaken after → ⊥
asks_none (At p) e t = absurd cc
asks_none Failed e t = absurd cc
asks_none (Uncaught ball) e t = absurd cc
asks_none AsksWorld e t = t

-- the state in which a goal was taken
abbrev went_on : List Entry → State → State
went_on es st = record st { entries = es; inferences = st.inferences + 1 }

unhalted_same : (es : List Entry) (st : State) → st.halted ≡ None → with_entries es (record st { world = st.world; halted = None }) ≡ went_on es st
unhalted_same es st e = ap (λ h. with_entries es (record st { world = st.world; halted = h })) (sym e)

module _ (r r1 : RegionView) (g : GoalPlace) (after : AfterGoal) (taken : IsTaken after) (st : State) (running : st.halted ≡ None) (named : List NamedTerm) where
  abbrev h : ℕ
  h = height_of_cut (heights_of named r) g.cut

  abbrev f : Continuation ℕ
  f = continuation_here named r g.after

  by_outcome : (clauses : List Clause) (o : Outcome) → LeavesOutcome r r1 o g after → goal_taken clauses o h f (entries_of named r) st ≡ went_on (after_entries named r1 after) st
  by_outcome clauses (Replies (Solutions ss)) c = unhalted_same _ st running ∙ ap (λ es. went_on es st) (left_so _ r1 after c named)
  by_outcome clauses (Replies (Ball b)) c = unhalted_same _ st running ∙ ap (λ es. went_on es st) (left_so _ r1 after c named)
  by_outcome clauses (Replies (HaltNumber k)) c = absurd c
  by_outcome clauses (Controls form) c = ap (λ es. went_on es st) (left_so _ r1 after c named)
  by_outcome clauses (AskWorld goal) c = absurd (asks_none after c.0 taken)

  by_item : (i : FrameItem) → is_goal_item i ≡ true → InfersItem r r1 i g after → entry_taken r.text.clauses (goal_entry named r i g ∷ entries_of named r) st ≡ went_on (after_entries named r1 after) st
  by_item (item.Goal value) k x = by_outcome r.text.clauses _ (x _ refl)
  by_item (item.Call value) k x = by_outcome r.text.clauses _ (x _ refl)
  by_item item.Cut k x = by_outcome r.text.clauses _ (x _ refl)
  by_item item.True k x = by_outcome r.text.clauses _ (x _ refl)
  by_item item.Fail k x = by_outcome r.text.clauses _ (x _ refl)
  by_item item.CatchEnd k x = absurd cc
  by_item (item.Collect value) k x = absurd cc
  by_item (item.Removal number) k x = absurd cc

  -- one inference
  pub goal_stepped : (i : FrameItem) → is_goal_item i ≡ true → InfersItem r r1 i g after → st.entries ≡ goal_entry named r i g ∷ entries_of named r → step r.text.clauses st ≡ went_on (after_entries named r1 after) st
  goal_stepped i k x e = step_is r.text.clauses st ∙ (ap (λ es. entry_taken r.text.clauses es st) e ∙ by_item i k x)

-- where the world is asked
asked_of : (r r1 : RegionView) (o : Outcome) (g : GoalPlace) → LeavesOutcome r r1 o g AsksWorld → (t : Term) × (o ≡ AskWorld t) × (r1 ≡ r)
asked_of r r1 (Replies (Solutions ss)) g c = absurd c
asked_of r r1 (Replies (Ball b)) g c = absurd c
asked_of r r1 (Replies (HaltNumber k)) g c = absurd c
asked_of r r1 (Controls form) g c = absurd c
asked_of r r1 (AskWorld t) g c = (t, refl, c.1)

-- a position that goes on is there
outcome_there : (r r1 : RegionView) (o : Outcome) (g : GoalPlace) (p : Position) → LeavesOutcome r r1 o g (At p) → IsPositionIn r1 p
outcome_there r r1 (Replies (Solutions ss)) g p c = c.1
outcome_there r r1 (Replies (Ball b)) g p c = c.1
outcome_there r r1 (Replies (HaltNumber k)) g p c = absurd c
outcome_there r r1 (Controls form) g p c = c.1
outcome_there r r1 (AskWorld t) g p c = absurd (asks_none (At p) c.0 tt)

pub item_there : (r r1 : RegionView) (i : FrameItem) (g : GoalPlace) (p : Position) → is_goal_item i ≡ true → InfersItem r r1 i g (At p) → IsPositionIn r1 p
item_there r r1 (item.Goal value) g p k x = outcome_there r r1 _ g p (x _ refl)
item_there r r1 (item.Call value) g p k x = outcome_there r r1 _ g p (x _ refl)
item_there r r1 item.Cut g p k x = outcome_there r r1 _ g p (x _ refl)
item_there r r1 item.True g p k x = outcome_there r r1 _ g p (x _ refl)
item_there r r1 item.Fail g p k x = outcome_there r r1 _ g p (x _ refl)
item_there r r1 item.CatchEnd g p k x = absurd cc
item_there r r1 (item.Collect value) g p k x = absurd cc
item_there r r1 (item.Removal number) g p k x = absurd cc

asks_next : (r r1 : RegionView) (i : FrameItem) (g : GoalPlace) (goal : Term) → IsGoalThere r i g → item_goal r.store i ≡ Some goal → InfersItem r r1 i g AsksWorld → AsksWorldNext r1 i g × (r1 ≡ r)
asks_next r r1 i g goal there is x =
    let asked = asked_of r r1 (outcome_of r.text.clauses goal r.store.now.next) g (x goal is) in
    (subst (λ (y : RegionView). AsksWorldNext y i g) (sym asked.2) (record { there = there; goal = goal; is = is; asked = asked.0; asks = asked.1 }), asked.2)

pub item_asks : (r r1 : RegionView) (i : FrameItem) (g : GoalPlace) → IsGoalThere r i g → is_goal_item i ≡ true → InfersItem r r1 i g AsksWorld → AsksWorldNext r1 i g × (r1 ≡ r)
item_asks r r1 (item.Goal value) g there k x = asks_next r r1 (item.Goal value) g _ there refl x
item_asks r r1 (item.Call value) g there k x = asks_next r r1 (item.Call value) g _ there refl x
item_asks r r1 item.Cut g there k x = asks_next r r1 item.Cut g _ there refl x
item_asks r r1 item.True g there k x = asks_next r r1 item.True g _ there refl x
item_asks r r1 item.Fail g there k x = asks_next r r1 item.Fail g _ there refl x
item_asks r r1 item.CatchEnd g there k x = absurd cc
item_asks r r1 (item.Collect value) g there k x = absurd cc
item_asks r r1 (item.Removal number) g there k x = absurd cc

-- so many inferences were taken from the start
pub record IsRunning (old r : RegionView) (start next : Option Position) (taken : ℕ) : Type 0 where
  pub run : (named : List NamedTerm) (st : State) → st.entries ≡ entries_at named old start ++ entries_of named old → st.halted ≡ None
      → run_on old.text.clauses taken (with_free_steps st) ≡ with_free_steps (record st { entries = entries_at named r next ++ entries_of named r; inferences = st.inferences + taken })
  pub there : IsOptionalPosition r (length r.choices) next
  pub text : r.text ≡ old.text
  pub floor : r.store.floor ≡ old.store.floor

pub running_begun : (r : RegionView) (start : Option Position) → IsOptionalPosition r (length r.choices) start → IsRunning r r start start 0
running_begun r start i = record {
  run = λ named st e k. ap₂ (λ es n. with_free_steps (record st { entries = es; inferences = n })) e (let z : st.inferences ≡ st.inferences + 0 = omega arith in z);
  there = i;
  text = refl;
  floor = refl;
}

-- where no more goal is taken
pub stops_there : (named : List NamedTerm) (r : RegionView) (a : Ahead) → stop_entries named r (stop_of a) ≡ ahead_entries named r a
stops_there named r (ahead.Goal i g) = refl
stops_there named r (ahead.Removal number after) = refl
stops_there named r (ahead.Answer p) = refl
stops_there named r ahead.QueryDone = refl
stops_there named r ahead.AllDone = refl

pub is_stop : (r : RegionView) (limit taken : ℕ) (a : Ahead) → IsThereAhead r a → ((i : FrameItem) (g : GoalPlace) → a ≡ ahead.Goal i g → taken ≡ limit) → IsStop r limit (record { taken = taken; stop = stop_of a }) (stop_of a)
is_stop r limit taken (ahead.Goal i g) t e = (t, e i g refl)
is_stop r limit taken (ahead.Removal number after) t e = t
is_stop r limit taken (ahead.Answer p) t e = t
is_stop r limit taken ahead.QueryDone t e = tt
is_stop r limit taken ahead.AllDone t e = t

module _ (old r r1 : RegionView) (start next : Option Position) (taken : ℕ) (w : IsRunning old r start next taken) (a : Ahead) (l : LiesAhead r r1 next a) where
  -- the state in which no free step is left
  abbrev ahead_state : List NamedTerm → State → State
  ahead_state named st = record st { entries = ahead_entries named r1 a; inferences = st.inferences + taken }

  at_ahead : (named : List NamedTerm) (st : State) → st.entries ≡ entries_at named old start ++ entries_of named old → st.halted ≡ None → run_on old.text.clauses taken (with_free_steps st) ≡ ahead_state named st
  at_ahead named st e k = w.run named st e k ∙ ap (λ es. (let x : State = record st { entries = es; inferences = st.inferences + taken } in x)) (l.entries named)

  -- nothing more is taken
  pub stops_at : (limit : ℕ) (ran : Ran) → ran.taken ≡ taken → ran.stop ≡ stop_of a → taken ≤ limit → ((i : FrameItem) (g : GoalPlace) → a ≡ ahead.Goal i g → taken ≡ limit) → Runs old r1 start limit ran
  stops_at limit ran n s le full =
      let stopped : Ran = record { taken = taken; stop = stop_of a } in
      let same : ran ≡ stopped = ap₂ (λ m z. (let x : Ran = record { taken = m; stop = z } in x)) n s in
      subst (Runs old r1 start limit) (sym same) (record {
        run = λ named st e k. at_ahead named st e k ∙ ap (λ es. (let x : State = record st { entries = es; inferences = st.inferences + taken } in x)) (sym (stops_there named r1 a));
        within = le;
        stops = is_stop r1 limit taken a l.there full;
      })

-- one more
module _ (old r r2 : RegionView) (start next : Option Position) (taken : ℕ) (w : IsRunning old r start next taken) (i : FrameItem) (g : GoalPlace) (after : AfterGoal) (f : TakesFirst r r2 next i g after) where
  abbrev goal_state : List NamedTerm → State → State
  goal_state = ahead_state old r f.between start next taken w (ahead.Goal i g) f.ahead

  at_goal : (named : List NamedTerm) (st : State) → st.entries ≡ entries_at named old start ++ entries_of named old → st.halted ≡ None → run_on old.text.clauses taken (with_free_steps st) ≡ goal_state named st
  at_goal = at_ahead old r f.between start next taken w (ahead.Goal i g) f.ahead

  stepped : (named : List NamedTerm) (st : State) → IsTaken after → st.entries ≡ entries_at named old start ++ entries_of named old → st.halted ≡ None
      → run_on old.text.clauses (taken + 1) (with_free_steps st) ≡ with_free_steps (record st { entries = after_entries named r2 after; inferences = st.inferences + (taken + 1) })
  stepped named st t e k =
      ap (λ m. run_on old.text.clauses m (with_free_steps st)) (let n : taken + 1 ≡ suc taken = omega arith in n)
      ∙ (ap (λ s. with_free_steps (step old.text.clauses s)) (at_goal named st e k)
      ∙ (ap (λ (v : TextView). with_free_steps (step v.clauses (goal_state named st))) (sym (f.kept ∙ w.text))
      ∙ (ap with_free_steps (goal_stepped f.between r2 g after t (goal_state named st) k named i f.ahead.there.goal f.infers refl)
      ∙ ap (λ n. with_free_steps (record st { entries = after_entries named r2 after; inferences = n })) (let z : st.inferences + taken + 1 ≡ st.inferences + (taken + 1) = omega arith in z))))

  pub goes_on_at : (p : Position) → after ≡ At p → IsRunning old r2 start (Some p) (taken + 1)
  goes_on_at p e = record {
    run = λ named st e1 k.
        stepped named st (subst IsTaken (sym e) tt) e1 k
        ∙ ap (λ z. with_free_steps (record st { entries = after_entries named r2 z; inferences = st.inferences + (taken + 1) })) e;
    there = item_there f.between r2 i g p f.ahead.there.goal (subst (InfersItem f.between r2 i g) e f.infers);
    text = f.text ∙ (f.kept ∙ w.text);
    floor = f.floor ∙ (f.stayed ∙ w.floor);
  }

  pub fails_on : after ≡ Failed → IsRunning old r2 start None (taken + 1)
  fails_on e = record {
    run = λ named st e1 k.
        stepped named st (subst IsTaken (sym e) tt) e1 k
        ∙ ap (λ z. with_free_steps (record st { entries = after_entries named r2 z; inferences = st.inferences + (taken + 1) })) e;
    there = tt;
    text = f.text ∙ (f.kept ∙ w.text);
    floor = f.floor ∙ (f.stayed ∙ w.floor);
  }

  pub ends_uncaught : (limit : ℕ) (ball : Box FlatTerm Global) → taken < limit → after ≡ Uncaught ball → Runs old r2 start limit (record { taken = taken + 1; stop = stop.QueryDone (Some ball.value) })
  ends_uncaught limit ball lt e = record {
    run = λ named st e1 k.
        stepped named st (subst IsTaken (sym e) tt) e1 k
        ∙ ap (λ z. with_free_steps (record st { entries = after_entries named r2 z; inferences = st.inferences + (taken + 1) })) e;
    within = omega (arith, lt);
    stops = tt;
  }

  pub world_next : (limit : ℕ) → taken < limit → after ≡ AsksWorld → Runs old r2 start limit (record { taken = taken; stop = stop.World i g })
  world_next limit lt e =
      let asks = item_asks f.between r2 i g f.ahead.there f.ahead.there.goal (subst (InfersItem f.between r2 i g) e f.infers) in
      record {
        run = λ named st e1 k.
            at_goal named st e1 k
            ∙ ap (λ (z : RegionView). (let y : State = record st { entries = goal_entry named z i g ∷ entries_of named z; inferences = st.inferences + taken } in y)) (sym asks.1);
        within = omega (arith, lt);
        stops = asks.0;
      }

-- a compound has arguments
has_arguments : (st : StoreView) (at base f n : ℕ) → HasFunctor (text_in st) st.now.next at base f n → 0 < argument_count (meaning st (Compound at base))
has_arguments st at base f n h =
    subst (λ t. 0 < argument_count (resolve (substitution st) t)) (sym h.term)
    (subst (λ k. 0 < k) (sym (how_many (substitution st) (text_in st) base n (at + 1))) h.arity.0)

-- a compound that stood first where the run goes on was taken
module _ (old r r2 : RegionView) (start next : Option Position) (goes : GoesOnFrom old r start next) (same_text : r.text ≡ old.text) (same_floor : r.store.floor ≡ old.store.floor)
    (ends : AreEndsOldest r.choices) (marks : length r.store.marks ≡ length r.choices) (g : CompoundAhead) (l : LiesAhead r r next (compound_goal g))
    (f n : ℕ) (functor : HasFunctor (text_in r.store) r.store.now.next g.at g.base f n) where
  abbrev goal : BindingCell
  goal = Compound g.at g.base

  pub takes_compound : (after : AfterGoal) → Infers r r2 (meaning r.store goal) g.place after → r2.text ≡ r.text → r2.store.floor ≡ r.store.floor
      → TakesCompoundFirst old r2 start (item.Goal goal) g.place after
  takes_compound after x text floor = record {
    first = record {
      between = r;
      ahead = record { entries = λ named. ap take_free_steps (goes.entries named) ∙ l.entries named; there = l.there };
      kept = same_text;
      stayed = same_floor;
      infers = item_infers r r2 (item.Goal goal) g.place after (meaning r.store goal) refl x;
      text = text;
      floor = floor;
    };
    compound = tt;
    arguments = has_arguments r.store g.at g.base f n functor;
    ends = ends;
    marks = marks;
  }

  -- a call is one
  pub takes_call : (form : GoalForm) → IsFormOf r.store goal form → (k : GoalKind) → IsKindOf (name_at (text_in r.store).names form.name) form.arguments.count k → is_procedure_call r k form ≡ true
      → (reached : Option Position) → Calls r r2 goal g.place.after reached → TakesCall old r2 start reached
  takes_call form is k known calls (Some p) c =
      let d = calls_defined r goal form is k known calls in
      record {
        item = item.Goal goal;
        place = g.place;
        call = takes_compound (At p) (called_at r (meaning r.store goal) g.place is.callable d.0 d.1 r2 goal refl p c) c.text c.floor;
      }
  takes_call form is k known calls None c =
      let d = calls_defined r goal form is k known calls in
      record {
        item = item.Goal goal;
        place = g.place;
        call = takes_compound Failed (called_none r (meaning r.store goal) g.place is.callable d.0 d.1 r2 goal refl c) c.text c.floor;
      }

  -- where a clause goes on, the procedure is in the text
  pub takes_reached : (form : GoalForm) → IsFormOf r.store goal form → IsKindOf (name_at (text_in r.store).names form.name) form.arguments.count kind.Call
      → (p : Position) → Calls r r2 goal g.place.after (Some p) → TakesCall old r2 start (Some p)
  takes_reached form is known p c = by_defined (is_defined r.text.clauses (name_of (meaning r.store goal)) (argument_count (meaning r.store goal))) refl
    where
      by_defined : (b : Bool) → is_defined r.text.clauses (name_of (meaning r.store goal)) (argument_count (meaning r.store goal)) ≡ b → TakesCall old r2 start (Some p)
      by_defined true e = takes_call form is kind.Call known (sym (ap₂ (is_defined r.text.clauses) is.name is.count) ∙ e) (Some p) c
      by_defined false e = let none = (c.undefined e).0 in absurd cc

  -- where none does, it is in the text or asked of the world
  pub takes_none : (form : GoalForm) → IsFormOf r.store goal form → IsKindOf (name_at (text_in r.store).names form.name) form.arguments.count kind.Call
      → Calls r r2 goal g.place.after None → is_defined r2.text.clauses (name_at (text_in r2.store).names form.name) form.arguments.count ≡ true → TakesCall old r2 start None
  takes_none form is known c e = takes_call form is kind.Call known (ap₂ (λ (clauses : List Clause) names. is_defined clauses (name_at names form.name) form.arguments.count) (sym (ap (λ (t : TextView). t.clauses) c.text)) (sym c.names) ∙ e) None c

  pub takes_asked : (form : GoalForm) → IsFormOf r.store goal form → IsKindOf (name_at (text_in r.store).names form.name) form.arguments.count kind.Call
      → Calls r r2 goal g.place.after None → is_defined r2.text.clauses (name_at (text_in r2.store).names form.name) form.arguments.count ≡ false → TakesCompoundFirst old r2 start (item.Goal goal) g.place AsksWorld
  takes_asked form is known c e =
      let none : is_defined r.text.clauses (name_at (text_in r.store).names form.name) form.arguments.count ≡ false
      = ap₂ (λ (clauses : List Clause) names. is_defined clauses (name_at names form.name) form.arguments.count) (sym (ap (λ (t : TextView). t.clauses) c.text)) (sym c.names) ∙ e in
      let same : r2 ≡ r = (c.undefined (ap₂ (is_defined r.text.clauses) is.name is.count ∙ none)).1 in
      takes_compound AsksWorld (subst (λ x. Infers r x (meaning r.store goal) g.place AsksWorld) (sym same) (call_asks r goal form is g.place known none)) c.text c.floor

-- a call is one more
module _ (old r r2 : RegionView) (start next : Option Position) (taken : ℕ) (w : IsRunning old r start next taken) where
  pub calls_on : (reached : Option Position) → TakesCall r r2 next reached → IsRunning old r2 start reached (taken + 1)
  calls_on (Some p) c = goes_on_at old r r2 start next taken w c.item c.place (At p) c.call.first p refl
  calls_on None c = fails_on old r r2 start next taken w c.item c.place Failed c.call.first refl
