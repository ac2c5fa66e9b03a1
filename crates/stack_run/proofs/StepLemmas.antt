-- One inference where a region has stopped.
use Rattle.std.proofs.Common.{◌≡◌, ℕ, zero, suc, ◌+◌, ◌-◌, ◌<◌, ◌≤◌, List, [], ◌∷◌, ◌++◌, append_assoc, length, map, drop, get_or, Option, Some, None, true, false, refl, sym, ap, ◌∙◌, subst, arith}
use Rattle.std.specs.Prelude.{Bool}
use Rattle.std.proofs.lemmas.List.{drop_more}
use Rattle.au_term.specs.Term.{Term, VarTerm}
use Rattle.au_model.specs.Terms.Named.{NamedTerm, NamedVariable, variable_meant}
use Rattle.au_model.specs.Terms.Substitutions.{Substitution}
use Rattle.au_model.specs.Writing.Lines.{answer_line, end_line}
use Rattle.au_model.specs.declared.types.VarName.{VarName}
use Rattle.run_model.specs.Programs.Clauses.{Clause}
use Rattle.run_model.specs.Programs.Databases.{Database, without_clause}
use Rattle.run_model.specs.Programs.Jobs.{Query, own_terms}
use Rattle.run_model.specs.Goals.GoalOutcomes.{outcome_of}
use Rattle.run_model.specs.Goals.Outcomes.{Reply, Solutions, Ball, HaltNumber, Outcome, Replies, AskWorld}
use Rattle.run_model.specs.Goals.Worlds.{World, static_among, world_step}
use Rattle.run_model.specs.Machine.Entries.{Entry, PlainEntry, EndEntry}
use Rattle.run_model.specs.Machine.Heights.{after_reply}
use Rattle.run_model.specs.Machine.Items.{Item, GoalItem, Continuation, resolve_item, resolve_named}
use Rattle.run_model.specs.Machine.States.{State, opened, remaining_queries, halt_number, goal_taken, removal_taken, item_taken, step}
use Rattle.run_model.proofs.StepLemmas.{plain_step, end_step}
use Rattle.binding_array.specs.declared.cell.BindingCell.{BindingCell}
use Rattle.cell_store.specs.StoreView.{StoreView, meaning, substitution, text_in}
use Rattle.region_split.specs.ChoicePoints.{by_height, height_of_cut}
use Rattle.region_split.specs.Regions.{RegionView, entries_of, heights_of, continuation_here, position_entry, IsPositionIn}
use Rattle.region_split.specs.declared.frame.FrameItem.{FrameItem}
use Rattle.region_split.specs.declared.frame.FrameItem.TheVariants as item
use Rattle.region_split.specs.declared.frame.Position.{Position}
use Rattle.region_control.specs.Ahead.{IsNothingLeft}
use Rattle.region_control.specs.Replies.{LeavesOutcome}
use Rattle.region_control.specs.declared.control.GoalPlace.{GoalPlace}
use Rattle.region_control.specs.declared.replies.AfterGoal.{AfterGoal}
use Rattle.region_control.specs.declared.replies.AfterGoal.TheVariants as after_goal
use Rattle.region_run.specs.Runs.{AsksWorldNext}
use Rattle.region_run.specs.declared.running.Stop.TheVariants as stop
use Rattle.term_writer.specs.AnswerParts.{named_term, named_terms}
use Rattle.effect_gate.specs.Effects.{world_meant}
use Rattle.effect_gate.specs.declared.world.World.{World as KeptWorld}
use Rattle.region_world.specs.WorldGoals.{TakesWorldGoal, RemovesClause}
use Rattle.region_world.specs.declared.goal.WorldReply.{WorldReply}
use Rattle.region_world.specs.declared.goal.WorldReply.TheVariants.{Goes, Halted}
use Rattle.stack_run.specs.MachineView.{names_asked, own_asked, with_front, next_entries, next_halt, next_after, AsksNoWorld, IsNextHeld, run_state, next_state, stop_state, IsOneStep, OpensNext, OpensQuery, opened_state, value_in}
use Rattle.stack_run.specs.declared.machine.Machine.{Machine}
use Rattle.stack_run.specs.declared.machine.Next.{Next}
use Rattle.stack_run.specs.declared.machine.Next.TheVariants.{Runs, Uncaught, Over}
use Rattle.stack_run.specs.declared.machine.Program.{Program}
use Rattle.stack_run.proofs.QueryLemmas.{asked_by}
use Rattle.stack_run.proofs.WorldFrontLemmas.{effect_front}

-- a state by its parts
abbrev state_of : Program → Machine → World → Option ℕ → List Entry → ℕ → State
state_of program m w halted entries inferences = record { entries = entries; world = w; queries = drop m.asked program.queries.items; answers = m.answers; inferences = inferences; halted = halted }

abbrev own_of : Program → Machine → List NamedTerm
own_of program m = own_asked m.asked program.queries.items

-- what a reply leaves a region with
pub reply_taken : (r r1 : RegionView) (reply : Reply) (g : GoalPlace) (after : AfterGoal) → LeavesOutcome r r1 (Replies reply) g after → AsksNoWorld after
reply_taken r r1 (Solutions ss) g (after_goal.At p) l = tt
reply_taken r r1 (Solutions ss) g after_goal.Failed l = tt
reply_taken r r1 (Solutions ss) g (after_goal.Uncaught ball) l = tt
reply_taken r r1 (Solutions ss) g after_goal.AsksWorld l = l
reply_taken r r1 (Ball b) g (after_goal.At p) l = tt
reply_taken r r1 (Ball b) g after_goal.Failed l = tt
reply_taken r r1 (Ball b) g (after_goal.Uncaught ball) l = tt
reply_taken r r1 (Ball b) g after_goal.AsksWorld l = l
reply_taken r r1 (HaltNumber k) g after l = absurd l

reply_entries : (r r1 : RegionView) (reply : Reply) (g : GoalPlace) (after : AfterGoal) → LeavesOutcome r r1 (Replies reply) g after
    → (named : List NamedTerm) → next_entries named r1 (next_after after) ≡ after_reply reply (continuation_here named r g.after) (entries_of named r)
reply_entries r r1 (Solutions ss) g (after_goal.At p) l named = sym (l.0 named)
reply_entries r r1 (Solutions ss) g after_goal.Failed l named = sym (l named)
reply_entries r r1 (Solutions ss) g (after_goal.Uncaught ball) l named = sym (l named)
reply_entries r r1 (Solutions ss) g after_goal.AsksWorld l named = absurd l
reply_entries r r1 (Ball b) g (after_goal.At p) l named = sym (l.0 named)
reply_entries r r1 (Ball b) g after_goal.Failed l named = sym (l named)
reply_entries r r1 (Ball b) g (after_goal.Uncaught ball) l named = sym (l named)
reply_entries r r1 (Ball b) g after_goal.AsksWorld l named = absurd l
reply_entries r r1 (HaltNumber k) g after l named = absurd l

reply_halts : (r r1 : RegionView) (reply : Reply) (g : GoalPlace) (after : AfterGoal) → LeavesOutcome r r1 (Replies reply) g after → next_halt (next_after after) ≡ halt_number reply
reply_halts r r1 (Solutions ss) g (after_goal.At p) l = refl
reply_halts r r1 (Solutions ss) g after_goal.Failed l = refl
reply_halts r r1 (Solutions ss) g (after_goal.Uncaught ball) l = refl
reply_halts r r1 (Solutions ss) g after_goal.AsksWorld l = refl
reply_halts r r1 (Ball b) g (after_goal.At p) l = refl
reply_halts r r1 (Ball b) g after_goal.Failed l = refl
reply_halts r r1 (Ball b) g (after_goal.Uncaught ball) l = refl
reply_halts r r1 (Ball b) g after_goal.AsksWorld l = refl
reply_halts r r1 (HaltNumber k) g after l = absurd l

pub reply_there : (r r1 : RegionView) (reply : Reply) (g : GoalPlace) (after : AfterGoal) → LeavesOutcome r r1 (Replies reply) g after → IsNextHeld r1 (next_after after)
reply_there r r1 (Solutions ss) g (after_goal.At p) l = l.1
reply_there r r1 (Solutions ss) g after_goal.Failed l = tt
reply_there r r1 (Solutions ss) g (after_goal.Uncaught ball) l = tt
reply_there r r1 (Solutions ss) g after_goal.AsksWorld l = absurd l
reply_there r r1 (Ball b) g (after_goal.At p) l = l.1
reply_there r r1 (Ball b) g after_goal.Failed l = tt
reply_there r r1 (Ball b) g (after_goal.Uncaught ball) l = tt
reply_there r r1 (Ball b) g after_goal.AsksWorld l = absurd l
reply_there r r1 (HaltNumber k) g after l = absurd l

-- a goal of the world
module _ (m : Machine) (r1 : RegionView) (w1 : KeptWorld) (value : BindingCell) (g : GoalPlace) (asks : outcome_of m.region.text.clauses (meaning m.region.store value) m.region.store.now.next ≡ AskWorld (meaning m.region.store value)) where
  abbrev r : RegionView
  r = m.region

  abbrev goal : Term
  goal = meaning r.store value

  abbrev changed : Machine
  changed = record m { region = r1; world = w1 }

  abbrev answer_now : World × Reply
  answer_now = world_step r.text.clauses goal r.store.now.next (world_meant m.world)

  -- the world and its reply take the goal's place
  stepped : (next : Next) → world_meant w1 ≡ answer_now.0 → next_halt next ≡ halt_number answer_now.1 → ((named : List NamedTerm) → next_entries named r1 next ≡ after_reply answer_now.1 (continuation_here named r g.after) (entries_of named r))
      → (program : Program) → IsOneStep program m (stop.World (item.Goal value) g) changed next
  stepped next world halts entries program written inferences =
      let own = own_of program m in
      let f = continuation_here own r g.after in
      let es = entries_of own r in
      let h = height_of_cut (heights_of own r) g.cut in
      let st = stop_state program m None (stop.World (item.Goal value) g) written inferences in
      let old = with_front written (world_meant m.world) in
      let by : World × Reply → State = λ a. state_of program m a.0 (halt_number a.1) (after_reply a.1 f es) (inferences + 1) in
      ap (λ w. state_of program m w (next_halt next) (next_entries own r1 next) (inferences + 1)) (ap (with_front written) world)
      ∙ (ap (λ k. state_of program m (with_front written answer_now.0) k (next_entries own r1 next) (inferences + 1)) halts
      ∙ (ap (λ xs. state_of program m (with_front written answer_now.0) (halt_number answer_now.1) xs (inferences + 1)) (entries own)
      ∙ (ap by (sym (effect_front (static_among r.text.clauses) goal r.store.now.next written (world_meant m.world)))
      ∙ (ap (λ (o : Outcome). goal_taken r.text.clauses o h f es st) (sym asks)
      ∙ sym (plain_step r.text.clauses st _ es refl)))))

  pub goal_steps : (reply : WorldReply) (after : AfterGoal) → reply ≡ Goes after → TakesWorldGoal r r1 goal g (world_meant m.world) (world_meant w1) reply → (program : Program) → IsOneStep program m (stop.World (item.Goal value) g) changed (next_after after)
  goal_steps reply after is t =
      let l : LeavesOutcome r r1 (Replies answer_now.1) g after = (subst (λ x. TakesWorldGoal r r1 goal g (world_meant m.world) (world_meant w1) x) is t).reply in
      stepped (next_after after) t.world (reply_halts r r1 answer_now.1 g after l) (reply_entries r r1 answer_now.1 g after l)

  pub goal_halts : (reply : WorldReply) (status : ℕ) → reply ≡ Halted status → TakesWorldGoal r r1 goal g (world_meant m.world) (world_meant w1) reply → (program : Program) → IsOneStep program m (stop.World (item.Goal value) g) changed (Over (Some status))
  goal_halts reply status is t =
      let l : answer_now.1 ≡ HaltNumber status = (subst (λ x. TakesWorldGoal r r1 goal g (world_meant m.world) (world_meant w1) x) is t).reply in
      stepped (Over (Some status)) t.world (sym (ap halt_number l)) (λ named. sym (ap (λ x. after_reply x (continuation_here named r g.after) (entries_of named r)) l))

-- the same of an item, and of what the world has left
module _ (m : Machine) (r1 : RegionView) (w1 : KeptWorld) (i : FrameItem) (value : BindingCell) (g : GoalPlace) (is : i ≡ item.Goal value) (a : AsksWorldNext m.region i g) (left : WorldReply) (t : TakesWorldGoal m.region r1 (meaning m.region.store value) g (world_meant m.world) (world_meant w1) left) where
  asks_itself : outcome_of m.region.text.clauses (meaning m.region.store value) m.region.store.now.next ≡ AskWorld (meaning m.region.store value)
  asks_itself = (asked_by m.region (item.Goal value) g (subst (λ x. AsksWorldNext m.region x g) is a)).0

  replied_so : (after : AfterGoal) → left ≡ Goes after → LeavesOutcome m.region r1 (Replies (world_step m.region.text.clauses (meaning m.region.store value) m.region.store.now.next (world_meant m.world)).1) g after
  replied_so after e = (subst (λ x. TakesWorldGoal m.region r1 (meaning m.region.store value) g (world_meant m.world) (world_meant w1) x) e t).reply

  pub goes_taken : (after : AfterGoal) → left ≡ Goes after → AsksNoWorld after
  goes_taken after e = reply_taken m.region r1 _ g after (replied_so after e)

  pub goes_there : (after : AfterGoal) (next : Next) → left ≡ Goes after → next ≡ next_after after → IsNextHeld r1 next
  goes_there after next e n = subst (IsNextHeld r1) (sym n) (reply_there m.region r1 _ g after (replied_so after e))

  pub goes_so : (after : AfterGoal) (next : Next) → left ≡ Goes after → next ≡ next_after after → (program : Program) → IsOneStep program m (stop.World i g) (record m { region = r1; world = w1 }) next
  goes_so after next e n program =
      subst (λ x. IsOneStep program m (stop.World x g) (record m { region = r1; world = w1 }) next) (sym is)
      (subst (IsOneStep program m (stop.World (item.Goal value) g) (record m { region = r1; world = w1 })) (sym n) (goal_steps m r1 w1 value g asks_itself left after e t program))

  pub halts_so : (status : ℕ) → left ≡ Halted status → (program : Program) → IsOneStep program m (stop.World i g) (record m { region = r1; world = w1 }) (Over (Some status))
  halts_so status e program =
      subst (λ x. IsOneStep program m (stop.World x g) (record m { region = r1; world = w1 }) (Over (Some status))) (sym is) (goal_halts m r1 w1 value g asks_itself left status e t program)

-- the removal of a clause
module _ (m : Machine) (w1 : KeptWorld) (number : ℕ) (p : Position) where
  pub clause_removed : RemovesClause number (world_meant m.world) (world_meant w1) true → (program : Program) → IsOneStep program m (stop.Removal number p) (record m { world = w1 }) (Runs (Some p))
  clause_removed t program written inferences =
      let own = own_of program m in
      let es = entries_of own m.region in
      let st = stop_state program m None (stop.Removal number p) written inferences in
      ap (λ w. state_of program m w None (position_entry own m.region p ∷ es) (inferences + 1)) (ap (with_front written) t.2)
      ∙ (ap (λ o. removal_taken o (continuation_here own m.region p) es st) (sym t.1)
      ∙ sym (plain_step m.region.text.clauses st _ es refl))

  pub clause_gone : RemovesClause number (world_meant m.world) (world_meant w1) false → (program : Program) → IsOneStep program m (stop.Removal number p) (record m { world = w1 }) (Runs None)
  clause_gone t program written inferences =
      let own = own_of program m in
      let es = entries_of own m.region in
      let st = stop_state program m None (stop.Removal number p) written inferences in
      ap (λ w. state_of program m w None es (inferences + 1)) (ap (with_front written) t.1)
      ∙ (ap (λ o. removal_taken o (continuation_here own m.region p) es st) (sym t.0)
      ∙ sym (plain_step m.region.text.clauses st _ es refl))

-- an answer
values_named : (st : StoreView) (names : List VarName) → named_terms names (map (value_in st) names) ≡ map (resolve_named (substitution st)) (own_terms (map variable_meant names))
values_named st [] = refl
values_named st (v ∷ names) = ap (λ ns. named_term v (value_in st v) ∷ ns) (values_named st names)

pub answers_so : (program : Program) (m : Machine) (p : Position) (w1 : KeptWorld) (names : List VarName) (values : List Term) → IsNothingLeft m.region p → map variable_meant names ≡ names_asked m.asked program.queries.items → values ≡ map (value_in m.region.store) names
    → world_meant w1 ≡ record (world_meant m.world) { written = (world_meant m.world).written ++ answer_line (world_meant m.world).operators (named_terms names values) }
    → IsOneStep program m (stop.Answer p) (record m { world = w1; answers = m.answers + 1 }) (Runs None)
answers_so program m p w1 names values left are v l written inferences =
    let own = own_of program m in
    let r = m.region in
    let es = entries_of own r in
    let w = world_meant m.world in
    let f = continuation_here own r p in
    let st = stop_state program m None (stop.Answer p) written inferences in
    let line = answer_line w.operators f.named in
    let named : named_terms names values ≡ f.named = ap (named_terms names) v ∙ (values_named r.store names ∙ ap (λ ns. map (resolve_named (substitution r.store)) (own_terms ns)) are) in
    let nothing : f.items ≡ [] = ap (λ is. map (resolve_item r.store.now.bound) (map (by_height (heights_of own r)) is)) left.items in
    let state : List ℕ → State = λ bytes. record { entries = es; world = record w { written = bytes }; queries = drop m.asked program.queries.items; answers = m.answers + 1; inferences = inferences + 1; halted = None } in
    ap (λ x. (let s : State = record { entries = es; world = with_front written x; queries = drop m.asked program.queries.items; answers = m.answers + 1; inferences = inferences + 1; halted = None } in s)) l
    ∙ (ap (λ ns. state (written ++ (w.written ++ answer_line w.operators ns))) named
    ∙ (ap state (sym (append_assoc written w.written line))
    ∙ (ap (λ is. item_taken r.text.clauses is f es st) (sym nothing)
    ∙ sym (plain_step r.text.clauses st f es refl))))

-- the names of the query that was asked last
pub names_past : (n : ℕ) (qs : List Query) → length qs < n → names_asked n qs ≡ []
names_past zero qs lt = absurd (omega arith)
names_past (suc n) [] lt = refl
names_past (suc zero) (q ∷ qs) lt = absurd (omega arith)
names_past (suc (suc n)) (q ∷ qs) lt = names_past (suc n) qs (omega arith)

pub names_at : (n : ℕ) (qs : List Query) (q : Query) → 0 < n → n ≤ length qs → q ≡ get_or qs (n - 1) q → q.names ≡ names_asked n qs
names_at zero qs q lt le e = absurd (omega arith)
names_at (suc n) [] q lt le e = absurd (omega arith)
names_at (suc zero) (p ∷ qs) q lt le e = ap (λ x. x.names) e
names_at (suc (suc n)) (p ∷ qs) q lt le e =
    let i : suc (suc n) - 1 ≡ suc n = omega arith in
    let j : suc n - 1 ≡ n = omega arith in
    names_at (suc n) qs q (omega arith) (omega arith) (e ∙ ap (λ k. get_or (p ∷ qs) k q) i ∙ ap (λ k. get_or qs k q) (sym j))

-- the next query
pub query_opens : (program : Program) (m : Machine) (q : Query) (r1 : RegionView) (p : Position) → m.asked < length program.queries.items → q ≡ get_or program.queries.items m.asked q
    → position_entry (own_terms q.names) r1 p ∷ entries_of (own_terms q.names) r1 ≡ opened (q ∷ []) → OpensNext program m (record m { region = r1; asked = m.asked + 1 }) (Runs (Some p))
query_opens program m q r1 p lt is view entries written inferences =
    let qs = program.queries.items in
    let w = with_front written (world_meant m.world) in
    let split : drop m.asked qs ≡ q ∷ drop (m.asked + 1) qs = drop_more qs m.asked q lt ∙ ap (λ d. d ∷ drop (m.asked + 1) qs) (sym is) in
    let back : m.asked ≡ m.asked + 1 - 1 = omega arith in
    let named : names_asked (m.asked + 1) qs ≡ q.names = sym (names_at (m.asked + 1) qs q (omega arith) (omega arith) (is ∙ ap (λ k. get_or qs k q) back)) in
    let state : List Entry → List Query → State = λ es left. record { entries = es; world = w; queries = left; answers = m.answers; inferences = inferences; halted = None } in
    let begun : position_entry (own_asked (m.asked + 1) qs) r1 p ∷ entries_of (own_asked (m.asked + 1) qs) r1 ≡ opened (drop m.asked qs) = ap (λ ns. position_entry (own_terms ns) r1 p ∷ entries_of (own_terms ns) r1) named ∙ (view ∙ ap opened (sym split)) in
    ap (λ es. state es (drop (m.asked + 1) qs)) begun ∙ ap (state (opened (drop m.asked qs))) (ap remaining_queries (sym split))

pub none_opens : (program : Program) (m : Machine) → length program.queries.items ≤ m.asked → OpensNext program m m (Over None)
none_opens program m le entries written inferences =
    let none : drop m.asked program.queries.items ≡ [] = all_dropped m.asked program.queries.items le in
    let state : List Entry → List Query → State = λ es left. record { entries = es; world = with_front written (world_meant m.world); queries = left; answers = m.answers; inferences = inferences; halted = None } in
    ap (state []) none ∙ sym (ap (λ qs. state (opened qs) (remaining_queries qs)) none)
  where
    all_dropped : {X : Type 0} (n : ℕ) (xs : List X) → length xs ≤ n → drop n xs ≡ []
    all_dropped zero [] h = refl
    all_dropped zero (x ∷ xs) h = absurd (omega arith)
    all_dropped (suc n) [] h = refl
    all_dropped (suc n) (x ∷ xs) h = all_dropped n xs (omega arith)

-- a query ends
module _ (program : Program) (m : Machine) (written : List ℕ) (inferences : ℕ) where
  abbrev ended_state : List ℕ → State
  ended_state bytes =
      let qs = drop m.asked program.queries.items in
      record { entries = opened qs; world = record (world_meant m.world) { written = bytes }; queries = remaining_queries qs; answers = m.answers; inferences = inferences + 1; halted = None }

  end_taken : (b : Option Term) → ended_state ((written ++ (world_meant m.world).written) ++ end_line (world_meant m.world).operators b) ≡ step m.region.text.clauses (stop_state program m None (stop.QueryDone b) written inferences)
  end_taken None = sym (end_step m.region.text.clauses (stop_state program m None (stop.QueryDone None) written inferences) None (entries_of (own_of program m) m.region) refl)
  end_taken (Some b) = sym (end_step m.region.text.clauses (stop_state program m None (stop.QueryDone (Some b)) written inferences) (Some b) [] refl)

  end_written : (ball : Option Term) (w1 : KeptWorld) → world_meant w1 ≡ record (world_meant m.world) { written = (world_meant m.world).written ++ end_line (world_meant m.world).operators ball }
      → opened_state (run_state program (record m { world = w1 }) (λ named. []) None written (inferences + 1)) ≡ step m.region.text.clauses (stop_state program m None (stop.QueryDone ball) written inferences)
  end_written ball w1 l =
      let w = world_meant m.world in
      let qs = drop m.asked program.queries.items in
      ap (λ x. (let s : State = record { entries = opened qs; world = with_front written x; queries = remaining_queries qs; answers = m.answers; inferences = inferences + 1; halted = None } in s)) l
      ∙ (ap ended_state (sym (append_assoc written w.written (end_line w.operators ball)))
      ∙ end_taken ball)

pub query_ends : (program : Program) (m new : Machine) (w1 : KeptWorld) (ball : Option Term) (next : Next) → world_meant w1 ≡ record (world_meant m.world) { written = (world_meant m.world).written ++ end_line (world_meant m.world).operators ball }
    → OpensNext program (record m { world = w1 }) new next → IsOneStep program m (stop.QueryDone ball) new next
query_ends program m new w1 ball next l o written inferences = o (λ named. []) written (inferences + 1) ∙ end_written program m written inferences ball w1 l
