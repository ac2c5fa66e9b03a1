-- What goals of a region come to, by their names.
use Rattle.std.proofs.Common.{◌≡◌, ◌⊎◌, inl, inr, ℕ, zero, suc, ◌≤◌, Bool, true, false, List, [], Option, Some, None, refl, sym, ap, ap₂, ◌∙◌, subst, arith}
use Rattle.std.specs.Prelude.{codes, is_some, ◌||◌}
use Rattle.au_term.specs.Term.{Term, VarTerm, IntTerm, AtomTerm, Compound, Terms, end, term_at, drop_terms, arguments, argument_count}
use Rattle.au_model.specs.Terms.Forms.{is_callable, name_of}
use Rattle.run_model.specs.Goals.Control.{construct_of, control_constructs, call_outcome, call_row}
use Rattle.run_model.specs.Goals.GoalOutcomes.{outcome_of, named_outcome, by_construct, by_builtin, has_row}
use Rattle.run_model.specs.Goals.Worlds.{is_world_goal}
use Rattle.run_model.specs.Goals.Builtins.{builtins}
use Rattle.run_model.specs.Goals.Outcomes.{Outcome, alternatives_of, Replies, Solutions, ControlForm, Controls, GoesOnWith, CutToScope}
use Rattle.run_model.specs.Goals.BuiltinAnswers.{reply_of}
use Rattle.run_model.proofs.ConstructLemmas.{none_of, static_call, other_call, world_goal}
use Rattle.run_model.specs.Programs.Clauses.{Clause, is_defined}
use Rattle.binding_array.specs.declared.cell.BindingCell.{BindingCell}
use Rattle.clause_compile.specs.AtomNumbers.{name_at}
use Rattle.cell_store.specs.StoreView.{StoreView, meaning, text_in}
use Rattle.cell_store.specs.declared.arguments.Arguments.{Arguments}
use Rattle.region_split.specs.Regions.{RegionView}
use Rattle.region_split.specs.ClauseTrials.{Calls}
use Rattle.region_split.specs.declared.frame.Position.{Position}
use Rattle.std_builtins.specs.Meanings.{answer_of}
use Rattle.std_builtins.specs.Rows.{IsRowOf}
use Rattle.std_builtins.specs.WorldGoals.{IsWorldGoal}
use Rattle.std_builtins.specs.declared.table.Builtin.{Builtin}
use Rattle.std_builtins.specs.declared.world_goals.WorldGoal.{WorldGoal}
use Rattle.std_builtins.specs.declared.world_goals.WorldGoal.TheVariants.{Write, Nl, PutChar, Asserta, Assertz, Retract, Abolish, Clause as ClauseGoal, Op, CurrentOp, Halt, HaltWith}
use Rattle.au_model.specs.declared.types.Style.TheVariants.{Plain, Quoted, Canonical}
use Rattle.region_control.specs.Controls.{Controls as HasControlled, IsGoalPlace}
use Rattle.region_control.specs.GoalForms.{argument_terms, IsFormOf}
use Rattle.region_control.specs.Replies.{LeavesOutcome}
use Rattle.region_control.specs.declared.control.GoalPlace.{GoalPlace}
use Rattle.region_control.specs.declared.forms.GoalForm.{GoalForm}
use Rattle.region_control.specs.declared.replies.AfterGoal.{AfterGoal}
use Rattle.region_control.specs.declared.replies.AfterGoal.TheVariants.{At, Failed, AsksWorld}
use Rattle.region_control.proofs.ControlLemmas.{place_in}
use Rattle.region_split.specs.declared.frame.FrameItem.{FrameItem}
use Rattle.run_model.specs.Programs.Bodies.{call_of}
use Rattle.goal_kinds.specs.Kinds.{IsKindOf}
use Rattle.goal_kinds.specs.declared.kind.GoalKind.{GoalKind}
use Rattle.goal_kinds.specs.declared.kind.GoalKind.TheVariants as kind
use Rattle.region_builtins.specs.QuickAnswers.{AnswersFor}
use Rattle.region_run.specs.Inferences.{is_procedure_call, item_goal, Infers, InfersItem}

-- variables and integers are called
pub uncallable : (clauses : List Clause) (t : Term) (next : ℕ) → is_callable t ≡ false → outcome_of clauses t next ≡ call_outcome 1 t end
unfolding outcome_of
uncallable clauses (VarTerm n) next h = refl
uncallable clauses (IntTerm z) next h = refl
uncallable clauses (AtomTerm a) next h = absurd cc
uncallable clauses (Compound f ts) next h = absurd cc

-- atoms and compounds go by name
by_name : (clauses : List Clause) (g : Term) (next : ℕ) → is_callable g ≡ true → outcome_of clauses g next ≡ named_outcome clauses g next
unfolding outcome_of
by_name clauses (VarTerm n) next h = absurd cc
by_name clauses (IntTerm z) next h = absurd cc
by_name clauses (AtomTerm a) next h = refl
by_name clauses (Compound f ts) next h = refl

pub construct_taken : (clauses : List Clause) (g : Term) (next : ℕ) (name : List ℕ) (arity : ℕ) → is_callable g ≡ true → name_of g ≡ name → argument_count g ≡ arity → outcome_of clauses g next ≡ by_construct (construct_of control_constructs name arity) clauses g next
construct_taken clauses g next name arity h n a =
    by_name clauses g next h ∙ (ap (λ f. by_construct (construct_of control_constructs f (argument_count g)) clauses g next) n ∙ ap (λ k. by_construct (construct_of control_constructs name k) clauses g next) a)

-- call with one to eight arguments
pub call_named : (arity : ℕ) → 1 ≤ arity → arity ≤ 8 → construct_of control_constructs (codes "call") arity ≡ Some (call_row arity)
call_named zero h k = absurd (omega arith)
call_named (suc zero) h k = refl
call_named (suc (suc zero)) h k = refl
call_named (suc (suc (suc zero))) h k = refl
call_named (suc (suc (suc (suc zero)))) h k = refl
call_named (suc (suc (suc (suc (suc zero))))) h k = refl
call_named (suc (suc (suc (suc (suc (suc zero)))))) h k = refl
call_named (suc (suc (suc (suc (suc (suc (suc zero))))))) h k = refl
call_named (suc (suc (suc (suc (suc (suc (suc (suc zero)))))))) h k = refl
call_named (suc (suc (suc (suc (suc (suc (suc (suc (suc n))))))))) h k = absurd (omega arith)

-- a construct that was opened at a position
goes_on_at : (r new : RegionView) (form : ControlForm) (g : GoalPlace) (p : Position) → HasControlled r new form g p → LeavesOutcome r new (Controls form) g (At p)
goes_on_at r new form g p c = ((λ named. sym (c.entries named)), c.position)

pub opened : (r new : RegionView) (form other : ControlForm) (g : GoalPlace) (p : Position) → form ≡ other → HasControlled r new form g p → LeavesOutcome r new (Controls other) g (At p)
opened r new form other g p e c = subst (λ (x : ControlForm). LeavesOutcome r new (Controls x) g (At p)) e (goes_on_at r new form g p c)

-- an argument as it was read
pub argument_read : (seen st : StoreView) (value : BindingCell) (a : Arguments) (i : ℕ) → seen ≡ st → meaning seen value ≡ term_at i (argument_terms seen a) → meaning st value ≡ term_at i (argument_terms st a)
argument_read seen st value a i e h = subst (λ (x : StoreView). meaning x value ≡ term_at i (argument_terms x a)) e h

-- a goal by its form
module _ (r : RegionView) (goal : BindingCell) (form : GoalForm) (is : IsFormOf r.store goal form) where
  pub infers_by : (name : List ℕ) (arity : ℕ) (outcome : Terms → Outcome) → name_of (meaning r.store goal) ≡ name → argument_count (meaning r.store goal) ≡ arity
      → ((clauses : List Clause) (next : ℕ) (g : Term) → by_construct (construct_of control_constructs name arity) clauses g next ≡ outcome (arguments g))
      → (new : RegionView) (place : GoalPlace) (after : AfterGoal) → LeavesOutcome r new (outcome (argument_terms r.store form.arguments)) place after → Infers r new (meaning r.store goal) place after
  infers_by name arity outcome n a row new place after c =
      let t = meaning r.store goal in
      subst (λ o. LeavesOutcome r new o place after) (sym (construct_taken r.text.clauses t r.store.now.next name arity is.callable n a ∙ (row r.text.clauses r.store.now.next t ∙ ap outcome is.arguments))) c

  pub so_many : (arity : ℕ) → argument_count (meaning r.store goal) ≡ arity → form.arguments.count ≡ arity
  so_many arity a = sym is.count ∙ a

-- `true`, `fail` and the cut
pub succeeds : (r : RegionView) (place : GoalPlace) → IsGoalPlace r place → LeavesOutcome r r (Controls (GoesOnWith [])) place (At place.after)
succeeds r place at = ((λ named. refl), place_in r place at)

pub fails : (r : RegionView) (place : GoalPlace) → LeavesOutcome r r (Replies (Solutions [])) place Failed
fails r place = λ named. refl

pub cuts : (r new : RegionView) (place : GoalPlace) → HasControlled r new CutToScope place place.after → LeavesOutcome r new (Controls CutToScope) place (At place.after)
cuts r new place c = goes_on_at r new CutToScope place place.after c

pub fail_named : (name : List ℕ) (clauses : List Clause) (next : ℕ) (g : Term) → (name ≡ codes "fail") ⊎ (name ≡ codes "false") → by_construct (construct_of control_constructs name 0) clauses g next ≡ Replies (Solutions [])
fail_named name clauses next g (inl e) = ap (λ n. by_construct (construct_of control_constructs n 0) clauses g next) e
fail_named name clauses next g (inr e) = ap (λ n. by_construct (construct_of control_constructs n 0) clauses g next) e

pub call_taken : (arity : ℕ) (clauses : List Clause) (next : ℕ) (g : Term) → 1 ≤ arity → arity ≤ 8 → by_construct (construct_of control_constructs (codes "call") arity) clauses g next ≡ call_outcome arity (term_at 0 (arguments g)) (drop_terms 1 (arguments g))
call_taken arity clauses next g some most = ap (λ o. by_construct o clauses g next) (call_named arity some most)

-- a goal that is no construct
pub builtin_taken : (clauses : List Clause) (g : Term) (next : ℕ) (b : Builtin) → is_callable g ≡ true → is_some (construct_of control_constructs (name_of g) (argument_count g)) ≡ false → IsRowOf (name_of g) (argument_count g) b
    → outcome_of clauses g next ≡ Replies (reply_of (name_of g) (argument_count g) (answer_of b (arguments g) next))
builtin_taken clauses g next b h none row =
    by_name clauses g next h
    ∙ (ap (λ o. by_construct o clauses g next) (none_of (construct_of control_constructs (name_of g) (argument_count g)) none)
    ∙ ap (λ o. by_builtin o clauses g next) row.row)

-- the goals of the world
is_of_world : (asked : WorldGoal) (name : List ℕ) (arity : ℕ) → IsWorldGoal asked name arity → is_world_goal name arity ≡ true
is_of_world (Write Plain) name arity h = ap₂ is_world_goal h.0 h.1
is_of_world (Write Quoted) name arity h = ap₂ is_world_goal h.0 h.1
is_of_world (Write Canonical) name arity h = ap₂ is_world_goal h.0 h.1
is_of_world Nl name arity h = ap₂ is_world_goal h.0 h.1
is_of_world PutChar name arity h = ap₂ is_world_goal h.0 h.1
is_of_world Asserta name arity h = ap₂ is_world_goal h.0 h.1
is_of_world Assertz name arity h = ap₂ is_world_goal h.0 h.1
is_of_world Retract name arity h = ap₂ is_world_goal h.0 h.1
is_of_world Abolish name arity h = ap₂ is_world_goal h.0 h.1
is_of_world ClauseGoal name arity h = ap₂ is_world_goal h.0 h.1
is_of_world Op name arity h = ap₂ is_world_goal h.0 h.1
is_of_world CurrentOp name arity h = ap₂ is_world_goal h.0 h.1
is_of_world Halt name arity h = ap₂ is_world_goal h.0 h.1
is_of_world HaltWith name arity h = ap₂ is_world_goal h.0 h.1

module _ (r : RegionView) (t : Term) (place : GoalPlace) (callable : is_callable t ≡ true) where
  pub asks_world : (asked : WorldGoal) → is_some (construct_of control_constructs (name_of t) (argument_count t)) ≡ false → construct_of builtins (name_of t) (argument_count t) ≡ None → IsWorldGoal asked (name_of t) (argument_count t) → Infers r r t place AsksWorld
  asks_world asked control none is = subst (λ o. LeavesOutcome r r o place AsksWorld) (sym (world_goal r.text.clauses t r.store.now.next callable control none (is_of_world asked (name_of t) (argument_count t) is))) (refl, refl)

  pub asks_procedure : has_row (name_of t) (argument_count t) ≡ false → is_defined r.text.clauses (name_of t) (argument_count t) ≡ false → Infers r r t place AsksWorld
  asks_procedure row none = subst (λ o. LeavesOutcome r r o place AsksWorld) (sym (other_call r.text.clauses t r.store.now.next callable row none)) (refl, refl)

  module _ (row : has_row (name_of t) (argument_count t) ≡ false) (defined : is_defined r.text.clauses (name_of t) (argument_count t) ≡ true) (new : RegionView) (goal : BindingCell) (is : meaning r.store goal ≡ t) where
    comes_to : (after : AfterGoal) → LeavesOutcome r new (Replies (Solutions (alternatives_of r.text.clauses (meaning r.store goal) r.store.now.next))) place after → Infers r new t place after
    comes_to after k = subst (λ o. LeavesOutcome r new o place after) (sym (static_call r.text.clauses t r.store.now.next callable row defined)) (subst (λ u. LeavesOutcome r new (Replies (Solutions (alternatives_of r.text.clauses u r.store.now.next))) place after) is k)

    pub called_at : (p : Position) → Calls r new goal place.after (Some p) → Infers r new t place (At p)
    called_at p calls = comes_to (At p) (calls.entries, calls.position)

    pub called_none : Calls r new goal place.after None → Infers r new t place Failed
    called_none calls = comes_to Failed calls.entries

-- a procedure has no row
pub without_row : (name : List ℕ) (arity : ℕ) → is_some (construct_of control_constructs name arity) ≡ false → construct_of builtins name arity ≡ None → is_world_goal name arity ≡ false → has_row name arity ≡ false
without_row name arity c b w =
    ap (λ x. x || (is_some (construct_of builtins name arity) || is_world_goal name arity)) c ∙ (ap (λ o. is_some o || is_world_goal name arity) b ∙ w)

module _ (r : RegionView) (goal : BindingCell) (form : GoalForm) (is : IsFormOf r.store goal form) where
  abbrev named : List ℕ
  named = name_at (text_in r.store).names form.name

  pub builtin_infers : (new : RegionView) (b : Builtin) (place : GoalPlace) (after : AfterGoal) → IsKindOf named form.arguments.count (kind.Builtin b) → AnswersFor r new form (answer_of b (argument_terms r.store form.arguments) r.store.now.next) place after → Infers r new (meaning r.store goal) place after
  builtin_infers new b place after k answers =
      let t = meaning r.store goal in
      let here : IsKindOf (name_of t) (argument_count t) (kind.Builtin b) = subst (λ n. IsKindOf n (argument_count t) (kind.Builtin b)) (sym is.name) (subst (λ m. IsKindOf named m (kind.Builtin b)) (sym is.count) k) in
      let known : outcome_of r.text.clauses t r.store.now.next ≡ Replies (reply_of named form.arguments.count (answer_of b (argument_terms r.store form.arguments) r.store.now.next)) =
      builtin_taken r.text.clauses t r.store.now.next b is.callable here.0 here.1
      ∙ (ap (λ us. Replies (reply_of (name_of t) (argument_count t) (answer_of b us r.store.now.next))) is.arguments
      ∙ ap₂ (λ n m. Replies (reply_of n m (answer_of b (argument_terms r.store form.arguments) r.store.now.next))) is.name is.count) in
      subst (λ o. LeavesOutcome r new o place after) (sym known) answers

  pub world_infers : (asked : WorldGoal) (place : GoalPlace) → IsKindOf named form.arguments.count (kind.World asked) → Infers r r (meaning r.store goal) place AsksWorld
  world_infers asked place k =
      let t = meaning r.store goal in
      let here : IsKindOf (name_of t) (argument_count t) (kind.World asked) = subst (λ n. IsKindOf n (argument_count t) (kind.World asked)) (sym is.name) (subst (λ m. IsKindOf named m (kind.World asked)) (sym is.count) k) in
      asks_world r t place is.callable asked here.0 here.1 here.2

  -- a goal that calls a procedure, which is one of the text or not
  pub is_call : (b : Bool) → IsKindOf named form.arguments.count kind.Call → is_procedure_call r kind.Call form ≡ b
      → (has_row (name_of (meaning r.store goal)) (argument_count (meaning r.store goal)) ≡ false) × (is_defined r.text.clauses (name_of (meaning r.store goal)) (argument_count (meaning r.store goal)) ≡ b)
  is_call b k e = (ap₂ has_row is.name is.count ∙ without_row named form.arguments.count k.0 k.1 k.2, ap₂ (is_defined r.text.clauses) is.name is.count ∙ e)

  pub calls_defined : (k : GoalKind) → IsKindOf named form.arguments.count k → is_procedure_call r k form ≡ true
      → (has_row (name_of (meaning r.store goal)) (argument_count (meaning r.store goal)) ≡ false) × (is_defined r.text.clauses (name_of (meaning r.store goal)) (argument_count (meaning r.store goal)) ≡ true)
  calls_defined (kind.Control control) k e = absurd cc
  calls_defined (kind.Builtin builtin) k e = absurd cc
  calls_defined (kind.World asked) k e = absurd cc
  calls_defined kind.Call k e = is_call true k e

  pub call_asks : (place : GoalPlace) → IsKindOf named form.arguments.count kind.Call → is_procedure_call r kind.Call form ≡ false → Infers r r (meaning r.store goal) place AsksWorld
  call_asks place k e =
      let known = is_call false k e in
      asks_procedure r (meaning r.store goal) place is.callable known.0 known.1

-- the goals that items are
some_same : (t u : Term) → ◌≡◌ {A = Option Term} (Some t) (Some u) → t ≡ u
some_same t u e = cc

pub item_infers : (r new : RegionView) (i : FrameItem) (place : GoalPlace) (after : AfterGoal) (t : Term) → item_goal r.store i ≡ Some t → Infers r new t place after → InfersItem r new i place after
item_infers r new i place after t e k = λ goal h. subst (λ u. Infers r new u place after) (some_same t goal (sym e ∙ h)) k

pub call_infers : (r new : RegionView) (value : BindingCell) (place : GoalPlace) (after : AfterGoal) → LeavesOutcome r new (call_outcome 1 (meaning r.store value) end) place after → Infers r new (call_of (meaning r.store value)) place after
call_infers r new value place after k =
    let t = call_of (meaning r.store value) in
    subst (λ o. LeavesOutcome r new o place after) (sym (construct_taken r.text.clauses t r.store.now.next (codes "call") 1 refl refl refl ∙ call_taken 1 r.text.clauses r.store.now.next t (omega arith) (omega arith))) k

pub cut_infers : (r new : RegionView) (place : GoalPlace) → HasControlled r new CutToScope place place.after → Infers r new (AtomTerm (codes "!")) place (At place.after)
cut_infers r new place c = subst (λ o. LeavesOutcome r new o place (At place.after)) (sym (construct_taken r.text.clauses (AtomTerm (codes "!")) r.store.now.next (codes "!") 0 refl refl refl)) (cuts r new place c)

pub true_infers : (r : RegionView) (place : GoalPlace) → IsGoalPlace r place → Infers r r (AtomTerm (codes "true")) place (At place.after)
true_infers r place at = subst (λ o. LeavesOutcome r r o place (At place.after)) (sym (construct_taken r.text.clauses (AtomTerm (codes "true")) r.store.now.next (codes "true") 0 refl refl refl)) (succeeds r place at)

pub fail_infers : (r : RegionView) (place : GoalPlace) → Infers r r (AtomTerm (codes "fail")) place Failed
fail_infers r place = subst (λ o. LeavesOutcome r r o place Failed) (sym (construct_taken r.text.clauses (AtomTerm (codes "fail")) r.store.now.next (codes "fail") 0 refl refl refl)) (fails r place)
