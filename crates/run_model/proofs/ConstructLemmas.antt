-- A goal that is no control construct, built-in or world goal is a call of its procedure.
use Rattle.std.proofs.Common.{◌≡◌, ℕ, true, false, ◌||◌, List, Option, Some, None, refl, ap, ◌∙◌}
use Rattle.std.specs.Prelude.{is_some, codes, ◌&&◌, ◌==◌}
use Rattle.au_term.specs.Term.{Term, VarTerm, IntTerm, AtomTerm, Compound, argument_count}
use Rattle.au_model.specs.Terms.Forms.{same_name, name_of, is_callable}
use Rattle.run_model.specs.Programs.Clauses.{Clause, is_defined}
use Rattle.run_model.specs.Goals.Outcomes.{Replies, Solutions, AskWorld, alternatives_of}
use Rattle.run_model.specs.Goals.Control.{construct_of, control_constructs}
use Rattle.run_model.specs.Goals.Builtins.{builtins}
use Rattle.run_model.specs.Goals.Worlds.{World, static_among, is_world_goal, world_construct_of, dynamic_call, by_world_construct, world_step}
use Rattle.run_model.specs.Programs.Databases.{clauses_of}
use Rattle.run_model.specs.Goals.GoalOutcomes.{by_procedure, by_world_goal, by_builtin, by_construct, named_outcome, outcome_of, has_row, is_reserved}
use Rattle.au_term.proofs.LogicLemmas.{or-left as first_is_false, or-right as second_is_false}

pub none_of : {A : Type 0} (o : Option A) → is_some o ≡ false → o ≡ None
none_of None h = refl
none_of (Some a) h = cc

named_goal : (clauses : List Clause) (g : Term) (next : ℕ) → has_row (name_of g) (argument_count g) ≡ false → named_outcome clauses g next ≡ by_procedure (is_defined clauses (name_of g) (argument_count g)) clauses g next
named_goal clauses g next h =
    let control = construct_of control_constructs (name_of g) (argument_count g) in
    let built = construct_of builtins (name_of g) (argument_count g) in
    let asks = is_world_goal (name_of g) (argument_count g) in
    let no_control : control ≡ None = none_of control (first_is_false (is_some control) (is_some built || asks) h) in
    let others : (is_some built || asks) ≡ false = second_is_false (is_some control) (is_some built || asks) h in
    let no_built : built ≡ None = none_of built (first_is_false (is_some built) asks others) in
    ap (λ o. by_construct o clauses g next) no_control ∙ ap (λ o. by_builtin o clauses g next) no_built ∙ ap (λ b. by_world_goal b clauses g next) (second_is_false (is_some built) asks others)

-- a name that isn't reserved has no row
pub not_reserved : (name : List ℕ) (arity : ℕ) → is_reserved name arity ≡ false → has_row name arity ≡ false
not_reserved name arity h = second_is_false (same_name name (codes ",") && arity == 2) (has_row name arity) h

-- what a goal comes to that has no row
pub procedure_call : (clauses : List Clause) (g : Term) (next : ℕ) → is_callable g ≡ true → has_row (name_of g) (argument_count g) ≡ false → outcome_of clauses g next ≡ by_procedure (is_defined clauses (name_of g) (argument_count g)) clauses g next
unfolding outcome_of
procedure_call clauses (VarTerm n) next c h = cc
procedure_call clauses (IntTerm z) next c h = cc
procedure_call clauses (AtomTerm a) next c h = named_goal clauses (AtomTerm a) next h
procedure_call clauses (Compound f ts) next c h = named_goal clauses (Compound f ts) next h

-- the solutions of a procedure of the text
pub static_call : (clauses : List Clause) (g : Term) (next : ℕ) → is_callable g ≡ true → has_row (name_of g) (argument_count g) ≡ false → is_defined clauses (name_of g) (argument_count g) ≡ true → outcome_of clauses g next ≡ Replies (Solutions (alternatives_of clauses g next))
static_call clauses g next c h d = procedure_call clauses g next c h ∙ ap (λ b. by_procedure b clauses g next) d

-- the other procedures are the world's
pub other_call : (clauses : List Clause) (g : Term) (next : ℕ) → is_callable g ≡ true → has_row (name_of g) (argument_count g) ≡ false → is_defined clauses (name_of g) (argument_count g) ≡ false → outcome_of clauses g next ≡ AskWorld g
other_call clauses g next c h d = procedure_call clauses g next c h ∙ ap (λ b. by_procedure b clauses g next) d

-- which leave the world as it is where they have no row
pub world_call : (clauses : List Clause) (g : Term) (next : ℕ) (w : World) → has_row (name_of g) (argument_count g) ≡ false → world_step clauses g next w ≡ (w, dynamic_call (clauses_of w.database (name_of g) (argument_count g)) g next)
world_call clauses g next w h =
    let control = construct_of control_constructs (name_of g) (argument_count g) in
    let built = construct_of builtins (name_of g) (argument_count g) in
    let asks = is_world_goal (name_of g) (argument_count g) in
    let others : (is_some built || asks) ≡ false = second_is_false (is_some control) (is_some built || asks) h in
    ap (λ o. by_world_construct o (static_among clauses) g next w) (none_of (world_construct_of (name_of g) (argument_count g)) (second_is_false (is_some built) asks others))

-- a goal of the world asks it
asks_named : (clauses : List Clause) (g : Term) (next : ℕ) → is_some (construct_of control_constructs (name_of g) (argument_count g)) ≡ false → construct_of builtins (name_of g) (argument_count g) ≡ None → is_world_goal (name_of g) (argument_count g) ≡ true
    → named_outcome clauses g next ≡ AskWorld g
asks_named clauses g next c b w =
    ap (λ o. by_construct o clauses g next) (none_of (construct_of control_constructs (name_of g) (argument_count g)) c) ∙ (ap (λ o. by_builtin o clauses g next) b ∙ ap (λ a. by_world_goal a clauses g next) w)

pub world_goal : (clauses : List Clause) (g : Term) (next : ℕ) → is_callable g ≡ true → is_some (construct_of control_constructs (name_of g) (argument_count g)) ≡ false → construct_of builtins (name_of g) (argument_count g) ≡ None → is_world_goal (name_of g) (argument_count g) ≡ true
    → outcome_of clauses g next ≡ AskWorld g
unfolding outcome_of
world_goal clauses (VarTerm n) next h c b w = cc
world_goal clauses (IntTerm z) next h c b w = cc
world_goal clauses (AtomTerm a) next h c b w = asks_named clauses (AtomTerm a) next c b w
world_goal clauses (Compound f ts) next h c b w = asks_named clauses (Compound f ts) next c b w
