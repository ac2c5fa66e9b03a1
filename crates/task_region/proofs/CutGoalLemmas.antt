-- Goals that cut.
use Rattle.std.proofs.Common.{◌≡◌, ℕ, Bool, true, false, cond, ◌==◌, List, Option, Some, None, refl, sym, ap, ap₂, ◌∙◌}
use Rattle.std.specs.Prelude.{codes, nat_lt, IsTrue, ◌↔◌}
use Rattle.std.specs.Cmp.Lexicographic.{same_text}
use Rattle.std.proofs.lemmas.Bool.{eqb-true}
use Rattle.au_term.proofs.LogicLemmas.{both}
use Rattle.au_term.specs.Term.{Term, VarTerm, IntTerm, AtomTerm, Compound, Terms, end, more, argument_count, term_at, drop_terms}
use Rattle.au_model.specs.Terms.Each.{Each}
use Rattle.au_model.specs.Terms.ErrorTerms.{representation_error}
use Rattle.au_model.specs.Terms.Forms.{is_callable, name_of, same_name}
use Rattle.au_model.proofs.EachLemmas.{IfFound, found_row}
use Rattle.run_model.specs.Programs.Bodies.{called_goals, goals_of}
use Rattle.run_model.specs.Programs.Clauses.{Clause, is_defined}
use Rattle.run_model.specs.Goals.Outcomes.{ControlForm, EitherOf, TestOf, CutToScope, Controls}
use Rattle.run_model.specs.Goals.Control.{Construct, is_named, construct_of, control_constructs, with_arguments, raises, called, call_outcome, throw_outcome, either_form}
use Rattle.run_model.specs.Goals.Builtins.{builtins}
use Rattle.run_model.specs.Goals.Worlds.{is_world_goal}
use Rattle.run_model.specs.Goals.GoalOutcomes.{by_procedure, by_world_goal, by_builtin, by_construct, named_outcome, outcome_of}
use Rattle.binding_array.specs.declared.cell.BindingCell.{BindingCell}
use Rattle.cell_store.specs.StoreView.{StoreView}
use Rattle.region_split.specs.declared.frame.FrameItem.{FrameItem}
use Rattle.region_split.specs.declared.frame.FrameItem.TheVariants as item
use Rattle.task_region.specs.CutGoals.{IsCutGoal, CutsAreNamed, NamedCutsCut, IsCutCall, IsCutItem}

-- the row of a cut, if its outcome is one
abbrev IsCutRow : Construct → Type 0
IsCutRow c = (ts : Terms) (next : ℕ) → c.outcome ts next ≡ Controls CutToScope → (c.name ≡ codes "!") × (c.arity ≡ 0)

form_of_controls : (form : ControlForm) → Controls form ≡ Controls CutToScope → form ≡ CutToScope
form_of_controls form e = cc

by_test : (b : Bool) (c t e other : List Term) (f : ControlForm) → cond b (TestOf c t e) (EitherOf other e) ≡ CutToScope → ⊥
by_test true c t e other f h = cc
by_test false c t e other f h = cc

either_no_cut : (a b : Term) → either_form a b ≡ CutToScope → ⊥
either_no_cut (VarTerm n) b e = cc
either_no_cut (IntTerm z) b e = cc
either_no_cut (AtomTerm a) b e = cc
either_no_cut (Compound f end) b e = cc
either_no_cut (Compound f (more c end)) b e = cc
either_no_cut (Compound f (more c (more t end))) b e =
    by_test (same_name f (codes "->")) (goals_of c) (goals_of t) (goals_of b) (goals_of (Compound f (more c (more t end)))) CutToScope e
either_no_cut (Compound f (more c (more t (more u us)))) b e = cc

called_no_cut : (arity : ℕ) (g : Term) (b : Bool) (o : Option (List Term)) → cond b (raises (representation_error (codes "max_arity")) (codes "call") arity) (called arity g o) ≡ Controls CutToScope → ⊥
called_no_cut arity g true o e = cc
called_no_cut arity g false (Some gs) e = cc
called_no_cut arity g false None e = cc

call_no_cut : (arity : ℕ) (t : Term) (us : Terms) → call_outcome arity t us ≡ Controls CutToScope → ⊥
call_no_cut arity (VarTerm n) us e = cc
call_no_cut arity (IntTerm z) us e = cc
call_no_cut arity (AtomTerm a) us e = let g = with_arguments (AtomTerm a) us in called_no_cut arity g (nat_lt 65535 (argument_count g)) (called_goals g) e
call_no_cut arity (Compound f ts) us e = let g = with_arguments (Compound f ts) us in called_no_cut arity g (nat_lt 65535 (argument_count g)) (called_goals g) e

throw_no_cut : (t : Term) → throw_outcome t ≡ Controls CutToScope → ⊥
throw_no_cut (VarTerm n) e = cc
throw_no_cut (IntTerm z) e = cc
throw_no_cut (AtomTerm a) e = cc
throw_no_cut (Compound f ts) e = cc

controls_cut : Each IsCutRow control_constructs
controls_cut = (λ ts next e. absurd cc, (λ ts next e. absurd cc, (λ ts next e. absurd cc, (λ ts next e. (refl, refl), (λ ts next e. absurd (either_no_cut (term_at 0 ts) (term_at 1 ts) (form_of_controls _ e)), (λ ts next e. absurd cc, (λ ts next e. absurd cc, (λ ts next e. absurd cc, (λ ts next e. absurd (throw_no_cut (term_at 0 ts) e), (λ ts next e. absurd cc, (λ ts next e. absurd cc, (λ ts next e. absurd (call_no_cut 1 (term_at 0 ts) (drop_terms 1 ts) e), (λ ts next e. absurd (call_no_cut 2 (term_at 0 ts) (drop_terms 1 ts) e), (λ ts next e. absurd (call_no_cut 3 (term_at 0 ts) (drop_terms 1 ts) e), (λ ts next e. absurd (call_no_cut 4 (term_at 0 ts) (drop_terms 1 ts) e), (λ ts next e. absurd (call_no_cut 5 (term_at 0 ts) (drop_terms 1 ts) e), (λ ts next e. absurd (call_no_cut 6 (term_at 0 ts) (drop_terms 1 ts) e), (λ ts next e. absurd (call_no_cut 7 (term_at 0 ts) (drop_terms 1 ts) e), (λ ts next e. absurd (call_no_cut 8 (term_at 0 ts) (drop_terms 1 ts) e), tt)))))))))))))))))))

builtins_cut : Each IsCutRow builtins
builtins_cut = (λ ts next e. absurd cc, (λ ts next e. absurd cc, (λ ts next e. absurd cc, (λ ts next e. absurd cc, (λ ts next e. absurd cc, (λ ts next e. absurd cc, (λ ts next e. absurd cc, (λ ts next e. absurd cc, (λ ts next e. absurd cc, (λ ts next e. absurd cc, (λ ts next e. absurd cc, (λ ts next e. absurd cc, (λ ts next e. absurd cc, (λ ts next e. absurd cc, (λ ts next e. absurd cc, (λ ts next e. absurd cc, (λ ts next e. absurd cc, (λ ts next e. absurd cc, (λ ts next e. absurd cc, (λ ts next e. absurd cc, (λ ts next e. absurd cc, (λ ts next e. absurd cc, (λ ts next e. absurd cc, (λ ts next e. absurd cc, (λ ts next e. absurd cc, (λ ts next e. absurd cc, (λ ts next e. absurd cc, (λ ts next e. absurd cc, (λ ts next e. absurd cc, (λ ts next e. absurd cc, (λ ts next e. absurd cc, (λ ts next e. absurd cc, (λ ts next e. absurd cc, (λ ts next e. absurd cc, (λ ts next e. absurd cc, (λ ts next e. absurd cc, (λ ts next e. absurd cc, (λ ts next e. absurd cc, (λ ts next e. absurd cc, (λ ts next e. absurd cc, tt))))))))))))))))))))))))))))))))))))))))

procedure_no_cut : (b : Bool) (clauses : List Clause) (g : Term) (next : ℕ) → by_procedure b clauses g next ≡ Controls CutToScope → ⊥
procedure_no_cut true clauses g next e = cc
procedure_no_cut false clauses g next e = cc

world_no_cut : (b : Bool) (clauses : List Clause) (g : Term) (next : ℕ) → by_world_goal b clauses g next ≡ Controls CutToScope → ⊥
world_no_cut true clauses g next e = cc
world_no_cut false clauses g next e = procedure_no_cut (is_defined clauses (name_of g) (argument_count g)) clauses g next e

-- a row that was found has the name and the number of arguments
row_named : (g : Term) (c : Construct) → is_named (name_of g) (argument_count g) c ≡ true → (c.name ≡ codes "!") × (c.arity ≡ 0) → IsCutGoal g
row_named g c h is =
    let named = both (same_name c.name (name_of g)) (c.arity == argument_count g) h in
    (sym (same_text c.name (name_of g) (sym named.0)) ∙ is.0, sym (eqb-true c.arity (argument_count g) named.1) ∙ is.1)

abbrev IsFound : Term → Option Construct → Type 0
IsFound g o = IfFound (λ c. IsCutRow c × (is_named (name_of g) (argument_count g) c ≡ true)) o

builtin_cuts : (o : Option Construct) (clauses : List Clause) (g : Term) (next : ℕ) → IsFound g o → by_builtin o clauses g next ≡ Controls CutToScope → IsCutGoal g
builtin_cuts None clauses g next r e = absurd (world_no_cut (is_world_goal (name_of g) (argument_count g)) clauses g next e)
builtin_cuts (Some c) clauses g next r e = row_named g c r.1 (r.0 _ next e)

construct_cuts : (o : Option Construct) (clauses : List Clause) (g : Term) (next : ℕ) → IsFound g o → by_construct o clauses g next ≡ Controls CutToScope → IsCutGoal g
construct_cuts None clauses g next r e =
    builtin_cuts (construct_of builtins (name_of g) (argument_count g)) clauses g next (found_row IsCutRow (is_named (name_of g) (argument_count g)) builtins builtins_cut) e
construct_cuts (Some c) clauses g next r e = row_named g c r.1 (r.0 _ next e)

named_cuts : (clauses : List Clause) (g : Term) (next : ℕ) → named_outcome clauses g next ≡ Controls CutToScope → IsCutGoal g
named_cuts clauses g next e =
    construct_cuts (construct_of control_constructs (name_of g) (argument_count g)) clauses g next (found_row IsCutRow (is_named (name_of g) (argument_count g)) control_constructs controls_cut) e

pub cuts_are_named : CutsAreNamed
unfolding outcome_of
cuts_are_named clauses (VarTerm n) next e = absurd (call_no_cut 1 (VarTerm n) end e)
cuts_are_named clauses (IntTerm z) next e = absurd (call_no_cut 1 (IntTerm z) end e)
cuts_are_named clauses (AtomTerm a) next e = named_cuts clauses (AtomTerm a) next e
cuts_are_named clauses (Compound f ts) next e = named_cuts clauses (Compound f ts) next e

-- and each goal that is so named cuts
cut_row : (clauses : List Clause) (g : Term) (next : ℕ) → IsCutGoal g → named_outcome clauses g next ≡ Controls CutToScope
cut_row clauses g next h = ap₂ (λ name count. by_construct (construct_of control_constructs name count) clauses g next) h.0 h.1

pub named_cuts_cut : NamedCutsCut
unfolding outcome_of
named_cuts_cut clauses (VarTerm n) next c h = absurd cc
named_cuts_cut clauses (IntTerm z) next c h = absurd cc
named_cuts_cut clauses (AtomTerm a) next c h = cut_row clauses (AtomTerm a) next h
named_cuts_cut clauses (Compound f ts) next c h = cut_row clauses (Compound f ts) next h

-- a goal is told by its name and the number of its arguments
pub no_call_cuts : (goal : Term) → is_callable goal ≡ false → IsTrue false ↔ IsCutCall goal
no_call_cuts goal none = ((λ e. absurd cc), (λ h. absurd (let e : false ≡ true = sym none ∙ h.0 in cc)))

pub arguments_no_cut : (goal : Term) (count : ℕ) → argument_count goal ≡ count → (count ≡ 0 → ⊥) → IsTrue false ↔ IsCutCall goal
arguments_no_cut goal count many some = ((λ e. absurd cc), (λ h. absurd (some (sym many ∙ h.1.1))))

pub cut_told : (goal : Term) (name : List ℕ) (count : ℕ) (b : Bool) → is_callable goal ≡ true → name_of goal ≡ name → argument_count goal ≡ count → count ≡ 0
    → b ≡ same_name name (codes "!") → IsTrue b ↔ IsCutCall goal
cut_told goal name count b callable named many none e =
    ((λ is. (callable, (named ∙ same_text name (codes "!") (sym (sym e ∙ is)), many ∙ none))), (λ h. e ∙ ap (λ n. same_name n (codes "!")) (sym named ∙ h.1.0)))

pub others_no_cut : (st : StoreView) (i : FrameItem) → ((value : BindingCell) → i ≡ item.Goal value → ⊥) → (i ≡ item.Cut → ⊥) → IsTrue false ↔ IsCutItem st i
others_no_cut st (item.Goal value) g c = absurd (g value refl)
others_no_cut st (item.Call value) g c = ((λ e. absurd cc), (λ h. absurd (let e = h.1.1 in cc)))
others_no_cut st item.Cut g c = absurd (c refl)
others_no_cut st item.True g c = ((λ e. absurd cc), (λ h. absurd (let e = h.1.0 in cc)))
others_no_cut st item.Fail g c = ((λ e. absurd cc), (λ h. absurd (let e = h.1.0 in cc)))
others_no_cut st item.CatchEnd g c = ((λ e. absurd cc), (λ h. absurd h))
others_no_cut st (item.Collect value) g c = ((λ e. absurd cc), (λ h. absurd h))
others_no_cut st (item.Removal number) g c = ((λ e. absurd cc), (λ h. absurd h))
