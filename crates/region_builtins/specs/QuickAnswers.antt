-- Answers of built-in predicates by the values of their arguments.
use Rattle.std.specs.Prelude.{◌≡◌, ℕ, Bool, List, [], ◌∷◌, Err}
use Rattle.au_term.specs.Term.{Term, AtomTerm}
use Rattle.au_model.specs.Terms.Forms.{same_name}
use Rattle.au_model.specs.Terms.Faults.{error_term_of}
use Rattle.run_model.specs.Goals.BuiltinAnswers.{Answer, equal, holds_if, one_solution, reply_of}
use Rattle.run_model.specs.Goals.Outcomes.{Replies}
use Rattle.run_model.specs.Goals.TermTests.{order_symbol}
use Rattle.run_model.specs.Goals.UnificationGoals.{apart_answer}
use Rattle.clause_compile.specs.AtomNumbers.{name_at}
use Rattle.binding_array.specs.declared.cell.BindingCell.{BindingCell}
use Rattle.arith_eval.specs.declared.evaluation.EvalRefusal.{EvalRefusal}
use Rattle.cell_store.specs.StoreView.{StoreView, IsValueIn, meaning, text_in}
use Rattle.region_split.specs.Regions.{RegionView}
use Rattle.region_control.specs.Replies.{LeavesOutcome}
use Rattle.region_control.specs.declared.control.GoalPlace.{GoalPlace}
use Rattle.region_control.specs.declared.forms.GoalForm.{GoalForm}
use Rattle.region_control.specs.declared.replies.AfterGoal.{AfterGoal}
use Rattle.value_goals.specs.Answers.{IsRefusedAnswer}
use Rattle.region_builtins.specs.declared.quick.QuickAnswer.{QuickAnswer}
use Rattle.region_builtins.specs.declared.quick.QuickAnswer.TheVariants.{Holds, Equal, BothEqual, Ordered, Alike, Apart, Raises, Unknown}

-- two values that are there, and what they stand for
abbrev pub IsPairIn : StoreView → BindingCell × BindingCell → Type 0
IsPairIn st p = IsValueIn st p.0 × IsValueIn st p.1

abbrev pub pair_meant : StoreView → BindingCell × BindingCell → Term × Term
pair_meant st p = (meaning st p.0, meaning st p.1)

-- an answer makes two values one
abbrev pub MakesOne : StoreView → BindingCell × BindingCell → Answer → Type 0
MakesOne st p answer = IsPairIn st p × (answer ≡ equal (meaning st p.0) (meaning st p.1))

-- it makes two atoms one, which are the same or not
pub record AreTwoAtoms (answer : Answer) (alike : Bool) : Type 0 where
  pub left : List ℕ
  pub right : List ℕ
  pub is : answer ≡ equal (AtomTerm left) (AtomTerm right)
  pub same : alike ≡ same_name left right

-- it holds or fails; it makes one of two values, of two and then of two others, of a value and the symbol of an order, or of two
-- atoms; it holds where two values have no unifier; or it raises an error; where none of these is known, it may be anything
abbrev pub IsQuickAnswer : StoreView → Answer → QuickAnswer → Type 0
IsQuickAnswer st answer (Holds b) = answer ≡ holds_if b
IsQuickAnswer st answer (Equal a b) = IsValueIn st a × IsValueIn st b × (answer ≡ equal (meaning st a) (meaning st b))
IsQuickAnswer st answer (BothEqual p q) = IsPairIn st p × IsPairIn st q × (answer ≡ one_solution (pair_meant st p ∷ pair_meant st q ∷ []))
IsQuickAnswer st answer (Ordered a o) = IsValueIn st a × (answer ≡ equal (meaning st a) (AtomTerm (order_symbol o)))
IsQuickAnswer st answer (Alike b) = AreTwoAtoms answer b
IsQuickAnswer st answer (Apart a b) = IsValueIn st a × IsValueIn st b × (answer ≡ apart_answer (meaning st a) (meaning st b))
IsQuickAnswer st answer (Raises fault) = answer ≡ Err (error_term_of fault)
IsQuickAnswer st answer Unknown = Unit {0}

-- what is not evaluated raises its error
abbrev pub IsRefusedBy : EvalRefusal → QuickAnswer → Type 0
IsRefusedBy refusal q = (st : StoreView) (answer : Answer) → IsRefusedAnswer answer refusal → IsQuickAnswer st answer q

-- a goal, of any name, comes to an answer
abbrev pub AnswersIn : RegionView → RegionView → Answer → GoalPlace → AfterGoal → Type 0
AnswersIn old new answer g after = (name : List ℕ) (arity : ℕ) → LeavesOutcome old new (Replies (reply_of name arity answer)) g after

-- a goal with a form comes to an answer
abbrev pub AnswersFor : RegionView → RegionView → GoalForm → Answer → GoalPlace → AfterGoal → Type 0
AnswersFor old new form answer g after = LeavesOutcome old new (Replies (reply_of (name_at (text_in old.store).names form.name) form.arguments.count answer)) g after
