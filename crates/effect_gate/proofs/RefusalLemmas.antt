-- Errors in their order, and effects that are refused with one.
use Rattle.std.proofs.Common.{◌≡◌, ℕ, Bool, true, false, List, [], ◌∷◌, ◌++◌, Option, Some, None, Result, Ok, Err, Vec, refl, sym, ap, subst}
use Rattle.std.specs.Result.{IsErrAnd}
use Rattle.std.specs.Global.{Global}
use Rattle.au_term.specs.Term.{Term}
use Rattle.au_model.specs.Terms.ErrorTerms.{error_term}
use Rattle.au_model.specs.Terms.Faults.{error_term_of}
use Rattle.au_model.specs.Syntax.OperatorChanges.{error_if, first_error}
use Rattle.au_model.specs.Writing.WrittenTerms.{written_term}
use Rattle.au_model.specs.declared.types.Style.{Style}
use Rattle.au_model.specs.declared.types.Style.TheVariants.{Plain, Quoted, Canonical}
use Rattle.au_model.specs.declared.fault.Fault.{Fault as FaultTerms}
use Rattle.run_model.specs.Goals.Outcomes.{Reply, Ball}
use Rattle.run_model.specs.Goals.WorldConstructs.{World as WorldTerms, unless_raised}
use Rattle.clause_compile.specs.declared.event.Effect.{Effect}
use Rattle.effect_gate.specs.Effects.{IsEffectApplied, world_meant}
use Rattle.effect_gate.specs.Refusals.{IsEffectDone, IsPassedOrError, IsValueOrError, writing}
use Rattle.effect_gate.specs.declared.refusal.Refusal.{Refusal}
use Rattle.effect_gate.specs.declared.refusal.Refusal.TheVariants.{Fault, NoMemory}
use Rattle.effect_gate.specs.declared.world.World.{World}
use Rattle.effect_gate.specs.declared.world.Applied.{Applied}
use Rattle.effect_gate.specs.declared.world.Applied.TheVariants.{Went, Raise}

-- errors that come after others
pub front_none : (es fs : List (Option Term)) → first_error es ≡ None → first_error (es ++ fs) ≡ first_error fs
front_none [] fs h = refl
front_none (Some e ∷ es) fs h = absurd cc
front_none (None ∷ es) fs h = front_none es fs h

pub front_some : (es fs : List (Option Term)) (e : Term) → first_error es ≡ Some e → first_error (es ++ fs) ≡ Some e
front_some [] fs e h = absurd cc
front_some (Some d ∷ es) fs e h = h
front_some (None ∷ es) fs e h = front_some es fs e h

pub one_error : (o : Option Term) → first_error (o ∷ []) ≡ o
one_error (Some e) = refl
one_error None = refl

pub test_passed : (b : Bool) (e : Term) → error_if b e ≡ None → b ≡ false
test_passed true e h = absurd cc
test_passed false e h = refl

-- a goal that raises an error, and one that does not
pub raised_by : (name : List ℕ) (arity : ℕ) (w : WorldTerms) (o : Option Term) (r : WorldTerms × Reply) (e : Term) → o ≡ Some e
    → (w ≡ (unless_raised name arity w o r).0) × ((unless_raised name arity w o r).1 ≡ Ball (error_term e name arity))
raised_by name arity w o r e h = (sym (ap (λ x. (unless_raised name arity w x r).0) h), ap (λ x. (unless_raised name arity w x r).1) h)

pub passed_by : (name : List ℕ) (arity : ℕ) (w : WorldTerms) (o : Option Term) (r : WorldTerms × Reply) → o ≡ None → unless_raised name arity w o r ≡ r
passed_by name arity w o r h = ap (λ x. unless_raised name arity w x r) h

-- an effect whose error is this one, if there is one
abbrev pub Raises : Effect → World → Option Term → Type 0
Raises e old o = (fault : FaultTerms) → o ≡ Some (error_term_of fault) → IsEffectApplied e old old (Raise fault)

pub refused_by : {X : Type 0} (e : Effect) (old : World) (o : Option Term) (P : X → Type 0) (d : Refusal) (q : Result Applied Refusal) → IsValueOrError o P (Err d) → IsErrAnd q (λ x. x ≡ d) → Raises e old o → IsEffectDone e old old q
refused_by e old o P d (Ok a) t s k = absurd s
refused_by e old o P d (Err x) t s k = by x (subst (λ y. IsValueOrError o P (Err y)) (sym s) t)
  where
    by : (y : Refusal) → IsValueOrError o P (Err y) → IsEffectDone e old old (Err y)
    by (Fault fault) h = k fault h
    by NoMemory h = tt

pub stopped_by : (e : Effect) (old : World) (o : Option Term) (d : Refusal) (q : Result Applied Refusal) → IsPassedOrError o (Err d) → IsErrAnd q (λ x. x ≡ d) → Raises e old o → IsEffectDone e old old q
stopped_by e old o d (Ok a) t s k = absurd s
stopped_by e old o d (Err x) t s k = by x (subst (λ y. IsPassedOrError o (Err y)) (sym s) t)
  where
    by : (y : Refusal) → IsPassedOrError o (Err y) → IsEffectDone e old old (Err y)
    by (Fault fault) h = k fault h
    by NoMemory h = tt

pub written_done : (style : Style) (old : World) (out : Vec ℕ Global) (t : Term) → out.items ≡ old.out.items ++ written_term style old.ops t → IsEffectApplied (writing style t) old (record old { out = out }) Went
written_done Plain old out t h = λ next. (ap (λ bytes. record (world_meant old) { written = bytes }) h, refl)
written_done Quoted old out t h = λ next. (ap (λ bytes. record (world_meant old) { written = bytes }) h, refl)
written_done Canonical old out t h = λ next. (ap (λ bytes. record (world_meant old) { written = bytes }) h, refl)
