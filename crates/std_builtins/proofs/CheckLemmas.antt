-- Terms tested one after another, and the answers that wait for them.
use Rattle.std.proofs.Common.{◌≡◌, ℕ, ◌+◌, ◌<◌, ◌≤◌, Bool, true, false, List, ◌∷◌, length, drop, get_or, Result, Ok, Err, refl, sym, ap, ◌∙◌, subst}
use Rattle.std.specs.Prelude.{Vec, IsErrAnd}
use Rattle.std.specs.Global.{Global}
use Rattle.std.proofs.lemmas.List.{drop_more, drop_all}
use Rattle.au_term.specs.Term.{Term}
use Rattle.run_model.specs.Goals.BuiltinAnswers.{Answer}
use Rattle.run_model.specs.Goals.AtomGoals.{with_each}
use Rattle.std_builtins.specs.Answers.{IsAnswer}
use Rattle.std_builtins.specs.Checks.{IsPassed}
use Rattle.std_builtins.specs.declared.answer.Solution.{Solution}
use Rattle.std_builtins.specs.declared.answer.BuiltinRefusal.{BuiltinRefusal}
use Rattle.std_builtins.specs.declared.answer.BuiltinRefusal.TheVariants.{Fault, NoMemory}

here : (xs : List Term) (i : ℕ) (t : Term) → i < length xs → t ≡ get_or xs i t → drop i xs ≡ t ∷ drop (i + 1) xs
here xs i t lt is = drop_more xs i t lt ∙ ap (λ y. y ∷ drop (i + 1) xs) (sym is)

pub each_passes : (test : Term → Bool) (error : Term → Term) (xs : List Term) (i : ℕ) (t : Term) (a : Answer) → i < length xs → t ≡ get_or xs i t → test t ≡ true → with_each test error (drop i xs) a ≡ with_each test error (drop (i + 1) xs) a
each_passes test error xs i t a lt is p = ap (λ ys. with_each test error ys a) (here xs i t lt is) ∙ (rw p refl)

pub each_fails : (test : Term → Bool) (error : Term → Term) (xs : List Term) (i : ℕ) (t : Term) (a : Answer) → i < length xs → t ≡ get_or xs i t → test t ≡ false → with_each test error (drop i xs) a ≡ Err (error t)
each_fails test error xs i t a lt is p = ap (λ ys. with_each test error ys a) (here xs i t lt is) ∙ (rw p refl)

pub each_over : (test : Term → Bool) (error : Term → Term) (xs : List Term) (i : ℕ) (a : Answer) → length xs ≤ i → with_each test error (drop i xs) a ≡ a
each_over test error xs i a le = ap (λ ys. with_each test error ys a) (drop_all i xs le)

-- an error that ends a call is its answer
pub refused : (waiting a : Answer) (r : Result (Unit {0}) BuiltinRefusal) (e : BuiltinRefusal) (s : Result (Vec Solution Global) BuiltinRefusal) → IsPassed waiting a r → r ≡ Err e → IsErrAnd s (λ d. d ≡ e) → IsAnswer waiting s
refused waiting a r e (Ok solutions) h is same = absurd same
refused waiting a r e (Err d) h is same = by d (subst (IsPassed waiting a) (is ∙ ap Err (sym same)) h)
  where
    by : (x : BuiltinRefusal) → IsPassed waiting a (Err x) → IsAnswer waiting (Err x)
    by (Fault fault) k = k
    by NoMemory k = tt

pub passed : (waiting a : Answer) (r : Result (Unit {0}) BuiltinRefusal) (u : Unit {0}) (s : Result (Vec Solution Global) BuiltinRefusal) → IsPassed waiting a r → r ≡ Ok u → IsAnswer a s → IsAnswer waiting s
passed waiting a r u s h is k = let e : waiting ≡ a = subst (IsPassed waiting a) is h in subst (λ x. IsAnswer x s) (sym e) k
