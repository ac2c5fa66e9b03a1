-- The first task of a worker at an alternative.
use Rattle.std.proofs.Common.{◌≡◌, ℕ, zero, suc, ◌+◌, ◌≤◌, Bool, true, false, cond, List, [], ◌∷◌, map, Some, None, refl, ap, ◌∙◌, arith}
use Rattle.std.specs.Prelude.{is_some, remove, ◌||◌}
use Rattle.std.specs.List.{list_any}
use Rattle.tree_model.specs.Levels.{Place}
use Rattle.tree_model.specs.Pruning.{Task}
use Rattle.tree_model.specs.Legality.{is_task}
use Rattle.tree_model.specs.Effects.{without_task}
use Rattle.public_tree.specs.declared.lost.LostTask.{LostTask}
use Rattle.public_tree.specs.LostTasks.{task_view, lost_index}

no_less : (w : ℕ) (a : Place) (ts : List Task) (k j : ℕ) → lost_index k w a ts ≡ Some j → k ≤ j
no_less w a [] k j e = absurd (cc e)
no_less w a (t ∷ ts) k j e = by_test (is_task w a t) e (no_less w a ts (suc k) j)
  where
    by_test : (b : Bool) → cond b (Some k) (lost_index (suc k) w a ts) ≡ Some j → (lost_index (suc k) w a ts ≡ Some j → suc k ≤ j) → k ≤ j
    by_test true e h = let z : k ≡ j = cc e in omega (arith, z)
    by_test false e h = let l = h e in omega (arith, l)

pub taken_out : (w : ℕ) (a : Place) (xs : List LostTask) (i k : ℕ) → lost_index k w a (map task_view xs) ≡ Some (k + i)
    → map task_view (remove xs i) ≡ without_task w a (map task_view xs)
taken_out w a [] i k e = absurd (cc e)
taken_out w a (x ∷ xs) zero k e = by_test (is_task w a (task_view x)) e
  where
    by_test : (b : Bool) → cond b (Some k) (lost_index (suc k) w a (map task_view xs)) ≡ Some (k + 0)
        → map task_view xs ≡ cond b (map task_view xs) (task_view x ∷ without_task w a (map task_view xs))
    by_test true e = refl
    by_test false e = let l = no_less w a (map task_view xs) (suc k) (k + 0) e in absurd (omega (arith, l))
taken_out w a (x ∷ xs) (suc i) k e = by_test (is_task w a (task_view x)) e (λ z. taken_out w a xs i (suc k) z)
  where
    more : k + suc i ≡ suc k + i
    more = omega arith

    by_test : (b : Bool) → cond b (Some k) (lost_index (suc k) w a (map task_view xs)) ≡ Some (k + suc i)
        → (lost_index (suc k) w a (map task_view xs) ≡ Some (suc k + i) → map task_view (remove xs i) ≡ without_task w a (map task_view xs))
        → task_view x ∷ map task_view (remove xs i) ≡ cond b (map task_view xs) (task_view x ∷ without_task w a (map task_view xs))
    by_test true e h = let z : k ≡ k + suc i = cc e in absurd (omega (arith, z))
    by_test false e h = ap (λ (ts : List Task). task_view x ∷ ts) (h (e ∙ ap Some more))

pub none_taken : (w : ℕ) (a : Place) (ts : List Task) (k : ℕ) → lost_index k w a ts ≡ None → ts ≡ without_task w a ts
none_taken w a [] k e = refl
none_taken w a (t ∷ ts) k e = by_test (is_task w a t) e (none_taken w a ts (suc k))
  where
    by_test : (b : Bool) → cond b (Some k) (lost_index (suc k) w a ts) ≡ None → (lost_index (suc k) w a ts ≡ None → ts ≡ without_task w a ts)
        → t ∷ ts ≡ cond b ts (t ∷ without_task w a ts)
    by_test true e h = absurd (cc e)
    by_test false e h = ap (λ (x : List Task). t ∷ x) (h e)

pub some_lost : (w : ℕ) (a : Place) (ts : List Task) (k : ℕ) → is_some (lost_index k w a ts) ≡ list_any (is_task w a) ts
some_lost w a [] k = refl
some_lost w a (t ∷ ts) k = by_test (is_task w a t) (some_lost w a ts (suc k))
  where
    by_test : (b : Bool) → is_some (lost_index (suc k) w a ts) ≡ list_any (is_task w a) ts
        → is_some (cond b (Some k) (lost_index (suc k) w a ts)) ≡ (b || list_any (is_task w a) ts)
    by_test true h = refl
    by_test false h = h
