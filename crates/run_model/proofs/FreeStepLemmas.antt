-- The free steps come to an end, and leave what has none as it is.
use Rattle.std.proofs.Common.{◌≡◌, ℕ, zero, suc, ◌≤◌, Bool, true, false, cond, List, [], ◌∷◌, length, ◌==◌, refl, sym, ap, ◌∙◌, arith}
use Rattle.au_term.specs.Term.{Term}
use Rattle.run_model.specs.Machine.Items.{Item, GoalItem, CatchMark, CollectMark, RemovalItem, Continuation, with_items, without_marks}
use Rattle.run_model.specs.Machine.Entries.{Entry, PlainEntry, CatchEntry, FindallEntry, EndEntry, with_result, collected}
use Rattle.run_model.specs.Machine.FreeSteps.{plain_free_step, free_steps_within, take_free_steps, HasNoFreeStep, HaveNoMarkFirst}

-- a collected result changes no height
pub length-collected : (h : ℕ) (t : Term) (es : List Entry) → length (collected h t es) ≡ length es
length-collected h t [] = refl
length-collected h t (e ∷ es) = go (length es == h) (length-collected h t es)
  where
    go : (b : Bool) → length (collected h t es) ≡ length es → length (cond b (with_result t e ∷ es) (e ∷ collected h t es)) ≡ suc (length es)
    go true k = refl
    go false k = ap suc k

no_mark : (items : List (Item ℕ)) (h : ℕ) (rest : List (Item ℕ)) → without_marks items ≡ CatchMark h ∷ rest → ⊥
no_mark [] h rest e = cc
no_mark (CatchMark k ∷ items) h rest e = no_mark items h rest e
no_mark (GoalItem t k ∷ items) h rest e = cc
no_mark (CollectMark t k ∷ items) h rest e = cc
no_mark (RemovalItem k ∷ items) h rest e = cc

plain_ends : (items : List (Item ℕ)) → ((h : ℕ) (rest : List (Item ℕ)) → items ≡ CatchMark h ∷ rest → ⊥) → (f : Continuation ℕ) (es : List Entry) (go : List Entry → List Entry) → ((t : Term) (h : ℕ) → HasNoFreeStep (go (collected h t es))) → HasNoFreeStep (plain_free_step items f es go)
plain_ends [] n f es go h = tt
plain_ends (GoalItem t m ∷ items) n f es go h = tt
plain_ends (RemovalItem m ∷ items) n f es go h = tt
plain_ends (CatchMark m ∷ items) n f es go h = absurd (n m items refl)
plain_ends (CollectMark t m ∷ items) n f es go h = h t m

-- after the free steps none is left on top
pub no_step_left_within : (k : ℕ) (es : List Entry) → length es ≤ k → HasNoFreeStep (free_steps_within k es)
no_step_left_within zero [] h = tt
no_step_left_within zero (e ∷ es) h = absurd (omega arith)
no_step_left_within (suc k) [] h = tt
no_step_left_within (suc k) (CatchEntry c r f ∷ es) h = no_step_left_within k es (omega arith)
no_step_left_within (suc k) (FindallEntry results l f ∷ es) h = tt
no_step_left_within (suc k) (PlainEntry f ∷ es) h = plain_ends (without_marks f.items) (λ m rest e. no_mark f.items m rest e) f es (free_steps_within k) (λ t m. no_step_left_within k (collected m t es) (omega (arith, length-collected m t es)))
no_step_left_within (suc k) (EndEntry b ∷ es) h = tt

pub no_step_left : (es : List Entry) → HasNoFreeStep (take_free_steps es)
no_step_left es = no_step_left_within (length es) es (omega arith)

unmarked_items_stay : (items : List (Item ℕ)) (f : Continuation ℕ) (es : List Entry) (go : List Entry → List Entry) → HaveNoMarkFirst items → plain_free_step (without_marks items) f es go ≡ PlainEntry (with_items items f) ∷ es
unmarked_items_stay [] f es go h = refl
unmarked_items_stay (GoalItem t m ∷ items) f es go h = refl
unmarked_items_stay (RemovalItem m ∷ items) f es go h = refl
unmarked_items_stay (CatchMark m ∷ items) f es go h = absurd h
unmarked_items_stay (CollectMark t m ∷ items) f es go h = absurd h

-- where there is no free step, nothing changes
pub nothing_is_taken : (es : List Entry) → HasNoFreeStep es → take_free_steps es ≡ es
nothing_is_taken [] h = refl
nothing_is_taken (PlainEntry f ∷ es) h = unmarked_items_stay f.items f es (free_steps_within (length es)) h
nothing_is_taken (CatchEntry c r f ∷ es) h = absurd h
nothing_is_taken (FindallEntry results l f ∷ es) h = absurd h
nothing_is_taken (EndEntry b ∷ es) h = refl

-- the free steps one by one
pub catch_drops : (c r : Term) (f : Continuation ℕ) (es : List Entry) → take_free_steps (CatchEntry c r f ∷ es) ≡ take_free_steps es
catch_drops c r f es = refl

pub result_collects : (t : Term) (h : ℕ) (items : List (Item ℕ)) (f : Continuation ℕ) (es : List Entry) → without_marks f.items ≡ CollectMark t h ∷ items → take_free_steps (PlainEntry f ∷ es) ≡ take_free_steps (collected h t es)
result_collects t h items f es e = ap (λ is. plain_free_step is f es (free_steps_within (length es))) e ∙ ap (λ n. free_steps_within n (collected h t es)) (sym (length-collected h t es))
