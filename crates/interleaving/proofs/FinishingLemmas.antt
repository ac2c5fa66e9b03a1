-- The counts of a tree that has ended.
use Rattle.std.proofs.Common.{◌≡◌, ℕ, zero, suc, ◌+◌, ◌-◌, ◌≤◌, ◌<◌, Bool, true, false, cond, List, [], ◌∷◌, ◌++◌, refl, sym, ap, ◌∙◌}
use Rattle.std.proofs.Common.{subst, arith}
use Rattle.run_model.specs.Programs.Clauses.{Clause}
use Rattle.std.specs.Prelude.{min}
use Rattle.tree_model.specs.Credits.{greatest}
use Rattle.tree_model.specs.Nodes.{Kind, Numbered, Alternatives, none, alternative, Status, Pending, Inner, Closed, credits_among}
use Rattle.tree_model.specs.Nodes.{credits_below}
use Rattle.tree_model.specs.Levels.{Level, pending_among, pending_of}
use Rattle.tree_model.specs.Elements.{Element}
use Rattle.tree_model.specs.PendingLists.{Way, list_among, pending_list}
use Rattle.tree_model.specs.SoundTrees.{profiles, some_open, AreSound, IsSound}
use Rattle.interleaving.specs.Machine.{free_steps, run}
use Rattle.interleaving.specs.Scopes.{Shared, scoped}
use Rattle.interleaving.specs.Quiet.{IsQuiet, inferences}
use Rattle.interleaving.specs.Counted.{counted_steps}
use Rattle.interleaving.specs.Follows.{lead}
use Rattle.interleaving.proofs.ClockLemmas.{no_root, no_parts}
use Rattle.interleaving.proofs.LeadLemmas.{lead-quiet}
use Rattle.interleaving.proofs.PassingLemmas.{credits_end}

open_pending : (way : Way) (up : List Level) (n : ℕ) (kind : Kind) (i : ℕ) (left : List (ℕ × Status)) (others : Alternatives)
    → some_open (profiles others) ≡ true → (way ≡ [] → ⊥) → AreSound way n kind i others → pending_among up n kind left others ≡ [] → ⊥
open_pending way up n kind i left none o w h p = let no_way : ⊥ = cc in no_way
open_pending way up n kind i left (alternative spent (Closed c) others) o w h p = open_pending way up n kind (suc i)
    ((spent, Closed c) ∷ left) others o w h.1 p
open_pending way up n kind i left (alternative spent (Pending hold e) others) o w h p = let no_way : ⊥ = cc in no_way
open_pending way up n kind i left (alternative spent (Inner (Numbered m k alts)) others) o w h p = open_pending
    (record { node = n; index = i; kind = kind } ∷ way) _ m k 0 [] alts h.0.2 (λ e. let no_way : ⊥ = cc in no_way) h.0.3
    (no_parts _ _ p).0

-- the credits of the first node, all of whose alternatives have closed
first_counts : (up : List Level) (n : ℕ) (kind : Kind) (i : ℕ) (left : List (ℕ × Status)) (others : Alternatives)
    → AreSound [] n kind i others → pending_among up n kind left others ≡ [] → (credits_among others).inferences
    ≡ min greatest (inferences (list_among [] n kind i others))
first_counts up n kind i left none h p = omega arith
first_counts up n kind i left (alternative spent (Closed c) others) h p =
    let rest = first_counts up n kind (suc i) ((spent, Closed c) ∷ left) others h.1 p in
    let mine : (credits_among (alternative spent (Closed c) others)).inferences
    ≡ min greatest (c.inferences + (credits_among others).inferences) = refl in
    let list : inferences (list_among [] n kind i (alternative spent (Closed c) others))
    ≡ c.inferences + inferences (list_among [] n kind (suc i) others) = refl in
    omega (arith, rest, mine, list)
first_counts up n kind i left (alternative spent (Pending hold e) others) h p = let no_way : ⊥ = cc in absurd no_way
first_counts up n kind i left (alternative spent (Inner (Numbered m k alts)) others) h p =
    absurd (open_pending (record { node = n; index = i; kind = kind } ∷ []) _ m k 0 [] alts h.0.2 (λ e. let no_way : ⊥ = cc in no_way)
    h.0.3 (no_parts _ _ p).0)

pub lead-all : (xs : List Element) → IsQuiet xs → lead xs ≡ inferences xs
lead-all xs q = let h : lead (xs ++ []) ≡ inferences xs + 0 = lead-quiet xs [] q in let same : lead (xs ++ [])
    ≡ lead xs = ap lead (nil xs) in omega (arith, h, same)
  where
    nil : (ys : List Element) → ys ++ [] ≡ ys
    nil [] = refl
    nil (y ∷ ys) = ap (λ l. y ∷ l) (nil ys)

-- credits alone are over after their inferences
pub credits_over : (clauses : List Clause) (xs : List Element) (n : ℕ) (w : Shared) → IsQuiet xs → lead xs ≤ n
    → run (scoped clauses) n w (free_steps (scoped clauses) [] xs) ≡ (w, [])
credits_over clauses xs n w q l =
    let all : lead xs ≡ inferences xs = lead-all xs q in
    let same : inferences xs + (n - inferences xs) ≡ n = omega (arith, all, l) in
    subst (λ k. run (scoped clauses) k w (free_steps (scoped clauses) [] xs) ≡ (w, [])) same
    (credits_end clauses xs w (n - inferences xs) q)

pub root_counts : (root : Status) → IsSound [] root → pending_of root ≡ [] → IsQuiet (pending_list root)
    → lead (pending_list root) ≤ greatest → (credits_below root).inferences ≡ lead (pending_list root)
root_counts (Closed c) h p q b = let l : lead (pending_list (Closed c)) ≡ c.inferences + 0 = refl in omega (arith, l)
root_counts (Pending hold e) h p q b = absurd (no_root e h.0)
root_counts (Inner (Numbered n kind alts)) h p q b =
    let c = first_counts [] n kind 0 [] alts h.3 p in
    let l : lead (pending_list (Inner (Numbered n kind alts))) ≡ 0 + inferences (list_among [] n kind 0 alts) = lead-all
    (pending_list (Inner (Numbered n kind alts))) q in
    let here : (credits_below (Inner (Numbered n kind alts))).inferences ≡ (credits_among alts).inferences = refl in
    omega (arith, c, l, b, here)

-- flags that turn at a number
pub counted_turn : (over : ℕ → Bool) (k : ℕ) → ((n : ℕ) → n < k → over n ≡ false) → (n : ℕ) → ((j : ℕ) → k ≤ j → j ≤ n → over j ≡ true)
    → k ≤ n → counted_steps over n ≡ k
counted_turn over k f n g l =
    let same : k + (n - k) ≡ n = omega (arith, l) in
    sym (ap (counted_steps over) same) ∙ high (n - k) (omega (arith, l))
  where
    low : (m : ℕ) → m ≤ k → counted_steps over m ≡ m
    low zero l = refl
    low (suc m) l = let h = low m (omega (arith, l)) in let turned : ◌≡◌ {A = ℕ} (cond (over m) 0 1) 1 = ap (λ b. cond b 0 1)
        (f m (omega (arith, l))) in omega (arith, h, turned)

    high : (d : ℕ) → k + d ≤ n → counted_steps over (k + d) ≡ k
    high zero b = let same : k + zero ≡ k = omega arith in ap (counted_steps over) same ∙ low k (omega arith)
    high (suc d) b =
        let same : k + suc d ≡ suc (k + d) = omega arith in
        let h = high d (omega (arith, b)) in
        let turned : ◌≡◌ {A = ℕ} (cond (over (k + d)) 0 1) 0 = ap (λ b. cond b 0 1) (g (k + d) (omega arith) (omega (arith, b))) in
        ap (counted_steps over) same ∙ (let z : counted_steps over (k + d) + cond (over (k + d)) 0 1 ≡ k = omega (arith, h, turned) in z)
