-- The alternative of an answer over recoveries, once the nodes of its run are made.
use Rattle.std.proofs.Common.{◌≡◌, ℕ, zero, suc, ◌+◌, ◌-◌, true, List, [], ◌∷◌, map, length, take, drop, Option, Some, None, refl, sym, ap, ◌∙◌}
use Rattle.std.proofs.Common.{subst, arith}
use Rattle.std.specs.Prelude.{min}
use Rattle.std.specs.List.{list_all}
use Rattle.au_term.specs.Term.{Term}
use Rattle.run_model.specs.Machine.Items.{Continuation}
use Rattle.run_model.specs.Machine.Entries.{Entry, CatchEntry}
use Rattle.tree_model.specs.Credits.{added, credit_of, greatest}
use Rattle.tree_model.specs.Nodes.{ChoiceNode, CatchNode, Ready, Dormant, Numbered, none, alternative, Status, Pending, Inner}
use Rattle.tree_model.specs.Levels.{Level, Place, level_node, plug}
use Rattle.tree_model.specs.Orders.{first_open, clock_of}
use Rattle.tree_model.specs.Closing.{closes}
use Rattle.tree_model.specs.Shapes.{guard_kind, further_alternatives, placed_status}
use Rattle.answered_runs.specs.AnswersAtOnce.{is_recovery, answer_shape, one_answer}
use Rattle.answered_runs.proofs.ShapeLemmas.{twos, map_twos, HasLast, last_of}

-- the levels of an entry that stands first in what is below a place
pub record IsLeaf (number : ℕ) (u : Level) (up : List Level) (e : Entry) (status : Status) : Type 0 where
  pub level : Level
  pub above : List Level
  pub inside : plug (u ∷ up) status ≡ plug (level ∷ above) (Pending Ready e)
  pub numbered : level.number ≡ number
  pub leftmost : level.left ≡ []
  pub clear : first_open (u ∷ up) ≡ None → first_open (level ∷ above) ≡ None
  pub clock : clock_of (level ∷ above) ≡ clock_of (u ∷ up)
  pub closing : (next : ℕ) → closes next (level ∷ above) one_answer ≡ closes next (u ∷ up) (added (credit_of u.spent) one_answer)

-- no alternative is to the left of a first one, and nothing was spent on a new one
nothing_left : (n : ℕ) (o : Option Place) → o ≡ None → elim o as (λ q. Option Place) [ Some p ↦ Some p | None ↦ None ] ≡ None
nothing_left n None h = refl
nothing_left n (Some p) h = let no_way : ⊥ = cc in absurd no_way

nothing_spent : (a b c : ℕ) → min greatest (min greatest (a + min greatest (b + c)) + min greatest (0 + 0))
    ≡ min greatest (a + min greatest (b + c))
nothing_spent a b c = omega arith

abbrev catch_level : ℕ → Term → Term → Continuation ℕ → Level
catch_level n c r f = record { number = n; kind = CatchNode; left = []; spent = 0; right = alternative 0 (Pending Dormant (CatchEntry c r f)) none }

-- of an answer alone
pub leaf_alone : (n : ℕ) (u : Level) (up : List Level) (e : Entry) → IsLeaf n u up e (placed_status n (1 ∷ []) (e ∷ []))
leaf_alone n u up e = record {
  level = record { number = n; kind = ChoiceNode; left = []; spent = 0; right = none };
  above = u ∷ up;
  inside = refl;
  numbered = refl;
  leftmost = refl;
  clear = λ h. nothing_left n (first_open (u ∷ up)) h;
  clock = nothing_spent _ _ u.spent;
  closing = λ next. refl;
}

-- below one more catch node
below_catch : (m n : ℕ) (u : Level) (up : List Level) (e : Entry) (inner : Status) (c r : Term) (f : Continuation ℕ)
    → IsLeaf m (catch_level n c r f) (u ∷ up) e inner → IsLeaf m u up e
    (Inner (Numbered n CatchNode (alternative 0 inner (alternative 0 (Pending Dormant (CatchEntry c r f)) none))))
below_catch m n u up e inner c r f k = record {
  level = k.level;
  above = k.above;
  inside = k.inside;
  numbered = k.numbered;
  leftmost = k.leftmost;
  clear = λ h. k.clear (nothing_left n (first_open (u ∷ up)) h);
  clock = k.clock ∙ nothing_spent _ _ u.spent;
  closing = λ next. k.closing next;
}

-- of an entry alone, right below a catch node
right_below : (number n : ℕ) → n ≡ number → (u : Level) (up : List Level) (e : Entry) (c r : Term) (f : Continuation ℕ)
    → IsLeaf number u up e (Inner (Numbered n CatchNode (alternative 0 (Pending Ready e) (alternative 0 (Pending Dormant (CatchEntry c r f)) none))))
right_below number n q u up e c r f = record {
  level = catch_level n c r f;
  above = u ∷ up;
  inside = refl;
  numbered = q;
  leftmost = refl;
  clear = λ h. nothing_left n (first_open (u ∷ up)) h;
  clock = nothing_spent _ _ u.spent;
  closing = λ next. refl;
}

-- the nodes of so many recoveries and one, by the last
by_last : (m number n : ℕ) (u : Level) (up : List Level) (e : Entry) (es : List Entry) → length es ≡ suc m → (k : HasLast m es)
    → IsLeaf number u up e (Inner (Numbered n CatchNode (alternative 0 (placed_status (suc n) (twos m) (e ∷ take m es))
    (alternative 0 (Pending Dormant (CatchEntry k.catcher k.recovery k.after)) none))))
    → IsLeaf number u up e (placed_status n (twos (suc m)) (e ∷ es))
by_last m number n u up e es long k leaf =
    let rest : suc m ≡ length (e ∷ es) - 1 = omega arith in
    subst (λ p. IsLeaf number u up e (Inner (Numbered n (guard_kind (drop p (e ∷ es)))
    (alternative 0 (placed_status (suc n) (twos m) (take p (e ∷ es))) (further_alternatives (drop p (e ∷ es))))))) rest
    (subst (λ last. IsLeaf number u up e (Inner (Numbered n (guard_kind last)
    (alternative 0 (placed_status (suc n) (twos m) (e ∷ take m es)) (further_alternatives last))))) (sym k.last) leaf)

leaf_over : (m number n : ℕ) → number ≡ n + m → (u : Level) (up : List Level) (e : Entry) (es : List Entry) → length es ≡ suc m
    → list_all is_recovery es ≡ true → IsLeaf number u up e (placed_status n (twos (suc m)) (e ∷ es))
leaf_over zero number n q u up e es long h =
    let k = last_of zero es long h in
    let same : n ≡ number = omega arith in
    by_last zero number n u up e es long k (right_below number n same u up e k.catcher k.recovery k.after)
leaf_over (suc m) number n q u up e es long h =
    let k = last_of (suc m) es long h in
    let same : number ≡ suc n + m = omega arith in
    by_last (suc m) number n u up e es long k
    (below_catch number n u up e (placed_status (suc n) (twos (suc m)) (e ∷ take (suc m) es)) k.catcher k.recovery k.after
    (leaf_over m number (suc n) same (catch_level n k.catcher k.recovery k.after) (u ∷ up) e (take (suc m) es) k.fewer k.recoveries))

length_twos : (n : ℕ) → length (twos n) ≡ n
length_twos zero = refl
length_twos (suc n) = ap suc (length_twos n)

-- an answer over recoveries is first in its nodes
pub leaf_of : (n : ℕ) (u : Level) (up : List Level) (e : Entry) (es : List Entry) → list_all is_recovery es ≡ true
    → IsLeaf ((n + length (answer_shape es)) - 1) u up e (placed_status n (answer_shape es) (e ∷ es))
leaf_of n u up e [] h =
    let same : n ≡ (n + 1) - 1 = omega arith in
    subst (λ m. IsLeaf m u up e (placed_status n (1 ∷ []) (e ∷ []))) same (leaf_alone n u up e)
leaf_of n u up e (r ∷ es) h =
    let counts : length (answer_shape (r ∷ es)) ≡ length (r ∷ es) = ap length (map_twos (r ∷ es)) ∙ length_twos (length (r ∷ es)) in
    let same : (n + length (answer_shape (r ∷ es))) - 1 ≡ n + length es = omega (arith, counts) in
    subst (λ sizes. IsLeaf ((n + length (answer_shape (r ∷ es))) - 1) u up e (placed_status n sizes (e ∷ r ∷ es))) (sym (map_twos (r ∷ es)))
    (leaf_over (length es) ((n + length (answer_shape (r ∷ es))) - 1) n same u up e (r ∷ es) refl h)
