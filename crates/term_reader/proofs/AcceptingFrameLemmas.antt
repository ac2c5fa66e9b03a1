-- Which frame takes a post-operator.
use Rattle.std.proofs.Common.{◌≡◌, ◌∙◌, ℕ, true, false, ◌||◌, List, [], ◌∷◌, ◌++◌, map, Some, None, sym, ap}
use Rattle.au_model.specs.Syntax.PostOperators.{PostOperator, post_operator_fits}
use Rattle.term_reader.specs.Completion as stack
use Rattle.term_reader.specs.Completion.{OpenFrame}
use Rattle.term_reader.specs.FrameShapes.{frame_meant, shape_of, shapes_up, shape_bound, shape_operator}
use Rattle.term_reader.specs.Refusals.{accepts}
use Rattle.term_reader.specs.declared.state.Frame.{Frame as DeclaredFrame}
use Rattle.term_reader.proofs.OperatorReductionLemmas.{popped, no_frames}

top-fits : (f : OpenFrame) (k : List OpenFrame) (p : ℕ) (j : PostOperator) → post_operator_fits (shape_bound (shape_of f)) p j ≡ true → accepts (f ∷ k) p j ≡ true
top-fits stack.Round k p j e = e
top-fits stack.Braces k p j e = e
top-fits (stack.ItemOf ts) k p j e = e
top-fits (stack.TailOf ts) k p j e = e
top-fits (stack.ArgumentOf n w ts) k p j e = e
top-fits (stack.PrefixOf n o) k p j e = ap (λ b. b || accepts k o.priority j) e
top-fits (stack.InfixOf n o l) k p j e = ap (λ b. b || accepts k o.priority j) e

top-none : (f : OpenFrame) (k : List OpenFrame) (p : ℕ) (j : PostOperator) → post_operator_fits (shape_bound (shape_of f)) p j ≡ false → shape_operator (shape_of f) ≡ None → accepts (f ∷ k) p j ≡ false
top-none stack.Round k p j e h = e
top-none stack.Braces k p j e h = e
top-none (stack.ItemOf ts) k p j e h = e
top-none (stack.TailOf ts) k p j e h = e
top-none (stack.ArgumentOf n w ts) k p j e h = e
top-none (stack.PrefixOf n o) k p j e h = let z : ⊥ = cc in absurd z
top-none (stack.InfixOf n o l) k p j e h = let z : ⊥ = cc in absurd z

top-more : (f : OpenFrame) (k : List OpenFrame) (p q : ℕ) (j : PostOperator) → post_operator_fits (shape_bound (shape_of f)) p j ≡ false → shape_operator (shape_of f) ≡ Some q → accepts (f ∷ k) p j ≡ accepts k q j
top-more stack.Round k p q j e h = let z : ⊥ = cc in absurd z
top-more stack.Braces k p q j e h = let z : ⊥ = cc in absurd z
top-more (stack.ItemOf ts) k p q j e h = let z : ⊥ = cc in absurd z
top-more (stack.TailOf ts) k p q j e h = let z : ⊥ = cc in absurd z
top-more (stack.ArgumentOf n w ts) k p q j e h = let z : ⊥ = cc in absurd z
top-more (stack.PrefixOf n o) k p q j e h = let same : o.priority ≡ q = cc in ap (λ b. b || accepts k o.priority j) e ∙ ap (λ r. accepts k r j) same
top-more (stack.InfixOf n o l) k p q j e h = let same : o.priority ≡ q = cc in ap (λ b. b || accepts k o.priority j) e ∙ ap (λ r. accepts k r j) same

module _ (all xs : List DeclaredFrame) (x : DeclaredFrame) (k : List OpenFrame) (p : ℕ) (j : PostOperator) (is : all ≡ xs ++ x ∷ []) (e : map frame_meant all ≡ shapes_up k) where
  shapes : map frame_meant (xs ++ x ∷ []) ≡ shapes_up k
  shapes = ap (map frame_meant) (sym is) ∙ e

  pub last-fits : post_operator_fits (shape_bound (frame_meant x)) p j ≡ true → accepts k p j ≡ true
  last-fits f =
      let r = popped k xs x shapes in
      ap (λ m. accepts m p j) r.is ∙ top-fits r.top r.below p j (ap (λ z. post_operator_fits (shape_bound z) p j) r.shape ∙ f)

  pub last-none : post_operator_fits (shape_bound (frame_meant x)) p j ≡ false → shape_operator (frame_meant x) ≡ None → accepts k p j ≡ false
  last-none f n =
      let r = popped k xs x shapes in
      ap (λ m. accepts m p j) r.is ∙ top-none r.top r.below p j (ap (λ z. post_operator_fits (shape_bound z) p j) r.shape ∙ f) (ap shape_operator r.shape ∙ n)

  pub last-more : (q : ℕ) → post_operator_fits (shape_bound (frame_meant x)) p j ≡ false → shape_operator (frame_meant x) ≡ Some q → (below : List OpenFrame) × (map frame_meant xs ≡ shapes_up below) × (accepts k p j ≡ accepts below q j)
  last-more q f n =
      let r = popped k xs x shapes in
      (r.below, r.rest, ap (λ m. accepts m p j) r.is ∙ top-more r.top r.below p q j (ap (λ z. post_operator_fits (shape_bound z) p j) r.shape ∙ f) (ap shape_operator r.shape ∙ n))

pub none-left : (all : List DeclaredFrame) (k : List OpenFrame) (p : ℕ) (j : PostOperator) → all ≡ [] → map frame_meant all ≡ shapes_up k → post_operator_fits 1200 p j ≡ accepts k p j
none-left all k p j is e = ap (λ m. accepts m p j) (sym (no_frames k (ap (map frame_meant) (sym is) ∙ e)))
