-- The numbers of the nodes on the way up, the outermost first.
use Rattle.std.proofs.Common.{◌≡◌, ℕ, suc, ◌<◌, cond, List, [], ◌∷◌, ◌++◌, length, length-append, map, reverse, refl, sym, ap, ◌∙◌, subst, arith}
use Rattle.au_term.proofs.LogicLemmas.{not_equal, number_same}
use Rattle.tree_model.specs.Floors.{node_of}
use Rattle.tree_model.specs.Levels.{Level, Place, place_at}
use Rattle.task_publishing.specs.KeptScopes.{AreNodesDown}
use Rattle.task_publishing.proofs.TableLemmas.{more_got}
use Rattle.task_publishing.proofs.WholeLemmas.{reverse-cons}

abbrev pub numbers : List Level → List ℕ
numbers levels = reverse (map (λ (p : Place). p.node) (map place_at levels))

numbers_more : (v : Level) (up : List Level) → numbers (v ∷ up) ≡ numbers up ++ v.number ∷ []
numbers_more v up = reverse-cons v.number (map (λ (p : Place). p.node) (map place_at up))

pub nodes_down : (levels : List Level) → AreNodesDown levels (numbers levels)
nodes_down [] = record { many = refl; each = λ n lt. absurd (omega (arith, lt)) }
nodes_down (v ∷ up) =
    let rest = nodes_down up in
    let many = rest.many in
    subst (AreNodesDown (v ∷ up)) (sym (numbers_more v up)) (record {
      many = let l = length-append (numbers up) (v.number ∷ []) in omega (arith, l, many);
      each = more_got (λ n x. x ≡ node_of (v ∷ up) (suc n)) (numbers up) v.number
          (λ n lt. rest.each n lt ∙ older n (omega (arith, lt, many)))
          (newest (length (numbers up)) many);
    })
  where
    older : (n : ℕ) → n < length up → node_of up (suc n) ≡ node_of (v ∷ up) (suc n)
    older n lt = sym (ap (λ b. cond b v.number (node_of up (suc n))) (not_equal (suc n) (suc (length up)) (omega (arith, lt))))

    newest : (n : ℕ) → n ≡ length up → v.number ≡ node_of (v ∷ up) (suc n)
    newest n e =
        sym (ap (λ m. node_of (v ∷ up) (suc m)) e ∙ ap (λ b. cond b v.number (node_of up (suc (length up)))) (number_same (suc (length up))))
