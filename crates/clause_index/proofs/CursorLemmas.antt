-- Cursors made of the first clauses of classes.
use Rattle.std.proofs.Common.{◌≡◌, ◌||◌, ℕ, List, Option, Some, None, ◌∙◌, sym, subst, ap, ap₂, refl, arith, length}
use Rattle.clause_index.specs.declared.cursor.Cursor.TheVariants.{All, ByKey}
use Rattle.clause_index.specs.declared.key.Class.TheVariants.{Procedure, WithoutKey, WithKey}
use Rattle.clause_index.specs.declared.key.HeadKey.{HeadKey}
use Rattle.clause_index.specs.declared.key.NumberKey.{NumberKey}
use Rattle.proc_index.specs.Places.{merged}
use Rattle.clause_index.specs.Classes.{is_of, procedure_class, key_class, can_match}
use Rattle.clause_index.specs.Numbers.{first_from, numbers}
use Rattle.clause_index.specs.Cursors.{IsNumberBelow, IsCursorOf, chain, numbers_left}
use Rattle.clause_index.proofs.ClassLemmas.{in_procedure, without_key, with_key, any_match, key_match, keys_disjoint}
use Rattle.clause_index.proofs.NumberLemmas.{merged_numbers, same_numbers, first_below}
use Rattle.clause_index.proofs.ChainLemmas.{chain_found}

module _ (heads : List HeadKey) (f n : ℕ) where
  pub all_left : (o : Option ℕ) → o ≡ first_from 0 (is_of (Procedure f n)) heads → numbers_left heads (All o) ≡ numbers (can_match f n None) heads
  all_left o e =
      ap (chain procedure_class heads) e
      ∙ (chain_found procedure_class (Procedure f n) heads heads 0 (in_procedure f n) refl
      ∙ same_numbers 0 (is_of (Procedure f n)) (can_match f n None) heads (any_match f n))

  pub all_there : (o : Option ℕ) → o ≡ first_from 0 (is_of (Procedure f n)) heads → IsCursorOf heads (All o)
  all_there o e = subst (IsNumberBelow (length heads)) (sym e) (first_below 0 (is_of (Procedure f n)) heads (length heads) (omega arith))

  pub keyed_left : (k : NumberKey) (o p : Option ℕ) → o ≡ first_from 0 (is_of (WithoutKey f n)) heads → p ≡ first_from 0 (is_of (WithKey f n k)) heads
      → numbers_left heads (ByKey o p) ≡ numbers (can_match f n (Some k)) heads
  keyed_left k o p e d =
      ap₂ merged
      (ap (chain key_class heads) e ∙ chain_found key_class (WithoutKey f n) heads heads 0 (without_key f n) refl)
      (ap (chain key_class heads) d ∙ chain_found key_class (WithKey f n k) heads heads 0 (with_key f n k) refl)
      ∙ (merged_numbers 0 (is_of (WithoutKey f n)) (is_of (WithKey f n k)) heads (keys_disjoint f n k)
      ∙ same_numbers 0 (λ h. is_of (WithoutKey f n) h || is_of (WithKey f n k) h) (can_match f n (Some k)) heads (key_match f n k))

  pub keyed_there : (k : NumberKey) (o p : Option ℕ) → o ≡ first_from 0 (is_of (WithoutKey f n)) heads → p ≡ first_from 0 (is_of (WithKey f n k)) heads → IsCursorOf heads (ByKey o p)
  keyed_there k o p e d = (
    subst (IsNumberBelow (length heads)) (sym e) (first_below 0 (is_of (WithoutKey f n)) heads (length heads) (omega arith)),
    subst (IsNumberBelow (length heads)) (sym d) (first_below 0 (is_of (WithKey f n k)) heads (length heads) (omega arith)),
  )
