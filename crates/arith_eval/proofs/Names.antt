-- Look-ups by name.
use Rattle.std.proofs.Common.{◌≡◌, ℕ, ◌<◌, ◌≤◌, Bool, true, false, cond, List, [], ◌∷◌, length, slice_index_or, Some, option_map, map, refl, sym, ap, ◌∙◌, arith}
use Rattle.std.specs.Prelude.{find}
use Rattle.std.specs.Str.{chars}
use Rattle.au_model.specs.Terms.Forms.{same_name}
use Rattle.arith_eval.specs.Functions.{named_in}

pub mapped-named : {F G : Type 0} (m : F → G) (name : List ℕ) (rows : List (List ℕ × F)) → option_map m (named_in name rows) ≡ named_in name (map (λ (r : List ℕ × F). (r.0, m r.1)) rows)
mapped-named m name [] = refl
mapped-named {F} {G} m name (row ∷ rows) = by (same_name row.0 name) (mapped-named m name rows)
  where
    by : (b : Bool) → option_map m (named_in name rows) ≡ named_in name (map (λ (r : List ℕ × F). (r.0, m r.1)) rows) → option_map m (cond b (Some row.1) (named_in name rows)) ≡ cond b (Some (m row.1)) (named_in name (map (λ (r : List ℕ × F). (r.0, m r.1)) rows))
    by true h = refl
    by false h = h

pub mapped-found : {R G : Type 0} (name_of : R → List ℕ) (m : R → G) (name : List ℕ) (rows : List R) → option_map m (find (λ r. same_name (name_of r) name) rows) ≡ named_in name (map (λ (r : R). (name_of r, m r)) rows)
mapped-found name_of m name [] = refl
mapped-found {R} {G} name_of m name (row ∷ rows) = by (same_name (name_of row) name) (mapped-found name_of m name rows)
  where
    by : (b : Bool) → option_map m (find (λ r. same_name (name_of r) name) rows) ≡ named_in name (map (λ (r : R). (name_of r, m r)) rows) → option_map m (cond b (Some row) (find (λ r. same_name (name_of r) name) rows)) ≡ cond b (Some (m row)) (named_in name (map (λ (r : R). (name_of r, m r)) rows))
    by true h = refl
    by false h = h

-- what a name of one byte is
pub of_one_byte : {X : Type 0} (f : List ℕ → X) (name bytes : List ℕ) (sign : ℕ) → bytes ≡ name → 1 ≤ length bytes → length bytes < 2 → slice_index_or bytes 0 0 ≡ sign → f (chars (sign ∷ [])) ≡ f (chars name)
of_one_byte f name bytes sign same some few is = ap (λ b. f (chars b)) (sym (only bytes some few is) ∙ same)
  where
    only : (b : List ℕ) → 1 ≤ length b → length b < 2 → slice_index_or b 0 0 ≡ sign → b ≡ sign ∷ []
    only [] some few is = absurd (omega arith)
    only (x ∷ []) some few is = ap (λ y. y ∷ []) is
    only (x ∷ y ∷ ys) some few is = absurd (omega arith)
