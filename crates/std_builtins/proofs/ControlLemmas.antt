-- Rows found by name and number of arguments.
use Rattle.std.proofs.Common.{◌≡◌, ℕ, Bool, true, false, ◌||◌, ◌==◌, cond, List, [], ◌∷◌, Option, Some, refl, sym, ap, ◌∙◌, subst}
use Rattle.std.specs.Prelude.{MatchOption}
use Rattle.std.specs.List.{list_any}
use Rattle.std.specs.Cmp.Lexicographic.{same_text}
use Rattle.std.proofs.lemmas.Bool.{eqb-true}
use Rattle.au_model.specs.Terms.Each.{Each}
use Rattle.au_model.specs.Terms.Forms.{same_name}
use Rattle.std_builtins.specs.Rows.{is_row, kind_in}
use Rattle.au_term.proofs.LogicLemmas.{both}

module _ {K : Type 0} (Is : K → List ℕ → ℕ → Type 0) (name : List ℕ) (arity : ℕ) where
  row_is : (k : K) (row : List ℕ) (count : ℕ) → Is k row count → is_row name arity row count ≡ true → Is k name arity
  row_is k row count h t =
      let two = both (same_name row name) (count == arity) t in
      subst (λ n. Is k n arity) (same_text row name (sym two.0)) (subst (λ n. Is k row n) (eqb-true count arity two.1) h)

  first : (row : List ℕ × ℕ × K) (rows : List (List ℕ × ℕ × K)) (b w : Bool) → is_row name arity row.0 row.1 ≡ b → Is row.2 row.0 row.1 → (list_any (λ (r : List ℕ × ℕ × K). is_row name arity r.0 r.1) rows ≡ w → MatchOption (kind_in name arity rows) (w ≡ false) (λ k. Is k name arity))
      → (b || list_any (λ (r : List ℕ × ℕ × K). is_row name arity r.0 r.1) rows) ≡ w → MatchOption (cond b (Some row.2) (kind_in name arity rows)) (w ≡ false) (λ k. Is k name arity)
  first row rows true w e h more a = row_is row.2 row.0 row.1 h e
  first row rows false w e h more a = more a

  among : (rows : List (List ℕ × ℕ × K)) (w : Bool) → Each (λ (row : List ℕ × ℕ × K). Is row.2 row.0 row.1) rows → list_any (λ (row : List ℕ × ℕ × K). is_row name arity row.0 row.1) rows ≡ w → MatchOption (kind_in name arity rows) (w ≡ false) (λ k. Is k name arity)
  among [] w each a = sym a
  among (row ∷ rows) w each a = first row rows (is_row name arity row.0 row.1) w refl each.0 (among rows w each.1) a

  -- a look-up in a list of rows, and whether one of them has the name and number of arguments
  pub found_kind : (text : List ℕ) (rows : List (List ℕ × ℕ × K)) (o : Option K) (any : Bool) → o ≡ kind_in text arity rows → text ≡ name → Each (λ (row : List ℕ × ℕ × K). Is row.2 row.0 row.1) rows → list_any (λ (row : List ℕ × ℕ × K). is_row name arity row.0 row.1) rows ≡ any
      → MatchOption o (any ≡ false) (λ k. Is k name arity)
  found_kind text rows o any is same each a = subst (λ p. MatchOption p (any ≡ false) (λ k. Is k name arity)) (sym (is ∙ ap (λ n. kind_in n arity rows) same)) (among rows any each a)
