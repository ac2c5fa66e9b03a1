-- Rows found by name and number of arguments.
use Rattle.std.proofs.Common.{◌≡◌, ℕ, Bool, true, false, ◌==◌, cond, List, [], ◌∷◌, Option, Some, None, map, refl, sym, ap₂, ◌∙◌, subst}
use Rattle.std.specs.Prelude.{MatchOption}
use Rattle.std.specs.Cmp.Lexicographic.{same_text}
use Rattle.std.proofs.lemmas.Bool.{eqb-true}
use Rattle.au_model.specs.Terms.Each.{Each}
use Rattle.au_model.specs.Terms.Forms.{same_name}
use Rattle.run_model.specs.Goals.Control.{Construct, construct_of}
use Rattle.run_model.specs.Goals.BuiltinAnswers.{predicate}
use Rattle.run_model.specs.Goals.Builtins.{builtins}
use Rattle.std_builtins.specs.Meanings.{answer_of, arguments_of}
use Rattle.std_builtins.specs.Rows.{Row, is_row, kind_in, IsRowOf}
use Rattle.std_builtins.specs.declared.table.Builtin.{Builtin}
use Rattle.au_term.proofs.LogicLemmas.{both}

-- the definition's row of one of the code's
abbrev pub defined : Row → Construct
defined row = predicate row.0 row.1 (answer_of row.2)

-- what is found in the definition's rows
IsFoundIn : List Construct → List ℕ → ℕ → Option Builtin → Type 0
IsFoundIn rows name arity o = MatchOption o (construct_of rows name arity ≡ None) (λ b. (construct_of rows name arity ≡ Some (predicate name arity (answer_of b))) × (arity ≡ arguments_of b))

among : (name : List ℕ) (arity : ℕ) (rows : List Row) → Each (λ (row : Row). row.1 ≡ arguments_of row.2) rows → IsFoundIn (map defined rows) name arity (kind_in name arity rows)
unfolding IsFoundIn
among name arity [] h = refl
among name arity (row ∷ rows) h = by (is_row name arity row.0 row.1) refl (among name arity rows h.1)
  where
    by : (b : Bool) → is_row name arity row.0 row.1 ≡ b → IsFoundIn (map defined rows) name arity (kind_in name arity rows)
        → MatchOption (cond b (Some row.2) (kind_in name arity rows)) (cond b (Some (defined row)) (construct_of (map defined rows) name arity) ≡ None) (λ k. (cond b (Some (defined row)) (construct_of (map defined rows) name arity) ≡ Some (predicate name arity (answer_of k))) × (arity ≡ arguments_of k))
    by true e k =
        let two = both (same_name row.0 name) (row.1 == arity) e in
        let n : row.0 ≡ name = same_text row.0 name (sym two.0) in
        let a : row.1 ≡ arity = eqb-true row.1 arity two.1 in
        (ap₂ (λ m i. Some (predicate m i (answer_of row.2))) n a, sym a ∙ h.0)
    by false e k = k

as_row : (name : List ℕ) (arity : ℕ) (o : Option Builtin) → IsFoundIn builtins name arity o → MatchOption o (construct_of builtins name arity ≡ None) (IsRowOf name arity)
unfolding IsFoundIn
as_row name arity None h = h
as_row name arity (Some b) h = record { row = h.0; count = h.1 }

-- a look-up in the code's rows, which are those of the definition
pub found_builtin : (name : List ℕ) (arity : ℕ) (rows : List Row) (o : Option Builtin) → o ≡ kind_in name arity rows → map defined rows ≡ builtins → Each (λ (row : Row). row.1 ≡ arguments_of row.2) rows
    → MatchOption o (construct_of builtins name arity ≡ None) (IsRowOf name arity)
found_builtin name arity rows o is same counts =
    subst (λ p. MatchOption p (construct_of builtins name arity ≡ None) (IsRowOf name arity)) (sym is)
    (as_row name arity (kind_in name arity rows) (subst (λ cs. IsFoundIn cs name arity (kind_in name arity rows)) same (among name arity rows counts)))
