-- Atoms put together and taken apart (ISO/IEC 13211-1, 8.16.2 and 8.16.3). Only the parts that fit the arguments are
-- solutions.
use Rattle.std.specs.Prelude.{ℕ, suc, ◌-◌, ◌==◌, Bool, true, ◌&&◌, ◌||◌, pos, if◌then◌else◌, List, [], ◌∷◌, ◌++◌, map, filter, flat_map, take, drop, length, codes, Ok, Err, None}
use Rattle.std.specs.List.{range_with_len}
use Rattle.au_term.specs.Term.{Term, VarTerm, IntTerm, AtomTerm, Compound, more, end, term_at}
use Rattle.au_model.specs.Terms.Forms.{same_name, name_of}
use Rattle.au_model.specs.Terms.ErrorTerms.{instantiation_error, type_error}
use Rattle.run_model.specs.Goals.Control.{Construct}
use Rattle.run_model.specs.Goals.Outcomes.{Solution}
use Rattle.run_model.specs.Goals.BuiltinAnswers.{Answer, equal, predicate}
use Rattle.run_model.specs.Goals.TermTests.{is_variable, is_atom}
use Rattle.run_model.specs.Goals.AtomGoals.{with_each, with_counts, is_open_atom}

-- an argument is a variable, or this atom
abbrev pub admits_atom : Term → List ℕ → Bool
admits_atom (AtomTerm a) cs = same_name a cs
admits_atom t cs = true

-- an argument is a variable, or this number
abbrev pub admits_count : Term → ℕ → Bool
admits_count (IntTerm (pos n)) k = n == k
admits_count t k = true

abbrev pub solution_with : List (Term × Term) → Solution
solution_with equations = record { equations = equations; goals = []; removes = None; variables = 0 }

-- ---- two parts

-- the first so many characters, and the others
abbrev pub split_at : List ℕ → ℕ → List ℕ × List ℕ
split_at cs k = (take k cs, drop k cs)

abbrev pub fits_split : Term → Term → List ℕ × List ℕ → Bool
fits_split a b parts = admits_atom a parts.0 && admits_atom b parts.1

abbrev pub split_solution : Term → Term → List ℕ × List ℕ → Solution
split_solution a b parts = solution_with ((a, AtomTerm parts.0) ∷ (b, AtomTerm parts.1) ∷ [])

-- by growing first part
abbrev pub splits_for : Term → Term → List ℕ → List (List ℕ × List ℕ)
splits_for a b cs = filter (fits_split a b) (map (split_at cs) (range_with_len 0 (suc (length cs))))

-- the whole of two atoms, or the parts of an atom C
abbrev pub concat_answer : Term → Term → Term → Answer
concat_answer a b c =
    if is_atom a && is_atom b then equal c (AtomTerm (name_of a ++ name_of b))
    else Ok (map (split_solution a b) (splits_for a b (name_of c)))

-- atom_concat(A, B, C) (8.16.2)
abbrev pub atom_concat_answer : Term → Term → Term → Answer
atom_concat_answer a b c =
    if is_variable c && (is_variable a || is_variable b) then Err instantiation_error
    else with_each is_open_atom (type_error (codes "atom")) (a ∷ b ∷ c ∷ []) (concat_answer a b c)

-- ---- a part and what is around it

-- how many characters are before a part, in it and after it, and the part
pub record AtomPart : Type 0 where
  pub before : ℕ
  pub length : ℕ
  pub after : ℕ
  pub text : List ℕ

abbrev pub part_at : List ℕ → ℕ → ℕ → AtomPart
part_at cs k n = record { before = k; length = n; after = length cs - k - n; text = take n (drop k cs) }

-- by growing length
abbrev pub parts_from : List ℕ → ℕ → List AtomPart
parts_from cs k = map (part_at cs k) (range_with_len 0 (suc (length cs - k)))

-- by what is before them
abbrev pub atom_parts : List ℕ → List AtomPart
atom_parts cs = flat_map (parts_from cs) (range_with_len 0 (suc (length cs)))

-- B, L, E and S of sub_atom(A, B, L, E, S)
pub record PartArguments : Type 0 where
  pub before : Term
  pub length : Term
  pub after : Term
  pub text : Term

abbrev pub fits_part : PartArguments → AtomPart → Bool
fits_part asked part = admits_count asked.before part.before && (admits_count asked.length part.length && (admits_count asked.after part.after && admits_atom asked.text part.text))

-- the arguments as one term
abbrev pub part_term : Term → Term → Term → Term → Term
part_term b l e s = Compound (codes "part") (more b (more l (more e (more s end))))

abbrev pub count_term : ℕ → Term
count_term n = IntTerm (pos n)

abbrev pub part_solution : PartArguments → AtomPart → Solution
part_solution asked part =
    solution_with ((part_term asked.before asked.length asked.after asked.text, part_term (count_term part.before) (count_term part.length) (count_term part.after) (AtomTerm part.text)) ∷ [])

abbrev pub found_parts_answer : PartArguments → List ℕ → Answer
found_parts_answer asked cs = Ok (map (part_solution asked) (filter (fits_part asked) (atom_parts cs)))

-- sub_atom(A, B, L, E, S) (8.16.3)
abbrev pub sub_atom_answer : Term → PartArguments → Answer
sub_atom_answer (VarTerm n) asked = Err instantiation_error
sub_atom_answer (AtomTerm a) asked =
    with_each is_open_atom (type_error (codes "atom")) (asked.text ∷ []) (with_counts (asked.before ∷ asked.length ∷ asked.after ∷ []) (found_parts_answer asked a))
sub_atom_answer t asked = Err (type_error (codes "atom") t)

abbrev pub part_goals : List Construct
part_goals =
    predicate (codes "atom_concat") 3 (λ ts next. atom_concat_answer (term_at 0 ts) (term_at 1 ts) (term_at 2 ts))
    ∷ predicate (codes "sub_atom") 5 (λ ts next. sub_atom_answer (term_at 0 ts) (record { before = term_at 1 ts; length = term_at 2 ts; after = term_at 3 ts; text = term_at 4 ts }))
    ∷ []
