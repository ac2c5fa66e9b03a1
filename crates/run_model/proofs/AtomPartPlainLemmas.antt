-- The answers of goals on parts of atoms have no new variables.
use Rattle.std.proofs.Common.{ℕ, Bool, true, false, ◌&&◌, ◌||◌, ◌++◌, cond, List, [], ◌∷◌, map, filter, Ok, Err, refl, arith}
use Rattle.std.specs.Prelude.{codes}
use Rattle.au_term.specs.Term.{Term, VarTerm, IntTerm, AtomTerm, Compound, term_at}
use Rattle.au_model.specs.Terms.Each.{Each}
use Rattle.au_model.specs.Terms.Forms.{name_of}
use Rattle.au_model.specs.Terms.ErrorTerms.{instantiation_error, type_error}
use Rattle.run_model.specs.Laws.Numbering.{IsTermBelow}
use Rattle.run_model.specs.Goals.BuiltinAnswers.{equal}
use Rattle.run_model.specs.Goals.TermTests.{is_variable, is_atom}
use Rattle.run_model.specs.Goals.AtomGoals.{with_each, with_counts, is_open_atom}
use Rattle.run_model.specs.Goals.AtomParts.{split_solution, splits_for, concat_answer, atom_concat_answer, AtomPart, PartArguments, fits_part, atom_parts, part_term, part_solution, found_parts_answer, sub_atom_answer, part_goals}
use Rattle.run_model.proofs.AnswerBoundLemmas.{row-below}
use Rattle.run_model.proofs.BuiltinRowBoundLemmas.{IsRowBelow, term-below}
use Rattle.run_model.proofs.PlainAnswerLemmas.{IsPlain, IsPlainSolution, equal-plain, each-plain, plain-below}
use Rattle.run_model.proofs.AtomGoalPlainLemmas.{numbers-plain}

-- ---- two parts

splits-plain : (P : Term → Type 0) (a b : Term) → P a → P b → (ps : List (List ℕ × List ℕ)) → Each (IsPlainSolution P) (map (split_solution a b) ps)
splits-plain P a b h k [] = tt
splits-plain P a b h k (p ∷ ps) = (record { few = omega arith; none = refl; kept = refl; taken = refl; sides = ((h, refl), ((k, refl), tt)) }, splits-plain P a b h k ps)

concat-plain : (P : Term → Type 0) (a b c : Term) → P a → P b → P c → IsPlain P (concat_answer a b c)
concat-plain P a b c h k j = by (is_atom a && is_atom b)
  where
    by : (q : Bool) → IsPlain P (cond q (equal c (AtomTerm (name_of a ++ name_of b))) (Ok (map (split_solution a b) (splits_for a b (name_of c)))))
    by true = equal-plain P c (AtomTerm (name_of a ++ name_of b)) j refl
    by false = splits-plain P a b h k (splits_for a b (name_of c))

pub atom_concat-plain : (P : Term → Type 0) (a b c : Term) → P a → P b → P c → IsPlain P (atom_concat_answer a b c)
atom_concat-plain P a b c h k j = by (is_variable c && (is_variable a || is_variable b))
  where
    by : (q : Bool) → IsPlain P (cond q (Err instantiation_error) (with_each is_open_atom (type_error (codes "atom")) (a ∷ b ∷ c ∷ []) (concat_answer a b c)))
    by true = tt
    by false = each-plain P is_open_atom (type_error (codes "atom")) (a ∷ b ∷ c ∷ []) (concat_answer a b c) (concat-plain P a b c h k j)

-- ---- a part and what is around it

-- what holds of four terms holds of the term of them
abbrev pub IsKeptByParts : (Term → Type 0) → Type 0
IsKeptByParts P = (b l e s : Term) → P b → P l → P e → P s → P (part_term b l e s)

-- of each argument
pub record AreArguments (P : Term → Type 0) (asked : PartArguments) : Type 0 where
  pub before : P asked.before
  pub length : P asked.length
  pub after : P asked.after
  pub text : P asked.text

parts-plain : (P : Term → Type 0) → IsKeptByParts P → (asked : PartArguments) → AreArguments P asked → (ps : List AtomPart) → Each (IsPlainSolution P) (map (part_solution asked) ps)
parts-plain P keeps asked h [] = tt
parts-plain P keeps asked h (p ∷ ps) =
    (record { few = omega arith; none = refl; kept = refl; taken = refl; sides = ((keeps asked.before asked.length asked.after asked.text h.before h.length h.after h.text, refl), tt) }, parts-plain P keeps asked h ps)

pub sub_atom-plain : (P : Term → Type 0) → IsKeptByParts P → (t : Term) (asked : PartArguments) → AreArguments P asked → IsPlain P (sub_atom_answer t asked)
sub_atom-plain P keeps (VarTerm n) asked h = tt
sub_atom-plain P keeps (IntTerm z) asked h = tt
sub_atom-plain P keeps (AtomTerm a) asked h =
    each-plain P is_open_atom (type_error (codes "atom")) (asked.text ∷ []) (with_counts (asked.before ∷ asked.length ∷ asked.after ∷ []) (found_parts_answer asked a))
    (numbers-plain P (asked.before ∷ asked.length ∷ asked.after ∷ []) (found_parts_answer asked a) (parts-plain P keeps asked h (filter (fits_part asked) (atom_parts a))))
sub_atom-plain P keeps (Compound f ts) asked h = tt

bound-kept : (next : ℕ) → IsKeptByParts (IsTermBelow next)
bound-kept next b l e s h k j i = omega arith

pub part_goals-below : Each IsRowBelow part_goals
part_goals-below = (
  row-below (codes "atom_concat") 3 (λ ts next. atom_concat_answer (term_at 0 ts) (term_at 1 ts) (term_at 2 ts))
      (λ ts next n h. plain-below next (atom_concat_answer (term_at 0 ts) (term_at 1 ts) (term_at 2 ts)) (atom_concat-plain (IsTermBelow next) (term_at 0 ts) (term_at 1 ts) (term_at 2 ts) (term-below 0 next ts (omega arith) h) (term-below 1 next ts (omega arith) h) (term-below 2 next ts (omega arith) h))),
  (
    row-below (codes "sub_atom") 5 (λ ts next. sub_atom_answer (term_at 0 ts) (record { before = term_at 1 ts; length = term_at 2 ts; after = term_at 3 ts; text = term_at 4 ts }))
        (λ ts next n h. plain-below next (sub_atom_answer (term_at 0 ts) (record { before = term_at 1 ts; length = term_at 2 ts; after = term_at 3 ts; text = term_at 4 ts }))
        (sub_atom-plain (IsTermBelow next) (bound-kept next) (term_at 0 ts) (record { before = term_at 1 ts; length = term_at 2 ts; after = term_at 3 ts; text = term_at 4 ts })
        (record { before = term-below 1 next ts (omega arith) h; length = term-below 2 next ts (omega arith) h; after = term-below 3 next ts (omega arith) h; text = term-below 4 next ts (omega arith) h }))),
    tt,
  ),
)
