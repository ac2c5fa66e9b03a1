-- Clauses that are passed over have no entry.
use Rattle.std.proofs.Common.{◌≡◌, ℕ, zero, suc, ◌+◌, ◌<◌, ◌≤◌, Bool, true, false, cond, ◌&&◌, ◌||◌, List, [], ◌∷◌, ◌++◌, length, take, drop, Option, Some, None, MatchOption, slice_get, refl, sym, ap, ap₂, ◌∙◌, subst, arith}
use Rattle.std.specs.List.{list_any}
use Rattle.au_term.specs.Term.{Term, argument_count}
use Rattle.au_model.specs.Terms.Forms.{name_of}
use Rattle.au_model.specs.Terms.Unifier.{unifier}
use Rattle.run_model.specs.Programs.Clauses.{Clause, renamed_head, clause_variables, is_defined}
use Rattle.run_model.specs.Goals.Outcomes.{clause_solution, alternatives_of}
use Rattle.run_model.specs.Machine.Items.{Continuation, before, removing, with_next, goals_at}
use Rattle.run_model.specs.Machine.Entries.{Entry, solution_entry, solution_entries, unified}
use Rattle.clause_compile.specs.AtomNumbers.{AreDistinct}
use Rattle.clause_compile.specs.Places.{CodeView}
use Rattle.proc_index.specs.Places.{clauses_at}
use Rattle.clause_index.specs.Classes.{can_match, is_head_of, keys_match}
use Rattle.clause_index.specs.Cursors.{IsCursorOf, numbers_left, TakesLeast}
use Rattle.clause_index.specs.Numbers.{head_numbers_from, numbers, only_of}
use Rattle.clause_index.specs.HeadKeys.{IsHeadKeyOf}
use Rattle.clause_index.specs.declared.cursor.Cursor.{Cursor}
use Rattle.clause_index.specs.declared.key.HeadKey.{HeadKey}
use Rattle.clause_index.specs.declared.key.NumberKey.{NumberKey}
use Rattle.clause_index.proofs.ChainLemmas.{drop_next}
use Rattle.clause_index.proofs.HeadKeyLemmas.{numbers_apart}
use Rattle.cell_store.specs.StoreView.{StoreView, IsValidStore, text_in}
use Rattle.region_split.specs.Texts.{TextView, AreHeadKeys}
use Rattle.region_split.specs.Candidates.{entries_of_clauses, AreCandidates, IsOnlyCandidate, FindsClause, HaveNoEntry, AreToldApart}
use Rattle.region_split.proofs.HeadLemmas.{keys_further, renamed_numbers, defined}

-- an entry of a clause that does not unify
pub no_entry : (h : ℕ) (f : Continuation ℕ) (goal : Term) (next : ℕ) (c : Clause) → unifier ((goal, renamed_head c next) ∷ []) ≡ None → solution_entry h f (clause_solution goal next c) ≡ []
no_entry h f goal next c e = let s = clause_solution goal next c in ap (λ u. unified u (with_next (f.next + s.variables) (before (goals_at h s.goals) (removing s.removes f)))) e

module _ (names : List (List ℕ)) (distinct : AreDistinct names) (goal : Term) (g : HeadKey) (numbered : IsHeadKeyOf names goal g) (next h : ℕ) (f : Continuation ℕ) where
  abbrev can : HeadKey → Bool
  can = can_match g.name g.arity g.first

  abbrev entries : List Clause → List Entry
  entries cs = solution_entries h f (alternatives_of cs goal next)

  abbrev one : Clause → List Entry
  one c = solution_entry h f (clause_solution goal next c)

  apart : (c : Clause) (k : HeadKey) → IsHeadKeyOf names c.head k → can k ≡ false → one c ≡ []
  apart c k i e = no_entry h f goal next c (numbers_apart names distinct goal (renamed_head c next) g k numbered (renamed_numbers names (clause_variables c) next c.head k i) e)

  -- from a clause on
  pub matching_from : (whole cs : List Clause) (hs : List HeadKey) (i : ℕ) → drop i whole ≡ cs → AreHeadKeys names cs hs → entries (clauses_at whole (head_numbers_from i can hs)) ≡ entries cs
  matching_from whole [] [] i e k = refl
  matching_from whole [] (x ∷ hs) i e k = absurd k
  matching_from whole (c ∷ cs) [] i e k = absurd k
  matching_from whole (c ∷ cs) (x ∷ hs) i e k = by_test (can x) refl (matching_from whole cs hs (suc i) (drop_next i whole c cs e) k.1)
    where
      by_test : (b : Bool) → can x ≡ b → entries (clauses_at whole (head_numbers_from (suc i) can hs)) ≡ entries cs
          → entries (clauses_at whole (cond b (i ∷ head_numbers_from (suc i) can hs) (head_numbers_from (suc i) can hs))) ≡ entries (c ∷ cs)
      by_test true t rest = ap (λ ds. entries (take 1 ds ++ clauses_at whole (head_numbers_from (suc i) can hs))) e ∙ ap (λ es. one c ++ es) rest
      by_test false t rest = rest ∙ ap (λ es. es ++ entries cs) (sym (apart c x k.0 t))

-- no clause is left where no head has the name and the number of arguments
none_left : (name arity : ℕ) (key : Option NumberKey) (hs : List HeadKey) (i : ℕ) → list_any (is_head_of name arity) hs ≡ false → head_numbers_from i (can_match name arity key) hs ≡ []
none_left name arity key [] i e = refl
none_left name arity key (h ∷ hs) i e = by_test (is_head_of name arity h) e (λ t. none_left name arity key hs (suc i) t)
  where
    by_test : (b : Bool) → (b || list_any (is_head_of name arity) hs) ≡ false → (list_any (is_head_of name arity) hs ≡ false → head_numbers_from (suc i) (can_match name arity key) hs ≡ [])
        → cond (b && keys_match key h.first) (i ∷ head_numbers_from (suc i) (can_match name arity key) hs) (head_numbers_from (suc i) (can_match name arity key) hs) ≡ []
    by_test true t rest = absurd cc
    by_test false t rest = rest t

-- where one number alone is left
only_is : (ns : List ℕ) (n : ℕ) → only_of ns ≡ Some n → ns ≡ n ∷ []
only_is [] n e = absurd cc
only_is (m ∷ []) n e = cc
only_is (m ∷ k ∷ ns) n e = absurd cc

-- the clauses by the numbers of a goal stand for all
module _ (text : TextView) (st : StoreView) (goal : Term) (g : HeadKey) (next : ℕ) (program : st.program ≡ text.code) (valid : IsValidStore st) (numbered : IsHeadKeyOf (text_in st).names goal g) (heads : AreHeadKeys text.code.names text.clauses text.heads) where
  abbrev ns : List ℕ
  ns = numbers (can_match g.name g.arity g.first) text.heads

  all : AreHeadKeys (text_in st).names text.clauses text.heads
  all = subst (λ (code : CodeView). AreHeadKeys (code.names ++ st.names) text.clauses text.heads) (sym program) (keys_further text.code.names st.names text.clauses text.heads heads)

  all_entries : (h : ℕ) (f : Continuation ℕ) → entries_of_clauses text goal next h f ns ≡ solution_entries h f (alternatives_of text.clauses goal next)
  all_entries h f = matching_from (text_in st).names valid.distinct goal g numbered next h f text.clauses text.clauses text.heads 0 refl all

  none_undefined : is_defined text.clauses (name_of goal) (argument_count goal) ≡ false → ns ≡ []
  none_undefined e =
      none_left g.name g.arity g.first text.heads 0
      (defined (text_in st).names valid.distinct g.name g.arity numbered.name_there text.clauses text.heads all
      ∙ (ap₂ (is_defined text.clauses) numbered.name numbered.arity ∙ e))

  pub are_candidates : (left : Cursor) → numbers_left text.heads left ≡ ns → IsCursorOf text.heads left → AreCandidates text goal next left
  are_candidates left is cursor = record {
    cursor = cursor;
    entries = λ h f. ap (entries_of_clauses text goal next h f) is ∙ all_entries h f;
    undefined = λ e. is ∙ none_undefined e;
  }

-- one clause alone is left
pub only_left : (text : TextView) (goal : Term) (next : ℕ) (left : Cursor) → AreCandidates text goal next left → (n : ℕ) → Some n ≡ only_of (numbers_left text.heads left) → n < length text.clauses → IsOnlyCandidate text goal next n
only_left text goal next left all n e lt =
    let is : numbers_left text.heads left ≡ n ∷ [] = only_is (numbers_left text.heads left) n (sym e) in
    record {
      there = lt;
      entries = λ h f. ap (entries_of_clauses text goal next h f) (sym is) ∙ all.entries h f;
      defined = λ u. let none = ap length (sym is ∙ all.undefined u) in omega (arith, none);
    }

-- an element that is there
pub record IsThere {X : Type 0} (xs : List X) (i : ℕ) : Type 0 where
  pub element : X
  pub is : slice_get xs i ≡ Some element
  pub first : drop i xs ≡ element ∷ drop (i + 1) xs

pub is_there : {X : Type 0} (xs : List X) (i : ℕ) → i < length xs → IsThere xs i
is_there [] i lt = absurd (omega (arith, lt))
is_there (x ∷ xs) zero lt = record { element = x; is = refl; first = refl }
is_there (x ∷ xs) (suc i) lt =
    let rest = is_there xs i (omega (arith, lt)) in
    let k : suc i + 1 ≡ suc (i + 1) = omega arith in
    record { element = rest.element; is = rest.is; first = rest.first ∙ ap (λ n. rest.element ∷ drop n (x ∷ xs)) (sym k) }

-- the entry of the first clause, and then those of the others
pub clause_first : (text : TextView) (goal : Term) (next h : ℕ) (f : Continuation ℕ) (n : ℕ) (ns : List ℕ) (c : Clause) → drop n text.clauses ≡ c ∷ drop (n + 1) text.clauses
    → entries_of_clauses text goal next h f (n ∷ ns) ≡ solution_entry h f (clause_solution goal next c) ++ entries_of_clauses text goal next h f ns
clause_first text goal next h f n ns c e = ap (λ ds. solution_entries h f (alternatives_of (take 1 ds ++ clauses_at text.clauses ns) goal next)) e

-- a clause that is taken off a cursor
pub found : (text : TextView) (goal : Term) (next n : ℕ) (old new : Cursor) → length text.heads ≡ length text.clauses → TakesLeast text.heads old new n → FindsClause text goal next old new n
found text goal next n old new many t = record {
  there = let lt = t.there in omega (arith, many, lt);
  cursor = t.cursor;
  entries = λ h f. ap (entries_of_clauses text goal next h f) t.taken;
  fewer = let l = ap length t.taken in omega (arith, l);
}

pub none_found : (text : TextView) (goal : Term) (next : ℕ) (left : Cursor) → numbers_left text.heads left ≡ [] → HaveNoEntry text goal next left
none_found text goal next left e h f = ap (entries_of_clauses text goal next h f) e

-- clauses were taken off a cursor that have no entry
pub record IsPassing (text : TextView) (goal : Term) (next : ℕ) (old new : Cursor) : Type 0 where
  pub cursor : IsCursorOf text.heads new
  pub entries : (height : ℕ) (f : Continuation ℕ) → entries_of_clauses text goal next height f (numbers_left text.heads old) ≡ entries_of_clauses text goal next height f (numbers_left text.heads new)
  pub fewer : length (numbers_left text.heads new) ≤ length (numbers_left text.heads old)

pub none_passed : (text : TextView) (goal : Term) (next : ℕ) (old : Cursor) → IsCursorOf text.heads old → IsPassing text goal next old old
none_passed text goal next old i = record { cursor = i; entries = λ h f. refl; fewer = omega arith }

module _ (text : TextView) (goal : Term) (next : ℕ) (old mid : Cursor) (passing : IsPassing text goal next old mid) where
  pub none_after : numbers_left text.heads mid ≡ [] → HaveNoEntry text goal next old
  none_after e h f = passing.entries h f ∙ none_found text goal next mid e h f

  pub none_further : HaveNoEntry text goal next mid → HaveNoEntry text goal next old
  none_further e h f = passing.entries h f ∙ e h f

  pub found_further : (new : Cursor) (n : ℕ) → FindsClause text goal next mid new n → FindsClause text goal next old new n
  found_further new n here =
      record { there = here.there; cursor = here.cursor; entries = λ h f. passing.entries h f ∙ here.entries h f; fewer = let a = here.fewer in let b = passing.fewer in omega (arith, a, b) }

  pub either_further : (result : Option ℕ) (new : Cursor) → MatchOption result (HaveNoEntry text goal next mid) (FindsClause text goal next mid new) → MatchOption result (HaveNoEntry text goal next old) (FindsClause text goal next old new)
  either_further None new h = none_further h
  either_further (Some n) new h = found_further new n h

  module _ (new : Cursor) (n : ℕ) (many : length text.heads ≡ length text.clauses) (t : TakesLeast text.heads mid new n) where
    pub found_after : FindsClause text goal next old new n
    found_after = found_further new n (found text goal next n mid new many t)

    pub passed_on : AreToldApart text goal n → IsPassing text goal next old new
    passed_on apart =
        let here = found text goal next n mid new many t in
        let there = is_there text.clauses n here.there in
        record {
          cursor = here.cursor;
          entries = λ h f.
              passing.entries h f
              ∙ (here.entries h f
              ∙ (clause_first text goal next h f n (numbers_left text.heads new) there.element there.first
              ∙ ap (λ es. es ++ entries_of_clauses text goal next h f (numbers_left text.heads new)) (no_entry h f goal next there.element (apart next there.element there.is))));
          fewer = let a = here.fewer in let b = passing.fewer in omega (arith, a, b);
        }
