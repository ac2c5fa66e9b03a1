-- What calling a goal leaves.
use Rattle.std.proofs.Common.{◌≡◌, ℕ, ◌≤◌, false, List, [], ◌∷◌, ◌++◌, append_assoc, append-nil, length, length-append, slice_get, Option, Some, None, Result, Ok, Err, IfOk, refl, sym, ap, ap₂, ◌∙◌, subst, arith}
use Rattle.au_term.specs.Term.{argument_count}
use Rattle.au_model.specs.Terms.Forms.{name_of}
use Rattle.au_model.specs.Terms.Named.{NamedTerm}
use Rattle.run_model.specs.Programs.Clauses.{Clause, is_defined}
use Rattle.run_model.specs.Goals.Outcomes.{clause_solution}
use Rattle.run_model.specs.Machine.Entries.{Entry, solution_entry}
use Rattle.clause_index.specs.Cursors.{numbers_left}
use Rattle.clause_index.specs.declared.cursor.Cursor.{Cursor}
use Rattle.binding_array.specs.declared.cell.BindingCell.{BindingCell}
use Rattle.cell_store.specs.StoreView.{StoreView, text_in, meaning, with_mark}
use Rattle.region_split.specs.ChoicePoints.{Standing, alternative_entries, continuation_at, height_of_cut}
use Rattle.region_split.specs.Candidates.{entries_of_clauses, AreCandidates, IsOnlyCandidate, FindsClause, HaveNoEntry}
use Rattle.region_split.specs.Regions.{RegionView, left_here, region_setting, entries_of, heights_of, continuation_here, IsPositionIn}
use Rattle.region_split.specs.StackOperations.{AddsChoice, trial_entries}
use Rattle.region_split.specs.ClauseTrials.{TriesClause, KeepsChoices, Calls, called_entries, IsOptionalPosition}
use Rattle.region_split.specs.declared.choice.Alternatives.TheVariants.{Clauses}
use Rattle.region_split.specs.declared.choice.Trial.{Trial}
use Rattle.region_split.specs.declared.frame.Position.{Position}
use Rattle.region_split.proofs.CandidateLemmas.{is_there, clause_first}
use Rattle.region_split.proofs.ScopeLemmas.{scoped_more}

-- a position where more may be cut
pub position_over : (r : RegionView) (cut many : ℕ) (reached : Option Position) → cut ≤ many → IsOptionalPosition r cut reached → IsOptionalPosition r many reached
position_over r cut many None le i = tt
position_over r cut many (Some p) le i = record { frame = i.frame; scoped = scoped_more (text_in r.store) r.store.now.next cut many (left_here r p) le i.scoped; marked = i.marked }

module _ (r : RegionView) (goal : BindingCell) (after : Position) (whole left : Cursor) (all : AreCandidates r.text (meaning r.store goal) r.store.now.next whole) where
  abbrev left_entries : List NamedTerm → List ℕ → List Entry
  left_entries named ns = entries_of_clauses r.text (meaning r.store goal) r.store.now.next (length (entries_of named r)) (continuation_here named r after) ns

  called : (named : List NamedTerm) → called_entries named r goal after ≡ left_entries named (numbers_left r.text.heads whole) ++ entries_of named r
  called named = ap (λ es. es ++ entries_of named r) (sym (all.entries (length (entries_of named r)) (continuation_here named r after)))

  -- no clause may match
  pub none_called : HaveNoEntry r.text (meaning r.store goal) r.store.now.next whole → Calls r r goal after None
  none_called none = record {
    entries = λ named. called named ∙ ap (λ es. es ++ entries_of named r) (none (length (entries_of named r)) (continuation_here named r after));
    position = tt;
    text = refl;
    floor = refl;
    names = refl;
    undefined = λ e. (refl, refl);
  }

  module _ (n : ℕ) (finds : FindsClause r.text (meaning r.store goal) r.store.now.next whole left n) where
    abbrev trial : Trial
    trial = record { goal = goal; clause = n; after = after }

    abbrev clause_entries : List NamedTerm → Clause → List Entry
    clause_entries named c = solution_entry (length (entries_of named r)) (continuation_here named r after) (clause_solution (meaning r.store goal) r.store.now.next c)

    -- its procedure has that clause
    is_found : is_defined r.text.clauses (name_of (meaning r.store goal)) (argument_count (meaning r.store goal)) ≡ false → ⊥
    is_found e = let none = ap length (all.undefined e) in let fewer = finds.fewer in omega (arith, none, fewer)

    some_same : (x y : Clause) → Some x ≡ Some y → x ≡ y
    some_same x y e = cc

    first_called : (named : List NamedTerm) (c : Clause) → slice_get r.text.clauses n ≡ Some c → called_entries named r goal after ≡ (clause_entries named c ++ left_entries named (numbers_left r.text.heads left)) ++ entries_of named r
    first_called named c is =
        let there = is_there r.text.clauses n finds.there in
        let same : there.element ≡ c = some_same there.element c (sym there.is ∙ is) in
        called named
        ∙ ap (λ es. es ++ entries_of named r) (finds.entries (length (entries_of named r)) (continuation_here named r after)
        ∙ (clause_first r.text (meaning r.store goal) r.store.now.next (length (entries_of named r)) (continuation_here named r after) n (numbers_left r.text.heads left) there.element there.first
        ∙ ap (λ x. clause_entries named x ++ left_entries named (numbers_left r.text.heads left)) same))

    -- one clause alone may match
    pub last_called : (new : RegionView) (cut : ℕ) (reached : Option Position) → HaveNoEntry r.text (meaning r.store goal) r.store.now.next left → cut ≡ length r.choices → ((named : List NamedTerm) → height_of_cut (heights_of named r) cut ≡ length (entries_of named r))
        → TriesClause r new trial cut reached → KeepsChoices r new → Calls r new goal after reached
    last_called new cut reached none count height tried kept = record {
      entries = λ named.
          first_called named tried.clause tried.is
          ∙ ap₂ (λ es fs. es ++ fs)
          (ap (λ es. clause_entries named tried.clause ++ es) (none (length (entries_of named r)) (continuation_here named r after))
          ∙ (append-nil (clause_entries named tried.clause)
          ∙ (ap (λ h. solution_entry h (continuation_here named r after) (clause_solution (meaning r.store goal) r.store.now.next tried.clause)) (sym (height named)) ∙ tried.entries named)))
          (ap (λ (st : Standing). st.entries) (sym (kept.stands named)));
      position = subst (λ i. IsOptionalPosition new i reached) (count ∙ sym (ap (λ (x : RegionView). length x.choices) kept.others)) tried.position;
      text = ap (λ (x : RegionView). x.text) kept.others;
      floor = ap (λ (x : RegionView). x.store.floor) kept.others;
      names = ap (λ (x : RegionView). (text_in x.store).names) kept.others;
      undefined = λ e. absurd (is_found e);
    }

    -- a choice point for the others
    module _ (next : ℕ) (rest : Cursor) (others : FindsClause r.text (meaning r.store goal) r.store.now.next left rest next) (r1 r2 : RegionView) (a : AddsChoice r r1 (Clauses goal next rest) after) (there : IsPositionIn r after) (cut : ℕ) (count : cut ≡ length r.choices) (kept : KeepsChoices r1 r2) (reached : Option Position) (tried : TriesClause r1 r2 trial cut reached) where
      first_entries : (named : List NamedTerm) (c : Clause) → trial_entries named r1 trial cut c ≡ clause_entries named c
      first_entries named c =
          let height : height_of_cut (heights_of named r1) cut ≡ length (entries_of named r) = ap (height_of_cut (heights_of named r1)) count ∙ a.heights named in
          let follows : continuation_here named r1 after ≡ continuation_here named r after = let same = a.keeps.same named after there.frame there in cc in
          let store : r1.store ≡ with_mark r.store = ap (λ (x : RegionView). x.store) a.others in
          ap₂ (λ h f. solution_entry h f (clause_solution (meaning r1.store goal) r1.store.now.next c)) height follows
          ∙ ap (λ (st : StoreView). solution_entry (length (entries_of named r)) (continuation_here named r after) (clause_solution (meaning st goal) st.now.next c)) store

      other_entries : (named : List NamedTerm) → entries_of named r1 ≡ left_entries named (next ∷ numbers_left r.text.heads rest) ++ entries_of named r
      other_entries named =
          a.entries named
          ∙ ap₂ (λ alternatives p. alternative_entries (region_setting named r) r.store.now (length (entries_of named r)) (continuation_at (region_setting named r) (heights_of named r) r.store.now p) alternatives ++ entries_of named r) a.is.0 a.is.1

      same_choices : r2.choices ≡ r.choices ++ a.choice ∷ []
      same_choices = ap (λ (x : RegionView). x.choices) kept.others ∙ ap (λ (x : RegionView). x.choices) a.others

      in_text : slice_get r.text.clauses n ≡ Some tried.clause
      in_text = ap (λ (x : RegionView). slice_get x.text.clauses n) (sym a.others) ∙ tried.is

      pub others_left : Calls r r2 goal after reached
      others_left = record {
        entries = λ named.
            let own = clause_entries named tried.clause in
            first_called named tried.clause in_text
            ∙ (append_assoc own (left_entries named (numbers_left r.text.heads left)) (entries_of named r)
            ∙ ap₂ (λ es fs. es ++ fs) (sym (first_entries named tried.clause) ∙ tried.entries named)
            (ap (λ es. es ++ entries_of named r) (others.entries (length (entries_of named r)) (continuation_here named r after)) ∙ sym (ap (λ (st : Standing). st.entries) (kept.stands named) ∙ other_entries named)));
        position = position_over r2 cut (length r2.choices) reached (let l = ap length same_choices in let m = length-append r.choices (a.choice ∷ []) in omega (arith, l, m, count)) tried.position;
        text = ap (λ (x : RegionView). x.text) kept.others ∙ ap (λ (x : RegionView). x.text) a.others;
        floor = ap (λ (x : RegionView). x.store.floor) kept.others ∙ ap (λ (x : RegionView). x.store.floor) a.others;
        names = ap (λ (x : RegionView). (text_in x.store).names) kept.others ∙ ap (λ (x : RegionView). (text_in x.store).names) a.others;
        undefined = λ e. absurd (is_found e);
      }

same_clause : (x y : Clause) → ◌≡◌ {A = Option Clause} (Some x) (Some y) → x ≡ y
same_clause x y e = cc

-- one clause stands for all
pub only_called : (r new : RegionView) (goal : BindingCell) (after : Position) (n cut : ℕ) (reached : Option Position) → IsOnlyCandidate r.text (meaning r.store goal) r.store.now.next n
    → cut ≡ length r.choices → ((named : List NamedTerm) → height_of_cut (heights_of named r) cut ≡ length (entries_of named r))
    → TriesClause r new (record { goal = goal; clause = n; after = after }) cut reached → KeepsChoices r new → Calls r new goal after reached
only_called r new goal after n cut reached only count height tried kept = record {
  entries = λ named.
      let h = length (entries_of named r) in
      let f = continuation_here named r after in
      let there = is_there r.text.clauses n only.there in
      let same : there.element ≡ tried.clause = same_clause there.element tried.clause (sym there.is ∙ tried.is) in
      ap (λ es. es ++ entries_of named r)
      (sym (only.entries h f)
      ∙ (clause_first r.text (meaning r.store goal) r.store.now.next h f n [] there.element there.first
      ∙ (append-nil (solution_entry h f (clause_solution (meaning r.store goal) r.store.now.next there.element))
      ∙ ap (λ c. solution_entry h f (clause_solution (meaning r.store goal) r.store.now.next c)) same)))
      ∙ ap₂ (λ es fs. es ++ fs)
      (ap (λ k. solution_entry k f (clause_solution (meaning r.store goal) r.store.now.next tried.clause)) (sym (height named)) ∙ tried.entries named)
      (ap (λ (st : Standing). st.entries) (sym (kept.stands named)));
  position = subst (λ i. IsOptionalPosition new i reached) (count ∙ sym (ap (λ (x : RegionView). length x.choices) kept.others)) tried.position;
  text = ap (λ (x : RegionView). x.text) kept.others;
  floor = ap (λ (x : RegionView). x.store.floor) kept.others;
  names = ap (λ (x : RegionView). (text_in x.store).names) kept.others;
  undefined = λ e. absurd (only.defined e);
}

pub if_ok_then : {X E : Type 0} (P Q : X → Type 0) (r : Result X E) → ((x : X) → P x → Q x) → IfOk r P → IfOk r Q
if_ok_then P Q (Ok x) f p = f x p
if_ok_then P Q (Err e) f p = tt
