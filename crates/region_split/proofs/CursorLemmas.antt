-- A clause that is taken off a choice point.
use Rattle.std.proofs.Common.{◌≡◌, ℕ, zero, suc, ◌+◌, ◌-◌, ◌<◌, ◌≤◌, Bool, true, List, [], ◌∷◌, ◌++◌, append_assoc, append-nil, length, length-append, slice_set, take, refl, sym, ap, ap₂, ◌∙◌, subst, arith}
use Rattle.std.proofs.Math.Seq.{take-length}
use Rattle.au_model.specs.Terms.Named.{NamedTerm}
use Rattle.run_model.specs.Goals.Outcomes.{clause_solution}
use Rattle.run_model.specs.Machine.Items.{Continuation}
use Rattle.run_model.specs.Machine.Entries.{Entry, solution_entry}
use Rattle.clause_index.specs.Cursors.{numbers_left}
use Rattle.clause_index.specs.declared.cursor.Cursor.{Cursor}
use Rattle.clause_index.specs.declared.key.HeadKey.{HeadKey}
use Rattle.binding_array.specs.declared.cell.BindingCell.{BindingCell}
use Rattle.cell_store.specs.StoreView.{Moment, StoreView, text_at, meaning, taken_back, with_marks}
use Rattle.region_split.specs.Texts.{TextView}
use Rattle.region_split.specs.Candidates.{entries_of_clauses, FindsClause, HaveNoEntry}
use Rattle.region_split.specs.Solutions.{SolutionView, solution_at}
use Rattle.region_split.specs.Frames.{AreLeftScoped}
use Rattle.region_split.specs.ChoicePoints.{Standing, standing_over, nothing_standing, with_entries_on_top, choice_entries, alternative_entries, continuation_at, height_of_cut, AreAlternativesAt, AreChoicesOver, IsChoiceOver, frames_kept, takes_left, all_takes_left, HaveSolution}
use Rattle.region_split.specs.QueryEnds.{StandsForNoEnd, AreEndsOldest}
use Rattle.region_split.specs.Regions.{RegionView, left_here, region_setting, standing, entries_of, heights_of, continuation_here, IsConsistentRegion, IsPositionOver}
use Rattle.region_split.specs.StackOperations.{TakesNewest, TakesClause, TakesSolution}
use Rattle.region_split.specs.declared.choice.Alternatives.{Alternatives}
use Rattle.region_split.specs.declared.choice.Alternatives.TheVariants.{Clauses, Solutions}
use Rattle.region_split.specs.declared.choice.ChoicePoint.{ChoicePoint}
use Rattle.region_split.specs.declared.choice.Trial.{Trial}
use Rattle.region_split.specs.declared.frame.Frame.{Frame}
use Rattle.region_split.proofs.CandidateLemmas.{IsThere, is_there, clause_first}
use Rattle.region_split.proofs.MarkLemmas.{all_marked, more_kinds, marked-append}
use Rattle.region_split.proofs.OldestEndLemmas.{oldest_changed}
use Rattle.region_split.proofs.StandingLemmas.{standing-append, IsOver, is_over, IsMeasured, measured, own_height, heights_kept, choices-append, kept-append}
use Rattle.region_split.proofs.RegionLemmas.{nothing_measured, both_marked, same_entry, pairs, newest, last_kept, lowered, lowered_region, lowered_entries, whole_height}

-- an element in another one's place
pub replaced : {X : Type 0} (xs ys : List X) (x y : X) (i : ℕ) → i ≡ length xs → slice_set (xs ++ x ∷ ys) i y ≡ xs ++ y ∷ ys
replaced [] ys x y zero e = refl
replaced [] ys x y (suc i) e = absurd (omega (arith, e))
replaced (z ∷ xs) ys x y zero e = absurd (omega (arith, e))
replaced (z ∷ xs) ys x y (suc i) e = ap (λ zs. z ∷ zs) (replaced xs ys x y i (omega (arith, e)))

-- lists with the same end
pub last_apart : {X : Type 0} (xs ys : List X) (x y : X) → xs ++ x ∷ [] ≡ ys ++ y ∷ [] → (xs ≡ ys) × (x ≡ y)
last_apart [] [] x y e = let same : x ≡ y = cc in (refl, same)
last_apart [] (z ∷ ys) x y e = let a = ap length e in let b = length-append ys (y ∷ []) in absurd (omega (arith, a, b))
last_apart (z ∷ xs) [] x y e = let a = ap length e in let b = length-append xs (x ∷ []) in absurd (omega (arith, a, b))
last_apart (z ∷ xs) (w ∷ ys) x y e =
    let first : z ≡ w = cc in
    let others : xs ++ x ∷ [] ≡ ys ++ y ∷ [] = cc in
    let rest = last_apart xs ys x y others in
    (ap₂ (λ v vs. v ∷ vs) first rest.0, rest.1)

-- how often choice points can be taken
pub takes-append : (heads : List HeadKey) (cs ds : List ChoicePoint) → all_takes_left heads (cs ++ ds) ≡ all_takes_left heads cs + all_takes_left heads ds
takes-append heads [] ds = omega arith
takes-append heads (c ∷ cs) ds = let rest = takes-append heads cs ds in omega (arith, rest)

-- the newest choice point, from which the first of its alternatives is taken
module _ (r : RegionView) (k : IsConsistentRegion r) (cs : List ChoicePoint) (c : ChoicePoint) (ms : List Moment) (m : Moment) (choices : r.choices ≡ cs ++ c ∷ []) (marks : r.store.marks ≡ ms ++ m ∷ []) where
  -- as it was when the choice point came
  abbrev undone : RegionView
  undone = record r { store = record r.store { now = m; marks = ms ++ m ∷ [] } }

  pub undone_region : IsConsistentRegion undone
  undone_region = record { program = k.program; choices = subst (AreChoicesOver (region_setting [] r) 0 0 r.choices) marks k.choices; frames = k.frames; older = k.older; marked = k.marked; ends = k.ends }

  top : IsChoiceOver (region_setting [] r) (length cs) (frames_kept 0 cs) c m
  top = newest r k cs c ms m m choices marks

  pub values_there : AreAlternativesAt (region_setting [] r) m c.alternatives
  values_there = top.values

  before_last : length r.choices - 1 ≡ length cs
  before_last = let a = ap length choices in let b = length-append cs (c ∷ []) in omega (arith, a, b)

  taken_before : all_takes_left r.text.heads r.choices ≡ all_takes_left r.text.heads cs + (suc (takes_left r.text.heads c.alternatives) + 0)
  taken_before = ap (all_takes_left r.text.heads) choices ∙ takes-append r.text.heads cs (c ∷ [])

  frame_there : c.after.frame ≤ length r.frames
  frame_there = let o = top.own in let e = last_kept r k cs c ms m m choices marks in let f = k.frames in omega (arith, o, e, f)

  scoped_there : AreLeftScoped (text_at r.store m) m.next (length r.choices - 1) (left_here r c.after)
  scoped_there = subst (λ i. AreLeftScoped (text_at r.store m) m.next i (left_here r c.after)) (sym before_last) top.scoped

  -- others are left
  module _ (d : Alternatives) (values : AreAlternativesAt (region_setting [] r) m d) where
    abbrev changed : ChoicePoint
    changed = record c { alternatives = d }

    abbrev pub moved : RegionView
    moved = record undone { choices = cs ++ changed ∷ [] }

    many : length cs ≡ length ms
    many = pairs r k cs c ms m m choices marks

    pub moved_region : StandsForNoEnd c → StandsForNoEnd changed → IsConsistentRegion moved
    moved_region was is = record {
      program = k.program;
      older = k.older;
      choices = choices-append (region_setting [] r) 0 0 (length cs) (frames_kept 0 cs) cs ms changed m (lowered_region r k cs c ms m m choices marks).choices (omega arith) refl (record { own = top.own; older = top.older; scoped = top.scoped; values = values });
      ends = oldest_changed cs [] c d ((λ e. absurd (was e)), (λ e. absurd (is e))) (subst AreEndsOldest choices k.ends);
      marked = marked-append r.text.bodies r.frames [] cs changed (both_marked r k cs c ms m m choices marks).0 (both_marked r k cs c ms m m choices marks).1;
      frames = let e = kept-append 0 cs changed in let f = last_kept r k cs c ms m m choices marks in let g = k.frames in omega (arith, e, f, g);
    }

    abbrev below : List NamedTerm → Standing
    below named = standing_over (region_setting named r) nothing_standing cs ms

    on_top : (named : List NamedTerm) → standing named moved ≡ with_entries_on_top (choice_entries (region_setting named r) (below named) changed m) (below named)
    on_top named = standing-append (region_setting named r) nothing_standing cs (changed ∷ []) ms (m ∷ []) many

    over : (named : List NamedTerm) → IsOver (below named) (standing named moved)
    over named = subst (IsOver (below named)) (sym (on_top named)) (is_over (region_setting named r) (below named) (changed ∷ []) (m ∷ []))

    below_measured : (named : List NamedTerm) → IsMeasured (below named) (length cs)
    below_measured named = measured (region_setting named r) nothing_standing cs ms 0 (length cs) many (omega arith) nothing_measured

    height : (named : List NamedTerm) → length (below named).entries ≡ height_of_cut (heights_of named moved) (length r.choices - 1)
    height named = sym (ap (height_of_cut (heights_of named moved)) before_last ∙ own_height (below named) (standing named moved) (length cs) (below_measured named) (over named))

    following : (named : List NamedTerm) → continuation_at (region_setting named r) (below named).heights m c.after ≡ continuation_here named moved c.after
    following named = same_entry named moved (below named).heights (heights_of named moved) (length cs) m.next c.after (λ i le. sym (heights_kept (below named) (standing named moved) (length cs) i (below_measured named) (over named) le)) top.scoped

    pub moved_position : IsPositionOver moved (length r.choices - 1) c.after
    moved_position = record { frame = frame_there; scoped = scoped_there; marked = all_marked cs (cs ++ changed ∷ []) (left_here r c.after) (more_kinds cs (changed ∷ [])) (both_marked r k cs c ms m m choices marks).1 }

    pub moved_many : length r.choices - 1 ≤ length moved.choices
    moved_many = let e = before_last in let l = length-append cs (changed ∷ []) in omega (arith, e, l)

    pub moved_fewer : takes_left r.text.heads d < takes_left r.text.heads c.alternatives → all_takes_left r.text.heads moved.choices < all_takes_left r.text.heads r.choices
    moved_fewer lt = let e = taken_before in let l = takes-append r.text.heads cs (changed ∷ []) in omega (arith, e, l, lt)

    pub moved_entries : (named : List NamedTerm) (first : ℕ → Continuation ℕ → List Entry) → ((h : ℕ) (f : Continuation ℕ) → alternative_entries (region_setting named r) m h f c.alternatives ≡ first h f ++ alternative_entries (region_setting named r) m h f d)
        → entries_of named r ≡ first (height_of_cut (heights_of named moved) (length r.choices - 1)) (continuation_here named moved c.after) ++ entries_of named moved
    moved_entries named first split =
        let s = region_setting named r in
        let h = length (below named).entries in
        let f = continuation_at s (below named).heights m c.after in
        lowered_entries r k cs c ms m m choices marks named
        ∙ (ap (λ es. es ++ (below named).entries) (split h f)
        ∙ (append_assoc (first h f) (choice_entries s (below named) changed m) (below named).entries
        ∙ ap₂ (λ es fs. es ++ fs) (ap₂ first (height named) (following named)) (ap (λ (st : Standing). st.entries) (sym (on_top named)))))

  -- none is left
  abbrev pub gone : RegionView
  gone = lowered r k cs c ms m m choices marks

  pub gone_position : IsPositionOver gone (length r.choices - 1) c.after
  gone_position = record { frame = frame_there; scoped = scoped_there; marked = (both_marked r k cs c ms m m choices marks).1 }

  pub gone_many : length r.choices - 1 ≤ length gone.choices
  gone_many = let e = before_last in omega (arith, e)

  pub gone_fewer : all_takes_left r.text.heads gone.choices < all_takes_left r.text.heads r.choices
  gone_fewer = let e = taken_before in omega (arith, e)

  pub gone_entries : (named : List NamedTerm) (first : ℕ → Continuation ℕ → List Entry) → ((h : ℕ) (f : Continuation ℕ) → alternative_entries (region_setting named r) m h f c.alternatives ≡ first h f)
      → entries_of named r ≡ first (height_of_cut (heights_of named gone) (length r.choices - 1)) (continuation_here named gone c.after) ++ entries_of named gone
  gone_entries named first is =
      let h = length (entries_of named gone) in
      let f = continuation_here named gone c.after in
      lowered_entries r k cs c ms m m choices marks named
      ∙ ap (λ es. es ++ entries_of named gone) (is h f ∙ ap (λ n. first n f) (sym (ap (height_of_cut (heights_of named gone)) before_last ∙ whole_height gone (lowered_region r k cs c ms m m choices marks) named)))

  same_parts : (t1 t2 : TextView) (s1 s2 : StoreView) (f1 f2 : List Frame) (c1 c2 : List ChoicePoint) → t1 ≡ t2 → s1 ≡ s2 → f1 ≡ f2 → c1 ≡ c2 → (let x : RegionView = record { text = t1; store = s1; frames = f1; choices = c1 } in x) ≡ record { text = t2; store = s2; frames = f2; choices = c2 }
  same_parts t1 t2 s1 s2 f1 f2 c1 c2 e f g h = cc

  pub taken_off : (before new : RegionView) (b d : ChoicePoint) → before ≡ record undone { choices = cs ++ b ∷ [] } → TakesNewest before new d → new ≡ gone
  taken_off before new b d same t =
      let own_choices = last_apart new.choices cs d b (sym t.choices ∙ ap (λ (x : RegionView). x.choices) same) in
      let own_marks = last_apart new.store.marks ms new.store.now m (sym t.marked ∙ ap (λ (x : RegionView). x.store.marks) same) in
      let store : new.store ≡ gone.store = t.store ∙ (ap (λ (x : RegionView). record x.store { now = new.store.now; marks = new.store.marks }) same ∙ ap₂ (λ (x : Moment) xs. record r.store { now = x; marks = xs }) own_marks.1 own_marks.0) in
      same_parts new.text gone.text new.store gone.store new.frames gone.frames new.choices gone.choices (t.text ∙ ap (λ (x : RegionView). x.text) same) store (t.frames ∙ ap (λ (x : RegionView). x.frames) same) own_choices.0

  -- clauses
  module _ (goal : BindingCell) (n : ℕ) (left : Cursor) (was : c.alternatives ≡ Clauses goal n left) where
    abbrev trial : Trial
    trial = record { goal = goal; clause = n; after = c.after }

    pub clauses_there : AreAlternativesAt (region_setting [] r) m (Clauses goal n left)
    clauses_there = subst (AreAlternativesAt (region_setting [] r) m) was top.values

    clause_there : IsThere r.text.clauses n
    clause_there = is_there r.text.clauses n clauses_there.1

    abbrev own : ℕ → Continuation ℕ → List Entry
    own h f = solution_entry h f (clause_solution (meaning undone.store goal) m.next clause_there.element)

    abbrev others : ℕ → Continuation ℕ → List ℕ → List Entry
    others h f ns = entries_of_clauses r.text (meaning undone.store goal) m.next h f ns

    first_of : (named : List NamedTerm) (h : ℕ) (f : Continuation ℕ) → alternative_entries (region_setting named r) m h f c.alternatives ≡ own h f ++ others h f (numbers_left r.text.heads left)
    first_of named h f = ap (alternative_entries (region_setting named r) m h f) was ∙ clause_first r.text (meaning undone.store goal) m.next h f n (numbers_left r.text.heads left) clause_there.element clause_there.first

    module _ (next : ℕ) (rest : Cursor) (finds : FindsClause r.text (meaning undone.store goal) m.next left rest next) where
      pub next_there : AreAlternativesAt (region_setting [] r) m (Clauses goal next rest)
      next_there = (clauses_there.0, finds.there, finds.cursor)

      pub takes_clause : TakesClause r (moved (Clauses goal next rest) next_there) trial
      takes_clause = record {
        clause = clause_there.element;
        is = clause_there.is;
        position = moved_position (Clauses goal next rest) next_there;
        goal = clauses_there.0;
        entries = λ named. moved_entries (Clauses goal next rest) next_there named own (λ h f. first_of named h f ∙ ap (λ es. own h f ++ es) (finds.entries h f));
        older = ms;
        marked = marks;
        store = refl;
        many = moved_many (Clauses goal next rest) next_there;
        fewer = moved_fewer (Clauses goal next rest) next_there (let e = ap (takes_left r.text.heads) was in let f = finds.fewer in omega (arith, e, f));
        text = refl;
        frames = refl;
      }

    last_clause : HaveNoEntry r.text (meaning undone.store goal) m.next left → TakesClause r gone trial
    last_clause none = record {
      clause = clause_there.element;
      is = clause_there.is;
      position = gone_position;
      goal = clauses_there.0;
      entries = λ named. gone_entries named own (λ h f. first_of named h f ∙ (ap (λ es. own h f ++ es) (none h f) ∙ append-nil (own h f)));
      older = ms;
      marked = marks;
      store = refl;
      many = gone_many;
      fewer = gone_fewer;
      text = refl;
      frames = refl;
    }

    pub takes_last : HaveNoEntry r.text (meaning undone.store goal) m.next left → (new : RegionView) (d : ChoicePoint) → TakesNewest undone new d → TakesClause r new trial
    takes_last none new d t = subst (λ x. TakesClause r x trial) (sym (taken_off undone new c d (ap (λ cs. record undone { choices = cs }) choices) t)) (last_clause none)

  -- solutions
  module _ (after : Alternatives) (solution : SolutionView) (is_last : Bool) (takes : HaveSolution c.alternatives after solution is_last) where
    abbrev own_entry : ℕ → Continuation ℕ → List Entry
    own_entry h f = solution_entry h f (solution_at (text_at r.store m) m.bound solution)

    all_there : AreAlternativesAt (region_setting [] r) m (Solutions (solution ∷ takes.rest))
    all_there = subst (AreAlternativesAt (region_setting [] r) m) takes.was top.values

    pub rest_there : AreAlternativesAt (region_setting [] r) m after
    rest_there = subst (AreAlternativesAt (region_setting [] r) m) (sym takes.is) all_there.1

    first_solution : (named : List NamedTerm) (h : ℕ) (f : Continuation ℕ) → alternative_entries (region_setting named r) m h f c.alternatives ≡ own_entry h f ++ alternative_entries (region_setting named r) m h f after
    first_solution named h f = ap (alternative_entries (region_setting named r) m h f) takes.was ∙ ap (λ a. own_entry h f ++ alternative_entries (region_setting named r) m h f a) (sym takes.is)

    pub takes_solution : TakesSolution r (moved after rest_there) solution c.after
    takes_solution = record {
      position = moved_position after rest_there;
      there = all_there.0;
      entries = λ named. moved_entries after rest_there named own_entry (first_solution named);
      many = moved_many after rest_there;
      fewer = moved_fewer after rest_there (let e = ap (takes_left r.text.heads) takes.was in let f = ap (takes_left r.text.heads) takes.is in omega (arith, e, f));
      text = refl;
      floor = refl;
    }

    last_solution : is_last ≡ true → TakesSolution r gone solution c.after
    last_solution e = record {
      position = gone_position;
      there = all_there.0;
      entries = λ named. gone_entries named own_entry (λ h f. first_solution named h f ∙ (ap (λ a. own_entry h f ++ alternative_entries (region_setting named r) m h f a) (takes.is ∙ ap Solutions (takes.last e)) ∙ append-nil (own_entry h f)));
      many = gone_many;
      fewer = gone_fewer;
      text = refl;
      floor = refl;
    }

    pub takes_last_solution : is_last ≡ true → (before new : RegionView) (d : ChoicePoint) → before ≡ moved after rest_there → TakesNewest before new d → TakesSolution r new solution c.after
    takes_last_solution e before new d same t = subst (λ x. TakesSolution r x solution c.after) (sym (taken_off before new (record c { alternatives = after }) d same t)) (last_solution e)

-- the store at the newest mark, which stays
pub undone_at : (st now : StoreView) (ms : List Moment) (m : Moment) (n : ℕ) → st.marks ≡ ms ++ m ∷ [] → length ms ≡ n → now ≡ taken_back m (with_marks (n + 1) st) → now ≡ record st { now = m; marks = ms ++ m ∷ [] }
undone_at st now ms m n e l is =
    let whole : take (n + 1) st.marks ≡ ms ++ m ∷ [] = ap (take (n + 1)) e ∙ (ap (λ i. take i (ms ++ m ∷ [])) (let a = length-append ms (m ∷ []) in omega (arith, a, l)) ∙ take-length (ms ++ m ∷ [])) in
    is ∙ ap (λ (ns : List Moment). record st { now = m; marks = ns }) whole
