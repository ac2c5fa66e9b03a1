-- Choice points that are opened below a position.
use Rattle.std.proofs.Common.{◌≡◌, ℕ, zero, suc, ◌+◌, ◌-◌, ◌<◌, ◌≤◌, List, [], ◌∷◌, ◌++◌, length, length-append, slice_get, IsSomeAnd, sym, ap, ap₂, ◌∙◌, subst, arith}
use Rattle.std.specs.Prelude.{codes}
use Rattle.au_term.specs.Term.{Term, AtomTerm}
use Rattle.au_model.specs.Terms.Named.{NamedTerm}
use Rattle.run_model.specs.Programs.Bodies.{call_of}
use Rattle.run_model.specs.Goals.Outcomes.{EitherOf, TestOf, CatchOf, FindallOf}
use Rattle.run_model.specs.Machine.Items.{Item, GoalItem, CatchMark, CollectMark, before, goals_at, with_next}
use Rattle.run_model.specs.Machine.Entries.{Entry, PlainEntry, CatchEntry, FindallEntry}
use Rattle.binding_array.specs.declared.cell.BindingCell.{BindingCell}
use Rattle.cell_store.specs.StoreView.{StoreView, IsValueIn, meaning, with_mark}
use Rattle.region_split.specs.ChoicePoints.{Standing, alternative_entries, continuation_at, height_of_cut}
use Rattle.region_split.specs.Regions.{RegionView, region_setting, entries_of, heights_of, continuation_here, position_entry, IsPositionIn, IsPositionOver}
use Rattle.region_split.specs.StackOperations.{AddsChoice, PutsBefore, item_here}
use Rattle.region_split.specs.declared.choice.Alternatives.{Alternatives}
use Rattle.region_split.specs.declared.choice.Alternatives.TheVariants.{Elsewhere, Catch, Findall}
use Rattle.region_split.specs.declared.choice.ChoicePoint.{ChoicePoint}
use Rattle.region_split.specs.ResultLists.{ResultsView}
use Rattle.region_split.specs.declared.frame.FrameItem.{FrameItem}
use Rattle.region_split.specs.declared.frame.FrameItem.TheVariants.{Call, Cut, CatchEnd, Collect}
use Rattle.region_split.specs.declared.frame.Position.{Position}
use Rattle.region_split.proofs.ItemLemmas.{position_more, put_twice}
use Rattle.region_control.specs.Controls.{IsGoalPlace, Controls}
use Rattle.region_control.specs.Goals.{goals_by, given_goals, AreGoalsIn}
use Rattle.region_control.specs.declared.control.GoalPlace.{GoalPlace}
use Rattle.region_control.specs.declared.goals.Goals.{Goals}
use Rattle.region_control.specs.declared.goals.Goals.TheVariants.{Body, Call as GoalCall, True, Fail}

-- a goal's position, among all choice points
pub place_in : (r : RegionView) (g : GoalPlace) → IsGoalPlace r g → IsPositionIn r g.after
place_in r g i = position_more r g.cut (length r.choices) g.after i.scope i.after

-- what is put before a position leaves the store, the choice points and what the place is
module _ (r new : RegionView) (items : List ℕ → List (Item ℕ)) (cut : ℕ) (after p : Position) (x : PutsBefore r new items cut after p) where
  pub put_store : new.store ≡ r.store
  put_store = ap (λ (y : RegionView). y.store) x.others

  pub put_many : length new.choices ≡ length r.choices
  put_many = ap (λ (y : RegionView). length y.choices) x.others

  pub put_goals : (g : Goals) → given_goals new.store g ≡ given_goals r.store g
  put_goals g = ap (λ (st : StoreView). given_goals st g) put_store

  pub put_there : (g : Goals) → AreGoalsIn r.store g → AreGoalsIn new.store g
  put_there g v = subst (λ (st : StoreView). AreGoalsIn st g) (sym put_store) v

  pub put_value : (v : BindingCell) → IsValueIn r.store v → IsValueIn new.store v
  put_value v i = subst (λ (st : StoreView). IsValueIn st v) (sym put_store) i

module _ (r new : RegionView) (alternatives : Alternatives) (other : Position) (a : AddsChoice r new alternatives other) where
  pub added_many : length new.choices ≡ length r.choices + 1
  added_many = ap (λ (y : RegionView). length y.choices) a.others ∙ length-append r.choices (a.choice ∷ [])

  pub added_goals : (g : Goals) → given_goals new.store g ≡ given_goals r.store g
  added_goals g = ap (λ (y : RegionView). given_goals y.store g) a.others

  pub added_there : (g : Goals) → AreGoalsIn r.store g → AreGoalsIn new.store g
  added_there g v = subst (λ (y : RegionView). AreGoalsIn y.store g) (sym a.others) (same g v)
    where
      same : (g : Goals) → AreGoalsIn r.store g → AreGoalsIn (with_mark r.store) g
      same (Body value) v = v
      same (GoalCall value) v = v
      same True v = v
      same Fail v = v

  pub added_value : (v : BindingCell) → IsValueIn r.store v → IsValueIn new.store v
  added_value v i = subst (λ (y : RegionView). IsValueIn y.store v) (sym a.others) i

  pub added_meaning : (v : BindingCell) → meaning new.store v ≡ meaning r.store v
  added_meaning v = ap (λ (y : RegionView). meaning y.store v) a.others

  pub added_position : (cut : ℕ) (p : Position) → IsPositionOver r cut p → IsPositionOver new cut p
  added_position cut p i = a.keeps.position cut p i.frame i

  pub added_entries : (named : List NamedTerm) → entries_of named new ≡ alternative_entries (region_setting named r) r.store.now (length (entries_of named r)) (continuation_here named r other) alternatives ++ entries_of named r
  added_entries named =
      a.entries named
      ∙ ap₂ (λ choice p. alternative_entries (region_setting named r) r.store.now (length (entries_of named r)) (continuation_at (region_setting named r) (heights_of named r) r.store.now p) choice ++ entries_of named r) a.is.0 a.is.1

  -- and items before a position
  module _ (last : RegionView) (js : List ℕ → List (Item ℕ)) (more : ℕ) (after p : Position) (y : PutsBefore new last js more after p) (i : IsPositionIn r after) where
    follows : (named : List NamedTerm) → continuation_here named new after ≡ continuation_here named r after
    follows named = let same = a.keeps.same named after i.frame i in cc

    pub opened : (named : List NamedTerm) → position_entry named last p ∷ entries_of named last ≡ PlainEntry (before (js (heights_of named new)) (continuation_here named r after)) ∷ (alternative_entries (region_setting named r) r.store.now (length (entries_of named r)) (continuation_here named r other) alternatives ++ entries_of named r)
    opened named =
        ap₂ (λ f (s : Standing). PlainEntry f ∷ s.entries) (y.goes_on named ∙ ap (before (js (heights_of named new))) (follows named)) (y.stands named)
        ∙ ap (λ es. PlainEntry (before (js (heights_of named new)) (continuation_here named r after)) ∷ es) (added_entries named)

    pub opened_position : more ≤ length r.choices + 1 → IsPositionIn last p
    opened_position le = position_more last more (length last.choices) p (let b = added_many in let c = put_many new last js more after p y in omega (arith, b, c, le)) y.position

    pub opened_text : last.text ≡ r.text
    opened_text = ap (λ (z : RegionView). z.text) y.others ∙ ap (λ (z : RegionView). z.text) a.others

    pub opened_floor : last.store.floor ≡ r.store.floor
    opened_floor = ap (λ (z : RegionView). z.store.floor) y.others ∙ ap (λ (z : RegionView). z.store.floor) a.others

-- the newest choice point
at_end : (P : ChoicePoint → Type 0) (xs : List ChoicePoint) (c : ChoicePoint) (i : ℕ) → i ≡ length xs → P c → IsSomeAnd (slice_get (xs ++ c ∷ []) i) P
at_end P [] c zero e p = p
at_end P [] c (suc i) e p = absurd (omega (arith, e))
at_end P (x ∷ xs) c zero e p = absurd (omega (arith, e))
at_end P (x ∷ xs) c (suc i) e p = at_end P xs c i (omega (arith, e)) p

pub newest_is : (K : Alternatives → Type 0) (r r1 : RegionView) (alternatives : Alternatives) (other : Position) (inner : ℕ) → inner ≡ length r1.choices → AddsChoice r r1 alternatives other → K alternatives → (0 < inner) × IsSomeAnd (slice_get r1.choices (inner - 1)) (λ c. K c.alternatives)
newest_is K r r1 alternatives other inner e a k =
    let many = added_many r r1 alternatives other a in (
      omega (arith, e, many),
      subst (λ cs. IsSomeAnd (slice_get cs (inner - 1)) (λ c. K c.alternatives)) (sym (ap (λ (x : RegionView). x.choices) a.others))
          (at_end (λ c. K c.alternatives) r.choices a.choice (inner - 1) (omega (arith, e, many)) (subst K (sym a.is.0) k)),
    )

-- goals elsewhere, a choice point for them, and then others
module _ (r0 r r1 last : RegionView) (is js : List ℕ → List (Item ℕ)) (more : ℕ) (g : GoalPlace) (other p : Position) (i : IsGoalPlace r0 g) (x : PutsBefore r0 r is g.cut g.after other) (a : AddsChoice r r1 Elsewhere other) (y : PutsBefore r1 last js more g.after p) where
  after_in : IsPositionIn r g.after
  after_in =
      let there = x.keeps.position g.cut g.after (omega arith) i.after in
      let many = put_many r0 r is g.cut g.after other x in
      position_more r g.cut (length r.choices) g.after (let s = i.scope in omega (arith, s, many)) there

  follows_first : (named : List NamedTerm) → continuation_here named r g.after ≡ continuation_here named r0 g.after
  follows_first named = let same = x.keeps.same named g.after (omega arith) (place_in r0 g i) in cc

  pub first_heights : (named : List NamedTerm) (n : ℕ) → n ≤ length r0.choices → height_of_cut (heights_of named r1) n ≡ height_of_cut (heights_of named r0) n
  first_heights named n le = a.older named n (let many = put_many r0 r is g.cut g.after other x in omega (arith, le, many)) ∙ ap (λ (s : Standing). height_of_cut s.heights n) (x.stands named)

  pub whole_first : (named : List NamedTerm) → height_of_cut (heights_of named r1) (length r0.choices) ≡ length (entries_of named r0)
  whole_first named =
      ap (height_of_cut (heights_of named r1)) (sym (put_many r0 r is g.cut g.after other x))
      ∙ (a.heights named ∙ ap (λ (s : Standing). length s.entries) (x.stands named))

  pub inner_entries : (named : List NamedTerm) → length (entries_of named r1) ≡ suc (length (entries_of named r0))
  inner_entries named = ap length (added_entries r r1 Elsewhere other a named) ∙ ap (λ (s : Standing). suc (length s.entries)) (x.stands named)

  pub branched : (named : List NamedTerm)
      → position_entry named last p ∷ entries_of named last ≡ PlainEntry (before (js (heights_of named r1)) (continuation_here named r0 g.after)) ∷ PlainEntry (before (is (heights_of named r0)) (continuation_here named r0 g.after)) ∷ entries_of named r0
  branched named =
      opened r r1 Elsewhere other a last js more g.after p y after_in named
      ∙ (ap (λ f. PlainEntry (before (js (heights_of named r1)) f) ∷ PlainEntry (continuation_here named r other) ∷ entries_of named r) (follows_first named)
      ∙ ap₂ (λ f (s : Standing). PlainEntry (before (js (heights_of named r1)) (continuation_here named r0 g.after)) ∷ PlainEntry f ∷ s.entries) (x.goes_on named) (x.stands named))

  pub branched_position : more ≤ length r0.choices + 1 → IsPositionIn last p
  branched_position le = opened_position r r1 Elsewhere other a last js more g.after p y after_in (let many = put_many r0 r is g.cut g.after other x in omega (arith, le, many))

  pub branched_text : last.text ≡ r0.text
  branched_text = opened_text r r1 Elsewhere other a last js more g.after p y after_in ∙ ap (λ (z : RegionView). z.text) x.others

  pub branched_floor : last.store.floor ≡ r0.store.floor
  branched_floor = opened_floor r r1 Elsewhere other a last js more g.after p y after_in ∙ ap (λ (z : RegionView). z.store.floor) x.others

-- either of two lists of goals
pub either_goals : (r0 r r1 last : RegionView) (gs others : List Term) (g : GoalPlace) (other p : Position) → IsGoalPlace r0 g → PutsBefore r0 r (goals_by others g.cut) g.cut g.after other → AddsChoice r r1 Elsewhere other → PutsBefore r1 last (goals_by gs g.cut) g.cut g.after p
    → Controls r0 last (EitherOf gs others) g p
either_goals r0 r r1 last gs others g other p i x a y = record {
  entries = λ named.
      branched r0 r r1 last (goals_by others g.cut) (goals_by gs g.cut) g.cut g other p i x a y named
      ∙ ap (λ h. PlainEntry (before (goals_at h gs) (continuation_here named r0 g.after)) ∷ PlainEntry (before (goals_by others g.cut (heights_of named r0)) (continuation_here named r0 g.after)) ∷ entries_of named r0)
      (first_heights r0 r r1 last (goals_by others g.cut) (goals_by gs g.cut) g.cut g other p i x a y named g.cut i.scope);
  position = branched_position r0 r r1 last (goals_by others g.cut) (goals_by gs g.cut) g.cut g other p i x a y (let s = i.scope in omega (arith, s));
  text = branched_text r0 r r1 last (goals_by others g.cut) (goals_by gs g.cut) g.cut g other p i x a y;
  floor = branched_floor r0 r r1 last (goals_by others g.cut) (goals_by gs g.cut) g.cut g other p i x a y;
}

-- a condition
module _ (r0 r r1 r2 r3 last : RegionView) (condition thens others : List Term) (own inner : ℕ) (g : GoalPlace) (other p q s : Position) (i : IsGoalPlace r0 g) (own_is : own ≡ length r0.choices) (inner_is : inner ≡ length r1.choices)
    (height : (named : List NamedTerm) → height_of_cut (heights_of named r1) inner ≡ length (entries_of named r1)) (x : PutsBefore r0 r (goals_by others g.cut) g.cut g.after other) (a : AddsChoice r r1 Elsewhere other)
    (y : PutsBefore r1 r2 (goals_by thens g.cut) g.cut g.after p) (z : PutsBefore r2 r3 (item_here r2 Cut own) own p q) (w : PutsBefore r3 last (goals_by condition inner) inner q s) where
  abbrev tail : List ℕ → List (Item ℕ)
  tail heights = item_here r2 Cut own heights ++ goals_by thens g.cut heights

  abbrev all : List ℕ → List (Item ℕ)
  all heights = goals_by condition inner heights ++ tail heights

  whole : PutsBefore r1 last all inner g.after s
  whole = put_twice r1 r3 last tail (goals_by condition inner) own inner g.after q s (put_twice r1 r2 r3 (goals_by thens g.cut) (item_here r2 Cut own) g.cut own g.after p q y z) w

  abbrev entries_by : List NamedTerm → ℕ → ℕ → ℕ → List Entry
  entries_by named n k h = PlainEntry (before (goals_at n condition ++ GoalItem (AtomTerm (codes "!")) k ∷ goals_at h thens) (continuation_here named r0 g.after)) ∷ PlainEntry (before (goals_by others g.cut (heights_of named r0)) (continuation_here named r0 g.after)) ∷ entries_of named r0

  pub tested : Controls r0 last (TestOf condition thens others) g s
  tested = record {
    entries = λ named.
        let is = goals_by others g.cut in
        let first : height_of_cut (heights_of named r1) inner ≡ suc (length (entries_of named r0)) = height named ∙ inner_entries r0 r r1 last is all inner g other s i x a whole named in
        let second : height_of_cut (heights_of named r1) own ≡ length (entries_of named r0) = ap (height_of_cut (heights_of named r1)) own_is ∙ whole_first r0 r r1 last is all inner g other s i x a whole named in
        let third = first_heights r0 r r1 last is all inner g other s i x a whole named g.cut i.scope in
        branched r0 r r1 last is all inner g other s i x a whole named
        ∙ (ap (λ n. entries_by named n (height_of_cut (heights_of named r1) own) (height_of_cut (heights_of named r1) g.cut)) first
        ∙ ap₂ (entries_by named (suc (length (entries_of named r0)))) second third);
    position = branched_position r0 r r1 last (goals_by others g.cut) all inner g other s i x a whole (let m = added_many r r1 Elsewhere other a in let k = put_many r0 r (goals_by others g.cut) g.cut g.after other x in omega (arith, m, k, inner_is));
    text = branched_text r0 r r1 last (goals_by others g.cut) all inner g other s i x a whole;
    floor = branched_floor r0 r r1 last (goals_by others g.cut) all inner g other s i x a whole;
  }

-- a position before which something was put, among all choice points
pub put_position : (r0 r : RegionView) (is : List ℕ → List (Item ℕ)) (g : GoalPlace) (p : Position) → IsGoalPlace r0 g → PutsBefore r0 r is g.cut g.after p → IsPositionIn r p
put_position r0 r is g p i x = position_more r g.cut (length r.choices) p (let s = i.scope in let m = put_many r0 r is g.cut g.after p x in omega (arith, s, m)) x.position

-- a choice point for what follows, and the call of a goal before a mark
module _ (r r1 r2 last : RegionView) (alternatives : Alternatives) (goal : BindingCell) (mark : FrameItem) (inner : ℕ) (g : GoalPlace) (p q : Position) (i : IsGoalPlace r g) (inner_is : inner ≡ length r1.choices)
    (height : (named : List NamedTerm) → height_of_cut (heights_of named r1) inner ≡ length (entries_of named r1)) (a : AddsChoice r r1 alternatives g.after)
    (y : PutsBefore r1 r2 (item_here r1 mark inner) inner g.after p) (z : PutsBefore r2 last (item_here r2 (Call goal) inner) inner p q) where
  abbrev guarded : List ℕ → List (Item ℕ)
  guarded heights = item_here r2 (Call goal) inner heights ++ item_here r1 mark inner heights

  whole_guarded : PutsBefore r1 last guarded inner g.after q
  whole_guarded = put_twice r1 r2 last (item_here r1 mark inner) (item_here r2 (Call goal) inner) inner inner g.after p q y z

  same_goal : meaning r2.store goal ≡ meaning r.store goal
  same_goal = ap (λ (st : StoreView). meaning st goal) (put_store r1 r2 (item_here r1 mark inner) inner g.after p y) ∙ added_meaning r r1 alternatives g.after a goal

  pub own_mark : (named : List NamedTerm) → height_of_cut (heights_of named r1) (inner - 1) ≡ length (entries_of named r)
  own_mark named =
      let below : inner - 1 ≡ length r.choices = let m = added_many r r1 alternatives g.after a in omega (arith, m, inner_is) in
      ap (height_of_cut (heights_of named r1)) below ∙ a.heights named

  pub guarded_entries : (named : List NamedTerm) → position_entry named last q ∷ entries_of named last ≡
      PlainEntry (before (GoalItem (call_of (meaning r.store goal)) (height_of_cut (heights_of named r1) inner) ∷ item_here r1 mark inner (heights_of named r1)) (continuation_here named r g.after))
      ∷ (alternative_entries (region_setting named r) r.store.now (length (entries_of named r)) (continuation_here named r g.after) alternatives ++ entries_of named r)
  guarded_entries named =
      opened r r1 alternatives g.after a last guarded inner g.after q whole_guarded (place_in r g i) named
      ∙ ap (λ t.
      PlainEntry (before (GoalItem (call_of t) (height_of_cut (heights_of named r1) inner) ∷ item_here r1 mark inner (heights_of named r1)) (continuation_here named r g.after))
      ∷ (alternative_entries (region_setting named r) r.store.now (length (entries_of named r)) (continuation_here named r g.after) alternatives ++ entries_of named r)) same_goal

  pub guarded_position : IsPositionIn last q
  guarded_position = opened_position r r1 alternatives g.after a last guarded inner g.after q whole_guarded (place_in r g i) (let m = added_many r r1 alternatives g.after a in omega (arith, m, inner_is))

  pub guarded_text : last.text ≡ r.text
  guarded_text = opened_text r r1 alternatives g.after a last guarded inner g.after q whole_guarded (place_in r g i)

  pub guarded_floor : last.store.floor ≡ r.store.floor
  guarded_floor = opened_floor r r1 alternatives g.after a last guarded inner g.after q whole_guarded (place_in r g i)

-- what is left after a goal stays over a new choice point
pub place_over : (r r1 : RegionView) (alternatives : Alternatives) (g : GoalPlace) (inner : ℕ) → IsGoalPlace r g → inner ≡ length r1.choices → AddsChoice r r1 alternatives g.after → IsPositionOver r1 inner g.after
place_over r r1 alternatives g inner i e a =
    position_more r1 g.cut inner g.after (let s = i.scope in let m = added_many r r1 alternatives g.after a in omega (arith, s, m, e)) (added_position r r1 alternatives g.after a g.cut g.after i.after)

pub caught : (r r1 r2 last : RegionView) (goal catcher recovery : BindingCell) (inner : ℕ) (g : GoalPlace) (p q : Position) → IsGoalPlace r g → inner ≡ length r1.choices
    → ((named : List NamedTerm) → height_of_cut (heights_of named r1) inner ≡ length (entries_of named r1)) → AddsChoice r r1 (Catch catcher recovery) g.after
    → PutsBefore r1 r2 (item_here r1 CatchEnd inner) inner g.after p → PutsBefore r2 last (item_here r2 (Call goal) inner) inner p q
    → Controls r last (CatchOf (meaning r.store goal) (meaning r.store catcher) (meaning r.store recovery)) g q
caught r r1 r2 last goal catcher recovery inner g p q i inner_is height a y z = record {
  entries = λ named.
      let above : height_of_cut (heights_of named r1) inner ≡ suc (length (entries_of named r)) = height named ∙ ap length (added_entries r r1 (Catch catcher recovery) g.after a named) in
      let own = own_mark r r1 r2 last (Catch catcher recovery) goal CatchEnd inner g p q i inner_is height a y z named in
      guarded_entries r r1 r2 last (Catch catcher recovery) goal CatchEnd inner g p q i inner_is height a y z named
      ∙ ap₂ (λ n k. PlainEntry (before (GoalItem (call_of (meaning r.store goal)) n ∷ CatchMark k ∷ []) (continuation_here named r g.after)) ∷ CatchEntry (meaning r.store catcher) (meaning r.store recovery) (continuation_here named r g.after) ∷ entries_of named r) above own;
  position = guarded_position r r1 r2 last (Catch catcher recovery) goal CatchEnd inner g p q i inner_is height a y z;
  text = guarded_text r r1 r2 last (Catch catcher recovery) goal CatchEnd inner g p q i inner_is height a y z;
  floor = guarded_floor r r1 r2 last (Catch catcher recovery) goal CatchEnd inner g p q i inner_is height a y z;
}

pub all_found : (r r1 r2 last : RegionView) (template goal list : BindingCell) (results : ResultsView) (inner : ℕ) (g : GoalPlace) (p q : Position) → IsGoalPlace r g → results ≡ record { terms = []; next = r.store.now.next } → inner ≡ length r1.choices
    → ((named : List NamedTerm) → height_of_cut (heights_of named r1) inner ≡ length (entries_of named r1)) → AddsChoice r r1 (Findall list results) g.after
    → PutsBefore r1 r2 (item_here r1 (Collect template) inner) inner g.after p → PutsBefore r2 last (item_here r2 (Call goal) inner) inner p q
    → Controls r last (FindallOf (meaning r.store template) (meaning r.store goal) (meaning r.store list)) g q
all_found r r1 r2 last template goal list results inner g p q i none inner_is height a y z = record {
  entries = λ named.
      let above : height_of_cut (heights_of named r1) inner ≡ suc (length (entries_of named r)) = height named ∙ ap length (added_entries r r1 (Findall list results) g.after a named) in
      let own = own_mark r r1 r2 last (Findall list results) goal (Collect template) inner g p q i inner_is height a y z named in
      let found = added_meaning r r1 (Findall list results) g.after a template in
      let entries_by : ℕ → ℕ → Term → ResultsView → List Entry = λ n k t (found : ResultsView). PlainEntry (before (GoalItem (call_of (meaning r.store goal)) n ∷ CollectMark t k ∷ []) (continuation_here named r g.after)) ∷ FindallEntry found.terms (meaning r.store list) (with_next found.next (continuation_here named r g.after)) ∷ entries_of named r in
      guarded_entries r r1 r2 last (Findall list results) goal (Collect template) inner g p q i inner_is height a y z named
      ∙ (ap₂ (λ n k. entries_by n k (meaning r1.store template) results) above own
      ∙ ap₂ (entries_by (suc (length (entries_of named r))) (length (entries_of named r))) found none);
  position = guarded_position r r1 r2 last (Findall list results) goal (Collect template) inner g p q i inner_is height a y z;
  text = guarded_text r r1 r2 last (Findall list results) goal (Collect template) inner g p q i inner_is height a y z;
  floor = guarded_floor r r1 r2 last (Findall list results) goal (Collect template) inner g p q i inner_is height a y z;
}
