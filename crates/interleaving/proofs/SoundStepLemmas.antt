-- The steps of a sound list leave sound lists.
use Rattle.std.proofs.Common.{◌≡◌, zero, suc, List, [], ◌∷◌, Option, Some, None, subst}
use Rattle.au_model.specs.Terms.Each.{Each}
use Rattle.run_model.specs.Programs.Clauses.{Clause}
use Rattle.run_model.specs.Programs.Databases.{Database, without_clause}
use Rattle.run_model.specs.Goals.Worlds.{world_step}
use Rattle.run_model.specs.Goals.GoalOutcomes.{outcome_of}
use Rattle.run_model.specs.Goals.Outcomes.{Solutions, Ball, HaltNumber, Outcome, Replies, Controls, AskWorld}
use Rattle.run_model.specs.Machine.Items.{Item, GoalItem, CatchMark, CollectMark, RemovalItem, Continuation, with_items, without_marks}
use Rattle.interleaving.specs.Machine.{Machine, Drops, Becomes, Infers, AsksWorld, placed}
use Rattle.tree_model.specs.Elements.{Name, Record, Element, Credit, Plain, EndOf, Catch, Findall, End}
use Rattle.interleaving.specs.Scopes.{Shared, Sought, Does, ElementReplacement, goal_act, removed, answer_taken, unmarked, item_act}
use Rattle.interleaving.specs.Scopes.{query_end_taken}
use Rattle.interleaving.specs.Scopes.{results_first, act, without_catch_marks, scoped}
use Rattle.interleaving.specs.Sound.{names, IsGathered, IsMarkSound, IsEntrySound, IsSound}
use Rattle.interleaving.proofs.NamingLemmas.{carried_rest}
use Rattle.interleaving.proofs.CarriedLemmas.{entry_rest, entry_unmarked}
use Rattle.interleaving.proofs.PreservedLemmas.{control-sound, reply-sound, opened-sound}

module _ (clauses : List Clause) where
  abbrev m : Machine Shared Element Sought Record
  m = scoped clauses

  pub infers-same : (p q : ElementReplacement) → ◌≡◌ {A = Does} (Infers p) (Infers q) → p ≡ q
  infers-same p q e = cc

  drops-same : (p q : List Record) → ◌≡◌ {A = Does} (Drops p) (Drops q) → p ≡ q
  drops-same p q e = cc

  becomes-same : (x y : Element) → ◌≡◌ {A = Does} (Becomes x) (Becomes y) → x ≡ y
  becomes-same x y e = cc

  -- an inference that stays in the list
  goal-infers : (o : Outcome) (p h : Name) (f : Continuation Name) (ys : List Element) (q : ElementReplacement)
      → goal_act clauses o p h f ≡ Infers q
      → IsEntrySound p ys (h ∷ names f.items) f.items → IsSound ys → IsSound (placed m q ys)
  goal-infers (Replies (Solutions ss)) p h f ys q e s i = subst (λ r. IsSound (placed m r ys)) (infers-same _ q e)
      (reply-sound clauses (Solutions ss) p f ys (entry_rest p ys h f.items s) i)
  goal-infers (Replies (Ball b)) p h f ys q e s i = subst (λ r. IsSound (placed m r ys)) (infers-same _ q e)
      (reply-sound clauses (Ball b) p f ys (entry_rest p ys h f.items s) i)
  goal-infers (Replies (HaltNumber n)) p h f ys q e s i = absurd cc
  goal-infers (Controls form) p h f ys q e s i = subst (λ r. IsSound (placed m r ys)) (infers-same _ q e)
      (control-sound clauses p h f ys s i form)
  goal-infers (AskWorld g) p h f ys q e s i = absurd cc

  no_infers : (items : List (Item Name)) (p : Name) (f : Continuation Name) (q : ElementReplacement) → unmarked items p f ≡ Infers q → ⊥
  no_infers [] p f q e = absurd cc
  no_infers (GoalItem t s ∷ items) p f q e = absurd cc
  no_infers (CatchMark s ∷ items) p f q e = absurd cc
  no_infers (CollectMark t s ∷ items) p f q e = absurd cc
  no_infers (RemovalItem n ∷ items) p f q e = absurd cc

  item-infers : (items : List (Item Name)) (p : Name) (f : Continuation Name) (ys : List Element) (q : ElementReplacement)
      → item_act clauses items p f ≡ Infers q → IsEntrySound p ys (names items) items → IsSound ys → IsSound (placed m q ys)
  item-infers [] p f ys q e s i = absurd cc
  item-infers (GoalItem g h ∷ items) p f ys q e s i = goal-infers (outcome_of clauses g f.next) p h (with_items items f) ys q e
      (record { carried = s.carried; marks = s.marks.1; findalls = s.findalls }) i
  item-infers (RemovalItem n ∷ items) p f ys q e s i = absurd cc
  item-infers (CatchMark k ∷ items) p f ys q e s i = absurd (no_infers (without_marks items) p f q e)
  item-infers (CollectMark t k ∷ items) p f ys q e s i = absurd cc

  pub infers-sound : (x : Element) (q : ElementReplacement) (ys : List Element) → act clauses x ≡ Infers q → IsSound (x ∷ ys)
      → IsSound (placed m q ys)
  infers-sound (Credit zero rs) q ys e i = absurd cc
  infers-sound (Credit (suc k) rs) q ys e i = subst (λ r. IsSound (placed m r ys)) (infers-same _ q e) i
  infers-sound (Plain p f) q ys e i = item-infers f.items p f ys q e i.0 i.1
  infers-sound (EndOf s) q ys e i = absurd cc
  infers-sound (Catch s u c r p f) q ys e i = absurd cc
  infers-sound (Findall s u results list p f) q ys e i = absurd cc
  infers-sound (End p b) q ys e i = absurd cc

  -- what wakes
  goal-becomes : (o : Outcome) (p h : Name) (f : Continuation Name) (y : Element) → goal_act clauses o p h f ≡ Becomes y → ⊥
  goal-becomes (Replies (Solutions ss)) p h f y e = absurd cc
  goal-becomes (Replies (Ball b)) p h f y e = absurd cc
  goal-becomes (Replies (HaltNumber n)) p h f y e = absurd cc
  goal-becomes (Controls form) p h f y e = absurd cc
  goal-becomes (AskWorld g) p h f y e = absurd cc

  unmarked-becomes : (items : List (Item Name)) (p : Name) (f : Continuation Name) (ys : List Element) (y : Element) → unmarked items p f
      ≡ Becomes y → IsEntrySound p ys (names items) items → IsSound ys → IsSound (y ∷ ys)
  unmarked-becomes [] p f ys y e s i = subst (λ z. IsSound (z ∷ ys)) (becomes-same _ y e) (s, i)
  unmarked-becomes (GoalItem t k ∷ items) p f ys y e s i = subst (λ z. IsSound (z ∷ ys)) (becomes-same _ y e) (s, i)
  unmarked-becomes (CatchMark k ∷ items) p f ys y e s i = subst (λ z. IsSound (z ∷ ys)) (becomes-same _ y e) (s, i)
  unmarked-becomes (CollectMark t k ∷ items) p f ys y e s i = absurd cc
  unmarked-becomes (RemovalItem n ∷ items) p f ys y e s i = subst (λ z. IsSound (z ∷ ys)) (becomes-same _ y e) (s, i)

  item-becomes : (items : List (Item Name)) (p : Name) (f : Continuation Name) (ys : List Element) (y : Element)
      → item_act clauses items p f ≡ Becomes y → IsEntrySound p ys (names items) items → IsSound ys → IsSound (y ∷ ys)
  item-becomes [] p f ys y e s i = absurd cc
  item-becomes (GoalItem g h ∷ items) p f ys y e s i = absurd (goal-becomes (outcome_of clauses g f.next) p h (with_items items f) y e)
  item-becomes (RemovalItem n ∷ items) p f ys y e s i = absurd cc
  item-becomes (CatchMark k ∷ items) p f ys y e s i = unmarked-becomes (without_marks items) p f ys y e
      (entry_unmarked p ys items (record
      { carried = carried_rest p ys k (names items) s.carried; marks = s.marks.1; findalls = s.findalls })) i
  item-becomes (CollectMark t k ∷ items) p f ys y e s i = absurd cc

  pub becomes-sound : (x y : Element) (ys : List Element) → act clauses x ≡ Becomes y → IsSound (x ∷ ys) → IsSound (y ∷ ys)
  becomes-sound (Credit zero rs) y ys e i = absurd cc
  becomes-sound (Credit (suc k) rs) y ys e i = absurd cc
  becomes-sound (Plain p f) y ys e i = item-becomes f.items p f ys y e i.0 i.1
  becomes-sound (EndOf s) y ys e i = absurd cc
  becomes-sound (Catch s u c r p f) y ys e i = absurd cc
  becomes-sound (Findall s u results list p f) y ys e i =
      subst (λ z. IsSound (z ∷ ys)) (becomes-same (Plain p (results_first results list u f)) y e)
      (record { carried = i.0.carried; marks = (tt, i.0.marks); findalls = i.0.findalls }, i.3)
  becomes-sound (End p b) y ys e i = absurd cc

  -- records that go down have their findall entries below
  abbrev pub AllGathered : List Element → List Record → Type 0
  AllGathered ys rs = Each (λ o. IsGathered ys o.0) rs

  goal-drops : (o : Outcome) (p h : Name) (f : Continuation Name) (rs : List Record) → goal_act clauses o p h f ≡ Drops rs → ⊥
  goal-drops (Replies (Solutions ss)) p h f y e = absurd cc
  goal-drops (Replies (Ball b)) p h f y e = absurd cc
  goal-drops (Replies (HaltNumber n)) p h f y e = absurd cc
  goal-drops (Controls form) p h f y e = absurd cc
  goal-drops (AskWorld g) p h f y e = absurd cc

  unmarked-drops : (items : List (Item Name)) (p : Name) (f : Continuation Name) (ys : List Element) (rs : List Record)
      → unmarked items p f ≡ Drops rs → Each (IsMarkSound ys) items → AllGathered ys rs
  unmarked-drops [] p f ys rs e s = absurd cc
  unmarked-drops (GoalItem t k ∷ items) p f ys rs e s = absurd cc
  unmarked-drops (CatchMark k ∷ items) p f ys rs e s = absurd cc
  unmarked-drops (CollectMark t k ∷ items) p f ys rs e s = subst (AllGathered ys) (drops-same ((k, t) ∷ []) rs e) (s.0, tt)
  unmarked-drops (RemovalItem n ∷ items) p f ys rs e s = absurd cc

  marks-after : (ys : List Element) (items : List (Item Name)) → Each (IsMarkSound ys) items → Each (IsMarkSound ys) (without_marks items)
  marks-after ys [] h = tt
  marks-after ys (GoalItem t k ∷ items) h = h
  marks-after ys (CatchMark k ∷ items) h = marks-after ys items h.1
  marks-after ys (CollectMark t k ∷ items) h = h
  marks-after ys (RemovalItem n ∷ items) h = h

  item-drops : (items : List (Item Name)) (p : Name) (f : Continuation Name) (ys : List Element) (rs : List Record)
      → item_act clauses items p f ≡ Drops rs → Each (IsMarkSound ys) items → AllGathered ys rs
  item-drops [] p f ys rs e s = absurd cc
  item-drops (GoalItem g h ∷ items) p f ys rs e s = absurd (goal-drops (outcome_of clauses g f.next) p h (with_items items f) rs e)
  item-drops (RemovalItem n ∷ items) p f ys rs e s = absurd cc
  item-drops (CatchMark k ∷ items) p f ys rs e s = unmarked-drops (without_marks items) p f ys rs e (marks-after ys items s.1)
  item-drops (CollectMark t k ∷ items) p f ys rs e s = subst (AllGathered ys) (drops-same ((k, t) ∷ []) rs e) (s.0, tt)

  pub drops-gathered : (x : Element) (ys : List Element) (rs : List Record) → act clauses x ≡ Drops rs → IsSound (x ∷ ys)
      → AllGathered ys rs
  drops-gathered (Credit zero os) ys rs e i = subst (AllGathered ys) (drops-same os rs e) i.0
  drops-gathered (Credit (suc k) os) ys rs e i = absurd cc
  drops-gathered (Plain p f) ys rs e i = item-drops f.items p f ys rs e i.0.marks
  drops-gathered (EndOf s) ys rs e i = subst (AllGathered ys) (drops-same [] rs e) tt
  drops-gathered (Catch s u c r p f) ys rs e i = subst (AllGathered ys) (drops-same [] rs e) tt
  drops-gathered (Findall s u results list p f) ys rs e i = absurd cc
  drops-gathered (End p b) ys rs e i = absurd cc

  -- what asks the world
  asks-same : (f g : Shared → Shared × ElementReplacement) → ◌≡◌ {A = Does} (AsksWorld f) (AsksWorld g) → f ≡ g
  asks-same f g e = cc

  abbrev Continues : (Shared → Shared × ElementReplacement) → List Element → Type 0
  Continues g ys = (w : Shared) → IsSound (placed m (g w).1 ys)

  goal-asks : (o : Outcome) (p h : Name) (f : Continuation Name) (ys : List Element) (g : Shared → Shared × ElementReplacement)
      → goal_act clauses o p h f ≡ AsksWorld g → IsEntrySound p ys (h ∷ names f.items) f.items → IsSound ys → Continues g ys
  goal-asks (Replies (Solutions ss)) p h f ys g e s i = absurd cc
  goal-asks (Replies (Ball b)) p h f ys g e s i = absurd cc
  goal-asks (Replies (HaltNumber n)) p h f ys g e s i = subst (λ g. Continues g ys) (asks-same _ g e) (λ w. tt)
  goal-asks (Controls form) p h f ys g e s i = absurd cc
  goal-asks (AskWorld goal) p h f ys g e s i = subst (λ g. Continues g ys) (asks-same _ g e)
      (λ w. reply-sound clauses (world_step clauses goal f.next w.world).1 p f ys (entry_rest p ys h f.items s) i)

  removed-leaves : (o : Option Database) (p : Name) (f : Continuation Name) (ys : List Element) (w : Shared)
      → IsEntrySound p ys (names f.items) f.items → IsSound ys → IsSound (placed m (removed o p f w).1 ys)
  removed-leaves None p f ys w s i = i
  removed-leaves (Some db) p f ys w s i = (s, i)

  no_asks : (items : List (Item Name)) (p : Name) (f : Continuation Name) (g : Shared → Shared × ElementReplacement)
      → unmarked items p f ≡ AsksWorld g → ⊥
  no_asks [] p f g e = absurd cc
  no_asks (GoalItem t s ∷ items) p f g e = absurd cc
  no_asks (CatchMark s ∷ items) p f g e = absurd cc
  no_asks (CollectMark t s ∷ items) p f g e = absurd cc
  no_asks (RemovalItem n ∷ items) p f g e = absurd cc

  item-asks : (items : List (Item Name)) (p : Name) (f : Continuation Name) (ys : List Element) (g : Shared → Shared × ElementReplacement)
      → item_act clauses items p f ≡ AsksWorld g → IsEntrySound p ys (names items) items → IsSound ys → Continues g ys
  item-asks [] p f ys g e s i = subst (λ g. Continues g ys) (asks-same (answer_taken f) g e) (λ w. i)
  item-asks (GoalItem t h ∷ items) p f ys g e s i = goal-asks (outcome_of clauses t f.next) p h (with_items items f) ys g e
      (record { carried = s.carried; marks = s.marks.1; findalls = s.findalls }) i
  item-asks (RemovalItem n ∷ items) p f ys g e s i =
      subst (λ g. Continues g ys) (asks-same (λ w. removed (without_clause n w.world.database) p (with_items items f) w) g e)
      (λ w. removed-leaves (without_clause n w.world.database) p (with_items items f) ys w
      (record { carried = s.carried; marks = s.marks.1; findalls = s.findalls }) i)
  item-asks (CatchMark k ∷ items) p f ys g e s i = absurd (no_asks (without_marks items) p f g e)
  item-asks (CollectMark t k ∷ items) p f ys g e s i = absurd cc

  pub asks-sound : (x : Element) (g : Shared → Shared × ElementReplacement) (ys : List Element) → act clauses x ≡ AsksWorld g
      → IsSound (x ∷ ys)
      → Continues g ys
  asks-sound (Credit zero rs) g ys e i = absurd cc
  asks-sound (Credit (suc k) rs) g ys e i = absurd cc
  asks-sound (Plain p f) g ys e i = item-asks f.items p f ys g e i.0 i.1
  asks-sound (EndOf s) g ys e i = absurd cc
  asks-sound (Catch s u c r p f) g ys e i = absurd cc
  asks-sound (Findall s u results list p f) g ys e i = absurd cc
  asks-sound (End p b) g ys e i = subst (λ g. Continues g ys) (asks-same (query_end_taken b p) g e) (λ w. opened-sound p w.queries)

  -- what is left standing
  pub stands-sound : (x : Element) (ys : List Element) → IsSound (x ∷ ys) → IsSound (without_catch_marks x ∷ ys)
  stands-sound (Plain p f) ys i = (entry_unmarked p ys f.items i.0, i.1)
  stands-sound (Credit k rs) ys i = i
  stands-sound (EndOf s) ys i = i
  stands-sound (Catch s u c r p f) ys i = i
  stands-sound (Findall s u results list p f) ys i = i
  stands-sound (End p b) ys i = i
