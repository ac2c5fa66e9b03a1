-- A private run with heights over a floor is one by names, where its goals name no end with which the floor begins.
use Rattle.std.proofs.Common.{◌≡◌, inl, inr, ℕ, zero, suc, ◌-◌, ◌+◌, ◌≤◌, Bool, true, false, cond, List, [], ◌∷◌, ◌++◌, map, length, take}
use Rattle.std.proofs.Common.{nat_lt, nat_le, Option, Some, None, refl, sym, ap, ◌∙◌, subst, arith}
use Rattle.std.proofs.lemmas.Bool.Decides.{nat_tests}
use Rattle.au_term.specs.Term.{Term}
use Rattle.au_model.specs.Terms.Each.{Each}
use Rattle.run_model.specs.Programs.Clauses.{Clause}
use Rattle.run_model.specs.Goals.GoalOutcomes.{outcome_of}
use Rattle.run_model.specs.Goals.Outcomes.{Reply, Solutions, Ball, HaltNumber, ControlForm, GoesOnWith, EitherOf, TestOf, CutToScope}
use Rattle.run_model.specs.Goals.Outcomes.{CatchOf}
use Rattle.run_model.specs.Goals.Outcomes.{FindallOf, Outcome, Replies, Controls, AskWorld}
use Rattle.run_model.specs.Machine.Items.{Item, GoalItem, CatchMark, CollectMark, RemovalItem, Continuation, with_items, first_mark}
use Rattle.run_model.specs.Machine.Entries.{Entry, PlainEntry, CatchEntry, FindallEntry, EndEntry}
use Rattle.run_model.specs.Machine.Balls.{unwound}
use Rattle.run_model.specs.Machine.Heights.{after_reply, after_control}
use Rattle.interleaving.specs.Machine.{Machine, Infers, Put, Seek, search_for, placed}
use Rattle.tree_model.specs.Elements.{Name, Record, Element, Credit, Plain, EndOf, Catch, Findall, End}
use Rattle.interleaving.specs.Scopes.{Shared, Sought, Scope, Thrown, reply_place, control_place, goal_act, act, scoped}
use Rattle.interleaving.specs.Segments.{search_in, Private, private_none, private_drops, private_infers}
use Rattle.interleaving.specs.Erased.{from, element_count, height, with_height, continuation_heights, erased}
use Rattle.interleaving.specs.HeightMachine.{HeightElement, HeightEntry, height_entries, height_reply, height_control}
use Rattle.interleaving.specs.Views.{IsGrown, IsInner}
use Rattle.interleaving.specs.Laws.{is_inner_record}
use Rattle.interleaving.specs.Sound.{names, IsEntrySound, IsSound}
use Rattle.tree_model.specs.PrivateRuns.{own_part}
use Rattle.interleaving.specs.OwnRuns.{caught_own, own_control, own_goal, own_item, own_taken, own_left, own_more, own_run}
use Rattle.interleaving.specs.OwnRuns.{NamesEntries, IsFloorUnder, RunsPrivately, OwnRuns}
use Rattle.interleaving.proofs.RunFrontLemmas.{map-none, some-same, none-some}
use Rattle.interleaving.proofs.JoinedLemmas.{placed-within}
use Rattle.interleaving.proofs.InsideLemmas.{under_ground}
use Rattle.interleaving.proofs.EarlyLawLemmas.{private_inner}
use Rattle.interleaving.proofs.AloneLemmas.{private-ok}
use Rattle.interleaving.proofs.FarNameLemmas.{IsItemFar, IsFar, IsAnyRecord, IsSoughtFar, far_closed, far_stands, nothing_far}
use Rattle.interleaving.proofs.QuietCreditLemmas.{private-then}
use Rattle.interleaving.proofs.NamingLemmas.{length-erased}
use Rattle.interleaving.proofs.PlaceHeightLemmas.{control-height}
use Rattle.interleaving.proofs.CarriedLemmas.{entry_rest}
use Rattle.interleaving.proofs.RunHeightLemmas.{reply-height}
use Rattle.interleaving.proofs.SequentialHeightLemmas.{length-height, height-reply, height-control}
use Rattle.interleaving.proofs.SeamLemmas.{Seam, seam}
use Rattle.interleaving.proofs.SoundEarlyLemmas.{private-sound}
use Rattle.interleaving.proofs.OwnRunStepLemmas.{floor_size, own_size, no_credit, head-is, later, own-free_taken}
use Rattle.interleaving.proofs.OwnInferenceLemmas.{part-joined, over-floor, floor-low, search-in-from, Split, split, Low, low}
use Rattle.interleaving.proofs.AppendLemmas.{append-assoc}

module _ (clauses : List Clause) (inside : Name → Bool) (grown : IsGrown inside) (zs : List Element) (floor : List Entry)
    (fl : IsFloorUnder inside zs floor) (own : Name → Bool) (deepest : (s : Name) → own s ≡ false → (t : List Element) → from zs s
    ≡ EndOf s ∷ t → suc (height zs s) ≤ element_count zs) where
  abbrev m : Machine Shared Element Sought Record
  m = scoped clauses

  abbrev Own : List Element → List Entry → Type 0
  Own a es = NamesEntries inside a zs es floor

  -- one inference that leaves this stack
  abbrev Inferred : List Element → List Entry → Type 0
  Inferred a st = (b : List Element) × Private (scoped clauses) (is_inner_record inside) 1 [] a b × NamesEntries inside b zs
      (own_part floor st) floor

  took : (a b : List Element) (st : List Entry) → Private m (is_inner_record inside) 1 [] a b → Each (IsInner inside) a
      → IsSound (a ++ zs) → erased (b ++ zs) ≡ height_entries st → Inferred a st
  took a b st r h i e =
      let over = over-floor b zs in
      let joined : take (length st - length floor) st ++ floor
      ≡ st = part-joined st floor over.0 (sym e ∙ over.1 ∙ ap (λ l. over.0 ++ l) fl.entries) in (
        b,
        r,
        record {
          sound = (private-sound clauses inside grown zs fl.under 1 [] a b r h i).0;
          inner = private_inner clauses inside 1
              [] a b grown h r;
          entries = e ∙ ap height_entries (sym joined);
        },
      )

  -- an inference that puts elements in its place
  put_inferred : (x : Element) (ys a : List Element) (st : List Entry) → act clauses x ≡ Infers (Put ys) → Each (IsInner inside) (x ∷ a)
      → IsSound (x ∷ (a ++ zs)) → erased (ys ++ (a ++ zs)) ≡ height_entries st → Inferred (x ∷ a) st
  put_inferred x ys a st e h i k = took (x ∷ a) (ys ++ a) st
      (private_infers 0 x (Put ys) [] a (ys ++ a) (ys ++ a) e refl (private_none (ys ++ a))) h i
      (ap erased (append-assoc ys a zs) ∙ k)

  -- an inference that searches among the own elements
  seek_inferred : (x : Element) (q : Sought) (a s : List Element) (st : List Entry) → act clauses x ≡ Infers (Seek q) → search_in m q a
      ≡ Some s → Each (IsInner inside) (x ∷ a) → IsSound (x ∷ (a ++ zs)) → erased (search_for m q (a ++ zs)) ≡ height_entries st
      → Inferred (x ∷ a) st
  seek_inferred x q a s st e f h i k = took (x ∷ a) s st (private_infers 0 x (Seek q) [] a s s e f (private_none s)) h i
      (ap erased (sym (placed-within m (under_ground clauses inside) (Seek q) a s zs f)) ∙ k)

  above : (a b : ℕ) → nat_lt a b ≡ false → b ≤ a
  above a b e = grind (arith, nat_tests)

  reaches : (a b : ℕ) → nat_le a b ≡ true → a ≤ b
  reaches a b e = grind (arith, nat_tests)

  module _ (x : Element) (p h : Name) (k : Continuation Name) (a : List Element) (es : List Entry) (o : Own a es)
      (inner : Each (IsInner inside) (x ∷ a)) (whole : IsSound (x ∷ (a ++ zs)))
      (s : IsEntrySound p (a ++ zs) (h ∷ names k.items) k.items) (far : own h ≡ false) where
    abbrev held : Continuation ℕ
    held = continuation_heights (height (a ++ zs)) k

    rest : IsEntrySound p (a ++ zs) (names k.items) k.items
    rest = entry_rest p (a ++ zs) h k.items s

    replies : (r : Reply) → erased (placed m (reply_place r p k) (a ++ zs))
        ≡ height_entries (after_reply r (continuation_heights (height (a ++ zs)) k) (es ++ floor))
    replies r = reply-height clauses r p k (a ++ zs) rest o.sound
        ∙ ap (height_reply r (continuation_heights (height (a ++ zs)) k)) o.entries
        ∙ height-reply r (continuation_heights (height (a ++ zs)) k) (es ++ floor)

    controls : (c : ControlForm) → erased (placed m (control_place c p h k) (a ++ zs))
        ≡ height_entries (after_control c (height (a ++ zs) h) (continuation_heights (height (a ++ zs)) k) (es ++ floor))
    controls c = control-height clauses p h k (a ++ zs) s.carried c
        ∙ ap (height_control c (height (a ++ zs) h) (continuation_heights (height (a ++ zs)) k)) o.entries
        ∙ height-control c (height (a ++ zs) h) (continuation_heights (height (a ++ zs)) k) (es ++ floor)

    -- a ball that lands above the floor
    ball_inferred : (b : Term) (st : List Entry) → act clauses x ≡ Infers (Seek (Thrown b (first_mark k.items) p))
        → caught_own (length floor) (unwound b (first_mark (continuation_heights (height (a ++ zs)) k).items) (es ++ floor)) ≡ Some st
        → Inferred (x ∷ a) st
    ball_inferred b st e f = go (unwound b (first_mark (continuation_heights (height (a ++ zs)) k).items) (es ++ floor)) refl f
      where
        q : Sought
        q = Thrown b (first_mark k.items) p

        lands : (g : Continuation ℕ) (ds : List Entry) → erased (search_for m (Thrown b (first_mark k.items) p) (a ++ zs))
            ≡ height_entries (PlainEntry g ∷ ds) → length floor ≤ length ds → Split clauses (Thrown b (first_mark k.items) p) a
            → Inferred (x ∷ a) (PlainEntry g ∷ ds)
        lands g ds c l (inl r) = seek_inferred x (Thrown b (first_mark k.items) p) a r.0 (PlainEntry g ∷ ds) e r.1 inner whole c
        lands g ds c l (inr r) = deep (search_for m r.0 zs) (low clauses r.0 zs r.1) (ap erased (sym (r.2 zs)) ∙ c)
          where
            deep : (ls : List Element) → Low clauses ls (element_count zs) → erased ls ≡ height_entries (PlainEntry g ∷ ds)
                → Inferred (x ∷ a) (PlainEntry g ∷ ds)
            deep ls (inl t) w =
                let size : suc (element_count t.2) ≡ suc (length ds) = sym (length-erased (Plain t.0 t.1 ∷ t.2))
                ∙ ap (λ z. length (erased z)) (sym t.3) ∙ ap length w ∙ length-height (PlainEntry g ∷ ds) in
                absurd (omega (arith, size, t.4, l, floor_size clauses inside grown zs floor fl))
            deep ls (inr t) w = absurd (ended t.1 (sym (ap erased t.2) ∙ w))
              where
                ended : (c : Option Term) → ◌≡◌ {A = List HeightElement} (HeightEntry (EndEntry c) ∷ [])
                    (HeightEntry (PlainEntry g) ∷ height_entries ds) → ⊥
                ended c v = cc

        go : (st2 : List Entry) → unwound b (first_mark (continuation_heights (height (a ++ zs)) k).items) (es ++ floor) ≡ st2
            → caught_own (length floor) st2 ≡ Some st → Inferred (x ∷ a) st
        go [] c f = none-some st f
        go (CatchEntry y r g ∷ ds) c f = none-some st f
        go (FindallEntry results l g ∷ ds) c f = none-some st f
        go (EndEntry y ∷ ds) c f = none-some st f
        go (PlainEntry g ∷ ds) c f = test (nat_le (length floor) (length ds)) refl f
          where
            test : (t : Bool) → nat_le (length floor) (length ds) ≡ t → cond t (Some (PlainEntry g ∷ ds)) None ≡ Some st
                → Inferred (x ∷ a) st
            test false d f = none-some st f
            test true d f = subst (Inferred (x ∷ a)) (some-same (PlainEntry g ∷ ds) st f)
                (lands g ds (replies (Ball b) ∙ ap height_entries c) (reaches (length floor) (length ds) d)
                (split clauses (Thrown b (first_mark k.items) p) a tt))

    cut_inferred : (st : List Entry) → act clauses x ≡ Infers (Seek (Scope h (Plain p k))) → own_control CutToScope (height (a ++ zs) h)
        (continuation_heights (height (a ++ zs)) k) (es ++ floor) (length floor) ≡ Some st → Inferred (x ∷ a) st
    cut_inferred st e f = test (nat_lt (height (a ++ zs) h) (length floor)) refl f
      where
        lands : length floor ≤ height (a ++ zs) h → after_control CutToScope (height (a ++ zs) h)
            (continuation_heights (height (a ++ zs)) k)
            (es ++ floor) ≡ st → Seam a h → Inferred (x ∷ a) st
        lands l c (inl r) = seek_inferred x (Scope h (Plain p k)) a (Plain p k ∷ from a h) st e
            (search-in-from clauses (Plain p k) a h r.0 r.1) inner whole (controls CutToScope ∙ ap height_entries c)
        lands l c (inr r) =
            let here = s.carried.present.0 in
            let deep : suc (height zs h) ≤ element_count zs = deepest h far here.0 (sym (r zs) ∙ here.1) in
            let same : height (a ++ zs) h ≡ height zs h = ap element_count (r zs) in
            absurd (omega (arith, deep, same, l, floor_size clauses inside grown zs floor fl))

        test : (t : Bool) → nat_lt (height (a ++ zs) h) (length floor) ≡ t
            → cond t None (Some (after_control CutToScope (height (a ++ zs) h) (continuation_heights (height (a ++ zs)) k) (es ++ floor)))
            ≡ Some st → Inferred (x ∷ a) st
        test true d f = none-some st f
        test false d f = lands (above (height (a ++ zs) h) (length floor) d) (some-same _ st f) (seam a h)

    goal_inferred : (c : Outcome) (st : List Entry) → act clauses x ≡ goal_act clauses c p h k
        → own_goal c (height (a ++ zs) h) (continuation_heights (height (a ++ zs)) k) (es ++ floor) (length floor) ≡ Some st
        → Inferred (x ∷ a) st
    goal_inferred (Replies (Solutions ss)) st e f = put_inferred x _ a st e inner whole
        (replies (Solutions ss) ∙ ap height_entries (some-same _ st f))
    goal_inferred (Replies (Ball b)) st e f = ball_inferred b st e f
    goal_inferred (Replies (HaltNumber n)) st e f = none-some st f
    goal_inferred (AskWorld g) st e f = none-some st f
    goal_inferred (Controls CutToScope) st e f = cut_inferred st e f
    goal_inferred (Controls (GoesOnWith gs)) st e f = put_inferred x _ a st e inner whole
        (controls (GoesOnWith gs) ∙ ap height_entries (some-same _ st f))
    goal_inferred (Controls (EitherOf gs others)) st e f = put_inferred x _ a st e inner whole
        (controls (EitherOf gs others) ∙ ap height_entries (some-same _ st f))
    goal_inferred (Controls (TestOf gs thens others)) st e f = put_inferred x _ a st e inner whole
        (controls (TestOf gs thens others) ∙ ap height_entries (some-same _ st f))
    goal_inferred (Controls (CatchOf g c r)) st e f = put_inferred x _ a st e inner whole
        (controls (CatchOf g c r) ∙ ap height_entries (some-same _ st f))
    goal_inferred (Controls (FindallOf t g l)) st e f = put_inferred x _ a st e inner whole
        (controls (FindallOf t g l) ∙ ap height_entries (some-same _ st f))

  item_inferred : (items : List (Item Name)) (p : Name) (f : Continuation Name) (a : List Element) (es st : List Entry)
      → Each (IsItemFar own) items → Own a es → Each (IsInner inside) (Plain p (with_items items f) ∷ a)
      → IsSound (Plain p (with_items items f) ∷ (a ++ zs))
      → own_item clauses (map (with_height (height (a ++ zs))) items) (continuation_heights (height (a ++ zs)) (with_items items f))
      (es ++ floor) (length floor) ≡ Some st → Inferred (Plain p (with_items items f) ∷ a) st
  item_inferred [] p f a es st far o h i e = none-some st e
  item_inferred (CatchMark c ∷ items) p f a es st far o h i e = none-some st e
  item_inferred (CollectMark t c ∷ items) p f a es st far o h i e = none-some st e
  item_inferred (RemovalItem n ∷ items) p f a es st far o h i e = none-some st e
  item_inferred (GoalItem g c ∷ items) p f a es st far o h i e =
      goal_inferred (Plain p (with_items (GoalItem g c ∷ items) f)) p c (with_items items f) a es o h i
      (record { carried = i.0.carried; marks = i.0.marks.1; findalls = i.0.findalls }) far.0 (outcome_of clauses g f.next) st refl e

  takes : (a : List Element) (es st : List Entry) → Each (IsFar own) a → Own a es → own_taken clauses floor es ≡ Some st → Inferred a st
  takes [] [] st far o e = none-some st e
  takes [] (d ∷ es) st far o e = absurd
      (omega (arith, own_size clauses inside grown zs floor fl [] (d ∷ es) o, floor_size clauses inside grown zs floor fl))
  takes (EndOf s ∷ a) es st far o e =
      let r = takes a es st far.1 (record { sound = o.sound; inner = o.inner.1; entries = o.entries }) e in (
        r.0,
        private_drops 1 (EndOf s) [] [] a r.0 refl
            (subst (λ l. Private m (is_inner_record inside) 1 [] l r.0) (sym (map-none m a)) r.1),
        r.2,
      )
  takes (Credit k rs ∷ a) es st far o e = no_credit clauses inside grown zs floor fl k _ (erased (a ++ zs)) (es ++ floor) o.entries
  takes (Plain p f ∷ a) [] st far o e = none-some st e
  takes (Plain p f ∷ a) (d ∷ es) st far o e =
      let c : Entry = PlainEntry (continuation_heights (height (a ++ zs)) f) in
      let same : d ≡ c = head-is clauses inside grown zs floor fl c d (erased (a ++ zs)) (height_entries (es ++ floor)) o.entries in
      let rest : Own a es = later clauses inside grown zs floor fl (Plain p f) a d c es o.sound.1 o refl in
      item_inferred f.items p f a es st far.0.1 rest o.inner o.sound (sym (ap (λ y. own_taken clauses floor (y ∷ es)) same) ∙ e)
  takes (Catch s u t r p f ∷ a) [] st far o e = none-some st e
  takes (Catch s u t r p f ∷ a) (d ∷ es) st far o e =
      let same = head-is clauses inside grown zs floor fl (CatchEntry t r (continuation_heights (height (a ++ zs)) f)) d (erased (a ++ zs))
      (height_entries (es ++ floor)) o.entries in
      none-some st (sym (ap (λ y. own_taken clauses floor (y ∷ es)) same) ∙ e)
  takes (Findall s u results list p f ∷ a) [] st far o e = none-some st e
  takes (Findall s u results list p f ∷ a) (d ∷ es) st far o e =
      let same = head-is clauses inside grown zs floor fl (FindallEntry results list (continuation_heights (height (a ++ zs)) f)) d
      (erased (a ++ zs)) (height_entries (es ++ floor)) o.entries in
      none-some st (sym (ap (λ y. own_taken clauses floor (y ∷ es)) same) ∙ e)
  takes (End p b ∷ a) [] st far o e = none-some st e
  takes (End p b ∷ a) (d ∷ es) st far o e =
      let same = head-is clauses inside grown zs floor fl (EndEntry b) d (erased (a ++ zs)) (height_entries (es ++ floor)) o.entries in
      none-some st (sym (ap (λ y. own_taken clauses floor (y ∷ es)) same) ∙ e)

  -- the run
  one_more : (k : ℕ) (a b : List Element) (es after : List Entry) → Each (IsFar own) a → Private m (is_inner_record inside) k [] a b
      → Own b es → (o : Option (List Entry)) → own_taken clauses floor es ≡ o → own_left floor o ≡ Some after
      → RunsPrivately clauses inside (suc k) a zs after floor
  one_more k a b es after far r o None t e = none-some after e
  one_more k a b es after far r o (Some st) t e =
      let next = takes b es st (private-ok m (is_inner_record inside) (IsFar own) (IsSoughtFar clauses own) IsAnyRecord
      (far_closed clauses own) (far_stands clauses own) k [] a b r far) o t in
      let rest = own-free_taken clauses inside grown zs floor fl next.0 (own_part floor st) next.2 in
      let one : k + 1 ≡ suc k = omega arith in
      let none : (k + 1) + 0 ≡ suc k = omega arith in
      let two = private-then m (is_inner_record inside) 0 (k + 1) [] [] a next.0 rest.0
      (private-then m (is_inner_record inside) 1 k [] [] a b next.0 r next.1) rest.1 in
      record {
        left = rest.0;
        private = subst (λ n. Private m (is_inner_record inside) n [] a rest.0) none two;
        stands = subst (λ l. Own rest.0 l)
            (some-same _ after e) rest.2;
      }

  pub runs_privately : (k : ℕ) (es after : List Entry) (a : List Element) → Each (IsFar own) a → Own a es → own_run clauses floor k es
      ≡ Some after → RunsPrivately clauses inside k a zs after floor
  runs_privately zero es after a far o e =
      let r = own-free_taken clauses inside grown zs floor fl a es o in
      record { left = r.0; private = r.1; stands = subst (λ l. Own r.0 l) (some-same _ after e) r.2 }
  runs_privately (suc k) es after a far o e = go (own_run clauses floor k es) e (λ ds f. runs_privately k es ds a far o f)
    where
      go : (d : Option (List Entry)) → own_more clauses floor d ≡ Some after
          → ((ds : List Entry) → d ≡ Some ds → RunsPrivately clauses inside k a zs ds floor)
          → RunsPrivately clauses inside (suc k) a zs after floor
      go None e next = none-some after e
      go (Some ds) e next = let r = next ds refl in one_more k a r.left ds after far r.private r.stands (own_taken clauses floor ds) refl e

-- over a floor that begins with an entry
pub own_runs : (clauses : List Clause) → OwnRuns clauses
own_runs clauses inside floor zs grown fl k es after a o e =
    runs_privately clauses inside grown zs floor (record { under = fl.under; entries = fl.entries }) (λ s. false)
    (λ s f t q. floor-low zs s t fl.first q) k es after a (nothing_far a) o e
