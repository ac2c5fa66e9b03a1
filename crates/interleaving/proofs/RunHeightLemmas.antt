-- The run by names is the run by heights.
use Rattle.std.proofs.Common.{◌≡◌, ℕ, zero, suc, ◌+◌, Bool, cond, List, [], ◌∷◌, ◌++◌, map, Option, Some, None, refl, sym, ap, ◌∙◌, subst}
use Rattle.au_term.specs.Term.{Term}
use Rattle.run_model.specs.Programs.Clauses.{Clause}
use Rattle.run_model.specs.Programs.Databases.{Database, without_clause}
use Rattle.run_model.specs.Goals.Worlds.{World, world_step}
use Rattle.run_model.specs.Programs.Jobs.{Query, Job, own_terms, query_bound}
use Rattle.run_model.specs.Machine.States as states
use Rattle.run_model.specs.Machine.Runs.{seq}
use Rattle.run_model.specs.Goals.GoalOutcomes.{outcome_of}
use Rattle.run_model.specs.Goals.Outcomes.{Reply, Solutions, Ball, HaltNumber, Outcome, Replies, Controls, AskWorld}
use Rattle.run_model.specs.Machine.Items.{Item, GoalItem, CatchMark, CollectMark, RemovalItem, Continuation, with_items, goals_at}
use Rattle.run_model.specs.Machine.Items.{without_marks}
use Rattle.run_model.specs.Machine.Items.{first_mark}
use Rattle.run_model.specs.Machine.Entries.{Entry, PlainEntry, EndEntry, solution_entries}
use Rattle.interleaving.specs.Machine.{Machine, is_finished, placed, acted, free_steps, step, run, seen}
use Rattle.tree_model.specs.Elements.{Name, Record, Element, Credit, Plain, EndOf, Catch, Findall, End}
use Rattle.interleaving.specs.Scopes.{Shared, Sought, first_shared, reply_place, control_place, goal_act, removed, unmarked}
use Rattle.interleaving.specs.Scopes.{opened_elements, act}
use Rattle.interleaving.specs.Scopes.{scoped}
use Rattle.interleaving.specs.Segments.{IsActive}
use Rattle.interleaving.specs.HeightMachine.{HeightElement, HeightEntry, HeightState, height_entries, height_reply, height_control}
use Rattle.interleaving.specs.HeightMachine.{height_goal}
use Rattle.interleaving.specs.HeightMachine.{height_removed, height_item, height_unwound, height_at_rest, height_inference, height_run}
use Rattle.interleaving.specs.Erased.{element_count, height, with_height, continuation_heights, erased}
use Rattle.interleaving.specs.Sound.{names, IsEntrySound, IsSound}
use Rattle.interleaving.specs.Counted.{counted_steps}
use Rattle.interleaving.specs.SequentialHeights.{height_after}
use Rattle.interleaving.specs.Readings.{HeightsRun, NamesAreFree, has_ended, AlikeCounts, opening_list, IsNamedRun}
use Rattle.interleaving.proofs.NamingLemmas.{length-erased, from_own}
use Rattle.interleaving.proofs.PlaceHeightLemmas.{solutions-height, control-height}
use Rattle.interleaving.proofs.BallHeightLemmas.{unwound-height, mark-heights, mark-guarded}
use Rattle.interleaving.proofs.CarriedLemmas.{entry_rest}
use Rattle.interleaving.proofs.PreservedLemmas.{control-sound, reply-sound, opened-sound}
use Rattle.interleaving.proofs.FreeStepHeightLemmas.{IsRested, IsFreed, take_free-height}
use Rattle.interleaving.proofs.SequentialHeightLemmas.{seq_height}

pub goals-at : (h : Name → ℕ) (p : Name) (gs : List Term) → map (with_height h) (goals_at p gs) ≡ goals_at (h p) gs
goals-at h p [] = refl
goals-at h p (g ∷ gs) = ap (λ l. GoalItem g (h p) ∷ l) (goals-at h p gs)

-- the next query
pub opened-height : (p : Name) (qs : List Query) → erased (opened_elements p qs) ≡ height_entries (states.opened qs)
opened-height p [] = refl
opened-height p (q ∷ qs) =
    let zs : List Element = EndOf p ∷ End (1 ∷ p) None ∷ [] in
    ap (λ is. HeightEntry (PlainEntry (record { items = is; named = own_terms q.names; next = query_bound q })) ∷ HeightEntry
    (EndEntry None) ∷ []) (goals-at (height zs) p q.goals
    ∙ ap (λ n. goals_at n q.goals) (ap element_count (from_own p (End (1 ∷ p) None ∷ []))))

module _ (clauses : List Clause) where
  abbrev m : Machine Shared Element Sought Record
  m = scoped clauses

  -- a state by names that stands for one by heights
  abbrev pub Pending : Shared × List Element → HeightState → Type 0
  Pending s t = (s.0 ≡ t.0) × IsFreed clauses s.1 t.1

  -- an inference that leaves these, before the free steps
  leaves : (v : Shared) (ys : List Element) (t : HeightState) → v ≡ t.0 → erased ys ≡ t.1 → IsSound ys
      → Pending (v, free_steps m [] ys) (t.0, height_at_rest t.1)
  leaves v ys t w e i = (w, take_free-height clauses ys t.1 e i)

  pub reply-height : (r : Reply) (p : Name) (f : Continuation Name) (xs : List Element) → IsEntrySound p xs (names f.items) f.items
      → IsSound xs → erased (placed m (reply_place r p f) xs) ≡ height_reply r (continuation_heights (height xs) f) (erased xs)
  reply-height (Solutions ss) p f xs s i = solutions-height zero p f ss xs s.carried.older
      ∙ ap (λ n. height_entries (solution_entries n (continuation_heights (height xs) f) ss) ++ erased xs) (sym (length-erased xs))
  reply-height (Ball b) p f xs s i = (unwound-height clauses b p xs).0 (first_mark f.items) i (mark-guarded xs f.items s.marks)
      ∙ ap (λ k. height_unwound b k (erased xs)) (sym (mark-heights xs f.items))
  reply-height (HaltNumber n) p f xs s i = refl

  goal-erases : (o : Outcome) (p h : Name) (f : Continuation Name) (x : Element) (xs : List Element) (w : Shared)
      → IsEntrySound p xs (h ∷ names f.items) f.items → IsSound xs
      → let t = height_goal clauses o (height xs h) (continuation_heights (height xs) f) (erased xs) w in Pending
      (acted m (goal_act clauses o p h f) w x xs) (t.0, height_at_rest t.1)
  goal-erases (Replies (Solutions ss)) p h f x xs w s i =
      let rest = entry_rest p xs h f.items s in
      leaves w (placed m (reply_place (Solutions ss) p f) xs)
      (w, height_reply (Solutions ss) (continuation_heights (height xs) f) (erased xs))
      refl (reply-height (Solutions ss) p f xs rest i) (reply-sound clauses (Solutions ss) p f xs rest i)
  goal-erases (Replies (Ball b)) p h f x xs w s i =
      let rest = entry_rest p xs h f.items s in
      leaves w (placed m (reply_place (Ball b) p f) xs) (w, height_reply (Ball b) (continuation_heights (height xs) f) (erased xs)) refl
      (reply-height (Ball b) p f xs rest i) (reply-sound clauses (Ball b) p f xs rest i)
  goal-erases (Replies (HaltNumber n)) p h f x xs w s i = leaves _ [] (record w { halted = Some n }, []) refl refl tt
  goal-erases (Controls form) p h f x xs w s i = leaves w (placed m (control_place form p h f) xs)
      (w, height_control form (height xs h) (continuation_heights (height xs) f) (erased xs)) refl
      (control-height clauses p h f xs s.carried form)
      (control-sound clauses p h f xs s i form)
  goal-erases (AskWorld g) p h f x xs w s i =
      let rest = entry_rest p xs h f.items s in
      let r : World × Reply = world_step clauses g f.next w.world in
      leaves (record w { world = r.0; halted = states.halt_number r.1 }) (placed m (reply_place r.1 p f) xs)
      (record w { world = r.0; halted = states.halt_number r.1 }, height_reply r.1 (continuation_heights (height xs) f) (erased xs)) refl
      (reply-height r.1 p f xs rest i) (reply-sound clauses r.1 p f xs rest i)

  removal-erases : (o : Option Database) (p : Name) (f : Continuation Name) (xs : List Element) (w : Shared)
      → IsEntrySound p xs (names f.items) f.items → IsSound xs → let a = removed o p f w in let t = height_removed o
      (continuation_heights (height xs) f) (erased xs) w in Pending (a.0, free_steps m [] (placed m a.1 xs)) (t.0, height_at_rest t.1)
  removal-erases None p f xs w s i = leaves w xs (w, erased xs) refl refl i
  removal-erases (Some db) p f xs w s i = leaves _ (Plain p f ∷ xs)
      (record w { world = record w.world { database = db } }, erased (Plain p f ∷ xs)) refl refl (s, i)

  no_rest : (items : List (Item Name)) (p : Name) (f : Continuation Name) → IsActive (unmarked items p f) → ⊥
  no_rest [] p f h = h
  no_rest (GoalItem t s ∷ items) p f h = h
  no_rest (CatchMark s ∷ items) p f h = h
  no_rest (CollectMark t s ∷ items) p f h = h
  no_rest (RemovalItem n ∷ items) p f h = h

  item-erases : (items : List (Item Name)) (p : Name) (f : Continuation Name) (xs : List Element) (w : Shared)
      → IsEntrySound p xs (names items) items → IsSound xs → IsActive (act clauses (Plain p (with_items items f)))
      → let t = height_item clauses (map (with_height (height xs)) items) (continuation_heights (height xs) (with_items items f))
      (erased xs) w in
      Pending (step m w (Plain p (with_items items f) ∷ xs)) (t.0, height_at_rest t.1)
  item-erases [] p f xs w s i a = leaves _ xs (_, erased xs) refl refl i
  item-erases (GoalItem g h ∷ items) p f xs w s i a =
      let rest : IsEntrySound p xs (h ∷ names items) items = record { carried = s.carried; marks = s.marks.1; findalls = s.findalls } in
      goal-erases (outcome_of clauses g f.next) p h (with_items items f) (Plain p (with_items (GoalItem g h ∷ items) f)) xs w rest i
  item-erases (RemovalItem n ∷ items) p f xs w s i a =
      let rest : IsEntrySound p xs (names items) items = record { carried = s.carried; marks = s.marks.1; findalls = s.findalls } in
      removal-erases (without_clause n w.world.database) p (with_items items f) xs w rest i
  item-erases (CatchMark k ∷ items) p f xs w s i a = absurd (no_rest (without_marks items) p (with_items (CatchMark k ∷ items) f) a)
  item-erases (CollectMark t k ∷ items) p f xs w s i a = absurd a

  -- one inference
  step-erases : (xs : List Element) (w : Shared) → IsSound xs → IsRested clauses xs
      → Pending (step m w xs) (height_inference clauses (w, erased xs))
  step-erases [] w i a = (refl, (refl, tt, tt))
  step-erases (Credit zero rs ∷ xs) w i a = absurd a
  step-erases (Credit (suc k) rs ∷ xs) w i a = leaves w (Credit k rs ∷ xs) (w, erased (Credit k rs ∷ xs)) refl refl i
  step-erases (EndOf e ∷ xs) w i a = absurd a
  step-erases (Catch s u c r p f ∷ xs) w i a = absurd a
  step-erases (Findall s u results list p f ∷ xs) w i a = absurd a
  step-erases (Plain p f ∷ xs) w i a = item-erases f.items p f xs w i.0 i.1 a
  step-erases (End p b ∷ xs) w i a = leaves _ (opened_elements p w.queries) (_, height_entries (states.opened w.queries)) refl
      (opened-height p w.queries) (opened-sound p w.queries)

  -- the run
  pub runs-erase : (n : ℕ) (w : Shared) (xs : List Element) (hs : List HeightElement) → IsFreed clauses xs hs
      → Pending (run m n w xs) (height_run clauses n (w, hs))
  runs-erase zero w xs hs f = (refl, f)
  runs-erase (suc n) w xs hs f =
      let s = step m w xs in
      let one : Pending s (height_inference clauses (w, hs)) = subst (λ l. Pending s (height_inference clauses (w, l))) f.0
      (step-erases xs w f.1 f.2) in
      let t = height_inference clauses (w, hs) in
      let same : (s.0, t.1) ≡ t = ap (λ v. (v, t.1)) one.0 in
      subst (λ u. Pending (run m n s.0 s.1) (height_run clauses n u)) same (runs-erase n s.0 s.1 t.1 one.1)

  rested-over : (xs : List Element) → IsRested clauses xs → is_finished (erased xs) ≡ is_finished xs
  rested-over [] h = refl
  rested-over (Credit k rs ∷ xs) h = refl
  rested-over (Plain p f ∷ xs) h = refl
  rested-over (EndOf e ∷ xs) h = absurd h
  rested-over (Catch s u c r p f ∷ xs) h = refl
  rested-over (Findall s u results list p f ∷ xs) h = refl
  rested-over (End p b ∷ xs) h = refl

  pub heights_run : HeightsRun clauses
  heights_run xs i n w =
      let s = run m n w (free_steps m [] xs) in
      let t = height_run clauses n (w, height_at_rest (erased xs)) in
      let a : Pending s t = runs-erase n w (free_steps m [] xs) (height_at_rest (erased xs)) (take_free-height clauses xs (erased xs) refl i) in
      record {
        erases = ap (λ v. (v, erased s.1)) a.0 ∙ ap (λ l. (t.0, l)) a.1.0;
        over = sym (rested-over s.1 a.1.2)
            ∙ ap is_finished a.1.0;
      }

  same-seen : (xs : List Element) → IsSound xs → (n : ℕ) (w : Shared) → seen (run m n w (free_steps m [] xs))
      ≡ seen (height_run clauses n (w, height_at_rest (erased xs)))
  same-seen xs i n w = let r = heights_run xs i n w in ap (λ o. ((run m n w (free_steps m [] xs)).0, o)) r.over
      ∙ ap (λ t. (t.0, is_finished (height_run clauses n (w, height_at_rest (erased xs))).1)) r.erases

  pub names_are_free : NamesAreFree clauses
  names_are_free xs ys i j e n w = same-seen xs i n w ∙ ap (λ hs. seen (height_run clauses n (w, height_at_rest hs))) e
      ∙ sym (same-seen ys j n w)

pub counted-same : (f g : ℕ → Bool) → ((n : ℕ) → f n ≡ g n) → (n : ℕ) → counted_steps f n ≡ counted_steps g n
counted-same f g h zero = refl
counted-same f g h (suc n) = ap (λ k. k + cond (f n) 0 1) (counted-same f g h n) ∙ ap (λ b. counted_steps g n + cond b 0 1) (h n)

pub alike_counts : (clauses : List Clause) → AlikeCounts clauses
alike_counts clauses xs ys a n w = counted-same (has_ended clauses w xs) (has_ended clauses w ys) (λ k. ap (λ s. s.1) (a k w)) n

-- the sequential run by names
pub named_run : (job : Job) (n : ℕ) → IsNamedRun job n
named_run job n =
    let clauses = job.clauses in
    let xs = opening_list job in
    let w = first_shared job in
    let sound : IsSound (opening_list job) = opened-sound [] job.queries in
    let start : erased (opening_list job) ≡ height_entries (states.opened job.queries) = opened-height [] job.queries in
    let state : (k : ℕ) → height_run job.clauses k (first_shared job, height_at_rest (erased (opening_list job)))
    ≡ height_after job k = λ k. ap (λ hs. height_run job.clauses k (first_shared job, height_at_rest hs)) start in
    let same = heights_run job.clauses (opening_list job) sound in
    let q = seq_height job n in
    let ended : (k : ℕ) → is_finished (height_after job k).1 ≡ has_ended job.clauses (first_shared job) (opening_list job) k = λ k.
    sym ((same k (first_shared job)).over ∙ ap (λ t. is_finished t.1) (state k)) in
    record {
      sound = sound;
      state = ap (λ t. t.0) ((same n (first_shared job)).erases ∙ state n) ∙ q.state;
      entries = ap (λ t. t.1) ((same n (first_shared job)).erases ∙ state n) ∙ q.entries;
      over = sym (ended n) ∙ ap is_finished q.entries ∙ over-height (seq job n).entries;
      inferences = q.inferences ∙ counted-same (λ k. is_finished (height_after job k).1)
          (has_ended job.clauses (first_shared job) (opening_list job)) ended n;
    }
  where
    over-height : (es : List Entry) → is_finished (height_entries es) ≡ is_finished es
    over-height [] = refl
    over-height (e ∷ es) = refl
