-- The free steps of own entries over a bare floor, and of what they stand for.
use Rattle.std.proofs.Common.{◌≡◌, ℕ, zero, suc, ◌-◌, ◌≤◌, false, cond, List, [], ◌∷◌, ◌++◌, map, length, refl, sym, ap, ap₂, ◌∙◌, subst, arith}
use Rattle.std.specs.Prelude.{nat_lt, codes}
use Rattle.std.proofs.lemmas.List.{length-map}
use Rattle.au_term.specs.Term.{Term}
use Rattle.au_term.proofs.LogicLemmas.{not_less}
use Rattle.au_model.specs.Terms.Forms.{binary, list_term}
use Rattle.run_model.specs.Machine.Items.{Item, GoalItem, CatchMark, CollectMark, RemovalItem, Continuation, with_items, before, without_marks}
use Rattle.run_model.specs.Machine.Entries.{Entry, PlainEntry, CatchEntry, FindallEntry, EndEntry, collected}
use Rattle.run_model.specs.Machine.FreeSteps.{findall_ends, plain_free_step, free_steps_within, take_free_steps, HaveNoMarkFirst}
use Rattle.run_model.proofs.FreeStepLemmas.{length-collected, result_collects}
use Rattle.tree_model.specs.Levels.{Level}
use Rattle.tree_model.specs.Floors.{floor_of}
use Rattle.tree_model.specs.PrivateRuns.{own_free_step, own_free_steps}
use Rattle.region_floor.specs.Deferred.{Deferred, deferred_now, joined_items, joined_continuation, joined_entry}
use Rattle.region_floor.specs.BareFloors.{bare_floor, AreOwnItems, AreOwn, bare_stack, true_rest, RestsPrivately}
use Rattle.region_floor.proofs.FloorSizeLemmas.{bare-size, floor-size, stack-size}
use Rattle.region_floor.proofs.CollectedLemmas.{collected-over, collected-joined, collected-own}
use Rattle.region_floor.proofs.JoinedLemmas.{marks-joined}

pub marks-own : (n : ℕ) (items : List (Item ℕ)) → AreOwnItems n items → AreOwnItems n (without_marks items)
marks-own n [] o = tt
marks-own n (CatchMark h ∷ items) o = marks-own n items o.1
marks-own n (GoalItem t h ∷ items) o = o
marks-own n (CollectMark t h ∷ items) o = o
marks-own n (RemovalItem k ∷ items) o = o

floor_rests : (n : ℕ) → take_free_steps (bare_floor n) ≡ bare_floor n
floor_rests zero = refl
floor_rests (suc n) = refl

no_mark_first : (items : List (Item ℕ)) (h : ℕ) (rest : List (Item ℕ)) → without_marks items ≡ CatchMark h ∷ rest → ⊥
no_mark_first [] h rest e = cc
no_mark_first (CatchMark k ∷ items) h rest e = no_mark_first items h rest e
no_mark_first (GoalItem t k ∷ items) h rest e = cc
no_mark_first (CollectMark t k ∷ items) h rest e = cc
no_mark_first (RemovalItem k ∷ items) h rest e = cc

module _ (d : Deferred) (levels : List Level) where
  abbrev n : ℕ
  n = length levels

  abbrev floor : List Entry
  floor = floor_of levels

  abbrev now : Continuation ℕ → List (Item ℕ)
  now f = deferred_now d f

  abbrev own_step : List (Item ℕ) → Continuation ℕ → List Entry → List Entry
  own_step items f own = own_free_step items (joined_continuation d f) (map (joined_entry d) own) floor (own_free_steps floor (length (map (joined_entry d) own)))

  -- the items that a step leaves out make no difference
  step-same : (js is : List (Item ℕ)) (f : Continuation ℕ) (own : List Entry) → own_step js f own ≡ own_step js (with_items is f) own
  step-same [] is f own = refl
  step-same (GoalItem t h ∷ js) is f own = refl
  step-same (CatchMark h ∷ js) is f own = refl
  step-same (CollectMark t h ∷ js) is f own = refl
  step-same (RemovalItem k ∷ js) is f own = refl

  -- the marks in front of the top entry are left out
  pub marks-rest : (f : Continuation ℕ) (own : List Entry)
      → true_rest d levels (PlainEntry f ∷ own) ≡ true_rest d levels (PlainEntry (with_items (without_marks f.items) f) ∷ own)
  marks-rest f own =
      ap (λ js. own_step js f own) (marks-joined (now f) f.items)
      ∙ step-same (without_marks (joined_items (now f) (without_marks f.items))) (without_marks f.items) f own

  stays : (f : Continuation ℕ) (own : List Entry) (is : List (Item ℕ)) → without_marks f.items ≡ is → HaveNoMarkFirst is
      → AreOwn n (PlainEntry f ∷ own) → RestsPrivately d levels (PlainEntry f ∷ own) (take_free_steps (bare_stack levels (PlainEntry f ∷ own)))
  stays f own is e m o =
      record {
        left = PlainEntry (with_items is f) ∷ own;
        entries = ap (λ js. plain_free_step js f (bare_stack levels own) (free_steps_within (length (bare_stack levels own)))) e ∙ plain is m;
        are_own = (subst (AreOwnItems n) e (marks-own n f.items o.0), o.1);
        rest = marks-rest f own ∙ ap (λ js. true_rest d levels (PlainEntry (with_items js f) ∷ own)) e;
      }
    where
      plain : (js : List (Item ℕ)) → HaveNoMarkFirst js
          → plain_free_step js f (bare_stack levels own) (free_steps_within (length (bare_stack levels own)))
          ≡ PlainEntry (with_items js f) ∷ bare_stack levels own
      plain [] m = refl
      plain (GoalItem t h ∷ js) m = refl
      plain (RemovalItem k ∷ js) m = refl
      plain (CatchMark h ∷ js) m = absurd m
      plain (CollectMark t h ∷ js) m = absurd m

  collects : (t : Term) (h : ℕ) (items : List (Item ℕ)) (f : Continuation ℕ) (own : List Entry)
      → without_marks f.items ≡ CollectMark t h ∷ items → n ≤ h
      → RestsPrivately d levels (collected (h - n) t own) (take_free_steps (bare_stack levels (collected (h - n) t own)))
      → RestsPrivately d levels (PlainEntry f ∷ own) (take_free_steps (bare_stack levels (PlainEntry f ∷ own)))
  collects t h items f own e l r =
      let size = bare-size n in
      record {
        left = r.left;
        entries = result_collects t h items f (bare_stack levels own) e
            ∙ ap take_free_steps (collected-over h t own (bare_floor n) (omega (arith, l, size))
            ∙ ap (λ k. collected (h - k) t own ++ bare_floor n) size)
            ∙ r.entries;
        are_own = r.are_own;
        rest = marks-rest f own ∙ ap (λ js. true_rest d levels (PlainEntry (with_items js f) ∷ own)) e ∙ given ∙ r.rest;
      }
    where
      low : nat_lt h (length floor) ≡ false
      low = ap (nat_lt h) (floor-size levels) ∙ not_less h n l

      sizes : length (map (joined_entry d) own) ≡ length (map (joined_entry d) (collected (h - n) t own))
      sizes = length-map own (joined_entry d) ∙ sym (length-collected (h - n) t own) ∙ sym (length-map (collected (h - n) t own) (joined_entry d))

      given : true_rest d levels (PlainEntry (with_items (CollectMark t h ∷ items) f) ∷ own) ≡ true_rest d levels (collected (h - n) t own)
      given =
          ap (λ b. cond b (PlainEntry (joined_continuation d (with_items (CollectMark t h ∷ items) f)) ∷ map (joined_entry d) own)
          (own_free_steps floor (length (map (joined_entry d) own)) (collected (h - length floor) t (map (joined_entry d) own)))) low
          ∙ ap (λ k. own_free_steps floor (length (map (joined_entry d) own)) (collected (h - k) t (map (joined_entry d) own))) (floor-size levels)
          ∙ ap₂ (own_free_steps floor) sizes (collected-joined d (h - n) t own)

  findall_rests : (results : List Term) (l : Term) (f : Continuation ℕ) (own : List Entry) → AreOwn n (FindallEntry results l f ∷ own)
      → RestsPrivately d levels (FindallEntry results l f ∷ own) (take_free_steps (bare_stack levels (FindallEntry results l f ∷ own)))
  findall_rests results l f own o =
      record {
        left = findall_ends results l f (bare_stack levels own) ∷ own;
        entries = refl;
        are_own = (o.0, o.1);
        rest = ap (λ k. PlainEntry (before (GoalItem (binary (codes "=") l (list_term results)) k ∷ []) (joined_continuation d f)) ∷ map (joined_entry d) own)
            (stack-size d levels own);
      }

  abbrev Rest : ℕ → Type 0
  Rest k = (own : List Entry) → length own ≤ k → AreOwn n own → RestsPrivately d levels own (take_free_steps (bare_stack levels own))

  top_rests : (k : ℕ) (f : Continuation ℕ) (own : List Entry) → length own ≤ k → AreOwn n (PlainEntry f ∷ own) → Rest k
      → (is : List (Item ℕ)) → without_marks f.items ≡ is → AreOwnItems n is
      → RestsPrivately d levels (PlainEntry f ∷ own) (take_free_steps (bare_stack levels (PlainEntry f ∷ own)))
  top_rests k f own l o below [] e m = stays f own [] e tt o
  top_rests k f own l o below (GoalItem t h ∷ is) e m = stays f own (GoalItem t h ∷ is) e tt o
  top_rests k f own l o below (RemovalItem j ∷ is) e m = stays f own (RemovalItem j ∷ is) e tt o
  top_rests k f own l o below (CatchMark h ∷ is) e m = absurd (no_mark_first f.items h is e)
  top_rests k f own l o below (CollectMark t h ∷ is) e m =
      collects t h is f own e m.0
      (below (collected (h - n) t own) (omega (arith, l, length-collected (h - n) t own)) (collected-own n (h - n) t own o.1))

  rests_within : (k : ℕ) (own : List Entry) → length own ≤ k → AreOwn n own → RestsPrivately d levels own (take_free_steps (bare_stack levels own))
  rests_within k [] l o = record { left = []; entries = floor_rests n; are_own = tt; rest = refl }
  rests_within zero (e ∷ own) l o = absurd (omega arith)
  rests_within (suc k) (CatchEntry c r f ∷ own) l o =
      let s = rests_within k own (omega arith) o.1 in record { left = s.left; entries = s.entries; are_own = s.are_own; rest = s.rest }
  rests_within (suc k) (FindallEntry results g f ∷ own) l o = findall_rests results g f own o
  rests_within (suc k) (EndEntry b ∷ own) l o = absurd o.0
  rests_within (suc k) (PlainEntry f ∷ own) l o =
      top_rests k f own (omega arith) o (λ es m q. rests_within k es m q) (without_marks f.items) refl (marks-own n f.items o.0)

  pub rests_privately : (own : List Entry) → AreOwn n own → RestsPrivately d levels own (take_free_steps (bare_stack levels own))
  rests_privately own o = rests_within (length own) own (omega arith) o
