-- Steps and free steps keep what was made inside, inside.
use Rattle.std.proofs.Common.{◌≡◌, zero, suc, Bool, false, List, [], ◌∷◌, refl, subst}
use Rattle.run_model.specs.Programs.Clauses.{Clause}
use Rattle.run_model.specs.Goals.GoalOutcomes.{outcome_of}
use Rattle.run_model.specs.Goals.Outcomes.{Solutions, Ball, HaltNumber, Outcome, Replies, Controls, AskWorld}
use Rattle.run_model.specs.Machine.Items.{Item, GoalItem, CatchMark, CollectMark, RemovalItem, Continuation, with_items, without_marks}
use Rattle.interleaving.specs.Machine.{Drops, Becomes}
use Rattle.tree_model.specs.Elements.{Name, Record, Element, Credit, Plain, EndOf, Catch, Findall, End}
use Rattle.interleaving.specs.Scopes.{Does, goal_act, unmarked, item_act, act, results_first, without_catch_marks, scoped}
use Rattle.interleaving.specs.Segments.{IsActive}
use Rattle.std.specs.Prelude.{codes}
use Rattle.au_model.specs.Terms.Forms.{binary, list_term}
use Rattle.interleaving.specs.Views.{IsInner}
use Rattle.interleaving.proofs.EarlyLemmas.{Ground}
use Rattle.interleaving.proofs.InsideLemmas.{passed_credit}

-- anything, or nothing, may be under a segment
abbrev pub any_ground : (clauses : List Clause) → Ground (scoped clauses)
any_ground clauses = record {
  Under = λ x. Unit {0};
  given = λ r x h. tt;
  credit = Credit;
  spent = λ rs. refl;
  spends = λ k rs.
      refl;
  fixed = λ r k rs. refl;
  passed = passed_credit clauses (λ s. false);
}

abbrev pub no_ground : (clauses : List Clause) → Ground (scoped clauses)
no_ground clauses = record {
  Under = λ x. ⊥;
  given = λ r x h. h;
  credit = Credit;
  spent = λ rs. refl;
  spends = λ k rs. refl;
  fixed = λ r
      k rs. refl;
  passed = passed_credit clauses (λ s. false);
}

-- what wakes is active
pub goal-active : (clauses : List Clause) (o : Outcome) (p h : Name) (f : Continuation Name) → IsActive (goal_act clauses o p h f)
goal-active clauses (Replies (Solutions ss)) p h f = tt
goal-active clauses (Replies (Ball t)) p h f = tt
goal-active clauses (Replies (HaltNumber n)) p h f = tt
goal-active clauses (Controls form) p h f = tt
goal-active clauses (AskWorld g) p h f = tt

becomes-same : (x y : Element) → ◌≡◌ {A = Does} (Becomes x) (Becomes y) → x ≡ y
becomes-same x y e = cc

active-at : (clauses : List Clause) (x y : Element) → IsActive (act clauses x) → ◌≡◌ {A = Does} (Becomes x) (Becomes y)
    → IsActive (act clauses y)
active-at clauses x y h e = subst (λ z. IsActive (act clauses z)) (becomes-same x y e) h

goal-become : (clauses : List Clause) (o : Outcome) (p h : Name) (f : Continuation Name) (y : Element) → goal_act clauses o p h f
    ≡ Becomes y → ⊥
goal-become clauses (Replies (Solutions ss)) p h f y e = absurd cc
goal-become clauses (Replies (Ball t)) p h f y e = absurd cc
goal-become clauses (Replies (HaltNumber n)) p h f y e = absurd cc
goal-become clauses (Controls form) p h f y e = absurd cc
goal-become clauses (AskWorld g) p h f y e = absurd cc

unmarked-become : (clauses : List Clause) (items : List (Item Name)) (p : Name) (f : Continuation Name) (y : Element)
    → unmarked (without_marks items) p f ≡ Becomes y → IsActive (act clauses y)
unmarked-become clauses [] p f y e = active-at clauses (Plain p (with_items [] f)) y tt e
unmarked-become clauses (GoalItem g h ∷ items) p f y e = active-at clauses (Plain p (with_items (GoalItem g h ∷ items) f)) y
    (goal-active clauses (outcome_of clauses g f.next) p h (with_items items f)) e
unmarked-become clauses (RemovalItem n ∷ items) p f y e = active-at clauses (Plain p (with_items (RemovalItem n ∷ items) f)) y tt e
unmarked-become clauses (CatchMark s ∷ items) p f y e = unmarked-become clauses items p f y e
unmarked-become clauses (CollectMark t s ∷ items) p f y e = absurd cc

item-become : (clauses : List Clause) (items : List (Item Name)) (p : Name) (f : Continuation Name) (y : Element)
    → item_act clauses items p f ≡ Becomes y → IsActive (act clauses y)
item-become clauses [] p f y e = absurd cc
item-become clauses (GoalItem g h ∷ items) p f y e = absurd (goal-become clauses (outcome_of clauses g f.next) p h (with_items items f) y e)
item-become clauses (RemovalItem n ∷ items) p f y e = absurd cc
item-become clauses (CatchMark s ∷ items) p f y e = unmarked-become clauses items p f y e
item-become clauses (CollectMark t s ∷ items) p f y e = absurd cc

pub become_active : (clauses : List Clause) (x y : Element) → act clauses x ≡ Becomes y → IsActive (act clauses y)
become_active clauses (Credit zero rs) y e = absurd cc
become_active clauses (Credit (suc k) rs) y e = absurd cc
become_active clauses (EndOf s) y e = absurd cc
become_active clauses (Catch s u c r p f) y e = absurd cc
become_active clauses (End p b) y e = absurd cc
become_active clauses (Findall s u results list p f) y e =
    let g : Continuation Name = results_first results list u f in
    active-at clauses (Plain p g) y
    (goal-active clauses (outcome_of clauses (binary (codes "=") list (list_term results)) f.next) p u (with_items f.items g)) e
become_active clauses (Plain p f) y e = item-become clauses f.items p f y e

-- what is left standing still goes
unmarked-stands : (clauses : List Clause) (items : List (Item Name)) (p : Name) (f g : Continuation Name) (new : List Record)
    → unmarked items p f ≡ Drops new → item_act clauses items p g ≡ Drops new
unmarked-stands clauses [] p f g new e = absurd cc
unmarked-stands clauses (GoalItem t h ∷ items) p f g new e = absurd cc
unmarked-stands clauses (RemovalItem n ∷ items) p f g new e = absurd cc
unmarked-stands clauses (CatchMark s ∷ items) p f g new e = absurd cc
unmarked-stands clauses (CollectMark t s ∷ items) p f g new e = e

goal-erases : (clauses : List Clause) (o : Outcome) (p h : Name) (f : Continuation Name) (new : List Record) → goal_act clauses o p h f
    ≡ Drops new → ⊥
goal-erases clauses (Replies (Solutions ss)) p h f new e = absurd cc
goal-erases clauses (Replies (Ball t)) p h f new e = absurd cc
goal-erases clauses (Replies (HaltNumber n)) p h f new e = absurd cc
goal-erases clauses (Controls form) p h f new e = absurd cc
goal-erases clauses (AskWorld g) p h f new e = absurd cc

item-erases : (clauses : List Clause) (items : List (Item Name)) (p : Name) (f : Continuation Name) (new : List Record)
    → item_act clauses items p f ≡ Drops new → item_act clauses (without_marks items) p (with_items (without_marks items) f)
    ≡ Drops new
item-erases clauses [] p f new e = absurd cc
item-erases clauses (GoalItem g h ∷ items) p f new e = absurd
    (goal-erases clauses (outcome_of clauses g f.next) p h (with_items items f) new e)
item-erases clauses (RemovalItem n ∷ items) p f new e = absurd cc
item-erases clauses (CatchMark s ∷ items) p f new e = unmarked-stands clauses (without_marks items) p f
    (with_items (without_marks items) f) new e
item-erases clauses (CollectMark t s ∷ items) p f new e = e

pub still_drops : (clauses : List Clause) (x : Element) (new : List Record) → act clauses x ≡ Drops new
    → act clauses (without_catch_marks x) ≡ Drops new
still_drops clauses (Plain p f) new e = item-erases clauses f.items p f new e
still_drops clauses (Credit k rs) new e = e
still_drops clauses (EndOf s) new e = e
still_drops clauses (Catch s u c r p f) new e = e
still_drops clauses (Findall s u results list p f) new e = e
still_drops clauses (End p b) new e = e

pub inner_stands : (inside : Name → Bool) (x : Element) → IsInner inside x → IsInner inside (without_catch_marks x)
inner_stands inside (Plain p f) h = h
inner_stands inside (Credit k rs) h = h
inner_stands inside (EndOf s) h = h
inner_stands inside (Catch s u c r p f) h = h
inner_stands inside (Findall s u results list p f) h = h
inner_stands inside (End p b) h = h
