-- What an entry does by itself, with heights: the steps of the sequential machine on its own entries, over a floor of
-- entries that stay as they are.
use Rattle.std.specs.Prelude.{ℕ, zero, suc, Bool, cond, List, [], ◌∷◌, ◌++◌, length, nat_lt, nat_le, Option, Some, None, ◌≡◌}
use Rattle.au_model.specs.Terms.Each.{Each}
use Rattle.run_model.specs.Programs.Clauses.{Clause}
use Rattle.run_model.specs.Goals.Outcomes.{Solutions, Ball, HaltNumber, ControlForm, GoesOnWith, EitherOf, TestOf, CutToScope, CatchOf}
use Rattle.run_model.specs.Goals.Outcomes.{FindallOf, Outcome, Replies, Controls, AskWorld}
use Rattle.run_model.specs.Goals.GoalOutcomes.{outcome_of}
use Rattle.run_model.specs.Machine.Items.{Item, GoalItem, CatchMark, CollectMark, RemovalItem, Continuation, with_items}
use Rattle.run_model.specs.Machine.Items.{first_mark}
use Rattle.run_model.specs.Machine.Entries.{Entry, PlainEntry, CatchEntry, FindallEntry, EndEntry}
use Rattle.run_model.specs.Machine.Balls.{unwound}
use Rattle.run_model.specs.Machine.Heights.{after_reply, after_control}
use Rattle.tree_model.specs.PrivateRuns.{own_at_rest, own_part}
use Rattle.tree_model.specs.Elements.{Name, Element, Credit, Plain, EndOf, Catch, Findall, End}
use Rattle.interleaving.specs.Scopes.{scoped}
use Rattle.interleaving.specs.Segments.{Private}
use Rattle.interleaving.specs.Views.{IsGrown, IsInner, IsUnder}
use Rattle.interleaving.specs.Laws.{is_inner_record}
use Rattle.interleaving.specs.HeightMachine.{height_entries}
use Rattle.interleaving.specs.Erased.{erased}
use Rattle.interleaving.specs.Sound.{IsSound}

-- a ball that lands among the own entries
abbrev pub caught_own : ℕ → List Entry → Option (List Entry)
caught_own low (PlainEntry f ∷ es) = cond (nat_le low (length es)) (Some (PlainEntry f ∷ es)) None
caught_own low es = None

-- a cut to an own entry
abbrev pub own_control : ControlForm → ℕ → Continuation ℕ → List Entry → ℕ → Option (List Entry)
own_control CutToScope h f es low = cond (nat_lt h low) None (Some (after_control CutToScope h f es))
own_control (GoesOnWith gs) h f es low = Some (after_control (GoesOnWith gs) h f es)
own_control (EitherOf gs others) h f es low = Some (after_control (EitherOf gs others) h f es)
own_control (TestOf gs thens others) h f es low = Some (after_control (TestOf gs thens others) h f es)
own_control (CatchOf g c r) h f es low = Some (after_control (CatchOf g c r) h f es)
own_control (FindallOf t g l) h f es low = Some (after_control (FindallOf t g l) h f es)

-- the stack that a goal leaves; none where it is a gate
abbrev pub own_goal : Outcome → ℕ → Continuation ℕ → List Entry → ℕ → Option (List Entry)
own_goal (Replies (Solutions ss)) h f es low = Some (after_reply (Solutions ss) f es)
own_goal (Replies (Ball b)) h f es low = caught_own low (unwound b (first_mark f.items) es)
own_goal (Replies (HaltNumber k)) h f es low = None
own_goal (Controls form) h f es low = own_control form h f es low
own_goal (AskWorld g) h f es low = None

abbrev pub own_item : List Clause → List (Item ℕ) → Continuation ℕ → List Entry → ℕ → Option (List Entry)
own_item clauses (GoalItem g h ∷ items) f es low = own_goal (outcome_of clauses g f.next) h (with_items items f) es low
own_item clauses [] f es low = None
own_item clauses (CatchMark h ∷ items) f es low = None
own_item clauses (CollectMark t h ∷ items) f es low = None
own_item clauses (RemovalItem number ∷ items) f es low = None

abbrev pub own_taken : List Clause → List Entry → List Entry → Option (List Entry)
own_taken clauses floor [] = None
own_taken clauses floor (PlainEntry f ∷ es) = own_item clauses f.items f (es ++ floor) (length floor)
own_taken clauses floor (CatchEntry c r f ∷ es) = None
own_taken clauses floor (FindallEntry results l f ∷ es) = None
own_taken clauses floor (EndEntry b ∷ es) = None

abbrev pub own_left : List Entry → Option (List Entry) → Option (List Entry)
own_left floor None = None
own_left floor (Some st) = Some (own_at_rest floor (own_part floor st))

abbrev pub own_more : List Clause → List Entry → Option (List Entry) → Option (List Entry)
own_more clauses floor None = None
own_more clauses floor (Some es) = own_left floor (own_taken clauses floor es)

-- so many inferences, and the free steps after them
abbrev pub own_run : List Clause → List Entry → ℕ → List Entry → Option (List Entry)
own_run clauses floor zero es = Some (own_at_rest floor es)
own_run clauses floor (suc k) es = own_more clauses floor (own_run clauses floor k es)

-- no end of a scope comes first
abbrev pub IsFloor : List Element → Type 0
IsFloor [] = Unit {0}
IsFloor (EndOf s ∷ zs) = ⊥
IsFloor (Credit k rs ∷ zs) = Unit {0}
IsFloor (Plain p f ∷ zs) = Unit {0}
IsFloor (Catch s u c r p f ∷ zs) = Unit {0}
IsFloor (Findall s u results list p f ∷ zs) = Unit {0}
IsFloor (End p b ∷ zs) = Unit {0}

-- own entries by names, over a floor by names
pub record NamesEntries (inside : Name → Bool) (a zs : List Element) (es floor : List Entry) : Type 0 where
  pub sound : IsSound (a ++ zs)
  pub inner : Each (IsInner inside) a
  pub entries : erased (a ++ zs) ≡ height_entries (es ++ floor)

pub record IsFloorUnder (inside : Name → Bool) (zs : List Element) (floor : List Entry) : Type 0 where
  pub under : Each (IsUnder inside) zs
  pub entries : erased zs ≡ height_entries floor

pub record IsFloorOf (inside : Name → Bool) (zs : List Element) (floor : List Entry) : Type 0 where
  pub under : Each (IsUnder inside) zs
  pub first : IsFloor zs
  pub entries : erased zs ≡ height_entries floor

-- a private run with heights is one by names
pub record RunsPrivately (clauses : List Clause) (inside : Name → Bool) (k : ℕ) (a zs : List Element) (es floor : List Entry) : Type 0 where
  pub left : List Element
  pub private : Private (scoped clauses) (is_inner_record inside) k [] a left
  pub stands : NamesEntries inside left zs es floor

abbrev pub OwnRuns : List Clause → Type 0
OwnRuns clauses =
    (inside : Name → Bool) (floor : List Entry) (zs : List Element) → IsGrown inside → IsFloorOf inside zs floor
    → (k : ℕ) (es after : List Entry) (a : List Element) → NamesEntries inside a zs es floor → own_run clauses floor k es ≡ Some after
    → RunsPrivately clauses inside k a zs after floor
