-- What every legal tree keeps besides: a catch mark is only where the recovery still sleeps, records only below the
-- goal side of a findall, and a query's end with nothing to its right.
use Rattle.std.specs.Prelude.{◌≡◌, ◌⊎◌, ℕ, suc, ◌==◌, ◌&&◌, ◌||◌, Bool, true, false, cond, List, [], ◌∷◌, None}
use Rattle.run_model.specs.Machine.Items.{Item, GoalItem, CatchMark, CollectMark, RemovalItem}
use Rattle.run_model.specs.Machine.Entries.{Entry, PlainEntry, CatchEntry, FindallEntry, EndEntry}
use Rattle.tree_model.specs.Nodes.{Kind, Hold, Ready, TakenBy, Waiting, Dormant, Node, Numbered, Alternatives, none, alternative, Status}
use Rattle.tree_model.specs.Nodes.{Pending, Inner, Closed}
use Rattle.tree_model.specs.Orders.{is_closed}
use Rattle.tree_model.specs.Pruning.{is_findall}
use Rattle.tree_model.specs.Ways.{is_query}
use Rattle.tree_model.specs.TreeStates.{TreeState}

-- whether a recovery sleeps first among these alternatives
abbrev pub is_catch : Hold → Entry → Bool
is_catch Dormant (CatchEntry c r f) = true
is_catch Dormant (FindallEntry results l f) = false
is_catch Dormant (PlainEntry f) = false
is_catch Dormant (EndEntry b) = false
is_catch Ready e = false
is_catch (TakenBy w) e = false
is_catch (Waiting g) e = false

abbrev pub catch_right : Alternatives → Bool
catch_right none = false
catch_right (alternative spent (Pending hold e) others) = is_catch hold e
catch_right (alternative spent (Inner node) others) = false
catch_right (alternative spent (Closed credit) others) = false

abbrev pub with_catch : ℕ → Bool → (ℕ → Bool) → ℕ → Bool
with_catch n here above m = cond (n == m) here (above m)

abbrev pub MarksCaught : (ℕ → Bool) → List (Item ℕ) → Type 0
MarksCaught sleeps [] = Unit {0}
MarksCaught sleeps (CatchMark s ∷ items) = (sleeps s ≡ true) × MarksCaught sleeps items
MarksCaught sleeps (GoalItem t s ∷ items) = MarksCaught sleeps items
MarksCaught sleeps (CollectMark t s ∷ items) = MarksCaught sleeps items
MarksCaught sleeps (RemovalItem number ∷ items) = MarksCaught sleeps items

abbrev pub EntryCaught : (ℕ → Bool) → Entry → Type 0
EntryCaught sleeps (PlainEntry f) = MarksCaught sleeps f.items
EntryCaught sleeps (CatchEntry c r f) = MarksCaught sleeps f.items
EntryCaught sleeps (FindallEntry results l f) = MarksCaught sleeps f.items
EntryCaught sleeps (EndEntry b) = Unit {0}

-- the goal side of a findall
abbrev pub is_side : Kind → ℕ → Bool
is_side kind i = is_findall kind && (i == 0)

-- sleeps: the catch nodes on the way whose recovery sleeps; side: whether this is the goal side of a findall; under:
-- whether one is above
abbrev mutual
  pub IsCaughtNode : (ℕ → Bool) → Bool → Node → Type 0
  IsCaughtNode sleeps under (Numbered n kind alternatives) = AreCaught sleeps under n kind 0 alternatives

  pub AreCaught : (ℕ → Bool) → Bool → ℕ → Kind → ℕ → Alternatives → Type 0
  AreCaught sleeps under n kind i none = Unit {0}
  AreCaught sleeps under n kind i (alternative spent status others) = IsCaught (with_catch n (catch_right others) sleeps)
      (is_side kind i) under status × AreCaught sleeps under n kind (suc i) others

  pub IsCaught : (ℕ → Bool) → Bool → Bool → Status → Type 0
  IsCaught sleeps side under (Pending hold e) = EntryCaught sleeps e
  IsCaught sleeps side under (Inner node) = IsCaughtNode sleeps (side || under) node
  IsCaught sleeps side under (Closed c) = (c.records ≡ []) ⊎ ((side ≡ false) × (under ≡ true))

-- no query, and no end of one
abbrev pub IsNoEnd : Entry → Type 0
IsNoEnd (PlainEntry f) = Unit {0}
IsNoEnd (CatchEntry c r f) = Unit {0}
IsNoEnd (FindallEntry results l f) = Unit {0}
IsNoEnd (EndEntry b) = ⊥

abbrev mutual
  pub HasNoQuery : Status → Type 0
  HasNoQuery (Pending hold e) = IsNoEnd e
  HasNoQuery (Closed c) = Unit {0}
  HasNoQuery (Inner node) = NodeHasNoQuery node

  pub NodeHasNoQuery : Node → Type 0
  NodeHasNoQuery (Numbered n kind alternatives) = (is_query kind ≡ false) × HaveNoQuery alternatives

  pub HaveNoQuery : Alternatives → Type 0
  HaveNoQuery none = Unit {0}
  HaveNoQuery (alternative spent status others) = HasNoQuery status × HaveNoQuery others

-- no query's node
abbrev mutual
  pub HasNoQueryNode : Status → Type 0
  HasNoQueryNode (Pending hold e) = Unit {0}
  HasNoQueryNode (Closed c) = Unit {0}
  HasNoQueryNode (Inner node) = IsNoQueryNode node

  pub IsNoQueryNode : Node → Type 0
  IsNoQueryNode (Numbered n kind alternatives) = (is_query kind ≡ false) × AreNoQueryNodes alternatives

  pub AreNoQueryNodes : Alternatives → Type 0
  AreNoQueryNodes none = Unit {0}
  AreNoQueryNodes (alternative spent status others) = HasNoQueryNode status × AreNoQueryNodes others

-- to the left of a query's node all is closed
abbrev pub IsDoneBefore : Status → Alternatives → Type 0
IsDoneBefore status others = (is_closed status ≡ true) ⊎ AreNoQueryNodes others

-- queries, and their ends, are last
abbrev mutual
  pub IsLastQuery : Status → Type 0
  IsLastQuery (Pending hold e) = Unit {0}
  IsLastQuery (Closed c) = Unit {0}
  IsLastQuery (Inner node) = IsLastNode node

  pub IsLastNode : Node → Type 0
  IsLastNode (Numbered n kind alternatives) = AreLast alternatives

  pub AreLast : Alternatives → Type 0
  AreLast none = Unit {0}
  AreLast (alternative spent status none) = IsLastQuery status
  AreLast (alternative spent status (alternative sq other others)) = HasNoQuery status × IsDoneBefore status
      (alternative sq other others) × AreLast (alternative sq other others)

-- nothing was spent on an entry that is
abbrev mutual
  pub IsUnspent : ℕ → Status → Type 0
  IsUnspent spent (Pending hold e) = spent ≡ 0
  IsUnspent spent (Closed c) = Unit {0}
  IsUnspent spent (Inner node) = IsUnspentNode node

  pub IsUnspentNode : Node → Type 0
  IsUnspentNode (Numbered n kind alternatives) = AreUnspent alternatives

  pub AreUnspent : Alternatives → Type 0
  AreUnspent none = Unit {0}
  AreUnspent (alternative spent status others) = IsUnspent spent status × AreUnspent others

pub record IsCaughtTree (t : TreeState) : Type 0 where
  pub caught : IsCaught (λ m. false) false false t.root
  pub last : IsLastQuery t.root
  -- a halt alone spends on an entry
  pub unspent : t.halted ≡ None → IsUnspent 0 t.root
