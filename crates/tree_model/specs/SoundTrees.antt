-- What every legal tree keeps.
use Rattle.std.specs.Prelude.{◌≡◌, ℕ, suc, ◌+◌, ◌≤◌, ◌==◌, Bool, true, false, List, [], ◌∷◌}
use Rattle.run_model.specs.Machine.Entries.{Entry, PlainEntry, CatchEntry, FindallEntry, EndEntry}
use Rattle.tree_model.specs.Nodes.{Kind, ChoiceNode, CatchNode, FindallNode, QueryNode, Hold, Ready, TakenBy, Waiting, Dormant, Node}
use Rattle.tree_model.specs.Nodes.{Numbered, Alternatives, none, alternative, Status, Pending, Inner, Closed}
use Rattle.tree_model.specs.PendingLists.{Way}
use Rattle.tree_model.specs.Ways.{is_on, same_kind, IsOnWay, IsHeldBy}
use Rattle.tree_model.specs.TreeStates.{TreeState}

-- how often a number names a node
abbrev pub one_if : Bool → ℕ
one_if true = 1
one_if false = 0

abbrev mutual
  pub count_in : ℕ → Node → ℕ
  count_in m (Numbered n kind alternatives) = one_if (n == m) + count_among m alternatives

  pub count_among : ℕ → Alternatives → ℕ
  count_among m none = 0
  count_among m (alternative spent status others) = count_below m status + count_among m others

  pub count_below : ℕ → Status → ℕ
  count_below m (Pending hold entry) = 0
  count_below m (Inner node) = count_in m node
  count_below m (Closed credit) = 0

-- what of an alternative its node's shape speaks of
pub data Profile : Type 0 where
  IsOpen : Profile
  -- dormant after a first alternative of this kind of node
  IsDormant : Kind → Profile
  IsShut : Profile

abbrev pub guards : Entry → Kind
guards (PlainEntry f) = ChoiceNode
guards (CatchEntry c r f) = CatchNode
guards (FindallEntry results l f) = FindallNode
guards (EndEntry b) = QueryNode

abbrev pub hold_profile : Hold → Entry → Profile
hold_profile Dormant e = IsDormant (guards e)
hold_profile Ready e = IsOpen
hold_profile (TakenBy w) e = IsOpen
hold_profile (Waiting g) e = IsOpen

abbrev pub profile : Status → Profile
profile (Pending hold e) = hold_profile hold e
profile (Inner node) = IsOpen
profile (Closed credit) = IsShut

abbrev pub profiles : Alternatives → List Profile
profiles none = []
profiles (alternative spent status others) = profile status ∷ profiles others

abbrev pub none_dormant : List Profile → Bool
none_dormant [] = true
none_dormant (IsDormant k ∷ ps) = false
none_dormant (IsOpen ∷ ps) = none_dormant ps
none_dormant (IsShut ∷ ps) = none_dormant ps

-- the second alternative sleeps exactly while the first is open; a recovery may have been cut away
abbrev pub is_pair : Kind → Profile → Profile → Bool
is_pair k IsOpen (IsDormant j) = same_kind k j
is_pair k IsOpen IsShut = same_kind k CatchNode
is_pair k IsOpen IsOpen = false
is_pair k (IsDormant j) p = false
is_pair k IsShut (IsDormant j) = false
is_pair k IsShut IsOpen = true
is_pair k IsShut IsShut = true

abbrev pub are_pair : Kind → List Profile → Bool
are_pair k (a ∷ b ∷ []) = is_pair k a b
are_pair k ps = false

abbrev pub is_shape : Kind → List Profile → Bool
is_shape ChoiceNode ps = none_dormant ps
is_shape CatchNode ps = are_pair CatchNode ps
is_shape FindallNode ps = are_pair FindallNode ps
is_shape QueryNode ps = are_pair QueryNode ps

-- a node with all alternatives closed has folded, the first query's excepted
abbrev pub some_open : List Profile → Bool
some_open [] = false
some_open (IsShut ∷ ps) = some_open ps
some_open (IsOpen ∷ ps) = true
some_open (IsDormant k ∷ ps) = true

abbrev pub is_live : Way → List Profile → Bool
is_live [] ps = true
is_live (a ∷ way) ps = some_open ps

-- below a way: no number comes twice on a path, each node has its shape and is open, each entry looks up its way
abbrev mutual
  pub IsSoundNode : Way → Node → Type 0
  IsSoundNode way (Numbered n kind alternatives) = (is_on way n ≡ false) × (is_shape kind (profiles alternatives) ≡ true)
      × (is_live way (profiles alternatives) ≡ true) × AreSound way n kind 0 alternatives

  pub AreSound : Way → ℕ → Kind → ℕ → Alternatives → Type 0
  AreSound way n kind i none = Unit {0}
  AreSound way n kind i (alternative spent status others) = IsSound (record { node = n; index = i; kind = kind } ∷ way) status
      × AreSound way n kind (suc i) others

  pub IsSound : Way → Status → Type 0
  IsSound way (Pending hold entry) = IsOnWay way entry × IsHeldBy hold entry
  IsSound way (Inner node) = IsSoundNode way node
  IsSound way (Closed credit) = Unit {0}

pub record IsSoundTree (t : TreeState) : Type 0 where
  -- no number names two nodes
  pub distinct : (n : ℕ) → count_below n t.root ≤ 1
  -- numbers from the next one on name none
  pub fresh : (n : ℕ) → t.next ≤ n → count_below n t.root ≡ 0
  pub sound : IsSound [] t.root
