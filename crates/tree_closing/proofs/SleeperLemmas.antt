-- What sleeps beside an alternative, in the table and in the tree.
use Rattle.std.proofs.Common.{◌≡◌, ◌≢◌, ℕ, suc, Bool, true, false, List, [], ◌∷◌, ◌++◌, length, Option, Some, None, refl, sym, ap, ◌∙◌, subst}
use Rattle.std.proofs.lemmas.List.{nil_from_length}
use Rattle.std.specs.Option.{option_map}
use Rattle.std.specs.Prelude.{slice_get}
use Rattle.run_model.specs.Machine.Entries.{Entry, PlainEntry, CatchEntry, FindallEntry, EndEntry}
use Rattle.tree_model.specs.Nodes.{Kind, ChoiceNode, CatchNode, FindallNode, QueryNode, Ready, TakenBy, Waiting, Dormant, Alternatives, none, alternative, Status, Pending, Inner, Closed}
use Rattle.tree_model.specs.Levels.{Level, put_left, level_node, plug, Place, place_at}
use Rattle.tree_model.specs.Closing.{dormant_right, guarded}
use Rattle.tree_model.specs.SoundTrees.{Profile, IsOpen, IsDormant, IsShut, guards, profile, profiles, is_shape, AreSound, IsSound}
use Rattle.tree_model.specs.Ways.{same_kind}
use Rattle.tree_model.specs.PendingLists.{Way}
use Rattle.tree_nodes.specs.Bodies.{Body, BodyKind, ChoiceBody, ConditionBody, CatchBody, FindallBody, QueryBody, Reading, node_kind}
use Rattle.tree_nodes.specs.Rows.{AlternativeCell, StoredNode, row_of_node, cell_at}
use Rattle.tree_nodes.specs.TreeTables.{cell_of, cells_of, NodesView, IsTableOf}
use Rattle.tree_nodes.proofs.PlaceLemmas.{left_cells, taken_out}
use Rattle.tree_nodes.proofs.WalkLemmas.{cells_beside}
use Rattle.tree_closing.specs.Sleeping.{right_of, is_asleep_at, IsSleeping, Sleeps}
use Rattle.tree_closing.specs.declared.sleeping.Sleeping.{Sleeping}
use Rattle.tree_closing.specs.declared.sleeping.Sleeping.TheVariants.{Nothing, Recovery, Following, QueryEnd}

-- beside what sleeps an alternative is open
open_first : (k : Kind) (p : Profile) (j : Kind) (ps : List Profile) → is_shape k (p ∷ IsDormant j ∷ ps) ≡ true → p ≡ IsOpen
open_first k IsOpen j ps h = refl
open_first ChoiceNode (IsDormant i) j ps h = absurd cc
open_first CatchNode (IsDormant i) j [] h = absurd cc
open_first CatchNode (IsDormant i) j (q ∷ ps) h = absurd cc
open_first FindallNode (IsDormant i) j [] h = absurd cc
open_first FindallNode (IsDormant i) j (q ∷ ps) h = absurd cc
open_first QueryNode (IsDormant i) j [] h = absurd cc
open_first QueryNode (IsDormant i) j (q ∷ ps) h = absurd cc
open_first ChoiceNode IsShut j ps h = absurd cc
open_first CatchNode IsShut j [] h = absurd cc
open_first CatchNode IsShut j (q ∷ ps) h = absurd cc
open_first FindallNode IsShut j [] h = absurd cc
open_first FindallNode IsShut j (q ∷ ps) h = absurd cc
open_first QueryNode IsShut j [] h = absurd cc
open_first QueryNode IsShut j (q ∷ ps) h = absurd cc

-- and the node is of its kind, which is no choice
abbrev is_guard : Kind → Kind → Bool
is_guard ChoiceNode j = false
is_guard CatchNode j = same_kind CatchNode j
is_guard FindallNode j = same_kind FindallNode j
is_guard QueryNode j = same_kind QueryNode j

kind_beside : (k : Kind) (p : Profile) (j : Kind) (ps : List Profile) → is_shape k (p ∷ IsDormant j ∷ ps) ≡ true → is_guard k j ≡ true
kind_beside ChoiceNode IsOpen j ps h = absurd cc
kind_beside CatchNode IsOpen j [] h = h
kind_beside CatchNode IsOpen j (q ∷ ps) h = absurd cc
kind_beside FindallNode IsOpen j [] h = h
kind_beside FindallNode IsOpen j (q ∷ ps) h = absurd cc
kind_beside QueryNode IsOpen j [] h = h
kind_beside QueryNode IsOpen j (q ∷ ps) h = absurd cc
kind_beside k (IsDormant i) j ps h = absurd (let e : IsDormant i ≡ IsOpen = open_first k (IsDormant i) j ps h in cc)
kind_beside k IsShut j ps h = absurd (let e : IsShut ≡ IsOpen = open_first k IsShut j ps h in cc)

-- and it is the last
last_one : (k : Kind) (j : Kind) (others : Alternatives) → is_shape k (IsOpen ∷ IsDormant j ∷ profiles others) ≡ true → others ≡ none
last_one k j none h = refl
last_one ChoiceNode j (alternative sp st others) h = absurd cc
last_one CatchNode j (alternative sp st others) h = absurd cc
last_one FindallNode j (alternative sp st others) h = absurd cc
last_one QueryNode j (alternative sp st others) h = absurd cc

-- the shape of a node inside a sound tree
sound_among : (way : Way) (n : ℕ) (kind : Kind) (left : List (ℕ × Status)) (others : Alternatives) (i : ℕ) → AreSound way n kind i (put_left left others) → (j : ℕ) × AreSound way n kind j others
sound_among way n kind [] others i h = (i, h)
sound_among way n kind (a ∷ left) others i h = let k = sound_among way n kind left (alternative a.0 a.1 others) i h in (suc k.0, k.1.1)

sound_inside : (up : List Level) (status : Status) → IsSound [] (plug up status) → (way : Way) × IsSound way status
sound_inside [] status h = ([], h)
sound_inside (v ∷ up) status h =
    let k = sound_inside up (Inner (level_node v status)) h in
    let p = sound_among k.0 v.number v.kind v.left (alternative v.spent status v.right) 0 k.1.3 in
    (record { node = v.number; index = p.0; kind = v.kind } ∷ k.0, p.1.0)

shape_here : (v : Level) (up : List Level) (was : Status) → IsSound [] (plug (v ∷ up) was) → is_shape v.kind (profiles (put_left v.left (alternative v.spent was v.right))) ≡ true
shape_here v up was h = (sound_inside up (Inner (level_node v was)) h).1.1

-- what sleeps at the head of the alternatives to the right
none_asleep : (r : Alternatives) → is_asleep_at (slice_get (cells_of r) 0) ≡ false → dormant_right r ≡ None
none_asleep none h = refl
none_asleep (alternative sp (Inner node) others) h = refl
none_asleep (alternative sp (Closed credit) others) h = refl
none_asleep (alternative sp (Pending Ready e) others) h = refl
none_asleep (alternative sp (Pending (TakenBy w) e) others) h = refl
none_asleep (alternative sp (Pending (Waiting g) e) others) h = refl
none_asleep (alternative sp (Pending Dormant e) others) h = absurd cc

record IsAsleep (r : Alternatives) : Type 0 where
  pub spent : ℕ
  pub entry : Entry
  pub others : Alternatives
  pub is : r ≡ alternative spent (Pending Dormant entry) others

one_asleep : (r : Alternatives) → is_asleep_at (slice_get (cells_of r) 0) ≡ true → IsAsleep r
one_asleep none h = absurd cc
one_asleep (alternative sp (Inner (node)) others) h = absurd cc
one_asleep (alternative sp (Closed credit) others) h = absurd cc
one_asleep (alternative sp (Pending Ready e) others) h = absurd cc
one_asleep (alternative sp (Pending (TakenBy w) e) others) h = absurd cc
one_asleep (alternative sp (Pending (Waiting g) e) others) h = absurd cc
one_asleep (alternative sp (Pending Dormant e) others) h = record { spent = sp; entry = e; others = others; is = refl }

-- by the alternatives to the left
abbrev by_left : (left : List (ℕ × Status)) (right : Alternatives) → Option Entry
by_left left right = elim left as (λ l. Option Entry) [ [] ↦ dormant_right right | a ∷ rest ↦ None ]

-- an entry sleeps after the first alternative, as the one further
pub record Guards (v : Level) (e : Entry) : Type 0 where
  pub left : v.left ≡ []
  pub spent : ℕ
  pub right : v.right ≡ alternative spent (Pending Dormant e) none

pub record IsSleeper (v : Level) : Type 0 where
  pub entry : Entry
  pub is : guarded v ≡ Some entry
  pub asleep : Guards v entry
  pub kind : is_guard v.kind (guards entry) ≡ true

module _ (nodes : NodesView) (a : Place) (read : Reading) (v : Level) (up : List Level) (was : Status) (p : place_at v ≡ a) (s : IsTableOf nodes read (plug (v ∷ up) was)) where
  right_cell : v.left ≡ [] → cell_at nodes.rows (right_of a) ≡ slice_get (cells_of v.right) 0
  right_cell l =
      ap (λ (q : Place). cell_at nodes.rows (right_of q)) (sym p)
      ∙ (ap (λ (cells : List (ℕ × AlternativeCell)). slice_get cells 1) (cells_beside nodes read v up was s)
      ∙ ap (λ (left : List (ℕ × Status)). slice_get (left_cells left ++ (v.spent, cell_of was) ∷ cells_of v.right) 1) l)

  pub past_first : a.index ≢ 0 → guarded v ≡ None
  past_first ne = at_left v.left (ap (λ (q : Place). q.index) p)
    where
      at_left : (left : List (ℕ × Status)) → length left ≡ a.index → by_left left v.right ≡ None
      at_left [] e = absurd (ne (sym e))
      at_left (x ∷ left) e = refl

  pub none_beside : is_asleep_at (cell_at nodes.rows (right_of a)) ≡ false → guarded v ≡ None
  none_beside h = at_left v.left refl
    where
      at_left : (left : List (ℕ × Status)) → v.left ≡ left → by_left left v.right ≡ None
      at_left [] e = none_asleep v.right (ap is_asleep_at (sym (right_cell e)) ∙ h)
      at_left (x ∷ left) e = refl

  pub one_beside : a.index ≡ 0 → is_asleep_at (cell_at nodes.rows (right_of a)) ≡ true → IsSound [] (plug (v ∷ up) was) → IsSleeper v
  one_beside first asleep snd =
      let l : v.left ≡ [] = nil_from_length v.left (ap (λ (q : Place). q.index) p ∙ first) in
      let r = one_asleep v.right (ap is_asleep_at (sym (right_cell l)) ∙ asleep) in
      let shape : is_shape v.kind (profile was ∷ IsDormant (guards r.entry) ∷ profiles r.others) ≡ true =
      ap (λ (x : Alternatives). is_shape v.kind (profile was ∷ profiles x)) (sym r.is)
      ∙ (ap (λ (left : List (ℕ × Status)). is_shape v.kind (profiles (put_left left (alternative v.spent was v.right)))) (sym l) ∙ shape_here v up was snd) in
      let first_open = open_first v.kind (profile was) (guards r.entry) (profiles r.others) shape in
      let last = last_one v.kind (guards r.entry) r.others (ap (λ (x : Profile). is_shape v.kind (x ∷ IsDormant (guards r.entry) ∷ profiles r.others)) (sym first_open) ∙ shape) in
      record {
        entry = r.entry;
        is = ap (λ (left : List (ℕ × Status)). by_left left v.right) l ∙ ap dormant_right r.is;
        asleep = record { left = l; spent = r.spent; right = r.is ∙ ap (λ (x : Alternatives). alternative r.spent (Pending Dormant r.entry) x) last };
        kind = kind_beside v.kind (profile was) (guards r.entry) (profiles r.others) shape;
      }

  pub kind_here : (b : Body) → option_map (λ r. r.body) (row_of_node nodes.rows a.node) ≡ Some b → v.kind ≡ node_kind b.kind
  kind_here b e =
      let k = taken_out nodes.rows read (v ∷ up) was s.placed in
      let same : Some k.around.0 ≡ Some b =
      sym (ap (λ (o : Option StoredNode). option_map (λ r. r.body) o) k.around.1.1.1.row) ∙ (ap (λ (q : Place). option_map (λ r. r.body) (row_of_node nodes.rows q.node)) p ∙ e) in
      k.around.1.1.1.kind ∙ ap (λ (o : Option Body). kind_or o) same
    where
      kind_or : Option Body → Kind
      kind_or None = ChoiceNode
      kind_or (Some b) = node_kind b.kind

-- what sleeps beside the first alternative of a node of a kind
abbrev pub sleeping_of : BodyKind → Sleeping
sleeping_of ChoiceBody = Nothing
sleeping_of ConditionBody = Nothing
sleeping_of (CatchBody catcher recovery) = Recovery
sleeping_of (FindallBody results list) = Following
sleeping_of QueryBody = QueryEnd

of_kind : (b : BodyKind) (e : Entry) → is_guard (node_kind b) (guards e) ≡ true → IsSleeping (sleeping_of b) (Some e)
of_kind ChoiceBody e h = absurd cc
of_kind ConditionBody e h = absurd cc
of_kind (CatchBody catcher recovery) (CatchEntry c r f) h = (c, (r, (f, refl)))
of_kind (CatchBody catcher recovery) (PlainEntry f) h = absurd cc
of_kind (CatchBody catcher recovery) (FindallEntry results l f) h = absurd cc
of_kind (CatchBody catcher recovery) (EndEntry b) h = absurd cc
of_kind (FindallBody results list) (FindallEntry rs l f) h = (rs, (l, (f, refl)))
of_kind (FindallBody results list) (PlainEntry f) h = absurd cc
of_kind (FindallBody results list) (CatchEntry c r f) h = absurd cc
of_kind (FindallBody results list) (EndEntry b) h = absurd cc
of_kind QueryBody (EndEntry b) h = (b, refl)
of_kind QueryBody (PlainEntry f) h = absurd cc
of_kind QueryBody (CatchEntry c r f) h = absurd cc
of_kind QueryBody (FindallEntry results l f) h = absurd cc

pub nothing_sleeps : (nodes : NodesView) (a : Place) → a.index ≢ 0 → Sleeps nodes a Nothing
nothing_sleeps nodes a ne read v up was p s snd = past_first nodes a read v up was p s ne

pub nothing_sleeps_beside : (nodes : NodesView) (a : Place) → is_asleep_at (cell_at nodes.rows (right_of a)) ≡ false → Sleeps nodes a Nothing
nothing_sleeps_beside nodes a h read v up was p s snd = none_beside nodes a read v up was p s h

pub one_sleeps : (nodes : NodesView) (a : Place) (b : Body) → a.index ≡ 0 → is_asleep_at (cell_at nodes.rows (right_of a)) ≡ true → option_map (λ r. r.body) (row_of_node nodes.rows a.node) ≡ Some b
    → Sleeps nodes a (sleeping_of b.kind)
one_sleeps nodes a b first asleep e read v up was p s snd =
    let k = one_beside nodes a read v up was p s first asleep snd in
    let kind : is_guard (node_kind b.kind) (guards k.entry) ≡ true = ap (λ (x : Kind). is_guard x (guards k.entry)) (sym (kind_here nodes a read v up was p s b e)) ∙ k.kind in
    subst (IsSleeping (sleeping_of b.kind)) (sym k.is) (of_kind b.kind k.entry kind)

-- by what is asked: whether a cell sleeps, and what the node was made from
module _ (nodes : NodesView) (a q : Place) (asleep : Bool) (second : q ≡ right_of a) (answer : asleep ≡ is_asleep_at (cell_at nodes.rows q)) where
  answered : is_asleep_at (cell_at nodes.rows (right_of a)) ≡ asleep
  answered = ap (λ (x : Place). is_asleep_at (cell_at nodes.rows x)) (sym second) ∙ sym answer

  pub sleeps_not : asleep ≡ false → Sleeps nodes a Nothing
  sleeps_not h = nothing_sleeps_beside nodes a (answered ∙ h)

  pub sleeps_as : (b : Body) (k : BodyKind) → a.index ≡ 0 → asleep ≡ true → option_map (λ r. r.body) (row_of_node nodes.rows a.node) ≡ Some b → b.kind ≡ k → Sleeps nodes a (sleeping_of k)
  sleeps_as b k first h e is = subst (λ (x : BodyKind). Sleeps nodes a (sleeping_of x)) is (one_sleeps nodes a b first (answered ∙ h) e)
