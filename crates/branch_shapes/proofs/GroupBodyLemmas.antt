-- Bodies that read as groups make the nodes that the entries become.
use Rattle.std.proofs.Common.{◌≡◌, ℕ, zero, suc, ◌+◌, ◌<◌, ◌≤◌, ◌==◌, Bool, true, false, cond, List, [], ◌∷◌, ◌++◌, map, length, drop, Some, refl, sym, ap}
use Rattle.std.proofs.Common.{ap₂, ◌∙◌, subst, arith}
use Rattle.std.specs.Prelude.{nat_le, slice_get}
use Rattle.std.proofs.lemmas.Bool.Decides.{nat_tests}
use Rattle.std.proofs.lemmas.List.{append-nil, map-append, length-map}
use Rattle.run_model.specs.Machine.Entries.{Entry, PlainEntry, CatchEntry, FindallEntry, EndEntry}
use Rattle.tree_model.specs.Floors.{with_nodes}
use Rattle.tree_model.specs.Nodes.{CatchNode, FindallNode, QueryNode, Hold, Ready, Dormant, Numbered, alternative, Pending, Inner, entry_alternatives}
use Rattle.tree_model.specs.Shapes.{is_alone, guard_kind, guard_hold, further_alternatives, placed_status, placed_scope}
use Rattle.clause_compile.specs.declared.event.Branch.{Branch}
use Rattle.tree_nodes.specs.Bodies.{BodyKind, ChoiceBody, ConditionBody, CatchBody, FindallBody, QueryBody, Body, Branching, Reading, node_kind}
use Rattle.tree_nodes.specs.Bodies.{guards_kind, first_hold, new_alternatives}
use Rattle.public_tree.specs.Publishing.{AreWhole, body_sizes, nest}
use Rattle.branch_shapes.specs.Groups.{Groups, stacked, nonempty_groups, or_alone, node_groups, node_sizes}
use Rattle.branch_shapes.specs.GroupBodies.{ReadsAsGroup, ReadAsGroups, BodiesArePlaced, BodiesAreSized, BodiesAreWhole}
use Rattle.branch_shapes.proofs.GroupScopeLemmas.{size_of}
use Rattle.branch_shapes.proofs.GroupShapeLemmas.{oldest, newest}

-- one entry alone is the guard of a group
not_one : (n : ℕ) → (suc (suc n) == 1) ≡ false
not_one n = by_test (suc (suc n) == 1) refl
  where
    by_test : (b : Bool) → (suc (suc n) == 1) ≡ b → b ≡ false
    by_test true q = let same : suc (suc n) ≡ 1 = grind (arith, nat_tests) in absurd (omega arith)
    by_test false q = refl

one_catch : (g : List Entry) → guard_kind g ≡ CatchNode → is_alone g ≡ true → length g ≡ 1
one_catch [] k a = absurd cc
one_catch (PlainEntry f ∷ es) k a = absurd cc
one_catch (EndEntry b ∷ es) k a = absurd cc
one_catch (FindallEntry results l f ∷ es) k a = absurd cc
one_catch (CatchEntry c r f ∷ []) k a = refl
one_catch (CatchEntry c r f ∷ e ∷ es) k a = absurd cc (not_one (length es))

one_findall : (g : List Entry) → guard_kind g ≡ FindallNode → is_alone g ≡ true → length g ≡ 1
one_findall [] k a = absurd cc
one_findall (PlainEntry f ∷ es) k a = absurd cc
one_findall (EndEntry b ∷ es) k a = absurd cc
one_findall (CatchEntry c r f ∷ es) k a = absurd cc
one_findall (FindallEntry results l f ∷ []) k a = refl
one_findall (FindallEntry results l f ∷ e ∷ es) k a = absurd cc (not_one (length es))

no_query_group : (g : List Entry) → QueryNode ≡ guard_kind g → ⊥
no_query_group [] k = cc
no_query_group (PlainEntry f ∷ es) k = cc
no_query_group (EndEntry b ∷ es) k = cc
no_query_group (CatchEntry c r f ∷ es) k = cc
no_query_group (FindallEntry results l f ∷ es) k = cc

sleeps : (i n : ℕ) → i < n → n ≡ 1 → cond (suc i == 1) Dormant Ready ≡ Dormant
sleeps zero n lt one = refl
sleeps (suc i) n lt one = absurd (omega arith)

-- how the further alternatives begin
holds : (kind : BodyKind) (g : List Entry) → node_kind kind ≡ guard_kind g → is_alone g ≡ true → (i : ℕ) → i < length g
    → first_hold kind (suc i) ≡ guard_hold (guard_kind g)
holds ChoiceBody g k a i lt = ap guard_hold k
holds ConditionBody g k a i lt = ap guard_hold k
holds (CatchBody catcher recovery) g k a i lt = sleeps i (length g) lt (one_catch g (sym k) a) ∙ ap guard_hold k
holds (FindallBody results list) g k a i lt = sleeps i (length g) lt (one_findall g (sym k) a) ∙ ap guard_hold k
holds QueryBody g k a i lt = absurd (no_query_group g k)

-- scopes are named, and entries stay of their kind
named_kind : (name : ℕ → ℕ) (g : List Entry) → guard_kind (map (with_nodes name) g) ≡ guard_kind g
named_kind name [] = refl
named_kind name (PlainEntry f ∷ es) = refl
named_kind name (EndEntry b ∷ es) = refl
named_kind name (CatchEntry c r f ∷ es) = refl
named_kind name (FindallEntry results l f ∷ es) = refl

-- the alternatives from an index on
abbrev ReadFrom : Reading → Branching → (ℕ → ℕ) → Body → ℕ → List Entry → Type 0
ReadFrom read way name b j es = (i k : ℕ) (e : Entry) → k ≡ j + i → slice_get es i ≡ Some e → read ((b, k) ∷ way) ≡ with_nodes name e

abbrev HoldFrom : BodyKind → Hold → ℕ → List Entry → Type 0
HoldFrom kind hold j es = (i k : ℕ) → k ≡ j + i → i < length es → first_hold kind k ≡ hold

alternatives_read : (read : Reading) (way : Branching) (name : ℕ → ℕ) (b : Body) (hold : Hold) (j : ℕ) (branches : List Branch) (es : List Entry)
    → length branches ≡ length es
    → HoldFrom b.kind hold j es → ReadFrom read way name b j es → new_alternatives read way b j branches ≡ entry_alternatives hold (map (with_nodes name) es)
alternatives_read read way name b hold j [] [] l h r = refl
alternatives_read read way name b hold j [] (e ∷ es) l h r = absurd (omega arith)
alternatives_read read way name b hold j (x ∷ branches) [] l h r = absurd (omega arith)
alternatives_read read way name b hold j (x ∷ branches) (e ∷ es) l h r =
    let first : first_hold b.kind j ≡ hold = h 0 j (omega arith) (omega arith) in
    let entry : read ((b, j) ∷ way) ≡ with_nodes name e = r 0 j e (omega arith) refl in
    let rest = alternatives_read read way name b hold (suc j) branches es (omega arith) (λ i k q lt. h (suc i) k (omega arith) (omega arith))
    (λ i k d q s. r (suc i) k d (omega arith) s) in
    cc

module _ (read : Reading) (name : ℕ → ℕ) (way : Branching) (b : Body) (g : List Entry) (h : ReadsAsGroup read way name b g) where
  abbrev named : List Entry
  named = map (with_nodes name) g

  hold_read : HoldFrom b.kind (guard_hold (guard_kind g)) 1 g
  hold_read i k q lt = subst
      (λ n. first_hold b.kind n ≡ guard_hold (guard_kind g)) (let same : suc i ≡ k = omega arith in same) (holds b.kind g h.kind h.alone i lt)

  entries_read : ReadFrom read way name b 1 g
  entries_read i k e q s = subst (λ n. read ((b, n) ∷ way) ≡ with_nodes name e) (let same : suc i ≡ k = omega arith in same) (h.reads i e s)

  further_branches : (branches : List Branch) → length branches ≡ suc (length g) → length (drop 1 branches) ≡ length g
  further_branches [] l = absurd (omega arith)
  further_branches (x ∷ branches) l = omega arith

  pub further_read : new_alternatives read way b 1 (drop 1 b.branches) ≡ further_alternatives named
  further_read =
      alternatives_read read way name b (guard_hold (guard_kind g)) 1 (drop 1 b.branches) g (further_branches b.branches h.branches) hold_read entries_read
      ∙ ap (λ kind. entry_alternatives (guard_hold kind) named) (sym (named_kind name g))

  pub kind_read : node_kind b.kind ≡ guard_kind named
  kind_read = h.kind ∙ sym (named_kind name g)

nodes_read : (read : Reading) (name : ℕ → ℕ) (current : Entry) (way : Branching) (n : ℕ) (bodies : List Body) (gs : Groups)
    → ReadAsGroups read name current way bodies gs
    → nest read way n bodies ≡ placed_status n (map size_of gs) (map (with_nodes name) (current ∷ stacked gs))
nodes_read read name current way n [] [] h = ap (Pending Ready) h
nodes_read read name current way n [] (g ∷ gs) h = absurd h
nodes_read read name current way n (b ∷ bodies) [] h = absurd h
nodes_read read name current way n (b ∷ bodies) (g ∷ gs) h =
    let named = map (with_nodes name) g in
    let top = with_nodes name current in
    let above = map (with_nodes name) (stacked gs) in
    let size : size_of g ≡ size_of named = ap suc (sym (length-map g (with_nodes name))) in
    let below = nodes_read read name current ((b, 0) ∷ way) (suc n) bodies gs h.1 in
    let own = kind_read read name way b g h.0 in
    let others = further_read read name way b g h.0 in
    let old = oldest top above named in
    let new = newest top above named in
    let node = Inner (Numbered n (guard_kind named) (alternative 0 (placed_status (suc n) (map size_of gs) (top ∷ above)) (further_alternatives named))) in
    let split : placed_status n (map size_of (g ∷ gs)) (top ∷ (above ++ named)) ≡ node =
    ap (λ s. placed_status n (s ∷ map size_of gs) (top ∷ (above ++ named))) size
    ∙ ap₂ (λ o w. Inner (Numbered n (guard_kind o) (alternative 0 (placed_status (suc n) (map size_of gs) w) (further_alternatives o)))) old new in
    let made : nest read way n (b ∷ bodies) ≡ node = cc (own, below, others) in
    made ∙ (sym split ∙ ap (λ es. placed_status n (map size_of (g ∷ gs)) (top ∷ es)) (sym (map-append (with_nodes name) (stacked gs) g)))

-- without the groups that are empty it is the same stack
nonempty_stacked : (gs : Groups) → stacked (nonempty_groups gs) ≡ stacked gs
nonempty_stacked [] = refl
nonempty_stacked ([] ∷ gs) = nonempty_stacked gs ∙ sym (append-nil (stacked gs))
nonempty_stacked ((x ∷ xs) ∷ gs) = ap (λ es. es ++ (x ∷ xs)) (nonempty_stacked gs)

alone_stacked : (gs : Groups) → stacked (or_alone gs) ≡ stacked gs
alone_stacked [] = refl
alone_stacked (g ∷ gs) = refl

pub bodies_are_placed : BodiesArePlaced
bodies_are_placed read way next levels bodies current gs h =
    let name = placed_scope next (node_sizes gs) levels in
    nodes_read read name current way next bodies (node_groups gs) h
    ∙ ap (λ es. placed_status next (node_sizes gs) (map (with_nodes name) (current ∷ es))) (alone_stacked (nonempty_groups gs) ∙ nonempty_stacked gs)

sizes_read : (read : Reading) (name : ℕ → ℕ) (current : Entry) (way : Branching) (bodies : List Body) (gs : Groups)
    → ReadAsGroups read name current way bodies gs → body_sizes bodies ≡ map size_of gs
sizes_read read name current way [] [] h = refl
sizes_read read name current way [] (g ∷ gs) h = absurd h
sizes_read read name current way (b ∷ bodies) [] h = absurd h
sizes_read read name current way (b ∷ bodies) (g ∷ gs) h =
    let first = h.0.branches in let rest = sizes_read read name current ((b, 0) ∷ way) bodies gs h.1 in cc

pub bodies_are_sized : BodiesAreSized
bodies_are_sized read way next levels bodies current gs h = sizes_read read (placed_scope next (node_sizes gs) levels) current way bodies (node_groups gs) h

pub whole_by : (kind : BodyKind) (g : List Entry) (n : ℕ) → node_kind kind ≡ guard_kind g → is_alone g ≡ true → n ≡ suc (length g)
    → cond (guards_kind kind) (n == 2) (nat_le 1 n) ≡ true
whole_by ChoiceBody g n k a l = let some : 1 ≤ n = omega arith in grind (arith, nat_tests)
whole_by ConditionBody g n k a l = let some : 1 ≤ n = omega arith in grind (arith, nat_tests)
whole_by (CatchBody catcher recovery) g n k a l = let two : n ≡ 2 = omega (arith, one_catch g (sym k) a) in ap (λ m. m == 2) two
whole_by (FindallBody results list) g n k a l = let two : n ≡ 2 = omega (arith, one_findall g (sym k) a) in ap (λ m. m == 2) two
whole_by QueryBody g n k a l = absurd (no_query_group g k)

all_whole : (read : Reading) (name : ℕ → ℕ) (current : Entry) (way : Branching) (bodies : List Body) (gs : Groups)
    → ReadAsGroups read name current way bodies gs → AreWhole bodies
all_whole read name current way [] gs h = tt
all_whole read name current way (b ∷ bodies) [] h = absurd h
all_whole read name current way (b ∷ bodies) (g ∷ gs) h =
    (whole_by b.kind g (length b.branches) h.0.kind h.0.alone h.0.branches, all_whole read name current ((b, 0) ∷ way) bodies gs h.1)

pub bodies_are_whole : BodiesAreWhole
bodies_are_whole read way next levels bodies current gs h = all_whole read (placed_scope next (node_sizes gs) levels) current way bodies (node_groups gs) h
