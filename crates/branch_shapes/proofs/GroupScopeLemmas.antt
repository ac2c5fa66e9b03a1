-- The nodes to which cuts are that keep groups.
use Rattle.std.proofs.Common.{◌≡◌, ℕ, zero, suc, ◌+◌, ◌-◌, ◌<◌, ◌≤◌, Bool, true, false, cond, List, [], ◌∷◌, ◌++◌, map, length, take, Some, refl, sym, ap}
use Rattle.std.proofs.Common.{◌∙◌, arith}
use Rattle.std.specs.Prelude.{nat_lt, nat_le, slice_get}
use Rattle.std.proofs.lemmas.Bool.Decides.{nat_tests}
use Rattle.std.proofs.lemmas.List.{append-nil, append_assoc, length-append}
use Rattle.run_model.specs.Machine.Entries.{Entry}
use Rattle.tree_model.specs.Floors.{node_of}
use Rattle.tree_model.specs.Levels.{Level}
use Rattle.tree_model.specs.Shapes.{further, holder, placed_scope}
use Rattle.branch_shapes.specs.Groups.{Groups, stacked, entries_in, height_kept, nonempty_groups, or_alone, node_sizes, newest_node}
use Rattle.branch_shapes.specs.GroupLaws.{GroupsAreScopes, FloorsAreScopes, GuardsAreScopes, GroupsStackUp, HeightsCountEntries}

abbrev pub size_of : List Entry → ℕ
size_of g = suc (length g)

-- no group is left where there is no entry, and the reverse
pub no_groups : (gs : Groups) → length (nonempty_groups gs) ≡ 0 → entries_in gs ≡ 0
no_groups [] e = refl
no_groups ([] ∷ gs) e = let rest = no_groups gs e in omega (arith, rest)
no_groups ((x ∷ xs) ∷ gs) e = absurd (omega (arith, e))

pub no_entries : (gs : Groups) → entries_in gs ≡ 0 → length (nonempty_groups gs) ≡ 0
no_entries [] e = refl
no_entries ([] ∷ gs) e = no_entries gs (omega (arith, e))
no_entries ((x ∷ xs) ∷ gs) e = absurd (omega (arith, e))

pub kept_within : (c : ℕ) (gs : Groups) → entries_in (take c gs) ≤ entries_in gs
kept_within zero gs = omega arith
kept_within (suc c) [] = omega arith
kept_within (suc c) (g ∷ gs) = let rest = kept_within c gs in omega (arith, rest)

-- the node that has an entry of one of the first groups and none of the ones after
held : (next c : ℕ) (gs : Groups) (p k : ℕ) → suc p ≡ entries_in (take c gs) → length (nonempty_groups (take c gs)) ≡ suc k
    → holder next (map size_of (nonempty_groups gs)) p ≡ next + k
held next zero gs p k e n = absurd (omega arith)
held next (suc c) [] p k e n = absurd (omega arith)
held next (suc c) ([] ∷ gs) p k e n = held next c gs p k (omega (arith, e)) n
held next (suc c) ((x ∷ xs) ∷ gs) p k e n = by_test (λ q j s m. held (suc next) c gs q j s m) (nat_lt p (further (size_of (x ∷ xs)))) refl
  where
    rest : List ℕ
    rest = map size_of (nonempty_groups gs)

    left : ℕ
    left = entries_in (take c gs)

    here : Groups → length (nonempty_groups (take c gs)) ≡ 0 → next ≡ next + k
    here hs none = omega (arith, n, none)

    further_on : ((q j : ℕ) → suc q ≡ left → length (nonempty_groups (take c gs)) ≡ suc j → holder (suc next) rest q ≡ suc next + j)
        → further (size_of (x ∷ xs)) ≤ p → (m : ℕ) → length (nonempty_groups (take c gs)) ≡ m
        → holder (suc next) rest (p - further (size_of (x ∷ xs))) ≡ next + k
    further_on go ge zero none = let empty = no_groups (take c gs) none in absurd (omega (arith, e, empty, ge))
    further_on go ge (suc j) some =
        let there = go (p - further (size_of (x ∷ xs))) j (omega (arith, e, ge)) some in omega (arith, there, n, some)

    by_test : ((q j : ℕ) → suc q ≡ left → length (nonempty_groups (take c gs)) ≡ suc j → holder (suc next) rest q ≡ suc next + j) → (t : Bool)
        → nat_lt p (further (size_of (x ∷ xs))) ≡ t → cond t next (holder (suc next) rest (p - further (size_of (x ∷ xs)))) ≡ next + k
    by_test go true q =
        let lt : p < further (size_of (x ∷ xs)) = grind (arith, nat_tests) in
        here gs (no_entries (take c gs) (omega (arith, e, lt)))
    by_test go false q = further_on go (grind (arith, nat_tests)) (length (nonempty_groups (take c gs))) refl

pub some_alone : (gs : Groups) → (length gs ≡ 0 → ⊥) → or_alone gs ≡ gs
some_alone [] h = absurd (h refl)
some_alone (g ∷ gs) h = refl

floor_kept : (next : ℕ) (sizes : List ℕ) (levels : List Level) (h : ℕ) → h ≤ length levels → placed_scope next sizes levels h ≡ node_of levels h
floor_kept next sizes levels h le = by_test (nat_le h (length levels)) refl
  where
    by_test : (t : Bool) → nat_le h (length levels) ≡ t
        → cond t (node_of levels h) (holder next sizes (h - suc (length levels))) ≡ node_of levels h
    by_test true q = refl
    by_test false q = let lt : length levels < h = grind (arith, nat_tests) in absurd (omega (arith, le))

pub floors_are_scopes : FloorsAreScopes
floors_are_scopes = floor_kept

above_kept : (next : ℕ) (sizes : List ℕ) (levels : List Level) (p : ℕ) → placed_scope next sizes levels (length levels + suc p) ≡ holder next sizes p
above_kept next sizes levels p = by_test (nat_le (length levels + suc p) (length levels)) refl
  where
    left : (length levels + suc p) - suc (length levels) ≡ p
    left = omega arith

    by_test : (t : Bool) → nat_le (length levels + suc p) (length levels) ≡ t
        → cond t (node_of levels (length levels + suc p)) (holder next sizes ((length levels + suc p) - suc (length levels))) ≡ holder next sizes p
    by_test true q = let le : length levels + suc p ≤ length levels = grind (arith, nat_tests) in absurd (omega arith)
    by_test false q = ap (holder next sizes) left

pub groups_are_scopes : GroupsAreScopes
groups_are_scopes next levels gs c = by_count (length (nonempty_groups (take c gs))) refl (entries_in (take c gs)) refl
  where
    height : (m : ℕ) → entries_in (take c gs) ≡ m → height_kept (length levels) gs c ≡ length levels + m
    height m e = ap (λ n. length levels + n) e

    by_count : (k : ℕ) → length (nonempty_groups (take c gs)) ≡ k → (m : ℕ) → entries_in (take c gs) ≡ m
        → placed_scope next (node_sizes gs) levels (height_kept (length levels) gs c) ≡ newest_node next levels k
    by_count zero n m e =
        let none = no_groups (take c gs) n in
        let same : height_kept (length levels) gs c ≡ length levels = omega (arith, none) in
        ap (placed_scope next (node_sizes gs) levels) same ∙ floor_kept next (node_sizes gs) levels (length levels) (omega arith)
    by_count (suc k) n zero e = absurd (omega (arith, no_entries (take c gs) e, n))
    by_count (suc k) n (suc p) e =
        let some : length (nonempty_groups gs) ≡ 0 → ⊥ = (λ z. let none = no_groups gs z in let le = kept_within c gs in omega (arith, e)) in
        ap (placed_scope next (node_sizes gs) levels) (height (suc p) e) ∙ (above_kept next (node_sizes gs) levels p
        ∙ (ap (λ hs. holder next (map size_of hs) p) (some_alone (nonempty_groups gs) some) ∙ held next c gs p k (sym e) n))

stacked-append : (older newer : Groups) → stacked (older ++ newer) ≡ stacked newer ++ stacked older
stacked-append [] newer = sym (append-nil (stacked newer))
stacked-append (g ∷ older) newer = ap (λ es. es ++ g) (stacked-append older newer) ∙ append_assoc (stacked newer) (stacked older) g

pub groups_stack_up : GroupsStackUp
groups_stack_up = stacked-append

kept_all : (older newer : Groups) → entries_in (take (length older) (older ++ newer)) ≡ length (stacked older)
kept_all [] newer = refl
kept_all (g ∷ older) newer = let rest = kept_all older newer in omega (arith, rest, length-append (stacked older) g)

pub heights_count_entries : HeightsCountEntries
heights_count_entries floor older newer = ap (λ n. floor + n) (kept_all older newer)

one_more : (gs : Groups) (c : ℕ) (e : Entry) → slice_get gs c ≡ Some (e ∷ []) → suc (entries_in (take c gs)) ≡ entries_in (take (suc c) gs)
one_more [] c e h = absurd cc
one_more (g ∷ gs) zero e h = let same : g ≡ e ∷ [] = cc in omega (arith, ap length same)
one_more (g ∷ gs) (suc c) e h = let rest = one_more gs c e h in omega (arith, rest)

pub guards_are_scopes : GuardsAreScopes
guards_are_scopes floor gs c e h = let more = one_more gs c e h in omega (arith, more)
