-- Scopes of more and more choice points.
use Rattle.std.proofs.Common.{◌≡◌, ℕ, zero, suc, ◌+◌, ◌-◌, ◌<◌, ◌≤◌, Bool, ◌==◌, nat_le, nat_lt, cond, true, false, List, [], ◌∷◌, ◌++◌, length, length-append, take, get_or, refl, sym, ap, ◌∙◌, subst, arith}
use Rattle.tree_model.specs.Floors.{node_of}
use Rattle.tree_model.specs.Levels.{Level}
use Rattle.run_model.specs.Machine.Entries.{Entry}
use Rattle.region_capture.specs.declared.captured.CapturedChoice.{CapturedChoice}
use Rattle.branch_shapes.specs.Groups.{Groups, nonempty_groups, newest_node, scope_kept}
use Rattle.branch_shapes.specs.ChoiceScopes.{choice_scope}
use Rattle.task_publishing.specs.KeptScopes.{AreNodesDown, AreGroupsOf, AreScopes, scope_at}
use Rattle.task_publishing.proofs.TableLemmas.{more_got}
use Rattle.std.proofs.lemmas.Bool.Decides.{nat_tests}
use Rattle.std.proofs.lemmas.Grind.{common_steps}
use Rattle.branch_shapes.proofs.ChoiceScopeLemmas.{low_scope}

pub got_same : (xs : List ℕ) (n a b : ℕ) → n < length xs → get_or xs n a ≡ get_or xs n b
got_same [] n a b lt = absurd (omega (arith, lt))
got_same (x ∷ xs) zero a b lt = refl
got_same (x ∷ xs) (suc n) a b lt = got_same xs n a b (omega (arith, lt))

-- how many nodes so many groups become
abbrev pub nodes_in : Groups → ℕ → ℕ
nodes_in gs n = length (nonempty_groups (take n gs))

-- a table of the scopes of so many choice points, the newest of them, and the number of the next node
pub record KeepsScopes (next : ℕ) (levels : List Level) (gs : Groups) (n : ℕ) (scopes : List ℕ) (newest number : ℕ) : Type 0 where
  pub many : length scopes ≡ suc (length levels + n)
  pub each : (k : ℕ) → k < length scopes → get_or scopes k 0 ≡ choice_scope next levels gs k
  pub last : newest ≡ scope_kept next levels gs n
  pub made : number ≡ next + nodes_in gs n

module _ (next : ℕ) (levels : List Level) (gs : Groups) where
  from_floor : (n : ℕ) → length levels ≤ n → choice_scope next levels gs n ≡ scope_kept next levels gs (n - length levels)
  from_floor n le = by_test (nat_le n (length levels)) refl
    where
      by_test : (t : Bool) → nat_le n (length levels) ≡ t → cond t (node_of levels n) (scope_kept next levels gs (n - length levels)) ≡ scope_kept
          next
          levels gs (n - length levels)
      by_test true q =
          let ge : n ≤ length levels = grind (arith, nat_tests) in
          let same : n ≡ length levels = omega arith in
          let none : n - length levels ≡ 0 = omega arith in
          ap (node_of levels) same ∙ ap (scope_kept next levels gs) (sym none)
      by_test false q = refl

  over_floor : (n : ℕ) → choice_scope next levels gs (suc (length levels + n)) ≡ scope_kept next levels gs (suc n)
  over_floor n =
      let e : suc (length levels + n) - length levels ≡ suc n = omega arith in
      from_floor (suc (length levels + n)) (omega arith) ∙ ap (scope_kept next levels gs) e

-- at the start
no_nodes : (levels : List Level) → node_of levels 0 ≡ 0
no_nodes [] = refl
no_nodes (v ∷ up) = by_test (0 == suc (length up)) refl (no_nodes up)
  where
    by_test : (t : Bool) → (0 == suc (length up)) ≡ t → node_of up 0 ≡ 0 → cond t v.number (node_of up 0) ≡ 0
    by_test true q h = let e : 0 ≡ suc (length up) = grind (arith, nat_tests) in absurd (omega (arith, e))
    by_test false q h = h

floor_each : (next : ℕ) (levels : List Level) (gs : Groups) (branch : List ℕ) → AreNodesDown levels branch → (k : ℕ) → k < suc (length branch)
    → get_or (0 ∷ branch) k 0 ≡ choice_scope next levels gs k
floor_each next levels gs branch d zero lt = sym (low_scope next levels gs 0 (omega arith) ∙ no_nodes levels)
floor_each next levels gs branch d (suc k) lt =
    let m = d.many in
    d.each k (omega (arith, lt)) ∙ sym (low_scope next levels gs (suc k) (omega (arith, lt, m)))

pub keeps_none : (next : ℕ) (levels : List Level) (gs : Groups) (branch : List ℕ) (newest : ℕ) → AreNodesDown levels branch
    → newest ≡ get_or (0 ∷ branch) (length branch) 0
    → KeepsScopes next levels gs 0 (0 ∷ branch) newest next
keeps_none next levels gs branch newest d e = record {
  many = let m = d.many in omega (arith, m);
  each = λ k lt. floor_each next levels gs branch d k lt;
  last = e ∙ (floor_each next levels gs branch d (length branch) (omega arith) ∙ (let m = d.many in low_scope next levels gs (length branch)
      (omega (arith, m)) ∙ ap (node_of levels) m));
  made = omega arith;
}

-- one more group becomes a node, or none
one_more : (gs : Groups) (n : ℕ) (g : List Entry) → n < length gs → g ≡ get_or gs n g
    → nodes_in gs (suc n) ≡ nodes_in gs n + length (nonempty_groups (g ∷ []))
one_more [] n g lt e = absurd (omega (arith, lt))
one_more ([] ∷ gs) zero g lt e = let h : 0 ≡ length (nonempty_groups (g ∷ [])) = subst (λ x. 0 ≡ length (nonempty_groups (x ∷ []))) (sym e) refl in
    omega (arith, h)
one_more ((y ∷ ys) ∷ gs) zero g lt e = let h : 1 ≡ length (nonempty_groups (g ∷ [])) = subst (λ x. 1 ≡ length (nonempty_groups (x ∷ []))) (sym e)
    refl in omega (arith, h)
one_more ([] ∷ gs) (suc n) g lt e = one_more gs n g (omega (arith, lt)) e
one_more ((y ∷ ys) ∷ gs) (suc n) g lt e = let h = one_more gs n g (omega (arith, lt)) e in omega (arith, h)

-- the group of a choice point
group_of : (choices : List CapturedChoice) (gs : Groups) (n : ℕ) (c : CapturedChoice) (g : List Entry) → AreGroupsOf choices gs → n < length choices
    → c ≡ get_or choices n c → g ≡ get_or gs n g
    → length c.alternatives.items ≡ length g
group_of [] gs n c g a lt e f = absurd (omega (arith, lt))
group_of (d ∷ choices) [] n c g a lt e f = elim a [ ]
group_of (d ∷ choices) (h ∷ gs) zero c g a lt e f = ap (λ (x : CapturedChoice). length x.alternatives.items) e
    ∙ (a.0 ∙ sym (ap (λ (x : List Entry). length x) f))
group_of (d ∷ choices) (h ∷ gs) (suc n) c g a lt e f = group_of choices gs n c g a.1 (omega (arith, lt)) e f

pub groups_many : (choices : List CapturedChoice) (gs : Groups) → AreGroupsOf choices gs → length gs ≡ length choices
groups_many [] [] a = refl
groups_many [] (g ∷ gs) a = elim a [ ]
groups_many (c ∷ choices) [] a = elim a [ ]
groups_many (c ∷ choices) (g ∷ gs) a = ap suc (groups_many choices gs a.1)

-- a node more, or the same
no_more : (g : List Entry) → length g ≡ 0 → length (nonempty_groups (g ∷ [])) ≡ 0
no_more [] e = refl
no_more (x ∷ g) e = absurd (omega (arith, e))

a_more : (g : List Entry) → 0 < length g → length (nonempty_groups (g ∷ [])) ≡ 1
a_more [] e = absurd (omega (arith, e))
a_more (x ∷ g) e = refl

keeps_more : (next : ℕ) (levels : List Level) (gs : Groups) (n : ℕ) (scopes : List ℕ) (newest number other later : ℕ)
    → KeepsScopes next levels gs n scopes newest number
    → other ≡ scope_kept next levels gs (suc n) → later ≡ next + nodes_in gs (suc n) → KeepsScopes next levels gs (suc n) (scopes ++ other ∷ []) other
    later
keeps_more next levels gs n scopes newest number other later k e f = record {
  many = let m = k.many in omega (arith, m, length-append scopes (other ∷ []));
  each = more_got (λ i s. s ≡ choice_scope next levels gs i) scopes other k.each (e ∙ (sym (over_floor next levels gs n)
      ∙ ap (choice_scope next levels gs) (sym k.many)));
  last = e;
  made = f;
}

pub keeps_empty : (next : ℕ) (levels : List Level) (choices : List CapturedChoice) (gs : Groups) (n : ℕ) (c : CapturedChoice) (scopes : List ℕ)
    (newest number : ℕ)
    → AreGroupsOf choices gs → n < length choices → c ≡ get_or choices n c → length c.alternatives.items ≡ 0
    → KeepsScopes next levels gs n scopes newest number → KeepsScopes next levels gs (suc n) (scopes ++ newest ∷ []) newest number
keeps_empty next levels choices gs n c scopes newest number a lt e z k =
    let m = groups_many choices gs a in
    let g : List Entry = get_or gs n [] in
    let is : g ≡ get_or gs n g = grind (arith, common_steps) in
    let l = group_of choices gs n c g a lt e is in
    let o : nodes_in gs (suc n) ≡ nodes_in gs n = let h = one_more gs n g (omega (arith, m, lt)) is in let q = no_more g (sym l ∙ z) in omega
    (arith, h, q) in
    keeps_more next levels gs n scopes newest number newest number k (k.last ∙ ap (newest_node next levels) (sym o))
    (k.made ∙ ap (λ x. next + x) (sym o))

pub keeps_node : (next : ℕ) (levels : List Level) (choices : List CapturedChoice) (gs : Groups) (n : ℕ) (c : CapturedChoice) (scopes : List ℕ)
    (newest number : ℕ)
    → AreGroupsOf choices gs → n < length choices → c ≡ get_or choices n c → 0 < length c.alternatives.items
    → KeepsScopes next levels gs n scopes newest number → KeepsScopes next levels gs (suc n) (scopes ++ number ∷ []) number (number + 1)
keeps_node next levels choices gs n c scopes newest number a lt e z k =
    let m = groups_many choices gs a in
    let g : List Entry = get_or gs n [] in
    let is : g ≡ get_or gs n g = grind (arith, common_steps) in
    let l = group_of choices gs n c g a lt e is in
    let q = a_more g (omega (arith, l, z)) in
    let o : nodes_in gs (suc n) ≡ suc (nodes_in gs n) = let h = one_more gs n g (omega (arith, m, lt)) is in omega (arith, h, q) in
    let made = k.made in
    keeps_more next levels gs n scopes newest number number (number + 1) k (made ∙ ap (newest_node next levels) (sym o)) (omega (arith, made, o))

pub keeps_all : (next : ℕ) (levels : List Level) (choices : List CapturedChoice) (gs : Groups) (scopes : List ℕ) (newest number : ℕ)
    → AreGroupsOf choices gs
    → KeepsScopes next levels gs (length choices) scopes newest number → AreScopes next levels gs scopes
keeps_all next levels choices gs scopes newest number a k = record {
  many = let m = groups_many choices gs a in let n = k.many in omega (arith, m, n);
  each = k.each;
}

-- past the last choice point
past_end : (gs : Groups) (n : ℕ) → length gs ≤ n → take n gs ≡ take (length gs) gs
past_end [] zero le = refl
past_end [] (suc n) le = refl
past_end (g ∷ gs) zero le = absurd (omega (arith, le))
past_end (g ∷ gs) (suc n) le = ap (λ xs. g ∷ xs) (past_end gs n (omega (arith, le)))

module _ (next : ℕ) (levels : List Level) (gs : Groups) where
  beyond : (n : ℕ) → length levels + length gs ≤ n → choice_scope next levels gs (length levels + length gs) ≡ choice_scope next levels gs n
  beyond n le =
      let many : length levels + length gs - length levels ≡ length gs = omega arith in
      let whole : length levels ≤ length levels + length gs = omega arith in
      from_floor next levels gs (length levels + length gs) whole ∙ (ap (scope_kept next levels gs) many
      ∙ (ap (λ (xs : Groups). newest_node next levels (length (nonempty_groups xs))) (sym (past_end gs (n - length levels) (omega (arith, le))))
      ∙ sym (from_floor next levels gs n (omega (arith, le)))))

  pub scope_is : (scopes : List ℕ) → AreScopes next levels gs scopes → (n : ℕ) → scope_at scopes n ≡ choice_scope next levels gs n
  scope_is scopes a n = by_test (nat_lt n (length scopes)) refl
    where
      by_test : (t : Bool) → nat_lt n (length scopes) ≡ t → cond t (get_or scopes n 0) (get_or scopes (length scopes - 1) 0) ≡ choice_scope next
          levels
          gs n
      by_test true q = let lt : n < length scopes = grind (arith, nat_tests) in a.each n lt
      by_test false q =
          let ge : length scopes ≤ n = grind (arith, nat_tests) in
          let many : length scopes ≡ suc (length levels + length gs) = a.many in
          let last : length scopes - 1 ≡ length levels + length gs = omega (arith, many) in
          a.each (length scopes - 1) (omega (arith, many)) ∙ (ap (choice_scope next levels gs) last ∙ beyond n (omega (arith, many, ge)))
