-- The list of a tree that keeps its invariants has sound names.
use Rattle.std.proofs.Common.{◌≡◌, ℕ, suc, ◌+◌, ◌==◌, Bool, true, false, cond, List, [], ◌∷◌, ◌++◌, length, length-append, refl, sym, ap}
use Rattle.std.proofs.Common.{◌∙◌, subst, arith}
use Rattle.run_model.specs.Machine.Items.{Item, GoalItem, CatchMark, CollectMark, RemovalItem}
use Rattle.run_model.specs.Machine.Entries.{Entry, PlainEntry, CatchEntry, FindallEntry, EndEntry}
use Rattle.tree_model.specs.Nodes.{Kind, CatchNode, FindallNode, Ready, TakenBy, Waiting, Dormant, Node, Numbered, Alternatives, none}
use Rattle.tree_model.specs.Nodes.{alternative, Status, Pending, Inner, Closed}
use Rattle.tree_model.specs.Levels.{Level}
use Rattle.tree_model.specs.Elements.{Name}
use Rattle.tree_model.specs.PendingLists.{Step, Way, way_of, element_on, list_in, list_among, list_below, list_right, back_of}
use Rattle.tree_model.specs.Ways.{is_on, way_above, AreScoped}
use Rattle.tree_model.specs.SoundTrees.{count_in, count_among, count_below, one_if}
use Rattle.tree_model.proofs.CountLemmas.{count_around}
use Rattle.interleaving.specs.Sound.{IsMadeElsewhere, EachFindall}
use Rattle.interleaving.proofs.WayLemmas.{cond-false, reach-on, through-on, one_if-zero}
use Rattle.interleaving.proofs.CarriedLemmas.{findalls-append}
use Rattle.interleaving.proofs.ListEndLemmas.{levels_down}
use Rattle.interleaving.proofs.ListScopeLemmas.{IsDistinct, Scoped, way_down, distinct-up, distinct-down, apart_above}
use Rattle.interleaving.proofs.ListMarkLemmas.{through_side}
use Rattle.au_term.proofs.LogicLemmas.{false_true, number_same}

-- from scopes in reach to scopes on the branch
abbrev levels_over : List Level → ℕ → List Level
levels_over [] s = []
levels_over (v ∷ up) s = cond (v.number == s) up (levels_over up s)

way_over : (levels : List Level) (s : ℕ) → way_of (levels_over levels s) ≡ way_above (way_of levels) s
way_over [] s = refl
way_over (v ∷ up) s = go (v.number == s) (way_over up s)
  where
    go : (b : Bool) → way_of (levels_over up s) ≡ way_above (way_of up) s → way_of (cond b up (levels_over up s))
        ≡ cond b (way_of up) (way_above (way_of up) s)
    go true h = refl
    go false h = h

distinct-over : (levels : List Level) (s : ℕ) → IsDistinct levels → IsDistinct (levels_over levels s)
distinct-over [] s d = d
distinct-over (v ∷ up) s d = go (v.number == s) (distinct-over up s (distinct-up v up d))
  where
    go : (b : Bool) → IsDistinct (levels_over up s) → IsDistinct (cond b up (levels_over up s))
    go true h = distinct-up v up d
    go false h = h

after-on : (c : Bool) (x : Bool) → x ≡ true → cond c true x ≡ true
after-on true x h = refl
after-on false x h = h

lifted : (v : Level) (up : List Level) (items : List (Item ℕ)) → IsDistinct (v ∷ up) → Scoped up items → Scoped (v ∷ up) items
lifted v up [] d h = tt
lifted v up (RemovalItem number ∷ items) d h = lifted v up items d h
lifted v up (GoalItem t s ∷ items) d h = (
  after-on (v.number == s) _ h.0,
  subst (λ l. Scoped l items)
      (sym (cond-false (v.number == s) (v ∷ up) (levels_down up s) (apart_above v up s d h.0))) h.1,
)
lifted v up (CatchMark s ∷ items) d h =
    let off = apart_above v up s d h.0 in (
      after-on (v.number == s) _ h.0,
      cond-false (v.number == s) _ _ off
          ∙ h.1,
      subst (λ l. Scoped l items) (sym (cond-false (v.number == s) (v ∷ up) (levels_down up s) off)) h.2,
    )
lifted v up (CollectMark t s ∷ items) d h =
    let off = apart_above v up s d h.0 in (
      after-on (v.number == s) _ h.0,
      cond-false (v.number == s) _ _ off
          ∙ h.1,
      subst (λ l. Scoped l items) (sym (cond-false (v.number == s) (v ∷ up) (levels_down up s) off)) h.2,
    )

-- what looks above a node of the branch looks no lower than the node
over_down : (levels : List Level) (s : ℕ) (items : List (Item ℕ)) → IsDistinct levels → is_on (way_of levels) s ≡ true
    → Scoped (levels_over levels s) items → Scoped (levels_down levels s) items
over_down [] s items d o h = h
over_down (v ∷ up) s items d o h = go (v.number == s) (over_down up s items (distinct-up v up d)) o h
  where
    go : (b : Bool) → (is_on (way_of up) s ≡ true → Scoped (levels_over up s) items → Scoped (levels_down up s) items)
        → cond b true (is_on (way_of up) s) ≡ true → Scoped (cond b up (levels_over up s)) items
        → Scoped (cond b (v ∷ up) (levels_down up s)) items
    go true f k z = lifted v up items d z
    go false f k z = f k z

pub scoped_by : (levels : List Level) (items : List (Item ℕ)) → IsDistinct levels → AreScoped (way_of levels) items → Scoped levels items
scoped_by levels [] d h = tt
scoped_by levels (RemovalItem number ∷ items) d h = scoped_by levels items d h
scoped_by levels (GoalItem t s ∷ items) d h = (
  reach-on (way_of levels) s h.0,
  scoped_by (levels_down levels s) items (distinct-down levels s d)
      (subst (λ w. AreScoped w items) (sym (way_down levels s)) h.1),
)
scoped_by levels (CatchMark s ∷ items) d h =
    let o = through-on CatchNode (way_of levels) s h.0 in (
      o,
      through_side CatchNode levels s h.0,
      over_down levels s items d o
          (scoped_by (levels_over levels s) items (distinct-over levels s d)
          (subst (λ w. AreScoped w items) (sym (way_over levels s)) h.1)),
    )
scoped_by levels (CollectMark t s ∷ items) d h =
    let o = through-on FindallNode (way_of levels) s h.0 in (
      o,
      through_side FindallNode levels s h.0,
      over_down levels s items d o
          (scoped_by (levels_over levels s) items (distinct-over levels s d)
          (subst (λ w. AreScoped w items) (sym (way_over levels s)) h.1)),
    )

-- what an entry makes has a longer name than any scope of the tree
pub older_scope : (i n a b : ℕ) → IsMadeElsewhere (0 ∷ i ∷ n ∷ []) (a ∷ b ∷ [])
older_scope i n a b more e =
    let lengths : ◌≡◌ {A = ℕ} 2 (length (more ++ 0 ∷ i ∷ n ∷ [])) = ap length e in
    let long : length (more ++ 0 ∷ i ∷ n ∷ []) ≡ length more + 3 = length-append more (0 ∷ i ∷ n ∷ []) in
    omega (arith, lengths, long)

-- findalls of a part of the tree
module _ (P : Name → Type 0) (short : (a b : ℕ) → P (a ∷ b ∷ [])) where
  short_element : (way : Way) (e : Entry) → EachFindall P (element_on way e ∷ [])
  short_element [] (PlainEntry f) = tt
  short_element [] (CatchEntry c r f) = tt
  short_element [] (FindallEntry results l f) = (short 0 0, tt)
  short_element [] (EndEntry b) = tt
  short_element (a ∷ way) (PlainEntry f) = tt
  short_element (a ∷ way) (CatchEntry c r f) = tt
  short_element (a ∷ way) (FindallEntry results l f) = (short 0 a.node, tt)
  short_element (a ∷ way) (EndEntry b) = tt

  mutual
    short_node : (way : Way) (node : Node) → EachFindall P (list_in way node)
    short_node way (Numbered n kind alternatives) = short_among way n kind 0 alternatives

    pub short_among : (way : Way) (n : ℕ) (kind : Kind) (i : ℕ) (others : Alternatives) → EachFindall P (list_among way n kind i others)
    short_among way n kind i none = tt
    short_among way n kind i (alternative spent status others) = findalls-append P
        (list_below (record { node = n; index = i; kind = kind } ∷ way) spent status) _
        (short_below (record { node = n; index = i; kind = kind } ∷ way) spent status) (short_among way n kind (suc i) others)

    short_below : (way : Way) (spent : ℕ) (status : Status) → EachFindall P (list_below way spent status)
    short_below way spent (Inner node) = short_node way node
    short_below way spent (Closed c) = tt
    short_below way spent (Pending Dormant e) = short_element way e
    short_below way spent (Pending Ready e) = short_element way e
    short_below way spent (Pending (TakenBy w) e) = short_element way e
    short_below way spent (Pending (Waiting g) e) = short_element way e

  pub short_back : (levels : List Level) → EachFindall P (back_of levels)
  short_back [] = tt
  short_back (v ∷ up) = findalls-append P (list_right (way_of up) v) (back_of up)
      (short_among (way_of up) v.number v.kind (suc (length v.left)) v.right) (short_back up)

-- none of a number
module _ (n : ℕ) where
  abbrev IsOther : Name → Type 0
  IsOther e = e ≡ 0 ∷ n ∷ [] → ⊥

  not_named : (a m : ℕ) → (m == n) ≡ false → IsOther (a ∷ m ∷ [])
  not_named a m e h = let same : m ≡ n = cc in let yes : (m == n) ≡ true = subst (λ k. (m == k) ≡ true) same (number_same m) in false_true
      (sym e ∙ yes)

  other_element : (a : Step) (way : Way) (e : Entry) → (a.node == n) ≡ false → EachFindall IsOther (element_on (a ∷ way) e ∷ [])
  other_element a way (PlainEntry f) h = tt
  other_element a way (CatchEntry c r f) h = tt
  other_element a way (FindallEntry results l f) h = (not_named 0 a.node h, tt)
  other_element a way (EndEntry b) h = tt

  mutual
    other_in : (way : Way) (node : Node) → count_in n node ≡ 0 → EachFindall IsOther (list_in way node)
    other_in way (Numbered m kind alternatives) h =
        let here : one_if (m == n) ≡ 0 = omega (arith, h) in
        let rest : count_among n alternatives ≡ 0 = omega (arith, h) in
        other_among way m kind 0 alternatives (one_if-zero (m == n) here) rest

    other_among : (way : Way) (m : ℕ) (kind : Kind) (i : ℕ) (others : Alternatives) → (m == n) ≡ false → count_among n others ≡ 0
        → EachFindall IsOther (list_among way m kind i others)
    other_among way m kind i none e h = tt
    other_among way m kind i (alternative spent status others) e h =
        let here : count_below n status ≡ 0 = omega (arith, h) in
        let rest : count_among n others ≡ 0 = omega (arith, h) in
        findalls-append IsOther (list_below (record { node = m; index = i; kind = kind } ∷ way) spent status) _
        (other_below (record { node = m; index = i; kind = kind }) way spent status e here)
        (other_among way m kind (suc i) others e rest)

    other_below : (a : Step) (way : Way) (spent : ℕ) (status : Status) → (a.node == n) ≡ false → count_below n status ≡ 0
        → EachFindall IsOther (list_below (a ∷ way) spent status)
    other_below a way spent (Inner node) e h = other_in (a ∷ way) node h
    other_below a way spent (Closed c) e h = tt
    other_below a way spent (Pending Dormant x) e h = other_element a way x e
    other_below a way spent (Pending Ready x) e h = other_element a way x e
    other_below a way spent (Pending (TakenBy w) x) e h = other_element a way x e
    other_below a way spent (Pending (Waiting g) x) e h = other_element a way x e

  pub other_back : (levels : List Level) → count_around n levels ≡ 0 → EachFindall IsOther (back_of levels)
  other_back [] h = tt
  other_back (v ∷ up) h =
      let here : one_if (v.number == n) ≡ 0 = omega (arith, h) in
      let rest : count_among n v.right ≡ 0 = omega (arith, h) in
      let above : count_around n up ≡ 0 = omega (arith, h) in
      findalls-append IsOther (list_right (way_of up) v) (back_of up)
      (other_among (way_of up) v.number v.kind (suc (length v.left)) v.right (one_if-zero (v.number == n) here) rest)
      (other_back up above)
