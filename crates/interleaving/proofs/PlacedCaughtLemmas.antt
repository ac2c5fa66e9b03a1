-- Placed nodes keep marks and queries.
use Rattle.std.proofs.Common.{◌≡◌, ℕ, suc, ◌+◌, ◌-◌, ◌≤◌, ◌==◌, Bool, true, false, cond, List, [], ◌∷◌, ◌++◌, map, length, take, drop}
use Rattle.std.proofs.Common.{length-append, refl, sym, ap, ◌∙◌, subst, arith}
use Rattle.std.specs.Prelude.{◌||◌, not, nat_le}
use Rattle.std.specs.List.{list_any}
use Rattle.au_model.specs.Terms.Each.{Each}
use Rattle.run_model.specs.Machine.Items.{Item, GoalItem, CatchMark, CollectMark, RemovalItem}
use Rattle.run_model.specs.Machine.Entries.{Entry, PlainEntry, CatchEntry, FindallEntry, EndEntry}
use Rattle.tree_model.specs.Nodes.{Kind, Hold, Ready, TakenBy, Waiting, Dormant, Alternatives, none, alternative, Status, Pending, Inner}
use Rattle.tree_model.specs.Nodes.{Closed, entry_alternatives}
use Rattle.tree_model.specs.Levels.{Level}
use Rattle.tree_model.specs.Floors.{node_of, with_nodes, right_entry, with_heights, floor_of}
use Rattle.tree_model.specs.Shapes.{further, is_guard, is_alone, fits_nodes, holder, guard_kind, guard_hold, further_alternatives}
use Rattle.tree_model.specs.Shapes.{placed_status}
use Rattle.tree_model.specs.PendingLists.{way_of}
use Rattle.tree_model.specs.Ways.{is_query}
use Rattle.tree_model.specs.CaughtTrees.{catch_right, with_catch, MarksCaught, EntryCaught, is_side, IsCaught, AreCaught, IsNoEnd}
use Rattle.tree_model.specs.CaughtTrees.{HasNoQuery, HaveNoQuery, IsUnspent, AreUnspent}
use Rattle.interleaving.proofs.WayLemmas.{cond-true, cond-false, other_number}
use Rattle.interleaving.proofs.RoundtripLemmas.{by_nodes, IsPath}
use Rattle.interleaving.proofs.EntryLemmas.{length-floor, own_height}
use Rattle.interleaving.proofs.BallLemmas.{node_on}
use Rattle.interleaving.proofs.PlacedSoundLemmas.{take-drop, drop-length}
use Rattle.interleaving.proofs.PlacedShapeLemmas.{holder_first, holder_later, made, made_equal, fits_one}
use Rattle.interleaving.proofs.PlacedErasedLemmas.{HaveSizes}
use Rattle.interleaving.proofs.ListScopeLemmas.{dormant_on}
use Rattle.interleaving.proofs.MarkedLemmas.{is_catch_entry, catch_at, MarksAt, EntryMarked, AreMarked, catch_low, no_guard_catch}
use Rattle.au_term.proofs.LogicLemmas.{false_true, not_equal, number_same}

-- what sleeps on a floor
entry_dormant : (up : List Level) (right : Alternatives) → is_catch_entry (with_heights up (right_entry right)) ≡ true
    → catch_right right ≡ true
entry_dormant up none h = false_true h
entry_dormant up (alternative sp (Inner node) others) h = false_true h
entry_dormant up (alternative sp (Closed c) others) h = false_true h
entry_dormant up (alternative sp (Pending Ready e) others) h = false_true h
entry_dormant up (alternative sp (Pending (TakenBy w) e) others) h = false_true h
entry_dormant up (alternative sp (Pending (Waiting g) e) others) h = false_true h
entry_dormant up (alternative sp (Pending Dormant (CatchEntry c r f)) others) h = refl
entry_dormant up (alternative sp (Pending Dormant (PlainEntry f)) others) h = false_true h
entry_dormant up (alternative sp (Pending Dormant (FindallEntry results l f)) others) h = false_true h
entry_dormant up (alternative sp (Pending Dormant (EndEntry b)) others) h = false_true h

pub floor_dormant : (levels : List Level) → IsPath (way_of levels) → (h : ℕ) → catch_at h (floor_of levels) ≡ true
    → dormant_on levels (node_of levels (suc h)) ≡ true
floor_dormant [] p h k = false_true k
floor_dormant (v ∷ up) p h k = go (length (floor_of up) == h) refl k (floor_dormant up p.1 h)
  where
    go : (b : Bool) → (length (floor_of up) == h) ≡ b → cond b (is_catch_entry (with_heights up (right_entry v.right)))
        (catch_at h (floor_of up)) ≡ true → (catch_at h (floor_of up) ≡ true → dormant_on up (node_of up (suc h)) ≡ true)
        → dormant_on (v ∷ up) (node_of (v ∷ up) (suc h)) ≡ true
    go true e z f =
        let top : length (floor_of up) ≡ h = grind arith in
        let own : node_of (v ∷ up) (suc h) ≡ v.number = ap (λ n. node_of (v ∷ up) (suc n)) (sym top ∙ length-floor up) ∙ own_height v up in
        cond-true (v.number == node_of (v ∷ up) (suc h)) (catch_right v.right) _ (ap (λ n. v.number == n) own ∙ number_same v.number)
        ∙ entry_dormant up v.right z
    go false e z f =
        let low : suc h ≤ length up = let l = catch_low h (floor_of up) z in omega (arith, l, length-floor up) in
        let node : node_of (v ∷ up) (suc h) ≡ node_of up (suc h) = cond-false (suc h == suc (length up)) v.number (node_of up (suc h))
        (not_equal (suc h) (suc (length up)) (omega (arith, low))) in
        let on = node_on up (suc h) (omega arith) low in
        let off : (v.number == node_of up (suc h)) ≡ false = other_number (way_of up) v.number (node_of up (suc h)) p.0 on
        (v.number == node_of up (suc h)) refl in
        ap (dormant_on (v ∷ up)) node ∙ (cond-false (v.number == node_of up (suc h)) (catch_right v.right)
        (dormant_on up (node_of up (suc h))) off ∙ f z)

-- an entry by the nodes that it names
abbrev Sleeping : (ℕ → ℕ) → (ℕ → Bool) → List Entry → Type 0
Sleeping name sleeps es = (h : ℕ) → catch_at h es ≡ true → sleeps (name (suc h)) ≡ true

items_caught : (name : ℕ → ℕ) (sleeps : ℕ → Bool) (es : List Entry) (items : List (Item ℕ)) → Sleeping name sleeps es → MarksAt es items
    → MarksCaught sleeps (by_nodes name items)
items_caught name sleeps es [] f m = tt
items_caught name sleeps es (CatchMark h ∷ items) f m = (f h m.0, items_caught name sleeps es items f m.1)
items_caught name sleeps es (GoalItem t h ∷ items) f m = items_caught name sleeps es items f m
items_caught name sleeps es (CollectMark t h ∷ items) f m = items_caught name sleeps es items f m
items_caught name sleeps es (RemovalItem n ∷ items) f m = items_caught name sleeps es items f m

entry_caught : (name : ℕ → ℕ) (sleeps : ℕ → Bool) (es : List Entry) (e : Entry) → Sleeping name sleeps es → EntryMarked es e
    → EntryCaught sleeps (with_nodes name e)
entry_caught name sleeps es (PlainEntry g) f m = items_caught name sleeps es g.items f m
entry_caught name sleeps es (CatchEntry c r g) f m = items_caught name sleeps es g.items f m
entry_caught name sleeps es (FindallEntry results l g) f m = items_caught name sleeps es g.items f m
entry_caught name sleeps es (EndEntry b) f m = tt

named_no_end : (name : ℕ → ℕ) (e : Entry) → IsNoEnd e → IsNoEnd (with_nodes name e)
named_no_end name (PlainEntry f) h = tt
named_no_end name (CatchEntry c r f) h = tt
named_no_end name (FindallEntry results l f) h = tt
named_no_end name (EndEntry b) h = h

-- each node's older entries are one guard, or none
abbrev pub AreAlone : List ℕ → List Entry → Type 0
AreAlone [] es = Unit {0}
AreAlone (size ∷ sizes) es = (is_alone (drop (length es - further size) es) ≡ true) × AreAlone sizes (take (length es - further size) es)

pub fits_alone : (low : ℕ) (cuts sizes : List ℕ) (es : List Entry) → fits_nodes low cuts sizes es ≡ true → AreAlone sizes es
fits_alone low cuts [] es h = tt
fits_alone low cuts (size ∷ sizes) es h =
    let f = fits_one low size sizes cuts es h in
    (f.alone, fits_alone (low + further size) cuts sizes (take (length es - further size) es) f.rest)

-- what is known where nodes are placed over a stack
pub record IsPlacedOver (name : ℕ → ℕ) (next : ℕ) (sizes : List ℕ) (sleeps : ℕ → Bool) (low es : List Entry) : Type 0 where
  pub nums : (h : ℕ) → 1 ≤ h → h ≤ length low → suc (name h) ≤ next
  pub holds : (p : ℕ) → name (suc (length low + p)) ≡ holder next sizes p
  pub sleeping : (h : ℕ) → catch_at h low ≡ true → sleeps (name (suc h)) ≡ true
  pub marked : AreMarked low es
  pub no_ends : Each IsNoEnd es
  pub alone : AreAlone sizes es
  pub fills : HaveSizes sizes es

pub record IsPlacedCaught (sleeps : ℕ → Bool) (status : Status) : Type 0 where
  pub caught : (side under : Bool) → IsCaught sleeps side under status
  pub no_query : HasNoQuery status
  pub unspent : IsUnspent 0 status

append_assoc : (xs ys zs : List Entry) → (xs ++ ys) ++ zs ≡ xs ++ (ys ++ zs)
append_assoc [] ys zs = refl
append_assoc (x ∷ xs) ys zs = ap (λ l. x ∷ l) (append_assoc xs ys zs)

marked_split : (low xs ys : List Entry) → AreMarked low (xs ++ ys) → AreMarked (ys ++ low) xs × AreMarked low ys
marked_split low [] ys h = (tt, h)
marked_split low (x ∷ xs) ys h = let k = marked_split low xs ys h.1 in
    ((subst (λ l. EntryMarked l x) (append_assoc xs ys low) h.0, k.0), k.1)

ends_split : (xs ys : List Entry) → Each IsNoEnd (xs ++ ys) → Each IsNoEnd xs × Each IsNoEnd ys
ends_split [] ys h = (tt, h)
ends_split (x ∷ xs) ys h = let k = ends_split xs ys h.1 in ((h.0, k.0), k.1)

-- no Catch entry is after one of these but among those below all
abbrev TailsPlain : List Entry → List Entry → Type 0
TailsPlain low [] = Unit {0}
TailsPlain low (o ∷ os) = ((h : ℕ) → catch_at h (os ++ low) ≡ true → catch_at h low ≡ true) × TailsPlain low os

-- the older entries of a node
module _ (name : ℕ → ℕ) (next : ℕ) (sleeps : ℕ → Bool) (low : List Entry)
    (nums : (h : ℕ) → 1 ≤ h → h ≤ length low → suc (name h) ≤ next)
    (below : (h : ℕ) → catch_at h low ≡ true → sleeps (name (suc h)) ≡ true) where
  -- a node below the new one
  lower : (b : Bool) (h : ℕ) → catch_at h low ≡ true → with_catch next b sleeps (name (suc h)) ≡ true
  lower b h k =
      let l = nums (suc h) (omega arith) (catch_low h low k) in
      cond-false (next == name (suc h)) b (sleeps (name (suc h))) (apart (next == name (suc h)) refl l) ∙ below h k
    where
      apart : (b : Bool) → (next == name (suc h)) ≡ b → suc (name (suc h)) ≤ next → b ≡ false
      apart false e l = refl
      apart true e l = let same : next ≡ name (suc h) = grind arith in let no_way : ⊥ = omega (arith, same, l) in absurd no_way

  further_caught : (under : Bool) (kind : Kind) (hold : Hold) (i : ℕ) (olds : List Entry) → TailsPlain low olds → AreMarked low olds
      → AreCaught sleeps under next kind i (entry_alternatives hold (map (with_nodes name) olds))
  further_caught under kind hold i [] t m = tt
  further_caught under kind hold i (o ∷ os) t m =
      let b = catch_right (entry_alternatives hold (map (with_nodes name) os)) in (
        entry_caught name (with_catch next b sleeps) (os ++ low) o (λ h k. lower b h (t.0 h k)) m.0,
        further_caught under kind hold (suc i)
            os t.1 m.1,
      )

  -- what is over them
  inner_dormant : (size : ℕ) (sizes : List ℕ) (olds : List Entry)
      → ((p : ℕ) → name (suc (length low + p)) ≡ holder next (size ∷ sizes) p) → length olds ≡ further size → is_alone olds ≡ true
      → (h : ℕ) → catch_at h (olds ++ low) ≡ true → with_catch next (catch_right (further_alternatives (map (with_nodes name) olds)))
      sleeps (name (suc h)) ≡ true
  inner_dormant size sizes olds holds many alone h k = pick (list_any is_guard olds) refl
    where
      pick : (b : Bool) → list_any is_guard olds ≡ b → with_catch next (catch_right (further_alternatives (map (with_nodes name) olds)))
          sleeps (name (suc h)) ≡ true
      pick false e = lower _ h (no_guard_catch h olds low e k)
      pick true e = single olds many (sym (ap (λ b. not b || (length olds == 1)) e) ∙ alone) k
        where
          single : (os : List Entry) → length os ≡ further size → (length os == 1) ≡ true → catch_at h (os ++ low) ≡ true
              → with_catch next (catch_right (further_alternatives (map (with_nodes name) os))) sleeps (name (suc h)) ≡ true
          single [] l q z = let no_way : ⊥ = grind arith in absurd no_way
          single (o ∷ c ∷ os) l q z = let same : suc (suc (length os)) ≡ 1 = grind arith in let no_way : ⊥ = omega (arith, same) in
              absurd no_way
          single (o ∷ []) l q z = go (length low == h) refl z
            where
              own : h ≡ length low → name (suc h) ≡ next
              own y = ap (λ n. name (suc n)) (let x : h ≡ length low + 0 = omega (arith, y) in x)
                  ∙ (holds 0 ∙ holder_first next size sizes 0 (let x : 1 ≡ further size = l in omega (arith, x)))

              wakes : (e : Entry) → is_catch_entry e ≡ true → catch_right (further_alternatives (map (with_nodes name) (e ∷ []))) ≡ true
              wakes (CatchEntry c r f) x = refl
              wakes (PlainEntry f) x = false_true x
              wakes (FindallEntry results list f) x = false_true x
              wakes (EndEntry b) x = false_true x

              go : (b : Bool) → (length low == h) ≡ b → cond b (is_catch_entry o) (catch_at h low) ≡ true
                  → with_catch next (catch_right (further_alternatives (map (with_nodes name) (o ∷ [])))) sleeps (name (suc h)) ≡ true
              go false y x = lower _ h x
              go true y x =
                  let top : h ≡ length low = (let t : length low ≡ h = grind arith in sym t) in
                  cond-true (next == name (suc h)) (catch_right (further_alternatives (map (with_nodes name) (o ∷ []))))
                  (sleeps (name (suc h))) (ap (λ n. next == n) (own top) ∙ number_same next) ∙ wakes o x

guard_tails : (low olds : List Entry) → list_any is_guard olds ≡ false → TailsPlain low olds
guard_tails low [] h = tt
guard_tails low (o ∷ os) h = ((λ k z. no_guard_catch k os low (rest (is_guard o) h) z), guard_tails low os (rest (is_guard o) h))
  where
    rest : (b : Bool) → (b || list_any is_guard os) ≡ false → list_any is_guard os ≡ false
    rest false k = k
    rest true k = false_true (sym k)

alone_tails : (low olds : List Entry) → is_alone olds ≡ true → TailsPlain low olds
alone_tails low olds h = pick (list_any is_guard olds) refl
  where
    single : (os : List Entry) → (length os == 1) ≡ true → TailsPlain low os
    single [] k = tt
    single (o ∷ []) k = ((λ n z. z), tt)
    single (o ∷ c ∷ os) k = let same : suc (suc (length os)) ≡ 1 = grind arith in let no_way : ⊥ = omega (arith, same) in absurd no_way

    pick : (b : Bool) → list_any is_guard olds ≡ b → TailsPlain low olds
    pick false e = guard_tails low olds e
    pick true e = single olds (sym (ap (λ b. not b || (length olds == 1)) e) ∙ h)

further_no_query : (name : ℕ → ℕ) (hold : Hold) (olds : List Entry) → Each IsNoEnd olds
    → HaveNoQuery (entry_alternatives hold (map (with_nodes name) olds))
further_no_query name hold [] h = tt
further_no_query name hold (o ∷ os) h = (named_no_end name o h.0, further_no_query name hold os h.1)

further_unspent : (hold : Hold) (olds : List Entry) → AreUnspent (entry_alternatives hold olds)
further_unspent hold [] = tt
further_unspent hold (o ∷ os) = (refl, further_unspent hold os)

kind_no_query : (olds : List Entry) → is_query (guard_kind olds) ≡ false
kind_no_query [] = refl
kind_no_query (PlainEntry f ∷ es) = refl
kind_no_query (CatchEntry c r f ∷ es) = refl
kind_no_query (FindallEntry results l f ∷ es) = refl
kind_no_query (EndEntry b ∷ es) = refl

-- one node over what is inside it
made_caught : (name : ℕ → ℕ) (next size : ℕ) (sizes : List ℕ) (sleeps : ℕ → Bool) (low inner olds : List Entry)
    → IsPlacedOver name next (size ∷ sizes) sleeps low (inner ++ olds) → length olds ≡ further size → is_alone olds ≡ true
    → AreAlone sizes inner → HaveSizes sizes inner
    → ((s : ℕ → Bool) → IsPlacedOver name (suc next) sizes s (olds ++ low) inner
    → IsPlacedCaught s (placed_status (suc next) sizes (map (with_nodes name) inner)))
    → IsPlacedCaught sleeps (made next (placed_status (suc next) sizes (map (with_nodes name) inner)) (map (with_nodes name) olds))
made_caught name next size sizes sleeps low inner olds h many alone rest fills ih =
    let new = map (with_nodes name) olds in
    let s = with_catch next (catch_right (further_alternatives (map (with_nodes name) olds))) sleeps in
    let marks = marked_split low inner olds h.marked in
    let ends = ends_split inner olds h.no_ends in
    let tall : length (olds ++ low) ≡ length low + further size = omega (arith, length-append olds low, many) in
    let k = ih s (record {
      nums = λ n a b. num n a b (nat_le n (length low)) refl;
      holds = λ p. ap (λ m. name (suc m))
          (let z : length (olds ++ low) + p ≡ length low + (further size + p) = omega (arith, tall) in z)
          ∙ (h.holds (further size + p) ∙ holder_later next size sizes p);
      sleeping = inner_dormant name next sleeps low h.nums h.sleeping size sizes olds h.holds many alone;
      marked = marks.0;
      no_ends = ends.0;
      alone = rest;
      fills = fills;
    }) in
    record {
      caught = λ side under. (
        k.caught (is_side (guard_kind new) 0) (side || under),
        further_caught name next sleeps low h.nums h.sleeping
            (side || under) (guard_kind new) (guard_hold (guard_kind new)) 1 olds (alone_tails low olds alone) marks.1,
      );
      no_query = (kind_no_query new, (k.no_query, further_no_query name (guard_hold (guard_kind new)) olds ends.1));
      unspent = (k.unspent, further_unspent (guard_hold (guard_kind new)) new);
    }
  where
    height_is : length (olds ++ low) ≡ length low + further size
    height_is = omega (arith, length-append olds low, many)

    num : (n : ℕ) → 1 ≤ n → n ≤ length (olds ++ low) → (c : Bool) → nat_le n (length low) ≡ c → suc (name n) ≤ suc next
    num n a b true e = let l : n ≤ length low = grind arith in omega (arith, h.nums n a l)
    num n a b false e =
        let high : suc (length low) ≤ n = grind arith in
        let place : n ≡ suc (length low + (n - suc (length low))) = omega (arith, high) in
        let here : name n ≡ next = ap name place
        ∙ (h.holds (n - suc (length low)) ∙ holder_first next size sizes (n - suc (length low))
        (omega (arith, high, b, height_is))) in
        omega (arith, here)

pub placed_caught : (name : ℕ → ℕ) (next : ℕ) (sizes : List ℕ) (sleeps : ℕ → Bool) (low es : List Entry)
    → IsPlacedOver name next sizes sleeps low es → IsPlacedCaught sleeps (placed_status next sizes (map (with_nodes name) es))
placed_caught name next [] sleeps low [] h = let no_way : ⊥ = omega (arith, h.fills) in absurd no_way
placed_caught name next [] sleeps low (e ∷ d ∷ es) h = let no_way : ⊥ = omega (arith, h.fills) in absurd no_way
placed_caught name next [] sleeps low (e ∷ []) h = record {
  caught = λ side under. entry_caught name sleeps low e h.sleeping h.marked.0;
  no_query = named_no_end name e h.no_ends.0;
  unspent =
      refl;
}
placed_caught name next (size ∷ sizes) sleeps low es h =
    let rest = length es - further size in
    let olds : length (drop rest es) ≡ further size = omega (arith, drop-length rest es, h.fills.0) in
    let split : IsPlacedOver name next (size ∷ sizes) sleeps low (take rest es ++ drop rest es) = subst
    (λ l. IsPlacedOver name next (size ∷ sizes) sleeps low l) (take-drop rest es) h in
    subst (IsPlacedCaught sleeps) (sym (made_equal (with_nodes name) next size sizes es))
    (made_caught name next size sizes sleeps low (take rest es) (drop rest es) split olds h.alone.0 h.alone.1 h.fills.2
    (λ s k. placed_caught name (suc next) sizes s (drop rest es ++ low) (take rest es) k))
