-- Lists that stand for the same heights: own names are free, and so are ends of scopes that nothing names.
use Rattle.std.proofs.Common.{◌≡◌, ℕ, suc, ◌==◌, Bool, true, false, cond, List, [], ◌∷◌, ◌++◌, map, refl, ap, ◌∙◌}
use Rattle.au_model.specs.Terms.Each.{Each}
use Rattle.run_model.specs.Machine.Items.{Item, GoalItem, CatchMark, CollectMark, RemovalItem}
use Rattle.run_model.specs.Machine.Entries.{PlainEntry, CatchEntry, FindallEntry, EndEntry}
use Rattle.tree_model.specs.Nodes.{CatchNode, FindallNode}
use Rattle.tree_model.specs.Floors.{renamed_item}
use Rattle.tree_model.specs.PendingLists.{Way, scope_on}
use Rattle.tree_model.specs.Ways.{is_on, way_from, way_above, AreScoped}
use Rattle.tree_model.specs.Elements.{Name, same, Record, Element, Credit, Plain, EndOf, Catch, Findall, End}
use Rattle.interleaving.specs.HeightMachine.{HeightCredit, HeightEntry}
use Rattle.interleaving.specs.Erased.{from, element_count, height, continuation_heights, record_height, erased}
use Rattle.interleaving.specs.Sound.{names}
use Rattle.interleaving.specs.Views.{IsBlind}
use Rattle.interleaving.proofs.WayLemmas.{reach-on, through-on}
use Rattle.interleaving.proofs.NamingLemmas.{same-heights}
use Rattle.interleaving.proofs.FrontSameLemmas.{front_is_same}
use Rattle.interleaving.proofs.BlindLemmas.{of_node, from_on, above_on}

-- the same heights, whatever is named
pub record Same (ys zs : List Element) : Type 0 where
  pub entries : erased ys ≡ erased zs
  pub counts : element_count ys ≡ element_count zs
  pub heights : (s : Name) → height ys s ≡ height zs s

all-names : (f g : Name → ℕ) → ((s : Name) → f s ≡ g s) → (hs : List Name) → Each (λ s. f s ≡ g s) hs
all-names f g h [] = tt
all-names f g h (s ∷ hs) = (h s, all-names f g h hs)

all-rows : (xs ys : List Element) → ((s : Name) → height xs s ≡ height ys s) → (rs : List Record) → map (record_height xs) rs
    ≡ map (record_height ys) rs
all-rows xs ys h [] = refl
all-rows xs ys h (r ∷ rs) = let tail = all-rows xs ys h rs in let head = h r.0 in cc

pub same_front : (pre ys zs : List Element) → Same ys zs → Same (pre ++ ys) (pre ++ zs)
same_front [] ys zs h = h
same_front (Credit k rs ∷ pre) ys zs h = let i = same_front pre ys zs h in
    record {
      entries = ap (λ l. HeightCredit k l ∷ erased (pre ++ ys)) (all-rows (pre ++ ys) (pre ++ zs) i.heights rs)
          ∙ ap (λ l. HeightCredit k (map (record_height (pre ++ zs)) rs) ∷ l) i.entries;
      counts = ap suc i.counts;
      heights = i.heights;
    }
same_front (Plain p f ∷ pre) ys zs h = let i = same_front pre ys zs h in
    record {
      entries = ap (λ l. HeightEntry (PlainEntry l) ∷ erased (pre ++ ys))
          (same-heights (height (pre ++ ys)) (height (pre ++ zs)) f (all-names _ _ i.heights (names f.items)))
          ∙ ap (λ l. HeightEntry (PlainEntry (continuation_heights (height (pre ++ zs)) f)) ∷ l) i.entries;
      counts = ap suc i.counts;
      heights =
          i.heights;
    }
same_front (Catch s u c r p f ∷ pre) ys zs h = let i = same_front pre ys zs h in
    record {
      entries = ap (λ l. HeightEntry (CatchEntry c r l) ∷ erased (pre ++ ys))
          (same-heights (height (pre ++ ys)) (height (pre ++ zs)) f (all-names _ _ i.heights (names f.items)))
          ∙ ap (λ l. HeightEntry (CatchEntry c r (continuation_heights (height (pre ++ zs)) f)) ∷ l) i.entries;
      counts = ap suc i.counts;
      heights
          = i.heights;
    }
same_front (Findall s u results list p f ∷ pre) ys zs h = let i = same_front pre ys zs h in
    record {
      entries = ap (λ l. HeightEntry (FindallEntry results list l) ∷ erased (pre ++ ys))
          (same-heights (height (pre ++ ys)) (height (pre ++ zs)) f (all-names _ _ i.heights (names f.items)))
          ∙ ap (λ l. HeightEntry (FindallEntry results list (continuation_heights (height (pre ++ zs)) f)) ∷ l) i.entries;
      counts = ap suc
          i.counts;
      heights = i.heights;
    }
same_front (End p b ∷ pre) ys zs h = let i = same_front pre ys zs h in
    record { entries = ap (λ l. HeightEntry (EndEntry b) ∷ l) i.entries; counts = ap suc i.counts; heights = i.heights }
same_front (EndOf e ∷ pre) ys zs h = let i = same_front pre ys zs h in
    record { entries = i.entries; counts = i.counts; heights = λ s. at (same s e) s i }
  where
    at : (b : Bool) (s : Name) → Same (pre ++ ys) (pre ++ zs) → element_count (cond b (EndOf e ∷ (pre ++ ys)) (from (pre ++ ys) s))
        ≡ element_count (cond b (EndOf e ∷ (pre ++ zs)) (from (pre ++ zs) s))
    at true s i = i.counts
    at false s i = i.heights s

-- an end that nothing in front names
pub end_put : (n i : ℕ) (pre zs : List Element) → (n == n) ≡ true → Each (IsBlind (of_node n)) pre → erased (pre ++ zs)
    ≡ erased (pre ++ (EndOf (i ∷ n ∷ []) ∷ zs))
end_put n i pre zs e h = front_is_same (of_node n) pre [] (EndOf (i ∷ n ∷ []) ∷ []) zs h tt (e, tt) refl

-- items named by ways that read alike
pub items_same : (n : ℕ) (base other way : Way) (items : List (Item ℕ))
    → ((s : ℕ) → is_on way s ≡ true → scope_on base s ≡ scope_on other s) → AreScoped way items
    → map (renamed_item (scope_on base) (scope_on base)) items ≡ map (renamed_item (scope_on other) (scope_on other)) items
items_same n base other way [] f h = refl
items_same n base other way (RemovalItem k ∷ items) f h = ap (λ l. RemovalItem k ∷ l) (items_same n base other way items f h)
items_same n base other way (GoalItem t s ∷ items) f h = ap
    (λ x. GoalItem t x ∷ map (renamed_item (scope_on base) (scope_on base)) items) (f s (reach-on way s h.0))
    ∙ ap (λ l. GoalItem t (scope_on other s) ∷ l)
    (items_same n base other (way_from way s) items (λ r k. f r (from_on n way s r k)) h.1)
items_same n base other way (CatchMark s ∷ items) f h = ap (λ x. CatchMark x ∷ map (renamed_item (scope_on base) (scope_on base)) items)
    (f s (through-on CatchNode way s h.0))
    ∙ ap (λ l. CatchMark (scope_on other s) ∷ l)
    (items_same n base other (way_above way s) items (λ r k. f r (above_on n way s r k)) h.1)
items_same n base other way (CollectMark t s ∷ items) f h = ap
    (λ x. CollectMark t x ∷ map (renamed_item (scope_on base) (scope_on base)) items) (f s (through-on FindallNode way s h.0))
    ∙ ap (λ l. CollectMark t (scope_on other s) ∷ l)
    (items_same n base other (way_above way s) items (λ r k. f r (above_on n way s r k)) h.1)
