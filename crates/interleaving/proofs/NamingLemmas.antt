-- Heights for names.
use Rattle.std.proofs.Common.{◌≡◌, ℕ, suc, ◌-◌, ◌≤◌, Bool, true, false, ◌==◌, cond, List, [], ◌∷◌, ◌++◌, map, length, length-append, Option, Some, None}
use Rattle.std.proofs.Common.{drop, refl, sym, ap, ◌∙◌, arith}
use Rattle.std.proofs.lemmas.Bool.{eq-eqb}
use Rattle.au_term.specs.Term.{Term}
use Rattle.au_model.specs.Terms.Each.{Each}
use Rattle.au_model.specs.Terms.Substitutions.{Substitution}
use Rattle.run_model.specs.Machine.Items.{Item, GoalItem, CatchMark, CollectMark, RemovalItem, Continuation, resolve_item, resolve_named}
use Rattle.run_model.specs.Machine.Items.{resolve_continuation, goals_at, before, removal_items, removing}
use Rattle.run_model.specs.Machine.Entries.{PlainEntry, CatchEntry, FindallEntry, EndEntry}
use Rattle.tree_model.specs.Elements.{Name, same, Element, Credit, Plain, EndOf, Catch, Findall, End}
use Rattle.interleaving.specs.HeightMachine.{HeightElement, HeightCredit, HeightEntry, height_lowest}
use Rattle.interleaving.specs.Erased.{from, element_count, height, with_height, continuation_heights, record_height, erased}
use Rattle.interleaving.specs.Sound.{names, IsMadeElsewhere, IsPresent, IsChain, AreCarried}
use Rattle.interleaving.proofs.ApartLemmas.{same-true}
use Rattle.au_term.proofs.LogicLemmas.{and-both}
use Rattle.interleaving.proofs.AppendLemmas.{append-assoc}

pub not-same : (s e : Name) → (s ≡ e → ⊥) → same s e ≡ false
not-same s e h = go (same s e) refl
  where
    go : (b : Bool) → same s e ≡ b → b ≡ false
    go true f = absurd (h (same-true s e f))
    go false f = refl

pub same-itself : (s : Name) → same s s ≡ true
same-itself [] = refl
same-itself (a ∷ more) = and-both (a == a) (same more more) (eq-eqb a a refl) (same-itself more)

-- items
pub heights-same : (f g : Name → ℕ) (items : List (Item Name)) → Each (λ s. f s ≡ g s) (names items) → map (with_height f) items
    ≡ map (with_height g) items
heights-same f g [] h = refl
heights-same f g (GoalItem t k ∷ items) h = let tail = heights-same f g items h.1 in let head = h.0 in cc
heights-same f g (CatchMark k ∷ items) h = let tail = heights-same f g items h.1 in let head = h.0 in cc
heights-same f g (CollectMark t k ∷ items) h = let tail = heights-same f g items h.1 in let head = h.0 in cc
heights-same f g (RemovalItem k ∷ items) h = ap (λ l. RemovalItem k ∷ l) (heights-same f g items h)

pub heights-goals : (f : Name → ℕ) (h : Name) (gs : List Term) (items : List (Item Name)) → map (with_height f) (goals_at h gs ++ items)
    ≡ goals_at (f h) gs ++ map (with_height f) items
heights-goals f h [] items = refl
heights-goals f h (g ∷ gs) items = ap (λ l. GoalItem g (f h) ∷ l) (heights-goals f h gs items)

pub heights-resolved : (f : Name → ℕ) (s : Substitution) (items : List (Item Name)) → map (with_height f) (map (resolve_item s) items)
    ≡ map (resolve_item s) (map (with_height f) items)
heights-resolved f s [] = refl
heights-resolved f s (GoalItem t k ∷ items) = ap (λ l. resolve_item s (GoalItem t (f k)) ∷ l) (heights-resolved f s items)
heights-resolved f s (CatchMark k ∷ items) = ap (λ l. CatchMark (f k - 1) ∷ l) (heights-resolved f s items)
heights-resolved f s (CollectMark t k ∷ items) = ap (λ l. resolve_item s (CollectMark t (f k - 1)) ∷ l) (heights-resolved f s items)
heights-resolved f s (RemovalItem k ∷ items) = ap (λ l. RemovalItem k ∷ l) (heights-resolved f s items)

pub names-resolved : (s : Substitution) (items : List (Item Name)) → names (map (resolve_item s) items) ≡ names items
names-resolved s [] = refl
names-resolved s (GoalItem t k ∷ items) = ap (λ l. k ∷ l) (names-resolved s items)
names-resolved s (CatchMark k ∷ items) = ap (λ l. k ∷ l) (names-resolved s items)
names-resolved s (CollectMark t k ∷ items) = ap (λ l. k ∷ l) (names-resolved s items)
names-resolved s (RemovalItem k ∷ items) = names-resolved s items

-- a continuation with other items
pub resolved-heights : (f : Name → ℕ) (s : Substitution) (k : Continuation Name) → continuation_heights f (resolve_continuation s k)
    ≡ resolve_continuation s (continuation_heights f k)
resolved-heights f s k = ap (λ l. record { items = l; named = map (resolve_named s) k.named; next = k.next }) (heights-resolved f s k.items)

pub same-heights : (f g : Name → ℕ) (k : Continuation Name) → Each (λ s. f s ≡ g s) (names k.items) → continuation_heights f k
    ≡ continuation_heights g k
same-heights f g k h = ap (λ l. record { items = l; named = k.named; next = k.next }) (heights-same f g k.items h)

-- the heights of a body's goals and of what follows
pub body-heights : (f g : Name → ℕ) (h : Name) (n : ℕ) (gs : List Term) (items : List (Item Name)) → f h ≡ n
    → Each (λ s. f s ≡ g s) (names items) → map (with_height f) (goals_at h gs ++ items) ≡ goals_at n gs ++ map (with_height g) items
body-heights f g h n gs items e k = heights-goals f h gs items ∙ ap (λ m. goals_at m gs ++ map (with_height f) items) e
    ∙ ap (λ r. goals_at n gs ++ r) (heights-same f g items k)

pub goals-heights : (f g : Name → ℕ) (h : Name) (n : ℕ) (gs : List Term) (k : Continuation Name) → f h ≡ n
    → Each (λ s. f s ≡ g s) (names k.items) → continuation_heights f (before (goals_at h gs) k)
    ≡ before (goals_at n gs) (continuation_heights g k)
goals-heights f g h n gs k e a = ap (λ l. record { items = l; named = k.named; next = k.next }) (body-heights f g h n gs k.items e a)

-- a removal has no scope
pub names-removal : (P : Name → Type 0) (number : Option ℕ) (items : List (Item Name)) → Each P (names items) → Each P (names (removal_items number ++ items))
names-removal P None items h = h
names-removal P (Some k) items h = h

pub removal-heights : (f : Name → ℕ) (number : Option ℕ) (k : Continuation Name) → continuation_heights f (removing number k) ≡ removing number (continuation_heights f k)
removal-heights f None k = refl
removal-heights f (Some n) k = refl

-- lists
pub length-erased : (xs : List Element) → length (erased xs) ≡ element_count xs
length-erased [] = refl
length-erased (EndOf e ∷ xs) = length-erased xs
length-erased (Credit k rs ∷ xs) = ap suc (length-erased xs)
length-erased (Plain p f ∷ xs) = ap suc (length-erased xs)
length-erased (Catch c u t r p f ∷ xs) = ap suc (length-erased xs)
length-erased (Findall c u results list p f ∷ xs) = ap suc (length-erased xs)
length-erased (End p b ∷ xs) = ap suc (length-erased xs)

pub height-le : (xs : List Element) (s : Name) → height xs s ≤ element_count xs
height-le [] s = omega arith
height-le (EndOf e ∷ xs) s = go (same s e) (height-le xs s)
  where
    go : (b : Bool) → height xs s ≤ element_count xs → element_count (cond b (EndOf e ∷ xs) (from xs s)) ≤ element_count xs
    go true h = omega arith
    go false h = h
height-le (Credit k rs ∷ xs) s = omega (arith, height-le xs s)
height-le (Plain p f ∷ xs) s = omega (arith, height-le xs s)
height-le (Catch c u t r p f ∷ xs) s = omega (arith, height-le xs s)
height-le (Findall c u results list p f ∷ xs) s = omega (arith, height-le xs s)
height-le (End p b ∷ xs) s = omega (arith, height-le xs s)

one_more : (x : HeightElement) (xs : List HeightElement) (h : ℕ) → h ≤ length xs → height_lowest h (x ∷ xs) ≡ height_lowest h xs
one_more x xs h k = let e : suc (length xs) - h ≡ suc (length xs - h) = omega (arith, k) in ap (λ n. drop n (x ∷ xs)) e

low : (xs : List Element) (s : Name) → height xs s ≤ length (erased xs)
low xs s = omega (arith, height-le xs s, length-erased xs)

-- the lowest entries are those from the end of the scope on
pub lowest-from : (xs : List Element) (s : Name) → height_lowest (height xs s) (erased xs) ≡ erased (from xs s)
lowest-from [] s = refl
lowest-from (EndOf e ∷ xs) s = go (same s e) (lowest-from xs s)
  where
    all : height_lowest (element_count xs) (erased xs) ≡ erased xs
    all = let e : length (erased xs) - element_count xs ≡ 0 = omega (arith, length-erased xs) in ap (λ n. drop n (erased xs)) e

    go : (b : Bool) → height_lowest (height xs s) (erased xs) ≡ erased (from xs s)
        → height_lowest (element_count (cond b (EndOf e ∷ xs) (from xs s))) (erased xs) ≡ erased (cond b (EndOf e ∷ xs) (from xs s))
    go true h = all
    go false h = h
lowest-from (Credit k rs ∷ xs) s = one_more (HeightCredit k (map (record_height xs) rs)) (erased xs) (height xs s) (low xs s)
    ∙ lowest-from xs s
lowest-from (Plain p f ∷ xs) s = one_more (HeightEntry (PlainEntry (continuation_heights (height xs) f))) (erased xs) (height xs s)
    (low xs s)
    ∙ lowest-from xs s
lowest-from (Catch c u t r p f ∷ xs) s = one_more (HeightEntry (CatchEntry t r (continuation_heights (height xs) f))) (erased xs)
    (height xs s)
    (low xs s) ∙ lowest-from xs s
lowest-from (Findall c u results list p f ∷ xs) s = one_more (HeightEntry (FindallEntry results list (continuation_heights (height xs) f)))
    (erased xs) (height xs s) (low xs s) ∙ lowest-from xs s
lowest-from (End p b ∷ xs) s = one_more (HeightEntry (EndEntry b)) (erased xs) (height xs s) (low xs s) ∙ lowest-from xs s

-- the ends that an entry of this name puts in front
abbrev pub IsMadeBy : Name → Element → Type 0
IsMadeBy p (EndOf e) = (more : List ℕ) × e ≡ more ++ p
IsMadeBy p (Credit k rs) = Unit {0}
IsMadeBy p (Plain q f) = Unit {0}
IsMadeBy p (Catch c u t r q f) = Unit {0}
IsMadeBy p (Findall c u results list q f) = Unit {0}
IsMadeBy p (End q b) = Unit {0}

pub from_end : (e s : Name) (xs : List Element) → (s ≡ e → ⊥) → from (EndOf e ∷ xs) s ≡ from xs s
from_end e s xs h = ap (λ b. cond b (EndOf e ∷ xs) (from xs s)) (not-same s e h)

pub from_own : (s : Name) (xs : List Element) → from (EndOf s ∷ xs) s ≡ EndOf s ∷ xs
from_own s xs = ap (λ b. cond b (EndOf s ∷ xs) (from xs s)) (same-itself s)

pub from-made : (p s : Name) (ys xs : List Element) → Each (IsMadeBy p) ys → IsMadeElsewhere p s → from (ys ++ xs) s ≡ from xs s
from-made p s [] xs h n = refl
from-made p s (EndOf e ∷ ys) xs h n = from_end e s (ys ++ xs) (λ q. n h.0.0 (q ∙ h.0.1)) ∙ from-made p s ys xs h.1 n
from-made p s (Credit k rs ∷ ys) xs h n = from-made p s ys xs h.1 n
from-made p s (Plain q f ∷ ys) xs h n = from-made p s ys xs h.1 n
from-made p s (Catch c u t r q f ∷ ys) xs h n = from-made p s ys xs h.1 n
from-made p s (Findall c u results list q f ∷ ys) xs h n = from-made p s ys xs h.1 n
from-made p s (End q b ∷ ys) xs h n = from-made p s ys xs h.1 n

pub not_child : (p s : Name) (i : ℕ) → IsMadeElsewhere p s → IsMadeElsewhere (i ∷ p) s
not_child p s i n = λ more e. n (more ++ i ∷ []) (e ∙ sym (append-assoc more (i ∷ []) p))

pub all-not_child : (p : Name) (i : ℕ) (hs : List Name) → Each (IsMadeElsewhere p) hs → Each (IsMadeElsewhere (i ∷ p)) hs
all-not_child p i [] h = tt
all-not_child p i (s ∷ hs) h = (not_child p s i h.0, all-not_child p i hs h.1)

all-present : (p : Name) (ys xs : List Element) (hs : List Name) → Each (IsMadeBy p) ys → Each (IsMadeElsewhere p) hs
    → Each (IsPresent xs) hs
    → Each (IsPresent (ys ++ xs)) hs
all-present p ys xs [] m n h = tt
all-present p ys xs (s ∷ hs) m n h = ((h.0.0, from-made p s ys xs m n.0 ∙ h.0.1), all-present p ys xs hs m n.1 h.1)

pub all-later : (p : Name) (ys xs : List Element) (k : Name) (hs : List Name) → Each (IsMadeBy p) ys → IsMadeElsewhere p k
    → Each (IsMadeElsewhere p) hs
    → Each (λ s. from (from xs k) s ≡ from xs s) hs → Each (λ s. from (from (ys ++ xs) k) s ≡ from (ys ++ xs) s) hs
all-later p ys xs k [] m nk n h = tt
all-later p ys xs k (s ∷ hs) m nk n h =
    (ap (λ zs. from zs s) (from-made p k ys xs m nk) ∙ h.0 ∙ sym (from-made p s ys xs m n.0), all-later p ys xs k hs m nk n.1 h.1)

chain-made : (p : Name) (ys xs : List Element) (hs : List Name) → Each (IsMadeBy p) ys → Each (IsMadeElsewhere p) hs → IsChain xs hs
    → IsChain (ys ++ xs) hs
chain-made p ys xs [] m n h = tt
chain-made p ys xs (k ∷ hs) m n h = (all-later p ys xs k hs m n.0 n.1 h.0, chain-made p ys xs hs m n.1 h.1)

-- what was carried stays so under what the entry's own step puts in front
pub carried_child : (p : Name) (i : ℕ) (ys xs : List Element) (hs : List Name) → Each (IsMadeBy p) ys → AreCarried p xs hs
    → AreCarried (i ∷ p) (ys ++ xs) hs
carried_child p i ys xs hs m h = record {
  older = all-not_child p i hs h.older;
  present = all-present p ys xs hs m h.older h.present;
  chain = chain-made p ys xs hs m
      h.older h.chain;
}

present-cut : (xs : List Element) (k : Name) (hs : List Name) → Each (λ s. from (from xs k) s ≡ from xs s) hs → Each (IsPresent xs) hs
    → Each (IsPresent (from xs k)) hs
present-cut xs k [] e h = tt
present-cut xs k (s ∷ hs) e h = ((h.0.0, e.0 ∙ h.0.1), present-cut xs k hs e.1 h.1)

later-cut : (xs : List Element) (k j : Name) (hs : List Name) → from (from xs k) j ≡ from xs j
    → Each (λ s. from (from xs k) s ≡ from xs s) hs → Each (λ s. from (from xs j) s ≡ from xs s) hs
    → Each (λ s. from (from (from xs k) j) s ≡ from (from xs k) s) hs
later-cut xs k j [] e f h = tt
later-cut xs k j (s ∷ hs) e f h = (ap (λ zs. from zs s) e ∙ h.0 ∙ sym f.0, later-cut xs k j hs e f.1 h.1)

chain-cut : (xs : List Element) (k : Name) (hs : List Name) → Each (λ s. from (from xs k) s ≡ from xs s) hs → IsChain xs hs
    → IsChain (from xs k) hs
chain-cut xs k [] e h = tt
chain-cut xs k (j ∷ hs) e h = (later-cut xs k j hs e.0 e.1 h.0, chain-cut xs k hs e.1 h.1)

-- after a cut the later scopes are carried where it leaves them
pub carried_cut : (p : Name) (xs : List Element) (k : Name) (hs : List Name) → AreCarried p xs (k ∷ hs) → AreCarried p (from xs k) hs
carried_cut p xs k hs h = record
    { older = h.older.1; present = present-cut xs k hs h.chain.0 h.present.1; chain = chain-cut xs k hs h.chain.0 h.chain.1 }

pub carried_rest : (p : Name) (xs : List Element) (k : Name) (hs : List Name) → AreCarried p xs (k ∷ hs) → AreCarried p xs hs
carried_rest p xs k hs h = record { older = h.older.1; present = h.present.1; chain = h.chain.1 }

pub heights-made : (p : Name) (ys xs : List Element) (hs : List Name) → Each (IsMadeBy p) ys → Each (IsMadeElsewhere p) hs
    → Each (λ s. height (ys ++ xs) s ≡ height xs s) hs
heights-made p ys xs [] m n = tt
heights-made p ys xs (s ∷ hs) m n = (ap element_count (from-made p s ys xs m n.0), heights-made p ys xs hs m n.1)

pub heights-cut : (xs : List Element) (k : Name) (hs : List Name) → Each (λ s. from (from xs k) s ≡ from xs s) hs
    → Each (λ s. height (from xs k) s ≡ height xs s) hs
heights-cut xs k [] h = tt
heights-cut xs k (s ∷ hs) h = (ap element_count h.0, heights-cut xs k hs h.1)

pub longer : (p : Name) → p ≡ 2 ∷ p → ⊥
longer p e = let f = ap length e in omega arith

pub not_longer : (p : Name) (i : ℕ) → IsMadeElsewhere (i ∷ p) p
not_longer p i = λ more e. let f = ap length e in absurd (omega (arith, length-append more (i ∷ p)))

pub sames : (f : Name → ℕ) (hs : List Name) → Each (λ s. f s ≡ f s) hs
sames f [] = tt
sames f (s ∷ hs) = (refl, sames f hs)
