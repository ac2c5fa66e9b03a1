-- The nodes that a private run becomes are sound.
use Rattle.std.proofs.Common.{◌≡◌, ℕ, zero, suc, ◌+◌, ◌-◌, ◌≤◌, ◌==◌, Bool, true, false, List, [], ◌∷◌, ◌++◌, map, length, take, drop}
use Rattle.std.proofs.Common.{refl, sym, ap, ◌∙◌, subst, arith}
use Rattle.std.specs.Prelude.{◌&&◌, ◌||◌, not, nat_lt}
use Rattle.std.specs.List.{list_any}
use Rattle.au_model.specs.Terms.Each.{Each}
use Rattle.run_model.specs.Machine.Items.{Item, GoalItem, CatchMark, CollectMark, RemovalItem}
use Rattle.run_model.specs.Machine.Entries.{Entry, PlainEntry, CatchEntry, FindallEntry, EndEntry}
use Rattle.tree_model.specs.Nodes.{ChoiceNode, Hold, entry_alternatives}
use Rattle.tree_model.specs.Floors.{with_nodes}
use Rattle.tree_model.specs.Shapes.{further, is_guard, cuts_of_items, cuts_of_entry, cuts_of, is_unsplit, is_alone, guard_kind}
use Rattle.tree_model.specs.Shapes.{guard_hold, further_alternatives}
use Rattle.tree_model.specs.PendingLists.{Way}
use Rattle.tree_model.specs.Ways.{is_on, is_query, under_query, IsAsked, IsAwake}
use Rattle.tree_model.specs.SoundTrees.{count_among, IsOpen, profiles, is_shape, AreSound}
use Rattle.interleaving.proofs.RoundtripLemmas.{by_nodes, IsPath}
use Rattle.interleaving.proofs.GrowingLemmas.{IsReadyOn, alternatives_sound, alternatives_shape}
use Rattle.interleaving.proofs.CollapseLemmas.{Collapses, kept, hidden, AreSeen, as_scopes, items_preserved}
use Rattle.interleaving.proofs.StackLemmas.{entry_step, stack_way, length-stack, IsOver, AreOver}
use Rattle.interleaving.proofs.RunSoundLemmas.{IsAwakeTop}
use Rattle.au_term.proofs.LogicLemmas.{not-true, number_same}
use Rattle.au_model.proofs.ApplyLemmas.{or_left, or_right}

-- the heights that goals name
abbrev pub named_in : List ℕ → ℕ → Bool
named_in cuts h = list_any (λ c. c == h) cuts

abbrev pub IsSeen : (ℕ → Bool) → Entry → Type 0
IsSeen seen (PlainEntry f) = AreSeen seen f.items
IsSeen seen (CatchEntry c r f) = AreSeen seen f.items
IsSeen seen (FindallEntry results l f) = AreSeen seen f.items
IsSeen seen (EndEntry b) = Unit {0}

-- lists of heights within others
abbrev pub AreIn : List ℕ → List ℕ → Type 0
AreIn part cuts = (h : ℕ) → named_in part h ≡ true → named_in cuts h ≡ true

items_seen : (cuts : List ℕ) (items : List (Item ℕ)) → AreIn (cuts_of_items items) cuts → AreSeen (named_in cuts) items
items_seen cuts [] i = tt
items_seen cuts (GoalItem t h ∷ items) i =
    (i h (or_left (h == h) _ (number_same h)), items_seen cuts items (λ k j. i k (or_right (h == k) _ j)))
items_seen cuts (CatchMark h ∷ items) i = items_seen cuts items i
items_seen cuts (CollectMark t h ∷ items) i = items_seen cuts items i
items_seen cuts (RemovalItem n ∷ items) i = items_seen cuts items i

entry_seen : (cuts : List ℕ) (e : Entry) → AreIn (cuts_of_entry e) cuts → IsSeen (named_in cuts) e
entry_seen cuts (PlainEntry f) i = items_seen cuts f.items i
entry_seen cuts (CatchEntry c r f) i = items_seen cuts f.items i
entry_seen cuts (FindallEntry results l f) i = items_seen cuts f.items i
entry_seen cuts (EndEntry b) i = tt

in_front : (xs ys : List ℕ) (h : ℕ) → named_in xs h ≡ true → named_in (xs ++ ys) h ≡ true
in_front [] ys h k = let no_way : ⊥ = cc in absurd no_way
in_front (x ∷ xs) ys h k = go (x == h) (in_front xs ys h) k
  where
    go : (b : Bool) → (named_in xs h ≡ true → named_in (xs ++ ys) h ≡ true) → (b || named_in xs h) ≡ true → (b || named_in (xs ++ ys) h)
        ≡ true
    go true f j = refl
    go false f j = f j

behind : (xs ys : List ℕ) (h : ℕ) → named_in ys h ≡ true → named_in (xs ++ ys) h ≡ true
behind [] ys h k = k
behind (x ∷ xs) ys h k = or_right (x == h) (named_in (xs ++ ys) h) (behind xs ys h k)

all_seen_in : (cuts : List ℕ) (es : List Entry) → AreIn (cuts_of es) cuts → Each (IsSeen (named_in cuts)) es
all_seen_in cuts [] i = tt
all_seen_in cuts (e ∷ es) i = (
  entry_seen cuts e (λ h k. i h (in_front (cuts_of_entry e) (cuts_of es) h k)),
  all_seen_in cuts es
      (λ h k. i h (behind (cuts_of_entry e) (cuts_of es) h k)),
)

pub all_seen : (es : List Entry) → Each (IsSeen (named_in (cuts_of es))) es
all_seen es = all_seen_in (cuts_of es) es (λ h k. k)

-- no goal names a height inside a node
pub inside_hidden : (low size : ℕ) (cuts : List ℕ) → is_unsplit low size cuts ≡ true → (h : ℕ) → suc low ≤ h
    → suc h ≤ low + further size → named_in cuts h ≡ false
inside_hidden low size cuts u h a b = go (named_in cuts h) refl
  where
    split : (cs : List ℕ) → named_in cs h ≡ true → list_any (λ c. nat_lt low c && nat_lt c (low + further size)) cs ≡ true
    split [] k = k
    split (c ∷ cs) k = pick (c == h) refl (split cs) k
      where
        pick : (z : Bool) → (c == h) ≡ z
            → (named_in cs h ≡ true → list_any (λ c. nat_lt low c && nat_lt c (low + further size)) cs ≡ true) → (z || named_in cs h)
            ≡ true → ((nat_lt low c && nat_lt c (low + further size)) || list_any (λ c. nat_lt low c && nat_lt c (low + further size))
            cs) ≡ true
        pick true e f j =
            let same : c ≡ h = grind arith in
            let lower : nat_lt low c ≡ true = grind arith in
            let upper : nat_lt c (low + further size) ≡ true = grind arith in
            or_left _ _ (ap (λ x. x && nat_lt c (low + further size)) lower ∙ upper)
        pick false e f j = or_right (nat_lt low c && nat_lt c (low + further size)) _ (f j)

    go : (z : Bool) → named_in cuts h ≡ z → z ≡ false
    go false e = refl
    go true e = let k : list_any (λ c. nat_lt low c && nat_lt c (low + further size)) cuts
        ≡ true = split cuts e in let no_way : ⊥ = clash (sym (ap not k) ∙ u) in absurd no_way
      where
        clash : false ≡ true → ⊥
        clash z = cc

-- steps of plain entries are hidden
hidden_steps : (name : ℕ → ℕ) (seen : ℕ → Bool) (w a : Way) (os : List Entry) → Each IsAwake os
    → ((h : ℕ) → suc (length w) ≤ h → h ≤ length os + length w → seen h ≡ false) → Collapses name seen w a
    → Collapses name seen (stack_way os w) a
hidden_steps name seen w a [] k v c = c
hidden_steps name seen w a (PlainEntry f ∷ os) k v c = hidden (entry_step (PlainEntry f) (length os + length w)) (stack_way os w) a refl
    (v (suc (length os + length w)) (omega arith) (omega arith)) (hidden_steps name seen w a os k.1 (λ h l m. v h l (omega arith)) c)
hidden_steps name seen w a (EndEntry b ∷ os) k v c = hidden (entry_step (EndEntry b) (length os + length w)) (stack_way os w) a refl
    (v (suc (length os + length w)) (omega arith) (omega arith)) (hidden_steps name seen w a os k.1 (λ h l m. v h l (omega arith)) c)
hidden_steps name seen w a (CatchEntry x r f ∷ os) k v c = absurd k.0
hidden_steps name seen w a (FindallEntry results l f ∷ os) k v c = absurd k.0

-- an entry under its new names
pub placed_asked : (name : ℕ → ℕ) (seen : ℕ → Bool) (w a : Way) (items : List (Item ℕ)) → Collapses name seen w a → IsPath a → under_query a
    ≡ true → AreSeen seen items → IsAsked w (as_scopes items) → IsAsked a (by_nodes name items)
placed_asked name seen w a items c p u v h = record { asked = u; scoped = items_preserved name seen w a items c p v h.scoped }

pub placed_ready : (name : ℕ → ℕ) (seen : ℕ → Bool) (w a : Way) (e : Entry) → Collapses name seen w a → IsPath a → under_query a ≡ true
    → IsSeen seen e → IsAwake e → IsOver w e → IsReadyOn a (with_nodes name e)
placed_ready name seen w a (PlainEntry f) c p u v k h = placed_asked name seen w a f.items c p u v h
placed_ready name seen w a (EndEntry b) c p u v k h = tt
placed_ready name seen w a (CatchEntry x r f) c p u v k h = absurd k
placed_ready name seen w a (FindallEntry results l f) c p u v k h = absurd k

older_ready : (name : ℕ → ℕ) (seen : ℕ → Bool) (w a : Way) (os : List Entry) → Collapses name seen w a → IsPath a → under_query a ≡ true
    → Each (IsSeen seen) os → Each IsAwake os → AreOver w os
    → ((h : ℕ) → suc (length w) ≤ h → suc h ≤ length os + length w → seen h ≡ false) → Each (IsReadyOn a) (map (with_nodes name) os)
older_ready name seen w a [] c p u v k h z = tt
older_ready name seen w a (o ∷ os) c p u v k h z = (
  placed_ready name seen (stack_way os w) a o (hidden_steps name seen w a os k.1 (λ n l m. z n l (omega arith)) c) p u v.0 k.0 h.0,
  older_ready name seen w a os c p u v.1 k.1 h.1 (λ n l m. z n l (omega arith)),
)

-- splitting own entries
stack_append : (xs ys : List Entry) (w : Way) → stack_way (xs ++ ys) w ≡ stack_way xs (stack_way ys w)
stack_append [] ys w = refl
stack_append (x ∷ xs) ys w =
    let n : length (xs ++ ys) + length w ≡ length xs + length (stack_way ys w) = omega (arith, length_both xs ys, length-stack ys w) in
    ap (λ m. entry_step x m ∷ stack_way (xs ++ ys) w) n ∙ ap (λ way. entry_step x (length xs + length (stack_way ys w)) ∷ way)
    (stack_append xs ys w)
  where
    length_both : (xs ys : List Entry) → length (xs ++ ys) ≡ length xs + length ys
    length_both [] ys = omega arith
    length_both (x ∷ xs) ys = let h = length_both xs ys in omega (arith, h)

pub over_split : (w : Way) (xs ys : List Entry) → AreOver w (xs ++ ys) → AreOver (stack_way ys w) xs × AreOver w ys
over_split w [] ys h = (tt, h)
over_split w (x ∷ xs) ys h = let k = over_split w xs ys h.1 in ((subst (λ way. IsOver way x) (stack_append xs ys w) h.0, k.0), k.1)

pub take-drop : (k : ℕ) (es : List Entry) → es ≡ take k es ++ drop k es
take-drop zero es = refl
take-drop (suc k) [] = refl
take-drop (suc k) (e ∷ es) = ap (λ l. e ∷ l) (take-drop k es)

pub map-take : (g : Entry → Entry) (k : ℕ) (es : List Entry) → take k (map g es) ≡ map g (take k es)
map-take g zero es = refl
map-take g (suc k) [] = refl
map-take g (suc k) (e ∷ es) = ap (λ l. g e ∷ l) (map-take g k es)

pub map-drop : (g : Entry → Entry) (k : ℕ) (es : List Entry) → drop k (map g es) ≡ map g (drop k es)
map-drop g zero es = refl
map-drop g (suc k) [] = refl
map-drop g (suc k) (e ∷ es) = map-drop g k es

pub map-length : (g : Entry → Entry) (es : List Entry) → length (map g es) ≡ length es
map-length g [] = refl
map-length g (e ∷ es) = ap suc (map-length g es)

pub drop-length : (k : ℕ) (es : List Entry) → length (drop k es) ≡ length es - k
drop-length zero es = omega arith
drop-length (suc k) [] = omega arith
drop-length (suc k) (e ∷ es) = let h = drop-length k es in omega (arith, h)

pub take_awake : (k : ℕ) (es : List Entry) → IsAwakeTop es → IsAwakeTop (take k es)
take_awake zero es h = tt
take_awake (suc k) [] h = tt
take_awake (suc k) (e ∷ es) h = h

pub each-take : (P : Entry → Type 0) (k : ℕ) (es : List Entry) → Each P es → Each P (take k es)
each-take P zero es h = tt
each-take P (suc k) [] h = tt
each-take P (suc k) (e ∷ es) h = (h.0, each-take P k es h.1)

pub each-drop : (P : Entry → Type 0) (k : ℕ) (es : List Entry) → Each P es → Each P (drop k es)
each-drop P zero es h = h
each-drop P (suc k) [] h = h
each-drop P (suc k) (e ∷ es) h = each-drop P k es h.1

-- alone
pub two_not_one : (x y : Entry) (os : List Entry) → (length (x ∷ y ∷ os) == 1) ≡ false
two_not_one x y os = go (length (x ∷ y ∷ os) == 1) refl
  where
    go : (b : Bool) → (length (x ∷ y ∷ os) == 1) ≡ b → b ≡ false
    go false e = refl
    go true e = let no_way : ⊥ = grind arith in absurd no_way

pub or-false : (a b : Bool) → b ≡ false → (a || b) ≡ true → a ≡ true
or-false true b h k = refl
or-false false b h k = sym h ∙ k

no_guards : (os : List Entry) → list_any is_guard os ≡ false → Each IsAwake os
no_guards [] h = tt
no_guards (PlainEntry f ∷ os) h = (tt, no_guards os h)
no_guards (EndEntry b ∷ os) h = (tt, no_guards os h)
no_guards (CatchEntry c r f ∷ os) h = let no_way : ⊥ = cc in absurd no_way
no_guards (FindallEntry results l f ∷ os) h = let no_way : ⊥ = cc in absurd no_way

pub several_awake : (x y : Entry) (os : List Entry) → is_alone (x ∷ y ∷ os) ≡ true → Each IsAwake (x ∷ y ∷ os)
several_awake x y os h = no_guards (x ∷ y ∷ os)
    (not-true (list_any is_guard (x ∷ y ∷ os))
    (or-false (not (list_any is_guard (x ∷ y ∷ os))) (length (x ∷ y ∷ os) == 1) (two_not_one x y os) h))

pub first_awake : (x : Entry) (os : List Entry) → IsAwake x → is_alone (x ∷ os) ≡ true → Each IsAwake (x ∷ os)
first_awake x [] k h = (k, tt)
first_awake x (y ∷ os) k h = several_awake x y os h

-- alternatives that hold nothing below them
pub alternatives_none : (m : ℕ) (hold : Hold) (es : List Entry) → count_among m (entry_alternatives hold es) ≡ 0
alternatives_none m hold [] = refl
alternatives_none m hold (e ∷ es) = let h = alternatives_none m hold es in omega (arith, h)

-- the older entries of a new node
pub record IsOlder (name : ℕ → ℕ) (seen : ℕ → Bool) (w a : Way) (next : ℕ) (olds new : List Entry) : Type 0 where
  pub collapse : Collapses name seen (stack_way olds w) (record { node = next; index = 0; kind = guard_kind new } ∷ a)
  pub right : AreSound a next (guard_kind new) 1 (further_alternatives new)
  pub shape : is_shape (guard_kind new) (IsOpen ∷ profiles (further_alternatives new)) ≡ true
  pub no_query : is_query (guard_kind new) ≡ false

pub plain_older : (name : ℕ → ℕ) (seen : ℕ → Bool) (w a : Way) (next : ℕ) (o : Entry) (os : List Entry) → guard_kind (o ∷ []) ≡ ChoiceNode
    → guard_kind (map (with_nodes name) (o ∷ os)) ≡ ChoiceNode → Each IsAwake (o ∷ os) →
    Collapses name seen w a → IsPath a → under_query a ≡ true → is_on a next ≡ false → Each (IsSeen seen) (o ∷ os) → AreOver w (o ∷ os)
    → name (suc (length os + length w)) ≡ next →
    ((h : ℕ) → suc (length w) ≤ h → suc h ≤ suc (length os) + length w → seen h ≡ false)
    → IsOlder name seen w a next (o ∷ os) (map (with_nodes name) (o ∷ os))
plain_older name seen w a next o os j z k c p u off v h n hid =
    let new = map (with_nodes name) (o ∷ os) in
    let ready : Each (IsReadyOn a) new = older_ready name seen w a (o ∷ os) c p u v k h hid in
    let low : Collapses name seen (stack_way os w) a = hidden_steps name seen w a os k.1 (λ m l q. hid m l (omega arith)) c in
    record {
      collapse = kept (entry_step o (length os + length w)) (record { node = next; index = 0; kind = guard_kind new }) (stack_way os w)
          a n refl (j ∙ sym z) low;
      right = subst (λ kind. AreSound a next kind 1 (entry_alternatives (guard_hold kind) new)) (sym z)
          (alternatives_sound a next 1 new off ready);
      shape = subst (λ kind. is_shape kind (IsOpen ∷ profiles (entry_alternatives (guard_hold kind) new)) ≡ true) (sym z)
          (alternatives_shape new);
      no_query = ap is_query z;
    }
