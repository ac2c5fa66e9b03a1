-- Entries that become nodes: their scopes, shapes and kinds.
use Rattle.std.proofs.Common.{◌≡◌, ℕ, suc, ◌+◌, ◌-◌, ◌≤◌, ◌==◌, Bool, true, false, List, [], ◌∷◌, ◌++◌, map, length, take, drop, refl}
use Rattle.std.proofs.Common.{sym, ap, ◌∙◌, subst, arith}
use Rattle.std.specs.Prelude.{nat_lt, nat_le}
use Rattle.au_model.specs.Terms.Each.{Each}
use Rattle.run_model.specs.Machine.Entries.{Entry, PlainEntry, CatchEntry, FindallEntry, EndEntry}
use Rattle.tree_model.specs.Nodes.{CatchNode, FindallNode, Numbered, alternative, Status, Inner}
use Rattle.tree_model.specs.Floors.{with_nodes}
use Rattle.tree_model.specs.Shapes.{further, is_unsplit, is_alone, fits_nodes, holder, guard_kind, guard_hold, further_alternatives}
use Rattle.tree_model.specs.Shapes.{placed_status}
use Rattle.tree_model.specs.PendingLists.{Step, Way}
use Rattle.tree_model.specs.Ways.{is_on, is_query, under_query, is_below}
use Rattle.tree_model.specs.SoundTrees.{one_if, count_among, count_below, Profile, IsOpen, profile, profiles, some_open, is_live}
use Rattle.tree_model.specs.SoundTrees.{is_shape, IsSound}
use Rattle.interleaving.proofs.WayLemmas.{cond-true, cond-false}
use Rattle.interleaving.proofs.RoundtripLemmas.{IsPath}
use Rattle.interleaving.proofs.CollapseLemmas.{Collapses, kept}
use Rattle.interleaving.proofs.StackLemmas.{IsCounted, entry_step, stack_way, length-stack, counted_stack, AreOver}
use Rattle.interleaving.proofs.RunSoundLemmas.{IsAwakeTop}
use Rattle.interleaving.proofs.PlacedSoundLemmas.{named_in, IsSeen, inside_hidden, placed_asked, over_split, take-drop, map-take}
use Rattle.interleaving.proofs.PlacedSoundLemmas.{map-drop, map-length, drop-length, take_awake, each-take, each-drop, two_not_one}
use Rattle.interleaving.proofs.PlacedSoundLemmas.{several_awake, first_awake, alternatives_none, IsOlder, plain_older}
use Rattle.au_term.proofs.LogicLemmas.{and-right, and-left, not_equal}

older : (name : ℕ → ℕ) (seen : ℕ → Bool) (w a : Way) (next : ℕ) (o : Entry) (os : List Entry) → is_alone (o ∷ os) ≡ true →
    Collapses name seen w a → IsPath a → under_query a ≡ true → is_on a next ≡ false → Each (IsSeen seen) (o ∷ os) → AreOver w (o ∷ os)
    → name (suc (length os + length w)) ≡ next →
    ((h : ℕ) → suc (length w) ≤ h → suc h ≤ suc (length os) + length w → seen h ≡ false)
    → IsOlder name seen w a next (o ∷ os) (map (with_nodes name) (o ∷ os))
older name seen w a next (PlainEntry f) os al c p u off v h n hid = plain_older name seen w a next (PlainEntry f) os refl refl
    (first_awake (PlainEntry f) os tt al) c p u off v h n hid
older name seen w a next (EndEntry b) os al c p u off v h n hid = plain_older name seen w a next (EndEntry b) os refl refl
    (first_awake (EndEntry b) os tt al) c p u off v h n hid
older name seen w a next (CatchEntry x r f) (y ∷ os) al c p u off v h n hid = absurd (several_awake (CatchEntry x r f) y os al).0
older name seen w a next (FindallEntry results l f) (y ∷ os) al c p u off v h n hid = absurd
    (several_awake (FindallEntry results l f) y os al).0
older name seen w a next (CatchEntry x r f) [] al c p u off v h n hid = record {
  collapse = kept (entry_step (CatchEntry x r f) (0 + length w)) (record { node = next; index = 0; kind = CatchNode }) w a n refl refl c;
  right = ((placed_asked name seen w a f.items c p u v.0 h.0, tt), tt);
  shape = refl;
  no_query = refl;
}
older name seen w a next (FindallEntry results l f) [] al c p u off v h n hid = record {
  collapse = kept (entry_step (FindallEntry results l f) (0 + length w)) (record { node = next; index = 0; kind = FindallNode }) w a n
      refl refl c;
  right = ((placed_asked name seen w a f.items c p u v.0 h.0, tt), tt);
  shape = refl;
  no_query = refl;
}

-- what is known where nodes are placed
pub record IsPlacing (name : ℕ → ℕ) (cuts : List ℕ) (next : ℕ) (sizes : List ℕ) (w a : Way) (es : List Entry) : Type 0 where
  pub counted : IsCounted w
  pub collapse : Collapses name (named_in cuts) w a
  pub path : IsPath a
  pub asked : under_query a ≡ true
  pub new : (m : ℕ) → next ≤ m → is_on a m ≡ false
  pub over : AreOver w es
  pub awake : IsAwakeTop es
  pub seen : Each (IsSeen (named_in cuts)) es
  pub holds : (p : ℕ) → name (suc (length w + p)) ≡ holder next sizes p
  pub fit : fits_nodes (length w) cuts sizes es ≡ true

pub record IsPlacedSound (a : Way) (next : ℕ) (sizes : List ℕ) (status : Status) : Type 0 where
  pub sound : IsSound a status
  pub opened : profile status ≡ IsOpen
  pub few : (m : ℕ) → count_below m status ≤ 1
  pub low : (m : ℕ) → suc m ≤ next → count_below m status ≡ 0
  pub high : (m : ℕ) → next + length sizes ≤ m → count_below m status ≡ 0

asked_below : (way : Way) → under_query way ≡ true → is_below way ≡ true
asked_below [] h = h
asked_below (a ∷ way) h = refl

last_placed : (name : ℕ → ℕ) (cuts : List ℕ) (next : ℕ) (w a : Way) (e : Entry) → IsPlacing name cuts next [] w a (e ∷ [])
    → IsPlacedSound a next [] (placed_status next [] (map (with_nodes name) (e ∷ [])))
last_placed name cuts next w a (PlainEntry f) h = record {
  sound = (placed_asked name (named_in cuts) w a f.items h.collapse h.path h.asked h.seen.0 h.over.0, tt);
  opened = refl;
  few = λ m.
      omega arith;
  low = λ m l. refl;
  high = λ m l. refl;
}
last_placed name cuts next w a (EndEntry b) h = record
    { sound = (asked_below a h.asked, tt); opened = refl; few = λ m. omega arith; low = λ m l. refl; high = λ m l. refl }
last_placed name cuts next w a (CatchEntry c r f) h = absurd h.awake
last_placed name cuts next w a (FindallEntry results l f) h = absurd h.awake

-- the parts of a fitting size
pub record FitsOne (low size : ℕ) (sizes cuts : List ℕ) (es : List Entry) : Type 0 where
  pub two : 2 ≤ size
  pub room : suc (further size) ≤ length es
  pub alone : is_alone (drop (length es - further size) es) ≡ true
  pub unsplit : is_unsplit low size cuts ≡ true
  pub rest : fits_nodes (low + further size) cuts sizes (take (length es - further size) es) ≡ true

pub fits_one : (low size : ℕ) (sizes cuts : List ℕ) (es : List Entry) → fits_nodes low cuts (size ∷ sizes) es ≡ true
    → FitsOne low size sizes cuts es
fits_one low size sizes cuts es h =
    let rest = length es - further size in
    let h1 = and-right (nat_le 2 size) _ h in
    let h2 = and-right (nat_lt (further size) (length es)) _ h1 in
    let h3 = and-right (is_alone (drop rest es)) _ h2 in
    record {
      two = le_two (and-left (nat_le 2 size) _ h);
      room = lt_room (and-left (nat_lt (further size) (length es)) _ h1);
      alone = and-left (is_alone (drop rest es)) _ h2;
      unsplit = and-left (is_unsplit low size cuts) _ h3;
      rest = and-right (is_unsplit low size cuts) _ h3;
    }
  where
    le_two : nat_le 2 size ≡ true → 2 ≤ size
    le_two k = grind arith

    lt_room : nat_lt (further size) (length es) ≡ true → suc (further size) ≤ length es
    lt_room k = grind arith

pub holder_first : (next size : ℕ) (sizes : List ℕ) (p : ℕ) → suc p ≤ further size → holder next (size ∷ sizes) p ≡ next
holder_first next size sizes p h = cond-true (nat_lt p (further size)) next _ lower
  where
    lower : nat_lt p (further size) ≡ true
    lower = grind arith

pub holder_later : (next size : ℕ) (sizes : List ℕ) (p : ℕ) → holder next (size ∷ sizes) (further size + p) ≡ holder (suc next) sizes p
holder_later next size sizes p = cond-false (nat_lt (further size + p) (further size)) next _ higher
    ∙ ap (holder (suc next) sizes) (let z : (further size + p) - further size ≡ p = omega arith in z)
  where
    higher : nat_lt (further size + p) (further size) ≡ false
    higher = go (nat_lt (further size + p) (further size)) refl
      where
        go : (b : Bool) → nat_lt (further size + p) (further size) ≡ b → b ≡ false
        go false e = refl
        go true e = let no_way : ⊥ = grind arith in absurd no_way

-- a node over what is placed first, and its older entries
abbrev pub made : ℕ → Status → List Entry → Status
made next first new = Inner (Numbered next (guard_kind new) (alternative 0 first (further_alternatives new)))

other_way : (m n : ℕ) → suc m ≤ n → (n == m) ≡ false
other_way m n h = go (n == m) refl
  where
    go : (b : Bool) → (n == m) ≡ b → b ≡ false
    go false e = refl
    go true e = let same : n ≡ m = grind arith in let no_way : ⊥ = omega arith in absurd no_way

pub made_equal : (g : Entry → Entry) (next size : ℕ) (sizes : List ℕ) (es : List Entry) →
    placed_status next (size ∷ sizes) (map g es)
    ≡ made next (placed_status (suc next) sizes (map g (take (length es - further size) es)))
    (map g (drop (length es - further size) es))
made_equal g next size sizes es =
    let rest = length es - further size in
    ap (λ n. made next (placed_status (suc next) sizes (take (n - further size) (map g es))) (drop (n - further size) (map g es)))
    (map-length g es)
    ∙ (ap (λ l. made next (placed_status (suc next) sizes l) (drop rest (map g es))) (map-take g rest es)
    ∙ ap (λ l. made next (placed_status (suc next) sizes (map g (take rest es))) l) (map-drop g rest es))

node_sound : (name : ℕ → ℕ) (cuts : List ℕ) (next size : ℕ) (sizes : List ℕ) (w a : Way) (inner olds : List Entry) →
    IsCounted w → Collapses name (named_in cuts) w a → IsPath a → under_query a ≡ true → ((m : ℕ) → next ≤ m → is_on a m ≡ false)
    → AreOver w (inner ++ olds) → IsAwakeTop inner → Each (IsSeen (named_in cuts)) inner → Each (IsSeen (named_in cuts)) olds →
    ((p : ℕ) → name (suc (length w + p)) ≡ holder next (size ∷ sizes) p) → is_alone olds ≡ true → is_unsplit (length w) size cuts ≡ true
    → fits_nodes (length w + further size) cuts sizes inner ≡ true → length olds ≡ further size → 2 ≤ size →
    ((v b : Way) → IsPlacing name cuts (suc next) sizes v b inner
    → IsPlacedSound b (suc next) sizes (placed_status (suc next) sizes (map (with_nodes name) inner))) →
    IsPlacedSound a next (size ∷ sizes)
    (made next (placed_status (suc next) sizes (map (with_nodes name) inner)) (map (with_nodes name) olds))
node_sound name cuts next size sizes w a inner [] c k p u nw ov aw si so hs al us fi l two ih = let no_way : ⊥ = omega (arith, l) in
    absurd no_way
node_sound name cuts next size sizes w a inner (o ∷ os) c k p u nw ov aw si so hs al us fi l two ih = go
    (ih (stack_way (o ∷ os) w) (first ∷ a) placing)
  where
    new : List Entry
    new = map (with_nodes name) (o ∷ os)

    first : Step
    first = record { node = next; index = 0; kind = guard_kind new }

    split : AreOver (stack_way (o ∷ os) w) inner × AreOver w (o ∷ os)
    split = over_split w inner (o ∷ os) ov

    many : suc (length os) ≡ further size
    many = l

    off : is_on a next ≡ false
    off = nw next (omega arith)

    named : name (suc (length os + length w)) ≡ next
    named = ap (λ m. name (suc m)) (let z : length os + length w ≡ length w + length os = omega arith in z)
        ∙ (hs (length os) ∙ holder_first next size sizes (length os) (omega (arith, many)))

    inside : (h : ℕ) → suc (length w) ≤ h → suc h ≤ suc (length os) + length w → named_in cuts h ≡ false
    inside h x y = inside_hidden (length w) size cuts us h x (omega (arith, many))

    old : IsOlder name (named_in cuts) w a next (o ∷ os) new
    old = older name (named_in cuts) w a next o os al k p u off so split.1 named inside

    taller : length (stack_way (o ∷ os) w) ≡ length w + further size
    taller = omega (arith, many, length-stack os w)

    later : (q : ℕ) → name (suc (length (stack_way (o ∷ os) w) + q)) ≡ holder (suc next) sizes q
    later q = ap (λ m. name (suc m))
        (let z : length (stack_way (o ∷ os) w) + q ≡ length w + (further size + q) = omega (arith, taller) in z)
        ∙ (hs (further size + q) ∙ holder_later next size sizes q)

    placing : IsPlacing name cuts (suc next) sizes (stack_way (o ∷ os) w) (first ∷ a) inner
    placing = record {
      counted = counted_stack (o ∷ os) w c;
      collapse = old.collapse;
      path = (off, p);
      asked = cond-false (is_query (guard_kind new)) true (under_query a) old.no_query ∙ u;
      new = λ m x. cond-false (next == m) true (is_on a m) (not_equal next m x) ∙ nw m (omega arith);
      over = split.0;
      awake = aw;
      seen = si;
      holds = later;
      fit = subst (λ n. fits_nodes n cuts sizes inner ≡ true) (sym taller) fi;
    }

    go : IsPlacedSound (first ∷ a) (suc next) sizes (placed_status (suc next) sizes (map (with_nodes name) inner))
        → IsPlacedSound a next (size ∷ sizes) (made next (placed_status (suc next) sizes (map (with_nodes name) inner)) new)
    go r = record {
      sound = (
        off,
        subst (λ q. is_shape (guard_kind new) (q ∷ profiles (further_alternatives new)) ≡ true) (sym r.opened) old.shape,
        live_first a (profile (placed_status (suc next) sizes (map (with_nodes name) inner))) r.opened,
        (r.sound, old.right),
      );
      opened = refl;
      few = λ m. few_at m (next == m) refl;
      low = λ m x. omega (
        arith,
        one_other m (other_way m next x),
        r.low m (omega arith),
        alternatives_none m (guard_hold (guard_kind new))
            new,
      );
      high = λ m x. omega (
        arith,
        one_other m (not_equal next m (omega arith)),
        r.high m (omega arith),
        alternatives_none m
            (guard_hold (guard_kind new)) new,
      );
    }
      where
        live_first : (way : Way) (q : Profile) → q ≡ IsOpen → is_live way (q ∷ profiles (further_alternatives new)) ≡ true
        live_first [] q e = refl
        live_first (b ∷ way) q e = subst (λ x. some_open (x ∷ profiles (further_alternatives new)) ≡ true) (sym e) refl

        one_other : (m : ℕ) → (next == m) ≡ false → one_if (next == m) ≡ 0
        one_other m e = ap one_if e

        few_at : (m : ℕ) (b : Bool) → (next == m) ≡ b
            → one_if (next == m) + (count_below m (placed_status (suc next) sizes (map (with_nodes name) inner)) + count_among m
            (further_alternatives new)) ≤ 1
        few_at m true e =
            let same : next ≡ m = grind arith in
            let one : one_if (next == m) ≡ 1 = ap one_if e in
            omega (arith, one, r.low m (omega (arith, same)), alternatives_none m (guard_hold (guard_kind new)) new)
        few_at m false e = let zero_new : one_if (next == m)
            ≡ 0 = ap one_if e in omega (arith, zero_new, r.few m, alternatives_none m (guard_hold (guard_kind new)) new)

pub placed_in : (name : ℕ → ℕ) (cuts : List ℕ) (next : ℕ) (sizes : List ℕ) (w a : Way) (es : List Entry)
    → IsPlacing name cuts next sizes w a es → IsPlacedSound a next sizes (placed_status next sizes (map (with_nodes name) es))
placed_in name cuts next [] w a [] h = let no_way : ⊥ = clash h.fit in absurd no_way
  where
    clash : (0 == 1) ≡ true → ⊥
    clash z = cc
placed_in name cuts next [] w a (e ∷ []) h = last_placed name cuts next w a e h
placed_in name cuts next [] w a (e ∷ d ∷ es) h = let no_way : ⊥ = clash (sym (two_not_one e d es) ∙ h.fit) in absurd no_way
  where
    clash : false ≡ true → ⊥
    clash z = cc
placed_in name cuts next (size ∷ sizes) w a es h =
    let f = fits_one (length w) size sizes cuts es h.fit in
    let rest = length es - further size in
    let joined : AreOver w (take rest es ++ drop rest es) = subst (AreOver w) (take-drop rest es) h.over in
    let olds : length (drop rest es) ≡ further size = omega (arith, drop-length rest es, f.room) in
    subst (IsPlacedSound a next (size ∷ sizes)) (sym (made_equal (with_nodes name) next size sizes es))
    (node_sound name cuts next size sizes w a (take rest es) (drop rest es) h.counted h.collapse h.path h.asked h.new joined
    (take_awake rest es h.awake)
    (each-take (IsSeen (named_in cuts)) rest es h.seen) (each-drop (IsSeen (named_in cuts)) rest es h.seen) h.holds f.alone f.unsplit
    f.rest olds f.two (λ v b k. placed_in name cuts (suc next) sizes v b (take rest es) k))
