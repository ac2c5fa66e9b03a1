-- What the entries of a private run name: heights of the nodes that they become, and none inside one.
use Rattle.std.proofs.Common.{◌≡◌, ◌⊎◌, inl, inr, ℕ, suc, ◌+◌, ◌-◌, ◌≤◌, ◌==◌, Bool, true, false, cond, List, [], ◌∷◌, ◌++◌, length, take}
use Rattle.std.proofs.Common.{drop, refl, sym, ap, ◌∙◌, subst, arith}
use Rattle.std.specs.Prelude.{◌&&◌, ◌||◌, not}
use Rattle.std.specs.List.{list_any}
use Rattle.run_model.specs.Machine.Entries.{Entry, PlainEntry, CatchEntry, FindallEntry, EndEntry}
use Rattle.tree_model.specs.Nodes.{Kind, CatchNode, FindallNode}
use Rattle.tree_model.specs.Shapes.{further, is_guard, is_alone, fits_nodes, guard_kind}
use Rattle.tree_model.specs.PendingLists.{Way}
use Rattle.tree_model.specs.Ways.{is_on, same_kind, is_barrier, through, way_from, way_above}
use Rattle.interleaving.proofs.StackLemmas.{IsCounted, stack_way}
use Rattle.interleaving.proofs.PlacedSoundLemmas.{named_in, inside_hidden, take-drop, drop-length}
use Rattle.interleaving.proofs.PlacedShapeLemmas.{FitsOne, fits_one}
use Rattle.interleaving.proofs.PlacedErasedLemmas.{NoneInside, HaveSizes}
use Rattle.au_term.proofs.LogicLemmas.{true_false}

-- a height that falls inside none of the nodes
abbrev pub NotInside : ℕ → List ℕ → ℕ → Type 0
NotInside low [] h = Unit {0}
NotInside low (size ∷ sizes) h = (suc low ≤ h → suc h ≤ low + further size → ⊥) × NotInside (low + further size) sizes h

-- a low height
pub not_inside_low : (low : ℕ) (sizes : List ℕ) (h : ℕ) → h ≤ low → NotInside low sizes h
not_inside_low low [] h l = tt
not_inside_low low (size ∷ sizes) h l = ((λ a b. omega (arith, a, l)), not_inside_low (low + further size) sizes h (omega arith))

pub none_inside : (Whole : ℕ → Type 0) (low : ℕ) (sizes : List ℕ) → ((h : ℕ) → Whole h → NotInside low sizes h) → NoneInside Whole low sizes
none_inside Whole low [] h = tt
none_inside Whole low (size ∷ sizes) h = ((λ n w. (h n w).0), none_inside Whole (low + further size) sizes (λ n w. (h n w).1))

pub fits_fill : (low : ℕ) (cuts sizes : List ℕ) (es : List Entry) → fits_nodes low cuts sizes es ≡ true → HaveSizes sizes es
fits_fill low cuts [] es h = is_one h
  where
    is_one : (length es == 1) ≡ true → length es ≡ 1
    is_one k = grind arith
fits_fill low cuts (size ∷ sizes) es h =
    let f = fits_one low size sizes cuts es h in
    (f.room, omega (arith, f.two), fits_fill (low + further size) cuts sizes (take (length es - further size) es) f.rest)

pub cut_not_inside : (low : ℕ) (cuts sizes : List ℕ) (es : List Entry) → fits_nodes low cuts sizes es ≡ true → (h : ℕ) → named_in cuts h
    ≡ true → NotInside low sizes h
cut_not_inside low cuts [] es f h n = tt
cut_not_inside low cuts (size ∷ sizes) es f h n =
    let one = fits_one low size sizes cuts es f in (
      (λ a b. true_false (sym n ∙ inside_hidden low size cuts one.unsplit h a b)),
      cut_not_inside (low + further size) cuts sizes
          (take (length es - further size) es) one.rest h n,
    )

-- a catch or findall entry with so many entries below it
abbrev pub GuardAt : ℕ → List Entry → ℕ → Type 0
GuardAt low [] h = ⊥
GuardAt low (e ∷ es) h = ((h ≡ length es + low) × (is_guard e ≡ true)) ⊎ GuardAt low es h

length-both : (xs ys : List Entry) → length (xs ++ ys) ≡ length xs + length ys
length-both [] ys = omega arith
length-both (x ∷ xs) ys = let h = length-both xs ys in omega (arith, h)

guard_split : (low : ℕ) (xs ys : List Entry) (h : ℕ) → GuardAt low (xs ++ ys) h → GuardAt (length ys + low) xs h ⊎ GuardAt low ys h
guard_split low [] ys h g = inr g
guard_split low (x ∷ xs) ys h (inl g) = inl (inl (omega (arith, g.0, length-both xs ys), g.1))
guard_split low (x ∷ xs) ys h (inr g) = go (guard_split low xs ys h g)
  where
    go : GuardAt (length ys + low) xs h ⊎ GuardAt low ys h → GuardAt (length ys + low) (x ∷ xs) h ⊎ GuardAt low ys h
    go (inl k) = inl (inr k)
    go (inr k) = inr k

guard_low : (low : ℕ) (es : List Entry) (h : ℕ) → GuardAt low es h → low ≤ h
guard_low low [] h g = absurd g
guard_low low (e ∷ es) h (inl g) = omega (arith, g.0)
guard_low low (e ∷ es) h (inr g) = guard_low low es h g

guard_high : (low : ℕ) (es : List Entry) (h : ℕ) → GuardAt low es h → suc h ≤ length es + low
guard_high low [] h g = absurd g
guard_high low (e ∷ es) h (inl g) = omega (arith, g.0)
guard_high low (e ∷ es) h (inr g) = let k = guard_high low es h g in omega (arith, k)

guard_any : (low : ℕ) (es : List Entry) (h : ℕ) → GuardAt low es h → list_any is_guard es ≡ true
guard_any low [] h g = absurd g
guard_any low (e ∷ es) h (inl g) = ap (λ b. b || list_any is_guard es) g.1
guard_any low (e ∷ es) h (inr g) = either (is_guard e) (list_any is_guard es) (guard_any low es h g)
  where
    either : (a b : Bool) → b ≡ true → (a || b) ≡ true
    either true b k = refl
    either false b k = k

alone_one : (es : List Entry) → is_alone es ≡ true → list_any is_guard es ≡ true → length es ≡ 1
alone_one es a g = is_one (ap (λ b. not b || (length es == 1)) (sym g) ∙ a)
  where
    is_one : (not true || (length es == 1)) ≡ true → length es ≡ 1
    is_one k = is_number k
      where
        is_number : (length es == 1) ≡ true → length es ≡ 1
        is_number z = grind arith

-- the scope of a catch or findall entry falls inside no node
pub guard_not_inside : (low : ℕ) (cuts sizes : List ℕ) (es : List Entry) → fits_nodes low cuts sizes es ≡ true → (h : ℕ) → GuardAt low es h
    → NotInside low sizes (suc h)
guard_not_inside low cuts [] es f h g = tt
guard_not_inside low cuts (size ∷ sizes) es f h g =
    let one = fits_one low size sizes cuts es f in
    let rest = length es - further size in
    let olds : length (drop rest es) ≡ further size = omega (arith, drop-length rest es, one.room) in
    go one olds (λ k. guard_not_inside (low + further size) cuts sizes (take rest es) one.rest h k)
    (guard_split low (take rest es) (drop rest es) h (subst (λ l. GuardAt low l h) (take-drop rest es) g))
  where
    go : FitsOne low size sizes cuts es → length (drop (length es - further size) es) ≡ further size
        → (GuardAt (low + further size) (take (length es - further size) es) h → NotInside (low + further size) sizes (suc h))
        → GuardAt (length (drop (length es - further size) es) + low) (take (length es - further size) es) h ⊎ GuardAt low
        (drop (length es - further size) es) h → NotInside low (size ∷ sizes) (suc h)
    go one olds ih (inl k) =
        let tall : length (drop (length es - further size) es) + low ≡ low + further size = omega (arith, olds) in
        let inner : GuardAt (low + further size) (take (length es - further size) es) h = subst
        (λ n. GuardAt n (take (length es - further size) es) h) tall k in
        let above : low + further size ≤ h = guard_low (low + further size) (take (length es - further size) es) h inner in
        ((λ a b. omega (arith, above, b)), ih inner)
    go one olds ih (inr k) =
        let single : length (drop (length es - further size) es) ≡ 1 = alone_one (drop (length es - further size) es) one.alone
        (guard_any low (drop (length es - further size) es) h k) in
        let high : suc h ≤ length (drop (length es - further size) es) + low = guard_high low (drop (length es - further size) es) h k in
        ((λ a b. omega (arith, a, b, single, olds)), not_inside_low (low + further size) sizes (suc h) (omega (arith, high, olds)))

-- numbers on a counted way
pub counted_on : (way : Way) (n : ℕ) → IsCounted way → is_on way n ≡ true → (1 ≤ n) × (n ≤ length way)
counted_on [] n c h = absurd (true_false (sym h))
counted_on (a ∷ way) n c h = go (a.node == n) refl (counted_on way n c.1) h
  where
    go : (b : Bool) → (a.node == n) ≡ b → (is_on way n ≡ true → (1 ≤ n) × (n ≤ length way)) → cond b true (is_on way n) ≡ true
        → (1 ≤ n) × (n ≤ suc (length way))
    go true e f k = let same : a.node ≡ n = grind arith in (omega (arith, c.0, same), omega (arith, c.0, same))
    go false e f k = let l = f k in (l.0, omega (arith, l.1))

-- a mark's node is the floor's, or that of a catch or findall entry
abbrev pub Guards : Kind → Type 0
Guards kind = (e : Entry) → same_kind (guard_kind (e ∷ [])) kind ≡ true → is_guard e ≡ true

pub catch_guards : Guards CatchNode
catch_guards (PlainEntry f) h = absurd (true_false (sym h))
catch_guards (CatchEntry c r f) h = refl
catch_guards (FindallEntry results l f) h = absurd (true_false (sym h))
catch_guards (EndEntry b) h = absurd (true_false (sym h))

pub findall_guards : Guards FindallNode
findall_guards (PlainEntry f) h = absurd (true_false (sym h))
findall_guards (CatchEntry c r f) h = absurd (true_false (sym h))
findall_guards (FindallEntry results l f) h = refl
findall_guards (EndEntry b) h = absurd (true_false (sym h))

-- a way has a step to a node of this kind
abbrev pub HasStep : Kind → Way → ℕ → Type 0
HasStep kind [] s = ⊥
HasStep kind (a ∷ way) s = ((a.node ≡ s) × (same_kind a.kind kind ≡ true)) ⊎ HasStep kind way s

pub has_through : (kind : Kind) (way : Way) (s : ℕ) → through kind way s ≡ true → HasStep kind way s
has_through kind [] s h = absurd (true_false (sym h))
has_through kind (a ∷ way) s h = go (a.node == s) refl (a.index == 0) (is_barrier a) (has_through kind way s) h
  where
    go : (b : Bool) → (a.node == s) ≡ b → (i d : Bool) → (through kind way s ≡ true → HasStep kind way s)
        → cond b (i && same_kind a.kind kind) (cond d false (through kind way s)) ≡ true → HasStep kind (a ∷ way) s
    go true e true d f k = let same : a.node ≡ s = grind arith in inl (same, k)
    go true e false d f k = absurd (true_false (sym k))
    go false e i true f k = absurd (true_false (sym k))
    go false e i false f k = inr (f k)

pub has_from : (kind : Kind) (way : Way) (s r : ℕ) → HasStep kind (way_from way s) r → HasStep kind way r
has_from kind [] s r h = h
has_from kind (a ∷ way) s r h = go (a.node == s) (has_from kind way s r) h
  where
    go : (b : Bool) → (HasStep kind (way_from way s) r → HasStep kind way r) → HasStep kind (cond b (a ∷ way) (way_from way s)) r
        → HasStep kind (a ∷ way) r
    go true f k = k
    go false f k = inr (f k)

pub has_above : (kind : Kind) (way : Way) (s r : ℕ) → HasStep kind (way_above way s) r → HasStep kind way r
has_above kind [] s r h = h
has_above kind (a ∷ way) s r h = go (a.node == s) (has_above kind way s r) h
  where
    go : (b : Bool) → (HasStep kind (way_above way s) r → HasStep kind way r) → HasStep kind (cond b way (way_above way s)) r
        → HasStep kind (a ∷ way) r
    go true f k = inr k
    go false f k = inr (f k)

counted_step : (kind : Kind) (way : Way) (s : ℕ) → IsCounted way → HasStep kind way s → s ≤ length way
counted_step kind [] s c h = absurd h
counted_step kind (a ∷ way) s c (inl h) = omega (arith, c.0, h.0)
counted_step kind (a ∷ way) s c (inr h) = let k = counted_step kind way s c.1 h in omega (arith, k)

pub step_guard : (kind : Kind) → Guards kind → (w : Way) (os : List Entry) (h : ℕ) → IsCounted w → HasStep kind (stack_way os w) (suc h)
    → (suc h ≤ length w) ⊎ GuardAt (length w) os h
step_guard kind g w [] h c t = inl (counted_step kind w (suc h) c t)
step_guard kind g w (o ∷ os) h c (inl t) = inr (inl (omega (arith, t.0), g o t.1))
step_guard kind g w (o ∷ os) h c (inr t) = wider (step_guard kind g w os h c t)
  where
    wider : (suc h ≤ length w) ⊎ GuardAt (length w) os h → (suc h ≤ length w) ⊎ GuardAt (length w) (o ∷ os) h
    wider (inl z) = inl z
    wider (inr z) = inr (inr z)
