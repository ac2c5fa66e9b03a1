-- What undoing leaves stays the same while a store goes on.
use Rattle.std.proofs.Common.{◌≡◌, ℕ, zero, suc, ◌+◌, ◌<◌, ◌≤◌, Bool, true, false, nat_lt, List, [], ◌∷◌, ◌++◌, length, length-append, take, drop, slice_set, get_or, map, refl, sym, ap, ap₂, ◌∙◌, subst, arith}
use Rattle.std.proofs.lemmas.Bool.Decides.{nat_tests}
use Rattle.std.proofs.Math.Seq.{take-length, take-set-lt}
use Rattle.std.proofs.lemmas.List.{take-set-le, set-get_or, length-set, drop-append-le, take-append-le, take-append-drop, length-take-le}
use Rattle.au_model.specs.Terms.Each.{Each}
use Rattle.au_model.proofs.EachLemmas.{each-append, each-more}
use Rattle.clause_compile.proofs.CodeLemmas.{each_taken}
use Rattle.binding_array.specs.Represented.{variable_cell}
use Rattle.binding_array.specs.declared.cell.BindingCell.{BindingCell}
use Rattle.binding_array.specs.declared.cell.BindingCell.TheVariants.{Free}
use Rattle.cell_store.specs.Undoing.{freed, undone, IsOlderMark, AreNested}
use Rattle.cell_store.specs.declared.mark.Mark.{Mark}

pub freed-append : (vs ws : List ℕ) (cells : List BindingCell) → freed (vs ++ ws) cells ≡ freed vs (freed ws cells)
freed-append [] ws cells = refl
freed-append (v ∷ vs) ws cells = ap (λ cs. slice_set cs v Free) (freed-append vs ws cells)

-- only the first cells decide the first cells
set_front : (n v : ℕ) (c : BindingCell) (xs ys : List BindingCell) → take n xs ≡ take n ys → take n (slice_set xs v c) ≡ take n (slice_set ys v c)
set_front n v c xs ys h = by_test (nat_lt v n) refl
  where
    by_test : (b : Bool) → nat_lt v n ≡ b → take n (slice_set xs v c) ≡ take n (slice_set ys v c)
    by_test true e = let lt : v < n = grind (arith, nat_tests) in take-set-lt n xs v c lt ∙ (ap (λ zs. slice_set zs v c) h ∙ sym (take-set-lt n ys v c lt))
    by_test false e = let le : n ≤ v = grind (arith, nat_tests) in take-set-le n xs v c le ∙ (h ∙ sym (take-set-le n ys v c le))

freed_front : (n : ℕ) (vs : List ℕ) (xs ys : List BindingCell) → take n xs ≡ take n ys → take n (freed vs xs) ≡ take n (freed vs ys)
freed_front n [] xs ys h = h
freed_front n (v ∷ vs) xs ys h = set_front n v Free (freed vs xs) (freed vs ys) (freed_front n vs xs ys h)

pub length-freed : (vs : List ℕ) (cells : List BindingCell) → length (freed vs cells) ≡ length cells
length-freed [] cells = refl
length-freed (v ∷ vs) cells = length-set (freed vs cells) v Free ∙ length-freed vs cells

set_twice : (cells : List BindingCell) (v : ℕ) (c d : BindingCell) → slice_set (slice_set cells v c) v d ≡ slice_set cells v d
set_twice [] v c d = refl
set_twice (x ∷ xs) zero c d = refl
set_twice (x ∷ xs) (suc v) c d = ap (λ ys. x ∷ ys) (set_twice xs v c d)

-- a free variable that was bound and freed again
freed_again : (cells : List BindingCell) (v : ℕ) (c : BindingCell) → variable_cell cells v ≡ Free → slice_set (slice_set cells v c) v Free ≡ cells
freed_again cells v c e = set_twice cells v c Free ∙ (ap (slice_set cells v) (sym e) ∙ set-get_or cells v Free)

-- a binding that is on the trail
pub undone_trailed : (m : Mark) (trail : List ℕ) (cells : List BindingCell) (v : ℕ) (c : BindingCell) → m.trail ≤ length trail → variable_cell cells v ≡ Free → undone m (trail ++ v ∷ []) (slice_set cells v c) ≡ undone m trail cells
undone_trailed m trail cells v c le e =
    ap (λ vs. take m.variables (freed vs (slice_set cells v c))) (drop-append-le m.trail trail (v ∷ []) le)
    ∙ (ap (take m.variables) (freed-append (drop m.trail trail) (v ∷ []) (slice_set cells v c)) ∙ ap (λ cs. take m.variables (freed (drop m.trail trail) cs)) (freed_again cells v c e))

-- a binding of a younger variable
pub undone_younger : (m : Mark) (trail : List ℕ) (cells : List BindingCell) (v : ℕ) (c : BindingCell) → m.variables ≤ v → undone m trail (slice_set cells v c) ≡ undone m trail cells
undone_younger m trail cells v c le = freed_front m.variables (drop m.trail trail) (slice_set cells v c) cells (take-set-le m.variables cells v c le)

same_front : (n : ℕ) (xs ys : List BindingCell) → ((v : ℕ) → variable_cell xs v ≡ variable_cell ys v) → n ≤ length xs → n ≤ length ys → take n xs ≡ take n ys
same_front zero xs ys h lx ly = refl
same_front (suc n) [] ys h lx ly = absurd (omega arith)
same_front (suc n) (x ∷ xs) [] h lx ly = absurd (omega arith)
same_front (suc n) (x ∷ xs) (y ∷ ys) h lx ly = ap₂ (λ z zs. z ∷ zs) (h 0) (same_front n xs ys (λ v. h (suc v)) (omega arith) (omega arith))

-- cells of new variables
pub undone_grown : (m : Mark) (trail : List ℕ) (cells now : List BindingCell) → ((v : ℕ) → variable_cell now v ≡ variable_cell cells v) → m.variables ≤ length cells → length cells ≤ length now → undone m trail now ≡ undone m trail cells
undone_grown m trail cells now h lc ln = freed_front m.variables (drop m.trail trail) now cells (same_front m.variables now cells h (omega arith) lc)

-- a new mark
drop_all : {X : Type 0} (xs : List X) → drop (length xs) xs ≡ []
drop_all [] = refl
drop_all (x ∷ xs) = drop_all xs

pub undone_now : (trail : List ℕ) (cells : List BindingCell) (m : Mark) → m.trail ≡ length trail → m.variables ≡ length cells → undone m trail cells ≡ cells
undone_now trail cells m t v =
    ap (λ n. take n (freed (drop m.trail trail) cells)) v
    ∙ (ap (λ n. take (length cells) (freed (drop n trail) cells)) t ∙ (ap (λ vs. take (length cells) (freed vs cells)) (drop_all trail) ∙ take-length cells))

pub take_within : {X : Type 0} (m n : ℕ) (xs : List X) → m ≤ n → take m (take n xs) ≡ take m xs
take_within zero n xs le = refl
take_within (suc m) zero xs le = absurd (omega arith)
take_within (suc m) (suc n) [] le = refl
take_within (suc m) (suc n) (x ∷ xs) le = ap (λ ys. x ∷ ys) (take_within m n xs (omega arith))

dropped_apart : {X : Type 0} (m n : ℕ) (xs : List X) → m ≤ n → drop m xs ≡ drop m (take n xs) ++ drop n xs
dropped_apart zero n xs le = sym (take-append-drop n xs)
dropped_apart (suc m) zero xs le = absurd (omega arith)
dropped_apart (suc m) (suc n) [] le = refl
dropped_apart (suc m) (suc n) (x ∷ xs) le = dropped_apart m n xs (omega arith)

-- an older mark, from the state at a younger one
pub undone_twice : (m n : Mark) (trail : List ℕ) (cells : List BindingCell) → IsOlderMark m n → undone m (take n.trail trail) (undone n trail cells) ≡ undone m trail cells
undone_twice m n trail cells o =
    let young = freed (drop n.trail trail) cells in
    freed_front m.variables (drop m.trail (take n.trail trail)) (take n.variables young) young (take_within m.variables n.variables young o.variables)
    ∙ ap (take m.variables) (sym (freed-append (drop m.trail (take n.trail trail)) (drop n.trail trail) cells) ∙ ap (λ vs. freed vs cells) (sym (dropped_apart m.trail n.trail trail o.trail)))

pub length-undone : (m : Mark) (trail : List ℕ) (cells : List BindingCell) → m.variables ≤ length cells → length (undone m trail cells) ≡ m.variables
length-undone m trail cells le = length-take-le m.variables (freed (drop m.trail trail) cells) (omega (arith, length-freed (drop m.trail trail) cells))

-- lists of which two things hold
pub each-both : {X : Type 0} (P Q R : X → Type 0) → ((x : X) → P x → Q x → R x) → (xs : List X) → Each P xs → Each Q xs → Each R xs
each-both P Q R f [] h k = tt
each-both P Q R f (x ∷ xs) h k = (f x h.0 k.0, each-both P Q R f xs h.1 k.1)

pub map-same : {X Y : Type 0} (P : X → Type 0) (f g : X → Y) → ((x : X) → P x → f x ≡ g x) → (xs : List X) → Each P xs → map f xs ≡ map g xs
map-same P f g h [] e = refl
map-same P f g h (x ∷ xs) e = ap₂ (λ y ys. y ∷ ys) (h x e.0) (map-same P f g h xs e.1)

-- nested marks
pub nested-append : (ms : List Mark) (n : Mark) → AreNested ms → Each (λ m. IsOlderMark m n) ms → AreNested (ms ++ n ∷ [])
nested-append [] n h o = (tt, tt)
nested-append (m ∷ ms) n h o = (each-append (IsOlderMark m) ms (n ∷ []) h.0 (o.0, tt), nested-append ms n h.1 o.1)

pub nested-take : (n : ℕ) (ms : List Mark) → AreNested ms → AreNested (take n ms)
nested-take zero ms h = tt
nested-take (suc n) [] h = tt
nested-take (suc n) (m ∷ ms) h = (each_taken (IsOlderMark m) n ms h.0, nested-take n ms h.1)

older_itself : (m : Mark) → IsOlderMark m m
older_itself m = record { trail = omega arith; variables = omega arith; made = omega arith }

-- up to one of the marks each is older than that, or is it
pub older_than : (before : List Mark) (m : Mark) (after : List Mark) → AreNested (before ++ m ∷ after) → Each (λ n. IsOlderMark n m) (before ++ m ∷ [])
older_than [] m after h = (older_itself m, tt)
older_than (n ∷ before) m after h = (first before h.0, older_than before m after h.1)
  where
    first : (ns : List Mark) → Each (IsOlderMark n) (ns ++ m ∷ after) → IsOlderMark n m
    first [] k = k.0
    first (k ∷ ks) e = first ks e.1

-- one variable of a trail is freed
pub popped : (kept : ℕ) (old rest : List ℕ) (v : ℕ) (cells now : List BindingCell) → old ≡ rest ++ v ∷ [] → kept < length old → now ≡ slice_set cells v Free → Each (λ u. u < length cells) old
    → Each (λ u. u < length now) rest × ((take kept rest ≡ take kept old) × (freed (drop kept rest) now ≡ freed (drop kept old) cells))
popped kept old rest v cells now e lt n h =
    let le : kept ≤ length rest = omega (arith, ap length e, length-append rest (v ∷ [])) in
    let same : length now ≡ length cells = ap length n ∙ length-set cells v Free in (
      each-more (λ u. u < length cells) (λ u. u < length now) (λ u l. omega arith) rest (front rest (subst (Each (λ u. u < length cells)) e h)),
      (
        sym (ap (take kept) e ∙ take-append-le kept rest (v ∷ []) le),
        ap (freed (drop kept rest)) n ∙ sym (ap (λ vs. freed (drop kept vs) cells) e ∙ (ap (λ vs. freed vs cells) (drop-append-le kept rest (v ∷ []) le) ∙ freed-append (drop kept rest) (v ∷ []) cells)),
      ),
    )
  where
    front : (xs : List ℕ) → Each (λ u. u < length cells) (xs ++ v ∷ []) → Each (λ u. u < length cells) xs
    front [] k = tt
    front (x ∷ xs) k = (k.0, front xs k.1)

pub each_at : {X : Type 0} (P : X → Type 0) (xs : List X) (i : ℕ) (x : X) → Each P xs → i < length xs → x ≡ get_or xs i x → P x
each_at P [] i x h lt e = absurd (omega arith)
each_at P (y ∷ ys) zero x h lt e = subst P (sym e) h.0
each_at P (y ∷ ys) (suc i) x h lt e = each_at P ys i x h.1 (omega arith) e

-- the newest mark is after all others
pub newest : (ms : List Mark) (i : ℕ) (m : Mark) → AreNested ms → length ms ≡ suc i → m ≡ get_or ms i m → Each (λ n. n.variables ≤ m.variables) ms
newest [] i m h l e = tt
newest (n ∷ []) zero m h l e = (let same : m ≡ n = e in let k : m.variables ≡ n.variables = ap (λ (x : Mark). x.variables) same in omega arith, tt)
newest (n ∷ []) (suc i) m h l e = absurd (omega arith)
newest (n ∷ k ∷ ms) zero m h l e = absurd (omega arith)
newest (n ∷ k ∷ ms) (suc i) m h l e = ((each_at (IsOlderMark n) (k ∷ ms) i m h.0 (omega arith) e).variables, newest (k ∷ ms) i m h.1 (omega arith) e)

-- a list round the element at a place
pub split_at : {X : Type 0} (xs : List X) (i : ℕ) (x : X) → i < length xs → x ≡ get_or xs i x → xs ≡ take i xs ++ x ∷ drop (i + 1) xs
split_at [] i x lt e = absurd (omega arith)
split_at (y ∷ ys) zero x lt e = ap (λ z. z ∷ ys) (sym e)
split_at (y ∷ ys) (suc i) x lt e = let k : suc i + 1 ≡ suc (i + 1) = omega arith in rw k (ap (λ zs. y ∷ zs) (split_at ys i x (omega arith) e))

pub front_at : {X : Type 0} (xs : List X) (i : ℕ) (x : X) → i < length xs → x ≡ get_or xs i x → take (i + 1) xs ≡ take i xs ++ x ∷ []
front_at [] i x lt e = absurd (omega arith)
front_at (y ∷ ys) zero x lt e = ap (λ z. z ∷ []) (sym e)
front_at (y ∷ ys) (suc i) x lt e = let k : suc i + 1 ≡ suc (i + 1) = omega arith in rw k (ap (λ zs. y ∷ zs) (front_at ys i x (omega arith) e))

pub mapped_at : {X Y : Type 0} (f : X → Y) (xs : List X) (i : ℕ) (x : X) (before after : List Y) (y : Y) → i < length xs → x ≡ get_or xs i x → map f xs ≡ before ++ y ∷ after → i ≡ length before → y ≡ f x
mapped_at f [] i x before after y lt e m l = absurd (omega arith)
mapped_at f (z ∷ zs) zero x [] after y lt e m l = let a : f z ≡ y = cc in sym (ap f e ∙ a)
mapped_at f (z ∷ zs) zero x (b ∷ before) after y lt e m l = absurd (omega arith)
mapped_at f (z ∷ zs) (suc i) x [] after y lt e m l = absurd (omega arith)
mapped_at f (z ∷ zs) (suc i) x (b ∷ before) after y lt e m l = let rest : map f zs ≡ before ++ y ∷ after = cc in mapped_at f zs i x before after y (omega arith) e rest (omega arith)
