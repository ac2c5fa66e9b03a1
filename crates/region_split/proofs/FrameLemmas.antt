-- Frames that are made or taken away leave what is left in older ones.
use Rattle.std.proofs.Common.{◌≡◌, ℕ, ◌+◌, ◌<◌, ◌≤◌, List, [], ◌∷◌, ◌++◌, length, length-append, take, drop, get_or, slice_get, zero, suc, Some, None, refl, sym, ap, ◌∙◌, arith}
use Rattle.std.proofs.lemmas.List.{get_or_append_left, take-append-drop, length-take-le}
use Rattle.std.proofs.Math.Seq.{get_or-append_seam}
use Rattle.cell_store.proofs.UndoingLemmas.{front_at}
use Rattle.region_split.specs.Frames.{LeftItem, own_body_left, left_in, left_over, left_items, AreFramesOver}
use Rattle.region_split.specs.declared.text.BodyItem.{BodyItem}
use Rattle.region_split.specs.declared.frame.Frame.{Frame}
use Rattle.region_split.specs.declared.frame.Position.{Position}

abbrev Left : Type 0
Left = ℕ → List LeftItem

abbrev none : Left
none at = []

left_over-append : (bodies : List BodyItem) (older : List Left) (fs gs : List Frame) → left_over bodies older (fs ++ gs) ≡ left_over bodies (left_over bodies older fs) gs
left_over-append bodies older [] gs = refl
left_over-append bodies older (f ∷ fs) gs = left_over-append bodies (older ++ left_in bodies older f ∷ []) fs gs

length-left_over : (bodies : List BodyItem) (older : List Left) (fs : List Frame) → length (left_over bodies older fs) ≡ length older + length fs
length-left_over bodies older [] = omega arith
length-left_over bodies older (f ∷ fs) =
    let own = left_in bodies older f in
    let more = length-append older (own ∷ []) in
    let rest = length-left_over bodies (older ++ own ∷ []) fs in
    omega (arith, more, rest)

left_kept : (bodies : List BodyItem) (older : List Left) (fs : List Frame) (n : ℕ) → n < length older → get_or (left_over bodies older fs) n none ≡ get_or older n none
left_kept bodies older [] n lt = refl
left_kept bodies older (f ∷ fs) n lt =
    let own = left_in bodies older f in
    let more = length-append older (own ∷ []) in
    left_kept bodies (older ++ own ∷ []) fs n (omega (arith, more, lt)) ∙ get_or_append_left older (own ∷ []) none n lt

-- what is left at a position of the frames that stay
pub kept_left : (bodies : List BodyItem) (fs gs : List Frame) (p : Position) → p.frame ≤ length fs → left_items bodies (fs ++ gs) p ≡ left_items bodies fs p
kept_left bodies fs gs p le =
    let older = left_over bodies (none ∷ []) fs in
    let long = length-left_over bodies (none ∷ []) fs in
    let split = left_over-append bodies (none ∷ []) fs gs in
    ap (λ (ls : List Left). get_or ls p.frame none p.at) split ∙ ap (λ (l : Left). l p.at) (left_kept bodies older gs p.frame (omega (arith, long, le)))

-- what is left in a new frame
pub pushed_left : (bodies : List BodyItem) (fs : List Frame) (f : Frame) (p : Position) → p.frame ≡ length fs + 1 → left_items bodies (fs ++ f ∷ []) p ≡ own_body_left bodies f.body f.cut p.at ++ left_items bodies fs f.after
pushed_left bodies fs f p e =
    let older = left_over bodies (none ∷ []) fs in
    let own = left_in bodies older f in
    let long = length-left_over bodies (none ∷ []) fs in
    let split = left_over-append bodies (none ∷ []) fs (f ∷ []) in
    let place : p.frame ≡ length older = omega (arith, long, e) in
    ap (λ (ls : List Left). get_or ls p.frame none p.at) split
    ∙ (ap (λ n. get_or (older ++ own ∷ []) n none p.at) place ∙ ap (λ (l : Left). l p.at) (get_or-append_seam older own [] none))

-- what is left where so many frames are kept
pub taken_left : (bodies : List BodyItem) (n : ℕ) (fs : List Frame) (p : Position) → n ≤ length fs → p.frame ≤ n → left_items bodies (take n fs) p ≡ left_items bodies fs p
taken_left bodies n fs p le lt =
    let long = length-take-le n fs le in
    sym (kept_left bodies (take n fs) (drop n fs) p (omega (arith, long, lt))) ∙ ap (λ gs. left_items bodies gs p) (take-append-drop n fs)

-- nothing is left where there is no frame
pub nothing_left : (bodies : List BodyItem) (fs : List Frame) (p : Position) → p.frame ≡ 0 → left_items bodies fs p ≡ []
nothing_left bodies fs p e = ap (λ n. get_or (left_over bodies (none ∷ []) fs) n none p.at) e ∙ ap (λ (l : Left). l p.at) (left_kept bodies (none ∷ []) fs 0 (omega arith))

pub frames_over-take : (cut n : ℕ) (fs : List Frame) → AreFramesOver cut fs → AreFramesOver cut (take n fs)
frames_over-take cut zero fs k = tt
frames_over-take cut (suc n) [] k = tt
frames_over-take cut (suc n) (f ∷ fs) k = (k.0, frames_over-take (cut + 1) n fs k.1)

pub frames_over-append : (cut n : ℕ) (fs : List Frame) (f : Frame) → AreFramesOver cut fs → n ≡ cut + length fs → f.after.frame ≤ n → AreFramesOver cut (fs ++ f ∷ [])
frames_over-append cut n [] f k e le = (omega (arith, e, le), tt)
frames_over-append cut n (g ∷ fs) f k e le = (k.0, frames_over-append (cut + 1) n fs f k.1 (omega (arith, e)) le)

-- a frame goes on in one of those before it
pub goes_on_before : (cut i : ℕ) (fs : List Frame) (f : Frame) → AreFramesOver cut fs → i < length fs → f ≡ get_or fs i f → f.after.frame ≤ cut + i
goes_on_before cut i [] f k lt e = absurd (omega (arith, lt))
goes_on_before cut zero (g ∷ fs) f k lt e = let same : f.after.frame ≡ g.after.frame = ap (λ (x : Frame). x.after.frame) e in let le = k.0 in omega (arith, same, le)
goes_on_before cut (suc i) (g ∷ fs) f k lt e = let rest = goes_on_before (cut + 1) i fs f k.1 (omega (arith, lt)) e in omega (arith, rest)

-- what is left in a frame that is there
pub frame_left : (bodies : List BodyItem) (fs : List Frame) (f : Frame) (i : ℕ) (p : Position) → AreFramesOver 0 fs → i < length fs → f ≡ get_or fs i f → p.frame ≡ i + 1 → left_items bodies fs p ≡ own_body_left bodies f.body f.cut p.at ++ left_items bodies fs f.after
frame_left bodies fs f i p k lt e is =
    let long = length-take-le i fs (omega (arith, lt)) in
    let more : take (i + 1) fs ≡ take i fs ++ f ∷ [] = front_at fs i f lt e in
    let before = goes_on_before 0 i fs f k lt e in
    sym (taken_left bodies (i + 1) fs p (omega (arith, lt)) (omega (arith, is)))
    ∙ (ap (λ gs. left_items bodies gs p) more
    ∙ (pushed_left bodies (take i fs) f p (omega (arith, long, is))
    ∙ ap (λ items. own_body_left bodies f.body f.cut p.at ++ items) (taken_left bodies i fs f.after (omega (arith, lt)) (omega (arith, before)))))

-- the place at which a body is read
pub read_on : (bodies : List BodyItem) (at : ℕ) (item : BodyItem) → slice_get bodies at ≡ Some item → drop at bodies ≡ item ∷ drop (at + 1) bodies
read_on [] at item e = absurd (grind (arith, e))
read_on (b ∷ bodies) zero item e = ap (λ x. x ∷ bodies) (some_same b item e)
  where
    some_same : (x y : BodyItem) → Some x ≡ Some y → x ≡ y
    some_same x y h = cc
read_on (b ∷ bodies) (suc at) item e = let k : suc at + 1 ≡ suc (at + 1) = omega arith in read_on bodies at item e ∙ ap (λ n. item ∷ drop n (b ∷ bodies)) (sym k)

pub read_past : (bodies : List BodyItem) (at : ℕ) → slice_get bodies at ≡ None → drop at bodies ≡ []
read_past [] zero e = refl
read_past [] (suc at) e = refl
read_past (b ∷ bodies) zero e = absurd (grind (arith, e))
read_past (b ∷ bodies) (suc at) e = read_past bodies at e
