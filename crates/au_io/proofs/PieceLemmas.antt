-- Bytes read and written piece by piece.
use Rattle.std.proofs.Common.{◌≡◌, ℕ, zero, suc, ◌+◌, ◌-◌, ◌≤◌, List, [], ◌∷◌, ◌++◌, length, take, drop, Option, Some, None, refl, sym, ap, subst, ◌∙◌, append_assoc, arith, length-drop}
use Rattle.std.proofs.lemmas.List.{take-append-le, take_all, take-append-drop}
use Rattle.std.proofs.Math.Seq.{take-append-add, take-append_seam, drop-append_seam}
use Rattle.std.specs.Prelude.{Result, Ok, Err, OnErr}
use Rattle.std.specs.Io.KnownBytes.{Appends, Keeps}

pub Appends-then : (a b c : Option (List ℕ)) (xs ys : List ℕ) → Appends a b xs → Appends b c ys → Appends a c (xs ++ ys)
Appends-then None b c xs ys h k = tt
Appends-then (Some a) None c xs ys h k = absurd h
Appends-then (Some a) (Some b) None xs ys h k = absurd k
Appends-then (Some a) (Some b) (Some c) xs ys h k = k ∙ (ap (λ zs. zs ++ ys) h ∙ append_assoc a xs ys)

pub Appends-keep : (a b c : Option (List ℕ)) (xs : List ℕ) → Appends a b xs → Keeps b c → Appends a c xs
Appends-keep None b c xs h k = tt
Appends-keep (Some a) None c xs h k = absurd h
Appends-keep (Some a) (Some b) None xs h k = absurd k
Appends-keep (Some a) (Some b) (Some c) xs h k = k ∙ h

take_of_take : (m n : ℕ) (xs : List ℕ) → m ≤ n → take m (take n xs) ≡ take m xs
take_of_take zero n xs h = refl
take_of_take (suc m) zero xs h = absurd (omega arith)
take_of_take (suc m) (suc n) [] h = refl
take_of_take (suc m) (suc n) (x ∷ xs) h = ap (λ ys. x ∷ ys) (take_of_take m n xs (omega arith))

-- a list's own part, where it was made longer
pub own_part : (xs zeros : List ℕ) (n room : ℕ) → length xs ≡ n → take n (take (n + room) xs ++ zeros) ≡ xs
own_part xs zeros n room e =
    ap (λ ys. take n (ys ++ zeros)) (take_all (n + room) xs (omega (arith, e))) ∙ (ap (λ m. take m (xs ++ zeros)) (sym e) ∙ take-append_seam xs zeros)

read_after : (xs read rest : List ℕ) (count : ℕ) → count ≤ length read → take (length xs + count) (xs ++ (read ++ rest)) ≡ xs ++ take count read
read_after xs read rest count le = take-append-add xs (read ++ rest) count ∙ ap (λ ys. xs ++ ys) (take-append-le count read rest le)

-- what is left of a list that was made longer, read into after its own part, and cut
pub read_in : (xs made read behind rest : List ℕ) (n long count : ℕ) → length xs ≡ n → take n made ≡ xs → count ≤ length read → n + count ≤ long
    → take (n + count) (take long ((take n made ++ (read ++ behind)) ++ rest)) ≡ xs ++ take count read
read_in xs made read behind rest n long count e own le few =
    take_of_take (n + count) long ((take n made ++ (read ++ behind)) ++ rest) few
    ∙ (ap (λ ys. take (n + count) ((ys ++ (read ++ behind)) ++ rest)) own
    ∙ (ap (λ m. take (m + count) ((xs ++ (read ++ behind)) ++ rest)) (sym e)
    ∙ (ap (take (length xs + count)) (append_assoc xs (read ++ behind) rest ∙ ap (λ ys. xs ++ ys) (append_assoc read behind rest))
    ∙ read_after xs read (behind ++ rest) count le)))

pub part_is : (xs new part : List ℕ) (n : ℕ) → length xs ≡ n → new ≡ xs ++ part → drop n new ≡ part
part_is xs new part n l e = ap (drop n) e ∙ (ap (λ m. drop m (xs ++ part)) (sym l) ∙ drop-append_seam xs part)

pub front_is : (xs new part : List ℕ) (n : ℕ) → length xs ≡ n → new ≡ xs ++ part → new ≡ xs ++ drop n new
front_is xs new part n l e = e ∙ ap (λ ys. xs ++ ys) (sym (part_is xs new part n l e))

pub rest_from : (xs : List ℕ) (n : ℕ) → take (length xs - n) (drop n xs) ≡ drop n xs
rest_from xs n = take_all (length xs - n) (drop n xs) (omega (arith, length-drop n xs))

-- what was written is a front of the bytes
pub front : (old now : Option (List ℕ)) (bytes written rest : List ℕ) → bytes ≡ written ++ rest → Appends old now written → (n : ℕ) × Appends old now (take n bytes)
front old now bytes written rest e h = (length written, subst (Appends old now) (sym (ap (take (length written)) e ∙ take-append_seam written rest)) h)

-- more of the bytes was written
pub split_more : (bytes written rest : List ℕ) (n : ℕ) → bytes ≡ written ++ rest → bytes ≡ (written ++ take n rest) ++ drop n rest
split_more bytes written rest n e =
    e ∙ (ap (λ ys. written ++ ys) (sym (take-append-drop n rest)) ∙ sym (append_assoc written (take n rest) (drop n rest)))

pub on_err_always : {T E : Type 0} (r : Result T E) (P : Type 0) → P → OnErr r P
on_err_always (Ok x) P p = tt
on_err_always (Err x) P p = p
