-- Texts are in the order of their characters where their bytes are in order.
use Rattle.std.proofs.Common.{◌≡◌, ℕ, ◌+◌, ◌/◌, ◌%◌, ◌<◌, ◌≤◌, ◌⊎◌, true, false, ltb, List, [], ◌∷◌, ◌++◌, refl, sym, ap, ap₂, ◌∙◌, inl, inr, ⊎_elim, arith}
use Rattle.std.specs.Ordering.{nat_cmp, ordering_then, ordering_reverse}
use Rattle.std.specs.declared.cmp.Ordering.TheVariants.{Less, Equal, Greater}
use Rattle.std.specs.Cmp.{nat_cmp_is}
use Rattle.std.specs.Cmp.Lexicographic.{slice_cmp, nat_list_cmp_total}
use Rattle.std.specs.Str.{chars, IsUtf8}
use Rattle.std.proofs.lemmas.Str.{encodes-chars}
use Rattle.std.proofs.lemmas.Bool.{cases_lt}
use Rattle.std.proofs.lemmas.Bool.Decides.{nat_tests}
use lib.Utf8.{encode, encodes, next}

less : (a b : ℕ) (xs ys : List ℕ) → a < b → slice_cmp nat_cmp (a ∷ xs) (b ∷ ys) ≡ Less
less a b xs ys h = ap (λ o. ordering_then o (slice_cmp nat_cmp xs ys)) (sym (nat_cmp_is a b Less h))

pass : (a b : ℕ) (xs ys : List ℕ) → a ≡ b → slice_cmp nat_cmp xs ys ≡ Less → slice_cmp nat_cmp (a ∷ xs) (b ∷ ys) ≡ Less
pass a b xs ys e h = ap (λ o. ordering_then o (slice_cmp nat_cmp xs ys)) (sym (nat_cmp_is a b Equal e)) ∙ h

-- numbers by their parts in base 64
parted : (m n : ℕ) → m < n → (m / 64 < n / 64) ⊎ ((m / 64 ≡ n / 64) × (m % 64 < n % 64))
parted m n h = ⊎_elim inl (λ le. inr (omega arith, omega arith)) (cases_lt (m / 64) (n / 64))

last : (c d : ℕ) (xs ys : List ℕ) → c % 64 < d % 64 → slice_cmp nat_cmp (next c ∷ xs) (next d ∷ ys) ≡ Less
last c d xs ys h = less (next c) (next d) xs ys (omega arith)

tie : (c d : ℕ) (xs ys : List ℕ) → c % 64 ≡ d % 64 → slice_cmp nat_cmp xs ys ≡ Less → slice_cmp nat_cmp (next c ∷ xs) (next d ∷ ys) ≡ Less
tie c d xs ys e h = pass (next c) (next d) xs ys (ap (λ n. 128 + n) e) h

two : (k c d : ℕ) (xs ys : List ℕ) → c < d → slice_cmp nat_cmp ((k + c / 64) ∷ next c ∷ xs) ((k + d / 64) ∷ next d ∷ ys) ≡ Less
two k c d xs ys h =
    ⊎_elim (λ l. less (k + c / 64) (k + d / 64) (next c ∷ xs) (next d ∷ ys) (omega arith))
    (λ p. pass (k + c / 64) (k + d / 64) (next c ∷ xs) (next d ∷ ys) (ap (λ n. k + n) p.0) (last c d xs ys p.1)) (parted c d h)

three : (k c d : ℕ) (xs ys : List ℕ) → c < d → slice_cmp nat_cmp ((k + c / 4096) ∷ next (c / 64) ∷ next c ∷ xs) ((k + d / 4096) ∷ next (d / 64) ∷ next d ∷ ys) ≡ Less
three k c d xs ys h =
    let e : c / 4096 ≡ c / 64 / 64 = omega arith in
    let f : d / 4096 ≡ d / 64 / 64 = omega arith in
    ap₂ (λ m n. slice_cmp nat_cmp ((k + m) ∷ next (c / 64) ∷ next c ∷ xs) ((k + n) ∷ next (d / 64) ∷ next d ∷ ys)) e f
    ∙ ⊎_elim (λ l. two k (c / 64) (d / 64) (next c ∷ xs) (next d ∷ ys) l)
    (λ p. pass (k + c / 64 / 64) (k + d / 64 / 64) (next (c / 64) ∷ next c ∷ xs) (next (d / 64) ∷ next d ∷ ys) (ap (λ n. k + n / 64) p.0)
    (tie (c / 64) (d / 64) (next c ∷ xs) (next d ∷ ys) (ap (λ n. n % 64) p.0) (last c d xs ys p.1))) (parted c d h)

four : (k c d : ℕ) (xs ys : List ℕ) → c < d
    → slice_cmp nat_cmp ((k + c / 262144) ∷ next (c / 4096) ∷ next (c / 64) ∷ next c ∷ xs) ((k + d / 262144) ∷ next (d / 4096) ∷ next (d / 64) ∷ next d ∷ ys) ≡ Less
four k c d xs ys h =
    let e : c / 262144 ≡ c / 64 / 4096 = omega arith in
    let f : d / 262144 ≡ d / 64 / 4096 = omega arith in
    let g : c / 4096 ≡ c / 64 / 64 = omega arith in
    let i : d / 4096 ≡ d / 64 / 64 = omega arith in
    ap₂ (λ m n. slice_cmp nat_cmp ((k + m) ∷ next (c / 4096) ∷ next (c / 64) ∷ next c ∷ xs) ((k + n) ∷ next (d / 4096) ∷ next (d / 64) ∷ next d ∷ ys)) e f
    ∙ (ap₂ (λ m n. slice_cmp nat_cmp ((k + c / 64 / 4096) ∷ next m ∷ next (c / 64) ∷ next c ∷ xs) ((k + d / 64 / 4096) ∷ next n ∷ next (d / 64) ∷ next d ∷ ys)) g i
    ∙ ⊎_elim (λ l. three k (c / 64) (d / 64) (next c ∷ xs) (next d ∷ ys) l)
    (λ p. pass (k + c / 64 / 4096) (k + d / 64 / 4096) (next (c / 64 / 64) ∷ next (c / 64) ∷ next c ∷ xs) (next (d / 64 / 64) ∷ next (d / 64) ∷ next d ∷ ys) (ap (λ n. k + n / 4096) p.0)
    (tie (c / 64 / 64) (d / 64 / 64) (next (c / 64) ∷ next c ∷ xs) (next (d / 64) ∷ next d ∷ ys) (ap (λ n. n / 64 % 64) p.0)
    (tie (c / 64) (d / 64) (next c ∷ xs) (next d ∷ ys) (ap (λ n. n % 64) p.0) (last c d xs ys p.1)))) (parted c d h))

one_byte : (c : ℕ) → c < 128 → encode c ≡ c ∷ []
unfolding encode
one_byte c h = let t : ltb c 128 ≡ true = grind (arith, nat_tests) in rw t refl

two_bytes : (c : ℕ) → 128 ≤ c → c < 2048 → encode c ≡ (192 + c / 64) ∷ next c ∷ []
unfolding encode
two_bytes c l h = let s : ltb c 128 ≡ false = grind (arith, nat_tests) in let t : ltb c 2048 ≡ true = grind (arith, nat_tests) in rw (s, t) refl

three_bytes : (c : ℕ) → 2048 ≤ c → c < 65536 → encode c ≡ (224 + c / 4096) ∷ next (c / 64) ∷ next c ∷ []
unfolding encode
three_bytes c l h =
    let r : ltb c 128 ≡ false = grind (arith, nat_tests) in
    let s : ltb c 2048 ≡ false = grind (arith, nat_tests) in
    let t : ltb c 65536 ≡ true = grind (arith, nat_tests) in
    rw (r, s, t) refl

four_bytes : (c : ℕ) → 65536 ≤ c → encode c ≡ (240 + c / 262144) ∷ next (c / 4096) ∷ next (c / 64) ∷ next c ∷ []
unfolding encode
four_bytes c l =
    let r : ltb c 128 ≡ false = grind (arith, nat_tests) in
    let s : ltb c 2048 ≡ false = grind (arith, nat_tests) in
    let t : ltb c 65536 ≡ false = grind (arith, nat_tests) in
    rw (r, s, t) refl

module _ (c d : ℕ) (xs ys : List ℕ) where
  spelled : (p q : List ℕ) → encode c ≡ p → encode d ≡ q → slice_cmp nat_cmp (p ++ xs) (q ++ ys) ≡ Less → slice_cmp nat_cmp (encode c ++ xs) (encode d ++ ys) ≡ Less
  spelled p q e f h = ap₂ (λ m n. slice_cmp nat_cmp (m ++ xs) (n ++ ys)) e f ∙ h

  first : (a b : ℕ) (p q : List ℕ) → encode c ≡ a ∷ p → encode d ≡ b ∷ q → a < b → slice_cmp nat_cmp (encode c ++ xs) (encode d ++ ys) ≡ Less
  first a b p q e f h = spelled (a ∷ p) (b ∷ q) e f (less a b (p ++ xs) (q ++ ys) h)

  from_one : c < 128 → c < d → slice_cmp nat_cmp (encode c ++ xs) (encode d ++ ys) ≡ Less
  from_one h l =
      ⊎_elim (λ k. first c d [] [] (one_byte c h) (one_byte d k) l)
      (λ k. ⊎_elim (λ m. first c (192 + d / 64) [] (next d ∷ []) (one_byte c h) (two_bytes d k m) (omega arith))
      (λ m. ⊎_elim (λ n. first c (224 + d / 4096) [] (next (d / 64) ∷ next d ∷ []) (one_byte c h) (three_bytes d m n) (omega arith))
      (λ n. first c (240 + d / 262144) [] (next (d / 4096) ∷ next (d / 64) ∷ next d ∷ []) (one_byte c h) (four_bytes d n) (omega arith)) (cases_lt d 65536)) (cases_lt d 2048)) (cases_lt d 128)

  from_two : 128 ≤ c → c < 2048 → c < d → slice_cmp nat_cmp (encode c ++ xs) (encode d ++ ys) ≡ Less
  from_two g h l =
      ⊎_elim (λ m. let k : 128 ≤ d = omega arith in spelled ((192 + c / 64) ∷ next c ∷ []) ((192 + d / 64) ∷ next d ∷ []) (two_bytes c g h) (two_bytes d k m) (two 192 c d xs ys l))
      (λ m. ⊎_elim (λ n. first (192 + c / 64) (224 + d / 4096) (next c ∷ []) (next (d / 64) ∷ next d ∷ []) (two_bytes c g h) (three_bytes d m n) (omega arith))
      (λ n. first (192 + c / 64) (240 + d / 262144) (next c ∷ []) (next (d / 4096) ∷ next (d / 64) ∷ next d ∷ []) (two_bytes c g h) (four_bytes d n) (omega arith)) (cases_lt d 65536)) (cases_lt d 2048)

  from_three : 2048 ≤ c → c < 65536 → c < d → slice_cmp nat_cmp (encode c ++ xs) (encode d ++ ys) ≡ Less
  from_three g h l =
      ⊎_elim (λ n. let m : 2048 ≤ d = omega arith in spelled ((224 + c / 4096) ∷ next (c / 64) ∷ next c ∷ []) ((224 + d / 4096) ∷ next (d / 64) ∷ next d ∷ []) (three_bytes c g h) (three_bytes d m n) (three 224 c d xs ys l))
      (λ n. first (224 + c / 4096) (240 + d / 262144) (next (c / 64) ∷ next c ∷ []) (next (d / 4096) ∷ next (d / 64) ∷ next d ∷ []) (three_bytes c g h) (four_bytes d n) (omega arith)) (cases_lt d 65536)

  from_four : 65536 ≤ c → c < d → slice_cmp nat_cmp (encode c ++ xs) (encode d ++ ys) ≡ Less
  from_four g l =
      let n : 65536 ≤ d = omega arith in
      spelled ((240 + c / 262144) ∷ next (c / 4096) ∷ next (c / 64) ∷ next c ∷ []) ((240 + d / 262144) ∷ next (d / 4096) ∷ next (d / 64) ∷ next d ∷ []) (four_bytes c g) (four_bytes d n) (four 240 c d xs ys l)

  less_encoded : c < d → slice_cmp nat_cmp (encode c ++ xs) (encode d ++ ys) ≡ Less
  less_encoded l =
      ⊎_elim (λ k. from_one k l) (λ k. ⊎_elim (λ m. from_two k m l) (λ m. ⊎_elim (λ n. from_three m n l) (λ n. from_four n l) (cases_lt c 65536)) (cases_lt c 2048)) (cases_lt c 128)

some_byte : (c : ℕ) (xs : List ℕ) → slice_cmp nat_cmp [] (encode c ++ xs) ≡ Less
some_byte c xs =
    ⊎_elim (λ k. ap (λ p. slice_cmp nat_cmp [] (p ++ xs)) (one_byte c k))
    (λ k. ⊎_elim (λ m. ap (λ p. slice_cmp nat_cmp [] (p ++ xs)) (two_bytes c k m))
    (λ m. ⊎_elim (λ n. ap (λ p. slice_cmp nat_cmp [] (p ++ xs)) (three_bytes c m n)) (λ n. ap (λ p. slice_cmp nat_cmp [] (p ++ xs)) (four_bytes c n)) (cases_lt c 65536)) (cases_lt c 2048)) (cases_lt c 128)

turned : (xs ys : List ℕ) → slice_cmp nat_cmp ys xs ≡ Less → slice_cmp nat_cmp xs ys ≡ Greater
turned xs ys h = nat_list_cmp_total.antisymm xs ys ∙ ap ordering_reverse h

same_front : (p xs ys : List ℕ) → slice_cmp nat_cmp (p ++ xs) (p ++ ys) ≡ slice_cmp nat_cmp xs ys
same_front [] xs ys = refl
same_front (a ∷ p) xs ys = ap (λ o. ordering_then o (slice_cmp nat_cmp (p ++ xs) (p ++ ys))) (sym (nat_cmp_is a a Equal refl)) ∙ same_front p xs ys

encodes_order : (cs ds : List ℕ) → slice_cmp nat_cmp (encodes cs) (encodes ds) ≡ slice_cmp nat_cmp cs ds
encodes_order [] [] = refl
encodes_order [] (d ∷ ds) = some_byte d (encodes ds)
encodes_order (c ∷ cs) [] = turned (encode c ++ encodes cs) [] (some_byte c (encodes cs))
encodes_order (c ∷ cs) (d ∷ ds) = ⊎_elim below (λ le. ⊎_elim above (λ h. equal (omega arith) (encodes_order cs ds)) (cases_lt d c)) (cases_lt c d)
  where
    below : c < d → slice_cmp nat_cmp (encode c ++ encodes cs) (encode d ++ encodes ds) ≡ slice_cmp nat_cmp (c ∷ cs) (d ∷ ds)
    below h = less_encoded c d (encodes cs) (encodes ds) h ∙ sym (less c d cs ds h)

    above : d < c → slice_cmp nat_cmp (encode c ++ encodes cs) (encode d ++ encodes ds) ≡ slice_cmp nat_cmp (c ∷ cs) (d ∷ ds)
    above h = turned (encode c ++ encodes cs) (encode d ++ encodes ds) (less_encoded d c (encodes ds) (encodes cs) h) ∙ sym (turned (c ∷ cs) (d ∷ ds) (less d c ds cs h))

    equal : c ≡ d → slice_cmp nat_cmp (encodes cs) (encodes ds) ≡ slice_cmp nat_cmp cs ds → slice_cmp nat_cmp (encode c ++ encodes cs) (encode d ++ encodes ds) ≡ slice_cmp nat_cmp (c ∷ cs) (d ∷ ds)
    equal e h =
        ap (λ n. slice_cmp nat_cmp (encode n ++ encodes cs) (encode d ++ encodes ds)) e
        ∙ (same_front (encode d) (encodes cs) (encodes ds) ∙ (h ∙ sym (ap (λ o. ordering_then o (slice_cmp nat_cmp cs ds)) (sym (nat_cmp_is c d Equal e)))))

-- the order of texts by their bytes and by their characters
pub chars_order : (bs es : List ℕ) → IsUtf8 bs → IsUtf8 es → slice_cmp nat_cmp bs es ≡ slice_cmp nat_cmp (chars bs) (chars es)
chars_order bs es u v = ap₂ (slice_cmp nat_cmp) (sym (encodes-chars bs u)) (sym (encodes-chars es v)) ∙ encodes_order (chars bs) (chars es)
