-- The first faulty token is one.
use Rattle.std.proofs.Common.{◌≡◌, ◌∙◌, ℕ, zero, suc, ◌-◌, ◌≤◌, ◌<◌, List, [], ◌∷◌, ◌++◌, take, drop, slice_get, true, false, refl, sym, ap, subst, arith, append_assoc}
use Rattle.std.proofs.lemmas.List.{take-append-drop}
use Rattle.au_model.specs.Syntax.Tokens.{Token, token, End, front, tokens_of}
use Rattle.au_model.specs.Syntax.Primaries.{Setting}
use Rattle.au_model.specs.Syntax.Spelling.{Operand}
use Rattle.au_model.specs.Syntax.Layout.{GapThen}
use Rattle.au_model.specs.Syntax.Words.{Lexed, FoundFault, next_word}
use Rattle.au_model.specs.Syntax.TermTexts.{is_last}
use Rattle.au_model.specs.declared.types.FaultKind.{FaultKind}
use Rattle.term_reader.proofs.LongCompoundLemmas.{slice, same-slice}
use Rattle.au_model.specs.Syntax.TextFaults.{BeginsTerm, FaultAt, IsOneTooMany, is_wide, token_start, Fault, unexpected, wide, too_many, faulty, ended}

begins-front : (s : Setting) (ts us : List Token) → BeginsTerm s (ts ++ us) → BeginsTerm s ts
begins-front s ts us b = record { more = us ++ b.more; apart = b.apart; tree = b.tree; spelled = subst (λ vs. Operand s 1200 vs (token b.apart End ∷ []) b.tree) (append_assoc ts us b.more) b.spelled }

take-nil : (k : ℕ) → [] ≡ take {A = Token} k []
take-nil zero = refl
take-nil (suc k) = refl

take-less : (ts : List Token) (m n : ℕ) → m ≤ n → take n ts ≡ take m ts ++ take (n - m) (drop m ts)
take-less ts zero n le = let z : n - 0 ≡ n = omega arith in ap (λ k. take k ts) (sym z)
take-less [] (suc m) zero le = take-nil (zero - suc m)
take-less [] (suc m) (suc n) le = take-nil (suc n - suc m)
take-less (t ∷ ts) (suc m) zero le = absurd (omega arith)
take-less (t ∷ ts) (suc m) (suc n) le =
    let z : suc n - suc m ≡ n - m = omega arith in
    ap (λ us. t ∷ us) (take-less ts m n (omega arith) ∙ ap (λ k. take m ts ++ take k (drop m ts)) (sym z))

-- tokens begin a term as long as more of them do
pub begins-less : (s : Setting) (ts : List Token) (m n : ℕ) → m ≤ n → BeginsTerm s (take n ts) → BeginsTerm s (take m ts)
begins-less s ts m n le b = begins-front s (take m ts) (take (n - m) (drop m ts)) (subst (BeginsTerm s) (take-less ts m n le) b)

not-less : (s : Setting) (ts : List Token) (m n : ℕ) → FaultAt s ts m → FaultAt s ts n → m < n → ⊥
not-less s ts m n f g lt = f.ends (begins-less s ts (suc m) n (omega arith) g.begins)

pub one-fault : (s : Setting) (ts : List Token) (m n : ℕ) → FaultAt s ts m → FaultAt s ts n → m ≡ n
one-fault s ts m n f g =
    let a : m < n → ⊥ = λ lt. not-less s ts m n f g lt in
    let b : n < m → ⊥ = λ gt. not-less s ts n m g f gt in
    omega (arith, a, b)

-- ---- the fault of a text

not-all : (s : Setting) (ts : List Token) (n : ℕ) {A : Type 0} → FaultAt s ts n → BeginsTerm s ts → A
not-all s ts n f b =
    absurd (f.ends (begins-front s (take (suc n) ts) (drop (suc n) ts) (subst (BeginsTerm s) (sym (take-append-drop (suc n) ts)) b)))

same-start : (cs us vs : List ℕ) (m n : ℕ) → m ≡ n → token_start m cs ≡ GapThen us → token_start n cs ≡ GapThen vs → us ≡ vs
same-start cs us vs m n e f g =
    let h : GapThen us ≡ GapThen vs = sym f ∙ (ap (λ k. token_start k cs) e ∙ g) in cc

crossed : (ts : List Token) (m n : ℕ) {A : Type 0} → m ≡ n → is_wide (slice_get ts m) ≡ false → is_wide (slice_get ts n) ≡ true → A
crossed ts m n e f g = let h : false ≡ true = sym f ∙ (ap (λ k. is_wide (slice_get ts k)) e ∙ g) in let z : ⊥ = cc in absurd z

same-found : (lx : Lexed) (j k : FaultKind) (us vs : List ℕ) → lx ≡ FoundFault j us → lx ≡ FoundFault k vs → (j ≡ k) × (us ≡ vs)
same-found lx j k us vs e f = (cc, cc)

not-over : (lx : Lexed) (k : FaultKind) (us : List ℕ) {A : Type 0} → lx ≡ FoundFault k us → is_last lx ≡ true → A
not-over lx k us e f = let h : false ≡ true = sym (ap is_last e) ∙ f in let z : ⊥ = cc in absurd z

-- two compounds with too many arguments start at one token
same-many : (s : Setting) (ts : List Token) (m n j k : ℕ) (us vs : List ℕ) → FaultAt s ts m → FaultAt s ts n → IsOneTooMany s ts m j us → IsOneTooMany s ts n k vs → j ≡ k
same-many s ts m n j k us vs f g a b =
    let c : IsOneTooMany s ts m k vs = subst (λ i. IsOneTooMany s ts i k vs) (one-fault s ts n m g f) b in
    same-slice s ts m j k (slice s ts m j us f.within a) (slice s ts m k vs f.within c)

not-many : (s : Setting) (ts : List Token) (m n j : ℕ) (us : List ℕ) {A : Type 0} → FaultAt s ts m → FaultAt s ts n → ((i : ℕ) (vs : List ℕ) → IsOneTooMany s ts m i vs → ⊥) → IsOneTooMany s ts n j us → A
not-many s ts m n j us f g w h = absurd (w j us (subst (λ i. IsOneTooMany s ts i j us) (one-fault s ts n m g f) h))

comma-wide : (s : Setting) (ts : List Token) (m n j : ℕ) (us : List ℕ) {A : Type 0} → FaultAt s ts m → FaultAt s ts n → is_wide (slice_get ts m) ≡ true → IsOneTooMany s ts n j us → A
comma-wide s ts m n j us f g w h = crossed ts n m (one-fault s ts n m g f) (ap is_wide (slice s ts n j us g.within h).comma) w

pub same-fault : (s : Setting) (cs us vs : List ℕ) (j k : FaultKind) → Fault s cs j us → Fault s cs k vs → (j ≡ k) × (us ≡ vs)
same-fault s cs us vs j k (unexpected {n = m} f a w e) (unexpected {n = n} g b v h) = (refl, same-start cs us vs m n (one-fault s (tokens_of cs) m n f g) e h)
same-fault s cs us vs j k (unexpected {n = m} f a w e) (wide {n = n} g b h) = crossed (tokens_of cs) m n (one-fault s (tokens_of cs) m n f g) a b
same-fault s cs us vs j k (unexpected {n = m} f a w e) (too_many {n = n} {m = i} {name = name} g h d) = not-many s (tokens_of cs) m n i name f g w h
same-fault s cs us vs j k (unexpected {n = m} f a w e) (faulty b h) = not-all s (tokens_of cs) m f b
same-fault s cs us vs j k (unexpected {n = m} f a w e) (ended b h) = not-all s (tokens_of cs) m f b
same-fault s cs us vs j k (wide {n = m} f a e) (unexpected {n = n} g b v h) = crossed (tokens_of cs) n m (one-fault s (tokens_of cs) n m g f) b a
same-fault s cs us vs j k (wide {n = m} f a e) (wide {n = n} g b h) = (refl, same-start cs us vs m n (one-fault s (tokens_of cs) m n f g) e h)
same-fault s cs us vs j k (wide {n = m} f a e) (too_many {n = n} {m = i} {name = name} g h d) = comma-wide s (tokens_of cs) m n i name f g a h
same-fault s cs us vs j k (wide {n = m} f a e) (faulty b h) = not-all s (tokens_of cs) m f b
same-fault s cs us vs j k (wide {n = m} f a e) (ended b h) = not-all s (tokens_of cs) m f b
same-fault s cs us vs j k (too_many {n = m} {m = i} {name = name} f a d) (unexpected {n = n} g b v h) = not-many s (tokens_of cs) n m i name g f v a
same-fault s cs us vs j k (too_many {n = m} {m = i} {name = name} f a d) (wide {n = n} g b h) = comma-wide s (tokens_of cs) n m i name g f b a
same-fault s cs us vs j k (too_many {n = m} {m = h} {name = p} f a d) (too_many {n = n} {m = i} {name = q} g b e) = (refl, same-start cs us vs h i (same-many s (tokens_of cs) m n h i p q f g a b) d e)
same-fault s cs us vs j k (too_many {n = m} f a d) (faulty b h) = not-all s (tokens_of cs) m f b
same-fault s cs us vs j k (too_many {n = m} f a d) (ended b h) = not-all s (tokens_of cs) m f b
same-fault s cs us vs j k (faulty b e) (unexpected {n = n} g a v h) = not-all s (tokens_of cs) n g b
same-fault s cs us vs j k (faulty b e) (wide {n = n} g a h) = not-all s (tokens_of cs) n g b
same-fault s cs us vs j k (faulty b e) (too_many {n = n} g a d) = not-all s (tokens_of cs) n g b
same-fault s cs us vs j k (faulty b e) (faulty c h) = same-found (next_word (front cs).rest) j k us vs e h
same-fault s cs us vs j k (faulty b e) (ended c h) = not-over (next_word (front cs).rest) j us e h
same-fault s cs us vs j k (ended b e) (unexpected {n = n} g a v h) = not-all s (tokens_of cs) n g b
same-fault s cs us vs j k (ended b e) (wide {n = n} g a h) = not-all s (tokens_of cs) n g b
same-fault s cs us vs j k (ended b e) (too_many {n = n} g a d) = not-all s (tokens_of cs) n g b
same-fault s cs us vs j k (ended b e) (faulty c h) = not-over (next_word (front cs).rest) k vs h e
same-fault s cs us vs j k (ended b e) (ended c h) = (refl, refl)
