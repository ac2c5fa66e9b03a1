-- Brackets that pair.
use Rattle.std.proofs.Common.{◌≡◌, ◌∙◌, ℕ, zero, suc, Bool, List, [], ◌∷◌, ◌++◌, Option, Some, None, refl, sym, ap, subst}
use Rattle.au_model.specs.Syntax.Tokens.{Lexeme, Token, token, Open, Close, OpenList, CloseList, OpenCurly, CloseCurly}
use Rattle.term_reader.specs.Brackets.{open_after, depth_then, depth, Balanced}

abbrev pub OpenRound : Lexeme → Type 0
OpenRound Open = Unit {0}
OpenRound OpenList = Unit {0}
OpenRound OpenCurly = Unit {0}
OpenRound _ = ⊥

abbrev pub Closes : Lexeme → Type 0
Closes Close = Unit {0}
Closes CloseList = Unit {0}
Closes CloseCurly = Unit {0}
Closes _ = ⊥

abbrev pub IsNoBracket : Lexeme → Type 0
IsNoBracket x = (d : ℕ) → open_after x d ≡ Some d

pub balanced-none : Balanced []
balanced-none d = refl

pub balanced-plain : (a : Bool) (x : Lexeme) → IsNoBracket x → Balanced (token a x ∷ [])
balanced-plain a x h d = ap (depth_then (depth [])) (h d)

-- the tokens after go on from where those in front stop
depth-append : (xs ys : List Token) (d : ℕ) → depth (xs ++ ys) d ≡ depth_then (depth ys) (depth xs d)
depth-append [] ys d = refl
depth-append (token a x ∷ xs) ys d = go (λ e. depth-append xs ys e) (open_after x d) where
  go : ((e : ℕ) → depth (xs ++ ys) e ≡ depth_then (depth ys) (depth xs e)) → (o : Option ℕ) → depth_then (depth (xs ++ ys)) o ≡ depth_then (depth ys) (depth_then (depth xs) o)
  go f (Some e) = f e
  go f None = refl

opens-one : (x : Lexeme) → OpenRound x → (d : ℕ) → open_after x d ≡ Some (suc d)
opens-one Open o d = refl
opens-one OpenList o d = refl
opens-one OpenCurly o d = refl
opens-one x o d = absurd o

closes-one : (x : Lexeme) → Closes x → (d : ℕ) → open_after x (suc d) ≡ Some d
closes-one Close c d = refl
closes-one CloseList c d = refl
closes-one CloseCurly c d = refl
closes-one x c d = absurd c

closes-none : (x : Lexeme) → Closes x → open_after x zero ≡ None
closes-none Close c = refl
closes-none CloseList c = refl
closes-none CloseCurly c = refl
closes-none x c = absurd c

pub balanced-append : (xs ys : List Token) → Balanced xs → Balanced ys → Balanced (xs ++ ys)
balanced-append xs ys h i d = depth-append xs ys d ∙ (ap (depth_then (depth ys)) (h d) ∙ i d)

pub balanced-pair : (a b : Bool) (x y : Lexeme) (body : List Token) → OpenRound x → Closes y → Balanced body → Balanced (token a x ∷ body ++ token b y ∷ [])
balanced-pair a b x y body o c h d =
    ap (depth_then (depth (body ++ token b y ∷ []))) (opens-one x o d)
    ∙ (depth-append body (token b y ∷ []) (suc d)
    ∙ (ap (depth_then (depth (token b y ∷ []))) (h (suc d)) ∙ ap (depth_then (depth [])) (closes-one y c d)))

-- an option is not both
none-some : (o : Option ℕ) (d : ℕ) → o ≡ None → o ≡ Some d → ⊥
none-some o d e f = cc

-- none is open where all pair
pub none-push_frame : (xs bs : List Token) (a : Bool) (x : Lexeme) → OpenRound x → Balanced bs → Balanced (xs ++ token a x ∷ bs) → ⊥
none-push_frame xs bs a x o h i = go (depth xs 0) (sym (depth-append xs (token a x ∷ bs) 0) ∙ i 0) where
  go : (q : Option ℕ) → depth_then (depth (token a x ∷ bs)) q ≡ Some 0 → ⊥
  go (Some e) f = let g : Some (suc e) ≡ Some 0 = sym (ap (depth_then (depth bs)) (opens-one x o e) ∙ h (suc e)) ∙ f in cc
  go None f = cc

-- the last bracket that is open is one
pub last-push_frame : (xs ys bs cs : List Token) (a b : Bool) (x y : Lexeme) → OpenRound x → OpenRound y → Balanced bs → Balanced cs → xs ++ token a x ∷ bs ≡ ys ++ token b y ∷ cs → (xs ≡ ys) × (token a x ≡ token b y) × (bs ≡ cs)
last-push_frame [] [] bs cs a b x y o p h i e = (refl, cc, cc)
last-push_frame [] (t ∷ ys) bs cs a b x y o p h i e =
    let f : bs ≡ ys ++ token b y ∷ cs = cc in
    absurd (none-push_frame ys cs b y p i (subst Balanced f h))
last-push_frame (t ∷ xs) [] bs cs a b x y o p h i e =
    let f : cs ≡ xs ++ token a x ∷ bs = cc in
    absurd (none-push_frame xs bs a x o h (subst Balanced f i))
last-push_frame (t ∷ xs) (u ∷ ys) bs cs a b x y o p h i e =
    let f : xs ++ token a x ∷ bs ≡ ys ++ token b y ∷ cs = cc in
    let g : t ≡ u = cc in
    let r = last-push_frame xs ys bs cs a b x y o p h i f in (cc, r.1, r.2)

-- tokens after which no bracket is open, and the first one that closes none of theirs
close-after : (bs cs us vs : List Token) (a b : Bool) (x y : Lexeme) (d : ℕ) → Closes x → Closes y → depth bs d ≡ Some 0 → depth cs d ≡ Some 0 → bs ++ token a x ∷ us ≡ cs ++ token b y ∷ vs → (bs ≡ cs) × (token a x ≡ token b y) × (us ≡ vs)
close-after [] [] us vs a b x y d o p h i e = (refl, cc, cc)
close-after [] (token c z ∷ cs) us vs a b x y d o p h i e =
    let f : d ≡ 0 = cc in
    let g : x ≡ z = cc in
    let k : open_after z d ≡ None = ap (λ w. open_after w d) (sym g) ∙ (ap (open_after x) f ∙ closes-none x o) in
    absurd (none-some (depth_then (depth cs) (open_after z d)) 0 (ap (depth_then (depth cs)) k) i)
close-after (token c z ∷ bs) [] us vs a b x y d o p h i e =
    let f : d ≡ 0 = cc in
    let g : y ≡ z = cc in
    let k : open_after z d ≡ None = ap (λ w. open_after w d) (sym g) ∙ (ap (open_after y) f ∙ closes-none y p) in
    absurd (none-some (depth_then (depth bs) (open_after z d)) 0 (ap (depth_then (depth bs)) k) h)
close-after (token c z ∷ bs) (token k w ∷ cs) us vs a b x y d o p h i e =
    let f : bs ++ token a x ∷ us ≡ cs ++ token b y ∷ vs = cc in
    let g : token c z ≡ token k w = cc in
    let m : w ≡ z = cc in
    let r = go (λ n j l. close-after bs cs us vs a b x y n o p j l f) (open_after z d) h (ap (λ v. depth_then (depth cs) (open_after v d)) (sym m) ∙ i) in (cc, r.1, r.2)
  where
    go : ((n : ℕ) → depth bs n ≡ Some 0 → depth cs n ≡ Some 0 → (bs ≡ cs) × (token a x ≡ token b y) × (us ≡ vs))
        → (q : Option ℕ) → depth_then (depth bs) q ≡ Some 0 → depth_then (depth cs) q ≡ Some 0 → (bs ≡ cs) × (token a x ≡ token b y) × (us ≡ vs)
    go f (Some n) j l = f n j l
    go f None j l = let n : ⊥ = cc in absurd n

-- the first bracket that closes one that was not opened is one
pub first-close : (bs cs us vs : List Token) (a b : Bool) (x y : Lexeme) → Closes x → Closes y → Balanced bs → Balanced cs → bs ++ token a x ∷ us ≡ cs ++ token b y ∷ vs → (bs ≡ cs) × (token a x ≡ token b y) × (us ≡ vs)
first-close bs cs us vs a b x y o p h i e = close-after bs cs us vs a b x y 0 o p (h 0) (i 0) e
