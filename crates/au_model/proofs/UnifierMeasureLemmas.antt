-- The rules come to an end.
use Rattle.std.proofs.Common.{◌≡◌, ◌⊎◌, inl, inr, ℕ, zero, suc, ◌+◌, ◌*◌, ◌<◌, ◌≤◌, ◌≢◌, Bool, true, false, ◌||◌, cond, [], ◌∷◌, ◌++◌, ◌==◌, refl, sym, ap, ◌∙◌, arith}
use Rattle.std.proofs.lemmas.Bool.{eqb-true, eq-eqb, false≢true}
use Rattle.std.proofs.Math.Nat.{mul-le-mul}
use Rattle.au_term.specs.Term.{Term, VarTerm, IntTerm, AtomTerm, Compound, Terms, end, more}
use Rattle.au_model.specs.Terms.Substitutions.{apply, apply_all, only, occurs, occurs_in}
use Rattle.au_model.specs.Terms.Unifier.{Equations, pairs, replace, size, size_all, equations_size, steps_for}
use Rattle.au_model.proofs.ApplyLemmas.{either, or_left, or_right}
use Rattle.au_model.proofs.UnifierRuleLemmas.{Binds, Opens}

-- whether a variable occurs in the equations
abbrev pub appears : ℕ → Equations → Bool
appears x [] = false
appears x (e ∷ eqs) = (occurs x e.0 || occurs x e.1) || appears x eqs

abbrev pub flag : Bool → ℕ
flag true = 1
flag false = 0

-- how many variables below a number appear
abbrev pub tally : ℕ → Equations → ℕ
tally zero eqs = 0
tally (suc b) eqs = flag (appears b eqs) + tally b eqs

-- steps_for grows
steps-size : (v m n : ℕ) → m ≤ n → steps_for v m ≤ steps_for v n
steps-size zero m n h = omega arith
steps-size (suc v) m n h = omega (arith, steps-size v (m * m) (n * n) (squares m n h))
  where
    squares : (m n : ℕ) → m ≤ n → m * m ≤ n * n
    squares m n h = grind arith

steps-size_lt : (v m n : ℕ) → m < n → steps_for v m < steps_for v n
steps-size_lt zero m n h = omega arith
steps-size_lt (suc v) m n h = omega (arith, steps-size v (m * m) (n * n) (squares m n (omega arith)))
  where
    squares : (m n : ℕ) → m ≤ n → m * m ≤ n * n
    squares m n h = grind arith

pub steps-variables : (v w n : ℕ) → v ≤ w → steps_for v n ≤ steps_for w n
steps-variables zero zero n h = omega arith
steps-variables zero (suc w) n h = omega arith
steps-variables (suc v) zero n h = absurd (omega arith)
steps-variables (suc v) (suc w) n h = omega (arith, steps-variables v w (n * n) (omega arith))

pub fewer_variables : (v w m n : ℕ) → v < w → m ≤ n * n → steps_for v m < steps_for w n
fewer_variables v zero m n h k = absurd (omega arith)
fewer_variables v (suc w) m n h k = omega (arith, steps-variables v w m (omega arith), steps-size w m (n * n) k)

pub smaller : (v w m n : ℕ) → v ≤ w → m < n → steps_for v m < steps_for w n
smaller v w m n h k = omega (arith, steps-size_lt v m n k, steps-variables v w n h)

-- the tally falls
Among : Equations → Equations → Type 0
Among new old = (x : ℕ) → appears x new ≡ true → appears x old ≡ true

pub tally-le : (b : ℕ) (new old : Equations) → ((x : ℕ) → appears x new ≡ true → appears x old ≡ true) → tally b new ≤ tally b old
tally-le zero new old h = omega arith
tally-le (suc b) new old h = omega (arith, tally-le b new old h, one (appears b new) (appears b old) (h b))
  where
    one : (s t : Bool) → (s ≡ true → t ≡ true) → flag s ≤ flag t
    one true true k = omega arith
    one true false k = let e = k refl in cc
    one false t k = omega arith

pub tally-lt : (b x : ℕ) (new old : Equations) → ((y : ℕ) → appears y new ≡ true → appears y old ≡ true) → x < b → appears x old ≡ true → appears x new ≡ false → tally b new < tally b old
tally-lt zero x new old h lt o n = absurd (omega arith)
tally-lt (suc b) x new old h lt o n = go (λ k. tally-lt b x new old h k o n) (x == b) refl
  where
    step : (s t : Bool) → (s ≡ true → t ≡ true) → flag s ≤ flag t
    step true true k = omega arith
    step true false k = let e = k refl in cc
    step false t k = omega arith

    go : (x < b → tally b new < tally b old) → (t : Bool) → (x == b) ≡ t → tally (suc b) new < tally (suc b) old
    go further true e =
        let same = eqb-true x b e in
        let fresh : flag (appears b new) ≡ 0 = ap flag (ap (λ y. appears y new) (sym same) ∙ n) in
        let had : flag (appears b old) ≡ 1 = ap flag (ap (λ y. appears y old) (sym same) ∙ o) in
        omega (arith, tally-le b new old h)
    go further false e =
        let other : x ≢ b = λ q. false≢true (sym e ∙ eq-eqb x b q) in
        omega (arith, further (omega arith), step (appears b new) (appears b old) (h b))

-- sizes
pub size_pos : (t : Term) → 0 < size t
size_pos (VarTerm n) = omega arith
size_pos (IntTerm z) = omega arith
size_pos (AtomTerm a) = omega arith
size_pos (Compound f ts) = omega arith

mutual
  pub size-only : (x : ℕ) (u t : Term) → size (apply (only x u) t) ≤ size t * size u
  size-only x u (VarTerm n) = go (x == n)
    where
      go : (b : Bool) → size (cond b u (VarTerm n)) ≤ 1 * size u
      go true = omega arith
      go false = omega (arith, size_pos u)
  size-only x u (IntTerm z) = omega (arith, size_pos u)
  size-only x u (AtomTerm a) = omega (arith, size_pos u)
  size-only x u (Compound f ts) = omega (arith, size_pos u, size_all-only x u ts)

  pub size_all-only : (x : ℕ) (u : Term) (ts : Terms) → size_all (apply_all (only x u) ts) ≤ size_all ts * size u
  size_all-only x u end = omega arith
  size_all-only x u (more t ts) = omega (arith, size-only x u t, size_all-only x u ts)

equations_size-replace : (x : ℕ) (u : Term) (eqs : Equations) → equations_size (replace x u eqs) ≤ equations_size eqs * size u
equations_size-replace x u [] = omega arith
equations_size-replace x u (e ∷ eqs) = omega (arith, size-only x u e.0, size-only x u e.1, equations_size-replace x u eqs)

equations_size-append : (es eqs : Equations) → equations_size (es ++ eqs) ≡ equations_size es + equations_size eqs
equations_size-append [] eqs = omega arith
equations_size-append (e ∷ es) eqs = omega (arith, equations_size-append es eqs)

equations_size-pairs : (ts us : Terms) → equations_size (pairs ts us) ≤ size_all ts + size_all us
equations_size-pairs end us = omega arith
equations_size-pairs (more t ts) end = omega arith
equations_size-pairs (more t ts) (more u us) = omega (arith, equations_size-pairs ts us)

pick : (a b c : Bool) → ((a ≡ true) ⊎ (c ≡ true)) ⊎ ((b ≡ true) ⊎ (c ≡ true)) → ((a || b) ≡ true) ⊎ (c ≡ true)
pick a b c (inl (inl h)) = inl (or_left a b h)
pick a b c (inl (inr h)) = inr h
pick a b c (inr (inl h)) = inl (or_right a b h)
pick a b c (inr (inr h)) = inr h

-- where variables come from
mutual
  occurs-only : (y x : ℕ) (u t : Term) → occurs y (apply (only x u) t) ≡ true → (occurs y t ≡ true) ⊎ (occurs y u ≡ true)
  occurs-only y x u (VarTerm n) h = go (x == n) h
    where
      go : (b : Bool) → occurs y (cond b u (VarTerm n)) ≡ true → ((y == n) ≡ true) ⊎ (occurs y u ≡ true)
      go true h = inr h
      go false h = inl h
  occurs-only y x u (IntTerm z) h = inl h
  occurs-only y x u (AtomTerm a) h = inl h
  occurs-only y x u (Compound f ts) h = occurs_in-only y x u ts h

  occurs_in-only : (y x : ℕ) (u : Term) (ts : Terms) → occurs_in y (apply_all (only x u) ts) ≡ true → (occurs_in y ts ≡ true) ⊎ (occurs y u ≡ true)
  occurs_in-only y x u end h = inl h
  occurs_in-only y x u (more t ts) h =
      pick (occurs y t) (occurs_in y ts) (occurs y u) (elim (either (occurs y (apply (only x u) t)) (occurs_in y (apply_all (only x u) ts)) h) [ inl k ↦ inl (occurs-only y x u t k) | inr k ↦ inr (occurs_in-only y x u ts k) ])

-- a replaced variable is gone
mutual
  gone : (x : ℕ) (u t : Term) → occurs x u ≡ false → occurs x (apply (only x u) t) ≡ false
  gone x u (VarTerm n) h = go (x == n) refl
    where
      go : (b : Bool) → (x == n) ≡ b → occurs x (cond b u (VarTerm n)) ≡ false
      go true e = h
      go false e = e
  gone x u (IntTerm z) h = refl
  gone x u (AtomTerm a) h = refl
  gone x u (Compound f ts) h = gone_in x u ts h

  gone_in : (x : ℕ) (u : Term) (ts : Terms) → occurs x u ≡ false → occurs_in x (apply_all (only x u) ts) ≡ false
  gone_in x u end h = refl
  gone_in x u (more t ts) h = rw (gone x u t h, gone_in x u ts h)

gone_from : (x : ℕ) (u : Term) (eqs : Equations) → occurs x u ≡ false → appears x (replace x u eqs) ≡ false
gone_from x u [] h = refl
gone_from x u (e ∷ eqs) h = rw (gone x u e.0 h, gone x u e.1 h, gone_from x u eqs h)

appears-replace : (y x : ℕ) (u : Term) (eqs : Equations) → appears y (replace x u eqs) ≡ true → (appears y eqs ≡ true) ⊎ (occurs y u ≡ true)
appears-replace y x u [] h = inl h
appears-replace y x u (e ∷ eqs) h =
    pick (occurs y e.0 || occurs y e.1) (appears y eqs) (occurs y u)
    (elim (either (occurs y (apply (only x u) e.0) || occurs y (apply (only x u) e.1)) (appears y (replace x u eqs)) h) [
      | inl k ↦ inl (pick (occurs y e.0) (occurs y e.1) (occurs y u) (elim (either (occurs y (apply (only x u) e.0)) (occurs y (apply (only x u) e.1)) k) [ inl l ↦ inl (occurs-only y x u e.0 l) | inr l ↦ inr (occurs-only y x u e.1 l) ]))
      | inr k ↦ inr (appears-replace y x u eqs k)
    ])

appears-append : (y : ℕ) (es eqs : Equations) → appears y (es ++ eqs) ≡ true → (appears y es ≡ true) ⊎ (appears y eqs ≡ true)
appears-append y [] eqs h = inr h
appears-append y (e ∷ es) eqs h =
    elim (either (occurs y e.0 || occurs y e.1) (appears y (es ++ eqs)) h) [
      | inl k ↦ inl (or_left (occurs y e.0 || occurs y e.1) (appears y es) k)
      | inr k ↦ elim (appears-append y es eqs k) [ inl l ↦ inl (or_right (occurs y e.0 || occurs y e.1) (appears y es) l) | inr l ↦ inr l ]
    ]

appears-pairs : (y : ℕ) (ts us : Terms) → appears y (pairs ts us) ≡ true → (occurs_in y ts ≡ true) ⊎ (occurs_in y us ≡ true)
appears-pairs y end us h = cc
appears-pairs y (more t ts) end h = cc
appears-pairs y (more t ts) (more u us) h =
    elim (either (occurs y t || occurs y u) (appears y (pairs ts us)) h) [
      | inl k ↦ elim (either (occurs y t) (occurs y u) k) [ inl l ↦ inl (or_left (occurs y t) (occurs_in y ts) l) | inr l ↦ inr (or_left (occurs y u) (occurs_in y us) l) ]
      | inr k ↦ elim (appears-pairs y ts us k) [ inl l ↦ inl (or_right (occurs y t) (occurs_in y ts) l) | inr l ↦ inr (or_right (occurs y u) (occurs_in y us) l) ]
    ]

-- the measure: how many rules the equations take at most, where all their variables are below a number
abbrev pub work : ℕ → Equations → ℕ
work b eqs = steps_for (tally b eqs) (equations_size eqs)

abbrev pub AllBelow : ℕ → Equations → Type 0
AllBelow b eqs = (x : ℕ) → appears x eqs ≡ true → x < b

-- what is left after a rule is less work
pub record Less (b : ℕ) (new old : Equations) : Type 0 where
  pub below : AllBelow b new
  pub less : work b new < work b old

pub less_dropped : (b : ℕ) (l r : Term) (eqs : Equations) → AllBelow b ((l, r) ∷ eqs) → Less b eqs ((l, r) ∷ eqs)
less_dropped b l r eqs h =
    let among : (x : ℕ) → appears x eqs ≡ true → appears x ((l, r) ∷ eqs) ≡ true = λ x k. or_right (occurs x l || occurs x r) (appears x eqs) k in
    record {
      below = λ x k. h x (among x k);
      less = smaller (tally b eqs) (tally b ((l, r) ∷ eqs)) (equations_size eqs) (equations_size ((l, r) ∷ eqs)) (tally-le b eqs ((l, r) ∷ eqs) among) (omega (arith, size_pos l));
    }

-- x is replaced by t, where both are in the equation
replaced : (b : ℕ) (l r : Term) (eqs : Equations) (x : ℕ) (t : Term) → AllBelow b ((l, r) ∷ eqs) → occurs x t ≡ false → (occurs x l || occurs x r) ≡ true → ((y : ℕ) → occurs y t ≡ true → (occurs y l || occurs y r) ≡ true) → size t ≤ size l + size r → Less b (replace x t eqs) ((l, r) ∷ eqs)
replaced b l r eqs x t h absent there from small =
    let among : (y : ℕ) → appears y (replace x t eqs) ≡ true → appears y ((l, r) ∷ eqs) ≡ true = λ y k. elim (appears-replace y x t eqs k) [ inl m ↦ or_right (occurs y l || occurs y r) (appears y eqs) m | inr m ↦ or_left (occurs y l || occurs y r) (appears y eqs) (from y m) ] in
    let had : appears x ((l, r) ∷ eqs) ≡ true = or_left (occurs x l || occurs x r) (appears x eqs) there in
    let size_left : equations_size eqs * size t ≤ equations_size ((l, r) ∷ eqs) * equations_size ((l, r) ∷ eqs) = mul-le-mul (omega arith) (omega arith) in
    record {
      below = λ y k. h y (among y k);
      less = fewer_variables (tally b (replace x t eqs)) (tally b ((l, r) ∷ eqs)) (equations_size (replace x t eqs)) (equations_size ((l, r) ∷ eqs)) (tally-lt b x (replace x t eqs) ((l, r) ∷ eqs) among (h x had) had (gone_from x t eqs absent)) (omega (arith, equations_size-replace x t eqs));
    }

pub less_bound : (b : ℕ) (l r : Term) (eqs : Equations) (x : ℕ) (t : Term) → AllBelow b ((l, r) ∷ eqs) → Binds l r x t → Less b (replace x t eqs) ((l, r) ∷ eqs)
less_bound b l r eqs x t h k =
    elim k.sides [
      | inl p ↦ replaced b l r eqs x t h k.absent (or_left (occurs x l) (occurs x r) (ap (occurs x) p.0 ∙ eq-eqb x x refl)) (λ y m. or_right (occurs y l) (occurs y r) (ap (occurs y) p.1 ∙ m)) (omega (arith, ap size p.1))
      | inr p ↦ replaced b l r eqs x t h k.absent (or_right (occurs x l) (occurs x r) (ap (occurs x) p.1 ∙ eq-eqb x x refl)) (λ y m. or_left (occurs y l) (occurs y r) (ap (occurs y) p.0 ∙ m)) (omega (arith, ap size p.0))
    ]

pub less_opened : (b : ℕ) (l r : Term) (eqs es : Equations) → AllBelow b ((l, r) ∷ eqs) → Opens l r es → Less b (es ++ eqs) ((l, r) ∷ eqs)
less_opened b l r eqs es h k =
    let from : (y : ℕ) → appears y es ≡ true → (occurs y l || occurs y r) ≡ true = λ y m. elim (appears-pairs y k.left k.right (ap (appears y) (sym k.es_are) ∙ m)) [ inl n ↦ or_left (occurs y l) (occurs y r) (ap (occurs y) k.a_is ∙ n) | inr n ↦ or_right (occurs y l) (occurs y r) (ap (occurs y) k.b_is ∙ n) ] in
    let among : (y : ℕ) → appears y (es ++ eqs) ≡ true → appears y ((l, r) ∷ eqs) ≡ true = λ y m. elim (appears-append y es eqs m) [ inl n ↦ or_left (occurs y l || occurs y r) (appears y eqs) (from y n) | inr n ↦ or_right (occurs y l || occurs y r) (appears y eqs) n ] in
    record {
      below = λ y m. h y (among y m);
      less = smaller (tally b (es ++ eqs)) (tally b ((l, r) ∷ eqs)) (equations_size (es ++ eqs)) (equations_size ((l, r) ∷ eqs)) (tally-le b (es ++ eqs) ((l, r) ∷ eqs) among) (omega (arith, equations_size-append es eqs, ap equations_size k.es_are, equations_size-pairs k.left k.right, ap size k.a_is, ap size k.b_is));
    }
