-- The inferences that are in front of a list, and lists that follow one another.
use Rattle.std.proofs.Common.{◌≡◌, ℕ, ◌+◌, ◌-◌, ◌≤◌, ◌<◌, false, List, [], ◌∷◌, ◌++◌, refl, ap, ◌∙◌, subst, arith}
use Rattle.run_model.specs.Programs.Clauses.{Clause}
use Rattle.tree_model.specs.Elements.{Element, Credit, Plain, EndOf, Catch, Findall, End}
use Rattle.tree_model.specs.Credits.{greatest}
use Rattle.interleaving.specs.Machine.{free_steps, run, is_finished, seen}
use Rattle.interleaving.specs.Scopes.{Shared, scoped}
use Rattle.interleaving.specs.Quiet.{IsQuiet, inferences}
use Rattle.interleaving.specs.Laws.{MayBecome}
use Rattle.interleaving.specs.Follows.{lead, Follows}
use Rattle.interleaving.proofs.PassingLemmas.{credits_pass}

-- after what is quiet the count goes on
pub lead-quiet : (xs zs : List Element) → IsQuiet xs → lead (xs ++ zs) ≡ inferences xs + lead zs
lead-quiet [] zs q = omega arith
lead-quiet (Credit k rs ∷ xs) zs q = let h = lead-quiet xs zs q in let all : k + lead (xs ++ zs)
    ≡ (k + inferences xs) + lead zs = omega (arith, h) in all
lead-quiet (EndOf s ∷ xs) zs q = lead-quiet xs zs q
lead-quiet (Catch s u c r p f ∷ xs) zs q = lead-quiet xs zs q
lead-quiet (Plain p f ∷ xs) zs q = absurd q
lead-quiet (Findall s u results list p f ∷ xs) zs q = absurd q
lead-quiet (End p b ∷ xs) zs q = absurd q

-- what is in front may hide a part: what it lets through counts no less
pub lead-grows : (pre xs ys : List Element) → lead xs ≤ lead ys → lead (pre ++ xs) ≤ lead (pre ++ ys)
lead-grows [] xs ys h = h
lead-grows (Credit k rs ∷ pre) xs ys h = let i = lead-grows pre xs ys h in omega (arith, i)
lead-grows (EndOf s ∷ pre) xs ys h = lead-grows pre xs ys h
lead-grows (Catch s u c r p f ∷ pre) xs ys h = lead-grows pre xs ys h
lead-grows (Plain p f ∷ pre) xs ys h = omega arith
lead-grows (Findall s u results list p f ∷ pre) xs ys h = omega arith
lead-grows (End p b ∷ pre) xs ys h = omega arith

-- the same up to a bound
pub lead-bounded : (m : ℕ) (pre xs ys : List Element) → ((j : ℕ) → j ≤ m → j ≤ lead xs → j ≤ lead ys) → m ≤ lead (pre ++ xs)
    → m ≤ lead (pre ++ ys)
lead-bounded m [] xs ys f l = f m (omega arith) l
lead-bounded m (EndOf s ∷ pre) xs ys f l = lead-bounded m pre xs ys f l
lead-bounded m (Catch s u c r p h ∷ pre) xs ys f l = lead-bounded m pre xs ys f l
lead-bounded m (Plain p h ∷ pre) xs ys f l = l
lead-bounded m (Findall s u results list p h ∷ pre) xs ys f l = l
lead-bounded m (End p b ∷ pre) xs ys f l = l
lead-bounded m (Credit k rs ∷ pre) xs ys f l =
    let less : m - k ≤ lead (pre ++ xs) = omega (arith, l) in
    let i : m - k ≤ lead (pre ++ ys) = lead-bounded (m - k) pre xs ys (λ j a b. f j (omega (arith, a)) b) less in
    omega (arith, i)

-- a list, parted where the first entry is that is to be taken
pub record IsParted (xs : List Element) : Type 0 where
  pub front : List Element
  pub rest : List Element
  pub joined : xs ≡ front ++ rest
  pub quiet : IsQuiet front
  pub counted : lead xs ≡ inferences front

pub parted : (xs : List Element) → IsParted xs
parted [] = record { front = []; rest = []; joined = refl; quiet = tt; counted = refl }
parted (Credit k rs ∷ xs) = let h = parted xs in record {
  front = Credit k rs ∷ h.front;
  rest = h.rest;
  joined = ap (λ l. Credit k rs ∷ l) h.joined;
  quiet = h.quiet;
  counted = ap
      (λ n. k + n) h.counted;
}
parted (EndOf s ∷ xs) = let h = parted xs in record
    { front = EndOf s ∷ h.front; rest = h.rest; joined = ap (λ l. EndOf s ∷ l) h.joined; quiet = h.quiet; counted = h.counted }
parted (Catch s u c r p f ∷ xs) = let h = parted xs in record {
  front = Catch s u c r p f ∷ h.front;
  rest = h.rest;
  joined = ap (λ l. Catch s u c r p f ∷ l) h.joined;
  quiet = h.quiet;
  counted =
      h.counted;
}
parted (Plain p f ∷ xs) = record { front = []; rest = Plain p f ∷ xs; joined = refl; quiet = tt; counted = refl }
parted (Findall s u results list p f ∷ xs) = record
    { front = []; rest = Findall s u results list p f ∷ xs; joined = refl; quiet = tt; counted = refl }
parted (End p b ∷ xs) = record { front = []; rest = End p b ∷ xs; joined = refl; quiet = tt; counted = refl }

-- as far as these inferences the world stays as it is
pub world_stays : (clauses : List Clause) (xs : List Element) (n : ℕ) (w : Shared) → n ≤ lead xs
    → (run (scoped clauses) n w (free_steps (scoped clauses) [] xs)).0 ≡ w
world_stays clauses xs n w l =
    let h = parted xs in
    let far : n ≤ inferences h.front = subst (λ k. n ≤ k) h.counted l in
    ap (λ ys. (run (scoped clauses) n w (free_steps (scoped clauses) [] ys)).0) h.joined
    ∙ (credits_pass clauses h.front h.rest w h.quiet).world n far

-- and before the last of them the run is not over
pub goes_on : (clauses : List Clause) (xs : List Element) (n : ℕ) (w : Shared) → n < lead xs
    → is_finished (run (scoped clauses) n w (free_steps (scoped clauses) [] xs)).1 ≡ false
goes_on clauses xs n w l =
    let h = parted xs in
    let far : n < inferences h.front = subst (λ k. n < k) h.counted l in
    ap (λ ys. is_finished (run (scoped clauses) n w (free_steps (scoped clauses) [] ys)).1) h.joined
    ∙ (credits_pass clauses h.front h.rest w h.quiet).going n far

-- lists that follow one another
pub follows_itself : (clauses : List Clause) (xs : List Element) → Follows clauses xs xs
follows_itself clauses xs = record { alike = λ n w l. refl; lead = λ m b l. l }

pub follows_then : (clauses : List Clause) (xs ys zs : List Element) → Follows clauses xs ys → Follows clauses ys zs → Follows clauses xs zs
follows_then clauses xs ys zs h k = record { alike = λ n w l. h.alike n w l ∙ k.alike n w l; lead = λ m b l. k.lead m b (h.lead m b l) }

pub follows_same : (clauses : List Clause) (xs ys : List Element) → xs ≡ ys → Follows clauses xs ys
follows_same clauses xs ys e = subst (Follows clauses xs) e (follows_itself clauses xs)

pub follows_becoming : (clauses : List Clause) (xs ys : List Element) → MayBecome clauses xs ys → lead xs ≤ lead ys → Follows clauses xs ys
follows_becoming clauses xs ys h l = record { alike = λ n w b. h.alike n w; lead = λ m b k. omega (arith, l, k) }

-- from an inference on
pub record FollowsFrom (from : ℕ) (clauses : List Clause) (xs ys : List Element) : Type 0 where
  pub alike : (n : ℕ) (w : Shared) → from ≤ n → n ≤ greatest → seen (run (scoped clauses) n w (free_steps (scoped clauses) [] xs))
      ≡ seen (run (scoped clauses) n w (free_steps (scoped clauses) [] ys))
  pub lead : (m : ℕ) → m ≤ greatest → m ≤ lead xs → m ≤ lead ys

pub follows_from : (from : ℕ) (clauses : List Clause) (xs ys : List Element) → Follows clauses xs ys → FollowsFrom from clauses xs ys
follows_from from clauses xs ys h = record { alike = λ n w a b. h.alike n w b; lead = h.lead }
