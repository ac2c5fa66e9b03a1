-- What arguments ask of the parts of an atom, and the parts that fit.
use Rattle.std.proofs.Common.{◌≡◌, ◌∙◌, ◌⊎◌, inl, inr, ℕ, zero, suc, ◌+◌, ◌<◌, ◌≤◌, Bool, true, false, cond, List, [], ◌∷◌, ◌++◌, append_assoc, append-nil, map, filter, flat_map, refl, sym, ap, arith}
use Rattle.std.specs.Prelude.{Result, Ok, Err, OnOk}
use Rattle.std.specs.List.{range_with_len}
use Rattle.std.proofs.Math.Dec.{leb}
use Rattle.std.proofs.lemmas.Bool.Decides.{leb_tells}
use Rattle.std.proofs.lemmas.List.{map-append}
use Rattle.std.proofs.lemmas.List.FromFn.{filter_of_map_range_with_len_more, map-range_with_len_more}
use Rattle.std.proofs.lemmas.List.Elements.{filter-append}
use Rattle.std.proofs.lemmas.Grind.{flat_map-append}
use Rattle.std_builtins.proofs.TextLemmas.{map_itself}
use Rattle.std.specs.Str.{chars}
use Rattle.au_term.specs.Term.{Term, VarTerm, IntTerm, AtomTerm, Compound}
use Rattle.au_term.specs.PrefixOrder.{top_of}
use Rattle.au_term.specs.declared.cell.Cell.TheVariants.{Atom as AtomCell, Functor}
use Rattle.au_model.specs.Terms.Forms.{name_of}

pub nameless : (t : Term) → ((a : List ℕ) → top_of t ≡ AtomCell a → ⊥) → ((a : List ℕ) (n : ℕ) → top_of t ≡ Functor a n → ⊥) → chars [] ≡ name_of t
unfolding chars
nameless (VarTerm n) h k = refl
nameless (IntTerm z) h k = refl
nameless (AtomTerm a) h k = absurd (h a refl)
nameless (Compound f ts) h k = absurd (k f _ refl)

not_passed : (q : Bool) → (q ≡ true → ⊥) → q ≡ false
not_passed true h = absurd (h refl)
not_passed false h = refl

pub on_ok : {T E P Q : Type 0} (r : Result T E) → (P → Q) → OnOk r P → OnOk r Q
on_ok (Ok x) f h = f h
on_ok (Err e) f h = tt

-- ---- the values of the numbers that pass a test, from 0 on

module _ {X Y : Type 0} (value : X → Y) (p : X → Bool) (f : ℕ → X) where
  -- one number more
  pub one_more : (n m : ℕ) (before done now : List Y) → m ≡ n + 1 → done ≡ before ++ map value (filter p (map f (range_with_len 0 n))) → now ≡ done ++ map value (filter p (f n ∷ [])) → now ≡ before ++ map value (filter p (map f (range_with_len 0 m)))
  one_more n m before done now is h e =
      let first = map value (filter p (map f (range_with_len 0 n))) in
      let last = map value (filter p (f n ∷ [])) in
      let joined : first ++ last ≡ map value (filter p (map f (range_with_len 0 m))) =
      sym (map-append value (filter p (map f (range_with_len 0 n))) (filter p (f n ∷ [])))
      ∙ (ap (map value) (sym (filter_of_map_range_with_len_more p f 0 n n (omega arith))) ∙ ap (λ k. map value (filter p (map f (range_with_len 0 k)))) (sym is)) in
      e ∙ (ap (λ ys. ys ++ last) h ∙ (append_assoc before first last ∙ ap (λ ys. before ++ ys) joined))

  pub none_pass : (a n : ℕ) → ((k : ℕ) → a ≤ k → k < a + n → p (f k) ≡ true → ⊥) → filter p (map f (range_with_len a n)) ≡ []
  none_pass a zero h = refl
  none_pass a (suc n) h = let no : p (f a) ≡ false = not_passed (p (f a)) (h a (omega arith) (omega arith)) in rw no (none_pass (a + 1) n (λ k le lt. h k (omega arith) (omega arith)))

  -- the first or a further one
  one_of : (a n c : ℕ) → a ≤ c → ((k : ℕ) → a ≤ k → k < a + suc n → p (f k) ≡ true → k ≡ c) → (suc a ≤ c → filter p (map f (range_with_len (a + 1) n)) ≡ filter p (f c ∷ [])) → ((leb (suc a) c ≡ true) × (suc a ≤ c)) ⊎ ((leb (suc a) c ≡ false) × (c < suc a))
      → filter p (map f (range_with_len a (suc n))) ≡ filter p (f c ∷ [])
  one_of a n c le h further (inl less) =
      let no : p (f a) ≡ false = not_passed (p (f a)) (λ e. let same = h a (omega arith) (omega arith) e in absurd (omega (arith, less.1, same))) in
      rw no (further less.1)
  one_of a n c le h further (inr more) =
      let same : a ≡ c = omega (arith, le, more.1) in
      let others : filter p (map f (range_with_len (a + 1) n)) ≡ [] = none_pass (a + 1) n (λ k ge lt e. let is = h k (omega arith) (omega arith) e in absurd (omega (arith, ge, is, same))) in
      ap (λ ys. cond (p (f a)) (f a ∷ ys) ys) others ∙ ap (λ k. filter p (f k ∷ [])) same

  pub one_passes : (a n c : ℕ) → a ≤ c → c < a + n → ((k : ℕ) → a ≤ k → k < a + n → p (f k) ≡ true → k ≡ c) → filter p (map f (range_with_len a n)) ≡ filter p (f c ∷ [])
  one_passes a zero c le lt h = absurd (omega arith)
  one_passes a (suc n) c le lt h =
      one_of a n c le h (λ less. one_passes (a + 1) n c (omega arith) (omega arith) (λ k ge lt. h k (omega arith) (omega arith))) (leb_tells (suc a) c)

-- ---- the values of what each number gives

module _ {X Y : Type 0} (value : X → Y) (p : X → Bool) (f : ℕ → List X) where
  pub more_lists : (n m : ℕ) (before done now : List Y) → m ≡ n + 1 → done ≡ before ++ map value (filter p (flat_map f (range_with_len 0 n))) → now ≡ done ++ map value (filter p (f n)) → now ≡ before ++ map value (filter p (flat_map f (range_with_len 0 m)))
  more_lists n m before done now is h e =
      let first = flat_map f (range_with_len 0 n) in
      let kept = map value (filter p first) in
      let last = map value (filter p (f n)) in
      let numbers : range_with_len 0 m ≡ range_with_len 0 n ++ n ∷ [] =
      ap (range_with_len 0) is ∙ (sym (map_itself (range_with_len 0 (n + 1))) ∙ (map-range_with_len_more (λ x. x) 0 n n (omega arith) ∙ ap (λ xs. xs ++ n ∷ []) (map_itself (range_with_len 0 n)))) in
      let lists : flat_map f (range_with_len 0 m) ≡ first ++ f n = ap (flat_map f) numbers ∙ (flat_map-append f (range_with_len 0 n) (n ∷ []) ∙ ap (λ xs. first ++ xs) (append-nil (f n))) in
      let joined : kept ++ last ≡ map value (filter p (flat_map f (range_with_len 0 m))) = sym (map-append value (filter p first) (filter p (f n))) ∙ (ap (map value) (sym (filter-append p first (f n))) ∙ ap (λ xs. map value (filter p xs)) (sym lists)) in
      e ∙ (ap (λ ys. ys ++ last) h ∙ (append_assoc before kept last ∙ ap (λ ys. before ++ ys) joined))
