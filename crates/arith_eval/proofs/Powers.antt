-- Powers, shifts, and results that pass 64 bits.
use Rattle.std.proofs.Common.{◌≡◌, ℕ, zero, suc, ◌*◌, ◌/◌, ◌%◌, ◌^◌, ◌<◌, ◌≤◌, ◌==◌, Bool, true, false, cond, min, ℤ, pos, negsuc, neg_ℤ, ◌*ℤ◌, ◌<ℤ◌, ◌≤ℤ◌, leb, unsigned_abs, nat_lt, refl, sym, ap, ◌∙◌, arith}
use Rattle.std.specs.Int.{w64, int_pow, int_shr}
use Rattle.std.specs.Prelude.{FitsSigned}
use Rattle.std.proofs.lemmas.Int.{ints, unsigned_abs-mul}
use Rattle.std.proofs.lemmas.Bool.{eq-eqb}
use Rattle.std.proofs.lemmas.Bool.Decides.{nat_tests}
use Rattle.std.proofs.lemmas.Nat.{mul-le}
use Rattle.std.proofs.Math.Nat.{pow-zero, pow-suc, pow-le-pow_left, div-eq_of_lt}
use Rattle.std.proofs.Math.Pow.{pow_mono}
use Rattle.run_model.specs.Goals.Arithmetic.{in_width, overflow}

pub one-pow : (n : ℕ) → 1 ^ n ≡ 1
one-pow zero = pow-zero 1
one-pow (suc n) = pow-suc 1 n ∙ omega (arith, one-pow n)

pub zero-pow : (n : ℕ) → 0 ^ suc n ≡ 0
zero-pow n = pow-suc 0 n ∙ omega arith

pub even_power : (x : ℤ) (e : ℕ) → unsigned_abs x ≤ 1 → x <ℤ pos 0 → e % 2 ≡ 0 → pos 1 ≡ int_pow x e
even_power (pos a) e h lt even = absurd (omega (arith, ints))
even_power (negsuc zero) e h lt even = let t : (e % 2 == 0) ≡ true = eq-eqb (e % 2) 0 even in rw t (ap pos (sym (one-pow e)))
even_power (negsuc (suc a)) e h lt even = absurd (omega arith)

other : (n : ℕ) → (n ≡ 0 → ⊥) → (n == 0) ≡ false
other zero h = absurd (h refl)
other (suc n) h = grind (arith, nat_tests)

pub odd_power : (x : ℤ) (e : ℕ) → unsigned_abs x ≤ 1 → x <ℤ pos 0 → (e % 2 ≡ 0 → ⊥) → x ≡ int_pow x e
odd_power (pos a) e h lt odd = absurd (omega (arith, ints))
odd_power (negsuc zero) e h lt odd = let t = other (e % 2) odd in rw (t, one-pow e) refl
odd_power (negsuc (suc a)) e h lt odd = absurd (omega arith)

pub positive_power : (x : ℤ) (e : ℕ) → unsigned_abs x ≤ 1 → pos 0 ≤ℤ x → (e ≡ 0 → ⊥) → x ≡ int_pow x e
positive_power x zero h lt some = absurd (some refl)
positive_power (pos zero) (suc e) h lt some = ap pos (sym (zero-pow e))
positive_power (pos (suc zero)) (suc e) h lt some = ap pos (sym (one-pow (suc e)))
positive_power (pos (suc (suc a))) (suc e) h lt some = absurd (omega arith)
positive_power (negsuc a) (suc e) h lt some = absurd (omega (arith, ints))

below : (n : ℕ) → 2 ^ 63 ≤ n → nat_lt n (2 ^ 63) ≡ false
below n h = grind (arith, nat_tests)

pub too_large : (z : ℤ) → 2 ^ 63 < unsigned_abs z → overflow ≡ in_width z
too_large (pos n) h = let t = below n (omega arith) in rw t refl
too_large (negsuc n) h = let t = below n (omega arith) in rw t refl

pub size-pow : (x : ℤ) (e : ℕ) → unsigned_abs (int_pow x e) ≡ unsigned_abs x ^ e
size-pow (pos a) e = refl
size-pow (negsuc a) e = by (e % 2 == 0)
  where
    negated : (n : ℕ) → unsigned_abs (neg_ℤ (pos n)) ≡ n
    negated zero = refl
    negated (suc n) = refl

    by : (b : Bool) → unsigned_abs (cond b (pos (suc a ^ e)) (neg_ℤ (pos (suc a ^ e)))) ≡ suc a ^ e
    by true = refl
    by false = negated (suc a ^ e)

pub large_power : (x : ℤ) (e : ℕ) → 1 < unsigned_abs x → 64 ≤ e → overflow ≡ in_width (int_pow x e)
large_power x e h k = too_large (int_pow x e) (omega (arith, size-pow x e, pow-le-pow_left {n = 2} {m = unsigned_abs x} (omega arith) e, pow_mono {i = 64} {j = e} k))

size-shift : (x : ℤ) (n : ℕ) → unsigned_abs (x *ℤ pos (2 ^ n)) ≡ unsigned_abs x * 2 ^ n
size-shift x n = unsigned_abs-mul x (pos (2 ^ n))

pub large_shift : (x : ℤ) (n : ℕ) → (x ≡ pos 0 → ⊥) → 64 ≤ n → overflow ≡ in_width (x *ℤ pos (2 ^ n))
large_shift (pos zero) n some k = absurd (some refl)
large_shift (pos (suc a)) n some k = too_large (pos (suc a) *ℤ pos (2 ^ n)) (omega (arith, size-shift (pos (suc a)) n, mul-le 1 (2 ^ 64) (suc a) (2 ^ n) (omega arith) (pow_mono {i = 64} {j = n} k)))
large_shift (negsuc a) n some k = too_large (negsuc a *ℤ pos (2 ^ n)) (omega (arith, size-shift (negsuc a) n, mul-le 1 (2 ^ 64) (suc a) (2 ^ n) (omega arith) (pow_mono {i = 64} {j = n} k)))

far : (a n : ℕ) → a < 2 ^ 63 → 63 ≤ n → a / 2 ^ 63 ≡ a / 2 ^ n
far a n h k = div-eq_of_lt h ∙ sym (div-eq_of_lt (omega (arith, pow_mono {i = 63} {j = n} k)))

past : (x : ℤ) (n : ℕ) → FitsSigned w64 x → 63 ≤ n → int_shr x 63 ≡ int_shr x n
past (pos a) n fits more = ap pos (far a n fits.sfits more)
past (negsuc a) n fits more = ap negsuc (far a n fits.sfits more)

-- past 63 places a shift leaves what it leaves at 63
pub capped_shift : (x y z : ℤ) (n m : ℕ) → FitsSigned w64 x → y ≡ x → m ≡ min n 64 → z ≡ int_shr y (min m 63) → z ≡ int_shr x n
capped_shift x y z n m fits same capped is = is ∙ (ap (λ u. int_shr u (min m 63)) same ∙ by (leb n 63) refl)
  where
    by : (b : Bool) → leb n 63 ≡ b → int_shr x (min m 63) ≡ int_shr x n
    by true t = let e : min m 63 ≡ n = grind (arith, nat_tests) in ap (int_shr x) e
    by false t = let e : min m 63 ≡ 63 = grind (arith, nat_tests) in let more : 63 ≤ n = grind (arith, nat_tests) in ap (int_shr x) e ∙ past x n fits more
