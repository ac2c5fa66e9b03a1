-- Words that are budgets, and others.
use Rattle.std.proofs.Common.{◌≡◌, ℕ, ◌<◌, Bool, true, false, ◌&&◌, List, [], ◌∷◌, length, Some, None, refl, ◌∙◌, cond, arith, zero, suc, take, get_or, Err}
use Rattle.std.specs.Prelude.{nat_lt}
use Rattle.std.specs.Str.{all_ascii_digits}
use Rattle.std.specs.Str.Parse.{digits_value, ParsesUnsigned}
use Rattle.std.proofs.lemmas.Str.Parse.{parse_digits, numerals_by_value, tells_all_ascii_digits}
use Rattle.std.specs.Char.{is_ascii_digit}
use Rattle.aurora_cli.specs.CommandWords.{is_budget}
use Rattle.au_term.proofs.LogicLemmas.{and-both as joined}
use Rattle.au_model.proofs.UnifierRuleLemmas.{below as lower}

record Both (a b : Bool) : Type 0 where
  left : a ≡ true
  right : b ≡ true

both : (a b : Bool) → (a && b) ≡ true → Both a b
both true true h = record { left = refl; right = refl }
both true false h = cc
both false b h = cc

pub digit_in : (word : List ℕ) (i : ℕ) → i < length word → all_ascii_digits word ≡ true → is_ascii_digit (get_or word i 0) ≡ true
digit_in [] i lt h = absurd (omega arith)
digit_in (c ∷ cs) zero lt h = (both (is_ascii_digit c) (all_ascii_digits cs) h).left
digit_in (c ∷ cs) (suc i) lt h = digit_in cs i (omega arith) (both (is_ascii_digit c) (all_ascii_digits cs) h).right

pub one_more : (word : List ℕ) (i : ℕ) → i < length word → all_ascii_digits (take i word) ≡ true → is_ascii_digit (get_or word i 0) ≡ true → all_ascii_digits (take (suc i) word) ≡ true
one_more [] i lt h k = absurd (omega arith)
one_more (c ∷ cs) zero lt h k = joined (is_ascii_digit c) true k refl
one_more (c ∷ cs) (suc i) lt h k =
    let p = both (is_ascii_digit c) (all_ascii_digits (take i cs)) h in
    joined (is_ascii_digit c) (all_ascii_digits (take (suc i) cs)) p.left (one_more cs i (omega arith) p.right k)

pub not_all : (word : List ℕ) (i : ℕ) → i < length word → false ≡ is_ascii_digit (get_or word i 0) → false ≡ all_ascii_digits word
not_all word i lt h = go (all_ascii_digits word) refl
  where
    go : (b : Bool) → all_ascii_digits word ≡ b → false ≡ b
    go true e = h ∙ digit_in word i lt e
    go false e = refl

pub record IsBudget (word : List ℕ) : Type 0 where
  pub digits : all_ascii_digits word ≡ true
  pub some : 0 < length word
  pub few : length word < 11
  pub least : 0 < digits_value 10 word
  pub most : digits_value 10 word < 4294967296

pub budget_parts : (word : List ℕ) → is_budget word ≡ true → IsBudget word
budget_parts word h =
    let v = digits_value 10 word in
    let p = both (all_ascii_digits word) (nat_lt 0 (length word) && (nat_lt (length word) 11 && (nat_lt 0 v && nat_lt v 4294967296))) h in
    let q = both (nat_lt 0 (length word)) (nat_lt (length word) 11 && (nat_lt 0 v && nat_lt v 4294967296)) p.right in
    let r = both (nat_lt (length word) 11) (nat_lt 0 v && nat_lt v 4294967296) q.right in
    let s = both (nat_lt 0 v) (nat_lt v 4294967296) r.right in
    record { digits = p.left; some = lower 0 (length word) q.left; few = lower (length word) 11 r.left; least = lower 0 v s.left; most = lower v 4294967296 s.right }

pub no_budget : (word : List ℕ) → (IsBudget word → ⊥) → None ≡ cond (is_budget word) (Some (digits_value 10 word)) None
no_budget word n = go (is_budget word) refl
  where
    go : (b : Bool) → is_budget word ≡ b → None ≡ cond b (Some (digits_value 10 word)) None
    go true e = absurd (n (budget_parts word e))
    go false e = refl

pub not_parsed : {E : Type 0} (word : List ℕ) (e : E) → ParsesUnsigned 64 10 word (Err e) → IsBudget word → ⊥
not_parsed word e h b = parse_digits (numerals_by_value (λ ds. all_ascii_digits ds ≡ true) tells_all_ascii_digits) 64 word (Err e) h b.digits (b.some, omega (arith, b.most))
