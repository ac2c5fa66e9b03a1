-- A written term that is read again has its variables numbered from 0 by first occurrence.
use Rattle.std.proofs.Common.{◌≡◌, ℕ, suc, ◌+◌, ◌<◌, ◌^◌, Bool, true, false, ◌||◌, ◌==◌, nat_eq, cond, List, [], ◌∷◌, ◌++◌, length, Some, None, refl, sym, ap, ◌∙◌, subst, arith, append_assoc, append-nil, length-append}
use Rattle.std.specs.Cmp.Lexicographic.{pointwise, same_text, other_text}
use Rattle.std.specs.List.{list_any}
use Rattle.std.specs.Fmt.{decimal}
use Rattle.std.specs.Str.Parse.{digits_value}
use Rattle.std.proofs.lemmas.Fmt.{decimal_nonempty}
use Rattle.au_term.specs.Term.{Term, VarTerm, IntTerm, AtomTerm, Compound, Terms, end, more}
use Rattle.au_model.specs.Terms.Copies.{noted, seen_in, seen_in_all, place_of, renamed, copied}
use Rattle.au_model.specs.Terms.Named.{NamedVariable}
use Rattle.au_model.specs.Writing.ReadBack.{tree_of, trees_of, IsWritable, AreWritable}
use Rattle.au_model.specs.Terms.Substitutions.{apply, apply_all}
use Rattle.au_model.specs.Syntax.VariableNumbers.{Variables, no_variables, number_of, is_anonymous, old_or_new, numbered_name, numbered, all_numbered}
use Rattle.term_writer.proofs.TokenTextLemmas.{decimal_value}
use Rattle.au_term.proofs.LogicLemmas.{same_number as is_same}

abbrev IsWord : ℕ → Type 0
IsWord n = n < 2 ^ 64

abbrev AreWords : List ℕ → Type 0
AreWords [] = Unit {0}
AreWords (n ∷ ns) = IsWord n × AreWords ns

abbrev name_of : ℕ → List ℕ
name_of n = 95 ∷ decimal n

-- the variables seen, as the reader keeps them
abbrev kept : ℕ → List ℕ → List NamedVariable
kept k [] = []
kept k (n ∷ ns) = record { name = name_of n; number = k } ∷ kept (suc k) ns

kept-last : (k : ℕ) (ns : List ℕ) (n : ℕ) → kept k (ns ++ n ∷ []) ≡ kept k ns ++ record { name = name_of n; number = k + length ns } ∷ []
kept-last k [] n = let same : k ≡ k + 0 = omega arith in ap (λ j. record { name = name_of n; number = j } ∷ []) same
kept-last k (m ∷ ns) n =
    let same : suc k + length ns ≡ k + length (m ∷ ns) = omega arith in
    ap (λ vs. record { name = name_of m; number = k } ∷ vs) (kept-last (suc k) ns n ∙ ap (λ j. kept (suc k) ns ++ record { name = name_of n; number = j } ∷ []) same)

one-more : (ns : List ℕ) (n : ℕ) → suc (length ns) ≡ length (ns ++ n ∷ [])
one-more ns n = omega (arith, length-append ns (n ∷ []))

plus-none : (k : ℕ) → 0 + k ≡ k
plus-none k = omega arith

kept-first : (ns : List ℕ) (n : ℕ) → kept 0 ns ++ record { name = name_of n; number = length ns } ∷ [] ≡ kept 0 (ns ++ n ∷ [])
kept-first ns n = ap (λ k. kept 0 ns ++ record { name = name_of n; number = k } ∷ []) (sym (plus-none (length ns))) ∙ sym (kept-last 0 ns n)

words-last : (ns : List ℕ) (n : ℕ) → AreWords ns → IsWord n → AreWords (ns ++ n ∷ [])
words-last [] n w h = (h, tt)
words-last (m ∷ ns) n w h = (w.0, words-last ns n w.1 h)

same-decimal : (m n : ℕ) → IsWord m → IsWord n → decimal m ≡ decimal n → m ≡ n
same-decimal m n h k e = sym (decimal_value m h) ∙ (ap (digits_value 10) e ∙ decimal_value n k)

same_is : (m n : ℕ) → m ≡ n → (m == n) ≡ true
same_is m n e = grind (arith, e)

-- variables have one name where they are the same
same-name : (m n : ℕ) → IsWord m → IsWord n → pointwise nat_eq (name_of m) (name_of n) ≡ (m == n)
same-name m n h k = go (pointwise nat_eq (decimal m) (decimal n)) refl (m == n) refl
  where
    go : (x : Bool) → pointwise nat_eq (decimal m) (decimal n) ≡ x → (y : Bool) → (m == n) ≡ y → x ≡ y
    go true e y f = sym (same_is m n (same-decimal m n h k (same_text (decimal m) (decimal n) (sym e)))) ∙ f
    go false e true f = absurd (other_text (decimal m) (decimal n) (sym e) (ap decimal (is_same m n f)))
    go false e false f = refl

number-kept : (k : ℕ) (ns : List ℕ) (n : ℕ) → AreWords ns → IsWord n → number_of (kept k ns) (name_of n) ≡ cond (list_any (λ m. m == n) ns) (Some (k + place_of ns n)) None
number-kept k [] n w h = refl
number-kept k (m ∷ ns) n w h = go (m == n) (same-name m n w.0 h) (number-kept (suc k) ns n w.1 h)
  where
    later : (b : Bool) → cond b (Some (suc k + place_of ns n)) None ≡ cond b (Some (k + suc (place_of ns n))) None
    later true = let same : suc k + place_of ns n ≡ k + suc (place_of ns n) = omega arith in ap Some same
    later false = refl

    go : (b : Bool) → pointwise nat_eq (name_of m) (name_of n) ≡ b → number_of (kept (suc k) ns) (name_of n) ≡ cond (list_any (λ j. j == n) ns) (Some (suc k + place_of ns n)) None
        → cond (pointwise nat_eq (name_of m) (name_of n)) (Some k) (number_of (kept (suc k) ns) (name_of n)) ≡ cond (b || list_any (λ j. j == n) ns) (Some (k + cond b 0 (suc (place_of ns n)))) None
    go true e f = let same : k ≡ k + 0 = omega arith in rw e (ap Some same)
    go false e f = rw e (f ∙ later (list_any (λ j. j == n) ns))

-- the place of what was seen does not change with what is seen later
place-stays : (ns ms : List ℕ) (n : ℕ) → list_any (λ m. m == n) ns ≡ true → place_of (ns ++ ms) n ≡ place_of ns n
place-stays [] ms n e = let f : ⊥ = cc in absurd f
place-stays (m ∷ ns) ms n e = go (m == n) e (place-stays ns ms n)
  where
    go : (b : Bool) → (b || list_any (λ j. j == n) ns) ≡ true → (list_any (λ j. j == n) ns ≡ true → place_of (ns ++ ms) n ≡ place_of ns n)
        → cond b 0 (suc (place_of (ns ++ ms) n)) ≡ cond b 0 (suc (place_of ns n))
    go true h k = refl
    go false h k = ap suc (k h)

-- what was not seen comes last
place-new : (ns ms : List ℕ) (n : ℕ) → list_any (λ m. m == n) ns ≡ false → place_of (ns ++ n ∷ ms) n ≡ length ns
place-new [] ms n e = rw (same_is n n refl) refl
place-new (m ∷ ns) ms n e = go (m == n) e (place-new ns ms n)
  where
    go : (b : Bool) → (b || list_any (λ j. j == n) ns) ≡ false → (list_any (λ j. j == n) ns ≡ false → place_of (ns ++ n ∷ ms) n ≡ length ns)
        → cond b 0 (suc (place_of (ns ++ n ∷ ms) n)) ≡ suc (length ns)
    go true h k = let f : ⊥ = cc in absurd f
    go false h k = ap suc (k h)

record Later (seen now : List ℕ) : Type 0 where
  pub more_seen : List ℕ
  pub is : now ≡ seen ++ more_seen

noted-later : (seen : List ℕ) (n : ℕ) → Later seen (noted seen n)
noted-later seen n = go (list_any (λ m. m == n) seen)
  where
    go : (b : Bool) → Later seen (cond b seen (seen ++ n ∷ []))
    go true = record { more_seen = []; is = sym (append-nil seen) }
    go false = record { more_seen = n ∷ []; is = refl }

mutual
  term-later : (t : Term) (seen : List ℕ) → Later seen (seen_in t seen)
  term-later (VarTerm n) seen = noted-later seen n
  term-later (IntTerm z) seen = record { more_seen = []; is = sym (append-nil seen) }
  term-later (AtomTerm a) seen = record { more_seen = []; is = sym (append-nil seen) }
  term-later (Compound f ts) seen = terms-later ts seen

  terms-later : (ts : Terms) (seen : List ℕ) → Later seen (seen_in_all ts seen)
  terms-later end seen = record { more_seen = []; is = sym (append-nil seen) }
  terms-later (more t ts) seen =
      let a = term-later t seen in
      let b = terms-later ts (seen_in t seen) in
      record { more_seen = a.more_seen ++ b.more_seen; is = b.is ∙ (ap (λ l. l ++ b.more_seen) a.is ∙ append_assoc seen a.more_seen b.more_seen) }

-- the reader's variables are those seen
record Agrees (vs : Variables) (seen : List ℕ) : Type 0 where
  pub words : AreWords seen
  pub is : vs ≡ record { named = kept 0 seen; next = length seen }

record NumberedTerm (vs : Variables) (t : Term) (seen : List ℕ) : Type 0 where
  pub term : (ms : List ℕ) → (numbered vs (tree_of t)).0 ≡ apply (renamed (seen_in t seen ++ ms) 0) t
  pub after : Agrees (numbered vs (tree_of t)).1 (seen_in t seen)

record NumberedTerms (vs : Variables) (ts : Terms) (seen : List ℕ) : Type 0 where
  pub terms : (ms : List ℕ) → (all_numbered vs (trees_of ts)).0 ≡ apply_all (renamed (seen_in_all ts seen ++ ms) 0) ts
  pub after : Agrees (all_numbered vs (trees_of ts)).1 (seen_in_all ts seen)

named-variable : (n : ℕ) → IsWord n → is_anonymous (name_of n) ≡ false
named-variable n h = go (decimal n) (decimal_nonempty n h)
  where
    go : (ds : List ℕ) → 0 < length ds → is_anonymous (95 ∷ ds) ≡ false
    go [] lt = absurd (omega arith)
    go (d ∷ ds) lt = refl

variable-numbered : (n : ℕ) → IsWord n → (seen : List ℕ) → AreWords seen → NumberedTerm (record { named = kept 0 seen; next = length seen }) (VarTerm n) seen
variable-numbered n h seen w = go (list_any (λ m. m == n) seen) refl
  where
    vs : Variables
    vs = record { named = kept 0 seen; next = length seen }

    looked : (b : Bool) → list_any (λ m. m == n) seen ≡ b → numbered_name vs (name_of n) ≡ old_or_new vs (name_of n) (cond b (Some (0 + place_of seen n)) None)
    looked b e = rw (named-variable n h) (ap (old_or_new vs (name_of n)) (number-kept 0 seen n w h ∙ ap (λ x. cond x (Some (0 + place_of seen n)) None) e))

    now : (b : Bool) → list_any (λ m. m == n) seen ≡ b → noted seen n ≡ cond b seen (seen ++ n ∷ [])
    now b e = ap (λ x. cond x seen (seen ++ n ∷ [])) e

    go : (b : Bool) → list_any (λ m. m == n) seen ≡ b → NumberedTerm vs (VarTerm n) seen
    go true e = record {
      term = λ ms. ap (λ r. VarTerm r.0) (looked true e) ∙ ap (λ k. VarTerm (0 + k)) (sym (place-stays seen ms n e) ∙ ap (λ l. place_of (l ++ ms) n) (sym (now true e)));
      after = record { words = subst AreWords (sym (now true e)) w; is = ap (λ r. r.1) (looked true e) ∙ ap (λ l. record { named = kept 0 l; next = length l }) (sym (now true e)) };
    }
    go false e = record {
      term = λ ms. ap (λ r. VarTerm r.0) (looked false e)
          ∙ (ap VarTerm (sym (plus-none (length seen))) ∙ ap (λ k. VarTerm (0 + k)) (sym (place-new seen ms n e) ∙ (ap (λ l. place_of l n) (sym (append_assoc seen (n ∷ []) ms)) ∙ ap (λ l. place_of (l ++ ms) n) (sym (now false e)))));
      after = record {
        words = subst AreWords (sym (now false e)) (words-last seen n w h);
        is = ap (λ r. r.1) (looked false e)
            ∙ (ap (λ l. record { named = l; next = suc (length seen) }) (kept-first seen n)
            ∙ (ap (λ k. record { named = kept 0 (seen ++ n ∷ []); next = k }) (one-more seen n) ∙ ap (λ l. record { named = kept 0 l; next = length l }) (sym (now false e))));
      };
    }

mutual
  term-numbered : (t : Term) → IsWritable t → (vs : Variables) (seen : List ℕ) → Agrees vs seen → NumberedTerm vs t seen
  term-numbered (VarTerm n) h vs seen a = subst (λ us. NumberedTerm us (VarTerm n) seen) (sym a.is) (variable-numbered n h seen a.words)
  term-numbered (IntTerm z) h vs seen a = record { term = λ ms. refl; after = a }
  term-numbered (AtomTerm b) h vs seen a = record { term = λ ms. refl; after = a }
  term-numbered (Compound f ts) h vs seen a =
      let r = terms-numbered ts h.3 vs seen a in
      record { term = λ ms. ap (Compound f) (r.terms ms); after = r.after }

  terms-numbered : (ts : Terms) → AreWritable ts → (vs : Variables) (seen : List ℕ) → Agrees vs seen → NumberedTerms vs ts seen
  terms-numbered end h vs seen a = record { terms = λ ms. refl; after = a }
  terms-numbered (more t ts) h vs seen a =
      let first = term-numbered t h.0 vs seen a in
      let rest = terms-numbered ts h.1 (numbered vs (tree_of t)).1 (seen_in t seen) first.after in
      let l = terms-later ts (seen_in t seen) in
      record {
        terms = λ ms.
            let whole : seen_in t seen ++ (l.more_seen ++ ms) ≡ seen_in_all ts (seen_in t seen) ++ ms = sym (append_assoc (seen_in t seen) l.more_seen ms) ∙ ap (λ s. s ++ ms) (sym l.is) in
            ap (λ u. more u (all_numbered (numbered vs (tree_of t)).1 (trees_of ts)).0) (first.term (l.more_seen ++ ms) ∙ ap (λ s. apply (renamed s 0) t) whole)
            ∙ ap (λ us. more (apply (renamed (seen_in_all ts (seen_in t seen) ++ ms) 0) t) us) (rest.terms ms);
        after = rest.after;
      }

pub numbered-copy : (t : Term) → IsWritable t → (numbered no_variables (tree_of t)).0 ≡ copied t 0
numbered-copy t h =
    let r = term-numbered t h no_variables [] (record { words = tt; is = refl }) in
    r.term [] ∙ ap (λ s. apply (renamed s 0) t) (append-nil (seen_in t []))
