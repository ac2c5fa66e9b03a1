-- A result given to an own findall.
use Rattle.std.proofs.Common.{◌≡◌, ℕ, suc, ◌-◌, ◌+◌, ◌≤◌, ◌==◌, Bool, true, false, cond, List, [], ◌∷◌, ◌++◌, map, length, refl, sym, ap, ◌∙◌, arith}
use Rattle.std.proofs.lemmas.List.{length-append, length-map}
use Rattle.std.proofs.lemmas.Bool.{eq-eqb, eqb-true}
use Rattle.au_term.specs.Term.{Term}
use Rattle.run_model.specs.Machine.Entries.{Entry, PlainEntry, CatchEntry, FindallEntry, EndEntry, with_result, collected}
use Rattle.region_floor.specs.Deferred.{Deferred, joined_entry}
use Rattle.region_floor.specs.BareFloors.{IsOwnEntry, AreOwn}

-- over a floor
collected-none : (h : ℕ) (t : Term) (floor : List Entry) → length floor ≤ h → collected h t floor ≡ floor
collected-none h t [] k = refl
collected-none h t (e ∷ es) k =
    ap (λ b. cond b (with_result t e ∷ es) (e ∷ collected h t es)) (other (length es) (omega arith))
    ∙ ap (λ l. e ∷ l) (collected-none h t es (omega arith))
  where
    other : (a : ℕ) → suc a ≤ h → (a == h) ≡ false
    other a low = go (a == h) refl
      where
        go : (b : Bool) → (a == h) ≡ b → b ≡ false
        go true e = let equal = eqb-true a h e in absurd (omega (arith, low, equal))
        go false e = refl

shifted : (a b h low : ℕ) → b ≡ a + low → low ≤ h → (b == h) ≡ (a == (h - low))
shifted a b h low e k = go (b == h) refl (a == (h - low)) refl
  where
    go : (s : Bool) → (b == h) ≡ s → (t : Bool) → (a == (h - low)) ≡ t → s ≡ t
    go true p true q = refl
    go false p false q = refl
    go true p false q = let equal = eqb-true b h p in sym (eq-eqb a (h - low) (omega (arith, equal, e, k))) ∙ q
    go false p true q = let equal = eqb-true a (h - low) q in sym p ∙ eq-eqb b h (omega (arith, equal, e, k))

pub collected-over : (h : ℕ) (t : Term) (es floor : List Entry) → length floor ≤ h
    → collected h t (es ++ floor) ≡ collected (h - length floor) t es ++ floor
collected-over h t [] floor k = collected-none h t floor k
collected-over h t (e ∷ es) floor k =
    ap (λ b. cond b (with_result t e ∷ (es ++ floor)) (e ∷ collected h t (es ++ floor)))
    (shifted (length es) (length (es ++ floor)) h (length floor) (length-append es floor) k)
    ∙ go (length es == (h - length floor)) (collected-over h t es floor k)
  where
    go : (b : Bool) → collected h t (es ++ floor) ≡ collected (h - length floor) t es ++ floor
        → cond b (with_result t e ∷ (es ++ floor)) (e ∷ collected h t (es ++ floor))
        ≡ cond b (with_result t e ∷ es) (e ∷ collected (h - length floor) t es) ++ floor
    go true n = refl
    go false n = ap (λ l. e ∷ l) n

-- with what is deferred
result-joined : (d : Deferred) (t : Term) (e : Entry) → joined_entry d (with_result t e) ≡ with_result t (joined_entry d e)
result-joined d t (PlainEntry f) = refl
result-joined d t (CatchEntry c r f) = refl
result-joined d t (FindallEntry results l f) = refl
result-joined d t (EndEntry b) = refl

pub collected-joined : (d : Deferred) (h : ℕ) (t : Term) (es : List Entry)
    → collected h t (map (joined_entry d) es) ≡ map (joined_entry d) (collected h t es)
collected-joined d h t [] = refl
collected-joined d h t (e ∷ es) =
    ap (λ n. cond (n == h) (with_result t (joined_entry d e) ∷ map (joined_entry d) es) (joined_entry d e ∷ collected h t (map (joined_entry d) es)))
    (length-map es (joined_entry d))
    ∙ go (length es == h) (collected-joined d h t es)
  where
    go : (b : Bool) → collected h t (map (joined_entry d) es) ≡ map (joined_entry d) (collected h t es)
        → cond b (with_result t (joined_entry d e) ∷ map (joined_entry d) es) (joined_entry d e ∷ collected h t (map (joined_entry d) es))
        ≡ map (joined_entry d) (cond b (with_result t e ∷ es) (e ∷ collected h t es))
    go true k = ap (λ x. x ∷ map (joined_entry d) es) (sym (result-joined d t e))
    go false k = ap (λ l. joined_entry d e ∷ l) k

-- own entries stay own
result-own : (n : ℕ) (t : Term) (e : Entry) → IsOwnEntry n e → IsOwnEntry n (with_result t e)
result-own n t (PlainEntry f) o = o
result-own n t (CatchEntry c r f) o = o
result-own n t (FindallEntry results l f) o = o
result-own n t (EndEntry b) o = o

pub collected-own : (n h : ℕ) (t : Term) (es : List Entry) → AreOwn n es → AreOwn n (collected h t es)
collected-own n h t [] o = tt
collected-own n h t (e ∷ es) o = go (length es == h) (result-own n t e o.0) (collected-own n h t es o.1)
  where
    go : (b : Bool) → IsOwnEntry n (with_result t e) → AreOwn n (collected h t es)
        → AreOwn n (cond b (with_result t e ∷ es) (e ∷ collected h t es))
    go true p q = (p, o.1)
    go false p q = (o.0, q)
