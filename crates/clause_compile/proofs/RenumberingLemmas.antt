-- Clauses with their variables numbered.
use Rattle.std.proofs.Common.{◌≡◌, ℕ, ℤ, zero, suc, ◌+◌, ◌<◌, ◌≤◌, ◌==◌, ◌||◌, Bool, true, false, cond, max, List, [], ◌∷◌, ◌++◌, length, Option, Some, None, refl, sym, ap, ap₂, ◌∙◌, subst, zero-add, length-append, arith}
use Rattle.std.specs.List.{list_any}
use Rattle.std.proofs.lemmas.Bool.Decides.{nat_tests}
use Rattle.au_term.specs.Term.{Term, VarTerm, IntTerm, AtomTerm, Compound, Terms, end, more as another, var_bound}
use Rattle.run_model.specs.Programs.Bodies.{body_of, is_junction, junction, clause_goals_of}
use Rattle.au_model.specs.Terms.Copies.{noted, seen_in, seen_in_all, place_of, renamed}
use Rattle.au_model.specs.Terms.Forms.{is_callable, binary}
use Rattle.au_model.specs.Terms.Substitutions.{apply, apply_all}
use Rattle.au_model.proofs.ApplyLemmas.{two}
use Rattle.au_model.proofs.VariableBoundLemmas.{IsSeen, AllSeen, AreAllSeen, all_seen, still_seen, renamed-below, noted-seen}
use Rattle.au_model.proofs.CopyLemmas.{Extends, along_extends, extends_both, last_place, seen_along-term, place_front as front_place}
use Rattle.au_term.specs.PrefixOrder.{cells_of, top_of}
use Rattle.au_term.specs.declared.cell.Cell.TheVariants.{Var as VarCell, Int as IntCell}
use Rattle.clause_compile.specs.ClauseInvariant.{numbers_from, IsClauseInvariant}
use Rattle.clause_compile.specs.GoalPlaces.{AreGoalsAt}
use Rattle.au_term.proofs.LogicLemmas.{not_equal as apart}

term_extends : (t : Term) (seen : List ℕ) → Extends seen (seen_in t seen)
term_extends t seen = subst (Extends seen) (seen_along-term t seen) (along_extends (cells_of t) seen)

stays_in : (seen all : List ℕ) (n : ℕ) → Extends seen all → IsSeen seen n → place_of all n ≡ place_of seen n
stays_in seen all n e h = ap (λ ns. place_of ns n) e.is ∙ front_place seen e.more n h

-- what was renamed stays so where more are seen
mutual
  renamed_stays : (seen all : List ℕ) (next : ℕ) (t : Term) → Extends seen all → AllSeen seen t → apply (renamed seen next) t ≡ apply (renamed all next) t
  renamed_stays seen all next (VarTerm n) e h = ap (λ p. VarTerm (next + p)) (sym (stays_in seen all n e h))
  renamed_stays seen all next (IntTerm z) e h = refl
  renamed_stays seen all next (AtomTerm a) e h = refl
  renamed_stays seen all next (Compound f ts) e h = ap (Compound f) (all_renamed_stay seen all next ts e h)

  all_renamed_stay : (seen all : List ℕ) (next : ℕ) (ts : Terms) → Extends seen all → AreAllSeen seen ts → apply_all (renamed seen next) ts ≡ apply_all (renamed all next) ts
  all_renamed_stay seen all next end e h = refl
  all_renamed_stay seen all next (another t ts) e h = two (renamed_stays seen all next t e h.0) (all_renamed_stay seen all next ts e h.1)

pub head_stays : (head body : Term) → apply (renamed (seen_in head []) 0) head ≡ apply (renamed (seen_in body (seen_in head [])) 0) head
head_stays head body = renamed_stays (seen_in head []) (seen_in body (seen_in head [])) 0 head (term_extends body (seen_in head [])) (all_seen head [])

-- numbers from 0 on
pub length-numbers : (first n : ℕ) → length (numbers_from first n) ≡ n
length-numbers first zero = refl
length-numbers first (suc n) = ap suc (length-numbers (suc first) n)

among_by : (first k n : ℕ) (v : Bool) → (first == n) ≡ v → (suc first ≤ n → list_any (λ m. m == n) (numbers_from (suc first) k) ≡ true) → first ≤ n → (v || list_any (λ m. m == n) (numbers_from (suc first) k)) ≡ true
among_by first k n true e h le = refl
among_by first k n false e h le = h (omega (arith, le, differs first n e))
  where
    differs : (a b : ℕ) → (a == b) ≡ false → a ≡ b → ⊥
    differs a b e same = grind (arith, nat_tests)

among : (first k n : ℕ) → first ≤ n → n < first + k → list_any (λ m. m == n) (numbers_from first k) ≡ true
among first zero n le lt = absurd (omega arith)
among first (suc k) n le lt = among_by first k n (first == n) refl (λ above. among (suc first) k n above (omega arith)) le

missing : (first k n : ℕ) → first + k ≤ n → list_any (λ m. m == n) (numbers_from first k) ≡ false
missing first zero n le = refl
missing first (suc k) n le = two_tests (apart first n (omega arith)) (missing (suc first) k n (omega arith))
  where
    two_tests : {a b : Bool} → a ≡ false → b ≡ false → (a || b) ≡ false
    two_tests h k = rw (h, k)

one_more : (first k : ℕ) → numbers_from first k ++ (first + k) ∷ [] ≡ numbers_from first (suc k)
one_more first zero = let same : first + 0 ≡ first = omega arith in ap (λ n. n ∷ []) same
one_more first (suc k) = let same : first + suc k ≡ suc first + k = omega arith in ap (λ ns. first ∷ ns) (ap (λ n. numbers_from (suc first) k ++ n ∷ []) same ∙ one_more (suc first) k)

noted_below : (k n : ℕ) → n < k → noted (numbers_from 0 k) n ≡ numbers_from 0 k
noted_below k n lt = rw (among 0 k n (omega arith) (omega arith))

noted_next : (k n : ℕ) → n ≡ k → noted (numbers_from 0 k) n ≡ numbers_from 0 (suc k)
noted_next k n e = ap (noted (numbers_from 0 k)) e ∙ (rw (missing 0 k k (omega arith)) (ap (λ m. numbers_from 0 k ++ m ∷ []) (sym (zero-add k)) ∙ one_more 0 k))

seen_place : (seen : List ℕ) (n : ℕ) → list_any (λ m. m == n) seen ≡ true → IsSeen seen n
seen_place seen n h = subst (λ ns. IsSeen ns n) (ap (λ b. cond b seen (seen ++ n ∷ [])) h) (noted-seen seen n)

-- a variable noted by its place
noted_by : (seen all : List ℕ) (n : ℕ) (b : Bool) → list_any (λ m. m == n) seen ≡ b → Extends (cond b seen (seen ++ n ∷ [])) all → noted (numbers_from 0 (length seen)) (place_of all n) ≡ numbers_from 0 (length (cond b seen (seen ++ n ∷ [])))
noted_by seen all n true h e = let is = stays_in seen all n e (seen_place seen n h) in noted_below (length seen) (place_of all n) (omega (arith, is, seen_place seen n h))
noted_by seen all n false h e =
    let last = last_place seen n h in
    let is = stays_in (seen ++ n ∷ []) all n e (omega (arith, last, length-append seen (n ∷ []))) in
    let grown : length (seen ++ n ∷ []) ≡ suc (length seen) = omega (arith, length-append seen (n ∷ [])) in
    noted_next (length seen) (place_of all n) (is ∙ last) ∙ ap (numbers_from 0) (sym grown)

-- a renamed term's variables are seen in order
mutual
  seen_renamed : (t : Term) (seen all : List ℕ) → Extends (seen_in t seen) all → seen_in (apply (renamed all 0) t) (numbers_from 0 (length seen)) ≡ numbers_from 0 (length (seen_in t seen))
  seen_renamed (VarTerm n) seen all e = ap (noted (numbers_from 0 (length seen))) (zero-add (place_of all n)) ∙ noted_by seen all n (list_any (λ m. m == n) seen) refl e
  seen_renamed (IntTerm z) seen all e = refl
  seen_renamed (AtomTerm a) seen all e = refl
  seen_renamed (Compound f ts) seen all e = all_seen_renamed ts seen all e

  all_seen_renamed : (ts : Terms) (seen all : List ℕ) → Extends (seen_in_all ts seen) all → seen_in_all (apply_all (renamed all 0) ts) (numbers_from 0 (length seen)) ≡ numbers_from 0 (length (seen_in_all ts seen))
  all_seen_renamed end seen all e = refl
  all_seen_renamed (another t ts) seen all e =
      ap (seen_in_all (apply_all (renamed all 0) ts)) (seen_renamed t seen all (extends_both (seen_in t seen) (seen_in_all ts (seen_in t seen)) all (terms_extend ts (seen_in t seen)) e))
      ∙ all_seen_renamed ts (seen_in t seen) all e

  terms_extend : (ts : Terms) (seen : List ℕ) → Extends seen (seen_in_all ts seen)
  terms_extend end seen = record { more = []; is = nothing seen }
    where
      nothing : (xs : List ℕ) → xs ≡ xs ++ []
      nothing [] = refl
      nothing (x ∷ xs) = ap (λ k. x ∷ k) (nothing xs)
  terms_extend (another t ts) seen = extends_both seen (seen_in t seen) (seen_in_all ts (seen_in t seen)) (term_extends t seen) (terms_extend ts (seen_in t seen))

pub numbered_in_order : (head body : Term) → let all = seen_in body (seen_in head []) in seen_in (apply (renamed all 0) body) (seen_in (apply (renamed all 0) head) []) ≡ numbers_from 0 (length all)
numbered_in_order head body =
    let first = seen_in head [] in
    let all = seen_in body first in
    ap (seen_in (apply (renamed all 0) body)) (seen_renamed head [] all (term_extends body first)) ∙ seen_renamed body first all (record { more = []; is = nothing all })
  where
    nothing : (xs : List ℕ) → xs ≡ xs ++ []
    nothing [] = refl
    nothing (x ∷ xs) = ap (λ k. x ∷ k) (nothing xs)

pub numbered_below : (head body : Term) → let all = seen_in body (seen_in head []) in max (var_bound (apply (renamed all 0) head)) (var_bound (apply (renamed all 0) body)) ≤ length all
numbered_below head body =
    let all = seen_in body (seen_in head []) in
    omega (arith, renamed-below all 0 head (still_seen body head (seen_in head []) (all_seen head [])), renamed-below all 0 body (all_seen body (seen_in head [])))

pub callable_renamed : (f : ℕ → Term) (t : Term) → is_callable t ≡ true → is_callable (apply f t) ≡ true
callable_renamed f (VarTerm n) h = absurd (cc)
callable_renamed f (IntTerm z) h = absurd (cc)
callable_renamed f (AtomTerm a) h = refl
callable_renamed f (Compound g ts) h = refl

-- a body stays one where variables are renamed
inside : (f : List ℕ) (o p : Option Term) (a b : Term) → junction f o p ≡ Some (binary f a b) → (o ≡ Some a) × (p ≡ Some b)
inside f (Some a) (Some b) c d e = (cc, cc)
inside f (Some a) None c d e = absurd (cc)
inside f None p c d e = absurd (cc)

pub body_renamed : (seen : List ℕ) (next : ℕ) (t : Term) → body_of t ≡ Some t → body_of (apply (renamed seen next) t) ≡ Some (apply (renamed seen next) t)
body_renamed seen next (VarTerm n) h = absurd (cc)
body_renamed seen next (IntTerm z) h = absurd (cc)
body_renamed seen next (AtomTerm a) h = refl
body_renamed seen next (Compound f end) h = refl
body_renamed seen next (Compound f (another a end)) h = refl
body_renamed seen next (Compound f (another a (another b end))) h = go (is_junction f) h (body_renamed seen next a) (body_renamed seen next b)
  where
    go : (k : Bool) → cond k (junction f (body_of a) (body_of b)) (Some (binary f a b)) ≡ Some (binary f a b)
        → (body_of a ≡ Some a → body_of (apply (renamed seen next) a) ≡ Some (apply (renamed seen next) a)) → (body_of b ≡ Some b → body_of (apply (renamed seen next) b) ≡ Some (apply (renamed seen next) b))
        → cond k (junction f (body_of (apply (renamed seen next) a)) (body_of (apply (renamed seen next) b))) (Some (binary f (apply (renamed seen next) a) (apply (renamed seen next) b))) ≡ Some (binary f (apply (renamed seen next) a) (apply (renamed seen next) b))
    go true e p q = let both = inside f (body_of a) (body_of b) a b e in ap₂ (junction f) (p both.0) (q both.1)
    go false e p q = refl
body_renamed seen next (Compound f (another a (another b (another c ts)))) h = refl

-- the clause of a copied head and body
module _ (head body ht bt : Term) (start hr br : List ℕ) (places : List ℕ) (vars : ℕ) (s : start ≡ []) (hs : hr ≡ seen_in head start) (hc : ht ≡ apply (renamed (seen_in head start) 0) head) (bs : br ≡ seen_in body hr) (bc : bt ≡ apply (renamed (seen_in body hr) 0) body) where
  abbrev all : List ℕ
  all = seen_in body (seen_in head [])

  seen_first : hr ≡ seen_in head []
  seen_first = hs ∙ ap (seen_in head) s

  pub head_is : ht ≡ apply (renamed all 0) head
  head_is = hc ∙ (ap (λ ns. apply (renamed (seen_in head ns) 0) head) s ∙ head_stays head body)

  pub body_is : bt ≡ apply (renamed all 0) body
  body_is = bc ∙ ap (λ ns. apply (renamed (seen_in body ns) 0) body) seen_first

  pub is_kept : is_callable head ≡ true → body_of body ≡ Some body → vars ≡ length br → AreGoalsAt bt places (clause_goals_of bt) → IsClauseInvariant ht bt places vars
  is_kept c b v g =
      let number : vars ≡ length all = v ∙ ap length (bs ∙ ap (seen_in body) seen_first) in
      record {
        head_callable = ap is_callable head_is ∙ callable_renamed (renamed all 0) head c;
        body_kept = ap body_of body_is ∙ (body_renamed all 0 body b ∙ ap (λ t. Some t) (sym body_is));
        goals = g;
        numbered = ap (λ t. seen_in t (seen_in ht [])) body_is ∙ (ap (λ t. seen_in (apply (renamed all 0) body) (seen_in t [])) head_is ∙ (numbered_in_order head body ∙ ap (numbers_from 0) (sym number)));
        bound = omega (arith, numbered_below head body, number, ap var_bound head_is, ap var_bound body_is);
      }

pub kept_at : {a b c d : Term} (places : List ℕ) (vars : ℕ) → a ≡ b → c ≡ d → IsClauseInvariant b d places vars → IsClauseInvariant a c places vars
kept_at {a} {b} {c} {d} places vars p q h = subst (λ t. IsClauseInvariant t c places vars) (sym p) (subst (λ t. IsClauseInvariant b t places vars) (sym q) h)

-- what is no variable and no integer is callable
pub callable_by : (t : Term) → ((n : ℕ) → top_of t ≡ VarCell n → ⊥) → ((z : ℤ) → top_of t ≡ IntCell z → ⊥) → is_callable t ≡ true
callable_by (VarTerm n) h k = absurd (h n refl)
callable_by (IntTerm z) h k = absurd (k z refl)
callable_by (AtomTerm a) h k = refl
callable_by (Compound f ts) h k = refl
