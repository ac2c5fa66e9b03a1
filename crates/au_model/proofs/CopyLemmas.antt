-- Copies cell by cell.
use Rattle.std.proofs.Common.{◌≡◌, ℕ, zero, suc, ◌+◌, ◌-◌, ◌<◌, ◌≤◌, ◌==◌, Bool, true, false, ◌||◌, cond, List, [], ◌∷◌, ◌++◌, length, map, take, drop, get_or, Option, Some, None, refl, sym, ap, ◌∙◌, subst, append_assoc, append-nil, arith}
use Rattle.std.specs.Prelude.{option_map}
use Rattle.std.specs.List.{list_any}
use Rattle.std.proofs.lemmas.List.{drop_more, drop_all, take_all}
use Rattle.std.proofs.lemmas.Bool.{eqb-true, eq-eqb, false≢true}
use Rattle.au_term.specs.Term.{Term, VarTerm, IntTerm, AtomTerm, Compound, Terms, end, more as another}
use Rattle.au_term.specs.PrefixOrder.{cells_of, all_cells, term_of, term_of-cells_of, arity, due_after}
use Rattle.au_term.specs.declared.cell.Cell.{Cell}
use Rattle.au_term.specs.declared.cell.Cell.TheVariants.{Var as VarCell, Int as IntCell, Atom as AtomCell, Functor}
use Rattle.au_term.proofs.WholeTermLemmas.{DueAfter-term, DueAfter-AreDue, AreDue-at, due_after-is}
use Rattle.au_model.specs.Terms.Substitutions.{apply, apply_all}
use Rattle.au_model.specs.Terms.Copies.{noted, seen_in, seen_in_all, place_of, renamed}
use Rattle.au_model.specs.Terms.CopiedCells.{occurrences_at, occurrences_along, renamed_cell, place_among}
use Rattle.au_model.proofs.VariableBoundLemmas.{noted-seen}
use Rattle.au_model.proofs.UnifierRuleLemmas.{count-apply_all}
use Rattle.au_term.proofs.LogicLemmas.{neither as both_false}

-- the places with one variable more
among_first : (m y : ℕ) (seen : List ℕ) → place_among y (m ∷ seen) ≡ cond (m == y) (Some 0) (option_map (λ i. suc i) (place_among y seen))
among_first m y seen = go (m == y) (list_any (λ k. k == y) seen)
  where
    go : (b c : Bool) → cond (b || c) (Some (cond b 0 (suc (place_of seen y)))) None ≡ cond b (Some 0) (option_map (λ i. suc i) (cond c (Some (place_of seen y)) None))
    go true c = refl
    go false true = refl
    go false false = refl

pub one_place : (v w : Bool) (n : ℕ) (o p : Option ℕ) → (v ≡ true → w ≡ true → ⊥) → o ≡ cond w (Some n) p → cond v (Some 0) (option_map (λ i. suc i) o) ≡ cond w (Some (suc n)) (cond v (Some 0) (option_map (λ i. suc i) p))
one_place true true n o p h e = absurd (h refl refl)
one_place true false n o p h e = refl
one_place false true n o p h e = ap (option_map (λ i. suc i)) e
one_place false false n o p h e = ap (option_map (λ i. suc i)) e

pub among_more : (seen : List ℕ) (x y : ℕ) → list_any (λ m. m == x) seen ≡ false → place_among y (seen ++ x ∷ []) ≡ cond (x == y) (Some (length seen)) (place_among y seen)
among_more [] x y h = go (x == y)
  where
    go : (b : Bool) → cond (b || false) (Some (cond {A = ℕ} b 0 1)) None ≡ cond {A = Option ℕ} b (Some 0) None
    go true = refl
    go false = refl
among_more (m ∷ seen) x y h =
    let apart = both_false (m == x) (list_any (λ k. k == x) seen) h in
    among_first m y (seen ++ x ∷ [])
    ∙ (one_place (m == y) (x == y) (length seen) (place_among y (seen ++ x ∷ [])) (place_among y seen) (λ p q. false≢true (sym apart.0 ∙ (ap (λ z. m == z) (eqb-true x y q) ∙ p))) (among_more seen x y apart.1)
    ∙ ap (cond (x == y) (Some (suc (length seen)))) (sym (among_first m y seen)))

pub not_among : (seen : List ℕ) (x : ℕ) → place_among x seen ≡ None → list_any (λ m. m == x) seen ≡ false
not_among seen x e = go (list_any (λ m. m == x) seen) e
  where
    go : (b : Bool) → cond b (Some (place_of seen x)) None ≡ None → b ≡ false
    go true e = absurd (cc)
    go false e = refl

pub last_place : (seen : List ℕ) (x : ℕ) → list_any (λ m. m == x) seen ≡ false → place_of (seen ++ x ∷ []) x ≡ length seen
last_place [] x h = ap (λ b. cond b 0 1) (eq-eqb x x refl)
last_place (m ∷ seen) x h =
    let apart = both_false (m == x) (list_any (λ k. k == x) seen) h in
    ap (λ b. cond b 0 (suc (place_of (seen ++ x ∷ []) x))) apart.0 ∙ ap suc (last_place seen x apart.1)

-- more variables are seen
pub record Extends (seen all : List ℕ) : Type 0 where
  pub more : List ℕ
  pub is : all ≡ seen ++ more

extends_same : (seen : List ℕ) → Extends seen seen
extends_same seen = record { more = []; is = sym (append-nil seen) }

pub extends_both : (seen mid all : List ℕ) → Extends seen mid → Extends mid all → Extends seen all
extends_both seen mid all a b = record { more = a.more ++ b.more; is = b.is ∙ (ap (λ ns. ns ++ b.more) a.is ∙ append_assoc seen a.more b.more) }

noted_extends : (seen : List ℕ) (n : ℕ) → Extends seen (noted seen n)
noted_extends seen n = go (list_any (λ m. m == n) seen)
  where
    go : (b : Bool) → Extends seen (cond b seen (seen ++ n ∷ []))
    go true = extends_same seen
    go false = record { more = n ∷ []; is = refl }

at_extends : (c : Cell) (seen : List ℕ) → Extends seen (occurrences_at c seen)
at_extends (VarCell n) seen = noted_extends seen n
at_extends (IntCell z) seen = extends_same seen
at_extends (AtomCell a) seen = extends_same seen
at_extends (Functor f n) seen = extends_same seen

pub along_extends : (cs : List Cell) (seen : List ℕ) → Extends seen (occurrences_along cs seen)
along_extends [] seen = extends_same seen
along_extends (c ∷ cs) seen = extends_both seen (occurrences_at c seen) (occurrences_along cs (occurrences_at c seen)) (at_extends c seen) (along_extends cs (occurrences_at c seen))

pub place_front : (seen more : List ℕ) (n : ℕ) → place_of seen n < length seen → place_of (seen ++ more) n ≡ place_of seen n
place_front [] more n lt = absurd (omega arith)
place_front (m ∷ seen) more n lt = go (m == n) lt (place_front seen more n)
  where
    go : (b : Bool) → cond b 0 (suc (place_of seen n)) < suc (length seen) → (place_of seen n < length seen → place_of (seen ++ more) n ≡ place_of seen n) → cond b 0 (suc (place_of (seen ++ more) n)) ≡ cond b 0 (suc (place_of seen n))
    go true lt h = refl
    go false lt h = ap suc (h (omega arith))

-- a cell renamed by what was seen up to it is renamed by all that is seen
pub cell_stays : (c : Cell) (seen all : List ℕ) (next : ℕ) → Extends (occurrences_at c seen) all → renamed_cell (occurrences_at c seen) next c ≡ renamed_cell all next c
cell_stays (VarCell n) seen all next e = ap (λ p. VarCell (next + p)) (sym (ap (λ ns. place_of ns n) e.is ∙ place_front (noted seen n) e.more n (noted-seen seen n)))
cell_stays (IntCell z) seen all next e = refl
cell_stays (AtomCell a) seen all next e = refl
cell_stays (Functor f n) seen all next e = refl

map-append : {A B : Type 0} (f : A → B) (xs ys : List A) → map f (xs ++ ys) ≡ map f xs ++ map f ys
map-append f [] ys = refl
map-append f (x ∷ xs) ys = ap (λ zs. f x ∷ zs) (map-append f xs ys)

mutual
  pub renamed-cells : (seen : List ℕ) (next : ℕ) (t : Term) → map (renamed_cell seen next) (cells_of t) ≡ cells_of (apply (renamed seen next) t)
  renamed-cells seen next (VarTerm n) = refl
  renamed-cells seen next (IntTerm z) = refl
  renamed-cells seen next (AtomTerm a) = refl
  renamed-cells seen next (Compound f ts) = rw (renamed-all_cells seen next ts, count-apply_all (renamed seen next) ts)

  renamed-all_cells : (seen : List ℕ) (next : ℕ) (ts : Terms) → map (renamed_cell seen next) (all_cells ts) ≡ all_cells (apply_all (renamed seen next) ts)
  renamed-all_cells seen next end = refl
  renamed-all_cells seen next (another t ts) = map-append (renamed_cell seen next) (cells_of t) (all_cells ts) ∙ rw (renamed-cells seen next t, renamed-all_cells seen next ts)

mutual
  seen_along-cells : (t : Term) (cs : List Cell) (seen : List ℕ) → occurrences_along (cells_of t ++ cs) seen ≡ occurrences_along cs (seen_in t seen)
  seen_along-cells (VarTerm n) cs seen = refl
  seen_along-cells (IntTerm z) cs seen = refl
  seen_along-cells (AtomTerm a) cs seen = refl
  seen_along-cells (Compound f ts) cs seen = seen_along-all ts cs seen

  seen_along-all : (ts : Terms) (cs : List Cell) (seen : List ℕ) → occurrences_along (all_cells ts ++ cs) seen ≡ occurrences_along cs (seen_in_all ts seen)
  seen_along-all end cs seen = refl
  seen_along-all (another t ts) cs seen =
      ap (λ ds. occurrences_along ds seen) (append_assoc (cells_of t) (all_cells ts) cs)
      ∙ (seen_along-cells t (all_cells ts ++ cs) seen ∙ seen_along-all ts cs (seen_in t seen))

pub seen_along-term : (t : Term) (seen : List ℕ) → occurrences_along (cells_of t) seen ≡ seen_in t seen
seen_along-term t seen = ap (λ cs. occurrences_along cs seen) (sym (append-nil (cells_of t))) ∙ seen_along-cells t [] seen

arity-renamed : (seen : List ℕ) (next : ℕ) (c : Cell) → arity (renamed_cell seen next c) ≡ arity c
arity-renamed seen next (VarCell n) = refl
arity-renamed seen next (IntCell z) = refl
arity-renamed seen next (AtomCell a) = refl
arity-renamed seen next (Functor f n) = refl

due-renamed : (due : ℕ) (seen : List ℕ) (next : ℕ) (cs : List Cell) → due_after due (map (renamed_cell seen next) cs) ≡ due_after due cs
due-renamed due seen next [] = refl
due-renamed due seen next (c ∷ cs) =
    ap (λ n. due_after (due - 1 + n) (map (renamed_cell seen next) cs)) (arity-renamed seen next c) ∙ due-renamed (due - 1 + arity c) seen next cs

-- so many cells of a term were copied
pub record Copying (t : Term) (before : List ℕ) (next : ℕ) (cells : List Cell) (i : ℕ) (seen : List ℕ) (built : List Cell) : Type 0 where
  pub cells_are : cells ≡ cells_of t
  pub left : occurrences_along (drop i cells) seen ≡ seen_in t before
  pub built_is : built ≡ map (renamed_cell (seen_in t before) next) (take i cells)

pub copying_begins : (t : Term) (before : List ℕ) (next : ℕ) (cells built : List Cell) → cells ≡ cells_of t → built ≡ [] → Copying t before next cells 0 before built
copying_begins t before next cells built e b = record { cells_are = e; left = ap (λ cs. occurrences_along cs before) e ∙ seen_along-term t before; built_is = b }

module _ (t : Term) (before : List ℕ) (next : ℕ) (cells : List Cell) (i : ℕ) (seen : List ℕ) (built : List Cell) (h : Copying t before next cells i seen built) where
  pub cell_due : i < length cells → 0 < due_after 1 built
  cell_due lt =
      let due = AreDue-at 1 (cells_of t) i (DueAfter-AreDue 1 (cells_of t) 0 (DueAfter-term t)) (subst (λ cs. i < length cs) h.cells_are lt) in
      let same : due_after 1 built ≡ due_after 1 (take i (cells_of t)) = ap (due_after 1) h.built_is ∙ (due-renamed 1 (seen_in t before) next (take i cells) ∙ ap (λ cs. due_after 1 (take i cs)) h.cells_are) in
      omega (arith, due, same)

  pub copying_more : (c d : Cell) (now : List ℕ) (then : List Cell) → i < length cells → c ≡ get_or cells i c → now ≡ occurrences_at c seen → d ≡ renamed_cell now next c → then ≡ built ++ d ∷ [] → Copying t before next cells (i + 1) now then
  copying_more c d now then lt is n e b =
      let here : drop i cells ≡ c ∷ drop (i + 1) cells = drop_more cells i c lt ∙ ap (λ y. y ∷ drop (i + 1) cells) (sym is) in
      let rest : occurrences_along (drop (i + 1) cells) now ≡ seen_in t before = ap (occurrences_along (drop (i + 1) cells)) n ∙ (sym (ap (λ cs. occurrences_along cs seen) here) ∙ h.left) in
      let all : Extends (occurrences_at c seen) (seen_in t before) = subst (Extends (occurrences_at c seen)) (ap (occurrences_along (drop (i + 1) cells)) (sym n) ∙ rest) (along_extends (drop (i + 1) cells) (occurrences_at c seen)) in
      let stays : d ≡ renamed_cell (seen_in t before) next c = e ∙ (ap (λ ns. renamed_cell ns next c) n ∙ cell_stays c seen (seen_in t before) next all) in
      record {
        cells_are = h.cells_are;
        left = rest;
        built_is = b ∙ (ap (λ cs. cs ++ d ∷ []) h.built_is ∙ (ap (λ x. map (renamed_cell (seen_in t before) next) (take i cells) ++ x ∷ []) stays ∙ sym (ap (map (renamed_cell (seen_in t before) next)) (taken cells i c lt is) ∙ map-append (renamed_cell (seen_in t before) next) (take i cells) (c ∷ []))));
      }
    where
      taken : (cs : List Cell) (k : ℕ) (e : Cell) → k < length cs → e ≡ get_or cs k e → take (k + 1) cs ≡ take k cs ++ e ∷ []
      taken [] k e lt is = absurd (omega arith)
      taken (x ∷ cs) zero e lt is = ap (λ y. y ∷ []) (sym is)
      taken (x ∷ cs) (suc k) e lt is = let s : suc k + 1 ≡ suc (k + 1) = omega arith in rw s (ap (λ zs. x ∷ zs) (taken cs k e (omega arith) is))

  pub copied_all : length cells ≤ i → (seen ≡ seen_in t before) × (built ≡ cells_of (apply (renamed (seen_in t before) next) t))
  copied_all le = (
    ap (λ cs. occurrences_along cs seen) (sym (drop_all i cells le)) ∙ h.left,
    h.built_is ∙ (ap (map (renamed_cell (seen_in t before) next)) (take_all i cells le ∙ h.cells_are) ∙ renamed-cells (seen_in t before) next t),
  )

pub copy_done : (u : Term) (built : List Cell) → built ≡ cells_of u → due_after 1 built ≡ 0
copy_done u built e = ap (due_after 1) e ∙ due_after-is 1 (cells_of u) 0 (DueAfter-term u)

pub copy_is : (t u : Term) (built : List Cell) → cells_of t ≡ built → built ≡ cells_of u → t ≡ u
copy_is t u built c e = sym (term_of-cells_of t) ∙ (ap term_of (c ∙ e) ∙ term_of-cells_of u)
