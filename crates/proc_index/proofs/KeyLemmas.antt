-- Keys of first arguments.
use Rattle.std.proofs.Common.{◌≡◌, Bool, true, false, ◌||◌, ◌&&◌, ◌==◌, List, ◌∷◌, ◌++◌, ◌≤◌, length, length-append, refl, sym, ap, ◌∙◌, arith}
use Rattle.std.specs.BTreeMap.{is_at}
use Rattle.std.specs.Cmp.Lexicographic.{same_text}
use Rattle.std.proofs.lemmas.Bool.Decides.{Decides-int_eq}
use Rattle.std.proofs.lemmas.Bool.{eqb-true}
use Rattle.proc_index.specs.ProcedureIndex.{key_cmp}
use Rattle.au_term.proofs.SubtermLemmas.{some_cell}
use Rattle.au_term.specs.Term.{Term, VarTerm, IntTerm, AtomTerm, Compound, Terms, end, more, arguments}
use Rattle.au_term.specs.PrefixOrder.{cells_of, all_cells, top_of}
use Rattle.au_term.specs.declared.cell.Cell.{Cell}
use Rattle.au_model.specs.Terms.Forms.{same_name}
use Rattle.proc_index.specs.contracts.key.KeyPartialEq.TheImpl as key_eq
use Rattle.proc_index.specs.contracts.key.KeyOrd.TheImpl.Laws as order_laws
use Rattle.proc_index.specs.contracts.key.KeyEq.TheImpl.Laws as equality_laws
use Rattle.proc_index.specs.declared.key.Key.{Key}
use Rattle.proc_index.specs.declared.key.Key.TheVariants.{Any, Int, Atom, Functor}
use Rattle.proc_index.specs.Keys.{has_key, first_has, may_match, cell_key, key_of, first_key_of, head_key, is_any, same_key}

or_false : (b : Bool) → b ≡ (false || b)
or_false b = refl

term_match : (k : Key) (t : Term) → is_any k ≡ false → has_key k t ≡ (is_any (key_of t) || same_key k (key_of t))
term_match Any t e = absurd cc
term_match (Int z) (VarTerm n) e = refl
term_match (Int z) (IntTerm y) e = refl
term_match (Int z) (AtomTerm b) e = refl
term_match (Int z) (Compound g ts) e = refl
term_match (Atom a) (VarTerm n) e = refl
term_match (Atom a) (IntTerm y) e = refl
term_match (Atom a) (AtomTerm b) e = refl
term_match (Atom a) (Compound g ts) e = refl
term_match (Functor f m) (VarTerm n) e = refl
term_match (Functor f m) (IntTerm y) e = refl
term_match (Functor f m) (AtomTerm b) e = refl
term_match (Functor f m) (Compound g ts) e = refl

first_match : (k : Key) (ts : Terms) → is_any k ≡ false → first_has k ts ≡ (is_any (first_key_of ts) || same_key k (first_key_of ts))
first_match k end e = refl
first_match k (more t ts) e = term_match k t e

pub match_by_key : (k : Key) (head : Term) → is_any k ≡ false → may_match k head ≡ (is_any (head_key head) || same_key k (head_key head))
match_by_key k head e = first_match k (arguments head) e

pub any_match : (ts : Terms) → first_has Any ts ≡ true
any_match end = refl
any_match (more t ts) = refl

pub all_match : (k : Key) (head : Term) → is_any k ≡ true → may_match k head ≡ true
all_match Any head e = any_match (arguments head)
all_match (Int z) head e = absurd cc
all_match (Atom a) head e = absurd cc
all_match (Functor f n) head e = absurd cc

pub any_or_same : (k key : Key) → (is_any key && same_key k key) ≡ false
any_or_same Any key = and_false (is_any key)
  where
    and_false : (b : Bool) → (b && false) ≡ false
    and_false true = refl
    and_false false = refl
any_or_same (Int z) Any = refl
any_or_same (Atom a) Any = refl
any_or_same (Functor f n) Any = refl
any_or_same k (Int z) = refl
any_or_same k (Atom a) = refl
any_or_same k (Functor f n) = refl

pub top_key : (t : Term) → cell_key (top_of t) ≡ key_of t
top_key (VarTerm n) = refl
top_key (IntTerm z) = refl
top_key (AtomTerm a) = refl
top_key (Compound f ts) = refl

-- the first argument's cell is the second one of a head with arguments
first_is : (t : Term) (es : List Cell) (d : Cell) (cs : List Cell) → d ∷ cs ≡ cells_of t ++ es → d ≡ top_of t
first_is (VarTerm n) es d cs e = cc
first_is (IntTerm n) es d cs e = cc
first_is (AtomTerm n) es d cs e = cc
first_is (Compound g us) es d cs e = cc

pub second_key : (t : Term) (c d : Cell) (cs : List Cell) → c ∷ d ∷ cs ≡ cells_of t → cell_key d ≡ head_key t
second_key (VarTerm n) c d cs e = absurd cc
second_key (IntTerm n) c d cs e = absurd cc
second_key (AtomTerm n) c d cs e = absurd cc
second_key (Compound f end) c d cs e = absurd cc
second_key (Compound f (more t ts)) c d cs e = ap cell_key (first_is t (all_cells ts) d cs cc) ∙ top_key t

pub no_key : (t : Term) → length (cells_of t) ≤ 1 → Any ≡ head_key t
no_key (VarTerm n) h = refl
no_key (IntTerm n) h = refl
no_key (AtomTerm n) h = refl
no_key (Compound f end) h = refl
no_key (Compound f (more t ts)) h = absurd (omega (arith, length-append (cells_of t) (all_cells ts), some_cell t))

-- the map's order tells keys apart as they are
same_eq : (k l : Key) → is_any k ≡ false → (key_eq.ghosts).eq k l ≡ same_key k l
same_eq Any l a = absurd cc
same_eq (Int z) Any a = refl
same_eq (Int z) (Int y) a = refl
same_eq (Int z) (Atom b) a = refl
same_eq (Int z) (Functor g m) a = refl
same_eq (Atom b) Any a = refl
same_eq (Atom b) (Int y) a = refl
same_eq (Atom b) (Atom c) a = refl
same_eq (Atom b) (Functor g m) a = refl
same_eq (Functor f n) Any a = refl
same_eq (Functor f n) (Int y) a = refl
same_eq (Functor f n) (Atom c) a = refl
same_eq (Functor f n) (Functor g m) a = refl

pub same_key_is : (k l : Key) → same_key k l ≡ true → k ≡ l
same_key_is Any l e = absurd cc
same_key_is (Int z) Any e = absurd cc
same_key_is (Int z) (Int y) e = ap Int ((Decides-int_eq z y).0 e)
same_key_is (Int z) (Atom b) e = absurd cc
same_key_is (Int z) (Functor g m) e = absurd cc
same_key_is (Atom b) Any e = absurd cc
same_key_is (Atom b) (Int y) e = absurd cc
same_key_is (Atom b) (Atom c) e = ap Atom (same_text b c (sym e))
same_key_is (Atom b) (Functor g m) e = absurd cc
same_key_is (Functor f n) Any e = absurd cc
same_key_is (Functor f n) (Int y) e = absurd cc
same_key_is (Functor f n) (Atom c) e = absurd cc
same_key_is (Functor f n) (Functor g m) e = by_parts (same_name f g) (n == m) refl refl e
  where
    by_parts : (a b : Bool) → same_name f g ≡ a → (n == m) ≡ b → (a && b) ≡ true → Functor f n ≡ Functor g m
    by_parts true true p q h = let names = same_text f g (sym p) in let numbers = eqb-true n m q in cc
    by_parts true false p q h = absurd cc
    by_parts false b p q h = absurd cc

pub same_key_self : (k : Key) → is_any k ≡ false → same_key k k ≡ true
same_key_self k a = sym (same_eq k k a) ∙ equality_laws.laws-law.refl k

other_order : (k own : Key) (b c : Bool) → is_any own ≡ false → same_key own k ≡ b → same_key k own ≡ c → b ≡ c
other_order k own true true a p q = refl
other_order k own true false a p q = let same = same_key_is own k p in let self = ap (λ l. same_key l own) same ∙ q in let yes = same_key_self own a in cc
other_order k own false true a p q = let same = same_key_is k own q in let self = ap (same_key own) same ∙ same_key_self own a in cc
other_order k own false false a p q = refl

pub key_tied : (own k : Key) → is_any own ≡ false → is_at (key_cmp own) k ≡ same_key k own
key_tied own k a = sym (order_laws.matches_eq-law own k) ∙ (same_eq own k a ∙ other_order k own (same_key own k) (same_key k own) a refl refl)
