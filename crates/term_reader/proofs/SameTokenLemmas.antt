-- Tokens that are the same to an operand in front of them, within a bound.
use Rattle.std.proofs.Common.{◌≡◌, ◌∙◌, ℕ, ◌≤◌, nat_le, Bool, false, not, ◌&&◌, List, [], ◌∷◌, ◌++◌, refl, sym, ap, arith}
use Rattle.au_model.specs.Syntax.Tokens.{Token, token, Close, CloseList, CloseCurly, Comma, Bar}
use Rattle.au_model.specs.Syntax.Operators.{OperatorTable}
use Rattle.au_model.specs.Syntax.PostOperators.{comma, fits, continues_with}
use Rattle.au_model.specs.Syntax.Primaries.{has_direct_open, has_direct_integer, prefix_is_atom}
use Rattle.term_reader.specs.Lookahead.{Lookahead, Free, Named, Lone, WithOperand, InList, InCurly, Joined, closes_list, closes_curly, is_plain_name_before, is_as_expected}
use Rattle.term_reader.proofs.LookaheadLemmas.{list-first, curly-first}
use Rattle.term_reader.proofs.PrimaryLemmas.{plain-alike, ends-same}

-- they begin and go on alike, as far as they are seen from there
pub record Alike (ops : OperatorTable) (bound : ℕ) (us vs : List Token) : Type 0 where
  pub opens_same : has_direct_open us ≡ has_direct_open vs
  pub counts_same : has_direct_integer us ≡ has_direct_integer vs
  pub alone_same : prefix_is_atom ops us ≡ prefix_is_atom ops vs
  pub list_same : closes_list us ≡ closes_list vs
  pub curly_same : closes_curly us ≡ closes_curly vs
  pub goes_same : (b p : ℕ) → b ≤ bound → continues_with ops b p us ≡ continues_with ops b p vs

opens-first : (t : Token) (us vs : List Token) → has_direct_open (t ∷ us) ≡ has_direct_open (t ∷ vs)
opens-first (token a x) us vs = refl

counts-first : (t : Token) (us vs : List Token) → has_direct_integer (t ∷ us) ≡ has_direct_integer (t ∷ vs)
counts-first (token a x) us vs = refl

alone-first : (ops : OperatorTable) (t : Token) (us vs : List Token) → has_direct_open us ≡ has_direct_open vs → has_direct_integer us ≡ has_direct_integer vs → prefix_is_atom ops (t ∷ us) ≡ prefix_is_atom ops (t ∷ vs)
alone-first ops (token a x) us vs e f = ends-same ops x us vs e f

-- with one token in front
pub alike-first : (ops : OperatorTable) (bound : ℕ) (t : Token) (us vs : List Token) → has_direct_open us ≡ has_direct_open vs → has_direct_integer us ≡ has_direct_integer vs → Alike ops bound (t ∷ us) (t ∷ vs)
alike-first ops bound t us vs e f = record {
  opens_same = opens-first t us vs;
  counts_same = counts-first t us vs;
  alone_same = alone-first ops t us vs e f;
  list_same = list-first t us vs;
  curly_same = curly-first t us vs;
  goes_same = λ b p h. refl;
}

-- and with some
pub alike-after : (ops : OperatorTable) (bound : ℕ) (ys us vs : List Token) → Alike ops bound us vs → Alike ops bound (ys ++ us) (ys ++ vs)
alike-after ops bound [] us vs h = h
alike-after ops bound (t ∷ ys) us vs h =
    let i = alike-after ops bound ys us vs h in alike-first ops bound t (ys ++ us) (ys ++ vs) i.opens_same i.counts_same

pub presumed-same : (ops : OperatorTable) (bound : ℕ) (us vs : List Token) → Alike ops bound us vs → (look : Lookahead) → is_as_expected ops look us ≡ is_as_expected ops look vs
presumed-same ops bound us vs h Free = refl
presumed-same ops bound us vs h (Named sign) = plain-alike sign us vs h.opens_same h.counts_same
presumed-same ops bound us vs h (Lone sign) =
    ap (λ z. z && prefix_is_atom ops us) (plain-alike sign us vs h.opens_same h.counts_same) ∙ ap (λ z. is_plain_name_before sign vs && z) h.alone_same
presumed-same ops bound us vs h (WithOperand sign) =
    ap (λ z. z && not (prefix_is_atom ops us)) (plain-alike sign us vs h.opens_same h.counts_same) ∙ ap (λ z. is_plain_name_before sign vs && not z) h.alone_same
presumed-same ops bound us vs h InList = ap not h.list_same
presumed-same ops bound us vs h InCurly = ap not h.curly_same
presumed-same ops bound us vs h (Joined x) = ends-same ops x us vs h.opens_same h.counts_same

-- a bracket that closes, whatever comes after it
pub close-close : (ops : OperatorTable) (bound : ℕ) (a b : Bool) (us vs : List Token) → Alike ops bound (token a Close ∷ us) (token b Close ∷ vs)
close-close ops bound a b us vs = record { opens_same = refl; counts_same = refl; alone_same = refl; list_same = refl; curly_same = refl; goes_same = λ c p h. refl }

pub list-list : (ops : OperatorTable) (bound : ℕ) (a b : Bool) (us vs : List Token) → Alike ops bound (token a CloseList ∷ us) (token b CloseList ∷ vs)
list-list ops bound a b us vs = record { opens_same = refl; counts_same = refl; alone_same = refl; list_same = refl; curly_same = refl; goes_same = λ c p h. refl }

pub curly-curly : (ops : OperatorTable) (bound : ℕ) (a b : Bool) (us vs : List Token) → Alike ops bound (token a CloseCurly ∷ us) (token b CloseCurly ∷ vs)
curly-curly ops bound a b us vs = record { opens_same = refl; counts_same = refl; alone_same = refl; list_same = refl; curly_same = refl; goes_same = λ c p h. refl }

pub bar-bar : (ops : OperatorTable) (bound : ℕ) (a b : Bool) (us vs : List Token) → Alike ops bound (token a Bar ∷ us) (token b Bar ∷ vs)
bar-bar ops bound a b us vs = record { opens_same = refl; counts_same = refl; alone_same = refl; list_same = refl; curly_same = refl; goes_same = λ c p h. refl }

pub comma-comma : (ops : OperatorTable) (bound : ℕ) (a b : Bool) (us vs : List Token) → Alike ops bound (token a Comma ∷ us) (token b Comma ∷ vs)
comma-comma ops bound a b us vs = record { opens_same = refl; counts_same = refl; alone_same = refl; list_same = refl; curly_same = refl; goes_same = λ c p h. refl }

-- an argument ends at a comma as at a bracket
comma-high : (b p : ℕ) → b ≤ 999 → fits b p comma ≡ false
comma-high b p h = let e : nat_le 1000 b ≡ false = grind arith in rw e refl

pub comma-close : (ops : OperatorTable) (a b : Bool) (us vs : List Token) → Alike ops 999 (token a Comma ∷ us) (token b Close ∷ vs)
comma-close ops a b us vs = record { opens_same = refl; counts_same = refl; alone_same = refl; list_same = refl; curly_same = refl; goes_same = λ c p h. comma-high c p h }

pub close-comma : (ops : OperatorTable) (a b : Bool) (us vs : List Token) → Alike ops 999 (token a Close ∷ us) (token b Comma ∷ vs)
close-comma ops a b us vs = record { opens_same = refl; counts_same = refl; alone_same = refl; list_same = refl; curly_same = refl; goes_same = λ c p h. sym (comma-high c p h) }
