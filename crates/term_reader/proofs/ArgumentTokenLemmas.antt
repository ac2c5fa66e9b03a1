-- Arguments with other tokens after them.
use Rattle.std.proofs.Common.{◌≡◌, ℕ, zero, suc, ◌+◌, ◌≤◌, Bool, codes, List, ◌∷◌, ◌++◌, refl, sym, ap, subst, arith, append_assoc}
use Rattle.au_model.specs.Syntax.Tokens.{Token, token, Close, Comma}
use Rattle.au_model.specs.Syntax.Trees.{Tree, Trees, tree_count, no_trees, more_trees, two}
use Rattle.au_model.specs.Syntax.PostOperators.{comma}
use Rattle.au_model.specs.Syntax.Primaries.{Setting}
use Rattle.au_model.specs.Syntax.Spelling.{infixed, Operand, operand, Arguments, final, argument}
use Rattle.term_reader.specs.Brackets.{Balanced}
use Rattle.au_model.specs.Syntax.TextFaults.{Past, none, one_more}
use Rattle.term_reader.proofs.SameTokenLemmas.{comma-comma, comma-close, close-comma}
use Rattle.term_reader.proofs.PrefixReadingLemmas.{Front, split-twice, balanced-joined, operand-front}

-- some arguments, each with a comma after it; the last one may be followed by other tokens, or by a bracket
pub record PastFront (s : Setting) (n : ℕ) (us ws : List Token) : Type 0 where
  pub inside : List Token
  pub apart : Bool
  pub is : us ≡ inside ++ token apart Comma ∷ ws
  pub balanced : Balanced inside
  pub again : (a : Bool) (vs : List Token) → Past s n (inside ++ token a Comma ∷ vs) vs
  pub closed : (a : Bool) (vs : List Token) → (args : Trees) × (tree_count args ≡ n) × Arguments s (inside ++ token a Close ∷ vs) vs args

module _ (s : Setting) where
  past-one : (us ws : List Token) (a : Bool) (t : Tree) → Front s 999 (λ ys zs. Operand s 999 ys zs t) us (token a Comma ∷ ws) → PastFront s 1 us ws
  past-one us ws a t f = record {
    inside = f.front;
    apart = a;
    is = f.is;
    balanced = f.balanced;
    again = λ b vs. one_more (f.again (token b Comma ∷ vs) (comma-comma s.ops 999 a b ws vs)) none;
    closed = λ b vs. (more_trees t no_trees, refl, final (f.again (token b Close ∷ vs) (comma-close s.ops a b ws vs)));
  }

  past-more : (n : ℕ) (us zs ws : List Token) (a : Bool) (t : Tree) → Front s 999 (λ ys xs. Operand s 999 ys xs t) us (token a Comma ∷ zs) → PastFront s n zs ws → PastFront s (suc n) us ws
  past-more n us zs ws a t f g = record {
    inside = f.front ++ token a Comma ∷ g.inside;
    apart = g.apart;
    is = split-twice us f.front zs g.inside (token g.apart Comma ∷ ws) (token a Comma) f.is g.is;
    balanced = balanced-joined f.front g.inside a Comma (λ d. refl) f.balanced g.balanced;
    again = λ b vs.
        let P : List Token → Type 0 = λ ys. Past s (suc n) ys vs in
        subst P (sym (append_assoc f.front (token a Comma ∷ g.inside) (token b Comma ∷ vs)))
        (one_more (f.again (token a Comma ∷ g.inside ++ token b Comma ∷ vs) (comma-comma s.ops 999 a a zs _)) (g.again b vs));
    closed = λ b vs.
        let r = g.closed b vs in
        let P : List Token → Type 0 = λ ys. Arguments s ys vs (more_trees t r.0) in (
          more_trees t r.0,
          ap suc r.1,
          subst P (sym (append_assoc f.front (token a Comma ∷ g.inside) (token b Close ∷ vs)))
              (argument (f.again (token a Comma ∷ g.inside ++ token b Close ∷ vs) (comma-comma s.ops 999 a a zs _)) r.2),
        );
  }

pub past-front : (s : Setting) (n : ℕ) (us ws : List Token) → Past s (suc n) us ws → PastFront s (suc n) us ws
past-front s zero us ws (one_more {a = a} {t = t} op none) = past-one s us ws a t (operand-front op 999 (omega arith))
past-front s (suc n) us ws (one_more {us = zs} {a = a} {t = t} op p) = past-more s (suc n) us zs ws a t (operand-front op 999 (omega arith)) (past-front s n zs ws p)

-- the arguments up to a bracket, which may be followed by a comma
pub record ArgumentsFront (s : Setting) (us vs : List Token) (args : Trees) : Type 0 where
  pub inside : List Token
  pub apart : Bool
  pub is : us ≡ inside ++ token apart Close ∷ vs
  pub balanced : Balanced inside
  pub past : (a : Bool) (ws : List Token) → Past s (tree_count args) (inside ++ token a Comma ∷ ws) ws

module _ (s : Setting) where
  arguments-one : (us vs : List Token) (a : Bool) (t : Tree) → Front s 999 (λ ys zs. Operand s 999 ys zs t) us (token a Close ∷ vs) → ArgumentsFront s us vs (more_trees t no_trees)
  arguments-one us vs a t f = record {
    inside = f.front;
    apart = a;
    is = f.is;
    balanced = f.balanced;
    past = λ b ws. one_more (f.again (token b Comma ∷ ws) (close-comma s.ops a b vs ws)) none;
  }

  arguments-more : (us zs vs : List Token) (a : Bool) (t : Tree) (args : Trees) → Front s 999 (λ ys xs. Operand s 999 ys xs t) us (token a Comma ∷ zs) → ArgumentsFront s zs vs args → ArgumentsFront s us vs (more_trees t args)
  arguments-more us zs vs a t args f g = record {
    inside = f.front ++ token a Comma ∷ g.inside;
    apart = g.apart;
    is = split-twice us f.front zs g.inside (token g.apart Close ∷ vs) (token a Comma) f.is g.is;
    balanced = balanced-joined f.front g.inside a Comma (λ d. refl) f.balanced g.balanced;
    past = λ b ws.
        let P : List Token → Type 0 = λ ys. Past s (suc (tree_count args)) ys ws in
        subst P (sym (append_assoc f.front (token a Comma ∷ g.inside) (token b Comma ∷ ws)))
        (one_more (f.again (token a Comma ∷ g.inside ++ token b Comma ∷ ws) (comma-comma s.ops 999 a a zs _)) (g.past b ws));
  }

pub arguments-front : (s : Setting) (us vs : List Token) (args : Trees) → Arguments s us vs args → ArgumentsFront s us vs args
arguments-front s us vs args (final {a = a} {t = t} op) = arguments-one s us vs a t (operand-front op 999 (omega arith))
arguments-front s us vs all (argument {us = zs} {a = a} {t = t} {args = args} op i) = arguments-more s us zs vs a t args (operand-front op 999 (omega arith)) (arguments-front s zs vs args i)

-- with more arguments after them
pub past-arguments : (s : Setting) (n : ℕ) (us ws vs : List Token) (args : Trees) → Past s n us ws → Arguments s ws vs args → (all : Trees) × (tree_count all ≡ n + tree_count args) × Arguments s us vs all
past-arguments s zero us ws vs args none h = (args, omega arith, h)
past-arguments s (suc n) us ws vs args (one_more {us = zs} {t = t} op p) h =
    let r = past-arguments s n zs ws vs args p h in
    let e : suc (tree_count r.0) ≡ suc n + tree_count args = omega (arith, r.1) in
    (more_trees t r.0, e, argument op r.2)

-- ---- as one term between brackets

-- within a greater bound
widened : (s : Setting) (b bound : ℕ) (us vs : List Token) (a : Bool) (t : Tree) → b ≤ bound → Operand s b us (token a Close ∷ vs) t → Operand s bound us (token a Close ∷ vs) t
widened s b bound us vs a t h (operand {p = p} sp le e) = let i : p ≤ bound = omega (arith, h, le) in operand sp i refl

-- a comma, and a term after it
with-comma : (s : Setting) (us zs vs : List Token) (a b : Bool) (t u : Tree) → Operand s 999 us (token b Comma ∷ zs) t → Operand s 1000 zs (token a Close ∷ vs) u → Operand s 1000 us (token a Close ∷ vs) (two (codes ",") t u)
with-comma s us zs vs a b t u (operand {p = p} sp le e) h = operand (infixed {n = codes ","} {o = comma} sp refl le h) (omega arith) refl

past-thousand : (s : Setting) (n : ℕ) (us ws vs : List Token) (a : Bool) (t : Tree) → Past s n us ws → Operand s 999 ws (token a Close ∷ vs) t → (u : Tree) × Operand s 1000 us (token a Close ∷ vs) u
past-thousand s zero us ws vs a t none h = (t, widened s 999 1000 us vs a t (omega arith) h)
past-thousand s (suc n) us ws vs a t (one_more {us = zs} {a = b} {t = l} op p) h =
    let r = past-thousand s n zs ws vs a t p h in (two (codes ",") l r.0, with-comma s us zs vs a b l r.0 op r.1)

pub past-term : (s : Setting) (n : ℕ) (us ws vs : List Token) (a : Bool) (t : Tree) → Past s n us ws → Operand s 999 ws (token a Close ∷ vs) t → (u : Tree) × Operand s 1200 us (token a Close ∷ vs) u
past-term s n us ws vs a t p h = let r = past-thousand s n us ws vs a t p h in (r.0, widened s 1000 1200 us vs a r.0 (omega arith) r.1)

arguments-thousand : (s : Setting) (us vs : List Token) (args : Trees) → Arguments s us vs args → (a : Bool) × (u : Tree) × Operand s 1000 us (token a Close ∷ vs) u
arguments-thousand s us vs args (final {a = a} {t = t} op) = (a, t, widened s 999 1000 us vs a t (omega arith) op)
arguments-thousand s us vs all (argument {us = zs} {a = b} {t = l} {args = args} op i) =
    let r = arguments-thousand s zs vs args i in (r.0, two (codes ",") l r.1, with-comma s us zs vs r.0 b l r.1 op r.2)

pub arguments-term : (s : Setting) (us vs : List Token) (args : Trees) → Arguments s us vs args → (a : Bool) × (u : Tree) × Operand s 1200 us (token a Close ∷ vs) u
arguments-term s us vs args h = let r = arguments-thousand s us vs args h in (r.0, r.1, widened s 1000 1200 us vs r.0 r.1 (omega arith) r.2)
