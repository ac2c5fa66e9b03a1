-- No end is inside a term.
use Rattle.std.proofs.Common.{◌≡◌, ◌∙◌, ℕ, ◌^◌, nat_lt, pos, Bool, true, false, ◌&&◌, List, [], ◌∷◌, Option, Some, None, refl, ap, if◌then◌else◌}
use Rattle.au_term.proofs.LogicLemmas.{and-right}
use Rattle.au_model.specs.Syntax.Operators.{Operator, OperatorTable, prefix_of}
use Rattle.au_model.specs.Syntax.PostOperators.{lexeme_post_operator}
use Rattle.au_model.specs.Syntax.Primaries.{Setting, Primary, Leaf, Bracket, Curly, Listed, Call, Prefix, Fails, has_direct_open, has_direct_integer, is_minus_name, is_post_operator, tokens_after, negated, prefix_is_atom, prefix_or_atom, name_primary, atom_primary, list_primary, curly_primary, primary_of}
use Rattle.au_model.specs.Syntax.Spelling.{Spelled, form, infixed, postfixed, Operand, operand, Form, leaf, bracket, curly, listed, called, prefixed, Items, last, barred, item, Arguments, final, argument}
use Rattle.au_model.specs.Syntax.Tokens.{Lexeme, Name, QuotedName, Variable, Integer, Text, Open, OpenList, OpenCurly, CloseList, CloseCurly, End, Token, token, is_end}
use Rattle.au_model.specs.Syntax.Trees.{Tree, Trees, IntTree, AtomTree}
use Rattle.au_model.specs.Terms.Forms.{nil_name, braces_name}

-- from the first end on
abbrev pub from_end : List Token → List Token
from_end [] = []
from_end (token a x ∷ ts) = if is_end x then token a x ∷ ts else from_end ts

pub end-later : (a : Bool) (x : Lexeme) (ts : List Token) → is_end x ≡ false → from_end (token a x ∷ ts) ≡ from_end ts
end-later a x ts e = rw e refl

-- what is left after a term's beginning has the same end first
abbrev EndsAs : List Token → Primary → Type 0
EndsAs end (Leaf t us) = end ≡ from_end us
EndsAs end (Bracket us) = end ≡ from_end us
EndsAs end (Curly us) = end ≡ from_end us
EndsAs end (Listed us) = end ≡ from_end us
EndsAs end (Call n us) = end ≡ from_end us
EndsAs end (Prefix n o us) = end ≡ from_end us
EndsAs end Fails = Unit {0}

opens-end : (ts : List Token) → has_direct_open ts ≡ true → from_end ts ≡ from_end (tokens_after ts)
opens-end [] e = let z : ⊥ = cc in absurd z
opens-end (token a Open ∷ ts) e = refl
opens-end (token a x ∷ ts) e = let z : ⊥ = cc in absurd z

counts-end : (ts : List Token) → has_direct_integer ts ≡ true → from_end ts ≡ from_end (tokens_after ts)
counts-end [] e = let z : ⊥ = cc in absurd z
counts-end (token a (Integer k) ∷ ts) e = refl
counts-end (token a x ∷ ts) e = let z : ⊥ = cc in absurd z

prefix-end : (ops : OperatorTable) (n : List ℕ) (o : Option Operator) (ts : List Token) → EndsAs (from_end ts) (prefix_or_atom ops n o ts)
prefix-end ops n None ts = refl
prefix-end ops n (Some o) ts = go (prefix_is_atom ops ts) where
  go : (b : Bool) → EndsAs (from_end ts) (if b then Leaf (AtomTree n) ts else Prefix n o ts)
  go true = refl
  go false = refl

name-end : (ops : OperatorTable) (sign : Bool) (n : List ℕ) (ts : List Token) → EndsAs (from_end ts) (name_primary ops sign n ts)
name-end ops sign n ts = go (has_direct_open ts) refl where
  signed : (b : Bool) → (sign && has_direct_integer ts) ≡ b → EndsAs (from_end ts) (if b then Leaf (IntTree (negated ts)) (tokens_after ts) else prefix_or_atom ops n (prefix_of ops n) ts)
  signed true e = counts-end ts (and-right sign (has_direct_integer ts) e)
  signed false e = prefix-end ops n (prefix_of ops n) ts

  go : (b : Bool) → has_direct_open ts ≡ b
      → EndsAs (from_end ts) (if b then Call n (tokens_after ts) else if sign && has_direct_integer ts then Leaf (IntTree (negated ts)) (tokens_after ts) else prefix_or_atom ops n (prefix_of ops n) ts)
  go true e = opens-end ts e
  go false e = signed (sign && has_direct_integer ts) refl

atom-end : (n : List ℕ) (ts : List Token) → EndsAs (from_end ts) (atom_primary n ts)
atom-end n ts = go (has_direct_open ts) refl where
  go : (b : Bool) → has_direct_open ts ≡ b → EndsAs (from_end ts) (if b then Call n (tokens_after ts) else Leaf (AtomTree n) ts)
  go true e = opens-end ts e
  go false e = refl

list-end : (ts : List Token) → EndsAs (from_end ts) (list_primary ts)
list-end [] = refl
list-end (token a CloseList ∷ ts) = atom-end nil_name ts
list-end (token a x ∷ ts) = refl

curly-end : (ts : List Token) → EndsAs (from_end ts) (curly_primary ts)
curly-end [] = refl
curly-end (token a CloseCurly ∷ ts) = atom-end braces_name ts
curly-end (token a x ∷ ts) = refl

integer-end : (s : Setting) (a : Bool) (k : ℕ) (ts : List Token) → EndsAs (from_end ts) (primary_of s (token a (Integer k) ∷ ts))
integer-end s a k ts = go (nat_lt k (2 ^ 63)) where
  go : (b : Bool) → EndsAs (from_end ts) (if b then Leaf (IntTree (pos k)) ts else Fails)
  go true = refl
  go false = tt

primary-end : (s : Setting) (ts : List Token) → EndsAs (from_end ts) (primary_of s ts)
primary-end s [] = tt
primary-end s (token a (Name n) ∷ ts) = name-end s.ops (is_minus_name n) n ts
primary-end s (token a (QuotedName n) ∷ ts) = name-end s.ops false n ts
primary-end s (token a (Variable n) ∷ ts) = refl
primary-end s (token a (Integer k) ∷ ts) = integer-end s a k ts
primary-end s (token a (Text cs) ∷ ts) = refl
primary-end s (token a Open ∷ ts) = refl
primary-end s (token a OpenList ∷ ts) = list-end ts
primary-end s (token a OpenCurly ∷ ts) = curly-end ts
primary-end s (token a x ∷ ts) = tt

joins-end : (ops : OperatorTable) (a : Bool) (x : Lexeme) (us : List Token) → is_post_operator (lexeme_post_operator ops x) ≡ true → from_end (token a x ∷ us) ≡ from_end us
joins-end ops a End us e = let z : ⊥ = cc in absurd z
joins-end ops a x us e = refl

mutual
  spelled-end : {s : Setting} {ts us : List Token} {t : Tree} {p : ℕ} → Spelled s ts us t p → from_end ts ≡ from_end us
  spelled-end {s = s} {ts = ts} (form f) = form-end (from_end ts) f (primary-end s ts)
  spelled-end {s = s} (infixed {us = us} {a = a} {x = x} sp e le op) = spelled-end sp ∙ (joins-end s.ops a x us (ap is_post_operator e) ∙ operand-end op)
  spelled-end {s = s} (postfixed {us = us} {a = a} {x = x} sp e le) = spelled-end sp ∙ joins-end s.ops a x us (ap is_post_operator e)

  -- what is left after a term has the same end first
  pub operand-end : {s : Setting} {bound : ℕ} {ts us : List Token} {t : Tree} → Operand s bound ts us t → from_end ts ≡ from_end us
  operand-end (operand sp le e) = spelled-end sp

  form-end : {s : Setting} {k : Primary} {us : List Token} {t : Tree} {p : ℕ} (end : List Token) → Form s k us t p → EndsAs end k → end ≡ from_end us
  form-end end leaf e = e
  form-end end (bracket op) e = e ∙ operand-end op
  form-end end (curly op) e = e ∙ operand-end op
  form-end end (listed i) e = e ∙ items-end i
  form-end end (called i le) e = e ∙ arguments-end i
  form-end end (prefixed op) e = e ∙ operand-end op

  items-end : {s : Setting} {ts us : List Token} {t : Tree} → Items s ts us t → from_end ts ≡ from_end us
  items-end (last op) = operand-end op
  items-end (barred op tail) = operand-end op ∙ operand-end tail
  items-end (item op i) = operand-end op ∙ items-end i

  arguments-end : {s : Setting} {ts us : List Token} {args : Trees} → Arguments s ts us args → from_end ts ≡ from_end us
  arguments-end (final op) = operand-end op
  arguments-end (argument op i) = operand-end op ∙ arguments-end i
