-- The spelling of terms: a rule for each form (ISO/IEC 13211-1, 6.3).
use Rattle.std.specs.Prelude.{◌≡◌, ℕ, ◌≤◌, Bool, false, List, ◌∷◌}
use Rattle.au_model.specs.Syntax.Operators.{Operator}
use Rattle.au_model.specs.Syntax.Tokens.{Lexeme, Token, token, Close, CloseList, CloseCurly, Comma, Bar}
use Rattle.au_model.specs.Syntax.Trees.{Tree, Trees, CompoundTree, AtomTree, no_trees, more_trees, tree_count, one, two, cell}
use Rattle.au_model.specs.Terms.Forms.{nil_name, braces_name}
use Rattle.au_model.specs.Syntax.PostOperators.{Infix, Postfix, left_bound, right_bound, lexeme_post_operator, continues_with}
use Rattle.au_model.specs.Syntax.Primaries.{Setting, Primary, Leaf, Bracket, Curly, Listed, Call, Prefix, primary_of}

mutual
  -- The first tokens up to the second ones spell the term, of this priority. What is from the second on is not read.
  pub data Spelled (s : Setting) : List Token → List Token → Tree → ℕ → Type 0 where
    form : {ts us : List Token} {t : Tree} {p : ℕ} → Form s (primary_of s ts) us t p → Spelled s ts us t p
    infixed : {ts us vs : List Token} {a : Bool} {x : Lexeme} {l r : Tree} {p : ℕ} {n : List ℕ} {o : Operator}
        → Spelled s ts (token a x ∷ us) l p → lexeme_post_operator s.ops x ≡ Infix n o → p ≤ left_bound o → Operand s (right_bound o) us vs r → Spelled s ts vs (two n l r) o.priority
    postfixed : {ts us : List Token} {a : Bool} {x : Lexeme} {l : Tree} {p : ℕ} {n : List ℕ} {o : Operator}
        → Spelled s ts (token a x ∷ us) l p → lexeme_post_operator s.ops x ≡ Postfix n o → p ≤ left_bound o → Spelled s ts us (one n l) o.priority

  -- A term of at most this priority that takes as much as the bound allows: it does not go on with what follows.
  pub data Operand (s : Setting) : ℕ → List Token → List Token → Tree → Type 0 where
    operand : {bound : ℕ} {ts us : List Token} {t : Tree} {p : ℕ}
        → Spelled s ts us t p → p ≤ bound → continues_with s.ops bound p us ≡ false → Operand s bound ts us t

  -- by how it begins
  pub data Form (s : Setting) : Primary → List Token → Tree → ℕ → Type 0 where
    leaf : {t : Tree} {us : List Token} → Form s (Leaf t us) us t 0
    bracket : {ts us : List Token} {a : Bool} {t : Tree} → Operand s 1200 ts (token a Close ∷ us) t → Form s (Bracket ts) us t 0
    curly : {ts us : List Token} {a : Bool} {t : Tree} → Operand s 1200 ts (token a CloseCurly ∷ us) t → Form s (Curly ts) us (one braces_name t) 0
    listed : {ts us : List Token} {t : Tree} → Items s ts us t → Form s (Listed ts) us t 0
    called : {ts us : List Token} {n : List ℕ} {args : Trees} → Arguments s ts us args → tree_count args ≤ 65535 → Form s (Call n ts) us (CompoundTree n args) 0
    prefixed : {ts us : List Token} {n : List ℕ} {o : Operator} {t : Tree} → Operand s (right_bound o) ts us t → Form s (Prefix n o ts) us (one n t) o.priority

  -- after `[` or a comma
  pub data Items (s : Setting) : List Token → List Token → Tree → Type 0 where
    last : {ts us : List Token} {a : Bool} {t : Tree} → Operand s 999 ts (token a CloseList ∷ us) t → Items s ts us (cell t (AtomTree nil_name))
    barred : {ts us vs : List Token} {a b : Bool} {t u : Tree}
        → Operand s 999 ts (token a Bar ∷ us) t → Operand s 999 us (token b CloseList ∷ vs) u → Items s ts vs (cell t u)
    item : {ts us vs : List Token} {a : Bool} {t u : Tree} → Operand s 999 ts (token a Comma ∷ us) t → Items s us vs u → Items s ts vs (cell t u)

  -- after a compound's bracket or a comma
  pub data Arguments (s : Setting) : List Token → List Token → Trees → Type 0 where
    final : {ts us : List Token} {a : Bool} {t : Tree} → Operand s 999 ts (token a Close ∷ us) t → Arguments s ts us (more_trees t no_trees)
    argument : {ts us vs : List Token} {a : Bool} {t : Tree} {args : Trees}
        → Operand s 999 ts (token a Comma ∷ us) t → Arguments s us vs args → Arguments s ts vs (more_trees t args)
