-- The same readings from the left to the right: a term's beginning, and then each operator that goes on.
use Rattle.std.specs.Prelude.{ℕ, ◌≤◌, Bool, List, [], ◌∷◌, if◌then◌else◌}
use Rattle.au_model.specs.Syntax.Tokens.{Token, token, Close, CloseList, CloseCurly, Comma, Bar}
use Rattle.au_model.specs.Syntax.Trees.{Tree, Trees, no_trees, more_trees, CompoundTree, AtomTree, tree_count, one, two, cell}
use Rattle.au_model.specs.Terms.Forms.{nil_name, braces_name}
use Rattle.au_model.specs.Syntax.Operators.{OperatorTable, Operator}
use Rattle.au_model.specs.Syntax.PostOperators.{PostOperator, Infix, Postfix, Nothing, right_bound, token_post_operator, fits}
use Rattle.au_model.specs.Syntax.Primaries.{Setting, Primary, Leaf, Bracket, Curly, Listed, Call, Prefix, primary_of}

-- how an operand goes on
pub data NextOperator : Type 0 where
  Stop : NextOperator
  OnInfix : List ℕ → Operator → List Token → NextOperator
  OnPostfix : List ℕ → Operator → List Token → NextOperator

abbrev pub next_by_operator : ℕ → ℕ → PostOperator → List Token → NextOperator
next_by_operator bound p (Infix n o) ts = if fits bound p o then OnInfix n o ts else Stop
next_by_operator bound p (Postfix n o) ts = if fits bound p o then OnPostfix n o ts else Stop
next_by_operator bound p Nothing ts = Stop

abbrev pub next_operator : OperatorTable → ℕ → ℕ → List Token → NextOperator
next_operator ops bound p [] = Stop
next_operator ops bound p (x ∷ ts) = next_by_operator bound p (token_post_operator ops x) ts

mutual
  pub data ReadsOperand (s : Setting) : ℕ → List Token → List Token → Tree → Type 0 where
    whole : {bound : ℕ} {ts us vs : List Token} {l t : Tree} {p : ℕ}
        → ReadsPrimary s (primary_of s ts) us l p → p ≤ bound → ReadsRest s (next_operator s.ops bound p us) bound us l vs t → ReadsOperand s bound ts vs t

  -- what goes on after a left operand
  pub data ReadsRest (s : Setting) : NextOperator → ℕ → List Token → Tree → List Token → Tree → Type 0 where
    stop : {bound : ℕ} {us : List Token} {l : Tree} → ReadsRest s Stop bound us l us l
    on_infix : {bound : ℕ} {us vs ws zs : List Token} {l r t : Tree} {n : List ℕ} {o : Operator}
        → ReadsOperand s (right_bound o) vs ws r → ReadsRest s (next_operator s.ops bound o.priority ws) bound ws (two n l r) zs t → ReadsRest s (OnInfix n o vs) bound us l zs t
    on_postfix : {bound : ℕ} {us vs zs : List Token} {l t : Tree} {n : List ℕ} {o : Operator}
        → ReadsRest s (next_operator s.ops bound o.priority vs) bound vs (one n l) zs t → ReadsRest s (OnPostfix n o vs) bound us l zs t

  pub data ReadsPrimary (s : Setting) : Primary → List Token → Tree → ℕ → Type 0 where
    leaf : {t : Tree} {us : List Token} → ReadsPrimary s (Leaf t us) us t 0
    bracket : {ts us : List Token} {a : Bool} {t : Tree} → ReadsOperand s 1200 ts (token a Close ∷ us) t → ReadsPrimary s (Bracket ts) us t 0
    curly : {ts us : List Token} {a : Bool} {t : Tree} → ReadsOperand s 1200 ts (token a CloseCurly ∷ us) t → ReadsPrimary s (Curly ts) us (one braces_name t) 0
    listed : {ts us : List Token} {t : Tree} → ReadsItems s ts us t → ReadsPrimary s (Listed ts) us t 0
    called : {ts us : List Token} {n : List ℕ} {args : Trees} → ReadsArguments s ts us args → tree_count args ≤ 65535 → ReadsPrimary s (Call n ts) us (CompoundTree n args) 0
    prefixed : {ts us : List Token} {n : List ℕ} {o : Operator} {t : Tree} → ReadsOperand s (right_bound o) ts us t → ReadsPrimary s (Prefix n o ts) us (one n t) o.priority

  pub data ReadsItems (s : Setting) : List Token → List Token → Tree → Type 0 where
    last : {ts us : List Token} {a : Bool} {t : Tree} → ReadsOperand s 999 ts (token a CloseList ∷ us) t → ReadsItems s ts us (cell t (AtomTree nil_name))
    barred : {ts us vs : List Token} {a b : Bool} {t u : Tree}
        → ReadsOperand s 999 ts (token a Bar ∷ us) t → ReadsOperand s 999 us (token b CloseList ∷ vs) u → ReadsItems s ts vs (cell t u)
    item : {ts us vs : List Token} {a : Bool} {t u : Tree} → ReadsOperand s 999 ts (token a Comma ∷ us) t → ReadsItems s us vs u → ReadsItems s ts vs (cell t u)

  pub data ReadsArguments (s : Setting) : List Token → List Token → Trees → Type 0 where
    final : {ts us : List Token} {a : Bool} {t : Tree} → ReadsOperand s 999 ts (token a Close ∷ us) t → ReadsArguments s ts us (more_trees t no_trees)
    argument : {ts us vs : List Token} {a : Bool} {t : Tree} {args : Trees}
        → ReadsOperand s 999 ts (token a Comma ∷ us) t → ReadsArguments s us vs args → ReadsArguments s ts vs (more_trees t args)
