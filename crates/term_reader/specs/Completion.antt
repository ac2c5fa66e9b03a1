-- What a reader's stack stands for: how the tokens still to come complete it.
use Rattle.std.specs.Prelude.{ℕ, ◌≤◌, ◌<◌, Bool, List, [], ◌∷◌, length}
use Rattle.au_model.specs.Syntax.Tokens.{Token, token, Close, CloseList, CloseCurly, Comma, Bar, End}
use Rattle.au_model.specs.Syntax.Trees.{Tree, Trees, no_trees, more_trees, AtomTree, CompoundTree, one, two, cell}
use Rattle.au_model.specs.Terms.Forms.{nil_name, braces_name}
use Rattle.au_model.specs.Syntax.Operators.{Operator}
use Rattle.au_model.specs.Syntax.PostOperators.{right_bound}
use Rattle.au_model.specs.Syntax.Primaries.{Setting}
use Rattle.term_reader.specs.LeftToRight.{next_operator, ReadsOperand, ReadsRest}

-- what is open: brackets, items, a tail or arguments, with those before this one, the last first, a compound with its
-- name and place; and operators
pub data OpenFrame : Type 0 where
  Round : OpenFrame
  Braces : OpenFrame
  ItemOf : List Tree → OpenFrame
  TailOf : List Tree → OpenFrame
  ArgumentOf : List ℕ → ℕ → List Tree → OpenFrame
  PrefixOf : List ℕ → Operator → OpenFrame
  InfixOf : List ℕ → Operator → Tree → OpenFrame

-- the greatest priority of an operand that is due
abbrev pub bound_of : List OpenFrame → ℕ
bound_of [] = 1200
bound_of (Round ∷ k) = 1200
bound_of (Braces ∷ k) = 1200
bound_of (ItemOf ts ∷ k) = 999
bound_of (TailOf ts ∷ k) = 999
bound_of (ArgumentOf n place ts ∷ k) = 999
bound_of (PrefixOf n o ∷ k) = right_bound o
bound_of (InfixOf n o l ∷ k) = right_bound o

abbrev pub list_tree : List Tree → Tree → Tree
list_tree [] u = u
list_tree (t ∷ ts) u = list_tree ts (cell t u)

abbrev pub trees_of : List Tree → Trees → Trees
trees_of [] us = us
trees_of (t ∷ ts) us = trees_of ts (more_trees t us)

mutual
  -- an operand is expected: the tokens complete it all to the term
  pub data CompletesOperand (s : Setting) : List OpenFrame → List Token → Tree → Type 0 where
    by_operand : {k : List OpenFrame} {ts us : List Token} {t goal : Tree} → ReadsOperand s (bound_of k) ts us t → CompletesFrame s k us t goal → CompletesOperand s k ts goal

  -- an operand of this priority is there, and may go on
  pub data CompletesAfter (s : Setting) : List OpenFrame → List Token → Tree → ℕ → Tree → Type 0 where
    by_rest : {k : List OpenFrame} {us vs : List Token} {l t goal : Tree} {p : ℕ}
        → p ≤ bound_of k → ReadsRest s (next_operator s.ops (bound_of k) p us) (bound_of k) us l vs t → CompletesFrame s k vs t goal → CompletesAfter s k us l p goal

  -- an operand is whole
  pub data CompletesFrame (s : Setting) : List OpenFrame → List Token → Tree → Tree → Type 0 where
    over : {a : Bool} {t : Tree} → CompletesFrame s [] (token a End ∷ []) t t
    round : {k : List OpenFrame} {a : Bool} {us : List Token} {t goal : Tree} → CompletesAfter s k us t 0 goal → CompletesFrame s (Round ∷ k) (token a Close ∷ us) t goal
    braced : {k : List OpenFrame} {a : Bool} {us : List Token} {t goal : Tree} → CompletesAfter s k us (one braces_name t) 0 goal → CompletesFrame s (Braces ∷ k) (token a CloseCurly ∷ us) t goal
    item : {k : List OpenFrame} {a : Bool} {us : List Token} {t goal : Tree} {ts : List Tree} → CompletesOperand s (ItemOf (t ∷ ts) ∷ k) us goal → CompletesFrame s (ItemOf ts ∷ k) (token a Comma ∷ us) t goal
    bar : {k : List OpenFrame} {a : Bool} {us : List Token} {t goal : Tree} {ts : List Tree} → CompletesOperand s (TailOf (t ∷ ts) ∷ k) us goal → CompletesFrame s (ItemOf ts ∷ k) (token a Bar ∷ us) t goal
    last : {k : List OpenFrame} {a : Bool} {us : List Token} {t goal : Tree} {ts : List Tree} → CompletesAfter s k us (list_tree (t ∷ ts) (AtomTree nil_name)) 0 goal → CompletesFrame s (ItemOf ts ∷ k) (token a CloseList ∷ us) t goal
    tail : {k : List OpenFrame} {a : Bool} {us : List Token} {t goal : Tree} {ts : List Tree} → CompletesAfter s k us (list_tree ts t) 0 goal → CompletesFrame s (TailOf ts ∷ k) (token a CloseList ∷ us) t goal
    argument : {k : List OpenFrame} {a : Bool} {us : List Token} {t goal : Tree} {n : List ℕ} {place : ℕ} {ts : List Tree}
        → length ts < 65534 → CompletesOperand s (ArgumentOf n place (t ∷ ts) ∷ k) us goal → CompletesFrame s (ArgumentOf n place ts ∷ k) (token a Comma ∷ us) t goal
    final : {k : List OpenFrame} {a : Bool} {us : List Token} {t goal : Tree} {n : List ℕ} {place : ℕ} {ts : List Tree}
        → CompletesAfter s k us (CompoundTree n (trees_of (t ∷ ts) no_trees)) 0 goal → CompletesFrame s (ArgumentOf n place ts ∷ k) (token a Close ∷ us) t goal
    prefix : {k : List OpenFrame} {us : List Token} {t goal : Tree} {n : List ℕ} {o : Operator} → CompletesAfter s k us (one n t) o.priority goal → CompletesFrame s (PrefixOf n o ∷ k) us t goal
    infixes : {k : List OpenFrame} {us : List Token} {l t goal : Tree} {n : List ℕ} {o : Operator} → CompletesAfter s k us (two n l t) o.priority goal → CompletesFrame s (InfixOf n o l ∷ k) us t goal
