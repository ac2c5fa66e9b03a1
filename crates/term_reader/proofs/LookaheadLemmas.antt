-- What is presumed of tokens.
use Rattle.std.proofs.Common.{◌≡◌, ◌∙◌, ℕ, Bool, true, false, not, ◌&&◌, List, [], ◌∷◌, refl, sym, ap}
use Rattle.au_model.specs.Syntax.Tokens as words
use Rattle.au_model.specs.Syntax.Tokens.{Lexeme, Token, token}
use Rattle.au_model.specs.Syntax.Operators.{OperatorTable, prefix_of}
use Rattle.au_model.specs.Syntax.PostOperators.{named_post_operator}
use Rattle.au_model.specs.Syntax.Primaries.{has_direct_open, has_direct_integer, is_post_operator, is_some_operator, is_operator_here, is_minus, ends_operand_before, prefix_is_atom}
use Rattle.au_model.specs.Syntax.Trees.{Tree}
use Rattle.term_reader.specs.Completion as stack
use Rattle.term_reader.specs.Completion.{OpenFrame}
use Rattle.term_reader.specs.Lookahead.{Lookahead, Free, Named, Lone, WithOperand, InList, InCurly, Joined, closes_list, closes_curly, is_plain_name_before, is_as_expected}
use Rattle.term_reader.specs.Positions.{Position, ExpectsOperand, AfterOperand, SuitsLookahead}
use Rattle.term_reader.proofs.CompletionLemmas.{closing, completion}
use Rattle.au_term.proofs.LogicLemmas.{and-left, and-right, and-both}

-- ---- tokens that end an operand, and one that is an operand

-- nothing is opened or counted
pub record IsQuiet (ts : List Token) : Type 0 where
  pub no_open : has_direct_open ts ≡ false
  pub no_count : has_direct_integer ts ≡ false

pub closing-quiet : (k : List OpenFrame) → IsQuiet (closing k)
closing-quiet [] = record { no_open = refl; no_count = refl }
closing-quiet (stack.Round ∷ k) = record { no_open = refl; no_count = refl }
closing-quiet (stack.Braces ∷ k) = record { no_open = refl; no_count = refl }
closing-quiet (stack.ItemOf ts ∷ k) = record { no_open = refl; no_count = refl }
closing-quiet (stack.TailOf ts ∷ k) = record { no_open = refl; no_count = refl }
closing-quiet (stack.ArgumentOf n w ts ∷ k) = record { no_open = refl; no_count = refl }
closing-quiet (stack.PrefixOf n o ∷ k) = closing-quiet k
closing-quiet (stack.InfixOf n o l ∷ k) = closing-quiet k

pub closing-alone : (ops : OperatorTable) (k : List OpenFrame) → prefix_is_atom ops (closing k) ≡ true
closing-alone ops [] = refl
closing-alone ops (stack.Round ∷ k) = refl
closing-alone ops (stack.Braces ∷ k) = refl
closing-alone ops (stack.ItemOf ts ∷ k) = refl
closing-alone ops (stack.TailOf ts ∷ k) = refl
closing-alone ops (stack.ArgumentOf n w ts ∷ k) = refl
closing-alone ops (stack.PrefixOf n o ∷ k) = closing-alone ops k
closing-alone ops (stack.InfixOf n o l ∷ k) = closing-alone ops k

pub completion-quiet : (x : Position) → IsQuiet (completion x)
completion-quiet (ExpectsOperand k) = record { no_open = refl; no_count = refl }
completion-quiet (AfterOperand k l p) = closing-quiet k

pub quiet-plain : (sign : Bool) (ts : List Token) → IsQuiet ts → is_plain_name_before sign ts ≡ true
quiet-plain true ts q = let o = q.no_open in let k = q.no_count in rw (o, k) refl
quiet-plain false ts q = let o = q.no_open in rw o refl

-- ---- a name between its neighbours

abbrev pub post_operator_alone : OperatorTable → List ℕ → Bool
post_operator_alone ops n = is_post_operator (named_post_operator ops n) && not (is_some_operator (prefix_of ops n))

joins-by : (x y z : Bool) → (x && (y && z)) ≡ ((x && y) && z)
joins-by true y z = refl
joins-by false y z = refl

pub joins-is : (ops : OperatorTable) (n : List ℕ) (x : Lexeme) (ts : List Token) → is_operator_here ops n x ts ≡ (post_operator_alone ops n && is_plain_name_before (is_minus x) ts)
joins-is ops n x ts = joins-by (is_post_operator (named_post_operator ops n)) (not (is_some_operator (prefix_of ops n))) (is_plain_name_before (is_minus x) ts)

joined-quiet : (ops : OperatorTable) (n : List ℕ) (x : Lexeme) (us vs : List Token) → is_operator_here ops n x us ≡ true → IsQuiet vs → is_operator_here ops n x vs ≡ true
joined-quiet ops n x us vs e q =
    let a = and-left (post_operator_alone ops n) (is_plain_name_before (is_minus x) us) (sym (joins-is ops n x us) ∙ e) in
    joins-is ops n x vs ∙ and-both _ _ a (quiet-plain (is_minus x) vs q)

pub ends-quiet : (ops : OperatorTable) (x : Lexeme) (us vs : List Token) → ends_operand_before ops x us ≡ true → IsQuiet vs → ends_operand_before ops x vs ≡ true
ends-quiet ops (words.Name n) us vs e q = joined-quiet ops n (words.Name n) us vs e q
ends-quiet ops (words.QuotedName n) us vs e q = joined-quiet ops n (words.QuotedName n) us vs e q
ends-quiet ops x us vs e q = e

-- a completion is as presumed
pub ready : (ops : OperatorTable) (x : Position) (look : Lookahead) (us : List Token) → SuitsLookahead x look → is_as_expected ops look us ≡ true → is_as_expected ops look (completion x) ≡ true
ready ops x Free us h e = refl
ready ops x (Named sign) us h e = quiet-plain sign (completion x) (completion-quiet x)
ready ops (AfterOperand k l p) (Lone sign) us h e = and-both _ _ (quiet-plain sign (closing k) (closing-quiet k)) (closing-alone ops k)
ready ops (ExpectsOperand k) (Lone sign) us h e = absurd h
ready ops (ExpectsOperand k) (WithOperand sign) us h e = and-both _ _ (quiet-plain sign (completion (ExpectsOperand k)) (completion-quiet (ExpectsOperand k))) refl
ready ops (AfterOperand k l p) (WithOperand sign) us h e = absurd h
ready ops (ExpectsOperand k) InList us h e = refl
ready ops (AfterOperand k l p) InList us h e = absurd h
ready ops (ExpectsOperand k) InCurly us h e = refl
ready ops (AfterOperand k l p) InCurly us h e = absurd h
ready ops x (Joined y) us h e = ends-quiet ops y us (completion x) e (completion-quiet x)

-- and so is a bracket that closes
pub ready-close : (ops : OperatorTable) (k : List OpenFrame) (l : Tree) (p : ℕ) (look : Lookahead) (us vs : List Token) → SuitsLookahead (AfterOperand k l p) look → is_as_expected ops look us ≡ true → is_as_expected ops look (token false words.Close ∷ vs) ≡ true
ready-close ops k l p Free us vs h e = refl
ready-close ops k l p (Named sign) us vs h e = quiet-plain sign (token false words.Close ∷ vs) (record { no_open = refl; no_count = refl })
ready-close ops k l p (Lone sign) us vs h e = and-both _ _ (quiet-plain sign (token false words.Close ∷ vs) (record { no_open = refl; no_count = refl })) refl
ready-close ops k l p (WithOperand sign) us vs h e = absurd h
ready-close ops k l p InList us vs h e = absurd h
ready-close ops k l p InCurly us vs h e = absurd h
ready-close ops k l p (Joined y) us vs h e = ends-quiet ops y us (token false words.Close ∷ vs) e (record { no_open = refl; no_count = refl })

-- what is presumed of one token and those after it, where a prefix operator in front makes no difference
plain-first : (sign : Bool) (t : Token) (us vs : List Token) → is_plain_name_before sign (t ∷ us) ≡ true → is_plain_name_before sign (t ∷ vs) ≡ true
plain-first sign (token a x) us vs e = e

pub list-first : (t : Token) (us vs : List Token) → closes_list (t ∷ us) ≡ closes_list (t ∷ vs)
list-first (token a words.CloseList) us vs = refl
list-first (token a x) us vs = refl

pub curly-first : (t : Token) (us vs : List Token) → closes_curly (t ∷ us) ≡ closes_curly (t ∷ vs)
curly-first (token a words.CloseCurly) us vs = refl
curly-first (token a x) us vs = refl

pub joined-first : (ops : OperatorTable) (x : Lexeme) (t : Token) (us vs : List Token) → ends_operand_before ops x (t ∷ us) ≡ ends_operand_before ops x (t ∷ vs)
joined-first ops (words.Name n) (token a y) us vs = refl
joined-first ops (words.QuotedName n) (token a y) us vs = refl
joined-first ops x t us vs = refl

pub presumed-alike : (ops : OperatorTable) (look : Lookahead) (t : Token) (us vs : List Token) → prefix_is_atom ops (t ∷ vs) ≡ prefix_is_atom ops (t ∷ us) → is_as_expected ops look (t ∷ us) ≡ true → is_as_expected ops look (t ∷ vs) ≡ true
presumed-alike ops Free t us vs h e = refl
presumed-alike ops (Named sign) t us vs h e = plain-first sign t us vs e
presumed-alike ops (Lone sign) t us vs h e =
    and-both _ _ (plain-first sign t us vs (and-left _ _ e)) (h ∙ and-right _ _ e)
presumed-alike ops (WithOperand sign) t us vs h e =
    and-both _ _ (plain-first sign t us vs (and-left _ _ e)) (ap not h ∙ and-right _ _ e)
presumed-alike ops InList t us vs h e = ap not (sym (list-first t us vs)) ∙ e
presumed-alike ops InCurly t us vs h e = ap not (sym (curly-first t us vs)) ∙ e
presumed-alike ops (Joined x) t us vs h e = sym (joined-first ops x t us vs) ∙ e

-- no prefix operator waits for the next token
abbrev pub IsSure : Lookahead → Type 0
IsSure (Lone sign) = ⊥
IsSure (WithOperand sign) = ⊥
IsSure _ = Unit {0}

pub first-sure : (ops : OperatorTable) (look : Lookahead) (t : Token) (us vs : List Token) → IsSure look → is_as_expected ops look (t ∷ us) ≡ true → is_as_expected ops look (t ∷ vs) ≡ true
first-sure ops Free t us vs h e = refl
first-sure ops (Named sign) t us vs h e = plain-first sign t us vs e
first-sure ops (Lone sign) t us vs h e = absurd h
first-sure ops (WithOperand sign) t us vs h e = absurd h
first-sure ops InList t us vs h e = ap not (sym (list-first t us vs)) ∙ e
first-sure ops InCurly t us vs h e = ap not (sym (curly-first t us vs)) ∙ e
first-sure ops (Joined x) t us vs h e = sym (joined-first ops x t us vs) ∙ e
