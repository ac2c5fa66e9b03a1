-- The spelling of a text that is known, found by descent. Each answer carries its derivation, so nothing has to be proved
-- of the search, and `None` says nothing.
use Rattle.std.proofs.Common.{◌≡◌, ℕ, zero, suc, ◌≤◌, Bool, true, false, List, [], ◌∷◌, Option, Some, None, refl}
use Rattle.std.proofs.Math.Dec.{leb}
use Rattle.std.proofs.lemmas.Bool.{leb-true}
use Rattle.au_model.specs.Syntax.Operators.{Operator}
use Rattle.au_model.specs.Syntax.PostOperators.{PostOperator, Infix, Postfix, Nothing, left_bound, right_bound, lexeme_post_operator, continues_with}
use Rattle.au_model.specs.Syntax.Primaries.{Setting, Primary, Leaf, Bracket, Curly, Listed, Call, Prefix, Fails, primary_of}
use Rattle.au_model.specs.Syntax.Spelling.{Spelled, form, infixed, Operand, operand, Form, leaf, bracket, listed, called, Items, last, barred, item, Arguments, final, argument}
use Rattle.au_model.specs.Syntax.Tokens.{Lexeme, Token, token, Close, CloseList, Comma, Bar}
use Rattle.au_model.specs.Syntax.Trees.{Tree, Trees, tree_count}

-- an operand in front of tokens, and what is left after it
pub record FoundOperand (s : Setting) (bound : ℕ) (ts : List Token) : Type 0 where
  pub left : List Token
  pub tree : Tree
  pub is : Operand s bound ts left tree

pub record FoundForm (s : Setting) (begin : Primary) : Type 0 where
  pub left : List Token
  pub tree : Tree
  pub priority : ℕ
  pub is : Form s begin left tree priority

pub record FoundItems (s : Setting) (ts : List Token) : Type 0 where
  pub left : List Token
  pub tree : Tree
  pub is : Items s ts left tree

pub record FoundArguments (s : Setting) (ts : List Token) : Type 0 where
  pub left : List Token
  pub trees : Trees
  pub is : Arguments s ts left trees

-- a search of so many steps
pub record Search (s : Setting) : Type 0 where
  pub operand_at : (bound : ℕ) (ts : List Token) → Option (FoundOperand s bound ts)
  pub further : (bound : ℕ) (ts us : List Token) (t : Tree) (p : ℕ) → Spelled s ts us t p → Option (FoundOperand s bound ts)
  pub items_at : (ts : List Token) → Option (FoundItems s ts)
  pub arguments_at : (ts : List Token) → Option (FoundArguments s ts)

abbrev at_most_by : (a b : ℕ) (q : Bool) → leb a b ≡ q → Option (a ≤ b)
at_most_by a b true e = Some (leb-true a b e)
at_most_by a b false e = None

abbrev at_most : (a b : ℕ) → Option (a ≤ b)
at_most a b = at_most_by a b (leb a b) refl

module _ (s : Setting) (k : Search s) where
  -- ---- an operand goes on, or is at its end

  abbrev ended : (bound : ℕ) (ts us : List Token) (t : Tree) (p : ℕ) → Spelled s ts us t p → continues_with s.ops bound p us ≡ false → Option (p ≤ bound) → Option (FoundOperand s bound ts)
  ended bound ts us t p h e None = None
  ended bound ts us t p h e (Some le) = Some (record { left = us; tree = t; is = operand h le e })

  abbrev with_right : (bound : ℕ) (ts us : List Token) (a : Bool) (x : Lexeme) (t : Tree) (p : ℕ) → Spelled s ts (token a x ∷ us) t p
      → (name : List ℕ) (o : Operator) → lexeme_post_operator s.ops x ≡ Infix name o → Option (p ≤ left_bound o) → Option (FoundOperand s (right_bound o) us) → Option (FoundOperand s bound ts)
  with_right bound ts us a x t p h name o e None r = None
  with_right bound ts us a x t p h name o e (Some le) None = None
  with_right bound ts us a x t p h name o e (Some le) (Some r) = k.further bound ts r.left _ o.priority (infixed h e le r.is)

  abbrev joined : (bound : ℕ) (ts us : List Token) (a : Bool) (x : Lexeme) (t : Tree) (p : ℕ) → Spelled s ts (token a x ∷ us) t p → (o : PostOperator) → lexeme_post_operator s.ops x ≡ o → Option (FoundOperand s bound ts)
  joined bound ts us a x t p h (Infix name o) e = with_right bound ts us a x t p h name o e (at_most p (left_bound o)) (k.operand_at (right_bound o) us)
  joined bound ts us a x t p h (Postfix name o) e = None
  joined bound ts us a x t p h Nothing e = None

  abbrev going_on : (bound : ℕ) (ts us : List Token) (t : Tree) (p : ℕ) → Spelled s ts us t p → (q : Bool) → continues_with s.ops bound p us ≡ q → Option (FoundOperand s bound ts)
  going_on bound ts us t p h false e = ended bound ts us t p h e (at_most p bound)
  going_on bound ts [] t p h true e = None
  going_on bound ts (token a x ∷ us) t p h true e = joined bound ts us a x t p h (lexeme_post_operator s.ops x) refl

  abbrev gone_on : (bound : ℕ) (ts us : List Token) (t : Tree) (p : ℕ) → Spelled s ts us t p → Option (FoundOperand s bound ts)
  gone_on bound ts us t p h = going_on bound ts us t p h (continues_with s.ops bound p us) refl

  -- ---- how it begins

  abbrev in_bracket : (ts us : List Token) (t : Tree) → Operand s 1200 ts us t → Option (FoundForm s (Bracket ts))
  in_bracket ts (token a Close ∷ us) t h = Some (record { left = us; tree = t; priority = 0; is = bracket h })
  in_bracket ts us t h = None

  abbrev bracket_form : (ts : List Token) → Option (FoundOperand s 1200 ts) → Option (FoundForm s (Bracket ts))
  bracket_form ts None = None
  bracket_form ts (Some f) = in_bracket ts f.left f.tree f.is

  abbrev list_form : (ts : List Token) → Option (FoundItems s ts) → Option (FoundForm s (Listed ts))
  list_form ts None = None
  list_form ts (Some f) = Some (record { left = f.left; tree = f.tree; priority = 0; is = listed f.is })

  abbrev in_call : (name : List ℕ) (ts us : List Token) (args : Trees) → Arguments s ts us args → Option (tree_count args ≤ 65535) → Option (FoundForm s (Call name ts))
  in_call name ts us args h None = None
  in_call name ts us args h (Some le) = Some (record { left = us; tree = _; priority = 0; is = called h le })

  abbrev call_form : (name : List ℕ) (ts : List Token) → Option (FoundArguments s ts) → Option (FoundForm s (Call name ts))
  call_form name ts None = None
  call_form name ts (Some f) = in_call name ts f.left f.trees f.is (at_most (tree_count f.trees) 65535)

  abbrev found_form : (begin : Primary) → Option (FoundForm s begin)
  found_form (Leaf t us) = Some (record { left = us; tree = t; priority = 0; is = leaf })
  found_form (Bracket ts) = bracket_form ts (k.operand_at 1200 ts)
  found_form (Curly ts) = None
  found_form (Listed ts) = list_form ts (k.items_at ts)
  found_form (Call name ts) = call_form name ts (k.arguments_at ts)
  found_form (Prefix name o ts) = None
  found_form Fails = None

  abbrev after_form : (bound : ℕ) (ts : List Token) → Option (FoundForm s (primary_of s ts)) → Option (FoundOperand s bound ts)
  after_form bound ts None = None
  after_form bound ts (Some f) = k.further bound ts f.left f.tree f.priority (form f.is)

  abbrev found_operand : (bound : ℕ) (ts : List Token) → Option (FoundOperand s bound ts)
  found_operand bound ts = after_form bound ts (found_form (primary_of s ts))

  -- ---- items and arguments

  abbrev more_items : (ts us : List Token) (t : Tree) → (a : Bool) → Operand s 999 ts (token a Comma ∷ us) t → Option (FoundItems s us) → Option (FoundItems s ts)
  more_items ts us t a h None = None
  more_items ts us t a h (Some f) = Some (record { left = f.left; tree = _; is = item h f.is })

  abbrev tail_item : (ts us vs : List Token) (a : Bool) (t u : Tree) → Operand s 999 ts (token a Bar ∷ us) t → Operand s 999 us vs u → Option (FoundItems s ts)
  tail_item ts us (token b CloseList ∷ vs) a t u h g = Some (record { left = vs; tree = _; is = barred h g })
  tail_item ts us vs a t u h g = None

  abbrev with_tail : (ts us : List Token) (a : Bool) (t : Tree) → Operand s 999 ts (token a Bar ∷ us) t → Option (FoundOperand s 999 us) → Option (FoundItems s ts)
  with_tail ts us a t h None = None
  with_tail ts us a t h (Some f) = tail_item ts us f.left a t f.tree h f.is

  abbrev items_from : (ts us : List Token) (t : Tree) → Operand s 999 ts us t → Option (FoundItems s ts)
  items_from ts (token a CloseList ∷ us) t h = Some (record { left = us; tree = _; is = last h })
  items_from ts (token a Bar ∷ us) t h = with_tail ts us a t h (k.operand_at 999 us)
  items_from ts (token a Comma ∷ us) t h = more_items ts us t a h (k.items_at us)
  items_from ts us t h = None

  abbrev found_items : (ts : List Token) → Option (FoundOperand s 999 ts) → Option (FoundItems s ts)
  found_items ts None = None
  found_items ts (Some f) = items_from ts f.left f.tree f.is

  abbrev more_arguments : (ts us : List Token) (t : Tree) → (a : Bool) → Operand s 999 ts (token a Comma ∷ us) t → Option (FoundArguments s us) → Option (FoundArguments s ts)
  more_arguments ts us t a h None = None
  more_arguments ts us t a h (Some f) = Some (record { left = f.left; trees = _; is = argument h f.is })

  abbrev arguments_from : (ts us : List Token) (t : Tree) → Operand s 999 ts us t → Option (FoundArguments s ts)
  arguments_from ts (token a Close ∷ us) t h = Some (record { left = us; trees = _; is = final h })
  arguments_from ts (token a Comma ∷ us) t h = more_arguments ts us t a h (k.arguments_at us)
  arguments_from ts us t h = None

  abbrev found_arguments : (ts : List Token) → Option (FoundOperand s 999 ts) → Option (FoundArguments s ts)
  found_arguments ts None = None
  found_arguments ts (Some f) = arguments_from ts f.left f.tree f.is

  abbrev next_search : Search s
  next_search = record {
    operand_at = found_operand;
    further = gone_on;
    items_at = λ ts. found_items ts (k.operand_at 999 ts);
    arguments_at = λ ts. found_arguments ts (k.operand_at 999 ts);
  }

abbrev no_search : (s : Setting) → Search s
no_search s = record { operand_at = λ bound ts. None; further = λ bound ts us t p h. None; items_at = λ ts. None; arguments_at = λ ts. None }

abbrev pub search_of : ℕ → (s : Setting) → Search s
search_of zero s = no_search s
search_of (suc n) s = next_search s (search_of n s)
