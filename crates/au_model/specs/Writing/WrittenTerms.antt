-- The pieces of a term, each in front of what follows (ISO/IEC 13211-1, 7.10.5).
use Rattle.std.specs.Prelude.{ℕ, suc, ℤ, pos, negsuc, Bool, true, false, not, ◌&&◌, ◌||◌, nat_lt, List, [], ◌∷◌, codes, if◌then◌else◌}
use Rattle.std.specs.Fmt.{decimal}
use Rattle.au_term.specs.Term.{Term, VarTerm, IntTerm, AtomTerm, Compound, Terms, end, more}
use Rattle.au_model.specs.Terms.Forms.{same_name}
use Rattle.au_model.specs.Syntax.Tokens.{Lexeme, Name, QuotedName, Variable, Integer, Open, Close, OpenList, CloseList, OpenCurly, CloseCurly, Comma, Bar}
use Rattle.au_model.specs.Syntax.Operators.{OperatorTable, Operator}
use Rattle.au_model.specs.Syntax.PostOperators.{right_bound}
use Rattle.au_model.specs.Terms.Forms.{nil_name, braces_name}
use Rattle.au_model.specs.Writing.NameForms.{is_bare, is_symbol_name}
use Rattle.au_model.specs.Writing.Pieces.{Piece, Put, Space, NothingYet, joined_pieces, quoted_text, plain_text, text_of_tokens}
use Rattle.au_model.specs.Writing.OperatorForms.{Notation, CompoundForm, ListForm, BracedForm, InfixForm, PrefixForm, PostfixForm, form_of, form_priority, is_above, is_enclosed, is_enclosed_left}
use Rattle.au_model.specs.declared.types.Style.{Style}
use Rattle.au_model.specs.declared.types.Style.TheVariants.{Plain, Quoted, Canonical}

abbrev pub name_token : List ℕ → Lexeme
name_token n = if is_bare n then Name n else QuotedName n

abbrev pub name_pieces : List ℕ → List Piece → List Piece
name_pieces n rest =
    if same_name n nil_name then Put OpenList ∷ Put CloseList ∷ rest
    else if same_name n braces_name then Put OpenCurly ∷ Put CloseCurly ∷ rest
    else Put (name_token n) ∷ rest

abbrev pub integer_pieces : ℤ → List Piece → List Piece
integer_pieces (pos k) rest = Put (Integer k) ∷ rest
integer_pieces (negsuc k) rest = Put (Name (codes "-")) ∷ Put (Integer (suc k)) ∷ rest

abbrev pub variable_token : ℕ → Lexeme
variable_token n = Variable (95 ∷ decimal n)

-- in round brackets, or not
abbrev pub enclosed : Bool → (List Piece → List Piece) → List Piece → List Piece
enclosed true f rest = Put Open ∷ f (Put Close ∷ rest)
enclosed false f rest = f rest

abbrev pub spaced : Bool → List Piece → List Piece
spaced true ps = Space ∷ ps
spaced false ps = ps

abbrev pub is_open : Lexeme → Bool
is_open Open = true
is_open _ = false

abbrev pub is_integer_term : Lexeme → Bool
is_integer_term (Integer k) = true
is_integer_term _ = false

abbrev pub begins_with : (Lexeme → Bool) → List Piece → Bool
begins_with p (Put x ∷ ps) = p x
begins_with p _ = false

-- A prefix operator and a space: where it is no symbol run, where its operand begins with a round bracket, which would
-- make it a functional notation, and where it is a minus before digits, which would be read as a number.
abbrev pub prefix_pieces : List ℕ → List Piece → List Piece
prefix_pieces n ps =
    Put (name_token n) ∷ spaced (not (is_symbol_name n) || (begins_with is_open ps || (same_name n (codes "-") && begins_with is_integer_term ps))) ps

abbrev pub postfix_pieces : List ℕ → List Piece → List Piece
postfix_pieces n ps = spaced (not (is_symbol_name n)) (Put (name_token n) ∷ ps)

-- an infix operator: the comma and symbol runs of priority below 700 have no spaces
abbrev pub infix_pieces : Operator → List ℕ → List Piece → List Piece
infix_pieces o n ps =
    if same_name n (codes ",") then Put Comma ∷ ps
    else if is_symbol_name n && nat_lt o.priority 700 then Put (name_token n) ∷ ps
    else Space ∷ Put (name_token n) ∷ Space ∷ ps

abbrev pub is_cell : List ℕ → Terms → Bool
is_cell n (more t (more u end)) = same_name n (codes ".")
is_cell n _ = false

module _ (notation : Notation) where
  abbrev mutual
    pub pieces : Term → List Piece → List Piece
    pieces (VarTerm n) rest = Put (variable_token n) ∷ rest
    pieces (IntTerm z) rest = integer_pieces z rest
    pieces (AtomTerm n) rest = name_pieces n rest
    pieces (Compound n ts) rest = compound_pieces (form_of notation n ts) n ts rest

    pub compound_pieces : CompoundForm → List ℕ → Terms → List Piece → List Piece
    compound_pieces (InfixForm o) n (more l (more r end)) rest =
        enclosed (is_enclosed_left notation o l) (pieces l) (infix_pieces o n (enclosed (is_enclosed notation (right_bound o) r) (pieces r) rest))
    compound_pieces (PrefixForm o) n (more t end) rest = prefix_pieces n (enclosed (is_enclosed notation (right_bound o) t) (pieces t) rest)
    compound_pieces (PostfixForm o) n (more t end) rest = enclosed (is_enclosed_left notation o t) (pieces t) (postfix_pieces n rest)
    compound_pieces BracedForm n (more t end) rest = Put OpenCurly ∷ pieces t (Put CloseCurly ∷ rest)
    compound_pieces ListForm n (more t (more u end)) rest = Put OpenList ∷ enclosed (is_above notation 999 t) (pieces t) (tail_pieces u (Put CloseList ∷ rest))
    compound_pieces _ n end rest = name_pieces n (Put Open ∷ Put Close ∷ rest)
    compound_pieces _ n (more t ts) rest = name_pieces n (Put Open ∷ enclosed (is_above notation 999 t) (pieces t) (further_pieces ts rest))

    -- the rest of a list, after an item
    pub tail_pieces : Term → List Piece → List Piece
    tail_pieces (VarTerm n) rest = Put Bar ∷ Put (variable_token n) ∷ rest
    tail_pieces (IntTerm z) rest = Put Bar ∷ integer_pieces z rest
    tail_pieces (AtomTerm n) rest = if same_name n nil_name then rest else Put Bar ∷ name_pieces n rest
    tail_pieces (Compound n ts) rest =
        if is_cell n ts then cell_pieces ts rest
        else Put Bar ∷ enclosed (nat_lt 999 (form_priority (form_of notation n ts))) (compound_pieces (form_of notation n ts) n ts) rest

    pub cell_pieces : Terms → List Piece → List Piece
    cell_pieces (more t (more u end)) rest = Put Comma ∷ enclosed (is_above notation 999 t) (pieces t) (tail_pieces u rest)
    cell_pieces _ rest = rest

    -- the arguments after the first, and the closing bracket
    pub further_pieces : Terms → List Piece → List Piece
    further_pieces end rest = Put Close ∷ rest
    further_pieces (more t ts) rest = Put Comma ∷ enclosed (is_above notation 999 t) (pieces t) (further_pieces ts rest)

-- canonical text has neither operators nor braces
abbrev pub notation_of : Style → OperatorTable → Notation
notation_of Canonical operators = record { operators = []; has_braces = false }
notation_of _ operators = record { operators = operators; has_braces = true }

-- the bytes of a token in a style
abbrev pub token_text : Style → Lexeme → List ℕ
token_text Plain x = plain_text x
token_text _ x = quoted_text x

-- the bytes of a term
abbrev pub written_term : Style → OperatorTable → Term → List ℕ
written_term style operators t = text_of_tokens (token_text style) (joined_pieces NothingYet (pieces (notation_of style operators) t []))

-- the bytes of a term in quoted style as the right operand of an infix operator whose right bound is 699
abbrev pub written_as_value : OperatorTable → Term → List ℕ
written_as_value operators t =
    let notation = notation_of Quoted operators in
    text_of_tokens quoted_text (joined_pieces NothingYet (enclosed (is_enclosed notation 699 t) (pieces notation t) []))
