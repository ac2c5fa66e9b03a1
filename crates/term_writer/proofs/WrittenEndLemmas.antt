-- What is written of a term and then an end is what is written of the term, and then a space and a full stop.
use Rattle.std.proofs.Common.{◌≡◌, ℕ, ℤ, pos, negsuc, ◌<◌, Bool, true, false, not, ◌&&◌, ◌||◌, nat_lt, List, [], ◌∷◌, ◌++◌, length, codes, refl, sym, ap, ◌∙◌, subst, arith, append_assoc, if◌then◌else◌}
use Rattle.std.specs.Str.{chars}
use Rattle.au_term.specs.Term.{Term, VarTerm, IntTerm, AtomTerm, Compound, Terms, end, more}
use Rattle.au_model.specs.Terms.Forms.{same_name}
use Rattle.au_model.specs.Syntax.Operators.{Operator, OperatorTable, IsOperatorTable}
use Rattle.au_model.specs.Syntax.PostOperators.{right_bound}
use Rattle.au_model.specs.Syntax.Primaries.{Setting}
use Rattle.au_model.specs.Syntax.Spelling.{Operand}
use Rattle.au_model.specs.Syntax.Tokens.{Lexeme, Open, Close, OpenList, CloseList, OpenCurly, CloseCurly, Comma, Bar, End, Token, token, front}
use Rattle.au_model.specs.Terms.Forms.{nil_name, braces_name}
use Rattle.au_model.specs.Writing.NameForms.{is_symbol_name}
use Rattle.au_model.specs.Writing.Pieces.{Piece, Space, Put, InFront, NothingYet, SpaceInFront, TokenInFront, ends_of, are_separate, joined_pieces, quoted_text, text_of_token, text_of_tokens}
use Rattle.au_model.specs.Writing.OperatorForms.{Notation, CompoundForm, ListForm, BracedForm, InfixForm, PrefixForm, PostfixForm, FunctionalForm, form_of, form_priority, is_above, is_enclosed, is_enclosed_left}
use Rattle.au_model.specs.Writing.WrittenTerms.{notation_of, name_token, name_pieces, integer_pieces, infix_pieces, prefix_pieces, postfix_pieces, spaced, is_open, is_integer_term, enclosed, pieces, compound_pieces, tail_pieces, further_pieces, cell_pieces, is_cell, written_term}
use Rattle.au_model.specs.Writing.ReadBack.{tree_of, IsWritable}
use Rattle.term_writer.specs.TokensWithEnd.{tokens_with_end}
use Rattle.au_model.specs.declared.types.Style.TheVariants.{Quoted}
use Rattle.au_model.specs.Syntax.TermTexts.{SpellsTermWithEnd}
use Rattle.term_writer.proofs.ReadBackLemmas.{written_spelled}
use Rattle.term_writer.proofs.PieceTokenLemmas.{written-well}
use Rattle.term_writer.proofs.PieceScanLemmas.{whole}
use Rattle.term_writer.proofs.PieceBytesLemmas.{pieces-front}

-- what is added at the end comes last
abbrev Ends : (List Piece → List Piece) → Type 0
Ends f = (ps qs : List Piece) → f (ps ++ qs) ≡ f ps ++ qs

record Extends (f : List Piece → List Piece) : Type 0 where
  pub last : Ends f
  pub some : (ps : List Piece) → 0 < length (f ps)

shut : (x : Bool) (f : List Piece → List Piece) → Extends f → Extends (enclosed x f)
shut true f e = record { last = λ ps qs. ap (λ r. Put Open ∷ r) (e.last (Put Close ∷ ps) qs); some = λ ps. omega arith }
shut false f e = e

spaced-last : (x : Bool) (ps qs : List Piece) → spaced x (ps ++ qs) ≡ spaced x ps ++ qs
spaced-last true ps qs = refl
spaced-last false ps qs = refl

name-extends : (n : List ℕ) → Extends (name_pieces n)
name-extends n = go (same_name n nil_name) (same_name n braces_name) refl refl
  where
    go : (x y : Bool) → same_name n nil_name ≡ x → same_name n braces_name ≡ y → Extends (name_pieces n)
    go true y p q = record { last = λ ps qs. rw p refl; some = λ ps. rw p (omega arith) }
    go false true p q = record { last = λ ps qs. rw (p, q) refl; some = λ ps. rw (p, q) (omega arith) }
    go false false p q = record { last = λ ps qs. rw (p, q) refl; some = λ ps. rw (p, q) (omega arith) }

integer-extends : (z : ℤ) → Extends (integer_pieces z)
integer-extends (pos k) = record { last = λ ps qs. refl; some = λ ps. omega arith }
integer-extends (negsuc k) = record { last = λ ps qs. refl; some = λ ps. omega arith }

infix-last : (o : Operator) (n : List ℕ) → Ends (infix_pieces o n)
infix-last o n ps qs = go (same_name n (codes ",")) (is_symbol_name n && nat_lt o.priority 700)
  where
    go : (x y : Bool) → (if x then Put Comma ∷ (ps ++ qs) else if y then Put (name_token n) ∷ (ps ++ qs) else Space ∷ Put (name_token n) ∷ Space ∷ (ps ++ qs))
        ≡ (if x then Put Comma ∷ ps else if y then Put (name_token n) ∷ ps else Space ∷ Put (name_token n) ∷ Space ∷ ps) ++ qs
    go true y = refl
    go false true = refl
    go false false = refl

postfix-last : (n : List ℕ) → Ends (postfix_pieces n)
postfix-last n ps qs = spaced-last (not (is_symbol_name n)) (Put (name_token n) ∷ ps) qs

prefix-last : (n : List ℕ) (ps qs : List Piece) → 0 < length ps → prefix_pieces n (ps ++ qs) ≡ prefix_pieces n ps ++ qs
prefix-last n [] qs h = absurd (omega arith)
prefix-last n (Put x ∷ ps) qs h = ap (λ r. Put (name_token n) ∷ r) (spaced-last (not (is_symbol_name n) || (is_open x || (same_name n (codes "-") && is_integer_term x))) (Put x ∷ ps) qs)
prefix-last n (Space ∷ ps) qs h = ap (λ r. Put (name_token n) ∷ r) (spaced-last (not (is_symbol_name n) || (false || (same_name n (codes "-") && false))) (Space ∷ ps) qs)

module _ (nt : Notation) where
  record Extended (t : Term) : Type 0 where
    pub front : Extends (pieces nt t)
    pub rest : Ends (tail_pieces nt t)

  abbrev AllExtended : Terms → Type 0
  AllExtended end = Unit {0}
  AllExtended (more t ts) = Extended t × AllExtended ts

  further-last : (ts : Terms) → AllExtended ts → Ends (further_pieces nt ts)
  further-last end k ps qs = refl
  further-last (more t ts) k ps qs =
      let e = shut (is_above nt 999 t) (pieces nt t) (k.0).front in
      ap (λ r. Put Comma ∷ enclosed (is_above nt 999 t) (pieces nt t) r) (further-last ts k.1 ps qs) ∙ ap (λ r. Put Comma ∷ r) (e.last (further_pieces nt ts ps) qs)

  infix-extends : (o : Operator) (n : List ℕ) (l r : Term) → Extended l → Extended r → Extends (compound_pieces nt (InfixForm o) n (more l (more r end)))
  infix-extends o n l r k m =
      let left = shut (is_enclosed_left nt o l) (pieces nt l) k.front in
      let right = shut (is_enclosed nt (right_bound o) r) (pieces nt r) m.front in
      let before : List Piece → List Piece = enclosed (is_enclosed_left nt o l) (pieces nt l) in
      let after : List Piece → List Piece = enclosed (is_enclosed nt (right_bound o) r) (pieces nt r) in
      record {
        last = λ ps qs. ap (λ q. before (infix_pieces o n q)) (right.last ps qs) ∙ (ap before (infix-last o n (after ps) qs) ∙ left.last (infix_pieces o n (after ps)) qs);
        some = λ ps. left.some (infix_pieces o n (after ps));
      }

  prefix-extends : (o : Operator) (n : List ℕ) (t : Term) → Extended t → Extends (compound_pieces nt (PrefixForm o) n (more t end))
  prefix-extends o n t k =
      let right = shut (is_enclosed nt (right_bound o) t) (pieces nt t) k.front in
      let after : List Piece → List Piece = enclosed (is_enclosed nt (right_bound o) t) (pieces nt t) in
      record { last = λ ps qs. ap (prefix_pieces n) (right.last ps qs) ∙ prefix-last n (after ps) qs (right.some ps); some = λ ps. omega arith }

  postfix-extends : (o : Operator) (n : List ℕ) (t : Term) → Extended t → Extends (compound_pieces nt (PostfixForm o) n (more t end))
  postfix-extends o n t k =
      let left = shut (is_enclosed_left nt o t) (pieces nt t) k.front in
      record {
        last = λ ps qs. ap (enclosed (is_enclosed_left nt o t) (pieces nt t)) (postfix-last n ps qs) ∙ left.last (postfix_pieces n ps) qs;
        some = λ ps. left.some (postfix_pieces n ps);
      }

  list-extends : (n : List ℕ) (t u : Term) → Extended t → Extended u → Extends (compound_pieces nt ListForm n (more t (more u end)))
  list-extends n t u k m =
      let item = shut (is_above nt 999 t) (pieces nt t) k.front in
      record {
        last = λ ps qs. ap (λ r. Put OpenList ∷ enclosed (is_above nt 999 t) (pieces nt t) r) (m.rest (Put CloseList ∷ ps) qs) ∙ ap (λ r. Put OpenList ∷ r) (item.last (tail_pieces nt u (Put CloseList ∷ ps)) qs);
        some = λ ps. omega arith;
      }

  call-extends : (n : List ℕ) (t : Term) (ts : Terms) → Extended t → AllExtended ts → Extends (compound_pieces nt FunctionalForm n (more t ts))
  call-extends n t ts k m =
      let first = shut (is_above nt 999 t) (pieces nt t) k.front in
      let shown : List Piece → List Piece = enclosed (is_above nt 999 t) (pieces nt t) in
      record {
        last = λ ps qs. ap (λ r. name_pieces n (Put Open ∷ shown r)) (further-last ts m ps qs)
            ∙ (ap (λ r. name_pieces n (Put Open ∷ r)) (first.last (further_pieces nt ts ps) qs) ∙ (name-extends n).last (Put Open ∷ shown (further_pieces nt ts ps)) qs);
        some = λ ps. (name-extends n).some (Put Open ∷ shown (further_pieces nt ts ps));
      }

  empty-extends : (n : List ℕ) → Extends (compound_pieces nt FunctionalForm n end)
  empty-extends n = record { last = λ ps qs. (name-extends n).last (Put Open ∷ Put Close ∷ ps) qs; some = λ ps. (name-extends n).some (Put Open ∷ Put Close ∷ ps) }

  compound-extends : (form : CompoundForm) (n : List ℕ) (ts : Terms) → AllExtended ts → Extends (compound_pieces nt form n ts)
  compound-extends (InfixForm o) n (more l (more r end)) k = infix-extends o n l r k.0 (k.1).0
  compound-extends (PrefixForm o) n (more t end) k = prefix-extends o n t k.0
  compound-extends (PostfixForm o) n (more t end) k = postfix-extends o n t k.0
  compound-extends BracedForm n (more t end) k = record { last = λ ps qs. ap (λ r. Put OpenCurly ∷ r) (((k.0).front).last (Put CloseCurly ∷ ps) qs); some = λ ps. omega arith }
  compound-extends ListForm n (more t (more u end)) k = list-extends n t u k.0 (k.1).0
  compound-extends _ n end k = empty-extends n
  compound-extends _ n (more t ts) k = call-extends n t ts k.0 k.1

  cell-last : (ts : Terms) → AllExtended ts → Ends (cell_pieces nt ts)
  cell-last (more t (more u end)) k ps qs =
      let item = shut (is_above nt 999 t) (pieces nt t) (k.0).front in
      ap (λ r. Put Comma ∷ enclosed (is_above nt 999 t) (pieces nt t) r) (((k.1).0).rest ps qs) ∙ ap (λ r. Put Comma ∷ r) (item.last (tail_pieces nt u ps) qs)
  cell-last _ k ps qs = refl

  atom-last : (n : List ℕ) → Ends (tail_pieces nt (AtomTerm n))
  atom-last n ps qs = go (same_name n nil_name) ((name-extends n).last ps qs)
    where
      go : (x : Bool) → name_pieces n (ps ++ qs) ≡ name_pieces n ps ++ qs → (if x then ps ++ qs else Put Bar ∷ name_pieces n (ps ++ qs)) ≡ (if x then ps else Put Bar ∷ name_pieces n ps) ++ qs
      go true e = refl
      go false e = ap (λ r. Put Bar ∷ r) e

  compound-last : (n : List ℕ) (ts : Terms) → AllExtended ts → Ends (tail_pieces nt (Compound n ts))
  compound-last n ts k ps qs = go (is_cell n ts) (cell-last ts k ps qs) ((shut (nat_lt 999 (form_priority (form_of nt n ts))) _ (compound-extends (form_of nt n ts) n ts k)).last ps qs)
    where
      whole_term : List Piece → List Piece
      whole_term = enclosed (nat_lt 999 (form_priority (form_of nt n ts))) (compound_pieces nt (form_of nt n ts) n ts)

      go : (x : Bool) → cell_pieces nt ts (ps ++ qs) ≡ cell_pieces nt ts ps ++ qs → whole_term (ps ++ qs) ≡ whole_term ps ++ qs
          → (if x then cell_pieces nt ts (ps ++ qs) else Put Bar ∷ whole_term (ps ++ qs)) ≡ (if x then cell_pieces nt ts ps else Put Bar ∷ whole_term ps) ++ qs
      go true e f = e
      go false e f = ap (λ r. Put Bar ∷ r) f

  mutual
    extended : (t : Term) → Extended t
    extended (VarTerm n) = record { front = record { last = λ ps qs. refl; some = λ ps. omega arith }; rest = λ ps qs. refl }
    extended (IntTerm z) = record { front = integer-extends z; rest = λ ps qs. ap (λ r. Put Bar ∷ r) ((integer-extends z).last ps qs) }
    extended (AtomTerm n) = record { front = name-extends n; rest = atom-last n }
    extended (Compound n ts) = record { front = compound-extends (form_of nt n ts) n ts (all_extended ts); rest = compound-last n ts (all_extended ts) }

    all_extended : (ts : Terms) → AllExtended ts
    all_extended end = tt
    all_extended (more t ts) = (extended t, all_extended ts)

joined-end : (before : InFront) (ps : List Piece) → joined_pieces before (ps ++ Space ∷ Put End ∷ []) ≡ joined_pieces before ps ++ token true End ∷ []
joined-end before [] = refl
joined-end before (Space ∷ ps) = joined-end SpaceInFront ps
joined-end before (Put x ∷ ps) = ap (λ ts. token (are_separate before x) x ∷ ts) (joined-end (TokenInFront (ends_of x)) ps)

text-end : (text : Lexeme → List ℕ) (ts us : List Token) → text_of_tokens text (ts ++ us) ≡ text_of_tokens text ts ++ text_of_tokens text us
text-end text [] us = refl
text-end text (t ∷ ts) us = ap (λ r. text_of_token text t ++ r) (text-end text ts us) ∙ sym (append_assoc (text_of_token text t) (text_of_tokens text ts) (text_of_tokens text us))

end-text : (operators : OperatorTable) (t : Term) → text_of_tokens quoted_text (tokens_with_end operators t) ≡ written_term Quoted operators t ++ codes " ."
end-text operators t =
    let nt = notation_of Quoted operators in
    let whole_pieces : pieces nt t ([] ++ Space ∷ Put End ∷ []) ≡ pieces nt t [] ++ Space ∷ Put End ∷ [] = ((extended nt t).front).last [] (Space ∷ Put End ∷ []) in
    ap (λ ps. text_of_tokens quoted_text (joined_pieces NothingYet ps)) whole_pieces
    ∙ (ap (text_of_tokens quoted_text) (joined-end NothingYet (pieces nt t [])) ∙ text-end quoted_text (joined_pieces NothingYet (pieces nt t [])) (token true End ∷ []))

pub read_back : (s : Setting) → IsOperatorTable s.ops → (t : Term) → IsWritable t → SpellsTermWithEnd s (chars (written_term Quoted s.ops t ++ codes " .")) (tree_of t) []
read_back s table t h =
    let nt = notation_of Quoted s.ops in
    let fronts : front (chars (written_term Quoted s.ops t ++ codes " .")) ≡ whole (tokens_with_end s.ops t) =
    ap (λ bs. front (chars bs)) (sym (end-text s.ops t)) ∙ pieces-front false false NothingYet (pieces nt t (Space ∷ Put End ∷ [])) (written-well nt t h) in
    record {
      apart = true;
      spelled = subst (λ ts. Operand s 1200 ts (token true End ∷ []) (tree_of t)) (sym (ap (λ f. f.tokens) fronts)) (written_spelled s table t h);
      left = ap (λ f. f.rest) fronts;
    }
