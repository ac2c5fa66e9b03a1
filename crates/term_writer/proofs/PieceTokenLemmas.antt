-- The pieces of a term are tokens that are scanned again, and no quoted name is where the quote would be read with
-- what is before it.
use Rattle.std.proofs.Common.{◌≡◌, ℕ, ℤ, pos, negsuc, ◌<◌, ◌≤◌, ◌^◌, Bool, true, false, not, ◌&&◌, ◌||◌, nat_lt, List, [], ◌∷◌, codes, refl, arith, if◌then◌else◌}
use Rattle.std.specs.Fmt.{decimal}
use Rattle.std.specs.Str.{all_scalars}
use Rattle.au_term.specs.Term.{Term, VarTerm, IntTerm, AtomTerm, Compound, Terms, end, more}
use Rattle.au_model.specs.Terms.Forms.{same_name}
use Rattle.au_model.specs.Syntax.Operators.{Operator}
use Rattle.au_model.specs.Syntax.PostOperators.{right_bound}
use Rattle.au_model.specs.Syntax.Tokens.{Lexeme, Name, QuotedName, Variable, Integer, Text, Open, Close, OpenList, CloseList, OpenCurly, CloseCurly, Comma, Bar, End}
use Rattle.au_model.specs.Terms.Forms.{nil_name, braces_name}
use Rattle.au_model.specs.Writing.NameForms.{is_bare, is_symbol_name}
use Rattle.au_model.specs.Writing.Pieces.{Piece, Space, Put}
use Rattle.au_model.specs.Writing.OperatorForms.{Notation, CompoundForm, ListForm, BracedForm, InfixForm, PrefixForm, PostfixForm, form_of, form_priority, is_above, is_enclosed, is_enclosed_left}
use Rattle.au_model.specs.Writing.WrittenTerms.{name_token, name_pieces, integer_pieces, infix_pieces, prefix_pieces, postfix_pieces, spaced, is_open, is_integer_term, begins_with, enclosed, pieces, compound_pieces, tail_pieces, further_pieces, cell_pieces, is_cell}
use Rattle.au_model.specs.Writing.ReadBack.{IsSmall, IsWritable, AreWritable}

abbrev pub is_quoted : Lexeme → Bool
is_quoted (QuotedName n) = true
is_quoted _ = false

-- a quote directly after it would be read as a part of it: `'a''b'`, `0'b'`
abbrev pub takes_quote : Lexeme → Bool
takes_quote (QuotedName n) = true
takes_quote (Integer k) = true
takes_quote _ = false

pub record IsVariableName (n : List ℕ) : Type 0 where
  pub number : ℕ
  pub is : n ≡ 95 ∷ decimal number
  pub small : number < 2 ^ 64

-- a token that can be scanned again; an end after a space
abbrev pub IsFine : Bool → Lexeme → Type 0
IsFine is_spaced (Name n) = (is_bare n ≡ true) × (all_scalars n ≡ true)
IsFine is_spaced (QuotedName n) = all_scalars n ≡ true
IsFine is_spaced (Variable n) = IsVariableName n
IsFine is_spaced (Integer k) = k ≤ 2 ^ 63
IsFine is_spaced (Text cs) = ⊥
IsFine is_spaced End = is_spaced ≡ true
IsFine is_spaced x = Unit {0}

abbrev pub EndsHere : Lexeme → List Piece → Type 0
EndsHere End ps = ps ≡ []
EndsHere x ps = Unit {0}

-- the pieces are fine, after a space or not, and after what would take a quote or not
abbrev pub Well : Bool → Bool → List Piece → Type 0
Well is_spaced hot [] = Unit {0}
Well is_spaced hot (Space ∷ ps) = Well true false ps
Well is_spaced hot (Put x ∷ ps) = ((is_quoted x && hot) ≡ false) × IsFine is_spaced x × EndsHere x ps × Well false (takes_quote x) ps

-- fine whatever was before
abbrev Free : List Piece → Type 0
Free ps = (is_spaced hot : Bool) → Well is_spaced hot ps

-- fine after what takes no quote
abbrev Cool : List Piece → Type 0
Cool ps = (is_spaced : Bool) → Well is_spaced false ps

shut-clean : (x : Bool) (f : List Piece → List Piece) (rest : List Piece) → ((ps : List Piece) → Free ps → Cool (f ps)) → Free rest → Cool (enclosed x f rest)
shut-clean true f rest h w = λ s. (refl, tt, tt, h (Put Close ∷ rest) (λ s2 hot. (refl, tt, tt, w false false)) false)
shut-clean false f rest h w = h rest w

name-clean : (n : List ℕ) (rest : List Piece) → all_scalars n ≡ true → Free rest → Cool (Put (name_token n) ∷ rest)
name-clean n rest c w s = go (is_bare n) refl
  where
    go : (x : Bool) → is_bare n ≡ x → Well s false (Put (if x then Name n else QuotedName n) ∷ rest)
    go true e = (refl, (e, c), tt, w false false)
    go false e = (refl, c, tt, w false true)

names-clean : (n : List ℕ) (rest : List Piece) → all_scalars n ≡ true → Free rest → Cool (name_pieces n rest)
names-clean n rest c w s = go (same_name n nil_name) (same_name n braces_name)
  where
    go : (x y : Bool) → Well s false (if x then Put OpenList ∷ Put CloseList ∷ rest else if y then Put OpenCurly ∷ Put CloseCurly ∷ rest else Put (name_token n) ∷ rest)
    go true y = (refl, tt, tt, (refl, tt, tt, w false false))
    go false true = (refl, tt, tt, (refl, tt, tt, w false false))
    go false false = name-clean n rest c w s

int-clean : (z : ℤ) (rest : List Piece) → IsSmall z → Free rest → Cool (integer_pieces z rest)
int-clean (pos k) rest h w s = (refl, omega arith, tt, w false true)
int-clean (negsuc k) rest h w s = (refl, (refl, refl), tt, (refl, omega arith, tt, w false true))

-- a bare name, and then what is fine
bare-free : (n : List ℕ) (ps : List Piece) → all_scalars n ≡ true → is_symbol_name n ≡ true → Cool ps → Free (Put (name_token n) ∷ ps)
bare-free n ps c e w s hot = let bare : is_bare n ≡ true = rw e refl in rw bare (refl, (bare, c), tt, w false)

wide-free : (n : List ℕ) (ps : List Piece) → all_scalars n ≡ true → Cool ps → Free (Space ∷ Put (name_token n) ∷ Space ∷ ps)
wide-free n ps c w s hot = name-clean n (Space ∷ ps) c (λ s2 h. w true) true

infix-free : (n : List ℕ) (o : Operator) (ps : List Piece) → all_scalars n ≡ true → Cool ps → Free (infix_pieces o n ps)
infix-free n o ps c w = go (same_name n (codes ",")) (is_symbol_name n) refl (nat_lt o.priority 700)
  where
    go : (x y : Bool) → is_symbol_name n ≡ y → (z : Bool) → Free (if x then Put Comma ∷ ps else if y && z then Put (name_token n) ∷ ps else Space ∷ Put (name_token n) ∷ Space ∷ ps)
    go true y e z = λ s hot. (refl, tt, tt, w false)
    go false true e true = bare-free n ps c e w
    go false true e false = wide-free n ps c w
    go false false e z = wide-free n ps c w

postfix-free : (n : List ℕ) (ps : List Piece) → all_scalars n ≡ true → Free ps → Free (postfix_pieces n ps)
postfix-free n ps c w = go (is_symbol_name n) refl
  where
    go : (y : Bool) → is_symbol_name n ≡ y → Free (spaced (not y) (Put (name_token n) ∷ ps))
    go true e = bare-free n ps c e (λ s. w s false)
    go false e = λ s hot. name-clean n ps c w true

prefix-clean : (n : List ℕ) (ps : List Piece) → all_scalars n ≡ true → Cool ps → Cool (prefix_pieces n ps)
prefix-clean n ps c w = go (is_symbol_name n) refl (begins_with is_open ps || (same_name n (codes "-") && begins_with is_integer_term ps))
  where
    go : (y : Bool) → is_symbol_name n ≡ y → (z : Bool) → Cool (Put (name_token n) ∷ spaced (not y || z) ps)
    go true e true = λ s. bare-free n (Space ∷ ps) c e (λ s2. w true) s false
    go true e false = λ s. bare-free n ps c e w s false
    go false e z = name-clean n (Space ∷ ps) c (λ s hot. w true)

module _ (nt : Notation) where
  pub record Wells (t : Term) : Type 0 where
    pub front : (rest : List Piece) → Free rest → Cool (pieces nt t rest)
    pub rest : (rest : List Piece) → Free rest → Free (tail_pieces nt t rest)

  abbrev pub AllWell : Terms → Type 0
  AllWell end = Unit {0}
  AllWell (more t ts) = Wells t × AllWell ts

  later-free : (ts : Terms) → AllWell ts → (rest : List Piece) → Free rest → Free (further_pieces nt ts rest)
  later-free end k rest w = λ s hot. (refl, tt, tt, w false false)
  later-free (more t ts) k rest w = λ s hot. (refl, tt, tt, shut-clean (is_above nt 999 t) (pieces nt t) (further_pieces nt ts rest) (k.0).front (later-free ts k.1 rest w) false)

  compound-clean : (form : CompoundForm) (n : List ℕ) (ts : Terms) → all_scalars n ≡ true → AllWell ts → (rest : List Piece) → Free rest → Cool (compound_pieces nt form n ts rest)
  compound-clean (InfixForm o) n (more l (more r end)) c k rest w =
      shut-clean (is_enclosed_left nt o l) (pieces nt l) _ (k.0).front (infix-free n o _ c (shut-clean (is_enclosed nt (right_bound o) r) (pieces nt r) rest ((k.1).0).front w))
  compound-clean (PrefixForm o) n (more t end) c k rest w = prefix-clean n _ c (shut-clean (is_enclosed nt (right_bound o) t) (pieces nt t) rest (k.0).front w)
  compound-clean (PostfixForm o) n (more t end) c k rest w = shut-clean (is_enclosed_left nt o t) (pieces nt t) _ (k.0).front (postfix-free n rest c w)
  compound-clean BracedForm n (more t end) c k rest w = λ s. (refl, tt, tt, (k.0).front (Put CloseCurly ∷ rest) (λ s2 hot. (refl, tt, tt, w false false)) false)
  compound-clean ListForm n (more t (more u end)) c k rest w =
      λ s. (refl, tt, tt, shut-clean (is_above nt 999 t) (pieces nt t) _ (k.0).front (((k.1).0).rest (Put CloseList ∷ rest) (λ s2 hot. (refl, tt, tt, w false false))) false)
  compound-clean _ n end c k rest w = names-clean n (Put Open ∷ Put Close ∷ rest) c (λ s hot. (refl, tt, tt, (refl, tt, tt, w false false)))
  compound-clean _ n (more t ts) c k rest w =
      names-clean n _ c (λ s hot. (refl, tt, tt, shut-clean (is_above nt 999 t) (pieces nt t) (further_pieces nt ts rest) (k.0).front (later-free ts k.1 rest w) false))

  cell-free : (ts : Terms) → AllWell ts → (rest : List Piece) → Free rest → Free (cell_pieces nt ts rest)
  cell-free (more t (more u end)) k rest w = λ s hot. (refl, tt, tt, shut-clean (is_above nt 999 t) (pieces nt t) (tail_pieces nt u rest) (k.0).front (((k.1).0).rest rest w) false)
  cell-free _ k rest w = w

  tail-clean : (n : List ℕ) (ts : Terms) → all_scalars n ≡ true → AllWell ts → (rest : List Piece) → Free rest → Free (tail_pieces nt (Compound n ts) rest)
  tail-clean n ts c k rest w = go (is_cell n ts)
    where
      go : (x : Bool) → Free (if x then cell_pieces nt ts rest else Put Bar ∷ enclosed (nat_lt 999 (form_priority (form_of nt n ts))) (compound_pieces nt (form_of nt n ts) n ts) rest)
      go true = cell-free ts k rest w
      go false = λ s hot. (refl, tt, tt, shut-clean (nat_lt 999 (form_priority (form_of nt n ts))) (compound_pieces nt (form_of nt n ts) n ts) rest (compound-clean (form_of nt n ts) n ts c k) w false)

  atom-tail : (n : List ℕ) → all_scalars n ≡ true → (rest : List Piece) → Free rest → Free (tail_pieces nt (AtomTerm n) rest)
  atom-tail n c rest w = go (same_name n nil_name)
    where
      go : (x : Bool) → Free (if x then rest else Put Bar ∷ name_pieces n rest)
      go true = w
      go false = λ s hot. (refl, tt, tt, names-clean n rest c w false)

  variable-clean : (n : ℕ) → n < 2 ^ 64 → (rest : List Piece) → Free rest → Free (Put (Variable (95 ∷ decimal n)) ∷ rest)
  variable-clean n h rest w = λ s hot. (refl, record { number = n; is = refl; small = h }, tt, w false false)

  mutual
    pub wells : (t : Term) → IsWritable t → Wells t
    wells (VarTerm n) h = record { front = λ rest w s. variable-clean n h rest w s false; rest = λ rest w s hot. (refl, tt, tt, variable-clean n h rest w false false) }
    wells (IntTerm z) h = record { front = λ rest w. int-clean z rest h w; rest = λ rest w s hot. (refl, tt, tt, int-clean z rest h w false) }
    wells (AtomTerm n) h = record { front = λ rest w. names-clean n rest h w; rest = atom-tail n h }
    wells (Compound n ts) h = record { front = compound-clean (form_of nt n ts) n ts h.0 (all_well ts h.3); rest = tail-clean n ts h.0 (all_well ts h.3) }

    pub all_well : (ts : Terms) → AreWritable ts → AllWell ts
    all_well end h = tt
    all_well (more t ts) h = (wells t h.0, all_well ts h.1)

pub written-well : (nt : Notation) (t : Term) → IsWritable t → Well false false (pieces nt t (Space ∷ Put End ∷ []))
written-well nt t h = (wells nt t h).front (Space ∷ Put End ∷ []) (λ s hot. (refl, refl, refl, tt)) false
