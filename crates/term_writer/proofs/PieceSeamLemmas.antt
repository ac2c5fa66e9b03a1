-- What is after and in front of the pieces of a written term.
use Rattle.std.proofs.Common.{◌≡◌, ℕ, ◌<◌, ◌≤◌, Bool, true, false, not, ◌&&◌, nat_le, nat_lt, List, [], ◌∷◌, Some, None, codes, refl, sym, ap, ◌∙◌, arith, if◌then◌else◌}
use Rattle.std.specs.Cmp.Lexicographic.{same_text}
use Rattle.au_model.specs.Terms.Forms.{same_name}
use Rattle.au_model.specs.Syntax.Operators.{Operator, OperatorTable, IsOperatorTable, prefix_of, infix_of, postfix_of}
use Rattle.au_model.specs.Syntax.Tokens.{Lexeme, Token, token, Name, QuotedName, Integer, Open, Close, OpenList, CloseList, OpenCurly, CloseCurly, Comma, Bar, End}
use Rattle.au_model.specs.Terms.Forms.{nil_name, braces_name}
use Rattle.au_model.specs.Syntax.PostOperators.{PostOperator, Infix, Postfix, comma, named_post_operator, lexeme_post_operator, fits, post_operator_fits, continues_with}
use Rattle.au_model.specs.Syntax.Primaries.{Setting, primary_of, lexeme_primary, name_primary, has_direct_open, has_direct_integer, is_direct_open, is_direct_integer, is_minus, is_operator_here, ends_operand_before}
use Rattle.au_model.specs.Writing.NameForms.{is_bare, is_symbol_name}
use Rattle.au_model.specs.Writing.Pieces.{Piece, Space, Put, TokenEnds, SymbolEnds, LetterEnds, OtherEnds, ends_of, run_together, InFront, SpaceInFront, TokenInFront, are_separate, joined_pieces}
use Rattle.au_model.specs.Writing.WrittenTerms.{name_token, name_pieces, infix_pieces, postfix_pieces, spaced, is_open, is_integer_term, begins_with}
use Rattle.term_writer.proofs.OperatorTableLemmas.{no_infix, no_prefix}
use Rattle.au_model.specs.Syntax.Primaries.{atom_primary}

abbrev pub after_token : Lexeme → InFront
after_token x = TokenInFront (ends_of x)

pub meets-other : (x : TokenEnds) → run_together x OtherEnds ≡ false
meets-other SymbolEnds = refl
meets-other LetterEnds = refl
meets-other OtherEnds = refl

word_opens-apart : (w : Lexeme) → is_direct_open true w ≡ false
word_opens-apart Open = refl
word_opens-apart _ = refl

word_counts-apart : (w : Lexeme) → is_direct_integer true w ≡ false
word_counts-apart (Integer k) = refl
word_counts-apart _ = refl

word_opens-other : (a : Bool) (w : Lexeme) → is_open w ≡ false → is_direct_open a w ≡ false
word_opens-other a Open e = let f : ⊥ = cc in absurd f
word_opens-other a _ e = refl

word_counts-other : (a : Bool) (w : Lexeme) → is_integer_term w ≡ false → is_direct_integer a w ≡ false
word_counts-other a (Integer k) e = let f : ⊥ = cc in absurd f
word_counts-other a _ e = refl

not_so : (x : Bool) → (x ≡ true → false ≡ true) → x ≡ false
not_so true h = let f : false ≡ true = h refl in let g : ⊥ = cc in absurd g
not_so false h = refl

pub opens-spaced : (ps : List Piece) → has_direct_open (joined_pieces SpaceInFront ps) ≡ false
opens-spaced [] = refl
opens-spaced (Space ∷ ps) = opens-spaced ps
opens-spaced (Put w ∷ ps) = word_opens-apart w

pub counts-spaced : (ps : List Piece) → has_direct_integer (joined_pieces SpaceInFront ps) ≡ false
counts-spaced [] = refl
counts-spaced (Space ∷ ps) = counts-spaced ps
counts-spaced (Put w ∷ ps) = word_counts-apart w

pub opens-by : (b : InFront) (f : Bool) (ps : List Piece) → (begins_with is_open ps ≡ true → f ≡ true) → has_direct_open (joined_pieces b (spaced f ps)) ≡ false
opens-by b true ps h = opens-spaced ps
opens-by b false [] h = refl
opens-by b false (Space ∷ ps) h = opens-spaced ps
opens-by b false (Put w ∷ ps) h = word_opens-other (are_separate b w) w (not_so (is_open w) h)

pub counts-by : (b : InFront) (f : Bool) (ps : List Piece) → (begins_with is_integer_term ps ≡ true → f ≡ true) → has_direct_integer (joined_pieces b (spaced f ps)) ≡ false
counts-by b true ps h = counts-spaced ps
counts-by b false [] h = refl
counts-by b false (Space ∷ ps) h = counts-spaced ps
counts-by b false (Put w ∷ ps) h = word_counts-other (are_separate b w) w (not_so (is_integer_term w) h)

-- ---- what follows a term

pub data Follows (ops : OperatorTable) (c : ℕ) : List Piece → Type 0 where
  here : {w : Lexeme} {ps : List Piece} → ((bound p : ℕ) → bound ≤ c → post_operator_fits bound p (lexeme_post_operator ops w) ≡ false)
      → ((a : Bool) → is_direct_open a w ≡ false) → ((a : Bool) → is_direct_integer a w ≡ false) → Follows ops c (Put w ∷ ps)
  beyond : {ps : List Piece} → Follows ops c ps → Follows ops c (Space ∷ ps)

pub lower : {ops : OperatorTable} {c : ℕ} {ps : List Piece} (d : ℕ) → d ≤ c → Follows ops c ps → Follows ops d ps
lower d k (here f g h) = here (λ bound p l. f bound p (omega (arith, k, l))) g h
lower d k (beyond r) = beyond (lower d k r)

pub follows-stops : {ops : OperatorTable} {c : ℕ} {ps : List Piece} (b : InFront) (bound p : ℕ) → bound ≤ c → Follows ops c ps → continues_with ops bound p (joined_pieces b ps) ≡ false
follows-stops b bound p k (here f g h) = f bound p k
follows-stops b bound p k (beyond r) = follows-stops SpaceInFront bound p k r

pub follows-opens : {ops : OperatorTable} {c : ℕ} {ps : List Piece} (b : InFront) → Follows ops c ps → has_direct_open (joined_pieces b ps) ≡ false
follows-opens b (here {w = w} f g h) = g (are_separate b w)
follows-opens b (beyond r) = follows-opens SpaceInFront r

pub follows-counts : {ops : OperatorTable} {c : ℕ} {ps : List Piece} (b : InFront) → Follows ops c ps → has_direct_integer (joined_pieces b ps) ≡ false
follows-counts b (here {w = w} f g h) = h (are_separate b w)
follows-counts b (beyond r) = follows-counts SpaceInFront r

pub le-false : (m n : ℕ) → n < m → nat_le m n ≡ false
le-false m n h = grind (arith, h)

fits-false : (bound p c : ℕ) (o : Operator) → c < o.priority → bound ≤ c → fits bound p o ≡ false
fits-false bound p c o h k = rw (le-false o.priority bound (omega (arith, h, k))) refl

pub closes_round : {ops : OperatorTable} {c : ℕ} {ps : List Piece} → Follows ops c (Put Close ∷ ps)
closes_round = here (λ bound p k. refl) (λ a. refl) (λ a. refl)

pub closes_list : {ops : OperatorTable} {c : ℕ} {ps : List Piece} → Follows ops c (Put CloseList ∷ ps)
closes_list = here (λ bound p k. refl) (λ a. refl) (λ a. refl)

pub closes_curly : {ops : OperatorTable} {c : ℕ} {ps : List Piece} → Follows ops c (Put CloseCurly ∷ ps)
closes_curly = here (λ bound p k. refl) (λ a. refl) (λ a. refl)

pub bars : {ops : OperatorTable} {c : ℕ} {ps : List Piece} → Follows ops c (Put Bar ∷ ps)
bars = here (λ bound p k. refl) (λ a. refl) (λ a. refl)

pub stops : {ops : OperatorTable} {c : ℕ} {ps : List Piece} → Follows ops c (Put End ∷ ps)
stops = here (λ bound p k. refl) (λ a. refl) (λ a. refl)

pub commas : {ops : OperatorTable} {ps : List Piece} (c : ℕ) → c < 1000 → Follows ops c (Put Comma ∷ ps)
commas c h = here (λ bound p k. fits-false bound p c comma h k) (λ a. refl) (λ a. refl)

-- ---- the word of a name

module _ (s : Setting) (n : List ℕ) where
  begins-name : (ts : List Token) → lexeme_primary s (name_token n) ts ≡ name_primary s.ops (is_minus (name_token n)) n ts
  begins-name ts = go (is_bare n)
    where
      go : (x : Bool) → lexeme_primary s (if x then Name n else QuotedName n) ts ≡ name_primary s.ops (is_minus (if x then Name n else QuotedName n)) n ts
      go true = refl
      go false = refl

  post_operator-name : lexeme_post_operator s.ops (name_token n) ≡ named_post_operator s.ops n
  post_operator-name = go (is_bare n)
    where
      go : (x : Bool) → lexeme_post_operator s.ops (if x then Name n else QuotedName n) ≡ named_post_operator s.ops n
      go true = refl
      go false = refl

  opens-name : (a : Bool) → is_direct_open a (name_token n) ≡ false
  opens-name a = go (is_bare n)
    where
      go : (x : Bool) → is_direct_open a (if x then Name n else QuotedName n) ≡ false
      go true = refl
      go false = refl

  counts-name : (a : Bool) → is_direct_integer a (name_token n) ≡ false
  counts-name a = go (is_bare n)
    where
      go : (x : Bool) → is_direct_integer a (if x then Name n else QuotedName n) ≡ false
      go true = refl
      go false = refl

  before-name : (ts : List Token) → ends_operand_before s.ops (name_token n) ts ≡ is_operator_here s.ops n (name_token n) ts
  before-name ts = go (is_bare n)
    where
      go : (x : Bool) → ends_operand_before s.ops (if x then Name n else QuotedName n) ts ≡ is_operator_here s.ops n (if x then Name n else QuotedName n) ts
      go true = refl
      go false = refl

  sign-name : is_minus (name_token n) ≡ true → same_name n (codes "-") ≡ true
  sign-name = go (is_bare n)
    where
      go : (x : Bool) → is_minus (if x then Name n else QuotedName n) ≡ true → same_name n (codes "-") ≡ true
      go true e = e
      go false e = let f : ⊥ = cc in absurd f

pub begins_name : (s : Setting) (n : List ℕ) (ts : List Token) → lexeme_primary s (name_token n) ts ≡ name_primary s.ops (is_minus (name_token n)) n ts
begins_name s n ts = begins-name s n ts

pub post_operator_name : (s : Setting) (n : List ℕ) → lexeme_post_operator s.ops (name_token n) ≡ named_post_operator s.ops n
post_operator_name s n = post_operator-name s n

pub before_name : (s : Setting) (n : List ℕ) (ts : List Token) → ends_operand_before s.ops (name_token n) ts ≡ is_operator_here s.ops n (name_token n) ts
before_name s n ts = before-name s n ts

pub sign_name : (s : Setting) (n : List ℕ) → is_minus (name_token n) ≡ true → same_name n (codes "-") ≡ true
sign_name s n e = sign-name s n e

pub follows_name : (s : Setting) (n : List ℕ) (c : ℕ) (ps : List Piece) → ((bound p : ℕ) → bound ≤ c → post_operator_fits bound p (named_post_operator s.ops n) ≡ false) → Follows s.ops c (Put (name_token n) ∷ ps)
follows_name s n c ps h = here (λ bound p k. rw (post_operator-name s n) (h bound p k)) (opens-name s n) (counts-name s n)

pub infix-named : (ops : OperatorTable) (n : List ℕ) (o : Operator) → infix_of ops n ≡ Some o → named_post_operator ops n ≡ Infix n o
infix-named ops n o e = rw e refl

pub postfix-named : (ops : OperatorTable) (n : List ℕ) (o : Operator) → infix_of ops n ≡ None → postfix_of ops n ≡ Some o → named_post_operator ops n ≡ Postfix n o
postfix-named ops n o e f = rw (e, f) refl

some-same : {A : Type 0} (x y : A) → Some x ≡ Some y → x ≡ y
some-same x y e = cc

module _ (s : Setting) (table : IsOperatorTable s.ops) where
  pub comma_only : (n : List ℕ) (o : Operator) → infix_of s.ops n ≡ Some o → same_name n (codes ",") ≡ true → o ≡ comma
  comma_only n o e f = some-same o comma (sym e ∙ ap (infix_of s.ops) (same_text n (codes ",") (sym f)) ∙ table.comma)

  pub infix-follows : (n : List ℕ) (o : Operator) (c : ℕ) (ps : List Piece) → infix_of s.ops n ≡ Some o → c < o.priority → Follows s.ops c (infix_pieces o n ps)
  infix-follows n o c ps e h = go (same_name n (codes ",")) (is_symbol_name n && nat_lt o.priority 700) refl
    where
      word : Follows s.ops c (Put (name_token n) ∷ Space ∷ ps)
      word = follows_name s n c (Space ∷ ps) (λ bound p k. rw (infix-named s.ops n o e) (fits-false bound p c o h k))

      close : Follows s.ops c (Put (name_token n) ∷ ps)
      close = follows_name s n c ps (λ bound p k. rw (infix-named s.ops n o e) (fits-false bound p c o h k))

      go : (x y : Bool) → same_name n (codes ",") ≡ x → Follows s.ops c (if x then Put Comma ∷ ps else if y then Put (name_token n) ∷ ps else Space ∷ Put (name_token n) ∷ Space ∷ ps)
      go true y f = commas c (let q : o ≡ comma = comma_only n o e f in let r : o.priority ≡ 1000 = ap (λ k. k.priority) q in omega (arith, r, h))
      go false true f = close
      go false false f = beyond word

  pub postfix-follows : (n : List ℕ) (o : Operator) (c : ℕ) (ps : List Piece) → postfix_of s.ops n ≡ Some o → c < o.priority → Follows s.ops c (postfix_pieces n ps)
  postfix-follows n o c ps e h = go (not (is_symbol_name n))
    where
      word : Follows s.ops c (Put (name_token n) ∷ ps)
      word = follows_name s n c ps (λ bound p k. rw (postfix-named s.ops n o (no_infix s.ops n o table e) e) (fits-false bound p c o h k))

      go : (x : Bool) → Follows s.ops c (spaced x (Put (name_token n) ∷ ps))
      go true = beyond word
      go false = word

  -- an infix operator's pieces are its token and what follows
  pub record PostOperatorAt (ts : List Token) (ps : List Piece) (post_operator : PostOperator) : Type 0 where
    pub apart : Bool
    pub w : Lexeme
    pub before : InFront
    pub is : ts ≡ token apart w ∷ joined_pieces before ps
    pub goes : lexeme_post_operator s.ops w ≡ post_operator

  pub infix-at : (n : List ℕ) (o : Operator) (ps : List Piece) (b : InFront) → infix_of s.ops n ≡ Some o → PostOperatorAt (joined_pieces b (infix_pieces o n ps)) ps (Infix n o)
  infix-at n o ps b e = go (same_name n (codes ",")) (is_symbol_name n && nat_lt o.priority 700) refl
    where
      named : lexeme_post_operator s.ops (name_token n) ≡ Infix n o
      named = post_operator_name s n ∙ infix-named s.ops n o e

      go : (x y : Bool) → same_name n (codes ",") ≡ x → PostOperatorAt (joined_pieces b (if x then Put Comma ∷ ps else if y then Put (name_token n) ∷ ps else Space ∷ Put (name_token n) ∷ Space ∷ ps)) ps (Infix n o)
      go true y f =
          let q : Infix (codes ",") comma ≡ Infix n o = rw (same_text n (codes ",") (sym f), comma_only n o e f) refl in
          record { apart = are_separate b Comma; w = Comma; before = after_token Comma; is = refl; goes = q }
      go false true f = record { apart = are_separate b (name_token n); w = name_token n; before = after_token (name_token n); is = refl; goes = named }
      go false false f = record { apart = true; w = name_token n; before = SpaceInFront; is = refl; goes = named }

  pub postfix-at : (n : List ℕ) (o : Operator) (ps : List Piece) (b : InFront) → postfix_of s.ops n ≡ Some o → PostOperatorAt (joined_pieces b (postfix_pieces n ps)) ps (Postfix n o)
  postfix-at n o ps b e = go (not (is_symbol_name n))
    where
      named : lexeme_post_operator s.ops (name_token n) ≡ Postfix n o
      named = post_operator_name s n ∙ postfix-named s.ops n o (no_infix s.ops n o table e) e

      go : (x : Bool) → PostOperatorAt (joined_pieces b (spaced x (Put (name_token n) ∷ ps))) ps (Postfix n o)
      go true = record { apart = true; w = name_token n; before = after_token (name_token n); is = refl; goes = named }
      go false = record { apart = are_separate b (name_token n); w = name_token n; before = after_token (name_token n); is = refl; goes = named }

  -- a name's pieces: the tokens open as that name, with what follows it
  pub record NameAt (ts : List Token) (n : List ℕ) (ps : List Piece) : Type 0 where
    pub sign : Bool
    pub before : InFront
    pub is : primary_of s ts ≡ name_primary s.ops sign n (joined_pieces before ps)
    pub tight : are_separate before Open ≡ false

  -- `[]` and `{}` begin as names that are no operators do
  plain-begins : (n : List ℕ) (ts : List Token) → prefix_of s.ops n ≡ None → atom_primary n ts ≡ name_primary s.ops false n ts
  plain-begins n ts e = rw e refl

  pub name-at : (n : List ℕ) (ps : List Piece) (b : InFront) → NameAt (joined_pieces b (name_pieces n ps)) n ps
  name-at n ps b = go (same_name n nil_name) (same_name n braces_name) refl refl
    where
      go : (x y : Bool) → same_name n nil_name ≡ x → same_name n braces_name ≡ y
          → NameAt (joined_pieces b (if x then Put OpenList ∷ Put CloseList ∷ ps else if y then Put OpenCurly ∷ Put CloseCurly ∷ ps else Put (name_token n) ∷ ps)) n ps
      go true y e f = record { sign = false; before = after_token CloseList; is = plain-begins nil_name (joined_pieces (after_token CloseList) ps) (no_prefix s.ops nil_name table.nil) ∙ ap (λ k. name_primary s.ops false k (joined_pieces (after_token CloseList) ps)) (sym (same_text n nil_name (sym e))); tight = refl }
      go false true e f = record { sign = false; before = after_token CloseCurly; is = plain-begins braces_name (joined_pieces (after_token CloseCurly) ps) (no_prefix s.ops braces_name table.braces) ∙ ap (λ k. name_primary s.ops false k (joined_pieces (after_token CloseCurly) ps)) (sym (same_text n braces_name (sym f))); tight = refl }
      go false false e f = record { sign = is_minus (name_token n); before = after_token (name_token n); is = begins_name s n (joined_pieces (after_token (name_token n)) ps); tight = meets-other (ends_of (name_token n)) }
