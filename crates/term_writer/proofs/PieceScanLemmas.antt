-- The characters of pieces are scanned as their tokens.
use Rattle.std.proofs.Common.{◌≡◌, ◌⊎◌, inl, inr, ℕ, zero, suc, ◌<◌, ◌≤◌, ◌^◌, Bool, true, false, not, ◌&&◌, ◌||◌, ◌==◌, List, [], ◌∷◌, ◌++◌, length, Some, codes, refl, sym, ap, ◌∙◌, subst, arith, if◌then◌else◌}
use Rattle.std.specs.List.{list_all}
use Rattle.std.specs.Fmt.{decimal}
use Rattle.std.proofs.lemmas.Fmt.{decimal_nonempty}
use Rattle.au_model.specs.Syntax.Characters.{is_symbol, is_solo, is_small, is_alphanumeric, is_digit_of, first_passes, first_is}
use Rattle.au_model.specs.Terms.Forms.{same_name}
use Rattle.au_model.specs.Syntax.Layout.{after_layout}
use Rattle.au_model.specs.Syntax.Tokens.{Lexeme, Name, QuotedName, Variable, Integer, Text, Open, Close, OpenList, CloseList, OpenCurly, CloseCurly, Comma, Bar, End, Token, token, lexeme_of, ScannedTo, scanned, Front, front_with, no_front, is_end, first_tokens, front}
use Rattle.au_model.specs.Writing.NameForms.{begins_comment, is_symbol_name, is_letter_name, is_solo_name, is_bare}
use Rattle.au_model.specs.Syntax.Numerals.{begins_fraction}
use Rattle.au_model.specs.Writing.Pieces.{Piece, Space, Put, name_ends, TokenEnds, SymbolEnds, LetterEnds, OtherEnds, ends_of, run_together, InFront, SpaceInFront, TokenInFront, are_separate, joined_pieces}
use Rattle.token_scan.proofs.RescanLemmas.{none-again, space-again}
use Rattle.term_writer.proofs.TokenTextLemmas.{one_of, decimal_digits, escaped_chars, token_chars, word_of, Rescans, letter_rescans, symbols_rescan, solo_rescans, variable_rescans, integer_rescans, quoted_rescans, Open_rescans, Close_rescans, OpenList_rescans, CloseList_rescans, OpenCurly_rescans, CloseCurly_rescans, Comma_rescans, Bar_rescans, End_rescans, symbol_mark, solo_mark, digit_first}
use Rattle.au_term.proofs.LogicLemmas.{not-true as not_false, and-false as and_none, and-left as and_left, and-right as and_right}
use Rattle.term_writer.proofs.PieceTokenLemmas.{is_quoted, takes_quote, IsFine, EndsHere, Well}

abbrev pub token_text_chars : Token → List ℕ
token_text_chars (token true x) = 32 ∷ token_chars x
token_text_chars (token false x) = token_chars x

abbrev pub tokens_chars : List Token → List ℕ
tokens_chars [] = []
tokens_chars (t ∷ ts) = token_text_chars t ++ tokens_chars ts

abbrev pub pieces_chars : InFront → List Piece → List ℕ
pieces_chars front ps = tokens_chars (joined_pieces front ps)

-- what may follow a token with these ends, that takes a quote or not
pub record Follows (ends : TokenEnds) (hot : Bool) (z : List ℕ) : Type 0 where
  pub letters : ends ≡ LetterEnds → first_passes is_alphanumeric z ≡ false
  pub symbols : ends ≡ SymbolEnds → first_passes is_symbol z ≡ false
  pub quote : hot ≡ true → first_is 39 z ≡ false
  pub fraction : ends ≡ LetterEnds → begins_fraction z ≡ false

follows-none : (ends : TokenEnds) (hot : Bool) → Follows ends hot []
follows-none ends hot = record { letters = λ e. refl; symbols = λ e. refl; quote = λ e. refl; fraction = λ e. refl }

follows-space : (ends : TokenEnds) (hot : Bool) (z : List ℕ) → Follows ends hot (32 ∷ z)
follows-space ends hot z = record { letters = λ e. refl; symbols = λ e. refl; quote = λ e. refl; fraction = λ e. refl }

follows-spaced : (ends : TokenEnds) (hot : Bool) (ps : List Piece) → Follows ends hot (pieces_chars SpaceInFront ps)
follows-spaced ends hot [] = follows-none ends hot
follows-spaced ends hot (Space ∷ ps) = follows-spaced ends hot ps
follows-spaced ends hot (Put x ∷ ps) = follows-space ends hot (token_chars x ++ pieces_chars (TokenInFront (ends_of x)) ps)

-- a character that is neither a letter nor a symbol character nor a quote
follows-mark : (ends : TokenEnds) (hot : Bool) (c : ℕ) (z : List ℕ) → is_alphanumeric c ≡ false → is_symbol c ≡ false → (c == 39) ≡ false → (c == 46) ≡ false → Follows ends hot (c ∷ z)
follows-mark ends hot c z a s q f = record { letters = λ e. a; symbols = λ e. s; quote = λ e. q; fraction = λ e. rw f refl }

no_letters : {x : Bool} {A : Type 0} → x ≡ true → x ≡ false → A
no_letters e f = let g : true ≡ false = sym e ∙ f in let h : ⊥ = cc in absurd h

-- what begins with a letter, after what does not end with one
follows-letter : (ends : TokenEnds) (hot : Bool) (c : ℕ) (z : List ℕ) → run_together ends LetterEnds ≡ false → is_symbol c ≡ false → (c == 39) ≡ false → Follows ends hot (c ∷ z)
follows-letter SymbolEnds hot c z r s q = record { letters = λ e. let f : ⊥ = cc in absurd f; symbols = λ e. s; quote = λ e. q; fraction = λ e. let f : ⊥ = cc in absurd f }
follows-letter LetterEnds hot c z r s q = let f : ⊥ = cc in absurd f
follows-letter OtherEnds hot c z r s q = record { letters = λ e. let f : ⊥ = cc in absurd f; symbols = λ e. let f : ⊥ = cc in absurd f; quote = λ e. q; fraction = λ e. let f : ⊥ = cc in absurd f }

-- a small letter is no symbol character and no quote
small_is : (c : ℕ) → is_small c ≡ true → (is_symbol c ≡ false) × ((c == 39) ≡ false)
small_is c e = (other (is_symbol c) refl, quote (c == 39) refl)
  where
    other : (b : Bool) → is_symbol c ≡ b → is_symbol c ≡ false
    other true h = no_letters e (symbol_mark c h).mark.sign.small
    other false h = h

    quote : (b : Bool) → (c == 39) ≡ b → (c == 39) ≡ false
    quote true h = let same : c ≡ 39 = grind (arith, h) in let k : is_small 39 ≡ true = subst (λ d. is_small d ≡ true) same e in let f : ⊥ = cc in absurd f
    quote false h = h

pub letter-name : (ends : TokenEnds) (hot : Bool) (n z : List ℕ) → is_letter_name n ≡ true → run_together ends LetterEnds ≡ false → Follows ends hot (n ++ z)
letter-name ends hot [] z e r = let f : ⊥ = cc in absurd f
letter-name ends hot (c ∷ cs) z e r = let s = small_is c (and_left (is_small c) _ e) in follows-letter ends hot c (cs ++ z) r s.0 s.1

no_fraction : (c : ℕ) (cs z : List ℕ) → same_name (c ∷ cs) (codes ".") ≡ false → list_all is_symbol cs ≡ true → begins_fraction ((c ∷ cs) ++ z) ≡ false
no_fraction c [] z e h = go (c == 46) refl
  where
    go : (b : Bool) → (c == 46) ≡ b → (b && first_passes (is_digit_of 10) z) ≡ false
    go true q =
        let same : c ≡ 46 = grind (arith, q) in
        let k : true ≡ false = subst (λ x. same_name (x ∷ []) (codes ".") ≡ false) same e in
        let f : ⊥ = cc in absurd f
    go false q = refl
no_fraction c (d ∷ cs) z e h =
    let m = symbol_mark d (and_left (is_symbol d) _ h) in
    rw m.mark.sign.digit (and_none (c == 46))

-- a symbol run after what does not end with a symbol character; a point in it is followed by one
pub symbol-name : (ends : TokenEnds) (hot : Bool) (n z : List ℕ) → is_symbol_name n ≡ true → run_together ends SymbolEnds ≡ false → Follows ends hot (n ++ z)
symbol-name ends hot [] z e r = let f : ⊥ = cc in absurd f
symbol-name ends hot (c ∷ cs) z e r =
    let all = and_right (is_symbol c) _ (and_left (is_symbol c && list_all is_symbol cs) _ (and_right (is_symbol c) _ e)) in
    let more = and_right (is_symbol c && list_all is_symbol cs) _ (and_right (is_symbol c) _ e) in
    let stop = not_false _ (and_right (not (begins_comment (c ∷ cs))) _ more) in
    let m = (symbol_mark c (and_left (is_symbol c) _ e)).mark in
    go ends r m.other m.sign.single (no_fraction c cs z stop all)
  where
    go : (x : TokenEnds) → run_together x SymbolEnds ≡ false → is_alphanumeric c ≡ false → (c == 39) ≡ false → begins_fraction ((c ∷ cs) ++ z) ≡ false → Follows x hot ((c ∷ cs) ++ z)
    go SymbolEnds q a s f = let g : ⊥ = cc in absurd g
    go LetterEnds q a s f = record { letters = λ e. a; symbols = λ e. let g : ⊥ = cc in absurd g; quote = λ e. s; fraction = λ e. f }
    go OtherEnds q a s f = record { letters = λ e. a; symbols = λ e. let g : ⊥ = cc in absurd g; quote = λ e. s; fraction = λ e. f }

record IsSoloMark (c : ℕ) : Type 0 where
  pub symbol : is_symbol c ≡ false
  pub point : (c == 46) ≡ false

solo_is : (c : ℕ) → is_solo c ≡ true → IsSoloMark c
solo_is c e = one_of IsSoloMark (codes "!;") c (record { symbol = refl; point = refl }, (record { symbol = refl; point = refl }, tt)) e

pub solo-name : (ends : TokenEnds) (hot : Bool) (n z : List ℕ) → is_solo_name n ≡ true → Follows ends hot (n ++ z)
solo-name ends hot [] z e = let f : ⊥ = cc in absurd f
solo-name ends hot (c ∷ []) z e = let m = solo_mark c e in let k = solo_is c e in follows-mark ends hot c z m.other k.symbol m.sign.single k.point
solo-name ends hot (c ∷ d ∷ cs) z e = let f : ⊥ = cc in absurd f

-- a name that needs no quotes
name-kinds : (n : List ℕ) → is_bare n ≡ true → (is_symbol_name n ≡ true) ⊎ (((is_symbol_name n ≡ false) × (is_letter_name n ≡ true)) ⊎ (((is_symbol_name n ≡ false) × (is_letter_name n ≡ false)) × (is_solo_name n ≡ true)))
name-kinds n e = go (is_symbol_name n) (is_letter_name n) refl refl e
  where
    go : (a b : Bool) → is_symbol_name n ≡ a → is_letter_name n ≡ b → (a || (b || is_solo_name n)) ≡ true → (is_symbol_name n ≡ true) ⊎ (((is_symbol_name n ≡ false) × (is_letter_name n ≡ true)) ⊎ (((is_symbol_name n ≡ false) × (is_letter_name n ≡ false)) × (is_solo_name n ≡ true)))
    go true b p q h = inl p
    go false true p q h = inr (inl (p, q))
    go false false p q h = inr (inr ((p, q), h))

follows-name : (ends : TokenEnds) (hot : Bool) (n z : List ℕ) → is_bare n ≡ true → run_together ends (name_ends n) ≡ false → Follows ends hot (n ++ z)
follows-name ends hot n z e r = go (name-kinds n e)
  where
    go : (is_symbol_name n ≡ true) ⊎ (((is_symbol_name n ≡ false) × (is_letter_name n ≡ true)) ⊎ (((is_symbol_name n ≡ false) × (is_letter_name n ≡ false)) × (is_solo_name n ≡ true))) → Follows ends hot (n ++ z)
    go (inl a) = let q : run_together ends SymbolEnds ≡ false = subst (λ b. run_together ends (if b then SymbolEnds else if is_letter_name n then LetterEnds else OtherEnds) ≡ false) a r in symbol-name ends hot n z a q
    go (inr (inl (a, b))) =
        let q : run_together ends (if is_letter_name n then LetterEnds else OtherEnds) ≡ false = subst (λ c. run_together ends (if c then SymbolEnds else if is_letter_name n then LetterEnds else OtherEnds) ≡ false) a r in
        let t : run_together ends LetterEnds ≡ false = subst (λ c. run_together ends (if c then LetterEnds else OtherEnds) ≡ false) b q in
        letter-name ends hot n z b t
    go (inr (inr (a, b))) = solo-name ends hot n z b

follows-integer : (ends : TokenEnds) (hot : Bool) (k : ℕ) (z : List ℕ) → k ≤ 2 ^ 63 → run_together ends LetterEnds ≡ false → Follows ends hot (decimal k ++ z)
follows-integer ends hot k z h r =
    let small : k < 2 ^ 64 = omega arith in
    let f = digit_first (decimal k) z (decimal_nonempty k small) (decimal_digits k small) in
    go ends r f.symbol f.single
  where
    go : (x : TokenEnds) → run_together x LetterEnds ≡ false → first_passes is_symbol (decimal k ++ z) ≡ false → first_is 39 (decimal k ++ z) ≡ false → Follows x hot (decimal k ++ z)
    go SymbolEnds q s o = record { letters = λ e. let g : ⊥ = cc in absurd g; symbols = λ e. s; quote = λ e. o; fraction = λ e. let g : ⊥ = cc in absurd g }
    go LetterEnds q s o = let g : ⊥ = cc in absurd g
    go OtherEnds q s o = record { letters = λ e. let g : ⊥ = cc in absurd g; symbols = λ e. let g : ⊥ = cc in absurd g; quote = λ e. o; fraction = λ e. let g : ⊥ = cc in absurd g }

-- a quote after what takes none
follows-quote : (ends : TokenEnds) (z : List ℕ) → Follows ends false (39 ∷ z)
follows-quote ends z = record { letters = λ e. refl; symbols = λ e. refl; quote = λ e. let f : ⊥ = cc in absurd f; fraction = λ e. refl }

-- what the next token says, where no space is between
pub follows-token : (ends : TokenEnds) (hot : Bool) (y : Lexeme) (z : List ℕ) → (is_quoted y && hot) ≡ false → IsFine false y → run_together ends (ends_of y) ≡ false → Follows ends hot (token_chars y ++ z)
follows-token ends hot (Name n) z q f r = follows-name ends hot n z f.0 r
follows-token ends true (QuotedName n) z q f r = let g : ⊥ = cc in absurd g
follows-token ends false (QuotedName n) z q f r = follows-quote ends ((escaped_chars n ++ 39 ∷ []) ++ z)
follows-token ends hot (Variable n) z q f r = let same = sym f.is in subst (λ m. Follows ends hot (m ++ z)) same (follows-letter ends hot 95 (decimal f.number ++ z) r refl refl)
follows-token ends hot (Integer k) z q f r = follows-integer ends hot k z f r
follows-token ends hot (Text cs) z q f r = absurd f
follows-token ends hot Open z q f r = follows-mark ends hot 40 z refl refl refl refl
follows-token ends hot Close z q f r = follows-mark ends hot 41 z refl refl refl refl
follows-token ends hot OpenList z q f r = follows-mark ends hot 91 z refl refl refl refl
follows-token ends hot CloseList z q f r = follows-mark ends hot 93 z refl refl refl refl
follows-token ends hot OpenCurly z q f r = follows-mark ends hot 123 z refl refl refl refl
follows-token ends hot CloseCurly z q f r = follows-mark ends hot 125 z refl refl refl refl
follows-token ends hot Comma z q f r = follows-mark ends hot 44 z refl refl refl refl
follows-token ends hot Bar z q f r = follows-mark ends hot 124 z refl refl refl refl
follows-token ends hot End z q f r = let g : ⊥ = cc in absurd g

pub follows-pieces : (ends : TokenEnds) (hot : Bool) (ps : List Piece) → Well false hot ps → Follows ends hot (pieces_chars (TokenInFront ends) ps)
follows-pieces ends hot [] w = follows-none ends hot
follows-pieces ends hot (Space ∷ ps) w = follows-spaced ends hot ps
follows-pieces ends hot (Put y ∷ ps) w = go (run_together ends (ends_of y)) refl
  where
    go : (b : Bool) → run_together ends (ends_of y) ≡ b → Follows ends hot (token_text_chars (token b y) ++ pieces_chars (TokenInFront (ends_of y)) ps)
    go true e = follows-space ends hot (token_chars y ++ pieces_chars (TokenInFront (ends_of y)) ps)
    go false e = follows-token ends hot y (pieces_chars (TokenInFront (ends_of y)) ps) w.0 w.1 e

-- ---- a token is scanned again

rescan-name : (n z : List ℕ) → is_bare n ≡ true → Follows (name_ends n) false z → Rescans (Name n) z
rescan-name n z e f = go (name-kinds n e)
  where
    go : (is_symbol_name n ≡ true) ⊎ (((is_symbol_name n ≡ false) × (is_letter_name n ≡ true)) ⊎ (((is_symbol_name n ≡ false) × (is_letter_name n ≡ false)) × (is_solo_name n ≡ true))) → Rescans (Name n) z
    go (inl a) = symbols_rescan n z a (f.symbols (rw a refl))
    go (inr (inl (a, b))) = letter_rescans n z b (f.letters (rw (a, b) refl))
    go (inr (inr (a, b))) = solo_rescans n z b

rescan : (is_spaced : Bool) (x : Lexeme) (z : List ℕ) → IsFine is_spaced x → Follows (ends_of x) (takes_quote x) z → (is_end x ≡ true → z ≡ []) → Rescans x z
rescan s (Name n) z w f last = rescan-name n z w.0 f
rescan s (QuotedName n) z w f last = quoted_rescans n z (f.quote refl)
rescan s (Variable n) z w f last = let same = sym w.is in subst (λ m. Rescans (Variable m) z) same (variable_rescans w.number z w.small (f.letters refl))
rescan s (Integer k) z w f last = integer_rescans k z w (f.letters refl) (f.fraction refl) (f.quote refl)
rescan s (Text cs) z w f last = absurd w
rescan s Open z w f last = Open_rescans z
rescan s Close z w f last = Close_rescans z
rescan s OpenList z w f last = OpenList_rescans z
rescan s CloseList z w f last = CloseList_rescans z
rescan s OpenCurly z w f last = OpenCurly_rescans z
rescan s CloseCurly z w f last = CloseCurly_rescans z
rescan s Comma z w f last = Comma_rescans z
rescan s Bar z w f last = Bar_rescans z
rescan s End z w f last = let same = sym (last refl) in subst (λ y. Rescans End y) same End_rescans

lexeme-again : (x : Lexeme) → lexeme_of (word_of x) ≡ Some x
lexeme-again (Name n) = refl
lexeme-again (QuotedName n) = refl
lexeme-again (Variable n) = refl
lexeme-again (Integer k) = refl
lexeme-again (Text cs) = refl
lexeme-again Open = refl
lexeme-again Close = refl
lexeme-again OpenList = refl
lexeme-again CloseList = refl
lexeme-again OpenCurly = refl
lexeme-again CloseCurly = refl
lexeme-again Comma = refl
lexeme-again Bar = refl
lexeme-again End = refl

scanned-again : (apart : Bool) (x : Lexeme) (z : List ℕ) → Rescans x z → scanned (token_text_chars (token apart x) ++ z) ≡ ScannedTo (token apart x) z
scanned-again true x z r = rw (space-again (token_chars x ++ z) r.bare, r.word, lexeme-again x) refl
scanned-again false x z r = rw (none-again (token_chars x ++ z) r.bare, r.bare, r.word, lexeme-again x) refl

ends-here : (x : Lexeme) (ps : List Piece) → EndsHere x ps → is_end x ≡ true → ps ≡ []
ends-here End ps h e = h
ends-here (Name n) ps h e = let f : ⊥ = cc in absurd f
ends-here (QuotedName n) ps h e = let f : ⊥ = cc in absurd f
ends-here (Variable n) ps h e = let f : ⊥ = cc in absurd f
ends-here (Integer k) ps h e = let f : ⊥ = cc in absurd f
ends-here (Text cs) ps h e = let f : ⊥ = cc in absurd f
ends-here Open ps h e = let f : ⊥ = cc in absurd f
ends-here Close ps h e = let f : ⊥ = cc in absurd f
ends-here OpenList ps h e = let f : ⊥ = cc in absurd f
ends-here CloseList ps h e = let f : ⊥ = cc in absurd f
ends-here OpenCurly ps h e = let f : ⊥ = cc in absurd f
ends-here CloseCurly ps h e = let f : ⊥ = cc in absurd f
ends-here Comma ps h e = let f : ⊥ = cc in absurd f
ends-here Bar ps h e = let f : ⊥ = cc in absurd f

abbrev pub whole : List Token → Front
whole ts = record { tokens = ts; rest = [] }

none-left : (n : ℕ) → first_tokens n [] ≡ whole []
unfolding after_layout
none-left zero = refl
none-left (suc n) = refl

pub scan-pieces : (is_spaced hot : Bool) (before : InFront) (ps : List Piece) → Well is_spaced hot ps → (n : ℕ) → length (joined_pieces before ps) ≤ n → first_tokens n (pieces_chars before ps) ≡ whole (joined_pieces before ps)
scan-pieces s hot before [] w n h = none-left n
scan-pieces s hot before (Space ∷ ps) w n h = scan-pieces true false SpaceInFront ps w n h
scan-pieces s hot before (Put x ∷ ps) w zero h = absurd (omega arith)
scan-pieces s hot before (Put x ∷ ps) w (suc n) h = go (is_end x) refl (scan-pieces false (takes_quote x) (TokenInFront (ends_of x)) ps w.3 n (omega (arith, h)))
  where
    z : List ℕ
    z = pieces_chars (TokenInFront (ends_of x)) ps

    nothing : is_end x ≡ true → z ≡ []
    nothing e = ap (pieces_chars (TokenInFront (ends_of x))) (ends-here x ps w.2 e)

    once : scanned (pieces_chars before (Put x ∷ ps)) ≡ ScannedTo (token (are_separate before x) x) z
    once = scanned-again (are_separate before x) x z (rescan s x z w.1 (follows-pieces (ends_of x) (takes_quote x) ps w.3) nothing)

    go : (b : Bool) → is_end x ≡ b → first_tokens n z ≡ whole (joined_pieces (TokenInFront (ends_of x)) ps) → first_tokens (suc n) (pieces_chars before (Put x ∷ ps)) ≡ whole (joined_pieces before (Put x ∷ ps))
    go true e later =
        let empty = ends-here x ps w.2 e in
        rw (once, e) (ap (λ y. front_with (token (are_separate before x) x) (no_front y)) (nothing e) ∙ ap (λ qs. front_with (token (are_separate before x) x) (whole (joined_pieces (TokenInFront (ends_of x)) qs))) (sym empty))
    go false e later = rw (once, e) (ap (front_with (token (are_separate before x) x)) later)
