-- What is refused after a prefix operator above the bound.
use Rattle.std.proofs.Common.{◌≡◌, ◌∙◌, ℕ, suc, ◌<◌, Bool, true, false, List, [], ◌∷◌, Some, None, refl, sym, ap, subst, if◌then◌else◌, IsCharBoundary}
use Rattle.au_model.specs.Syntax.Characters.{chars_from}
use Rattle.au_model.specs.Syntax.Tokens.{Lexeme, Token, token, scanned, ScannedTo, ScannedNone, is_end}
use Rattle.au_model.specs.Syntax.Operators.{Operator, prefix_of}
use Rattle.au_model.specs.Syntax.Primaries.{Setting, primary_of}
use Rattle.token_scan.specs.ScannedParts.{IsPlaceFrom}
use Rattle.op_table.specs.OperatorView.{operator_meant}
use Rattle.term_reader.specs.Completion.{OpenFrame, bound_of}
use Rattle.term_reader.specs.FrameShapes.{IsWithinBounds}
use Rattle.term_reader.specs.Lookahead.{WithOperand, is_as_expected, Scans, none, onto, IsName}
use Rattle.term_reader.specs.Positions.{ExpectsOperand, HasReadTo}
use Rattle.term_reader.specs.PrimaryView.{setting_of, tokens_at}
use Rattle.term_reader.specs.LexemeView.{lexeme_meant, scan_meant, IsScan}
use Rattle.term_reader.specs.Refusals.{IsStuck, IsPrefixAboveBound, lexeme_follows_atom, follower_end}
use Rattle.term_reader.specs.declared.lexeme.Scan.{Scan}
use Rattle.term_reader.specs.declared.lexeme.Scan.TheVariants.{Found, Bad, EndOfText}
use Rattle.term_reader.specs.declared.primary.Source.{Source}
use Rattle.term_reader.proofs.ScannedTokenLemmas.{scans-tokens}
use Rattle.term_reader.proofs.PrimaryLemmas.{OfPrefix, SoOpened, so-opened}
use Rattle.term_reader.proofs.NoOperandLemmas.{high-none, high-here, high-next}

pub scan-one : {cs rest : List ℕ} {a : Bool} {x : Lexeme} → Scans cs (token a x ∷ []) rest → (scanned cs ≡ ScannedTo (token a x) rest) × (is_end x ≡ false)
scan-one (onto e n none) = (e, n)

-- the operator was found by its name
record HighAt (source : Source) (start : ℕ) (k : List OpenFrame) (at end : ℕ) : Type 0 where
  pub may_take_operand : Bool
  pub apart : Bool
  pub lexeme : Lexeme
  pub sign : Bool
  pub name : List ℕ
  pub operator : Operator
  pub read_to : HasReadTo (setting_of source) source.text.now start (ExpectsOperand k) at may_take_operand
  pub bounds : IsWithinBounds k
  pub found : scanned (chars_from source.text.now at) ≡ ScannedTo (token apart lexeme) (chars_from source.text.now end)
  pub named : IsName lexeme sign name
  pub prefix : prefix_of source.ops.now name ≡ Some operator
  pub high : bound_of k < operator.priority
  pub over : is_as_expected source.ops.now (WithOperand sign) (tokens_at source end) ≡ true
  pub no_end : is_end lexeme ≡ false

module _ (source : Source) (start : ℕ) (k : List OpenFrame) (at end : ℕ) (h : IsPrefixAboveBound source start k at end) where
  abbrev set : Setting
  set = setting_of source

  abbrev o : Operator
  o = operator_meant h.operator

  by-first : (t : Token) (over : List Token) → Scans (chars_from source.text.now at) (t ∷ over) (chars_from source.text.now end) → SoOpened set (OfPrefix h.name o) t over (tokens_at source end) → HighAt source start k at end
  by-first (token a x) over scans so =
      let i = so.lone in
      let one = scan-one (subst (λ ts. Scans (chars_from source.text.now at) (token a x ∷ ts) (chars_from source.text.now end)) i.3 scans) in
      record {
        may_take_operand = h.may_take_operand;
        apart = a;
        lexeme = x;
        sign = i.0;
        name = h.name;
        operator = o;
        read_to = h.read_to;
        bounds = h.bounds;
        found = one.0;
        named = i.1;
        prefix = i.2;
        high = h.high;
        over = ap (λ l. is_as_expected set.ops l (tokens_at source end)) (sym i.4) ∙ so.fits;
        no_end = one.1;
      }

  high-at : HighAt source start k at end
  high-at =
      let f = h.starts.ends in
      by-first f.first f.over f.scans (so-opened set (OfPrefix h.name o) f.first f.over (tokens_at source end) (sym (ap (primary_of set) (scans-tokens f.scans)) ∙ h.starts.begins))

  joined-found : (b : Bool) (y : Lexeme) (end_of last : ℕ) (c : Bool) → lexeme_follows_atom source.ops.now k y ≡ c → scanned (chars_from source.text.now end) ≡ ScannedTo (token b y) (chars_from source.text.now end_of)
      → (if c then Some end_of else None) ≡ Some last → IsStuck set source.text.now start last
  joined-found b y end_of last true e n i =
      let g = high-at in
      let same : end_of ≡ last = cc in
      subst (λ m. IsStuck set source.text.now start m) same
      (high-next set source.text.now start at end k g.may_take_operand g.apart g.lexeme g.sign g.name g.operator g.read_to g.bounds g.found g.named g.prefix g.high g.over g.no_end end_of b y n e)
  joined-found b y end_of last false e n i = let z : ⊥ = cc in absurd z

  other-found : (b : Bool) (y : Lexeme) (end_of : ℕ) (c : Bool) → lexeme_follows_atom source.ops.now k y ≡ c → scanned (chars_from source.text.now end) ≡ ScannedTo (token b y) (chars_from source.text.now end_of)
      → (if c then Some end_of else None) ≡ None → IsStuck set source.text.now start end
  other-found b y end_of true e n i = let z : ⊥ = cc in absurd z
  other-found b y end_of false e n i =
      let g = high-at in
      high-here set source.text.now start at end k g.may_take_operand g.apart g.lexeme g.sign g.name g.operator g.read_to g.bounds g.found g.named g.prefix g.high g.over g.no_end end_of b y n e

  nothing-found : scanned (chars_from source.text.now end) ≡ ScannedNone → IsStuck set source.text.now start end
  nothing-found e =
      let g = high-at in
      high-none set source.text.now start at end k g.may_take_operand g.apart g.lexeme g.sign g.name g.operator g.read_to g.bounds g.found g.named g.prefix g.high g.over g.no_end e

  pub joined-stuck : (scan : Scan) (last : ℕ) → follower_end source.ops.now k scan ≡ Some last → scan_meant source.text.now scan ≡ scanned (chars_from source.text.now end) → IsStuck set source.text.now start last
  joined-stuck (Found t) last i e = joined-found t.apart (lexeme_meant t.lexeme) t.end last (lexeme_follows_atom source.ops.now k (lexeme_meant t.lexeme)) refl (sym e) i
  joined-stuck (Bad b) last i e = let z : ⊥ = cc in absurd z
  joined-stuck EndOfText last i e = let z : ⊥ = cc in absurd z

  pub other-stuck : (scan : Scan) → follower_end source.ops.now k scan ≡ None → scan_meant source.text.now scan ≡ scanned (chars_from source.text.now end) → IsStuck set source.text.now start end
  other-stuck (Found t) i e = other-found t.apart (lexeme_meant t.lexeme) t.end (lexeme_follows_atom source.ops.now k (lexeme_meant t.lexeme)) refl (sym e) i
  other-stuck (Bad b) i e = nothing-found (sym e)
  other-stuck EndOfText i e = nothing-found (sym e)

-- the place after a token that was found
place-if : (text : List ℕ) (at end last : ℕ) (c : Bool) → IsPlaceFrom text (suc at) end → (if c then Some end else None) ≡ Some last → IsCharBoundary text last
place-if text at end last true p e = let same : end ≡ last = cc in subst (IsCharBoundary text) same p.1
place-if text at end last false p e = let z : ⊥ = cc in absurd z

pub joined-place : (source : Source) (k : List OpenFrame) (at last : ℕ) (scan : Scan) → follower_end source.ops.now k scan ≡ Some last → IsScan source.text.now at scan → IsCharBoundary source.text.now last
joined-place source k at last (Found t) e i = place-if source.text.now at t.end last (lexeme_follows_atom source.ops.now k (lexeme_meant t.lexeme)) i.0 e
joined-place source k at last (Bad b) e i = let z : ⊥ = cc in absurd z
joined-place source k at last EndOfText e i = let z : ⊥ = cc in absurd z
