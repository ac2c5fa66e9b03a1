-- How what is read nests, token by token.
use Rattle.std.proofs.Common.{◌≡◌, ◌∙◌, ℕ, Bool, false, List, [], ◌∷◌, ◌++◌, refl, sym, ap, subst, append_assoc, IsCharBoundary}
use Rattle.au_model.specs.Syntax.Characters.{chars_from}
use Rattle.au_model.specs.Syntax.Layout.{GapThen, after_layout}
use Rattle.au_model.specs.Syntax.Tokens as words
use Rattle.au_model.specs.Syntax.Tokens.{Lexeme, Token, token}
use Rattle.au_model.specs.Syntax.Primaries.{Setting, Call, primary_of}
use Rattle.term_reader.specs.Brackets.{Balanced}
use Rattle.term_reader.specs.Lookahead.{Lookahead, Free, is_as_expected}
use Rattle.term_reader.specs.Completion as stack
use Rattle.term_reader.specs.Completion.{OpenFrame, CompletesOperand}
use Rattle.term_reader.specs.Nesting.{OpenSince, NestsIn}
use Rattle.term_reader.specs.Positions.{Position, ExpectsOperand, open_frames, NestsAfterPrimary, NestsAfterToken}
use Rattle.term_reader.proofs.PrimaryLemmas.{NamesCall}
use Rattle.term_reader.proofs.BracketLemmas.{OpenRound, Closes, IsNoBracket, balanced-none, balanced-plain, balanced-append, balanced-pair}

-- more tokens of which none opens or closes a bracket for good
abbrev since-more : (x : Lexeme) (read ts : List Token) → Balanced ts → OpenSince x read → OpenSince x (read ++ ts)
since-more x read ts h b = record {
  before = b.before;
  apart = b.apart;
  inside = b.inside ++ ts;
  is = ap (λ us. us ++ ts) b.is ∙ append_assoc b.before (token b.apart x ∷ b.inside) ts;
  balanced = balanced-append b.inside ts b.balanced h;
}

module _ (s : Setting) (text : List ℕ) (start : ℕ) where
  pub nests-more : (k : List OpenFrame) (read ts : List Token) → Balanced ts → NestsIn s text start read k → NestsIn s text start (read ++ ts) k
  nests-more [] read ts h n = balanced-append read ts n h
  nests-more (stack.Round ∷ k) read ts h n = (since-more words.Open read ts h n.0, n.1, n.2)
  nests-more (stack.Braces ∷ k) read ts h n = (since-more words.OpenCurly read ts h n.0, n.1)
  nests-more (stack.ItemOf us ∷ k) read ts h n = (since-more words.OpenList read ts h n.0, n.1)
  nests-more (stack.TailOf us ∷ k) read ts h n = (since-more words.OpenList read ts h n.0, n.1)
  nests-more (stack.ArgumentOf m w us ∷ k) read ts h n = (since-more words.Open read ts h n.0, n.1, n.2, n.3)
  nests-more (stack.PrefixOf m o ∷ k) read ts h n = nests-more k read ts h n
  nests-more (stack.InfixOf m o l ∷ k) read ts h n = nests-more k read ts h n

  -- the bracket is closed
  pub nests-closed : (k : List OpenFrame) (x y : Lexeme) (a : Bool) (read : List Token) → OpenRound x → Closes y → (b : OpenSince x read) → NestsIn s text start b.before k → NestsIn s text start (read ++ token a y ∷ []) k
  nests-closed k x y a read o c b n =
      let pair = balanced-pair b.apart a x y b.inside o c b.balanced in
      subst (λ ts. NestsIn s text start ts k) (sym (ap (λ ts. ts ++ token a y ∷ []) b.is ∙ append_assoc b.before (token b.apart x ∷ b.inside) (token a y ∷ [])))
      (nests-more k b.before (token b.apart x ∷ b.inside ++ token a y ∷ []) pair n)

-- ---- the beginning of an operand

abbrev since-here : (x : Lexeme) (a : Bool) (read before ts : List Token) → read ++ ts ≡ before ++ token a x ∷ [] → OpenSince x (read ++ ts)
since-here x a read before ts e = record { before = before; apart = a; inside = []; is = e; balanced = balanced-none }

module _ (s : Setting) (text : List ℕ) (at : ℕ) (k : List OpenFrame) (ts : List Token) (look : Lookahead) where
  pub level-begun : (new : Position) → Balanced ts → ((start : ℕ) (read : List Token) → NestsIn s text start read k → NestsIn s text start read (open_frames new)) → NestsAfterPrimary s text at k ts look new
  level-begun new h same start read scans n to back = nests-more s text start (open_frames new) read ts h (same start read n)

  pub round-begun : (a : Bool) → ts ≡ token a words.Open ∷ [] → look ≡ Free → NestsAfterPrimary s text at k ts look (ExpectsOperand (stack.Round ∷ k))
  round-begun a e f start read scans n to back = (
    since-here words.Open a read read ts (ap (λ us. read ++ us) e),
    record {
      to = λ vs goal w. to vs goal (ap (λ l. is_as_expected s.ops l vs) f) (subst (λ us. CompletesOperand s [] us goal) (whole vs) w);
      back = λ vs goal w. subst (λ us. CompletesOperand s [] us goal) (sym (whole vs)) (back vs goal (ap (λ l. is_as_expected s.ops l vs) f) w);
    },
    n,
  ) where
    whole : (vs : List Token) → read ++ token a words.Open ∷ vs ≡ (read ++ ts) ++ vs
    whole vs = sym (append_assoc read (token a words.Open ∷ []) vs) ∙ ap (λ us. (read ++ us) ++ vs) (sym e)

  pub curly-begun : (a : Bool) → ts ≡ token a words.OpenCurly ∷ [] → NestsAfterPrimary s text at k ts look (ExpectsOperand (stack.Braces ∷ k))
  curly-begun a e start read scans n to back = (since-here words.OpenCurly a read read ts (ap (λ us. read ++ us) e), n)

  pub list-begun : (a : Bool) → ts ≡ token a words.OpenList ∷ [] → NestsAfterPrimary s text at k ts look (ExpectsOperand (stack.ItemOf [] ∷ k))
  list-begun a e start read scans n to back = (since-here words.OpenList a read read ts (ap (λ us. read ++ us) e), n)

  pub call-begun : (name : List ℕ) (place : ℕ) → (c : NamesCall ts) → look ≡ Free → IsCharBoundary text place → after_layout (chars_from text at) ≡ GapThen (chars_from text place)
      → ((vs : List Token) → primary_of s (ts ++ vs) ≡ Call name vs) → NestsAfterPrimary s text at k ts look (ExpectsOperand (stack.ArgumentOf name place [] ∷ k))
  call-begun name place c f b layout call start read scans n to back = (
    since-here words.Open false read (read ++ c.named) ts (ap (λ us. read ++ us) c.is ∙ sym (append_assoc read c.named (token false words.Open ∷ []))),
    record {
      to = λ vs goal w. to vs goal (ap (λ l. is_as_expected s.ops l vs) f) (subst (λ us. CompletesOperand s [] us goal) (whole vs) w);
      back = λ vs goal w. subst (λ us. CompletesOperand s [] us goal) (sym (whole vs)) (back vs goal (ap (λ l. is_as_expected s.ops l vs) f) w);
    },
    record {
      first = read;
      named = c.named;
      is = refl;
      from = chars_from text at;
      scans = scans;
      layout = layout;
      boundary = b;
      called = λ vs. ap (primary_of s) (sym (named vs)) ∙ call vs;
    },
    nests-more s text start k read c.named c.balanced n,
  ) where
    named : (vs : List Token) → ts ++ vs ≡ c.named ++ token false words.Open ∷ vs
    named vs = ap (λ us. us ++ vs) c.is ∙ append_assoc c.named (token false words.Open ∷ []) vs

    whole : (vs : List Token) → (read ++ c.named) ++ token false words.Open ∷ vs ≡ (read ++ ts) ++ vs
    whole vs = append_assoc read c.named (token false words.Open ∷ vs) ∙ (ap (λ us. read ++ us) (sym (named vs)) ∙ sym (append_assoc read ts vs))

-- ---- after an operand

module _ (s : Setting) (text : List ℕ) (k : List OpenFrame) (a : Bool) (x : Lexeme) where
  pub level-after : (new : List OpenFrame) → IsNoBracket x → ((start : ℕ) (read : List Token) → NestsIn s text start read k → NestsIn s text start read new) → NestsAfterToken s text k (token a x) new
  level-after new h same start read n = nests-more s text start new read (token a x ∷ []) (balanced-plain a x h) (same start read n)
