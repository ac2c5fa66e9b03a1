-- What the tokens that were read lead to.
use Rattle.std.proofs.Common.{◌≡◌, ◌∙◌, ℕ, suc, ◌+◌, Bool, true, false, not, ◌&&◌, List, [], ◌∷◌, ◌++◌, length, take, slice_get, Some, refl, sym, ap, subst, arith, append_assoc, length-append}
use Rattle.std.proofs.Math.Seq.{take-append_seam, take-append-add}
use Rattle.au_model.specs.Syntax.Characters.{chars_from}
use Rattle.au_model.specs.Syntax.Tokens as words
use Rattle.au_model.specs.Syntax.Tokens.{Lexeme, Token, token, tokens_of}
use Rattle.au_model.specs.Syntax.Operators.{Operator, OperatorTable, prefix_of}
use Rattle.au_model.specs.Syntax.PostOperators.{named_post_operator}
use Rattle.au_model.specs.Syntax.Primaries.{Setting, is_post_operator, is_some_operator, is_operator_here, is_minus, ends_operand_before, prefix_is_atom}
use Rattle.au_model.specs.Syntax.Trees.{Tree}
use Rattle.term_reader.specs.Completion.{OpenFrame, CompletesOperand}
use Rattle.term_reader.specs.FrameShapes.{IsWithinBounds}
use Rattle.term_reader.specs.Lookahead.{Lookahead, Free, Named, Lone, WithOperand, InList, InCurly, Joined, is_plain_name_before, is_as_expected, Scans, none, IsName, IsPrefixAsAtom, MayTakeOperand}
use Rattle.term_reader.specs.Positions.{Position, ExpectsOperand, AfterOperand, Completes, SuitsLookahead, open_frames, IsWithinBound, LeadsTo, HasReadTo, PrefixAtomBefore, MayTakeOperandBefore}
use Rattle.au_model.specs.Syntax.TextFaults.{BeginsTerm, FaultAt}
use Rattle.term_reader.proofs.CompletionLemmas.{completion, completes}
use Rattle.term_reader.proofs.LookaheadLemmas.{ready, presumed-alike, IsSure, first-sure, post_operator_alone, joins-is}
use Rattle.au_term.proofs.LogicLemmas.{and-right}
use Rattle.term_reader.proofs.BracketLemmas.{balanced-none}
use Rattle.term_reader.proofs.ScannedTokenLemmas.{scans-tokens, scans-then}
use Rattle.term_reader.proofs.CompletionStepLemmas.{starts, reaches}

-- a prefix operator's name joins nothing
not_post_operator : (ops : OperatorTable) (n : List ℕ) (o : Operator) → prefix_of ops n ≡ Some o → post_operator_alone ops n ≡ false
not_post_operator ops n o e = ap (λ q. is_post_operator (named_post_operator ops n) && not (is_some_operator q)) e ∙ falls (is_post_operator (named_post_operator ops n)) where
  falls : (x : Bool) → (x && false) ≡ false
  falls true = refl
  falls false = refl

joins-never : (ops : OperatorTable) (n : List ℕ) (x : Lexeme) (o : Operator) (ts : List Token) → prefix_of ops n ≡ Some o → is_operator_here ops n x ts ≡ false
joins-never ops n x o ts e = joins-is ops n x ts ∙ ap (λ b. b && is_plain_name_before (is_minus x) ts) (not_post_operator ops n o e)

pub prefix-never : (ops : OperatorTable) (x : Lexeme) (sign : Bool) (n : List ℕ) (o : Operator) → IsName x sign n → prefix_of ops n ≡ Some o → (ts : List Token) → ends_operand_before ops x ts ≡ false
prefix-never ops (words.Name m) sign n o h e ts = joins-never ops m (words.Name m) o ts (ap (prefix_of ops) h.0 ∙ e)
prefix-never ops (words.QuotedName m) sign n o h e ts = joins-never ops m (words.QuotedName m) o ts (ap (prefix_of ops) h.0 ∙ e)
prefix-never ops x sign n o h e ts = absurd h

lone-alike : (s : Setting) (k : List OpenFrame) (first : Token) (sign may_take_operand : Bool) → IsPrefixAsAtom s k first sign may_take_operand → (us vs : List Token) → prefix_is_atom s.ops (first ∷ vs) ≡ prefix_is_atom s.ops (first ∷ us)
lone-alike s k first sign may_take_operand h us vs =
    ap (λ t. prefix_is_atom s.ops (t ∷ vs)) h.is ∙ (prefix-never s.ops h.lexeme sign h.name h.operator h.named h.prefix vs
    ∙ (sym (prefix-never s.ops h.lexeme sign h.name h.operator h.named h.prefix us) ∙ sym (ap (λ t. prefix_is_atom s.ops (t ∷ us)) h.is)))

pub read_to-start : (s : Setting) (text : List ℕ) (start : ℕ) → HasReadTo s text start (ExpectsOperand []) start false
read_to-start s text start = record { read = []; scans = none; look = Free; fits = refl; to = λ vs goal f w. w; back = λ vs goal f w. w; suits = tt; may_take = refl; nests = balanced-none }

module _ (s : Setting) (text : List ℕ) (start at end : ℕ) (d e : Bool) where
  module _ (k : List OpenFrame) (y : Position) (a : HasReadTo s text start (ExpectsOperand k) at d) (b : LeadsTo s text (ExpectsOperand k) at y end e) (bounds : IsWithinBounds k) where
    abbrev rest : List Token
    rest = tokens_of (chars_from text end)

    fits-here : is_as_expected s.ops a.look (b.first ∷ b.over ++ rest) ≡ true
    fits-here = ap (is_as_expected s.ops a.look) (sym (scans-tokens b.scans)) ∙ a.fits

    keep : (vs : List Token) → is_as_expected s.ops b.look vs ≡ true → is_as_expected s.ops a.look (b.first ∷ b.over ++ vs) ≡ true
    keep vs f = presumed-alike s.ops a.look b.first (b.over ++ rest) (b.over ++ vs) (b.step.0 vs f) fits-here

    lone-before : (sign : Bool) → IsPrefixAsAtom s k b.first sign e × (b.over ≡ []) → PrefixAtomBefore s (a.read ++ b.first ∷ b.over) sign e
    lone-before sign h =
        let sure : (vs : List Token) → is_as_expected s.ops a.look (b.first ∷ vs) ≡ true = λ vs. presumed-alike s.ops a.look b.first (b.over ++ rest) vs (lone-alike s k b.first sign e h.0 (b.over ++ rest) vs) fits-here in
        record {
          stack = k;
          bounds = bounds;
          before = a.read;
          first = b.first;
          is = ap (λ ts. a.read ++ b.first ∷ ts) h.1;
          lone = h.0;
          to = λ vs goal w. a.to (b.first ∷ vs) goal (sure vs) w;
          back = λ vs goal w. a.back (b.first ∷ vs) goal (sure vs) w;
        }

    may_take-before : (look : Lookahead) → MayTakeOperand s k b.first b.over look e → MayTakeOperandBefore s (a.read ++ b.first ∷ b.over) look e
    may_take-before (Lone sign) h = lone-before sign h
    may_take-before Free h = h
    may_take-before (Named sign) h = h
    may_take-before (WithOperand sign) h = h
    may_take-before InList h = h
    may_take-before InCurly h = h
    may_take-before (Joined x) h = h

    to-new : (vs : List Token) (goal : Tree) → is_as_expected s.ops b.look vs ≡ true → CompletesOperand s [] ((a.read ++ b.first ∷ b.over) ++ vs) goal → Completes s y vs goal
    to-new vs goal f w = b.to vs goal f (a.to (b.first ∷ b.over ++ vs) goal (keep vs f) (subst (λ ts. CompletesOperand s [] ts goal) (append_assoc a.read (b.first ∷ b.over) vs) w))

    back-new : (vs : List Token) (goal : Tree) → is_as_expected s.ops b.look vs ≡ true → Completes s y vs goal → CompletesOperand s [] ((a.read ++ b.first ∷ b.over) ++ vs) goal
    back-new vs goal f w = subst (λ ts. CompletesOperand s [] ts goal) (sym (append_assoc a.read (b.first ∷ b.over) vs)) (a.back (b.first ∷ b.over ++ vs) goal (keep vs f) (b.back vs goal f w))

    pub read_to-due : HasReadTo s text start y end e
    read_to-due = record {
      read = a.read ++ b.first ∷ b.over;
      scans = scans-then a.scans b.scans;
      look = b.look;
      fits = b.fits;
      to = to-new;
      back = back-new;
      suits = b.step.1;
      may_take = may_take-before b.look b.step.2;
      nests = b.step.3 start a.read a.scans a.nests to-new back-new;
    }

  module _ (k : List OpenFrame) (l : Tree) (p : ℕ) (y : Position) (a : HasReadTo s text start (AfterOperand k l p) at d) (b : LeadsTo s text (AfterOperand k l p) at y end e) where
    abbrev left : List Token
    left = tokens_of (chars_from text end)

    one : b.first ∷ b.over ≡ b.first ∷ []
    one = ap (λ ts. b.first ∷ ts) b.step.0

    here : tokens_of (chars_from text at) ≡ b.first ∷ left
    here = scans-tokens b.scans ∙ ap (λ ts. b.first ∷ ts ++ left) b.step.0

    fits-left : is_as_expected s.ops a.look (b.first ∷ left) ≡ true
    fits-left = ap (is_as_expected s.ops a.look) (sym here) ∙ a.fits

    joined : (vs : List Token) → a.read ++ b.first ∷ vs ≡ (a.read ++ b.first ∷ []) ++ vs
    joined vs = sym (append_assoc a.read (b.first ∷ []) vs)

    go-to : (vs : List Token) (goal : Tree) → Completes s (AfterOperand k l p) (b.first ∷ vs) goal → Completes s y vs goal
    go-to vs goal g = b.to vs goal (ap (λ z. is_as_expected s.ops z vs) b.step.1) (subst (λ ts. Completes s (AfterOperand k l p) (b.first ∷ ts ++ vs) goal) (sym b.step.0) g)

    go-back : (vs : List Token) (goal : Tree) → Completes s y vs goal → Completes s (AfterOperand k l p) (b.first ∷ vs) goal
    go-back vs goal g = subst (λ ts. Completes s (AfterOperand k l p) (b.first ∷ ts ++ vs) goal) b.step.0 (b.back vs goal (ap (λ z. is_as_expected s.ops z vs) b.step.1) g)

    with-look : (look : Lookahead) → is_as_expected s.ops look left ≡ true → SuitsLookahead y look → MayTakeOperandBefore s (a.read ++ b.first ∷ []) look e
        → ((vs : List Token) → is_as_expected s.ops look vs ≡ true → is_as_expected s.ops a.look (b.first ∷ vs) ≡ true) → HasReadTo s text start y end e
    with-look look f suits may_take keeps = record {
      read = a.read ++ b.first ∷ [];
      scans = scans-then a.scans (subst (λ ts. Scans (chars_from text at) ts (chars_from text end)) one b.scans);
      look = look;
      fits = f;
      to = λ vs goal g w. go-to vs goal (a.to (b.first ∷ vs) goal (keeps vs g) (subst (λ ts. CompletesOperand s [] ts goal) (sym (joined vs)) w));
      back = λ vs goal g w. subst (λ ts. CompletesOperand s [] ts goal) (joined vs) (a.back (b.first ∷ vs) goal (keeps vs g) (go-back vs goal w));
      suits = suits;
      may_take = may_take;
      nests = b.step.3 start a.read a.nests;
    }

    alone-left : (x : Lexeme) (ap : Bool) → b.first ≡ token ap x → (vs : List Token) → prefix_is_atom s.ops (b.first ∷ vs) ≡ ends_operand_before s.ops x vs
    alone-left x q h vs = ap (λ t. prefix_is_atom s.ops (t ∷ vs)) h

    after-lone : (sign q : Bool) (x : Lexeme) → a.look ≡ Lone sign → b.first ≡ token q x → HasReadTo s text start y end e
    after-lone sign q x h t =
        let fl = ap (λ z. is_as_expected s.ops z (b.first ∷ left)) (sym h) ∙ fits-left in
        let here-alone : prefix_is_atom s.ops (b.first ∷ left) ≡ true = and-right (is_plain_name_before sign (b.first ∷ left)) _ fl in
        with-look (Joined x) (sym (alone-left x q t left) ∙ here-alone) (suits-joined y) b.step.2
        (λ vs g. presumed-alike s.ops a.look b.first left vs (alone-left x q t vs ∙ (g ∙ sym here-alone)) fits-left)
      where
        suits-joined : (z : Position) → SuitsLookahead z (Joined x)
        suits-joined (ExpectsOperand m) = tt
        suits-joined (AfterOperand m r n) = tt

    suits-free : (z : Position) → SuitsLookahead z Free
    suits-free (ExpectsOperand m) = tt
    suits-free (AfterOperand m r n) = tt

    sure-first : (look : Lookahead) → a.look ≡ look → IsSure look → (vs : List Token) → is_as_expected s.ops a.look (b.first ∷ vs) ≡ true
    sure-first look h sure vs = ap (λ z. is_as_expected s.ops z (b.first ∷ vs)) h ∙ first-sure s.ops look b.first left vs sure (ap (λ z. is_as_expected s.ops z (b.first ∷ left)) (sym h) ∙ fits-left)

    by-look : (look : Lookahead) → a.look ≡ look → SuitsLookahead (AfterOperand k l p) look → HasReadTo s text start y end e
    by-look (Lone sign) h suits = by-token b.first refl where
      by-token : (t : Token) → b.first ≡ t → HasReadTo s text start y end e
      by-token (token q x) i = after-lone sign q x h i
    by-look (WithOperand sign) h suits = absurd suits
    by-look Free h suits = with-look Free refl (suits-free y) b.step.2 (λ vs g. sure-first Free h tt vs)
    by-look (Named sign) h suits = with-look Free refl (suits-free y) b.step.2 (λ vs g. sure-first (Named sign) h tt vs)
    by-look InList h suits = absurd suits
    by-look InCurly h suits = absurd suits
    by-look (Joined x) h suits = with-look Free refl (suits-free y) b.step.2 (λ vs g. sure-first (Joined x) h tt vs)

    pub read_to-there : HasReadTo s text start y end e
    read_to-there = by-look a.look refl a.suits

pub read_to-then : (s : Setting) (text : List ℕ) (start at end : ℕ) (d e : Bool) (x y : Position) → HasReadTo s text start x at d → IsWithinBounds (open_frames x) → LeadsTo s text x at y end e → HasReadTo s text start y end e
read_to-then s text start at end d e (ExpectsOperand k) y a bounds b = read_to-due s text start at end d e k y a b bounds
read_to-then s text start at end d e (AfterOperand k l p) y a bounds b = read_to-there s text start at end d e k l p y a b

-- ---- what was read begins a term

pub begins-more : (s : Setting) (ts more : List Token) (goal : Tree) → CompletesOperand s [] (ts ++ more) goal → BeginsTerm s ts
begins-more s ts more goal w = let e = reaches s (ts ++ more) goal w in record { more = more; apart = e.apart; tree = goal; spelled = e.is }

pub read_to-begins : (s : Setting) (text : List ℕ) (start at : ℕ) (d : Bool) (x : Position) → (a : HasReadTo s text start x at d) → IsWithinBounds (open_frames x) → IsWithinBound x → BeginsTerm s a.read
read_to-begins s text start at d x a bounds low =
    let c = completes s x bounds low in
    begins-more s a.read (completion x) c.0 (a.back (completion x) c.0 (ready s.ops x a.look (tokens_of (chars_from text at)) a.suits a.fits) c.1)

-- ---- the first token with which it does not

pub not-begins : (s : Setting) (ts : List Token) (t : Token) → ((more : List Token) (goal : Tree) → CompletesOperand s [] (ts ++ t ∷ more) goal → ⊥) → BeginsTerm s (ts ++ t ∷ []) → ⊥
not-begins s ts t n b = n b.more b.tree (subst (λ us. CompletesOperand s [] us b.tree) (append_assoc ts (t ∷ []) b.more) (starts s b.spelled))

pub get-after : (ts us : List Token) (t : Token) → slice_get (ts ++ t ∷ us) (length ts) ≡ Some t
get-after [] us t = refl
get-after (x ∷ ts) us t = get-after ts us t

pub fault-of : (s : Setting) (whole ts us : List Token) (t : Token) → whole ≡ ts ++ t ∷ us → BeginsTerm s ts → ((more : List Token) (goal : Tree) → CompletesOperand s [] (ts ++ t ∷ more) goal → ⊥) → FaultAt s whole (length ts)
fault-of s whole ts us t e b n =
    let with_token : suc (length ts) ≡ length ts + 1 = omega arith in
    let front : take (suc (length ts)) whole ≡ ts ++ t ∷ [] = ap (take (suc (length ts))) e ∙ (ap (λ m. take m (ts ++ t ∷ us)) with_token ∙ take-append-add ts (t ∷ us) 1) in
    let long = ap length e ∙ length-append ts (t ∷ us) in
    record {
      within = omega arith;
      begins = subst (BeginsTerm s) (sym (ap (take (length ts)) e ∙ take-append_seam ts (t ∷ us))) b;
      ends = λ h. not-begins s ts t n (subst (BeginsTerm s) front h);
    }
