-- Where no token goes on.
use Rattle.std.proofs.Common.{◌≡◌, ◌∙◌, ℕ, ◌≤◌, nat_le, Bool, true, false, not, ◌&&◌, List, [], ◌∷◌, ◌++◌, length, Some, refl, sym, ap, subst, arith, append_assoc}
use Rattle.au_model.specs.Syntax.Characters.{chars_from}
use Rattle.au_model.specs.Syntax.Tokens as words
use Rattle.au_model.specs.Syntax.Tokens.{Lexeme, Token, token, scanned, ScannedTo, is_end, tokens_of}
use Rattle.au_model.specs.Syntax.Operators.{Operator, OperatorTable, prefix_of}
use Rattle.au_model.specs.Syntax.Primaries.{Setting, Leaf, Call, Prefix, primary_of, is_some_operator, is_minus_name, ends_operand_before, prefix_is_atom}
use Rattle.au_model.specs.Syntax.Trees.{Tree, AtomTree}
use Rattle.term_reader.specs.Completion as stack
use Rattle.term_reader.specs.Completion.{OpenFrame, bound_of, CompletesOperand, CompletesAfter}
use Rattle.term_reader.specs.FrameShapes.{IsWithinBounds}
use Rattle.term_reader.specs.Lookahead as looks
use Rattle.term_reader.specs.Lookahead.{Lookahead, Free, Named, Lone, InList, InCurly, Joined, is_plain_name_before, is_as_expected, none, onto, IsName}
use Rattle.term_reader.specs.Positions.{ExpectsOperand, AfterOperand, SuitsLookahead, HasReadTo, PrefixAtomBefore, MayTakeOperandBefore}
use Rattle.term_reader.specs.Refusals.{IsStuck, is_named_post_operator}
use Rattle.au_model.specs.Syntax.TextFaults.{IsOneTooMany}
use Rattle.term_reader.proofs.CompletionLemmas.{completion, completes}
use Rattle.term_reader.proofs.ScannedTokenLemmas.{scans-tokens, scans-then}
use Rattle.term_reader.proofs.LookaheadLemmas.{presumed-alike, IsSure, first-sure, post_operator_alone, joins-is}
use Rattle.au_term.proofs.LogicLemmas.{and-left, and-right, and-both, le_by as low}
use Rattle.term_reader.proofs.PrimaryLemmas.{ends-same, name-balanced, name-begins, name-plain, lone-begins, over-begins}
use Rattle.term_reader.proofs.HasReadLemmas.{read_to-begins, begins-more}
use Rattle.term_reader.proofs.FollowingTokenLemmas.{name-call}
use Rattle.term_reader.proofs.FirstTokenLemmas.{tokens-first}
use Rattle.term_reader.proofs.TooManyArgumentsLemmas.{many, completes-close}
use Rattle.term_reader.proofs.NestingLemmas.{nests-more}
use Rattle.term_reader.proofs.CompletionStepLemmas.{prefix_within, opened_prefix, opened_call}
use Rattle.term_reader.proofs.LookaheadLemmas.{joined-first as next-alike}

pub none_first : (ts us : List Token) (t : Token) → ts ≡ [] → ts ≡ t ∷ us → ⊥
none_first ts us t e h = cc

pub same_first : (ts us vs : List Token) (t u : Token) → ts ≡ t ∷ us → ts ≡ u ∷ vs → u ≡ t
same_first ts us vs t u e h = cc

-- a token that no operator's name is is the same in front of all
unnamed-alike : (ops : OperatorTable) (x : Lexeme) → is_named_post_operator ops x ≡ false → (us vs : List Token) → ends_operand_before ops x us ≡ ends_operand_before ops x vs
unnamed-alike ops (words.Name n) e us vs = joins-is ops n (words.Name n) us ∙ (ap (λ b. (b && not (is_some_operator (prefix_of ops n))) && is_plain_name_before (is_minus_name n) us) e ∙ (ap (λ b. (b && not (is_some_operator (prefix_of ops n))) && is_plain_name_before (is_minus_name n) vs) (sym e) ∙ sym (joins-is ops n (words.Name n) vs)))
unnamed-alike ops (words.QuotedName n) e us vs = joins-is ops n (words.QuotedName n) us ∙ (ap (λ b. (b && not (is_some_operator (prefix_of ops n))) && is_plain_name_before false us) e ∙ (ap (λ b. (b && not (is_some_operator (prefix_of ops n))) && is_plain_name_before false vs) (sym e) ∙ sym (joins-is ops n (words.QuotedName n) vs)))
unnamed-alike ops x e us vs = refl

-- an operator's name is a name
pub record NamedPostOperator (ops : OperatorTable) (x : Lexeme) : Type 0 where
  pub sign : Bool
  pub name : List ℕ
  pub named : IsName x sign name

named-post_operator : (ops : OperatorTable) (x : Lexeme) → is_named_post_operator ops x ≡ true → NamedPostOperator ops x
named-post_operator ops (words.Name n) e = record { sign = is_minus_name n; name = n; named = (refl, refl) }
named-post_operator ops (words.QuotedName n) e = record { sign = false; name = n; named = (refl, refl) }
named-post_operator ops x e = let z : ⊥ = cc in absurd z

pub name_no_end : (x : Lexeme) (sign : Bool) (n : List ℕ) → IsName x sign n → is_end x ≡ false
name_no_end words.End sign n h = absurd h
name_no_end x sign n h = refl

pub tails : (ts us vs : List Token) (t : Token) → ts ≡ t ∷ us → ts ≡ t ∷ vs → us ≡ vs
tails ts us vs t e h = cc

-- in front of a bracket a name is a compound's
opens-never : (ops : OperatorTable) (x : Lexeme) (sign : Bool) (n : List ℕ) → IsName x sign n → (ts : List Token) → ends_operand_before ops x (token false words.Open ∷ ts) ≡ false
opens-never ops (words.Name m) sign n h ts = joins-is ops m (words.Name m) (token false words.Open ∷ ts) ∙ never (post_operator_alone ops m) where
  never : (b : Bool) → (b && false) ≡ false
  never true = refl
  never false = refl
opens-never ops (words.QuotedName m) sign n h ts = joins-is ops m (words.QuotedName m) (token false words.Open ∷ ts) ∙ never (post_operator_alone ops m) where
  never : (b : Bool) → (b && false) ≡ false
  never true = refl
  never false = refl
opens-never ops x sign n h ts = absurd h

-- only the next token counts
pub true_false : {A : Type 0} (b : Bool) → b ≡ true → b ≡ false → A
true_false b e h = let z : ⊥ = cc in absurd z

high : (m n : ℕ) → m ≤ n → nat_le m n ≡ false → ⊥
high m n le e = grind (arith, le, e)

-- a prefix operator in front of tokens in front of which it does not stand for itself
pub lone-over : (s : Setting) (a : Bool) (x : Lexeme) (sign : Bool) (n : List ℕ) (o : Operator) (ts : List Token) → IsName x sign n → prefix_of s.ops n ≡ Some o → is_plain_name_before sign ts ≡ true → prefix_is_atom s.ops ts ≡ false
    → primary_of s (token a x ∷ ts) ≡ Prefix n o ts
lone-over s a x sign n o ts h p e f = name-begins s a x sign n h ts ∙ (name-plain s.ops sign n ts e ∙ over-begins s.ops n o ts p f)

pub lone-alone : (s : Setting) (a : Bool) (x : Lexeme) (sign : Bool) (n : List ℕ) (o : Operator) (ts : List Token) → IsName x sign n → prefix_of s.ops n ≡ Some o → is_plain_name_before sign ts ≡ true → prefix_is_atom s.ops ts ≡ true
    → primary_of s (token a x ∷ ts) ≡ Leaf (AtomTree n) ts
lone-alone s a x sign n o ts h p e f = name-begins s a x sign n h ts ∙ (name-plain s.ops sign n ts e ∙ lone-begins s.ops n o ts p f)

-- ---- after an operand

module _ (s : Setting) (text : List ℕ) (start at end : ℕ) (k : List OpenFrame) (l : Tree) (p : ℕ) (d : Bool) (a : Bool) (x : Lexeme) (read_to : HasReadTo s text start (AfterOperand k l p) at d) (bounds : IsWithinBounds k) (within : p ≤ bound_of k)
    (found : scanned (chars_from text at) ≡ ScannedTo (token a x) (chars_from text end)) (refused : (more : List Token) (goal : Tree) → CompletesAfter s k (token a x ∷ more) l p goal → ⊥) where
  abbrev t : Token
  t = token a x

  abbrev us : List Token
  us = (tokens-first (chars_from text at) (chars_from text end) a x found).more

  first-is : tokens_of (chars_from text at) ≡ t ∷ us
  first-is = (tokens-first (chars_from text at) (chars_from text end) a x found).is

  fits : is_as_expected s.ops read_to.look (t ∷ us) ≡ true
  fits = ap (is_as_expected s.ops read_to.look) (sym first-is) ∙ read_to.fits

  -- the whole list is not read where the token's surroundings are as presumed
  closed : (more : List Token) (goal : Tree) → is_as_expected s.ops read_to.look (t ∷ more) ≡ true → CompletesOperand s [] (read_to.read ++ t ∷ more) goal → ⊥
  closed more goal f w = refused more goal (read_to.to (t ∷ more) goal f w)

  -- a prefix operator in front stands for itself only
  lone-high : (sign : Bool) → PrefixAtomBefore s read_to.read sign d → is_as_expected s.ops (Lone sign) (t ∷ us) ≡ true → read_to.look ≡ Lone sign → d ≡ false → (more : List Token) (goal : Tree) → CompletesOperand s [] (read_to.read ++ t ∷ more) goal → ⊥
  lone-high sign b f h e more goal w = go (prefix_is_atom s.ops (t ∷ more)) refl where
    o : Operator
    o = b.lone.operator

    whole : CompletesOperand s b.stack (b.first ∷ t ∷ more) goal
    whole = b.to (t ∷ more) goal (subst (λ ts. CompletesOperand s [] ts goal) (append_assoc b.before (b.first ∷ []) (t ∷ more)) (subst (λ ts. CompletesOperand s [] (ts ++ t ∷ more) goal) b.is w))

    plain : is_plain_name_before sign (t ∷ more) ≡ true
    plain = and-left (is_plain_name_before sign (t ∷ us)) (prefix_is_atom s.ops (t ∷ us)) f

    go : (c : Bool) → prefix_is_atom s.ops (t ∷ more) ≡ c → ⊥
    go true g = closed more goal (ap (λ z. is_as_expected s.ops z (t ∷ more)) h ∙ and-both _ _ plain g) w
    go false g =
        let opens = lone-over s b.lone.apart b.lone.lexeme sign b.lone.name o (t ∷ more) b.lone.named b.lone.prefix plain g in
        let le : o.priority ≤ bound_of b.stack = prefix_within s (token b.lone.apart b.lone.lexeme ∷ t ∷ more) (t ∷ more) b.lone.name o opens (subst (λ u. CompletesOperand s b.stack (u ∷ t ∷ more) goal) b.lone.is whole) in
        let no : nat_le o.priority (bound_of b.stack) ≡ false = sym b.lone.may ∙ e in
        high o.priority (bound_of b.stack) le no

  pub here-ends : (d && is_named_post_operator s.ops x) ≡ false → (more : List Token) (goal : Tree) → CompletesOperand s [] (read_to.read ++ t ∷ more) goal → ⊥
  here-ends n more goal w = by-look read_to.look refl read_to.may_take read_to.suits where
    alike : is_named_post_operator s.ops x ≡ false → ⊥
    alike e = closed more goal (presumed-alike s.ops read_to.look t us more (unnamed-alike s.ops x e more us) fits) w

    by-may_take_operand : (sign : Bool) → read_to.look ≡ Lone sign → PrefixAtomBefore s read_to.read sign d → (b c : Bool) → d ≡ b → is_named_post_operator s.ops x ≡ c → ⊥
    by-may_take_operand sign h q b false e f = alike f
    by-may_take_operand sign h q false true e f = lone-high sign q (ap (λ z. is_as_expected s.ops z (t ∷ us)) (sym h) ∙ fits) h e more goal w
    by-may_take_operand sign h q true true e f = true_false (d && is_named_post_operator s.ops x) (and-both _ _ e f) n

    sure : (look : Lookahead) → read_to.look ≡ look → IsSure look → ⊥
    sure look h i = closed more goal (ap (λ z. is_as_expected s.ops z (t ∷ more)) h ∙ first-sure s.ops look t us more i (ap (λ z. is_as_expected s.ops z (t ∷ us)) (sym h) ∙ fits)) w

    by-look : (look : Lookahead) → read_to.look ≡ look → MayTakeOperandBefore s read_to.read look d → SuitsLookahead (AfterOperand k l p) look → ⊥
    by-look (Lone sign) h q i = by-may_take_operand sign h q d (is_named_post_operator s.ops x) refl refl
    by-look (looks.WithOperand sign) h q i = i
    by-look Free h q i = sure Free h tt
    by-look (Named sign) h q i = sure (Named sign) h tt
    by-look InList h q i = i
    by-look InCurly h q i = i
    by-look (Joined y) h q i = sure (Joined y) h tt

  -- the token is refused
  pub stuck-here : (d && is_named_post_operator s.ops x) ≡ false → ((vs : List Token) (m : ℕ) (name : List ℕ) → IsOneTooMany s (read_to.read ++ t ∷ vs) (length read_to.read) m name → ⊥) → IsStuck s text start at
  stuck-here n few = record {
    read = read_to.read;
    scans = read_to.scans;
    begins = read_to-begins s text start at d (AfterOperand k l p) read_to bounds within;
    ends = λ u vs e more goal w. here-ends n more goal (subst (λ z. CompletesOperand s [] (read_to.read ++ z ∷ more) goal) (same_first (tokens_of (chars_from text at)) us vs t u first-is e) w);
    few = λ u vs e m name o. few vs m name (subst (λ z. IsOneTooMany s (read_to.read ++ z ∷ vs) (length read_to.read) m name) (same_first (tokens_of (chars_from text at)) us vs t u first-is e) o);
  }

  -- after a prefix operator that may have an operand the next one is
  module _ (sign : Bool) (h : read_to.look ≡ Lone sign) (b : PrefixAtomBefore s read_to.read sign d) (e : d ≡ true) (j : NamedPostOperator s.ops x) where
    abbrev o : Operator
    o = b.lone.operator

    plain-all : (vs : List Token) → is_plain_name_before sign (t ∷ vs) ≡ true
    plain-all vs = and-left (is_plain_name_before sign (t ∷ us)) (prefix_is_atom s.ops (t ∷ us)) (ap (λ z. is_as_expected s.ops z (t ∷ us)) (sym h) ∙ fits)

    alone-us : ends_operand_before s.ops x us ≡ true
    alone-us = and-right (is_plain_name_before sign (t ∷ us)) (prefix_is_atom s.ops (t ∷ us)) (ap (λ z. is_as_expected s.ops z (t ∷ us)) (sym h) ∙ fits)

    not-end : is_end x ≡ false
    not-end = name_no_end x j.sign j.name j.named

    -- an operand that begins with this token and a bracket
    abbrev operand : List Token
    operand = token false words.Open ∷ completion (ExpectsOperand (stack.ArgumentOf j.name 0 [] ∷ stack.PrefixOf b.lone.name o ∷ b.stack))

    never-before : ends_operand_before s.ops x operand ≡ false
    never-before = opens-never s.ops x j.sign j.name j.named (completion (ExpectsOperand (stack.ArgumentOf j.name 0 [] ∷ stack.PrefixOf b.lone.name o ∷ b.stack)))

    complete : (goal : Tree) × CompletesOperand s [] ((read_to.read ++ t ∷ []) ++ operand) goal
    complete =
        let below : o.priority ≤ bound_of b.stack = low o.priority (bound_of b.stack) (sym b.lone.may ∙ e) in
        let c = completes s (ExpectsOperand (stack.ArgumentOf j.name 0 [] ∷ stack.PrefixOf b.lone.name o ∷ b.stack)) (omega arith, (below, b.bounds)) tt in
        let call : primary_of s (t ∷ operand) ≡ Call j.name (completion (ExpectsOperand (stack.ArgumentOf j.name 0 [] ∷ stack.PrefixOf b.lone.name o ∷ b.stack))) =
        name-begins s a x j.sign j.name j.named operand ∙ sym (name-call s.ops j.sign j.name operand _ refl) in
        let inner = opened_call s (t ∷ operand) (completion (ExpectsOperand (stack.ArgumentOf j.name 0 [] ∷ stack.PrefixOf b.lone.name o ∷ b.stack))) j.name 0 call c.1 in
        let opens = lone-over s b.lone.apart b.lone.lexeme sign b.lone.name o (t ∷ operand) b.lone.named b.lone.prefix (plain-all operand) never-before in
        let outer = opened_prefix s (token b.lone.apart b.lone.lexeme ∷ t ∷ operand) (t ∷ operand) b.lone.name o opens inner in
        let whole = b.back (t ∷ operand) c.0 (subst (λ u. CompletesOperand s b.stack (u ∷ t ∷ operand) c.0) (sym b.lone.is) outer) in
        (c.0, subst (λ ts. CompletesOperand s [] ts c.0) (sym (append_assoc b.before (b.first ∷ []) (t ∷ operand)) ∙ (ap (λ ts. ts ++ t ∷ operand) (sym b.is) ∙ sym (append_assoc read_to.read (t ∷ []) operand))) whole)

    after-ends : (u : Token) (vs : List Token) → tokens_of (chars_from text end) ≡ u ∷ vs → (more : List Token) (goal : Tree) → CompletesOperand s [] ((read_to.read ++ t ∷ []) ++ u ∷ more) goal → ⊥
    after-ends u vs i more goal w =
        let is : us ≡ u ∷ vs = tails (tokens_of (chars_from text at)) us (tokens_of (chars_from text end)) t first-is (scans-tokens (onto found not-end none)) ∙ i in
        let same : ends_operand_before s.ops x (u ∷ more) ≡ ends_operand_before s.ops x us = next-alike s.ops x u more vs ∙ ap (ends_operand_before s.ops x) (sym is) in
        closed (u ∷ more) goal (presumed-alike s.ops read_to.look t us (u ∷ more) same fits) (subst (λ ts. CompletesOperand s [] ts goal) (append_assoc read_to.read (t ∷ []) (u ∷ more)) w)

    -- a bracket would be refused just as a comma
    close-ends : (b : Bool) (vs : List Token) → tokens_of (chars_from text end) ≡ token b words.Comma ∷ vs → (more : List Token) (goal : Tree) → CompletesOperand s [] ((read_to.read ++ t ∷ []) ++ token false words.Close ∷ more) goal → ⊥
    close-ends b vs i more goal w =
        let is : us ≡ token b words.Comma ∷ vs = tails (tokens_of (chars_from text at)) us (tokens_of (chars_from text end)) t first-is (scans-tokens (onto found not-end none)) ∙ i in
        let same : ends_operand_before s.ops x (token false words.Close ∷ more) ≡ ends_operand_before s.ops x us = ends-same s.ops x (token false words.Close ∷ more) (token b words.Comma ∷ vs) refl refl ∙ ap (ends_operand_before s.ops x) (sym is) in
        closed (token false words.Close ∷ more) goal (presumed-alike s.ops read_to.look t us (token false words.Close ∷ more) same fits) (subst (λ ts. CompletesOperand s [] ts goal) (append_assoc read_to.read (t ∷ []) (token false words.Close ∷ more)) w)

    few-next : (u : Token) (vs : List Token) → tokens_of (chars_from text end) ≡ u ∷ vs → (m : ℕ) (name : List ℕ) → IsOneTooMany s ((read_to.read ++ t ∷ []) ++ u ∷ vs) (length (read_to.read ++ t ∷ [])) m name → ⊥
    few-next u vs i m name o =
        let h = many s (read_to.read ++ t ∷ []) vs u m name o in
        let nests = nests-more s text start k read_to.read (t ∷ []) (name-balanced a x j.sign j.name j.named) read_to.nests in
        let c = completes-close s text start k (read_to.read ++ t ∷ []) bounds nests h.full in
        close-ends h.apart vs (i ∙ ap (λ z. z ∷ vs) h.comma) c.more c.goal c.completes

    pub stuck-next : IsStuck s text start end
    stuck-next = record {
      read = read_to.read ++ t ∷ [];
      scans = scans-then read_to.scans (onto found not-end none);
      begins = begins-more s (read_to.read ++ t ∷ []) operand complete.0 complete.1;
      ends = after-ends;
      few = few-next;
    }

  not-may_take_operand : d ≡ true → d ≡ false → IsStuck s text start end
  not-may_take_operand e f = true_false d e f

  pub stuck-after : (d && is_named_post_operator s.ops x) ≡ true → IsStuck s text start end
  stuck-after n = by-look read_to.look refl read_to.may_take where
    e : d ≡ true
    e = and-left d (is_named_post_operator s.ops x) n

    by-look : (look : Lookahead) → read_to.look ≡ look → MayTakeOperandBefore s read_to.read look d → IsStuck s text start end
    by-look (Lone sign) h q = stuck-next sign h q e (named-post_operator s.ops x (and-right d (is_named_post_operator s.ops x) n))
    by-look Free h q = not-may_take_operand e q
    by-look (Named sign) h q = not-may_take_operand e q
    by-look (looks.WithOperand sign) h q = not-may_take_operand e q
    by-look InList h q = not-may_take_operand e q
    by-look InCurly h q = not-may_take_operand e q
    by-look (Joined y) h q = not-may_take_operand e q
