-- Where no operand begins.
use Rattle.std.proofs.Common.{◌≡◌, ◌∙◌, ℕ, ◌≤◌, ◌<◌, nat_lt, ◌^◌, Bool, true, false, not, ◌&&◌, ◌||◌, List, [], ◌∷◌, ◌++◌, Some, refl, sym, ap, subst, arith, append_assoc, pos, if◌then◌else◌}
use Rattle.au_model.specs.Syntax.Characters.{chars_from}
use Rattle.au_model.specs.Syntax.Tokens as words
use Rattle.au_model.specs.Syntax.Tokens.{Lexeme, Token, token, scanned, ScannedTo, ScannedNone, is_end, tokens_of}
use Rattle.au_model.specs.Syntax.Operators.{Operator, OperatorTable, prefix_of}
use Rattle.au_model.specs.Syntax.PostOperators.{PostOperator, Infix, Postfix, Nothing, named_post_operator, lexeme_post_operator, post_operator_fits, right_bound}
use Rattle.au_model.specs.Syntax.Primaries.{Setting, Leaf, Fails, primary_of, has_direct_open, is_minus_name, ends_operand_before, prefix_is_atom}
use Rattle.au_model.specs.Syntax.Trees.{Tree, IntTree, AtomTree, one, two}
use Rattle.term_reader.specs.Completion as stack
use Rattle.term_reader.specs.Completion.{OpenFrame, bound_of, CompletesOperand, CompletesAfter, CompletesFrame}
use Rattle.term_reader.specs.FrameShapes.{IsWithinBounds}
use Rattle.term_reader.specs.Lookahead as looks
use Rattle.term_reader.specs.Lookahead.{is_plain_name_before, is_as_expected, Scans, none, onto, IsName}
use Rattle.term_reader.specs.Positions.{Position, ExpectsOperand, AfterOperand, open_frames, IsWithinBound, HasReadTo}
use Rattle.au_model.specs.Syntax.TextFaults.{BeginsTerm}
use Rattle.term_reader.specs.Refusals.{IsStuck, accepts, lexeme_follows_atom}
use Rattle.term_reader.proofs.TooManyArgumentsLemmas.{many, completes-close, presumed-close}
use Rattle.term_reader.specs.OperatorReductions.{first_post_operator}
use Rattle.term_reader.proofs.ReadingIsSpellingLemmas.{fits-within}
use Rattle.term_reader.proofs.CompletionLemmas.{closing, closes, completion, completes}
use Rattle.term_reader.proofs.ScannedTokenLemmas.{scans-tokens, scans-then}
use Rattle.term_reader.proofs.LookaheadLemmas.{presumed-alike, post_operator_alone, joins-is, closing-quiet, closing-alone, completion-quiet, quiet-plain, IsQuiet}
use Rattle.au_term.proofs.LogicLemmas.{not-true, and-left, and-right}
use Rattle.term_reader.proofs.PrimaryLemmas.{Opened, ends-plain, by-call, list-opened, curly-opened, fill-fails}
use Rattle.term_reader.proofs.HasReadLemmas.{prefix-never, read_to-begins, begins-more}
use Rattle.term_reader.proofs.FirstTokenLemmas.{tokens-none, tokens-first}
use Rattle.term_reader.proofs.OperatorReductionLemmas.{over-prefix, over-infix, stops-at}
use Rattle.term_reader.proofs.RefusalLemmas.{lone-over, lone-alone, same_first, none_first, name_no_end, tails, true_false}
use Rattle.term_reader.proofs.LookaheadLemmas.{joined-first as next-alike}
use Rattle.term_reader.proofs.ReaderStepLemmas.{on-infix, on-postfix}
use Rattle.term_reader.proofs.CompletionStepLemmas.{fails, prefix_within, took_leaf, takes_leaf, goes_stop, went_infix, went_postfix, out_prefix, out_infix}
use Rattle.au_term.proofs.LogicLemmas.{or-left, or-right}

-- ---- nothing is there

pub stuck-none : (s : Setting) (text : List ℕ) (start at : ℕ) (x : Position) (d : Bool) → HasReadTo s text start x at d → IsWithinBounds (open_frames x) → IsWithinBound x → scanned (chars_from text at) ≡ ScannedNone → IsStuck s text start at
stuck-none s text start at x d read_to bounds low e = record {
  read = read_to.read;
  scans = read_to.scans;
  begins = read_to-begins s text start at d x read_to bounds low;
  ends = λ t us h more goal w. none_first (tokens_of (chars_from text at)) us t (tokens-none (chars_from text at) e) h;
  few = λ t us h m name o. none_first (tokens_of (chars_from text at)) us t (tokens-none (chars_from text at) e) h;
}

-- ---- no term begins so

-- a token that begins no term begins none, whatever comes after it
record BeginsNever (s : Setting) (a : Bool) (x : Lexeme) : Type 0 where
  pub never : (vs : List Token) → primary_of s (token a x ∷ vs) ≡ Fails
  pub alike : (us vs : List Token) → ends_operand_before s.ops x us ≡ ends_operand_before s.ops x vs

primary-never : (s : Setting) (a : Bool) (x : Lexeme) (us : List Token) → primary_of s (token a x ∷ us) ≡ Fails → Opened s (token a x) us → BeginsNever s a x
primary-never s a x us e o = absurd (fill-fails o.kind o.rest (sym o.now ∙ e))

integer-never : (s : Setting) (a : Bool) (k : ℕ) (us : List Token) → primary_of s (token a (words.Integer k) ∷ us) ≡ Fails → (b : Bool) → nat_lt k (2 ^ 63) ≡ b → BeginsNever s a (words.Integer k)
integer-never s a k us e true g =
    let h : Leaf (IntTree (pos k)) us ≡ Fails = sym (ap (λ c. if c then Leaf (IntTree (pos k)) us else Fails) g) ∙ e in
    let z : ⊥ = cc in absurd z
integer-never s a k us e false g = record { never = λ vs. ap (λ c. if c then Leaf (IntTree (pos k)) vs else Fails) g; alike = λ us vs. refl }

begins-never : (s : Setting) (a : Bool) (x : Lexeme) (us : List Token) → primary_of s (token a x ∷ us) ≡ Fails → BeginsNever s a x
begins-never s a (words.Name n) us e = primary-never s a (words.Name n) us e (by-call s a (words.Name n) (is_minus_name n) n (refl, refl) us (has_direct_open us) refl)
begins-never s a (words.QuotedName n) us e = primary-never s a (words.QuotedName n) us e (by-call s a (words.QuotedName n) false n (refl, refl) us (has_direct_open us) refl)
begins-never s a (words.Variable n) us e = let z : ⊥ = cc in absurd z
begins-never s a (words.Integer k) us e = integer-never s a k us e (nat_lt k (2 ^ 63)) refl
begins-never s a (words.Text cs) us e = let z : ⊥ = cc in absurd z
begins-never s a words.Open us e = let z : ⊥ = cc in absurd z
begins-never s a words.OpenList us e = primary-never s a words.OpenList us e (list-opened s a us)
begins-never s a words.OpenCurly us e = primary-never s a words.OpenCurly us e (curly-opened s a us)
begins-never s a x us e = record { never = λ vs. refl; alike = λ us vs. refl }

pub stuck-fails : (s : Setting) (text : List ℕ) (start at : ℕ) (k : List OpenFrame) (d a : Bool) (x : Lexeme) (rest : List ℕ) → HasReadTo s text start (ExpectsOperand k) at d → IsWithinBounds k → scanned (chars_from text at) ≡ ScannedTo (token a x) rest
    → primary_of s (tokens_of (chars_from text at)) ≡ Fails → IsStuck s text start at
stuck-fails s text start at k d a x rest read_to bounds e f =
    let first = tokens-first (chars_from text at) rest a x e in
    let n = begins-never s a x first.more (sym (ap (primary_of s) first.is) ∙ f) in
    let fits = ap (is_as_expected s.ops read_to.look) (sym first.is) ∙ read_to.fits in
    record {
      read = read_to.read;
      scans = read_to.scans;
      begins = read_to-begins s text start at d (ExpectsOperand k) read_to bounds tt;
      ends = λ t us h more goal w.
          let v = subst (λ u. CompletesOperand s [] (read_to.read ++ u ∷ more) goal) (same_first (tokens_of (chars_from text at)) first.more us (token a x) t first.is h) w in
          fails s (token a x ∷ more) (n.never more) (read_to.to (token a x ∷ more) goal (presumed-alike s.ops read_to.look (token a x) first.more more (n.alike more first.more) fits) v);
      few = λ t us h m name o.
          let g = many s read_to.read us t m name o in
          let c = completes-close s text start k read_to.read bounds read_to.nests g.full in
          let f = ap (is_as_expected s.ops read_to.look) (sym (h ∙ ap (λ u. u ∷ us) g.comma)) ∙ read_to.fits in
          fails s (token false words.Close ∷ c.more) refl (read_to.to (token false words.Close ∷ c.more) c.goal (presumed-close s.ops read_to.look g.apart us c.more f) c.completes);
    }

-- ---- operators put over an operand

-- no frame takes a name
module _ (s : Setting) (a : Bool) (sign : Bool) (n : List ℕ) (k : List OpenFrame) (more : List Token) (l goal : Tree) where
  not-over : (y : Lexeme) → IsName y sign n → CompletesFrame s [] (token a y ∷ more) l goal → ⊥
  not-over (words.Name m) i q = elim q [ ]
  not-over (words.QuotedName m) i q = elim q [ ]
  not-over y i q = i

  not-round : (y : Lexeme) → IsName y sign n → CompletesFrame s (stack.Round ∷ k) (token a y ∷ more) l goal → ⊥
  not-round (words.Name m) i q = elim q [ ]
  not-round (words.QuotedName m) i q = elim q [ ]
  not-round y i q = i

  not-braces : (y : Lexeme) → IsName y sign n → CompletesFrame s (stack.Braces ∷ k) (token a y ∷ more) l goal → ⊥
  not-braces (words.Name m) i q = elim q [ ]
  not-braces (words.QuotedName m) i q = elim q [ ]
  not-braces y i q = i

  not-item : (ts : List Tree) (y : Lexeme) → IsName y sign n → CompletesFrame s (stack.ItemOf ts ∷ k) (token a y ∷ more) l goal → ⊥
  not-item ts (words.Name m) i q = elim q [ ]
  not-item ts (words.QuotedName m) i q = elim q [ ]
  not-item ts y i q = i

  not-tail : (ts : List Tree) (y : Lexeme) → IsName y sign n → CompletesFrame s (stack.TailOf ts ∷ k) (token a y ∷ more) l goal → ⊥
  not-tail ts (words.Name m) i q = elim q [ ]
  not-tail ts (words.QuotedName m) i q = elim q [ ]
  not-tail ts y i q = i

  not-argument : (b : List ℕ) (w : ℕ) (ts : List Tree) (y : Lexeme) → IsName y sign n → CompletesFrame s (stack.ArgumentOf b w ts ∷ k) (token a y ∷ more) l goal → ⊥
  not-argument b w ts (words.Name m) i q = elim q [ ]
  not-argument b w ts (words.QuotedName m) i q = elim q [ ]
  not-argument b w ts y i q = i

stops-here : (s : Setting) (a : Bool) (x : Lexeme) (k : List OpenFrame) (l goal : Tree) (p b : ℕ) (more : List Token) → bound_of k ≡ b → post_operator_fits b p (lexeme_post_operator s.ops x) ≡ false → CompletesAfter s k (token a x ∷ more) l p goal → CompletesFrame s k (token a x ∷ more) l goal
stops-here s a x k l goal p b more h e g = goes_stop s (token a x ∷ more) l p (stops-at s.ops (bound_of k) p (token a x ∷ more) (lexeme_post_operator s.ops x) refl (ap (λ z. post_operator_fits z p (lexeme_post_operator s.ops x)) h ∙ e)) g

pub takes-never : (s : Setting) (a : Bool) (x : Lexeme) (sign : Bool) (n : List ℕ) → IsName x sign n → (k : List OpenFrame) (l : Tree) (p : ℕ) (more : List Token) (goal : Tree) → accepts k p (lexeme_post_operator s.ops x) ≡ false → CompletesAfter s k (token a x ∷ more) l p goal → ⊥
takes-never s a x sign n h [] l p more goal e g = not-over s a sign n [] more l goal x h (stops-here s a x [] l goal p 1200 more refl e g)
takes-never s a x sign n h (stack.Round ∷ k) l p more goal e g = not-round s a sign n k more l goal x h (stops-here s a x (stack.Round ∷ k) l goal p 1200 more refl e g)
takes-never s a x sign n h (stack.Braces ∷ k) l p more goal e g = not-braces s a sign n k more l goal x h (stops-here s a x (stack.Braces ∷ k) l goal p 1200 more refl e g)
takes-never s a x sign n h (stack.ItemOf ts ∷ k) l p more goal e g = not-item s a sign n k more l goal ts x h (stops-here s a x (stack.ItemOf ts ∷ k) l goal p 999 more refl e g)
takes-never s a x sign n h (stack.TailOf ts ∷ k) l p more goal e g = not-tail s a sign n k more l goal ts x h (stops-here s a x (stack.TailOf ts ∷ k) l goal p 999 more refl e g)
takes-never s a x sign n h (stack.ArgumentOf b w ts ∷ k) l p more goal e g = not-argument s a sign n k more l goal b w ts x h (stops-here s a x (stack.ArgumentOf b w ts ∷ k) l goal p 999 more refl e g)
takes-never s a x sign n h (stack.PrefixOf m o ∷ k) l p more goal e g =
    let f = post_operator_fits (right_bound o) p (lexeme_post_operator s.ops x) in
    let r = accepts k o.priority (lexeme_post_operator s.ops x) in
    takes-never s a x sign n h k (one m l) o.priority more goal (or-right f r e) (out_prefix s (stops-here s a x (stack.PrefixOf m o ∷ k) l goal p (right_bound o) more refl (or-left f r e) g))
takes-never s a x sign n h (stack.InfixOf m o u ∷ k) l p more goal e g =
    let f = post_operator_fits (right_bound o) p (lexeme_post_operator s.ops x) in
    let r = accepts k o.priority (lexeme_post_operator s.ops x) in
    takes-never s a x sign n h k (two m u l) o.priority more goal (or-right f r e) (out_infix s (stops-here s a x (stack.InfixOf m o u ∷ k) l goal p (right_bound o) more refl (or-left f r e) g))

-- some frame takes it
record Taken (s : Setting) (j : PostOperator) (k : List OpenFrame) (l : Tree) (p : ℕ) : Type 0 where
  pub below : List OpenFrame
  pub tree : Tree
  pub priority : ℕ
  pub bounds : IsWithinBounds below
  pub low : priority ≤ bound_of below
  pub fits : post_operator_fits (bound_of below) priority j ≡ true
  pub back : (ts : List Token) (goal : Tree) → first_post_operator s.ops ts ≡ j → CompletesAfter s below ts tree priority goal → CompletesAfter s k ts l p goal

taken-here : (s : Setting) (j : PostOperator) (k : List OpenFrame) (l : Tree) (p : ℕ) → IsWithinBounds k → p ≤ bound_of k → post_operator_fits (bound_of k) p j ≡ true → Taken s j k l p
taken-here s j k l p h le e = record { below = k; tree = l; priority = p; bounds = h; low = le; fits = e; back = λ ts goal f g. g }

taken : (s : Setting) (j : PostOperator) (k : List OpenFrame) (l : Tree) (p : ℕ) → IsWithinBounds k → p ≤ bound_of k → accepts k p j ≡ true → Taken s j k l p
taken s j [] l p h le e = taken-here s j [] l p h le e
taken s j (stack.Round ∷ k) l p h le e = taken-here s j (stack.Round ∷ k) l p h le e
taken s j (stack.Braces ∷ k) l p h le e = taken-here s j (stack.Braces ∷ k) l p h le e
taken s j (stack.ItemOf ts ∷ k) l p h le e = taken-here s j (stack.ItemOf ts ∷ k) l p h le e
taken s j (stack.TailOf ts ∷ k) l p h le e = taken-here s j (stack.TailOf ts ∷ k) l p h le e
taken s j (stack.ArgumentOf b w ts ∷ k) l p h le e = taken-here s j (stack.ArgumentOf b w ts ∷ k) l p h le e
taken s j (stack.PrefixOf m o ∷ k) l p h le e = go (post_operator_fits (right_bound o) p j) refl e (taken s j k (one m l) o.priority h.1 h.0) where
  go : (b : Bool) → post_operator_fits (right_bound o) p j ≡ b → (b || accepts k o.priority j) ≡ true → (accepts k o.priority j ≡ true → Taken s j k (one m l) o.priority) → Taken s j (stack.PrefixOf m o ∷ k) l p
  go true f i r = taken-here s j (stack.PrefixOf m o ∷ k) l p h le f
  go false f i r =
      let t = r i in
      let v = over-prefix s j k m o l p le f in
      record { below = t.below; tree = t.tree; priority = t.priority; bounds = t.bounds; low = t.low; fits = t.fits; back = λ ts goal q g. v.back ts goal q (t.back ts goal q g) }
taken s j (stack.InfixOf m o u ∷ k) l p h le e = go (post_operator_fits (right_bound o) p j) refl e (taken s j k (two m u l) o.priority h.1 h.0) where
  go : (b : Bool) → post_operator_fits (right_bound o) p j ≡ b → (b || accepts k o.priority j) ≡ true → (accepts k o.priority j ≡ true → Taken s j k (two m u l) o.priority) → Taken s j (stack.InfixOf m o u ∷ k) l p
  go true f i r = taken-here s j (stack.InfixOf m o u ∷ k) l p h le f
  go false f i r =
      let t = r i in
      let v = over-infix s j k m o u l p le f in
      record { below = t.below; tree = t.tree; priority = t.priority; bounds = t.bounds; low = t.low; fits = t.fits; back = λ ts goal q g. v.back ts goal q (t.back ts goal q g) }

-- what completes an operand with the post-operator after it
record Joined (s : Setting) (a : Bool) (x : Lexeme) (k : List OpenFrame) (l : Tree) (p : ℕ) : Type 0 where
  pub more : List Token
  pub quiet : IsQuiet more
  pub goal : Tree
  pub continues : CompletesAfter s k (token a x ∷ more) l p goal

joined : (s : Setting) (a : Bool) (x : Lexeme) (k : List OpenFrame) (l : Tree) (p : ℕ) → (j : PostOperator) → lexeme_post_operator s.ops x ≡ j → Taken s j k l p → Joined s a x k l p
joined s a x k l p (Infix n o) e t =
    let y = ExpectsOperand (stack.InfixOf n o t.tree ∷ t.below) in
    let c = completes s y (fits-within (bound_of t.below) t.priority o t.fits, t.bounds) tt in
    let i = on-infix s.ops (bound_of t.below) t.priority (token a x ∷ completion y) (completion y) (token a x) n o refl e t.fits in
    record { more = completion y; quiet = completion-quiet y; goal = c.0; continues = t.back (token a x ∷ completion y) c.0 e (went_infix s (token a x ∷ completion y) (completion y) n o t.tree t.priority i t.low c.1) }
joined s a x k l p (Postfix n o) e t =
    let y = AfterOperand t.below (one n t.tree) o.priority in
    let c = completes s y t.bounds (fits-within (bound_of t.below) t.priority o t.fits) in
    let i = on-postfix s.ops (bound_of t.below) t.priority (token a x ∷ completion y) (completion y) (token a x) n o refl e t.fits in
    record { more = completion y; quiet = completion-quiet y; goal = c.0; continues = t.back (token a x ∷ completion y) c.0 e (went_postfix s (token a x ∷ completion y) (completion y) n o t.tree t.priority i t.low c.1) }
joined s a x k l p Nothing e t = absurd (nothing_fits (bound_of t.below) t.priority t.fits) where
  nothing_fits : (b q : ℕ) → post_operator_fits b q Nothing ≡ true → ⊥
  nothing_fits b q i = cc

-- ---- names that join atoms

record JoinsName (ops : OperatorTable) (k : List OpenFrame) (y : Lexeme) : Type 0 where
  pub sign : Bool
  pub name : List ℕ
  pub named : IsName y sign name
  pub alone : post_operator_alone ops name ≡ true
  pub takes : accepts k 0 (lexeme_post_operator ops y) ≡ true

joins-name : (ops : OperatorTable) (k : List OpenFrame) (y : Lexeme) → lexeme_follows_atom ops k y ≡ true → JoinsName ops k y
joins-name ops k (words.Name m) e = record { sign = is_minus_name m; name = m; named = (refl, refl); alone = and-left (post_operator_alone ops m) (accepts k 0 (named_post_operator ops m)) e; takes = and-right (post_operator_alone ops m) (accepts k 0 (named_post_operator ops m)) e }
joins-name ops k (words.QuotedName m) e = record { sign = false; name = m; named = (refl, refl); alone = and-left (post_operator_alone ops m) (accepts k 0 (named_post_operator ops m)) e; takes = and-right (post_operator_alone ops m) (accepts k 0 (named_post_operator ops m)) e }
joins-name ops k y e = let z : ⊥ = cc in absurd z

and-false : (x y : Bool) → x ≡ true → (x && y) ≡ false → y ≡ false
and-false true y e h = h
and-false false y e h = let z : ⊥ = cc in absurd z

-- a token in front of which an operator may stand for itself or not is a name that joins, and no frame takes it
not-joined : (s : Setting) (b : Bool) (y : Lexeme) (k : List OpenFrame) (n : List ℕ) (more us : List Token) (goal : Tree) → ends_operand_before s.ops y us ≡ false → ends_operand_before s.ops y more ≡ true → lexeme_follows_atom s.ops k y ≡ false → CompletesAfter s k (token b y ∷ more) (AtomTree n) 0 goal → ⊥
not-joined s b (words.Name m) k n more us goal e f h g =
    let alone = and-left (post_operator_alone s.ops m) (is_plain_name_before (is_minus_name m) more) (sym (joins-is s.ops m (words.Name m) more) ∙ f) in
    takes-never s b (words.Name m) (is_minus_name m) m (refl, refl) k (AtomTree n) 0 more goal (and-false (post_operator_alone s.ops m) (accepts k 0 (named_post_operator s.ops m)) alone h) g
not-joined s b (words.QuotedName m) k n more us goal e f h g =
    let alone = and-left (post_operator_alone s.ops m) (is_plain_name_before false more) (sym (joins-is s.ops m (words.QuotedName m) more) ∙ f) in
    takes-never s b (words.QuotedName m) false m (refl, refl) k (AtomTree n) 0 more goal (and-false (post_operator_alone s.ops m) (accepts k 0 (named_post_operator s.ops m)) alone h) g
not-joined s b y k n more us goal e f h g = let z : ⊥ = cc in absurd z

-- in front of a comma a prefix operator stands for itself
comma-alone : (ops : OperatorTable) (b : Bool) (y : Lexeme) (c : Bool) (us : List Token) → token b y ≡ token c words.Comma → ends_operand_before ops y us ≡ false → ⊥
comma-alone ops b words.Comma c us e h = let z : ⊥ = cc in z
comma-alone ops b y c us e h = let z : ⊥ = cc in z

-- ---- after a prefix operator above the bound

module _ (s : Setting) (text : List ℕ) (start at end : ℕ) (k : List OpenFrame) (d a : Bool) (x : Lexeme) (sign : Bool) (n : List ℕ) (o : Operator) (read_to : HasReadTo s text start (ExpectsOperand k) at d) (bounds : IsWithinBounds k)
    (found : scanned (chars_from text at) ≡ ScannedTo (token a x) (chars_from text end)) (named : IsName x sign n) (pre : prefix_of s.ops n ≡ Some o) (high : bound_of k < o.priority)
    (over : is_as_expected s.ops (looks.WithOperand sign) (tokens_of (chars_from text end)) ≡ true) (no_end : is_end x ≡ false) where
  abbrev first : Token
  first = token a x

  abbrev left : List Token
  left = tokens_of (chars_from text end)

  here : tokens_of (chars_from text at) ≡ first ∷ left
  here = scans-tokens (onto found no_end none)

  sure : (vs : List Token) → is_as_expected s.ops read_to.look (first ∷ vs) ≡ true
  sure vs = presumed-alike s.ops read_to.look first left vs (prefix-never s.ops x sign n o named pre vs ∙ sym (prefix-never s.ops x sign n o named pre left)) (ap (is_as_expected s.ops read_to.look) (sym here) ∙ read_to.fits)

  plain-left : is_plain_name_before sign left ≡ true
  plain-left = and-left (is_plain_name_before sign left) (not (prefix_is_atom s.ops left)) over

  alone-left : not (prefix_is_atom s.ops left) ≡ true
  alone-left = and-right (is_plain_name_before sign left) (not (prefix_is_atom s.ops left)) over

  front : (vs : List Token) (goal : Tree) → CompletesOperand s [] ((read_to.read ++ first ∷ []) ++ vs) goal → CompletesOperand s k (first ∷ vs) goal
  front vs goal w = read_to.to (first ∷ vs) goal (sure vs) (subst (λ ts. CompletesOperand s [] ts goal) (append_assoc read_to.read (first ∷ []) vs) w)

  after : (vs : List Token) (goal : Tree) → CompletesOperand s k (first ∷ vs) goal → CompletesOperand s [] ((read_to.read ++ first ∷ []) ++ vs) goal
  after vs goal w = subst (λ ts. CompletesOperand s [] ts goal) (sym (append_assoc read_to.read (first ∷ []) vs)) (read_to.back (first ∷ vs) goal (sure vs) w)

  -- it has no operand
  no-operand : (vs : List Token) (goal : Tree) → is_plain_name_before sign vs ≡ true → prefix_is_atom s.ops vs ≡ false → CompletesOperand s k (first ∷ vs) goal → ⊥
  no-operand vs goal e f w =
      let le : o.priority ≤ bound_of k = prefix_within s (first ∷ vs) vs n o (lone-over s a x sign n o vs named pre e f) w in
      omega (arith, le, high)

  -- it stands for itself
  by-itself : (vs : List Token) (goal : Tree) → is_plain_name_before sign vs ≡ true → prefix_is_atom s.ops vs ≡ true → CompletesAfter s k vs (AtomTree n) 0 goal → CompletesOperand s k (first ∷ vs) goal
  by-itself vs goal e f g = took_leaf s (first ∷ vs) vs (AtomTree n) (lone-alone s a x sign n o vs named pre e f) g

  itself : (vs : List Token) (goal : Tree) → is_plain_name_before sign vs ≡ true → prefix_is_atom s.ops vs ≡ true → CompletesOperand s k (first ∷ vs) goal → CompletesAfter s k vs (AtomTree n) 0 goal
  itself vs goal e f w = takes_leaf s (first ∷ vs) vs (AtomTree n) (lone-alone s a x sign n o vs named pre e f) w

  begins-alone : BeginsTerm s (read_to.read ++ first ∷ [])
  begins-alone =
      let c = closes s k bounds (AtomTree n) 0 (omega arith) in
      begins-more s (read_to.read ++ first ∷ []) (closing k) c.0 (after (closing k) c.0 (by-itself (closing k) c.0 (quiet-plain sign (closing k) (closing-quiet k)) (closing-alone s.ops k) c.1))

  scans-first : Scans (chars_from text start) (read_to.read ++ first ∷ []) (chars_from text end)
  scans-first = scans-then read_to.scans (onto found no_end none)

  pub high-none : scanned (chars_from text end) ≡ ScannedNone → IsStuck s text start end
  high-none e = record {
    read = read_to.read ++ first ∷ [];
    scans = scans-first;
    begins = begins-alone;
    ends = λ t us h more goal w. none_first left us t (tokens-none (chars_from text end) e) h;
    few = λ t us h m name o. none_first left us t (tokens-none (chars_from text end) e) h;
  }

  module _ (last : ℕ) (b : Bool) (y : Lexeme) (next : scanned (chars_from text end) ≡ ScannedTo (token b y) (chars_from text last)) where
    abbrev t : Token
    t = token b y

    us : List Token
    us = (tokens-first (chars_from text end) (chars_from text last) b y next).more

    left-is : left ≡ t ∷ us
    unfolding us
    left-is = (tokens-first (chars_from text end) (chars_from text last) b y next).is

    plain : (vs : List Token) → is_plain_name_before sign (t ∷ vs) ≡ true
    plain vs = ap (is_plain_name_before sign) (sym left-is) ∙ plain-left

    not-alone : ends_operand_before s.ops y us ≡ false
    not-alone = not-true (ends_operand_before s.ops y us) (ap (λ ts. not (prefix_is_atom s.ops ts)) (sym left-is) ∙ alone-left)

    -- the token is refused
    ends-here : lexeme_follows_atom s.ops k y ≡ false → (more : List Token) (goal : Tree) → CompletesOperand s k (first ∷ t ∷ more) goal → ⊥
    ends-here e more goal w = go (ends_operand_before s.ops y more) refl where
      go : (c : Bool) → ends_operand_before s.ops y more ≡ c → ⊥
      go false f = no-operand (t ∷ more) goal (plain more) f w
      go true f = not-joined s b y k n more us goal not-alone f e (itself (t ∷ more) goal (plain more) f w)

    pub high-here : lexeme_follows_atom s.ops k y ≡ false → IsStuck s text start end
    high-here e = record {
      read = read_to.read ++ first ∷ [];
      scans = scans-first;
      begins = begins-alone;
      ends = λ u vs h more goal w. ends-here e more goal (front (t ∷ more) goal (subst (λ z. CompletesOperand s [] ((read_to.read ++ first ∷ []) ++ z ∷ more) goal) (same_first left us vs t u left-is h) w));
      few = λ u vs h m name o.
          let g = many s (read_to.read ++ first ∷ []) vs u m name o in
          comma-alone s.ops b y g.apart us (sym (same_first left us vs t u left-is h) ∙ g.comma) not-alone;
    }

    -- or it joins the operator to the next one
    pub high-next : lexeme_follows_atom s.ops k y ≡ true → IsStuck s text start last
    high-next e =
        let j = joins-name s.ops k y e in
        let c = joined s b y k (AtomTree n) 0 (lexeme_post_operator s.ops y) refl (taken s (lexeme_post_operator s.ops y) k (AtomTree n) 0 bounds (omega arith) j.takes) in
        let alone : prefix_is_atom s.ops (t ∷ c.more) ≡ true = ends-plain s.ops y j.sign j.name j.named c.more (quiet-plain j.sign c.more c.quiet) ∙ j.alone in
        let end_no = name_no_end y j.sign j.name j.named in
        record {
          read = (read_to.read ++ first ∷ []) ++ t ∷ [];
          scans = scans-then scans-first (onto next end_no none);
          begins = begins-more s ((read_to.read ++ first ∷ []) ++ t ∷ []) c.more c.goal
              (subst (λ ts. CompletesOperand s [] ts c.goal) (sym (append_assoc (read_to.read ++ first ∷ []) (t ∷ []) c.more)) (after (t ∷ c.more) c.goal (by-itself (t ∷ c.more) c.goal (plain c.more) alone c.continues)));
          ends = λ u vs h more goal w.
              let is : us ≡ u ∷ vs = tails left us (tokens_of (chars_from text last)) t left-is (scans-tokens (onto next end_no none)) ∙ h in
              let f : ends_operand_before s.ops y (u ∷ more) ≡ false = next-alike s.ops y u more vs ∙ (ap (ends_operand_before s.ops y) (sym is) ∙ not-alone) in
              no-operand (t ∷ u ∷ more) goal (plain (u ∷ more)) f (front (t ∷ u ∷ more) goal (subst (λ ts. CompletesOperand s [] ts goal) (append_assoc (read_to.read ++ first ∷ []) (t ∷ []) (u ∷ more)) w));
          few = λ u vs h m name o.
              let g = many s ((read_to.read ++ first ∷ []) ++ t ∷ []) vs u m name o in
              let is : us ≡ token g.apart words.Comma ∷ vs = tails left us (tokens_of (chars_from text last)) t left-is (scans-tokens (onto next end_no none)) ∙ (h ∙ ap (λ z. z ∷ vs) g.comma) in
              let joins : ends_operand_before s.ops y (token g.apart words.Comma ∷ vs) ≡ true = ends-plain s.ops y j.sign j.name j.named (token g.apart words.Comma ∷ vs) (quiet-plain j.sign (token g.apart words.Comma ∷ vs) (record { no_open = refl; no_count = refl })) ∙ j.alone in
              true_false (ends_operand_before s.ops y us) (ap (ends_operand_before s.ops y) is ∙ joins) not-alone;
        }
