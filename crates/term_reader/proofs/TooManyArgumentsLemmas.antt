-- A comma after the last argument that a compound may have.
use Rattle.std.proofs.Common.{◌≡◌, ◌∙◌, ℕ, ◌+◌, ◌≤◌, ◌<◌, Bool, true, false, List, [], ◌∷◌, ◌++◌, length, length-append, Some, refl, sym, ap, subst, arith, append_assoc}
use Rattle.std.proofs.Math.Seq.{take-append_seam}
use Rattle.au_model.specs.Syntax.Tokens.{Token, token, Variable, Open, OpenList, OpenCurly, Close, Comma}
use Rattle.au_model.specs.Syntax.Operators.{OperatorTable}
use Rattle.au_model.specs.Syntax.Primaries.{Setting}
use Rattle.au_model.specs.Syntax.Spelling as d
use Rattle.au_model.specs.Syntax.Trees.{Tree, Trees, VarTree, CompoundTree, no_trees, more_trees, tree_count}
use Rattle.term_reader.specs.Brackets.{Balanced}
use Rattle.term_reader.specs.FrameShapes.{IsWithinBounds, HasNoOperatorOnTop}
use Rattle.term_reader.specs.Lookahead.{Lookahead, Free, Named, Lone, WithOperand, InList, InCurly, Joined, is_as_expected}
use Rattle.term_reader.specs.Nesting.{OpenSince, ReadsAfterRound, NestsIn}
use Rattle.term_reader.specs.Positions.{ExpectsOperand}
use Rattle.term_reader.specs.Completion as stack
use Rattle.term_reader.specs.Completion.{OpenFrame, bound_of, trees_of, CompletesOperand, by_operand, CompletesAfter, round, argument}
use Rattle.au_model.specs.Syntax.TextFaults.{Past, IsOneTooMany}
use Rattle.term_reader.proofs.ReadingIsSpellingLemmas.{call_arguments}
use Rattle.term_reader.proofs.SpellingIsReadingLemmas.{whole_of, arguments_of}
use Rattle.term_reader.proofs.CompletionLemmas.{closing, closes, completion, completes}
use Rattle.term_reader.proofs.HasReadLemmas.{get-after}
use Rattle.term_reader.proofs.PrimaryLemmas.{ends-same}
use Rattle.term_reader.proofs.BracketLemmas.{last-push_frame, none-push_frame, first-close}
use Rattle.term_reader.proofs.ArgumentTokenLemmas.{arguments-front, arguments-term, past-arguments, past-term}
use Rattle.term_reader.proofs.LongCompoundLemmas.{slice}
use Rattle.term_reader.proofs.CompletionStepLemmas.{went_stop, arguments_in, arguments_out}

-- what was read up to the comma
pub record FullInside (s : Setting) (read : List Token) : Type 0 where
  pub before : List Token
  pub inside : List Token
  pub is : read ≡ before ++ token false Open ∷ inside
  pub balanced : Balanced inside
  pub again : (a : Bool) (vs : List Token) → Past s 65535 (inside ++ token a Comma ∷ vs) vs
  pub closed : (a : Bool) (vs : List Token) → (args : Trees) × (tree_count args ≡ 65535) × d.Arguments s (inside ++ token a Close ∷ vs) vs args

pub record Many (s : Setting) (read : List Token) (t : Token) : Type 0 where
  pub full : FullInside s read
  pub apart : Bool
  pub comma : t ≡ token apart Comma

within : (read us : List Token) (t : Token) → length read < length (read ++ t ∷ us)
within read us t = let n = length-append read (t ∷ us) in omega arith

some-same : (t u : Token) → Some t ≡ Some u → t ≡ u
some-same t u e = cc

pub many : (s : Setting) (read us : List Token) (t : Token) (m : ℕ) (name : List ℕ) → IsOneTooMany s (read ++ t ∷ us) (length read) m name → Many s read t
many s read us t m name h =
    let c = slice s (read ++ t ∷ us) (length read) m name (within read us t) h in
    record {
      full = record {
        before = c.first ++ c.named;
        inside = c.inside;
        is = sym (take-append_seam read (t ∷ us)) ∙ c.read;
        balanced = c.balanced;
        again = c.again;
        closed = c.closed;
      };
      apart = c.apart;
      comma = some-same t (token c.apart Comma) (sym (get-after read us t) ∙ c.comma);
    }

-- what is presumed of a comma is presumed of a bracket too
pub presumed-close : (ops : OperatorTable) (look : Lookahead) (a : Bool) (us vs : List Token) → is_as_expected ops look (token a Comma ∷ us) ≡ true → is_as_expected ops look (token false Close ∷ vs) ≡ true
presumed-close ops Free a us vs e = refl
presumed-close ops (Named sign) a us vs e = e
presumed-close ops (Lone sign) a us vs e = e
presumed-close ops (WithOperand sign) a us vs e = e
presumed-close ops InList a us vs e = refl
presumed-close ops InCurly a us vs e = refl
presumed-close ops (Joined x) a us vs e = ends-same ops x (token false Close ∷ vs) (token a Comma ∷ us) refl refl ∙ e

-- a compound with the last argument but one that it may have
abbrev pub IsFullStack : List OpenFrame → Type 0
IsFullStack (stack.ArgumentOf m w ts ∷ k) = 65534 ≤ length ts
IsFullStack _ = ⊥

-- ---- the bracket after which the arguments are

-- with a bracket in place of the comma, all can be read
pub record Completes (s : Setting) (read : List Token) (t : Token) : Type 0 where
  pub more : List Token
  pub goal : Tree
  pub completes : CompletesOperand s [] (read ++ t ∷ more) goal

module _ (s : Setting) (text : List ℕ) (start : ℕ) where
  module _ (read : List Token) (f : FullInside s read) where
    -- it is the last one that is open
    here : (b : OpenSince Open read) → (b.inside ≡ f.inside) × (token b.apart Open ≡ token false Open)
    here b = let e = last-push_frame b.before f.before b.inside f.inside b.apart false Open Open tt tt b.balanced f.balanced (sym b.is ∙ f.is) in (e.2, e.1)

    not-curly : (b : OpenSince OpenCurly read) {A : Type 0} → A
    not-curly b =
        let e = (last-push_frame b.before f.before b.inside f.inside b.apart false OpenCurly Open tt tt b.balanced f.balanced (sym b.is ∙ f.is)).1 in
        let z : ⊥ = cc in absurd z

    not-list : (b : OpenSince OpenList read) {A : Type 0} → A
    not-list b =
        let e = (last-push_frame b.before f.before b.inside f.inside b.apart false OpenList Open tt tt b.balanced f.balanced (sym b.is ∙ f.is)).1 in
        let z : ⊥ = cc in absurd z

    not-none : Balanced read → {A : Type 0} → A
    not-none h = absurd (none-push_frame f.before f.inside false Open tt f.balanced (subst Balanced f.is h))

    whole : (b : OpenSince Open read) (vs : List Token) → b.before ++ token b.apart Open ∷ (f.inside ++ vs) ≡ read ++ vs
    whole b vs = sym (append_assoc b.before (token b.apart Open ∷ f.inside) vs) ∙ ap (λ us. us ++ vs) (ap (λ us. b.before ++ token b.apart Open ∷ us) (sym (here b).0) ∙ sym b.is)

    from-bracket : (b : OpenSince Open read) (k : List OpenFrame) (t : Token) (more : List Token) (goal : Tree) → ReadsAfterRound s k b.before b.apart → CompletesOperand s k (f.inside ++ t ∷ more) goal → Completes s read t
    from-bracket b k t more goal r w = record { more = more; goal = goal; completes = subst (λ us. CompletesOperand s [] us goal) (whole b (t ∷ more)) (r.back (f.inside ++ t ∷ more) goal w) }

    in-round : (k : List OpenFrame) → IsWithinBounds k → (us : List Token) → (a : Bool) (u : Tree) → d.Operand s 1200 us (token a Close ∷ closing k) u → (goal : Tree) × CompletesOperand s (stack.Round ∷ k) us goal
    in-round k bounds us a u o = let c = closes s k bounds u 0 (omega arith) in (c.0, by_operand (whole_of o) (round c.1))

    round-close : (b : OpenSince Open read) (k : List OpenFrame) → IsWithinBounds k → ReadsAfterRound s (stack.Round ∷ k) b.before b.apart → Completes s read (token false Close)
    round-close b k bounds r =
        let c = f.closed false (closing k) in
        let o = arguments-term s (f.inside ++ token false Close ∷ closing k) (closing k) c.0 c.2 in
        let w = in-round k bounds (f.inside ++ token false Close ∷ closing k) o.0 o.1 o.2 in
        from-bracket b (stack.Round ∷ k) (token false Close) (closing k) w.0 r w.1

    atom-operand : (k : List OpenFrame) → d.Operand s 999 (token true (Variable []) ∷ token false Close ∷ closing k) (token false Close ∷ closing k) (VarTree [])
    atom-operand k = d.operand (d.form d.leaf) (omega arith) refl

    round-comma : (b : OpenSince Open read) (k : List OpenFrame) (a : Bool) → IsWithinBounds k → ReadsAfterRound s (stack.Round ∷ k) b.before b.apart → Completes s read (token a Comma)
    round-comma b k a bounds r =
        let more = token true (Variable []) ∷ token false Close ∷ closing k in
        let o = past-term s 65535 (f.inside ++ token a Comma ∷ more) more (closing k) false (VarTree []) (f.again a more) (atom-operand k) in
        let w = in-round k bounds (f.inside ++ token a Comma ∷ more) false o.0 o.1 in
        from-bracket b (stack.Round ∷ k) (token a Comma) more w.0 r w.1

    call-close : (b : OpenSince Open read) (k : List OpenFrame) (n : List ℕ) (w : ℕ) → IsWithinBounds k → ReadsAfterRound s (stack.ArgumentOf n w [] ∷ k) b.before b.apart → Completes s read (token false Close)
    call-close b k n w bounds r =
        let c = f.closed false (closing k) in
        let g = closes s k bounds (CompoundTree n (trees_of [] c.0)) 0 (omega arith) in
        let few : length {A = Tree} [] + tree_count c.0 ≤ 65535 = omega (arith, c.1) in
        from-bracket b (stack.ArgumentOf n w [] ∷ k) (token false Close) (closing k) g.0 r (arguments_in s [] (arguments_of c.2) few g.1)

  -- with a bracket in place of the comma all that is open can be completed
  pub completes-close : (k : List OpenFrame) (read : List Token) → IsWithinBounds k → NestsIn s text start read k → FullInside s read → Completes s read (token false Close)
  completes-close [] read h n f = not-none read f n
  completes-close (stack.Round ∷ k) read h n f = round-close read f n.0 k h n.1
  completes-close (stack.Braces ∷ k) read h n f = not-curly read f n.0
  completes-close (stack.ItemOf ts ∷ k) read h n f = not-list read f n.0
  completes-close (stack.TailOf ts ∷ k) read h n f = not-list read f n.0
  completes-close (stack.ArgumentOf m w ts ∷ k) read h n f = call-close read f n.0 k m w h.1 n.1
  completes-close (stack.PrefixOf m o ∷ k) read h n f = completes-close k read h.1 n f
  completes-close (stack.InfixOf m o l ∷ k) read h n f = completes-close k read h.1 n f

  -- ---- after an operand

  -- a compound with fewer arguments takes the comma
  call-comma : (m : List ℕ) (w : ℕ) (ts : List Tree) (k : List OpenFrame) (l : Tree) (p : ℕ) (a : Bool) → IsWithinBounds k → p ≤ 999 → length ts < 65534 → (more : List Token) × (goal : Tree) × CompletesAfter s (stack.ArgumentOf m w ts ∷ k) (token a Comma ∷ more) l p goal
  call-comma m w ts k l p a bounds low lt =
      let x = ExpectsOperand (stack.ArgumentOf m w (l ∷ ts) ∷ k) in
      let c = completes s x (omega arith, bounds) tt in
      (completion x, c.0, went_stop s (token a Comma ∷ completion x) l p refl low (argument lt c.1))

  pub few-after : (k : List OpenFrame) (read : List Token) (l : Tree) (p : ℕ) (a : Bool) → IsWithinBounds k → HasNoOperatorOnTop k → p ≤ bound_of k → NestsIn s text start read k → FullInside s read
      → ((more : List Token) (goal : Tree) → CompletesOperand s [] (read ++ token a Comma ∷ more) goal → ⊥) → ((more : List Token) (goal : Tree) → CompletesAfter s k (token a Comma ∷ more) l p goal → ⊥) → (IsFullStack k → ⊥) → ⊥
  few-after [] read l p a h i le n f ends refused spare = not-none read f n
  few-after (stack.Round ∷ k) read l p a h i le n f ends refused spare = let c = round-comma read f n.0 k a h n.1 in ends c.more c.goal c.completes
  few-after (stack.Braces ∷ k) read l p a h i le n f ends refused spare = not-curly read f n.0
  few-after (stack.ItemOf ts ∷ k) read l p a h i le n f ends refused spare = not-list read f n.0
  few-after (stack.TailOf ts ∷ k) read l p a h i le n f ends refused spare = not-list read f n.0
  few-after (stack.ArgumentOf m w ts ∷ k) read l p a h i le n f ends refused spare =
      let taken : length ts < 65534 → ⊥ = (λ lt. let g = call-comma m w ts k l p a h.1 le lt in refused g.0 g.1 g.2) in
      let full : 65534 ≤ length ts = omega (arith, taken) in
      spare full
  few-after (stack.PrefixOf m o ∷ k) read l p a h i le n f ends refused spare = i
  few-after (stack.InfixOf m o u ∷ k) read l p a h i le n f ends refused spare = i

  -- ---- the last argument

  module _ (k : List OpenFrame) (name : List ℕ) (place : ℕ) (read : List Token) (a : Bool) (bounds : IsWithinBounds k) (b : OpenSince Open read) (r : ReadsAfterRound s (stack.ArgumentOf name place [] ∷ k) b.before b.apart)
      (ends : (more : List Token) (goal : Tree) → CompletesOperand s [] (read ++ token a Comma ∷ more) goal → ⊥) where
    seam : (vs : List Token) → read ++ vs ≡ b.before ++ token b.apart Open ∷ (b.inside ++ vs)
    seam vs = ap (λ us. us ++ vs) b.is ∙ append_assoc b.before (token b.apart Open ∷ b.inside) vs

    -- were they fewer, the comma would be taken
    not-fewer : (n : ℕ) → ((vs : List Token) → Past s n (b.inside ++ token a Comma ∷ vs) vs) → n < 65535 → ⊥
    not-fewer n past lt =
        let more = token true (Variable []) ∷ token false Close ∷ closing k in
        let last : d.Arguments s more (closing k) (more_trees (VarTree []) no_trees) = d.final {a = false} (d.operand (d.form d.leaf) (omega arith) refl) in
        let all = past-arguments s n (b.inside ++ token a Comma ∷ more) more (closing k) (more_trees (VarTree []) no_trees) (past more) last in
        let g = closes s k bounds (CompoundTree name (trees_of [] all.0)) 0 (omega arith) in
        let few : length {A = Tree} [] + tree_count all.0 ≤ 65535 = omega (arith, all.1, lt) in
        let w = arguments_in s {k = k} {w = place} [] (arguments_of all.2) few g.1 in
        ends more g.0 (subst (λ us. CompletesOperand s [] us g.0) (sym (seam (token a Comma ∷ more))) (r.back (b.inside ++ token a Comma ∷ more) g.0 w))

    pub past-last : (goal : Tree) → CompletesOperand s [] (read ++ token false Close ∷ closing k) goal → (vs : List Token) → Past s 65535 (b.inside ++ token a Comma ∷ vs) vs
    past-last goal w =
        let v = r.to (b.inside ++ token false Close ∷ closing k) goal (subst (λ us. CompletesOperand s [] us goal) (seam (token false Close ∷ closing k)) w) in
        let o = arguments_out s [] (omega arith) v in
        let c = arguments-front s (b.inside ++ token false Close ∷ closing k) o.rest o.args (call_arguments o.are) in
        let same = first-close b.inside c.inside (closing k) o.rest false c.apart Close Close tt tt b.balanced c.balanced c.is in
        let past : (vs : List Token) → Past s (tree_count o.args) (b.inside ++ token a Comma ∷ vs) vs = (λ vs. subst (λ us. Past s (tree_count o.args) (us ++ token a Comma ∷ vs) vs) (sym same.0) (c.past a vs)) in
        let some : tree_count o.args < 65535 → ⊥ = not-fewer (tree_count o.args) past in
        let few = o.few in
        let count : tree_count o.args ≡ 65535 = omega (arith, some) in
        λ vs. subst (λ n. Past s n (b.inside ++ token a Comma ∷ vs) vs) count (past vs)
