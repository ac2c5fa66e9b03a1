-- The steps of a reader, at places of a text.
use Rattle.std.proofs.Common.{◌≡◌, ◌∙◌, ℕ, suc, ◌≤◌, nat_le, Bool, true, false, List, [], ◌∷◌, ◌++◌, map, Option, Some, None, refl, sym, ap, subst, arith}
use Rattle.au_model.specs.Syntax.Characters.{chars_from}
use Rattle.au_model.specs.Syntax.Tokens as words
use Rattle.au_model.specs.Syntax.Tokens.{Lexeme, Token, token, scanned, ScannedTo, ScannedNone, is_end, tokens_of}
use Rattle.au_model.specs.Syntax.Operators.{Operator, OperatorTable, prefix_of}
use Rattle.au_model.specs.Syntax.PostOperators.{PostOperator, Infix, Postfix, post_operator_fits, lexeme_post_operator, token_post_operator}
use Rattle.au_model.specs.Syntax.Trees.{Tree, AtomTree, one, two}
use Rattle.au_model.specs.Syntax.Primaries as begun
use Rattle.au_model.specs.Syntax.Primaries.{Setting, primary_of, lexeme_primary, is_post_operator, is_minus_name}
use Rattle.au_model.specs.declared.types.DoubleQuotes.{DoubleQuotes}
use Rattle.op_table.specs.declared.operator.Operator.{Operator as DeclaredOperator}
use Rattle.term_reader.specs.declared.primary.Leaf.{Leaf}
use Rattle.term_reader.specs.declared.primary.Leaf.TheVariants as leaf
use Rattle.token_scan.specs.ScannedParts.{IsPlaceFrom}
use Rattle.op_table.specs.OperatorView.{operator_meant}
use Rattle.term_reader.specs.PrimaryView.{setting_of, tokens_at, leaf_tree, primary_meant, PrimaryEndsFrom, IsPrimaryOfLexeme}
use Rattle.term_reader.specs.Lookahead as looks
use Rattle.term_reader.specs.Lookahead.{Lookahead, Free, Named, Lone, InList, InCurly, Joined, is_as_expected, Scans, none, onto, IsName, MayTakeOperand}
use Rattle.term_reader.specs.FollowingToken.{IsPlaceAfterTokens}
use Rattle.term_reader.specs.LeftToRight.{OnInfix, OnPostfix, next_operator}
use Rattle.term_reader.specs.Completion as stack
use Rattle.term_reader.specs.Completion.{bound_of, CompletesOperand, CompletesAfter, CompletesFrame, prefix, infixes}
use Rattle.term_reader.specs.FrameShapes.{frame_meant, shape_of, shapes_up, emitted_stack, IsWithinBounds}
use Rattle.term_reader.specs.OutputView.{IsOutputOf}
use Rattle.term_reader.specs.Positions.{Position, ExpectsOperand, AfterOperand, Completes, IsAtPosition, SuitsLookahead, NestsAfterPrimary, LeadsTo, IsStepOutcome, MovesForward}
use Rattle.term_reader.specs.OperatorReductions.{first_post_operator, ReadSame, NestSame}
use Rattle.term_reader.specs.LexemeView.{IsStart}
use Rattle.term_reader.proofs.NestingLemmas.{level-begun, round-begun, curly-begun, list-begun, call-begun, level-after}
use Rattle.term_reader.proofs.PrefixReadingLemmas.{post_operator-plain}
use Rattle.term_reader.specs.ReaderSteps.{StartsPrimary, PrimaryEndsAfter, IsPlaceAfterToken, IsFramePushed, IsOperandEmitted}
use Rattle.term_reader.specs.declared.primary.Source.{Source}
use Rattle.term_reader.specs.declared.primary.Primary.{Primary}
use Rattle.term_reader.specs.declared.primary.Primary.TheVariants as kind
use Rattle.term_reader.specs.declared.state.State.{State}
use Rattle.term_reader.specs.declared.state.Frame.{Frame}
use Rattle.term_reader.specs.declared.steps.Step.{Step}
use Rattle.term_reader.specs.Expectations.{may_take_operand}
use Rattle.term_reader.specs.declared.state.Expected.{Expected}
use Rattle.term_reader.specs.declared.state.Expected.TheVariants.{Operand, Operator as ExpectsOperator}
use Rattle.term_reader.specs.declared.state.LastOperand.{LastOperand}
use Rattle.term_reader.specs.declared.state.LastOperand.TheVariants.{Whole}
use Rattle.term_reader.specs.declared.steps.Step.TheVariants.{Continue, Accept, Refused}
use Rattle.term_reader.proofs.FirstTokenLemmas.{tokens-none, tokens-more, tokens-end, tokens-first}
use Rattle.term_reader.proofs.OperatorReductionLemmas.{shapes-push}
use Rattle.term_reader.proofs.ReadingIsSpellingLemmas.{fits-within}
use Rattle.term_reader.proofs.ScannedTokenLemmas.{scans-tokens}
use Rattle.term_reader.proofs.PrimaryLemmas.{Kind, OfLeaf, OfBracket, OfCurly, OfListed, OfCall, OfPrefix, fill, MayLook, IsAlone, IsAloneKind, SoOpened, so-opened}
use Rattle.term_reader.proofs.CompletionStepLemmas as turns

-- ---- how a term begins at a place

pub begins-found : (s : Setting) (cs rest : List ℕ) (a : Bool) (x : Lexeme) → scanned cs ≡ ScannedTo (token a x) rest → primary_of s (tokens_of cs) ≡ lexeme_primary s x (tokens_of rest)
begins-found s cs rest a words.End e = ap (primary_of s) (tokens-end cs rest a e)
begins-found s cs rest a x e = ap (primary_of s) (tokens-more cs rest a x e refl)

further : (text : List ℕ) (at end place : ℕ) (a : Bool) (x : Lexeme) → IsPlaceFrom text (suc at) end → scanned (chars_from text at) ≡ ScannedTo (token a x) (chars_from text end) → is_end x ≡ false → IsPlaceAfterTokens text end place → IsPlaceAfterToken text at place
further text at end place a x p e n h = record { place = (omega (arith, p.0, h.place.0), h.place.1); first = token a x; over = h.over; scans = onto e n h.scans }

ends-further : (text : List ℕ) (at end : ℕ) (a : Bool) (x : Lexeme) (o : Primary) → IsPlaceFrom text (suc at) end → scanned (chars_from text at) ≡ ScannedTo (token a x) (chars_from text end) → is_end x ≡ false → PrimaryEndsFrom text end o → PrimaryEndsAfter text at o
ends-further text at end a x (kind.Leaf l place) p e n h = further text at end place a x p e n h
ends-further text at end a x (kind.Alone m o place) p e n h = further text at end place a x p e n h
ends-further text at end a x (kind.Round place) p e n h = further text at end place a x p e n h
ends-further text at end a x (kind.Curly place) p e n h = further text at end place a x p e n h
ends-further text at end a x (kind.List place) p e n h = further text at end place a x p e n h
ends-further text at end a x (kind.Call m place) p e n h = further text at end place a x p e n h
ends-further text at end a x (kind.Prefix m o place) p e n h = further text at end place a x p e n h
ends-further text at end a x kind.Fails p e n h = tt

ends-failing : (source : Source) (at : ℕ) (o : Primary) → primary_meant source o ≡ begun.Fails → PrimaryEndsAfter source.text.now at o
ends-failing source at (kind.Leaf l place) e = let z : ⊥ = cc in absurd z
ends-failing source at (kind.Alone n o place) e = let z : ⊥ = cc in absurd z
ends-failing source at (kind.Round place) e = let z : ⊥ = cc in absurd z
ends-failing source at (kind.Curly place) e = let z : ⊥ = cc in absurd z
ends-failing source at (kind.List place) e = let z : ⊥ = cc in absurd z
ends-failing source at (kind.Call n place) e = let z : ⊥ = cc in absurd z
ends-failing source at (kind.Prefix n o place) e = let z : ⊥ = cc in absurd z
ends-failing source at kind.Fails e = tt

pub starts : (source : Source) (at end : ℕ) (a : Bool) (x : Lexeme) (o : Primary) → scanned (chars_from source.text.now at) ≡ ScannedTo (token a x) (chars_from source.text.now end)
    → IsPlaceFrom source.text.now (suc at) end → primary_meant source o ≡ lexeme_primary (setting_of source) x (tokens_at source end) → PrimaryEndsFrom source.text.now end o → IsPrimaryOfLexeme source.ops.now x o → StartsPrimary source at o
starts source at end a words.End o e p h q m =
    record { begins = begins-found (setting_of source) _ _ a words.End e ∙ sym h; ends = ends-failing source at o h; apart = a; lexeme = words.End; left = chars_from source.text.now end; found = e; named = m }
starts source at end a x o e p h q m =
    record { begins = begins-found (setting_of source) _ _ a x e ∙ sym h; ends = ends-further source.text.now at end a x o p e refl q; apart = a; lexeme = x; left = chars_from source.text.now end; found = e; named = m }

-- ---- what the steps do to the state

abbrev pub after_bracket : Expected
after_bracket = ExpectsOperator 0 Whole

pub moved : (text : List ℕ) (at end : ℕ) (new : State) (x : Expected) (t : Step) → t ≡ Continue x → new.at ≡ end → IsPlaceFrom text (suc at) end → MovesForward text at new t
moved text at end new x t e f p = subst (λ u. MovesForward text at new u) (sym e) (subst (λ n. IsPlaceFrom text (suc at) n) (sym f) p)

pub pushed : (s : Setting) (text : List ℕ) (x : Position) (at : ℕ) (old new : State) (f : Frame) (g : stack.OpenFrame) (k : List stack.OpenFrame) (end : ℕ) (t : Step) → IsFramePushed old f end new t
    → map frame_meant old.frames.items ≡ shapes_up k → frame_meant f ≡ shape_of g → IsOutputOf old.output (emitted_stack (g ∷ k)) → IsWithinBounds (g ∷ k) → LeadsTo s text x at (ExpectsOperand (g ∷ k)) end false → IsStepOutcome s text x at new t
pushed s text x at old new f g k end t h shapes same output bounds leads =
    let w : IsStepOutcome s text x at new (Continue Operand) = record {
      new = ExpectsOperand (g ∷ k);
      at_position = record { shapes = ap (map frame_meant) h.frames ∙ shapes-push old.frames.items f k g shapes same; output = subst (λ d. IsOutputOf d (emitted_stack (g ∷ k))) (sym h.output) output; bounds = bounds; low = tt };
      expected_is = refl;
      leads = subst (λ n. LeadsTo s text x at (ExpectsOperand (g ∷ k)) n false) (sym h.at) leads;
    } in
    subst (λ u. IsStepOutcome s text x at new u) (sym h.step) w

pub emit-down : (s : Setting) (text : List ℕ) (k : List stack.OpenFrame) (at : ℕ) (old new : State) (tree : Tree) (end : ℕ) (last : LastOperand) (t : Step) → IsOperandEmitted old tree end last new t → IsAtPosition old (ExpectsOperand k)
    → LeadsTo s text (ExpectsOperand k) at (AfterOperand k tree 0) end (may_take_operand last) → IsStepOutcome s text (ExpectsOperand k) at new t
emit-down s text k at old new tree end last t h st leads =
    let w : IsStepOutcome s text (ExpectsOperand k) at new (Continue (ExpectsOperator 0 last)) = record {
      new = AfterOperand k tree 0;
      at_position = record { shapes = ap (map frame_meant) h.frames ∙ st.shapes; output = h.output (emitted_stack k) st.output; bounds = st.bounds; low = omega arith };
      expected_is = refl;
      leads = subst (λ n. LeadsTo s text (ExpectsOperand k) at (AfterOperand k tree 0) n (may_take_operand last)) (sym h.at) leads;
    } in
    subst (λ u. IsStepOutcome s text (ExpectsOperand k) at new u) (sym h.step) w

-- ---- what they keep

suits-leaf : (t : Tree) (k : List stack.OpenFrame) (m : Tree) (look : Lookahead) → MayLook (OfLeaf t) look → SuitsLookahead (AfterOperand k m 0) look
suits-leaf t k m Free h = tt
suits-leaf t k m (Named sign) h = tt
suits-leaf t k m (Lone sign) h = tt
suits-leaf t k m (looks.WithOperand sign) h = absurd h
suits-leaf t k m InList h = absurd h
suits-leaf t k m InCurly h = absurd h
suits-leaf t k m (Joined x) h = absurd h

-- no leaf
abbrev pub OpenRound : Kind → Type 0
OpenRound (OfLeaf t) = ⊥
OpenRound _ = Unit {0}

not-lone : (kind : Kind) (sign : Bool) → OpenRound kind → MayLook kind (Lone sign) → ⊥
not-lone (OfLeaf t) sign o h = o
not-lone OfBracket sign o h = h
not-lone OfCurly sign o h = h
not-lone OfListed sign o h = h
not-lone (OfCall n) sign o h = h
not-lone (OfPrefix n q) sign o h = h

suits-due : (kind : Kind) (k : List stack.OpenFrame) (look : Lookahead) → OpenRound kind → MayLook kind look → SuitsLookahead (ExpectsOperand k) look
suits-due kind k Free o h = tt
suits-due kind k (Named sign) o h = tt
suits-due kind k (Lone sign) o h = not-lone kind sign o h
suits-due kind k (looks.WithOperand sign) o h = tt
suits-due kind k InList o h = tt
suits-due kind k InCurly o h = tt
suits-due kind k (Joined x) o h = tt

free-round : (look : Lookahead) → MayLook OfBracket look → look ≡ Free
free-round Free h = refl
free-round look h = absurd h

free-call : (n : List ℕ) (look : Lookahead) → MayLook (OfCall n) look → look ≡ Free
free-call n Free h = refl
free-call n look h = absurd h

no-may_take : (s : Setting) (kind : Kind) (k : List stack.OpenFrame) (first : Token) (over : List Token) (look : Lookahead) → OpenRound kind → MayLook kind look → MayTakeOperand s k first over look false
no-may_take s kind k first over Free o h = refl
no-may_take s kind k first over (Named sign) o h = refl
no-may_take s kind k first over (Lone sign) o h = absurd (not-lone kind sign o h)
no-may_take s kind k first over (looks.WithOperand sign) o h = refl
no-may_take s kind k first over InList o h = refl
no-may_take s kind k first over InCurly o h = refl
no-may_take s kind k first over (Joined x) o h = refl

module _ (source : Source) (at end : ℕ) (k : List stack.OpenFrame) where
  abbrev set : Setting
  set = setting_of source

  abbrev here : List ℕ
  here = source.text.now

  so : (kind : Kind) → primary_of set (tokens_at source at) ≡ fill kind (tokens_at source end) → (f : IsPlaceAfterToken here at end) → SoOpened set kind f.first f.over (tokens_at source end)
  so kind e f = so-opened set kind f.first f.over (tokens_at source end) (sym (ap (primary_of set) (scans-tokens f.scans)) ∙ e)

  start_primary-leads : (kind : Kind) (new : Position) (may_take_operand : Bool) (f : IsPlaceAfterToken here at end) (o : SoOpened set kind f.first f.over (tokens_at source end))
      → ((ts us : List Token) (goal : Tree) → primary_of set ts ≡ fill kind us → CompletesOperand set k ts goal → Completes set new us goal)
      → ((ts us : List Token) (goal : Tree) → primary_of set ts ≡ fill kind us → Completes set new us goal → CompletesOperand set k ts goal)
      → SuitsLookahead new o.look → MayTakeOperand set k f.first f.over o.look may_take_operand → NestsAfterPrimary set here at k (f.first ∷ f.over) o.look new → LeadsTo set here (ExpectsOperand k) at new end may_take_operand
  start_primary-leads kind new may_take_operand f o to back suits may_take nests = record {
    first = f.first;
    over = f.over;
    scans = f.scans;
    look = o.look;
    fits = o.fits;
    to = λ vs goal h w. to (f.first ∷ f.over ++ vs) vs goal (o.again vs h) w;
    back = λ vs goal h w. back (f.first ∷ f.over ++ vs) vs goal (o.again vs h) w;
    step = (o.alone, suits, may_take, nests);
  }

  pub leaf-leads : (m : Tree) (may_take_operand : Bool) → primary_of set (tokens_at source at) ≡ begun.Leaf m (tokens_at source end) → (f : IsPlaceAfterToken here at end)
      → ((look : Lookahead) → MayLook (OfLeaf m) look → IsAloneKind set.ops f.first (OfLeaf m) look f.over → MayTakeOperand set k f.first f.over look may_take_operand) → LeadsTo set here (ExpectsOperand k) at (AfterOperand k m 0) end may_take_operand
  leaf-leads m may_take_operand e f may_take =
      let o = so (OfLeaf m) e f in
      start_primary-leads (OfLeaf m) (AfterOperand k m 0) may_take_operand f o (λ ts us goal h w. turns.takes_leaf set ts us m h w) (λ ts us goal h w. turns.took_leaf set ts us m h w) (suits-leaf m k m o.look o.may) (may_take o.look o.may o.lone)
      (level-begun set here at k (f.first ∷ f.over) o.look (AfterOperand k m 0) o.brackets (λ start read n. n))

  opens-leads : (kind : Kind) (g : stack.OpenFrame) → OpenRound kind → primary_of set (tokens_at source at) ≡ fill kind (tokens_at source end) → (f : IsPlaceAfterToken here at end)
      → ((ts us : List Token) (goal : Tree) → primary_of set ts ≡ fill kind us → CompletesOperand set k ts goal → CompletesOperand set (g ∷ k) us goal)
      → ((ts us : List Token) (goal : Tree) → primary_of set ts ≡ fill kind us → CompletesOperand set (g ∷ k) us goal → CompletesOperand set k ts goal)
      → ((o : SoOpened set kind f.first f.over (tokens_at source end)) → NestsAfterPrimary set here at k (f.first ∷ f.over) o.look (ExpectsOperand (g ∷ k)))
      → LeadsTo set here (ExpectsOperand k) at (ExpectsOperand (g ∷ k)) end false
  opens-leads kind g opens e f to back nests =
      let o = so kind e f in
      start_primary-leads kind (ExpectsOperand (g ∷ k)) false f o to back (suits-due kind (g ∷ k) o.look opens o.may) (no-may_take set kind k f.first f.over o.look opens o.may) (nests o)

  pub round-leads : primary_of set (tokens_at source at) ≡ begun.Bracket (tokens_at source end) → IsPlaceAfterToken here at end → LeadsTo set here (ExpectsOperand k) at (ExpectsOperand (stack.Round ∷ k)) end false
  round-leads e f = opens-leads OfBracket stack.Round tt e f (λ ts us goal h w. turns.opens_round set ts us h w) (λ ts us goal h w. turns.opened_round set ts us h w)
      (λ o. round-begun set here at k (f.first ∷ f.over) o.look o.brackets.0 o.brackets.1 (free-round o.look o.may))

  pub curly-leads : primary_of set (tokens_at source at) ≡ begun.Curly (tokens_at source end) → IsPlaceAfterToken here at end → LeadsTo set here (ExpectsOperand k) at (ExpectsOperand (stack.Braces ∷ k)) end false
  curly-leads e f = opens-leads OfCurly stack.Braces tt e f (λ ts us goal h w. turns.opens_curly set ts us h w) (λ ts us goal h w. turns.opened_curly set ts us h w)
      (λ o. curly-begun set here at k (f.first ∷ f.over) o.look o.brackets.0 o.brackets.1)

  pub list-leads : primary_of set (tokens_at source at) ≡ begun.Listed (tokens_at source end) → IsPlaceAfterToken here at end → LeadsTo set here (ExpectsOperand k) at (ExpectsOperand (stack.ItemOf [] ∷ k)) end false
  list-leads e f = opens-leads OfListed (stack.ItemOf []) tt e f (λ ts us goal h w. turns.opens_list set ts us h w) (λ ts us goal h w. turns.opened_list set ts us h w)
      (λ o. list-begun set here at k (f.first ∷ f.over) o.look o.brackets.0 o.brackets.1)

  pub call-leads : (n : List ℕ) (place : ℕ) → IsStart here at place → primary_of set (tokens_at source at) ≡ begun.Call n (tokens_at source end) → IsPlaceAfterToken here at end → LeadsTo set here (ExpectsOperand k) at (ExpectsOperand (stack.ArgumentOf n place [] ∷ k)) end false
  call-leads n place b e f = opens-leads (OfCall n) (stack.ArgumentOf n place []) tt e f (λ ts us goal h w. turns.opens_call set ts us n place h w) (λ ts us goal h w. turns.opened_call set ts us n place h w)
      (λ o. let free = free-call n o.look o.may in call-begun set here at k (f.first ∷ f.over) o.look n place o.brackets free b.0 b.1 (λ vs. o.again vs (ap (λ l. is_as_expected set.ops l vs) free)))

  pub prefix-leads : (n : List ℕ) (o : Operator) → primary_of set (tokens_at source at) ≡ begun.Prefix n o (tokens_at source end) → IsPlaceAfterToken here at end → LeadsTo set here (ExpectsOperand k) at (ExpectsOperand (stack.PrefixOf n o ∷ k)) end false
  prefix-leads n o e f = opens-leads (OfPrefix n o) (stack.PrefixOf n o) tt e f (λ ts us goal h w. turns.opens_prefix set ts us n o h w) (λ ts us goal h w. turns.opened_prefix set ts us n o h w)
      (λ q. level-begun set here at k (f.first ∷ f.over) q.look (ExpectsOperand (stack.PrefixOf n o ∷ k)) q.brackets (λ start read m. m))

-- ---- prefix operators that stand for themselves

name-alone : (ops : OperatorTable) (x : Lexeme) (sign : Bool) (n : List ℕ) (l : Leaf) (quotes : DoubleQuotes) (end : ℕ) → IsName x sign n → IsPrimaryOfLexeme ops x (kind.Leaf l end) → leaf_tree quotes l ≡ AtomTree n → prefix_of ops n ≡ None
name-alone ops (words.Name m) sign n (leaf.Integer z) quotes end h d e = let f : ⊥ = cc in absurd f
name-alone ops (words.Name m) sign n (leaf.Variable v) quotes end h d e = ap (prefix_of ops) (sym h.0) ∙ d
name-alone ops (words.Name m) sign n (leaf.Atom v) quotes end h d e = ap (prefix_of ops) (sym h.0) ∙ d
name-alone ops (words.Name m) sign n (leaf.Text v) quotes end h d e = ap (prefix_of ops) (sym h.0) ∙ d
name-alone ops (words.QuotedName m) sign n (leaf.Integer z) quotes end h d e = let f : ⊥ = cc in absurd f
name-alone ops (words.QuotedName m) sign n (leaf.Variable v) quotes end h d e = ap (prefix_of ops) (sym h.0) ∙ d
name-alone ops (words.QuotedName m) sign n (leaf.Atom v) quotes end h d e = ap (prefix_of ops) (sym h.0) ∙ d
name-alone ops (words.QuotedName m) sign n (leaf.Text v) quotes end h d e = ap (prefix_of ops) (sym h.0) ∙ d
name-alone ops x sign n l quotes end h d e = absurd h

none-some : (q : Option Operator) (o : Operator) → q ≡ None → q ≡ Some o → ⊥
none-some q o e h = cc

leaf-no-may_take_operand : (s : Setting) (k : List stack.OpenFrame) (a : Bool) (x : Lexeme) (over : List Token) (l : Leaf) (quotes : DoubleQuotes) (end : ℕ) → IsPrimaryOfLexeme s.ops x (kind.Leaf l end)
    → (look : Lookahead) → MayLook (OfLeaf (leaf_tree quotes l)) look → IsAlone s.ops x (leaf_tree quotes l) look over → MayTakeOperand s k (token a x) over look false
leaf-no-may_take_operand s k a x over l quotes end d (Lone sign) h i = absurd (none-some _ i.1 (name-alone s.ops x sign i.0 l quotes end i.2 d i.4) i.3)
leaf-no-may_take_operand s k a x over l quotes end d Free h i = refl
leaf-no-may_take_operand s k a x over l quotes end d (Named sign) h i = refl
leaf-no-may_take_operand s k a x over l quotes end d (looks.WithOperand sign) h i = refl
leaf-no-may_take_operand s k a x over l quotes end d InList h i = refl
leaf-no-may_take_operand s k a x over l quotes end d InCurly h i = refl
leaf-no-may_take_operand s k a x over l quotes end d (Joined y) h i = refl

-- the operator that was found is that of the name
record IsFoundName (ops : OperatorTable) (x : Lexeme) (m : List ℕ) (o : Operator) : Type 0 where
  pub sign : Bool
  pub named : IsName x sign m
  pub prefix : prefix_of ops m ≡ Some o

found_name : (ops : OperatorTable) (x : Lexeme) (m : List ℕ) (o : DeclaredOperator) (end : ℕ) → IsPrimaryOfLexeme ops x (kind.Alone m o end) → IsFoundName ops x m (operator_meant o)
found_name ops (words.Name n) m o end d = record { sign = is_minus_name m; named = (sym d.0, refl); prefix = ap (prefix_of ops) d.0 ∙ d.1 }
found_name ops (words.QuotedName n) m o end d = record { sign = false; named = (sym d.0, refl); prefix = ap (prefix_of ops) d.0 ∙ d.1 }
found_name ops x m o end d = absurd d

one_name : (x : Lexeme) (a b : Bool) (m n : List ℕ) → IsName x a m → IsName x b n → m ≡ n
one_name (words.Name k) a b m n h i = sym h.0 ∙ i.0
one_name (words.QuotedName k) a b m n h i = sym h.0 ∙ i.0
one_name x a b m n h i = absurd h

alone-may_take_operand : (s : Setting) (k : List stack.OpenFrame) (a : Bool) (x : Lexeme) (over : List Token) (m : List ℕ) (o : Operator) (may_take_operand : Bool) → IsFoundName s.ops x m o → may_take_operand ≡ nat_le o.priority (bound_of k)
    → (look : Lookahead) → MayLook (OfLeaf (AtomTree m)) look → IsAlone s.ops x (AtomTree m) look over → MayTakeOperand s k (token a x) over look may_take_operand
alone-may_take_operand s k a x over m o may_take_operand f d (Lone sign) h i =
    (record { apart = a; lexeme = x; name = m; operator = o; is = refl; named = subst (λ n. IsName x sign n) (one_name x sign f.sign i.0 m i.2 f.named) i.2; prefix = f.prefix; may = d }, i.5)
alone-may_take_operand s k a x over m o may_take_operand f d Free h i = absurd (i m f.sign f.named refl)
alone-may_take_operand s k a x over m o may_take_operand f d (Named sign) h i = absurd (none-some _ o (i m f.sign f.named) f.prefix)
alone-may_take_operand s k a x over m o may_take_operand f d (looks.WithOperand sign) h i = absurd h
alone-may_take_operand s k a x over m o may_take_operand f d InList h i = absurd h
alone-may_take_operand s k a x over m o may_take_operand f d InCurly h i = absurd h
alone-may_take_operand s k a x over m o may_take_operand f d (Joined y) h i = absurd h

first-found : (cs rest : List ℕ) (t u : Token) (left : List ℕ) (over : List Token) → scanned cs ≡ ScannedTo u left → Scans cs (t ∷ over) rest → t ≡ u
first-found cs rest t u left over e (onto f n h) = cc

module _ (source : Source) (at end : ℕ) (k : List stack.OpenFrame) where
  pub plain-leads : (l : Leaf) → (h : StartsPrimary source at (kind.Leaf l end)) → LeadsTo (setting_of source) source.text.now (ExpectsOperand k) at (AfterOperand k (leaf_tree source.quotes l) 0) end false
  plain-leads l h =
      let s = setting_of source in
      let t = leaf_tree source.quotes l in
      let f = first-found _ _ h.ends.first (token h.apart h.lexeme) h.left h.ends.over h.found h.ends.scans in
      leaf-leads source at end k t false h.begins h.ends
      (subst (λ u. (look : Lookahead) → MayLook (OfLeaf t) look → IsAloneKind s.ops u (OfLeaf t) look h.ends.over → MayTakeOperand s k u h.ends.over look false) (sym f)
      (leaf-no-may_take_operand s k h.apart h.lexeme h.ends.over l source.quotes end h.named))

  pub alone-leads : (m : List ℕ) (o : DeclaredOperator) (may_take_operand : Bool) → (h : StartsPrimary source at (kind.Alone m o end)) → may_take_operand ≡ nat_le o.priority (bound_of k)
      → LeadsTo (setting_of source) source.text.now (ExpectsOperand k) at (AfterOperand k (AtomTree m) 0) end may_take_operand
  alone-leads m o may_take_operand h d =
      let s = setting_of source in
      let t = AtomTree m in
      let f = first-found _ _ h.ends.first (token h.apart h.lexeme) h.left h.ends.over h.found h.ends.scans in
      leaf-leads source at end k t may_take_operand h.begins h.ends
      (subst (λ u. (look : Lookahead) → MayLook (OfLeaf t) look → IsAloneKind s.ops u (OfLeaf t) look h.ends.over → MayTakeOperand s k u h.ends.over look may_take_operand) (sym f)
      (alone-may_take_operand s k h.apart h.lexeme h.ends.over m (operator_meant o) may_take_operand (found_name s.ops h.lexeme m o end h.named) d))

-- nothing is read where no token is
pub nothing-due : (s : Setting) (k : List stack.OpenFrame) (cs : List ℕ) → scanned cs ≡ ScannedNone → (goal : Tree) → CompletesOperand s k (tokens_of cs) goal → ⊥
nothing-due s k cs e goal w = turns.fails s (tokens_of cs) (ap (primary_of s) (tokens-none cs e)) w

plugs-none : (s : Setting) (k : List stack.OpenFrame) (l goal : Tree) → CompletesFrame s k [] l goal → ⊥
plugs-none s [] l goal h = elim h [ ]
plugs-none s (stack.Round ∷ k) l goal h = elim h [ ]
plugs-none s (stack.Braces ∷ k) l goal h = elim h [ ]
plugs-none s (stack.ItemOf ts ∷ k) l goal h = elim h [ ]
plugs-none s (stack.TailOf ts ∷ k) l goal h = elim h [ ]
plugs-none s (stack.ArgumentOf n w ts ∷ k) l goal h = elim h [ ]
plugs-none s (stack.PrefixOf n o ∷ k) l goal (prefix g) = plugs-none s k (one n l) goal (turns.goes_stop s [] (one n l) o.priority refl g)
plugs-none s (stack.InfixOf n o m ∷ k) l goal (infixes g) = plugs-none s k (two n m l) goal (turns.goes_stop s [] (two n m l) o.priority refl g)

pub nothing-there : (s : Setting) (k : List stack.OpenFrame) (l : Tree) (p : ℕ) (cs : List ℕ) → scanned cs ≡ ScannedNone → (goal : Tree) → CompletesAfter s k (tokens_of cs) l p goal → ⊥
nothing-there s k l p cs e goal g = plugs-none s k l goal (turns.goes_stop s [] l p refl (subst (λ ts. CompletesAfter s k ts l p goal) (tokens-none cs e) g))

-- ---- after operators that were put over their operands

pub first-post_operator : (ops : OperatorTable) (cs rest : List ℕ) (a : Bool) (x : Lexeme) → scanned cs ≡ ScannedTo (token a x) rest → first_post_operator ops (tokens_of cs) ≡ lexeme_post_operator ops x
first-post_operator ops cs rest a x e = ap (first_post_operator ops) (tokens-first cs rest a x e).is

post_operator-of-first : (ops : OperatorTable) (ts us over vs : List Token) (t : Token) (j : PostOperator) → ts ≡ t ∷ over ++ us → first_post_operator ops ts ≡ j → first_post_operator ops (t ∷ over ++ vs) ≡ j
post_operator-of-first ops ts us over vs t j e h = sym (ap (first_post_operator ops) e) ∙ h

pub outcome-same : (s : Setting) (text : List ℕ) (j : PostOperator) (k m : List stack.OpenFrame) (l u : Tree) (p q at : ℕ) (st : State) (t : Step) → ReadSame s j k l p m u q → NestSame s k m → first_post_operator s.ops (tokens_of (chars_from text at)) ≡ j
    → IsStepOutcome s text (AfterOperand m u q) at st t → IsStepOutcome s text (AfterOperand k l p) at st t
outcome-same s text j k m l u p q at st (Continue expected) same nests e w =
    let b = w.leads in
    let first : (vs : List Token) → first_post_operator s.ops (b.first ∷ b.over ++ vs) ≡ j = λ vs. post_operator-of-first s.ops (tokens_of (chars_from text at)) (tokens_of (chars_from text st.at)) b.over vs b.first j (scans-tokens b.scans) e in
    record {
      new = w.new;
      at_position = w.at_position;
      expected_is = w.expected_is;
      leads = record {
        first = b.first;
        over = b.over;
        scans = b.scans;
        look = b.look;
        fits = b.fits;
        to = λ vs goal f g. b.to vs goal f (same.to (b.first ∷ b.over ++ vs) goal (first vs) g);
        back = λ vs goal f g. same.back (b.first ∷ b.over ++ vs) goal (first vs) (b.back vs goal f g);
        step = (b.step.0, b.step.1, b.step.2, λ start read n. b.step.3 start read (nests text start read n));
      };
    }
outcome-same s text j k m l u p q at st (Accept end) same nests e w = record { tree = w.tree; output = w.output; reads = same.back _ w.tree e w.reads; rest = w.rest }
outcome-same s text j k m l u p q at st (Refused r) same nests e w = λ goal g. w goal (same.to _ goal e g)

-- ---- an operator after an operand

pub on-infix : (ops : OperatorTable) (bound p : ℕ) (ts us : List Token) (t : Token) (n : List ℕ) (o : Operator) → ts ≡ t ∷ us → token_post_operator ops t ≡ Infix n o → post_operator_fits bound p (Infix n o) ≡ true → next_operator ops bound p ts ≡ OnInfix n o us
on-infix ops bound p ts us t n o e f h = ap (next_operator ops bound p) e ∙ rw f (rw h refl)

pub on-postfix : (ops : OperatorTable) (bound p : ℕ) (ts us : List Token) (t : Token) (n : List ℕ) (o : Operator) → ts ≡ t ∷ us → token_post_operator ops t ≡ Postfix n o → post_operator_fits bound p (Postfix n o) ≡ true → next_operator ops bound p ts ≡ OnPostfix n o us
on-postfix ops bound p ts us t n o e f h = ap (next_operator ops bound p) e ∙ rw f (rw h refl)

-- a post-operator is no end
not-end : (ops : OperatorTable) (x : Lexeme) (n : List ℕ) (o : Operator) → lexeme_post_operator ops x ≡ Infix n o → is_end x ≡ false
not-end ops words.End n o e = let z : ⊥ = cc in absurd z
not-end ops x n o e = refl

no-end : (ops : OperatorTable) (x : Lexeme) (n : List ℕ) (o : Operator) → lexeme_post_operator ops x ≡ Postfix n o → is_end x ≡ false
no-end ops words.End n o e = let z : ⊥ = cc in absurd z
no-end ops x n o e = refl

module _ (source : Source) (at end : ℕ) (k : List stack.OpenFrame) (l : Tree) (p : ℕ) (a : Bool) (x : Lexeme) (n : List ℕ) (o : Operator) where
  pub infix-leads : scanned (chars_from source.text.now at) ≡ ScannedTo (token a x) (chars_from source.text.now end) → lexeme_post_operator source.ops.now x ≡ Infix n o → post_operator_fits (bound_of k) p (Infix n o) ≡ true
      → p ≤ bound_of k → LeadsTo (setting_of source) source.text.now (AfterOperand k l p) at (ExpectsOperand (stack.InfixOf n o l ∷ k)) end false
  infix-leads e j h le =
      let i : (vs : List Token) → next_operator source.ops.now (bound_of k) p (token a x ∷ vs) ≡ OnInfix n o vs = λ vs. on-infix source.ops.now (bound_of k) p (token a x ∷ vs) vs (token a x) n o refl j h in
      record {
        first = token a x;
        over = [];
        scans = onto e (not-end source.ops.now x n o j) none;
        look = Free;
        fits = refl;
        to = λ vs goal f g. turns.goes_infix (setting_of source) (token a x ∷ vs) vs n o l p (i vs) (fits-within (bound_of k) p o h) g;
        back = λ vs goal f w. turns.went_infix (setting_of source) (token a x ∷ vs) vs n o l p (i vs) le w;
        step = (refl, refl, refl, level-after (setting_of source) source.text.now k a x (stack.InfixOf n o l ∷ k) (post_operator-plain source.ops.now x (ap is_post_operator j)) (λ start read m. m));
      }

  pub postfix-leads : scanned (chars_from source.text.now at) ≡ ScannedTo (token a x) (chars_from source.text.now end) → lexeme_post_operator source.ops.now x ≡ Postfix n o → post_operator_fits (bound_of k) p (Postfix n o) ≡ true
      → p ≤ bound_of k → LeadsTo (setting_of source) source.text.now (AfterOperand k l p) at (AfterOperand k (one n l) o.priority) end false
  postfix-leads e j h le =
      let i : (vs : List Token) → next_operator source.ops.now (bound_of k) p (token a x ∷ vs) ≡ OnPostfix n o vs = λ vs. on-postfix source.ops.now (bound_of k) p (token a x ∷ vs) vs (token a x) n o refl j h in
      record {
        first = token a x;
        over = [];
        scans = onto e (no-end source.ops.now x n o j) none;
        look = Free;
        fits = refl;
        to = λ vs goal f g. turns.goes_postfix (setting_of source) (token a x ∷ vs) vs n o l p (i vs) (fits-within (bound_of k) p o h) g;
        back = λ vs goal f w. turns.went_postfix (setting_of source) (token a x ∷ vs) vs n o l p (i vs) le w;
        step = (refl, refl, refl, level-after (setting_of source) source.text.now k a x k (post_operator-plain source.ops.now x (ap is_post_operator j)) (λ start read m. m));
      }

  pub fits-bound : post_operator_fits (bound_of k) p (Infix n o) ≡ true → o.priority ≤ bound_of k
  fits-bound h = fits-within (bound_of k) p o h
