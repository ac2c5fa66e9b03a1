-- What is refused where an operand ends.
use Rattle.std.proofs.Common.{◌≡◌, ◌∙◌, ℕ, suc, ◌≤◌, Bool, false, ◌&&◌, List, [], ◌∷◌, ◌++◌, length, drop, refl, sym, ap, subst, arith, append_assoc}
use Rattle.std.proofs.Math.Seq.{drop-append_seam}
use Rattle.au_model.specs.Syntax.Layout.{after_layout}
use Rattle.au_model.specs.Syntax.Characters.{chars_from}
use Rattle.au_model.specs.Syntax.Tokens.{Lexeme, Open, Close, Comma, Token, token, scanned, ScannedTo, tokens_of}
use Rattle.au_model.specs.Syntax.Trees.{Tree, CompoundTree, no_trees}
use Rattle.au_model.specs.Syntax.Primaries.{Setting, Call, primary_of}
use Rattle.au_model.specs.declared.types.FaultKind.TheVariants.{TooManyArguments}
use Rattle.term_reader.specs.PrimaryView.{setting_of}
use Rattle.term_reader.specs.FrameShapes.{IsWithinBounds, HasNoOperatorOnTop}
use Rattle.term_reader.specs.LexemeView.{IsStart}
use Rattle.term_reader.specs.Nesting.{OpenSince, NestsIn}
use Rattle.term_reader.specs.Positions.{AfterOperand}
use Rattle.term_reader.specs.Completion.{OpenFrame, ArgumentOf, bound_of, trees_of, CompletesOperand, CompletesAfter, final}
use Rattle.au_model.specs.Syntax.TextFaults.{BeginsTerm, Past, IsOneTooMany, too_many}
use Rattle.term_reader.specs.Refusals.{IsNotAccepted, IsReadBelow, IsFirstFault, RefusesFirstFault, is_named_post_operator}
use Rattle.term_reader.specs.declared.primary.Source.{Source}
use Rattle.term_reader.specs.declared.steps.Step.{Step}
use Rattle.term_reader.specs.declared.state.Expected.{Expected}
use Rattle.term_reader.specs.declared.steps.Step.TheVariants.{Continue}
use Rattle.term_reader.proofs.CompletionLemmas.{closing, closes}
use Rattle.term_reader.proofs.FirstTokenLemmas.{First, tokens-first}
use Rattle.term_reader.proofs.HasReadLemmas.{fault-of, read_to-begins}
use Rattle.term_reader.proofs.LookaheadLemmas.{ready-close}
use Rattle.term_reader.proofs.TooManyArgumentsLemmas.{IsFullStack, many, few-after, past-last}
use Rattle.term_reader.proofs.RefusalLemmas.{here-ends}
use Rattle.term_reader.proofs.ScannedTokenLemmas.{scans-tokens, scans-first}
use Rattle.term_reader.proofs.CompletionStepLemmas.{went_stop}
use Rattle.au_term.proofs.LogicLemmas.{and-false as never_named}

drop-after : (read us : List Token) (t : Token) → drop (suc (length read)) (read ++ t ∷ us) ≡ us
drop-after [] us t = refl
drop-after (u ∷ read) us t = drop-after read us t

comma-is : (a b : Bool) (x : Lexeme) → token a x ≡ token b Comma → x ≡ Comma
comma-is a b x e = cc

-- the tokens of a compound up to the comma
at-comma : (s : Setting) (read us : List Token) (comma t : Token) (name : List ℕ) (b : OpenSince Open read) (first named : List Token) → comma ≡ t → b.before ≡ first ++ named → ((vs : List Token) → primary_of s (named ++ token b.apart Open ∷ vs) ≡ Call name vs)
    → ((vs : List Token) → Past s 65535 (b.inside ++ comma ∷ vs) vs) → IsOneTooMany s (read ++ t ∷ us) (length read) (length first) name
at-comma s read us comma t name b first named e is called past =
    let whole : read ++ t ∷ us ≡ first ++ (named ++ token b.apart Open ∷ (b.inside ++ t ∷ us)) =
    ap (λ ts. ts ++ t ∷ us) (b.is ∙ ap (λ ts. ts ++ token b.apart Open ∷ b.inside) is) ∙ (append_assoc (first ++ named) (token b.apart Open ∷ b.inside) (t ∷ us) ∙ append_assoc first named (token b.apart Open ∷ (b.inside ++ t ∷ us))) in
    let after : drop (suc (length read)) (read ++ t ∷ us) ≡ us = drop-after read us t in
    record {
      after = b.inside ++ t ∷ us;
      called = ap (primary_of s) (ap (drop (length first)) whole ∙ drop-append_seam first (named ++ token b.apart Open ∷ (b.inside ++ t ∷ us))) ∙ called (b.inside ++ t ∷ us);
      past = subst (λ ts. Past s 65535 (b.inside ++ t ∷ us) ts) (sym after) (subst (λ u. Past s 65535 (b.inside ++ u ∷ us) us) e (past us));
    }

-- a token that is not taken where it is, with which the operand in this frame does not go on
module _ (source : Source) (start at end : ℕ) (may_take_operand a : Bool) (x : Lexeme) (k : List OpenFrame) (l : Tree) (p : ℕ) (h : IsReadBelow source start at may_take_operand (token a x) k l p)
    (found : scanned (chars_from source.text.now at) ≡ ScannedTo (token a x) (chars_from source.text.now end)) (never : (more : List Token) (goal : Tree) → CompletesAfter (setting_of source) k (token a x ∷ more) l p goal → ⊥) where
  abbrev s : Setting
  s = setting_of source

  abbrev text : List ℕ
  text = source.text.now

  refused : (more : List Token) (goal : Tree) → CompletesAfter s h.stack (token a x ∷ more) h.tree h.priority goal → ⊥
  refused more goal g = never more goal (h.passes more goal g)

  comma-ends : x ≡ Comma → (more : List Token) (goal : Tree) → CompletesOperand s [] (h.read_to.read ++ token a x ∷ more) goal → ⊥
  comma-ends e more goal w = here-ends s text start at end h.stack h.tree h.priority may_take_operand a x h.read_to h.bounds h.low found refused (ap (λ y. may_take_operand && is_named_post_operator s.ops y) e ∙ never_named may_take_operand) more goal w

  few : IsWithinBounds k → HasNoOperatorOnTop k → p ≤ bound_of k → (x ≡ Comma → IsFullStack k → ⊥) → (us : List Token) (m : ℕ) (name : List ℕ) → IsOneTooMany s (h.read_to.read ++ token a x ∷ us) (length h.read_to.read) m name → ⊥
  few bounds shut low spare us m name o =
      let g = many s h.read_to.read us (token a x) m name o in
      let e = comma-is a g.apart x g.comma in
      few-after s text start k h.read_to.read l p a bounds shut low h.nests g.full
      (λ more goal w. comma-ends e more goal (subst (λ y. CompletesOperand s [] (h.read_to.read ++ token a y ∷ more) goal) (sym e) w))
      (λ more goal w. never more goal (subst (λ y. CompletesAfter s k (token a y ∷ more) l p goal) (sym e) w))
      (spare e)

  pub not-taken : (place : ℕ) → IsWithinBounds k → HasNoOperatorOnTop k → p ≤ bound_of k → IsStart text at place → (x ≡ Comma → IsFullStack k → ⊥) → IsNotAccepted source start h.stack h.tree h.priority at may_take_operand x place end
  not-taken place bounds shut low b spare = record { read_to = h.read_to; bounds = h.bounds; low = h.low; apart = a; found = found; starts = b; refused = refused; few = few bounds shut low spare }

  -- the comma after the last argument
  module _ (name : List ℕ) (place : ℕ) (ts : List Tree) (below : List OpenFrame) (e : x ≡ Comma) (is : k ≡ ArgumentOf name place ts ∷ below) (bounds : IsWithinBounds k) (low : p ≤ bound_of k) where
    bounds-below : IsWithinBounds below
    bounds-below = (subst IsWithinBounds is bounds).1

    nests : NestsIn s text start h.read_to.read (ArgumentOf name place ts ∷ below)
    nests = subst (NestsIn s text start h.read_to.read) is h.nests

    first : First (chars_from text at) (token a x)
    first = tokens-first (chars_from text at) (chars_from text end) a x found

    tokens : tokens_of (chars_from text start) ≡ h.read_to.read ++ token a x ∷ first.more
    tokens = scans-tokens h.read_to.scans ∙ ap (λ us. h.read_to.read ++ us) first.is

    begins-here : BeginsTerm s h.read_to.read
    begins-here = read_to-begins s text start at may_take_operand (AfterOperand h.stack h.tree h.priority) h.read_to h.bounds h.low

    -- with a bracket instead it would be the end of the compound
    closed : (goal : Tree) × CompletesOperand s [] (h.read_to.read ++ token false Close ∷ closing below) goal
    closed =
        let c = closes s below bounds-below (CompoundTree name (trees_of (l ∷ ts) no_trees)) 0 (omega arith) in
        let within : p ≤ 999 = subst (λ m. p ≤ bound_of m) is low in
        let g = went_stop s {k = ArgumentOf name place ts ∷ below} (token false Close ∷ closing below) l p refl within (final c.1) in
        let there = h.closes (closing below) c.0 (subst (λ m. CompletesAfter s m (token false Close ∷ closing below) l p c.0) (sym is) g) in
        (c.0, h.read_to.back (token false Close ∷ closing below) c.0 (ready-close s.ops h.stack h.tree h.priority h.read_to.look (tokens_of (chars_from text at)) (closing below) h.read_to.suits h.read_to.fits) there)

    ends-comma : (more : List Token) (goal : Tree) → CompletesOperand s [] (h.read_to.read ++ token a Comma ∷ more) goal → ⊥
    ends-comma more goal w = comma-ends e more goal (subst (λ y. CompletesOperand s [] (h.read_to.read ++ token a y ∷ more) goal) (sym e) w)

    one-too-many : IsOneTooMany s (h.read_to.read ++ token a x ∷ first.more) (length h.read_to.read) (length nests.2.first) name
    one-too-many = at-comma s h.read_to.read first.more (token a Comma) (token a x) name nests.0 nests.2.first nests.2.named (ap (token a) (sym e)) nests.2.is nests.2.called (past-last s text start below name place h.read_to.read a bounds-below nests.0 nests.1 ends-comma closed.0 closed.1)

    pub many-fault : IsFirstFault s text start (record { at = place; kind = TooManyArguments })
    many-fault = record {
      place = nests.2.boundary;
      fault = too_many (fault-of s (tokens_of (chars_from text start)) h.read_to.read first.more (token a x) tokens begins-here (comma-ends e))
          (subst (λ us. IsOneTooMany s us (length h.read_to.read) (length nests.2.first) name) (sym tokens) one-too-many) (ap after_layout (scans-first nests.2.scans) ∙ nests.2.layout);
    }

pub on-well : (s : Setting) (text : List ℕ) (start : ℕ) (x : Expected) (t : Step) → t ≡ Continue x → RefusesFirstFault s text start t
on-well s text start x t e = subst (RefusesFirstFault s text start) (sym e) tt
