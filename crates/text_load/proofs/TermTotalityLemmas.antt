-- It is never that characters have neither a term with its end in front nor a fault.
use Rattle.std.proofs.Common.{◌≡◌, ◌∙◌, ℕ, zero, suc, ◌<◌, ◌≤◌, Bool, true, false, List, [], ◌∷◌, ◌++◌, length, take, drop, slice_get, refl, sym, ap, subst, arith, append-nil}
use Rattle.std.proofs.Math.Seq.{take-length}
use Rattle.au_model.specs.Syntax.Layout.{GapThen, begins_layout}
use Rattle.au_model.specs.Syntax.Primaries.{Setting, Call, primary_of}
use Rattle.au_model.specs.Syntax.Spelling.{Operand, operand, form, leaf}
use Rattle.au_model.specs.Syntax.TermTexts.{is_last}
use Rattle.au_model.specs.Syntax.TextFaults.{BeginsTerm, FaultAt, IsOneTooMany, is_wide, token_start, unexpected, wide, too_many, faulty, ended}
use Rattle.au_model.specs.Syntax.Tokens.{Token, token, Variable, End, scanned_word, ScannedNone, front, tokens_of}
use Rattle.au_model.specs.Syntax.Trees.{VarTree}
use Rattle.au_model.specs.Syntax.Words.{NameWord, QuotedWord, VariableWord, IntegerWord, TextWord, MarkWord, StopWord, LastWord, Lexed, FoundWord, FoundFault, next_word}
use Rattle.au_model.specs.declared.types.FaultKind.TheVariants.{UnexpectedToken, UnexpectedEnd, WideNumeral, TooManyArguments}
use Rattle.text_load.specs.Totality.{IsNeverNeither, HasTermFirst, HasFault}
use Rattle.text_load.proofs.FirstEndLemmas.{from_end, operand-end}
use Rattle.text_load.proofs.TokenPlaceLemmas.{Stops, at_end, at_none, stops, token-starts}

call-within : (s : Setting) (m : ℕ) (ts after : List Token) (name : List ℕ) → primary_of s (drop m ts) ≡ Call name after → m < length ts
call-within s zero [] after name e = let z : ⊥ = cc in absurd z
call-within s (suc m) [] after name e = let z : ⊥ = cc in absurd z
call-within s zero (t ∷ ts) after name e = omega arith
call-within s (suc m) (t ∷ ts) after name e = let lt = call-within s m ts after name e in omega arith

-- ---- where all tokens begin a term

alone-end : (a b : Bool) (more : List Token) → token a End ∷ more ≡ token b End ∷ [] → more ≡ []
alone-end a b more e = cc

module _ (s : Setting) (cs : List ℕ) where
  at-fault : (lx : Lexed) → next_word (front cs).rest ≡ lx → scanned_word (begins_layout (front cs).rest) lx ≡ ScannedNone → BeginsTerm s (tokens_of cs) → HasFault s cs
  at-fault (FoundFault kind from) e n b = (kind, from, faulty b e)
  at-fault (FoundWord LastWord rest) e n b = (UnexpectedEnd, [], ended b (ap is_last e))
  at-fault (FoundWord (NameWord ds) rest) e n b = let z : ⊥ = cc in absurd z
  at-fault (FoundWord (QuotedWord ds) rest) e n b = let z : ⊥ = cc in absurd z
  at-fault (FoundWord (VariableWord ds) rest) e n b = let z : ⊥ = cc in absurd z
  at-fault (FoundWord (IntegerWord k) rest) e n b = let z : ⊥ = cc in absurd z
  at-fault (FoundWord (TextWord ds) rest) e n b = let z : ⊥ = cc in absurd z
  at-fault (FoundWord (MarkWord c) rest) e n b = let z : ⊥ = cc in absurd z
  at-fault (FoundWord StopWord rest) e n b = let z : ⊥ = cc in absurd z

  -- they end it, so nothing more is needed
  at-term : (a : Bool) → ((vs : List Token) → from_end (tokens_of cs ++ vs) ≡ token a End ∷ vs) → BeginsTerm s (tokens_of cs) → HasTermFirst s cs
  at-term a ends b =
      let only : b.more ≡ [] = alone-end a b.apart b.more (sym (ends b.more) ∙ operand-end b.spelled) in (
        b.tree,
        (front cs).rest,
        record {
          apart = b.apart;
          spelled = subst (λ ts. Operand s 1200 ts (token b.apart End ∷ []) b.tree) (ap (λ vs. tokens_of cs ++ vs) only ∙ append-nil (tokens_of cs)) b.spelled;
          left = refl;
        },
      )

  module _ (no_term : HasTermFirst s cs → ⊥) (no_fault : HasFault s cs → ⊥) where
    begins-not : BeginsTerm s (tokens_of cs) → ⊥
    begins-not b = go (stops cs) where
      go : Stops cs → ⊥
      go (at_end a ends) = no_term (at-term a ends b)
      go (at_none e) = no_fault (at-fault (next_word (front cs).rest) refl e b)

    -- ---- where they do not

    few : (n m : ℕ) (name : List ℕ) → FaultAt s (tokens_of cs) n → IsOneTooMany s (tokens_of cs) n m name → ⊥
    few n m name f o =
        let start = token-starts m cs (call-within s m (tokens_of cs) o.after name o.called) in
        no_fault (TooManyArguments, start.0, too_many f o start.1)

    no-fault-at : (n : ℕ) → FaultAt s (tokens_of cs) n → ⊥
    no-fault-at n f = go (is_wide (slice_get (tokens_of cs) n)) refl where
      start : (from : List ℕ) × (token_start n cs ≡ GapThen from)
      start = token-starts n cs f.within

      go : (b : Bool) → is_wide (slice_get (tokens_of cs) n) ≡ b → ⊥
      go true e = no_fault (WideNumeral, start.0, wide f e start.1)
      go false e = no_fault (UnexpectedToken, start.0, unexpected f e (λ m name o. few n m name f o) start.1)

    begins-none : BeginsTerm s []
    begins-none = record { more = token true (Variable []) ∷ token true End ∷ []; apart = true; tree = VarTree []; spelled = operand (form leaf) (omega arith) refl }

    begins-each : (n : ℕ) → n ≤ length (tokens_of cs) → (BeginsTerm s (take n (tokens_of cs)) → ⊥) → ⊥
    begins-each zero le none = none begins-none
    begins-each (suc n) le none = begins-each n (omega arith) (λ b. no-fault-at n (record { within = omega arith; begins = b; ends = none }))

    pub neither-none : ⊥
    neither-none = begins-each (length (tokens_of cs)) (omega arith) (λ b. begins-not (subst (BeginsTerm s) (take-length (tokens_of cs)) b))

pub term-or-fault : (s : Setting) (cs : List ℕ) → IsNeverNeither (HasTermFirst s cs) (HasFault s cs)
term-or-fault s cs = neither-none s cs
