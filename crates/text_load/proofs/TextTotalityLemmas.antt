-- It is never that a text has neither sentences nor a first fault, or that it neither loads nor is refused.
use Rattle.std.proofs.Common.{◌≡◌, ℕ, zero, suc, ◌<◌, Bool, true, false, List, [], ◌∷◌, length, Result, Ok, Err, refl, sym, subst, arith, inl, inr}
use Rattle.au_model.specs.Syntax.Primaries.{Setting}
use Rattle.au_model.specs.Syntax.TermTexts.{SpellsTermWithEnd, is_over}
use Rattle.au_model.specs.Syntax.Tokens.{Token, tokens_of}
use Rattle.au_model.specs.Syntax.Trees.{Tree}
use Rattle.au_model.specs.declared.types.FaultKind.{FaultKind}
use Rattle.text_load.specs.LoadedTexts.{Loading, no_more, one_more, unread, refused, further, job_of, first_loading, taken}
use Rattle.text_load.specs.Totality.{IsNeverNeither, HasAllLoaded, HasFirstFault, HasJob, HasRefusal}
use Rattle.text_load.specs.Sentences.{sentence}
use Rattle.text_load.proofs.SentenceLemmas.{no_operand}
use Rattle.text_load.proofs.FaultPlaceLemmas.{refused-at, rest-shorter}
use Rattle.text_load.proofs.TermTotalityLemmas.{term-or-fault}
use Rattle.text_load.proofs.TokenPlaceLemmas.{token-starts}

some-tokens : (s : Setting) (cs rest : List ℕ) (t : Tree) → SpellsTermWithEnd s cs t rest → 0 < length (tokens_of cs)
some-tokens s cs rest t h = go (tokens_of cs) refl where
  go : (ts : List Token) → tokens_of cs ≡ ts → 0 < length ts
  go [] e = absurd (no_operand (tokens_of cs) e h.spelled)
  go (x ∷ ts) e = omega arith

abbrev IsNotLeftOut : Loading → List ℕ → Type 0
IsNotLeftOut l cs = IsNeverNeither (HasAllLoaded l cs) (HasFirstFault l cs)

module _ (l : Loading) (cs : List ℕ) (shorter : (m : Loading) (ds : List ℕ) → length ds < length cs → IsNotLeftOut m ds) (none : HasAllLoaded l cs → ⊥) (no_fault : HasFirstFault l cs → ⊥) where
  after : (rest : List ℕ) (t : Tree) (m : Loading) → SpellsTermWithEnd l.setting cs t rest → taken l (sentence t) ≡ Ok m → ⊥
  after rest t m h s =
      shorter m rest (subst (λ ds. length ds < length cs) h.left (rest-shorter cs (some-tokens l.setting cs rest t h)))
      (λ more. none (more.0, one_more h s more.1))
      (λ f. no_fault (f.0, f.1, further h s f.2))

  blamed : (rest : List ℕ) (t : Tree) (kind : FaultKind) → SpellsTermWithEnd l.setting cs t rest → taken l (sentence t) ≡ Err kind → ⊥
  blamed rest t kind h e = let start = token-starts zero cs (some-tokens l.setting cs rest t h) in no_fault (kind, start.0, refused h e start.1)

  term-none : (t : Tree) (rest : List ℕ) → SpellsTermWithEnd l.setting cs t rest → ⊥
  term-none t rest h = go (taken l (sentence t)) refl where
    go : (r : Result Loading FaultKind) → taken l (sentence t) ≡ r → ⊥
    go (Ok m) e = after rest t m h e
    go (Err kind) e = blamed rest t kind h e

  by-over : (b : Bool) → is_over cs ≡ b → ⊥
  by-over true e = none (l, no_more e)
  by-over false e = term-or-fault l.setting cs (λ r. term-none r.0 r.1 r.2) (λ f. no_fault (f.0, f.1, unread e term-none f.2))

done-within : (n : ℕ) (l : Loading) (cs : List ℕ) → length cs < n → IsNotLeftOut l cs
done-within zero l cs lt = absurd (omega arith)
done-within (suc n) l cs lt = λ none no_fault. by-over l cs (λ m ds less. done-within n m ds (omega arith)) none no_fault (is_over cs) refl

pub loaded-or-fault : (l : Loading) (text : List ℕ) → IsNeverNeither (HasAllLoaded l text) (HasFirstFault l text)
loaded-or-fault l text = done-within (suc (length text)) l text (omega arith)

pub job-or-refusal : (library text : List ℕ) → IsNeverNeither (HasJob library text) (HasRefusal library text)
job-or-refusal library text no_job no_refusal = loaded-or-fault first_loading library with-library library-refused where
  library-refused : HasFirstFault first_loading library → ⊥
  library-refused f = let r = refused-at library f.1 f.0 f.2 in no_refusal (r.0, r.1, f.0, inl r.2)

  with-library : HasAllLoaded first_loading library → ⊥
  with-library l = loaded-or-fault first_loading text with-text text-refused where
    with-text : HasAllLoaded first_loading text → ⊥
    with-text x = no_job (job_of l.0 x.0, record { own = x.0; others = l.0; library_is = l.1; text_is = x.1; is = refl })

    text-refused : HasFirstFault first_loading text → ⊥
    text-refused f = let r = refused-at text f.1 f.0 f.2 in no_refusal (r.0, r.1, f.0, inr (record { others = l.0; library_is = l.1; text_is = r.2 }))
