-- The sentences of a text that is known, each with the derivation of its spelling.
use Rattle.std.proofs.Common.{◌≡◌, ℕ, zero, suc, Bool, true, false, List, [], ◌∷◌, Option, Some, None, Result, Ok, Err, refl}
use Rattle.au_model.specs.Syntax.TermTexts.{SpellsTermWithEnd, is_over}
use Rattle.au_model.specs.Syntax.Spelling.{Operand}
use Rattle.au_model.specs.Syntax.Tokens.{Token, token, End, front, tokens_of}
use Rattle.au_model.specs.Syntax.Trees.{Tree}
use Rattle.au_model.specs.declared.types.FaultKind.{FaultKind}
use Rattle.text_load.specs.LoadedTexts.{Loading, Loads, no_more, one_more, taken}
use Rattle.text_load.specs.Sentences.{sentence}
use Rattle.toplevel.proofs.FoundSpellings.{FoundOperand, search_of}

pub record FoundSentences (l : Loading) (cs : List ℕ) : Type 0 where
  pub all : Loading
  pub are : Loads l cs all

abbrev one_found : (l : Loading) (cs : List ℕ) (t : Tree) (rest : List ℕ) (mid : Loading) → SpellsTermWithEnd l.setting cs t rest → taken l (sentence t) ≡ Ok mid → Option (FoundSentences mid rest) → Option (FoundSentences l cs)
one_found l cs t rest mid h k None = None
one_found l cs t rest mid h k (Some f) = Some (record { all = f.all; are = one_more h k f.are })

module _ (more : (l : Loading) (cs : List ℕ) → Option (FoundSentences l cs)) (l : Loading) (cs : List ℕ) where
  abbrev after_sentence : (t : Tree) (rest : List ℕ) → SpellsTermWithEnd l.setting cs t rest → (r : Result Loading FaultKind) → taken l (sentence t) ≡ r → Option (FoundSentences l cs)
  after_sentence t rest h (Ok mid) e = one_found l cs t rest mid h e (more mid rest)
  after_sentence t rest h (Err kind) e = None

  abbrev after_operand : (us : List Token) (t : Tree) → Operand l.setting 1200 (tokens_of cs) us t → Option (FoundSentences l cs)
  after_operand (token apart End ∷ []) t h = after_sentence t (front cs).rest (record { apart = apart; spelled = h; left = refl }) (taken l (sentence t)) refl
  after_operand us t h = None

  abbrev after_search : Option (FoundOperand l.setting 1200 (tokens_of cs)) → Option (FoundSentences l cs)
  after_search None = None
  after_search (Some f) = after_operand f.left f.tree f.is

  abbrev unless_over : (q : Bool) → is_over cs ≡ q → Option (FoundSentences l cs)
  unless_over true e = Some (record { all = l; are = no_more e })
  unless_over false e = after_search ((search_of 80 l.setting).operand_at 1200 (tokens_of cs))

-- at most so many sentences
abbrev pub found_sentences : ℕ → (l : Loading) (cs : List ℕ) → Option (FoundSentences l cs)
found_sentences zero l cs = None
found_sentences (suc n) l cs = unless_over (found_sentences n) l cs (is_over cs) refl
