-- The tokens of a compound that has too many arguments.
use Rattle.std.proofs.Common.{◌≡◌, ◌∙◌, ℕ, suc, ◌<◌, ◌⊎◌, inl, inr, Bool, false, List, [], ◌∷◌, ◌++◌, length, length-append, take, drop, slice_get, Some, refl, sym, ap, subst, arith, append_assoc}
use Rattle.std.proofs.lemmas.List.{take-append-drop, take_at, length-drop, length-take-le}
use Rattle.au_model.specs.Syntax.Tokens.{Token, token, Name, QuotedName, Open, Close, OpenList, CloseList, OpenCurly, CloseCurly, Comma}
use Rattle.au_model.specs.Syntax.Trees.{Trees, tree_count}
use Rattle.au_model.specs.Syntax.Primaries.{Setting, Call, Fails, primary_of}
use Rattle.au_model.specs.Syntax.Spelling.{Arguments}
use Rattle.term_reader.specs.Brackets.{Balanced}
use Rattle.au_model.specs.Syntax.TextFaults.{Past, IsOneTooMany}
use Rattle.term_reader.proofs.HasReadLemmas.{get-after}
use Rattle.term_reader.proofs.PrimaryLemmas.{IsCompoundName, NamesCall, Brackets, OfCall, Opened, opened, fill-same}
use Rattle.term_reader.proofs.BracketLemmas.{last-push_frame}
use Rattle.term_reader.proofs.ArgumentTokenLemmas.{past-front}
use Rattle.term_reader.proofs.PostorderLemmas.{snoc-front, snoc-last}

-- the tokens up to the comma: those in front of the compound, its name, its bracket and what is in it
pub record Slice (s : Setting) (ts : List Token) (n m : ℕ) : Type 0 where
  pub first : List Token
  pub named : List Token
  pub inside : List Token
  pub apart : Bool
  pub read : take n ts ≡ (first ++ named) ++ token false Open ∷ inside
  pub comma : slice_get ts n ≡ Some (token apart Comma)
  pub starts : length first ≡ m
  pub is_name : IsCompoundName named
  pub balanced : Balanced inside
  pub again : (a : Bool) (vs : List Token) → Past s 65535 (inside ++ token a Comma ∷ vs) vs
  pub closed : (a : Bool) (vs : List Token) → (args : Trees) × (tree_count args ≡ 65535) × Arguments s (inside ++ token a Close ∷ vs) vs args

-- a compound's name and its bracket come first
record NameFront (ts after : List Token) : Type 0 where
  pub named : List Token
  pub is : ts ≡ named ++ token false Open ∷ after
  pub is_name : IsCompoundName named

name-front : (s : Setting) (ts : List Token) (name : List ℕ) (after : List Token) → primary_of s ts ≡ Call name after → NameFront ts after
name-front s [] name after e = let z : ⊥ = cc in absurd z
name-front s (t ∷ ts) name after e = by-opened (opened s t ts) where
  by-opened : Opened s t ts ⊎ (primary_of s (t ∷ ts) ≡ Fails) → NameFront (t ∷ ts) after
  by-opened (inl o) =
      let h = fill-same o.kind (OfCall name) o.rest after (sym o.now ∙ e) in
      let b : NamesCall (t ∷ o.over) = subst (λ k. Brackets k (t ∷ o.over)) h.0 o.brackets in
      record {
        named = b.named;
        is = ap (λ us. t ∷ us) o.is ∙ (ap (λ us. us ++ o.rest) b.is ∙ (append_assoc b.named (token false Open ∷ []) o.rest ∙ ap (λ us. b.named ++ token false Open ∷ us) h.1));
        is_name = b.is_name;
      }
  by-opened (inr f) = let z : ⊥ = cc in absurd z

-- the tokens in front of one that has all the others after it
front-length : (ts before : List Token) (t : Token) (n : ℕ) → n < length ts → ts ≡ before ++ t ∷ drop (suc n) ts → length before ≡ n
front-length ts before t n lt e =
    let whole = ap length e ∙ length-append before (t ∷ drop (suc n) ts) in
    omega (arith, length-drop (suc n) ts)

get-seam : (before after : List Token) (t : Token) (n : ℕ) → length before ≡ n → slice_get (before ++ t ∷ after) n ≡ Some t
get-seam before after t n e = subst (λ k. slice_get (before ++ t ∷ after) k ≡ Some t) e (get-after before after t)

pub slice : (s : Setting) (ts : List Token) (n m : ℕ) (name : List ℕ) → n < length ts → IsOneTooMany s ts n m name → Slice s ts n m
slice s ts n m name lt h =
    let f = name-front s (drop m ts) name h.after h.called in
    let p = past-front s 65534 h.after (drop (suc n) ts) h.past in
    let first = take m ts in
    let before = (first ++ f.named) ++ token false Open ∷ p.inside in
    let comma = token p.apart Comma ∷ drop (suc n) ts in
    let whole : ts ≡ before ++ comma =
    sym (take-append-drop m ts) ∙ (ap (λ us. first ++ us) (f.is ∙ ap (λ us. f.named ++ token false Open ∷ us) p.is)
    ∙ (sym (append_assoc first f.named (token false Open ∷ p.inside ++ comma)) ∙ sym (append_assoc (first ++ f.named) (token false Open ∷ p.inside) comma))) in
    let long = front-length ts before (token p.apart Comma) n lt whole in
    let left = ap length f.is ∙ length-append f.named (token false Open ∷ h.after) in
    record {
      first = first;
      named = f.named;
      inside = p.inside;
      apart = p.apart;
      read = ap (take n) whole ∙ take_at before comma n long;
      comma = ap (λ us. slice_get us n) whole ∙ get-seam before (drop (suc n) ts) (token p.apart Comma) n long;
      starts = length-take-le m ts (omega (arith, length-drop m ts, left));
      is_name = f.is_name;
      balanced = p.balanced;
      again = p.again;
      closed = p.closed;
    }

-- how many tokens of a name are in front of its last one
abbrev name_front : Token → ℕ
name_front (token a CloseList) = 1
name_front (token a CloseCurly) = 1
name_front t = 0

record NameEnd (ts : List Token) : Type 0 where
  pub front : List Token
  pub end : Token
  pub is : ts ≡ front ++ end ∷ []
  pub long : length front ≡ name_front end

name-end : (ts : List Token) → IsCompoundName ts → NameEnd ts
name-end (token a (Name n) ∷ []) h = record { front = []; end = token a (Name n); is = refl; long = refl }
name-end (token a (QuotedName n) ∷ []) h = record { front = []; end = token a (QuotedName n); is = refl; long = refl }
name-end (token a OpenList ∷ token b CloseList ∷ []) h = record { front = token a OpenList ∷ []; end = token b CloseList; is = refl; long = refl }
name-end (token a OpenCurly ∷ token b CloseCurly ∷ []) h = record { front = token a OpenCurly ∷ []; end = token b CloseCurly; is = refl; long = refl }
name-end ts h = absurd h

-- what is in front of a name is as long as its last token says
same-front : (xs ys us vs : List Token) → IsCompoundName us → IsCompoundName vs → xs ++ us ≡ ys ++ vs → length xs ≡ length ys
same-front xs ys us vs h i e =
    let a = name-end us h in
    let b = name-end vs i in
    let both : (xs ++ a.front) ++ a.end ∷ [] ≡ (ys ++ b.front) ++ b.end ∷ [] =
    append_assoc xs a.front (a.end ∷ []) ∙ (ap (λ ts. xs ++ ts) (sym a.is) ∙ (e ∙ (ap (λ ts. ys ++ ts) b.is ∙ sym (append_assoc ys b.front (b.end ∷ []))))) in
    let end = ap name_front (snoc-last (xs ++ a.front) (ys ++ b.front) a.end b.end both) in
    let front = sym (length-append xs a.front) ∙ (ap length (snoc-front (xs ++ a.front) (ys ++ b.front) a.end b.end both) ∙ length-append ys b.front) in
    omega (arith, a.long, b.long, end, front)

-- the compound is one
pub same-slice : (s : Setting) (ts : List Token) (n j m : ℕ) → Slice s ts n j → Slice s ts n m → j ≡ m
same-slice s ts n j m a b =
    let h = last-push_frame (a.first ++ a.named) (b.first ++ b.named) a.inside b.inside false false Open Open tt tt a.balanced b.balanced (sym a.read ∙ b.read) in
    sym a.starts ∙ (same-front a.first b.first a.named b.named a.is_name b.is_name h.0 ∙ b.starts)
