-- How a term begins, by what follows its first token.
use Rattle.std.proofs.Common.{◌≡◌, ◌∙◌, ℕ, Bool, true, false, not, ◌&&◌, List, [], ◌∷◌, ◌++◌, refl, sym, ap, arith, IsCharBoundary}
use Rattle.au_model.specs.Syntax.Characters.{chars_from}
use Rattle.au_model.specs.Syntax.Tokens as words
use Rattle.au_model.specs.Syntax.Tokens.{Lexeme, Token, token, ScannedTo, ScannedNone, scanned, is_end, tokens_of}
use Rattle.au_model.specs.Syntax.Trees.{IntTree, AtomTree}
use Rattle.au_model.specs.Terms.Forms.{nil_name, braces_name}
use Rattle.au_model.specs.Syntax.Operators.{OperatorTable, prefix_of}
use Rattle.au_model.specs.Syntax.PostOperators.{named_post_operator}
use Rattle.au_model.specs.Syntax.Primaries.{Leaf, Listed, Curly, Call, has_direct_open, has_direct_integer, negative_of, is_post_operator, is_some_operator, prefix_or_atom, name_primary, atom_primary, list_primary, curly_primary}
use Rattle.token_scan.specs.ScannedParts.{IsPlaceFrom}
use Rattle.term_reader.specs.declared.lexeme.Lexeme.{Lexeme as DeclaredLexeme}
use Rattle.term_reader.specs.declared.lexeme.Lexeme.TheVariants as lex
use Rattle.term_reader.specs.declared.lookahead.Follow.{Follow}
use Rattle.term_reader.specs.declared.lookahead.Follow.TheVariants.{OpenRound, Unsigned, ClosesList, ClosesCurly, Other}
use Rattle.term_reader.specs.LexemeView.{lexeme_meant, IsNarrow}
use Rattle.term_reader.specs.FollowingToken.{follow_of, NoneOfFourFollows, IsPlaceAfterTokens, IsFollowingAt}
use Rattle.term_reader.specs.PrimaryView.{is_operator_between, PrimaryEndsFrom}
use Rattle.term_reader.specs.Lookahead.{none, onto}
use Rattle.term_reader.specs.declared.primary.Primary.{Primary}
use Rattle.term_reader.specs.declared.primary.Primary.TheVariants as kind
use Rattle.term_reader.proofs.ScannedTokenLemmas.{scans-then}
use Rattle.term_reader.proofs.FirstTokenLemmas.{tokens-none, tokens-more, tokens-end}

pub reached : (text : List ℕ) (at end : ℕ) (a : Bool) (x : Lexeme) → scanned (chars_from text at) ≡ ScannedTo (token a x) (chars_from text end) → is_end x ≡ false
    → IsPlaceFrom text at end → IsPlaceAfterTokens text at end
reached text at end a x e n p = record { place = p; over = token a x ∷ []; scans = onto e n none }

pub reached-here : (text : List ℕ) (at : ℕ) → IsCharBoundary text at → IsPlaceAfterTokens text at at
reached-here text at b = record { place = (omega arith, b); over = []; scans = none }

pub reached-then : (text : List ℕ) (at mid end : ℕ) → IsPlaceAfterTokens text at mid → IsPlaceAfterTokens text mid end → IsPlaceAfterTokens text at end
reached-then text at mid end a b = record { place = (omega (arith, a.place.0, b.place.0), b.place.1); over = a.over ++ b.over; scans = scans-then a.scans b.scans }

pub opens-then : (text : List ℕ) (at mid : ℕ) (o : Primary) → IsPlaceAfterTokens text at mid → PrimaryEndsFrom text mid o → PrimaryEndsFrom text at o
opens-then text at mid (kind.Leaf l end) a h = reached-then text at mid end a h
opens-then text at mid (kind.Alone n o end) a h = reached-then text at mid end a h
opens-then text at mid (kind.Round end) a h = reached-then text at mid end a h
opens-then text at mid (kind.Curly end) a h = reached-then text at mid end a h
opens-then text at mid (kind.List end) a h = reached-then text at mid end a h
opens-then text at mid (kind.Call n end) a h = reached-then text at mid end a h
opens-then text at mid (kind.Prefix n o end) a h = reached-then text at mid end a h
opens-then text at mid kind.Fails a h = tt

other : (text : List ℕ) (at end : ℕ) (a : Bool) (x : Lexeme) (more : List Token) → tokens_of (chars_from text at) ≡ token a x ∷ more
    → NoneOfFourFollows (token a x ∷ more) → IsFollowingAt text at Other
other text at end a x more e h = record { is = rw e h; ends = tt }

pub follow-is : (text : List ℕ) (at end : ℕ) (a : Bool) (x : DeclaredLexeme) → scanned (chars_from text at) ≡ ScannedTo (token a (lexeme_meant x)) (chars_from text end)
    → IsPlaceFrom text at end → IsNarrow x → IsFollowingAt text at (follow_of a (lexeme_meant x) end)
follow-is text at end true lex.Open e p h = let k = tokens-more _ _ _ _ e refl in other text at end true words.Open _ k (record { no_open = refl; no_count = refl; no_list = refl; no_curly = refl })
follow-is text at end false lex.Open e p h = record { is = tokens-more _ _ _ _ e refl; ends = reached text at end false words.Open e refl p }
follow-is text at end true (lex.Integer n) e p h = let k = tokens-more _ _ _ _ e refl in other text at end true (words.Integer n) _ k (record { no_open = refl; no_count = refl; no_list = refl; no_curly = refl })
follow-is text at end false (lex.Integer n) e p h = record { is = (tokens-more _ _ _ _ e refl, h); ends = reached text at end false (words.Integer n) e refl p }
follow-is text at end a lex.CloseList e p h = record { is = (a, tokens-more _ _ _ _ e refl); ends = reached text at end a words.CloseList e refl p }
follow-is text at end a lex.CloseCurly e p h = record { is = (a, tokens-more _ _ _ _ e refl); ends = reached text at end a words.CloseCurly e refl p }
follow-is text at end a lex.End e p h = other text at end a words.End _ (tokens-end _ _ _ e) (record { no_open = refl; no_count = refl; no_list = refl; no_curly = refl })
follow-is text at end a x e p h = other text at end a (lexeme_meant x) _ (tokens-more _ _ _ _ e refl) (record { no_open = refl; no_count = refl; no_list = refl; no_curly = refl })

pub follow-none : (text : List ℕ) (at : ℕ) → scanned (chars_from text at) ≡ ScannedNone → IsFollowingAt text at Other
follow-none text at e = let k = tokens-none (chars_from text at) e in record { is = rw k (record { no_open = refl; no_count = refl; no_list = refl; no_curly = refl }); ends = tt }

-- a name
pub name-call : (ops : OperatorTable) (b : Bool) (n : List ℕ) (ts us : List Token) → ts ≡ token false words.Open ∷ us → Call n us ≡ name_primary ops b n ts
name-call ops b n ts us e = sym (ap (name_primary ops b n) e)

pub name-number : (ops : OperatorTable) (b : Bool) (n : List ℕ) (k : ℕ) (ts us : List Token) → b ≡ true → ts ≡ token false (words.Integer k) ∷ us → Leaf (IntTree (negative_of k)) us ≡ name_primary ops b n ts
name-number ops b n k ts us h e = sym (ap (λ x. name_primary ops x n ts) h ∙ ap (name_primary ops true n) e)

pub name-plain : (ops : OperatorTable) (n : List ℕ) (k : ℕ) (b : Bool) (ts us : List Token) → b ≡ false → ts ≡ token false (words.Integer k) ∷ us → name_primary ops b n ts ≡ prefix_or_atom ops n (prefix_of ops n) ts
name-plain ops n k b ts us h e = ap (λ x. name_primary ops x n ts) h ∙ (ap (name_primary ops false n) e ∙ sym (ap (prefix_or_atom ops n (prefix_of ops n)) e))

pub name-list : (ops : OperatorTable) (b a : Bool) (n : List ℕ) (ts us : List Token) → ts ≡ token a words.CloseList ∷ us → name_primary ops b n ts ≡ prefix_or_atom ops n (prefix_of ops n) ts
name-list ops b a n ts us e = go b where
  go : (x : Bool) → name_primary ops x n ts ≡ prefix_or_atom ops n (prefix_of ops n) ts
  go true = ap (name_primary ops true n) e ∙ sym (ap (prefix_or_atom ops n (prefix_of ops n)) e)
  go false = ap (name_primary ops false n) e ∙ sym (ap (prefix_or_atom ops n (prefix_of ops n)) e)

pub name-curly : (ops : OperatorTable) (b a : Bool) (n : List ℕ) (ts us : List Token) → ts ≡ token a words.CloseCurly ∷ us → name_primary ops b n ts ≡ prefix_or_atom ops n (prefix_of ops n) ts
name-curly ops b a n ts us e = go b where
  go : (x : Bool) → name_primary ops x n ts ≡ prefix_or_atom ops n (prefix_of ops n) ts
  go true = ap (name_primary ops true n) e ∙ sym (ap (prefix_or_atom ops n (prefix_of ops n)) e)
  go false = ap (name_primary ops false n) e ∙ sym (ap (prefix_or_atom ops n (prefix_of ops n)) e)

pub name-other : (ops : OperatorTable) (b : Bool) (n : List ℕ) (ts : List Token) → NoneOfFourFollows ts → name_primary ops b n ts ≡ prefix_or_atom ops n (prefix_of ops n) ts
name-other ops b n ts h = go b where
  go : (x : Bool) → name_primary ops x n ts ≡ prefix_or_atom ops n (prefix_of ops n) ts
  go true = let o = h.no_open in let k = h.no_count in rw (o, k)
  go false = let o = h.no_open in rw o

-- a name that is neither a compound's nor a sign
pub name-operator : (text : List ℕ) (at : ℕ) (ops : OperatorTable) (b : Bool) (n : List ℕ) (f : Follow) → IsFollowingAt text at f
    → ((end : ℕ) → f ≡ OpenRound end → ⊥) → ((k end : ℕ) → f ≡ Unsigned k end → b ≡ false)
    → name_primary ops b n (tokens_of (chars_from text at)) ≡ prefix_or_atom ops n (prefix_of ops n) (tokens_of (chars_from text at))
name-operator text at ops b n (OpenRound end) h no_open no_count = absurd (no_open end refl)
name-operator text at ops b n (Unsigned k end) h no_open no_count = name-plain ops n k b _ _ (no_count k end refl) h.is.0
name-operator text at ops b n (ClosesList end) h no_open no_count = name-list ops b h.is.0 n _ _ h.is.1
name-operator text at ops b n (ClosesCurly end) h no_open no_count = name-curly ops b h.is.0 n _ _ h.is.1
name-operator text at ops b n Other h no_open no_count = name-other ops b n _ h.is

pub atom-call : (n : List ℕ) (ts us : List Token) → ts ≡ token false words.Open ∷ us → Call n us ≡ atom_primary n ts
atom-call n ts us e = sym (ap (atom_primary n) e)

pub atom-alone : (text : List ℕ) (at : ℕ) (n : List ℕ) (f : Follow) → IsFollowingAt text at f → ((end : ℕ) → f ≡ OpenRound end → ⊥)
    → Leaf (AtomTree n) (tokens_of (chars_from text at)) ≡ atom_primary n (tokens_of (chars_from text at))
atom-alone text at n (OpenRound end) h no_open = absurd (no_open end refl)
atom-alone text at n (Unsigned k end) h no_open = ap (Leaf (AtomTree n)) h.is.0 ∙ sym (ap (atom_primary n) h.is.0)
atom-alone text at n (ClosesList end) h no_open = ap (Leaf (AtomTree n)) h.is.1 ∙ sym (ap (atom_primary n) h.is.1)
atom-alone text at n (ClosesCurly end) h no_open = ap (Leaf (AtomTree n)) h.is.1 ∙ sym (ap (atom_primary n) h.is.1)
atom-alone text at n Other h no_open = let o = h.is.no_open in rw o

pub list-atom : (a : Bool) (ts us : List Token) → ts ≡ token a words.CloseList ∷ us → list_primary ts ≡ atom_primary nil_name us
list-atom a ts us e = ap list_primary e

pub list-listed : (text : List ℕ) (at : ℕ) (f : Follow) → IsFollowingAt text at f → ((end : ℕ) → f ≡ ClosesList end → ⊥)
    → Listed (tokens_of (chars_from text at)) ≡ list_primary (tokens_of (chars_from text at))
list-listed text at (OpenRound end) h not_closed = ap Listed h.is ∙ sym (ap list_primary h.is)
list-listed text at (Unsigned k end) h not_closed = ap Listed h.is.0 ∙ sym (ap list_primary h.is.0)
list-listed text at (ClosesList end) h not_closed = absurd (not_closed end refl)
list-listed text at (ClosesCurly end) h not_closed = ap Listed h.is.1 ∙ sym (ap list_primary h.is.1)
list-listed text at Other h not_closed = sym h.is.no_list

pub curly-atom : (a : Bool) (ts us : List Token) → ts ≡ token a words.CloseCurly ∷ us → curly_primary ts ≡ atom_primary braces_name us
curly-atom a ts us e = ap curly_primary e

pub curly-push_frame : (text : List ℕ) (at : ℕ) (f : Follow) → IsFollowingAt text at f → ((end : ℕ) → f ≡ ClosesCurly end → ⊥)
    → Curly (tokens_of (chars_from text at)) ≡ curly_primary (tokens_of (chars_from text at))
curly-push_frame text at (OpenRound end) h not_closed = ap Curly h.is ∙ sym (ap curly_primary h.is)
curly-push_frame text at (Unsigned k end) h not_closed = ap Curly h.is.0 ∙ sym (ap curly_primary h.is.0)
curly-push_frame text at (ClosesList end) h not_closed = ap Curly h.is.1 ∙ sym (ap curly_primary h.is.1)
curly-push_frame text at (ClosesCurly end) h not_closed = absurd (not_closed end refl)
curly-push_frame text at Other h not_closed = sym h.is.no_curly

-- a name between its neighbours
abbrev post_operator_alone : OperatorTable → List ℕ → Bool
post_operator_alone ops n = is_post_operator (named_post_operator ops n) && not (is_some_operator (prefix_of ops n))

rest_of : (x y z : Bool) → (x && y) ≡ true → (x && (y && z)) ≡ z
rest_of true true z e = refl
rest_of true false z e = let f : ⊥ = cc in absurd f
rest_of false y z e = let f : ⊥ = cc in absurd f

none_of : (x y z : Bool) → (x && y) ≡ false → (x && (y && z)) ≡ false
none_of true true z e = let f : ⊥ = cc in absurd f
none_of true false z e = refl
none_of false y z e = refl

pub joins-not : (ops : OperatorTable) (n : List ℕ) (b : Bool) (ts : List Token) → post_operator_alone ops n ≡ false → false ≡ is_operator_between ops n b ts
joins-not ops n b ts e = sym (none_of (is_post_operator (named_post_operator ops n)) (not (is_some_operator (prefix_of ops n))) (not (has_direct_open ts) && not (b && has_direct_integer ts)) e)

-- what is answered for each
abbrev pub joined_by : Bool → Follow → Bool
joined_by b (OpenRound end) = false
joined_by b (Unsigned k end) = not b
joined_by b _ = true

follows-join : (text : List ℕ) (at : ℕ) (b : Bool) (f : Follow) → IsFollowingAt text at f
    → (not (has_direct_open (tokens_of (chars_from text at))) && not (b && has_direct_integer (tokens_of (chars_from text at)))) ≡ joined_by b f
follows-join text at b (OpenRound end) h = ap (λ ts. not (has_direct_open ts) && not (b && has_direct_integer ts)) h.is
follows-join text at true (Unsigned k end) h = ap (λ ts. not (has_direct_open ts) && not (has_direct_integer ts)) h.is.0
follows-join text at false (Unsigned k end) h = ap (λ ts. not (has_direct_open ts) && true) h.is.0
follows-join text at true (ClosesList end) h = ap (λ ts. not (has_direct_open ts) && not (has_direct_integer ts)) h.is.1
follows-join text at false (ClosesList end) h = ap (λ ts. not (has_direct_open ts) && true) h.is.1
follows-join text at true (ClosesCurly end) h = ap (λ ts. not (has_direct_open ts) && not (has_direct_integer ts)) h.is.1
follows-join text at false (ClosesCurly end) h = ap (λ ts. not (has_direct_open ts) && true) h.is.1
follows-join text at true Other h = let o = h.is.no_open in let k = h.is.no_count in rw (o, k)
follows-join text at false Other h = let o = h.is.no_open in rw o

pub joins-follow : (text : List ℕ) (at : ℕ) (ops : OperatorTable) (n : List ℕ) (b : Bool) (f : Follow) → post_operator_alone ops n ≡ true → IsFollowingAt text at f
    → joined_by b f ≡ is_operator_between ops n b (tokens_of (chars_from text at))
joins-follow text at ops n b f e h =
    sym (rest_of (is_post_operator (named_post_operator ops n)) (not (is_some_operator (prefix_of ops n))) _ e ∙ follows-join text at b f h)
