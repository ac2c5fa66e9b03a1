-- How a term begins, whatever comes after its first tokens.
use Rattle.std.proofs.Common.{◌≡◌, ◌∙◌, ℕ, ◌^◌, ◌⊎◌, inl, inr, pos, nat_lt, Bool, true, false, not, ◌&&◌, List, [], ◌∷◌, ◌++◌, Option, Some, None, refl, sym, ap, subst, if◌then◌else◌}
use Rattle.std.proofs.lemmas.List.{append_cancel_right}
use Rattle.au_model.specs.Syntax.Tokens as words
use Rattle.au_model.specs.Syntax.Tokens.{Lexeme, Token, token}
use Rattle.au_model.specs.Syntax.Trees.{Tree, VarTree, IntTree, AtomTree, text_tree}
use Rattle.au_model.specs.Terms.Forms.{nil_name, braces_name}
use Rattle.au_model.specs.Syntax.Operators.{Operator, OperatorTable, prefix_of}
use Rattle.au_model.specs.Syntax.Primaries.{Setting, Primary, Leaf, Bracket, Curly, Listed, Call, Prefix, Fails, has_direct_open, has_direct_integer, is_minus, is_minus_name, negative_of, tokens_after, negated, is_operator_here, ends_operand_before, prefix_is_atom, prefix_or_atom, name_primary, atom_primary, list_primary, curly_primary, primary_of}
use Rattle.term_reader.specs.Brackets.{Balanced}
use Rattle.term_reader.specs.Lookahead.{Lookahead, Free, Named, Lone, WithOperand, InList, InCurly, closes_list, closes_curly, is_plain_name_before, is_as_expected, IsName}
use Rattle.term_reader.proofs.FollowingTokenLemmas.{name-call, name-number, atom-call}
use Rattle.term_reader.proofs.LookaheadLemmas.{post_operator_alone, joins-is}
use Rattle.au_term.proofs.LogicLemmas.{and-left, and-right, and-both, not-true}

-- an opening without the tokens after it
pub data Kind : Type 0 where
  OfLeaf : Tree → Kind
  OfBracket : Kind
  OfCurly : Kind
  OfListed : Kind
  OfCall : List ℕ → Kind
  OfPrefix : List ℕ → Operator → Kind

abbrev pub fill : Kind → List Token → Primary
fill (OfLeaf t) ts = Leaf t ts
fill OfBracket ts = Bracket ts
fill OfCurly ts = Curly ts
fill OfListed ts = Listed ts
fill (OfCall n) ts = Call n ts
fill (OfPrefix n o) ts = Prefix n o ts

-- what each may presume
abbrev pub MayLook : Kind → Lookahead → Type 0
MayLook (OfLeaf t) Free = Unit {0}
MayLook (OfLeaf t) (Named sign) = Unit {0}
MayLook (OfLeaf t) (Lone sign) = Unit {0}
MayLook (OfLeaf t) _ = ⊥
MayLook OfBracket Free = Unit {0}
MayLook OfBracket _ = ⊥
MayLook (OfCall n) Free = Unit {0}
MayLook (OfCall n) _ = ⊥
MayLook k (Lone sign) = ⊥
MayLook k _ = Unit {0}

-- a leaf that presumes that a prefix operator is alone is such a one, and a name alone is one where its name is one
abbrev pub IsAlone : OperatorTable → Lexeme → Tree → Lookahead → List Token → Type 0
IsAlone ops x t (Lone sign) over = (n : List ℕ) × (o : Operator) × IsName x sign n × (prefix_of ops n ≡ Some o) × (t ≡ AtomTree n) × (over ≡ [])
IsAlone ops x t (Named sign) over = (n : List ℕ) (b : Bool) → IsName x b n → prefix_of ops n ≡ None
IsAlone ops x t _ over = (n : List ℕ) (b : Bool) → IsName x b n → t ≡ AtomTree n → ⊥

abbrev pub IsAloneKind : OperatorTable → Token → Kind → Lookahead → List Token → Type 0
IsAloneKind ops (token a x) (OfLeaf t) look over = IsAlone ops x t look over
IsAloneKind ops (token a x) (OfPrefix n o) look over = (sign : Bool) × IsName x sign n × (prefix_of ops n ≡ Some o) × (over ≡ []) × (look ≡ WithOperand sign)
IsAloneKind ops t k look over = Unit {0}

-- the name of a compound in front of its bracket
abbrev pub IsCompoundName : List Token → Type 0
IsCompoundName (token a (words.Name n) ∷ []) = Unit {0}
IsCompoundName (token a (words.QuotedName n) ∷ []) = Unit {0}
IsCompoundName (token a words.OpenList ∷ token b words.CloseList ∷ []) = Unit {0}
IsCompoundName (token a words.OpenCurly ∷ token b words.CloseCurly ∷ []) = Unit {0}
IsCompoundName _ = ⊥

pub record NamesCall (ts : List Token) : Type 0 where
  pub named : List Token
  pub is : ts ≡ named ++ token false words.Open ∷ []
  pub is_name : IsCompoundName named
  pub balanced : Balanced named

-- which brackets the tokens of each open
abbrev pub Brackets : Kind → List Token → Type 0
Brackets (OfLeaf t) ts = Balanced ts
Brackets OfBracket ts = (a : Bool) × (ts ≡ token a words.Open ∷ [])
Brackets OfCurly ts = (a : Bool) × (ts ≡ token a words.OpenCurly ∷ [])
Brackets OfListed ts = (a : Bool) × (ts ≡ token a words.OpenList ∷ [])
Brackets (OfCall n) ts = NamesCall ts
Brackets (OfPrefix n o) ts = Balanced ts

pub record Opened (s : Setting) (t : Token) (ts : List Token) : Type 0 where
  pub kind : Kind
  pub over : List Token
  pub rest : List Token
  pub is : ts ≡ over ++ rest
  pub look : Lookahead
  pub fits : is_as_expected s.ops look rest ≡ true
  pub now : primary_of s (t ∷ ts) ≡ fill kind rest
  pub again : (vs : List Token) → is_as_expected s.ops look vs ≡ true → primary_of s (t ∷ over ++ vs) ≡ fill kind vs
  pub alone : (vs : List Token) → is_as_expected s.ops look vs ≡ true → prefix_is_atom s.ops (t ∷ over ++ vs) ≡ prefix_is_atom s.ops (t ∷ over ++ rest)
  pub may : MayLook kind look
  pub lone : IsAloneKind s.ops t kind look over
  pub brackets : Brackets kind (t ∷ over)

-- ---- the tokens that follow

opens-is : (ts : List Token) → has_direct_open ts ≡ true → (us : List Token) × (ts ≡ token false words.Open ∷ us)
opens-is [] e = let z : ⊥ = cc in absurd z
opens-is (token true words.Open ∷ us) e = let z : ⊥ = cc in absurd z
opens-is (token false words.Open ∷ us) e = (us, refl)
opens-is (token a x ∷ us) e = let z : ⊥ = cc in absurd z

counts-is : (ts : List Token) → has_direct_integer ts ≡ true → (k : ℕ) × (us : List Token) × (ts ≡ token false (words.Integer k) ∷ us)
counts-is [] e = let z : ⊥ = cc in absurd z
counts-is (token true (words.Integer k) ∷ us) e = let z : ⊥ = cc in absurd z
counts-is (token false (words.Integer k) ∷ us) e = (k, us, refl)
counts-is (token a x ∷ us) e = let z : ⊥ = cc in absurd z

pub plain-alike : (sign : Bool) (us vs : List Token) → has_direct_open us ≡ has_direct_open vs → has_direct_integer us ≡ has_direct_integer vs → is_plain_name_before sign us ≡ is_plain_name_before sign vs
plain-alike sign us vs e h = ap (λ z. not z && not (sign && has_direct_integer us)) e ∙ ap (λ z. not (has_direct_open vs) && not (sign && z)) h

joins-same : (ops : OperatorTable) (n : List ℕ) (x : Lexeme) (us vs : List Token) → has_direct_open us ≡ has_direct_open vs → has_direct_integer us ≡ has_direct_integer vs → is_operator_here ops n x us ≡ is_operator_here ops n x vs
joins-same ops n x us vs e h = joins-is ops n x us ∙ (ap (λ z. post_operator_alone ops n && z) (plain-alike (is_minus x) us vs e h) ∙ sym (joins-is ops n x vs))

pub ends-same : (ops : OperatorTable) (x : Lexeme) (us vs : List Token) → has_direct_open us ≡ has_direct_open vs → has_direct_integer us ≡ has_direct_integer vs → ends_operand_before ops x us ≡ ends_operand_before ops x vs
ends-same ops (words.Name n) us vs e h = joins-same ops n (words.Name n) us vs e h
ends-same ops (words.QuotedName n) us vs e h = joins-same ops n (words.QuotedName n) us vs e h
ends-same ops x us vs e h = refl

and-true : (x y : Bool) → y ≡ true → (x && y) ≡ x
and-true true y e = e
and-true false y e = refl

-- a name's token in front of plain tokens
pub ends-plain : (ops : OperatorTable) (x : Lexeme) (sign : Bool) (n : List ℕ) → IsName x sign n → (us : List Token) → is_plain_name_before sign us ≡ true → ends_operand_before ops x us ≡ post_operator_alone ops n
ends-plain ops (words.Name m) sign n h us e =
    let g : is_minus_name m ≡ sign = ap is_minus_name h.0 ∙ sym h.1 in
    joins-is ops m (words.Name m) us ∙ (and-true (post_operator_alone ops m) (is_plain_name_before (is_minus_name m) us) (ap (λ b. is_plain_name_before b us) g ∙ e) ∙ ap (post_operator_alone ops) h.0)
ends-plain ops (words.QuotedName m) sign n h us e =
    joins-is ops m (words.QuotedName m) us ∙ (and-true (post_operator_alone ops m) (is_plain_name_before false us) (ap (λ b. is_plain_name_before b us) (sym h.1) ∙ e) ∙ ap (post_operator_alone ops) h.0)
ends-plain ops x sign n h us e = absurd h

pub name-begins : (s : Setting) (a : Bool) (x : Lexeme) (sign : Bool) (n : List ℕ) → IsName x sign n → (ts : List Token) → primary_of s (token a x ∷ ts) ≡ name_primary s.ops sign n ts
name-begins s a (words.Name m) sign n h ts = ap (λ b. name_primary s.ops b m ts) (ap is_minus_name h.0 ∙ sym h.1) ∙ ap (λ k. name_primary s.ops sign k ts) h.0
name-begins s a (words.QuotedName m) sign n h ts = ap (λ b. name_primary s.ops b m ts) (sym h.1) ∙ ap (λ k. name_primary s.ops sign k ts) h.0
name-begins s a x sign n h ts = absurd h

pub name-plain : (ops : OperatorTable) (sign : Bool) (n : List ℕ) (ts : List Token) → is_plain_name_before sign ts ≡ true → name_primary ops sign n ts ≡ prefix_or_atom ops n (prefix_of ops n) ts
name-plain ops sign n ts e = go (has_direct_open ts) (sign && has_direct_integer ts) e where
  go : (x y : Bool) → (not x && not y) ≡ true → (if x then Call n (tokens_after ts) else if y then Leaf (IntTree (negated ts)) (tokens_after ts) else prefix_or_atom ops n (prefix_of ops n) ts) ≡ prefix_or_atom ops n (prefix_of ops n) ts
  go false false h = refl
  go true y h = let z : ⊥ = cc in absurd z
  go false true h = let z : ⊥ = cc in absurd z

pub alone-begins : (ops : OperatorTable) (n : List ℕ) (ts : List Token) → prefix_of ops n ≡ None → prefix_or_atom ops n (prefix_of ops n) ts ≡ Leaf (AtomTree n) ts
alone-begins ops n ts e = ap (λ o. prefix_or_atom ops n o ts) e

pub lone-begins : (ops : OperatorTable) (n : List ℕ) (o : Operator) (ts : List Token) → prefix_of ops n ≡ Some o → prefix_is_atom ops ts ≡ true → prefix_or_atom ops n (prefix_of ops n) ts ≡ Leaf (AtomTree n) ts
lone-begins ops n o ts e h = ap (λ q. prefix_or_atom ops n q ts) e ∙ ap (λ b. if b then Leaf (AtomTree n) ts else Prefix n o ts) h

pub over-begins : (ops : OperatorTable) (n : List ℕ) (o : Operator) (ts : List Token) → prefix_of ops n ≡ Some o → prefix_is_atom ops ts ≡ false → prefix_or_atom ops n (prefix_of ops n) ts ≡ Prefix n o ts
over-begins ops n o ts e h = ap (λ q. prefix_or_atom ops n q ts) e ∙ ap (λ b. if b then Leaf (AtomTree n) ts else Prefix n o ts) h

-- ---- names

pub name-balanced : (a : Bool) (x : Lexeme) (sign : Bool) (n : List ℕ) → IsName x sign n → Balanced (token a x ∷ [])
name-balanced a (words.Name m) sign n h d = refl
name-balanced a (words.QuotedName m) sign n h d = refl
name-balanced a x sign n h d = absurd h

module _ (s : Setting) (a : Bool) (x : Lexeme) (sign : Bool) (n : List ℕ) (h : IsName x sign n) (ts : List Token) where
  same-alone : (us vs : List Token) → is_plain_name_before sign us ≡ true → is_plain_name_before sign vs ≡ true → ends_operand_before s.ops x vs ≡ ends_operand_before s.ops x us
  same-alone us vs e f = ends-plain s.ops x sign n h vs f ∙ sym (ends-plain s.ops x sign n h us e)

  same-name : (m : List ℕ) (b : Bool) → IsName x b m → n ≡ m
  same-name m b g = go x h g where
    go : (y : Lexeme) → IsName y sign n → IsName y b m → n ≡ m
    go (words.Name k) p q = sym p.0 ∙ q.0
    go (words.QuotedName k) p q = sym p.0 ∙ q.0
    go y p q = absurd p

  one-name : (y : Lexeme) (b : Bool) (m : List ℕ) → IsName y b m → IsCompoundName (token a y ∷ [])
  one-name (words.Name k) b m g = tt
  one-name (words.QuotedName k) b m g = tt
  one-name y b m g = absurd g

  named-call : (us : List Token) → ts ≡ token false words.Open ∷ us → Opened s (token a x) ts
  named-call us e = record {
    kind = OfCall n;
    over = token false words.Open ∷ [];
    rest = us;
    is = e;
    look = Free;
    fits = refl;
    now = name-begins s a x sign n h ts ∙ sym (name-call s.ops sign n ts us e);
    again = λ vs f. name-begins s a x sign n h (token false words.Open ∷ vs) ∙ sym (name-call s.ops sign n (token false words.Open ∷ vs) vs refl);
    alone = λ vs f. ends-same s.ops x (token false words.Open ∷ vs) (token false words.Open ∷ us) refl refl;
    may = tt;
    lone = tt;
    brackets = record { named = token a x ∷ []; is = refl; is_name = one-name x sign n h; balanced = name-balanced a x sign n h };
  }

  named-number : (k : ℕ) (us : List Token) → sign ≡ true → ts ≡ token false (words.Integer k) ∷ us → Opened s (token a x) ts
  named-number k us g e = record {
    kind = OfLeaf (IntTree (negative_of k));
    over = token false (words.Integer k) ∷ [];
    rest = us;
    is = e;
    look = Free;
    fits = refl;
    now = name-begins s a x sign n h ts ∙ sym (name-number s.ops sign n k ts us g e);
    again = λ vs f. name-begins s a x sign n h (token false (words.Integer k) ∷ vs) ∙ sym (name-number s.ops sign n k (token false (words.Integer k) ∷ vs) vs g refl);
    alone = λ vs f. ends-same s.ops x (token false (words.Integer k) ∷ vs) (token false (words.Integer k) ∷ us) refl refl;
    may = tt;
    lone = λ m b q e. let z : ⊥ = cc in z;
    brackets = λ d. name-balanced a x sign n h d;
  }

  named-alone : is_plain_name_before sign ts ≡ true → prefix_of s.ops n ≡ None → Opened s (token a x) ts
  named-alone e p = record {
    kind = OfLeaf (AtomTree n);
    over = [];
    rest = ts;
    is = refl;
    look = Named sign;
    fits = e;
    now = name-begins s a x sign n h ts ∙ (name-plain s.ops sign n ts e ∙ alone-begins s.ops n ts p);
    again = λ vs f. name-begins s a x sign n h vs ∙ (name-plain s.ops sign n vs f ∙ alone-begins s.ops n vs p);
    alone = λ vs f. same-alone ts vs e f;
    may = tt;
    lone = λ m b g. ap (prefix_of s.ops) (sym (same-name m b g)) ∙ p;
    brackets = name-balanced a x sign n h;
  }

  named-lone : (o : Operator) → is_plain_name_before sign ts ≡ true → prefix_of s.ops n ≡ Some o → prefix_is_atom s.ops ts ≡ true → Opened s (token a x) ts
  named-lone o e p g = record {
    kind = OfLeaf (AtomTree n);
    over = [];
    rest = ts;
    is = refl;
    look = Lone sign;
    fits = and-both _ _ e g;
    now = name-begins s a x sign n h ts ∙ (name-plain s.ops sign n ts e ∙ lone-begins s.ops n o ts p g);
    again = λ vs f. name-begins s a x sign n h vs ∙ (name-plain s.ops sign n vs (and-left _ _ f) ∙ lone-begins s.ops n o vs p (and-right _ _ f));
    alone = λ vs f. same-alone ts vs e (and-left _ _ f);
    may = tt;
    lone = (n, o, h, p, refl, refl);
    brackets = name-balanced a x sign n h;
  }

  named-over : (o : Operator) → is_plain_name_before sign ts ≡ true → prefix_of s.ops n ≡ Some o → prefix_is_atom s.ops ts ≡ false → Opened s (token a x) ts
  named-over o e p g = record {
    kind = OfPrefix n o;
    over = [];
    rest = ts;
    is = refl;
    look = WithOperand sign;
    fits = and-both _ _ e (ap not g);
    now = name-begins s a x sign n h ts ∙ (name-plain s.ops sign n ts e ∙ over-begins s.ops n o ts p g);
    again = λ vs f. name-begins s a x sign n h vs ∙ (name-plain s.ops sign n vs (and-left _ _ f) ∙ over-begins s.ops n o vs p (not-true _ (and-right _ _ f)));
    alone = λ vs f. same-alone ts vs e (and-left _ _ f);
    may = tt;
    lone = (sign, h, p, refl, refl);
    brackets = name-balanced a x sign n h;
  }

  by-prefix : is_plain_name_before sign ts ≡ true → (q : Option Operator) → prefix_of s.ops n ≡ q → (b : Bool) → prefix_is_atom s.ops ts ≡ b → Opened s (token a x) ts
  by-prefix e None p b g = named-alone e p
  by-prefix e (Some o) p true g = named-lone o e p g
  by-prefix e (Some o) p false g = named-over o e p g

  by-sign : has_direct_open ts ≡ false → (b c : Bool) → sign ≡ b → has_direct_integer ts ≡ c → Opened s (token a x) ts
  by-sign e true true g f = let r = counts-is ts f in named-number r.0 r.1 g r.2
  by-sign e true false g f = by-prefix (rw (e, g, f) refl) (prefix_of s.ops n) refl (prefix_is_atom s.ops ts) refl
  by-sign e false c g f = by-prefix (rw (e, g) refl) (prefix_of s.ops n) refl (prefix_is_atom s.ops ts) refl

  pub by-call : (b : Bool) → has_direct_open ts ≡ b → Opened s (token a x) ts
  by-call true e = let r = opens-is ts e in named-call r.0 r.1
  by-call false e = by-sign e sign (has_direct_integer ts) refl refl

-- ---- brackets

list-push_frame : (vs : List Token) → not (closes_list vs) ≡ true → list_primary vs ≡ Listed vs
list-push_frame [] e = refl
list-push_frame (token a words.CloseList ∷ vs) e = let z : ⊥ = cc in absurd z
list-push_frame (token a x ∷ vs) e = refl

curly-push_frame : (vs : List Token) → not (closes_curly vs) ≡ true → curly_primary vs ≡ Curly vs
curly-push_frame [] e = refl
curly-push_frame (token a words.CloseCurly ∷ vs) e = let z : ⊥ = cc in absurd z
curly-push_frame (token a x ∷ vs) e = refl

atom-plain : (n : List ℕ) (vs : List Token) → is_plain_name_before false vs ≡ true → atom_primary n vs ≡ Leaf (AtomTree n) vs
atom-plain n vs e = ap (λ b. if b then Call n (tokens_after vs) else Leaf (AtomTree n) vs) (not-true (has_direct_open vs) (and-left (not (has_direct_open vs)) true e))

module _ (s : Setting) (a : Bool) where
  list-more : (ts : List Token) → not (closes_list ts) ≡ true → Opened s (token a words.OpenList) ts
  list-more ts e = record { kind = OfListed; over = []; rest = ts; is = refl; look = InList; fits = e; now = list-push_frame ts e; again = λ vs f. list-push_frame vs f; alone = λ vs f. refl; may = tt; lone = tt; brackets = (a, refl) }

  list-atom : (b : Bool) (us : List Token) (c : Bool) → has_direct_open us ≡ c → Opened s (token a words.OpenList) (token b words.CloseList ∷ us)
  list-atom b us true e =
      let r = opens-is us e in
      record { kind = OfCall nil_name; over = token b words.CloseList ∷ token false words.Open ∷ []; rest = r.0; is = ap (λ z. token b words.CloseList ∷ z) r.1; look = Free; fits = refl; now = sym (atom-call nil_name us r.0 r.1); again = λ vs f. refl; alone = λ vs f. refl; may = tt; lone = tt; brackets = record { named = token a words.OpenList ∷ token b words.CloseList ∷ []; is = refl; is_name = tt; balanced = λ d. refl } }
  list-atom b us false e =
      record { kind = OfLeaf (AtomTree nil_name); over = token b words.CloseList ∷ []; rest = us; is = refl; look = Named false; fits = rw e refl; now = atom-plain nil_name us (rw e refl); again = λ vs f. atom-plain nil_name vs f; alone = λ vs f. refl; may = tt; lone = λ m c h. absurd h; brackets = λ d. refl }

  curly-more : (ts : List Token) → not (closes_curly ts) ≡ true → Opened s (token a words.OpenCurly) ts
  curly-more ts e = record { kind = OfCurly; over = []; rest = ts; is = refl; look = InCurly; fits = e; now = curly-push_frame ts e; again = λ vs f. curly-push_frame vs f; alone = λ vs f. refl; may = tt; lone = tt; brackets = (a, refl) }

  curly-atom : (b : Bool) (us : List Token) (c : Bool) → has_direct_open us ≡ c → Opened s (token a words.OpenCurly) (token b words.CloseCurly ∷ us)
  curly-atom b us true e =
      let r = opens-is us e in
      record { kind = OfCall braces_name; over = token b words.CloseCurly ∷ token false words.Open ∷ []; rest = r.0; is = ap (λ z. token b words.CloseCurly ∷ z) r.1; look = Free; fits = refl; now = sym (atom-call braces_name us r.0 r.1); again = λ vs f. refl; alone = λ vs f. refl; may = tt; lone = tt; brackets = record { named = token a words.OpenCurly ∷ token b words.CloseCurly ∷ []; is = refl; is_name = tt; balanced = λ d. refl } }
  curly-atom b us false e =
      record { kind = OfLeaf (AtomTree braces_name); over = token b words.CloseCurly ∷ []; rest = us; is = refl; look = Named false; fits = rw e refl; now = atom-plain braces_name us (rw e refl); again = λ vs f. atom-plain braces_name vs f; alone = λ vs f. refl; may = tt; lone = λ m c h. absurd h; brackets = λ d. refl }

  pub list-opened : (ts : List Token) → Opened s (token a words.OpenList) ts
  list-opened [] = list-more [] refl
  list-opened (token b words.CloseList ∷ us) = list-atom b us (has_direct_open us) refl
  list-opened (token b x ∷ us) = list-more (token b x ∷ us) refl

  pub curly-opened : (ts : List Token) → Opened s (token a words.OpenCurly) ts
  curly-opened [] = curly-more [] refl
  curly-opened (token b words.CloseCurly ∷ us) = curly-atom b us (has_direct_open us) refl
  curly-opened (token b x ∷ us) = curly-more (token b x ∷ us) refl

  integer-opened : (k : ℕ) (ts : List Token) (c : Bool) → nat_lt k (2 ^ 63) ≡ c → Opened s (token a (words.Integer k)) ts ⊎ (primary_of s (token a (words.Integer k) ∷ ts) ≡ Fails)
  integer-opened k ts true e = inl (record { kind = OfLeaf (IntTree (pos k)); over = []; rest = ts; is = refl; look = Free; fits = refl; now = rw e refl; again = λ vs f. rw e refl; alone = λ vs f. refl; may = tt; lone = λ m b h. absurd h; brackets = λ d. refl })
  integer-opened k ts false e = inr (rw e refl)

-- each token begins a term so, or none
pub opened : (s : Setting) (t : Token) (ts : List Token) → Opened s t ts ⊎ (primary_of s (t ∷ ts) ≡ Fails)
opened s (token a (words.Name n)) ts = inl (by-call s a (words.Name n) (is_minus_name n) n (refl, refl) ts (has_direct_open ts) refl)
opened s (token a (words.QuotedName n)) ts = inl (by-call s a (words.QuotedName n) false n (refl, refl) ts (has_direct_open ts) refl)
opened s (token a (words.Variable n)) ts = inl (record { kind = OfLeaf (VarTree n); over = []; rest = ts; is = refl; look = Free; fits = refl; now = refl; again = λ vs f. refl; alone = λ vs f. refl; may = tt; lone = λ m b h. absurd h; brackets = λ d. refl })
opened s (token a (words.Integer k)) ts = integer-opened s a k ts (nat_lt k (2 ^ 63)) refl
opened s (token a (words.Text cs)) ts = inl (record { kind = OfLeaf (text_tree s.quotes cs); over = []; rest = ts; is = refl; look = Free; fits = refl; now = refl; again = λ vs f. refl; alone = λ vs f. refl; may = tt; lone = λ m b h. absurd h; brackets = λ d. refl })
opened s (token a words.Open) ts = inl (record { kind = OfBracket; over = []; rest = ts; is = refl; look = Free; fits = refl; now = refl; again = λ vs f. refl; alone = λ vs f. refl; may = tt; lone = tt; brackets = (a, refl) })
opened s (token a words.OpenList) ts = inl (list-opened s a ts)
opened s (token a words.OpenCurly) ts = inl (curly-opened s a ts)
opened s (token a x) ts = inr refl

-- ---- with the tokens that were found after it

pub record SoOpened (s : Setting) (kind : Kind) (first : Token) (over left : List Token) : Type 0 where
  pub look : Lookahead
  pub fits : is_as_expected s.ops look left ≡ true
  pub again : (vs : List Token) → is_as_expected s.ops look vs ≡ true → primary_of s (first ∷ over ++ vs) ≡ fill kind vs
  pub alone : (vs : List Token) → is_as_expected s.ops look vs ≡ true → prefix_is_atom s.ops (first ∷ over ++ vs) ≡ prefix_is_atom s.ops (first ∷ over ++ left)
  pub may : MayLook kind look
  pub lone : IsAloneKind s.ops first kind look over
  pub brackets : Brackets kind (first ∷ over)

pub fill-fails : (kind : Kind) (ts : List Token) → fill kind ts ≡ Fails → ⊥
fill-fails (OfLeaf t) ts e = cc
fill-fails OfBracket ts e = cc
fill-fails OfCurly ts e = cc
fill-fails OfListed ts e = cc
fill-fails (OfCall n) ts e = cc
fill-fails (OfPrefix n o) ts e = cc

pub fill-same : (j k : Kind) (us vs : List Token) → fill j us ≡ fill k vs → (j ≡ k) × (us ≡ vs)
fill-same (OfLeaf t) (OfLeaf u) us vs e = (cc, cc)
fill-same (OfLeaf t) k us vs e = let z : ⊥ = cc in absurd z
fill-same OfBracket OfBracket us vs e = (refl, cc)
fill-same OfBracket k us vs e = let z : ⊥ = cc in absurd z
fill-same OfCurly OfCurly us vs e = (refl, cc)
fill-same OfCurly k us vs e = let z : ⊥ = cc in absurd z
fill-same OfListed OfListed us vs e = (refl, cc)
fill-same OfListed k us vs e = let z : ⊥ = cc in absurd z
fill-same (OfCall n) (OfCall m) us vs e = (cc, cc)
fill-same (OfCall n) k us vs e = let z : ⊥ = cc in absurd z
fill-same (OfPrefix n o) (OfPrefix m q) us vs e = (cc, cc)
fill-same (OfPrefix n o) k us vs e = let z : ⊥ = cc in absurd z

module _ (s : Setting) (kind : Kind) (first : Token) (over left : List Token) (e : primary_of s (first ∷ over ++ left) ≡ fill kind left) where
  with-kind : (o : Opened s first (over ++ left)) → o.kind ≡ kind → o.rest ≡ left → o.over ≡ over → SoOpened s kind first over left
  with-kind o k r v = record {
    look = o.look;
    fits = ap (is_as_expected s.ops o.look) (sym r) ∙ o.fits;
    again = λ vs f. ap (λ z. primary_of s (first ∷ z ++ vs)) (sym v) ∙ (o.again vs f ∙ ap (λ z. fill z vs) k);
    alone = λ vs f. ap (λ z. prefix_is_atom s.ops (first ∷ z ++ vs)) (sym v) ∙ (o.alone vs f ∙ (ap (λ z. prefix_is_atom s.ops (first ∷ z ++ o.rest)) v ∙ ap (λ z. prefix_is_atom s.ops (first ∷ over ++ z)) r));
    may = subst (λ z. MayLook z o.look) k o.may;
    lone = subst (λ z. IsAloneKind s.ops first kind o.look z) v (subst (λ z. IsAloneKind s.ops first z o.look o.over) k o.lone);
    brackets = subst (λ z. Brackets kind (first ∷ z)) v (subst (λ z. Brackets z (first ∷ o.over)) k o.brackets);
  }

  by-opened : Opened s first (over ++ left) ⊎ (primary_of s (first ∷ over ++ left) ≡ Fails) → SoOpened s kind first over left
  by-opened (inl o) =
      let h = fill-same o.kind kind o.rest left (sym o.now ∙ e) in
      with-kind o h.0 h.1 (append_cancel_right o.over over left (ap (λ z. o.over ++ z) (sym h.1) ∙ sym o.is))
  by-opened (inr f) = absurd (fill-fails kind left (sym e ∙ f))

  pub so-opened : SoOpened s kind first over left
  so-opened = by-opened (opened s first (over ++ left))
