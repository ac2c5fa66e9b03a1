-- What is read of tokens is read again where others follow that are the same to it.
use Rattle.std.proofs.Common.{◌≡◌, ◌∙◌, ℕ, ◌≤◌, Bool, true, false, List, [], ◌∷◌, ◌++◌, ◌⊎◌, inl, inr, refl, sym, ap, subst, arith, append_assoc, append-nil}
use Rattle.au_model.specs.Syntax.Tokens.{Lexeme, Token, token, Name, QuotedName, Open, Close, OpenList, CloseList, OpenCurly, CloseCurly, Comma, Bar}
use Rattle.au_model.specs.Syntax.Trees.{Tree, Trees, tree_count, no_trees, more_trees, AtomTree, CompoundTree, one, two, cell}
use Rattle.au_model.specs.Terms.Forms.{nil_name, braces_name}
use Rattle.au_model.specs.Syntax.Operators.{Operator, OperatorTable}
use Rattle.au_model.specs.Syntax.PostOperators.{Infix, Postfix, left_bound, right_bound, lexeme_post_operator, continues_with, takes_equal_right}
use Rattle.au_model.specs.Syntax.Primaries.{Setting, Primary, Leaf, Bracket, Curly, Listed, Call, Prefix, Fails, is_post_operator, has_direct_open, has_direct_integer, primary_of}
use Rattle.au_model.specs.Syntax.Spelling.{Spelled, form, infixed, postfixed, Operand, operand, Form, leaf, bracket, curly, listed, called, prefixed, Items, last, barred, item, Arguments, final, argument}
use Rattle.term_reader.specs.Brackets.{Balanced}
use Rattle.term_reader.specs.Lookahead.{is_as_expected}
use Rattle.term_reader.proofs.PrimaryLemmas.{Kind, OfLeaf, OfBracket, OfCurly, OfListed, OfCall, OfPrefix, fill, Brackets, Opened, opened}
use Rattle.term_reader.proofs.BracketLemmas.{OpenRound, Closes, IsNoBracket, balanced-plain, balanced-append, balanced-pair}
use Rattle.term_reader.proofs.SameTokenLemmas.{Alike, alike-first, alike-after, presumed-same, close-close, list-list, curly-curly, bar-bar, comma-comma}
use Rattle.au_model.proofs.PostOperatorLemmas.{bound_le, left_bound-le as left-low}

-- the tokens that are read
pub record Front (s : Setting) (bound : ℕ) (Reads : List Token → List Token → Type 0) (ts us : List Token) : Type 0 where
  pub front : List Token
  pub is : ts ≡ front ++ us
  pub balanced : Balanced front
  pub again : (vs : List Token) → Alike s.ops bound us vs → Reads (front ++ vs) vs

-- up to this bracket, which is read too
pub record Enclosed (close : Lexeme) (Reads : List Token → List Token → Type 0) (ts us : List Token) : Type 0 where
  pub body : List Token
  pub apart : Bool
  pub is : ts ≡ body ++ token apart close ∷ us
  pub balanced : Balanced body
  pub again : (vs : List Token) → Reads (body ++ token apart close ∷ vs) vs

-- after what opens a term
pub record Inner (s : Setting) (bound : ℕ) (kind : Kind) (ts us : List Token) (t : Tree) (p : ℕ) : Type 0 where
  pub front : List Token
  pub is : ts ≡ front ++ us
  pub balanced : (xs : List Token) → Brackets kind xs → Balanced (xs ++ front)
  pub again : (vs : List Token) → Alike s.ops bound us vs → Form s (fill kind (front ++ vs)) vs t p

-- tokens that open a bracket with the last of them
record LastOpens (xs : List Token) : Type 0 where
  pub named : List Token
  pub apart : Bool
  pub bracket : Lexeme
  pub opens : OpenRound bracket
  pub balanced : Balanced named
  pub is : xs ≡ named ++ token apart bracket ∷ []

abbrev OpensLast : Kind → Type 0
OpensLast kind = (xs : List Token) → Brackets kind xs → LastOpens xs

last-round : OpensLast OfBracket
last-round xs b = record { named = []; apart = b.0; bracket = Open; opens = tt; balanced = λ d. refl; is = b.1 }

last-curly : OpensLast OfCurly
last-curly xs b = record { named = []; apart = b.0; bracket = OpenCurly; opens = tt; balanced = λ d. refl; is = b.1 }

last-listed : OpensLast OfListed
last-listed xs b = record { named = []; apart = b.0; bracket = OpenList; opens = tt; balanced = λ d. refl; is = b.1 }

last-call : (n : List ℕ) → OpensLast (OfCall n)
last-call n xs b = record { named = b.named; apart = false; bracket = Open; opens = tt; balanced = b.balanced; is = b.is }

-- a token that joins is no bracket
pub post_operator-plain : (ops : OperatorTable) (x : Lexeme) → is_post_operator (lexeme_post_operator ops x) ≡ true → IsNoBracket x
post_operator-plain ops (Name n) e d = refl
post_operator-plain ops (QuotedName n) e d = refl
post_operator-plain ops Comma e d = refl
post_operator-plain ops x e d = let z : ⊥ = cc in absurd z

right-low : (o : Operator) → right_bound o ≤ o.priority
right-low o = bound_le (takes_equal_right o.kind) o.priority

pub split-twice : (ts xs us ys vs : List Token) (c : Token) → ts ≡ xs ++ c ∷ us → us ≡ ys ++ vs → ts ≡ (xs ++ c ∷ ys) ++ vs
split-twice ts xs us ys vs c e f = e ∙ (ap (λ z. xs ++ c ∷ z) f ∙ sym (append_assoc xs (c ∷ ys) vs))

pub balanced-joined : (xs ys : List Token) (a : Bool) (x : Lexeme) → IsNoBracket x → Balanced xs → Balanced ys → Balanced (xs ++ token a x ∷ ys)
balanced-joined xs ys a x n h i = balanced-append xs (token a x ∷ ys) h (balanced-append (token a x ∷ []) ys (balanced-plain a x n) i)

form-fails : {s : Setting} {o : Primary} {us : List Token} {t : Tree} {p : ℕ} → Form s o us t p → o ≡ Fails → ⊥
form-fails leaf e = cc
form-fails (bracket op) e = cc
form-fails (curly op) e = cc
form-fails (listed i) e = cc
form-fails (called args le) e = cc
form-fails (prefixed op) e = cc

module _ (s : Setting) where
  -- ---- how a term begins

  opened-front : (bound : ℕ) (x : Token) (ts us : List Token) (t : Tree) (p : ℕ) (o : Opened s x ts) → Inner s bound o.kind o.rest us t p → Front s bound (λ ys zs. Spelled s ys zs t p) (x ∷ ts) us
  opened-front bound x ts us t p o i = record {
    front = (x ∷ o.over) ++ i.front;
    is = ap (λ z. x ∷ z) (o.is ∙ (ap (λ z. o.over ++ z) i.is ∙ sym (append_assoc o.over i.front us)));
    balanced = i.balanced (x ∷ o.over) o.brackets;
    again = λ vs h.
        let f : is_as_expected s.ops o.look (i.front ++ vs) ≡ true = sym (presumed-same s.ops bound (i.front ++ us) (i.front ++ vs) (alike-after s.ops bound i.front us vs h) o.look) ∙ (ap (is_as_expected s.ops o.look) (sym i.is) ∙ o.fits) in
        let P : Primary → Type 0 = λ q. Form s q vs t p in
        let Q : List Token → Type 0 = λ ys. Spelled s ys vs t p in
        subst Q (sym (append_assoc (x ∷ o.over) i.front vs)) (form (subst P (sym (o.again (i.front ++ vs) f)) (i.again vs h)));
  }

  begun-front : (bound : ℕ) (ts us : List Token) (t : Tree) (p : ℕ) → (primary_of s ts ≡ Fails → ⊥) → ((kind : Kind) (rest : List Token) → primary_of s ts ≡ fill kind rest → Inner s bound kind rest us t p)
      → Front s bound (λ ys zs. Spelled s ys zs t p) ts us
  begun-front bound [] us t p fails inner = absurd (fails refl)
  begun-front bound (x ∷ ts) us t p fails inner = go (opened s x ts) where
    go : Opened s x ts ⊎ (primary_of s (x ∷ ts) ≡ Fails) → Front s bound (λ ys zs. Spelled s ys zs t p) (x ∷ ts) us
    go (inl o) = opened-front bound x ts us t p o (inner o.kind o.rest o.now)
    go (inr f) = absurd (fails f)

  leaf-front : (bound : ℕ) (t : Tree) (us : List Token) (kind : Kind) (rest : List Token) → Leaf t us ≡ fill kind rest → Inner s bound kind rest us t 0
  leaf-front bound t us (OfLeaf m) rest e =
      let f : m ≡ t = cc in
      record {
        front = [];
        is = cc;
        balanced = λ xs b. subst Balanced (sym (append-nil xs)) b;
        again = λ vs h. let P : Tree → Type 0 = λ z. Form s (Leaf z vs) vs t 0 in subst P (sym f) leaf;
      }
  leaf-front bound t us kind rest e = let z : ⊥ = cc in absurd z

  enclosed-balanced : (xs body : List Token) (a : Bool) (close : Lexeme) → Closes close → LastOpens xs → Balanced body → Balanced (xs ++ (body ++ token a close ∷ []))
  enclosed-balanced xs body a close c o h =
      let pair = balanced-pair o.apart a o.bracket close body o.opens c h in
      let all = balanced-append o.named (token o.apart o.bracket ∷ body ++ token a close ∷ []) o.balanced pair in
      subst (λ z. Balanced (z ++ (body ++ token a close ∷ []))) (sym o.is) (subst Balanced (sym (append_assoc o.named (token o.apart o.bracket ∷ []) (body ++ token a close ∷ []))) all)

  -- between brackets
  enclosed-inner : (bound : ℕ) (close : Lexeme) (kind : Kind) (ts us : List Token) (t : Tree) → Closes close → OpensLast kind → Enclosed close (λ ys zs. Form s (fill kind ys) zs t 0) ts us → Inner s bound kind ts us t 0
  enclosed-inner bound close kind ts us t c o q = record {
    front = q.body ++ token q.apart close ∷ [];
    is = q.is ∙ sym (append_assoc q.body (token q.apart close ∷ []) us);
    balanced = λ xs b. enclosed-balanced xs q.body q.apart close c (o xs b) q.balanced;
    again = λ vs h. let P : List Token → Type 0 = λ z. Form s (fill kind z) vs t 0 in subst P (sym (append_assoc q.body (token q.apart close ∷ []) vs)) (q.again vs);
  }

  bracket-front : (bound : ℕ) (a : Bool) (t : Tree) (ts us : List Token) → Front s 1200 (λ ys zs. Operand s 1200 ys zs t) ts (token a Close ∷ us)
      → (kind : Kind) (rest : List Token) → Bracket ts ≡ fill kind rest → Inner s bound kind rest us t 0
  bracket-front bound a t ts us f OfBracket rest e =
      let g : rest ≡ ts = cc in
      enclosed-inner bound Close OfBracket rest us t tt last-round (record { body = f.front; apart = a; is = g ∙ f.is; balanced = f.balanced; again = λ vs. bracket (f.again (token a Close ∷ vs) (close-close s.ops 1200 a a us vs)) })
  bracket-front bound a t ts us f kind rest e = let z : ⊥ = cc in absurd z

  curly-front : (bound : ℕ) (a : Bool) (t : Tree) (ts us : List Token) → Front s 1200 (λ ys zs. Operand s 1200 ys zs t) ts (token a CloseCurly ∷ us)
      → (kind : Kind) (rest : List Token) → Curly ts ≡ fill kind rest → Inner s bound kind rest us (one braces_name t) 0
  curly-front bound a t ts us f OfCurly rest e =
      let g : rest ≡ ts = cc in
      enclosed-inner bound CloseCurly OfCurly rest us (one braces_name t) tt last-curly (record { body = f.front; apart = a; is = g ∙ f.is; balanced = f.balanced; again = λ vs. curly (f.again (token a CloseCurly ∷ vs) (curly-curly s.ops 1200 a a us vs)) })
  curly-front bound a t ts us f kind rest e = let z : ⊥ = cc in absurd z

  listed-front : (bound : ℕ) (t : Tree) (ts us : List Token) → Enclosed CloseList (λ ys zs. Items s ys zs t) ts us
      → (kind : Kind) (rest : List Token) → Listed ts ≡ fill kind rest → Inner s bound kind rest us t 0
  listed-front bound t ts us q OfListed rest e =
      let g : rest ≡ ts = cc in
      enclosed-inner bound CloseList OfListed rest us t tt last-listed (record { body = q.body; apart = q.apart; is = g ∙ q.is; balanced = q.balanced; again = λ vs. listed (q.again vs) })
  listed-front bound t ts us q kind rest e = let z : ⊥ = cc in absurd z

  called-front : (bound : ℕ) (n : List ℕ) (args : Trees) (ts us : List Token) → tree_count args ≤ 65535 → Enclosed Close (λ ys zs. Arguments s ys zs args) ts us
      → (kind : Kind) (rest : List Token) → Call n ts ≡ fill kind rest → Inner s bound kind rest us (CompoundTree n args) 0
  called-front bound n args ts us le q (OfCall m) rest e =
      let g : rest ≡ ts = cc in
      let f : m ≡ n = cc in
      let P : List ℕ → Type 0 = λ z. Inner s bound (OfCall z) rest us (CompoundTree n args) 0 in
      subst P (sym f) (enclosed-inner bound Close (OfCall n) rest us (CompoundTree n args) tt (last-call n) (record { body = q.body; apart = q.apart; is = g ∙ q.is; balanced = q.balanced; again = λ vs. called (q.again vs) le }))
  called-front bound n args ts us le q kind rest e = let z : ⊥ = cc in absurd z

  prefix-front : (bound : ℕ) (n : List ℕ) (o : Operator) (t : Tree) (ts us : List Token) → Front s bound (λ ys zs. Operand s (right_bound o) ys zs t) ts us
      → (kind : Kind) (rest : List Token) → Prefix n o ts ≡ fill kind rest → Inner s bound kind rest us (one n t) o.priority
  prefix-front bound n o t ts us f (OfPrefix m q) rest e =
      let g : rest ≡ ts = cc in
      let h : OfPrefix n o ≡ OfPrefix m q = cc in
      let P : Kind → Type 0 = λ z. Inner s bound z rest us (one n t) o.priority in
      let i : Inner s bound (OfPrefix n o) rest us (one n t) o.priority = record {
        front = f.front;
        is = g ∙ f.is;
        balanced = λ xs b. balanced-append xs f.front b f.balanced;
        again = λ vs k. prefixed (f.again vs k);
      } in
      subst P h i
  prefix-front bound n o t ts us f kind rest e = let z : ⊥ = cc in absurd z

  -- ---- what goes on, and lists

  infix-front : (bound : ℕ) (ts us vs : List Token) (a : Bool) (x : Lexeme) (l r : Tree) (p : ℕ) (n : List ℕ) (o : Operator)
      → lexeme_post_operator s.ops x ≡ Infix n o → p ≤ left_bound o → Front s bound (λ ys zs. Spelled s ys zs l p) ts (token a x ∷ us) → Front s bound (λ ys zs. Operand s (right_bound o) ys zs r) us vs
      → Front s bound (λ ys zs. Spelled s ys zs (two n l r) o.priority) ts vs
  infix-front bound ts us vs a x l r p n o j k f g = record {
    front = f.front ++ token a x ∷ g.front;
    is = split-twice ts f.front us g.front vs (token a x) f.is g.is;
    balanced = balanced-joined f.front g.front a x (post_operator-plain s.ops x (ap is_post_operator j)) f.balanced g.balanced;
    again = λ zs h.
        let i = alike-after s.ops bound g.front vs zs h in
        let m = alike-first s.ops bound (token a x) us (g.front ++ zs) (ap has_direct_open g.is ∙ i.opens_same) (ap has_direct_integer g.is ∙ i.counts_same) in
        let P : List Token → Type 0 = λ ys. Spelled s ys zs (two n l r) o.priority in
        subst P (sym (append_assoc f.front (token a x ∷ g.front) zs)) (infixed (f.again (token a x ∷ g.front ++ zs) m) j k (g.again zs h));
  }

  postfix-front : (bound : ℕ) (ts us : List Token) (a : Bool) (x : Lexeme) (l : Tree) (p : ℕ) (n : List ℕ) (o : Operator)
      → lexeme_post_operator s.ops x ≡ Postfix n o → p ≤ left_bound o → Front s bound (λ ys zs. Spelled s ys zs l p) ts (token a x ∷ us) → Front s bound (λ ys zs. Spelled s ys zs (one n l) o.priority) ts us
  postfix-front bound ts us a x l p n o j k f = record {
    front = f.front ++ token a x ∷ [];
    is = split-twice ts f.front us [] us (token a x) f.is refl;
    balanced = balanced-joined f.front [] a x (post_operator-plain s.ops x (ap is_post_operator j)) f.balanced (λ d. refl);
    again = λ zs h.
        let P : List Token → Type 0 = λ ys. Spelled s ys zs (one n l) o.priority in
        subst P (sym (append_assoc f.front (token a x ∷ []) zs)) (postfixed (f.again (token a x ∷ zs) (alike-first s.ops bound (token a x) us zs h.opens_same h.counts_same)) j k);
  }

  whole-front : (bound m : ℕ) (ts us : List Token) (t : Tree) (p : ℕ) → bound ≤ m → p ≤ bound → continues_with s.ops bound p us ≡ false → Front s m (λ ys zs. Spelled s ys zs t p) ts us → Front s m (λ ys zs. Operand s bound ys zs t) ts us
  whole-front bound m ts us t p lm le e f = record {
    front = f.front;
    is = f.is;
    balanced = f.balanced;
    again = λ zs h. operand (f.again zs h) le (sym (h.goes_same bound p lm) ∙ e);
  }

  last-front : (ts us : List Token) (a : Bool) (t : Tree) → Front s 999 (λ ys zs. Operand s 999 ys zs t) ts (token a CloseList ∷ us) → Enclosed CloseList (λ ys zs. Items s ys zs (cell t (AtomTree nil_name))) ts us
  last-front ts us a t f = record { body = f.front; apart = a; is = f.is; balanced = f.balanced; again = λ zs. last (f.again (token a CloseList ∷ zs) (list-list s.ops 999 a a us zs)) }

  barred-front : (ts us vs : List Token) (a b : Bool) (t u : Tree) → Front s 999 (λ ys zs. Operand s 999 ys zs t) ts (token a Bar ∷ us) → Front s 999 (λ ys zs. Operand s 999 ys zs u) us (token b CloseList ∷ vs)
      → Enclosed CloseList (λ ys zs. Items s ys zs (cell t u)) ts vs
  barred-front ts us vs a b t u f g = record {
    body = f.front ++ token a Bar ∷ g.front;
    apart = b;
    is = split-twice ts f.front us g.front (token b CloseList ∷ vs) (token a Bar) f.is g.is;
    balanced = balanced-joined f.front g.front a Bar (λ d. refl) f.balanced g.balanced;
    again = λ zs.
        let P : List Token → Type 0 = λ ys. Items s ys zs (cell t u) in
        subst P (sym (append_assoc f.front (token a Bar ∷ g.front) (token b CloseList ∷ zs)))
        (barred (f.again (token a Bar ∷ g.front ++ token b CloseList ∷ zs) (bar-bar s.ops 999 a a us _)) (g.again (token b CloseList ∷ zs) (list-list s.ops 999 b b vs zs)));
  }

  item-front : (ts us vs : List Token) (a : Bool) (t u : Tree) → Front s 999 (λ ys zs. Operand s 999 ys zs t) ts (token a Comma ∷ us) → Enclosed CloseList (λ ys zs. Items s ys zs u) us vs → Enclosed CloseList (λ ys zs. Items s ys zs (cell t u)) ts vs
  item-front ts us vs a t u f g = record {
    body = f.front ++ token a Comma ∷ g.body;
    apart = g.apart;
    is = split-twice ts f.front us g.body (token g.apart CloseList ∷ vs) (token a Comma) f.is g.is;
    balanced = balanced-joined f.front g.body a Comma (λ d. refl) f.balanced g.balanced;
    again = λ zs.
        let P : List Token → Type 0 = λ ys. Items s ys zs (cell t u) in
        subst P (sym (append_assoc f.front (token a Comma ∷ g.body) (token g.apart CloseList ∷ zs)))
        (item (f.again (token a Comma ∷ g.body ++ token g.apart CloseList ∷ zs) (comma-comma s.ops 999 a a us _)) (g.again zs));
  }

  final-front : (ts us : List Token) (a : Bool) (t : Tree) → Front s 999 (λ ys zs. Operand s 999 ys zs t) ts (token a Close ∷ us) → Enclosed Close (λ ys zs. Arguments s ys zs (more_trees t no_trees)) ts us
  final-front ts us a t f = record { body = f.front; apart = a; is = f.is; balanced = f.balanced; again = λ zs. final (f.again (token a Close ∷ zs) (close-close s.ops 999 a a us zs)) }

  argument-front : (ts us vs : List Token) (a : Bool) (t : Tree) (args : Trees) → Front s 999 (λ ys zs. Operand s 999 ys zs t) ts (token a Comma ∷ us) → Enclosed Close (λ ys zs. Arguments s ys zs args) us vs
      → Enclosed Close (λ ys zs. Arguments s ys zs (more_trees t args)) ts vs
  argument-front ts us vs a t args f g = record {
    body = f.front ++ token a Comma ∷ g.body;
    apart = g.apart;
    is = split-twice ts f.front us g.body (token g.apart Close ∷ vs) (token a Comma) f.is g.is;
    balanced = balanced-joined f.front g.body a Comma (λ d. refl) f.balanced g.balanced;
    again = λ zs.
        let P : List Token → Type 0 = λ ys. Arguments s ys zs (more_trees t args) in
        subst P (sym (append_assoc f.front (token a Comma ∷ g.body) (token g.apart Close ∷ zs)))
        (argument (f.again (token a Comma ∷ g.body ++ token g.apart Close ∷ zs) (comma-comma s.ops 999 a a us _)) (g.again zs));
  }

mutual
  pub spelled-front : {s : Setting} {ts us : List Token} {t : Tree} {p : ℕ} → Spelled s ts us t p → (m : ℕ) → p ≤ m → Front s m (λ ys zs. Spelled s ys zs t p) ts us
  spelled-front {s = s} (form {ts = ts} {us = us} {t = t} {p = p} f) m le = begun-front s m ts us t p (form-fails f) (form-front f m le)
  spelled-front {s = s} (infixed {ts = ts} {us = us} {vs = vs} {a = a} {x = x} {l = l} {r = r} {p = p} {n = n} {o = o} sp j k op) m le =
      let h : p ≤ m = omega (arith, k, le, left-low o) in
      let i : right_bound o ≤ m = omega (arith, le, right-low o) in
      infix-front s m ts us vs a x l r p n o j k (spelled-front sp m h) (operand-front op m i)
  spelled-front {s = s} (postfixed {ts = ts} {us = us} {a = a} {x = x} {l = l} {p = p} {n = n} {o = o} sp j k) m le =
      let h : p ≤ m = omega (arith, k, le, left-low o) in
      postfix-front s m ts us a x l p n o j k (spelled-front sp m h)

  pub operand-front : {s : Setting} {bound : ℕ} {ts us : List Token} {t : Tree} → Operand s bound ts us t → (m : ℕ) → bound ≤ m → Front s m (λ ys zs. Operand s bound ys zs t) ts us
  operand-front {s = s} (operand {bound = bound} {ts = ts} {us = us} {t = t} {p = p} sp le e) m lm =
      let h : p ≤ m = omega (arith, le, lm) in whole-front s bound m ts us t p lm le e (spelled-front sp m h)

  pub form-front : {s : Setting} {o : Primary} {us : List Token} {t : Tree} {p : ℕ} → Form s o us t p → (m : ℕ) → p ≤ m → (kind : Kind) (rest : List Token) → o ≡ fill kind rest → Inner s m kind rest us t p
  form-front {s = s} (leaf {t = t} {us = us}) m le = leaf-front s m t us
  form-front {s = s} (bracket {ts = ts} {us = us} {a = a} {t = t} op) m le = bracket-front s m a t ts us (operand-front op 1200 (omega arith))
  form-front {s = s} (curly {ts = ts} {us = us} {a = a} {t = t} op) m le = curly-front s m a t ts us (operand-front op 1200 (omega arith))
  form-front {s = s} (listed {ts = ts} {us = us} {t = t} i) m le = listed-front s m t ts us (items-front i)
  form-front {s = s} (called {ts = ts} {us = us} {n = n} {args = args} i lt) m le = called-front s m n args ts us lt (call-front i)
  form-front {s = s} (prefixed {ts = ts} {us = us} {n = n} {o = o} {t = t} op) m le =
      let i : right_bound o ≤ m = omega (arith, le, right-low o) in prefix-front s m n o t ts us (operand-front op m i)

  pub items-front : {s : Setting} {ts us : List Token} {t : Tree} → Items s ts us t → Enclosed CloseList (λ ys zs. Items s ys zs t) ts us
  items-front {s = s} (last {ts = ts} {us = us} {a = a} {t = t} op) = last-front s ts us a t (operand-front op 999 (omega arith))
  items-front {s = s} (barred {ts = ts} {us = us} {vs = vs} {a = a} {b = b} {t = t} {u = u} op tail) = barred-front s ts us vs a b t u (operand-front op 999 (omega arith)) (operand-front tail 999 (omega arith))
  items-front {s = s} (item {ts = ts} {us = us} {vs = vs} {a = a} {t = t} {u = u} op i) = item-front s ts us vs a t u (operand-front op 999 (omega arith)) (items-front i)

  pub call-front : {s : Setting} {ts us : List Token} {args : Trees} → Arguments s ts us args → Enclosed Close (λ ys zs. Arguments s ys zs args) ts us
  call-front {s = s} (final {ts = ts} {us = us} {a = a} {t = t} op) = final-front s ts us a t (operand-front op 999 (omega arith))
  call-front {s = s} (argument {ts = ts} {us = us} {vs = vs} {a = a} {t = t} {args = args} op i) = argument-front s ts us vs a t args (operand-front op 999 (omega arith)) (call-front i)
