-- Each reading from the left to the right is a spelling.
use Rattle.std.proofs.Common.{◌≡◌, ℕ, ◌≤◌, Bool, true, false, ◌&&◌, nat_le, List, [], ◌∷◌, refl, sym, ap, subst, ◌∙◌, arith, if◌then◌else◌}
use Rattle.au_model.specs.Syntax.Tokens.{Token, token, Lexeme}
use Rattle.au_model.specs.Syntax.Trees.{Tree, Trees}
use Rattle.au_model.specs.Syntax.Operators.{OperatorTable, Operator}
use Rattle.au_model.specs.Syntax.PostOperators.{PostOperator, Infix, Postfix, Nothing, left_bound, lexeme_post_operator, token_post_operator, fits, post_operator_fits, continues_with}
use Rattle.au_model.specs.Syntax.Primaries.{Setting, Primary}
use Rattle.au_model.specs.Syntax.Spelling as d
use Rattle.term_reader.specs.LeftToRight.{NextOperator, Stop, OnInfix, OnPostfix, next_by_operator, next_operator, ReadsOperand, whole, ReadsRest, stop, on_infix, on_postfix, ReadsPrimary, leaf, bracket, curly, listed, called, prefixed, ReadsItems, last, barred, item, ReadsArguments, final, argument}

-- the token after an operand, where it goes on
pub record Behind (ops : OperatorTable) (bound p : ℕ) (us vs : List Token) (o : Operator) (j : PostOperator) : Type 0 where
  pub apart : Bool
  pub w : Lexeme
  pub is : us ≡ token apart w ∷ vs
  pub post_operator : lexeme_post_operator ops w ≡ j
  pub low : p ≤ left_bound o
  pub within : o.priority ≤ bound

pub fits-within : (bound p : ℕ) (o : Operator) → fits bound p o ≡ true → o.priority ≤ bound
fits-within bound p o e = grind (arith, e)

fits-low : (bound p : ℕ) (o : Operator) → fits bound p o ≡ true → p ≤ left_bound o
fits-low bound p o e = go (nat_le o.priority bound) (nat_le p (left_bound o)) refl refl e
  where
    go : (x y : Bool) → nat_le o.priority bound ≡ x → nat_le p (left_bound o) ≡ y → (x && y) ≡ true → p ≤ left_bound o
    go true true f g h = grind (arith, g)
    go true false f g h = let k : ⊥ = cc in absurd k
    go false y f g h = let k : ⊥ = cc in absurd k

infix_is : {n m : List ℕ} {o q : Operator} {us vs : List Token} → OnInfix n o vs ≡ OnInfix m q us → (n ≡ m) × (o ≡ q) × (vs ≡ us)
infix_is e = (cc, cc, cc)

postfix_is : {n m : List ℕ} {o q : Operator} {us vs : List Token} → OnPostfix n o vs ≡ OnPostfix m q us → (n ≡ m) × (o ≡ q) × (vs ≡ us)
postfix_is e = (cc, cc, cc)

infix_stop : {n : List ℕ} {o : Operator} {vs : List Token} {A : Type 0} → OnInfix n o vs ≡ Stop → A
infix_stop e = let k : ⊥ = cc in absurd k

postfix_stop : {n : List ℕ} {o : Operator} {vs : List Token} {A : Type 0} → OnPostfix n o vs ≡ Stop → A
postfix_stop e = let k : ⊥ = cc in absurd k

crossed : {n m : List ℕ} {o q : Operator} {us vs : List Token} {A : Type 0} → OnInfix n o vs ≡ OnPostfix m q us → A
crossed e = let k : ⊥ = cc in absurd k

infix-after : (ops : OperatorTable) (bound p : ℕ) (us vs : List Token) (n : List ℕ) (o : Operator) → OnInfix n o vs ≡ next_operator ops bound p us → Behind ops bound p us vs o (Infix n o)
infix-after ops bound p [] vs n o e = infix_stop e
infix-after ops bound p (token a w ∷ us) vs n o e = go (lexeme_post_operator ops w) refl e
  where
    found : (m : List ℕ) (q : Operator) → lexeme_post_operator ops w ≡ Infix m q → (x : Bool) → fits bound p q ≡ x → OnInfix n o vs ≡ (if x then OnInfix m q us else Stop) → Behind ops bound p (token a w ∷ us) vs o (Infix n o)
    found m q j false f g = infix_stop g
    found m q j true f g =
        let h = infix_is g in
        let k : fits bound p o ≡ true = ap (fits bound p) h.1 ∙ f in
        record { apart = a; w = w; is = ap (λ z. token a w ∷ z) (sym h.2); post_operator = j ∙ rw (h.0, h.1) refl; low = fits-low bound p o k; within = fits-within bound p o k }

    not_postfix : (m : List ℕ) (q : Operator) (x : Bool) → OnInfix n o vs ≡ (if x then OnPostfix m q us else Stop) → Behind ops bound p (token a w ∷ us) vs o (Infix n o)
    not_postfix m q true g = crossed g
    not_postfix m q false g = infix_stop g

    go : (j : PostOperator) → lexeme_post_operator ops w ≡ j → OnInfix n o vs ≡ next_by_operator bound p j us → Behind ops bound p (token a w ∷ us) vs o (Infix n o)
    go (Infix m q) f g = found m q f (fits bound p q) refl g
    go (Postfix m q) f g = not_postfix m q (fits bound p q) g
    go Nothing f g = infix_stop g

postfix-after : (ops : OperatorTable) (bound p : ℕ) (us vs : List Token) (n : List ℕ) (o : Operator) → OnPostfix n o vs ≡ next_operator ops bound p us → Behind ops bound p us vs o (Postfix n o)
postfix-after ops bound p [] vs n o e = postfix_stop e
postfix-after ops bound p (token a w ∷ us) vs n o e = go (lexeme_post_operator ops w) refl e
  where
    found : (m : List ℕ) (q : Operator) → lexeme_post_operator ops w ≡ Postfix m q → (x : Bool) → fits bound p q ≡ x → OnPostfix n o vs ≡ (if x then OnPostfix m q us else Stop) → Behind ops bound p (token a w ∷ us) vs o (Postfix n o)
    found m q j false f g = postfix_stop g
    found m q j true f g =
        let h = postfix_is g in
        let k : fits bound p o ≡ true = ap (fits bound p) h.1 ∙ f in
        record { apart = a; w = w; is = ap (λ z. token a w ∷ z) (sym h.2); post_operator = j ∙ rw (h.0, h.1) refl; low = fits-low bound p o k; within = fits-within bound p o k }

    not_infix : (m : List ℕ) (q : Operator) (x : Bool) → OnPostfix n o vs ≡ (if x then OnInfix m q us else Stop) → Behind ops bound p (token a w ∷ us) vs o (Postfix n o)
    not_infix m q true g = crossed (sym g)
    not_infix m q false g = postfix_stop g

    go : (j : PostOperator) → lexeme_post_operator ops w ≡ j → OnPostfix n o vs ≡ next_by_operator bound p j us → Behind ops bound p (token a w ∷ us) vs o (Postfix n o)
    go (Infix m q) f g = not_infix m q (fits bound p q) g
    go (Postfix m q) f g = found m q f (fits bound p q) refl g
    go Nothing f g = postfix_stop g

stop-infix : (x : Bool) (n : List ℕ) (o : Operator) (us : List Token) → Stop ≡ (if x then OnInfix n o us else Stop) → x ≡ false
stop-infix true n o us e = infix_stop (sym e)
stop-infix false n o us e = refl

stop-postfix : (x : Bool) (n : List ℕ) (o : Operator) (us : List Token) → Stop ≡ (if x then OnPostfix n o us else Stop) → x ≡ false
stop-postfix true n o us e = postfix_stop (sym e)
stop-postfix false n o us e = refl

post_operator-stops : (bound p : ℕ) (j : PostOperator) (us : List Token) → Stop ≡ next_by_operator bound p j us → post_operator_fits bound p j ≡ false
post_operator-stops bound p (Infix n o) us e = stop-infix (fits bound p o) n o us e
post_operator-stops bound p (Postfix n o) us e = stop-postfix (fits bound p o) n o us e
post_operator-stops bound p Nothing us e = refl

stops : (ops : OperatorTable) (bound p : ℕ) (us : List Token) → Stop ≡ next_operator ops bound p us → continues_with ops bound p us ≡ false
stops ops bound p [] e = refl
stops ops bound p (x ∷ us) e = post_operator-stops bound p (token_post_operator ops x) us e

mutual
  pub operand_of : {s : Setting} {bound : ℕ} {ts us : List Token} {t : Tree} → ReadsOperand s bound ts us t → d.Operand s bound ts us t
  operand_of {ts = ts} (whole {p = p} f le r) = spelled_rest r ts p refl le (d.form (form_of f))

  pub spelled_rest : {s : Setting} {k : NextOperator} {bound : ℕ} {us vs : List Token} {l t : Tree} → ReadsRest s k bound us l vs t
      → (ts : List Token) (p : ℕ) → k ≡ next_operator s.ops bound p us → p ≤ bound → d.Spelled s ts us l p → d.Operand s bound ts vs t
  spelled_rest {s = s} {bound = bound} (stop {us = us}) ts p e le sp = d.operand sp le (stops s.ops bound p us e)
  spelled_rest {s = s} {bound = bound} (on_infix {us = us} {vs = vs} {l = l} {n = n} {o = o} w r) ts p e le sp =
      let b = infix-after s.ops bound p us vs n o e in
      let P : List Token → Type 0 = λ z. d.Spelled s ts z l p in
      spelled_rest r ts o.priority refl b.within (d.infixed (subst P b.is sp) b.post_operator b.low (operand_of w))
  spelled_rest {s = s} {bound = bound} (on_postfix {us = us} {vs = vs} {l = l} {n = n} {o = o} r) ts p e le sp =
      let b = postfix-after s.ops bound p us vs n o e in
      let P : List Token → Type 0 = λ z. d.Spelled s ts z l p in
      spelled_rest r ts o.priority refl b.within (d.postfixed (subst P b.is sp) b.post_operator b.low)

  pub form_of : {s : Setting} {k : Primary} {us : List Token} {t : Tree} {p : ℕ} → ReadsPrimary s k us t p → d.Form s k us t p
  form_of leaf = d.leaf
  form_of (bracket w) = d.bracket (operand_of w)
  form_of (curly w) = d.curly (operand_of w)
  form_of (listed i) = d.listed (list_items i)
  form_of (called i le) = d.called (call_arguments i) le
  form_of (prefixed w) = d.prefixed (operand_of w)

  pub list_items : {s : Setting} {ts us : List Token} {t : Tree} → ReadsItems s ts us t → d.Items s ts us t
  list_items (last w) = d.last (operand_of w)
  list_items (barred w v) = d.barred (operand_of w) (operand_of v)
  list_items (item w i) = d.item (operand_of w) (list_items i)

  pub call_arguments : {s : Setting} {ts us : List Token} {args : Trees} → ReadsArguments s ts us args → d.Arguments s ts us args
  call_arguments (final w) = d.final (operand_of w)
  call_arguments (argument w i) = d.argument (operand_of w) (call_arguments i)
