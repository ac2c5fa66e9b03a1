-- Each spelling is such a reading.
use Rattle.std.proofs.Common.{◌≡◌, ℕ, ◌≤◌, Bool, true, false, List, [], ◌∷◌, refl, arith}
use Rattle.au_model.specs.Syntax.Tokens.{Token, token, Lexeme}
use Rattle.au_model.specs.Syntax.Trees.{Tree, Trees}
use Rattle.au_model.specs.Syntax.Operators.{OperatorTable, Operator}
use Rattle.au_model.specs.Syntax.PostOperators.{PostOperator, Infix, Postfix, Nothing, left_bound, token_post_operator, lexeme_post_operator, fits, continues_with, post_operator_fits}
use Rattle.au_model.specs.Syntax.Primaries.{Setting, Primary}
use Rattle.au_model.specs.Syntax.Spelling as d
use Rattle.term_reader.specs.LeftToRight.{Stop, OnInfix, OnPostfix, next_by_operator, next_operator, ReadsOperand, whole, ReadsRest, stop, on_infix, on_postfix, ReadsPrimary, leaf, bracket, curly, listed, called, prefixed, ReadsItems, last, barred, item, ReadsArguments, final, argument}
use Rattle.au_model.proofs.PostOperatorLemmas.{left_bound-le}

fits-true : (bound p : ℕ) (o : Operator) → o.priority ≤ bound → p ≤ left_bound o → fits bound p o ≡ true
fits-true bound p o h k = grind (arith, h, k)

next-infix : (ops : OperatorTable) (bound p : ℕ) (a : Bool) (w : Lexeme) (us : List Token) (n : List ℕ) (o : Operator)
    → lexeme_post_operator ops w ≡ Infix n o → o.priority ≤ bound → p ≤ left_bound o → next_operator ops bound p (token a w ∷ us) ≡ OnInfix n o us
next-infix ops bound p a w us n o j h k = rw j (rw (fits-true bound p o h k) refl)

next-postfix : (ops : OperatorTable) (bound p : ℕ) (a : Bool) (w : Lexeme) (us : List Token) (n : List ℕ) (o : Operator)
    → lexeme_post_operator ops w ≡ Postfix n o → o.priority ≤ bound → p ≤ left_bound o → next_operator ops bound p (token a w ∷ us) ≡ OnPostfix n o us
next-postfix ops bound p a w us n o j h k = rw j (rw (fits-true bound p o h k) refl)

post_operator-stop : (bound p : ℕ) (j : PostOperator) (us : List Token) → post_operator_fits bound p j ≡ false → next_by_operator bound p j us ≡ Stop
post_operator-stop bound p (Infix n o) us e = rw e refl
post_operator-stop bound p (Postfix n o) us e = rw e refl
post_operator-stop bound p Nothing us e = refl

pub next-stop : (ops : OperatorTable) (bound p : ℕ) (us : List Token) → continues_with ops bound p us ≡ false → next_operator ops bound p us ≡ Stop
next-stop ops bound p [] e = refl
next-stop ops bound p (x ∷ us) e = post_operator-stop bound p (token_post_operator ops x) us e

mutual
  pub climbs : {s : Setting} {bound : ℕ} {ts us vs : List Token} {l t : Tree} {p : ℕ}
      → d.Spelled s ts us l p → p ≤ bound → ReadsRest s (next_operator s.ops bound p us) bound us l vs t → ReadsOperand s bound ts vs t
  climbs (d.form f) le r = whole (begun f) le r
  climbs {s = s} {bound = bound} (d.infixed {us = us} {a = a} {x = w} {p = p} {n = n} {o = o} sp j k op) le r =
      let m : p ≤ bound = omega (arith, k, le, left_bound-le o) in
      climbs sp m (rw (next-infix s.ops bound p a w us n o j le k) (on_infix (whole_of op) r))
  climbs {s = s} {bound = bound} (d.postfixed {us = us} {a = a} {x = w} {p = p} {n = n} {o = o} sp j k) le r =
      let m : p ≤ bound = omega (arith, k, le, left_bound-le o) in
      climbs sp m (rw (next-postfix s.ops bound p a w us n o j le k) (on_postfix r))

  pub whole_of : {s : Setting} {bound : ℕ} {ts us : List Token} {t : Tree} → d.Operand s bound ts us t → ReadsOperand s bound ts us t
  whole_of {s = s} {bound = bound} {us = us} (d.operand {p = p} sp le e) = climbs sp le (rw (next-stop s.ops bound p us e) stop)

  pub begun : {s : Setting} {k : Primary} {us : List Token} {t : Tree} {p : ℕ} → d.Form s k us t p → ReadsPrimary s k us t p
  begun d.leaf = leaf
  begun (d.bracket op) = bracket (whole_of op)
  begun (d.curly op) = curly (whole_of op)
  begun (d.listed i) = listed (items_of i)
  begun (d.called args le) = called (arguments_of args) le
  begun (d.prefixed op) = prefixed (whole_of op)

  pub items_of : {s : Setting} {ts us : List Token} {t : Tree} → d.Items s ts us t → ReadsItems s ts us t
  items_of (d.last op) = last (whole_of op)
  items_of (d.barred op tail) = barred (whole_of op) (whole_of tail)
  items_of (d.item op i) = item (whole_of op) (items_of i)

  pub arguments_of : {s : Setting} {ts us : List Token} {args : Trees} → d.Arguments s ts us args → ReadsArguments s ts us args
  arguments_of (d.final op) = final (whole_of op)
  arguments_of (d.argument op args) = argument (whole_of op) (arguments_of args)
