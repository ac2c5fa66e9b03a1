-- What is known of the pieces of a term, and of its operands.
use Rattle.std.proofs.Common.{◌≡◌, ℕ, ◌-◌, ◌<◌, ◌≤◌, Bool, true, false, ◌&&◌, ◌==◌, List, [], ◌∷◌, refl, sym, ◌∙◌, arith, if◌then◌else◌}
use Rattle.au_term.specs.Term.{Term}
use Rattle.au_model.specs.Syntax.Operators.{Operator, OperatorTable}
use Rattle.au_model.specs.Syntax.Tokens.{Lexeme, Token, token, Open, Close, CloseList, CloseCurly, Comma, Bar, End}
use Rattle.au_model.specs.Syntax.Trees.{Tree, Trees, cell}
use Rattle.au_model.specs.Syntax.PostOperators.{left_bound, right_bound, takes_equal_left, takes_equal_right}
use Rattle.au_model.specs.Syntax.Primaries.{Setting, prefix_is_atom}
use Rattle.au_model.specs.Syntax.Spelling.{Spelled, form, Operand, operand, bracket, Items, Arguments}
use Rattle.au_model.specs.Writing.Pieces.{Piece, Put, InFront, joined_pieces}
use Rattle.au_model.specs.Writing.OperatorForms.{Notation, CompoundForm, InfixForm, PrefixForm, form_of_term, form_priority, takes_equal_last, is_operator_atom, is_above, is_enclosed, is_enclosed_left}
use Rattle.au_model.specs.Writing.WrittenTerms.{notation_of, enclosed, pieces, tail_pieces}
use Rattle.au_model.specs.declared.types.Style.TheVariants.{Quoted}
use Rattle.au_model.specs.Writing.ReadBack.{tree_of}
use Rattle.term_writer.proofs.PieceSeamLemmas.{after_token, Follows, lower, follows-stops, closes_round}
use Rattle.au_term.proofs.LogicLemmas.{or-left, or-right, not_lt_by as gt-false}
use Rattle.au_model.proofs.PostOperatorLemmas.{bound_le}

abbrev pub notated : OperatorTable → Notation
notated ops = notation_of Quoted ops

-- the greatest bound of an operand that is open at the right end
abbrev pub form_edge : CompoundForm → ℕ
form_edge (InfixForm o) = right_bound o
form_edge (PrefixForm o) = right_bound o
form_edge _ = 0

abbrev pub priority : OperatorTable → Term → ℕ
priority ops t = form_priority (form_of_term (notated ops) t)

abbrev pub edge : OperatorTable → Term → ℕ
edge ops t = form_edge (form_of_term (notated ops) t)

shape_edge-le : (sh : CompoundForm) → form_edge sh ≤ form_priority sh
shape_edge-le (InfixForm o) = bound_le (takes_equal_right o.kind) o.priority
shape_edge-le (PrefixForm o) = bound_le (takes_equal_right o.kind) o.priority
shape_edge-le _ = omega arith

pub edge-le : (ops : OperatorTable) (t : Term) → edge ops t ≤ priority ops t
edge-le ops t = shape_edge-le (form_of_term (notated ops) t)

pub record Reads (s : Setting) (ts : List Token) (rest : List Piece) (t : Term) (p : ℕ) : Type 0 where
  pub before : InFront
  pub is : Spelled s ts (joined_pieces before rest) (tree_of t) p

pub record OperandReads (s : Setting) (bound : ℕ) (ts : List Token) (rest : List Piece) (t : Term) : Type 0 where
  pub before : InFront
  pub is : Operand s bound ts (joined_pieces before rest) (tree_of t)

pub record ItemsRead (s : Setting) (ts : List Token) (rest : List Piece) (t : Tree) : Type 0 where
  pub before : InFront
  pub is : Items s ts (joined_pieces before rest) t

pub record ArgumentsRead (s : Setting) (ts : List Token) (rest : List Piece) (args : Trees) : Type 0 where
  pub before : InFront
  pub is : Arguments s ts (joined_pieces before rest) args

abbrev pub word_starts : Lexeme → Bool
word_starts Close = false
word_starts CloseList = false
word_starts CloseCurly = false
word_starts Comma = false
word_starts Bar = false
word_starts End = false
word_starts _ = true

-- the tokens begin with a word that a term can begin with
abbrev pub starts_term : List Token → Bool
starts_term [] = false
starts_term (token a w ∷ ts) = word_starts w

-- a prefix operator in front of these pieces stands for itself
abbrev pub Alone : Setting → List Piece → Type 0
Alone s ps = (b : InFront) → prefix_is_atom s.ops (joined_pieces b ps) ≡ true

pub record Facts (s : Setting) (t : Term) : Type 0 where
  pub limit : priority s.ops t ≤ 1200
  pub front : (rest : List Piece) → Follows s.ops (edge s.ops t) rest → (is_operator_atom (notated s.ops) t ≡ true → Alone s rest) → (b : InFront)
      → Reads s (joined_pieces b (pieces (notated s.ops) t rest)) rest t (priority s.ops t)
  pub starts : is_operator_atom (notated s.ops) t ≡ false → (rest : List Piece) (b : InFront) → prefix_is_atom s.ops (joined_pieces b (pieces (notated s.ops) t rest)) ≡ false
  pub opening : (rest : List Piece) (b : InFront) → starts_term (joined_pieces b (pieces (notated s.ops) t rest)) ≡ true

-- of the rest of a list
pub record Tails (s : Setting) (t : Term) : Type 0 where
  pub tail_follows : (rest : List Piece) → Follows s.ops 999 (tail_pieces (notated s.ops) t (Put CloseList ∷ rest))
  pub tail_alone : (rest : List Piece) → Alone s (tail_pieces (notated s.ops) t (Put CloseList ∷ rest))
  pub tail_reads : (ts : List Token) (head : Tree) (rest : List Piece) (b : InFront)
      → Operand s 999 ts (joined_pieces b (tail_pieces (notated s.ops) t (Put CloseList ∷ rest))) head → ItemsRead s ts rest (cell head (tree_of t))

pub false-true : {x : Bool} {A : Type 0} → x ≡ false → x ≡ true → A
false-true e f = let g : false ≡ true = sym e ∙ f in let h : ⊥ = cc in absurd h

module _ (s : Setting) where
  -- in round brackets
  pub shut : (t : Term) → Facts s t → (rest : List Piece) (b : InFront) → Reads s (joined_pieces b (Put Open ∷ pieces (notated s.ops) t (Put Close ∷ rest))) rest t 0
  shut t f rest b =
      let r = f.front (Put Close ∷ rest) closes_round (λ e d. refl) (after_token Open) in
      record { before = after_token Close; is = form (bracket (operand r.is f.limit refl)) }

  -- an operand in front of what cannot go on inside it
  pub right-reads : (bound : ℕ) (t : Term) (x : Bool) → Facts s t → (x ≡ false → (is_operator_atom (notated s.ops) t ≡ true → ⊥) × (priority s.ops t ≤ bound))
      → (rest : List Piece) → Follows s.ops bound rest → (b : InFront) → OperandReads s bound (joined_pieces b (enclosed x (pieces (notated s.ops) t) rest)) rest t
  right-reads bound t true f h rest w b =
      let r = shut t f rest b in record { before = r.before; is = operand r.is (omega arith) (follows-stops r.before bound 0 (omega arith) w) }
  right-reads bound t false f h rest w b =
      let g = h refl in
      let r = f.front rest (lower (edge s.ops t) (omega (arith, g.1, edge-le s.ops t)) w) (λ e. absurd (g.0 e)) b in
      record { before = r.before; is = operand r.is g.1 (follows-stops r.before bound (priority s.ops t) (omega arith) w) }

  -- an item: an operator is alone there
  pub item-reads : (t : Term) (x : Bool) → Facts s t → is_above (notated s.ops) 999 t ≡ x
      → (rest : List Piece) → Follows s.ops 999 rest → Alone s rest → (b : InFront) → OperandReads s 999 (joined_pieces b (enclosed x (pieces (notated s.ops) t) rest)) rest t
  item-reads t true f e rest w alone b =
      let r = shut t f rest b in record { before = r.before; is = operand r.is (omega arith) (follows-stops r.before 999 0 (omega arith) w) }
  item-reads t false f e rest w alone b =
      let le : priority s.ops t ≤ 999 = gt-false 999 (priority s.ops t) e in
      let r = f.front rest (lower (edge s.ops t) (omega (arith, le, edge-le s.ops t)) w) (λ e. alone) b in
      record { before = r.before; is = operand r.is le (follows-stops r.before 999 (priority s.ops t) (omega arith) w) }

  pub shut-says : (bound : ℕ) (t : Term) → is_enclosed (notated s.ops) bound t ≡ false → (is_operator_atom (notated s.ops) t ≡ true → ⊥) × (priority s.ops t ≤ bound)
  shut-says bound t e = (λ h. false-true (or-left _ _ e) h, gt-false bound (priority s.ops t) (or-right _ _ e))

  edge_lt : (tl tr : Bool) (p q : ℕ) → 1 ≤ p → q ≤ (if tl then p else p - 1) → (tl && (tr && (q == p))) ≡ false → (if tr then q else q - 1) < p
  edge_lt true true p q h k e = grind (arith, h, k, e)
  edge_lt true false p q h k e = omega (arith, h, k)
  edge_lt false true p q h k e = omega (arith, h, k)
  edge_lt false false p q h k e = omega (arith, h, k)

  shape-lt : (o : Operator) (sh : CompoundForm) → 1 ≤ o.priority → form_priority sh ≤ left_bound o
      → (takes_equal_left o.kind && (takes_equal_last sh && (form_priority sh == o.priority))) ≡ false → form_edge sh < o.priority
  shape-lt o (InfixForm q) h k e = edge_lt (takes_equal_left o.kind) (takes_equal_right q.kind) o.priority q.priority h k e
  shape-lt o (PrefixForm q) h k e = edge_lt (takes_equal_left o.kind) (takes_equal_right q.kind) o.priority q.priority h k e
  shape-lt o _ h k e = omega (arith, h)

  -- a left operand in front of its operator
  pub left-reads : (o : Operator) (t : Term) (x : Bool) → Facts s t → is_enclosed_left (notated s.ops) o t ≡ x → 1 ≤ o.priority
      → (rest : List Piece) → ((c : ℕ) → c < o.priority → Follows s.ops c rest) → (b : InFront)
      → (p : ℕ) × (p ≤ left_bound o) × Reads s (joined_pieces b (enclosed x (pieces (notated s.ops) t) rest)) rest t p
  left-reads o t true f e h rest w b = (0, omega arith, shut t f rest b)
  left-reads o t false f e h rest w b =
      let g = shut-says (left_bound o) t (or-left _ _ e) in
      (priority s.ops t, g.1, f.front rest (w (edge s.ops t) (shape-lt o (form_of_term (notated s.ops) t) h g.1 (or-right _ _ e))) (λ k. absurd (g.0 k)) b)

  pub shut-starts : (t : Term) (x : Bool) → Facts s t → (x ≡ false → is_operator_atom (notated s.ops) t ≡ false) → (rest : List Piece) (b : InFront)
      → prefix_is_atom s.ops (joined_pieces b (enclosed x (pieces (notated s.ops) t) rest)) ≡ false
  shut-starts t true f h rest b = refl
  shut-starts t false f h rest b = f.starts (h refl) rest b

  pub shut-left-plain : (o : Operator) (t : Term) → is_enclosed_left (notated s.ops) o t ≡ false → is_operator_atom (notated s.ops) t ≡ false
  shut-left-plain o t e = or-left _ _ (or-left _ _ e)

  pub shut-plain : (bound : ℕ) (t : Term) → is_enclosed (notated s.ops) bound t ≡ false → is_operator_atom (notated s.ops) t ≡ false
  shut-plain bound t e = or-left _ _ e

  pub shut-opening : (t : Term) (x : Bool) → Facts s t → (rest : List Piece) (b : InFront) → starts_term (joined_pieces b (enclosed x (pieces (notated s.ops) t) rest)) ≡ true
  shut-opening t true f rest b = refl
  shut-opening t false f rest b = f.opening rest b
