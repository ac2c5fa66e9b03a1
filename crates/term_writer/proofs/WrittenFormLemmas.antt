-- Each form of a term is read as it is written.
use Rattle.std.proofs.Common.{◌≡◌, ℕ, suc, ℤ, pos, negsuc, ◌<◌, ◌≤◌, ◌^◌, Bool, true, false, not, ◌&&◌, ◌||◌, nat_lt, List, [], ◌∷◌, Option, Some, None, codes, refl, sym, ap, subst, ◌∙◌, arith, if◌then◌else◌}
use Rattle.std.specs.Cmp.Lexicographic.{same_text}
use Rattle.std.specs.Option.{is_some}
use Rattle.au_term.specs.Term.{Term, VarTerm, IntTerm, AtomTerm, Compound, Terms, end, more, count}
use Rattle.au_model.specs.Terms.Forms.{same_name}
use Rattle.au_model.specs.Syntax.Operators.{Operator, OperatorTable, IsOperatorTable, prefix_of, infix_of, postfix_of}
use Rattle.au_model.specs.Syntax.Tokens.{Token, token, Name, QuotedName, Integer, Open, Close, OpenList, CloseList, OpenCurly, CloseCurly, Comma, Bar}
use Rattle.au_model.specs.Syntax.Trees.{Tree, IntTree, AtomTree, more_trees, tree_count, one, two, cell}
use Rattle.au_model.specs.Terms.Forms.{nil_name, braces_name}
use Rattle.au_model.specs.Syntax.PostOperators.{infix_operator, right_bound, named_post_operator}
use Rattle.au_model.specs.Syntax.Primaries.{Setting, Primary, Leaf, Curly, Listed, Call, Prefix, primary_of, name_primary, prefix_or_atom, has_direct_open, has_direct_integer, is_minus, ends_operand_before, prefix_is_atom, is_post_operator, is_some_operator as is_found, curly_primary, list_primary}
use Rattle.au_model.specs.Syntax.Spelling.{Spelled, form, infixed, postfixed, Operand, operand, leaf, curly, listed, called, prefixed, Items, last, barred, item, final, argument}
use Rattle.au_model.specs.Writing.NameForms.{is_bare, is_symbol_name}
use Rattle.au_model.specs.Writing.Pieces.{Piece, Put, LetterEnds, name_ends, run_together, InFront, SpaceInFront, are_separate, joined_pieces}
use Rattle.au_model.specs.Writing.OperatorForms.{CompoundForm, ListForm, BracedForm, InfixForm, PrefixForm, PostfixForm, FunctionalForm, infix_form, prefix_form, form_of, form_priority, is_operator_name, is_above, is_enclosed, is_enclosed_left}
use Rattle.au_model.specs.Writing.WrittenTerms.{variable_token, name_token, name_pieces, infix_pieces, prefix_pieces, postfix_pieces, spaced, is_open, is_integer_term, begins_with, enclosed, pieces, compound_pieces, tail_pieces, further_pieces, is_cell}
use Rattle.au_model.specs.Writing.ReadBack.{tree_of, trees_of, IsSmall}
use Rattle.term_writer.proofs.OperatorTableLemmas.{ranged}
use Rattle.au_model.specs.Syntax.Operators.{PrefixClass, InfixClass, PostfixClass}
use Rattle.term_writer.proofs.PieceSeamLemmas.{after_token, Follows, meets-other, opens-by, counts-by, follows-opens, follows-counts, closes_round, closes_list, closes_curly, bars, commas, begins_name, before_name, sign_name, infix-follows, postfix-follows, infix-at, postfix-at, name-at}
use Rattle.au_term.proofs.LogicLemmas.{and-false}
use Rattle.term_writer.proofs.OperandPieceLemmas.{notated, form_edge, Reads, OperandReads, ArgumentsRead, Alone, Facts, Tails, starts_term, right-reads, item-reads, shut-says, left-reads, shut-starts, shut-left-plain, shut-plain, shut-opening}
use Rattle.au_term.proofs.LogicLemmas.{or-right}
use Rattle.au_term.proofs.LogicLemmas.{and-both}

curly-begins : (ts : List Token) → starts_term ts ≡ true → curly_primary ts ≡ Curly ts
curly-begins [] e = refl
curly-begins (token a CloseCurly ∷ ts) e = let f : ⊥ = cc in absurd f
curly-begins (token a _ ∷ ts) e = refl

list-begins : (ts : List Token) → starts_term ts ≡ true → list_primary ts ≡ Listed ts
list-begins [] e = refl
list-begins (token a CloseList ∷ ts) e = let f : ⊥ = cc in absurd f
list-begins (token a _ ∷ ts) e = refl

count_trees : (ts : Terms) → tree_count (trees_of ts) ≡ count ts
count_trees end = refl
count_trees (more t ts) = ap suc (count_trees ts)

post_operator_is : (n : List ℕ) (i p : Option Operator) → is_post_operator (infix_operator n i p) ≡ (is_some i || is_some p)
post_operator_is n (Some o) p = refl
post_operator_is n None (Some o) = refl
post_operator_is n None None = refl

no_post_operator : (ops : OperatorTable) (n : List ℕ) → (is_some (infix_of ops n) || is_some (postfix_of ops n)) ≡ false → is_post_operator (named_post_operator ops n) ≡ false
no_post_operator ops n e = post_operator_is n (infix_of ops n) (postfix_of ops n) ∙ e

or-mid : (x y z : Bool) → y ≡ true → (x || (y || z)) ≡ true
or-mid true y z e = refl
or-mid false y z e = rw e refl

or-end : (x y z : Bool) → z ≡ true → (x || (y || z)) ≡ true
or-end true y z e = refl
or-end false true z e = refl
or-end false false z e = e

and-when : (x y : Bool) → (x ≡ true → y ≡ false) → (x && y) ≡ false
and-when true y h = h refl
and-when false y h = refl

and-2 : (x y : Bool) → (x && (y && false)) ≡ false
and-2 x y = rw (and-false y) (and-false x)

and-3 : (x y z : Bool) → (x && (y && (z && false))) ≡ false
and-3 x y z = rw (and-false z) (and-2 x y)

module _ (s : Setting) (table : IsOperatorTable s.ops) where
  -- ---- the rest of a list after the bar

  pub bar-tails : (t : Term) (x : Bool) → Facts s t → is_above (notated s.ops) 999 t ≡ x
      → ((rest : List Piece) → tail_pieces (notated s.ops) t rest ≡ Put Bar ∷ enclosed x (pieces (notated s.ops) t) rest) → Tails s t
  bar-tails t x f above e = record {
    tail_follows = λ rest. rw (e (Put CloseList ∷ rest)) bars;
    tail_alone = λ rest b. rw (e (Put CloseList ∷ rest)) refl;
    tail_reads = λ ts head rest b op.
        let P : List Piece → Type 0 = λ ps. Operand s 999 ts (joined_pieces b ps) head in
        let o = subst P (e (Put CloseList ∷ rest)) op in
        let r = item-reads s t x f above (Put CloseList ∷ rest) closes_list (λ b. refl) (after_token Bar) in
        record { before = after_token CloseList; is = barred o r.is };
  }

  -- ---- leaves

  pub var-facts : (n : ℕ) → Facts s (VarTerm n)
  var-facts n = record {
    limit = omega arith;
    front = λ rest w alone b. record { before = after_token (variable_token n); is = form leaf };
    starts = λ e rest b. refl;
    opening = λ rest b. refl;
  }

  pos-begins : (k : ℕ) (ts : List Token) → k < 2 ^ 63 → (if nat_lt k (2 ^ 63) then Leaf (IntTree (pos k)) ts else Primary.Fails) ≡ Leaf (IntTree (pos k)) ts
  pos-begins k ts h = let e : nat_lt k (2 ^ 63) ≡ true = grind (arith, h) in rw e refl

  tight-sign : run_together (name_ends (codes "-")) LetterEnds ≡ false
  tight-sign = refl

  neg-begins : (k : ℕ) (g : Bool) (a : Bool) (ts : List Token) → g ≡ false
      → primary_of s (token a (Name (codes "-")) ∷ token g (Integer (suc k)) ∷ ts) ≡ Leaf (IntTree (negsuc k)) ts
  neg-begins k true a ts e = let f : ⊥ = cc in absurd f
  neg-begins k false a ts e = refl

  neg-starts : (k : ℕ) (g : Bool) (a : Bool) (ts : List Token) → g ≡ false
      → prefix_is_atom s.ops (token a (Name (codes "-")) ∷ token g (Integer (suc k)) ∷ ts) ≡ false
  neg-starts k true a ts e = let f : ⊥ = cc in absurd f
  neg-starts k false a ts e = and-3 (is_post_operator (named_post_operator s.ops (codes "-"))) (not (is_found (prefix_of s.ops (codes "-")))) true

  pub int-facts : (z : ℤ) → IsSmall z → Facts s (IntTerm z)
  int-facts (pos k) h = record {
    limit = omega arith;
    front = λ rest w alone b. record { before = after_token (Integer k); is = form (rw (pos-begins k (joined_pieces (after_token (Integer k)) rest) h) leaf) };
    starts = λ e rest b. refl;
    opening = λ rest b. refl;
  }
  int-facts (negsuc k) h = record {
    limit = omega arith;
    front = λ rest w alone b. record {
      before = after_token (Integer (suc k));
      is = form (rw (neg-begins k (run_together (name_ends (codes "-")) LetterEnds) (are_separate b (Name (codes "-"))) (joined_pieces (after_token (Integer (suc k))) rest) tight-sign) leaf);
    };
    starts = λ e rest b. neg-starts k (run_together (name_ends (codes "-")) LetterEnds) (are_separate b (Name (codes "-"))) (joined_pieces (after_token (Integer (suc k))) rest) tight-sign;
    opening = λ rest b. refl;
  }

  atom-opens : (n : List ℕ) (sign : Bool) (ts : List Token) → has_direct_open ts ≡ false → has_direct_integer ts ≡ false → (is_operator_name s.ops n ≡ true → prefix_is_atom s.ops ts ≡ true)
      → name_primary s.ops sign n ts ≡ Leaf (AtomTree n) ts
  atom-opens n sign ts o c h = rw (o, c, and-false sign) (go (prefix_of s.ops n) refl)
    where
      go : (q : Option Operator) → prefix_of s.ops n ≡ q → prefix_or_atom s.ops n q ts ≡ Leaf (AtomTree n) ts
      go None e = refl
      go (Some p) e = let k : is_operator_name s.ops n ≡ true = rw e refl in rw (h k) refl

  plain-starts : (n : List ℕ) (ts : List Token) → is_operator_name s.ops n ≡ false → ends_operand_before s.ops (name_token n) ts ≡ false
  plain-starts n ts e = before_name s n ts ∙ rw (no_post_operator s.ops n (or-right (is_some (prefix_of s.ops n)) (is_some (infix_of s.ops n) || is_some (postfix_of s.ops n)) e)) refl

  name-starts : (n : List ℕ) (ps : List Piece) (b : InFront) → ((c : InFront) → ends_operand_before s.ops (name_token n) (joined_pieces (after_token (name_token n)) ps) ≡ false)
      → prefix_is_atom s.ops (joined_pieces b (name_pieces n ps)) ≡ false
  name-starts n ps b h = go (same_name n nil_name) (same_name n braces_name)
    where
      go : (x y : Bool) → prefix_is_atom s.ops (joined_pieces b (if x then Put OpenList ∷ Put CloseList ∷ ps else if y then Put OpenCurly ∷ Put CloseCurly ∷ ps else Put (name_token n) ∷ ps)) ≡ false
      go true y = refl
      go false true = refl
      go false false = h b

  name-word-starts : (n : List ℕ) (a : Bool) (ts : List Token) → starts_term (token a (name_token n) ∷ ts) ≡ true
  name-word-starts n a ts = go (is_bare n)
    where
      go : (x : Bool) → starts_term (token a (if x then Name n else QuotedName n) ∷ ts) ≡ true
      go true = refl
      go false = refl

  name-opening : (n : List ℕ) (ps : List Piece) (b : InFront) → starts_term (joined_pieces b (name_pieces n ps)) ≡ true
  name-opening n ps b = go (same_name n nil_name) (same_name n braces_name)
    where
      go : (x y : Bool) → starts_term (joined_pieces b (if x then Put OpenList ∷ Put CloseList ∷ ps else if y then Put OpenCurly ∷ Put CloseCurly ∷ ps else Put (name_token n) ∷ ps)) ≡ true
      go true y = refl
      go false true = refl
      go false false = name-word-starts n (are_separate b (name_token n)) (joined_pieces (after_token (name_token n)) ps)

  pub atom-facts : (n : List ℕ) → Facts s (AtomTerm n)
  atom-facts n = record {
    limit = omega arith;
    front = λ rest w alone b.
        let a = name-at s table n rest b in
        record {
          before = a.before;
          is = form (rw (a.is ∙ atom-opens n a.sign (joined_pieces a.before rest) (follows-opens a.before w) (follows-counts a.before w) (λ e. alone e a.before)) leaf);
        };
    starts = λ e rest b. name-starts n rest b (λ c. plain-starts n (joined_pieces (after_token (name_token n)) rest) e);
    opening = λ rest b. name-opening n rest b;
  }

  pub atom-tails : (n : List ℕ) → Tails s (AtomTerm n)
  atom-tails n = go (same_name n nil_name) refl
    where
      go : (x : Bool) → same_name n nil_name ≡ x → Tails s (AtomTerm n)
      go false e = bar-tails (AtomTerm n) false (atom-facts n) refl (λ rest. rw e refl)
      go true e = record {
        tail_follows = λ rest. rw e closes_list;
        tail_alone = λ rest b. rw e refl;
        tail_reads = λ ts head rest b op.
            let same_rest : tail_pieces (notated s.ops) (AtomTerm n) (Put CloseList ∷ rest) ≡ Put CloseList ∷ rest = rw e refl in
            let P : List Piece → Type 0 = λ ps. Operand s 999 ts (joined_pieces b ps) head in
            let Q : List ℕ → Type 0 = λ k. Items s ts (joined_pieces (after_token CloseList) rest) (cell head (AtomTree k)) in
            let o = subst P same_rest op in
            record { before = after_token CloseList; is = subst Q (sym (same_text n nil_name (sym e))) (last o) };
      }

  -- ---- compounds

  pub record FactsAt (sh : CompoundForm) (n : List ℕ) (ts : Terms) : Type 0 where
    pub limit : form_priority sh ≤ 1200
    pub front : (rest : List Piece) → Follows s.ops (form_edge sh) rest → (b : InFront)
        → Reads s (joined_pieces b (compound_pieces (notated s.ops) sh n ts rest)) rest (Compound n ts) (form_priority sh)
    pub starts : (rest : List Piece) (b : InFront) → prefix_is_atom s.ops (joined_pieces b (compound_pieces (notated s.ops) sh n ts rest)) ≡ false
    pub opening : (rest : List Piece) (b : InFront) → starts_term (joined_pieces b (compound_pieces (notated s.ops) sh n ts rest)) ≡ true

  infix-facts : (n : List ℕ) (o : Operator) (l r : Term) → infix_of s.ops n ≡ Some o → Facts s l → Facts s r → FactsAt (InfixForm o) n (more l (more r end))
  infix-facts n o l r e f g =
      let range = ranged InfixClass s.ops n o table e in
      record {
        limit = range.1;
        front = λ rest w b.
            let ps = enclosed (is_enclosed (notated s.ops) (right_bound o) r) (pieces (notated s.ops) r) rest in
            let left = left-reads s o l (is_enclosed_left (notated s.ops) o l) f refl range.0 (infix_pieces o n ps) (λ c h. infix-follows s table n o c ps e h) b in
            let at = infix-at s table n o ps (left.2).before e in
            let P : List Token → Type 0 = λ k. Spelled s (joined_pieces b (enclosed (is_enclosed_left (notated s.ops) o l) (pieces (notated s.ops) l) (infix_pieces o n ps))) k (tree_of l) left.0 in
            let right = right-reads s (right_bound o) r (is_enclosed (notated s.ops) (right_bound o) r) g (shut-says s (right_bound o) r) rest w at.before in
            record { before = right.before; is = infixed (subst P at.is (left.2).is) at.goes left.1 right.is };
        starts = λ rest b. shut-starts s l (is_enclosed_left (notated s.ops) o l) f (shut-left-plain s o l) _ b;
        opening = λ rest b. shut-opening s l (is_enclosed_left (notated s.ops) o l) f _ b;
      }

  postfix-facts : (n : List ℕ) (o : Operator) (l : Term) → postfix_of s.ops n ≡ Some o → Facts s l → FactsAt (PostfixForm o) n (more l end)
  postfix-facts n o l e f =
      let range = ranged PostfixClass s.ops n o table e in
      record {
        limit = range.1;
        front = λ rest w b.
            let left = left-reads s o l (is_enclosed_left (notated s.ops) o l) f refl range.0 (postfix_pieces n rest) (λ c h. postfix-follows s table n o c rest e h) b in
            let at = postfix-at s table n o rest (left.2).before e in
            let P : List Token → Type 0 = λ k. Spelled s (joined_pieces b (enclosed (is_enclosed_left (notated s.ops) o l) (pieces (notated s.ops) l) (postfix_pieces n rest))) k (tree_of l) left.0 in
            record { before = at.before; is = postfixed (subst P at.is (left.2).is) at.goes left.1 };
        starts = λ rest b. shut-starts s l (is_enclosed_left (notated s.ops) o l) f (shut-left-plain s o l) _ b;
        opening = λ rest b. shut-opening s l (is_enclosed_left (notated s.ops) o l) f _ b;
      }

  spaced-alone : (x : Bool) (ps : List Piece) (b : InFront) → ((c : InFront) → prefix_is_atom s.ops (joined_pieces c ps) ≡ false) → prefix_is_atom s.ops (joined_pieces b (spaced x ps)) ≡ false
  spaced-alone true ps b h = h SpaceInFront
  spaced-alone false ps b h = h b

  spaced-reads : (x : Bool) (bound : ℕ) (ps rest : List Piece) (t : Term) (b : InFront)
      → ((c : InFront) → OperandReads s bound (joined_pieces c ps) rest t) → OperandReads s bound (joined_pieces b (spaced x ps)) rest t
  spaced-reads true bound ps rest t b h = h SpaceInFront
  spaced-reads false bound ps rest t b h = h b

  prefix-opens : (n : List ℕ) (o : Operator) (sign : Bool) (ts : List Token) → prefix_of s.ops n ≡ Some o → has_direct_open ts ≡ false → (sign && has_direct_integer ts) ≡ false → prefix_is_atom s.ops ts ≡ false
      → name_primary s.ops sign n ts ≡ Prefix n o ts
  prefix-opens n o sign ts e f g h = rw (f, g, e, h) refl

  prefix-start : (n : List ℕ) (ps : List Piece) (b : InFront) → starts_term (joined_pieces b (prefix_pieces n ps)) ≡ true
  prefix-start n ps b =
      name-word-starts n (are_separate b (name_token n)) (joined_pieces (after_token (name_token n)) (spaced (not (is_symbol_name n) || (begins_with is_open ps || (same_name n (codes "-") && begins_with is_integer_term ps))) ps))

  prefix-facts : (n : List ℕ) (o : Operator) (t : Term) → prefix_of s.ops n ≡ Some o → Facts s t → FactsAt (PrefixForm o) n (more t end)
  prefix-facts n o t e f =
      let range = ranged PrefixClass s.ops n o table e in
      let w0 = name_token n in
      record {
        limit = range.1;
        front = λ rest w b.
            let ps = enclosed (is_enclosed (notated s.ops) (right_bound o) t) (pieces (notated s.ops) t) rest in
            let x = not (is_symbol_name n) || (begins_with is_open ps || (same_name n (codes "-") && begins_with is_integer_term ps)) in
            let ts = joined_pieces (after_token w0) (spaced x ps) in
            let opens_not = opens-by (after_token w0) x ps (or-mid (not (is_symbol_name n)) (begins_with is_open ps) (same_name n (codes "-") && begins_with is_integer_term ps)) in
            let sign_not = and-when (is_minus w0) (has_direct_integer ts) (λ h. counts-by (after_token w0) x ps (λ k. or-end (not (is_symbol_name n)) (begins_with is_open ps) (same_name n (codes "-") && begins_with is_integer_term ps) (and-both _ _ (sign_name s n h) k))) in
            let alone_not = spaced-alone x ps (after_token w0) (λ c. shut-starts s t (is_enclosed (notated s.ops) (right_bound o) t) f (shut-plain s (right_bound o) t) rest c) in
            let r = spaced-reads x (right_bound o) ps rest t (after_token w0) (λ c. right-reads s (right_bound o) t (is_enclosed (notated s.ops) (right_bound o) t) f (shut-says s (right_bound o) t) rest w c) in
            record { before = r.before; is = form (rw (begins_name s n ts ∙ prefix-opens n o (is_minus w0) ts e opens_not sign_not alone_not) (prefixed r.is)) };
        starts = λ rest b. before_name s n _ ∙ rw e (and-false _);
        opening = λ rest b. prefix-start n (enclosed (is_enclosed (notated s.ops) (right_bound o) t) (pieces (notated s.ops) t) rest) b;
      }

  curly-facts : (n : List ℕ) (t : Term) → n ≡ braces_name → Facts s t → FactsAt BracedForm n (more t end)
  curly-facts n t e f = record {
    limit = omega arith;
    front = λ rest w b.
        let r = f.front (Put CloseCurly ∷ rest) closes_curly (λ k c. refl) (after_token OpenCurly) in
        let Q : List ℕ → Type 0 = λ k. Spelled s (joined_pieces b (Put OpenCurly ∷ pieces (notated s.ops) t (Put CloseCurly ∷ rest))) (joined_pieces (after_token CloseCurly) rest) (one k (tree_of t)) 0 in
        let sp = form (rw (curly-begins _ (f.opening (Put CloseCurly ∷ rest) (after_token OpenCurly))) (curly (operand r.is f.limit refl))) in
        record { before = after_token CloseCurly; is = subst Q (sym e) sp };
    starts = λ rest b. refl;
    opening = λ rest b. refl;
  }

  list-facts : (n : List ℕ) (t u : Term) → n ≡ codes "." → Facts s t → Tails s u → FactsAt ListForm n (more t (more u end))
  list-facts n t u e f g = record {
    limit = omega arith;
    front = λ rest w b.
        let r = item-reads s t (is_above (notated s.ops) 999 t) f refl (tail_pieces (notated s.ops) u (Put CloseList ∷ rest)) (g.tail_follows rest) (g.tail_alone rest) (after_token OpenList) in
        let i = g.tail_reads _ (tree_of t) rest r.before r.is in
        let Q : List ℕ → Type 0 = λ k. Spelled s (joined_pieces b (Put OpenList ∷ enclosed (is_above (notated s.ops) 999 t) (pieces (notated s.ops) t) (tail_pieces (notated s.ops) u (Put CloseList ∷ rest)))) (joined_pieces i.before rest) (two k (tree_of t) (tree_of u)) 0 in
        let sp = form (rw (list-begins _ (shut-opening s t (is_above (notated s.ops) 999 t) f (tail_pieces (notated s.ops) u (Put CloseList ∷ rest)) (after_token OpenList))) (listed i.is)) in
        record { before = i.before; is = subst Q (sym e) sp };
    starts = λ rest b. refl;
    opening = λ rest b. refl;
  }

  abbrev pub AllFacts : Terms → Type 0
  AllFacts end = Unit {0}
  AllFacts (more t ts) = Facts s t × AllFacts ts

  later-follows : (ts : Terms) (rest : List Piece) → Follows s.ops 999 (further_pieces (notated s.ops) ts rest)
  later-follows end rest = closes_round
  later-follows (more t ts) rest = commas 999 (omega arith)

  later-alone : (ts : Terms) (rest : List Piece) → Alone s (further_pieces (notated s.ops) ts rest)
  later-alone end rest b = refl
  later-alone (more t ts) rest b = refl

  later-reads : (ts : Terms) → AllFacts ts → (us : List Token) (t : Tree) (rest : List Piece) (b : InFront)
      → Operand s 999 us (joined_pieces b (further_pieces (notated s.ops) ts rest)) t → ArgumentsRead s us rest (more_trees t (trees_of ts))
  later-reads end f us t rest b op = record { before = after_token Close; is = final op }
  later-reads (more u ts) f us t rest b op =
      let r = item-reads s u (is_above (notated s.ops) 999 u) f.0 refl (further_pieces (notated s.ops) ts rest) (later-follows ts rest) (later-alone ts rest) (after_token Comma) in
      let i = later-reads ts f.1 _ (tree_of u) rest r.before r.is in
      record { before = i.before; is = argument op i.is }

  call-opens : (n : List ℕ) (sign a : Bool) (ts : List Token) → a ≡ false → name_primary s.ops sign n (token a Open ∷ ts) ≡ Call n ts
  call-opens n sign a ts e = rw e refl

  call-starts : (n : List ℕ) (a : Bool) (ts : List Token) → a ≡ false → ends_operand_before s.ops (name_token n) (token a Open ∷ ts) ≡ false
  call-starts n a ts e = before_name s n (token a Open ∷ ts) ∙ rw e (and-2 _ _)

  call-facts : (n : List ℕ) (t : Term) (ts : Terms) → count (more t ts) ≤ 65535 → Facts s t → AllFacts ts → FactsAt FunctionalForm n (more t ts)
  call-facts n t ts h f g = record {
    limit = omega arith;
    front = λ rest w b.
        let ps = enclosed (is_above (notated s.ops) 999 t) (pieces (notated s.ops) t) (further_pieces (notated s.ops) ts rest) in
        let a = name-at s table n (Put Open ∷ ps) b in
        let r = item-reads s t (is_above (notated s.ops) 999 t) f refl (further_pieces (notated s.ops) ts rest) (later-follows ts rest) (later-alone ts rest) (after_token Open) in
        let i = later-reads ts g _ (tree_of t) rest r.before r.is in
        record { before = i.before; is = form (rw (a.is ∙ call-opens n a.sign (are_separate a.before Open) (joined_pieces (after_token Open) ps) a.tight) (called i.is (omega (arith, h, count_trees ts)))) };
    starts = λ rest b. name-starts n _ b (λ c. call-starts n _ _ (meets-other _));
    opening = λ rest b. name-opening n _ b;
  }

  two-facts : (n : List ℕ) (l r : Term) → Facts s l → Facts s r → Tails s r → FactsAt (form_of (notated s.ops) n (more l (more r end))) n (more l (more r end))
  two-facts n l r f g h = go (same_name n (codes ".")) refl (infix_of s.ops n) refl
    where
      go : (x : Bool) → same_name n (codes ".") ≡ x → (q : Option Operator) → infix_of s.ops n ≡ q → FactsAt (if x then ListForm else infix_form q) n (more l (more r end))
      go true e q k = list-facts n l r (same_text n (codes ".") (sym e)) f h
      go false e (Some o) k = infix-facts n o l r k f g
      go false e None k = call-facts n l (more r end) (omega arith) f (g, tt)

  one-facts : (n : List ℕ) (t : Term) → Facts s t → FactsAt (form_of (notated s.ops) n (more t end)) n (more t end)
  one-facts n t f = go (same_name n braces_name) refl (prefix_of s.ops n) refl (postfix_of s.ops n) refl
    where
      go : (x : Bool) → same_name n braces_name ≡ x → (p : Option Operator) → prefix_of s.ops n ≡ p → (q : Option Operator) → postfix_of s.ops n ≡ q
          → FactsAt (if x then BracedForm else prefix_form p q) n (more t end)
      go true e p k q m = curly-facts n t (same_text n braces_name (sym e)) f
      go false e (Some o) k q m = prefix-facts n o t k f
      go false e None k (Some o) m = postfix-facts n o t m f
      go false e None k None m = call-facts n t end (omega arith) f tt

  pub compound-facts : (n : List ℕ) (ts : Terms) → FactsAt (form_of (notated s.ops) n ts) n ts → Facts s (Compound n ts)
  compound-facts n ts f = record {
    limit = f.limit;
    front = λ rest w alone b. f.front rest w b;
    starts = λ e rest b. f.starts rest b;
    opening = λ rest b. f.opening rest b;
  }

  cell-tails : (n : List ℕ) (t u : Term) → same_name n (codes ".") ≡ true → Facts s t → Tails s u → Tails s (Compound n (more t (more u end)))
  cell-tails n t u e f g = record {
    tail_follows = λ rest. rw e (commas 999 (omega arith));
    tail_alone = λ rest b. rw e refl;
    tail_reads = λ ts head rest b op.
        let ps = enclosed (is_above (notated s.ops) 999 t) (pieces (notated s.ops) t) (tail_pieces (notated s.ops) u (Put CloseList ∷ rest)) in
        let as_cell : tail_pieces (notated s.ops) (Compound n (more t (more u end))) (Put CloseList ∷ rest) ≡ Put Comma ∷ ps = rw e refl in
        let P : List Piece → Type 0 = λ ps. Operand s 999 ts (joined_pieces b ps) head in
        let o = subst P as_cell op in
        let r = item-reads s t (is_above (notated s.ops) 999 t) f refl (tail_pieces (notated s.ops) u (Put CloseList ∷ rest)) (g.tail_follows rest) (g.tail_alone rest) (after_token Comma) in
        let i = g.tail_reads _ (tree_of t) rest r.before r.is in
        let Q : List ℕ → Type 0 = λ k. Items s ts (joined_pieces i.before rest) (cell head (two k (tree_of t) (tree_of u))) in
        record { before = i.before; is = subst Q (sym (same_text n (codes ".") (sym e))) (item o i.is) };
  }

  pub compound-tails : (n : List ℕ) (ts : Terms) (x : Bool) → is_cell n ts ≡ x → x ≡ false → Facts s (Compound n ts) → Tails s (Compound n ts)
  compound-tails n ts x e k f = bar-tails (Compound n ts) (is_above (notated s.ops) 999 (Compound n ts)) f refl (λ rest. rw (e ∙ k) refl)

  pub record Known (t : Term) : Type 0 where
    pub facts : Facts s t
    pub tails : Tails s t

  abbrev pub AllKnown : Terms → Type 0
  AllKnown end = Unit {0}
  AllKnown (more t ts) = Known t × AllKnown ts

  all-facts : (ts : Terms) → AllKnown ts → AllFacts ts
  all-facts end k = tt
  all-facts (more t ts) k = (k.0.facts, all-facts ts k.1)

  facts-at : (n : List ℕ) (ts : Terms) → 0 < count ts → count ts ≤ 65535 → AllKnown ts → FactsAt (form_of (notated s.ops) n ts) n ts
  facts-at n end h m k = absurd (let f : ⊥ = omega (arith, h) in f)
  facts-at n (more t end) h m k = one-facts n t (k.0).facts
  facts-at n (more l (more r end)) h m k = two-facts n l r (k.0).facts ((k.1).0).facts ((k.1).0).tails
  facts-at n (more l (more r (more t ts))) h m k = call-facts n l (more r (more t ts)) m (k.0).facts (all-facts (more r (more t ts)) k.1)

  tails-at : (n : List ℕ) (ts : Terms) → AllKnown ts → Facts s (Compound n ts) → Tails s (Compound n ts)
  tails-at n end k f = compound-tails n end false refl refl f
  tails-at n (more t end) k f = compound-tails n (more t end) false refl refl f
  tails-at n (more l (more r (more t ts))) k f = compound-tails n (more l (more r (more t ts))) false refl refl f
  tails-at n (more l (more r end)) k f = go (same_name n (codes ".")) refl
    where
      go : (x : Bool) → same_name n (codes ".") ≡ x → Tails s (Compound n (more l (more r end)))
      go true e = cell-tails n l r e (k.0).facts ((k.1).0).tails
      go false e = compound-tails n (more l (more r end)) false e refl f

  pub compound-known : (n : List ℕ) (ts : Terms) → 0 < count ts → count ts ≤ 65535 → AllKnown ts → Known (Compound n ts)
  compound-known n ts h m k =
      let f = compound-facts n ts (facts-at n ts h m k) in record { facts = f; tails = tails-at n ts k f }
