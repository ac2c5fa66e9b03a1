-- What each step of a reader keeps, both ways.
use Rattle.std.proofs.Common.{◌≡◌, ℕ, ◌+◌, ◌≤◌, ◌<◌, Bool, List, [], ◌∷◌, length, refl, subst, arith}
use Rattle.au_model.specs.Syntax.Tokens.{Token, token, Close, CloseList, CloseCurly, Comma, Bar, End}
use Rattle.au_model.specs.Syntax.Trees.{Tree, Trees, no_trees, more_trees, tree_count, AtomTree, CompoundTree, one, two, cell}
use Rattle.au_model.specs.Terms.Forms.{nil_name, braces_name}
use Rattle.au_model.specs.Syntax.Operators.{Operator}
use Rattle.au_model.specs.Syntax.PostOperators.{right_bound}
use Rattle.au_model.specs.Syntax.Primaries.{Setting, Primary, Leaf, Bracket, Curly, Listed, Call, Prefix, Fails, primary_of}
use Rattle.au_model.specs.Syntax.Spelling.{Operand}
use Rattle.term_reader.specs.LeftToRight.{NextOperator, Stop, OnInfix, OnPostfix, next_operator, ReadsOperand, whole, ReadsRest, stop, on_infix, on_postfix, ReadsPrimary, leaf, bracket, curly, listed, called, prefixed, ReadsItems, last, barred, item, ReadsArguments, final, argument}
use Rattle.term_reader.proofs.SpellingIsReadingLemmas.{whole_of}
use Rattle.term_reader.proofs.ReadingIsSpellingLemmas.{operand_of}
use Rattle.term_reader.specs.Completion.{OpenFrame, Round, Braces, ItemOf, TailOf, ArgumentOf, PrefixOf, InfixOf, bound_of, list_tree, trees_of, CompletesOperand, by_operand, CompletesAfter, by_rest, CompletesFrame, over, round, braced, prefix, infixes}
use Rattle.term_reader.specs.Completion as k

module _ (s : Setting) where
  -- ---- the start and the end

  pub starts : {ts : List Token} {a : Bool} {goal : Tree} → Operand s 1200 ts (token a End ∷ []) goal → CompletesOperand s [] ts goal
  starts op = by_operand (whole_of op) over

  pub record Ends (ts : List Token) (goal : Tree) : Type 0 where
    pub apart : Bool
    pub is : Operand s 1200 ts (token apart End ∷ []) goal

  end_of : {ts us : List Token} {t goal : Tree} → ReadsOperand s 1200 ts us t → CompletesFrame s [] us t goal → Ends ts goal
  end_of w (over {a = a}) = record { apart = a; is = operand_of w }

  pub reaches : (ts : List Token) (goal : Tree) → CompletesOperand s [] ts goal → Ends ts goal
  reaches ts goal (by_operand w q) = end_of w q

  -- ---- the start of an operand

  leaf_in : {k : List OpenFrame} {us vs ws : List Token} {l m t goal : Tree} {p : ℕ}
      → ReadsPrimary s (Leaf m us) vs l p → p ≤ bound_of k → ReadsRest s (next_operator s.ops (bound_of k) p vs) (bound_of k) vs l ws t → CompletesFrame s k ws t goal → CompletesAfter s k us m 0 goal
  leaf_in leaf le r q = by_rest le r q

  pub takes_leaf : {k : List OpenFrame} (ts us : List Token) (m : Tree) {goal : Tree} → primary_of s ts ≡ Leaf m us → CompletesOperand s k ts goal → CompletesAfter s k us m 0 goal
  takes_leaf ts us m e (by_operand (whole {us = ws} {l = l} {p = p} f le r) q) =
      let P : Primary → Type 0 = λ o. ReadsPrimary s o ws l p in leaf_in (subst P e f) le r q

  pub took_leaf : {k : List OpenFrame} (ts us : List Token) (m : Tree) {goal : Tree} → primary_of s ts ≡ Leaf m us → CompletesAfter s k us m 0 goal → CompletesOperand s k ts goal
  took_leaf ts us m e (by_rest le r q) = by_operand (whole (rw e leaf) le r) q

  open_in : {k : List OpenFrame} {ts us vs : List Token} {l t goal : Tree} {p : ℕ}
      → ReadsPrimary s (Bracket us) vs l p → p ≤ bound_of k → ReadsRest s (next_operator s.ops (bound_of k) p vs) (bound_of k) vs l ts t → CompletesFrame s k ts t goal → CompletesOperand s (Round ∷ k) us goal
  open_in (bracket w) le r q = by_operand w (round (by_rest le r q))

  pub opens_round : {k : List OpenFrame} (ts us : List Token) {goal : Tree} → primary_of s ts ≡ Bracket us → CompletesOperand s k ts goal → CompletesOperand s (Round ∷ k) us goal
  opens_round {k = k} ts us e (by_operand {us = vs} (whole {us = ws} {l = l} {p = p} f le r) q) =
      let P : Primary → Type 0 = λ o. ReadsPrimary s o ws l p in open_in (subst P e f) le r q

  close_in : {k : List OpenFrame} {vs us : List Token} {t goal : Tree} (ts : List Token) → primary_of s ts ≡ Bracket us → ReadsOperand s 1200 us vs t → CompletesFrame s (Round ∷ k) vs t goal → CompletesOperand s k ts goal
  close_in ts e w (round (by_rest le r q)) = by_operand (whole (rw e (bracket w)) le r) q

  pub opened_round : {k : List OpenFrame} (ts us : List Token) {goal : Tree} → primary_of s ts ≡ Bracket us → CompletesOperand s (Round ∷ k) us goal → CompletesOperand s k ts goal
  opened_round ts us e (by_operand w q) = close_in ts e w q

  curly_in : {k : List OpenFrame} {us vs ws : List Token} {l t goal : Tree} {p : ℕ}
      → ReadsPrimary s (Curly us) vs l p → p ≤ bound_of k → ReadsRest s (next_operator s.ops (bound_of k) p vs) (bound_of k) vs l ws t → CompletesFrame s k ws t goal → CompletesOperand s (Braces ∷ k) us goal
  curly_in (curly w) le r q = by_operand w (braced (by_rest le r q))

  pub opens_curly : {k : List OpenFrame} (ts us : List Token) {goal : Tree} → primary_of s ts ≡ Curly us → CompletesOperand s k ts goal → CompletesOperand s (Braces ∷ k) us goal
  opens_curly ts us e (by_operand (whole {us = ws} {l = l} {p = p} f le r) q) =
      let P : Primary → Type 0 = λ o. ReadsPrimary s o ws l p in curly_in (subst P e f) le r q

  curly_out : {k : List OpenFrame} {vs us : List Token} {t goal : Tree} (ts : List Token) → primary_of s ts ≡ Curly us → ReadsOperand s 1200 us vs t → CompletesFrame s (Braces ∷ k) vs t goal → CompletesOperand s k ts goal
  curly_out ts e w (braced (by_rest le r q)) = by_operand (whole (rw e (curly w)) le r) q

  pub opened_curly : {k : List OpenFrame} (ts us : List Token) {goal : Tree} → primary_of s ts ≡ Curly us → CompletesOperand s (Braces ∷ k) us goal → CompletesOperand s k ts goal
  opened_curly ts us e (by_operand w q) = curly_out ts e w q

  -- the items from here on, after those that were read
  items_in : {k : List OpenFrame} {us vs : List Token} {t goal : Tree} (before : List Tree) → ReadsItems s us vs t → CompletesAfter s k vs (list_tree before t) 0 goal → CompletesOperand s (ItemOf before ∷ k) us goal
  items_in before (last w) g = by_operand w (k.last g)
  items_in before (barred w v) g = by_operand w (k.bar (by_operand v (k.tail g)))
  items_in before (item {t = t} w i) g = by_operand w (k.item (items_in (t ∷ before) i g))

  list_in : {k : List OpenFrame} {us vs ws : List Token} {l t goal : Tree} {p : ℕ}
      → ReadsPrimary s (Listed us) vs l p → p ≤ bound_of k → ReadsRest s (next_operator s.ops (bound_of k) p vs) (bound_of k) vs l ws t → CompletesFrame s k ws t goal → CompletesOperand s (ItemOf [] ∷ k) us goal
  list_in (listed i) le r q = items_in [] i (by_rest le r q)

  pub opens_list : {k : List OpenFrame} (ts us : List Token) {goal : Tree} → primary_of s ts ≡ Listed us → CompletesOperand s k ts goal → CompletesOperand s (ItemOf [] ∷ k) us goal
  opens_list ts us e (by_operand (whole {us = ws} {l = l} {p = p} f le r) q) =
      let P : Primary → Type 0 = λ o. ReadsPrimary s o ws l p in list_in (subst P e f) le r q

  record ItemsFrom (k : List OpenFrame) (us : List Token) (before : List Tree) (goal : Tree) : Type 0 where
    pub rest : List Token
    pub list : Tree
    pub items : ReadsItems s us rest list
    pub on : CompletesAfter s k rest (list_tree before list) 0 goal

  mutual
    items_out : {k : List OpenFrame} {us : List Token} {goal : Tree} (before : List Tree) → CompletesOperand s (ItemOf before ∷ k) us goal → ItemsFrom k us before goal
    items_out before (by_operand w q) = items_plugged before w q

    items_plugged : {k : List OpenFrame} {us vs : List Token} {t goal : Tree} (before : List Tree) → ReadsOperand s 999 us vs t → CompletesFrame s (ItemOf before ∷ k) vs t goal → ItemsFrom k us before goal
    items_plugged before w (k.last {us = vs} {t = t} g) = record { rest = vs; list = cell t (AtomTree nil_name); items = last w; on = g }
    items_plugged before w (k.bar {t = t} m) = tail_out before t w m
    items_plugged before w (k.item {t = t} m) =
        let r = items_out (t ∷ before) m in record { rest = r.rest; list = cell t r.list; items = item w r.items; on = r.on }

    tail_out : {k : List OpenFrame} {us vs : List Token} {a : Bool} {goal : Tree} (before : List Tree) (t : Tree) → ReadsOperand s 999 us (token a Bar ∷ vs) t → CompletesOperand s (TailOf (t ∷ before) ∷ k) vs goal → ItemsFrom k us before goal
    tail_out before t w (by_operand v q) = tail_plugged before t w v q

    tail_plugged : {k : List OpenFrame} {us vs ws : List Token} {a : Bool} {u goal : Tree} (before : List Tree) (t : Tree) → ReadsOperand s 999 us (token a Bar ∷ vs) t → ReadsOperand s 999 vs ws u → CompletesFrame s (TailOf (t ∷ before) ∷ k) ws u goal → ItemsFrom k us before goal
    tail_plugged {u = u} before t w v (k.tail {us = ws} g) = record { rest = ws; list = cell t u; items = barred w v; on = g }

  list_out : {k : List OpenFrame} {us : List Token} {goal : Tree} (ts : List Token) → primary_of s ts ≡ Listed us → (vs : List Token) (t : Tree) → ReadsItems s us vs t → CompletesAfter s k vs t 0 goal → CompletesOperand s k ts goal
  list_out ts e vs t i (by_rest le r q) = by_operand (whole (rw e (listed i)) le r) q

  pub opened_list : {k : List OpenFrame} (ts us : List Token) {goal : Tree} → primary_of s ts ≡ Listed us → CompletesOperand s (ItemOf [] ∷ k) us goal → CompletesOperand s k ts goal
  opened_list ts us e w = let i = items_out [] w in list_out ts e i.rest i.list i.items i.on

  -- the arguments from here on, after those that were read
  some_arguments : {us vs : List Token} {args : Trees} → ReadsArguments s us vs args → 1 ≤ tree_count args
  some_arguments (final w) = omega arith
  some_arguments (argument w i) = omega arith

  pub arguments_in : {k : List OpenFrame} {us vs : List Token} {n : List ℕ} {w : ℕ} {args : Trees} {goal : Tree} (before : List Tree)
      → ReadsArguments s us vs args → length before + tree_count args ≤ 65535 → CompletesAfter s k vs (CompoundTree n (trees_of before args)) 0 goal → CompletesOperand s (ArgumentOf n w before ∷ k) us goal
  arguments_in before (final w) le g = by_operand w (k.final g)
  arguments_in before (argument {t = t} w i) le g =
      let some = some_arguments i in by_operand w (k.argument (omega arith) (arguments_in (t ∷ before) i (omega arith) g))

  call_in : {k : List OpenFrame} {us vs ws : List Token} {n : List ℕ} {w : ℕ} {l t goal : Tree} {p : ℕ}
      → ReadsPrimary s (Call n us) vs l p → p ≤ bound_of k → ReadsRest s (next_operator s.ops (bound_of k) p vs) (bound_of k) vs l ws t → CompletesFrame s k ws t goal → CompletesOperand s (ArgumentOf n w [] ∷ k) us goal
  call_in (called i few) le r q = arguments_in [] i (omega arith) (by_rest le r q)

  pub opens_call : {k : List OpenFrame} (ts us : List Token) (n : List ℕ) (w : ℕ) {goal : Tree} → primary_of s ts ≡ Call n us → CompletesOperand s k ts goal → CompletesOperand s (ArgumentOf n w [] ∷ k) us goal
  opens_call ts us n w e (by_operand (whole {us = ws} {l = l} {p = p} f le r) q) =
      let P : Primary → Type 0 = λ o. ReadsPrimary s o ws l p in call_in (subst P e f) le r q

  pub record ArgumentsFrom (k : List OpenFrame) (us : List Token) (n : List ℕ) (before : List Tree) (goal : Tree) : Type 0 where
    pub rest : List Token
    pub args : Trees
    pub are : ReadsArguments s us rest args
    pub few : length before + tree_count args ≤ 65535
    pub on : CompletesAfter s k rest (CompoundTree n (trees_of before args)) 0 goal

  mutual
    pub arguments_out : {k : List OpenFrame} {us : List Token} {n : List ℕ} {w : ℕ} {goal : Tree} (before : List Tree) → length before ≤ 65534 → CompletesOperand s (ArgumentOf n w before ∷ k) us goal → ArgumentsFrom k us n before goal
    arguments_out before le (by_operand w q) = arguments_plugged before le w q

    arguments_plugged : {k : List OpenFrame} {us vs : List Token} {n : List ℕ} {w : ℕ} {t goal : Tree} (before : List Tree) → length before ≤ 65534
        → ReadsOperand s 999 us vs t → CompletesFrame s (ArgumentOf n w before ∷ k) vs t goal → ArgumentsFrom k us n before goal
    arguments_plugged before le w (k.final {us = vs} {t = t} g) = record { rest = vs; args = more_trees t no_trees; are = final w; few = omega arith; on = g }
    arguments_plugged before le w (k.argument {t = t} lt m) =
        let r = arguments_out (t ∷ before) (omega arith) m in
        let few = r.few in
        record { rest = r.rest; args = more_trees t r.args; are = argument w r.are; few = omega arith; on = r.on }

  call_out : {k : List OpenFrame} {us : List Token} {n : List ℕ} {goal : Tree} (ts : List Token) → primary_of s ts ≡ Call n us → (vs : List Token) (args : Trees)
      → ReadsArguments s us vs args → tree_count args ≤ 65535 → CompletesAfter s k vs (CompoundTree n args) 0 goal → CompletesOperand s k ts goal
  call_out ts e vs args i few (by_rest le r q) = by_operand (whole (rw e (called i few)) le r) q

  pub opened_call : {k : List OpenFrame} (ts us : List Token) (n : List ℕ) (w : ℕ) {goal : Tree} → primary_of s ts ≡ Call n us → CompletesOperand s (ArgumentOf n w [] ∷ k) us goal → CompletesOperand s k ts goal
  opened_call ts us n w e h =
      let r = arguments_out [] (omega arith) h in
      let few = r.few in
      call_out ts e r.rest r.args r.are (omega arith) r.on

  prefix_in : {k : List OpenFrame} {us vs ts : List Token} {n : List ℕ} {o : Operator} {l t goal : Tree} {p : ℕ}
      → ReadsPrimary s (Prefix n o us) vs l p → p ≤ bound_of k → ReadsRest s (next_operator s.ops (bound_of k) p vs) (bound_of k) vs l ts t → CompletesFrame s k ts t goal → CompletesOperand s (PrefixOf n o ∷ k) us goal
  prefix_in (prefixed w) le r q = by_operand w (prefix (by_rest le r q))

  pub opens_prefix : {k : List OpenFrame} (ts us : List Token) (n : List ℕ) (o : Operator) {goal : Tree} → primary_of s ts ≡ Prefix n o us → CompletesOperand s k ts goal → CompletesOperand s (PrefixOf n o ∷ k) us goal
  opens_prefix ts us n o e (by_operand (whole {us = ws} {l = l} {p = p} f le r) q) =
      let P : Primary → Type 0 = λ x. ReadsPrimary s x ws l p in prefix_in (subst P e f) le r q

  prefix_out : {k : List OpenFrame} {vs us : List Token} {t goal : Tree} {n : List ℕ} {o : Operator} (ts : List Token) → primary_of s ts ≡ Prefix n o us → ReadsOperand s (right_bound o) us vs t → CompletesFrame s (PrefixOf n o ∷ k) vs t goal → CompletesOperand s k ts goal
  prefix_out ts e w (prefix (by_rest le r q)) = by_operand (whole (rw e (prefixed w)) le r) q

  pub opened_prefix : {k : List OpenFrame} (ts us : List Token) (n : List ℕ) (o : Operator) {goal : Tree} → primary_of s ts ≡ Prefix n o us → CompletesOperand s (PrefixOf n o ∷ k) us goal → CompletesOperand s k ts goal
  opened_prefix ts us n o e (by_operand w q) = prefix_out ts e w q

  -- a prefix operator is within the bound
  prefix_low : {us vs : List Token} {n : List ℕ} {o : Operator} {l : Tree} {p bound : ℕ} → ReadsPrimary s (Prefix n o us) vs l p → p ≤ bound → o.priority ≤ bound
  prefix_low (prefixed w) le = le

  pub prefix_within : {k : List OpenFrame} (ts us : List Token) (n : List ℕ) (o : Operator) {goal : Tree} → primary_of s ts ≡ Prefix n o us → CompletesOperand s k ts goal → o.priority ≤ bound_of k
  prefix_within ts us n o e (by_operand (whole {us = ws} {l = l} {p = p} f le r) q) =
      let P : Primary → Type 0 = λ x. ReadsPrimary s x ws l p in prefix_low (subst P e f) le

  nothing_fails : {us : List Token} {l : Tree} {p : ℕ} → ReadsPrimary s Fails us l p → ⊥
  nothing_fails h = elim h [ ]

  pub fails : {k : List OpenFrame} (ts : List Token) {goal : Tree} → primary_of s ts ≡ Fails → CompletesOperand s k ts goal → ⊥
  fails ts e (by_operand (whole {us = ws} {l = l} {p = p} f le r) q) =
      let P : Primary → Type 0 = λ x. ReadsPrimary s x ws l p in nothing_fails (subst P e f)

  -- ---- after an operand

  infix_in : {k : List OpenFrame} {us zs ws : List Token} {n : List ℕ} {o : Operator} {l t goal : Tree}
      → ReadsRest s (OnInfix n o us) (bound_of k) zs l ws t → CompletesFrame s k ws t goal → o.priority ≤ bound_of k → CompletesOperand s (InfixOf n o l ∷ k) us goal
  infix_in (on_infix w r) q le = by_operand w (infixes (by_rest le r q))

  pub goes_infix : {k : List OpenFrame} (us vs : List Token) (n : List ℕ) (o : Operator) (l : Tree) (p : ℕ) {goal : Tree}
      → next_operator s.ops (bound_of k) p us ≡ OnInfix n o vs → o.priority ≤ bound_of k → CompletesAfter s k us l p goal → CompletesOperand s (InfixOf n o l ∷ k) vs goal
  goes_infix {k = k} us vs n o l p e h (by_rest {vs = ws} {t = t} le r q) =
      let P : NextOperator → Type 0 = λ x. ReadsRest s x (bound_of k) us l ws t in infix_in (subst P e r) q h

  infix_out : {k : List OpenFrame} {vs ws us : List Token} {n : List ℕ} {o : Operator} {l t goal : Tree} {p : ℕ}
      → next_operator s.ops (bound_of k) p us ≡ OnInfix n o vs → p ≤ bound_of k → ReadsOperand s (right_bound o) vs ws t → CompletesFrame s (InfixOf n o l ∷ k) ws t goal → CompletesAfter s k us l p goal
  infix_out e le w (infixes (by_rest h r q)) = by_rest le (rw e (on_infix w r)) q

  pub went_infix : {k : List OpenFrame} (us vs : List Token) (n : List ℕ) (o : Operator) (l : Tree) (p : ℕ) {goal : Tree}
      → next_operator s.ops (bound_of k) p us ≡ OnInfix n o vs → p ≤ bound_of k → CompletesOperand s (InfixOf n o l ∷ k) vs goal → CompletesAfter s k us l p goal
  went_infix us vs n o l p e le (by_operand w q) = infix_out e le w q

  postfix_in : {k : List OpenFrame} {us zs ws : List Token} {n : List ℕ} {o : Operator} {l t goal : Tree}
      → ReadsRest s (OnPostfix n o us) (bound_of k) zs l ws t → CompletesFrame s k ws t goal → o.priority ≤ bound_of k → CompletesAfter s k us (one n l) o.priority goal
  postfix_in (on_postfix r) q le = by_rest le r q

  pub goes_postfix : {k : List OpenFrame} (us vs : List Token) (n : List ℕ) (o : Operator) (l : Tree) (p : ℕ) {goal : Tree}
      → next_operator s.ops (bound_of k) p us ≡ OnPostfix n o vs → o.priority ≤ bound_of k → CompletesAfter s k us l p goal → CompletesAfter s k vs (one n l) o.priority goal
  goes_postfix {k = k} us vs n o l p e h (by_rest {vs = ws} {t = t} le r q) =
      let P : NextOperator → Type 0 = λ x. ReadsRest s x (bound_of k) us l ws t in postfix_in (subst P e r) q h

  pub went_postfix : {k : List OpenFrame} (us vs : List Token) (n : List ℕ) (o : Operator) (l : Tree) (p : ℕ) {goal : Tree}
      → next_operator s.ops (bound_of k) p us ≡ OnPostfix n o vs → p ≤ bound_of k → CompletesAfter s k vs (one n l) o.priority goal → CompletesAfter s k us l p goal
  went_postfix us vs n o l p e le (by_rest h r q) = by_rest le (rw e (on_postfix r)) q

  stop_in : {k : List OpenFrame} {us vs : List Token} {l t goal : Tree} → ReadsRest s Stop (bound_of k) us l vs t → CompletesFrame s k vs t goal → CompletesFrame s k us l goal
  stop_in stop q = q

  pub goes_stop : {k : List OpenFrame} (us : List Token) (l : Tree) (p : ℕ) {goal : Tree} → next_operator s.ops (bound_of k) p us ≡ Stop → CompletesAfter s k us l p goal → CompletesFrame s k us l goal
  goes_stop {k = k} us l p e (by_rest {vs = ws} {t = t} le r q) =
      let P : NextOperator → Type 0 = λ x. ReadsRest s x (bound_of k) us l ws t in stop_in (subst P e r) q

  pub went_stop : {k : List OpenFrame} (us : List Token) (l : Tree) (p : ℕ) {goal : Tree} → next_operator s.ops (bound_of k) p us ≡ Stop → p ≤ bound_of k → CompletesFrame s k us l goal → CompletesAfter s k us l p goal
  went_stop us l p e le q = by_rest le (rw e stop) q

  -- ---- a whole operand, by what is open

  pub out_prefix : {k : List OpenFrame} {us : List Token} {n : List ℕ} {o : Operator} {t goal : Tree} → CompletesFrame s (PrefixOf n o ∷ k) us t goal → CompletesAfter s k us (one n t) o.priority goal
  out_prefix (prefix g) = g

  pub out_infix : {k : List OpenFrame} {us : List Token} {n : List ℕ} {o : Operator} {l t goal : Tree} → CompletesFrame s (InfixOf n o l ∷ k) us t goal → CompletesAfter s k us (two n l t) o.priority goal
  out_infix (infixes g) = g

  pub out_round : {k : List OpenFrame} {a : Bool} {us : List Token} {t goal : Tree} → CompletesFrame s (Round ∷ k) (token a Close ∷ us) t goal → CompletesAfter s k us t 0 goal
  out_round (round g) = g

  pub out_braces : {k : List OpenFrame} {a : Bool} {us : List Token} {t goal : Tree} → CompletesFrame s (Braces ∷ k) (token a CloseCurly ∷ us) t goal → CompletesAfter s k us (one braces_name t) 0 goal
  out_braces (braced g) = g

  pub out_item : {k : List OpenFrame} {a : Bool} {us : List Token} {t goal : Tree} {ts : List Tree} → CompletesFrame s (ItemOf ts ∷ k) (token a Comma ∷ us) t goal → CompletesOperand s (ItemOf (t ∷ ts) ∷ k) us goal
  out_item (k.item w) = w

  pub out_bar : {k : List OpenFrame} {a : Bool} {us : List Token} {t goal : Tree} {ts : List Tree} → CompletesFrame s (ItemOf ts ∷ k) (token a Bar ∷ us) t goal → CompletesOperand s (TailOf (t ∷ ts) ∷ k) us goal
  out_bar (k.bar w) = w

  pub out_last : {k : List OpenFrame} {a : Bool} {us : List Token} {t goal : Tree} {ts : List Tree} → CompletesFrame s (ItemOf ts ∷ k) (token a CloseList ∷ us) t goal → CompletesAfter s k us (list_tree (t ∷ ts) (AtomTree nil_name)) 0 goal
  out_last (k.last g) = g

  pub out_tail : {k : List OpenFrame} {a : Bool} {us : List Token} {t goal : Tree} {ts : List Tree} → CompletesFrame s (TailOf ts ∷ k) (token a CloseList ∷ us) t goal → CompletesAfter s k us (list_tree ts t) 0 goal
  out_tail (k.tail g) = g

  pub out_argument : {k : List OpenFrame} {a : Bool} {us : List Token} {n : List ℕ} {w : ℕ} {t goal : Tree} {ts : List Tree}
      → CompletesFrame s (ArgumentOf n w ts ∷ k) (token a Comma ∷ us) t goal → (length ts < 65534) × CompletesOperand s (ArgumentOf n w (t ∷ ts) ∷ k) us goal
  out_argument (k.argument lt w) = (lt, w)

  pub out_final : {k : List OpenFrame} {a : Bool} {us : List Token} {n : List ℕ} {w : ℕ} {t goal : Tree} {ts : List Tree}
      → CompletesFrame s (ArgumentOf n w ts ∷ k) (token a Close ∷ us) t goal → CompletesAfter s k us (CompoundTree n (trees_of (t ∷ ts) no_trees)) 0 goal
  out_final (k.final g) = g

  pub out_end : {us : List Token} {t goal : Tree} → CompletesFrame s [] us t goal → t ≡ goal
  out_end over = refl
