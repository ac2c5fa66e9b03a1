-- The rows of names: found, put, and taken away.
use Rattle.std.proofs.Common.{◌≡◌, ◌∙◌, ℕ, ◌<◌, Bool, true, false, not, ◌==◌, nat_eq, cond, List, [], ◌∷◌, ◌++◌, Option, Some, None, refl, sym, ap, ap₂, subst, append_assoc, arith}
use Rattle.std.specs.Prelude.{IsSome}
use Rattle.std.specs.List.{AllByRecursion}
use Rattle.std.specs.List.Sorted.{IsStrictlySortedBy}
use Rattle.std.specs.Option.{option_map}
use Rattle.std.specs.Ordering.{nat_cmp, ordering_then, is_eq, match_ordering}
use Rattle.std.specs.declared.cmp.Ordering.{Ordering}
use Rattle.std.specs.declared.cmp.Ordering.TheVariants.{Less, Equal, Greater}
use Rattle.std.specs.Cmp.{eq_by_cmp_equiv, nat_cmp_is}
use Rattle.std.specs.Cmp.Lexicographic.{pointwise, slice_cmp, same_text, texts_ties, nat_list_cmp_total, nat_list_eq_equiv}
use Rattle.std.specs.Map.{keys_of, lookup, set_value}
use Rattle.std.specs.BTreeMap.{is_at, insert_entry}
use Rattle.std.proofs.lemmas.Map.{NonePasses, lookup-none}
use Rattle.std.proofs.lemmas.Map.Entries.{none_past_head, none_below_head}
use Rattle.std.proofs.lemmas.Map.Keys.{IsDistinct-from_sorted}
use Rattle.au_term.proofs.LogicLemmas.{both as both_true, and-both, same_number}
use Rattle.au_term.proofs.OptionLemmas.{some_cond}
use Rattle.au_model.specs.Syntax.Operators.{OperatorClass, PrefixClass, InfixClass, PostfixClass, class_of, class_rank, Operator, OperatorRow, OperatorTable, row_rank, row_order, row_placed, is_operator_row, operator_of, with_operator, without_operator}
use Rattle.op_table.specs.declared.operator.Operator.{Operator as DeclaredOperator}
use Rattle.op_table.specs.declared.names.NameOperators.{NameOperators}
use Rattle.op_table.specs.OperatorView.{kind_meant, operator_meant}
use Rattle.op_table.specs.NameRows.{class_rows, name_rows, table_rows, no_operators, of_class, with_class, fits_class, is_classed}
use Rattle.op_table.proofs.TableChangeLemmas.{not_named}

abbrev Slots : Type 0
Slots = List (List ℕ × NameOperators)

abbrev Classed : Slots → Type 0
Classed es = AllByRecursion (λ e. is_classed e.1 ≡ true) es

abbrev Sorted : Slots → Type 0
Sorted es = IsStrictlySortedBy (slice_cmp nat_cmp) (keys_of es)

abbrev at : List ℕ → List ℕ → Bool
at name k = is_at (slice_cmp nat_cmp name) k

at_is : (name k : List ℕ) → at name k ≡ pointwise nat_eq name k
at_is name k = sym (texts_ties name k)

-- the rows of a name in front of others, one class after another
in_turn : (a b c rest : OperatorTable) → (a ++ (b ++ c)) ++ rest ≡ a ++ (b ++ (c ++ rest))
in_turn a b c rest = append_assoc a (b ++ c) rest ∙ ap (λ q. a ++ q) (append_assoc b c rest)

rows_in_turn : (name : List ℕ) (s : NameOperators) (rest : OperatorTable) → name_rows name s ++ rest ≡ class_rows name s.as_prefix ++ (class_rows name s.as_infix ++ (class_rows name s.as_postfix ++ rest))
rows_in_turn name s rest = in_turn (class_rows name s.as_prefix) (class_rows name s.as_infix) (class_rows name s.as_postfix) rest

record Classes (s : NameOperators) : Type 0 where
  as_prefix : fits_class PrefixClass s.as_prefix ≡ true
  as_infix : fits_class InfixClass s.as_infix ≡ true
  as_postfix : fits_class PostfixClass s.as_postfix ≡ true

classes : (s : NameOperators) → is_classed s ≡ true → Classes s
classes s h =
    let a = both_true (fits_class PrefixClass s.as_prefix) _ h in
    let b = both_true (fits_class InfixClass s.as_infix) (fits_class PostfixClass s.as_postfix) a.1 in
    record { as_prefix = a.0; as_infix = b.0; as_postfix = b.1 }

rank_of : (c : OperatorClass) (o : DeclaredOperator) → fits_class c (Some o) ≡ true → class_rank (class_of (kind_meant o.kind)) ≡ class_rank c
rank_of c o h = same_number (class_rank (class_of (kind_meant o.kind))) (class_rank c) h

-- ---- found

module _ (class : OperatorClass) where
  other_class : (name n : List ℕ) (o : Option DeclaredOperator) (rest : OperatorTable) → pointwise nat_eq n name ≡ false → operator_of class (class_rows n o ++ rest) name ≡ operator_of class rest name
  other_class name n None rest e = refl
  other_class name n (Some o) rest e = rw e refl

  other_rows : (name n : List ℕ) (s : NameOperators) (rest : OperatorTable) → pointwise nat_eq n name ≡ false → operator_of class (name_rows n s ++ rest) name ≡ operator_of class rest name
  other_rows name n s rest e =
      ap (λ t. operator_of class t name) (rows_in_turn n s rest)
      ∙ (other_class name n s.as_prefix (class_rows n s.as_infix ++ (class_rows n s.as_postfix ++ rest)) e ∙ (other_class name n s.as_infix (class_rows n s.as_postfix ++ rest) e ∙ other_class name n s.as_postfix rest e))

  abbrev own : Option DeclaredOperator → Option Operator → Option Operator
  own None x = x
  own (Some o) x = Some (operator_meant o)

  own_class : (n : List ℕ) (o : Option DeclaredOperator) (rest : OperatorTable) → fits_class class o ≡ true → operator_of class (class_rows n o ++ rest) n ≡ own o (operator_of class rest n)
  own_class n None rest h = refl
  own_class n (Some o) rest h = rw (nat_list_eq_equiv.refl n, h) refl

  skip_class : (c : OperatorClass) (n : List ℕ) (o : Option DeclaredOperator) (rest : OperatorTable) → fits_class c o ≡ true → (class_rank c == class_rank class) ≡ false → operator_of class (class_rows n o ++ rest) n ≡ operator_of class rest n
  skip_class c n None rest h k = refl
  skip_class c n (Some o) rest h k =
      let miss : (class_rank (class_of (kind_meant o.kind)) == class_rank class) ≡ false = ap (λ r. r == class_rank class) (rank_of c o h) ∙ k in
      rw (nat_list_eq_equiv.refl n, miss) refl

own_rows : (class : OperatorClass) (n : List ℕ) (s : NameOperators) (rest : OperatorTable) → Classes s → operator_of class (name_rows n s ++ rest) n ≡ own class (of_class class s) (operator_of class rest n)
own_rows PrefixClass n s rest h =
    ap (λ t. operator_of PrefixClass t n) (rows_in_turn n s rest)
    ∙ (own_class PrefixClass n s.as_prefix (class_rows n s.as_infix ++ (class_rows n s.as_postfix ++ rest)) h.as_prefix
    ∙ ap (own PrefixClass s.as_prefix) (skip_class PrefixClass InfixClass n s.as_infix (class_rows n s.as_postfix ++ rest) h.as_infix refl ∙ skip_class PrefixClass PostfixClass n s.as_postfix rest h.as_postfix refl))
own_rows InfixClass n s rest h =
    ap (λ t. operator_of InfixClass t n) (rows_in_turn n s rest)
    ∙ (skip_class InfixClass PrefixClass n s.as_prefix (class_rows n s.as_infix ++ (class_rows n s.as_postfix ++ rest)) h.as_prefix refl
    ∙ (own_class InfixClass n s.as_infix (class_rows n s.as_postfix ++ rest) h.as_infix
    ∙ ap (own InfixClass s.as_infix) (skip_class InfixClass PostfixClass n s.as_postfix rest h.as_postfix refl)))
own_rows PostfixClass n s rest h =
    ap (λ t. operator_of PostfixClass t n) (rows_in_turn n s rest)
    ∙ (skip_class PostfixClass PrefixClass n s.as_prefix (class_rows n s.as_infix ++ (class_rows n s.as_postfix ++ rest)) h.as_prefix refl
    ∙ (skip_class PostfixClass InfixClass n s.as_infix (class_rows n s.as_postfix ++ rest) h.as_infix refl ∙ own_class PostfixClass n s.as_postfix rest h.as_postfix))

unlike : (name k : List ℕ) → at name k ≡ false → pointwise nat_eq k name ≡ false
unlike name k e = not_named name k (sym (at_is name k) ∙ e)

no_rows : (class : OperatorClass) (name : List ℕ) (es : Slots) → NonePasses (at name) es → operator_of class (table_rows es) name ≡ None
no_rows class name [] h = refl
no_rows class name (e ∷ es) h = other_rows class name e.0 e.1 (table_rows es) (unlike name e.0 h.0) ∙ no_rows class name es h.1

abbrev pub found_in : OperatorClass → Option NameOperators → Option Operator
found_in class None = None
found_in class (Some s) = option_map operator_meant (of_class class s)

alone : (class : OperatorClass) (o : Option DeclaredOperator) → own class o None ≡ option_map operator_meant o
alone class None = refl
alone class (Some o) = refl

tail_none : (name : List ℕ) (e : List ℕ × NameOperators) (es : Slots) → Sorted (e ∷ es) → at name e.0 ≡ true → NonePasses (at name) es
tail_none name e es s h = none_past_head (eq_by_cmp_equiv nat_list_cmp_total) name e es (IsDistinct-from_sorted (slice_cmp nat_cmp) (keys_of (e ∷ es)) s) h

pub rows_found : (class : OperatorClass) (name : List ℕ) (es : Slots) → Sorted es → Classed es → operator_of class (table_rows es) name ≡ found_in class (lookup (at name) es)
unfolding IsStrictlySortedBy
rows_found class name [] s c = refl
rows_found class name (e ∷ es) s c = go (at name e.0) refl (rows_found class name es s.1 c.1)
  where
    go : (b : Bool) → at name e.0 ≡ b → operator_of class (table_rows es) name ≡ found_in class (lookup (at name) es) → operator_of class (name_rows e.0 e.1 ++ table_rows es) name ≡ found_in class (cond b (Some e.1) (lookup (at name) es))
    go true h k =
        let same : name ≡ e.0 = same_text name e.0 (sym (sym (at_is name e.0) ∙ h)) in
        ap (λ n. operator_of class (name_rows e.0 e.1 ++ table_rows es) n) same
        ∙ (own_rows class e.0 e.1 (table_rows es) (classes e.1 c.0)
        ∙ (ap (own class (of_class class e.1)) (ap (operator_of class (table_rows es)) (sym same) ∙ no_rows class name es (tail_none name e es s h)) ∙ alone class (of_class class e.1)))
    go false h k = other_rows class name e.0 e.1 (table_rows es) (unlike name e.0 h) ∙ k

-- ---- put

module _ (row : OperatorRow) where
  abbrev Above : OperatorTable → Type 0
  Above rs = AllByRecursion (λ r. row_order row r ≡ Less) rs

  put_first : (rs : OperatorTable) → Above rs → with_operator rs row ≡ row ∷ rs
  put_first [] h = refl
  put_first (r ∷ rs) h = ap (λ o. row_placed o row r rs (with_operator rs row)) h.0

  put_after : (r : OperatorRow) (rs : OperatorTable) → row_order row r ≡ Greater → with_operator (r ∷ rs) row ≡ r ∷ with_operator rs row
  put_after r rs h = ap (λ o. row_placed o row r rs (with_operator rs row)) h

  put_there : (r : OperatorRow) (rs : OperatorTable) → row_order row r ≡ Equal → with_operator (r ∷ rs) row ≡ row ∷ rs
  put_there r rs h = ap (λ o. row_placed o row r rs (with_operator rs row)) h

  above_append : (rs ts : OperatorTable) → Above rs → Above ts → Above (rs ++ ts)
  above_append [] ts h k = k
  above_append (r ∷ rs) ts h k = (h.0, above_append rs ts h.1 k)

  -- rows of the same name
  own_order : (o : DeclaredOperator) (p : Ordering) → nat_cmp (row_rank row) (class_rank (class_of (kind_meant o.kind))) ≡ p → row_order row (record { name = row.name; operator = operator_meant o }) ≡ p
  own_order o p h = ap (λ q. ordering_then q (nat_cmp (row_rank row) (class_rank (class_of (kind_meant o.kind))))) (self_order row.name) ∙ h
    where
      is_equal : (q : Ordering) → is_eq q ≡ true → q ≡ Equal
      is_equal Less e = absurd cc
      is_equal Equal e = refl
      is_equal Greater e = absurd cc

      self_order : (n : List ℕ) → slice_cmp nat_cmp n n ≡ Equal
      self_order n = is_equal (slice_cmp nat_cmp n n) (at_is n n ∙ nat_list_eq_equiv.refl n)

  class_before : (c : OperatorClass) (o : Option DeclaredOperator) (rest : OperatorTable) → fits_class c o ≡ true → class_rank c < row_rank row → with_operator (class_rows row.name o ++ rest) row ≡ class_rows row.name o ++ with_operator rest row
  class_before c None rest h lt = refl
  class_before c (Some o) rest h lt =
      let e = rank_of c o h in
      put_after (record { name = row.name; operator = operator_meant o }) rest (own_order o Greater (sym (nat_cmp_is (row_rank row) (class_rank (class_of (kind_meant o.kind))) Greater (omega arith))))

  class_there : (c : OperatorClass) (o : Option DeclaredOperator) (rest : OperatorTable) → fits_class c o ≡ true → row_rank row ≡ class_rank c → Above rest → with_operator (class_rows row.name o ++ rest) row ≡ row ∷ rest
  class_there c None rest h e a = put_first rest a
  class_there c (Some o) rest h e a =
      put_there (record { name = row.name; operator = operator_meant o }) rest (own_order o Equal (sym (nat_cmp_is (row_rank row) (class_rank (class_of (kind_meant o.kind))) Equal (e ∙ sym (rank_of c o h)))))

  class_above : (c : OperatorClass) (o : Option DeclaredOperator) → fits_class c o ≡ true → row_rank row < class_rank c → Above (class_rows row.name o)
  class_above c None h lt = tt
  class_above c (Some o) h lt = let e = rank_of c o h in (own_order o Less (sym (nat_cmp_is (row_rank row) (class_rank (class_of (kind_meant o.kind))) Less (omega arith))), tt)

  -- rows of other names
  name_before : (k : List ℕ) (s : NameOperators) (rest : OperatorTable) → slice_cmp nat_cmp row.name k ≡ Greater → with_operator (name_rows k s ++ rest) row ≡ name_rows k s ++ with_operator rest row
  name_before k s rest g =
      ap (λ t. with_operator t row) (rows_in_turn k s rest)
      ∙ (one s.as_prefix (class_rows k s.as_infix ++ (class_rows k s.as_postfix ++ rest))
      ∙ (ap (λ q. class_rows k s.as_prefix ++ q) (one s.as_infix (class_rows k s.as_postfix ++ rest) ∙ ap (λ q. class_rows k s.as_infix ++ q) (one s.as_postfix rest)) ∙ sym (rows_in_turn k s (with_operator rest row))))
    where
      one : (o : Option DeclaredOperator) (ts : OperatorTable) → with_operator (class_rows k o ++ ts) row ≡ class_rows k o ++ with_operator ts row
      one None ts = refl
      one (Some o) ts = put_after (record { name = k; operator = operator_meant o }) ts (ap (λ q. ordering_then q (nat_cmp (row_rank row) (class_rank (class_of (kind_meant o.kind))))) g)

  table_above : (es : Slots) → AllByRecursion (λ k. slice_cmp nat_cmp row.name k ≡ Less) (keys_of es) → Above (table_rows es)
  table_above [] h = tt
  table_above (e ∷ es) h = above_append (name_rows e.0 e.1) (table_rows es) (above_append (class_rows e.0 e.1.as_prefix) _ (one e.1.as_prefix) (above_append (class_rows e.0 e.1.as_infix) _ (one e.1.as_infix) (one e.1.as_postfix))) (table_above es h.1)
    where
      one : (o : Option DeclaredOperator) → Above (class_rows e.0 o)
      one None = tt
      one (Some o) = (ap (λ q. ordering_then q (nat_cmp (row_rank row) (class_rank (class_of (kind_meant o.kind))))) h.0, tt)

abbrev put_row : List ℕ → DeclaredOperator → OperatorRow
put_row name o = record { name = name; operator = operator_meant o }

own_put : (class : OperatorClass) (n : List ℕ) (o : DeclaredOperator) (s : NameOperators) (rest : OperatorTable) → Classes s → fits_class class (Some o) ≡ true → Above (put_row n o) rest
    → with_operator (name_rows n s ++ rest) (put_row n o) ≡ name_rows n (with_class class (Some o) s) ++ rest
own_put PrefixClass n o s rest h f a =
    let row = put_row n o in
    let rank = rank_of PrefixClass o f in
    ap (λ t. with_operator t row) (rows_in_turn n s rest)
    ∙ (class_there row PrefixClass s.as_prefix (class_rows n s.as_infix ++ (class_rows n s.as_postfix ++ rest)) h.as_prefix rank
    (above_append row (class_rows n s.as_infix) (class_rows n s.as_postfix ++ rest) (class_above row InfixClass s.as_infix h.as_infix (omega arith)) (above_append row (class_rows n s.as_postfix) rest (class_above row PostfixClass s.as_postfix h.as_postfix (omega arith)) a))
    ∙ sym (rows_in_turn n (with_class PrefixClass (Some o) s) rest))
own_put InfixClass n o s rest h f a =
    let row = put_row n o in
    let rank = rank_of InfixClass o f in
    ap (λ t. with_operator t row) (rows_in_turn n s rest)
    ∙ (class_before row PrefixClass s.as_prefix (class_rows n s.as_infix ++ (class_rows n s.as_postfix ++ rest)) h.as_prefix (omega arith)
    ∙ (ap (λ q. class_rows n s.as_prefix ++ q) (class_there row InfixClass s.as_infix (class_rows n s.as_postfix ++ rest) h.as_infix rank (above_append row (class_rows n s.as_postfix) rest (class_above row PostfixClass s.as_postfix h.as_postfix (omega arith)) a))
    ∙ sym (rows_in_turn n (with_class InfixClass (Some o) s) rest)))
own_put PostfixClass n o s rest h f a =
    let row = put_row n o in
    let rank = rank_of PostfixClass o f in
    ap (λ t. with_operator t row) (rows_in_turn n s rest)
    ∙ (class_before row PrefixClass s.as_prefix (class_rows n s.as_infix ++ (class_rows n s.as_postfix ++ rest)) h.as_prefix (omega arith)
    ∙ (ap (λ q. class_rows n s.as_prefix ++ q) (class_before row InfixClass s.as_infix (class_rows n s.as_postfix ++ rest) h.as_infix (omega arith) ∙ ap (λ q. class_rows n s.as_infix ++ q) (class_there row PostfixClass s.as_postfix rest h.as_postfix rank a))
    ∙ sym (rows_in_turn n (with_class PostfixClass (Some o) s) rest)))

pub rows_put : (class : OperatorClass) (name : List ℕ) (o : DeclaredOperator) (s : NameOperators) (es : Slots) → Sorted es → Classed es → fits_class class (Some o) ≡ true → lookup (at name) es ≡ Some s
    → table_rows (set_value (at name) es (with_class class (Some o) s)) ≡ with_operator (table_rows es) (put_row name o)
unfolding IsStrictlySortedBy
rows_put class name o s [] srt c f l = absurd cc
rows_put class name o s (e ∷ es) srt c f l = go (slice_cmp nat_cmp name e.0) refl l (rows_put class name o s es srt.1 c.1 f)
  where
    go : (p : Ordering) → slice_cmp nat_cmp name e.0 ≡ p → cond (is_eq p) (Some e.1) (lookup (at name) es) ≡ Some s
        → (lookup (at name) es ≡ Some s → table_rows (set_value (at name) es (with_class class (Some o) s)) ≡ with_operator (table_rows es) (put_row name o))
        → table_rows (cond (is_eq p) ((e.0, with_class class (Some o) s) ∷ es) (e ∷ set_value (at name) es (with_class class (Some o) s))) ≡ with_operator (name_rows e.0 e.1 ++ table_rows es) (put_row name o)
    go Less h k r =
        let none = lookup-none (at name) (e ∷ es) (none_below_head nat_list_cmp_total name e es srt h) in
        let gone : lookup (at name) es ≡ None = ap (λ q. cond (is_eq q) (Some e.1) (lookup (at name) es)) (sym h) ∙ none in
        absurd (no_way gone k)
      where
        no_way : {x : Option NameOperators} → x ≡ None → x ≡ Some s → ⊥
        no_way a b = cc
    go Equal h k r =
        let same : name ≡ e.0 = same_text name e.0 (sym (sym (at_is name e.0) ∙ ap is_eq h)) in
        let value : e.1 ≡ s = cc in
        let above = table_above (put_row e.0 o) es srt.0 in
        sym (ap (λ n. with_operator (name_rows e.0 e.1 ++ table_rows es) (put_row n o)) same ∙ (own_put class e.0 o e.1 (table_rows es) (classes e.1 c.0) f above ∙ ap (λ t. name_rows e.0 (with_class class (Some o) t) ++ table_rows es) value))
    go Greater h k r = ap (λ q. name_rows e.0 e.1 ++ q) (r k) ∙ sym (name_before (put_row name o) e.0 e.1 (table_rows es) h)

-- ---- taken away

abbrev stays : OperatorClass → List ℕ → OperatorRow → Bool
stays class name r = not (is_operator_row class name r)

without_append : (class : OperatorClass) (name : List ℕ) (rs ts : OperatorTable) → without_operator class name (rs ++ ts) ≡ without_operator class name rs ++ without_operator class name ts
without_append class name [] ts = refl
without_append class name (r ∷ rs) ts = go (stays class name r) (without_append class name rs ts)
  where
    go : (b : Bool) → without_operator class name (rs ++ ts) ≡ without_operator class name rs ++ without_operator class name ts
        → cond b (r ∷ without_operator class name (rs ++ ts)) (without_operator class name (rs ++ ts)) ≡ cond b (r ∷ without_operator class name rs) (without_operator class name rs) ++ without_operator class name ts
    go true h = ap (λ q. r ∷ q) h
    go false h = h

without_name : (class : OperatorClass) (name n : List ℕ) (s : NameOperators) → without_operator class name (name_rows n s) ≡ without_operator class name (class_rows n s.as_prefix) ++ (without_operator class name (class_rows n s.as_infix) ++ without_operator class name (class_rows n s.as_postfix))
without_name class name n s =
    without_append class name (class_rows n s.as_prefix) (class_rows n s.as_infix ++ class_rows n s.as_postfix) ∙ ap (λ q. without_operator class name (class_rows n s.as_prefix) ++ q) (without_append class name (class_rows n s.as_infix) (class_rows n s.as_postfix))

without_other : (class : OperatorClass) (name n : List ℕ) (s : NameOperators) → pointwise nat_eq n name ≡ false → without_operator class name (name_rows n s) ≡ name_rows n s
without_other class name n s e = without_name class name n s ∙ ap₂ (λ a b. a ++ b) (one s.as_prefix) (ap₂ (λ a b. a ++ b) (one s.as_infix) (one s.as_postfix))
  where
    one : (o : Option DeclaredOperator) → without_operator class name (class_rows n o) ≡ class_rows n o
    one None = refl
    one (Some o) = rw e refl

pub rows_absent : (class : OperatorClass) (name : List ℕ) (es : Slots) → NonePasses (at name) es → without_operator class name (table_rows es) ≡ table_rows es
rows_absent class name [] h = refl
rows_absent class name (e ∷ es) h =
    without_append class name (name_rows e.0 e.1) (table_rows es) ∙ ap₂ (λ a b. a ++ b) (without_other class name e.0 e.1 (unlike name e.0 h.0)) (rows_absent class name es h.1)

module _ (class : OperatorClass) (n : List ℕ) where
  drop_class : (o : Option DeclaredOperator) → fits_class class o ≡ true → without_operator class n (class_rows n o) ≡ []
  drop_class None h = refl
  drop_class (Some o) h = rw (nat_list_eq_equiv.refl n, h) refl

  keep_class : (c : OperatorClass) (o : Option DeclaredOperator) → fits_class c o ≡ true → (class_rank c == class_rank class) ≡ false → without_operator class n (class_rows n o) ≡ class_rows n o
  keep_class c None h k = refl
  keep_class c (Some o) h k =
      let miss : (class_rank (class_of (kind_meant o.kind)) == class_rank class) ≡ false = ap (λ r. r == class_rank class) (rank_of c o h) ∙ k in
      rw (nat_list_eq_equiv.refl n, miss) refl

own_without : (class : OperatorClass) (n : List ℕ) (s : NameOperators) → Classes s → without_operator class n (name_rows n s) ≡ name_rows n (with_class class None s)
own_without PrefixClass n s h =
    without_name PrefixClass n n s ∙ ap₂ (λ a b. a ++ b) (drop_class PrefixClass n s.as_prefix h.as_prefix) (ap₂ (λ a b. a ++ b) (keep_class PrefixClass n InfixClass s.as_infix h.as_infix refl) (keep_class PrefixClass n PostfixClass s.as_postfix h.as_postfix refl))
own_without InfixClass n s h =
    without_name InfixClass n n s ∙ ap₂ (λ a b. a ++ b) (keep_class InfixClass n PrefixClass s.as_prefix h.as_prefix refl) (ap₂ (λ a b. a ++ b) (drop_class InfixClass n s.as_infix h.as_infix) (keep_class InfixClass n PostfixClass s.as_postfix h.as_postfix refl))
own_without PostfixClass n s h =
    without_name PostfixClass n n s ∙ ap₂ (λ a b. a ++ b) (keep_class PostfixClass n PrefixClass s.as_prefix h.as_prefix refl) (ap₂ (λ a b. a ++ b) (keep_class PostfixClass n InfixClass s.as_infix h.as_infix refl) (drop_class PostfixClass n s.as_postfix h.as_postfix))

pub rows_taken : (class : OperatorClass) (name : List ℕ) (s : NameOperators) (es : Slots) → Sorted es → Classed es → lookup (at name) es ≡ Some s
    → table_rows (set_value (at name) es (with_class class None s)) ≡ without_operator class name (table_rows es)
unfolding IsStrictlySortedBy
rows_taken class name s [] srt c l = absurd cc
rows_taken class name s (e ∷ es) srt c l = go (at name e.0) refl l (rows_taken class name s es srt.1 c.1) ∙ sym (without_append class name (name_rows e.0 e.1) (table_rows es))
  where
    go : (b : Bool) → at name e.0 ≡ b → cond b (Some e.1) (lookup (at name) es) ≡ Some s
        → (lookup (at name) es ≡ Some s → table_rows (set_value (at name) es (with_class class None s)) ≡ without_operator class name (table_rows es))
        → table_rows (cond b ((e.0, with_class class None s) ∷ es) (e ∷ set_value (at name) es (with_class class None s))) ≡ without_operator class name (name_rows e.0 e.1) ++ without_operator class name (table_rows es)
    go true h k r =
        let same : name ≡ e.0 = same_text name e.0 (sym (sym (at_is name e.0) ∙ h)) in
        let value : e.1 ≡ s = cc in
        ap₂ (λ a b. a ++ b)
        (ap (λ t. name_rows e.0 (with_class class None t)) (sym value) ∙ (sym (own_without class e.0 e.1 (classes e.1 c.0)) ∙ ap (λ n. without_operator class n (name_rows e.0 e.1)) (sym same)))
        (sym (rows_absent class name es (tail_none name e es srt h)))
    go false h k r = ap₂ (λ a b. a ++ b) (sym (without_other class name e.0 e.1 (unlike name e.0 h))) (r k)

-- ---- places

pub rows_placed : (name : List ℕ) (es : Slots) → lookup (at name) es ≡ None → table_rows (insert_entry (slice_cmp nat_cmp) es name no_operators) ≡ table_rows es
rows_placed name [] h = refl
rows_placed name (e ∷ es) h = go (slice_cmp nat_cmp name e.0) h (rows_placed name es)
  where
    go : (p : Ordering) → cond (is_eq p) (Some e.1) (lookup (at name) es) ≡ None → (lookup (at name) es ≡ None → table_rows (insert_entry (slice_cmp nat_cmp) es name no_operators) ≡ table_rows es)
        → table_rows (match_ordering p ((name, no_operators) ∷ e ∷ es) ((e.0, no_operators) ∷ es) (e ∷ insert_entry (slice_cmp nat_cmp) es name no_operators)) ≡ name_rows e.0 e.1 ++ table_rows es
    go Less k r = refl
    go Equal k r = absurd cc
    go Greater k r = ap (λ q. name_rows e.0 e.1 ++ q) (r k)

pub place_there : (name : List ℕ) (es : Slots) (s : NameOperators) → IsSome (lookup (at name) (insert_entry (slice_cmp nat_cmp) es name s))
place_there name [] s = let e : at name name ≡ true = at_is name name ∙ nat_list_eq_equiv.refl name in subst (λ b. IsSome (cond b (Some s) None)) (sym e) refl
place_there name (e ∷ es) s = go (slice_cmp nat_cmp name e.0) refl (place_there name es s)
  where
    go : (p : Ordering) → slice_cmp nat_cmp name e.0 ≡ p → IsSome (lookup (at name) (insert_entry (slice_cmp nat_cmp) es name s))
        → IsSome (lookup (at name) (match_ordering p ((name, s) ∷ e ∷ es) ((e.0, s) ∷ es) (e ∷ insert_entry (slice_cmp nat_cmp) es name s)))
    go Less h k = let t : at name name ≡ true = at_is name name ∙ nat_list_eq_equiv.refl name in subst (λ b. IsSome (cond b (Some s) (lookup (at name) (e ∷ es)))) (sym t) refl
    go Equal h k = subst (λ q. IsSome (cond (is_eq q) (Some s) (lookup (at name) es))) (sym h) refl
    go Greater h k = some_cond (at name e.0) e.1 _ k

pub place_kept : (q name : List ℕ) (es : Slots) (s : NameOperators) → IsSome (lookup (at q) es) → IsSome (lookup (at q) (insert_entry (slice_cmp nat_cmp) es name s))
place_kept q name [] s h = absurd cc
place_kept q name (e ∷ es) s h = go (slice_cmp nat_cmp name e.0) (at q e.0) refl h (place_kept q name es s)
  where
    go : (p : Ordering) (b : Bool) → at q e.0 ≡ b → IsSome (cond b (Some e.1) (lookup (at q) es)) → (IsSome (lookup (at q) es) → IsSome (lookup (at q) (insert_entry (slice_cmp nat_cmp) es name s)))
        → IsSome (lookup (at q) (match_ordering p ((name, s) ∷ e ∷ es) ((e.0, s) ∷ es) (e ∷ insert_entry (slice_cmp nat_cmp) es name s)))
    go Less b i k r = some_cond (at q name) s (lookup (at q) (e ∷ es)) h
    go Equal true i k r = subst (λ x. IsSome (cond x (Some s) (lookup (at q) es))) (sym i) refl
    go Equal false i k r = some_cond (at q e.0) s (lookup (at q) es) k
    go Greater true i k r = subst (λ x. IsSome (cond x (Some e.1) (lookup (at q) (insert_entry (slice_cmp nat_cmp) es name s)))) (sym i) refl
    go Greater false i k r = some_cond (at q e.0) e.1 (lookup (at q) (insert_entry (slice_cmp nat_cmp) es name s)) (r k)

pub value_kept : (q name : List ℕ) (es : Slots) (s : NameOperators) → IsSome (lookup (at q) es) → IsSome (lookup (at q) (set_value (at name) es s))
value_kept q name [] s h = absurd cc
value_kept q name (e ∷ es) s h = go (at name e.0) (at q e.0) refl h (value_kept q name es s)
  where
    go : (c b : Bool) → at q e.0 ≡ b → IsSome (cond b (Some e.1) (lookup (at q) es)) → (IsSome (lookup (at q) es) → IsSome (lookup (at q) (set_value (at name) es s)))
        → IsSome (lookup (at q) (cond c ((e.0, s) ∷ es) (e ∷ set_value (at name) es s)))
    go true true i k r = subst (λ x. IsSome (cond x (Some s) (lookup (at q) es))) (sym i) refl
    go true false i k r = some_cond (at q e.0) s (lookup (at q) es) k
    go false true i k r = subst (λ x. IsSome (cond x (Some e.1) (lookup (at q) (set_value (at name) es s)))) (sym i) refl
    go false false i k r = some_cond (at q e.0) e.1 (lookup (at q) (set_value (at name) es s)) (r k)

-- ---- each operator stays one of its class

pub classed_with : (class : OperatorClass) (o : Option DeclaredOperator) (s : NameOperators) → is_classed s ≡ true → fits_class class o ≡ true → is_classed (with_class class o s) ≡ true
classed_with PrefixClass o s h f = let c = classes s h in and-both (fits_class PrefixClass o) _ f (and-both (fits_class InfixClass s.as_infix) (fits_class PostfixClass s.as_postfix) c.as_infix c.as_postfix)
classed_with InfixClass o s h f = let c = classes s h in and-both (fits_class PrefixClass s.as_prefix) _ c.as_prefix (and-both (fits_class InfixClass o) (fits_class PostfixClass s.as_postfix) f c.as_postfix)
classed_with PostfixClass o s h f = let c = classes s h in and-both (fits_class PrefixClass s.as_prefix) _ c.as_prefix (and-both (fits_class InfixClass s.as_infix) (fits_class PostfixClass o) c.as_infix f)

pub classed_at : (name : List ℕ) (s : NameOperators) (es : Slots) → Classed es → lookup (at name) es ≡ Some s → is_classed s ≡ true
classed_at name s [] c l = absurd cc
classed_at name s (e ∷ es) c l = go (at name e.0) l (classed_at name s es c.1)
  where
    go : (b : Bool) → cond b (Some e.1) (lookup (at name) es) ≡ Some s → (lookup (at name) es ≡ Some s → is_classed s ≡ true) → is_classed s ≡ true
    go true k r = let value : e.1 ≡ s = cc in subst (λ t. is_classed t ≡ true) value c.0
    go false k r = r k

pub classed_set : (name : List ℕ) (s : NameOperators) (es : Slots) → Classed es → is_classed s ≡ true → Classed (set_value (at name) es s)
classed_set name s [] c h = tt
classed_set name s (e ∷ es) c h = go (at name e.0) (classed_set name s es c.1 h)
  where
    go : (b : Bool) → Classed (set_value (at name) es s) → Classed (cond b ((e.0, s) ∷ es) (e ∷ set_value (at name) es s))
    go true k = (h, c.1)
    go false k = (c.0, k)

pub classed_inserted : (name : List ℕ) (s : NameOperators) (es : Slots) → Classed es → is_classed s ≡ true → Classed (insert_entry (slice_cmp nat_cmp) es name s)
classed_inserted name s [] c h = (h, tt)
classed_inserted name s (e ∷ es) c h = go (slice_cmp nat_cmp name e.0) (classed_inserted name s es c.1 h)
  where
    go : (p : Ordering) → Classed (insert_entry (slice_cmp nat_cmp) es name s) → Classed (match_ordering p ((name, s) ∷ e ∷ es) ((e.0, s) ∷ es) (e ∷ insert_entry (slice_cmp nat_cmp) es name s))
    go Less k = (h, c)
    go Equal k = (h, c.1)
    go Greater k = (c.0, k)
