-- A table with an operator put into it is a table.
use Rattle.std.proofs.Common.{◌≡◌, ◌∙◌, ℕ, ◌<◌, ◌≤◌, Bool, true, false, not, ◌&&◌, ◌||◌, ◌==◌, nat_eq, nat_lt, nat_le, cond, List, [], ◌∷◌, Option, Some, None, codes, refl, sym, ap}
use Rattle.std.specs.List.{AllByRecursion}
use Rattle.std.specs.List.Sorted.{IsStrictlySortedBy}
use Rattle.std.specs.Option.{is_none}
use Rattle.std.specs.Ordering.{ordering_reverse, is_eq}
use Rattle.std.specs.declared.cmp.Ordering.{Ordering}
use Rattle.std.specs.declared.cmp.Ordering.TheVariants.{Less, Equal, Greater}
use Rattle.std.specs.Cmp.Lexicographic.{pointwise, same_text, other_text}
use Rattle.std.proofs.lemmas.Bool.{leb-true, ltb-true}
use Rattle.std.proofs.lemmas.List.Elements.{All-from_recursion, recursion_from_All}
use Rattle.au_model.specs.Syntax.Operators.{OperatorClass, PrefixClass, InfixClass, PostfixClass, class_of, class_rank, OperatorRow, OperatorTable, row_rank, row_order, is_operator_row, operator_of, postfix_of, is_operator_name_free, is_no_operator, with_operator, row_placed, IsOperatorTable}
use Rattle.au_model.specs.Syntax.OperatorChanges.{conflicting_operator}
use Rattle.op_table.specs.OperatorView.{place_order}
use Rattle.op_table.specs.TableChanges.{is_protected_name, may_be_added}
use Rattle.op_table.proofs.SortedRowLemmas.{row_order-total, row_at, at_place, is_row-place}
use Rattle.au_term.proofs.LogicLemmas.{both as both_true, not-true as not_true}

-- what holds of the row and of all others holds of all
all_with : (P : OperatorRow → Type 0) (row : OperatorRow) (t : OperatorTable) → P row → AllByRecursion P t → AllByRecursion P (with_operator t row)
all_with P row [] p h = (p, tt)
all_with P row (r ∷ rs) p h = go (row_order row r) (all_with P row rs p h.1)
  where
    go : (o : Ordering) → AllByRecursion P (with_operator rs row) → AllByRecursion P (row_placed o row r rs (with_operator rs row))
    go Less k = (p, h)
    go Equal k = (p, h.1)
    go Greater k = (h.0, k)

all_above : (row r : OperatorRow) (rs : OperatorTable) → row_order row r ≡ Less → AllByRecursion (λ s. row_order r s ≡ Less) rs → AllByRecursion (λ s. row_order row s ≡ Less) rs
all_above row r [] l h = tt
all_above row r (s ∷ rs) l h = (row_order-total.trans row r s l h.0, all_above row r rs l h.1)

all_tied : (row r : OperatorRow) (rs : OperatorTable) → row_order row r ≡ Equal → AllByRecursion (λ s. row_order r s ≡ Less) rs → AllByRecursion (λ s. row_order row s ≡ Less) rs
all_tied row r [] e h = tt
all_tied row r (s ∷ rs) e h = (row_order-total.congr row r s e ∙ h.0, all_tied row r rs e h.1)

turned : (r s : OperatorRow) (o : Ordering) → row_order r s ≡ o → row_order s r ≡ ordering_reverse o
turned r s o e = row_order-total.antisymm s r ∙ ap ordering_reverse e

sorted_with : (row : OperatorRow) (t : OperatorTable) → IsStrictlySortedBy row_order t → IsStrictlySortedBy row_order (with_operator t row)
unfolding IsStrictlySortedBy
sorted_with row [] s = (tt, tt)
sorted_with row (r ∷ rs) s = go (row_order row r) refl (sorted_with row rs s.1)
  where
    go : (o : Ordering) → row_order row r ≡ o → IsStrictlySortedBy row_order (with_operator rs row) → IsStrictlySortedBy row_order (row_placed o row r rs (with_operator rs row))
    go Less e k = ((e, all_above row r rs e s.0), s)
    go Equal e k = (all_tied row r rs e s.0, s.1)
    go Greater e k = (all_with (λ x. row_order r x ≡ Less) row rs (turned row r Greater e) s.0, k)

-- rows of one name and class
ties : (class : OperatorClass) (name : List ℕ) (row r : OperatorRow) → row_order row r ≡ Equal → is_operator_row class name row ≡ is_operator_row class name r
ties class name row r e =
    is_row-place class name row ∙ (ap is_eq (at_place class name row ∙ (row_order-total.congr row r (row_at class name) e ∙ sym (at_place class name r))) ∙ sym (is_row-place class name r))

is_equal : (o : Ordering) → is_eq o ≡ true → o ≡ Equal
is_equal Less e = let f : ⊥ = cc in absurd f
is_equal Equal e = refl
is_equal Greater e = let f : ⊥ = cc in absurd f

equal_at : (class : OperatorClass) (name : List ℕ) (r : OperatorRow) → is_operator_row class name r ≡ true → row_order r (row_at class name) ≡ Equal
equal_at class name r e = sym (at_place class name r) ∙ is_equal (place_order class name r) (sym (is_row-place class name r) ∙ e)

both_equal : (class : OperatorClass) (name : List ℕ) (row r : OperatorRow) → is_operator_row class name row ≡ true → is_operator_row class name r ≡ true → row_order row r ≡ Equal
both_equal class name row r e k =
    row_order-total.congr row (row_at class name) r (equal_at class name row e) ∙ turned r (row_at class name) Equal (equal_at class name r k)

pub found_with : (class : OperatorClass) (name : List ℕ) (row : OperatorRow) (t : OperatorTable) → operator_of class (with_operator t row) name ≡ cond (is_operator_row class name row) (Some row.operator) (operator_of class t name)
found_with class name row [] = refl
found_with class name row (r ∷ rs) = go (row_order row r) refl (found_with class name row rs)
  where
    tied : (b c : Bool) → b ≡ c → cond b (Some row.operator) (operator_of class rs name) ≡ cond b (Some row.operator) (cond c (Some r.operator) (operator_of class rs name))
    tied true c e = refl
    tied false true e = let f : ⊥ = cc in absurd f
    tied false false e = refl

    apart : (b c : Bool) → is_operator_row class name row ≡ b → is_operator_row class name r ≡ c → row_order row r ≡ Greater
        → cond c (Some r.operator) (cond b (Some row.operator) (operator_of class rs name)) ≡ cond b (Some row.operator) (cond c (Some r.operator) (operator_of class rs name))
    apart true true e k g = let f : ⊥ = cc (both_equal class name row r e k) in absurd f
    apart true false e k g = refl
    apart false c e k g = refl

    go : (o : Ordering) → row_order row r ≡ o
        → operator_of class (with_operator rs row) name ≡ cond (is_operator_row class name row) (Some row.operator) (operator_of class rs name)
        → operator_of class (row_placed o row r rs (with_operator rs row)) name ≡ cond (is_operator_row class name row) (Some row.operator) (operator_of class (r ∷ rs) name)
    go Less e k = refl
    go Equal e k = tied (is_operator_row class name row) (is_operator_row class name r) (ties class name row r e)
    go Greater e k = ap (cond (is_operator_row class name r) (Some r.operator)) k ∙ apart (is_operator_row class name row) (is_operator_row class name r) refl refl e

-- a row of another name
other_named : (class : OperatorClass) (name : List ℕ) (row : OperatorRow) (t : OperatorTable) → pointwise nat_eq row.name name ≡ false → operator_of class (with_operator t row) name ≡ operator_of class t name
other_named class name row t e =
    let miss : is_operator_row class name row ≡ false = ap (λ b. b && row_rank row == class_rank class) e in
    found_with class name row t ∙ ap (λ b. cond b (Some row.operator) (operator_of class t name)) miss

-- none of the rows is the one that is not found
none_found : (class : OperatorClass) (name : List ℕ) (t : OperatorTable) → operator_of class t name ≡ None → AllByRecursion (λ r. is_operator_row class name r ≡ false) t
none_found class name [] e = tt
none_found class name (r ∷ rs) e = go (is_operator_row class name r) refl e (none_found class name rs)
  where
    go : (b : Bool) → is_operator_row class name r ≡ b → cond b (Some r.operator) (operator_of class rs name) ≡ None → (operator_of class rs name ≡ None → AllByRecursion (λ s. is_operator_row class name s ≡ false) rs) → (is_operator_row class name r ≡ false) × AllByRecursion (λ s. is_operator_row class name s ≡ false) rs
    go true k f h = let g : ⊥ = cc in absurd g
    go false k f h = (k, h f)

pub no_both : (a b : Bool) → b ≡ false → (a && b) ≡ false
no_both true b e = e
no_both false b e = refl

-- a row is apart as before where the new one is of another class or name
apart_still : (t : OperatorTable) (row r : OperatorRow) → is_operator_row PostfixClass r.name row ≡ false → is_operator_name_free t r ≡ true → is_operator_name_free (with_operator t row) r ≡ true
apart_still t row r miss h =
    let same : postfix_of (with_operator t row) r.name ≡ postfix_of t r.name = found_with PostfixClass r.name row t ∙ ap (λ b. cond b (Some row.operator) (postfix_of t r.name)) miss in
    ap (λ o. not (row_rank r == class_rank InfixClass) || is_none o) same ∙ h

all_apart_still : (t : OperatorTable) (row : OperatorRow) (rs : OperatorTable) → ((row_rank row == 2) ≡ false) → AllByRecursion (λ r. is_operator_name_free t r ≡ true) rs
    → AllByRecursion (λ r. is_operator_name_free (with_operator t row) r ≡ true) rs
all_apart_still t row [] n h = tt
all_apart_still t row (r ∷ rs) n h = (apart_still t row r (no_both (pointwise nat_eq row.name r.name) (row_rank row == 2) n) h.0, all_apart_still t row rs n h.1)

pub not_named : (m n : List ℕ) → pointwise nat_eq m n ≡ false → pointwise nat_eq n m ≡ false
not_named m n e = go (pointwise nat_eq n m) refl
  where
    go : (b : Bool) → pointwise nat_eq n m ≡ b → b ≡ false
    go true k = absurd (other_text m n (sym e) (sym (same_text n m (sym k))))
    go false k = refl

apart_after : (t : OperatorTable) (row r : OperatorRow) → is_operator_row InfixClass row.name r ≡ false → is_operator_name_free t r ≡ true → is_operator_name_free (with_operator t row) r ≡ true
apart_after t row r miss h = go (row_rank r == 1) (pointwise nat_eq r.name row.name) refl refl
  where
    go : (b c : Bool) → (row_rank r == 1) ≡ b → pointwise nat_eq r.name row.name ≡ c → is_operator_name_free (with_operator t row) r ≡ true
    go false c e k = ap (λ x. not x || is_none (postfix_of (with_operator t row) r.name)) e
    go true true e k =
        let hit : is_operator_row InfixClass row.name r ≡ true = ap (λ x. x && row_rank r == 1) k ∙ e in
        let f : ⊥ = cc in absurd f
    go true false e k = apart_still t row r (ap (λ x. x && row_rank row == 2) (not_named r.name row.name k)) h

all_apart_after : (t : OperatorTable) (row : OperatorRow) (rs : OperatorTable) → AllByRecursion (λ r. is_operator_row InfixClass row.name r ≡ false) rs → AllByRecursion (λ r. is_operator_name_free t r ≡ true) rs
    → AllByRecursion (λ r. is_operator_name_free (with_operator t row) r ≡ true) rs
all_apart_after t row [] n h = tt
all_apart_after t row (r ∷ rs) n h = (apart_after t row r n.0 h.0, all_apart_after t row rs n.1 h.1)

-- by the row's class
apart_others : (class : OperatorClass) (t : OperatorTable) (row : OperatorRow) → class_of row.operator.kind ≡ class → conflicting_operator t class row.name ≡ None → AllByRecursion (λ r. is_operator_name_free t r ≡ true) t
    → AllByRecursion (λ r. is_operator_name_free (with_operator t row) r ≡ true) t
apart_others PrefixClass t row e n h = all_apart_still t row t (ap (λ c. class_rank c == 2) e) h
apart_others InfixClass t row e n h = all_apart_still t row t (ap (λ c. class_rank c == 2) e) h
apart_others PostfixClass t row e n h = all_apart_after t row t (none_found InfixClass row.name t n) h

apart_own : (class : OperatorClass) (t : OperatorTable) (row : OperatorRow) → class_of row.operator.kind ≡ class → conflicting_operator t class row.name ≡ None → is_operator_name_free (with_operator t row) row ≡ true
apart_own PrefixClass t row e n = ap (λ c. not (class_rank c == 1) || is_none (postfix_of (with_operator t row) row.name)) e
apart_own InfixClass t row e n =
    let miss : is_operator_row PostfixClass row.name row ≡ false = no_both (pointwise nat_eq row.name row.name) (row_rank row == 2) (ap (λ c. class_rank c == 2) e) in
    let none : postfix_of (with_operator t row) row.name ≡ None = found_with PostfixClass row.name row t ∙ (ap (λ b. cond b (Some row.operator) (postfix_of t row.name)) miss ∙ n) in
    ap (λ c. not (class_rank c == 1) || is_none (postfix_of (with_operator t row) row.name)) e ∙ ap is_none none
apart_own PostfixClass t row e n = ap (λ c. not (class_rank c == 1) || is_none (postfix_of (with_operator t row) row.name)) e

no_operator_still : (name : List ℕ) (row : OperatorRow) (t : OperatorTable) → pointwise nat_eq row.name name ≡ false → is_no_operator (with_operator t row) name ≡ is_no_operator t name
no_operator_still name row t e =
    let p = other_named PrefixClass name row t e in
    let i = other_named InfixClass name row t e in
    let s = other_named PostfixClass name row t e in
    cc

record MayBePut (t : OperatorTable) (r : OperatorRow) : Type 0 where
  least : 0 < r.operator.priority
  most : r.operator.priority ≤ 1200
  comma : pointwise nat_eq r.name (codes ",") ≡ false
  nil : pointwise nat_eq r.name (codes "[]") ≡ false
  braces : pointwise nat_eq r.name (codes "{}") ≡ false
  apart : conflicting_operator t (class_of r.operator.kind) r.name ≡ None

neither_true : (a b : Bool) → not (a || b) ≡ true → (a ≡ false) × (not b ≡ true)
neither_true true b e = let f : ⊥ = cc in absurd f
neither_true false b e = (refl, e)

none_there : {X : Type 0} (o : Option X) → is_none o ≡ true → o ≡ None
none_there None e = refl
none_there (Some x) e = let f : ⊥ = cc in absurd f

may_put : (t : OperatorTable) (r : OperatorRow) → may_be_added t r ≡ true → MayBePut t r
may_put t r e =
    let a = both_true (nat_lt 0 r.operator.priority) _ e in
    let b = both_true (nat_le r.operator.priority 1200) _ a.1 in
    let c = both_true (not (is_protected_name r.name)) _ b.1 in
    let d = neither_true (pointwise nat_eq r.name (codes ",")) _ c.0 in
    let k = neither_true (pointwise nat_eq r.name (codes "[]")) _ d.1 in
    record {
      least = ltb-true 0 r.operator.priority a.0;
      most = leb-true r.operator.priority 1200 b.0;
      comma = d.0;
      nil = k.0;
      braces = not_true (pointwise nat_eq r.name (codes "{}")) k.1;
      apart = none_there (conflicting_operator t (class_of r.operator.kind) r.name) c.1;
    }

pub table_with : (t : OperatorTable) (row : OperatorRow) → IsOperatorTable t → may_be_added t row ≡ true → IsOperatorTable (with_operator t row)
table_with t row h p =
    let m = may_put t row p in
    let HasPriority = λ (r : OperatorRow). (0 < r.operator.priority) × (r.operator.priority ≤ 1200) in
    let class = class_of row.operator.kind in
    let others = apart_others class t row refl m.apart (recursion_from_All (λ r. is_operator_name_free t r ≡ true) t h.apart) in
    let apart = λ (r : OperatorRow). is_operator_name_free (with_operator t row) r ≡ true in
    record {
      ordered = sorted_with row t h.ordered;
      priorities = All-from_recursion HasPriority (with_operator t row) (all_with HasPriority row t (m.least, m.most) (recursion_from_All HasPriority t h.priorities));
      apart = All-from_recursion apart (with_operator t row) (all_with apart row t (apart_own class t row refl m.apart) others);
      comma = other_named InfixClass (codes ",") row t m.comma ∙ h.comma;
      nil = no_operator_still (codes "[]") row t m.nil ∙ h.nil;
      braces = no_operator_still (codes "{}") row t m.braces ∙ h.braces;
    }
