-- A table changed by op/3 is a table.
use Rattle.std.proofs.Common.{◌≡◌, ◌∙◌, ℕ, zero, suc, ◌<◌, ◌≤◌, Bool, true, false, not, ◌&&◌, ◌||◌, ◌==◌, nat_eq, nat_le, nat_lt, cond, List, [], ◌∷◌, map, fold, Option, Some, None, Result, Ok, Err, codes, pos, refl, sym, ap, ap₂, subst, arith}
use Rattle.std.specs.Prelude.{IfErr, IsErrAnd, OnErr, OnOk}
use Rattle.std.specs.List.{AllByRecursion}
use Rattle.std.specs.List.Sorted.{IsStrictlySortedBy}
use Rattle.std.specs.Option.{option_map, is_none, is_some}
use Rattle.std.specs.declared.cmp.Ordering.TheVariants.{Less}
use Rattle.std.specs.Cmp.Lexicographic.{pointwise, same_text}
use Rattle.std.proofs.lemmas.Bool.Decides.{nat_tests}
use Rattle.std.proofs.lemmas.List.Elements.{All-from_recursion, recursion_from_All}
use Rattle.au_term.specs.Term.{Term, IntTerm, AtomTerm}
use Rattle.au_term.specs.declared.NoMemory.{NoMemory as NoMemoryLeft}
use Rattle.au_term.proofs.LogicLemmas.{both as both_true, and-both, neither, same_number}
use Rattle.au_model.specs.Terms.Each.{Each}
use Rattle.au_model.specs.Terms.Forms.{same_name, name_of}
use Rattle.au_model.specs.Terms.ErrorTerms.{permission_error}
use Rattle.au_model.specs.Terms.Faults.{error_term_of}
use Rattle.au_model.specs.Syntax.Operators.{OperatorClass, PrefixClass, InfixClass, PostfixClass, OperatorKind, class_of, class_rank, Operator, OperatorRow, OperatorTable, row_rank, row_order, is_operator_row, operator_of, prefix_of, infix_of, postfix_of, is_operator_name_free, is_no_operator, with_operator, without_operator, IsOperatorTable}
use Rattle.au_model.specs.Syntax.OperatorChanges.{kind_named, items_in, named_items, conflicting_operator, is_no_operator_name, first_error, argument_error, name_error, unless_error, with_named, with_names, operators_changed}
use Rattle.op_table.specs.OperatorView.{kind_meant, operator_meant}
use Rattle.op_table.specs.NameRows.{row_changed, operator_by}
use Rattle.op_table.specs.TableChanges.{is_protected_name, may_be_added}
use Rattle.op_table.specs.Arguments.{IsRead, IsTested, IsErrorOf, comma_error, making_error, is_refused}
use Rattle.op_table.specs.declared.change.Change.{Change}
use Rattle.op_table.specs.declared.operator.Operator.{Operator as DeclaredOperator}
use Rattle.op_table.specs.declared.refusal.OpRefusal.{OpRefusal}
use Rattle.op_table.specs.declared.refusal.OpRefusal.TheVariants.{Fault, NoMemory}
use Rattle.op_table.proofs.ArgumentLemmas.{none_refused}
use Rattle.op_table.proofs.TableChangeLemmas.{table_with, found_with, no_both}

-- ---- without an operator

module _ (class : OperatorClass) (name : List ℕ) where
  abbrev gone : OperatorRow → Bool
  gone r = is_operator_row class name r

  none_found : (c : OperatorClass) (b : List ℕ) (t : OperatorTable) → operator_of c t b ≡ None → operator_of c (without_operator class name t) b ≡ None
  none_found c b [] e = refl
  none_found c b (r ∷ rs) e = go (gone r) (is_operator_row c b r) refl e (none_found c b rs)
    where
      go : (x y : Bool) → is_operator_row c b r ≡ y → cond y (Some r.operator) (operator_of c rs b) ≡ None → (operator_of c rs b ≡ None → operator_of c (without_operator class name rs) b ≡ None)
          → operator_of c (cond (not x) (r ∷ without_operator class name rs) (without_operator class name rs)) b ≡ None
      go x true i e h = absurd cc
      go true false i e h = h e
      go false false i e h = ap (λ q. cond q (Some r.operator) (operator_of c (without_operator class name rs) b)) i ∙ h e

  -- rows that are not of the class or the name are found as before
  found_still : (c : OperatorClass) (b : List ℕ) (t : OperatorTable) → ((r : OperatorRow) → gone r ≡ true → is_operator_row c b r ≡ false) → operator_of c (without_operator class name t) b ≡ operator_of c t b
  found_still c b [] f = refl
  found_still c b (r ∷ rs) f = go (gone r) refl (found_still c b rs f)
    where
      go : (x : Bool) → gone r ≡ x → operator_of c (without_operator class name rs) b ≡ operator_of c rs b
          → operator_of c (cond (not x) (r ∷ without_operator class name rs) (without_operator class name rs)) b ≡ cond (is_operator_row c b r) (Some r.operator) (operator_of c rs b)
      go true i h = h ∙ sym (ap (λ q. cond q (Some r.operator) (operator_of c rs b)) (f r i))
      go false i h = ap (cond (is_operator_row c b r) (Some r.operator)) h

  all_still : (P : OperatorRow → Type 0) (t : OperatorTable) → AllByRecursion P t → AllByRecursion P (without_operator class name t)
  all_still P [] h = tt
  all_still P (r ∷ rs) h = go (gone r) (all_still P rs h.1)
    where
      go : (x : Bool) → AllByRecursion P (without_operator class name rs) → AllByRecursion P (cond (not x) (r ∷ without_operator class name rs) (without_operator class name rs))
      go true k = k
      go false k = (h.0, k)

  sorted_still : (t : OperatorTable) → IsStrictlySortedBy row_order t → IsStrictlySortedBy row_order (without_operator class name t)
  unfolding IsStrictlySortedBy
  sorted_still [] s = tt
  sorted_still (r ∷ rs) s = go (gone r) (all_still (λ q. row_order r q ≡ Less) rs s.0) (sorted_still rs s.1)
    where
      go : (x : Bool) → AllByRecursion (λ q. row_order r q ≡ Less) (without_operator class name rs) → IsStrictlySortedBy row_order (without_operator class name rs)
          → IsStrictlySortedBy row_order (cond (not x) (r ∷ without_operator class name rs) (without_operator class name rs))
      go true a k = k
      go false a k = (a, k)

  abbrev after : OperatorTable → OperatorTable
  after t = without_operator class name t

  or_not : (x : Bool) (o p : Option Operator) → (o ≡ None → p ≡ None) → (x || is_none o) ≡ true → (x || is_none p) ≡ true
  or_not true o p f h = refl
  or_not false None p f h = ap is_none (f refl)
  or_not false (Some q) p f h = absurd cc

  free_still : (t rs : OperatorTable) → AllByRecursion (λ r. is_operator_name_free t r ≡ true) rs → AllByRecursion (λ r. is_operator_name_free (after t) r ≡ true) rs
  free_still t [] h = tt
  free_still t (r ∷ rs) h = (or_not (not (row_rank r == class_rank InfixClass)) (postfix_of t r.name) (postfix_of (after t) r.name) (none_found PostfixClass r.name t) h.0, free_still t rs h.1)

  none_of : (o : Option Operator) → is_none o ≡ true → o ≡ None
  none_of None e = refl
  none_of (Some x) e = absurd cc

  no_operator_still : (t : OperatorTable) (n : List ℕ) → is_no_operator t n ≡ true → is_no_operator (after t) n ≡ true
  no_operator_still t n h =
      let a = both_true (is_none (prefix_of t n)) _ h in
      let b = both_true (is_none (infix_of t n)) (is_none (postfix_of t n)) a.1 in
      let p = ap is_none (none_found PrefixClass n t (none_of (prefix_of t n) a.0)) in
      let i = ap is_none (none_found InfixClass n t (none_of (infix_of t n) b.0)) in
      let s = ap is_none (none_found PostfixClass n t (none_of (postfix_of t n) b.1)) in
      and-both (is_none (prefix_of (after t) n)) _ p (and-both (is_none (infix_of (after t) n)) (is_none (postfix_of (after t) n)) i s)

  other_name : (c : OperatorClass) (b : List ℕ) → pointwise nat_eq name b ≡ false → (r : OperatorRow) → gone r ≡ true → is_operator_row c b r ≡ false
  other_name c b e r h =
      let same : r.name ≡ name = same_text r.name name (sym (both_true (pointwise nat_eq r.name name) (row_rank r == class_rank class) h).0) in
      ap (λ n. pointwise nat_eq n b && row_rank r == class_rank c) same ∙ ap (λ x. x && row_rank r == class_rank c) e

  other_class : (c : OperatorClass) (b : List ℕ) → (class_rank class == class_rank c) ≡ false → (r : OperatorRow) → gone r ≡ true → is_operator_row c b r ≡ false
  other_class c b e r h =
      let rank : row_rank r ≡ class_rank class = same_number (row_rank r) (class_rank class) (both_true (pointwise nat_eq r.name name) (row_rank r == class_rank class) h).1 in
      no_both (pointwise nat_eq r.name b) (row_rank r == class_rank c) (ap (λ n. n == class_rank c) rank ∙ e)

  table_without : (t : OperatorTable) → IsOperatorTable t → same_name name (codes ",") ≡ false → IsOperatorTable (after t)
  table_without t h e =
      let HasPriority = λ (r : OperatorRow). (0 < r.operator.priority) × (r.operator.priority ≤ 1200) in
      let Free = λ (r : OperatorRow). is_operator_name_free t r ≡ true in
      let FreeAfter = λ (r : OperatorRow). is_operator_name_free (after t) r ≡ true in
      record {
        ordered = sorted_still t h.ordered;
        priorities = All-from_recursion HasPriority (after t) (all_still HasPriority t (recursion_from_All HasPriority t h.priorities));
        apart = All-from_recursion FreeAfter (after t) (all_still FreeAfter t (free_still t t (recursion_from_All Free t h.apart)));
        comma = found_still InfixClass (codes ",") t (other_name InfixClass (codes ",") e) ∙ h.comma;
        nil = no_operator_still t (codes "[]") h.nil;
        braces = no_operator_still t (codes "{}") h.braces;
      }

-- ---- names one after another

-- an operator of another class is found as before
class_put : (c : OperatorClass) (b : List ℕ) (row : OperatorRow) (t : OperatorTable) → (row_rank row == class_rank c) ≡ false → operator_of c (with_operator t row) b ≡ operator_of c t b
class_put c b row t e = found_with c b row t ∙ ap (λ x. cond x (Some row.operator) (operator_of c t b)) (no_both (pointwise nat_eq row.name b) (row_rank row == class_rank c) e)

conflict_stays : (class : OperatorClass) (kind : OperatorKind) (n : ℕ) (t : OperatorTable) (a b : List ℕ) → class_of kind ≡ class → conflicting_operator (with_named n kind t a) class b ≡ conflicting_operator t class b
conflict_stays PrefixClass kind n t a b e = refl
conflict_stays InfixClass kind zero t a b e = found_still (class_of kind) a PostfixClass b t (other_class (class_of kind) a PostfixClass b (ap (λ c. class_rank c == 2) e))
conflict_stays InfixClass kind (suc n) t a b e = class_put PostfixClass b (record { name = a; operator = record { priority = suc n; kind = kind } }) t (ap (λ c. class_rank c == 2) e)
conflict_stays PostfixClass kind zero t a b e = found_still (class_of kind) a InfixClass b t (other_class (class_of kind) a InfixClass b (ap (λ c. class_rank c == 1) e))
conflict_stays PostfixClass kind (suc n) t a b e = class_put InfixClass b (record { name = a; operator = record { priority = suc n; kind = kind } }) t (ap (λ c. class_rank c == 1) e)

record MayHave (t : OperatorTable) (kind : OperatorKind) (a : List ℕ) : Type 0 where
  comma : same_name a (codes ",") ≡ false
  free : is_refused t kind (AtomTerm a) ≡ false

may_still : (t : OperatorTable) (kind : OperatorKind) (n : ℕ) (a : List ℕ) (bs : List (List ℕ)) → Each (MayHave t kind) bs → Each (MayHave (with_named n kind t a) kind) bs
may_still t kind n a [] h = tt
may_still t kind n a (b ∷ bs) h =
    (record { comma = h.0.comma; free = ap (λ o. is_no_operator_name b || is_some o) (conflict_stays (class_of kind) kind n t a b refl) ∙ h.0.free }, may_still t kind n a bs h.1)

not_some : (o : Option Operator) → is_some o ≡ false → is_none o ≡ true
not_some None e = refl
not_some (Some x) e = absurd cc

may_add : (t : OperatorTable) (kind : OperatorKind) (n : ℕ) (a : List ℕ) → suc n ≤ 1200 → MayHave t kind a → may_be_added t (record { name = a; operator = record { priority = suc n; kind = kind } }) ≡ true
may_add t kind n a le h =
    let p = neither (is_no_operator_name a) (is_some (conflicting_operator t (class_of kind) a)) h.free in
    let q = neither (same_name a (codes "[]")) _ p.0 in
    let r = neither (same_name a (codes "{}")) _ q.1 in
    let most : nat_le (suc n) 1200 ≡ true = grind (arith, nat_tests) in
    let kept : is_protected_name a ≡ false = rw (h.comma, q.0, r.0) refl in
    let some : nat_lt 0 (suc n) ≡ true = grind (arith, nat_tests) in
    and-both (nat_lt 0 (suc n)) _ some (and-both (nat_le (suc n) 1200) _ most (and-both (not (is_protected_name a)) _ (ap not kept) (not_some (conflicting_operator t (class_of kind) a) p.1)))

table_named : (t : OperatorTable) (kind : OperatorKind) (n : ℕ) (a : List ℕ) → n ≤ 1200 → IsOperatorTable t → MayHave t kind a → IsOperatorTable (with_named n kind t a)
table_named t kind zero a le h m = table_without (class_of kind) a t h m.comma
table_named t kind (suc n) a le h m = table_with t (record { name = a; operator = record { priority = suc n; kind = kind } }) h (may_add t kind n a le m)

table_changed : (t : OperatorTable) (kind : OperatorKind) (n : ℕ) (names : List (List ℕ)) → n ≤ 1200 → IsOperatorTable t → Each (MayHave t kind) names → IsOperatorTable (fold (with_named n kind) t names)
table_changed t kind n [] le h m = h
table_changed t kind n (a ∷ names) le h m = table_changed (with_named n kind t a) kind n names le (table_named t kind n a le h m.0) (may_still t kind n a names m.1)

-- ---- what was asked for

first_two : (d e : Option Term) → first_error (d ∷ e ∷ []) ≡ None → (d ≡ None) × (e ≡ None)
first_two None None h = (refl, refl)
first_two None (Some t) h = absurd cc
first_two (Some t) e h = absurd cc

both_pass : (t : OperatorTable) (kind : OperatorKind) (names : List (List ℕ)) → Each (λ a. same_name a (codes ",") ≡ false) names → Each (λ a. is_refused t kind (AtomTerm a) ≡ false) names → Each (MayHave t kind) names
both_pass t kind [] h k = tt
both_pass t kind (a ∷ names) h k = (record { comma = h.0; free = k.0 }, both_pass t kind names h.1 k.1)

may_all : (t : OperatorTable) (kind : OperatorKind) (names : List (List ℕ)) → name_error t (Some kind) (map AtomTerm names) ≡ None → Each (MayHave t kind) names
may_all t kind names e =
    let p = first_two (comma_error (map AtomTerm names)) (making_error t kind (map AtomTerm names)) e in
    both_pass t kind names (none_refused (λ name. same_name (name_of name) (codes ",")) (permission_error (codes "modify") (codes "operator")) names p.0) (none_refused (is_refused t kind) (permission_error (codes "create") (codes "operator")) names p.1)

row_named : (class : OperatorClass) (o : Option DeclaredOperator) (n : ℕ) (kind : OperatorKind) (t : OperatorTable) (a : List ℕ) → class ≡ class_of kind → option_map operator_meant o ≡ operator_by n kind → row_changed class o t a ≡ with_named n kind t a
row_named class None zero kind t a c e = ap (λ k. without_operator k a t) c
row_named class None (suc n) kind t a c e = absurd cc
row_named class (Some o) zero kind t a c e = absurd cc
row_named class (Some o) (suc n) kind t a c e = let same : operator_meant o ≡ (record { priority = suc n; kind = kind }) = cc in ap (λ p. with_operator t (record { name = a; operator = p })) same

fold_same : (f g : OperatorTable → List ℕ → OperatorTable) (t : OperatorTable) (names : List (List ℕ)) → ((u : OperatorTable) (a : List ℕ) → f u a ≡ g u a) → fold f t names ≡ fold g t names
fold_same f g t [] h = refl
fold_same f g t (a ∷ names) h = ap (λ u. fold f u names) (h t a) ∙ fold_same f g (g t a) names h

pub rows_changed : (class : OperatorClass) (o : Option DeclaredOperator) (n : ℕ) (kind : OperatorKind) (t : OperatorTable) (names : List (List ℕ)) → class ≡ class_of kind → option_map operator_meant o ≡ operator_by n kind
    → fold (row_changed class o) t names ≡ fold (with_named n kind) t names
rows_changed class o n kind t names c e = fold_same (row_changed class o) (with_named n kind) t names (λ u a. row_named class o n kind u a c e)

names_of_atoms : (names : List (List ℕ)) → map name_of (map AtomTerm names) ≡ names
names_of_atoms [] = refl
names_of_atoms (a ∷ names) = ap (λ q. a ∷ q) (names_of_atoms names)

second_error : (d e : Option Term) → d ≡ None → first_error (d ∷ e ∷ []) ≡ first_error (e ∷ [])
second_error d e h = ap (λ x. first_error (x ∷ e ∷ [])) h

module _ (t : OperatorTable) (p s n : Term) (c : Change) (none : argument_error p s n ≡ None) (read : IsRead p s n c) where
  abbrev names : List (List ℕ)
  names = c.names.items

  names_error : first_error (argument_error p s n ∷ name_error t (kind_named (name_of s)) (items_in (named_items n)) ∷ []) ≡ first_error (name_error t (Some (kind_meant c.kind)) (map AtomTerm names) ∷ [])
  names_error = second_error (argument_error p s n) (name_error t (kind_named (name_of s)) (items_in (named_items n))) none ∙ ap₂ (λ k ts. first_error (name_error t k ts ∷ [])) read.word read.atoms

  table_is : with_names p (kind_named (name_of s)) t (map name_of (items_in (named_items n))) ≡ fold (with_named c.priority (kind_meant c.kind)) t names
  table_is =
      ap (λ q. with_names q (kind_named (name_of s)) t (map name_of (items_in (named_items n)))) read.number
      ∙ (ap₂ (λ k ts. with_names (IntTerm (pos c.priority)) k t (map name_of ts)) read.word read.atoms ∙ ap (fold (with_named c.priority (kind_meant c.kind)) t) (names_of_atoms names))

  pub add_done : name_error t (Some (kind_meant c.kind)) (map AtomTerm names) ≡ None → operators_changed t p s n ≡ Ok (fold (with_named c.priority (kind_meant c.kind)) t names)
  add_done e = ap₂ unless_error (names_error ∙ ap (λ x. first_error (x ∷ [])) e) table_is

  add_fails : (f : Term) → name_error t (Some (kind_meant c.kind)) (map AtomTerm names) ≡ Some f → operators_changed t p s n ≡ Err f
  add_fails f e = ap₂ unless_error (names_error ∙ ap (λ x. first_error (x ∷ [])) e) table_is

  pub add_refused : {X : Type 0} (P : X → Type 0) (r : Result X OpRefusal) (e : OpRefusal) (q : Result (Unit {0}) OpRefusal) → IsTested (name_error t (Some (kind_meant c.kind)) (map AtomTerm names)) P r → r ≡ Err e → IsErrAnd q (λ d. d ≡ e)
      → IfErr q (IsErrorOf (operators_changed t p s n))
  add_refused P r e (Ok u) h is same = absurd same
  add_refused P r e (Err d) h is same = by d (subst (IsTested (name_error t (Some (kind_meant c.kind)) (map AtomTerm names)) P) (is ∙ ap Err (sym same)) h)
    where
      by : (x : OpRefusal) → IsTested (name_error t (Some (kind_meant c.kind)) (map AtomTerm names)) P (Err x) → IsErrorOf (operators_changed t p s n) x
      by (Fault fault) k = add_fails (error_term_of fault) k
      by NoMemory k = tt

  pub add_table : c.priority ≤ 1200 → IsOperatorTable t → name_error t (Some (kind_meant c.kind)) (map AtomTerm names) ≡ None → IsOperatorTable (fold (with_named c.priority (kind_meant c.kind)) t names)
  add_table le h e = table_changed t (kind_meant c.kind) c.priority names le h (may_all t (kind_meant c.kind) names e)

-- a table that has changed or has not
pub either_table : (r : Result (Unit {0}) NoMemoryLeft) (t a b : OperatorTable) → OnOk r (t ≡ a) → OnErr r (t ≡ b) → IsOperatorTable a → IsOperatorTable b → IsOperatorTable t
either_table (Ok u) t a b h k x y = subst IsOperatorTable (sym h) x
either_table (Err e) t a b h k x y = subst IsOperatorTable (sym k) y
