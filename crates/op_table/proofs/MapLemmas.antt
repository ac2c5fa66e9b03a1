-- The map of names: what its changes are of the names and their rows.
use Rattle.std.proofs.Common.{◌≡◌, ◌∙◌, ℕ, zero, suc, ◌+◌, ◌<◌, ◌≤◌, true, false, List, [], ◌∷◌, ◌++◌, map, fold, take, length, get_or, Option, Some, None, refl, sym, ap, ap₂, subst, append-nil, append_assoc, arith}
use Rattle.std.specs.Prelude.{String, IsSome}
use Rattle.std.specs.Global.{Global}
use Rattle.std.specs.Borrow.{Bor}
use Rattle.std.specs.Map.Iter.{deref_pair}
use Rattle.std.specs.String.{string_bytes, string_cmp}
use Rattle.std.specs.Str.{chars, IsUtf8}
use Rattle.std.specs.Option.{is_some}
use Rattle.std.specs.Ordering.{nat_cmp}
use Rattle.std.specs.declared.cmp.Ordering.{Ordering}
use Rattle.std.specs.List.{AllByRecursion}
use Rattle.std.specs.List.Sorted.{IsStrictlySortedBy}
use Rattle.std.specs.Cmp.Lexicographic.{slice_cmp}
use Rattle.std.specs.Map.{keys_of, lookup, set_value}
use Rattle.std.specs.BTreeMap.{BTreeMap, IsOrdered, get_by, is_at, insert_entry}
use Rattle.std.proofs.lemmas.Map.{none_passes_from_lookup}
use Rattle.au_term.proofs.LogicLemmas.{true_false}
use Rattle.au_term.proofs.OptionLemmas.{none_value}
use Rattle.au_model.specs.Terms.Each.{Each}
use Rattle.au_model.specs.Syntax.Operators.{OperatorClass, operator_of}
use Rattle.op_table.specs.declared.operator.Operator.{Operator as DeclaredOperator}
use Rattle.op_table.specs.declared.names.NameOperators.{NameOperators}
use Rattle.op_table.specs.NameRows.{named_entry, named_entries, rows_of, IsNames, HasName, no_operators, with_class, fits_class, is_classed, row_changed, name_rows, table_rows}
use Rattle.op_table.proofs.NameOrderLemmas.{lookup_named, set_named, insert_named, sorted_keys, sorted_named}
use Rattle.op_table.proofs.NameRowLemmas.{found_in, rows_found, rows_put, rows_taken, rows_absent, rows_placed, place_there, place_kept, value_kept, classed_with, classed_at, classed_set, classed_inserted}

abbrev Names : Type 0
Names = BTreeMap (String Global) NameOperators

abbrev asked : List ℕ → String Global → Ordering
asked bs k = slice_cmp nat_cmp bs (string_bytes k)

-- what is at a name
abbrev at_name : Names → List ℕ → Option NameOperators
at_name m name = lookup (is_at (slice_cmp nat_cmp name)) (named_entries m)

pub found : (m : Names) (bs : List ℕ) (o : Option NameOperators) → IsUtf8 bs → o ≡ get_by (asked bs) m → o ≡ at_name m (chars bs)
found m bs o u e = e ∙ lookup_named bs u m.entries

pub operator_found : (class : OperatorClass) (m : Names) (bs : List ℕ) (o : Option NameOperators) → IsUtf8 bs → IsNames m → o ≡ get_by (asked bs) m → found_in class o ≡ operator_of class (rows_of m) (chars bs)
operator_found class m bs o u h e =
    ap (found_in class) (found m bs o u e) ∙ sym (rows_found class (chars bs) (named_entries m) (sorted_named m.entries h.ordered) h.classed)

pub has_name : (m : Names) (bs : List ℕ) → IsUtf8 bs → is_some (get_by (asked bs) m) ≡ true → HasName m (chars bs)
has_name m bs u e = ap is_some (sym (lookup_named bs u m.entries)) ∙ e

-- a place made for a name
pub record IsPlaced (m n : Names) (name : List ℕ) : Type 0 where
  pub names : IsNames n
  pub rows : rows_of n ≡ rows_of m
  pub there : HasName n name
  pub kept : (q : List ℕ) → HasName m q → HasName n q

pub placed : (m n : Names) (bs : List ℕ) (k : String Global) (s : NameOperators) → IsUtf8 bs → IsNames m → is_some (get_by (asked bs) m) ≡ false → string_bytes k ≡ bs → s ≡ no_operators
    → n.entries ≡ insert_entry string_cmp m.entries k s → IsOrdered string_cmp n → IsPlaced m n (chars bs)
placed m n bs k s u h none key empty entries ordered =
    let name = chars bs in
    let es = named_entries m in
    let is : named_entries n ≡ insert_entry (slice_cmp nat_cmp) es name no_operators =
    ap (map named_entry) entries ∙ (insert_named m.entries k s ∙ ap₂ (λ b t. insert_entry (slice_cmp nat_cmp) es (chars b) t) key empty) in
    let absent : lookup (is_at (slice_cmp nat_cmp name)) es ≡ None = none_value (at_name m name) (ap is_some (sym (lookup_named bs u m.entries)) ∙ none) in
    record {
      names = record { ordered = ordered; classed = subst (AllByRecursion (λ e. is_classed e.1 ≡ true)) (sym is) (classed_inserted name no_operators es h.classed refl) };
      rows = ap table_rows is ∙ rows_placed name es absent;
      there = subst (λ ds. IsSome (lookup (is_at (slice_cmp nat_cmp name)) ds)) (sym is) (place_there name es no_operators);
      kept = λ q k. subst (λ ds. IsSome (lookup (is_at (slice_cmp nat_cmp q)) ds)) (sym is) (place_kept q name es no_operators k);
    }

-- an operator put at a name that has a place, or taken away
pub record IsSet (m n : Names) (class : OperatorClass) (o : Option DeclaredOperator) (name : List ℕ) : Type 0 where
  pub names : IsNames n
  pub rows : rows_of n ≡ row_changed class o (rows_of m) name
  pub kept : (q : List ℕ) → HasName m q → HasName n q

pub set_there : (m n : Names) (class : OperatorClass) (o : Option DeclaredOperator) (bs : List ℕ) (s w : NameOperators) → IsUtf8 bs → IsNames m → fits_class class o ≡ true
    → Some s ≡ get_by (asked bs) m → w ≡ with_class class o s → n.entries ≡ set_value (is_at (asked bs)) m.entries w → IsOrdered string_cmp n → IsSet m n class o (chars bs)
set_there m n class o bs s w u h f there value entries ordered =
    let name = chars bs in
    let es = named_entries m in
    let is : named_entries n ≡ set_value (is_at (slice_cmp nat_cmp name)) es (with_class class o s) = ap (map named_entry) entries ∙ (set_named bs u m.entries w ∙ ap (set_value (is_at (slice_cmp nat_cmp name)) es) value) in
    let at : lookup (is_at (slice_cmp nat_cmp name)) es ≡ Some s = sym (found m bs (Some s) u there) in
    let sorted = sorted_named m.entries h.ordered in
    record {
      names = record { ordered = ordered; classed = subst (AllByRecursion (λ e. is_classed e.1 ≡ true)) (sym is) (classed_set name (with_class class o s) es h.classed (classed_with class o s (classed_at name s es h.classed at) f)) };
      rows = ap table_rows is ∙ by o f at sorted;
      kept = λ q k. subst (λ ds. IsSome (lookup (is_at (slice_cmp nat_cmp q)) ds)) (sym is) (value_kept q name es (with_class class o s) k);
    }
  where
    by : (p : Option DeclaredOperator) → fits_class class p ≡ true → lookup (is_at (slice_cmp nat_cmp (chars bs))) (named_entries m) ≡ Some s → IsStrictlySortedBy (slice_cmp nat_cmp) (keys_of (named_entries m))
        → table_rows (set_value (is_at (slice_cmp nat_cmp (chars bs))) (named_entries m) (with_class class p s)) ≡ row_changed class p (rows_of m) (chars bs)
    by None g a t = rows_taken class (chars bs) s (named_entries m) t h.classed a
    by (Some p) g a t = rows_put class (chars bs) p s (named_entries m) t h.classed g a

-- nothing is to be taken away
pub set_absent : (m n : Names) (class : OperatorClass) (o : Option DeclaredOperator) (bs : List ℕ) → IsUtf8 bs → (IsSome o → HasName m (chars bs)) → None ≡ get_by (asked bs) m → n ≡ m
    → rows_of n ≡ row_changed class o (rows_of m) (chars bs)
set_absent m n class o bs u there none same = ap rows_of same ∙ by o there (sym (found m bs None u none))
  where
    by : (p : Option DeclaredOperator) → (IsSome p → HasName m (chars bs)) → at_name m (chars bs) ≡ None → rows_of m ≡ row_changed class p (rows_of m) (chars bs)
    by None t a = sym (rows_absent class (chars bs) (named_entries m) (none_passes_from_lookup (is_at (slice_cmp nat_cmp (chars bs))) (named_entries m) a))
    by (Some p) t a = let yes = t refl in let no : is_some (at_name m (chars bs)) ≡ false = ap is_some a in absurd (true_false (sym yes ∙ no))

-- names one after another
pub each_more : (P : List ℕ → Type 0) (xs : List (List ℕ)) (i : ℕ) (x : List ℕ) → i < length xs → x ≡ get_or xs i x → Each P (take i xs) → P x → Each P (take (i + 1) xs)
each_more P [] i x lt e h p = absurd (omega arith)
each_more P (y ∷ ys) zero x lt e h p = (subst P e p, tt)
each_more P (y ∷ ys) (suc i) x lt e h p = let n : suc i + 1 ≡ suc (i + 1) = omega arith in subst (λ m. Each P (take m (y ∷ ys))) (sym n) (h.0, each_more P ys i x (omega arith) e h.1 p)

pub each_kept : (P Q : List ℕ → Type 0) (xs : List (List ℕ)) → ((x : List ℕ) → P x → Q x) → Each P xs → Each Q xs
each_kept P Q [] f h = tt
each_kept P Q (x ∷ xs) f h = (f x h.0, each_kept P Q xs f h.1)

pub each_at : (P : List ℕ → Type 0) (xs : List (List ℕ)) (i : ℕ) (x : List ℕ) → i < length xs → x ≡ get_or xs i x → Each P xs → P x
each_at P [] i x lt e h = absurd (omega arith)
each_at P (y ∷ ys) zero x lt e h = subst P (sym e) h.0
each_at P (y ∷ ys) (suc i) x lt e h = each_at P ys i x (omega arith) e h.1

pub take_whole : (xs : List (List ℕ)) (i : ℕ) → length xs ≤ i → take i xs ≡ xs
take_whole [] zero le = refl
take_whole [] (suc i) le = refl
take_whole (x ∷ xs) zero le = absurd (omega arith)
take_whole (x ∷ xs) (suc i) le = ap (λ ys. x ∷ ys) (take_whole xs i (omega arith))

pub fold_more : {T : Type 0} (f : T → List ℕ → T) (t : T) (xs : List (List ℕ)) (i : ℕ) (x : List ℕ) → i < length xs → x ≡ get_or xs i x → fold f t (take (i + 1) xs) ≡ f (fold f t (take i xs)) x
fold_more f t [] i x lt e = absurd (omega arith)
fold_more f t (y ∷ ys) zero x lt e = ap (f t) (sym e)
fold_more f t (y ∷ ys) (suc i) x lt e = let n : suc i + 1 ≡ suc (i + 1) = omega arith in ap (λ m. fold f t (take m (y ∷ ys))) n ∙ fold_more f (f t y) ys i x (omega arith) e

-- the same names in another map
pub names_copied : (m n : Names) → named_entries n ≡ named_entries m → IsNames m → IsNames n
names_copied m n e h = record {
  ordered = sorted_keys n.entries (subst (λ (es : List (List ℕ × NameOperators)). IsStrictlySortedBy (slice_cmp nat_cmp) (keys_of es)) (sym e) (sorted_named m.entries h.ordered));
  classed = subst (AllByRecursion (λ x. is_classed x.1 ≡ true)) (sym e) h.classed;
}

-- one more name
pub rows_push : (ys : List (Bor (String Global) × Bor NameOperators)) (k : Bor (String Global)) (s : Bor NameOperators)
    → table_rows (map named_entry (map deref_pair (ys ++ (k, s) ∷ []))) ≡ table_rows (map named_entry (map deref_pair ys)) ++ name_rows (chars (string_bytes k.now)) s.now
rows_push [] k s = append-nil (name_rows (chars (string_bytes k.now)) s.now)
rows_push (y ∷ ys) k s =
    let front = name_rows (chars (string_bytes y.0.now)) y.1.now in
    ap (λ t. front ++ t) (rows_push ys k s) ∙ sym (append_assoc front (table_rows (map named_entry (map deref_pair ys))) (name_rows (chars (string_bytes k.now)) s.now))
