-- Names by their characters: what is done at a key of the map is done at its name.
use Rattle.std.proofs.Common.{◌≡◌, ℕ, Bool, true, false, cond, List, [], ◌∷◌, map, Some, refl, sym, ap, ap₂, ◌∙◌}
use Rattle.std.specs.Global.{Global}
use Rattle.std.specs.Prelude.{String}
use Rattle.std.specs.String.{string_bytes, string_cmp}
use Rattle.std.specs.Str.{chars, IsUtf8}
use Rattle.std.specs.List.{AllByRecursion, AllZip}
use Rattle.std.specs.List.Sorted.{IsStrictlySortedBy}
use Rattle.std.specs.Ordering.{nat_cmp, is_eq, match_ordering}
use Rattle.std.specs.declared.cmp.Ordering.{Ordering}
use Rattle.std.specs.declared.cmp.Ordering.TheVariants.{Less, Equal, Greater}
use Rattle.std.specs.Cmp.Lexicographic.{slice_cmp}
use Rattle.std.specs.Map.{keys_of, lookup, set_value}
use Rattle.std.specs.BTreeMap.{is_at, insert_entry}
use Rattle.std.proofs.lemmas.Str.{IsUtf8-string_bytes}
use Rattle.op_table.specs.declared.names.NameOperators.{NameOperators}
use Rattle.op_table.specs.NameRows.{named_entry}
use Rattle.op_table.proofs.TextOrderLemmas.{chars_order}

abbrev Entries : Type 0
Entries = List (String Global × NameOperators)

pub key_order : (j k : String Global) → string_cmp j k ≡ slice_cmp nat_cmp (chars (string_bytes j)) (chars (string_bytes k))
key_order j k = chars_order (string_bytes j) (string_bytes k) (IsUtf8-string_bytes j) (IsUtf8-string_bytes k)

-- where a text is from a key
pub text_order : (bs : List ℕ) (k : String Global) → IsUtf8 bs → slice_cmp nat_cmp bs (string_bytes k) ≡ slice_cmp nat_cmp (chars bs) (chars (string_bytes k))
text_order bs k u = chars_order bs (string_bytes k) u (IsUtf8-string_bytes k)

module _ (bs : List ℕ) (u : IsUtf8 bs) where
  test_named : (k : String Global) → is_at (λ j. slice_cmp nat_cmp bs (string_bytes j)) k ≡ is_at (slice_cmp nat_cmp (chars bs)) (chars (string_bytes k))
  test_named k = ap is_eq (text_order bs k u)

  pub lookup_named : (es : Entries) → lookup (is_at (λ j. slice_cmp nat_cmp bs (string_bytes j))) es ≡ lookup (is_at (slice_cmp nat_cmp (chars bs))) (map named_entry es)
  lookup_named [] = refl
  lookup_named (e ∷ es) = ap (λ b. cond b (Some e.1) (lookup (is_at (λ j. slice_cmp nat_cmp bs (string_bytes j))) es)) (test_named e.0)
      ∙ ap (λ o. cond (is_at (slice_cmp nat_cmp (chars bs)) (chars (string_bytes e.0))) (Some e.1) o) (lookup_named es)

  pub set_named : (es : Entries) (w : NameOperators) → map named_entry (set_value (is_at (λ j. slice_cmp nat_cmp bs (string_bytes j))) es w) ≡ set_value (is_at (slice_cmp nat_cmp (chars bs))) (map named_entry es) w
  set_named [] w = refl
  set_named (e ∷ es) w = go (is_at (λ j. slice_cmp nat_cmp bs (string_bytes j)) e.0) (is_at (slice_cmp nat_cmp (chars bs)) (chars (string_bytes e.0))) (test_named e.0) (set_named es w)
    where
      go : (b c : Bool) → b ≡ c → map named_entry (set_value (is_at (λ j. slice_cmp nat_cmp bs (string_bytes j))) es w) ≡ set_value (is_at (slice_cmp nat_cmp (chars bs))) (map named_entry es) w
          → map named_entry (cond b ((e.0, w) ∷ es) (e ∷ set_value (is_at (λ j. slice_cmp nat_cmp bs (string_bytes j))) es w))
          ≡ cond c ((chars (string_bytes e.0), w) ∷ map named_entry es) (named_entry e ∷ set_value (is_at (slice_cmp nat_cmp (chars bs))) (map named_entry es) w)
      go true true i h = refl
      go true false i h = absurd cc
      go false true i h = absurd cc
      go false false i h = ap (λ ds. named_entry e ∷ ds) h

pub insert_named : (es : Entries) (k : String Global) (v : NameOperators) → map named_entry (insert_entry string_cmp es k v) ≡ insert_entry (slice_cmp nat_cmp) (map named_entry es) (chars (string_bytes k)) v
insert_named [] k v = refl
insert_named (e ∷ es) k v = go (string_cmp k e.0) (slice_cmp nat_cmp (chars (string_bytes k)) (chars (string_bytes e.0))) (key_order k e.0) (insert_named es k v)
  where
    go : (o p : Ordering) → o ≡ p → map named_entry (insert_entry string_cmp es k v) ≡ insert_entry (slice_cmp nat_cmp) (map named_entry es) (chars (string_bytes k)) v
        → map named_entry (match_ordering o ((k, v) ∷ e ∷ es) ((e.0, v) ∷ es) (e ∷ insert_entry string_cmp es k v))
        ≡ match_ordering p ((chars (string_bytes k), v) ∷ named_entry e ∷ map named_entry es) ((chars (string_bytes e.0), v) ∷ map named_entry es) (named_entry e ∷ insert_entry (slice_cmp nat_cmp) (map named_entry es) (chars (string_bytes k)) v)
    go Less p i h = ap (λ q. match_ordering q ((chars (string_bytes k), v) ∷ named_entry e ∷ map named_entry es) ((chars (string_bytes e.0), v) ∷ map named_entry es) (named_entry e ∷ insert_entry (slice_cmp nat_cmp) (map named_entry es) (chars (string_bytes k)) v)) i
    go Equal p i h = ap (λ q. match_ordering q ((chars (string_bytes k), v) ∷ named_entry e ∷ map named_entry es) ((chars (string_bytes e.0), v) ∷ map named_entry es) (named_entry e ∷ insert_entry (slice_cmp nat_cmp) (map named_entry es) (chars (string_bytes k)) v)) i
    go Greater p i h = ap (λ ds. named_entry e ∷ ds) h ∙ ap (λ q. match_ordering q ((chars (string_bytes k), v) ∷ named_entry e ∷ map named_entry es) ((chars (string_bytes e.0), v) ∷ map named_entry es) (named_entry e ∷ insert_entry (slice_cmp nat_cmp) (map named_entry es) (chars (string_bytes k)) v)) i

all_named : (k : String Global) (es : Entries) → AllByRecursion (λ j. string_cmp k j ≡ Less) (keys_of es) → AllByRecursion (λ n. slice_cmp nat_cmp (chars (string_bytes k)) n ≡ Less) (keys_of (map named_entry es))
all_named k [] h = tt
all_named k (e ∷ es) h = (sym (key_order k e.0) ∙ h.0, all_named k es h.1)

pub sorted_named : (es : Entries) → IsStrictlySortedBy string_cmp (keys_of es) → IsStrictlySortedBy (slice_cmp nat_cmp) (keys_of (map named_entry es))
unfolding IsStrictlySortedBy
sorted_named [] s = tt
sorted_named (e ∷ es) s = (all_named e.0 es s.0, sorted_named es s.1)

all_keys : (k : String Global) (es : Entries) → AllByRecursion (λ n. slice_cmp nat_cmp (chars (string_bytes k)) n ≡ Less) (keys_of (map named_entry es)) → AllByRecursion (λ j. string_cmp k j ≡ Less) (keys_of es)
all_keys k [] h = tt
all_keys k (e ∷ es) h = (key_order k e.0 ∙ h.0, all_keys k es h.1)

pub sorted_keys : (es : Entries) → IsStrictlySortedBy (slice_cmp nat_cmp) (keys_of (map named_entry es)) → IsStrictlySortedBy string_cmp (keys_of es)
unfolding IsStrictlySortedBy
sorted_keys [] s = tt
sorted_keys (e ∷ es) s = (all_keys e.0 es s.0, sorted_keys es s.1)

-- entries that are clones of others have their names and operators
pub clones_named : (C : String Global → String Global → Type 0) (D : NameOperators → NameOperators → Type 0) → ((j k : String Global) → C j k → string_bytes k ≡ string_bytes j) → ((s t : NameOperators) → D s t → t ≡ s)
    → (es fs : Entries) → AllZip (λ p q. C p.0 q.0 × D p.1 q.1) es fs → map named_entry fs ≡ map named_entry es
clones_named C D f g [] [] h = refl
clones_named C D f g [] (q ∷ fs) h = absurd h
clones_named C D f g (p ∷ es) [] h = absurd h
clones_named C D f g (p ∷ es) (q ∷ fs) h = ap₂ (λ (n : List ℕ × NameOperators) ns. n ∷ ns) (ap₂ (λ (b : List ℕ) (s : NameOperators). (chars b, s)) (f p.0 q.0 h.0.0) (g p.1 q.1 h.0.1)) (clones_named C D f g es fs h.1)
