-- Entries of a map with other values.
use Rattle.std.proofs.Common.{◌≡◌, Bool, true, false, cond, List, [], ◌∷◌, map, Option, Some, None, refl, ap, subst}
use Rattle.std.specs.List.{AllByRecursion}
use Rattle.std.specs.Option.{option_map, is_some}
use Rattle.std.specs.Ordering.{match_ordering}
use Rattle.std.specs.declared.cmp.Ordering.{Ordering}
use Rattle.std.specs.declared.cmp.Ordering.TheVariants.{Less, Equal, Greater}
use Rattle.std.specs.Map.{lookup, remove_entry}
use Rattle.std.specs.BTreeMap.{insert_entry}

module _ {K X Y : Type 0} (f : X → Y) where
  abbrev pub with_value : K × X → K × Y
  with_value e = (e.0, f e.1)

  pub lookup_mapped : (test : K → Bool) (es : List (K × X)) → lookup test (map with_value es) ≡ option_map f (lookup test es)
  lookup_mapped test [] = refl
  lookup_mapped test (e ∷ es) = go (test e.0) (lookup_mapped test es)
    where
      go : (b : Bool) → lookup test (map with_value es) ≡ option_map f (lookup test es) → cond b (Some (f e.1)) (lookup test (map with_value es)) ≡ option_map f (cond b (Some e.1) (lookup test es))
      go true h = refl
      go false h = h

  pub insert_mapped : (R : K → K → Ordering) (es : List (K × X)) (k : K) (x : X) → map with_value (insert_entry R es k x) ≡ insert_entry R (map with_value es) k (f x)
  insert_mapped R [] k x = refl
  insert_mapped R (e ∷ es) k x = go (R k e.0) (insert_mapped R es k x)
    where
      go : (o : Ordering) → map with_value (insert_entry R es k x) ≡ insert_entry R (map with_value es) k (f x)
          → map with_value (match_ordering o ((k, x) ∷ e ∷ es) ((e.0, x) ∷ es) (e ∷ insert_entry R es k x)) ≡ match_ordering o ((k, f x) ∷ with_value e ∷ map with_value es) ((e.0, f x) ∷ map with_value es) (with_value e ∷ insert_entry R (map with_value es) k (f x))
      go Less h = refl
      go Equal h = refl
      go Greater h = ap (λ ds. with_value e ∷ ds) h

  pub remove_mapped : (test : K → Bool) (es : List (K × X)) → map with_value (remove_entry test es) ≡ remove_entry test (map with_value es)
  remove_mapped test [] = refl
  remove_mapped test (e ∷ es) = go (test e.0) (remove_mapped test es)
    where
      go : (b : Bool) → map with_value (remove_entry test es) ≡ remove_entry test (map with_value es) → map with_value (cond b es (e ∷ remove_entry test es)) ≡ cond b (map with_value es) (with_value e ∷ remove_entry test (map with_value es))
      go true h = refl
      go false h = ap (λ ds. with_value e ∷ ds) h

module _ {K X : Type 0} (Q : X → Type 0) where
  pub all_inserted : (R : K → K → Ordering) (es : List (K × X)) (k : K) (x : X) → AllByRecursion (λ e. Q e.1) es → Q x → AllByRecursion (λ e. Q e.1) (insert_entry R es k x)
  all_inserted R [] k x h q = (q, tt)
  all_inserted R (e ∷ es) k x h q = go (R k e.0) (all_inserted R es k x h.1 q)
    where
      go : (o : Ordering) → AllByRecursion (λ e. Q e.1) (insert_entry R es k x) → AllByRecursion (λ e. Q e.1) (match_ordering o ((k, x) ∷ e ∷ es) ((e.0, x) ∷ es) (e ∷ insert_entry R es k x))
      go Less r = (q, h)
      go Equal r = (q, h.1)
      go Greater r = (h.0, r)

  pub all_removed : (test : K → Bool) (es : List (K × X)) → AllByRecursion (λ e. Q e.1) es → AllByRecursion (λ e. Q e.1) (remove_entry test es)
  all_removed test [] h = tt
  all_removed test (e ∷ es) h = go (test e.0) (all_removed test es h.1)
    where
      go : (b : Bool) → AllByRecursion (λ e. Q e.1) (remove_entry test es) → AllByRecursion (λ e. Q e.1) (cond b es (e ∷ remove_entry test es))
      go true r = h.1
      go false r = (h.0, r)

  pub all_found : (test : K → Bool) (es : List (K × X)) (x : X) → AllByRecursion (λ e. Q e.1) es → Some x ≡ lookup test es → Q x
  all_found test [] x h e = absurd cc
  all_found test (d ∷ es) x h e = go (test d.0) e (all_found test es x h.1)
    where
      go : (b : Bool) → Some x ≡ cond b (Some d.1) (lookup test es) → (Some x ≡ lookup test es → Q x) → Q x
      go true k r = let same : d.1 ≡ x = cc in subst Q same h.0
      go false k r = r k

pub none_mapped : {X Y : Type 0} (f : X → Y) (o : Option X) → option_map f o ≡ None → o ≡ None
none_mapped f None e = refl
none_mapped f (Some x) e = absurd cc

pub some_mapped : {X Y : Type 0} (f : X → Y) (o : Option X) → is_some (option_map f o) ≡ is_some o
some_mapped f None = refl
some_mapped f (Some x) = refl
