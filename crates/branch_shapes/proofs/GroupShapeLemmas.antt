-- Entries in groups have the shape of nodes.
use Rattle.std.proofs.Common.{◌≡◌, ◌⊎◌, inl, inr, ℕ, zero, suc, ◌+◌, ◌-◌, ◌≤◌, ◌&&◌, Bool, true, false, not, List, [], ◌∷◌, ◌++◌, map, length, take, drop}
use Rattle.std.proofs.Common.{refl, sym, ap, ◌∙◌, subst, arith}
use Rattle.std.specs.List.{list_any}
use Rattle.std.specs.Prelude.{nat_lt, Some}
use Rattle.std.proofs.lemmas.Bool.Decides.{nat_tests}
use Rattle.std.proofs.lemmas.List.{append-nil, length-append, take_at, drop_at}
use Rattle.au_term.proofs.LogicLemmas.{and-both, and-false, not_less, less}
use Rattle.au_model.specs.Terms.Each.{Each}
use Rattle.au_model.proofs.EachLemmas.{each-append, each-more}
use Rattle.run_model.specs.Machine.Entries.{Entry}
use Rattle.tree_model.specs.Legality.{run_fits}
use Rattle.tree_model.specs.Shapes.{further, cuts_of_entry, cuts_of, is_alone, is_unsplit, fits_nodes, fits_shape}
use Rattle.branch_shapes.specs.Groups.{Groups, stacked, height_kept, nonempty_groups, or_alone, node_sizes}
use Rattle.branch_shapes.specs.GroupLaws.{KeepsGroups, IsWholeHeight, GroupsFit}
use Rattle.branch_shapes.proofs.GroupScopeLemmas.{size_of}

-- a whole height is over the first group or not above its floor
above_first : (low : ℕ) (g : List Entry) (gs : Groups) (h c : ℕ) → h ≡ height_kept low (g ∷ gs) c → (h ≤ low) ⊎ KeepsGroups (low + length g) gs h
above_first low g gs h zero e = inl (omega arith)
above_first low g gs h (suc c) e = inr (record { groups = c; is = omega (arith, e) })

whole_above : (low : ℕ) (g : List Entry) (gs : Groups) (h : ℕ) → IsWholeHeight low (g ∷ gs) h → IsWholeHeight (low + length g) gs h
whole_above low g gs h (inl le) = inl (omega arith)
whole_above low g gs h (inr k) = elim (above_first low g gs h k.groups k.is) [ inl le ↦ inl (omega arith) | inr m ↦ inr m ]

outside : (low : ℕ) (g : List Entry) (gs : Groups) (h : ℕ) → IsWholeHeight low (g ∷ gs) h → (h ≤ low) ⊎ (low + length g ≤ h)
outside low g gs h (inl le) = inl le
outside low g gs h (inr k) = elim (above_first low g gs h k.groups k.is) [ inl le ↦ inl le | inr m ↦ inr (omega (arith, m.is)) ]

not_inside : (low size h : ℕ) → (h ≤ low) ⊎ (low + further size ≤ h) → (nat_lt low h && nat_lt h (low + further size)) ≡ false
not_inside low size h (inl le) = ap (λ b. b && nat_lt h (low + further size)) (not_less low h le)
not_inside low size h (inr ge) = ap (λ b. nat_lt low h && b) (not_less h (low + further size) ge) ∙ and-false (nat_lt low h)

none_any : (p : ℕ → Bool) (xs : List ℕ) → Each (λ x. p x ≡ false) xs → list_any p xs ≡ false
none_any p [] h = refl
none_any p (x ∷ xs) h = cc (h.0, none_any p xs h.1)

unsplit : (low : ℕ) (g : List Entry) (gs : Groups) (cuts : List ℕ) → Each (IsWholeHeight low (g ∷ gs)) cuts → is_unsplit low (size_of g) cuts ≡ true
unsplit low g gs cuts h = ap not (none_any (λ k. nat_lt low k && nat_lt k (low + further (size_of g))) cuts
    (each-more (IsWholeHeight low (g ∷ gs)) (λ k. (nat_lt low k && nat_lt k (low + further (size_of g))) ≡ false)
    (λ k w. not_inside low (size_of g) k (elim (outside low g gs k w) [ inl le ↦ inl le | inr ge ↦ inr (omega arith) ])) cuts h))

-- the entries of the outermost node, and those over it
module _ (e : Entry) (above g : List Entry) where
  abbrev all_of : List Entry
  all_of = e ∷ (above ++ g)

  pub rest_is : length all_of - further (size_of g) ≡ length (e ∷ above)
  rest_is = let both = length-append above g in omega arith

  pub oldest : drop (length all_of - further (size_of g)) all_of ≡ g
  oldest = ap (λ n. drop n all_of) rest_is ∙ drop_at (e ∷ above) g (length (e ∷ above)) refl

  pub newest : take (length all_of - further (size_of g)) all_of ≡ e ∷ above
  newest = ap (λ n. take n all_of) rest_is ∙ take_at (e ∷ above) g (length (e ∷ above)) refl

  pub fewer : nat_lt (further (size_of g)) (length all_of) ≡ true
  fewer = let both = length-append above g in less (further (size_of g)) (length all_of) (omega arith)

first_fits : (low : ℕ) (cuts sizes : List ℕ) (e x : Entry) (above xs : List Entry) → is_alone (x ∷ xs) ≡ true → is_unsplit low (size_of (x ∷ xs)) cuts ≡ true
    → fits_nodes (low + further (size_of (x ∷ xs))) cuts sizes (e ∷ above) ≡ true
    → fits_nodes low cuts (size_of (x ∷ xs) ∷ sizes) (e ∷ (above ++ (x ∷ xs))) ≡ true
first_fits low cuts sizes e x above xs alone whole rest =
    let g = x ∷ xs in
    and-both _ _ (let two : 2 ≤ size_of g = omega arith in grind (arith, nat_tests))
    (and-both _ _ (fewer e above g)
    (and-both _ _ (ap is_alone (oldest e above g) ∙ alone)
    (and-both _ _ whole (ap (fits_nodes (low + further (size_of g)) cuts sizes) (newest e above g) ∙ rest))))

nodes_fit : (cuts : List ℕ) (current : Entry) (gs : Groups) (low : ℕ) → Each (λ g. is_alone g ≡ true) gs → Each (IsWholeHeight low gs) cuts
    → fits_nodes low cuts (map size_of (nonempty_groups gs)) (current ∷ stacked gs) ≡ true
nodes_fit cuts current [] low a w = refl
nodes_fit cuts current ([] ∷ gs) low a w =
    ap (λ es. fits_nodes low cuts (map size_of (nonempty_groups gs)) (current ∷ es)) (append-nil (stacked gs))
    ∙ nodes_fit cuts current gs low a.1 (each-more (IsWholeHeight low ([] ∷ gs)) (IsWholeHeight low gs)
    (λ h k. subst (λ n. IsWholeHeight n gs h) (omega arith) (whole_above low [] gs h k)) cuts w)
nodes_fit cuts current ((x ∷ xs) ∷ gs) low a w =
    first_fits low cuts (map size_of (nonempty_groups gs)) current x (stacked gs) xs a.0 (unsplit low (x ∷ xs) gs cuts w)
    (nodes_fit cuts current gs (low + further (size_of (x ∷ xs))) a.1
    (each-more (IsWholeHeight low ((x ∷ xs) ∷ gs)) (IsWholeHeight (low + further (size_of (x ∷ xs))) gs)
    (λ h k. subst (λ n. IsWholeHeight n gs h) (omega arith) (whole_above low (x ∷ xs) gs h k)) cuts w))

-- where no group is left, there is no entry
pub none_stacked : (gs : Groups) → nonempty_groups gs ≡ [] → stacked gs ≡ []
none_stacked [] e = refl
none_stacked ([] ∷ gs) e = append-nil (stacked gs) ∙ none_stacked gs e
none_stacked ((x ∷ xs) ∷ gs) e = absurd cc

some_stacked : (gs : Groups) (g : List Entry) (hs : Groups) → nonempty_groups gs ≡ g ∷ hs → 1 ≤ length (stacked gs)
some_stacked [] g hs e = absurd cc
some_stacked ([] ∷ gs) g hs e = let rest = some_stacked gs g hs e in omega (arith, length-append (stacked gs) [], rest)
some_stacked ((x ∷ xs) ∷ gs) g hs e = omega (arith, length-append (stacked gs) (x ∷ xs))

by_nodes : (low : ℕ) (sizes : List ℕ) (e : Entry) (es : List Entry) → 1 ≤ length es → fits_nodes low (cuts_of (e ∷ es)) sizes (e ∷ es) ≡ true
    → fits_shape low sizes (e ∷ es) ≡ true
by_nodes low sizes e [] some h = absurd (omega arith)
by_nodes low sizes e (x ∷ es) some h = h

-- the cuts of all entries
module _ (P : ℕ → Type 0) where
  abbrev OfEntry : Entry → Type 0
  OfEntry e = Each P (cuts_of_entry e)

  cuts_each : (es : List Entry) → Each OfEntry es → Each P (cuts_of es)
  cuts_each [] h = tt
  cuts_each (e ∷ es) h = each-append P (cuts_of_entry e) (cuts_of es) h.0 (cuts_each es h.1)

  stacked_each : (gs : Groups) → Each (λ g. Each OfEntry g) gs → Each OfEntry (stacked gs)
  stacked_each [] h = tt
  stacked_each (g ∷ gs) h = each-append OfEntry (stacked gs) g (stacked_each gs h.1) h.0

pub groups_fit : GroupsFit
groups_fit floor current gs k = by_groups (nonempty_groups gs) refl
  where
    fit : fits_nodes floor (cuts_of (current ∷ stacked gs)) (map size_of (nonempty_groups gs)) (current ∷ stacked gs) ≡ true
    fit = nodes_fit (cuts_of (current ∷ stacked gs)) current gs floor k.alone
        (cuts_each (IsWholeHeight floor gs) (current ∷ stacked gs) (k.on_top, stacked_each (IsWholeHeight floor gs) gs k.whole))

    by_groups : (hs : Groups) → nonempty_groups gs ≡ hs → run_fits floor (node_sizes gs) (Some (current ∷ stacked gs)) ≡ true
    by_groups [] e = ap (λ es. fits_shape floor (node_sizes gs) (current ∷ es)) (none_stacked gs e)
        ∙ ap (λ hs. fits_shape floor (map size_of (or_alone hs)) (current ∷ [])) e
    by_groups (g ∷ hs) e =
        by_nodes floor (node_sizes gs) current (stacked gs) (some_stacked gs g hs e)
        (ap (λ ns. fits_nodes floor (cuts_of (current ∷ stacked gs)) (map size_of ns) (current ∷ stacked gs)) (ap or_alone e ∙ sym e) ∙ fit)
