-- Records in batches.
use Rattle.std.proofs.Common.{◌≡◌, ◌≢◌, ℕ, ◌+◌, ◌<◌, List, [], ◌∷◌, ◌++◌, Some, None, length, take, refl, sym, ap, ◌∙◌, arith, subst, append_assoc, get_or}
use Rattle.std.proofs.lemmas.List.{append-nil, length-append, reverse-append, reverse-reverse, take_more}
use Rattle.std.specs.Prelude.{reverse, slice_get}
use Rattle.au_term.specs.Term.{Term}
use Rattle.tree_nodes.specs.Batches.{batched_terms, AreMerged}

abbrev Batches : Type 0
Batches = List (List Term)

pub batched_terms-append : (xs ys : Batches) → batched_terms (xs ++ ys) ≡ batched_terms xs ++ batched_terms ys
batched_terms-append [] ys = refl
batched_terms-append (x ∷ xs) ys = ap (λ (k : List Term). x ++ k) (batched_terms-append xs ys) ∙ sym (append_assoc x (batched_terms xs) (batched_terms ys))

pub batched_terms-last : (xs : Batches) (x : List Term) → batched_terms (xs ++ x ∷ []) ≡ batched_terms xs ++ x
batched_terms-last xs x = batched_terms-append xs (x ∷ []) ∙ ap (λ (k : List Term). batched_terms xs ++ k) (append-nil x)

pub joined_more : (items : Batches) (i : ℕ) (x : List Term) → i < length items → x ≡ get_or items i x → batched_terms (take (i + 1) items) ≡ batched_terms (take i items) ++ x
joined_more items i x l e =
    ap batched_terms (take_more items i x l ∙ ap (λ (y : List Term). take i items ++ y ∷ []) (sym e)) ∙ batched_terms-last (take i items) x

-- two batches are made one
pub merged_last : (old new : Batches) (left last next : List Term) → old ≡ new ++ left ∷ [] → next ≡ left ++ last → AreMerged old new last next
merged_last old new left last next e f = record {
  same = ap (λ (k : List Term). batched_terms new ++ k) f
      ∙ (sym (append_assoc (batched_terms new) left last) ∙ ap (λ (k : List Term). k ++ last) (sym (ap batched_terms e ∙ batched_terms-last new left)));
  fewer = (let a : length old ≡ length (new ++ left ∷ []) = ap length e in let b = length-append new (left ∷ []) in omega (arith, a, b));
}

pub merged_before : (old middle low new : Batches) (left further both last next : List Term) → old ≡ middle ++ left ∷ [] → middle ≡ low ++ further ∷ []
    → new ≡ low ++ both ∷ [] → both ≡ further ++ left → next ≡ last → AreMerged old new last next
merged_before old middle low new left further both last next e f g h k = record {
  same = ap (λ (x : List Term). batched_terms new ++ x) k ∙ ap (λ (x : List Term). x ++ last)
      (ap batched_terms g ∙ (batched_terms-last low both ∙ (ap (λ (x : List Term). batched_terms low ++ x) h ∙ (sym (append_assoc (batched_terms low) further left)
      ∙ (ap (λ (x : List Term). x ++ left) (sym (ap batched_terms f ∙ batched_terms-last low further)) ∙ sym (ap batched_terms e ∙ batched_terms-last middle left))))));
  fewer = (let a : length old ≡ length (middle ++ left ∷ []) = ap length e in let b = length-append middle (left ∷ []) in
      let c : length middle ≡ length (low ++ further ∷ []) = ap length f in let d = length-append low (further ∷ []) in
      let i : length new ≡ length (low ++ both ∷ []) = ap length g in let j = length-append low (both ∷ []) in
      omega (arith, a, b, c, d, i, j));
}

-- a sum that grows at its ends
pub left_records : (before ps behind new : Batches) (records : List Term) → new ≡ before ++ reverse ps → batched_terms ps ≡ records
    → batched_terms (reverse new) ++ batched_terms behind ≡ records ++ (batched_terms (reverse before) ++ batched_terms behind)
left_records before ps behind new records e f =
    ap (λ (x : Batches). batched_terms (reverse x) ++ batched_terms behind) e
    ∙ (ap (λ (x : Batches). batched_terms x ++ batched_terms behind) (reverse-append before (reverse ps) ∙ ap (λ (x : Batches). x ++ reverse before) (reverse-reverse ps))
    ∙ (ap (λ (x : List Term). x ++ batched_terms behind) (batched_terms-append ps (reverse before))
    ∙ (append_assoc (batched_terms ps) (batched_terms (reverse before)) (batched_terms behind) ∙ ap (λ (x : List Term). x ++ (batched_terms (reverse before) ++ batched_terms behind)) f)))

pub right_records : (before behind ps new : Batches) (records : List Term) → new ≡ behind ++ ps → batched_terms ps ≡ records
    → batched_terms (reverse before) ++ batched_terms new ≡ (batched_terms (reverse before) ++ batched_terms behind) ++ records
right_records before behind ps new records e f =
    ap (λ (x : Batches). batched_terms (reverse before) ++ batched_terms x) e
    ∙ (ap (λ (x : List Term). batched_terms (reverse before) ++ x) (batched_terms-append behind ps)
    ∙ (sym (append_assoc (batched_terms (reverse before)) (batched_terms behind) (batched_terms ps)) ∙ ap (λ (x : List Term). (batched_terms (reverse before) ++ batched_terms behind) ++ x) f))

-- where there are some, there are some in all
pub some-before : (xs ys : List Term) → xs ≢ [] → xs ++ ys ≢ []
some-before [] ys h e = h refl
some-before (x ∷ xs) ys h e = absurd (cc e)

pub some-behind : (xs ys : List Term) → ys ≢ [] → xs ++ ys ≢ []
some-behind [] ys h e = h e
some-behind (x ∷ xs) ys h e = absurd (cc e)

pub batched_terms-some : (items : Batches) (x : List Term) → slice_get items 0 ≡ Some x → x ≢ [] → batched_terms items ≢ []
batched_terms-some [] x e h = absurd (cc e)
batched_terms-some (y ∷ items) x e h =
    let same : y ≡ x = cc e in
    some-before y (batched_terms items) (subst (λ (z : List Term). z ≢ []) (sym same) h)

pub none_first : (items : Batches) → slice_get items 0 ≡ None → items ≡ []
none_first [] e = refl
none_first (y ∷ items) e = absurd (cc e)
