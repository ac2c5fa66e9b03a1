-- Items that go on with those of smaller numbers.
use Rattle.std.proofs.Common.{◌≡◌, ℕ, zero, suc, ◌+◌, ◌<◌, List, [], ◌∷◌, ◌++◌, append_assoc, append-nil, length, length-append, get_or, slice_get, Option, Some, refl, sym, ap, ◌∙◌, subst, arith}
use Rattle.std.proofs.lemmas.Option.{slice_get-get_or, slice_get_within}
use Rattle.run_model.specs.Machine.Items.{Item}
use Rattle.region_capture.specs.CapturedItems.{ItemLists, captured_item, linked_over, linked_items, AreItemLinksFrom, HasItems, HasItemBefore, AddsItems}
use Rattle.region_capture.specs.declared.items.ItemLink.{ItemLink}

-- a place of a list that others come behind
pub got_still : {A : Type 0} (xs ys : List A) (i : ℕ) (x : A) → slice_get xs i ≡ Some x → slice_get (xs ++ ys) i ≡ Some x
got_still [] ys i x e = absurd cc
got_still (y ∷ xs) ys zero x e = e
got_still (y ∷ xs) ys (suc i) x e = got_still xs ys i x e

pub got_next : {A : Type 0} (xs ys : List A) (x : A) → slice_get (xs ++ x ∷ ys) (length xs) ≡ Some x
got_next [] ys x = refl
got_next (y ∷ xs) ys x = got_next xs ys x

-- items that were there
pub items_kept : (old new : ItemLists) (number : ℕ) (items : List (Item ℕ)) → AddsItems old new → HasItems old number items → HasItems new number items
items_kept old new number items a h = subst (λ lists. HasItems lists number items) (sym a.are) (got_still old a.more number items h)

pub nothing_added : (lists : ItemLists) → AddsItems lists lists
nothing_added lists = record { more = []; are = sym (append-nil lists) }

pub added_twice : (a b c : ItemLists) → AddsItems a b → AddsItems b c → AddsItems a c
added_twice a b c p q = record { more = p.more ++ q.more; are = q.are ∙ (ap (λ xs. xs ++ q.more) p.are ∙ append_assoc a p.more q.more) }

pub has_within : (lists : ItemLists) (number : ℕ) (items : List (Item ℕ)) → HasItems lists number items → number < length lists
has_within lists number items h = slice_get_within lists number items h

-- the items of one more link
abbrev own : ItemLists → ItemLink → List (Item ℕ)
own lists l = captured_item l.item ∷ get_or lists l.after []

pub more_linked : (lists : ItemLists) (links : List ItemLink) → AddsItems lists (linked_over lists links)
more_linked lists [] = nothing_added lists
more_linked lists (l ∷ links) = added_twice lists (lists ++ own lists l ∷ []) (linked_over (lists ++ own lists l ∷ []) links) (record { more = own lists l ∷ []; are = refl }) (more_linked (lists ++ own lists l ∷ []) links)

pub linked-append : (lists : ItemLists) (links : List ItemLink) (l : ItemLink) → linked_over lists (links ++ l ∷ []) ≡ linked_over lists links ++ own (linked_over lists links) l ∷ []
linked-append lists [] l = refl
linked-append lists (k ∷ links) l = linked-append (lists ++ own lists k ∷ []) links l

pub length-linked : (lists : ItemLists) (links : List ItemLink) → length (linked_over lists links) ≡ length lists + length links
length-linked lists [] = omega arith
length-linked lists (l ∷ links) = let e = length-linked (lists ++ own lists l ∷ []) links in omega (arith, e, length-append lists (own lists l ∷ []))

pub from-append : (n : ℕ) (links : List ItemLink) (l : ItemLink) → AreItemLinksFrom n links → l.after < n + length links → AreItemLinksFrom n (links ++ l ∷ [])
from-append n [] l k lt = (omega (arith, lt), tt)
from-append n (m ∷ links) l k lt = (k.0, from-append (n + 1) links l k.1 (omega (arith, lt)))

-- nothing before anything
pub first_none : (links : List ItemLink) → HasItems (linked_items links) 0 []
first_none links = items_kept ([] ∷ []) (linked_items links) 0 [] (more_linked ([] ∷ []) links) refl

-- an item before what a number has
own_before : (lists : ItemLists) (l : ItemLink) → l.after < length lists → HasItemBefore (lists ++ own lists l ∷ []) (length lists) (captured_item l.item) l.after
own_before lists l lt = record {
  smaller = lt;
  rest = get_or lists l.after [];
  follows = got_still lists (own lists l ∷ []) l.after (get_or lists l.after []) (slice_get-get_or lists l.after [] lt);
  items = got_next lists [] (own lists l);
}

before_kept : (old new : ItemLists) (number after : ℕ) (item : Item ℕ) → AddsItems old new → HasItemBefore old number item after → HasItemBefore new number item after
before_kept old new number after item a h = record { smaller = h.smaller; rest = h.rest; follows = items_kept old new after h.rest a h.follows; items = items_kept old new number (item ∷ h.rest) a h.items }

pub linked_before : (lists : ItemLists) (links : List ItemLink) (i number : ℕ) (l : ItemLink) → AreItemLinksFrom (length lists) links → i < length links → l ≡ get_or links i l → number ≡ length lists + i → HasItemBefore (linked_over lists links) number (captured_item l.item) l.after
linked_before lists [] i number l k lt e n = absurd (omega (arith, lt))
linked_before lists (m ∷ links) zero number l k lt e n =
    subst (λ (x : ItemLink). HasItemBefore (linked_over lists (m ∷ links)) number (captured_item x.item) x.after) (sym e)
    (let same : length lists ≡ number = omega (arith, n) in subst (λ x. HasItemBefore (linked_over lists (m ∷ links)) x (captured_item m.item) m.after) same
    (before_kept (lists ++ own lists m ∷ []) (linked_over lists (m ∷ links)) (length lists) m.after (captured_item m.item) (more_linked (lists ++ own lists m ∷ []) links) (own_before lists m k.0)))
linked_before lists (m ∷ links) (suc i) number l k lt e n =
    let long : length (lists ++ own lists m ∷ []) ≡ length lists + 1 = length-append lists (own lists m ∷ []) in
    linked_before (lists ++ own lists m ∷ []) links i number l (subst (λ x. AreItemLinksFrom x links) (sym long) k.1) (omega (arith, lt)) e (omega (arith, n, long))

-- a link at the end
pub pushed_before : (links : List ItemLink) (l : ItemLink) (number : ℕ) → l.after < length (linked_items links) → number ≡ length links + 1 → HasItemBefore (linked_items (links ++ l ∷ [])) number (captured_item l.item) l.after
pushed_before links l number lt n =
    let lists = linked_items links in
    let same : length lists ≡ number = let e = length-linked ([] ∷ []) links in omega (arith, e, n) in
    subst (λ x. HasItemBefore x number (captured_item l.item) l.after) (sym (linked-append ([] ∷ []) links l)) (subst (λ x. HasItemBefore (lists ++ own lists l ∷ []) x (captured_item l.item) l.after) same (own_before lists l lt))

pub pushed_adds : (links : List ItemLink) (l : ItemLink) → AddsItems (linked_items links) (linked_items (links ++ l ∷ []))
pushed_adds links l = record { more = own (linked_items links) l ∷ []; are = linked-append ([] ∷ []) links l }

pub pushed_linked : (links : List ItemLink) (l : ItemLink) → AreItemLinksFrom 1 links → l.after < length (linked_items links) → AreItemLinksFrom 1 (links ++ l ∷ [])
pushed_linked links l k lt = from-append 1 links l k (let e = length-linked ([] ∷ []) links in omega (arith, e, lt))

-- a number has one list
pub same_items : (lists : ItemLists) (number : ℕ) (xs ys : List (Item ℕ)) → HasItems lists number xs → HasItems lists number ys → xs ≡ ys
same_items lists number xs ys h k = let e : ◌≡◌ {A = Option (List (Item ℕ))} (Some xs) (Some ys) = sym h ∙ k in cc
