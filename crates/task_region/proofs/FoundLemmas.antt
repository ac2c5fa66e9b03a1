-- Items by their numbers.
use Rattle.std.proofs.Common.{◌≡◌, ◌⊎◌, inl, inr, ℕ, zero, suc, ◌+◌, ◌<◌, ◌≤◌, List, [], ◌∷◌, ◌++◌, length, map, drop, get_or, Some, None, refl, ap, ◌∙◌, subst, arith}
use Rattle.std.specs.List.{slice_get}
use Rattle.std.specs.Option.{option_map}
use Rattle.std.proofs.lemmas.List.{length-map}
use Rattle.std.proofs.lemmas.Bool.{cases_lt}
use Rattle.std.proofs.lemmas.Option.{slice_get_past, slice_get_read, slice_get-map}
use Rattle.au_model.specs.Terms.Each.{Each}
use Rattle.au_term.specs.Term.{Term, var_bound}
use Rattle.au_model.specs.Terms.Substitutions.{Substitution, resolve}
use Rattle.run_model.specs.Machine.Items.{Item, GoalItem, goals_at, resolve_item}
use Rattle.task_region.specs.DeferredItems.{item_of, IsDeferredOver, IsMarkAt, AreGoalsFrom}
use Rattle.task_region.specs.declared.deferred.DeferredItem.{DeferredItem}

pub item_found : (xs : List DeferredItem) (n : ℕ) (x y : DeferredItem) → n < length xs → x ≡ get_or xs n x → x ≡ y → slice_get (map item_of xs) n ≡ Some (item_of y)
item_found xs n x y lt e is = slice_get-map item_of xs n ∙ ap (option_map item_of) (slice_get_read xs (length xs) n x refl lt e ∙ ap Some is)

pub no_item : (xs : List DeferredItem) (n : ℕ) → length xs ≤ n → slice_get (map item_of xs) n ≡ None
no_item xs n le = slice_get_past (map item_of xs) n (let e = length-map xs item_of in omega (arith, e, le))

pub item_holds : (P : Item ℕ → Type 0) (items : List (Item ℕ)) (n : ℕ) (i : Item ℕ) → Each P items → slice_get items n ≡ Some i → P i
item_holds P [] n i h e = absurd cc
item_holds P (x ∷ items) zero i h e = subst P (let s : x ≡ i = cc in s) h.0
item_holds P (x ∷ items) (suc n) i h e = item_holds P items n i h.1 e

pub items_from : (f : Item ℕ → Item ℕ) (items : List (Item ℕ)) (n : ℕ) (i : Item ℕ) → slice_get items n ≡ Some i → drop n (map f items) ≡ f i ∷ drop (suc n) (map f items)
items_from f [] n i e = absurd cc
items_from f (x ∷ items) zero i e = ap (λ y. f y ∷ map f items) (let s : x ≡ i = cc in s)
items_from f (x ∷ items) (suc n) i e = items_from f items n i e

pub nothing_from : (f : Item ℕ → Item ℕ) (items : List (Item ℕ)) (n : ℕ) → slice_get items n ≡ None → drop n (map f items) ≡ []
nothing_from f [] zero e = refl
nothing_from f [] (suc n) e = refl
nothing_from f (x ∷ items) zero e = absurd cc
nothing_from f (x ∷ items) (suc n) e = nothing_from f items n e

-- the ends of what catches guard, up to one more
pub marks_further : (items : List (Item ℕ)) (start at : ℕ) → start ≤ at → ((n : ℕ) → start ≤ n → n < at → IsMarkAt items n) → IsMarkAt items at
    → (start ≤ at + 1) × ((n : ℕ) → start ≤ n → n < at + 1 → IsMarkAt items n)
marks_further items start at le marks mark = (omega (arith, le), (λ n ge lt. by_place n ge lt (cases_lt n at)))
  where
    by_place : (n : ℕ) → start ≤ n → n < at + 1 → (n < at) ⊎ (at ≤ n) → IsMarkAt items n
    by_place n ge lt (inl below) = marks n ge below
    by_place n ge lt (inr above) = subst (IsMarkAt items) (let e : at ≡ n = omega (arith, lt, above) in e) mark

-- goals in one scope, and one more
pub goals_further : (items : List (Item ℕ)) (cut number : ℕ) (goals : List Term) (t : Term) → AreGoalsFrom items cut number goals
    → slice_get items (number + length goals) ≡ Some (GoalItem t cut) → AreGoalsFrom items cut number (goals ++ t ∷ [])
goals_further items cut number [] t are e = (ap (slice_get items) (omega arith) ∙ e, tt)
goals_further items cut number (g ∷ goals) t are e =
    (are.0, goals_further items cut (suc number) goals t are.1 (ap (slice_get items) (omega arith) ∙ e))

pub goals_bound : (variables floor : ℕ) (items : List (Item ℕ)) (cut number : ℕ) (goals : List Term) → Each (IsDeferredOver variables floor) items
    → AreGoalsFrom items cut number goals → Each (λ t. var_bound t ≤ variables) goals
goals_bound variables floor items cut number [] scoped are = tt
goals_bound variables floor items cut number (g ∷ goals) scoped are = (
  (item_holds (IsDeferredOver variables floor) items number (GoalItem g cut) scoped are.0).0,
  goals_bound variables floor items cut (suc number) goals scoped are.1,
)

-- they are what is deferred there, as it is now
pub goals_now : (s : Substitution) (items : List (Item ℕ)) (cut number : ℕ) (goals : List Term) → AreGoalsFrom items cut number goals
    → drop number (map (resolve_item s) items) ≡ goals_at cut (map (resolve s) goals) ++ drop (number + length goals) (map (resolve_item s) items)
goals_now s items cut number [] are = ap (λ n. drop n (map (resolve_item s) items)) (omega arith)
goals_now s items cut number (g ∷ goals) are =
    items_from (resolve_item s) items number (GoalItem g cut) are.0
    ∙ ap (λ is. GoalItem (resolve s g) cut ∷ is)
    (goals_now s items cut (suc number) goals are.1 ∙ ap (λ n. goals_at cut (map (resolve s) goals) ++ drop n (map (resolve_item s) items)) (omega arith))

pub goals_resolved : (s : Substitution) (h : ℕ) (goals : List Term) → map (resolve_item s) (goals_at h goals) ≡ goals_at h (map (resolve s) goals)
goals_resolved s h [] = refl
goals_resolved s h (g ∷ goals) = ap (λ items. GoalItem (resolve s g) h ∷ items) (goals_resolved s h goals)
