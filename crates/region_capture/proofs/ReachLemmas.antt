-- What was reached, term by term.
use Rattle.std.proofs.Common.{◌≡◌, inl, inr, ℕ, zero, suc, ◌+◌, ◌<◌, ◌≤◌, Bool, true, List, [], ◌∷◌, ◌++◌, get_or, length, take, drop, refl, sym, ap, ◌∙◌, subst, arith}
use Rattle.std.specs.List.{Contains}
use Rattle.std.proofs.lemmas.Bool.{eqb-true}
use Rattle.std.proofs.lemmas.List.{take_more}
use Rattle.std.proofs.lemmas.List.Elements.{Contains-append_left, Contains-append_right, Contains-push, Contains-push_cases}
use Rattle.au_term.specs.Term.{Term, VarTerm, IntTerm, AtomTerm, Compound, Terms, end, more, count}
use Rattle.au_term.specs.PrefixOrder.{cells_of, all_cells}
use Rattle.au_term.specs.Shifted.{shifted_cell}
use Rattle.au_term.specs.declared.cell.Cell.{Cell}
use Rattle.au_term.specs.declared.cell.Cell.TheVariants.{Var as VarCell, Int as IntCell, Atom as AtomCell, Functor}
use Rattle.au_term.specs.declared.segment.Binding.{Binding}
use Rattle.au_model.specs.Terms.Each.{Each}
use Rattle.au_model.specs.Terms.Substitutions.{occurs, occurs_in}
use Rattle.au_model.proofs.ApplyLemmas.{either}
use Rattle.au_model.proofs.EachLemmas.{each-append, each-more}
use Rattle.run_model.specs.Machine.Items.{Item, GoalItem, CatchMark, CollectMark, RemovalItem}
use Rattle.region_capture.specs.CapturedItems.{ItemLists, HasItems, HasItemBefore}
use Rattle.region_capture.specs.KeptLevels.{IsSeen, IsVariableReached, AreReachedIn, IsItemReached, IsBindingReached, IsKindReached, ReachesItems, ReachesAlternative, ReachesValues}
use Rattle.region_capture.specs.declared.captured.CapturedAlternative.{CapturedAlternative}
use Rattle.region_capture.specs.declared.captured.CapturedKind.{CapturedKind}
use Rattle.region_capture.specs.declared.captured.CapturedKind.TheVariants.{Choice, Catch, Findall}
use Rattle.region_capture.proofs.ItemLemmas.{same_items}

-- what was reached is reached where further variables were seen
abbrev pub IsKept : List Bool → List Bool → Type 0
IsKept a b = (v : ℕ) → IsSeen a v → IsSeen b v

pub reached_still : (next : ℕ) (a b : List Bool) (v : ℕ) → IsKept a b → IsVariableReached next a v → IsVariableReached next b v
reached_still next a b v k (inl le) = inl le
reached_still next a b v k (inr h) = inr (k v h)

pub term_still : (next : ℕ) (a b : List Bool) (t : Term) → IsKept a b → AreReachedIn next a t → AreReachedIn next b t
term_still next a b t k r v o = reached_still next a b v k (r v o)

pub item_still : (next : ℕ) (a b : List Bool) (i : Item ℕ) → IsKept a b → IsItemReached next a i → IsItemReached next b i
item_still next a b (GoalItem t c) k r = term_still next a b t k r
item_still next a b (CatchMark over) k r = tt
item_still next a b (CollectMark t over) k r = term_still next a b t k r
item_still next a b (RemovalItem number) k r = tt

pub items_still : (next : ℕ) (a b : List Bool) (items : List (Item ℕ)) → IsKept a b → Each (IsItemReached next a) items → Each (IsItemReached next b) items
items_still next a b items k r = each-more (IsItemReached next a) (IsItemReached next b) (λ i h. item_still next a b i k h) items r

pub binding_still : (next : ℕ) (a b : List Bool) (x : Binding) → IsKept a b → IsBindingReached next a x → IsBindingReached next b x
binding_still next a b x k r = record { variable = reached_still next a b x.var k r.variable; value = term_still next a b x.value k r.value }

pub bindings_still : (next : ℕ) (a b : List Bool) (bs : List Binding) → IsKept a b → Each (IsBindingReached next a) bs → Each (IsBindingReached next b) bs
bindings_still next a b bs k r = each-more (IsBindingReached next a) (IsBindingReached next b) (λ x h. binding_still next a b x k h) bs r

pub kind_still : (next : ℕ) (a b : List Bool) (kind : CapturedKind) → IsKept a b → IsKindReached next a kind → IsKindReached next b kind
kind_still next a b Choice k r = tt
kind_still next a b (Catch catcher recovery) k r = (term_still next a b catcher k r.0, term_still next a b recovery k r.1)
kind_still next a b (Findall list results) k r = term_still next a b list k r

pub reaches_still : (next : ℕ) (a b : List Bool) (lists : ItemLists) (number : ℕ) → IsKept a b → ReachesItems next a lists number → ReachesItems next b lists number
reaches_still next a b lists number k r left has = items_still next a b left k (r left has)

pub alternative_still : (next : ℕ) (a b : List Bool) (lists : ItemLists) (x : CapturedAlternative) → IsKept a b → ReachesAlternative next a lists x → ReachesAlternative next b lists x
alternative_still next a b lists x k r = record { items = reaches_still next a b lists x.first k r.items; bindings = bindings_still next a b x.bindings k r.bindings }

pub alternatives_still : (next : ℕ) (a b : List Bool) (lists : ItemLists) (xs : List CapturedAlternative) → IsKept a b → Each (ReachesAlternative next a lists) xs → Each (ReachesAlternative next b lists) xs
alternatives_still next a b lists xs k r = each-more (ReachesAlternative next a lists) (ReachesAlternative next b lists) (λ x h. alternative_still next a b lists x k h) xs r

pub none_in : {X : Type 0} (x : X) → Contains [] x → ⊥
none_in x c = let lt = c.1 in absurd (omega (arith, lt))

-- the cells of a term that are variables
mutual
  cell_of : (v : ℕ) (t : Term) → occurs v t ≡ true → Contains (cells_of t) (VarCell v)
  cell_of v (VarTerm n) o = let e : v ≡ n = eqb-true v n o in subst (λ m. Contains (VarCell m ∷ []) (VarCell v)) e (Contains-push [] (VarCell v))
  cell_of v (IntTerm z) o = absurd cc
  cell_of v (AtomTerm a) o = absurd cc
  cell_of v (Compound f ts) o = Contains-append_right (Functor f (count ts) ∷ []) (all_cells ts) (VarCell v) (all_cell_of v ts o)

  all_cell_of : (v : ℕ) (ts : Terms) → occurs_in v ts ≡ true → Contains (all_cells ts) (VarCell v)
  all_cell_of v end o = absurd cc
  all_cell_of v (more t ts) o = elim (either (occurs v t) (occurs_in v ts) o) [
    | inl k ↦ Contains-append_left (cells_of t) (all_cells ts) (VarCell v) (cell_of v t k)
    | inr k ↦ Contains-append_right (cells_of t) (all_cells ts) (VarCell v) (all_cell_of v ts k)
  ]

got_front : {X : Type 0} (xs : List X) (at : ℕ) (x : X) (rest : List X) → drop at xs ≡ x ∷ rest → (at < length xs) × (get_or xs at x ≡ x)
got_front [] zero x rest e = absurd cc
got_front [] (suc at) x rest e = absurd cc
got_front (y ∷ xs) zero x rest e = (omega arith, cc)
got_front (y ∷ xs) (suc at) x rest e = let k = got_front xs at x rest e in let lt = k.0 in (omega (arith, lt), k.1)

-- cells gone through, as far as here
abbrev pub AreReachedTo : ℕ → List Bool → Term → ℕ → Type 0
AreReachedTo next seen t at = (v : ℕ) → Contains (take at (cells_of t)) (VarCell v) → IsVariableReached next seen v

pub reached_more : (t : Term) (at : ℕ) (c : Cell) → drop at (cells_of t) ≡ c ∷ drop (at + 1) (cells_of t) → (next : ℕ) (old new : List Bool) → IsKept old new → AreReachedTo next old t at → ((v : ℕ) → c ≡ VarCell v → IsVariableReached next new v)
    → AreReachedTo next new t (at + 1)
reached_more t at c is next old new kept done own v h =
    let k = got_front (cells_of t) at c (drop (at + 1) (cells_of t)) is in
    elim (Contains-push_cases (take at (cells_of t)) (get_or (cells_of t) at c) (VarCell v) (subst (λ xs. Contains xs (VarCell v)) (take_more (cells_of t) at c k.0) h)) [
      | inl j ↦ reached_still next old new v kept (done v j)
      | inr e ↦ own v (sym k.1 ∙ e)
    ]

pub reached_whole : (next : ℕ) (seen : List Bool) (t : Term) → AreReachedTo next seen t (length (cells_of t)) → AreReachedIn next seen t
reached_whole next seen t done v o = done v (subst (λ xs. Contains xs (VarCell v)) (sym (take_whole (cells_of t))) (cell_of v t o))
  where
    take_whole : {X : Type 0} (xs : List X) → take (length xs) xs ≡ xs
    take_whole [] = refl
    take_whole (x ∷ xs) = ap (λ ys. x ∷ ys) (take_whole xs)

-- items gone through: where those that are left are reached, all are
abbrev pub ReachesFrom : ℕ → List Bool → ItemLists → ℕ → ℕ → Type 0
ReachesFrom next seen lists all left = (later : List Bool) → IsKept seen later → ReachesItems next later lists left → ReachesItems next later lists all

pub reaches_on : (next : ℕ) (lists : ItemLists) (number after : ℕ) (item : Item ℕ) → HasItemBefore lists number item after → (old new : List Bool) (all : ℕ) → IsKept old new → IsItemReached next new item → ReachesFrom next old lists all number
    → ReachesFrom next new lists all after
reaches_on next lists number after item b old new all kept own was later k rest =
    was later (λ v h. k v (kept v h)) (λ left has. subst (Each (IsItemReached next later)) (same_items lists number (item ∷ b.rest) left b.items has) (item_still next new later item k own, rest b.rest b.follows))

pub reaches_none : (next : ℕ) (seen : List Bool) (lists : ItemLists) (all number : ℕ) → HasItems lists number [] → ReachesFrom next seen lists all number → ReachesItems next seen lists all
reaches_none next seen lists all number none was = was seen (λ v h. h) (λ left has. subst (Each (IsItemReached next seen)) (same_items lists number [] left none has) tt)

-- things gone through one after another
pub each_one_more : {X : Type 0} (P : X → Type 0) (xs : List X) (i : ℕ) (d : X) → i < length xs → Each P (take i xs) → P (get_or xs i d) → Each P (take (i + 1) xs)
each_one_more P xs i d lt done own = subst (Each P) (sym (take_more xs i d lt)) (each-append P (take i xs) (get_or xs i d ∷ []) done (own, tt))

pub take_left : {X : Type 0} (xs ys : List X) (n : ℕ) → n ≤ length xs → take n (xs ++ ys) ≡ take n xs
take_left xs ys zero le = refl
take_left [] ys (suc n) le = absurd (omega (arith, le))
take_left (x ∷ xs) ys (suc n) le = ap (λ zs. x ∷ zs) (take_left xs ys n (omega (arith, le)))

pub values_still : (next : ℕ) (a b : List Bool) (bs : List Binding) → IsKept a b → Each (λ (x : Binding). AreReachedIn next a x.value) bs → Each (λ (x : Binding). AreReachedIn next b x.value) bs
values_still next a b bs k h = each-more (λ x. AreReachedIn next a x.value) (λ x. AreReachedIn next b x.value) (λ x r. term_still next a b x.value k r) bs h

pub values_more : (next at : ℕ) (old new : List Bool) (bs others : List Binding) (d : Binding) → at < length bs → IsKept old new → AreReachedIn next new (get_or bs at d).value → ReachesValues next old (take at bs) → ReachesValues next new (take (at + 1) (bs ++ others))
values_more next at old new bs others d lt kept own done =
    subst (ReachesValues next new) (sym (take_left bs others (at + 1) (omega (arith, lt)) ∙ take_more bs at d lt))
    (each-append (λ (x : Binding). AreReachedIn next new x.value) (take at bs) (get_or bs at d ∷ []) (values_still next old new (take at bs) kept done) (own, tt))

pub each_got : {X : Type 0} (P : X → Type 0) (xs : List X) (i : ℕ) (d : X) → Each P xs → i < length xs → P (get_or xs i d)
each_got P [] i d h lt = absurd (omega (arith, lt))
each_got P (x ∷ xs) zero d h lt = h.0
each_got P (x ∷ xs) (suc i) d h lt = each_got P xs i d h.1 (omega (arith, lt))

pub each_of : {X : Type 0} (P : X → Type 0) (xs : List X) (x : X) → Each P xs → Contains xs x → P x
each_of P xs x h c = subst P c.2 (each_got P xs c.0 x h c.1)

-- a cell that is no variable
pub no_variable_cell : (base : ℕ) (c : Cell) (u : ℕ) → ((n : ℕ) → c ≡ VarCell n → ⊥) → shifted_cell base c ≡ VarCell u → ⊥
no_variable_cell base (VarCell n) u none e = none n refl
no_variable_cell base (IntCell z) u none e = absurd cc
no_variable_cell base (AtomCell a) u none e = absurd cc
no_variable_cell base (Functor f n) u none e = absurd cc
