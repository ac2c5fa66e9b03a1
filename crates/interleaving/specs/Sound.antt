-- The lists whose names can be read as heights.
use Rattle.std.specs.Prelude.{ℕ, List, [], ◌∷◌, ◌++◌, ◌≡◌}
use Rattle.au_term.specs.Term.{Term}
use Rattle.au_model.specs.Terms.Each.{Each}
use Rattle.run_model.specs.Machine.Items.{Item, GoalItem, CatchMark, CollectMark, RemovalItem, Continuation}
use Rattle.tree_model.specs.Elements.{Name, Element, Credit, Plain, EndOf, Catch, Findall, End}
use Rattle.interleaving.specs.Erased.{from, element_count, height}

-- the scopes that items carry
abbrev pub names : {N : Type 0} → List (Item N) → List N
names [] = []
names (GoalItem t s ∷ items) = s ∷ names items
names (CatchMark s ∷ items) = s ∷ names items
names (CollectMark t s ∷ items) = s ∷ names items
names (RemovalItem number ∷ items) = names items

-- a name that the entry of this name didn't make
abbrev pub IsMadeElsewhere : Name → Name → Type 0
IsMadeElsewhere p s = (more : List ℕ) → s ≡ more ++ p → ⊥

-- a scope that ends in the list
abbrev pub IsPresent : List Element → Name → Type 0
IsPresent xs s = (t : List Element) × from xs s ≡ EndOf s ∷ t

-- the scopes of later items lie no higher
abbrev pub IsChain : List Element → List Name → Type 0
IsChain xs [] = Unit {0}
IsChain xs (h ∷ hs) = Each (λ s. from (from xs h) s ≡ from xs s) hs × IsChain xs hs

-- the names that an entry of this name over this list carries
pub record AreCarried (p : Name) (xs : List Element) (hs : List Name) : Type 0 where
  pub older : Each (IsMadeElsewhere p) hs
  pub present : Each (IsPresent xs) hs
  pub chain : IsChain xs hs

-- a mark's entry is right under the end of its scope
pub record IsGuarded (xs : List Element) (s : Name) : Type 0 where
  pub scope : Name
  pub catcher : Term
  pub recovery : Term
  pub name : Name
  pub after : Continuation Name
  pub under : List Element
  pub found : from xs s ≡ EndOf s ∷ Catch s scope catcher recovery name after ∷ under

pub record IsGathered (xs : List Element) (s : Name) : Type 0 where
  pub scope : Name
  pub results : List Term
  pub list : Term
  pub name : Name
  pub after : Continuation Name
  pub under : List Element
  pub found : from xs s ≡ EndOf s ∷ Findall s scope results list name after ∷ under

abbrev pub IsMarkSound : List Element → Item Name → Type 0
IsMarkSound xs (CatchMark s) = IsGuarded xs s
IsMarkSound xs (CollectMark t s) = IsGathered xs s
IsMarkSound xs (GoalItem t s) = Unit {0}
IsMarkSound xs (RemovalItem number) = Unit {0}

-- what holds of the scope of each Findall entry
abbrev pub EachFindall : (Name → Type 0) → List Element → Type 0
EachFindall P [] = Unit {0}
EachFindall P (Findall s u results list p f ∷ xs) = P s × EachFindall P xs
EachFindall P (Credit k rs ∷ xs) = EachFindall P xs
EachFindall P (Plain p f ∷ xs) = EachFindall P xs
EachFindall P (EndOf s ∷ xs) = EachFindall P xs
EachFindall P (Catch s u c r p f ∷ xs) = EachFindall P xs
EachFindall P (End p b ∷ xs) = EachFindall P xs

-- an entry of this name over this list, which carries these scopes and has these items left
pub record IsEntrySound (p : Name) (xs : List Element) (hs : List Name) (items : List (Item Name)) : Type 0 where
  pub carried : AreCarried p xs hs
  pub marks : Each (IsMarkSound xs) items
  -- it has made no Findall entry that is there
  pub findalls : EachFindall (IsMadeElsewhere p) xs

-- the scope that ends right below an entry
abbrev pub IsRightUnder : List Element → Name → Type 0
IsRightUnder xs u = height xs u ≡ element_count xs

abbrev pub IsSound : List Element → Type 0
IsSound [] = Unit {0}
IsSound (EndOf s ∷ xs) = IsSound xs
IsSound (Credit k rs ∷ xs) = Each (λ r. IsGathered xs r.0) rs × IsSound xs
IsSound (Plain p f ∷ xs) = IsEntrySound p xs (names f.items) f.items × IsSound xs
IsSound (Catch s u c r p f ∷ xs) = IsEntrySound p xs (u ∷ names f.items) f.items × IsRightUnder xs u × IsSound xs
IsSound (Findall s u results list p f ∷ xs) = IsEntrySound p xs (u ∷ names f.items) f.items × IsRightUnder xs u × EachFindall
    (λ e. e ≡ s → ⊥) xs × IsSound xs
IsSound (End p b ∷ xs) = IsSound xs
