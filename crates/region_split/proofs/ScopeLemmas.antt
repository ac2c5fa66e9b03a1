-- Items whose scopes are so many choice points at most.
use Rattle.std.proofs.Common.{◌≡◌, ℕ, ◌-◌, ◌≤◌, List, [], ◌∷◌, map, refl, sym, ap, ap₂, subst, arith}
use Rattle.std.specs.Prelude.{codes}
use Rattle.au_term.specs.Term.{AtomTerm, var_bound}
use Rattle.au_term.specs.Shifted.{shifted}
use Rattle.run_model.specs.Programs.Bodies.{call_of}
use Rattle.run_model.specs.Machine.Items.{GoalItem, CollectMark, CatchMark}
use Rattle.clause_compile.specs.Places.{CodeView, Keeps, meaning_in}
use Rattle.binding_array.specs.Represented.{cell_term}
use Rattle.cell_store.proofs.SubstitutionLemmas.{value_kept, value_raised}
use Rattle.region_split.specs.Frames.{LeftItem, PlacedGoal, OwnItem, item_in, scoped_item, left_scope, IsItemIn, IsLeftIn, AreLeftScoped}
use Rattle.region_split.specs.ChoicePoints.{height_of_cut, by_height}
use Rattle.region_split.specs.declared.frame.FrameItem.{FrameItem}
use Rattle.region_split.specs.declared.frame.FrameItem.TheVariants.{Goal, Call, Cut, True, Fail, CatchEnd, Collect, Removal}

-- heights that agree at an item's scope
same_own_height : (hs ks : List ℕ) (code : CodeView) (item : FrameItem) (cut : ℕ) → ((n : ℕ) → n ≤ cut → height_of_cut hs n ≡ height_of_cut ks n) → by_height hs (scoped_item code item cut) ≡ by_height ks (scoped_item code item cut)
same_own_height hs ks code (Goal value) cut same = ap (GoalItem (cell_term code value)) (same cut (omega arith))
same_own_height hs ks code (Call value) cut same = ap (GoalItem (call_of (cell_term code value))) (same cut (omega arith))
same_own_height hs ks code Cut cut same = ap (GoalItem (AtomTerm (codes "!"))) (same cut (omega arith))
same_own_height hs ks code True cut same = ap (GoalItem (AtomTerm (codes "true"))) (same cut (omega arith))
same_own_height hs ks code Fail cut same = ap (GoalItem (AtomTerm (codes "fail"))) (same cut (omega arith))
same_own_height hs ks code CatchEnd cut same = ap CatchMark (same (cut - 1) (omega arith))
same_own_height hs ks code (Collect value) cut same = ap (CollectMark (cell_term code value)) (same (cut - 1) (omega arith))
same_own_height hs ks code (Removal number) cut same = refl

same_height : (hs ks : List ℕ) (code : CodeView) (i : LeftItem) → ((n : ℕ) → n ≤ left_scope i → height_of_cut hs n ≡ height_of_cut ks n) → by_height hs (item_in code i) ≡ by_height ks (item_in code i)
same_height hs ks code (PlacedGoal place base cut) same = ap (GoalItem (shifted base (meaning_in code place))) (same cut (omega arith))
same_height hs ks code (OwnItem item cut) same = same_own_height hs ks code item cut same

-- heights that agree up to a scope
pub same_heights : (hs ks : List ℕ) (code : CodeView) (next cut : ℕ) (left : List LeftItem) → ((n : ℕ) → n ≤ cut → height_of_cut hs n ≡ height_of_cut ks n) → AreLeftScoped code next cut left → map (by_height hs) (map (item_in code) left) ≡ map (by_height ks) (map (item_in code) left)
same_heights hs ks code next cut [] same s = refl
same_heights hs ks code next cut (i ∷ left) same s = ap₂ (λ j is. j ∷ is) (same_height hs ks code i (λ n le. same n (omega (arith, le, s.0)))) (same_heights hs ks code next (left_scope i) left (λ n le. same n (omega (arith, le, s.0))) s.2)

-- more choice points
pub scoped_more : (code : CodeView) (next cut more : ℕ) (left : List LeftItem) → cut ≤ more → AreLeftScoped code next cut left → AreLeftScoped code next more left
scoped_more code next cut more [] le s = tt
scoped_more code next cut more (i ∷ left) le s = (omega (arith, le, s.0), s.1, s.2)

-- more variables
item_further : (code : CodeView) (next more : ℕ) (item : FrameItem) → next ≤ more → IsItemIn code next item → IsItemIn code more item
item_further code next more (Goal value) le v = value_raised code next more value le v
item_further code next more (Call value) le v = value_raised code next more value le v
item_further code next more Cut le v = tt
item_further code next more True le v = tt
item_further code next more Fail le v = tt
item_further code next more CatchEnd le v = tt
item_further code next more (Collect value) le v = value_raised code next more value le v
item_further code next more (Removal number) le v = tt

left_further : (code : CodeView) (next more : ℕ) (i : LeftItem) → next ≤ more → IsLeftIn code next i → IsLeftIn code more i
left_further code next more (PlacedGoal place base cut) le v = (v.0, (let b = v.1 in omega (arith, le, b)))
left_further code next more (OwnItem item cut) le v = item_further code next more item le v

pub scoped_further : (code : CodeView) (next more cut : ℕ) (left : List LeftItem) → next ≤ more → AreLeftScoped code next cut left → AreLeftScoped code more cut left
scoped_further code next more cut [] le s = tt
scoped_further code next more cut (i ∷ left) le s = (s.0, left_further code next more i le s.1, scoped_further code next more (left_scope i) left le s.2)

-- terms that are made later
abbrev IsSameItem : CodeView → CodeView → ℕ → FrameItem → Type 0
IsSameItem old new next item = IsItemIn new next item × ((cut : ℕ) → scoped_item new item cut ≡ scoped_item old item cut)

item_kept : (old new : CodeView) (next : ℕ) (item : FrameItem) → Keeps old new → IsItemIn old next item → IsSameItem old new next item
item_kept old new next (Goal value) k v = let same = value_kept old new next value k v in (same.0, λ cut. ap (λ t. GoalItem t cut) same.1)
item_kept old new next (Call value) k v = let same = value_kept old new next value k v in (same.0, λ cut. ap (λ t. GoalItem (call_of t) cut) same.1)
item_kept old new next Cut k v = (tt, λ cut. refl)
item_kept old new next True k v = (tt, λ cut. refl)
item_kept old new next Fail k v = (tt, λ cut. refl)
item_kept old new next CatchEnd k v = (tt, λ cut. refl)
item_kept old new next (Collect value) k v = let same = value_kept old new next value k v in (same.0, λ cut. ap (λ t. CollectMark t (cut - 1)) same.1)
item_kept old new next (Removal number) k v = (tt, λ cut. refl)

left_kept : (old new : CodeView) (next : ℕ) (i : LeftItem) → Keeps old new → IsLeftIn old next i → IsLeftIn new next i × (item_in new i ≡ item_in old i)
left_kept old new next (PlacedGoal place base cut) k v =
    let same = k.same place v.0 in
    let term = ap (shifted base) same.1 in
    ((same.0, subst (λ t. var_bound t ≤ next) (sym term) v.1), ap (λ t. GoalItem t cut) term)
left_kept old new next (OwnItem item cut) k v = let same = item_kept old new next item k v in (same.0, same.1 cut)

pub scoped_kept : (old new : CodeView) (next cut : ℕ) (left : List LeftItem) → Keeps old new → AreLeftScoped old next cut left → AreLeftScoped new next cut left
scoped_kept old new next cut [] k s = tt
scoped_kept old new next cut (i ∷ left) k s = (s.0, (left_kept old new next i k s.1).0, scoped_kept old new next (left_scope i) left k s.2)

pub items_kept : (old new : CodeView) (next cut : ℕ) (left : List LeftItem) → Keeps old new → AreLeftScoped old next cut left → map (item_in new) left ≡ map (item_in old) left
items_kept old new next cut [] k s = refl
items_kept old new next cut (i ∷ left) k s = ap₂ (λ j is. j ∷ is) (left_kept old new next i k s.1).1 (items_kept old new next (left_scope i) left k s.2)
