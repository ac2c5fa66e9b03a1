-- What is left at a position, item by item.
use Rattle.std.proofs.Common.{◌≡◌, ℕ, ◌+◌, ◌<◌, ◌≤◌, List, [], ◌∷◌, ◌++◌, append_assoc, length, map, sym, ap, ap₂, ◌∙◌, subst, arith, zero, suc, ◌-◌, Option, Some, None, slice_get, IsSomeAnd, inl, inr}
use Rattle.std.proofs.lemmas.List.{map-append}
use Rattle.au_model.specs.Terms.Each.{Each}
use Rattle.au_model.proofs.EachLemmas.{each-more}
use Rattle.run_model.specs.Machine.Items.{Item, GoalItem, CatchMark, CollectMark, RemovalItem}
use Rattle.clause_compile.specs.Places.{CodeView}
use Rattle.cell_store.specs.StoreView.{text_in}
use Rattle.cell_store.proofs.CellMeaningLemmas.{term_below}
use Rattle.region_split.specs.ChoicePoints.{IsMarkOf, IsMarkedIn, AreMarked, IsCatching, IsCollecting}
use Rattle.region_split.specs.Frames.{LeftItem, PlacedGoal, OwnItem, item_in, scoped_item, left_scope, next_position, IsLeftIn, AreLeftScoped}
use Rattle.region_split.specs.Regions.{RegionView, items_here, left_here, IsFirstAt, IsPositionIn, IsPositionOver}
use Rattle.region_split.specs.declared.choice.ChoicePoint.{ChoicePoint}
use Rattle.region_split.specs.declared.frame.FrameItem.{FrameItem}
use Rattle.region_split.specs.declared.frame.FrameItem.TheVariants.{Goal, Call, Cut, True, Fail, CatchEnd, Collect, Removal}
use Rattle.region_split.specs.declared.frame.Position.{Position}
use Rattle.region_split.proofs.ItemLemmas.{position_more}
use Rattle.region_capture.specs.CapturedItems.{captured_item, IsItemOver}
use Rattle.region_capture.specs.CaptureSteps.{IsGuarding, IsGuardAt, HasMarkAt}
use Rattle.region_capture.specs.declared.items.CapturedItem.{CapturedItem}

-- the first item was written down
module _ (r : RegionView) (p : Position) (item : FrameItem) (cut : ℕ) (first : IsFirstAt r p item cut) (at : ℕ) (next : at ≡ p.at + 1) where
  abbrev after : Position
  after = record { frame = p.frame; at = at }

  after_is : next_position p ≡ after
  after_is = ap (λ n. (let q : Position = record { frame = p.frame; at = n } in q)) (sym next)

  pub next_there : IsPositionIn r after
  next_there = subst (IsPositionIn r) after_is (position_more r cut (length r.choices) (next_position p) first.scope first.after)

  pub next_items : (done more : List CapturedItem) (captured : CapturedItem) (all : List (Item ℕ)) → more ≡ done ++ captured ∷ [] → captured_item captured ≡ scoped_item (text_in r.store) item cut → map captured_item done ++ items_here r p ≡ all
      → map captured_item more ++ items_here r after ≡ all
  next_items done more captured all pushed is whole =
      ap (λ xs. map captured_item xs ++ items_here r after) pushed
      ∙ (ap (λ xs. xs ++ items_here r after) (map-append captured_item done (captured ∷ []))
      ∙ (append_assoc (map captured_item done) (captured_item captured ∷ []) (items_here r after)
      ∙ (ap₂ (λ i q. map captured_item done ++ i ∷ items_here r q) is (sym after_is)
      ∙ (ap (λ xs. map captured_item done ++ xs) (sym first.items) ∙ whole))))

  pub next_less : length (items_here r after) + p.frame < length (items_here r p) + p.frame
  next_less = let e = ap (λ (xs : List (Item ℕ)). length xs) (first.items ∙ ap (λ q. scoped_item (text_in r.store) item cut ∷ items_here r q) after_is) in omega (arith, e)

-- items that are left cut to no more choice points, and their variables are there
own_over : (code : CodeView) (next cut c : ℕ) (choices : List ChoicePoint) (item : FrameItem) → c ≤ cut → IsLeftIn code next (OwnItem item c) → IsMarkOf choices c item → IsItemOver next cut (scoped_item code item c)
own_over code next cut c choices (Goal value) le there m = (term_below code next value there, le)
own_over code next cut c choices (Call value) le there m = (let b = term_below code next value there in omega (arith, b), le)
own_over code next cut c choices Cut le there m = (omega arith, le)
own_over code next cut c choices True le there m = (omega arith, le)
own_over code next cut c choices Fail le there m = (omega arith, le)
own_over code next cut c choices CatchEnd le there m = let some = m.0 in omega (arith, some, le)
own_over code next cut c choices (Collect value) le there m = (term_below code next value there, (let some = m.0 in omega (arith, some, le)))
own_over code next cut c choices (Removal number) le there m = tt

left_over : (code : CodeView) (next cut : ℕ) (choices : List ChoicePoint) (i : LeftItem) → left_scope i ≤ cut → IsLeftIn code next i → IsMarkedIn choices i → IsItemOver next cut (item_in code i)
left_over code next cut choices (PlacedGoal place base c) le there m = (there.1, le)
left_over code next cut choices (OwnItem item c) le there m = own_over code next cut c choices item le there m

all_over : (code : CodeView) (next most cut : ℕ) (choices : List ChoicePoint) (left : List LeftItem) → cut ≤ most → AreLeftScoped code next cut left → AreMarked choices left → Each (IsItemOver next most) (map (item_in code) left)
all_over code next most cut choices [] le s m = tt
all_over code next most cut choices (i ∷ left) le s m =
    let own : left_scope i ≤ most = let a = s.0 in omega (arith, a, le) in
    (left_over code next most choices i own s.1 m.0, all_over code next most (left_scope i) choices left own s.2 m.1)

pub items_over : (r : RegionView) (cut : ℕ) (p : Position) → IsPositionOver r cut p → Each (IsItemOver r.store.now.next cut) (items_here r p)
items_over r cut p i = all_over (text_in r.store) r.store.now.next cut cut r.choices (left_here r p) (omega arith) i.scoped i.marked

-- and their marks are of catches and findalls
pub some_more : {A : Type 0} (P Q : A → Type 0) (o : Option A) → ((x : A) → P x → Q x) → IsSomeAnd o P → IsSomeAnd o Q
some_more P Q None f h = h
some_more P Q (Some x) f h = f x h

own_marked : (code : CodeView) (c : ℕ) (choices : List ChoicePoint) (item : FrameItem) → IsMarkOf choices c item → HasMarkAt choices (scoped_item code item c)
own_marked code c choices (Goal value) m = tt
own_marked code c choices (Call value) m = tt
own_marked code c choices Cut m = tt
own_marked code c choices True m = tt
own_marked code c choices Fail m = tt
own_marked code c choices CatchEnd m = some_more (λ d. IsCatching d.alternatives) (λ d. IsGuarding d.alternatives) (slice_get choices (c - 1)) (λ d k. inl k) m.1
own_marked code c choices (Collect value) m = some_more (λ d. IsCollecting d.alternatives) (λ d. IsGuarding d.alternatives) (slice_get choices (c - 1)) (λ d k. inr k) m.1
own_marked code c choices (Removal number) m = tt

left_marked : (code : CodeView) (choices : List ChoicePoint) (i : LeftItem) → IsMarkedIn choices i → HasMarkAt choices (item_in code i)
left_marked code choices (PlacedGoal place base c) m = tt
left_marked code choices (OwnItem item c) m = own_marked code c choices item m

all_marked : (code : CodeView) (choices : List ChoicePoint) (left : List LeftItem) → AreMarked choices left → Each (HasMarkAt choices) (map (item_in code) left)
all_marked code choices [] m = tt
all_marked code choices (i ∷ left) m = (left_marked code choices i m.0, all_marked code choices left m.1)

pub items_marked : (r : RegionView) (cut : ℕ) (p : Position) → IsPositionOver r cut p → Each (HasMarkAt r.choices) (items_here r p)
items_marked r cut p i = all_marked (text_in r.store) r.choices (left_here r p) i.marked

-- those of older choice points
guard_older : (xs ys : List ChoicePoint) (over : ℕ) → over < length xs → IsGuardAt (xs ++ ys) over → IsGuardAt xs over
guard_older [] ys over lt g = absurd (omega (arith, lt))
guard_older (x ∷ xs) ys zero lt g = g
guard_older (x ∷ xs) ys (suc over) lt g = guard_older xs ys over (omega (arith, lt)) g

older_mark : (next : ℕ) (xs ys : List ChoicePoint) (i : Item ℕ) → IsItemOver next (length xs) i → HasMarkAt (xs ++ ys) i → HasMarkAt xs i
older_mark next xs ys (GoalItem t c) o m = tt
older_mark next xs ys (CatchMark over) o m = guard_older xs ys over o m
older_mark next xs ys (CollectMark t over) o m = guard_older xs ys over o.1 m
older_mark next xs ys (RemovalItem number) o m = tt

pub older_marks : (next : ℕ) (xs ys : List ChoicePoint) (items : List (Item ℕ)) → Each (IsItemOver next (length xs)) items → Each (HasMarkAt (xs ++ ys)) items → Each (HasMarkAt xs) items
older_marks next xs ys [] o m = tt
older_marks next xs ys (i ∷ items) o m = (older_mark next xs ys i o.0 m.0, older_marks next xs ys items o.1 m.1)

-- and of choice points that come on top
guard_later : (xs ys : List ChoicePoint) (over : ℕ) → IsGuardAt xs over → IsGuardAt (xs ++ ys) over
guard_later [] ys over g = absurd g
guard_later (x ∷ xs) ys zero g = g
guard_later (x ∷ xs) ys (suc over) g = guard_later xs ys over g

later_mark : (xs ys : List ChoicePoint) (i : Item ℕ) → HasMarkAt xs i → HasMarkAt (xs ++ ys) i
later_mark xs ys (GoalItem t c) m = tt
later_mark xs ys (CatchMark over) m = guard_later xs ys over m
later_mark xs ys (CollectMark t over) m = guard_later xs ys over m
later_mark xs ys (RemovalItem number) m = tt

pub later_marks : (xs ys : List ChoicePoint) (items : List (Item ℕ)) → Each (HasMarkAt xs) items → Each (HasMarkAt (xs ++ ys)) items
later_marks xs ys items m = each-more (HasMarkAt xs) (HasMarkAt (xs ++ ys)) (later_mark xs ys) items m
