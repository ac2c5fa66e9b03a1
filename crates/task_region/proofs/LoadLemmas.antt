-- Goals that are copied in, before what is deferred after them.
use Rattle.std.proofs.Common.{◌≡◌, ℕ, ◌≤◌, List, [], ◌∷◌, ◌++◌, length, map, refl, sym, ap, ap₂, ◌∙◌, subst, arith}
use Rattle.std.proofs.lemmas.List.{append_assoc}
use Rattle.au_term.specs.Term.{Term, var_bound}
use Rattle.au_model.specs.Terms.Each.{Each}
use Rattle.au_model.specs.Terms.Named.{NamedTerm}
use Rattle.au_model.specs.Terms.Substitutions.{resolve}
use Rattle.run_model.specs.Machine.Items.{Item, GoalItem, RemovalItem, Continuation, before, goals_at, resolve_item, resolve_continuation}
use Rattle.run_model.specs.Machine.Entries.{PlainEntry}
use Rattle.binding_array.specs.declared.cell.BindingCell.{BindingCell}
use Rattle.cell_store.specs.StoreView.{StoreView, AddsText, IsValueIn, value_term, text_in}
use Rattle.region_split.specs.ChoicePoints.{Standing, by_height, height_of_cut}
use Rattle.region_split.specs.Frames.{LeftItem, item_in, AreLeftScoped}
use Rattle.region_split.specs.Regions.{RegionView, left_here, items_here, heights_of, standing, continuation_here, IsPositionIn, IsPositionOver}
use Rattle.region_split.specs.StackOperations.{PutsBefore, PutsGoals, StaysStanding, goals_here, item_here}
use Rattle.region_split.specs.declared.frame.FrameItem.TheVariants.{Goal, Removal}
use Rattle.region_split.specs.declared.frame.Position.{Position}
use Rattle.region_split.proofs.StoreLemmas.{goes_on_there}
use Rattle.task_region.specs.GoalLoads.{nothing_here, LoadsGoals}

none_left : (f : LeftItem → Item ℕ) (left : List LeftItem) → map f left ≡ [] → left ≡ []
none_left f [] e = refl
none_left f (i ∷ left) e = absurd cc

-- nothing is left in any scope
pub nothing_over : (r : RegionView) (cut : ℕ) (nothing : Position) → items_here r nothing ≡ [] → IsPositionIn r nothing → IsPositionOver r cut nothing
nothing_over r cut nothing none i = record {
  frame = i.frame;
  scoped = subst (AreLeftScoped (text_in r.store) r.store.now.next cut) (sym (none_left (item_in (text_in r.store)) (left_here r nothing) none)) tt;
  marked = i.marked;
}

pub nothing_is : (r : RegionView) (nothing : Position) → items_here r nothing ≡ [] → (named : List NamedTerm) → continuation_here named r nothing ≡ nothing_here named r
nothing_is r nothing none named =
    ap (λ items. resolve_continuation r.store.now.bound (record { items = map (by_height (heights_of named r)) items; named = named; next = r.store.now.next })) none

-- the goals after the first
pub goals_over : (r r1 : RegionView) (items : List ℕ → List (Item ℕ)) (cut : ℕ) (nothing rest : Position) → PutsBefore r r1 items cut nothing rest → (goals : List Term)
    → Each (λ t. var_bound t ≤ r.store.now.next) goals → Each (λ t. var_bound t ≤ r1.store.now.next) goals
goals_over r r1 items cut nothing rest put goals h = subst (λ (st : StoreView). Each (λ t. var_bound t ≤ st.now.next) goals) (sym (ap (λ (x : RegionView). x.store) put.others)) h

-- and the first
pub first_over : (r r1 r2 : RegionView) (items : List ℕ → List (Item ℕ)) (cut : ℕ) (nothing rest after : Position) → PutsBefore r r1 items cut nothing rest → (more : List Term)
    → PutsGoals r1 r2 more cut rest after → (goal : Term) → var_bound goal ≤ r.store.now.next → var_bound goal ≤ r2.store.now.next
first_over r r1 r2 items cut nothing rest after put more puts goal h =
    subst (λ n. var_bound goal ≤ n) (sym (puts.adds.next ∙ ap (λ (x : RegionView). x.store.now.next) put.others)) h

module _ (r r1 r2 r3 : RegionView) (nothing rest after : Position) (none : items_here r nothing ≡ []) (goal : Term) (more : List Term) (value : BindingCell) (cut number : ℕ) (within : cut ≤ length r.choices)
    (removal : PutsBefore r r1 (item_here r (Removal number) cut) cut nothing rest) (puts : PutsGoals r1 r2 more cut rest after) (adds : AddsText r2.store r3.store) (stays : StaysStanding r2 r3)
    (there : IsValueIn r3.store value) (is : value_term r3.store value ≡ goal) where
  same_store : r1.store ≡ r.store
  same_store = ap (λ (x : RegionView). x.store) removal.others

  same_choices : r3.choices ≡ r.choices
  same_choices = ap (λ (x : RegionView). x.choices) stays.others ∙ (ap (λ (x : RegionView). x.choices) puts.others ∙ ap (λ (x : RegionView). x.choices) removal.others)

  stands_still : (named : List NamedTerm) → standing named r3 ≡ standing named r
  stands_still named = stays.stands named ∙ (puts.stands named ∙ removal.stands named)

  own_item : (named : List NamedTerm) → (let i : Item ℕ = GoalItem (resolve r3.store.now.bound (value_term r3.store value)) (height_of_cut (heights_of named r3) cut) in i)
      ≡ GoalItem (resolve r.store.now.bound goal) (height_of_cut (heights_of named r) cut)
  own_item named =
      ap₂ (λ (t : Term) (st : Standing). (let i : Item ℕ = GoalItem t (height_of_cut st.heights cut) in i))
      (ap₂ resolve (adds.bound ∙ (puts.adds.bound ∙ ap (λ (st : StoreView). st.now.bound) same_store)) is) (stands_still named)

  abbrev goals_by : StoreView → Standing → List (Item ℕ)
  goals_by st s = map (resolve_item st.now.bound) (goals_at (height_of_cut s.heights cut) more)

  after_is : (named : List NamedTerm) → continuation_here named r3 after ≡ before (goals_here r more cut (heights_of named r)) (before (RemovalItem number ∷ []) (nothing_here named r))
  after_is named =
      goes_on_there r2 r3 adds stays cut after puts.position named
      ∙ (puts.goes_on named ∙ ap₂ before (ap₂ goals_by same_store (removal.stands named))
      (removal.goes_on named ∙ ap (before (RemovalItem number ∷ [])) (nothing_is r nothing none named)))

  all_before : (named : List NamedTerm) (i : Item ℕ) (gs : List (Item ℕ)) (f : Continuation ℕ) → PlainEntry (before (i ∷ []) (before gs (before (RemovalItem number ∷ []) f)))
      ≡ PlainEntry (before ((i ∷ gs) ++ RemovalItem number ∷ []) f)
  all_before named i gs f = ap (λ items. PlainEntry (record f { items = i ∷ items })) (sym (append_assoc gs (RemovalItem number ∷ []) f.items))

  pub goals_loaded : LoadsGoals r r3 (goal ∷ more) cut number (Goal value) (record { cut = cut; after = after })
  goals_loaded = record {
    there = record { goal = refl; there = there; place = record { scope = let e = ap length same_choices in omega (arith, e, within); after = stays.position cut after puts.position } };
    entry = λ named. ap₂ (λ i f. PlainEntry (before (i ∷ []) f)) (own_item named) (after_is named)
        ∙ all_before named (GoalItem (resolve r.store.now.bound goal) (height_of_cut (heights_of named r) cut)) (goals_here r more cut (heights_of named r)) (nothing_here named r);
    stands = stands_still;
    choices = same_choices;
    text = ap (λ (x : RegionView). x.text) stays.others ∙ (ap (λ (x : RegionView). x.text) puts.others ∙ ap (λ (x : RegionView). x.text) removal.others);
    floor = stays.floor ∙ (puts.adds.floor ∙ ap (λ (x : RegionView). x.store.floor) removal.others);
    next = adds.next ∙ (puts.adds.next ∙ ap (λ (st : StoreView). st.now.next) same_store);
  }
