-- Goals that are copied in and put before what follows at a position.
use Rattle.std.proofs.Common.{◌≡◌, ℕ, ◌+◌, ◌<◌, ◌≤◌, List, [], ◌∷◌, length, get_or, drop, refl, sym, ap, ap₂, ◌∙◌, subst, arith}
use Rattle.std.proofs.lemmas.List.{drop_more}
use Rattle.au_term.specs.Term.{Term}
use Rattle.au_model.specs.Terms.Named.{NamedTerm}
use Rattle.au_model.specs.Terms.Substitutions.{resolve}
use Rattle.run_model.specs.Machine.Items.{Item, GoalItem, before}
use Rattle.run_model.specs.Machine.Entries.{PlainEntry}
use Rattle.binding_array.specs.declared.cell.BindingCell.{BindingCell}
use Rattle.cell_store.specs.StoreView.{StoreView, AddsText, value_term}
use Rattle.region_split.specs.ChoicePoints.{Standing, height_of_cut}
use Rattle.region_split.specs.Regions.{RegionView, heights_of, IsPositionIn, IsPositionOver}
use Rattle.region_split.specs.StackOperations.{PutsBefore, PutsGoals, StaysStanding, item_here}
use Rattle.region_split.specs.declared.frame.FrameItem.TheVariants.{Goal}
use Rattle.region_split.specs.declared.frame.Position.{Position}
use Rattle.region_split.proofs.StoreLemmas.{goes_on_there}
use Rattle.region_split.proofs.SolvedLemmas.{nothing_added, adds_twice}

-- nothing is put
pub no_goals_put : (r : RegionView) (goals : List Term) (cut : ℕ) (after : Position) → goals ≡ [] → IsPositionOver r cut after → PutsGoals r r goals cut after after
no_goals_put r goals cut after none i =
    subst (λ gs. PutsGoals r r gs cut after after) (sym none)
    (record { position = i; goes_on = λ named. refl; stands = λ named. refl; older = omega arith; keeps = record { position = λ more p le j. j; same = λ named p le j. refl }; adds = nothing_added r.store; others = refl })

-- one more goal is put before those that are
module _ (old r r1 new : RegionView) (done : List Term) (goal : Term) (value : BindingCell) (cut : ℕ) (after q p : Position) (put : PutsGoals old r done cut after q) (adds : AddsText r.store r1.store) (stays : StaysStanding r r1)
    (is : value_term r1.store value ≡ goal) (item : PutsBefore r1 new (item_here r1 (Goal value) cut) cut q p) where
  store : new.store ≡ r1.store
  store = ap (λ (x : RegionView). x.store) item.others

  own_item : (named : List NamedTerm) → (let i : Item ℕ = GoalItem (resolve r1.store.now.bound (value_term r1.store value)) (height_of_cut (heights_of named r1) cut) in i) ≡ GoalItem (resolve old.store.now.bound goal) (height_of_cut (heights_of named old) cut)
  own_item named =
      ap₂ (λ (t : Term) (st : Standing). (let i : Item ℕ = GoalItem t (height_of_cut st.heights cut) in i)) (ap₂ resolve (adds.bound ∙ put.adds.bound) is) (stays.stands named ∙ put.stands named)

  there : (x : Position) → x.frame ≤ after.frame → IsPositionIn old x → IsPositionIn r x
  there x le i = subst (λ n. IsPositionOver r n x) (sym (ap (λ (z : RegionView). length z.choices) put.others)) (put.keeps.position (length old.choices) x le i)

  there_still : (x : Position) → IsPositionIn r x → IsPositionIn r1 x
  there_still x i = subst (λ n. IsPositionOver r1 n x) (sym (ap (λ (z : RegionView). length z.choices) stays.others)) (stays.position (length r.choices) x i)

  pub goal_put : PutsGoals old new (goal ∷ done) cut after p
  goal_put = record {
    position = item.position;
    goes_on = λ named. item.goes_on named ∙ ap₂ (λ i f. before (i ∷ []) f) (own_item named) (goes_on_there r r1 adds stays cut q put.position named ∙ put.goes_on named);
    stands = λ named. item.stands named ∙ (stays.stands named ∙ put.stands named);
    older = let m = put.older in let n = item.older in omega (arith, m, n);
    keeps = record {
      position = λ more x le i. item.keeps.position more x (let m = put.older in omega (arith, m, le)) (stays.position more x (put.keeps.position more x le i));
      same = λ named x le i.
          item.keeps.same named x (let m = put.older in omega (arith, m, le)) (there_still x (there x le i))
          ∙ (ap PlainEntry (goes_on_there r r1 adds stays (length r.choices) x (there x le i) named) ∙ put.keeps.same named x le i);
    };
    adds = subst (AddsText old.store) (sym store) (adds_twice old.store r.store r1.store put.adds adds);
    others =
        item.others
        ∙ (ap (λ (x : RegionView). record x { frames = new.frames }) stays.others
        ∙ (ap (λ (x : RegionView). record x { store = r1.store; frames = new.frames }) put.others
        ∙ ap (λ (x : StoreView). record old { store = x; frames = new.frames }) (sym store)));
  }

-- goals that are read from the last to the first
pub goal_first : (goals : List Term) (i : ℕ) (goal : Term) → i < length goals → goal ≡ get_or goals i goal → drop i goals ≡ goal ∷ drop (i + 1) goals
goal_first goals i goal lt is = drop_more goals i goal lt ∙ ap (λ g. g ∷ drop (i + 1) goals) (sym is)
