-- Goals that are put before what follows, while others are pending.
use Rattle.std.proofs.Common.{◌≡◌, ℕ, ◌+◌, ◌<◌, List, [], ◌∷◌, ◌++◌, append_assoc, append-nil, length, map, refl, sym, ap, ◌∙◌, subst, arith}
use Rattle.std.specs.Prelude.{codes}
use Rattle.std.proofs.lemmas.List.{map-append}
use Rattle.au_term.specs.Term.{Term}
use Rattle.au_model.specs.Terms.Each.{Each}
use Rattle.au_model.specs.Terms.Unifier.{size}
use Rattle.au_model.proofs.EachLemmas.{each-append}
use Rattle.au_model.proofs.UnifierMeasureLemmas.{size_pos}
use Rattle.run_model.specs.Programs.Bodies.{goals_of}
use Rattle.run_model.specs.Machine.Items.{Item}
use Rattle.binding_array.specs.declared.cell.BindingCell.{BindingCell}
use Rattle.cell_store.specs.Arguments.{sizes}
use Rattle.cell_store.specs.StoreView.{StoreView, IsValueIn, meaning}
use Rattle.cell_store.proofs.WalkLemmas.{sizes_append}
use Rattle.region_split.specs.Regions.{RegionView, IsPositionOver}
use Rattle.region_split.specs.StackOperations.{PutsBefore, item_here}
use Rattle.region_split.specs.ClauseTrials.{KeepsChoices}
use Rattle.region_split.specs.declared.frame.FrameItem.TheVariants.{Goal}
use Rattle.region_split.specs.declared.frame.Position.{Position}
use Rattle.region_split.proofs.ItemLemmas.{nothing_put, put_twice}
use Rattle.region_control.specs.Goals.{goals_by}
use Rattle.region_control.specs.Sides.{HasSides, HasNoSides}
use Rattle.region_control.proofs.SideLemmas.{one_goal}

-- the goals of bodies one after another
abbrev pub goals_of_all : List Term → List Term
goals_of_all [] = []
goals_of_all (t ∷ ts) = goals_of t ++ goals_of_all ts

all-append : (ts us : List Term) → goals_of_all (ts ++ us) ≡ goals_of_all ts ++ goals_of_all us
all-append [] us = refl
all-append (t ∷ ts) us = ap (λ gs. goals_of t ++ gs) (all-append ts us) ∙ sym (append_assoc (goals_of t) (goals_of_all ts) (goals_of_all us))

-- what pending values stand for
abbrev pub pending_terms : StoreView → List BindingCell → List Term
pending_terms st pending = map (meaning st) pending

-- the goals that are done were put, and those of what is pending come before them
pub record ArePutting (old now : RegionView) (body : BindingCell) (cut : ℕ) (after next : Position) (pending : List BindingCell) : Type 0 where
  pub done : List Term
  pub put : PutsBefore old now (goals_by done cut) cut after next
  pub whole : goals_of (meaning old.store body) ≡ goals_of_all (pending_terms old.store pending) ++ done
  pub there : Each (IsValueIn old.store) pending

pub putting_begun : (r : RegionView) (body : BindingCell) (cut : ℕ) (after : Position) (pending : List BindingCell) → pending ≡ body ∷ [] → IsValueIn r.store body → IsPositionOver r cut after → ArePutting r r body cut after after pending
putting_begun r body cut after pending e v i = record {
  done = [];
  put = nothing_put r cut after i;
  whole = sym (ap (λ ps. goals_of_all (pending_terms r.store ps) ++ []) e ∙ (append-nil (goals_of (meaning r.store body) ++ []) ∙ append-nil (goals_of (meaning r.store body))));
  there = subst (Each (IsValueIn r.store)) (sym e) (v, tt);
}

pub last_there : (st : StoreView) (rest : List BindingCell) (value : BindingCell) → Each (IsValueIn st) (rest ++ value ∷ []) → Each (IsValueIn st) rest × IsValueIn st value
last_there st [] value k = (tt, k.0)
last_there st (v ∷ rest) value k = let more = last_there st rest value k.1 in ((k.0, more.0), more.1)

module _ (old now : RegionView) (body : BindingCell) (cut : ℕ) (after next : Position) (pending rest : List BindingCell) (value : BindingCell) (popped : pending ≡ rest ++ value ∷ []) (k : ArePutting old now body cut after next pending) where
  pub same_store : now.store ≡ old.store
  same_store = ap (λ (x : RegionView). x.store) k.put.others

  rests : Each (IsValueIn old.store) rest × IsValueIn old.store value
  rests = last_there old.store rest value (subst (Each (IsValueIn old.store)) popped k.there)

  pub value_there : IsValueIn now.store value
  value_there = subst (λ st. IsValueIn st value) (sym same_store) rests.1

  before_value : goals_of (meaning old.store body) ≡ goals_of_all (pending_terms old.store rest) ++ (goals_of (meaning old.store value) ++ k.done)
  before_value =
      k.whole
      ∙ (ap (λ ps. goals_of_all (pending_terms old.store ps) ++ k.done) popped
      ∙ (ap (λ ts. goals_of_all ts ++ k.done) (map-append (meaning old.store) rest (value ∷ []))
      ∙ (ap (λ gs. gs ++ k.done) (all-append (pending_terms old.store rest) (meaning old.store value ∷ []) ∙ ap (λ gs. goals_of_all (pending_terms old.store rest) ++ gs) (append-nil (goals_of (meaning old.store value))))
      ∙ append_assoc (goals_of_all (pending_terms old.store rest)) (goals_of (meaning old.store value)) k.done)))

  size_popped : sizes (pending_terms old.store pending) ≡ sizes (pending_terms old.store rest) + size (meaning old.store value)
  size_popped = ap (λ ps. sizes (pending_terms old.store ps)) popped ∙ (ap sizes (map-append (meaning old.store) rest (value ∷ [])) ∙ (sizes_append (pending_terms old.store rest) (meaning old.store value ∷ []) ∙ omega arith))

  -- a goal was put
  module _ (new : RegionView) (p : Position) (alone : HasNoSides now.store value (codes ",")) (put : PutsBefore now new (item_here now (Goal value) cut) cut next p) where
    one : goals_of (meaning old.store value) ≡ meaning old.store value ∷ []
    one = one_goal (meaning old.store value) (subst (λ st. HasNoSides st value (codes ",")) same_store alone)

    pub goal_put : ArePutting old new body cut after p rest
    goal_put = record {
      done = meaning old.store value ∷ k.done;
      put = put_twice old now new (goals_by k.done cut) (goals_by (meaning old.store value ∷ []) cut) cut cut after next p k.put (subst (λ st. PutsBefore now new (goals_by (meaning st value ∷ []) cut) cut next p) same_store put);
      whole = before_value ∙ ap (λ gs. goals_of_all (pending_terms old.store rest) ++ (gs ++ k.done)) one;
      there = rests.0;
    }

  -- both sides are pending
  module _ (sides : BindingCell × BindingCell) (has : HasSides now.store value (codes ",") sides) (more : List BindingCell) (pushed : more ≡ (rest ++ sides.0 ∷ []) ++ sides.1 ∷ []) where
    abbrev Both : StoreView → Type 0
    Both st = HasSides st value (codes ",") sides

    here : Both old.store
    here = subst Both same_store has

    listed : more ≡ rest ++ sides.0 ∷ sides.1 ∷ []
    listed = pushed ∙ append_assoc rest (sides.0 ∷ []) (sides.1 ∷ [])

    parted : goals_of (meaning old.store value) ≡ goals_of_all (pending_terms old.store (sides.0 ∷ sides.1 ∷ []))
    parted = ap goals_of here.term ∙ ap (λ gs. goals_of (meaning old.store sides.0) ++ gs) (sym (append-nil (goals_of (meaning old.store sides.1))))

    pub sides_pending : ArePutting old now body cut after next more
    sides_pending = record {
      done = k.done;
      put = k.put;
      whole =
          before_value
          ∙ (ap (λ gs. goals_of_all (pending_terms old.store rest) ++ (gs ++ k.done)) parted
          ∙ (sym (append_assoc (goals_of_all (pending_terms old.store rest)) (goals_of_all (pending_terms old.store (sides.0 ∷ sides.1 ∷ []))) k.done)
          ∙ ap (λ gs. gs ++ k.done) (sym (all-append (pending_terms old.store rest) (pending_terms old.store (sides.0 ∷ sides.1 ∷ []))) ∙ ap goals_of_all (sym (ap (pending_terms old.store) listed ∙ map-append (meaning old.store) rest (sides.0 ∷ sides.1 ∷ []))))));
      there = subst (Each (IsValueIn old.store)) (sym listed) (each-append (IsValueIn old.store) rest (sides.0 ∷ sides.1 ∷ []) rests.0 (here.left, (here.right, tt)));
    }

    pub sides_smaller : sizes (pending_terms old.store more) < sizes (pending_terms old.store pending)
    sides_smaller =
        let a = ap (λ ps. sizes (pending_terms old.store ps)) listed ∙ (ap sizes (map-append (meaning old.store) rest (sides.0 ∷ sides.1 ∷ [])) ∙ sizes_append (pending_terms old.store rest) (pending_terms old.store (sides.0 ∷ sides.1 ∷ []))) in
        let b = size_popped in
        let c = ap size here.term in
        omega (arith, a, b, c)

  pub goal_smaller : sizes (pending_terms old.store rest) < sizes (pending_terms old.store pending)
  goal_smaller = let b = size_popped in let p = size_pos (meaning old.store value) in omega (arith, b, p)

-- nothing is pending
pub all_put : (old now : RegionView) (body : BindingCell) (cut : ℕ) (after next : Position) (pending : List BindingCell) → length pending ≡ 0 → ArePutting old now body cut after next pending → PutsBefore old now (goals_by (goals_of (meaning old.store body)) cut) cut after next
all_put old now body cut after next [] e k = subst (λ gs. PutsBefore old now (goals_by gs cut) cut after next) (sym k.whole) k.put
all_put old now body cut after next (p ∷ pending) e k = absurd (omega (arith, e))

-- the choice points stand for what they stood for
pub choices_kept : (old now : RegionView) (items : List ℕ → List (Item ℕ)) (cut : ℕ) (after p : Position) → PutsBefore old now items cut after p → KeepsChoices old now
choices_kept old now items cut after p put = record { stands = put.stands; others = put.others ∙ ap (λ m. record old { store = record old.store { now = m }; frames = now.frames }) (sym (ap (λ (x : RegionView). x.store.now) put.others)) }

-- a body that is one goal
pub body_put : (r new : RegionView) (body : BindingCell) (cut : ℕ) (after p : Position) → HasNoSides r.store body (codes ",") → PutsBefore r new (item_here r (Goal body) cut) cut after p → PutsBefore r new (goals_by (goals_of (meaning r.store body)) cut) cut after p
body_put r new body cut after p alone put = subst (λ gs. PutsBefore r new (goals_by gs cut) cut after p) (sym (one_goal (meaning r.store body) alone)) put
