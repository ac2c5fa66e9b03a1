-- Kept regions stay bound to their branches.
use Rattle.std.proofs.Common.{◌≡◌, ◌<◌, List, [], ◌∷◌, length, map, reverse, Option, Some, None, refl, sym, ap, ap₂, ◌∙◌, subst, arith}
use Rattle.cell_store.specs.StoreView.{Moment}
use Rattle.tree_model.specs.Levels.{Place}
use Rattle.tree_nodes.specs.Bodies.{Body, Branching}
use Rattle.tree_nodes.specs.Rows.{StoredNode, Rows, row_of_node}
use Rattle.tree_nodes.specs.Staying.{StayMade, WasMadeAs}
use Rattle.tree_nodes.specs.TreeTables.{IsBelow, stored_body}
use Rattle.task_region.specs.KeptRegions.{KeptRegionsStay, TasksLeaveKept}
use Rattle.task_region.specs.PlacesUp.{LeadsUp, AreAllUp, missing_body, body_at, branching_at}
use Rattle.task_region.specs.TaskLoads.{IsBoundOnBranch}
use Rattle.task_region.proofs.PlaceUpLemmas.{below_all}

-- the way up was the same before, and so were the branches on it
pub record WasWay (old new : Rows) (places : List Place) (from : Option Place) : Type 0 where
  pub leads : LeadsUp old places from None
  pub same : branching_at old places ≡ branching_at new places

module _ (old new : Rows) (stay : StayMade old new) where
  body_was : (p : Place) (row : StoredNode) → row_of_node new p.node ≡ Some row → WasMadeAs old p.node row → body_at old p ≡ body_at new p
  body_was p row is was = ap (stored_body missing_body) was.there ∙ (was.body ∙ sym (ap (stored_body missing_body) is))

  pub way_was : (places : List Place) (from : Option Place) → IsBelow from (length old) → LeadsUp new places from None → WasWay old new places from
  way_was [] from below h = record { leads = h; same = refl }
  way_was (p ∷ places) from below h =
      let here : p.node < length old = subst (λ o. IsBelow o (length old)) h.0 below in
      let step = h.1.1.0 in
      let was = stay.stay p.node step.row here step.is in
      let rest = way_was places h.1.0 (below_all h.1.0 p.node (length old) step.below here) h.1.1.1 in
      record {
        leads = (h.0, (h.1.0, (record { row = was.was; is = was.there; parent = was.parent ∙ step.parent; below = step.below }, rest.leads)));
        same = ap₂ (λ (b : Body) (w : Branching). (b, p.index) ∷ w) (body_was p step.row step.is was) rest.same;
      }

-- there is one way up
some_same : {A : Type 0} (a b : A) → Some a ≡ Some b → a ≡ b
some_same a b e = cc

pub way_unique : (rows : Rows) (ps qs : List Place) (from : Option Place) → LeadsUp rows ps from None → LeadsUp rows qs from None → ps ≡ qs
way_unique rows [] [] from h k = refl
way_unique rows [] (q ∷ qs) from h k = absurd (cc (sym h ∙ k.0))
way_unique rows (p ∷ ps) [] from h k = absurd (cc (sym k ∙ h.0))
way_unique rows (p ∷ ps) (q ∷ qs) from h k =
    let same : p ≡ q = some_same p q (sym h.0 ∙ k.0) in
    let rows_same : h.1.1.0.row ≡ k.1.1.0.row = some_same h.1.1.0.row k.1.1.0.row (sym h.1.1.0.is ∙ (ap (λ (x : Place). row_of_node rows x.node) same ∙ k.1.1.0.is)) in
    let above : h.1.0 ≡ k.1.0 = sym h.1.1.0.parent ∙ (ap (λ (r : StoredNode). r.parent) rows_same ∙ k.1.1.0.parent) in
    ap₂ (λ (x : Place) (xs : List Place). x ∷ xs) same (way_unique rows ps qs h.1.0 h.1.1.1 (subst (λ o. LeadsUp rows qs o None) (sym above) k.1.1.1))

pub regions_stay : KeptRegionsStay
regions_stay old new text k stay kept = record {
  known = let l = stay.longer in let n = kept.known in omega (arith, l, n);
  way = λ places up.
      let was = way_was old new stay places (Some k.place) kept.known up in
      let bound = kept.way places was.leads in
      record { numbers_are = bound.numbers_are; bound = subst (λ w. IsBoundOnBranch w k.region.store.now) was.same bound.bound };
  ends = kept.ends;
  many = kept.many;
  text_is = kept.text_is;
}

pub regions_left : TasksLeaveKept
regions_left rows a text numbers t r k drawn on floor same back =
    let now : k.region.store.now ≡ t.region.store.floor = back.now ∙ floor in
    record {
      known = subst (λ (p : Place). p.node < length rows) (sym back.place_is) drawn;
      way = λ places up.
          let one : on.places ≡ places = way_unique rows on.places places (Some a) on.up (subst (λ p. AreAllUp rows p places) back.place_is up) in
          record {
            numbers_are = back.numbers_are ∙ (on.numbers_are ∙ ap (λ ps. reverse (map (λ (p : Place). p.node) ps)) one);
            bound = subst (λ (m : Moment). IsBoundOnBranch (branching_at rows places) m) (sym now) (subst (λ ps. IsBoundOnBranch (branching_at rows ps) t.region.store.floor) one on.bound);
          };
      ends = back.ends;
      many = back.many;
      text_is = back.text ∙ (same ∙ on.text_is);
    }
