-- A ball lands where its copy with variables numbered from 0 lands, and leaves the same there.
use Rattle.std.proofs.Common.{◌≡◌, ℕ, ◌+◌, ◌==◌, cond, List, [], ◌∷◌, Option, Some, None, refl, sym, ap, ap₂, ◌∙◌}
use Rattle.au_term.specs.Term.{Term}
use Rattle.au_model.specs.Terms.Copies.{copied}
use Rattle.au_model.specs.Terms.Substitutions.{Substitution, resolve}
use Rattle.au_model.specs.Terms.Unifier.{unifier}
use Rattle.clause_compile.specs.declared.item.Item.TheVariants.{End}
use Rattle.tree_model.specs.Levels.{Place}
use Rattle.tree_nodes.specs.Bodies.{Body, BodyKind, ChoiceBody, ConditionBody, CatchBody, FindallBody, QueryBody, Branching, IsWhole, is_whole}
use Rattle.tree_nodes.specs.Rows.{Rows}
use Rattle.tree_closing.specs.Sleeping.{right_of}
use Rattle.branch_reading.specs.BranchSegments.{next_number, segments_on}
use Rattle.task_region.specs.PlacesUp.{body_at, items_at_place}
use Rattle.task_stops.specs.CopiesAgain.{IsCopiedAlike}
use Rattle.task_stops.specs.LandingBodies.{IsEndBody, IsLandingBody, IsRecoveryBody, body_with}
use Rattle.task_stops.specs.Landings.{at_node, bound_on, here_or, innermost_catch, is_beside_sleeper, landing, taken_on, way_beside}

module _ (rows : Rows) (thrown : Term) (alike : IsCopiedAlike thrown) where
  abbrev ball : Term
  ball = copied thrown 0

  taken_alike : (way : Branching) (catcher : Term) → taken_on way catcher ball ≡ taken_on way catcher thrown
  taken_alike way catcher = ap (λ c. unifier ((resolve (bound_on way) catcher, c) ∷ [])) (alike.copies (next_number (segments_on way)))

  node_alike : (k : BodyKind) (way : Branching) (here further : List Place) → at_node k way ball here further ≡ at_node k way thrown here further
  node_alike ChoiceBody way here further = refl
  node_alike ConditionBody way here further = refl
  node_alike (CatchBody catcher recovery) way here further = ap (λ (o : Option Substitution). here_or o here further) (taken_alike way catcher)
  node_alike (FindallBody results list) way here further = refl
  node_alike QueryBody way here further = refl

  pub landing_alike : (mark : Option ℕ) (places : List Place) → landing rows ball mark places ≡ landing rows thrown mark places
  landing_alike mark [] = refl
  landing_alike None (p ∷ above) = refl
  landing_alike (Some n) (p ∷ above) =
      let way = way_beside rows p above in
      let next = innermost_catch (items_at_place rows (right_of p)) in
      ap₂ (λ (here further : List Place). cond (p.node == n) (cond (is_beside_sleeper rows p) here []) further)
      (node_alike (body_at rows p).kind way (p ∷ above) (landing rows ball next above)
      ∙ ap (at_node (body_at rows p).kind way thrown (p ∷ above)) (landing_alike next above))
      (landing_alike (Some n) above)

  recovery_alike : (p : Place) (above : List Place) (body : Body) → IsRecoveryBody rows p above ball body → IsRecoveryBody rows p above thrown body
  recovery_alike p above body h =
      let way = way_beside rows p above in
      record {
        catcher = h.catcher;
        recovery = h.recovery;
        kind = h.kind;
        second = h.second;
        there = h.there;
        unifier = h.unifier;
        takes = sym (taken_alike way h.catcher) ∙ h.takes;
        before = h.before;
        same = h.same;
        after = h.after;
        composed = h.composed;
        segment = h.segment;
        leads = h.leads;
        numbers = h.numbers ∙ ap (λ n. next_number (segments_on way) + n) alike.takes;
        made = h.made;
      }

  end_alike : (body : Body) → IsEndBody ball body → IsEndBody thrown body
  end_alike body h =
      record { next = h.next; segment = h.segment; made = h.made ∙ ap (λ b. body_with h.next h.segment (End (Some b) ∷ [])) (alike.copies 0) }

  pub body_alike : (places landed : List Place) (scope : ℕ) (body : Body) → IsLandingBody rows places ball landed scope body
      → IsLandingBody rows places thrown landed scope body
  body_alike places [] scope body h = (h.0, end_alike body h.1)
  body_alike places (p ∷ above) scope body h = (h.0, recovery_alike p above body h.1)

-- what it leaves has a branch
pub landing_whole : (rows : Rows) (places landed : List Place) (b : Term) (scope : ℕ) (body : Body) → IsLandingBody rows places b landed scope body → IsWhole body
landing_whole rows places [] b scope body h = ap is_whole h.1.made
landing_whole rows places (p ∷ above) b scope body h = ap is_whole h.1.made
