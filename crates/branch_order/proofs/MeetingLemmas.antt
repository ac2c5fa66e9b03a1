-- Two branches followed up to where they part.
use Rattle.std.proofs.Common.{◌≡◌, Bool, List, ◌∷◌, Some, None, refl, sym, ◌∙◌, subst, inl, inr}
use Rattle.std.specs.Prelude.{nat_lt}
use Rattle.tree_model.specs.declared.places.AltRef.{AltRef}
use Rattle.tree_model.specs.EventViews.{place_view}
use Rattle.tree_model.specs.Nodes.{Status}
use Rattle.tree_model.specs.Levels.{Level, plug, Place, place_at}
use Rattle.tree_nodes.specs.Bodies.{Reading}
use Rattle.tree_nodes.specs.TreeTables.{NodesView, IsTableOf}
use Rattle.tree_nodes.proofs.MeetLemmas.{AreSides, sides_begin, sides_turned, first_up, never_stuck, meeting_parts}
use Rattle.branch_order.specs.Meetings.{IsBeforeAt, IsMeetStep}

-- from two places the sides have come to these
abbrev pub Meets : NodesView → Place → Place → Place → Place → Type 0
Meets nodes a b x y =
    (read : Reading) (v : Level) (up : List Level) (s : Status) (w : Level) (over : List Level) (t : Status) → place_at v ≡ a → place_at w ≡ b
    → IsTableOf nodes read (plug (v ∷ up) s) → plug (v ∷ up) s ≡ plug (w ∷ over) t → AreSides (plug (v ∷ up) s) (v ∷ up) (w ∷ over) x y

pub meets_begin : (nodes : NodesView) (a b : Place) → Meets nodes a b a b
meets_begin nodes a b read v up s w over t e f st same =
    let k = sides_begin (plug (v ∷ up) s) v up s w over t refl same in
    subst (λ (p : Place). AreSides (plug (v ∷ up) s) (v ∷ up) (w ∷ over) p b) e
    (subst (λ (p : Place). AreSides (plug (v ∷ up) s) (v ∷ up) (w ∷ over) (place_at v) p) f k)

pub meets_more : (nodes : NodesView) (a b x y : Place) (p : AltRef × AltRef) → Meets nodes a b x y → IsMeetStep nodes.rows x y (Some p)
    → Meets nodes a b (place_view p.0) (place_view p.1)
meets_more nodes a b x y p m (inl h) read v up s w over t e f st same =
    let k = m read v up s w over t e f st same in
    subst (λ (q : Place). AreSides (plug (v ∷ up) s) (v ∷ up) (w ∷ over) (place_view p.0) q) (sym h.1)
    (first_up nodes read (plug (v ∷ up) s) (v ∷ up) (w ∷ over) x y (place_view p.0) st k h.0.0 h.0.1)
meets_more nodes a b x y p m (inr h) read v up s w over t e f st same =
    let k = sides_turned (plug (v ∷ up) s) (v ∷ up) (w ∷ over) x y (m read v up s w over t e f st same) in
    let n = first_up nodes read (plug (v ∷ up) s) (w ∷ over) (v ∷ up) y x (place_view p.1) st k h.0.0 h.0.1 in
    subst (λ (q : Place). AreSides (plug (v ∷ up) s) (v ∷ up) (w ∷ over) q (place_view p.1)) (sym h.1)
    (sides_turned (plug (v ∷ up) s) (w ∷ over) (v ∷ up) (place_view p.1) x n)

pub meets_end : (nodes : NodesView) (a b x y : Place) (result : Bool) → Meets nodes a b x y → IsMeetStep nodes.rows x y None → result ≡ nat_lt x.index y.index
    → IsBeforeAt nodes a b result
meets_end nodes a b x y result m (inl h) r read v up s w over t e f st same =
    r ∙ sym (meeting_parts nodes read (plug (v ∷ up) s) v up s w over t st refl same x y (m read v up s w over t e f st same) h)
meets_end nodes a b x y result m (inr (inl h)) r read v up s w over t e f st same =
    absurd (never_stuck nodes read (plug (v ∷ up) s) (v ∷ up) (w ∷ over) x y st (m read v up s w over t e f st same) h.0 h.1)
meets_end nodes a b x y result m (inr (inr h)) r read v up s w over t e f st same =
    absurd (never_stuck nodes read (plug (v ∷ up) s) (w ∷ over) (v ∷ up) y x st
    (sides_turned (plug (v ∷ up) s) (v ∷ up) (w ∷ over) x y (m read v up s w over t e f st same)) h.0 h.1)
