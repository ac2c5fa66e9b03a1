-- What is handed out is out to the worker.
use Rattle.std.proofs.Common.{◌≡◌, ℕ, true, ◌==◌, Bool, List, [], ◌∷◌, ◌++◌, Option, Some, None, Result, Ok, Err, IfOk, IfSome, refl, sym, ap, ap₂, ◌∙◌, subst}
use Rattle.std.specs.Prelude.{is_some}
use Rattle.au_term.proofs.LogicLemmas.{number_same}
use Rattle.run_model.specs.Programs.Jobs.{Job}
use Rattle.tree_model.specs.declared.places.AltRef.{AltRef}
use Rattle.tree_model.specs.Effects.{where_some, with_status, after_event}
use Rattle.tree_model.specs.EventViews.{place_view}
use Rattle.tree_model.specs.Events.{Event, Claim, Resume}
use Rattle.tree_model.specs.Histories.{tree_after}
use Rattle.tree_model.specs.Legality.{is_spot_at, is_allowed, taken_at, claimable, resumable}
use Rattle.tree_model.specs.Levels.{Place, Spot, plug, place_at, levels_of, place_of_spot}
use Rattle.tree_model.specs.Nodes.{TakenBy, Pending, Status}
use Rattle.tree_model.specs.TreeStates.{TreeState, opening_tree}
use Rattle.tree_nodes.specs.RowViews.{parent_view}
use Rattle.tree_nodes.specs.Rows.{AlternativeCell, cell_at}
use Rattle.tree_nodes.specs.TreeTables.{IsTableOf}
use Rattle.tree_nodes.proofs.WalkLemmas.{cell_here}
use Rattle.interleaving.proofs.UnchangedPlaceLemmas.{after-last, same_place-is}
use Rattle.branch_reading.specs.Readings.{reading}
use Rattle.public_tree.specs.PublicTrees.{PublicView, HandsOut, Notes, is_taken_at}
use Rattle.public_tree.specs.Following.{tree_of}
use Rattle.public_tree.proofs.FoundLemmas.{out_is}
use Rattle.tree_core.specs.Histories.{IsTreeOf}
use Rattle.tree_core.proofs.MoveLemmas.{legal_parts}

-- who has what an event hands out
abbrev pub HoldsOffered : ℕ → (Place → Event) → (TreeState → Option Spot) → Type 0
HoldsOffered w event offer = (t : TreeState) (a : Place) (s : Spot) → offer t ≡ Some s
    → (after_event t (event a)).root ≡ plug (levels_of s) (Pending (TakenBy w) s.entry)

pub claim_holds : (w : ℕ) → HoldsOffered w (λ a. Claim w a) claimable
unfolding after_event
claim_holds w t a s e = ap (λ (o : Option Spot). (where_some o t (λ r. with_status r (Pending (TakenBy w) r.entry) t)).root) e

pub resume_holds : (w : ℕ) → HoldsOffered w (λ a. Resume w a) resumable
unfolding after_event
resume_holds w t a s e = ap (λ (o : Option Spot). (where_some o t (λ r. with_status r (Pending (TakenBy w) r.entry) t)).root) e

module _ (job : Job) (w : ℕ) (event : Place → Event) (offer : TreeState → Option Spot) (old new : PublicView) (h : IsTreeOf job old)
    (allows : (a : Place) → is_allowed (tree_of job old) (event a) ≡ is_spot_at a (offer (tree_of job old))) (holds : HoldsOffered w event offer) where
  abbrev t : TreeState
  t = tree_of job old

  next_tree : (a : Place) → Notes old new (event a) → tree_of job new ≡ after_event t (event a)
  next_tree a k =
      ap (λ (n : ℕ). tree_after job n new.window new.log.events) k.budget
      ∙ (ap (λ (n : ℕ). tree_after job old.budget n new.log.events) k.window
      ∙ (ap (tree_after job old.budget old.window) k.noted ∙ after-last (opening_tree job old.budget old.window) old.log.events (event a)))

  out_now : (a : Place) → Notes old new (event a) → is_some (taken_at w a (tree_of job new)) ≡ true
  out_now a k = by_spot (offer t) refl (sym (allows a) ∙ (legal_parts t (event a) (k.legal (reading job) t h.follows.stands)).1)
    where
      by_spot : (o : Option Spot) → offer t ≡ o → is_spot_at a o ≡ true → is_some (taken_at w a (tree_of job new)) ≡ true
      by_spot None e b = absurd (cc b)
      by_spot (Some s) e b =
          let at : place_at s.level ≡ a = sym (same_place-is a (place_of_spot s) b) in
          let stands = k.stands (reading job) t h.follows.stands in
          let table = subst (IsTableOf new.nodes (reading job)) (holds t a s e) stands.placed in
          let cell = cell_here new.nodes (reading job) s.level s.above (Pending (TakenBy w) s.entry) table in
          let taken : is_taken_at w (cell_at new.nodes.rows a) ≡ true
          = ap (λ (p : Place). is_taken_at w (cell_at new.nodes.rows p)) (sym at) ∙ (ap (is_taken_at w) cell ∙ number_same w) in
          ap (λ (x : TreeState). is_some (taken_at w a x)) (next_tree a k)
          ∙ (sym (out_is new.nodes w a (reading job) (after_event t (event a)).root stands.placed) ∙ taken)

  -- whatever was answered
  pub out_then : {E : Type 0} → (r : Result (Option AltRef) E) → IfOk r (λ at. HandsOut event offer old new (parent_view at))
      → IfOk r (λ at. IfSome at (λ a. is_some (taken_at w (place_view a) (tree_of job new)) ≡ true))
  out_then (Ok (Some a)) k = out_now (place_view a) k
  out_then (Ok None) k = tt
  out_then (Err x) k = k
