-- What is handed out of a job's tree, and what is out.
use Rattle.std.proofs.Common.{◌≡◌, ◌≢◌, ℕ, Bool, true, cond, List, [], ◌∷◌, ◌++◌, length, Option, Some, None, refl, sym, ap, ◌∙◌, subst, arith}
use Rattle.std.specs.Prelude.{Result, Ok, Err, IfOk, OnErr}
use Rattle.std.specs.Option.{option_map}
use Rattle.run_model.specs.Programs.Jobs.{Job}
use Rattle.tree_model.specs.declared.places.AltRef.{AltRef}
use Rattle.tree_model.specs.Events.{Event, Claim, Resume}
use Rattle.tree_model.specs.HandOuts.{Handed, Never, Out, Away, Over, claimed, resumed, and_so_on, handed_after}
use Rattle.tree_model.specs.Legality.{is_spot_at, is_allowed, is_legal}
use Rattle.tree_model.specs.Levels.{Place, Spot, place_of_spot}
use Rattle.tree_model.specs.TreeStates.{TreeState}
use Rattle.tree_nodes.specs.RowViews.{parent_view}
use Rattle.interleaving.proofs.UnchangedPlaceLemmas.{same_place-is, place_self}
use Rattle.branch_reading.specs.Readings.{reading}
use Rattle.public_tree.specs.PublicTrees.{PublicView, HandsOut, IsSameTree, is_going, offered, promised_out}
use Rattle.public_tree.specs.Following.{tree_of, IsOnce}
use Rattle.public_tree.proofs.FollowingLemmas.{known_follow}
use Rattle.tree_core.specs.TasksOut.{out_by, out_after}
use Rattle.tree_core.specs.Histories.{history_of, IsTreeOf}
use Rattle.tree_core.specs.HandOuts.{offered_at, handing_out, WasHanded}
use Rattle.tree_core.proofs.TasksOutLemmas.{after_more}
use Rattle.tree_core.proofs.MoveLemmas.{Moves, legal_parts, noted, nothing, here}

-- an event at the place of what is offered
at_offered : (t : TreeState) (offer : TreeState → Option Spot) (event : Place → Event) (a : Place) (o : Option Spot) → offer t ≡ o
    → is_allowed t (event a) ≡ is_spot_at a (offer t) → is_legal t (event a) ≡ true → Some a ≡ option_map place_of_spot (offered t o)
at_offered t offer event a o e allows l =
    let parts = legal_parts t (event a) l in
    by_spot parts.0 o (ap (is_spot_at a) (sym e) ∙ (sym allows ∙ parts.1))
  where
    by_spot : is_going t ≡ true → (o : Option Spot) → is_spot_at a o ≡ true → Some a ≡ option_map place_of_spot (offered t o)
    by_spot going None h = absurd (cc h)
    by_spot going (Some s) h =
        let same : a ≡ place_of_spot s = same_place-is a (place_of_spot s) h in
        ap (λ (p : Place). Some p) same ∙ sym (ap (λ (b : Bool). option_map place_of_spot (cond b (Some s) None)) going)

-- what can be claimed had never been handed out, and what can be resumed had been given back to wait
pub claimed_once : (w : ℕ) (a : Place) (h : Handed) → handed_after a (Claim w a ∷ []) h ≢ None → h ≡ Never
claimed_once w a h d = by_handed h (λ e. d (ap (λ (b : Bool). and_so_on (cond b (claimed w h) (Some h)) (λ k. Some k)) (place_self a) ∙ ap (λ (o : Option Handed). and_so_on o (λ k. Some k)) e))
  where
    by_handed : (h : Handed) → claimed w h ≢ None → h ≡ Never
    by_handed Never n = refl
    by_handed (Out v) n = absurd (n refl)
    by_handed Away n = absurd (n refl)
    by_handed Over n = absurd (n refl)

pub resumed_once : (w : ℕ) (a : Place) (h : Handed) → handed_after a (Resume w a ∷ []) h ≢ None → h ≡ Away
resumed_once w a h d = by_handed h (λ e. d (ap (λ (b : Bool). and_so_on (cond b (resumed w h) (Some h)) (λ k. Some k)) (place_self a) ∙ ap (λ (o : Option Handed). and_so_on o (λ k. Some k)) e))
  where
    by_handed : (h : Handed) → resumed w h ≢ None → h ≡ Away
    by_handed Away n = refl
    by_handed (Out v) n = absurd (n refl)
    by_handed Never n = absurd (n refl)
    by_handed Over n = absurd (n refl)

module _ (job : Job) (event : Place → Event) (offer : TreeState → Option Spot) (old new : PublicView) (h : IsTreeOf job old) where
  abbrev t : TreeState
  t = tree_of job old

  pub handed_out : ((a : Place) (places : List Place) → out_by (event a) places ≡ a ∷ places) → (at : Option Place) → HandsOut event offer old new at
      → new.log.promised ≡ promised_out at old.log.promised → Moves job new (handing_out event at (history_of job old))
  handed_out adds None k p = nothing job old new h k.0 p
  handed_out adds (Some a) k p = noted job old new h (event a) (here job old new h (event a) k)
      (let r = h.room in let f = ap length (adds a (out_after old.log.events [])) in omega (arith, r, f, p))

  pub handed_by_any : {E : Type 0} → ((a : Place) (places : List Place) → out_by (event a) places ≡ a ∷ places) → (r : Result (Option AltRef) E)
      → IfOk r (λ at. HandsOut event offer old new (parent_view at)) → IfOk r (λ at. new.log.promised ≡ promised_out (parent_view at) old.log.promised)
      → OnErr r (IsSameTree old new) → OnErr r (new.log.promised ≡ old.log.promised) → IsTreeOf job new
  handed_by_any adds (Ok at) k p e q = (handed_out adds (parent_view at) k p).kept
  handed_by_any adds (Err x) k p e q = (nothing job old new h e q).kept

  pub handed_at : ((a : Place) → is_allowed t (event a) ≡ is_spot_at a (offer t)) → (at : Option Place) → HandsOut event offer old new at
      → at ≡ offered_at offer t
  handed_at allows None k = sym (ap (option_map place_of_spot) (k.1 (reading job) t h.follows.stands))
  handed_at allows (Some a) k = at_offered t offer event a (offer t) refl (allows a) (k.legal (reading job) t h.follows.stands)

  pub handed_once : IsOnce → (before : Handed) → ((a : Place) (x : Handed) → handed_after a (event a ∷ []) x ≢ None → x ≡ before) → (at : Option Place)
      → HandsOut event offer old new at → WasHanded before at (history_of job old)
  handed_once once before only None k = tt
  handed_once once before only (Some a) k =
      let defined : handed_after a (old.log.events ++ event a ∷ []) Never ≢ None
      = subst (λ (es : List Event). handed_after a es Never ≢ None) k.noted
      (once job (reading job) new a (known_follow job (reading job) old new (event a) h.follows (here job old new h (event a) k))) in
      by_before (handed_after a old.log.events Never) (λ e. defined (after_more a old.log.events (event a) Never ∙ e))
    where
      by_before : (o : Option Handed) → and_so_on o (handed_after a (event a ∷ [])) ≢ None → o ≡ Some before
      by_before None d = absurd (d refl)
      by_before (Some x) d = ap (λ (y : Handed). Some y) (only a x d)

  -- whatever was answered
  pub places_offered : {E : Type 0} → ((a : Place) → is_allowed t (event a) ≡ is_spot_at a (offer t)) → (r : Result (Option AltRef) E)
      → IfOk r (λ at. HandsOut event offer old new (parent_view at)) → IfOk r (λ at. parent_view at ≡ offered_at offer t)
  places_offered allows (Ok at) k = handed_at allows (parent_view at) k
  places_offered allows (Err x) k = tt

  pub before_handed : {E : Type 0} → IsOnce → (before : Handed) → ((a : Place) (x : Handed) → handed_after a (event a ∷ []) x ≢ None → x ≡ before)
      → (r : Result (Option AltRef) E) → IfOk r (λ at. HandsOut event offer old new (parent_view at))
      → IfOk r (λ at. WasHanded before (parent_view at) (history_of job old))
  before_handed once before only (Ok at) k = handed_once once before only (parent_view at) k
  before_handed once before only (Err x) k = tt
