-- One event more is a history one longer.
use Rattle.std.proofs.Common.{◌≡◌, ℕ, Bool, true, List, [], ◌∷◌, ◌++◌, refl, sym, ap, ◌∙◌, subst}
use Rattle.std.specs.Prelude.{◌&&◌}
use Rattle.au_term.proofs.LogicLemmas.{both}
use Rattle.run_model.specs.Programs.Jobs.{Query, Job}
use Rattle.tree_model.specs.Events.{Event}
use Rattle.tree_model.specs.TreeStates.{TreeState, opening_root, opening_tree}
use Rattle.tree_model.specs.Legality.{is_legal}
use Rattle.tree_model.specs.Effects.{after_event}
use Rattle.tree_model.specs.Histories.{after_events, are_legal, tree_after, IsLegalHistory}
use Rattle.public_tree.specs.PublicTrees.{IsRooted, IsPublicOf}
use Rattle.public_tree.specs.Following.{tree_of, EventsFollow, KnownEventsFollow, SeveralFollow, NothingFollows, OpeningFollows}
use Rattle.interleaving.proofs.LegalLemmas.{opening_sound}
use Rattle.interleaving.proofs.UnchangedPlaceLemmas.{after-last}

pub one_more_legal : (t : TreeState) (es : List Event) (e : Event) → are_legal t es ≡ true → is_legal (after_events t es) e ≡ true
    → are_legal t (es ++ e ∷ []) ≡ true
one_more_legal t [] e h l = ap (λ (b : Bool). b && true) l
one_more_legal t (d ∷ es) e h l =
    let parts = both (is_legal t d) (are_legal (after_event t d) es) h in
    ap (λ (b : Bool). b && are_legal (after_event t d) (es ++ e ∷ [])) parts.0
    ∙ one_more_legal (after_event t d) es e parts.1 l

-- the tree and its history by budget, window and events
abbrev Legal : Job → ℕ → ℕ → List Event → Type 0
Legal job b w es = IsLegalHistory job b w es

same_legal : (job : Job) (b c v w : ℕ) (es ds : List Event) → b ≡ c → v ≡ w → es ≡ ds → IsLegalHistory job c w ds → IsLegalHistory job b v es
same_legal job b c v w es ds e f g h =
    subst (λ (x : ℕ). Legal job x v es) (sym e) (subst (λ (x : ℕ). Legal job c x es) (sym f) (subst (λ (x : List Event). Legal job c w x) (sym g) h))

same_tree : (job : Job) (b c v w : ℕ) (es ds : List Event) → b ≡ c → v ≡ w → es ≡ ds → tree_after job b v es ≡ tree_after job c w ds
same_tree job b c v w es ds e f g =
    ap (λ (x : ℕ). tree_after job x v es) e ∙ (ap (λ (x : ℕ). tree_after job c x es) f ∙ ap (λ (x : List Event). tree_after job c w x) g)

pub known_follow : KnownEventsFollow
known_follow job read old new e h n =
    let t = opening_tree job old.budget old.window in
    let es = old.log.events in
    let tree : tree_of job new ≡ after_event (tree_of job old) e
    = same_tree job new.budget old.budget new.window old.window new.log.events (es ++ e ∷ []) n.budget n.window n.noted ∙ after-last t es e in
    record {
      legal = same_legal job new.budget old.budget new.window old.window new.log.events (es ++ e ∷ []) n.budget n.window n.noted
          (one_more_legal t es e h.legal n.legal);
      stands = subst (IsPublicOf new read) (sym tree) n.stands;
    }

several_legal : (t : TreeState) (es ds : List Event) → are_legal t es ≡ true → are_legal (after_events t es) ds ≡ true
    → are_legal t (es ++ ds) ≡ true
several_legal t [] ds h l = l
several_legal t (e ∷ es) ds h l =
    let parts = both (is_legal t e) (are_legal (after_event t e) es) h in
    ap (λ (b : Bool). b && are_legal (after_event t e) (es ++ ds)) parts.0 ∙ several_legal (after_event t e) es ds parts.1 l

after_several : (t : TreeState) (es ds : List Event) → after_events t (es ++ ds) ≡ after_events (after_events t es) ds
after_several t [] ds = refl
after_several t (e ∷ es) ds = after_several (after_event t e) es ds

pub several_follow : SeveralFollow
several_follow job read old new es h n =
    let t = opening_tree job old.budget old.window in
    let was = old.log.events in
    let tree : tree_of job new ≡ after_events (tree_of job old) es
    = same_tree job new.budget old.budget new.window old.window new.log.events (was ++ es) n.budget n.window n.noted ∙ after_several t was es in
    record {
      legal = same_legal job new.budget old.budget new.window old.window new.log.events (was ++ es) n.budget n.window n.noted
          (several_legal t was es h.legal n.legal);
      stands = subst (IsPublicOf new read) (sym tree) n.stands;
    }

pub events_follow : EventsFollow
events_follow job read old new e h n = known_follow job read old new e h (record {
  noted = n.noted;
  budget = n.budget;
  window = n.window;
  legal = n.legal read (tree_of job old) h.stands;
  stands = n.stands read (tree_of job old) h.stands;
})

pub nothing_follows : NothingFollows
nothing_follows job read old new h n =
    let tree : tree_of job new ≡ tree_of job old
    = same_tree job new.budget old.budget new.window old.window new.log.events old.log.events n.budget n.window n.noted in
    record {
      legal = same_legal job new.budget old.budget new.window old.window new.log.events old.log.events n.budget n.window n.noted h.legal;
      stands = subst (IsPublicOf new read) (sym tree) (n.stands read (tree_of job old) h.stands);
    }

pub opening_follows : OpeningFollows
opening_follows job read p h =
    let t = opening_tree job p.budget p.window in
    let tree : tree_of job p ≡ t = ap (λ (x : List Event). tree_after job p.budget p.window x) h.events in
    let stands : IsPublicOf p read t = record {
      placed = h.placed;
      next = h.next;
      lost = h.lost;
      halted = h.halted;
      budget = refl;
      window = refl;
      stopped = h.stopped;
      sound = opening_sound job p.budget p.window;
      rooted = by_queries job.queries;
    } in
    record {
      legal = subst (λ (x : List Event). Legal job p.budget p.window x) (sym h.events) refl;
      stands = subst (IsPublicOf p read) (sym tree) stands;
    }
  where
    by_queries : (qs : List Query) → IsRooted (opening_root qs)
    by_queries [] = refl
    by_queries (q ∷ qs) = tt
