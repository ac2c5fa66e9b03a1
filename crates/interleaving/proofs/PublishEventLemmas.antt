-- A legal publish event: the pending list runs as before.
use Rattle.std.proofs.Common.{◌≡◌, ℕ, zero, suc, ◌+◌, ◌≤◌, ◌==◌, true, false, List, [], ◌∷◌, ◌++◌, length, Option, Some, None, refl}
use Rattle.std.proofs.Common.{sym, ◌∙◌, subst, arith}
use Rattle.std.specs.Prelude.{◌&&◌, not, is_none, nat_le}
use Rattle.run_model.specs.Programs.Clauses.{Clause}
use Rattle.run_model.specs.Machine.Items.{Continuation}
use Rattle.run_model.specs.Machine.Entries.{Entry, PlainEntry, CatchEntry, FindallEntry, EndEntry}
use Rattle.interleaving.specs.Sound.{IsSound}
use Rattle.interleaving.specs.Follows.{Follows, lead, PublishChangesList}
use Rattle.tree_model.specs.Nodes.{Hold, Ready, TakenBy, Waiting, Dormant, Node, Status, Pending, Inner}
use Rattle.tree_model.specs.Levels.{Level, Place, plug, Spot, levels_of}
use Rattle.tree_model.specs.Floors.{with_heights}
use Rattle.tree_model.specs.PrivateRuns.{private_run}
use Rattle.tree_model.specs.Shapes.{fits_shape, placed}
use Rattle.tree_model.specs.Events.{Nodes}
use Rattle.tree_model.specs.TreeStates.{TreeState, ended}
use Rattle.tree_model.specs.Legality.{is_nonempty, run_fits, taken_at, run_of, at_spot, is_allowed, is_legal}
use Rattle.tree_model.specs.Effects.{spending, run_placed, where_some, after_allowed, after_event}
use Rattle.tree_model.specs.PendingLists.{way_of, list_in, pending_list, front_of, back_of}
use Rattle.tree_model.specs.Ways.{IsOnWay, IsAwake}
use Rattle.tree_model.specs.SoundTrees.{IsOpen, profile, IsSoundTree}
use Rattle.interleaving.proofs.ListRoundLemmas.{around}
use Rattle.interleaving.proofs.ContextLemmas.{IsAround}
use Rattle.interleaving.proofs.ClosingSoundLemmas.{IsFree}
use Rattle.interleaving.proofs.OpenSpotLemmas.{taken_at_open}
use Rattle.interleaving.proofs.GrowingLemmas.{around_path}
use Rattle.interleaving.proofs.WayLemmas.{off_way}
use Rattle.interleaving.proofs.PlacedEntryLemmas.{at_spot as known_at}
use Rattle.interleaving.proofs.RunSoundLemmas.{run_sound}
use Rattle.interleaving.proofs.LegalLemmas.{awake_entry, end_rests}
use Rattle.interleaving.proofs.PlacedRunLemmas.{IsPublished}
use Rattle.interleaving.proofs.BaredLemmas.{lead_more}
use Rattle.interleaving.proofs.PublishedBareLemmas.{list_before, list_after}
use Rattle.interleaving.proofs.PublishedRunLemmas.{published_alike}
use Rattle.au_term.proofs.LogicLemmas.{and-right, and-left, false_true}

-- the lists of an open plain entry and of what is placed
pub before_list : (v : Level) (up : List Level) (hold : Hold) (f : Continuation ℕ) → profile (Pending hold (PlainEntry f)) ≡ IsOpen
    → pending_list (plug (v ∷ up) (Pending hold (PlainEntry f))) ≡ list_before v up v.spent f
before_list v up Ready f o = around (v ∷ up) (Pending Ready (PlainEntry f))
before_list v up (TakenBy w) f o = around (v ∷ up) (Pending (TakenBy w) (PlainEntry f))
before_list v up (Waiting g) f o = around (v ∷ up) (Pending (Waiting g) (PlainEntry f))
before_list v up Dormant f o = let no_way : ⊥ = cc in absurd no_way

after_list : (v : Level) (up : List Level) (k : ℕ) (status : Status) → pending_list (plug (spending k (v ∷ up)) status)
    ≡ list_after v up (v.spent + k) status
after_list v up k status = around (spending k (v ∷ up)) status

-- a shape has a node
pub record HasNode (next : ℕ) (sizes : List ℕ) (levels : List Level) (es : List Entry) : Type 0 where
  pub size : ℕ
  pub others : List ℕ
  pub same : sizes ≡ size ∷ others
  pub node : Node
  pub placed_node : placed next (size ∷ others) levels es ≡ Inner node

pub first_node : (next : ℕ) (sizes : List ℕ) (levels : List Level) (es : List Entry) → fits_shape (length levels) sizes es ≡ true
    → is_nonempty es ≡ true → HasNode next sizes levels es
first_node next (size ∷ sizes) levels es f h = record { size = size; others = sizes; same = refl; node = _; placed_node = refl }
first_node next [] levels [] f h = absurd (false_true h)
first_node next [] levels (e ∷ []) f h = absurd (false_true f)
first_node next [] levels (e ∷ d ∷ es) f h = absurd (not_one (length es) f)
  where
    not_one : (n : ℕ) → (suc (suc n) == 1) ≡ true → ⊥
    not_one n z = let same : suc (suc n) ≡ 1 = grind arith in absurd (omega (arith, same))

follows : (clauses : List Clause) (v : Level) (up : List Level) (next k : ℕ) (sizes : List ℕ) (f : Continuation ℕ) (es : List Entry)
    → IsFree next (v ∷ up) → IsAround (v ∷ up) IsOpen → IsOnWay (way_of (v ∷ up)) (PlainEntry f) →
    private_run clauses (v ∷ up) (with_heights (v ∷ up) (PlainEntry f)) k ≡ Some es
    → (is_nonempty es && fits_shape (length (v ∷ up)) sizes es) ≡ true → IsSound (list_before v up v.spent f)
    → IsSound (list_after v up (v.spent + k) (placed next sizes (v ∷ up) es)) →
    Follows clauses (list_before v up v.spent f) (list_after v up (v.spent + k) (placed next sizes (v ∷ up) es))
follows clauses v up next k sizes f es free a h run fit before after =
    let some = and-left (is_nonempty es) _ fit in
    let shape = and-right (is_nonempty es) _ fit in
    go (first_node next sizes (v ∷ up) es shape some)
  where
    path_of_levels : IsPublished (v ∷ up) next sizes es
    path_of_levels = record {
      path = around_path (v ∷ up) IsOpen a;
      new = λ m l. off_way m (v ∷ up) (free.fresh m l);
      run = run_sound clauses (v ∷ up) (PlainEntry f) k es (around_path (v ∷ up) IsOpen a) tt h run;
      some = and-left (is_nonempty es) _ fit;
      fit = and-right (is_nonempty es) _ fit;
    }

    go : HasNode next sizes (v ∷ up) es → Follows clauses (list_before v up v.spent f)
        (list_after v up (v.spent + k) (placed next sizes (v ∷ up) es))
    go n =
        let p = subst (λ s. IsPublished (v ∷ up) next s es) n.same path_of_levels in
        let sound = subst (λ s. IsSound (list_after v up (v.spent + k) (placed next s (v ∷ up) es))) n.same after in
        let same = published_alike clauses v up next n.size n.others es p f free a h k run v.spent n.node n.placed_node before sound in
        let more : lead (list_before v up v.spent f) ≤ lead (list_after v up (v.spent + k) (Inner n.node)) = lead_more
        (front_of (v ∷ up)) v.spent k _ _ (back_of (v ∷ up)) (list_in (way_of (v ∷ up)) n.node ++ back_of (v ∷ up)) in
        subst (λ s. Follows clauses (list_before v up v.spent f) (list_after v up (v.spent + k) (placed next s (v ∷ up) es))) (sym n.same)
        (record {
          alike = λ m w l. same m w;
          lead = λ m l j.
              bound m j (subst (λ s. lead (list_before v up v.spent f) ≤ lead (list_after v up (v.spent + k) s)) (sym n.placed_node) more);
        })
      where
        bound : (m : ℕ) {b c : ℕ} → m ≤ b → b ≤ c → m ≤ c
        bound m j i = omega (arith, j, i)

-- at the place of a task
placed_follows : (t : TreeState) (s : Spot) (k : ℕ) (sizes : List ℕ) (e : Entry) (hold : Hold) → profile (Pending hold e) ≡ IsOpen
    → IsFree t.next (levels_of s) → IsAround (levels_of s) IsOpen → IsOnWay (way_of (levels_of s)) e → IsAwake e
    → (o : Option (List Entry)) →
    private_run t.job.clauses (levels_of s) (with_heights (levels_of s) e) k ≡ o
    → (nat_le 1 k && run_fits (length (levels_of s)) sizes o) ≡ true → IsSound (pending_list (plug (levels_of s) (Pending hold e)))
    → IsSound (pending_list (run_placed s k sizes o t).root) →
    Follows t.job.clauses (pending_list (plug (levels_of s) (Pending hold e))) (pending_list (run_placed s k sizes o t).root)
placed_follows t s k sizes e hold op free a h w None run fit before after = absurd (false_true (and-right (nat_le 1 k) false fit))
placed_follows t s k sizes (CatchEntry c r f) hold op free a h w (Some es) run fit before after = absurd w
placed_follows t s k sizes (FindallEntry results l f) hold op free a h w (Some es) run fit before after = absurd w
placed_follows t s zero sizes (EndEntry b) hold op free a h w (Some es) run fit before after = absurd (false_true fit)
placed_follows t s (suc k) sizes (EndEntry b) hold op free a h w (Some es) run fit before after = absurd
    (none_some (sym (end_rests t s b k) ∙ run))
  where
    none_some : None ≡ Some es → ⊥
    none_some z = cc
placed_follows t s k sizes (PlainEntry f) hold op free a h w (Some es) run fit before after =
    let v = s.level in
    let up = s.above in
    let old = before_list s.level s.above hold f op in
    let new = after_list s.level s.above k (placed t.next sizes (s.level ∷ s.above) es) in
    let both = follows t.job.clauses s.level s.above t.next k sizes f es free a h run (and-right (nat_le 1 k) _ fit)
    (subst IsSound old before) (subst IsSound new after) in
    subst (λ l. Follows t.job.clauses l
    (pending_list (plug (spending k (s.level ∷ s.above)) (placed t.next sizes (s.level ∷ s.above) es)))) (sym old)
    (subst (λ l. Follows t.job.clauses (list_before s.level s.above s.level.spent f) l) (sym new) both)

allowed_follows : (t : TreeState) (w : ℕ) (a : Place) (k : ℕ) (sizes : List ℕ) → IsSoundTree t → IsSound (pending_list t.root)
    → IsSound (pending_list (after_allowed t (Nodes w a k sizes)).root) → is_allowed t (Nodes w a k sizes) ≡ true →
    Follows t.job.clauses (pending_list t.root) (pending_list (after_allowed t (Nodes w a k sizes)).root)
unfolding run_of
allowed_follows t w a k sizes h before after l = go (taken_at w a t) refl after l
  where
    go : (o : Option Spot) → taken_at w a t ≡ o
        → IsSound (pending_list (where_some o t (λ s. run_placed s k sizes (run_of t s k) t)).root)
        → at_spot o (λ s. nat_le 1 k && run_fits (length (levels_of s)) sizes (run_of t s k)) ≡ true →
        Follows t.job.clauses (pending_list t.root) (pending_list (where_some o t (λ s. run_placed s k sizes (run_of t s k) t)).root)
    go None e after l = absurd (false_true l)
    go (Some s) e after l =
        let at = known_at w a t s h e in
        let o = taken_at_open w a t s e in
        let same : plug (levels_of s) (Pending s.hold s.entry) ≡ t.root = o.inside in
        subst (λ r. Follows t.job.clauses (pending_list r) (pending_list (run_placed s k sizes (run_of t s k) t).root)) same
        (placed_follows t s k sizes s.entry s.hold at.opened at.free at.placed.around at.placed.entry.0
        (awake_entry s.hold s.entry at.opened at.placed.entry.1) (run_of t s k) refl l
        (subst (λ r. IsSound (pending_list r)) (sym same) before) after)

-- an alternative becomes the nodes of its private run
pub publish_changes_list : PublishChangesList
unfolding is_legal after_event
publish_changes_list t w a k sizes h n before after l = allowed_follows t w a k sizes h before after
    (and-right (is_none (ended t)) _ (and-right (not t.stopped) _ l))
