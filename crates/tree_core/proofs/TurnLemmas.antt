-- What becomes of what is out in a job's tree.
use Rattle.std.proofs.Common.{◌≡◌, ℕ, ◌+◌, ◌≤◌, Bool, true, false, cond, List, length, Some, inl, inr, refl, sym, ap, ◌∙◌, subst, arith}
use Rattle.std.specs.Prelude.{◌&&◌, nat_le, is_some, Result, Ok, Err, IfOk, OnOk, OnErr}
use Rattle.run_model.specs.Programs.Jobs.{Job}
use Rattle.tree_model.specs.Events.{Event, Prune, Answer}
use Rattle.tree_model.specs.Legality.{taken_at, run_of, run_fits, run_is_empty, run_gives_result, is_allowed, is_legal}
use Rattle.tree_model.specs.Levels.{Place, Spot, levels_of}
use Rattle.tree_model.specs.Promises.{Once}
use Rattle.tree_model.specs.TreeStates.{TreeState}
use Rattle.tree_nodes.specs.Bodies.{Body, Reading}
use Rattle.tree_nodes.specs.Rows.{Rows}
use Rattle.branch_reading.specs.Readings.{reading}
use Rattle.public_tree.specs.PublicTrees.{PublicView, NotesIn, IsSameTree, is_going}
use Rattle.public_tree.specs.Following.{tree_of}
use Rattle.public_tree.specs.declared.closing.TaskEnd.{TaskEnd}
use Rattle.public_tree.specs.declared.closing.TaskEnd.TheVariants.{Nothing, Result as ResultEnd}
use Rattle.public_tree.specs.PublicClosing.{closing_event, ends_run, HappensIn}
use Rattle.public_tree.specs.Publishing.{body_sizes, publishing_event, RunReadsAs}
use Rattle.public_tree.specs.declared.prune.Pruning.{Pruning}
use Rattle.public_tree.specs.declared.prune.Pruning.TheVariants as pruning
use Rattle.public_tree.specs.PublicPruning.{Prunes, promised_after}
use Rattle.public_tree.specs.declared.answering.Answering.{Answering}
use Rattle.public_tree.specs.declared.answering.Answering.TheVariants as answering
use Rattle.public_tree.specs.Answering.{TakesFront, promised_by}
use Rattle.public_tree.proofs.HandOutLemmas.{legal_while_going}
use Rattle.tree_core.specs.Histories.{History, state_of, with_event, while_going, history_of, IsTreeOf}
use Rattle.tree_core.specs.Turns.{where_legal, pruning_of, answering_of}
use Rattle.tree_core.proofs.MoveLemmas.{Moves, TakesBack, legal_parts, nothing, came_back, prune_back, answer_back}
use Rattle.tree_core.proofs.ReturnedLemmas.{at_out}

-- a run that has ended may close, and one that is published may become nodes
pub closing_legal : (t : TreeState) (w : ℕ) (a : Place) (k : ℕ) (end : TaskEnd) → is_going t ≡ true → is_some (taken_at w a t) ≡ true
    → ((s : Spot) → taken_at w a t ≡ Some s → ends_run end (run_of t s k) ≡ true) → is_legal t (closing_event end w a k) ≡ true
closing_legal t w a k end going out ends = legal_while_going t (closing_event end w a k) going (by_end end ends)
  where
    by_end : (end : TaskEnd) → ((s : Spot) → taken_at w a t ≡ Some s → ends_run end (run_of t s k) ≡ true) → is_allowed t (closing_event end w a k) ≡ true
    by_end Nothing ends = at_out t w a (λ s. run_is_empty (run_of t s k)) out ends
    by_end ResultEnd ends = at_out t w a (λ s. run_gives_result (run_of t s k)) out ends

pub publishing_legal : (t : TreeState) (w : ℕ) (a : Place) (k : ℕ) (rows : Rows) (bodies : List Body) (read : Reading) → is_going t ≡ true
    → is_some (taken_at w a t) ≡ true → 1 ≤ k → RunReadsAs rows bodies w a k read t → is_legal t (publishing_event bodies w a k) ≡ true
publishing_legal t w a k rows bodies read going out some reads =
    let one : nat_le 1 k ≡ true = grind (arith, some) in
    legal_while_going t (publishing_event bodies w a k) going
    (at_out t w a (λ s. nat_le 1 k && run_fits (length (levels_of s)) (body_sizes bodies) (run_of t s k)) out
    (λ s e. ap (λ (b : Bool). b && run_fits (length (levels_of s)) (body_sizes bodies) (run_of t s k)) one ∙ reads.fits s e))

-- what may not happen, and what has ended, is illegal
not_allowed : (t : TreeState) (e : Event) → is_allowed t e ≡ false → is_legal t e ≡ false
not_allowed t e n = by_legal (is_legal t e) refl
  where
    by_legal : (b : Bool) → is_legal t e ≡ b → b ≡ false
    by_legal false l = refl
    by_legal true l = let allowed = (legal_parts t e l).1 in sym allowed ∙ n

not_going : (t : TreeState) (e : Event) → is_going t ≡ false → is_legal t e ≡ false
not_going t e n = by_legal (is_legal t e) refl
  where
    by_legal : (b : Bool) → is_legal t e ≡ b → b ≡ false
    by_legal false l = refl
    by_legal true l = let going = (legal_parts t e l).0 in sym going ∙ n

pub no_turn : (h : History) (e : Event) → is_going (state_of h) ≡ false → h ≡ where_legal e h
no_turn h e n = sym (ap (λ (b : Bool). cond b (with_event e h) h) (not_going (state_of h) e n))

pub no_pruning : (t : TreeState) (e : Event) → is_going t ≡ false → pruning.HasEnded ≡ pruning_of e t
no_pruning t e n = sym (ap (λ (b : Bool). cond b (cond (is_allowed t e) pruning.Taken pruning.NotCleared) pruning.HasEnded) n)

pub no_answering : (t : TreeState) (e : Event) → is_going t ≡ false → answering.HasEnded ≡ answering_of e t
no_answering t e n = sym (ap (λ (b : Bool). cond b (cond (is_allowed t e) answering.Taken answering.NotLeftmost) answering.HasEnded) n)

module _ (once : Once) (job : Job) (p : PublicView) (w : ℕ) (a : Place) (h : IsTreeOf job p) where
  abbrev t : TreeState
  t = tree_of job p

  -- after so many inferences, while the tree goes on
  module _ (going : is_going t ≡ true) (k : ℕ) (Known : ℕ → Place → ℕ → Reading → TreeState → Type 0) (event : ℕ → Place → ℕ → Event)
      (back : TakesBack (event w a k) w a) (known : Known w a k (reading job) t) (new : PublicView) where
    pub happens : HappensIn p new w a k Known event → p.log.promised ≤ new.log.promised + 1 → Moves job new (while_going (event w a k) (history_of job p))
    happens (inl n) l =
        let noted = n (reading job) t h.follows.stands known in
        let was = history_of job p in
        subst (Moves job new) (sym (ap (λ (b : Bool). cond b (with_event (event w a k) was) was) going))
        (came_back once job p h (event w a k) w a back noted.legal new noted l)
    happens (inr n) l = absurd (let stuck = n.1 (reading job) t h.follows.stands in let no : true ≡ false = sym going ∙ stuck in cc no)

    pub happens_kept : {A E : Type 0} (r : Result A E) → OnOk r (HappensIn p new w a k Known event) → OnErr r (IsSameTree p new)
        → p.log.promised ≤ new.log.promised + 1 → OnErr r (new.log.promised ≡ p.log.promised) → IsTreeOf job new
    happens_kept (Ok x) n s l q = (happens n l).kept
    happens_kept (Err x) n s l q = (nothing job p new h s q).kept

    pub happens_noted : {A E : Type 0} (r : Result A E) → OnOk r (HappensIn p new w a k Known event) → p.log.promised ≤ new.log.promised + 1
        → OnOk r (history_of job new ≡ while_going (event w a k) (history_of job p))
    happens_noted (Ok x) n l = (happens n l).history
    happens_noted (Err x) n l = tt

  -- where it is legal
  illegal : (e : Event) (new : PublicView) → is_legal t e ≡ false → IsSameTree p new → new.log.promised ≡ p.log.promised
      → Moves job new (where_legal e (history_of job p))
  illegal e new n s q =
      let was = history_of job p in
      subst (Moves job new) (sym (ap (λ (b : Bool). cond b (with_event e was) was) n)) (nothing job p new h s q)

  taken : (e : Event) → TakesBack e w a → (new : PublicView) → NotesIn p new e (reading job) t → p.log.promised ≤ new.log.promised + 1
      → Moves job new (where_legal e (history_of job p))
  taken e back new n l =
      let was = history_of job p in
      subst (Moves job new) (sym (ap (λ (b : Bool). cond b (with_event e was) was) n.legal)) (came_back once job p h e w a back n.legal new n l)

  module _ (Known : ℕ → Place → Reading → TreeState → Type 0) (known : Known w a (reading job) t) (new : PublicView) where
    pub prunes : (r : Pruning) → Prunes p new w a Known r → new.log.promised ≡ promised_after r p.log.promised
        → Moves job new (where_legal (Prune w a) (history_of job p)) × (r ≡ pruning_of (Prune w a) t)
    prunes pruning.Taken k q =
        let n = k (reading job) t h.follows.stands known in
        let parts = legal_parts t (Prune w a) n.legal in (
          taken (Prune w a) (prune_back w a) new n (omega (arith, q)),
          sym (ap (λ (b : Bool). cond b (cond (is_allowed t (Prune w a)) pruning.Taken pruning.NotCleared) pruning.HasEnded) parts.0
              ∙ ap (λ (b : Bool). cond b pruning.Taken pruning.NotCleared) parts.1),
        )
    prunes pruning.NotCleared k q =
        let parts = k.1 (reading job) t h.follows.stands known in (
          illegal (Prune w a) new (not_allowed t (Prune w a) parts.1) k.0 q,
          sym (ap (λ (b : Bool). cond b (cond (is_allowed t (Prune w a)) pruning.Taken pruning.NotCleared) pruning.HasEnded) parts.0
              ∙ ap (λ (b : Bool). cond b pruning.Taken pruning.NotCleared) parts.1),
        )
    prunes pruning.HasEnded k q =
        let over = k.1 (reading job) t h.follows.stands in (
          illegal (Prune w a) new (not_going t (Prune w a) over) k.0 q,
          sym (ap (λ (b : Bool). cond b (cond (is_allowed t (Prune w a)) pruning.Taken pruning.NotCleared) pruning.HasEnded) over),
        )

    pub prunes_kept : {E : Type 0} (r : Result Pruning E) → IfOk r (λ x. Prunes p new w a Known x)
        → IfOk r (λ x. new.log.promised ≡ promised_after x p.log.promised) → OnErr r (IsSameTree p new) → OnErr r (new.log.promised ≡ p.log.promised) → IsTreeOf job new
    prunes_kept (Ok x) k q s e = (prunes x k q).0.kept
    prunes_kept (Err x) k q s e = (nothing job p new h s e).kept

    pub prunes_noted : {E : Type 0} (r : Result Pruning E) → IfOk r (λ x. Prunes p new w a Known x)
        → IfOk r (λ x. new.log.promised ≡ promised_after x p.log.promised)
        → IfOk r (λ x. history_of job new ≡ where_legal (Prune w a) (history_of job p)) × IfOk r (λ x. x ≡ pruning_of (Prune w a) t)
    prunes_noted (Ok x) k q = let m = prunes x k q in (m.0.history, m.1)
    prunes_noted (Err x) k q = (tt, tt)

    pub takes : (r : Answering) → TakesFront p new w a Known r → new.log.promised ≡ promised_by r p.log.promised
        → Moves job new (where_legal (Answer w a false) (history_of job p)) × (r ≡ answering_of (Answer w a false) t)
    takes answering.Taken k q =
        let n = k (reading job) t h.follows.stands known in
        let parts = legal_parts t (Answer w a false) n.legal in (
          taken (Answer w a false) (answer_back w a) new n (omega (arith, q)),
          sym (ap (λ (b : Bool). cond b (cond (is_allowed t (Answer w a false)) answering.Taken answering.NotLeftmost) answering.HasEnded) parts.0
              ∙ ap (λ (b : Bool). cond b answering.Taken answering.NotLeftmost) parts.1),
        )
    takes answering.NotLeftmost k q =
        let parts = k.1 (reading job) t h.follows.stands known in (
          illegal (Answer w a false) new (not_allowed t (Answer w a false) parts.1) k.0 q,
          sym (ap (λ (b : Bool). cond b (cond (is_allowed t (Answer w a false)) answering.Taken answering.NotLeftmost) answering.HasEnded) parts.0
              ∙ ap (λ (b : Bool). cond b answering.Taken answering.NotLeftmost) parts.1),
        )
    takes answering.HasEnded k q =
        let over = k.1 (reading job) t h.follows.stands in (
          illegal (Answer w a false) new (not_going t (Answer w a false) over) k.0 q,
          sym (ap (λ (b : Bool). cond b (cond (is_allowed t (Answer w a false)) answering.Taken answering.NotLeftmost) answering.HasEnded) over),
        )

    pub takes_kept : {E : Type 0} (r : Result Answering E) → IfOk r (λ x. TakesFront p new w a Known x)
        → IfOk r (λ x. new.log.promised ≡ promised_by x p.log.promised) → OnErr r (IsSameTree p new) → OnErr r (new.log.promised ≡ p.log.promised) → IsTreeOf job new
    takes_kept (Ok x) k q s e = (takes x k q).0.kept
    takes_kept (Err x) k q s e = (nothing job p new h s e).kept

    pub takes_noted : {E : Type 0} (r : Result Answering E) → IfOk r (λ x. TakesFront p new w a Known x)
        → IfOk r (λ x. new.log.promised ≡ promised_by x p.log.promised)
        → IfOk r (λ x. history_of job new ≡ where_legal (Answer w a false) (history_of job p)) × IfOk r (λ x. x ≡ answering_of (Answer w a false) t)
    takes_noted (Ok x) k q = let m = takes x k q in (m.0.history, m.1)
    takes_noted (Err x) k q = (tt, tt)
