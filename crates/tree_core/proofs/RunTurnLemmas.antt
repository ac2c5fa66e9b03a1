-- What becomes of a run that ends in an answer at the front of a job's tree.
use Rattle.std.proofs.Common.{◌≡◌, ◌≢◌, ℕ, ◌+◌, ◌-◌, ◌<◌, ◌≤◌, Bool, true, false, cond, List, [], ◌∷◌, ◌++◌, length, Option, Some, None, refl, sym, ap, ◌∙◌, subst, arith}
use Rattle.std.specs.Prelude.{◌&&◌, nat_le, is_some, Result, Ok, Err, IfOk, OnErr}
use Rattle.run_model.specs.Programs.Jobs.{Job}
use Rattle.run_model.specs.Machine.Entries.{Entry, PlainEntry}
use Rattle.tree_model.specs.Credits.{greatest}
use Rattle.tree_model.specs.Events.{Event, Nodes}
use Rattle.tree_model.specs.LegalTrees.{IsLegalTree, HistoriesKeepTrees}
use Rattle.tree_model.specs.Legality.{taken_at, run_of, run_fits, is_legal}
use Rattle.tree_model.specs.Levels.{Place, Spot, levels_of}
use Rattle.tree_model.specs.Promises.{Once}
use Rattle.tree_model.specs.Shapes.{fits_shape}
use Rattle.tree_model.specs.TreeStates.{TreeState}
use Rattle.tree_nodes.specs.Bodies.{Body}
use Rattle.tree_closing.specs.declared.way_up.Closing.{Closing}
use Rattle.interleaving.proofs.UnchangedPlaceLemmas.{place_self}
use Rattle.answered_runs.specs.AnswersAtOnce.{AnswersFit}
use Rattle.branch_reading.specs.Readings.{reading}
use Rattle.public_tree.specs.PublicTrees.{PublicView, Answers, NotesAllIn, IsSameTree, is_going}
use Rattle.public_tree.specs.Following.{tree_of}
use Rattle.public_tree.specs.declared.answering_at_once.RunAnswering.{RunAnswering}
use Rattle.public_tree.specs.declared.answering_at_once.RunAnswering.TheVariants as run
use Rattle.public_tree.specs.Answering.{is_first_at}
use Rattle.public_tree.specs.AnsweringAtOnce.{answer_sizes, leaf_place, run_events, RunAnswersAs, lasts, run_answering, TakesRun, promised_by_run}
use Rattle.public_tree.proofs.FollowingLemmas.{several_follow}
use Rattle.public_tree.proofs.HandOutLemmas.{legal_while_going}
use Rattle.public_tree.proofs.RunTakenLemmas.{shape_sizes}
use Rattle.tree_core.specs.Histories.{History, history_of, IsTreeOf}
use Rattle.tree_core.specs.TasksOut.{without_place, out_by, out_after}
use Rattle.tree_core.specs.Turns.{where_taken}
use Rattle.tree_core.proofs.MoveLemmas.{Moves, same_history, nothing, nodes_back, fewer, room_to_come_back}
use Rattle.tree_core.proofs.ReturnedLemmas.{at_out}

-- where the tree has ended or was stopped
pub no_run : (a : Place) (k : ℕ) (t : TreeState) → is_going t ≡ false → run.HasEnded ≡ run_answering a k t
no_run a k t n =
    sym (ap (λ (b : Bool). cond b (cond (is_first_at a t) (cond (lasts k t) run.Taken run.OverBudget) run.NotLeftmost) run.HasEnded) n)

-- what is out after several events more
out_several : (es ds : List Event) (places : List Place) → out_after (es ++ ds) places ≡ out_after ds (out_after es places)
out_several [] ds places = refl
out_several (e ∷ es) ds places = out_several es ds (out_by e places)

-- what goes out by them has come back
out_by_run : (next w : ℕ) (a : Place) (k n : ℕ) (places : List Place) → out_after (run_events next w a k n) places ≡ without_place a places
out_by_run next w a k n places =
    let leaf = leaf_place next n in
    ap (λ (b : Bool). cond b (without_place a places) (leaf ∷ without_place leaf (without_place a places))) (place_self leaf)

module _ (once : Once) (fits : AnswersFit) (keeps : HistoriesKeepTrees) (job : Job) (p : PublicView) (h : IsTreeOf job p) (w : ℕ) (a : Place) (k n : ℕ)
    (closing : Closing) (body : Option Body) (known : RunAnswersAs p.nodes closing body w a k n (reading job) (tree_of job p))
    (some : 1 ≤ k) (going : is_going (tree_of job p) ≡ true) (out : is_some (taken_at w a (tree_of job p)) ≡ true) where
  abbrev t : TreeState
  t = tree_of job p

  abbrev made : Event
  made = Nodes w a k (answer_sizes n)

  run_fits_at : (s : Spot) → taken_at w a t ≡ Some s → run_fits (length (levels_of s)) (answer_sizes n) (run_of t s k) ≡ true
  run_fits_at s e =
      let r = known.runs s e in
      let shape = shape_sizes r.over ∙ ap answer_sizes r.many in
      ap (run_fits (length (levels_of s)) (answer_sizes n)) r.run
      ∙ (ap (λ (sizes : List ℕ). fits_shape (length (levels_of s)) sizes (PlainEntry r.answer ∷ r.over)) (sym shape)
      ∙ fits (length (levels_of s)) r.answer r.over r.spent)

  made_legal : is_legal t made ≡ true
  made_legal =
      let one : nat_le 1 k ≡ true = grind (arith, some) in
      legal_while_going t made going (at_out t w a (λ s. nat_le 1 k && run_fits (length (levels_of s)) (answer_sizes n) (run_of t s k)) out
      (λ s e. ap (λ (b : Bool). b && run_fits (length (levels_of s)) (answer_sizes n) (run_of t s k)) one ∙ run_fits_at s e))

  pub run_room : 0 < p.log.promised
  run_room = room_to_come_back once job p h made w a (nodes_back w a k (answer_sizes n)) made_legal

  module _ (new : PublicView) where
    abbrev events : List Event
    events = run_events t.next w a k n

    taken : NotesAllIn p new events (reading job) t → new.log.promised ≡ p.log.promised - 1 → Moves job new (where_taken run.Taken events (history_of job p))
    taken x q =
        let places = out_after p.log.events [] in
        let less : length (without_place a places) + 1 ≡ length places = fewer once job p h made w a (nodes_back w a k (answer_sizes n)) made_legal in
        let room = h.room in
        let left : length (without_place a places) ≤ new.log.promised = omega (arith, less, room, q) in
        let are : out_after (p.log.events ++ events) [] ≡ without_place a places = out_several p.log.events events [] ∙ out_by_run t.next w a k n places in
        record {
          kept = record {
            follows = several_follow job (reading job) p new events h.follows x;
            countable = subst (λ (b : ℕ). b ≤ greatest) (sym x.budget) h.countable;
            room = subst (λ (es : List Event). length (out_after es []) ≤ new.log.promised) (sym x.noted)
                (subst (λ (ps : List Place). length ps ≤ new.log.promised) (sym are) left);
          };
          history = same_history job new.budget p.budget new.window p.window new.log.events (p.log.events ++ events) x.budget x.window x.noted;
        }

    moves : (r : RunAnswering) → TakesRun p new w a k n (RunAnswersAs p.nodes closing body) r → new.log.promised ≡ promised_by_run r p.log.promised
        → Moves job new (where_taken r events (history_of job p))
    moves run.Taken x q =
        let legal = keeps job p.budget p.window p.log.events h.countable h.follows.legal in
        taken (x (reading job) t h.follows.stands legal.caught known) q
    moves run.NotLeftmost x q = nothing job p new h x q
    moves run.HasEnded x q = nothing job p new h x q
    moves run.OverBudget x q = nothing job p new h x q

    pub run_kept : {E : Type 0} (r : Result RunAnswering E) → IfOk r (λ x. TakesRun p new w a k n (RunAnswersAs p.nodes closing body) x)
        → IfOk r (λ x. new.log.promised ≡ promised_by_run x p.log.promised) → OnErr r (IsSameTree p new) → OnErr r (new.log.promised ≡ p.log.promised)
        → IsTreeOf job new
    run_kept (Ok x) m q s e = (moves x m q).kept
    run_kept (Err x) m q s e = (nothing job p new h s e).kept

    pub run_noted : {E : Type 0} (r : Result RunAnswering E) → IfOk r (λ x. TakesRun p new w a k n (RunAnswersAs p.nodes closing body) x)
        → IfOk r (λ x. new.log.promised ≡ promised_by_run x p.log.promised)
        → IfOk r (λ x. history_of job new ≡ where_taken x events (history_of job p))
    run_noted (Ok x) m q = (moves x m q).history
    run_noted (Err x) m q = tt

  pub run_answer : {E : Type 0} (r : Result RunAnswering E) → IfOk r (λ x. Answers p (run_answering a k) x) → IfOk r (λ x. x ≡ run_answering a k t)
  run_answer (Ok x) m = m (reading job) t h.follows.stands
  run_answer (Err x) m = tt
