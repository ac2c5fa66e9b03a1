-- Prefix and End of every legal history.
use Rattle.std.proofs.Common.{◌≡◌, ℕ, ◌≤◌, List, ap, ◌∙◌}
use Rattle.run_model.specs.Programs.Jobs.{Job}
use Rattle.run_model.proofs.RunLemmas.{text_grows}
use Rattle.run_model.specs.Machine.Runs.{answers_of, inferences_of}
use Rattle.tree_model.specs.TreeStates.{counts}
use Rattle.tree_model.specs.Credits.{greatest}
use Rattle.tree_model.specs.Events.{Event}
use Rattle.tree_model.specs.Histories.{tree_after, IsLegalHistory}
use Rattle.interleaving.specs.HistoryInvariants.{IsInStep, IsOwn, EventFollows}
use Rattle.interleaving.proofs.AnswerEventLemmas.{answers_move}
use Rattle.interleaving.proofs.PublishEventLemmas.{publish_changes_list}
use Rattle.interleaving.proofs.EmptyRunLemmas.{empty_reaches}
use Rattle.interleaving.proofs.CaughtEventsLemmas.{caught_preserved}
use Rattle.interleaving.proofs.CollectedRunLemmas.{collected_reaches}
use Rattle.interleaving.proofs.OwnEventLemmas.{own_follow}
use Rattle.interleaving.proofs.PruneFollowsLemmas.{prune_follows}
use Rattle.interleaving.proofs.OthersMoveLemmas.{others_move}
use Rattle.tree_model.specs.Promises.{Prefix, End}
use Rattle.interleaving.proofs.InductionLemmas.{history_in_step}
use Rattle.interleaving.proofs.PromisedLemmas.{keeps_prefix, all_right, answers_right}

pair : {A B : Type 0} → (a b : A × B) → a.0 ≡ b.0 → a.1 ≡ b.1 → a ≡ b
pair a b e f = ap (λ x. (x, a.1)) e ∙ ap (λ y. (b.0, y)) f

own : EventFollows IsOwn
own = own_follow publish_changes_list empty_reaches collected_reaches prune_follows

pub in_step : (job : Job) (budget : ℕ) (below : budget ≤ greatest) (window : ℕ) (es : List Event)
    → IsLegalHistory job budget window es → IsInStep job budget (tree_after job budget window es)
in_step job budget below window es l = history_in_step job budget below own (answers_move others_move) caught_preserved window es l

pub prefix : Prefix
prefix job budget window es below l = keeps_prefix job budget below (tree_after job budget window es)
    (history_in_step job budget below own (answers_move others_move) caught_preserved window es l) (text_grows job)

pub end : End
end job budget window es below l =
    let t = tree_after job budget window es in
    let stands = history_in_step job budget below own (answers_move others_move) caught_preserved window es l in
    let right = all_right job budget below t stands in
    record {
      text = λ e q. (right e q).0;
      ending = λ e q. (right e q).1;
      answered = answers_right job budget below t stands;
      counted = λ e q n. pair (counts t) (answers_of job budget, inferences_of job budget) (answers_right job budget below t stands e q)
          ((right e q).2 n);
    }
