use Rattle.std.proofs.Common.{◌≡◌, true, Option, Some, None, refl}
use Rattle.std.specs.Prelude.{not, is_none}
use Rattle.au_term.proofs.LogicLemmas.{both, not-true}
use Rattle.run_model.specs.declared.ending.RunEnding.{RunEnding}
use Rattle.tree_model.specs.TreeStates.{ended}
use Rattle.public_tree.specs.Following.{tree_of}
use Rattle.public_tree.proofs.laws.promises_are_kept.Goals as goal

pub returns-clause-once : goal.returns-clause-once
returns-clause-once c = λ job read p a h. c.handed_out_once.ensures job p.budget p.window p.log.events a h.legal

none_is : (o : Option RunEnding) → is_none o ≡ true → o ≡ None
none_is None e = refl
none_is (Some x) e = absurd (cc e)

pub returns-clause-going : goal.returns-clause-going
returns-clause-going c = λ job read p h g out.
    let t = tree_of job p in
    let parts = both (not t.stopped) (is_none (ended t)) g in
    c.never_stuck.ensures job p.budget p.window p.log.events h.legal (none_is (ended t) parts.1) (not-true t.stopped parts.0) out

pub returns-clause-prefix : goal.returns-clause-prefix
returns-clause-prefix c = λ job read p h l. c.histories_keep_prefixes.ensures job p.budget p.window p.log.events l h.legal

pub returns-clause-end : goal.returns-clause-end
returns-clause-end c = λ job read p h l. c.histories_end_right.ensures job p.budget p.window p.log.events l h.legal
