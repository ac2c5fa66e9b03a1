use Rattle.std.proofs.Common.{inl}
use Rattle.std.proofs.lemmas.Result.{on_ok_weaker}
use Rattle.tree_model.specs.EventViews.{place_view}
use Rattle.scheduler.proofs.RunLemmas.{gives_back, run_alone}
use Rattle.scheduler.proofs.later.serve_later.Goals as goal

pub returns-in_default-clause-run : goal.returns-in_default-clause-run
returns-in_default-clause-run g c =
    on_ok_weaker c.publish_or_close.result
    (run_alone c.args.tree.now.history c.publish_or_close.new.tree.history (place_view c.args.at) c.args.run.now c.requires.run) c.publish_or_close.ensures.back

pub returns-in_default-clause-back : goal.returns-in_default-clause-back
returns-in_default-clause-back g c =
    on_ok_weaker c.publish_or_close.result
    (λ b. inl (gives_back c.args.tree.now.history c.publish_or_close.new.tree.history (place_view c.args.at) b)) c.publish_or_close.ensures.back
