use Rattle.std.proofs.Common.{inl}
use Rattle.std.proofs.lemmas.Result.{on_ok_weaker}
use Rattle.scheduler.proofs.serving.serve_stopped.Goals as goal

pub returns-then-stopped-eq0-clause-back : goal.returns-then-stopped-eq0-clause-back
returns-then-stopped-eq0-clause-back g c = on_ok_weaker c.serve_first.result inl c.serve_first.ensures.back
