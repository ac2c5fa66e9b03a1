use Rattle.std.proofs.Common.{◌∷◌, [], ◌++◌, ap, ◌∙◌}
use Rattle.proc_index.proofs.IndexLemmas.{put_under, taken_places}
use Rattle.proc_index.proofs.procedure.put_under.Goals as goal

pub returns : goal.returns
returns c =
    put_under c.args.keyed.now c.remove.new.self c.insert.new.self c.args.key c.args.place c.remove.result c.push.new.self c.requires c.remove.ensures.value c.remove.ensures.updates.0 c.in_ok-insert.ensures.updates.0
    (c.in_ok-push.ensures.items ∙ ap (λ ks. ks ++ c.args.place ∷ []) (taken_places c.remove.result c.new.result c.unwrap_or-places.result c.new.ensures.items c.unwrap_or-places.ensures))
