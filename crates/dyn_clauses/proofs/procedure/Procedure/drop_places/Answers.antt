use Rattle.std.proofs.Common.{rules, ◌≡◌, ◌∙◌, None, cond, map, ap}
use Rattle.std.specs.List.{list_any}
use Rattle.std.specs.Map.{keys_of}
use Rattle.std.specs.Map.Iter.{deref}
use Rattle.std.proofs.lemmas.Map.Iter.{iter_end}
use Rattle.std.specs.Prelude.{◌==◌}
use Rattle.std.specs.Ordering.{nat_cmp}
use Rattle.std.specs.BTreeMap.{get}
use Rattle.dyn_clauses.specs.PositionIndex.{Placed, has_numbered, position_number}
use Rattle.dyn_clauses.proofs.ViewLemmas.{keys_numbered}
use Rattle.dyn_clauses.proofs.procedure.Procedure.drop_places.Goals as goal

pub returns : goal.returns
returns c = λ n.
    let whole : map deref c.loop-position.yielded ≡ keys_of c.self.inside.clauses.entries = search (rules, iter_end) in
    c.loop-position.invariant n
    ∙ ap (λ b. cond b None (get nat_cmp c.args.places.now n)) (ap (list_any (λ q. position_number q == n)) whole ∙ (keys_numbered c.self.inside.clauses.entries n ∙ ap (λ (ps : Placed). has_numbered ps n) c.self.view_is))
