use Rattle.std.proofs.Common.{◌≡◌, length, map, subst}
use Rattle.std.specs.Arc.{arc_value}
use Rattle.region_split.specs.Texts.{TextView}
use Rattle.region_split.proofs.HeadLemmas.{as_many_heads}
use Rattle.region_split.proofs.text.Text.take.Goals as goal

pub returns-clause-many : goal.returns-clause-many
returns-clause-many c =
    let s = c.self.inside in
    subst (λ (t : TextView). length t.heads ≡ length t.clauses) c.self.view_is (as_many_heads (arc_value s.code).names (map arc_value s.clauses.items) s.index c.self.invariant.1)
