use Rattle.std.proofs.Common.{◌≡◌, ◌<◌, IfSome, length, map, subst}
use Rattle.std.specs.Arc.{arc_value}
use Rattle.region_split.specs.Texts.{TextView}
use Rattle.region_split.proofs.HeadLemmas.{as_many_heads}
use Rattle.region_split.proofs.text.Text.only.Goals as goal

pub returns-clause-there : goal.returns-clause-there
returns-clause-there c =
    let s = c.self.inside in
    let many : length s.index ≡ length c.args.self.now.clauses = subst (λ (t : TextView). length s.index ≡ length t.clauses) c.self.view_is (as_many_heads (arc_value s.code).names (map arc_value s.clauses.items) s.index c.self.invariant.1) in
    subst (λ n. IfSome c.only.result (λ clause. clause < n)) many c.only.ensures.there
