use Rattle.std.proofs.Common.{◌≡◌, subst, sym, arith, length}
use Rattle.goal_kinds.specs.Kinds.{IsKindOf, AreFirstKinds}
use Rattle.clause_compile.specs.AtomNumbers.{name_at}
use Rattle.goal_kinds.proofs.KindLemmas.{named_kind, kind_added}
use Rattle.goal_kinds.proofs.kinds.kinds_of_atoms.Goals as goal

pub loop-number-preserved : goal.loop-number-preserved
loop-number-preserved c =
    let names = c.args.names.now in
    let ks = c.loop-number.kinds.items in
    let at = c.loop-number.number in
    let many : length ks ≡ at = c.loop-number.invariant.0 in
    let kind : IsKindOf (name_at names at) 0 c.kind_of_name-kind.result =
    named_kind names at c.index-names-number.result 0 c.kind_of_name-kind.result c.loop-number-test.true c.index-names-number.is (subst (λ n. IsKindOf n 0 c.kind_of_name-kind.result) c.text.ensures c.kind_of_name-kind.ensures) in
    (omega (arith, many, c.in_ok-push.ensures.len), subst (AreFirstKinds names) (sym c.in_ok-push.ensures.items) (kind_added names ks (record { arity = 0; kind = c.kind_of_name-kind.result }) c.loop-number.invariant.1 (subst (λ n. IsKindOf (name_at names n) 0 c.kind_of_name-kind.result) (sym many) kind)))
