use Rattle.std.proofs.Common.{◌<◌, subst, arith, length}
use Rattle.goal_kinds.specs.Kinds.{IsKindOf}
use Rattle.clause_compile.specs.AtomNumbers.{name_at}
use Rattle.goal_kinds.proofs.KindLemmas.{named_kind, kind_changed}
use Rattle.goal_kinds.proofs.kinds.learn.Goals as goal

pub returns-in_err-insert-clause-first : goal.returns-in_err-insert-clause-first
returns-in_err-insert-clause-first c =
    let names = c.args.names.now in
    let at = c.in-Functor.name in
    let few : at < length names = let a = c.if-at-names.false in omega (arith, a) in
    let kind : IsKindOf (name_at names at) c.in-Functor.arity c.kind_of_name-kind.result =
    named_kind names at c.index-names-at.result c.in-Functor.arity c.kind_of_name-kind.result few c.index-names-at.is (subst (λ n. IsKindOf n c.in-Functor.arity c.kind_of_name-kind.result) c.text.ensures c.kind_of_name-kind.ensures) in
    kind_changed names c.args.first.now at (record { arity = c.in-Functor.arity; kind = c.kind_of_name-kind.result }) c.requires.first kind

pub returns-clause-first : goal.returns-clause-first
returns-clause-first c =
    let names = c.args.names.now in
    let at = c.in-Functor.name in
    let few : at < length names = let a = c.if-at-names.false in omega (arith, a) in
    let kind : IsKindOf (name_at names at) c.in-Functor.arity c.kind_of_name-kind.result =
    named_kind names at c.index-names-at.result c.in-Functor.arity c.kind_of_name-kind.result few c.index-names-at.is (subst (λ n. IsKindOf n c.in-Functor.arity c.kind_of_name-kind.result) c.text.ensures c.kind_of_name-kind.ensures) in
    kind_changed names c.args.first.now at (record { arity = c.in-Functor.arity; kind = c.kind_of_name-kind.result }) c.requires.first kind
