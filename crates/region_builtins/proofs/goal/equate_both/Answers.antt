use Rattle.std.proofs.Common.{subst}
use Rattle.cell_store.specs.UnificationSteps.{IsUnified}
use Rattle.region_builtins.proofs.PairLemmas.{still_value, first_apart, second_apart, both_unified}
use Rattle.region_builtins.proofs.goal.equate_both.Goals as goal

pub unify-requires-2-clause-left : goal.unify-requires-2-clause-left
unify-requires-2-clause-left c = still_value c.args.region.now.store c.unify.new.self.store c.args.second.0 c.in_ok-unify.ensures.kept c.requires.second.0

pub unify-requires-2-clause-right : goal.unify-requires-2-clause-right
unify-requires-2-clause-right c = still_value c.args.region.now.store c.unify.new.self.store c.args.second.1 c.in_ok-unify.ensures.kept c.requires.second.1

pub returns-then-not-branch-clause-comes : goal.returns-then-not-branch-clause-comes
returns-then-not-branch-clause-comes c =
    let r = c.args.region.now in
    let r1 = c.unify.new.self in
    first_apart r r1 c.args.place c.requires.place c.args.first c.args.second c.in_ok-unify.ensures.stays
    (subst (IsUnified c.args.first.0 c.args.first.1 r.store r1.store) c.if-not-branch.true c.in_ok-unify.ensures.unified)

pub returns-then-not-branch-2-clause-comes : goal.returns-then-not-branch-2-clause-comes
returns-then-not-branch-2-clause-comes c =
    let r = c.args.region.now in
    let r1 = c.unify.new.self in
    let r2 = c.unify-2.new.self in
    second_apart r r1 c.args.place c.requires.place c.args.first c.args.second c.in_ok-unify.ensures.stays
    (subst (IsUnified c.args.first.0 c.args.first.1 r.store r1.store) c.if-not-branch.false c.in_ok-unify.ensures.unified) c.in_ok-unify.ensures.kept
    r2 c.in_ok-unify-2.ensures.stays
    (subst (IsUnified c.args.second.0 c.args.second.1 r1.store r2.store) c.if-not-branch-2.true c.in_ok-unify-2.ensures.unified)

pub returns-clause-comes : goal.returns-clause-comes
returns-clause-comes c =
    let r = c.args.region.now in
    let r1 = c.unify.new.self in
    let r2 = c.unify-2.new.self in
    both_unified r r1 c.args.place c.requires.place c.args.first c.args.second c.in_ok-unify.ensures.stays
    (subst (IsUnified c.args.first.0 c.args.first.1 r.store r1.store) c.if-not-branch.false c.in_ok-unify.ensures.unified) c.in_ok-unify.ensures.kept
    r2 c.in_ok-unify-2.ensures.stays
    (subst (IsUnified c.args.second.0 c.args.second.1 r1.store r2.store) c.if-not-branch-2.false c.in_ok-unify-2.ensures.unified) c.in_ok-unify-2.ensures.kept
