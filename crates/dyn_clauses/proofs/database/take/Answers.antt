use Rattle.std.proofs.Common.{◌∙◌, None, Some, ap, sym}
use Rattle.std.specs.Ordering.{nat_cmp}
use Rattle.std.specs.Map.{lookup, set_value}
use Rattle.std.specs.BTreeMap.{get, is_at}
use Rattle.dyn_clauses.specs.DatabaseView.{indicator_cmp}
use Rattle.dyn_clauses.proofs.PositionIndexLemmas.{some_there}
use Rattle.dyn_clauses.proofs.EntriesLemmas.{lookup_without, spot_none, spot_set, without_none, without_there}
use Rattle.dyn_clauses.proofs.database.take.Goals as goal

pub returns-in-Some-clause-clauses : goal.returns-in-Some-clause-clauses
returns-in-Some-clause-clauses c =
    let m = c.args.procedures.now in
    let w = c.take.new.self in
    let known = c.in-Some.known.now in
    let there = c.in-Some.ensures.value in
    let set = (c.get_mut.follows.holds w).3 (some_there known (get indicator_cmp m c.args.procedure.now) there) in
    spot_set m (c.get_mut.follows.lender w) c.args.procedure.now c.args.position None (Some known) w there set.0
    (λ p. ap (lookup (is_at (nat_cmp p))) c.take.ensures.taken ∙ lookup_without p c.args.position known)

pub returns-in-Some-clause-taken : goal.returns-in-Some-clause-taken
returns-in-Some-clause-taken c =
    let es = c.args.procedures.now.entries in
    (c.get_mut.follows.holds c.take.new.self).0
    ∙ (ap (set_value (is_at (indicator_cmp c.args.procedure.now)) es) c.take.ensures.taken ∙ without_there c.args.procedure.now c.args.position es c.in-Some.known.now c.requires (sym c.in-Some.ensures.value))

pub returns-in_default-clause-clauses : goal.returns-in_default-clause-clauses
returns-in_default-clause-clauses c = spot_none c.args.procedures.now c.get_mut.follows.lender-at-none c.args.procedure.now c.args.position c.in_default.ensures.value c.get_mut.follows.holds-at-none

pub returns-in_default-clause-taken : goal.returns-in_default-clause-taken
returns-in_default-clause-taken c =
    ap (λ m. m.entries) c.get_mut.follows.holds-at-none ∙ sym (without_none c.args.procedure.now c.args.position c.args.procedures.now.entries (sym c.in_default.ensures.value))
