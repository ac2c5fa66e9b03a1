use Rattle.branch_shapes.proofs.GroupScopeLemmas.{groups_are_scopes, floors_are_scopes, guards_are_scopes}
use Rattle.branch_shapes.proofs.laws.groups_are_scopes.Goals as goal

pub returns : goal.returns
returns c = record { groups = groups_are_scopes; floor = floors_are_scopes; guards = guards_are_scopes }
