-- What goals of a name and number of arguments are.
use Rattle.std.specs.Prelude.{◌≡◌, ◌<◌, ℕ, false, List, length, None, IfSome, slice_get}
use Rattle.std.specs.Option.{is_some}
use Rattle.std.specs.BTreeMap.{BTreeMap, get}
use Rattle.std.specs.declared.cmp.Ordering.{Ordering}
use Rattle.run_model.specs.Goals.Control.{construct_of, control_constructs}
use Rattle.run_model.specs.Goals.Builtins.{builtins}
use Rattle.run_model.specs.Goals.Worlds.{is_world_goal}
use Rattle.clause_compile.specs.AtomNumbers.{name_at}
use Rattle.std_builtins.specs.Controls.{IsControl}
use Rattle.std_builtins.specs.Rows.{IsRowOf}
use Rattle.std_builtins.specs.WorldGoals.{IsWorldGoal}
use Rattle.goal_kinds.specs.declared.kind.GoalKind.{GoalKind}
use Rattle.goal_kinds.specs.declared.kind.GoalKind.TheVariants.{Control, Builtin, World, Call}
use Rattle.goal_kinds.specs.declared.kinds.GoalName.{GoalName}
use Rattle.goal_kinds.specs.declared.kinds.KnownKind.{KnownKind}
use Rattle.goal_kinds.specs.contracts.kinds.GoalNameOrd.TheImpl as name_ord

abbrev pub IsNoControl : List ℕ → ℕ → Type 0
IsNoControl name arity = is_some (construct_of control_constructs name arity) ≡ false

abbrev pub IsNoBuiltin : List ℕ → ℕ → Type 0
IsNoBuiltin name arity = construct_of builtins name arity ≡ None

-- its row is the first one, of the control constructs, the built-ins and the goals of the world; or it has none
abbrev pub IsKindOf : List ℕ → ℕ → GoalKind → Type 0
IsKindOf name arity (Control control) = IsControl control name arity
IsKindOf name arity (Builtin builtin) = IsNoControl name arity × IsRowOf name arity builtin
IsKindOf name arity (World goal) = IsNoControl name arity × IsNoBuiltin name arity × IsWorldGoal goal name arity
IsKindOf name arity Call = IsNoControl name arity × IsNoBuiltin name arity × (is_world_goal name arity ≡ false)

-- the order of names in the map
abbrev pub name_cmp : GoalName → GoalName → Ordering
name_cmp = (name_ord.ghosts).cmp

-- what the map knows is so, of names that are there
abbrev pub AreKindsFor : List (List ℕ) → BTreeMap GoalName GoalKind → Type 0
AreKindsFor names known = (g : GoalName) → IfSome (get name_cmp known g) (λ k. (g.name < length names) × IsKindOf (name_at names g.name) g.arity k)

-- of each name that has an entry, what goals with so many arguments are
abbrev pub AreFirstKinds : List (List ℕ) → List KnownKind → Type 0
AreFirstKinds names first = (name : ℕ) → IfSome (slice_get first name) (λ k. IsKindOf (name_at names name) k.arity k.kind)
