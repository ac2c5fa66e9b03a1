-- Which goals are of a control construct, by name and number of arguments.
use Rattle.std.specs.Prelude.{◌≡◌, ◌⊎◌, ℕ, ◌≤◌, List, codes}
use Rattle.std_builtins.specs.declared.control.Control.{Control}
use Rattle.std_builtins.specs.declared.control.Control.TheVariants.{Succeed, Fail, Cut, Either, Then, Not, Once, Throw, Catch, Findall, Call}

abbrev pub IsControl : Control → List ℕ → ℕ → Type 0
IsControl Succeed name arity = (name ≡ codes "true") × (arity ≡ 0)
IsControl Fail name arity = ((name ≡ codes "fail") ⊎ (name ≡ codes "false")) × (arity ≡ 0)
IsControl Cut name arity = (name ≡ codes "!") × (arity ≡ 0)
IsControl Either name arity = (name ≡ codes ";") × (arity ≡ 2)
IsControl Then name arity = (name ≡ codes "->") × (arity ≡ 2)
IsControl Not name arity = (name ≡ codes "\\+") × (arity ≡ 1)
IsControl Once name arity = (name ≡ codes "once") × (arity ≡ 1)
IsControl Throw name arity = (name ≡ codes "throw") × (arity ≡ 1)
IsControl Catch name arity = (name ≡ codes "catch") × (arity ≡ 3)
IsControl Findall name arity = (name ≡ codes "findall") × (arity ≡ 3)
IsControl Call name arity = (name ≡ codes "call") × (1 ≤ arity) × (arity ≤ 8)

-- a name, a number of arguments, and the construct
abbrev pub ControlRow : Type 0
ControlRow = List ℕ × ℕ × Control
