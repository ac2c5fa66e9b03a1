-- Options that have a value, and options that have none.
use Rattle.std.proofs.Common.{◌≡◌, Bool, true, false, cond, Option, Some, None, refl}
use Rattle.std.specs.Prelude.{IsSome}
use Rattle.std.specs.Option.{is_some}

pub some_value : {X : Type 0} (o : Option X) → is_some o ≡ true → (x : X) × (o ≡ Some x)
some_value None e = absurd cc
some_value (Some x) e = (x, refl)

pub none_value : {X : Type 0} (o : Option X) → is_some o ≡ false → o ≡ None
none_value None e = refl
none_value (Some x) e = absurd cc

pub some_cond : {X : Type 0} (b : Bool) (x : X) (o : Option X) → IsSome o → IsSome (cond b (Some x) o)
some_cond true x o h = refl
some_cond false x o h = h
