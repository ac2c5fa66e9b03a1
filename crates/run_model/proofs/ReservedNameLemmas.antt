-- Rows of the tables, found by name and number of arguments.
use Rattle.std.proofs.Common.{◌≡◌, Bool, true, false, ◌||◌, cond, List, [], ◌∷◌, is_some, Some, refl}
use Rattle.std.specs.List.{list_any, find}

find_by : {X : Type 0} → (p : X → Bool) (x : X) (xs : List X) (v : Bool) → is_some (find p xs) ≡ list_any p xs → is_some (cond v (Some x) (find p xs)) ≡ (v || list_any p xs)
find_by p x xs true h = refl
find_by p x xs false h = h

pub found_any : {X : Type 0} → (p : X → Bool) (xs : List X) → is_some (find p xs) ≡ list_any p xs
found_any p [] = refl
found_any p (x ∷ xs) = find_by p x xs (p x) (found_any p xs)
