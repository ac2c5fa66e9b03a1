-- Heads told apart by the keys of their arguments.
use Rattle.std.specs.Prelude.{◌≡◌, ℕ, ◌<◌, Bool, true, not, ◌&&◌, [], ◌∷◌, None}
use Rattle.au_term.specs.Term.{Term, argument, argument_count}
use Rattle.au_model.specs.Terms.Unifier.{unifier}
use Rattle.proc_index.specs.declared.key.Key.{Key}
use Rattle.proc_index.specs.Keys.{key_of, is_any, same_key}

-- two keys of which neither stands for all, and that differ
abbrev pub tell_apart : Key → Key → Bool
tell_apart k l = not (is_any k) && (not (is_any l) && not (same_key k l))

-- a goal and a head with arguments at one place whose keys tell them apart do not unify
abbrev pub ToldApart : Type 0
ToldApart = (goal head : Term) (i : ℕ) → i < argument_count goal → i < argument_count head → tell_apart (key_of (argument i goal)) (key_of (argument i head)) ≡ true → unifier ((goal, head) ∷ []) ≡ None
