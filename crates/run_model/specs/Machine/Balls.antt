-- Where a thrown ball lands (ISO/IEC 13211-1, 7.8.9 and 7.8.10).
use Rattle.std.specs.Prelude.{ℕ, ◌+◌, Bool, false, cond, List, [], ◌∷◌, Option, Some, None, ◌==◌, length}
use Rattle.au_term.specs.Term.{Term}
use Rattle.au_model.specs.Terms.Substitutions.{Substitution}
use Rattle.au_model.specs.Terms.Unifier.{unifier}
use Rattle.au_model.specs.Terms.Copies.{copied, copy_takes}
use Rattle.run_model.specs.Programs.Bodies.{call_of}
use Rattle.run_model.specs.Machine.Items.{GoalItem, Continuation, with_next, before, first_mark, resolve_continuation}
use Rattle.run_model.specs.Machine.Entries.{Entry, PlainEntry, CatchEntry, FindallEntry, EndEntry}

abbrev pub is_height : Option ℕ → ℕ → Bool
is_height None n = false
is_height (Some h) n = h == n

-- the unifier by which the catch of this height takes a copy of the ball, where the mark is its own
abbrev pub taken_by : Option ℕ → ℕ → Term → Term → Continuation ℕ → Option Substitution
taken_by mark n ball catcher f = cond (is_height mark n) (unifier ((catcher, copied ball f.next) ∷ [])) None

-- where a catch doesn't take the ball, the mark that is looked for next: the first one of what follows it
abbrev pub next_mark : Option ℕ → ℕ → Continuation ℕ → Option ℕ
next_mark mark n f = cond (is_height mark n) (first_mark f.items) mark

-- the recovery goes on before what follows the catch, or the ball goes further
abbrev pub recovered : Option Substitution → Term → Term → Continuation ℕ → List Entry → List Entry → List Entry
recovered (Some s) ball recovery f es further =
    PlainEntry (resolve_continuation s (with_next (f.next + copy_takes ball) (before (GoalItem (call_of recovery) (length es) ∷ []) f))) ∷ es
recovered None ball recovery f es further = further

-- what stays where a ball is thrown: it goes down to the entry of the mark that is looked for, and from catch to
-- catch; where none takes it the query ends, with the ball numbered from 0
abbrev pub unwound : Term → Option ℕ → List Entry → List Entry
unwound ball mark [] = EndEntry (Some (copied ball 0)) ∷ []
unwound ball mark (CatchEntry c r f ∷ es) =
    recovered (taken_by mark (length es) ball c f) ball r f es (unwound ball (next_mark mark (length es) f) es)
unwound ball mark (PlainEntry f ∷ es) = unwound ball mark es
unwound ball mark (FindallEntry results l f ∷ es) = unwound ball mark es
unwound ball mark (EndEntry b ∷ es) = unwound ball mark es
