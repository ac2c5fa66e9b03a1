-- An alternative that is out closes, once its private run has come to an end.
use Rattle.std.specs.Prelude.{◌≡◌, ◌⊎◌, ℕ, Bool, true, false, List, [], ◌∷◌, length, Option, Some, None}
use Rattle.au_term.specs.Term.{Term}
use Rattle.run_model.specs.Machine.Entries.{Entry}
use Rattle.tree_model.specs.Closing.{Grown, closes}
use Rattle.tree_model.specs.Credits.{Credit, credit_of, credit_with}
use Rattle.tree_model.specs.Effects.{results_of}
use Rattle.tree_model.specs.Events.{Event, Empty, Collected}
use Rattle.tree_model.specs.EventViews.{place_view}
use Rattle.tree_model.specs.Legality.{taken_at, run_of, run_is_empty, run_gives_result}
use Rattle.tree_model.specs.Levels.{Level, plug, Place, place_at, Spot}
use Rattle.tree_model.specs.Nodes.{Status}
use Rattle.tree_model.specs.SoundTrees.{IsSound}
use Rattle.tree_model.specs.TreeStates.{TreeState}
use Rattle.tree_nodes.specs.Bodies.{Body, Reading}
use Rattle.tree_nodes.specs.Rows.{Rows, credit_view}
use Rattle.tree_nodes.specs.TreeTables.{NodesView, IsTableOf}
use Rattle.tree_closing.specs.Closings.{ComesToRest, IsSingle, ReadsWoken, is_waking}
use Rattle.tree_closing.specs.declared.way_up.Beside.{Beside}
use Rattle.tree_closing.specs.declared.way_up.Closing.{Closing}
use Rattle.public_tree.specs.PublicTrees.{PublicView, IsPublicOf, NotesIn, IsSameTree, IsRooted, is_going}
use Rattle.public_tree.specs.declared.closing.TaskEnd.{TaskEnd}
use Rattle.public_tree.specs.declared.closing.TaskEnd.TheVariants.{Nothing, Result}

-- so many inferences, with a record or none
abbrev pub record_credit : ℕ → Option Term → Credit
record_credit k None = credit_of k
record_credit k (Some t) = credit_with k t

abbrev pub closing_event : TaskEnd → ℕ → Place → ℕ → Event
closing_event Nothing w a k = Empty w a k
closing_event Result w a k = Collected w a k

-- whether own entries are an end
abbrev pub ends_run : TaskEnd → Option (List Entry) → Bool
ends_run Nothing run = run_is_empty run
ends_run Result run = run_gives_result run

-- with which credit they close
abbrev pub end_credit : TaskEnd → ℕ → Option (List Entry) → Credit
end_credit Nothing k run = credit_of k
end_credit Result k run = record { inferences = k; answers = 0; records = results_of run }

-- a body of one branch is given where something wakes
abbrev pub HasSingle : Bool → Option Body → Type 0
HasSingle false body = Unit {0}
HasSingle true None = ⊥
HasSingle true (Some body) = IsSingle body

abbrev pub IsBodyGiven : Beside → Option Body → Type 0
IsBodyGiven beside body = HasSingle (is_waking beside) body

-- it reads as what wakes
abbrev pub ReadsAs : Reading → Rows → Place → List Term → Bool → Option Body → Type 0
ReadsAs read rows b records false body = Unit {0}
ReadsAs read rows b records true None = ⊥
ReadsAs read rows b records true (Some body) = ReadsWoken read rows b records body

-- in this tree, the private run of what is out has come to an end after so many inferences, what closes with its credit comes
-- to rest there, and what wakes by that reads as the body that is given
pub record RunEndsAs (nodes : NodesView) (e : TaskEnd) (closing : Closing) (body : Option Body)
    (w : ℕ) (a : Place) (k : ℕ) (read : Reading) (t : TreeState) : Type 0 where
  pub ends : (s : Spot) → taken_at w a t ≡ Some s → ends_run e (run_of t s k) ≡ true
  pub rests : (s : Spot) → taken_at w a t ≡ Some s
      → ComesToRest nodes a (end_credit e k (run_of t s k)) (place_view closing.end) (credit_view closing.credit) closing.beside
  pub given : ReadsAs read nodes.rows (place_view closing.end) (credit_view closing.credit).records (is_waking closing.beside) body

-- the nodes stand for a tree, and draw its next number next
pub record IsGrownTo (nodes : NodesView) (read : Reading) (g : Grown) : Type 0 where
  pub placed : IsTableOf nodes read g.root
  pub next : length nodes.rows ≡ g.next
  pub rooted : IsRooted g.root

-- what began to close, and rests there, has closed
abbrev pub RestsIn : NodesView → NodesView → Place → Credit → Beside → Option Body → Type 0
RestsIn old new b total beside body =
    (a : Place) (c : Credit) (read : Reading) (v : Level) (up : List Level) (was : Status) → ComesToRest old a c b total beside → place_at v ≡ a
    → IsTableOf old read (plug (v ∷ up) was) → IsSound [] (plug (v ∷ up) was) → ReadsAs read old.rows b total.records (is_waking beside) body
    → IsGrownTo new read (closes (length old.rows) (v ∷ up) c)

-- after so many inferences an event happens in each tree for which it stands and of which this holds; or the tree had ended or
-- been stopped
abbrev pub HappensIn : PublicView → PublicView → ℕ → Place → ℕ → (ℕ → Place → ℕ → Reading → TreeState → Type 0) → (ℕ → Place → ℕ → Event) → Type 0
HappensIn old new w a k Known event =
    ((read : Reading) (t : TreeState) → IsPublicOf old read t → Known w a k read t → NotesIn old new (event w a k) read t)
    ⊎ (IsSameTree old new × ((read : Reading) (t : TreeState) → IsPublicOf old read t → is_going t ≡ false))
