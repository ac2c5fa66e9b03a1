-- Frames: bodies under way, each of which goes on in an older one (ISO/IEC 13211-1, 7.7.2; D. H. D. Warren, "An abstract
-- Prolog instruction set", 1983). A frame cuts to a number of choice points.
use Rattle.std.specs.Prelude.{ℕ, zero, suc, ◌+◌, ◌-◌, ◌≤◌, List, [], ◌∷◌, ◌++◌, map, get_or, drop, codes}
use Rattle.au_term.specs.Term.{AtomTerm, var_bound}
use Rattle.au_term.specs.Shifted.{shifted}
use Rattle.run_model.specs.Programs.Bodies.{call_of}
use Rattle.run_model.specs.Machine.Items.{Item, GoalItem, CatchMark, CollectMark, RemovalItem}
use Rattle.clause_compile.specs.Places.{CodeView, IsPlaceOf, meaning_in}
use Rattle.clause_compile.specs.declared.place.Place.{Place}
use Rattle.binding_array.specs.Represented.{cell_term}
use Rattle.cell_store.specs.Values.{IsValue}
use Rattle.region_split.specs.declared.text.BodyItem.{BodyItem}
use Rattle.region_split.specs.declared.text.BodyItem.TheVariants.{Goal as GoalPlace, BodyEnd}
use Rattle.region_split.specs.declared.frame.FrameItem.{FrameItem}
use Rattle.region_split.specs.declared.frame.FrameItem.TheVariants.{Goal, Call, Cut, True, Fail, CatchEnd, Collect, Removal}
use Rattle.region_split.specs.declared.frame.FrameBody.{FrameBody}
use Rattle.region_split.specs.declared.frame.FrameBody.TheVariants.{Text, One}
use Rattle.region_split.specs.declared.frame.Frame.{Frame}
use Rattle.region_split.specs.declared.frame.Position.{Position}

-- an item that is left, with its scope: a goal of the text by its place and what is added to its variables, or a frame's own
pub data LeftItem : Type 0 where
  PlacedGoal : Place → ℕ → ℕ → LeftItem
  OwnItem : FrameItem → ℕ → LeftItem

-- a frame's own item, with its scope; the marks of a catch and a findall are those of the choice point that a cut there would
-- leave on top
abbrev pub scoped_item : CodeView → FrameItem → ℕ → Item ℕ
scoped_item code (Goal value) cut = GoalItem (cell_term code value) cut
scoped_item code (Call value) cut = GoalItem (call_of (cell_term code value)) cut
scoped_item code Cut cut = GoalItem (AtomTerm (codes "!")) cut
scoped_item code True cut = GoalItem (AtomTerm (codes "true")) cut
scoped_item code Fail cut = GoalItem (AtomTerm (codes "fail")) cut
scoped_item code CatchEnd cut = CatchMark (cut - 1)
scoped_item code (Collect value) cut = CollectMark (cell_term code value) (cut - 1)
scoped_item code (Removal number) cut = RemovalItem number

abbrev pub item_in : CodeView → LeftItem → Item ℕ
item_in code (PlacedGoal place base cut) = GoalItem (shifted base (meaning_in code place)) cut
item_in code (OwnItem item cut) = scoped_item code item cut

-- what is left of a body of the text, with a number added to its variables
abbrev pub body_left : ℕ → ℕ → List BodyItem → List LeftItem
body_left base cut [] = []
body_left base cut (GoalPlace place ∷ body) = PlacedGoal place base cut ∷ body_left base cut body
body_left base cut (BodyEnd ∷ body) = []

abbrev pub one_left : FrameItem → ℕ → ℕ → List LeftItem
one_left item cut zero = OwnItem item cut ∷ []
one_left item cut (suc at) = []

-- what is left of a frame's own body from a place on
abbrev pub own_body_left : List BodyItem → FrameBody → ℕ → ℕ → List LeftItem
own_body_left bodies (Text base) cut at = body_left base cut (drop at bodies)
own_body_left bodies (One item) cut at = one_left item cut at

-- what is left to do at a position, by what is left in each frame from a place on
abbrev pub left_in_frames : List (ℕ → List LeftItem) → Position → List LeftItem
left_in_frames frames p = get_or frames p.frame (λ at. []) p.at

-- what is left in a frame: of its body, and then where it goes on
abbrev pub left_in : List BodyItem → List (ℕ → List LeftItem) → Frame → ℕ → List LeftItem
left_in bodies older f at = own_body_left bodies f.body f.cut at ++ left_in_frames older f.after

-- what is left in each frame, the oldest first
abbrev pub left_over : List BodyItem → List (ℕ → List LeftItem) → List Frame → List (ℕ → List LeftItem)
left_over bodies older [] = older
left_over bodies older (f ∷ frames) = left_over bodies (older ++ left_in bodies older f ∷ []) frames

-- what is left to do at a position: nothing where it is in no frame, which has the number 0
abbrev pub left_items : List BodyItem → List Frame → Position → List LeftItem
left_items bodies frames p = left_in_frames (left_over bodies ((λ at. []) ∷ []) frames) p

-- the same as items
abbrev pub items_at : CodeView → List BodyItem → List Frame → Position → List (Item ℕ)
items_at code bodies frames p = map (item_in code) (left_items bodies frames p)

-- an item whose values have their places in a text and their variables below a number
abbrev pub IsItemIn : CodeView → ℕ → FrameItem → Type 0
IsItemIn code next (Goal value) = IsValue code next value
IsItemIn code next (Call value) = IsValue code next value
IsItemIn code next Cut = Unit {0}
IsItemIn code next True = Unit {0}
IsItemIn code next Fail = Unit {0}
IsItemIn code next CatchEnd = Unit {0}
IsItemIn code next (Collect value) = IsValue code next value
IsItemIn code next (Removal number) = Unit {0}

abbrev pub IsLeftIn : CodeView → ℕ → LeftItem → Type 0
IsLeftIn code next (PlacedGoal place base cut) = IsPlaceOf code place × (var_bound (shifted base (meaning_in code place)) ≤ next)
IsLeftIn code next (OwnItem item cut) = IsItemIn code next item

abbrev pub left_scope : LeftItem → ℕ
left_scope (PlacedGoal place base cut) = cut
left_scope (OwnItem item cut) = cut

-- values are there, and scopes are so many choice points at most, none above that of an item before
abbrev pub AreLeftScoped : CodeView → ℕ → ℕ → List LeftItem → Type 0
AreLeftScoped code next cut [] = Unit {0}
AreLeftScoped code next cut (i ∷ left) = (left_scope i ≤ cut) × IsLeftIn code next i × AreLeftScoped code next (left_scope i) left

-- the place after it in the same frame
abbrev pub next_position : Position → Position
next_position p = record { frame = p.frame; at = p.at + 1 }

-- each frame goes on in an older one: no number after its own place, from one on
abbrev pub AreFramesOver : ℕ → List Frame → Type 0
AreFramesOver n [] = Unit {0}
AreFramesOver n (f ∷ frames) = (f.after.frame ≤ n) × AreFramesOver (n + 1) frames
