-- A region: what one worker runs privately, as frames and choice points over a store.
use Rattle.std.specs.Prelude.{◌≡◌, ℕ, ◌<◌, ◌≤◌, List, [], ◌∷◌, length}
use Rattle.au_model.specs.Terms.Named.{NamedTerm}
use Rattle.run_model.specs.Machine.Items.{Item, Continuation}
use Rattle.run_model.specs.Machine.Entries.{Entry, PlainEntry}
use Rattle.cell_store.specs.StoreView.{StoreView, Moment, text_in}
use Rattle.region_split.specs.Frames.{LeftItem, left_items, items_at, scoped_item, next_position, IsItemIn, AreLeftScoped, AreFramesOver}
use Rattle.region_split.specs.Texts.{TextView}
use Rattle.region_split.specs.ChoicePoints.{RegionSetting, Standing, standing_over, nothing_standing, continuation_at, choice_entries, AreChoicesOver, AreAlternativesAt, IsMarkOf, AreMarked, AreMarkedOver, frames_kept}
use Rattle.region_split.specs.QueryEnds.{AreEndsOldest}
use Rattle.region_split.specs.declared.choice.Alternatives.{Alternatives}
use Rattle.region_split.specs.declared.choice.ChoicePoint.{ChoicePoint}
use Rattle.region_split.specs.declared.frame.Frame.{Frame}
use Rattle.region_split.specs.declared.frame.FrameItem.{FrameItem}
use Rattle.region_split.specs.declared.frame.Left.{Left}
use Rattle.region_split.specs.declared.frame.Left.TheVariants.{First, GoesOnAt, Nothing}
use Rattle.region_split.specs.declared.frame.Position.{Position}

pub record RegionView : Type 0 where
  pub text : TextView
  pub store : StoreView
  pub frames : List Frame
  pub choices : List ChoicePoint

abbrev pub region_setting : List NamedTerm → RegionView → RegionSetting
region_setting named r = record { text = r.text; program = r.store.program; names = r.store.names; floor = r.store.floor; frames = r.frames; named = named }

-- what the choice points stand for, where the query's named variables are these terms before anything is bound
abbrev pub standing : List NamedTerm → RegionView → Standing
standing named r = standing_over (region_setting named r) nothing_standing r.choices r.store.marks

-- the entries of the sequential machine that a region stands for, but for the current one
abbrev pub entries_of : List NamedTerm → RegionView → List Entry
entries_of named r = (standing named r).entries

-- how many entries so many choice points stand for
abbrev pub heights_of : List NamedTerm → RegionView → List ℕ
heights_of named r = (standing named r).heights

-- what is left to do at a position now
abbrev pub continuation_here : List NamedTerm → RegionView → Position → Continuation ℕ
continuation_here named r p = continuation_at (region_setting named r) (heights_of named r) r.store.now p

abbrev pub position_entry : List NamedTerm → RegionView → Position → Entry
position_entry named r p = PlainEntry (continuation_here named r p)

-- what is left to do at a position, and its items now
abbrev pub left_here : RegionView → Position → List LeftItem
left_here r p = left_items r.text.bodies r.frames p

abbrev pub items_here : RegionView → Position → List (Item ℕ)
items_here r p = items_at (text_in r.store) r.text.bodies r.frames p

-- the entries that a choice point at a moment would stand for on top
abbrev pub entries_on : List NamedTerm → RegionView → ChoicePoint → Moment → List Entry
entries_on named r c m = choice_entries (region_setting named r) (standing named r) c m

-- a position where the values and the marks of what is left are there, and nothing cuts to more than so many choice points
pub record IsPositionOver (r : RegionView) (cut : ℕ) (p : Position) : Type 0 where
  pub frame : p.frame ≤ length r.frames
  pub scoped : AreLeftScoped (text_in r.store) r.store.now.next cut (left_here r p)
  pub marked : AreMarked r.choices (left_here r p)

-- a position at which the region can go on
abbrev pub IsPositionIn : RegionView → Position → Type 0
IsPositionIn r p = IsPositionOver r (length r.choices) p

-- an item whose values are there now
abbrev pub IsItemHere : RegionView → FrameItem → Type 0
IsItemHere r item = IsItemIn (text_in r.store) r.store.now.next item

-- the first item at a position, its scope, and what follows
pub record IsFirstAt (r : RegionView) (p : Position) (item : FrameItem) (cut : ℕ) : Type 0 where
  pub items : items_here r p ≡ scoped_item (text_in r.store) item cut ∷ items_here r (next_position p)
  pub there : IsItemHere r item
  pub scope : cut ≤ length r.choices
  pub mark : IsMarkOf r.choices cut item
  pub after : IsPositionOver r cut (next_position p)

-- what is left at a position is left at one of an older frame
pub record GoesOnIn (r : RegionView) (p q : Position) : Type 0 where
  pub items : items_here r p ≡ items_here r q
  pub over : (cut : ℕ) → IsPositionOver r cut p → IsPositionOver r cut q
  pub position : IsPositionIn r q
  pub older : q.frame < p.frame

-- what is left at a position, by its first item
abbrev pub IsLeftAt : RegionView → Position → Left → Type 0
IsLeftAt r p (First item cut) = IsFirstAt r p item cut
IsLeftAt r p (GoesOnAt q) = GoesOnIn r p q
IsLeftAt r p Nothing = items_here r p ≡ []

-- alternatives whose values are there now
abbrev pub AreAlternativesIn : RegionView → Alternatives → Type 0
AreAlternativesIn r alternatives = AreAlternativesAt (region_setting [] r) r.store.now alternatives

-- each choice point has its mark of the store and keeps its frames, the ends of queries are the oldest ones, and each frame
-- goes on in an older one
pub record IsConsistentRegion (r : RegionView) : Type 0 where
  pub program : r.store.program ≡ r.text.code
  pub choices : AreChoicesOver (region_setting [] r) 0 0 r.choices r.store.marks
  pub frames : frames_kept 0 r.choices ≤ length r.frames
  pub older : AreFramesOver 0 r.frames
  pub marked : AreMarkedOver r.text.bodies r.frames [] r.choices
  pub ends : AreEndsOldest r.choices
