-- Compounds that stand first as goals (ISO/IEC 13211-1, 7.7.7: the goal that is executed next).
use Rattle.std.specs.Prelude.{◌≡◌, ◌+◌, ◌^◌, ◌<◌, ◌≤◌, ℕ, zero, suc, Bool, false, List, [], ◌∷◌, length, Option, Some, None, slice_get}
use Rattle.au_term.specs.Shifted.{shifted}
use Rattle.au_model.specs.Terms.TermTypes.{is_compound}
use Rattle.clause_compile.specs.Places.{CodeView, meaning_in}
use Rattle.binding_array.specs.Represented.{cell_term}
use Rattle.binding_array.specs.declared.cell.BindingCell.TheVariants.{Compound}
use Rattle.cell_store.specs.StoreView.{IsValueIn, text_in}
use Rattle.region_split.specs.Frames.{LeftItem, PlacedGoal, OwnItem, own_body_left, scoped_item}
use Rattle.region_split.specs.Regions.{RegionView, items_here, IsPositionOver}
use Rattle.region_split.specs.declared.frame.CompoundFirst.{CompoundFirst}
use Rattle.region_split.specs.declared.frame.Frame.{Frame}
use Rattle.region_split.specs.declared.frame.FrameItem.{FrameItem}
use Rattle.region_split.specs.declared.frame.FrameItem.TheVariants.{Goal, Call, Cut, True, Fail, CatchEnd, Collect, Removal}
use Rattle.region_split.specs.declared.frame.Position.{Position}
use Rattle.region_split.specs.declared.text.BodyItem.{BodyItem}

-- whether an item is a goal that is a compound
abbrev pub is_compound_goal : CodeView → FrameItem → Bool
is_compound_goal code (Goal value) = is_compound (cell_term code value)
is_compound_goal code (Call value) = false
is_compound_goal code Cut = false
is_compound_goal code True = false
is_compound_goal code Fail = false
is_compound_goal code CatchEnd = false
is_compound_goal code (Collect value) = false
is_compound_goal code (Removal number) = false

abbrev pub IsNoCompoundGoal : FrameItem → Type 0
IsNoCompoundGoal item = (code : CodeView) → is_compound_goal code item ≡ false

-- whether the first item that is left is one
abbrev pub is_compound_first : CodeView → List LeftItem → Bool
is_compound_first code [] = false
is_compound_first code (PlacedGoal place base cut ∷ left) = is_compound (shifted base (meaning_in code place))
is_compound_first code (OwnItem item cut ∷ left) = is_compound_goal code item

-- what a position's own frame has left
abbrev pub left_in_own : List BodyItem → Option Frame → ℕ → List LeftItem
left_in_own bodies None at = []
left_in_own bodies (Some f) at = own_body_left bodies f.body f.cut at

abbrev pub left_in_frame : List BodyItem → List Frame → ℕ → ℕ → List LeftItem
left_in_frame bodies frames zero at = []
left_in_frame bodies frames (suc n) at = left_in_own bodies (slice_get frames n) at

-- no goal that is a compound stands first in a position's own frame, unless no number is left for the place after it
abbrev pub HasNoCompoundFirst : RegionView → Position → Type 0
HasNoCompoundFirst r p = p.at + 1 < 2 ^ 32 → is_compound_first (text_in r.store) (left_in_frame r.text.bodies r.frames p.frame p.at) ≡ false

-- a goal that is a compound stands first at a position, before what follows
pub record IsCompoundFirst (r : RegionView) (p : Position) (g : CompoundFirst) : Type 0 where
  pub items : items_here r p ≡ scoped_item (text_in r.store) (Goal (Compound g.at g.base)) g.cut ∷ items_here r g.after
  pub there : IsValueIn r.store (Compound g.at g.base)
  pub scope : g.cut ≤ length r.choices
  pub after : IsPositionOver r g.cut g.after
