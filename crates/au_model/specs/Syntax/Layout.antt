-- Layout: blanks and comments (ISO/IEC 13211-1, 6.4.1).
use Rattle.std.specs.Prelude.{ℕ, zero, suc, Bool, true, false, ◌&&◌, ◌==◌, List, [], ◌∷◌, length, drop, Option, Some, None, if◌then◌else◌}
use Rattle.au_model.specs.Syntax.Characters.{is_blank, is_in_line, first_is, after_run}

-- what is after the first `*/`
abbrev pub after_comment : List ℕ → Option (List ℕ)
after_comment [] = None
after_comment (c ∷ cs) = if (c == 42) && first_is 47 cs then Some (drop 1 cs) else after_comment cs

-- the first item of layout and what is left after it, a comment that is not closed, or no layout
pub data LayoutItem : Type 0 where
  ItemThen : List ℕ → LayoutItem
  NotClosed : LayoutItem
  NoLayout : LayoutItem

abbrev pub comment_item : Option (List ℕ) → LayoutItem
comment_item (Some rest) = ItemThen rest
comment_item None = NotClosed

-- a blank; `%` and the rest of its line; `/*` up to the next `*/`
abbrev pub layout_item : List ℕ → LayoutItem
layout_item [] = NoLayout
layout_item (c ∷ cs) =
    if is_blank c then ItemThen cs
    else if c == 37 then ItemThen (after_run is_in_line cs)
    else if (c == 47) && first_is 42 cs then comment_item (after_comment (drop 1 cs))
    else NoLayout

-- where layout leads: to what is left after all its items, or to a comment that is not closed
pub data Gap : Type 0 where
  GapThen : List ℕ → Gap
  GapNotClosed : List ℕ → Gap

abbrev pub after_layout_item : (List ℕ → Gap) → List ℕ → LayoutItem → Gap
after_layout_item more cs (ItemThen rest) = more rest
after_layout_item more cs NotClosed = GapNotClosed cs
after_layout_item more cs NoLayout = GapThen cs

-- after at most this many items
abbrev pub after_layout_items : ℕ → List ℕ → Gap
after_layout_items zero cs = GapThen cs
after_layout_items (suc n) cs = after_layout_item (after_layout_items n) cs (layout_item cs)

-- after all items: each takes a character, so there are no more than characters
unfoldable pub after_layout : List ℕ → Gap
after_layout cs = after_layout_items (length cs) cs

abbrev pub is_layout : LayoutItem → Bool
is_layout NoLayout = false
is_layout _ = true

-- whether layout comes first
abbrev pub begins_layout : List ℕ → Bool
begins_layout cs = is_layout (layout_item cs)
