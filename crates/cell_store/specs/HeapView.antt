-- The heap: terms that were made while a program runs, as blocks of places behind the program's text.
use Rattle.std.specs.Prelude.{◌≡◌, ◌^◌, ◌<◌, ℕ, List, ◌++◌, length, take}
use Rattle.clause_compile.specs.AtomNumbers.{AreDistinct, IsNumbered}
use Rattle.clause_compile.specs.Places.{CodeView, AreSound}
use Rattle.clause_compile.specs.declared.place.Place.{Place}

-- a program's text, the names and the places that were added to it
pub record HeapView : Type 0 where
  pub program : CodeView
  pub names : List (List ℕ)
  pub made : List Place

-- the places of a program's text, and behind them those that were added
pub record PlacesView : Type 0 where
  pub program : List Place
  pub made : List Place

abbrev pub all_places : PlacesView → List Place
all_places p = p.program ++ p.made

-- all of it as one text
abbrev pub heap_text : HeapView → CodeView
heap_text h = record { names = h.program.names ++ h.names; places = h.program.places ++ h.made }

-- with as many of the places as there were earlier; names stay
abbrev pub cut_heap : ℕ → HeapView → HeapView
cut_heap n h = record { program = h.program; names = h.names; made = take n h.made }

-- a text in which each compound's arguments stand before it, no two names are the same, and places have numbers of 32 bits
pub record IsSoundHeap (h : HeapView) : Type 0 where
  pub text : AreSound (length (heap_text h).names) (heap_text h).places
  pub distinct : AreDistinct (heap_text h).names
  pub small : length (heap_text h).places < 2 ^ 32

-- names and places were added
pub record GrowsHeap (old new : HeapView) : Type 0 where
  pub names : List (List ℕ)
  pub places : List Place
  pub is : new ≡ record { program = old.program; names = old.names ++ names; made = old.made ++ places }
  pub sound : IsSoundHeap new

-- a name has this number
pub record IsNumberedIn (old new : HeapView) (name : List ℕ) (number : ℕ) : Type 0 where
  pub numbered : IsNumbered (heap_text old).names (heap_text new).names name number
  pub places : (heap_text new).places ≡ (heap_text old).places
