-- What callers see of a store: the text, what is bound and the next variable number, and what they were at its floor and at each mark.
use Rattle.std.specs.Prelude.{◌≡◌, ℕ, ◌+◌, ◌^◌, ◌<◌, ◌≤◌, false, List, [], ◌++◌, ◌∷◌, length, map, take, drop, get_or}
use Rattle.au_term.specs.Term.{Term, VarTerm, var_bound}
use Rattle.au_model.specs.Terms.Each.{Each}
use Rattle.au_model.specs.Terms.Substitutions.{Substitution, value_of, resolve, occurs}
use Rattle.clause_compile.specs.AtomNumbers.{AreDistinct}
use Rattle.clause_compile.specs.Places.{CodeView, Keeps}
use Rattle.clause_compile.specs.declared.place.Place.{Place}
use Rattle.binding_array.specs.Represented.{cell_term, IsFalling}
use Rattle.binding_array.specs.declared.cell.BindingCell.{BindingCell}
use Rattle.binding_array.specs.declared.cell.BindingCell.TheVariants.{Free, Var, Int, Atom, Compound}
use Rattle.cell_store.specs.HeapView.{HeapView, heap_text, cut_heap}
use Rattle.cell_store.specs.Values.{IsValue}
use Rattle.cell_store.specs.CellMeanings.{substitution_in, AreConsistent}
use Rattle.cell_store.specs.Undoing.{Parts, undone, AreNested, IsWithin}
use Rattle.cell_store.specs.declared.mark.Mark.{Mark}

-- the terms that were made, what each variable stands for, and the next variable number
pub record Moment : Type 0 where
  pub made : List Place
  pub bound : Substitution
  pub next : ℕ

-- a program's text and further names, what is made and bound now, what was at the floor, under which nothing is taken back, and what the
-- store can be taken back to, the oldest first
pub record StoreView : Type 0 where
  pub program : CodeView
  pub names : List (List ℕ)
  pub now : Moment
  pub floor : Moment
  pub marks : List Moment

-- the program's text with the names that came behind it, and the terms that were made at a moment
abbrev pub text_at : StoreView → Moment → CodeView
text_at st m = record { names = st.program.names ++ st.names; places = st.program.places ++ m.made }

-- and with the terms that are made now
abbrev pub text_in : StoreView → CodeView
text_in st = text_at st st.now

-- what each variable stands for
abbrev pub substitution : StoreView → Substitution
substitution st = st.now.bound

-- a value that has its places in the text and its variables among those that were taken
abbrev pub IsValueIn : StoreView → BindingCell → Type 0
IsValueIn st c = IsValue (text_in st) st.now.next c

-- the term that a value is
abbrev pub value_term : StoreView → BindingCell → Term
value_term st c = cell_term (text_in st) c

-- what it stands for
abbrev pub meaning : StoreView → BindingCell → Term
meaning st c = resolve (substitution st) (value_term st c)

-- what the compound at a place stands for, with a number added to its variables
abbrev pub compound_meaning : StoreView → ℕ × ℕ → Term
compound_meaning st p = meaning st (Compound p.0 p.1)

-- no bound variable
abbrev pub IsUnbound : Substitution → BindingCell → Type 0
IsUnbound s Free = ⊥
IsUnbound s (Var v) = value_of s v ≡ VarTerm v
IsUnbound s (Int z) = Unit {0}
IsUnbound s (Atom a) = Unit {0}
IsUnbound s (Compound at base) = Unit {0}

-- a value that stands for what another does, and is no bound variable
pub record IsDereferenced (st : StoreView) (value reached : BindingCell) : Type 0 where
  pub same : meaning st reached ≡ meaning st value
  pub unbound : IsUnbound (substitution st) reached
  pub there : IsValueIn st reached

-- the state of a heap and of cells
abbrev pub moment_of : HeapView → List BindingCell → Moment
moment_of h cells = record { made = h.made; bound = substitution_in (heap_text h) cells; next = length cells }

-- the state at a mark
abbrev pub moment_at : Parts → Mark → Moment
moment_at p m = moment_of (cut_heap m.made p.heap) (undone m p.trail p.cells)

abbrev pub nothing_bound : Moment
nothing_bound = record { made = []; bound = []; next = 0 }

-- the first of the moments at marks is that of the floor
abbrev pub view_over : HeapView → Moment → List Moment → StoreView
view_over h now moments = record { program = h.program; names = h.names; now = now; floor = get_or moments 0 nothing_bound; marks = drop 1 moments }

abbrev pub view_of : Parts → StoreView
view_of p = view_over p.heap (moment_of p.heap p.cells) (map (moment_at p) p.marks)

-- at a mark too the cells represent a substitution
abbrev pub IsConsistentAt : Parts → Mark → Type 0
IsConsistentAt p m = AreConsistent (heap_text (cut_heap m.made p.heap)) (undone m p.trail p.cells)

-- the parts of a store fit together
pub record IsConsistent (p : Parts) : Type 0 where
  pub now : AreConsistent (heap_text p.heap) p.cells
  pub at_marks : Each (IsConsistentAt p) p.marks
  pub within : Each (IsWithin p) p.marks
  pub nested : AreNested p.marks
  pub trail : Each (λ v. v < length p.cells) p.trail
  pub variables : length p.cells < 2 ^ 32
  pub places : length (heap_text p.heap).places < 2 ^ 32
  pub distinct : AreDistinct (heap_text p.heap).names

-- nothing is made or bound
abbrev pub new_store : CodeView → StoreView
new_store program = record { program = program; names = []; now = nothing_bound; floor = nothing_bound; marks = [] }

-- further numbers were taken
abbrev pub with_numbers : ℕ → StoreView → StoreView
with_numbers n st = record st { now = record { made = st.now.made; bound = st.now.bound; next = st.now.next + n } }

-- the state is marked
abbrev pub with_mark : StoreView → StoreView
with_mark st = record st { marks = st.marks ++ st.now ∷ [] }

-- the oldest marks alone
abbrev pub with_marks : ℕ → StoreView → StoreView
with_marks n st = record st { marks = take n st.marks }

-- the state is the floor
abbrev pub over_floor : StoreView → StoreView
over_floor st = record st { floor = st.now }

-- the state is the floor, and so is that at each mark
abbrev pub raised : StoreView → StoreView
raised st = record st { floor = st.now; marks = map (λ m. st.now) st.marks }

-- a moment that has come before the state: what was made then is there and means the same
pub record IsOlderMoment (st : StoreView) (m : Moment) : Type 0 where
  pub keeps : Keeps (text_at st m) (text_in st)
  pub next : m.next ≤ st.now.next

-- taken back to a state that was marked
abbrev pub taken_back : Moment → StoreView → StoreView
taken_back m st = record st { now = m }

-- one substitution and then another make the third
abbrev pub IsComposition : Substitution → Substitution → Substitution → Type 0
IsComposition s further t = (n : ℕ) → value_of t n ≡ resolve further (value_of s n)

-- the same, but for what is bound
abbrev pub with_substitution : Substitution → StoreView → StoreView
with_substitution s st = record st { now = record { made = st.now.made; bound = s; next = st.now.next } }

-- bindings were made, and all else is as it was
pub record BindsFurther (old new : StoreView) (further : Substitution) : Type 0 where
  pub bound : IsComposition (substitution old) further (substitution new)
  pub others : new ≡ with_substitution (substitution new) old

-- what a free variable can be bound to
pub record CanBeBound (st : StoreView) (v : ℕ) (c : BindingCell) : Type 0 where
  pub there : v < st.now.next
  pub free : value_of (substitution st) v ≡ VarTerm v
  pub value : IsValueIn st c
  pub falling : IsFalling v c
  pub apart : occurs v (meaning st c) ≡ false

-- names are distinct; numbers from the next one on are unbound, the others stand for terms of them, and no binding changes these terms
pub record IsValidStore (st : StoreView) : Type 0 where
  pub distinct : AreDistinct (text_in st).names
  pub new : (n : ℕ) → st.now.next ≤ n → value_of (substitution st) n ≡ VarTerm n
  pub below : (n : ℕ) → n < st.now.next → var_bound (value_of (substitution st) n) ≤ st.now.next
  pub final : (n : ℕ) → resolve (substitution st) (value_of (substitution st) n) ≡ value_of (substitution st) n

-- terms were made: what was there, also at the marks, is there and means the same, and all else is as it was
pub record AddsText (old new : StoreView) : Type 0 where
  pub keeps : Keeps (text_in old) (text_in new)
  pub values : (c : BindingCell) → IsValueIn old c → IsValueIn new c × (value_term new c ≡ value_term old c)
  pub program : new.program ≡ old.program
  pub bound : substitution new ≡ substitution old
  pub next : new.now.next ≡ old.now.next
  pub floor : new.floor ≡ old.floor
  pub marks : new.marks ≡ old.marks
  pub at_marks : Each (λ m. Keeps (text_at old m) (text_at new m)) old.marks
