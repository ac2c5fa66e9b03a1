-- What is open, as the program keeps it.
use Rattle.std.specs.Prelude.{ℕ, ◌≤◌, List, [], ◌∷◌, ◌++◌, length, Option, Some, None}
use Rattle.au_model.specs.Syntax.Operators.{Operator}
use Rattle.au_model.specs.Syntax.PostOperators.{right_bound}
use Rattle.au_model.specs.Syntax.Trees.{Tree}
use Rattle.op_table.specs.OperatorView.{operator_meant}
use Rattle.term_reader.specs.Completion as stack
use Rattle.term_reader.specs.Completion.{bound_of}
use Rattle.term_reader.specs.TermOutput.{TermOutput, no_cells, emit_tree}
use Rattle.term_reader.specs.declared.state.Frame.{Frame}
use Rattle.term_reader.specs.declared.state.Frame.TheVariants as frame

-- a frame without the terms that were read
pub data Shape : Type 0 where
  RoundShape : Shape
  CurlyShape : Shape
  ItemShape : ℕ → Shape
  TailShape : ℕ → Shape
  ArgumentShape : List ℕ → ℕ → ℕ → Shape
  PrefixShape : List ℕ → Operator → Shape
  InfixShape : List ℕ → Operator → Shape

abbrev pub frame_meant : Frame → Shape
frame_meant frame.Round = RoundShape
frame_meant frame.Curly = CurlyShape
frame_meant (frame.Item n) = ItemShape n
frame_meant (frame.Tail n) = TailShape n
frame_meant (frame.Argument name n place) = ArgumentShape name place n
frame_meant (frame.Prefix name o) = PrefixShape name (operator_meant o)
frame_meant (frame.Infix name o) = InfixShape name (operator_meant o)

abbrev pub shape_of : stack.OpenFrame → Shape
shape_of stack.Round = RoundShape
shape_of stack.Braces = CurlyShape
shape_of (stack.ItemOf ts) = ItemShape (length ts)
shape_of (stack.TailOf ts) = TailShape (length ts)
shape_of (stack.ArgumentOf n place ts) = ArgumentShape n place (length ts)
shape_of (stack.PrefixOf n o) = PrefixShape n o
shape_of (stack.InfixOf n o l) = InfixShape n o

-- the outermost first
abbrev pub shapes_up : List stack.OpenFrame → List Shape
shapes_up [] = []
shapes_up (f ∷ k) = shapes_up k ++ shape_of f ∷ []

abbrev pub shape_bound : Shape → ℕ
shape_bound RoundShape = 1200
shape_bound CurlyShape = 1200
shape_bound (ItemShape n) = 999
shape_bound (TailShape n) = 999
shape_bound (ArgumentShape name place n) = 999
shape_bound (PrefixShape name o) = right_bound o
shape_bound (InfixShape name o) = right_bound o

abbrev pub shape_operator : Shape → Option ℕ
shape_operator (PrefixShape name o) = Some o.priority
shape_operator (InfixShape name o) = Some o.priority
shape_operator _ = None

-- the terms that were read, the last first
abbrev pub emitted_before : TermOutput → List Tree → TermOutput
emitted_before s [] = s
emitted_before s (t ∷ ts) = emit_tree (emitted_before s ts) t

abbrev pub emitted_stack : List stack.OpenFrame → TermOutput
emitted_stack [] = no_cells
emitted_stack (stack.Round ∷ k) = emitted_stack k
emitted_stack (stack.Braces ∷ k) = emitted_stack k
emitted_stack (stack.ItemOf ts ∷ k) = emitted_before (emitted_stack k) ts
emitted_stack (stack.TailOf ts ∷ k) = emitted_before (emitted_stack k) ts
emitted_stack (stack.ArgumentOf n place ts ∷ k) = emitted_before (emitted_stack k) ts
emitted_stack (stack.PrefixOf n o ∷ k) = emitted_stack k
emitted_stack (stack.InfixOf n o l ∷ k) = emit_tree (emitted_stack k) l

-- an operator is within the bound of what it is in, and another argument is allowed
abbrev pub IsWithinBounds : List stack.OpenFrame → Type 0
IsWithinBounds [] = Unit {0}
IsWithinBounds (stack.PrefixOf n o ∷ k) = (o.priority ≤ bound_of k) × IsWithinBounds k
IsWithinBounds (stack.InfixOf n o l ∷ k) = (o.priority ≤ bound_of k) × IsWithinBounds k
IsWithinBounds (stack.ArgumentOf n place ts ∷ k) = (length ts ≤ 65534) × IsWithinBounds k
IsWithinBounds (stack.Round ∷ k) = IsWithinBounds k
IsWithinBounds (stack.Braces ∷ k) = IsWithinBounds k
IsWithinBounds (stack.ItemOf ts ∷ k) = IsWithinBounds k
IsWithinBounds (stack.TailOf ts ∷ k) = IsWithinBounds k

-- the innermost frame is no operator
abbrev pub HasNoOperatorOnTop : List stack.OpenFrame → Type 0
HasNoOperatorOnTop (stack.PrefixOf n o ∷ k) = ⊥
HasNoOperatorOnTop (stack.InfixOf n o l ∷ k) = ⊥
HasNoOperatorOnTop _ = Unit {0}
