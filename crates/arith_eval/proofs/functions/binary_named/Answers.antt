use Rattle.std.proofs.Common.{◌∷◌, [], List, ℕ, ◌∙◌, sym, ap, option_map}
use Rattle.std.specs.Prelude.{codes}
use Rattle.std.specs.Str.{chars}
use Rattle.run_model.specs.Goals.Arithmetic.{binary_function, binary_functions}
use Rattle.arith_eval.specs.Functions.{binary_meaning, named_in}
use Rattle.arith_eval.specs.declared.functions.Binary.{Binary}
use Rattle.arith_eval.specs.declared.functions.Binary.TheVariants.{Add, Subtract, Multiply, Quotient, ExactQuotient, Remainder, Modulo, Min, Max, Power, ShiftLeft, ShiftRight, And, Or}
use Rattle.arith_eval.proofs.Names.{mapped-named, mapped-found}
use Rattle.arith_eval.proofs.functions.binary_named.Goals as goal

-- the rows, read
abbrev rows : List (List ℕ × Binary)
rows =
    (codes "+", Add) ∷ (codes "-", Subtract) ∷ (codes "*", Multiply) ∷ (codes "//", Quotient) ∷ (codes "/", ExactQuotient) ∷ (codes "rem", Remainder) ∷ (codes "mod", Modulo) ∷ (codes "min", Min) ∷ (codes "max", Max) ∷ (codes "**", Power) ∷ (codes "^", Power) ∷ (codes "<<", ShiftLeft) ∷ (codes ">>", ShiftRight) ∷ (codes "/\\", And) ∷ (codes "\\/", Or) ∷ []

pub returns-in-Some : goal.returns-in-Some
returns-in-Some c = c.in-Some.ensures ∙ ap (λ (name : List ℕ). option_map (λ f. f.value) (binary_function name)) c.text-name.ensures

pub returns-in-None : goal.returns-in-None
unfolding chars
returns-in-None c =
    let name = c.args.name.now in
    ap (option_map binary_meaning) (c.binary_among.ensures ∙ ap (λ (text : List ℕ). named_in text rows) c.text-name.ensures)
    ∙ (mapped-named binary_meaning name rows ∙ sym (mapped-found (λ f. f.name) (λ f. f.value) name binary_functions))
