use Rattle.std.proofs.Common.{◌∷◌, [], List, ℕ, ◌∙◌, sym, ap, option_map}
use Rattle.std.specs.Prelude.{codes}
use Rattle.std.specs.Str.{chars}
use Rattle.run_model.specs.Goals.Arithmetic.{unary_function, unary_functions}
use Rattle.arith_eval.specs.Functions.{unary_meaning, named_in}
use Rattle.arith_eval.specs.declared.functions.Unary.{Unary}
use Rattle.arith_eval.specs.declared.functions.Unary.TheVariants.{Plus, Minus, Abs, Sign, Complement}
use Rattle.arith_eval.proofs.Names.{mapped-named, mapped-found}
use Rattle.arith_eval.proofs.functions.unary_named.Goals as goal

-- the rows, read
abbrev rows : List (List ℕ × Unary)
rows =
    (codes "+", Plus) ∷ (codes "-", Minus) ∷ (codes "abs", Abs) ∷ (codes "sign", Sign) ∷ (codes "\\", Complement) ∷ []

pub returns-in-Some : goal.returns-in-Some
returns-in-Some c = c.in-Some.ensures ∙ ap (λ (name : List ℕ). option_map (λ f. f.value) (unary_function name)) c.text-name.ensures

pub returns-in-None : goal.returns-in-None
unfolding chars
returns-in-None c =
    let name = c.args.name.now in
    ap (option_map unary_meaning) (c.unary_among.ensures ∙ ap (λ (text : List ℕ). named_in text rows) c.text-name.ensures)
    ∙ (mapped-named unary_meaning name rows ∙ sym (mapped-found (λ f. f.name) (λ f. f.value) name unary_functions))
