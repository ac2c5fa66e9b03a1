use Rattle.std.proofs.Common.{◌∷◌, [], inl, inr, refl, sym, arith, is_some, List}
use Rattle.std.specs.Prelude.{codes}
use Rattle.std.specs.Str.{chars}
use Rattle.std_builtins.specs.Controls.{ControlRow, IsControl}
use Rattle.std_builtins.specs.declared.control.Control.TheVariants.{Succeed, Fail, Cut, Either, Then, Not, Once, Throw, Catch, Findall, Call}
use Rattle.run_model.specs.Goals.Control.{is_named, construct_of, control_constructs}
use Rattle.run_model.proofs.ReservedNameLemmas.{found_any}
use Rattle.std_builtins.proofs.ControlLemmas.{found_kind}
use Rattle.std_builtins.proofs.control.control_of.Goals as goal

-- the rows, read
abbrev rows : List ControlRow
rows =
    (codes "true", 0, Succeed) ∷ (codes "fail", 0, Fail) ∷ (codes "false", 0, Fail) ∷ (codes "!", 0, Cut) ∷ (codes ";", 2, Either) ∷ (codes "->", 2, Then) ∷ (codes "\\+", 1, Not) ∷ (codes "once", 1, Once) ∷ (codes "throw", 1, Throw) ∷ (codes "catch", 3, Catch) ∷ (codes "findall", 3, Findall)
    ∷ (codes "call", 1, Call) ∷ (codes "call", 2, Call) ∷ (codes "call", 3, Call) ∷ (codes "call", 4, Call) ∷ (codes "call", 5, Call) ∷ (codes "call", 6, Call) ∷ (codes "call", 7, Call) ∷ (codes "call", 8, Call) ∷ []

pub returns : goal.returns
unfolding chars
returns c =
    let name = chars c.args.name.now in
    let arity = c.args.arity in
    found_kind IsControl name arity name rows c.control_among.result (is_some (construct_of control_constructs name arity)) c.control_among.ensures refl
    ((refl, refl), ((inl refl, refl), ((inr refl, refl), ((refl, refl), ((refl, refl), ((refl, refl), ((refl, refl), ((refl, refl), ((refl, refl), ((refl, refl), ((refl, refl), ((refl, omega arith, omega arith), ((refl, omega arith, omega arith), ((refl, omega arith, omega arith), ((refl, omega arith, omega arith), ((refl, omega arith, omega arith), ((refl, omega arith, omega arith), ((refl, omega arith, omega arith), ((refl, omega arith, omega arith), tt)))))))))))))))))))
    (sym (found_any (is_named name arity) control_constructs))
