use Rattle.std.proofs.Common.{◌∙◌, ◌-◌, ◌++◌, suc, length, map, refl, sym, ap, append-nil, arith}
use Rattle.au_term.proofs.LogicLemmas.{and-left, true_false}
use Rattle.run_model.specs.Goals.AtomParts.{admits_count, fits_part, part_at, part_solution}
use Rattle.std_builtins.specs.Answers.{solution_meant}
use Rattle.std_builtins.specs.AskedParts.{asked_meant}
use Rattle.std_builtins.proofs.AskedPartLemmas.{none_pass, on_ok, one_passes}
use Rattle.std_builtins.proofs.sub_atom.PartsAsked.push_from.Goals as goal

pub returns-then-not-admits_count : goal.returns-then-not-admits_count
returns-then-not-admits_count c =
    let asked = asked_meant c.args.self.now in
    let cs = c.args.characters.now in
    let at = c.args.start in
    let before = map solution_meant c.args.solutions.now.items in
    let none = none_pass (part_solution asked) (fits_part asked) (part_at cs at) 0 (suc (length cs - at)) (λ k le lt e. true_false (sym (and-left (admits_count asked.before at) _ e) ∙ (sym c.admits_count.ensures ∙ c.if-not-admits_count.true))) in
    sym (append-nil before) ∙ ap (λ ps. before ++ map (part_solution asked) ps) (sym none)

pub returns-in-Some : goal.returns-in-Some
returns-in-Some c =
    let asked = asked_meant c.args.self.now in
    let cs = c.args.characters.now in
    let at = c.args.start in
    let before = map solution_meant c.args.solutions.now.items in
    let one = one_passes (part_solution asked) (fits_part asked) (part_at cs at) 0 (suc (length cs - at)) c.in-Some.count (omega arith) (omega (arith, c.if-count-rest.true)) (λ k le lt e. c.in-Some.ensures cs at k refl (omega arith) e) in
    on_ok c.push.result (λ h. h ∙ ap (λ ps. before ++ map (part_solution asked) ps) (sym one)) c.push.ensures

pub returns-in-Some-2 : goal.returns-in-Some-2
returns-in-Some-2 c =
    let asked = asked_meant c.args.self.now in
    let cs = c.args.characters.now in
    let at = c.args.start in
    let before = map solution_meant c.args.solutions.now.items in
    let none = none_pass (part_solution asked) (fits_part asked) (part_at cs at) 0 (suc (length cs - at)) (λ k le lt e. let same = c.in-Some.ensures cs at k refl (omega arith) e in absurd (omega (arith, same, lt, c.if-count-rest.false))) in
    sym (append-nil before) ∙ ap (λ ps. before ++ map (part_solution asked) ps) (sym none)
