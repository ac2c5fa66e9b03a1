use Rattle.std.proofs.Common.{◌≡◌, ◌∙◌, suc, ◌+◌, [], filter, flat_map, length, map, refl, ap, arith}
use Rattle.std.specs.List.{range_with_len}
use Rattle.run_model.specs.Goals.AtomParts.{fits_part, part_solution, parts_from}
use Rattle.std_builtins.specs.Answers.{solution_meant}
use Rattle.std_builtins.specs.AskedParts.{asked_meant}
use Rattle.std_builtins.proofs.AskedPartLemmas.{more_lists}
use Rattle.std_builtins.proofs.sub_atom.PartsAsked.solutions.Goals as goal

pub loop-start-init : goal.loop-start-init
loop-start-init c = record { kept = ap (map solution_meant) c.new-solutions.ensures.items; within = omega arith }

pub loop-start-preserved : goal.loop-start-preserved
loop-start-preserved c =
    let asked = asked_meant c.args.self.now in
    let n = c.loop-start.start in
    record {
      kept = more_lists (part_solution asked) (fits_part asked) (parts_from c.args.characters.now) n (n + 1) [] (map solution_meant c.loop-start.solutions.items) (map solution_meant c.push_from.new.solutions.items) refl c.loop-start.invariant.kept c.in_ok-push_from.ensures;
      within = omega (arith, c.loop-start-test.true);
    }

pub returns : goal.returns
returns c =
    let asked = asked_meant c.args.self.now in
    let cs = c.args.characters.now in
    let n = length cs in
    let all : c.loop-start.start ≡ n = omega (arith, c.loop-start-test.false, c.loop-start.invariant.within) in
    more_lists (part_solution asked) (fits_part asked) (parts_from cs) n (suc n) [] (map solution_meant c.loop-start.solutions.items) (map solution_meant c.push_from-2.new.solutions.items) (omega arith)
    (c.loop-start.invariant.kept ∙ ap (λ k. map (part_solution asked) (filter (fits_part asked) (flat_map (parts_from cs) (range_with_len 0 k)))) all) c.in_ok-push_from-2.ensures
