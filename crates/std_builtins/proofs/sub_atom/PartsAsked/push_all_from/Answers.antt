use Rattle.std.proofs.Common.{◌≡◌, ◌∙◌, suc, ◌+◌, ◌-◌, ◌++◌, filter, length, map, refl, sym, ap, append-nil, arith}
use Rattle.std.specs.List.{range_with_len}
use Rattle.run_model.specs.Goals.AtomParts.{fits_part, part_at, part_solution}
use Rattle.std_builtins.specs.Answers.{solution_meant}
use Rattle.std_builtins.specs.AskedParts.{asked_meant}
use Rattle.std_builtins.proofs.AskedPartLemmas.{on_ok, one_more}
use Rattle.std_builtins.proofs.sub_atom.PartsAsked.push_all_from.Goals as goal

pub loop-count-init : goal.loop-count-init
loop-count-init c = record { kept = sym (append-nil (map solution_meant c.args.solutions.now.items)); within = omega arith }

pub loop-count-preserved : goal.loop-count-preserved
loop-count-preserved c =
    let asked = asked_meant c.args.self.now in
    let n = c.loop-count.count in
    record {
      kept = one_more (part_solution asked) (fits_part asked) (part_at c.args.characters.now c.args.start) n (n + 1) (map solution_meant c.args.solutions.now.items) (map solution_meant c.loop-count.solutions.items) (map solution_meant c.push.new.solutions.items) refl c.loop-count.invariant.kept c.in_ok-push.ensures;
      within = omega (arith, c.loop-count-test.true);
    }

pub returns : goal.returns
returns c =
    let asked = asked_meant c.args.self.now in
    let rest = length c.args.characters.now - c.args.start in
    let before = map solution_meant c.args.solutions.now.items in
    let all : c.loop-count.count ≡ rest = omega (arith, c.loop-count-test.false, c.loop-count.invariant.within) in
    on_ok c.push-2.result (one_more (part_solution asked) (fits_part asked) (part_at c.args.characters.now c.args.start) rest (suc rest) before (map solution_meant c.loop-count.solutions.items) (map solution_meant c.push-2.new.solutions.items) (omega arith)
    (c.loop-count.invariant.kept ∙ ap (λ k. before ++ map (part_solution asked) (filter (fits_part asked) (map (part_at c.args.characters.now c.args.start) (range_with_len 0 k)))) all)) c.push-2.ensures
