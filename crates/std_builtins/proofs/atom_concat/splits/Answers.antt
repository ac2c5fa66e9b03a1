use Rattle.std.proofs.Common.{◌≡◌, ◌∙◌, suc, ◌+◌, [], filter, length, map, refl, ap, arith}
use Rattle.std.specs.List.{range_with_len}
use Rattle.run_model.specs.Goals.AtomParts.{fits_split, split_at, split_solution}
use Rattle.std_builtins.specs.Answers.{solution_meant}
use Rattle.std_builtins.proofs.AskedPartLemmas.{one_more}
use Rattle.std_builtins.proofs.atom_concat.splits.Goals as goal

pub loop-at-init : goal.loop-at-init
loop-at-init c = record { kept = ap (map solution_meant) c.new-solutions.ensures.items; within = omega arith }

pub loop-at-preserved : goal.loop-at-preserved
loop-at-preserved c =
    let a = c.args.first.now.term.now in
    let b = c.args.second.now.term.now in
    record {
      kept = one_more (split_solution a b) (fits_split a b) (split_at c.args.characters.now) c.loop-at.at (c.loop-at.at + 1) [] (map solution_meant c.loop-at.solutions.items) (map solution_meant c.push_split.new.solutions.items) refl c.loop-at.invariant.kept c.in_ok-push_split.ensures;
      within = omega (arith, c.loop-at-test.true);
    }

pub returns : goal.returns
returns c =
    let a = c.args.first.now.term.now in
    let b = c.args.second.now.term.now in
    let n = length c.args.characters.now in
    let all : c.loop-at.at ≡ n = omega (arith, c.loop-at-test.false, c.loop-at.invariant.within) in
    one_more (split_solution a b) (fits_split a b) (split_at c.args.characters.now) n (suc n) [] (map solution_meant c.loop-at.solutions.items) (map solution_meant c.push_split-2.new.solutions.items) (omega arith)
    (c.loop-at.invariant.kept ∙ ap (λ k. map (split_solution a b) (filter (fits_split a b) (map (split_at c.args.characters.now) (range_with_len 0 k)))) all) c.in_ok-push_split-2.ensures
