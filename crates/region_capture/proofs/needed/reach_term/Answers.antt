use Rattle.std.proofs.Common.{◌≡◌, ◌+◌, length, sym, ap, ◌∙◌, subst, arith}
use Rattle.au_term.specs.PrefixOrder.{cells_of}
use Rattle.au_term.specs.Shifted.{shifted_cell}
use Rattle.au_term.specs.declared.cell.Cell.TheVariants.{Var as VarCell}
use Rattle.region_capture.proofs.ReachLemmas.{AreReachedTo, no_variable_cell, none_in, reached_more, reached_whole}
use Rattle.region_capture.proofs.SeenLemmas.{sees_nothing, sees_twice}
use Rattle.region_capture.specs.KeptLevels.{IsVariableReached}
use Rattle.region_capture.specs.NeededBindings.{SeesMore}
use Rattle.region_capture.specs.declared.needed.Needed.{Needed}
use Rattle.region_capture.proofs.needed.reach_term.Goals as goal
use Rattle.region_capture.proofs.needed.reach_term.Goals.{in-Var+in_ok-see_number-in-Var, in_default}

pub loop-at-init : goal.loop-at-init
loop-at-init c = record {
  more = sees_nothing c.args.store.now c.args.first c.args.needed.now;
  done = λ v h. absurd (none_in (VarCell v) h);
}

pub see_number-requires : goal.see_number-requires
see_number-requires c = let r = c.requires in let l = c.loop-at.invariant.more.long in omega (arith, r, l)

pub loop-at-preserved : goal.loop-at-preserved
loop-at-preserved c =
    let st = c.args.store.now in
    let t = c.args.term.now in
    let first = c.args.first in
    let at = c.loop-at.at in
    let base = c.cell_at-base.result.1 in
    let cell = shifted_cell base c.cell_at-base.result.0.now in
    let was = c.loop-at.invariant in
    let old = c.loop-at.needed in
    let next = st.now.next in
    elim c.match-cell.branch [
      | in-Var+in_ok-see_number-in-Var w ↦
          let v = base + w.in-Var.number in
          let is : cell ≡ VarCell v = ap (shifted_cell base) w.in-Var.is in
          let new = w.see_number.new.needed in
          let step = w.in_ok-see_number-in-Var.ensures.more in
          record {
            more = subst (SeesMore st first c.args.needed.now) (sym w.needed-is) (sees_twice st first c.args.needed.now old new was.more step);
            done = subst (λ (n : Needed). AreReachedTo next n.seen t (at + 1)) (sym w.needed-is)
                (reached_more t at cell c.cell_at-base.ensures.cell next old.seen new.seen step.below.kept was.done (λ u e. let both : VarCell v ≡ VarCell u = sym is ∙ e in let same : v ≡ u = cc in subst (IsVariableReached next new.seen) same w.in_ok-see_number-in-Var.ensures.reached));
          }
      | in_default w ↦ record {
        more = subst (SeesMore st first c.args.needed.now) (sym w.needed-is) was.more;
        done = subst (λ (n : Needed). AreReachedTo next n.seen t (at + 1)) (sym w.needed-is)
            (reached_more t at cell c.cell_at-base.ensures.cell next old.seen old.seen (λ u h. h) was.done (λ u e. absurd (no_variable_cell base c.cell_at-base.result.0.now u (λ n is. w.in_default.not-Var n is) e)));
      }
    ]

pub returns-clause-more : goal.returns-clause-more
returns-clause-more c = c.loop-at.invariant.more

pub returns-clause-reached : goal.returns-clause-reached
returns-clause-reached c =
    let t = c.args.term.now in
    let next = c.args.store.now.now.next in
    let same : c.loop-at.at ≡ length (cells_of t) = let e = c.len-at-end.ensures in let f = c.loop-at-test.false in let g = c.loop-at.auto.at-end in omega (arith, e, f, g) in
    reached_whole next c.loop-at.needed.seen t (subst (AreReachedTo next c.loop-at.needed.seen t) same c.loop-at.invariant.done)
