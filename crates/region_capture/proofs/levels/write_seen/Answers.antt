use Rattle.std.proofs.Common.{◌≡◌, ◌+◌, true, false, get_or, refl, sym, subst, ◌∙◌, arith}
use Rattle.region_capture.specs.NeededBindings.{WritesSeen}
use Rattle.region_capture.proofs.LevelLemmas.{writes_next, writes_not}
use Rattle.region_capture.proofs.levels.write_seen.Goals as goal
use Rattle.region_capture.proofs.levels.write_seen.Goals.{then-has+in_ok-write_binding, else-has}

pub loop-variable-preserved : goal.loop-variable-preserved
loop-variable-preserved c =
    let st = c.args.store.now in
    let first = c.args.first in
    let v = c.loop-variable.variable in
    let start = c.args.needed.now in
    let old = c.loop-variable.needed in
    let was = c.loop-variable.invariant in
    let le = c.loop-variable.auto.variable in
    elim c.if-has.branch [
      | then-has+in_ok-write_binding w ↦
          subst (WritesSeen st first (v + 1) start) (sym w.needed-is)
          (writes_next st first v le start old _ was refl (sym c.has.ensures ∙ w.if-has.true) w.in_ok-write_binding.ensures)
      | else-has w ↦
          subst (WritesSeen st first (v + 1) start) (sym w.needed-is)
          (writes_not st first v le start old old was refl (λ h. let free : get_or old.seen v false ≡ false = sym c.has.ensures ∙ w.if-has.false in let wrong : false ≡ true = sym free ∙ h in absurd cc) refl)
    ]

pub returns : goal.returns
returns c =
    let st = c.args.store.now in
    subst (λ n. WritesSeen st c.args.first n c.args.needed.now c.loop-variable.needed) (let n = c.next-variable-end.ensures.next in let t = c.loop-variable-test.false in let e = c.loop-variable.auto.variable-end (let r = c.requires.first in omega (arith, n, r)) in let f = c.loop-variable.auto.variable in omega (arith, n, t, e, f)) c.loop-variable.invariant
