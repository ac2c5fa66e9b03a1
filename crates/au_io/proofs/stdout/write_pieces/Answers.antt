use Rattle.std.proofs.Common.{◌≡◌, ◌++◌, take, drop, ap, ◌∙◌, sym}
use Rattle.au_io.proofs.PieceLemmas.{Appends-then, Appends-keep, rest_from, front, split_more, on_err_always}
use Rattle.au_io.proofs.stdout.write_pieces.Goals as goal
use Rattle.au_io.proofs.stdout.write_pieces.Goals.{in-Ok, in-Err+else-ne}

pub loop-preserved : goal.loop-preserved
loop-preserved g c =
    let written = c.loop.invariant.0 in
    let rest = c.loop.rest.now in
    elim c.match-write.branch [
      | in-Ok w ↦
          let left : c.match-write.rest.now ≡ drop w.in-Ok.count rest = ap (λ r. r.now) w.rest-is ∙ rest_from rest w.in-Ok.count in
          let all = split_more c.args.bytes.now written rest w.in-Ok.count c.loop.invariant.1 ∙ ap (λ ys. (written ++ take w.in-Ok.count rest) ++ ys) (sym left) in
          (written ++ take w.in-Ok.count rest, all, Appends-then _ _ _ written (take w.in-Ok.count rest) c.loop.invariant.2 w.in-Ok.ensures.bytes)
      | in-Err+else-ne w ↦
          (written, c.loop.invariant.1 ∙ ap (λ r. written ++ r.now) (sym w.rest-is), Appends-keep _ _ _ written c.loop.invariant.2 w.in-Err.ensures.bytes)
    ]

pub returns-then-is_empty-clause-err : goal.returns-then-is_empty-clause-err
returns-then-is_empty-clause-err g c =
    on_err_always c.flush.result _ (front _ _ c.args.bytes.now c.loop.invariant.0 c.loop.rest.now c.loop.invariant.1 (Appends-keep _ _ _ c.loop.invariant.0 c.loop.invariant.2 c.flush.ensures.bytes))

pub returns-in-Ok-eq0-clause-err : goal.returns-in-Ok-eq0-clause-err
returns-in-Ok-eq0-clause-err g c =
    let written = c.loop.invariant.0 in
    let n = c.in-Ok-eq0.field-0 in
    front _ _ c.args.bytes.now (written ++ take n c.loop.rest.now) (drop n c.loop.rest.now) (split_more c.args.bytes.now written c.loop.rest.now n c.loop.invariant.1) (Appends-then _ _ _ written (take n c.loop.rest.now) c.loop.invariant.2 c.in-Ok-eq0.ensures.bytes)

pub returns-then-ne-clause-err : goal.returns-then-ne-clause-err
returns-then-ne-clause-err g c =
    front _ _ c.args.bytes.now c.loop.invariant.0 c.loop.rest.now c.loop.invariant.1 (Appends-keep _ _ _ c.loop.invariant.0 c.loop.invariant.2 c.in-Err.ensures.bytes)

pub returns-clause-err : goal.returns-clause-err
returns-clause-err g c = front _ _ c.args.bytes.now c.loop.invariant.0 c.loop.rest.now c.loop.invariant.1 c.loop.invariant.2
