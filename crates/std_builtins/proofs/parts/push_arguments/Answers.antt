use Rattle.std.proofs.Common.{◌++◌, ◌∷◌, [], append_assoc, append-nil, ap, sym, ◌∙◌}
use Rattle.run_model.specs.Goals.ListForms.{items_of}
use Rattle.std_builtins.proofs.parts.push_arguments.Goals as goal

pub loop-cells-init : goal.loop-cells-init
loop-cells-init c = ap (λ ts. c.args.parts.now.items ++ items_of ts) (c.into_iter-cells-iterator.ensures.into_iter_gives ∙ c.args-cells-items.ensures)

pub loop-cells-preserved : goal.loop-cells-preserved
loop-cells-preserved c =
    let before = c.loop-cells.parts.items in
    let left = items_of c.next.new.self in
    ap (λ ts. ts ++ left) c.in_ok-push.ensures.items
    ∙ (append_assoc before (c.in_ok-from_slice.field-0 ∷ []) left
    ∙ (ap (λ t. before ++ t ∷ left) c.in_ok-from_slice.ensures.term
    ∙ (ap (λ ts. before ++ items_of ts) (sym c.in-Some.ensures.steps.0)
    ∙ c.loop-cells.invariant)))

pub returns : goal.returns
returns c =
    let all = c.loop-cells.parts.items in
    sym (append-nil all) ∙ (ap (λ ts. all ++ items_of ts) (sym c.in-None.ensures.steps.0) ∙ c.loop-cells.invariant)
