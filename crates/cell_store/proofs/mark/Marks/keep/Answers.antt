use Rattle.std.proofs.Common.{take, ◌∙◌, ap, arith}
use Rattle.cell_store.specs.Undoing.{MarksView, marks_over}
use Rattle.cell_store.proofs.MarkLemmas.{kept_later, kept_at_floor}
use Rattle.cell_store.proofs.mark.Marks.keep.Goals as goal

pub returns-then-at_floor-count : goal.returns-then-at_floor-count
returns-then-at_floor-count c =
    let s = c.self.inside in
    ap (λ later. record { floor = s.floor; marks = marks_over s.floor s.at_floor later }) c.truncate.ensures.items
    ∙ (ap (λ ms. record { floor = s.floor; marks = ms }) (kept_later s.floor s.at_floor c.args.count s.later.items c.if-at_floor-count.true)
    ∙ ap (λ (v : MarksView). record { floor = v.floor; marks = take c.args.count v.marks }) c.self.view_is)

pub returns-else-at_floor-count : goal.returns-else-at_floor-count
returns-else-at_floor-count c =
    let s = c.self.inside in
    ap (λ later. record { floor = s.floor; marks = marks_over s.floor c.args.count later }) c.clear.ensures.items
    ∙ (ap (λ ms. record { floor = s.floor; marks = ms }) (kept_at_floor s.floor s.at_floor c.args.count s.later.items (omega (arith, c.if-at_floor-count.false)))
    ∙ ap (λ (v : MarksView). record { floor = v.floor; marks = take c.args.count v.marks }) c.self.view_is)
