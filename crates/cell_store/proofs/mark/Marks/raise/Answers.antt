use Rattle.std.proofs.Common.{[], ◌∙◌, ap}
use Rattle.cell_store.specs.Undoing.{marks_over}
use Rattle.cell_store.proofs.MarkLemmas.{all_at}
use Rattle.cell_store.proofs.mark.Marks.raise.Goals as goal

pub returns-clause-ok : goal.returns-clause-ok
returns-clause-ok c =
    let f = c.args.floor in
    let count = c.in-Ok.ensures.1 ∙ c.len.ensures in
    ap (λ later. record { floor = f; marks = marks_over f c.in-Ok.at_floor later }) c.clear.ensures.items
    ∙ (ap (λ n. record { floor = f; marks = marks_over f n [] }) count
    ∙ ap (λ ms. record { floor = f; marks = ms }) (all_at f c.args.self.now.marks))
