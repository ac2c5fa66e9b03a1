use Rattle.std.proofs.Common.{◌≡◌, ◌≤◌, ◌<◌, ◌+◌, ◌-◌, ◌∷◌, ◌∙◌, suc, length, get_or, replicate, sym, ap, subst, arith}
use Rattle.std.proofs.lemmas.List.{length-append, length-replicate, nil_from_length}
use Rattle.au_model.specs.Terms.Each.{Each}
use Rattle.cell_store.specs.Undoing.{MarksView, AreNested, marks_over}
use Rattle.cell_store.specs.declared.mark.Mark.{Mark}
use Rattle.cell_store.proofs.MarkLemmas.{later_at, none_later}
use Rattle.cell_store.proofs.UndoingLemmas.{newest}
use Rattle.cell_store.proofs.mark.Marks.protected.Goals as goal

pub returns-in-Some : goal.returns-in-Some
returns-in-Some c =
    let s = c.self.inside in
    let ms = s.later.items in
    let m : Mark = c.in-Some.mark.now in
    let item = c.in-Some.ensures.item in
    let seen = c.deref.ensures.value in
    let some : 0 < length ms = let e : length c.deref.result.now ≡ length ms = ap length seen in let l = item.3.0 in omega (arith, e, l) in
    let last : suc (length ms - 1) ≡ length ms = omega (arith, some) in
    let long : length (marks_over s.floor s.at_floor ms) ≡ s.at_floor + length ms = length-append (replicate s.at_floor s.floor) ms ∙ ap (λ n. n + length ms) (length-replicate s.at_floor s.floor) in
    let many : length (s.floor ∷ marks_over s.floor s.at_floor ms) ≡ suc (s.at_floor + suc (length ms - 1)) = omega (arith, long, last) in
    let own : m ≡ get_or ms (length ms - 1) m = item.1 ∙ ap (λ ks. get_or ks (length ks - 1) m) seen in
    let place : s.at_floor + suc (length ms - 1) ≡ suc (s.at_floor + (length ms - 1)) = omega arith in
    let at : m ≡ get_or (s.floor ∷ marks_over s.floor s.at_floor ms) (s.at_floor + suc (length ms - 1)) m =
    own ∙ (sym (later_at s.floor s.at_floor (length ms - 1) ms m) ∙ ap (λ k. get_or (s.floor ∷ marks_over s.floor s.at_floor ms) k m) (sym place)) in
    subst (λ (v : MarksView). Each (λ k. k.variables ≤ m.variables) (v.floor ∷ v.marks)) c.self.view_is
    (newest (s.floor ∷ marks_over s.floor s.at_floor ms) (s.at_floor + suc (length ms - 1)) m (subst (λ (v : MarksView). AreNested (v.floor ∷ v.marks)) (sym c.self.view_is) c.requires) many at)

pub returns-in-None : goal.returns-in-None
returns-in-None c =
    let s = c.self.inside in
    subst (λ (v : MarksView). Each (λ k. k.variables ≤ s.floor.variables) (v.floor ∷ v.marks)) c.self.view_is
    (omega arith, none_later s.floor s.at_floor s.later.items (nil_from_length s.later.items (let e : length c.deref.result.now ≡ length s.later.items = ap length c.deref.ensures.value in let i = c.in-None.ensures.item in omega (arith, e, i))))
