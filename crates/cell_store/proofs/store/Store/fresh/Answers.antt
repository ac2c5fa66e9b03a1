use Rattle.std.proofs.Common.{◌∷◌, ◌≡◌, ◌+◌, ◌<◌, ◌^◌, ◌∙◌, ap, sym, length, arith}
use Rattle.cell_store.specs.StoreView.{StoreView, with_numbers}
use Rattle.cell_store.proofs.StoreLemmas.{grown_parts, grown_view}
use Rattle.cell_store.proofs.store.Store.fresh.Goals as goal

pub invariant_of-self-2 : goal.invariant_of-self-2
invariant_of-self-2 c =
    let s = c.self.inside in
    let first : c.next-first.result ≡ length s.cells = c.next-first.ensures.next ∙ sym (ap (λ (st : StoreView). st.now.next) c.self.view_is) in
    let sum : c.in-Some.next ≡ c.next-first.result + c.args.count = c.in-Some.ensures.1 in
    let fits : c.next-first.result + c.args.count < 2 ^ 32 = c.in-Some.ensures.0 in
    let long = c.in_ok-grow.ensures.long in
    grown_parts s.heap s.cells c.grow.new.self s.trail.items (s.marks.floor ∷ s.marks.marks) c.self.invariant c.in_ok-grow.ensures.same (omega arith) (omega arith)

pub returns-clause-ok : goal.returns-clause-ok
returns-clause-ok c =
    let s = c.self.inside in
    let first : c.next-first.result ≡ length s.cells = c.next-first.ensures.next ∙ sym (ap (λ (st : StoreView). st.now.next) c.self.view_is) in
    let sum : c.in-Some.next ≡ c.next-first.result + c.args.count = c.in-Some.ensures.1 in
    let fits : c.next-first.result + c.args.count < 2 ^ 32 = c.in-Some.ensures.0 in
    let long = c.in_ok-grow.ensures.long in
    grown_view s.heap s.cells c.grow.new.self s.trail.items (s.marks.floor ∷ s.marks.marks) c.self.invariant c.in_ok-grow.ensures.same (omega arith) (omega arith) c.args.count (omega arith) ∙ ap (with_numbers c.args.count) c.self.view_is
