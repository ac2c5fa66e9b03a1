use Rattle.std.proofs.Common.{◌≡◌, ◌∙◌, ◌<◌, ◌++◌, [], ◌∷◌, ap, ap₂, sym, subst, arith}
use Rattle.au_term.specs.PrefixOrder.{subterm, term_of, term_of-cells_of}
use Rattle.au_model.specs.Terms.ListForms.{list_form, item_before}
use Rattle.au_model.specs.Terms.Unifier.{size}
use Rattle.au_model.specs.Terms.ListCells.{IsForm, opens_pair, ends_list, items_before}
use Rattle.au_model.proofs.ListFormLemmas.{pair_opened, list_ended, items_before-push}
use Rattle.au_model.proofs.lists.list_form.Goals as goal
use Rattle.au_term.proofs.SubtermLemmas.{some_cell as some_cells}

pub items-init : goal.items-init
items-init c = record { within = some_cells c.args.term.now; same = ap₂ items_before c.new-items.ensures.items (ap list_form (term_of-cells_of c.args.term.now)) }

pub arg_start-first-requires-clause-argument : goal.arg_start-first-requires-clause-argument
arg_start-first-requires-clause-argument c =
    let two = (pair_opened (subterm c.items.at c.args.term.now) (ap opens_pair (sym c.top_at.ensures) ∙ (sym c.is_pair.ensures ∙ c.items-test.true))).0 in
    omega arith

pub arg_start-at-requires-clause-argument : goal.arg_start-at-requires-clause-argument
arg_start-at-requires-clause-argument c =
    let two = (pair_opened (subterm c.items.at c.args.term.now) (ap opens_pair (sym c.top_at.ensures) ∙ (sym c.is_pair.ensures ∙ c.items-test.true))).0 in
    omega arith

pub items-preserved : goal.items-preserved
items-preserved c =
    let pair = pair_opened (subterm c.items.at c.args.term.now) (ap opens_pair (sym c.top_at.ensures) ∙ (sym c.is_pair.ensures ∙ c.items-test.true)) in
    let first = c.in_ok-from_slice.ensures.term ∙ (ap term_of c.subterm.ensures.cells ∙ (term_of-cells_of (subterm c.arg_start-first.result c.args.term.now) ∙ c.arg_start-first.ensures.is)) in
    let whole = subterm c.items.at c.args.term.now in
    let item = subterm c.arg_start-first.result c.args.term.now in
    let rest = subterm c.arg_start-at.result c.args.term.now in
    let pushed : c.push.new.self.items ≡ c.items.items.items ++ c.in_ok-from_slice.field-0 ∷ [] = c.in_ok-push.ensures.items in
    let same = ap₂ item_before first (ap list_form c.arg_start-at.ensures.is) in
    record {
      within = c.arg_start-at.ensures.within;
      same = ap (λ ts. items_before ts (list_form rest)) pushed ∙ (items_before-push c.items.items.items c.in_ok-from_slice.field-0 (list_form rest) ∙ (ap (items_before c.items.items.items) (same ∙ sym pair.1) ∙ c.items.invariant.same));
    }

pub items-smaller : goal.items-smaller
items-smaller c =
    let pair = pair_opened (subterm c.items.at c.args.term.now) (ap opens_pair (sym c.top_at.ensures) ∙ (sym c.is_pair.ensures ∙ c.items-test.true)) in
    subst (λ t. size t < size (subterm c.items.at c.args.term.now)) (sym c.arg_start-at.ensures.is) pair.2

pub returns : goal.returns
returns c =
    let over = list_ended (subterm c.items.at c.args.term.now) c.items.items.items (ap opens_pair (sym c.top_at.ensures) ∙ (sym c.is_pair.ensures ∙ c.items-test.false)) in
    let last = ap (λ k. ends_list k c.items.items.items) c.top_at-2.ensures in
    subst (λ f. IsForm f c.ended.result) (last ∙ (sym over ∙ c.items.invariant.same)) c.ended.ensures
