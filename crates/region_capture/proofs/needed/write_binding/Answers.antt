use Rattle.std.proofs.Common.{◌≤◌, inr, ap, sym, ◌∙◌, subst}
use Rattle.au_term.specs.Term.{Term, var_bound}
use Rattle.au_model.specs.Terms.Substitutions.{resolve}
use Rattle.cell_store.specs.StoreView.{text_in}
use Rattle.cell_store.proofs.CellMeaningLemmas.{term_below}
use Rattle.region_capture.proofs.SeenLemmas.{older_value}
use Rattle.region_capture.proofs.needed.write_binding.Goals as goal

pub returns-in_ok-push : goal.returns-in_ok-push
returns-in_ok-push c =
    let st = c.args.store.now in
    let v = c.args.variable in
    let is = c.from-var.ensures in
    let value = c.in_ok-value.ensures in
    let b = c.in-Some.ensures in
    inr (record {
      binding = record { var = c.from-var.result; value = c.in_ok-value.value };
      added = c.in_ok-push.ensures.ok;
      written = record {
        is = is;
        stands = b.stands ∙ ap (resolve st.now.bound) (sym value);
        older = λ w e. older_value (text_in st) st.now.next v w c.in-Some.value b.there b.falling (sym value ∙ e);
        below = subst (λ (t : Term). var_bound t ≤ st.now.next) (sym value) (term_below (text_in st) st.now.next c.in-Some.value b.there);
      };
    })
