use Rattle.std.proofs.Common.{sym, ap, ◌∙◌}
use Rattle.au_term.specs.Term.{AtomTerm}
use Rattle.au_model.specs.Terms.Forms.{same_name}
use Rattle.run_model.specs.Goals.BuiltinAnswers.{equal}
use Rattle.run_model.specs.Goals.TermTests.{order_symbol}
use Rattle.cell_store.specs.StoreView.{meaning}
use Rattle.region_builtins.proofs.OrderLemmas.{symbol_ordered}
use Rattle.region_builtins.proofs.quick.atom_ordered.Goals as goal

pub returns : goal.returns
returns c =
    let st = c.args.store.now in
    let name = c.args.name.now in
    record {
      left = name;
      right = order_symbol c.in_ok-ordering.ordering;
      is = symbol_ordered name (meaning st c.args.left) (meaning st c.args.right) (sym c.if-not-is_symbol.false ∙ c.is_symbol.ensures)
          ∙ ap (λ o. equal (AtomTerm name) (AtomTerm (order_symbol o))) (sym c.in_ok-ordering.ensures);
      same = c.is_text.ensures ∙ ap (same_name name) c.symbol_of.ensures.text;
    }
