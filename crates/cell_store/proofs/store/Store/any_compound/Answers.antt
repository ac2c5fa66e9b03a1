use Rattle.std.proofs.Common.{length, sym, ap, ◌∙◌, subst}
use Rattle.au_term.specs.Shifted.{shifted}
use Rattle.clause_compile.specs.Places.{AreSound, IsPlaceOf, meaning_in}
use Rattle.clause_compile.specs.declared.place.Place.{Place}
use Rattle.cell_store.specs.StoreView.{text_in}
use Rattle.cell_store.proofs.ArgumentLemmas.{ground_term, ground_there}
use Rattle.cell_store.proofs.store.Store.any_compound.Goals as goal

pub returns-in-Ground : goal.returns-in-Ground
returns-in-Ground c =
    let code = text_in c.args.self.now in
    let sound = subst (λ st. AreSound (length (text_in st).names) (text_in st).places) c.self.view_is c.self.invariant.now.text in
    let there = subst (IsPlaceOf code) c.in-Ground.is c.requires.there in
    record {
      is = ground_term code c.in-Ground.at c.args.base sound there ∙ ap (λ (p : Place). shifted c.args.base (meaning_in code p)) (sym c.in-Ground.is);
      there = ground_there code c.args.self.now.now.next c.in-Ground.at sound there;
    }
