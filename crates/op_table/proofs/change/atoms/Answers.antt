use Rattle.std.proofs.Common.{◌≡◌, ◌∙◌, ◌∷◌, [], ◌++◌, map, not, codes, refl, sym, ap, ap₂}
use Rattle.std.proofs.lemmas.List.{map-append}
use Rattle.au_term.specs.Term.{AtomTerm}
use Rattle.au_model.specs.Terms.TermTypes.{is_atom}
use Rattle.au_model.specs.Terms.ErrorTerms.{type_error}
use Rattle.op_table.specs.Arguments.{AreAtoms, no_atom_error}
use Rattle.op_table.proofs.ArgumentLemmas.{item_passed, item_refused, items_over, refused_is, no_atom, an_atom, taken_item, taken_all}
use Rattle.op_table.proofs.change.atoms.Goals as goal

pub loop-item-init : goal.loop-item-init
loop-item-init c = record { passed = refl; read = ap (map AtomTerm) (sym c.new-names.ensures.items) }

pub returns-in_default : goal.returns-in_default
returns-in_default c =
    let item = c.item-item.result in
    refused_is (no_atom_error c.args.items.now) (type_error (codes "atom") item) (AreAtoms c.args.items.now) c.wrong_type.result
    (c.loop-item.invariant.passed ∙ item_refused (λ t. not (is_atom t)) (type_error (codes "atom")) c.args.items.now c.loop-item.item-index item c.loop-item-test.true c.item-item.is (no_atom item c.atom.result c.atom.ensures c.in_default.is)) c.wrong_type.ensures

pub loop-item-preserved : goal.loop-item-preserved
loop-item-preserved c =
    let item = c.item-item.result in
    let name = c.in_ok-share.field-0 in
    let is : item ≡ AtomTerm name = an_atom item c.atom.result c.in-Some.name c.atom.ensures c.in-Some.is ∙ ap AtomTerm (sym c.in_ok-share.ensures) in
    record {
      passed = c.loop-item.invariant.passed ∙ item_passed (λ t. not (is_atom t)) (type_error (codes "atom")) c.args.items.now c.loop-item.item-index item c.loop-item-test.true c.item-item.is (ap (λ t. not (is_atom t)) is);
      read = taken_item c.args.items.now c.loop-item.item-index item c.loop-item-test.true c.item-item.is
          ∙ (ap₂ (λ ts t. ts ++ t ∷ []) c.loop-item.invariant.read is ∙ (sym (map-append AtomTerm c.loop-item.names.items (name ∷ [])) ∙ ap (map AtomTerm) (sym c.in_ok-push.ensures.items)));
    }

pub returns : goal.returns
returns c = (
  c.loop-item.invariant.passed ∙ items_over (λ t. not (is_atom t)) (type_error (codes "atom")) c.args.items.now c.loop-item.item-index c.loop-item-test.false,
  sym (taken_all c.args.items.now c.loop-item.item-index c.loop-item-test.false) ∙ c.loop-item.invariant.read,
)
