use Rattle.std.proofs.Common.{◌≡◌, [], sym, ap, ◌∙◌, arith}
use Rattle.std.proofs.lemmas.Result.{on_ok_weaker}
use Rattle.au_term.specs.Term.{AtomTerm}
use Rattle.au_term.proofs.SubtermLemmas.{atom_of_top}
use Rattle.au_model.specs.Writing.WrittenTerms.{name_pieces, pieces}
use Rattle.term_writer.specs.TextInProgress.{followed_by}
use Rattle.term_writer.specs.WritingTasks.{due_pieces}
use Rattle.term_writer.specs.WritingSources.{notation_of_source, term_of_source, source_subterm}
use Rattle.term_writer.proofs.tasks.Source.take_term.Goals as goal

pub returns-in-Atom : goal.returns-in-Atom
returns-in-Atom c =
    let n = notation_of_source c.args.self in
    let t = term_of_source c.args.self in
    let rest = due_pieces n t c.args.due.now.items [] in
    let u : source_subterm c.args.self c.args.at ≡ AtomTerm c.in-Atom.name = atom_of_top _ _ (sym c.cell.ensures.top ∙ c.in-Atom.is) in
    on_ok_weaker c.name.result (λ h. record {
      pieces = h rest ∙ (ap (λ a. followed_by c.args.text.now (name_pieces a rest)) c.text.ensures ∙ ap (λ v. followed_by c.args.text.now (pieces n v rest)) (sym u));
      lighter = rw u (omega arith);
      placed = λ ps. ps;
    }) c.name.ensures
