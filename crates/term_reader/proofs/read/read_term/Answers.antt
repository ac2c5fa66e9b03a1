use Rattle.std.proofs.Common.{◌≡◌, ◌∙◌, ℕ, List, sym, subst}
use Rattle.au_model.specs.Syntax.Characters.{chars_from}
use Rattle.term_reader.specs.Refusals.{IsFirstFault}
use Rattle.term_reader.specs.declared.read.Reading.{Reading}
use Rattle.term_reader.specs.declared.read.Reading.TheVariants.{Refused}
use Rattle.term_reader.specs.declared.refusal.Refused.{Refused as DeclaredRefused}
use Rattle.au_model.specs.Syntax.Primaries.{Setting}
use Rattle.term_reader.specs.ReadTerm.{IsReadTo, NoTerm}
use Rattle.term_reader.proofs.read.read_term.Goals as goal

pub finish-requires : goal.finish-requires
finish-requires c =
    let s : Setting = record { ops = c.args.ops.now; quotes = c.args.quotes } in
    let w = subst (IsReadTo s c.args.text.now c.args.at) c.in-Whole.is c.in_ok-reading.ensures in
    (w.tree, w.output)

pub returns-in_ok-term-in-Whole : goal.returns-in_ok-term-in-Whole
returns-in_ok-term-in-Whole c =
    let s : Setting = record { ops = c.args.ops.now; quotes = c.args.quotes } in
    let w = subst (IsReadTo s c.args.text.now c.args.at) c.in-Whole.is c.in_ok-reading.ensures in
    let f = c.in_ok-term-in-Whole.ensures w.tree w.output in
    (w.tree, w.spelling, f.0, f.1)

refused-as : (s : Setting) (text : List ℕ) (at : ℕ) (r : Reading) (f : DeclaredRefused) → r ≡ Refused f → IsReadTo s text at r → NoTerm s (chars_from text at) × IsFirstFault s text at f
refused-as s text at r f e h = subst (IsReadTo s text at) e h

pub line_and_column-line-requires : goal.line_and_column-line-requires
line_and_column-line-requires c =
    let s : Setting = record { ops = c.args.ops.now; quotes = c.args.quotes } in
    (refused-as s c.args.text.now c.args.at _ c.in-Refused.refused c.in-Refused.is c.in_ok-reading.ensures).1.place

pub returns-in-Refused : goal.returns-in-Refused
returns-in-Refused c =
    let s : Setting = record { ops = c.args.ops.now; quotes = c.args.quotes } in
    let f = refused-as s c.args.text.now c.args.at _ c.in-Refused.refused c.in-Refused.is c.in_ok-reading.ensures in
    (sym c.is_over.ensures ∙ c.if-is_over.false, f.0, (chars_from c.args.text.now c.in-Refused.refused.at, f.1.fault, c.line_and_column-line.ensures))
