use Rattle.std.proofs.Common.{drop}
use Rattle.std.proofs.lemmas.Str.{IsCharBoundary-past_char, IsUtf8-drop, chars_past_char, drop_past_char}
use Rattle.token_scan.proofs.RunLemmas.{begins}
use Rattle.token_scan.proofs.cursor.step.Goals as goal

pub returns-clause-boundary : goal.returns-clause-boundary
returns-clause-boundary c =
    let u = IsUtf8-drop c.args.text.now c.args.at c.utf8.text c.requires.boundary in
    let b = begins (drop c.args.at c.args.text.now) c.args.c u c.requires.there in
    rw c.len_utf8.ensures.value (IsCharBoundary-past_char c.args.text.now b.rest c.args.at c.args.c c.requires.boundary.0 u b.is)

pub returns-clause-rest : goal.returns-clause-rest
returns-clause-rest c =
    let u = IsUtf8-drop c.args.text.now c.args.at c.utf8.text c.requires.boundary in
    let b = begins (drop c.args.at c.args.text.now) c.args.c u c.requires.there in
    rw c.len_utf8.ensures.value (rw (drop_past_char c.args.text.now b.rest c.args.at c.args.c b.is) (chars_past_char _ b.rest c.args.c u b.is))
