use Rattle.au_model.specs.Syntax.Characters.{chars_from}
use Rattle.au_model.specs.Syntax.Words.{word_at_front}
use Rattle.token_scan.proofs.WordLemmas.{found-is}
use Rattle.token_scan.proofs.LayoutLemmas.{layout-before}
use Rattle.token_scan.proofs.scan.next_token.Goals as goal

pub returns-in_ok-kind-in-Ok-clause-token : goal.returns-in_ok-kind-in-Ok-clause-token
returns-in_ok-kind-in-Ok-clause-token c =
    let found = found-is (word_at_front (chars_from c.args.text.now c.in-Ok.start)) c.in_ok-kind-in-Ok.kind (chars_from c.args.text.now c.in_ok-kind-in-Ok.end) c.in_ok-kind-in-Ok.ensures.ok in
    record {
      token = record {
        first = c.in-Ok.ensures.end.1;
        last = c.in_ok-kind-in-Ok.ensures.place.1;
        order = c.in_ok-kind-in-Ok.ensures.place.0;
        word = found.0;
        kind = found.1;
      };
      from = c.in-Ok.ensures.end.0;
      layout = c.in-Ok.ensures.clear;
      before = layout-before c.args.text.now c.args.at c.in-Ok.start c.utf8.text c.requires c.in-Ok.ensures.end.1 c.in-Ok.ensures.end.0 c.in-Ok.ensures.clear;
    }
