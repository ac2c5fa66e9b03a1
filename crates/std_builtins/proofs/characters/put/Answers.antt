use Rattle.std.proofs.Common.{◌∙◌, ap}
use Rattle.std.specs.Str.{chars}
use Rattle.std.proofs.lemmas.Str.{IsUtf8-string_bytes}
use Rattle.token_scan.proofs.QuotedItemLemmas.{chars-put}
use Rattle.std_builtins.proofs.characters.put.Goals as goal

pub returns : goal.returns
returns c = ap chars c.in_ok-push.ensures.bytes ∙ chars-put _ c.args.c (IsUtf8-string_bytes c.args.text.now) c.ranges.c.0
