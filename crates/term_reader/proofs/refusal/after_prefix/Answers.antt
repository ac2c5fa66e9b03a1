use Rattle.std.proofs.Common.{◌∙◌, sym}
use Rattle.term_reader.specs.PrimaryView.{setting_of}
use Rattle.term_reader.proofs.PrefixRefusalLemmas.{joined-stuck, other-stuck}
use Rattle.term_reader.proofs.refusal.after_prefix.Goals as goal

pub returns-in-Some : goal.returns-in-Some
returns-in-Some c = λ start at k e h.
    c.refusal_at.ensures start (joined-stuck c.args.source start k at c.args.end h c.in_ok-next.next c.in-Some.after (sym (c.joined_end.ensures.end k e) ∙ c.in-Some.is) c.in_ok-next.ensures.scan)

pub returns : goal.returns
returns c = λ start at k e h.
    c.refusal_of.ensures (setting_of c.args.source) start c.args.end c.in_ok-next.ensures.scan c.in_ok-next.ensures.place
    (other-stuck c.args.source start k at c.args.end h c.in_ok-next.next (sym (c.joined_end.ensures.end k e) ∙ c.in_default.is) c.in_ok-next.ensures.scan)
