use Rattle.std.proofs.Common.{◌≡◌, ◌∙◌, ◌+◌, length, take, drop, get_or, sym, ap, subst, arith}
use Rattle.std.proofs.lemmas.List.{length-append}
use Rattle.std_builtins.specs.AskedParts.{AreAskedAgreements, admits_characters}
use Rattle.std_builtins.proofs.AgreementLemmas.{stands}
use Rattle.std_builtins.proofs.asked.Asked.admits_at.Goals as goal

pub returns-else-count-eq0 : goal.returns-else-count-eq0
returns-else-count-eq0 c =
    let cs = c.args.text.now in
    let part = c.in-Some.part.items in
    let there = take c.args.count (drop c.args.start cs) in
    let found = subst (λ o. AreAskedAgreements o cs c.args.found.now) c.in-Some.is c.requires.found in
    let whole : c.args.count ≡ length part = c.if-count-len.true ∙ (c.len.ensures ∙ c.in-Some.part.ok.0) in
    let joined = length-append part cs in
    let here = found.1 (c.args.count + c.args.start) (omega (arith, c.if-count-eq0.false)) (omega (arith, joined, whole, c.requires.within, c.if-count-eq0.false)) in
    stands part cs c.args.start c.args.count whole c.requires.within (get_or c.args.found.now (c.args.count + c.args.start) 0) here
    ∙ (ap (λ o. admits_characters o there) (sym c.in-Some.is) ∙ c.requires.asked there)
