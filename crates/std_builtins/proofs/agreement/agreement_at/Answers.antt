use Rattle.std.proofs.Common.{◌≡◌, ◌+◌, ◌-◌, sym, subst, arith}
use Rattle.std_builtins.specs.Agreements.{AgreeFor}
use Rattle.std_builtins.proofs.AgreementLemmas.{known_within, stretch_agrees}
use Rattle.std_builtins.proofs.agreement.agreement_at.Goals as goal

pub loop-at-init : goal.loop-at-init
loop-at-init c =
    let k = c.known.result in
    let just : c.args.place + k - c.args.place ≡ k = omega arith in
    let agree = stretch_agrees c.args.text.now c.args.found.now c.args.place k c.args.stretch c.requires.stretch c.requires.found c.known.ensures in
    record {
      agree = subst (AgreeFor c.args.text.now c.args.place) (sym just) agree;
      begun = omega arith;
      within = known_within c.args.text.now c.args.found.now c.args.place k c.args.stretch c.requires.stretch c.requires.within c.known.ensures;
    }
