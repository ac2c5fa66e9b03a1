use Rattle.std.proofs.Common.{◌∙◌, ◌-◌, length, slice_get, sym, ap}
use Rattle.std.specs.Option.{option_copied}
use Rattle.term_reader.proofs.OperatorReductionLemmas.{bound-some, bound-none}
use Rattle.term_reader.proofs.state.State.bound.Goals as goal

pub returns-in-Some : goal.returns-in-Some
returns-in-Some c = λ k e.
    let items = c.args.self.now.frames.items in
    let h = sym (ap (λ xs. slice_get xs (length xs - 1)) c.deref.ensures.value) ∙ (sym c.last.ensures.value ∙ ap option_copied c.in-Some.is) in
    c.bound.ensures ∙ bound-some items k c.in-Some.frame.now e h

pub returns-in-None : goal.returns-in-None
returns-in-None c = λ k e.
    let items = c.args.self.now.frames.items in
    let h = sym (ap (λ xs. slice_get xs (length xs - 1)) c.deref.ensures.value) ∙ (sym c.last.ensures.value ∙ ap option_copied c.in-None.is) in
    bound-none items k e h
