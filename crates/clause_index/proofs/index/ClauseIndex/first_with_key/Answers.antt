use Rattle.std.proofs.Common.{◌≡◌, ◌||◌, None, false, ap₂, sym, subst}
use Rattle.clause_index.specs.Classes.{is_of}
use Rattle.clause_index.specs.Numbers.{first_from}
use Rattle.clause_index.specs.declared.key.Class.TheVariants.{WithKey}
use Rattle.clause_index.specs.Chains.{knows_key}
use Rattle.clause_index.proofs.NamedLemmas.{none_known}
use Rattle.clause_index.proofs.index.ClauseIndex.first_with_key.Goals as goal

pub returns-in-None-2 : goal.returns-in-None-2
returns-in-None-2 c =
    let f = c.args.firsts.now in
    let unknown : knows_key f c.args.key ≡ false = ap₂ (λ a b. a || b) c.if-firsts.false (c.with_key.ensures.none c.in-None.is) in
    subst (λ n. None ≡ first_from 0 (is_of (WithKey c.args.name n c.args.key)) c.args.self.now) c.requires.arguments
    (sym (none_known c.args.self.now c.args.name f c.args.key c.requires.known unknown))
