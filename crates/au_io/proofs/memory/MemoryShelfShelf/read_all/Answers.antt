use Rattle.std.proofs.Common.{◌≡◌, ◌∙◌, true, sym, rules}
use Rattle.std.proofs.lemmas.Bool.{false≢true}
use Rattle.au_io.specs.MemoryFiles.{is_fault}
use Rattle.au_io.proofs.memory.MemoryShelfShelf.read_all.Goals as goal

pub returns-in_default-clause-told_long : goal.returns-in_default-clause-told_long
returns-in_default-clause-told_long c =
    let yes : is_fault c.args.self.now c.args.name.now ≡ true = search rules in
    λ no. absurd (false≢true (sym no ∙ yes))
