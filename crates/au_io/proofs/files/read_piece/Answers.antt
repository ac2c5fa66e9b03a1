use Rattle.std.proofs.Common.{◌≡◌, ◌++◌, ◌+◌, ◌≤◌, length, take, ap, ◌∙◌, sym, subst, arith, vec_len, length-drop}
use Rattle.std.specs.Io.KnownBytes.{Consumes}
use Rattle.au_io.proofs.PieceLemmas.{own_part, read_in, front_is, part_is, rest_from}
use Rattle.au_io.proofs.files.read_piece.Given as given
use Rattle.au_io.proofs.files.read_piece.Goals as goal
use Rattle.au_io.proofs.files.read_piece.Goals.{After-truncate}

read : (g : given.Over) (c : After-truncate g) → c.truncate.new.self.items ≡ c.args.bytes.now.items ++ take c.in-Ok.count c.read.new.buf
read g c =
    let xs = c.args.bytes.now.items in
    let n = c.len-length.result in
    let made = c.deref_mut.result.now in
    let e : length xs ≡ n = omega (arith, c.args.bytes.now.ok.0, c.len-length.ensures) in
    let own : take n made ≡ xs = ap (take n) (c.deref_mut.ensures.value ∙ c.in_ok-resize.ensures.items) ∙ own_part xs _ n c.args.room e in
    let few : c.in-Ok.count ≤ length c.read.new.buf = c.in-Ok.ensures.bound.0 in
    let within : n + c.in-Ok.count ≤ c.resize.new.self.len = omega (arith, few, c.read.auto.buf, ap length (rest_from made n), length-drop n made, c.deref_mut.ensures.len, c.in_ok-resize.ensures.len) in
    c.truncate.ensures.items ∙ read_in xs made c.read.new.buf _ _ n c.resize.new.self.len c.in-Ok.count e own few within

pub returns-in-Ok-clause-front : goal.returns-in-Ok-clause-front
returns-in-Ok-clause-front g c = front_is c.args.bytes.now.items c.truncate.new.self.items _ (vec_len c.args.bytes.now) (sym c.args.bytes.now.ok.0) (read g c)

pub returns-in-Ok-clause-taken : goal.returns-in-Ok-clause-taken
returns-in-Ok-clause-taken g c =
    subst (Consumes (g.F.Read.remaining c.args.file.now) (g.F.Read.remaining c.read.new.self)) (sym (part_is c.args.bytes.now.items c.truncate.new.self.items _ (vec_len c.args.bytes.now) (sym c.args.bytes.now.ok.0) (read g c))) c.in-Ok.ensures.bytes.0
