use Rattle.std.proofs.Common.{◌≡◌, ℕ, List, [], ◌∷◌, ◌++◌, None, Some, cond, is_ok, length, ap, ◌∙◌, sym, subst, arith}
use Rattle.std.specs.BTreeMap.{get, is_at}
use Rattle.std.specs.Cmp.Lexicographic.{slice_cmp}
use Rattle.std.specs.Ordering.{nat_cmp}
use Rattle.clause_compile.specs.AtomNumbers.{IsNumbering, number_of_name}
use Rattle.clause_compile.proofs.AtomNumberLemmas.{numbered_now, numbering_more}
use Rattle.clause_compile.proofs.atom_numbers.AtomNumbers.add.Goals as goal
use Rattle.clause_compile.proofs.atom_numbers.AtomNumbers.add.Goals.{After-unwrap}

pushed : (c : After-unwrap) → c.push.new.self.items ≡ c.self.inside.names.items ++ c.args.name.now ∷ []
pushed c =
    (c.push.ensures.items ∙ ap (λ r. cond (is_ok r) (c.reserve.new.self.items ++ c.in_ok-own.own ∷ []) c.reserve.new.self.items) c.unwrap.ensures)
    ∙ (ap (λ (ns : List (List ℕ)). ns ++ c.in_ok-own.own ∷ []) c.in_ok-reserve.ensures.items ∙ ap (λ (a : List ℕ). c.self.inside.names.items ++ a ∷ []) c.in_ok-own.ensures)

last : (c : After-unwrap) → c.in-Ok.number ≡ length c.self.inside.names.items
last c = omega (arith, c.in-Ok.ensures, c.len.ensures, c.self.inside.names.ok.0)

pub invariant_of-self-2 : goal.invariant_of-self-2
invariant_of-self-2 c =
    let names = c.self.inside.names.items in
    let numbers = c.self.inside.numbers in
    let name = c.args.name.now in
    let missing : get (slice_cmp nat_cmp) numbers name ≡ None = c.self.invariant.found name ∙ subst (λ ns. number_of_name ns name ≡ None) (sym c.self.view_is) c.requires in
    let updates : (q : List ℕ) → get (slice_cmp nat_cmp) c.insert.new.self q ≡ cond (is_at (slice_cmp nat_cmp name) q) (Some c.in-Ok.number) (get (slice_cmp nat_cmp) numbers q) =
    subst (λ (k : List ℕ). (q : List ℕ) → get (slice_cmp nat_cmp) c.insert.new.self q ≡ cond (is_at (slice_cmp nat_cmp k) q) (Some c.in-Ok.number) (get (slice_cmp nat_cmp) numbers q)) c.in_ok-share.ensures c.in_ok-insert.ensures.updates.0 in
    subst (λ ns. IsNumbering ns c.insert.new.self) (sym (pushed c)) (numbering_more names name c.in-Ok.number numbers c.insert.new.self c.self.invariant missing (last c) updates)

pub returns-clause-ok : goal.returns-clause-ok
returns-clause-ok c = numbered_now c.args.self.now c.push.new.self.items c.args.name.now c.in-Ok.number (last c ∙ ap length c.self.view_is) (pushed c ∙ ap (λ (ns : List (List ℕ)). ns ++ c.args.name.now ∷ []) c.self.view_is)
