use Rattle.std.proofs.Common.{◌≡◌, ◌∙◌, cond, List, ℕ, [], ◌∷◌, ◌++◌, map, Some, ap, ap₂}
use Rattle.std.specs.BTreeMap.{is_at}
use Rattle.std.specs.Cmp.Lexicographic.{slice_cmp}
use Rattle.std.specs.Ordering.{nat_cmp}
use Rattle.std.specs.Str.{chars}
use Rattle.std.proofs.lemmas.List.{map-append}
use Rattle.au_model.specs.Terms.Named.{NamedVariable}
use Rattle.au_model.specs.Syntax.VariableNumbers.{number_of}
use Rattle.au_model.specs.Terms.Named.{variable_meant}
use Rattle.term_reader.proofs.VariableNumberLemmas.{more-named, below-more}
use Rattle.term_reader.proofs.variables.Variables.add.Goals as goal

pub returns : goal.returns
returns c = λ vs h none.
    let d = c.in_ok-number.ensures vs h in
    let n = c.args.name in
    let k = c.in_ok-number.number in
    let own = ap chars c.in_ok-text.ensures.ok ∙ c.text.ensures in
    let one : variable_meant (record { text = c.in_ok-text.text; number = k }) ≡ record { name = n; number = vs.next } =
    ap₂ (λ (x : List ℕ) (y : ℕ). let out : NamedVariable = record { name = x; number = y } in out) own d.0 in (
      d.0,
      d.1,
      record {
        named = ap (map variable_meant) c.in_ok-push.ensures.items ∙ (map-append variable_meant _ _ ∙ ap₂ (λ xs x. xs ++ x ∷ []) d.2.named one);
        next = d.2.next;
        low = d.2.low;
        found = λ q. c.in_ok-insert.ensures.updates.0 q
            ∙ (ap (λ o. cond (is_at (slice_cmp nat_cmp n) q) (Some k) o) (d.2.found q)
            ∙ (ap (λ m. cond (is_at (slice_cmp nat_cmp n) q) (Some m) (number_of vs.named q)) d.0 ∙ more-named vs.named n vs.next none q));
        below = below-more vs.named n vs.next h.below;
      },
    )
