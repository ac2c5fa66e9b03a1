-- What trying a clause comes to.
use Rattle.std.proofs.Common.{◌≡◌, ℕ, ◌+◌, Bool, true, false, ◌&&◌, cond, List, [], ◌∷◌, ◌==◌, nat_eq, None, refl, sym, ap, ◌∙◌, arith}
use Rattle.std.specs.Cmp.Lexicographic.{pointwise, same_text, other_text}
use Rattle.std.proofs.lemmas.Bool.Decides.{nat_tests}
use Rattle.au_term.specs.Term.{Term, VarTerm, IntTerm, AtomTerm, Compound, count, argument_count}
use Rattle.au_model.specs.Terms.Substitutions.{apply, apply_all}
use Rattle.au_model.specs.Terms.Unifier.{Dropped, Opened, Clash, rule, pairs, by_rule, unifier}
use Rattle.au_model.specs.Terms.Forms.{same_name, name_of, is_callable}
use Rattle.run_model.specs.Programs.Clauses.{clause_renaming, renamed_head, clause_takes, renamed_goals}
use Rattle.run_model.specs.Machine.Items.{before, goals_at, with_next}
use Rattle.run_model.specs.Machine.Entries.{unified}
use Rattle.run_model.specs.Laws.ClauseLaws.{FirstClauseTried, OthersGiveNothing}
use Rattle.au_model.proofs.UnifierRuleLemmas.{count-apply_all}
use Rattle.au_model.proofs.UnifierLemmas.{unifier-first}

pub first_clause_tried : FirstClauseTried
first_clause_tried c cs goal h f = refl

clash : (a b : Term) → rule a b ≡ Clash → unifier ((a, b) ∷ []) ≡ None
clash a b h = unifier-first a b [] ∙ ap (λ r. by_rule r [] unifier) h

names_differ : (a b : List ℕ) → same_name b a ≡ false → pointwise nat_eq a b ≡ false
names_differ a b h = go (pointwise nat_eq a b) refl
  where
    go : (c : Bool) → pointwise nat_eq a b ≡ c → c ≡ false
    go true e = absurd (other_text b a (sym h) (sym (same_text a b (sym e))))
    go false e = refl

counts_differ : (m n : ℕ) → (n == m) ≡ false → (m == n) ≡ false
counts_differ m n h = grind (arith, nat_tests)

-- a test of both that fails does so turned round
both_differ : (f g : List ℕ) (m n : ℕ) → (same_name g f && n == m) ≡ false → (pointwise nat_eq f g && m == n) ≡ false
both_differ f g m n h = go (same_name g f) refl h
  where
    second : (b c : Bool) → c ≡ false → (b && c) ≡ false
    second true c k = k
    second false c k = refl

    first : (b c : Bool) → b ≡ false → (b && c) ≡ false
    first true c k = cc
    first false c k = refl

    go : (b : Bool) → same_name g f ≡ b → (b && n == m) ≡ false → (pointwise nat_eq f g && m == n) ≡ false
    go true e k = second (pointwise nat_eq f g) (m == n) (counts_differ m n k)
    go false e k = first (pointwise nat_eq f g) (m == n) (names_differ f g e)

no_front : (b : Bool) → (b && true) ≡ false → b ≡ false
no_front true h = cc
no_front false h = refl

other_rule : (goal head : Term) (r : ℕ → Term) → is_callable goal ≡ true → is_callable head ≡ true → (same_name (name_of head) (name_of goal) && argument_count head == argument_count goal) ≡ false → rule goal (apply r head) ≡ Clash
other_rule (VarTerm n) head r g h e = cc
other_rule (IntTerm z) head r g h e = cc
other_rule (AtomTerm a) (VarTerm n) r g h e = cc
other_rule (AtomTerm a) (IntTerm z) r g h e = cc
other_rule (AtomTerm a) (AtomTerm b) r g h e = ap (λ c. cond c Dropped Clash) (names_differ a b (no_front (same_name b a) e))
other_rule (AtomTerm a) (Compound f us) r g h e = refl
other_rule (Compound f ts) (VarTerm n) r g h e = cc
other_rule (Compound f ts) (IntTerm z) r g h e = cc
other_rule (Compound f ts) (AtomTerm b) r g h e = refl
other_rule (Compound f ts) (Compound k us) r g h e =
    let renamed = apply_all r us in
    let differ : (pointwise nat_eq f k && count ts == count renamed) ≡ false = both_differ f k (count ts) (count renamed) (ap (λ n. same_name k f && n == count ts) (count-apply_all r us) ∙ e) in
    ap (λ c. cond c (Opened (pairs ts renamed)) Clash) differ

pub others_give_nothing : OthersGiveNothing
others_give_nothing c goal h f g k e =
    let none : unifier ((goal, renamed_head c f.next) ∷ []) ≡ None = clash goal (renamed_head c f.next) (other_rule goal c.head (clause_renaming c f.next) g k e) in
    ap (λ o. unified o (with_next (f.next + clause_takes c) (before (goals_at h (renamed_goals c f.next)) f))) none
