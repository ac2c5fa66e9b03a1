-- Terms that the key of a first argument tells apart.
use Rattle.std.proofs.Common.{◌≡◌, ℕ, Bool, true, false, not, ◌&&◌, ◌==◌, [], ◌∷◌, None, refl, ap, ◌∙◌, arith}
use Rattle.au_term.specs.Term.{Term, VarTerm, IntTerm, AtomTerm, Compound, Terms, end, more, count, arguments}
use Rattle.au_model.specs.Terms.Forms.{same_name}
use Rattle.au_model.specs.Terms.Substitutions.{apply}
use Rattle.au_model.specs.Terms.Unifier.{unifier}
use Rattle.au_model.proofs.UnifierRuleLemmas.{count-apply_all}
use Rattle.proc_index.specs.declared.key.Key.TheVariants.{Any}
use Rattle.proc_index.specs.Keys.{first_has, has_key, head_key, key_of, may_match}
use Rattle.proc_index.specs.Laws.{tell_apart}
use Rattle.proc_index.proofs.KeyLemmas.{any_match}
use Rattle.proc_index.proofs.LawLemmas.{told_apart}

-- terms of other keys are told apart, whatever the variables of one stand for
other_key : (t u : Term) (r : ℕ → Term) → has_key (key_of t) u ≡ false → tell_apart (key_of t) (key_of (apply r u)) ≡ true
other_key (VarTerm n) u r h = absurd cc
other_key (IntTerm z) (VarTerm n) r h = absurd cc
other_key (IntTerm z) (IntTerm y) r h = ap not h
other_key (IntTerm z) (AtomTerm b) r h = refl
other_key (IntTerm z) (Compound g us) r h = refl
other_key (AtomTerm a) (VarTerm n) r h = absurd cc
other_key (AtomTerm a) (IntTerm y) r h = refl
other_key (AtomTerm a) (AtomTerm b) r h = ap not h
other_key (AtomTerm a) (Compound g us) r h = refl
other_key (Compound f ts) (VarTerm n) r h = absurd cc
other_key (Compound f ts) (IntTerm y) r h = refl
other_key (Compound f ts) (AtomTerm b) r h = refl
other_key (Compound f ts) (Compound g us) r h = ap not (ap (λ n. same_name f g && count ts == n) (count-apply_all r us) ∙ h)

pub any_fits : {A : Type 0} (ts : Terms) → first_has Any ts ≡ false → A
any_fits ts h = let k = any_match ts in absurd cc

-- a head whose first argument has another key
pub key_clash : (goal head : Term) (r : ℕ → Term) → may_match (head_key goal) head ≡ false → unifier ((goal, apply r head) ∷ []) ≡ None
key_clash (VarTerm n) head r h = any_fits (arguments head) h
key_clash (IntTerm z) head r h = any_fits (arguments head) h
key_clash (AtomTerm a) head r h = any_fits (arguments head) h
key_clash (Compound f end) head r h = any_fits (arguments head) h
key_clash (Compound f (more t ts)) (VarTerm n) r h = absurd cc
key_clash (Compound f (more t ts)) (IntTerm z) r h = absurd cc
key_clash (Compound f (more t ts)) (AtomTerm a) r h = absurd cc
key_clash (Compound f (more t ts)) (Compound g end) r h = absurd cc
key_clash (Compound f (more t ts)) (Compound g (more u us)) r h =
    told_apart (Compound f (more t ts)) (apply r (Compound g (more u us))) 0 (omega arith) (omega arith) (other_key t u r h)
