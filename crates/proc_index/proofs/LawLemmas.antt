-- Terms whose arguments have different keys do not unify.
use Rattle.std.proofs.Common.{◌≡◌, ℕ, zero, suc, ◌<◌, Bool, true, false, not, ◌&&◌, [], ◌∷◌, Option, Some, None, refl, sym, ap, ◌∙◌, arith}
use Rattle.au_term.specs.Term.{Term, VarTerm, IntTerm, AtomTerm, Compound, Terms, end, more, count, argument_count, argument, term_at}
use Rattle.au_model.specs.Terms.Substitutions.{Substitution, apply, apply_all, value_of}
use Rattle.au_model.specs.Terms.Unifier.{unifier}
use Rattle.au_model.specs.Terms.MostGeneral.{IsUnifierAnswer}
use Rattle.au_model.proofs.UnifierRuleLemmas.{count-apply_all}
use Rattle.au_model.proofs.UnifierLemmas.{unifier_answers}
use Rattle.proc_index.specs.declared.key.Key.{Key}
use Rattle.proc_index.specs.declared.key.Key.TheVariants.{Functor}
use Rattle.proc_index.specs.Keys.{key_of, is_any, same_key}
use Rattle.proc_index.specs.Laws.{ToldApart}
use Rattle.proc_index.proofs.KeyLemmas.{same_key_self}

pub term_resolved : (f : ℕ → Term) (ts : Terms) (i : ℕ) → i < count ts → term_at i (apply_all f ts) ≡ apply f (term_at i ts)
term_resolved f end i lt = absurd (omega arith)
term_resolved f (more t ts) zero lt = refl
term_resolved f (more t ts) (suc i) lt = term_resolved f ts i (omega arith)

pub argument_resolved : (f : ℕ → Term) (t : Term) (i : ℕ) → i < argument_count t → argument i (apply f t) ≡ apply f (argument i t)
argument_resolved f (VarTerm n) i lt = absurd (omega arith)
argument_resolved f (IntTerm z) i lt = absurd (omega arith)
argument_resolved f (AtomTerm a) i lt = absurd (omega arith)
argument_resolved f (Compound g ts) i lt = term_resolved f ts i lt

-- a key is kept, whatever the variables stand for
pub kept_key : (f : ℕ → Term) (t : Term) → is_any (key_of t) ≡ false → key_of (apply f t) ≡ key_of t
kept_key f (VarTerm n) h = absurd cc
kept_key f (IntTerm z) h = refl
kept_key f (AtomTerm a) h = refl
kept_key f (Compound g ts) h = ap (Functor g) (count-apply_all f ts)

pub record Apart (k l : Key) : Type 0 where
  pub left : is_any k ≡ false
  pub right : is_any l ≡ false
  pub other : same_key k l ≡ false

pub apart_by : (k l : Key) (a b c : Bool) → is_any k ≡ a → is_any l ≡ b → same_key k l ≡ c → (not a && (not b && not c)) ≡ true → Apart k l
apart_by k l true b c p q r h = absurd cc
apart_by k l false true c p q r h = absurd cc
apart_by k l false false true p q r h = absurd cc
apart_by k l false false false p q r h = record { left = p; right = q; other = r }

no_unifier : (goal head : Term) (i : ℕ) (f : ℕ → Term) → i < argument_count goal → i < argument_count head → Apart (key_of (argument i goal)) (key_of (argument i head)) → apply f goal ≡ apply f head → ⊥
no_unifier goal head i f l m a e =
    let same : apply f (argument i goal) ≡ apply f (argument i head) = sym (argument_resolved f goal i l) ∙ (ap (argument i) e ∙ argument_resolved f head i m) in
    let keys : key_of (argument i goal) ≡ key_of (argument i head) = sym (kept_key f (argument i goal) a.left) ∙ (ap key_of same ∙ kept_key f (argument i head) a.right) in
    let self = same_key_self (key_of (argument i goal)) a.left in
    let other : same_key (key_of (argument i goal)) (key_of (argument i goal)) ≡ false = ap (same_key (key_of (argument i goal))) keys ∙ a.other in cc

none_by : (goal head : Term) (i : ℕ) (o : Option Substitution) → i < argument_count goal → i < argument_count head → Apart (key_of (argument i goal)) (key_of (argument i head)) → IsUnifierAnswer o ((goal, head) ∷ []) → o ≡ None
none_by goal head i None l m a h = refl
none_by goal head i (Some s) l m a h = absurd (no_unifier goal head i (value_of s) l m a h.unifies.0)

pub told_apart : ToldApart
told_apart goal head i l m h =
    none_by goal head i (unifier ((goal, head) ∷ [])) l m
    (apart_by (key_of (argument i goal)) (key_of (argument i head)) (is_any (key_of (argument i goal))) (is_any (key_of (argument i head))) (same_key (key_of (argument i goal)) (key_of (argument i head))) refl refl refl h)
    (unifier_answers ((goal, head) ∷ []))
