-- A step by the top entry, and a run step by step.
use Rattle.std.proofs.Common.{◌≡◌, ℕ, zero, suc, ◌+◌, List, [], ◌∷◌, Option, refl, sym, ap, ◌∙◌, subst, arith}
use Rattle.au_term.specs.Term.{Term}
use Rattle.run_model.specs.Programs.Clauses.{Clause}
use Rattle.run_model.specs.Machine.Items.{Continuation}
use Rattle.run_model.specs.Machine.Entries.{Entry, PlainEntry, EndEntry}
use Rattle.run_model.specs.Programs.Jobs.{Job}
use Rattle.run_model.specs.Machine.States.{State, item_taken, entry_taken, query_ended, step, with_free_steps, opening}
use Rattle.run_model.specs.Machine.Runs.{seq}

pub step_is : (clauses : List Clause) (st : State) → step clauses st ≡ entry_taken clauses st.entries st
unfolding step
step_is clauses st = refl

-- by what is on top
pub plain_step : (clauses : List Clause) (st : State) (f : Continuation ℕ) (es : List Entry) → st.entries ≡ PlainEntry f ∷ es → step clauses st ≡ item_taken clauses f.items f es st
plain_step clauses st f es h = step_is clauses st ∙ ap (λ is. entry_taken clauses is st) h

pub end_step : (clauses : List Clause) (st : State) (b : Option Term) (es : List Entry) → st.entries ≡ EndEntry b ∷ es → step clauses st ≡ query_ended b st
end_step clauses st b es h = step_is clauses st ∙ ap (λ is. entry_taken clauses is st) h

pub no_step : (clauses : List Clause) (st : State) → st.entries ≡ [] → step clauses st ≡ st
no_step clauses st h = step_is clauses st ∙ ap (λ is. entry_taken clauses is st) h

pub seq-zero : (job : Job) → seq job 0 ≡ with_free_steps (opening job)
unfolding seq
seq-zero job = refl

pub seq-suc : (job : Job) (n : ℕ) → seq job (suc n) ≡ with_free_steps (step job.clauses (seq job n))
unfolding seq
seq-suc job n = refl

pub seq-next : (job : Job) (n : ℕ) → seq job (n + 1) ≡ with_free_steps (step job.clauses (seq job n))
seq-next job n = let one : n + 1 ≡ suc n = omega arith in ap (seq job) one ∙ seq-suc job n

-- what holds at the opening and stays through each inference holds all along
pub along : (P : State → Type 0) (job : Job) → P (with_free_steps (opening job)) → ((st : State) → P st → P (with_free_steps (step job.clauses st))) → (n : ℕ) → P (seq job n)
along P job first next zero = subst P (sym (seq-zero job)) first
along P job first next (suc n) = subst P (sym (seq-suc job n)) (next (seq job n) (along P job first next n))
