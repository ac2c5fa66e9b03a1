-- What a settled branch reads as, where that is a plain entry.
use Rattle.std.proofs.Common.{◌≡◌, ℕ, ◌==◌, Bool, true, false, cond, List, [], ◌∷◌, refl, sym, ap, ◌∙◌}
use Rattle.au_model.specs.Terms.Substitutions.{Substitution}
use Rattle.clause_compile.specs.declared.item.Item.{Item as BranchItem}
use Rattle.clause_compile.specs.declared.item.Item.TheVariants.{Goal, CatchEnd, Collect, Remove, End}
use Rattle.run_model.specs.Machine.Entries.{Entry, PlainEntry}
use Rattle.run_model.specs.Machine.Items.{Continuation, resolve_continuation}
use Rattle.run_model.specs.Programs.Jobs.{Job}
use Rattle.tree_nodes.specs.Bodies.{BodyKind, ChoiceBody, ConditionBody, CatchBody, FindallBody, QueryBody, Branching}
use Rattle.branch_reading.specs.BranchSegments.{bound_by, segments_on}
use Rattle.branch_reading.specs.Readings.{continuation_on, entry_beside, entry_if, entry_meant, entry_on, guard_meant, or_nothing, reading}
use Rattle.branch_reading.specs.SettledWays.{is_way_settled, items_on}

plain_meant : (items : List BranchItem) (e : Entry) (f : Continuation ℕ) → entry_meant items e ≡ PlainEntry f → e ≡ PlainEntry f
plain_meant [] e f h = h
plain_meant (Goal term cut ∷ items) e f h = h
plain_meant (CatchEnd scope ∷ items) e f h = h
plain_meant (Collect template scope ∷ items) e f h = h
plain_meant (Remove id ∷ items) e f h = h
plain_meant (End ball ∷ []) e f h = absurd cc
plain_meant (End ball ∷ i ∷ items) e f h = h

plain_guard : (kind : BodyKind) (s : Substitution) (g f : Continuation ℕ) → guard_meant kind s g ≡ PlainEntry f → g ≡ f
plain_guard ChoiceBody s g f h = cc
plain_guard ConditionBody s g f h = cc
plain_guard (CatchBody catcher recovery) s g f h = absurd cc
plain_guard (FindallBody results list) s g f h = absurd cc
plain_guard QueryBody s g f h = cc

plain_beside : (second : Bool) (kind : BodyKind) (s : Substitution) (g f : Continuation ℕ) → cond second (guard_meant kind s g) (PlainEntry g) ≡ PlainEntry f → g ≡ f
plain_beside true kind s g f h = plain_guard kind s g f h
plain_beside false kind s g f h = cc

-- what is left to do on it, with what is bound there
abbrev pub bound_continuation : Job → Branching → Continuation ℕ
bound_continuation job way = resolve_continuation (or_nothing (bound_by (segments_on way))) (continuation_on job way)

pub plain_reading : (job : Job) (way : Branching) (f : Continuation ℕ) → is_way_settled way ≡ true → reading job way ≡ PlainEntry f → bound_continuation job way ≡ f
plain_reading job [] f settled h = absurd cc
plain_reading job ((b, i) ∷ up) f settled h =
    let whole : Branching = (b, i) ∷ up in
    let meant = plain_meant (items_on whole) (entry_if (is_way_settled whole) (entry_on job whole)) f h in
    plain_beside (i == 1) b.kind (or_nothing (bound_by (segments_on whole))) (bound_continuation job whole) f (sym (ap (λ x. entry_if x (entry_on job whole)) settled) ∙ meant)
