use Rattle.std.proofs.Common.{◌≡◌, true, false, Bool, Option, Some, None, refl, sym, ap, ◌∙◌, subst}
use Rattle.std.specs.Prelude.{is_none, is_some, not, ℕ}
use Rattle.tree_model.specs.EventViews.{place_view}
use Rattle.tree_model.specs.declared.places.AltRef.{AltRef}
use Rattle.clause_compile.specs.declared.event.GateKind.{GateKind}
use Rattle.tree_nodes.specs.declared.state.AltState.{AltState}
use Rattle.tree_nodes.specs.declared.state.AltState.TheVariants as alt
use Rattle.tree_nodes.specs.Rows.{cell_view, gate_view}
use Rattle.tree_nodes.specs.RowViews.{parent_view}
use Rattle.branch_order.specs.declared.sought.Sought.{Sought}
use Rattle.branch_order.specs.declared.sought.Sought.TheVariants as sought
use Rattle.branch_order.specs.LeftOf.{IsFirstOpen}
use Rattle.branch_order.specs.Sought.{test_of, PassesAt}
use Rattle.branch_order.proofs.SoughtLemmas.{passes_never, ready_passes, waiting_fails, waiting_passes, others_fail}
use Rattle.branch_order.proofs.sought.is_sought.Goals as goal

pub returns-in-Ready : goal.returns-in-Ready
returns-in-Ready c =
    let nodes = c.args.nodes.now in
    let a = place_view c.args.at in
    let cell = c.state.ensures ∙ ap (λ (x : AltState). Some (cell_view x)) c.in-Ready.is in
    subst (PassesAt nodes a (test_of c.args.sought)) (sym c.wants_ready.ensures) (ready_passes nodes a c.args.sought cell)

pub returns-in-Ready-sought : goal.returns-in-Ready-sought
returns-in-Ready-sought c =
    let nodes = c.args.nodes.now in
    let a = place_view c.args.at in
    let cell = c.state.ensures ∙ ap (λ (x : AltState). Some (cell_view x)) c.in-Waiting.is in
    subst (λ (x : Sought). PassesAt nodes a (test_of x) false) (sym c.in-Ready-sought.is) (waiting_fails nodes a (gate_view c.in-Waiting.gate) cell)

none_view : (o : Option AltRef) (b : Bool) → not b ≡ is_some o → is_none (parent_view o) ≡ b
none_view None true e = refl
none_view None false e = absurd (cc e)
none_view (Some at) true e = absurd (cc e)
none_view (Some at) false e = refl

pub returns-in-Cleared : goal.returns-in-Cleared
returns-in-Cleared c =
    let nodes = c.args.nodes.now in
    let a = place_view c.args.at in
    let cell = c.state.ensures ∙ ap (λ (x : AltState). Some (cell_view x)) c.in-Waiting.is in
    let first = subst (λ (o : Option ℕ). IsFirstOpen nodes a o (parent_view c.first_open.result)) c.gate_scope.ensures c.first_open.ensures in
    subst (λ (x : Sought). PassesAt nodes a (test_of x) c.is_none.result) (sym c.in-Cleared.is)
    (subst (PassesAt nodes a (test_of sought.Cleared)) (none_view c.first_open.result c.is_none.result (sym c.is_none.ensures))
    (waiting_passes nodes a (gate_view c.in-Waiting.gate) (parent_view c.first_open.result) cell first))

never : (state : AltState) → (state ≡ alt.Ready → ⊥) → ((g : GateKind) → state ≡ alt.Waiting g → ⊥) → passes_never (cell_view state) ≡ true
never alt.Ready h k = absurd (h refl)
never (alt.Taken w) h k = refl
never (alt.Inner n) h k = refl
never (alt.Waiting g) h k = absurd (k g refl)
never alt.Dormant h k = refl
never (alt.Closed x) h k = refl

pub returns-in_default : goal.returns-in_default
returns-in_default c = others_fail c.args.nodes.now (place_view c.args.at) c.args.sought (cell_view c.state.result.now)
    (never c.state.result.now c.in_default.not-Ready c.in_default.not-Waiting) c.state.ensures
