-- What is deferred, put into its place: goals in front, bindings, and all of it.
use Rattle.std.proofs.Common.{◌≡◌, ℕ, suc, List, [], ◌∷◌, ◌++◌, length, map, take, drop, refl, sym, ap, ap₂, ◌∙◌}
use Rattle.std.proofs.Math.Seq.{take-append_seam, drop-append_seam}
use Rattle.std.proofs.lemmas.List.{append-nil, map-append, drop-map, take-map}
use Rattle.std.specs.Prelude.{codes}
use Rattle.au_term.specs.Term.{Term, AtomTerm}
use Rattle.au_model.specs.Terms.Named.{NamedTerm}
use Rattle.au_model.specs.Terms.Substitutions.{Substitution}
use Rattle.run_model.specs.Machine.Items.{Item, GoalItem, CatchMark, CollectMark, RemovalItem, Continuation, resolve_item, resolve_named, resolve_continuation, goals_at, without_marks, before}
use Rattle.run_model.specs.Machine.Heights.{test_items}
use Rattle.region_floor.specs.Deferred.{Deferred, with_term, items_now, deferred_now, joined_items, joined_continuation, carried_term, all_deferred, deferring, IsBoundNow}

-- goals in front stay there
pub goals-joined : (now : List (Item ℕ)) (h : ℕ) (gs : List Term) (items : List (Item ℕ))
    → joined_items now (goals_at h gs ++ items) ≡ goals_at h gs ++ joined_items now items
goals-joined now h [] items = refl
goals-joined now h (g ∷ gs) items = ap (λ l. GoalItem g h ∷ l) (goals-joined now h gs items)

pub test-joined : (now : List (Item ℕ)) (n h : ℕ) (condition thens : List Term) (items : List (Item ℕ))
    → joined_items now (test_items n h condition thens ++ items) ≡ test_items n h condition thens ++ joined_items now items
test-joined now n h condition thens items = go condition
  where
    go : (cs : List Term) → joined_items now ((goals_at (suc n) cs ++ GoalItem (AtomTerm (codes "!")) n ∷ goals_at h thens) ++ items)
        ≡ (goals_at (suc n) cs ++ GoalItem (AtomTerm (codes "!")) n ∷ goals_at h thens) ++ joined_items now items
    go [] = ap (λ l. GoalItem (AtomTerm (codes "!")) n ∷ l) (goals-joined now h thens items)
    go (c ∷ cs) = ap (λ l. GoalItem c (suc n) ∷ l) (go cs)

pub before-joined : (d : Deferred) (h : ℕ) (gs : List Term) (f : Continuation ℕ)
    → joined_continuation d (before (goals_at h gs) f) ≡ before (goals_at h gs) (joined_continuation d f)
before-joined d h gs f =
    ap (λ l. let c : Continuation ℕ = record { items = l; named = take d.named f.named; next = f.next } in c)
    (goals-joined (deferred_now d f) h gs f.items)

-- bindings reach what is deferred
term-resolved : (s : Substitution) (i : Item ℕ) (v : NamedTerm) → resolve_item s (with_term i v.term) ≡ with_term i (resolve_named s v).term
term-resolved s (GoalItem t h) v = refl
term-resolved s (CatchMark h) v = refl
term-resolved s (CollectMark t h) v = refl
term-resolved s (RemovalItem n) v = refl

items-resolved : (s : Substitution) (items : List (Item ℕ)) (vs : List NamedTerm)
    → map (resolve_item s) (items_now items vs) ≡ items_now items (map (resolve_named s) vs)
items-resolved s [] vs = refl
items-resolved s (i ∷ items) [] = refl
items-resolved s (i ∷ items) (v ∷ vs) = ap₂ ◌∷◌ (term-resolved s i v) (items-resolved s items vs)

now-resolved : (s : Substitution) (now items : List (Item ℕ))
    → map (resolve_item s) (joined_items now items) ≡ joined_items (map (resolve_item s) now) (map (resolve_item s) items)
now-resolved s now [] = refl
now-resolved s now (GoalItem t h ∷ items) = ap (λ l. resolve_item s (GoalItem t h) ∷ l) (now-resolved s now items)
now-resolved s now (CatchMark h ∷ items) = ap (λ l. CatchMark h ∷ l) (now-resolved s now items)
now-resolved s now (CollectMark t h ∷ items) = ap (λ l. resolve_item s (CollectMark t h) ∷ l) (now-resolved s now items)
now-resolved s now (RemovalItem n ∷ items) =
    map-append (resolve_item s) (drop n now) (joined_items now items)
    ∙ ap₂ ◌++◌ (sym (drop-map (resolve_item s) n now)) (now-resolved s now items)

pub joined-resolved : (s : Substitution) (d : Deferred) (f : Continuation ℕ)
    → resolve_continuation s (joined_continuation d f) ≡ joined_continuation d (resolve_continuation s f)
joined-resolved s d f =
    let now : map (resolve_item s) (deferred_now d f) ≡ deferred_now d (resolve_continuation s f) =
    items-resolved s d.items (drop d.named f.named) ∙ ap (items_now d.items) (sym (drop-map (resolve_named s) d.named f.named)) in
    ap₂ (λ l vs. let c : Continuation ℕ = record { items = l; named = vs; next = f.next } in c)
    (now-resolved s (deferred_now d f) f.items ∙ ap (λ l. joined_items l (map (resolve_item s) f.items)) now)
    (sym (take-map (resolve_named s) d.named f.named))

-- all of it
all_items : (items : List (Item ℕ)) → items_now items (map carried_term items) ≡ items
all_items [] = refl
all_items (GoalItem t h ∷ items) = ap (λ l. GoalItem t h ∷ l) (all_items items)
all_items (CatchMark h ∷ items) = ap (λ l. CatchMark h ∷ l) (all_items items)
all_items (CollectMark t h ∷ items) = ap (λ l. CollectMark t h ∷ l) (all_items items)
all_items (RemovalItem n ∷ items) = ap (λ l. RemovalItem n ∷ l) (all_items items)

pub all_is_left : (f : Continuation ℕ) → joined_continuation (all_deferred f) (deferring f) ≡ f
all_is_left f =
    ap₂ (λ l vs. let c : Continuation ℕ = record { items = l; named = vs; next = f.next } in c)
    (append-nil (deferred_now (all_deferred f) (deferring f))
    ∙ ap (items_now f.items) (drop-append_seam f.named (map carried_term f.items)) ∙ all_items f.items)
    (take-append_seam f.named (map carried_term f.items))

pub bound_now : IsBoundNow
bound_now s start f e =
    let carried = map carried_term start.items in
    ap (λ vs. items_now start.items (drop (length start.named) vs)) e
    ∙ ap (items_now start.items) (drop-map (resolve_named s) (length start.named) (start.named ++ carried)
    ∙ ap (map (resolve_named s)) (drop-append_seam start.named carried))
    ∙ sym (items-resolved s start.items carried) ∙ ap (map (resolve_item s)) (all_items start.items)

-- the catch marks in front are left out
pub marks-joined : (now items : List (Item ℕ))
    → without_marks (joined_items now items) ≡ without_marks (joined_items now (without_marks items))
marks-joined now [] = refl
marks-joined now (CatchMark h ∷ items) = marks-joined now items
marks-joined now (GoalItem t h ∷ items) = refl
marks-joined now (CollectMark t h ∷ items) = refl
marks-joined now (RemovalItem n ∷ items) = refl
