-- Bodies made of choice points, the oldest first.
use Rattle.std.proofs.Common.{◌≡◌, ℕ, ◌+◌, ◌≤◌, true, List, [], ◌∷◌, ◌++◌, length, map, refl, sym, ap, ◌∙◌, subst, arith}
use Rattle.std.proofs.lemmas.List.{map-append}
use Rattle.au_term.specs.declared.segment.Binding.{Binding}
use Rattle.au_model.specs.Terms.Substitutions.{Substitution}
use Rattle.clause_compile.specs.declared.event.Branch.{Branch}
use Rattle.run_model.specs.Machine.Entries.{Entry}
use Rattle.tree_nodes.specs.Bodies.{BodyKind, ChoiceBody, Body, guards_kind}
use Rattle.branch_bindings.specs.Extensions.{WrittenBindings, ExtendsBy}
use Rattle.branch_bindings.specs.ExtensionLaws.{StandsForOlder, IsFinal}
use Rattle.branch_bindings.proofs.ExtensionLemmas.{extensions_compose, extensions_stay_older, extensions_are_final, nothing_extends}
use Rattle.branch_shapes.specs.Groups.{Groups, nonempty_groups, or_alone}
use Rattle.branch_shapes.specs.ExtendedWays.{number_after, LeadsOn, IsNoQuery}
use Rattle.branch_shapes.specs.MeantBodies.{AlternativesMean}
use Rattle.branch_shapes.specs.MeantBranches.{Placement, GoalsMean, BranchMeans}
use Rattle.branch_shapes.specs.ShapedBodies.{LeftChoice, segment_at, leading_branch, with_earlier, Shaped, shaped_choice, if_left, shaped_from, or_single_body}
use Rattle.branch_shapes.specs.ShapedBodies.{ChoiceStands, ChoicesStand, ShapedBodiesMean}
use Rattle.branch_shapes.specs.ShownBodies.{BodyShows, LeadsDown, BodiesShow, AllShow}
use Rattle.branch_shapes.proofs.MeantBodyLemmas.{meant_bodies_show}

abbrev written : List Binding → WrittenBindings
written bs = map (λ b. (b.var, b.value)) bs

-- bindings and then others
both_extend : (a b c : Substitution) (n m : ℕ) (xs ys : List Binding) → StandsForOlder a → ExtendsBy a b n (written xs) → ExtendsBy b c m (written ys) → n ≤ m
    → ExtendsBy a c m (written (xs ++ ys))
both_extend a b c n m xs ys older h k le =
    subst (ExtendsBy a c m) (sym (map-append (λ b. (b.var, b.value)) xs ys)) (extensions_compose a b c n m (written xs) (written ys) older h k le)

none_left : (n : ℕ) → n + 0 ≡ n
none_left n = omega arith

-- a segment that takes no variable
leads_at : (a b : Substitution) (next n : ℕ) (bs : List Binding) → next ≤ n → ExtendsBy a b n (written bs) → LeadsOn a b next (segment_at n bs)
leads_at a b next n bs le h = record { numbers = omega arith; extends = subst (λ m. ExtendsBy a b m (written bs)) (sym (none_left n)) h }

-- goals at the first branch are the same at each kind of body
module _ (p : Placement) where
  at_kind : (kind : BodyKind) (before : Substitution) (next : ℕ) (branch : Branch) (e : Entry) → GoalsMean p before next ChoiceBody 0 branch e
      → GoalsMean p before next kind 0 branch e
  at_kind kind before next branch e h = record {
    now = h.now;
    items = h.items;
    leads = h.leads;
    below = h.below;
    over = h.over;
    goals = h.goals;
    means = h.means;
  }

  -- what was bound before the branch's own
  with_more : (a before : Substitution) (next n : ℕ) (pending : List Binding) (branch : Branch) (e : Entry) → StandsForOlder a → next ≤ n
      → ExtendsBy a before n (written pending) → GoalsMean p before n ChoiceBody 0 branch e → GoalsMean p a next ChoiceBody 0 (with_earlier pending branch) e
  with_more a before next n pending branch e older le h k =
      let numbers = k.leads.numbers in
      record {
        now = k.now;
        items = k.items;
        leads = record {
          numbers = omega (arith, numbers);
          extends = both_extend a before k.now n (number_after branch.segment) pending branch.segment.bindings older h k.leads.extends numbers;
        };
        below = k.below;
        over = k.over;
        goals = k.goals;
        means = k.means;
      }

  -- what is shaped for the groups that are not empty
  abbrev ShapesAs : Substitution → ℕ → Branch → List Body → Groups → Entry → Type 0
  ShapesAs a next first [] [] e = GoalsMean p a next ChoiceBody 0 first e
  ShapesAs a next first [] (g ∷ gs) e = ⊥
  ShapesAs a next first (b ∷ bodies) [] e = ⊥
  ShapesAs a next first (b ∷ bodies) (g ∷ gs) e = (first ≡ leading_branch next) × BodiesShow (BranchMeans p) e next a b bodies g gs

  -- a body of a choice point that has an alternative
  module _ (a came : Substitution) (next : ℕ) (pending : List Binding) (c : LeftChoice) (g : List Entry) (e : Entry) (first : Branch)
      (no_query : IsNoQuery c.kind) (guard : guards_kind c.kind ≡ true → length g ≡ 1) (le : next ≤ c.next)
      (h : ExtendsBy a came c.next (written (pending ++ c.below))) (further : AlternativesMean p came c.next c.kind 1 c.branches g) (final : IsFinal came) where
    abbrev body : Body
    body = record { segment = segment_at c.next (pending ++ c.below); branches = first ∷ c.branches; kind = c.kind }

    body_shows : BodyShows (BranchMeans p) next a came body g
    body_shows = meant_bodies_show p next a came body g (record {
      no_query = no_query;
      guard = guard;
      first = first;
      others = c.branches;
      branches = refl;
      leads = leads_at a came next c.next (pending ++ c.below) le h;
      further = subst (λ n. AlternativesMean p came n c.kind 1 c.branches g) (sym (none_left c.next)) further;
    })

    first_means : GoalsMean p came c.next ChoiceBody 0 first e → BranchMeans p came body 0 e
    first_means k = record {
      branch = first;
      is = refl;
      goals = subst (λ n. GoalsMean p came n c.kind 0 first e) (sym (none_left c.next)) (at_kind c.kind came c.next first e k);
    }

    leads_down : first ≡ leading_branch c.next → LeadsDown came body
    leads_down same = record {
      now = came;
      branch = first;
      is = refl;
      leads = subst (λ x. LeadsOn came came (number_after body.segment) x.segment) (sym same)
          (leads_at came came (number_after body.segment) c.next [] (omega arith) (nothing_extends came c.next final));
    }

    number_down : (same : first ≡ leading_branch c.next) → c.next ≡ number_after first.segment
    number_down same = sym (ap (λ x. number_after x.segment) same ∙ none_left c.next)

    shapes : (bodies : List Body) (gs : Groups) → ShapesAs came c.next first bodies gs e → BodiesShow (BranchMeans p) e next a body bodies g gs
    unfolding leads_down
    shapes [] [] k = (came, (body_shows, first_means k))
    shapes [] (x ∷ gs) k = absurd k
    shapes (b ∷ bodies) [] k = absurd k
    shapes (b ∷ bodies) (x ∷ gs) k =
        (came, (leads_down k.0, (body_shows, subst (λ n. BodiesShow (BranchMeans p) e n came b bodies x gs) (number_down k.0) k.1)))

  module _ (a before : Substitution) (next n : ℕ) (pending : List Binding) (older : StandsForOlder a) (le : next ≤ n)
      (h : ExtendsBy a before n (written pending)) where
    came_extends : (came : Substitution) (c : LeftChoice) (g : List Entry) → ChoiceStands p before came n c g
        → ExtendsBy a came c.next (written (pending ++ c.below))
    came_extends came c g k = both_extend a before came n c.next pending c.below older h k.below k.more

  either_shape : (a came : Substitution) (next n : ℕ) (kind : BodyKind) (e : Entry) (branches : List Branch) (es : List Entry) (gs : Groups)
      (none some : Shaped)
      → AlternativesMean p came n kind 1 branches es → ShapesAs a next none.first none.bodies (nonempty_groups gs) e
      → ShapesAs a next some.first some.bodies (es ∷ nonempty_groups gs) e
      → ShapesAs a next (if_left branches none some).first (if_left branches none some).bodies (nonempty_groups (es ∷ gs)) e
  either_shape a came next n kind e [] [] gs none some h k l = k
  either_shape a came next n kind e [] (x ∷ es) gs none some h k l = absurd h
  either_shape a came next n kind e (b ∷ branches) [] gs none some h k l = absurd h
  either_shape a came next n kind e (b ∷ branches) (x ∷ es) gs none some h k l = l

  choices_shape : (a before : Substitution) (next n : ℕ) (pending : List Binding) (choices : List LeftChoice) (gs : Groups) (current : Branch) (e : Entry)
      → StandsForOlder a → next ≤ n → ExtendsBy a before n (written pending) → ChoicesStand p before n choices gs current e
      → ShapesAs a next (shaped_from next pending choices current).first (shaped_from next pending choices current).bodies (nonempty_groups gs) e
  choices_shape a before next n pending [] [] current e older le h k = with_more a before next n pending current e older le h k
  choices_shape a before next n pending [] (g ∷ gs) current e older le h k = absurd k
  choices_shape a before next n pending (c ∷ choices) [] current e older le h k = absurd k
  choices_shape a before next n pending (c ∷ choices) (g ∷ gs) current e older le h k =
      let came = k.0 in
      let stands = k.1.0 in
      let extends = came_extends a before next n pending older le h came c g stands in
      let came_older = extensions_stay_older a came c.next (written (pending ++ c.below)) older extends in
      let final = extensions_are_final a came c.next (written (pending ++ c.below)) older extends in
      let more = stands.more in
      let inner = shaped_from c.next [] choices current in
      let under = shapes a came next pending c g e inner.first stands.no_query stands.guard (omega (arith, more)) extends stands.further final inner.bodies
      (nonempty_groups gs) (choices_shape came came c.next c.next [] choices gs current e came_older (omega arith) (nothing_extends came c.next final) k.1.1) in
      either_shape a came next c.next c.kind e c.branches g gs (shaped_from next (pending ++ c.below) choices current) (shaped_choice next pending c inner)
      stands.further (choices_shape a came next c.next (pending ++ c.below) choices gs current e older (omega (arith, more)) extends k.1.1) (refl, under)

  top_shapes : (a : Substitution) (next : ℕ) (first : Branch) (bodies : List Body) (gs : Groups) (e : Entry) → IsFinal a → ShapesAs a next first bodies gs e
      → AllShow (BranchMeans p) e next a (or_single_body next first bodies) (or_alone gs)
  top_shapes a next first [] (g ∷ gs) e final h = absurd h
  top_shapes a next first (b ∷ bodies) [] e final h = absurd h
  top_shapes a next first (b ∷ bodies) (g ∷ gs) e final h = h.1
  top_shapes a next first [] [] e final h =
      let c : LeftChoice = record { kind = ChoiceBody; below = []; next = next; branches = [] } in
      shapes a a next [] c [] e first tt (λ q. absurd cc) (omega arith) (nothing_extends a next final) tt final [] [] h

pub shaped_bodies_mean : ShapedBodiesMean
shaped_bodies_mean p before next choices current e older final h =
    let s = shaped_from next [] choices current in
    top_shapes p before next s.first s.bodies (nonempty_groups p.groups) e final
    (choices_shape p before before next next [] choices p.groups current e older (omega arith) (nothing_extends before next final) h)
