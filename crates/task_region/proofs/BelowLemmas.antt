-- A kept region goes down to an alternative below it.
use Rattle.std.proofs.Common.{◌≡◌, ℕ, zero, suc, ◌<◌, true, cond, List, [], ◌∷◌, ◌++◌, length, length-append, map, reverse, Option, Some, None, refl, sym, ap, ap₂, ◌∙◌, subst, arith}
use Rattle.std.proofs.lemmas.List.{append_assoc, append-nil, length-map, length-reverse, reverse-append, map-append}
use Rattle.std.specs.Option.{option_map}
use Rattle.std.specs.Prelude.{is_some}
use Rattle.au_term.proofs.LogicLemmas.{false_true}
use Rattle.au_model.specs.Terms.Each.{Each}
use Rattle.au_term.specs.declared.segment.Binding.{Binding}
use Rattle.region_split.specs.QueryEnds.{IsEnd}
use Rattle.region_split.specs.Regions.{RegionView}
use Rattle.region_split.specs.Texts.{TextView}
use Rattle.tree_model.specs.EventViews.{place_view}
use Rattle.tree_model.specs.Levels.{Place}
use Rattle.tree_model.specs.declared.places.AltRef.{AltRef}
use Rattle.tree_nodes.proofs.FoldLemmas.{parent_above}
use Rattle.tree_nodes.specs.Folds.{IsAbove}
use Rattle.tree_nodes.specs.Rows.{StoredNode, Rows, row_of_node, node_parent}
use Rattle.tree_nodes.specs.TreeTables.{NodesView, Stand}
use Rattle.branch_reading.specs.BranchSegments.{above_in_query, bindings_on, next_number, segments_on}
use Rattle.branch_reading.specs.SettledWays.{are_bindings_settled}
use Rattle.task_region.specs.KeptRegions.{KeptView, IsBoundBranch, IsKeptIn}
use Rattle.task_region.specs.MadeInTurn.{IsMadeBy, CanMake, Makes}
use Rattle.task_region.specs.PlacesUp.{AreAllUp, AreNumbersOf, HaveNoQuery, LeadsBelow, LeadsUp, body_at, branching_at, segments_above, segments_at}
use Rattle.task_region.specs.TaskLoads.{HasLoadableBranch}
use Rattle.task_region.proofs.BindingLemmas.{one_above, own_over}
use Rattle.task_region.proofs.BranchLoadLemmas.{next_first, settled_bindings}
use Rattle.task_region.proofs.PlaceUpLemmas.{IsThere, above_by, above_there, step_up}

-- a way on from where another one leads
pub leads_on : (rows : Rows) (xs ys : List Place) (from to : Option Place) → LeadsUp rows xs from to → LeadsUp rows ys to None → LeadsUp rows (xs ++ ys) from None
leads_on rows [] ys from to h k = subst (λ o. LeadsUp rows ys o None) (sym h) k
leads_on rows (x ∷ xs) ys from to h k = (h.0, (h.1.0, (h.1.1.0, leads_on rows xs ys h.1.0 to h.1.1.1 k)))

-- the way up from a node that is there
record SomeRow (o : Option StoredNode) : Type 0 where
  pub row : StoredNode
  pub is : o ≡ Some row

some_row : (o : Option StoredNode) → is_some o ≡ true → SomeRow o
some_row None h = false_true h
some_row (Some r) h = record { row = r; is = refl }

pub record WayUp (rows : Rows) (a : Place) : Type 0 where
  pub places : List Place
  pub up : AreAllUp rows a places

way_on : (rows : Rows) (a : Place) (above : Option Place) → is_some (row_of_node rows a.node) ≡ true → node_parent rows a.node ≡ Some above → IsAbove rows above a.node
    → ((b : Place) → b.node < a.node → IsThere rows (Some b) → WayUp rows b) → WayUp rows a
way_on rows a None there parent h rest = record { places = a ∷ []; up = (refl, (None, (step_up rows a None there parent h, refl))) }
way_on rows a (Some b) there parent h rest =
    let more = rest b h.1 (above_there rows (Some b) a.node h) in
    record { places = a ∷ more.places; up = (refl, (Some b, (step_up rows a (Some b) there parent h, more.up))) }

way_from : (nodes : NodesView) → Stand nodes → (n : ℕ) (a : Place) → a.node < n → is_some (row_of_node nodes.rows a.node) ≡ true → WayUp nodes.rows a
way_from nodes stand zero a lt there = absurd (omega (arith, lt))
way_from nodes stand (suc n) a lt there =
    let r = some_row (row_of_node nodes.rows a.node) there in
    way_on nodes.rows a r.row.parent there (ap (option_map (λ (x : StoredNode). x.parent)) r.is) (parent_above nodes a.node r.row stand r.is)
    (λ b l h. way_from nodes stand n b (omega (arith, lt, l)) h)

-- where no query begins, what is bound further is bound behind what is bound above
segments_in : (rows : Rows) (news ups : List Place) → HaveNoQuery rows news
    → bindings_on (segments_on (branching_at rows (news ++ ups))) ≡ bindings_on (segments_on (branching_at rows ups)) ++ bindings_on (segments_at rows news)
segments_in rows [] ups h = sym (append-nil (bindings_on (segments_on (branching_at rows ups))))
segments_in rows (p ∷ news) ups h =
    let above = segments_on (branching_at rows (news ++ ups)) in
    let base = bindings_on (segments_on (branching_at rows ups)) in
    let in_query : above_in_query (body_at rows p).kind above ≡ above = above_by (body_at rows p).kind above ∙ ap (λ b. cond b [] above) h.0 in
    ap (λ ss. bindings_on (segments_above rows p ss)) in_query
    ∙ (own_over rows p above
    ∙ (ap (λ bs. bs ++ bindings_on (segments_at rows (p ∷ []))) (segments_in rows news ups h.1)
    ∙ (append_assoc base (bindings_on (segments_at rows news)) (bindings_on (segments_at rows (p ∷ [])))
    ∙ ap (λ bs. base ++ bs) (sym (one_above rows p news)))))

nodes-map : (xs : List AltRef) → map (λ (a : AltRef). a.node) xs ≡ map (λ (p : Place). p.node) (map place_view xs)
nodes-map [] = refl
nodes-map (x ∷ xs) = ap (λ ns. x.node ∷ ns) (nodes-map xs)

pub numbers_pushed : (before numbers : List ℕ) (xs : List AltRef) (ups : List Place) → AreNumbersOf ups before → numbers ≡ before ++ reverse (map (λ (a : AltRef). a.node) xs)
    → AreNumbersOf (map place_view xs ++ ups) numbers
numbers_pushed before numbers xs ups are pushed =
    let node : Place → ℕ = λ p. p.node in
    pushed
    ∙ (ap₂ (λ (ms ns : List ℕ). ms ++ reverse ns) are (nodes-map xs)
    ∙ (sym (reverse-append (map node (map place_view xs)) (map node ups))
    ∙ ap reverse (sym (map-append node (map place_view xs) ups))))

pub numbers_long : (places : List Place) (numbers : List ℕ) → AreNumbersOf places numbers → length places ≡ length numbers
numbers_long places numbers are =
    sym (ap length are ∙ (length-reverse (map (λ (p : Place). p.node) places) ∙ length-map places (λ (p : Place). p.node)))

module _ (nodes : NodesView) (stand : Stand nodes) (a : Place) (xs : List AltRef) (k : KeptView) (text : TextView) (kept : IsKeptIn nodes.rows text k) (below : LeadsBelow nodes.rows (map place_view xs) a k.place)
    (none : HaveNoQuery nodes.rows (map place_view xs)) (loadable : HasLoadableBranch nodes.rows a) (f : RegionView) (bound : f.store.now.bound ≡ k.region.store.now.bound)
    (next : f.store.now.next ≡ next_number (segments_at nodes.rows (a ∷ []))) where
  abbrev news : List Place
  news = map place_view xs

  ups : WayUp nodes.rows k.place
  ups = way_from nodes stand (suc k.place.node) k.place (omega arith) below.there

  abbrev all : List Place
  all = news ++ ups.places

  up : AreAllUp nodes.rows a all
  up = leads_on nodes.rows news ups.places (Some a) (Some k.place) below.leads ups.up

  abbrev before : List Binding
  before = bindings_on (segments_on (branching_at nodes.rows ups.places))

  above_made : IsMadeBy before f.store.now.bound
  above_made = let b = (kept.way ups.places ups.up).bound in subst (IsMadeBy before) (sym bound) (record { unified = b.bound; free = b.free })

  next_is : f.store.now.next ≡ next_number (segments_on (branching_at nodes.rows all))
  next_is = next ∙ sym (next_first nodes.rows a all up)

  bindings_are : bindings_on (segments_on (branching_at nodes.rows all)) ≡ before ++ bindings_on (segments_at nodes.rows news)
  bindings_are = segments_in nodes.rows news ups.places none

  settled : are_bindings_settled f.store.now.next (before ++ bindings_on (segments_at nodes.rows news)) ≡ true
  settled = ap₂ are_bindings_settled next_is (sym bindings_are) ∙ settled_bindings (branching_at nodes.rows all) (loadable all up).settled

  pub can_go_down : CanMake f (bindings_on (segments_at nodes.rows news))
  can_go_down = record { before = before; made = above_made; settled = settled }

  pub goes_down : (r : RegionView) (numbers : List ℕ) → Makes f r (bindings_on (segments_at nodes.rows news)) → numbers ≡ k.numbers ++ reverse (map (λ (x : AltRef). x.node) xs)
      → f.choices ≡ k.region.choices → f.text ≡ k.region.text → IsBoundBranch nodes.rows a text r numbers
  goes_down r numbers makes pushed choices same =
      let made = subst (λ bs. IsMadeBy bs r.store.now.bound) (sym bindings_are) (makes.made before above_made settled) in
      let chosen : r.choices ≡ k.region.choices = ap (λ (x : RegionView). x.choices) makes.others ∙ choices in
      record {
        places = all;
        up = up;
        numbers_are = numbers_pushed k.numbers numbers xs ups.places (kept.way ups.places ups.up).numbers_are pushed;
        bound = record { bound = made.unified; free = made.free; next = makes.next ∙ next_is };
        ends = subst (Each (λ c. IsEnd c.alternatives)) (sym chosen) kept.ends;
        few =
            let e = ap length chosen in let m = kept.many in
            let l = ap length pushed ∙ length-append k.numbers (reverse (map (λ (x : AltRef). x.node) xs)) in omega (arith, e, m, l);
        text_is = ap (λ (x : RegionView). x.text) makes.others ∙ (same ∙ kept.text_is);
      }
