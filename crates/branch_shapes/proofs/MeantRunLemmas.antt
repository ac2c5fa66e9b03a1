-- Bodies that mean a run show it, and its entries can become nodes.
use Rattle.std.proofs.Common.{◌≡◌, ℕ, suc, List, [], ◌∷◌, length, map, true, Some, refl, sym, ap₂, ◌∙◌, subst}
use Rattle.std.specs.Prelude.{slice_get}
use Rattle.au_model.specs.Terms.Each.{Each}
use Rattle.au_model.specs.Terms.Substitutions.{Substitution}
use Rattle.run_model.specs.Machine.Entries.{Entry}
use Rattle.run_model.specs.Programs.Jobs.{Job}
use Rattle.tree_model.specs.Levels.{Level, Spot, levels_of}
use Rattle.tree_model.specs.Shapes.{is_alone}
use Rattle.tree_model.specs.TreeStates.{TreeState}
use Rattle.tree_nodes.specs.Bodies.{Body, Branching}
use Rattle.tree_nodes.specs.Rows.{StoredNode, Rows}
use Rattle.tree_nodes.specs.TreeTables.{IsWayTo}
use Rattle.branch_reading.specs.BranchSegments.{segments_on, next_number}
use Rattle.branch_reading.specs.Readings.{reading}
use Rattle.public_tree.specs.Publishing.{AreWhole, body_sizes}
use Rattle.branch_shapes.specs.Groups.{Groups, nonempty_groups, or_alone, node_groups}
use Rattle.branch_shapes.specs.GroupLaws.{HasWholeCuts}
use Rattle.branch_shapes.specs.GroupBodies.{ReadAsRun}
use Rattle.branch_shapes.specs.ExtendedWays.{number_after}
use Rattle.branch_shapes.specs.GroupedRuns.{RunsToGroups}
use Rattle.branch_shapes.specs.MeantBranches.{floor_in, scope_in, BranchMeans}
use Rattle.branch_shapes.specs.MeantRuns.{placement_at, RunIsMeant, MeantRunsShow, MeantRunsFit, MeantRunsRead}
use Rattle.branch_shapes.specs.ShownBodies.{Showing, BranchShows, BodyShows, BodiesShow, AllShow}
use Rattle.branch_shapes.proofs.GroupBodyLemmas.{whole_by}
use Rattle.branch_shapes.proofs.GroupScopeLemmas.{size_of}
use Rattle.branch_shapes.proofs.GroupedRunLemmas.{grouped_runs_read}
use Rattle.branch_shapes.proofs.MeantBranchLemmas.{meant_branches_show, meant_entries_are_whole}
use Rattle.branch_shapes.proofs.ShownBodyLemmas.{shown_bodies_read}

-- where more is asked of branches, what is asked less of them holds too
module _ (more less : Showing) (as_well : (there : Substitution) (b : Body) (i : ℕ) (e : Entry) → more there b i e → less there b i e) where
  body_as_well : (next : ℕ) (before there : Substitution) (b : Body) (g : List Entry) → BodyShows more next before there b g
      → BodyShows less next before there b g
  body_as_well next before there b g h = record {
    no_query = h.no_query;
    kind = h.kind;
    alone = h.alone;
    branches = h.branches;
    leads = h.leads;
    further = λ i e q. as_well there b (suc i) e (h.further i e q);
  }

  bodies_as_well : (current : Entry) (next : ℕ) (before : Substitution) (b : Body) (bodies : List Body) (g : List Entry) (gs : Groups)
      → BodiesShow more current next before b bodies g gs → BodiesShow less current next before b bodies g gs
  bodies_as_well current next before b [] g [] h = (h.0, (body_as_well next before h.0 b g h.1.0, as_well h.0 b 0 current h.1.1))
  bodies_as_well current next before b [] g (k ∷ gs) h = absurd h
  bodies_as_well current next before b (c ∷ bodies) g [] h = absurd h
  bodies_as_well current next before b (c ∷ bodies) g (k ∷ gs) h =
      (h.0, (h.1.0, (body_as_well next before h.0 b g h.1.1.0, bodies_as_well current (number_after h.1.0.branch.segment) h.1.0.now c bodies k gs h.1.1.1)))

  all_as_well : (current : Entry) (next : ℕ) (before : Substitution) (bodies : List Body) (gs : Groups) → AllShow more current next before bodies gs
      → AllShow less current next before bodies gs
  all_as_well current next before [] gs h = absurd h
  all_as_well current next before (b ∷ bodies) [] h = absurd h
  all_as_well current next before (b ∷ bodies) (g ∷ gs) h = bodies_as_well current next before b bodies g gs h

pub meant_runs_show : MeantRunsShow
meant_runs_show job way before number levels bodies current gs h =
    let p = placement_at job way number levels gs in
    all_as_well (BranchMeans p) (BranchShows p.named (scope_in p)) (λ there b i e k. meant_branches_show p there b i e k) current
    (next_number (segments_on way)) before bodies (node_groups gs) h

-- what holds of each entry that a branch stands for holds of all entries of groups
each_indexed : {X : Type 0} (P : X → Type 0) (xs : List X) → ((i : ℕ) (x : X) → slice_get xs i ≡ Some x → P x) → Each P xs
each_indexed P [] h = tt
each_indexed P (x ∷ xs) h = (h 0 x refl, each_indexed P xs (λ i y q. h (suc i) y q))

-- what is known of groups by their bodies
record AreShown (P : Entry → Type 0) (current : Entry) (bodies : List Body) (gs : Groups) : Type 0 where
  on_top : P current
  entries : Each (λ g. Each P g) gs
  alone : Each (λ g. is_alone g ≡ true) gs
  sized : body_sizes bodies ≡ map size_of gs
  whole : AreWhole bodies

module _ (shows : Showing) (P : Entry → Type 0) (each : (there : Substitution) (b : Body) (i : ℕ) (e : Entry) → shows there b i e → P e) where
  group_shown : (next : ℕ) (before there : Substitution) (b : Body) (g : List Entry) → BodyShows shows next before there b g → Each P g
  group_shown next before there b g h = each_indexed P g (λ i e q. each there b (suc i) e (h.further i e q))

  one_more : (next : ℕ) (before there : Substitution) (b : Body) (g : List Entry) (current : Entry) (bodies : List Body) (gs : Groups)
      → BodyShows shows next before there b g → AreShown P current bodies gs → AreShown P current (b ∷ bodies) (g ∷ gs)
  one_more next before there b g current bodies gs h k = record {
    on_top = k.on_top;
    entries = (group_shown next before there b g h, k.entries);
    alone = (h.alone, k.alone);
    sized = ap₂ (λ n ns. n ∷ ns) h.branches k.sized;
    whole = (whole_by b.kind g (length b.branches) h.kind h.alone h.branches, k.whole);
  }

  bodies_are_shown : (current : Entry) (next : ℕ) (before : Substitution) (b : Body) (bodies : List Body) (g : List Entry) (gs : Groups)
      → BodiesShow shows current next before b bodies g gs → AreShown P current (b ∷ bodies) (g ∷ gs)
  bodies_are_shown current next before b [] g [] h =
      one_more next before h.0 b g current [] [] h.1.0 (record { on_top = each h.0 b 0 current h.1.1; entries = tt; alone = tt; sized = refl; whole = tt })
  bodies_are_shown current next before b [] g (k ∷ gs) h = absurd h
  bodies_are_shown current next before b (c ∷ bodies) g [] h = absurd h
  bodies_are_shown current next before b (c ∷ bodies) g (k ∷ gs) h =
      one_more next before h.0 b g current (c ∷ bodies) (k ∷ gs) h.1.1.0
      (bodies_are_shown current (number_after h.1.0.branch.segment) h.1.0.now c bodies k gs h.1.1.1)

  all_are_shown : (current : Entry) (next : ℕ) (before : Substitution) (bodies : List Body) (gs : Groups) → AllShow shows current next before bodies gs
      → AreShown P current bodies gs
  all_are_shown current next before [] gs h = absurd h
  all_are_shown current next before (b ∷ bodies) [] h = absurd h
  all_are_shown current next before (b ∷ bodies) (g ∷ gs) h = bodies_are_shown current next before b bodies g gs h

-- what holds of the groups that become nodes, and of an empty one, holds of all
each_nonempty : (P : List Entry → Type 0) → P [] → (gs : Groups) → Each P (nonempty_groups gs) → Each P gs
each_nonempty P none [] h = tt
each_nonempty P none ([] ∷ gs) h = (none, each_nonempty P none gs h)
each_nonempty P none ((x ∷ xs) ∷ gs) h = (h.0, each_nonempty P none gs h.1)

each_of_some : (P : List Entry → Type 0) (gs : Groups) → Each P (or_alone gs) → Each P gs
each_of_some P [] h = tt
each_of_some P (g ∷ gs) h = h

each_group : (P : List Entry → Type 0) → P [] → (gs : Groups) → Each P (node_groups gs) → Each P gs
each_group P none gs h = each_nonempty P none gs (each_of_some P (nonempty_groups gs) h)

pub meant_runs_fit : MeantRunsFit
meant_runs_fit p next before bodies current h =
    let gs = p.groups in
    let shown = all_are_shown (BranchMeans p) (HasWholeCuts (floor_in p) gs) (λ there b i e k. meant_entries_are_whole p there b i e k) current next before
    bodies (node_groups gs) h in (
      record {
        on_top = shown.on_top;
        whole = each_group (λ g. Each (HasWholeCuts (floor_in p) gs) g) tt gs shown.entries;
        alone = each_group (λ g. is_alone g ≡ true) refl gs shown.alone;
      },
      shown.sized,
      shown.whole,
    )

-- there is one way down to a place
one_way : (rows : Rows) (levels : List Level) (way other : Branching) → IsWayTo rows levels way → IsWayTo rows levels other → way ≡ other
one_way rows [] way other h k = h ∙ sym k
one_way rows (v ∷ up) way other h k =
    let rows_same : Some h.0 ≡ Some k.0 = sym h.1.1.0 ∙ k.1.1.0 in
    let row : h.0 ≡ k.0 = cc in
    let above = one_way rows up h.1.0 k.1.0 h.1.1.2 k.1.1.2 in
    h.1.1.1 ∙ (ap₂ (λ (r : StoredNode) (w : Branching). (r.body, length v.left) ∷ w) row above ∙ sym k.1.1.1)

module _ (job : Job) (rows : Rows) (bodies : List Body) (k : ℕ) (t : TreeState) (s : Spot) (h : RunIsMeant job rows bodies k t s) where
  read_there : ReadAsRun (reading job) h.way t.next (levels_of s) bodies h.current h.groups
  read_there = shown_bodies_read job h.way h.before t.next (levels_of s) bodies h.current h.groups h.binds
      (meant_runs_show job h.way h.before t.next (levels_of s) bodies h.current h.groups h.means)

  pub run_to_groups : RunsToGroups rows bodies k (reading job) t s
  run_to_groups =
      let fit = meant_runs_fit (placement_at job h.way t.next (levels_of s) h.groups) (next_number (segments_on h.way)) h.before bodies h.current h.means in
      record {
        current = h.current;
        groups = h.groups;
        run = h.run;
        nodes = fit.0;
        sized = fit.1;
        reads = λ way path. subst (λ w. ReadAsRun (reading job) w t.next (levels_of s) bodies h.current h.groups)
            (one_way rows (levels_of s) h.way way h.path path) read_there;
      }

pub meant_runs_read : MeantRunsRead
meant_runs_read job rows bodies w a k t h = grouped_runs_read rows bodies w a k (reading job) t (λ s at. run_to_groups job rows bodies k t s (h s at))
