-- The list of a tree that keeps its invariants has sound names: the whole tree.
use Rattle.std.proofs.Common.{◌≡◌, ℕ, ◌≤◌, ◌==◌, ◌⊎◌, inl, inr, Bool, true, false, List, [], ◌∷◌, ◌++◌, map, length, refl, sym, ap, ◌∙◌}
use Rattle.std.proofs.Common.{subst, arith}
use Rattle.std.specs.Prelude.{◌&&◌, ◌||◌}
use Rattle.au_term.specs.Term.{Term}
use Rattle.au_model.specs.Terms.Each.{Each}
use Rattle.tree_model.specs.Credits.{Credit as TreeCredit}
use Rattle.tree_model.specs.Nodes.{Kind, ChoiceNode, CatchNode, FindallNode, QueryNode, Ready, TakenBy, Waiting, Dormant, Node, Numbered}
use Rattle.tree_model.specs.Nodes.{Alternatives, none, alternative, Status, Pending, Inner, Closed}
use Rattle.tree_model.specs.Levels.{Level, put_left, plug}
use Rattle.tree_model.specs.Pruning.{is_findall}
use Rattle.tree_model.specs.TreeStates.{TreeState}
use Rattle.tree_model.specs.Elements.{Record}
use Rattle.tree_model.specs.PendingLists.{way_of, scope_on, findall_on, list_in, list_among, list_below, list_right, pending_list}
use Rattle.tree_model.specs.PendingLists.{back_of}
use Rattle.tree_model.specs.SoundTrees.{IsSound as IsSoundStatus, count_below, IsOpen, IsSoundTree}
use Rattle.tree_model.specs.Ways.{is_on}
use Rattle.tree_model.specs.CaughtTrees.{is_side, IsCaught, IsCaughtNode, AreCaught, IsCaughtTree}
use Rattle.tree_model.proofs.CountLemmas.{count_plug}
use Rattle.interleaving.specs.Erased.{from}
use Rattle.interleaving.specs.Sound.{IsGathered, IsSound}
use Rattle.interleaving.proofs.ContextLemmas.{IsAround, taken_out}
use Rattle.interleaving.proofs.WayLemmas.{cond-true, cond-false}
use Rattle.interleaving.proofs.AppendLemmas.{append-assoc, append-nil}
use Rattle.interleaving.proofs.ClockLemmas.{no_root}
use Rattle.interleaving.proofs.ListEndLemmas.{levels_down, from_back}
use Rattle.interleaving.proofs.ListScopeLemmas.{IsDistinct, dormant_on, apart_above}
use Rattle.interleaving.proofs.ListMarkLemmas.{AtLevel, no_left, gathered_side}
use Rattle.interleaving.proofs.SoundListLemmas.{element_sound}
use Rattle.au_term.proofs.LogicLemmas.{false_true, number_same}

-- whether a goal side of a findall is on a branch
abbrev pub under_of : List Level → Bool
under_of [] = false
under_of (v ∷ up) = is_side v.kind (length v.left) || under_of up

pub findall-kind : (k : Kind) → is_findall k ≡ true → k ≡ FindallNode
findall-kind FindallNode h = refl
findall-kind ChoiceNode h = false_true h
findall-kind CatchNode h = false_true h
findall-kind QueryNode h = false_true h

-- the nearest such goal side
pub record IsSideLevel (up : List Level) : Type 0 where
  pub number : ℕ
  pub on : is_on (way_of up) number ≡ true
  pub at : AtLevel up number
  pub left : at.level.left ≡ []
  pub kind : at.level.kind ≡ FindallNode
  pub name : findall_on (way_of up) ≡ 0 ∷ number ∷ []

pub side_level : (up : List Level) → IsAround up IsOpen → under_of up ≡ true → IsSideLevel up
side_level [] a u = false_true u
side_level (v ∷ up) a u = go (is_findall v.kind) refl (length v.left == 0) refl (λ k. side_level up a.1 k) u
  where
    itself : (v.number == v.number) ≡ true
    itself = number_same v.number

    past : IsSideLevel up → findall_on (way_of (v ∷ up)) ≡ findall_on (way_of up) → IsSideLevel (v ∷ up)
    past h name = pick (v.number == h.number) refl
      where
        pick : (b : Bool) → (v.number == h.number) ≡ b → IsSideLevel (v ∷ up)
        pick false e = record {
          number = h.number;
          on = cond-false (v.number == h.number) true (is_on (way_of up) h.number) e ∙ h.on;
          at = record {
            level = h.at.level;
            above = h.at.above;
            down = cond-false (v.number == h.number) _ _ e
                ∙ h.at.down;
            number = h.at.number;
            scope = cond-false (v.number == h.number) _ _ e
                ∙ h.at.scope;
            keeps = h.at.keeps;
            sleeps = cond-false (v.number == h.number) _ _ e ∙ h.at.sleeps;
          };
          left = h.left;
          kind = h.kind;
          name = name ∙ h.name;
        }
        pick true e = let same : v.number
            ≡ h.number = grind arith in absurd (on_way (subst (λ n. is_on (way_of up) n ≡ true) (sym same) h.on))
          where
            on_way : is_on (way_of up) v.number ≡ true → ⊥
            on_way k = false_true (sym a.0.new ∙ k)

    here : is_findall v.kind ≡ true → (length v.left == 0) ≡ true → IsSideLevel (v ∷ up)
    here f z =
        let left : v.left ≡ [] = no_left v.left z in
        record {
          number = v.number;
          on = cond-true (v.number == v.number) true _ itself;
          at = record {
            level = v;
            above = up;
            down = cond-true (v.number == v.number) _ _ itself;
            number = refl;
            scope = cond-true
                (v.number == v.number) _ _ itself;
            keeps = a.0;
            sleeps = cond-true (v.number == v.number) _ _ itself;
          };
          left = left;
          kind = findall-kind v.kind f;
          name = cond-true (is_findall v.kind) _ _ f ∙ cond-true (length v.left == 0) _ _ z;
        }

    go : (b : Bool) → is_findall v.kind ≡ b → (c : Bool) → (length v.left == 0) ≡ c → (under_of up ≡ true → IsSideLevel up)
        → ((is_findall v.kind && (length v.left == 0)) || under_of up) ≡ true → IsSideLevel (v ∷ up)
    go true e true z f u = here e z
    go true e false z f u = past (f
        (subst (λ b. (b || under_of up) ≡ true) (ap (λ b. is_findall v.kind && b) z ∙ ap (λ b. b && false) e) u))
        (cond-true (is_findall v.kind) _ _ e ∙ cond-false (length v.left == 0) _ _ z)
    go false e c z f u = past (f (subst (λ b. (b || under_of up) ≡ true) (ap (λ b. b && (length v.left == 0)) e) u))
        (cond-false (is_findall v.kind) _ _ e)

-- records below a goal side are gathered there
credit_sound : (v : Level) (up : List Level) (c : TreeCredit) → IsDistinct (v ∷ up) → IsAround up IsOpen
    → (c.records ≡ []) ⊎ ((is_side v.kind (length v.left) ≡ false) × (under_of up ≡ true))
    → Each (λ (r : Record). IsGathered (back_of (v ∷ up)) r.0) (map (λ t. (findall_on (way_of (v ∷ up)), t)) c.records)
credit_sound v up c d a (inl e) = subst
    (λ ts. Each (λ (r : Record). IsGathered (back_of (v ∷ up)) r.0) (map (λ t. (findall_on (way_of (v ∷ up)), t)) ts)) (sym e) tt
credit_sound v up c d a (inr e) = all c.records
  where
    side : IsSideLevel up
    side = side_level up a e.1

    passed : (b : Bool) → is_findall v.kind ≡ b → (c : Bool) → (length v.left == 0) ≡ c → (is_findall v.kind && (length v.left == 0))
        ≡ false → findall_on (way_of (v ∷ up)) ≡ findall_on (way_of up)
    passed false f c z s = cond-false (is_findall v.kind) _ _ f
    passed true f false z s = cond-true (is_findall v.kind) _ _ f ∙ cond-false (length v.left == 0) _ _ z
    passed true f true z s = false_true (sym s ∙ (ap (λ b. b && (length v.left == 0)) f ∙ ap (λ b. true && b) z))

    off : (v.number == side.number) ≡ false
    off = apart_above v up side.number d side.on

    name : findall_on (way_of (v ∷ up)) ≡ scope_on (way_of (v ∷ up)) side.number
    name =
        passed (is_findall v.kind) refl (length v.left == 0) refl e.0
        ∙ (side.name ∙ sym (cond-false (v.number == side.number) _ (scope_on (way_of up) side.number) off
        ∙ (side.at.scope ∙ (ap (λ l. length l ∷ side.at.level.number ∷ []) side.left ∙ ap (λ n. 0 ∷ n ∷ []) side.at.number))))

    found : from (back_of (v ∷ up)) (findall_on (way_of (v ∷ up))) ≡ back_of (side.at.level ∷ side.at.above)
    found =
        ap (from (back_of (v ∷ up))) name
        ∙ (from_back (v ∷ up) side.number d (cond-false (v.number == side.number) true (is_on (way_of up) side.number) off ∙ side.on)
        ∙ ap back_of (cond-false (v.number == side.number) (v ∷ up) (levels_down up side.number) off ∙ side.at.down))

    one : IsGathered (back_of (v ∷ up)) (findall_on (way_of (v ∷ up)))
    one = gathered_side (v ∷ up) (findall_on (way_of (v ∷ up))) side.at.level side.at.above found
        (name ∙ (cond-false (v.number == side.number) _ (scope_on (way_of up) side.number) off ∙ side.at.scope)) side.at.keeps side.left
        side.kind

    all : (ts : List Term) → Each (λ (r : Record). IsGathered (back_of (v ∷ up)) r.0) (map (λ t. (findall_on (way_of (v ∷ up)), t)) ts)
    all [] = tt
    all (t ∷ ts) = (one, all ts)

-- a tree round a place
pub record IsDistinctTree (root : Status) : Type 0 where
  pub sound : IsSoundStatus [] root
  pub distinct : (m : ℕ) → count_below m root ≤ 1

tree_distinct : (levels : List Level) (status : Status) → IsDistinctTree (plug levels status) → IsDistinct levels
tree_distinct levels status g m = let z = g.distinct m in let c = count_plug m levels status in omega (arith, z, c)

mutual
  node_ok : (up : List Level) (node : Node) → IsDistinctTree (plug up (Inner node)) → IsCaughtNode (dormant_on up) (under_of up) node
      → IsSound (back_of up) → IsSound (list_in (way_of up) node ++ back_of up)
  node_ok up (Numbered n kind alternatives) g c z = among_ok up n kind [] alternatives g c z

  among_ok : (up : List Level) (n : ℕ) (kind : Kind) (left : List (ℕ × Status)) (others : Alternatives)
      → IsDistinctTree (plug up (Inner (Numbered n kind (put_left left others))))
      → AreCaught (dormant_on up) (under_of up) n kind (length left)
      others → IsSound (back_of up) → IsSound (list_among (way_of up) n kind (length left) others ++ back_of up)
  among_ok up n kind left none g c z = z
  among_ok up n kind left (alternative spent status others) g c z =
      let v : Level = record { number = n; kind = kind; left = left; spent = spent; right = others } in
      let rest = among_ok up n kind ((spent, status) ∷ left) others g c.1 z in
      let whole : list_among (way_of up) n kind (length left) (alternative spent status others) ++ back_of up
      ≡ list_below (way_of (v ∷ up)) spent status ++ back_of (v ∷ up) = append-assoc (list_below (way_of (v ∷ up)) spent status)
      (list_right (way_of up) v) (back_of up) in
      subst IsSound (sym whole) (below_ok v up status g c.0 rest)

  below_ok : (v : Level) (up : List Level) (status : Status) → IsDistinctTree (plug (v ∷ up) status)
      → IsCaught (dormant_on (v ∷ up)) (is_side v.kind (length v.left)) (under_of up) status → IsSound (back_of (v ∷ up))
      → IsSound (list_below (way_of (v ∷ up)) v.spent status ++ back_of (v ∷ up))
  below_ok v up (Inner node) g c z = (tt, node_ok (v ∷ up) node g c z)
  below_ok v up (Closed c) g k z =
      (credit_sound v up c (tree_distinct (v ∷ up) (Closed c) g) (taken_out (v ∷ up) (Closed c) g.sound).0.1 k, z)
  below_ok v up (Pending Dormant e) g c z = let p = taken_out (v ∷ up) (Pending Dormant e) g.sound in element_sound v up Dormant e
      (tree_distinct (v ∷ up) (Pending Dormant e) g) p.0 p.1.0 p.1.1 c z
  below_ok v up (Pending Ready e) g c z = let p = taken_out (v ∷ up) (Pending Ready e) g.sound in
      (tt, element_sound v up Ready e (tree_distinct (v ∷ up) (Pending Ready e) g) p.0 p.1.0 p.1.1 c z)
  below_ok v up (Pending (TakenBy w) e) g c z = let p = taken_out (v ∷ up) (Pending (TakenBy w) e) g.sound in
      (tt, element_sound v up (TakenBy w) e (tree_distinct (v ∷ up) (Pending (TakenBy w) e) g) p.0 p.1.0 p.1.1 c z)
  below_ok v up (Pending (Waiting x) e) g c z = let p = taken_out (v ∷ up) (Pending (Waiting x) e) g.sound in
      (tt, element_sound v up (Waiting x) e (tree_distinct (v ∷ up) (Pending (Waiting x) e) g) p.0 p.1.0 p.1.1 c z)

root_ok : (root : Status) → IsDistinctTree root → IsCaught (λ m. false) false false root → IsSound (pending_list root)
root_ok (Closed c) g (inl e) = (subst (λ ts. Each (λ (r : Record). IsGathered [] r.0) (map (λ t. (findall_on [], t)) ts)) (sym e) tt, tt)
root_ok (Closed c) g (inr e) = false_true e.1
root_ok (Pending hold e) g c = absurd (no_root e g.sound.0)
root_ok (Inner node) g c = (tt, subst IsSound (append-nil (list_in [] node)) (node_ok [] node g c tt))

pub lists_are_sound : (t : TreeState) → IsSoundTree t → IsCaughtTree t → IsSound (pending_list t.root)
lists_are_sound t h k = root_ok t.root (record { sound = h.sound; distinct = h.distinct }) k.caught
