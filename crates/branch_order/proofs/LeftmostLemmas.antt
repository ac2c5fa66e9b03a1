-- The leftmost entry, node by node.
use Rattle.std.proofs.Common.{◌≡◌, ℕ, suc, true, false, List, [], ◌∷◌, ◌++◌, length, Option, Some, None, refl, sym, ap, ◌∙◌, subst}
use Rattle.std.specs.Option.{option_map}
use Rattle.tree_model.specs.Nodes.{Kind, Node, Numbered, Alternatives, none, alternative, Status, Pending, Inner, Closed}
use Rattle.tree_model.specs.Levels.{Level, put_left, plug, Place, place_at, Spot, place_of_spot, pending_in, pending_among, pending_below, pending_of}
use Rattle.tree_model.specs.PendingLists.{Step, Way}
use Rattle.tree_model.specs.SoundTrees.{profiles, some_open, IsSound, IsSoundNode, AreSound}
use Rattle.tree_model.specs.TreeStates.{first_spot}
use Rattle.tree_nodes.specs.Bodies.{Reading}
use Rattle.tree_nodes.specs.Rows.{AlternativeCell, row_of_node, alternatives_at, cell_at}
use Rattle.tree_nodes.specs.RowViews.{inner_of}
use Rattle.tree_nodes.specs.Gathering.{is_shut}
use Rattle.tree_nodes.specs.Puts.{inner_at}
use Rattle.tree_nodes.specs.TreeTables.{node_number, cell_of, cells_of, IsIn, NodesView, IsRoot, IsTableOf}
use Rattle.tree_nodes.proofs.PlaceLemmas.{taken_out}
use Rattle.tree_nodes.proofs.WalkLemmas.{cell_here}
use Rattle.branch_order.specs.LeftOf.{open_index, open_first}
use Rattle.tree_nodes.specs.Fronts.{place_on}
use Rattle.branch_order.specs.Leftmosts.{IsLeftmost, IsDownTo, GoesDown}

-- a live node has an entry below it
pub record IsSomeSpot (spots : List Spot) : Type 0 where
  pub spot : Spot
  pub others : List Spot
  pub are : spots ≡ spot ∷ others

some_front : (front back : List Spot) → IsSomeSpot front → IsSomeSpot (front ++ back)
some_front front back h = record { spot = h.spot; others = h.others ++ back; are = ap (λ (x : List Spot). x ++ back) h.are }

some_back : (front back : List Spot) → IsSomeSpot back → IsSomeSpot (front ++ back)
some_back [] back h = h
some_back (s ∷ front) back h = record { spot = s; others = front ++ back; are = refl }

mutual
  pub some_in : (up : List Level) (a : Step) (way : Way) (node : Node) → IsSoundNode (a ∷ way) node → IsSomeSpot (pending_in up node)
  some_in up a way (Numbered n kind others) h = some_among up (a ∷ way) n kind 0 [] others h.2 h.3

  some_among : (up : List Level) (way : Way) (n : ℕ) (kind : Kind) (i : ℕ) (left : List (ℕ × Status)) (others : Alternatives)
      → some_open (profiles others) ≡ true → AreSound way n kind i others → IsSomeSpot (pending_among up n kind left others)
  some_among up way n kind i left none o h = absurd (cc o)
  some_among up way n kind i left (alternative spent (Pending hold entry) others) o h = record { spot = _; others = _; are = refl }
  some_among up way n kind i left (alternative spent (Inner node) others) o h =
      some_front (pending_below (record { number = n; kind = kind; left = left; spent = spent; right = others }) up (Inner node)) _
      (some_in (record { number = n; kind = kind; left = left; spent = spent; right = others } ∷ up) (record { node = n; index = i; kind = kind }) way node h.0)
  some_among up way n kind i left (alternative spent (Closed credit) others) o h =
      some_among up way n kind (suc i) ((spent, Closed credit) ∷ left) others o h.1

-- what is sound to the right of alternatives
pub sound-right : (way : Way) (n : ℕ) (kind : Kind) (left : List (ℕ × Status)) (others : Alternatives) → AreSound way n kind 0 (put_left left others)
    → AreSound way n kind (length left) others
sound-right way n kind [] others h = h
sound-right way n kind (a ∷ left) others h = (sound-right way n kind left (alternative a.0 a.1 others) h).1

-- the first alternative that has not closed
pub record IsFirstOf (up : List Level) (n : ℕ) (kind : Kind) (whole : Alternatives) (spots : List Spot) (j : ℕ) : Type 0 where
  pub left : List (ℕ × Status)
  pub spent : ℕ
  pub status : Status
  pub right : Alternatives
  pub is : whole ≡ put_left left (alternative spent status right)
  pub index : length left ≡ j
  pub shut : is_shut (cell_of status) ≡ false
  pub spots_are : spots ≡ pending_among up n kind left (alternative spent status right)

abbrev IsFirst : List Level → ℕ → Kind → Alternatives → List Spot → Option ℕ → Type 0
IsFirst up n kind whole spots (Some j) = IsFirstOf up n kind whole spots j
IsFirst up n kind whole spots None = spots ≡ []

first_among : (up : List Level) (n : ℕ) (kind : Kind) (left : List (ℕ × Status)) (others : Alternatives)
    → IsFirst up n kind (put_left left others) (pending_among up n kind left others) (open_index (length left) (cells_of others))
first_among up n kind left none = refl
first_among up n kind left (alternative spent (Pending hold entry) others) = record {
  left = left;
  spent = spent;
  status = Pending hold entry;
  right = others;
  is = refl;
  index = refl;
  shut = refl;
  spots_are = refl;
}
first_among up n kind left (alternative spent (Inner node) others) = record {
  left = left;
  spent = spent;
  status = Inner node;
  right = others;
  is = refl;
  index = refl;
  shut = refl;
  spots_are = refl;
}
first_among up n kind left (alternative spent (Closed credit) others) = first_among up n kind ((spent, Closed credit) ∷ left) others

-- the cells of the current node
cells_down : (nodes : NodesView) (read : Reading) (root : Status) (n : ℕ) (s : IsTableOf nodes read root) (d : IsDownTo root n)
    → alternatives_at (row_of_node nodes.rows n) ≡ cells_of d.alternatives
cells_down nodes read root n s d =
    let k = taken_out nodes.rows read d.up (Inner (Numbered n d.kind d.alternatives)) (subst (IsIn nodes.rows read [] None) d.same s.placed) in
    ap alternatives_at k.inside.1.0

first_spot-front : (front back : List Spot) → IsSomeSpot front → first_spot (front ++ back) ≡ first_spot front
first_spot-front front back h = ap (λ (x : List Spot). first_spot (x ++ back)) h.are ∙ ap first_spot (sym h.are)

pub goes_down_from : (nodes : NodesView) (n : ℕ) → nodes.first ≡ Some n → GoesDown nodes n
goes_down_from nodes n f read root s sound = by_root root s.rooted sound refl
  where
    by_root : (r : Status) → IsRoot nodes.first r → IsSound [] r → root ≡ r → IsDownTo root n
    by_root (Pending hold entry) h k e = absurd h
    by_root (Closed credit) h k e = absurd (let z : None ≡ Some n = sym h ∙ f in cc z)
    by_root (Inner (Numbered m kind others)) h k e =
        let same : n ≡ m = (let z : Some n ≡ Some m = sym f ∙ h in cc z) in
        subst (IsDownTo root) (sym same) (record {
          up = [];
          kind = kind;
          alternatives = others;
          way = [];
          same = e;
          sound = k;
          first = ap (λ (x : Status). first_spot (pending_of x)) e;
        })

pub no_first : (nodes : NodesView) → nodes.first ≡ None → IsLeftmost nodes None
no_first nodes f read root s sound = by_root root s.rooted refl
  where
    by_root : (r : Status) → IsRoot nodes.first r → root ≡ r → option_map place_of_spot (first_spot (pending_of root)) ≡ None
    by_root (Pending hold entry) h e = absurd h
    by_root (Closed credit) h e = ap (λ (x : Status). option_map place_of_spot (first_spot (pending_of x))) e
    by_root (Inner node) h e = absurd (let z : Some (node_number node) ≡ None = sym h ∙ f in cc z)

-- nothing is open at the current node
pub nothing_down : (nodes : NodesView) (n : ℕ) → GoesDown nodes n → open_first nodes.rows n ≡ None → IsLeftmost nodes None
nothing_down nodes n g e read root s sound =
    let d = g read root s sound in
    let cells = cells_down nodes read root n s d in
    let none_open : open_index 0 (cells_of d.alternatives) ≡ None = no_place (open_index 0 (cells_of d.alternatives))
    (ap (λ (x : List (ℕ × AlternativeCell)). option_map (place_on n) (open_index 0 x)) (sym cells) ∙ e) in
    let h = subst (IsFirst d.up n d.kind d.alternatives (pending_among d.up n d.kind [] d.alternatives)) none_open (first_among d.up n d.kind [] d.alternatives) in
    ap (option_map place_of_spot) (d.first ∙ ap first_spot h)
  where
    no_place : (o : Option ℕ) → option_map (place_on n) o ≡ None → o ≡ None
    no_place None e = refl
    no_place (Some j) e = absurd (cc e)

-- what is first at the current node
module _ (nodes : NodesView) (n : ℕ) (a : Place) (first : open_first nodes.rows n ≡ Some a) (read : Reading) (root : Status) (s : IsTableOf nodes read root)
    (d : IsDownTo root n) where
  index_is : open_index 0 (cells_of d.alternatives) ≡ Some a.index
  index_is = by_index (open_index 0 (cells_of d.alternatives))
      (ap (λ (x : List (ℕ × AlternativeCell)). option_map (place_on n) (open_index 0 x)) (sym (cells_down nodes read root n s d)) ∙ first)
    where
      by_index : (o : Option ℕ) → option_map (place_on n) o ≡ Some a → o ≡ Some a.index
      by_index None e = absurd (cc e)
      by_index (Some j) e = ap Some (ap index_or e)
        where
          index_or : Option Place → ℕ
          index_or None = 0
          index_or (Some p) = p.index

  node_is : n ≡ a.node
  node_is = by_index (open_index 0 (cells_of d.alternatives))
      (ap (λ (x : List (ℕ × AlternativeCell)). option_map (place_on n) (open_index 0 x)) (sym (cells_down nodes read root n s d)) ∙ first)
    where
      by_index : (o : Option ℕ) → option_map (place_on n) o ≡ Some a → n ≡ a.node
      by_index None e = absurd (cc e)
      by_index (Some j) e = ap node_or e
        where
          node_or : Option Place → ℕ
          node_or None = 0
          node_or (Some p) = p.node

  found_first : IsFirstOf d.up n d.kind d.alternatives (pending_among d.up n d.kind [] d.alternatives) a.index
  found_first = subst (IsFirst d.up n d.kind d.alternatives (pending_among d.up n d.kind [] d.alternatives)) index_is (first_among d.up n d.kind [] d.alternatives)

-- the level of what is first
abbrev first_level : (up : List Level) (n : ℕ) (kind : Kind) (whole : Alternatives) (spots : List Spot) (j : ℕ) → IsFirstOf up n kind whole spots j → Level
first_level up n kind whole spots j f = record { number = n; kind = kind; left = f.left; spent = f.spent; right = f.right }

module _ (nodes : NodesView) (n : ℕ) (a : Place) (read : Reading) (root : Status) (s : IsTableOf nodes read root) (d : IsDownTo root n)
    (same_node : n ≡ a.node) (f : IsFirstOf d.up n d.kind d.alternatives (pending_among d.up n d.kind [] d.alternatives) a.index) where
  at_first : place_at (first_level d.up n d.kind d.alternatives (pending_among d.up n d.kind [] d.alternatives) a.index f) ≡ a
  at_first = ap (λ (i : ℕ). record { node = n; index = i }) f.index ∙ ap (λ (k : ℕ). record { node = k; index = a.index }) same_node

  whole_is : root ≡ plug (first_level d.up n d.kind d.alternatives (pending_among d.up n d.kind [] d.alternatives) a.index f ∷ d.up) f.status
  whole_is = d.same ∙ ap (λ (x : Alternatives). plug d.up (Inner (Numbered n d.kind x))) f.is

  cell_first : cell_at nodes.rows a ≡ Some (f.spent, cell_of f.status)
  cell_first = ap (cell_at nodes.rows) (sym at_first)
      ∙ cell_here nodes read (first_level d.up n d.kind d.alternatives (pending_among d.up n d.kind [] d.alternatives) a.index f) d.up f.status
      (subst (IsTableOf nodes read) whole_is s)

  first_entry : inner_at (cell_at nodes.rows a) ≡ None → option_map place_of_spot (first_spot (pending_of root)) ≡ Some a
  first_entry e = by_status f.status refl
    where
      by_status : (t : Status) → f.status ≡ t → option_map place_of_spot (first_spot (pending_of root)) ≡ Some a
      by_status (Closed credit) is = absurd (let z : true ≡ false = ap (λ (x : Status). is_shut (cell_of x)) (sym is) ∙ f.shut in cc z)
      by_status (Inner node) is = absurd (let z : Some (node_number node) ≡ None = ap (λ (x : Status). inner_of (cell_of x)) (sym is)
          ∙ (ap inner_at (sym cell_first) ∙ e) in cc z)
      by_status (Pending hold entry) is =
          ap (option_map place_of_spot) (d.first ∙ (ap first_spot f.spots_are
          ∙ ap (λ (x : Status). first_spot (pending_among d.up n d.kind f.left (alternative f.spent x f.right))) is))
          ∙ ap Some at_first

  further_down : (m : ℕ) → inner_at (cell_at nodes.rows a) ≡ Some m → IsDownTo root m
  further_down m e = by_status f.status refl
    where
      inner_is : (t : Status) → f.status ≡ t → inner_of (cell_of t) ≡ Some m
      inner_is t is = ap (λ (x : Status). inner_of (cell_of x)) (sym is) ∙ (ap inner_at (sym cell_first) ∙ e)

      sound_first : IsSound (record { node = n; index = length f.left; kind = d.kind } ∷ d.way) f.status
      sound_first = (sound-right d.way n d.kind f.left (alternative f.spent f.status f.right)
          (subst (AreSound d.way n d.kind 0) f.is d.sound.3)).0

      by_status : (t : Status) → f.status ≡ t → IsDownTo root m
      by_status (Closed credit) is = absurd (let z = inner_is (Closed credit) is in cc z)
      by_status (Pending hold entry) is = absurd (let z = inner_is (Pending hold entry) is in cc z)
      by_status (Inner (Numbered k kind others)) is =
          let same : k ≡ m = (let z = inner_is (Inner (Numbered k kind others)) is in cc z) in
          let step : Step = record { node = n; index = length f.left; kind = d.kind } in
          let sound : IsSoundNode (step ∷ d.way) (Numbered k kind others) = subst (IsSound (step ∷ d.way)) is sound_first in
          let level = first_level d.up n d.kind d.alternatives (pending_among d.up n d.kind [] d.alternatives) a.index f in
          subst (IsDownTo root) same (record {
            up = level ∷ d.up;
            kind = kind;
            alternatives = others;
            way = step ∷ d.way;
            same = whole_is ∙ ap (plug (level ∷ d.up)) is;
            sound = sound;
            first = d.first ∙ (ap first_spot f.spots_are
                ∙ (ap (λ (x : Status). first_spot (pending_among d.up n d.kind f.left (alternative f.spent x f.right))) is
                ∙ first_spot-front (pending_in (level ∷ d.up) (Numbered k kind others)) _ (some_in (level ∷ d.up) step d.way (Numbered k kind others) sound)));
          })

-- the first is an entry, or a node that is next
pub is_leftmost : (nodes : NodesView) (n : ℕ) (a : Place) → GoesDown nodes n → open_first nodes.rows n ≡ Some a → inner_at (cell_at nodes.rows a) ≡ None
    → IsLeftmost nodes (Some a)
is_leftmost nodes n a g first e read root s sound =
    let d = g read root s sound in
    first_entry nodes n a read root s d (node_is nodes n a first read root s d) (found_first nodes n a first read root s d) e

pub goes_down : (nodes : NodesView) (n : ℕ) (a : Place) (m : ℕ) → GoesDown nodes n → open_first nodes.rows n ≡ Some a
    → inner_at (cell_at nodes.rows a) ≡ Some m → GoesDown nodes m
goes_down nodes n a m g first e read root s sound =
    let d = g read root s sound in
    further_down nodes n a read root s d (node_is nodes n a first read root s d) (found_first nodes n a first read root s d) m e
