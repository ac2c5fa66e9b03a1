-- Two ways up, and the segments that were left on them.
use Rattle.std.proofs.Common.{◌≡◌, ◌≢◌, ℕ, ◌<◌, ◌==◌, Bool, true, false, cond, List, [], ◌∷◌, ◌++◌, Some, None, refl, sym, ap, ◌∙◌, subst, arith}
use Rattle.std.specs.Prelude.{reverse}
use Rattle.std.proofs.lemmas.List.{reverse-append, reverse-reverse}
use Rattle.au_term.specs.declared.segment.Segment.{Segment}
use Rattle.tree_model.specs.Nodes.{Status}
use Rattle.tree_model.specs.Levels.{Level, plug, Place, place_at}
use Rattle.tree_model.specs.Orders.{path_of}
use Rattle.tree_nodes.specs.Bodies.{Reading}
use Rattle.tree_nodes.specs.Rows.{Rows, node_parent}
use Rattle.tree_nodes.specs.TreeTables.{NodesView, IsTableOf}
use Rattle.tree_nodes.proofs.MeetLemmas.{AreApart, AreSides, path_down, sides_begin, sides_turned, first_up, never_stuck, path_one, path_other}
use Rattle.node_trail.specs.Trails.{node_segment, place_segment, segments_down, segments_below, HeadsApart, IsPathBetween}

pub record AreTrails (rows : Rows) (root : Status) (one other : List Level) (x y : Place) (leave enter : List Segment) : Type 0 where
  pub sides : AreSides root one other x y
  pub left : leave ≡ reverse (segments_down rows (path_down sides.first.out))
  pub entered : enter ≡ reverse (segments_down rows (path_down sides.second.out))

-- from two places the ways have come to these
abbrev pub Trails : NodesView → Place → Place → Place → Place → List Segment → List Segment → Type 0
Trails nodes a b x y leave enter =
    (read : Reading) (v : Level) (up : List Level) (s : Status) (w : Level) (over : List Level) (t : Status) → place_at v ≡ a → place_at w ≡ b
    → IsTableOf nodes read (plug (v ∷ up) s) → plug (v ∷ up) s ≡ plug (w ∷ over) t
    → AreTrails nodes.rows (plug (v ∷ up) s) (v ∷ up) (w ∷ over) x y leave enter

pub trails_begin : (nodes : NodesView) (a b : Place) → Trails nodes a b a b [] []
trails_begin nodes a b read v up s w over t e f st same =
    let k : AreTrails nodes.rows (plug (v ∷ up) s) (v ∷ up) (w ∷ over) (place_at v) (place_at w) [] [] = record {
      sides = sides_begin (plug (v ∷ up) s) v up s w over t refl same;
      left = refl;
      entered = refl;
    } in
    subst (λ (p : Place). AreTrails nodes.rows (plug (v ∷ up) s) (v ∷ up) (w ∷ over) p b [] []) e
    (subst (λ (p : Place). AreTrails nodes.rows (plug (v ∷ up) s) (v ∷ up) (w ∷ over) (place_at v) p [] []) f k)

trails_turned : (rows : Rows) (root : Status) (one other : List Level) (x y : Place) (leave enter : List Segment)
    → AreTrails rows root one other x y leave enter → AreTrails rows root other one y x enter leave
trails_turned rows root one other x y leave enter k = record {
  sides = sides_turned root one other x y k.sides;
  left = k.entered;
  entered = k.left;
}

one_more : (rows : Rows) (at x : Place) (below : List Place) (old new : List Segment) → at ≡ x → old ≡ reverse (segments_down rows below)
    → new ≡ old ++ place_segment rows x ∷ node_segment rows x.node ∷ [] → new ≡ reverse (segments_down rows (at ∷ below))
one_more rows at x below old new e f g =
    g ∙ (ap (λ (l : List Segment). l ++ place_segment rows x ∷ node_segment rows x.node ∷ []) f
    ∙ (ap (λ (p : Place). reverse (segments_down rows below) ++ place_segment rows p ∷ node_segment rows p.node ∷ []) (sym e)
    ∙ sym (reverse-append (node_segment rows at.node ∷ place_segment rows at ∷ []) (segments_down rows below))))

one_up : (nodes : NodesView) (read : Reading) (root : Status) (one other : List Level) (x y above : Place) (leave enter new : List Segment)
    → IsTableOf nodes read root → AreTrails nodes.rows root one other x y leave enter → y.node < x.node → node_parent nodes.rows x.node ≡ Some (Some above)
    → new ≡ leave ++ place_segment nodes.rows x ∷ node_segment nodes.rows x.node ∷ [] → AreTrails nodes.rows root one other above y new enter
one_up nodes read root one other x y above leave enter new st k l p g = record {
  sides = first_up nodes read root one other x y above st k.sides l p;
  left = one_more nodes.rows (place_at k.sides.first.level) x (path_down k.sides.first.out) leave new k.sides.first.at k.left g;
  entered = k.entered;
}

pub trails_left : (nodes : NodesView) (a b x y above : Place) (leave enter new : List Segment) → Trails nodes a b x y leave enter → y.node < x.node
    → node_parent nodes.rows x.node ≡ Some (Some above) → new ≡ leave ++ place_segment nodes.rows x ∷ node_segment nodes.rows x.node ∷ []
    → Trails nodes a b above y new enter
trails_left nodes a b x y above leave enter new m l p g read v up s w over t e f st same =
    one_up nodes read (plug (v ∷ up) s) (v ∷ up) (w ∷ over) x y above leave enter new st (m read v up s w over t e f st same) l p g

pub trails_entered : (nodes : NodesView) (a b x y above : Place) (leave enter new : List Segment) → Trails nodes a b x y leave enter → x.node < y.node
    → node_parent nodes.rows y.node ≡ Some (Some above) → new ≡ enter ++ place_segment nodes.rows y ∷ node_segment nodes.rows y.node ∷ []
    → Trails nodes a b x above leave new
trails_entered nodes a b x y above leave enter new m l p g read v up s w over t e f st same =
    let k = trails_turned nodes.rows (plug (v ∷ up) s) (v ∷ up) (w ∷ over) x y leave enter (m read v up s w over t e f st same) in
    let n = one_up nodes read (plug (v ∷ up) s) (w ∷ over) (v ∷ up) y x above enter leave new st k l p g in
    trails_turned nodes.rows (plug (v ∷ up) s) (w ∷ over) (v ∷ up) above x new leave n

-- neither comes to the first node while the other is above it
pub left_on : (nodes : NodesView) (a b x y : Place) (leave enter one two : List Segment) → Trails nodes a b x y leave enter → y.node < x.node
    → node_parent nodes.rows x.node ≡ Some None → IsPathBetween nodes a b one two
left_on nodes a b x y leave enter one two m l p read v up s w over t e f st same =
    let k = m read v up s w over t e f st same in
    absurd (never_stuck nodes read (plug (v ∷ up) s) (v ∷ up) (w ∷ over) x y st k.sides l p)

pub entered_on : (nodes : NodesView) (a b x y : Place) (leave enter one two : List Segment) → Trails nodes a b x y leave enter → x.node < y.node
    → node_parent nodes.rows y.node ≡ Some None → IsPathBetween nodes a b one two
entered_on nodes a b x y leave enter one two m l p read v up s w over t e f st same =
    let k = m read v up s w over t e f st same in
    absurd (never_stuck nodes read (plug (v ∷ up) s) (w ∷ over) (v ∷ up) y x st (sides_turned (plug (v ∷ up) s) (v ∷ up) (w ∷ over) x y k.sides) l p)

heads_apart : (one two : List Level) → AreApart one two → HeadsApart (path_down one) (path_down two)
heads_apart [] two h = tt
heads_apart (x ∷ one) [] h = tt
heads_apart (x ∷ one) (y ∷ two) h = h

below_same : (rows : Rows) (at other : Place) (below : List Place) → at.index == other.index ≡ true
    → segments_below rows at other below ≡ segments_down rows below
below_same rows at other below e = ap (λ (c : Bool). cond c (segments_down rows below) (place_segment rows at ∷ segments_down rows below)) e

below_other : (rows : Rows) (at other : Place) (below : List Place) → at.index == other.index ≡ false
    → segments_below rows at other below ≡ place_segment rows at ∷ segments_down rows below
below_other rows at other below e = ap (λ (c : Bool). cond c (segments_down rows below) (place_segment rows at ∷ segments_down rows below)) e

same_test : (i j : ℕ) → i ≡ j → i == j ≡ true
same_test i j e = grind arith

other_test : (i j : ℕ) → i ≢ j → i == j ≡ false
other_test i j e = grind arith

module _ (nodes : NodesView) (a b x y : Place) (leave enter : List Segment) (m : Trails nodes a b x y leave enter) (met : x.node ≡ y.node) where
  parting : (one two : List Segment)
      → ((at other : Place) (below : List Place) → at ≡ x → other ≡ y → leave ≡ reverse (segments_down nodes.rows below) → one ≡ reverse (segments_below nodes.rows at other below))
      → ((at other : Place) (below : List Place) → at ≡ x → other ≡ y → enter ≡ reverse (segments_down nodes.rows below) → two ≡ segments_below nodes.rows other at below)
      → IsPathBetween nodes a b one two
  parting one two left entered read v up s w over t e f st same =
      let k = m read v up s w over t e f st same in
      record {
        front = path_of k.sides.first.above;
        at = place_at k.sides.first.level;
        other = place_at k.sides.second.level;
        below = path_down k.sides.first.out;
        beneath = path_down k.sides.second.out;
        first = path_one nodes read (plug (v ∷ up) s) v up s w over t st refl same x y k.sides met;
        second = path_other nodes read (plug (v ∷ up) s) v up s w over t st refl same x y k.sides met;
        node = ap (λ (q : Place). q.node) k.sides.first.at ∙ (met ∙ ap (λ (q : Place). q.node) (sym k.sides.second.at));
        apart = heads_apart k.sides.first.out k.sides.second.out k.sides.apart;
        left = left (place_at k.sides.first.level) (place_at k.sides.second.level) (path_down k.sides.first.out) k.sides.first.at k.sides.second.at k.left;
        entered = entered (place_at k.sides.first.level) (place_at k.sides.second.level) (path_down k.sides.second.out) k.sides.first.at k.sides.second.at k.entered;
      }

  index_same : (at other : Place) → at ≡ x → other ≡ y → x.index ≡ y.index → at.index ≡ other.index
  index_same at other e f h = ap (λ (q : Place). q.index) e ∙ (h ∙ ap (λ (q : Place). q.index) (sym f))

  index_other : (at other : Place) → at ≡ x → other ≡ y → x.index ≢ y.index → at.index ≢ other.index
  index_other at other e f h = λ g. h (ap (λ (q : Place). q.index) (sym e) ∙ (g ∙ ap (λ (q : Place). q.index) f))

  -- they have met at an alternative
  pub at_one : (one two : List Segment) → x.index ≡ y.index → one ≡ leave → two ≡ reverse enter → IsPathBetween nodes a b one two
  at_one one two h l r = parting one two
      (λ (at other : Place) (below : List Place) (e : at ≡ x) (f : other ≡ y) (g : leave ≡ reverse (segments_down nodes.rows below)).
      l ∙ (g ∙ ap reverse (sym (below_same nodes.rows at other below (same_test at.index other.index (index_same at other e f h))))))
      (λ (at other : Place) (below : List Place) (e : at ≡ x) (f : other ≡ y) (g : enter ≡ reverse (segments_down nodes.rows below)).
      r ∙ (ap reverse g ∙ (reverse-reverse (segments_down nodes.rows below)
      ∙ sym (below_same nodes.rows other at below (same_test other.index at.index (sym (index_same at other e f h)))))))

  -- at two alternatives of a node
  pub at_two : (one two : List Segment) → x.index ≢ y.index → one ≡ leave ++ place_segment nodes.rows x ∷ []
      → two ≡ reverse (enter ++ place_segment nodes.rows y ∷ []) → IsPathBetween nodes a b one two
  at_two one two h l r = parting one two
      (λ (at other : Place) (below : List Place) (e : at ≡ x) (f : other ≡ y) (g : leave ≡ reverse (segments_down nodes.rows below)).
      l ∙ (ap (λ (s : List Segment). s ++ place_segment nodes.rows x ∷ []) g
      ∙ (ap (λ (p : Place). reverse (segments_down nodes.rows below) ++ place_segment nodes.rows p ∷ []) (sym e)
      ∙ (sym (reverse-append (place_segment nodes.rows at ∷ []) (segments_down nodes.rows below))
      ∙ ap reverse (sym (below_other nodes.rows at other below (other_test at.index other.index (index_other at other e f h))))))))
      (λ (at other : Place) (below : List Place) (e : at ≡ x) (f : other ≡ y) (g : enter ≡ reverse (segments_down nodes.rows below)).
      r ∙ (ap (λ (s : List Segment). reverse (s ++ place_segment nodes.rows y ∷ [])) g
      ∙ (ap (λ (p : Place). reverse (reverse (segments_down nodes.rows below) ++ place_segment nodes.rows p ∷ [])) (sym f)
      ∙ (ap reverse (sym (reverse-append (place_segment nodes.rows other ∷ []) (segments_down nodes.rows below)))
      ∙ (reverse-reverse (place_segment nodes.rows other ∷ segments_down nodes.rows below)
      ∙ sym (below_other nodes.rows other at below (other_test other.index at.index (λ k. index_other at other e f h (sym k)))))))))
