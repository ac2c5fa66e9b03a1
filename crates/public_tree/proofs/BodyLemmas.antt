-- Bodies by their index.
use Rattle.std.proofs.Common.{◌≡◌, ℕ, zero, suc, ◌+◌, ◌<◌, List, [], ◌∷◌, ◌++◌, length, take, get_or, sym, ap, ◌∙◌, subst, arith}
use Rattle.std.proofs.Math.Seq.{take-suc}
use Rattle.std.proofs.lemmas.List.{map-append}
use Rattle.std.specs.Arc.{arc_value}
use Rattle.std.specs.Global.{Global}
use Rattle.std.specs.declared.sync.Arc.{Arc}
use Rattle.tree_nodes.specs.Bodies.{IsWhole, body_view}
use Rattle.tree_nodes.specs.declared.body.NodeBody.{NodeBody}
use Rattle.public_tree.specs.Publishing.{bodies_view, AreWhole}

pub whole_at : (items : List (Arc NodeBody Global)) (i : ℕ) (x : Arc NodeBody Global) → AreWhole (bodies_view items) → i < length items → x ≡ get_or items i x
    → IsWhole (body_view (arc_value x))
whole_at [] i x w l e = absurd (omega (arith, l))
whole_at (y ∷ items) zero x w l e = subst (λ (z : Arc NodeBody Global). IsWhole (body_view (arc_value z))) (sym e) w.0
whole_at (y ∷ items) (suc i) x w l e = whole_at items i x w.1 (omega (arith, l)) e

-- one body more
pub next_bodies : (items : List (Arc NodeBody Global)) (i : ℕ) (x : Arc NodeBody Global) → i < length items → x ≡ get_or items i x
    → bodies_view (take (i + 1) items) ≡ bodies_view (take i items) ++ body_view (arc_value x) ∷ []
next_bodies items i x l e =
    let one : i + 1 ≡ suc i = omega arith in
    ap (λ (n : ℕ). bodies_view (take n items)) one
    ∙ (ap bodies_view (take-suc items i x l)
    ∙ (map-append (λ (b : Arc NodeBody Global). body_view (arc_value b)) (take i items) (get_or items i x ∷ [])
    ∙ ap (λ (y : Arc NodeBody Global). bodies_view (take i items) ++ body_view (arc_value y) ∷ []) (sym e)))
