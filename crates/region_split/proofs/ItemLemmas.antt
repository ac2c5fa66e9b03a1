-- Items that are put before what follows at a position.
use Rattle.std.proofs.Common.{◌≡◌, ℕ, ◌≤◌, List, [], ◌∷◌, ◌++◌, append_assoc, length, map, refl, sym, ap, ap₂, ◌∙◌, subst, arith}
use Rattle.au_model.specs.Terms.Named.{NamedTerm}
use Rattle.run_model.specs.Machine.Items.{Item, Continuation, before, resolve_continuation}
use Rattle.cell_store.specs.StoreView.{StoreView, text_in}
use Rattle.region_split.specs.Frames.{LeftItem, OwnItem, item_in, AreLeftScoped}
use Rattle.region_split.specs.ChoicePoints.{Standing, by_height, IsMarkOf, AreMarked}
use Rattle.region_split.specs.Regions.{RegionView, left_here, heights_of, continuation_here, IsPositionOver, IsItemHere}
use Rattle.region_split.specs.StackOperations.{AddsFrame, PutsBefore, item_here}
use Rattle.region_split.specs.declared.frame.FrameBody.TheVariants.{One}
use Rattle.region_split.specs.declared.frame.FrameItem.{FrameItem}
use Rattle.region_split.specs.declared.frame.Position.{Position}
use Rattle.region_split.proofs.ScopeLemmas.{scoped_more}

-- what is left by heights, in a store
abbrev left_by_heights : List NamedTerm → List ℕ → StoreView → List LeftItem → Continuation ℕ
left_by_heights named heights st left = resolve_continuation st.now.bound (record { items = map (by_height heights) (map (item_in (text_in st)) left); named = named; next = st.now.next })

-- a position in a wider scope
pub position_more : (r : RegionView) (cut more : ℕ) (p : Position) → cut ≤ more → IsPositionOver r cut p → IsPositionOver r more p
position_more r cut more p le i = record { frame = i.frame; scoped = scoped_more (text_in r.store) r.store.now.next cut more (left_here r p) le i.scoped; marked = i.marked }

-- a frame of one item
pub item_put : (r new : RegionView) (item : FrameItem) (cut number : ℕ) (after : Position) → IsItemHere r item → IsMarkOf r.choices cut item → IsPositionOver r cut after → AddsFrame r new (record { body = One item; cut = cut; after = after }) number
    → PutsBefore r new (item_here r item cut) cut after (record { frame = number; at = 0 })
item_put r new item cut number after there mark position a =
    let p : Position = record { frame = number; at = 0 } in
    let store : new.store ≡ r.store = ap (λ (x : RegionView). x.store) a.others in
    let left : left_here new p ≡ OwnItem item cut ∷ left_here r after = a.left 0 in
    record {
      position = record {
        frame = a.there;
        scoped = subst (AreLeftScoped (text_in new.store) new.store.now.next cut) (sym left) (subst (λ (x : StoreView). AreLeftScoped (text_in x) x.now.next cut (OwnItem item cut ∷ left_here r after)) (sym store) (omega arith, there, position.scoped));
        marked = subst (AreMarked new.choices) (sym left) (subst (λ (x : RegionView). AreMarked x.choices (OwnItem item cut ∷ left_here r after)) (sym a.others) (mark, position.marked));
      };
      goes_on = λ named.
          ap₂ (λ hs (x : StoreView). left_by_heights named hs x (left_here new p)) (ap (λ (x : Standing). x.heights) (a.stands named)) store
          ∙ ap (left_by_heights named (heights_of named r) r.store) left;
      stands = a.stands;
      older = let y = a.younger in omega (arith, y);
      keeps = a.keeps;
      others = a.others;
    }

-- nothing is put
pub nothing_put : (r : RegionView) (cut : ℕ) (after : Position) → IsPositionOver r cut after → PutsBefore r r (λ heights. []) cut after after
nothing_put r cut after i = record { position = i; goes_on = λ named. refl; stands = λ named. refl; older = omega arith; keeps = record { position = λ more p le j. j; same = λ named p le j. refl }; others = refl }

-- items before others
pub put_twice : (a b c : RegionView) (is js : List ℕ → List (Item ℕ)) (cut more : ℕ) (after p q : Position) → PutsBefore a b is cut after p → PutsBefore b c js more p q → PutsBefore a c (λ heights. js heights ++ is heights) more after q
put_twice a b c is js cut more after p q x y = record {
  position = y.position;
  goes_on = λ named.
      y.goes_on named
      ∙ (ap₂ (λ (s : Standing) f. before (js s.heights) f) (x.stands named) (x.goes_on named)
      ∙ ap (λ items. let f = continuation_here named a after in (let g : Continuation ℕ = record { items = items; named = f.named; next = f.next } in g))
      (sym (append_assoc (js (heights_of named a)) (is (heights_of named a)) (continuation_here named a after).items)));
  stands = λ named. y.stands named ∙ x.stands named;
  older = let k = x.older in let l = y.older in omega (arith, k, l);
  keeps = record {
    position = λ cut r le i. y.keeps.position cut r (let k = x.older in omega (arith, k, le)) (x.keeps.position cut r le i);
    same = λ named r le i.
        let there = x.keeps.position (length a.choices) r le i in
        let many : length a.choices ≡ length b.choices = sym (ap (λ (z : RegionView). length z.choices) x.others) in
        y.keeps.same named r (let k = x.older in omega (arith, k, le)) (subst (λ n. IsPositionOver b n r) many there) ∙ x.keeps.same named r le i;
  };
  others = y.others ∙ ap (λ (z : RegionView). record z { frames = c.frames }) x.others;
}
