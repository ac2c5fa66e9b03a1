-- An alternative whose private run leaves a result alone becomes a credit with that record.
use Rattle.std.proofs.Common.{◌≡◌, ℕ, suc, ◌-◌, ◌≤◌, ◌==◌, Bool, true, false, cond, List, [], ◌∷◌, ◌++◌, map, length, refl, sym, ap, ◌∙◌}
use Rattle.std.proofs.Common.{arith}
use Rattle.std.specs.Prelude.{◌&&◌}
use Rattle.au_model.specs.Terms.Each.{Each}
use Rattle.run_model.specs.Machine.Items.{Continuation}
use Rattle.run_model.specs.Machine.Entries.{PlainEntry}
use Rattle.tree_model.specs.Elements.{Name, Element, Credit, Plain, EndOf}
use Rattle.interleaving.specs.Erased.{erased}
use Rattle.interleaving.specs.Views.{IsBlind}
use Rattle.tree_model.specs.Levels.{Level}
use Rattle.tree_model.specs.Nodes.{FindallNode}
use Rattle.tree_model.specs.PendingLists.{way_of, step_of, step_name}
use Rattle.tree_model.specs.Ways.{is_on}
use Rattle.interleaving.proofs.ReadableLemmas.{IsReadable}
use Rattle.au_term.specs.Term.{Term}
use Rattle.run_model.specs.Machine.Items.{Item, GoalItem, CatchMark, CollectMark, RemovalItem}
use Rattle.tree_model.specs.Elements.{Catch, Findall, End}
use Rattle.interleaving.specs.HeightMachine.{HeightElement, HeightEntry}
use Rattle.interleaving.specs.Erased.{height, with_height, continuation_heights}
use Rattle.tree_model.specs.Nodes.{Kind, ChoiceNode, CatchNode, QueryNode}
use Rattle.tree_model.specs.Floors.{height_of}
use Rattle.tree_model.specs.Pruning.{is_findall}
use Rattle.tree_model.specs.PendingLists.{scope_on, findall_on}
use Rattle.tree_model.specs.Ways.{same_kind, stops_cuts, through}
use Rattle.interleaving.proofs.WayLemmas.{cond-true, cond-false, cond-same, other_number}
use Rattle.interleaving.proofs.RoundtripLemmas.{IsPath}
use Rattle.interleaving.proofs.RunSoundLemmas.{height_way}
use Rattle.au_term.proofs.LogicLemmas.{both, true_false, number_same}

more : (xs ys : List Element) → length (erased ys) ≤ length (erased (xs ++ ys))
more [] ys = omega arith
more (EndOf s ∷ xs) ys = more xs ys
more (Credit k rs ∷ xs) ys = let h = more xs ys in omega (arith, h)
more (Plain p f ∷ xs) ys = let h = more xs ys in omega (arith, h)
more (Catch s u c q p f ∷ xs) ys = let h = more xs ys in omega (arith, h)
more (Findall s u results l p f ∷ xs) ys = let h = more xs ys in omega (arith, h)
more (End p b ∷ xs) ys = let h = more xs ys in omega (arith, h)

plain_parts : (f g : Continuation ℕ) (xs ys : List HeightElement) → ◌≡◌ {A = List HeightElement} (HeightEntry (PlainEntry f) ∷ xs)
    (HeightEntry (PlainEntry g) ∷ ys) → (f ≡ g) × (xs ≡ ys)
plain_parts f g xs ys e = (cc, cc)

collect_parts : (t u : Term) (n k : ℕ) (xs ys : List (Item ℕ)) → ◌≡◌ {A = List (Item ℕ)} (CollectMark t n ∷ xs) (CollectMark u k ∷ ys)
    → (t ≡ u) × (n ≡ k)
collect_parts t u n k xs ys e = (cc, cc)

-- ends of scopes alone
abbrev pub AreEnds : List Element → Type 0
AreEnds [] = Unit {0}
AreEnds (EndOf s ∷ xs) = AreEnds xs
AreEnds (Credit k rs ∷ xs) = ⊥
AreEnds (Plain p f ∷ xs) = ⊥
AreEnds (Catch s u c r p f ∷ xs) = ⊥
AreEnds (Findall s u results l p f ∷ xs) = ⊥
AreEnds (End p b ∷ xs) = ⊥

pub ends_erased : (xs ys : List Element) → AreEnds xs → erased (xs ++ ys) ≡ erased ys
ends_erased [] ys h = refl
ends_erased (EndOf s ∷ xs) ys h = ends_erased xs ys h
ends_erased (Credit k rs ∷ xs) ys h = absurd h
ends_erased (Plain p f ∷ xs) ys h = absurd h
ends_erased (Catch s u c r p f ∷ xs) ys h = absurd h
ends_erased (Findall s u results l p f ∷ xs) ys h = absurd h
ends_erased (End p b ∷ xs) ys h = absurd h

pub ends_read : (xs ys : List Element) → AreEnds xs → IsReadable ys → IsReadable (xs ++ ys)
ends_read [] ys h r = r
ends_read (EndOf s ∷ xs) ys h r = ends_read xs ys h r
ends_read (Credit k rs ∷ xs) ys h r = absurd h
ends_read (Plain p f ∷ xs) ys h r = absurd h
ends_read (Catch s u c q p f ∷ xs) ys h r = absurd h
ends_read (Findall s u results l p f ∷ xs) ys h r = absurd h
ends_read (End p b ∷ xs) ys h r = absurd h

pub ends_blind : (inside : Name → Bool) (xs : List Element) → AreEnds xs → Each (IsBlind inside) xs
ends_blind inside [] h = tt
ends_blind inside (EndOf s ∷ xs) h = (tt, ends_blind inside xs h)
ends_blind inside (Credit k rs ∷ xs) h = absurd h
ends_blind inside (Plain p f ∷ xs) h = absurd h
ends_blind inside (Catch s u c q p f ∷ xs) h = absurd h
ends_blind inside (Findall s u results l p f ∷ xs) h = absurd h
ends_blind inside (End p b ∷ xs) h = absurd h

-- a segment that stands for nothing, and one that stands for one plain entry
no_entries : (xs ys : List Element) → length (erased (xs ++ ys)) ≡ length (erased ys) → AreEnds xs
no_entries [] ys h = tt
no_entries (EndOf s ∷ xs) ys h = no_entries xs ys h
no_entries (Credit k rs ∷ xs) ys h = absurd (omega (arith, h, more xs ys))
no_entries (Plain p f ∷ xs) ys h = absurd (omega (arith, h, more xs ys))
no_entries (Catch s u c q p f ∷ xs) ys h = absurd (omega (arith, h, more xs ys))
no_entries (Findall s u results l p f ∷ xs) ys h = absurd (omega (arith, h, more xs ys))
no_entries (End p b ∷ xs) ys h = absurd (omega (arith, h, more xs ys))

pub record OnePlain (left : List Element) (X : List Element) (g : Continuation ℕ) : Type 0 where
  pub before : List Element
  pub name : Name
  pub after : Continuation Name
  pub behind : List Element
  pub same : left ≡ before ++ (Plain name after ∷ behind)
  pub first : AreEnds before
  pub last : AreEnds behind
  pub heights : continuation_heights (height (behind ++ X)) after ≡ g

pub one_plain : (left X : List Element) (g : Continuation ℕ) → erased (left ++ X) ≡ HeightEntry (PlainEntry g) ∷ erased X
    → OnePlain left X g
one_plain [] X g e = absurd (omega (arith, ap length e))
one_plain (EndOf s ∷ left) X g e =
    let o = one_plain left X g e in
    record {
      before = EndOf s ∷ o.before;
      name = o.name;
      after = o.after;
      behind = o.behind;
      same = ap (λ l. EndOf s ∷ l) o.same;
      first
          = o.first;
      last = o.last;
      heights = o.heights;
    }
one_plain (Plain p f ∷ left) X g e =
    let parts = plain_parts (continuation_heights (height (left ++ X)) f) g (erased (left ++ X)) (erased X) e in
    record {
      before = [];
      name = p;
      after = f;
      behind = left;
      same = refl;
      first = tt;
      last = no_entries left X (ap length parts.1);
      heights = parts.0;
    }
one_plain (Credit k rs ∷ left) X g e = absurd cc
one_plain (Catch s u c q p f ∷ left) X g e = absurd cc
one_plain (Findall s u results l p f ∷ left) X g e = absurd cc
one_plain (End p b ∷ left) X g e = absurd cc

-- its mark
pub record MarkFirst (f : Continuation Name) (height : Name → ℕ) (t : Term) (h : ℕ) : Type 0 where
  pub scope : Name
  pub rest : List (Item Name)
  pub same : f.items ≡ CollectMark t scope ∷ rest
  pub high : height scope - 1 ≡ h

pub mark_first : (items : List (Item Name)) (height : Name → ℕ) (t : Term) (h : ℕ) (gs : List (Item ℕ)) → map (with_height height) items
    ≡ CollectMark t h ∷ gs → (s : Name) × (rest : List (Item Name)) × (items ≡ CollectMark t s ∷ rest) × (height s - 1 ≡ h)
mark_first [] height t h gs e = absurd cc
mark_first (GoalItem u s ∷ items) height t h gs e = absurd cc
mark_first (CatchMark s ∷ items) height t h gs e = absurd cc
mark_first (RemovalItem n ∷ items) height t h gs e = absurd cc
mark_first (CollectMark u s ∷ items) height t h gs e =
    let parts = collect_parts u t (height s - 1) h (map (with_height height) items) gs e in
    (s, items, ap (λ x. CollectMark x s ∷ items) parts.0, parts.1)

-- the findall whose goal side a result leaves is the innermost one
pub record FindallHere (levels : List Level) (h : ℕ) : Type 0 where
  pub node : ℕ
  pub on : is_on (way_of levels) node ≡ true
  pub same : findall_on (way_of levels) ≡ 0 ∷ node ∷ []
  pub scope : scope_on (way_of levels) node ≡ 0 ∷ node ∷ []
  pub high : height_of levels node ≡ h

is_zero : (n : ℕ) → (n == 0) ≡ true → n ≡ 0
is_zero n e = grind arith

gathers : (k : Kind) → same_kind k FindallNode ≡ true → is_findall k ≡ true
gathers FindallNode e = refl
gathers ChoiceNode e = absurd (true_false (sym e))
gathers CatchNode e = absurd (true_false (sym e))
gathers QueryNode e = absurd (true_false (sym e))

passes_findall : (k : Kind) (b : Bool) (x y : Name) → (b && stops_cuts k) ≡ false → cond (is_findall k) (cond b x y) y ≡ y
passes_findall FindallNode true x y e = absurd (true_false e)
passes_findall FindallNode false x y e = refl
passes_findall ChoiceNode b x y e = refl
passes_findall CatchNode b x y e = refl
passes_findall QueryNode b x y e = refl

pub findall_here : (levels : List Level) → IsPath (way_of levels) → (h : ℕ) → through FindallNode (height_way levels) h ≡ true
    → FindallHere levels h
findall_here [] p h t = absurd (true_false (sym t))
findall_here (v ∷ up) p h t = go (suc (length up) == h) refl ((length v.left == 0) && stops_cuts v.kind) refl (findall_here up p.1 h) t
  where
    go : (b : Bool) → (suc (length up) == h) ≡ b → (d : Bool) → ((length v.left == 0) && stops_cuts v.kind) ≡ d
        → (through FindallNode (height_way up) h ≡ true → FindallHere up h) →
        cond b ((length v.left == 0) && same_kind v.kind FindallNode) (cond d false (through FindallNode (height_way up) h)) ≡ true
        → FindallHere (v ∷ up) h
    go true e d k f j =
        let parts = both (length v.left == 0) (same_kind v.kind FindallNode) j in
        let zero_left = is_zero (length v.left) parts.0 in
        let top : suc (length up) ≡ h = grind arith in
        record {
          node = v.number;
          on = cond-true (v.number == v.number) true _ (number_same v.number);
          same = cond-true (is_findall v.kind) (cond (length v.left == 0) (0 ∷ v.number ∷ []) (findall_on (way_of up)))
              (findall_on (way_of up)) (gathers v.kind parts.1) ∙ cond-true (length v.left == 0) (0 ∷ v.number ∷ [])
              (findall_on (way_of up)) parts.0;
          scope = cond-true (v.number == v.number) (step_name (step_of v)) (scope_on (way_of up) v.number) (number_same v.number)
              ∙ ap (λ n. n ∷ v.number ∷ []) zero_left;
          high = cond-true (v.number == v.number) (suc (length up)) (height_of up v.number) (number_same v.number) ∙ top;
        }
    go false e true k f j = absurd (true_false (sym j))
    go false e false k f j =
        let r = f j in
        let off : (v.number == r.node) ≡ false = other_number (way_of up) v.number r.node p.0 r.on (v.number == r.node) refl in
        record {
          node = r.node;
          on = cond-same (v.number == r.node) true (is_on (way_of up) r.node) r.on;
          same = passes_findall v.kind (length v.left == 0) (0 ∷ v.number ∷ []) (findall_on (way_of up)) k ∙ r.same;
          scope = cond-false (v.number == r.node) (step_name (step_of v)) (scope_on (way_of up) r.node) off ∙ r.scope;
          high = cond-false (v.number == r.node) (suc (length up)) (height_of up r.node) off ∙ r.high;
        }
