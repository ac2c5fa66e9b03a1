-- The segment of the list that a cut to a node of the branch concerns: all below the node's alternative, and with the
-- first one, what stands to its right at the node.
use Rattle.std.proofs.Common.{◌≡◌, ℕ, suc, ◌≤◌, ◌==◌, Bool, true, false, List, [], ◌∷◌, ◌++◌, length, refl, sym, ap, ◌∙◌, subst, arith}
use Rattle.std.specs.Prelude.{◌||◌}
use Rattle.au_model.specs.Terms.Each.{Each}
use Rattle.run_model.specs.Machine.Items.{Item, GoalItem, CatchMark, CollectMark, RemovalItem}
use Rattle.run_model.specs.Machine.Entries.{Entry, PlainEntry, CatchEntry, FindallEntry, EndEntry}
use Rattle.tree_model.specs.Nodes.{Kind, Ready, TakenBy, Waiting, Dormant, Node, Numbered, Alternatives, none, alternative, Status}
use Rattle.tree_model.specs.Nodes.{Pending, Inner, Closed}
use Rattle.tree_model.specs.Levels.{Level}
use Rattle.tree_model.specs.PendingLists.{Step, Way, way_of, element_on, list_in, list_among, list_below, list_left, front_of, back_of}
use Rattle.tree_model.specs.SoundTrees.{one_if, count_in, count_among, count_below, IsOpen}
use Rattle.tree_model.specs.Elements.{Name, Record, Element, Credit, Plain, EndOf, Catch, Findall, End}
use Rattle.tree_model.proofs.CountLemmas.{count_around}
use Rattle.interleaving.specs.Roots.{extends, rooted}
use Rattle.interleaving.specs.Views.{IsGrown, IsItemApart, IsRecordApart, IsBlind, IsInner, IsUnder}
use Rattle.interleaving.proofs.ContextLemmas.{IsAround}
use Rattle.interleaving.proofs.AppendLemmas.{each-append}
use Rattle.interleaving.proofs.RootLemmas.{are_distinguished}
use Rattle.interleaving.proofs.NamingLemmas.{same-itself}
use Rattle.interleaving.proofs.BesideLemmas.{Out, out_more}
use Rattle.interleaving.proofs.ClosingSoundLemmas.{IsFree}
use Rattle.interleaving.proofs.BaredLemmas.{made_at, made_grown}
use Rattle.interleaving.proofs.SideLemmas.{at_least, out_other, out_index, is_old, front_blind as made_front_blind}
use Rattle.interleaving.proofs.LowerListLemmas.{among_inner}
use Rattle.interleaving.proofs.UpperBlindLemmas.{is_free_of, free_zero, zero_free, upper_front, upper_back, blind_is_under}
use Rattle.au_model.proofs.ApplyLemmas.{or_left, or_right}
use Rattle.au_term.proofs.LogicLemmas.{false_true, none_true, number_same}

-- the parts of the list round the segment
pub record CutPart (w : Level) (up : List Level) : Type 0 where
  pub inside : Name → Bool
  pub ok : ℕ → Bool
  pub right : List Element
  pub under : List Element
  pub grown : IsGrown inside
  pub front : Each (IsBlind inside) (front_of (w ∷ up))
  pub named : (s : Name) → rooted ok s ≡ true → inside s ≡ true
  pub free : (m : ℕ) → count_around m (w ∷ up) ≡ 0 → ok m ≡ true
  pub scope : inside (length w.left ∷ w.number ∷ []) ≡ true
  pub parted : list_among (way_of up) w.number w.kind (suc (length w.left)) w.right ++ back_of up ≡ right ++ under
  pub inner : Each (IsInner inside) right
  pub beyond : Each (IsUnder inside) under

module _ (a b : Name → Bool) where
  both_rows : (rs : List Record) → Each (IsRecordApart a) rs → Each (IsRecordApart b) rs → Each (IsRecordApart (λ s. a s || b s)) rs
  both_rows [] h k = tt
  both_rows (r ∷ rs) h k = (none_true (a r.0) (b r.0) h.0 k.0, both_rows rs h.1 k.1)

  both_items : (items : List (Item Name)) → Each (IsItemApart a) items → Each (IsItemApart b) items
      → Each (IsItemApart (λ s. a s || b s)) items
  both_items [] h k = tt
  both_items (GoalItem t s ∷ items) h k = (none_true (a s) (b s) h.0 k.0, both_items items h.1 k.1)
  both_items (CatchMark s ∷ items) h k = (none_true (a s) (b s) h.0 k.0, both_items items h.1 k.1)
  both_items (CollectMark t s ∷ items) h k = (none_true (a s) (b s) h.0 k.0, both_items items h.1 k.1)
  both_items (RemovalItem n ∷ items) h k = (tt, both_items items h.1 k.1)

  pub both_blind : (xs : List Element) → Each (IsBlind a) xs → Each (IsBlind b) xs → Each (IsBlind (λ s. a s || b s)) xs
  both_blind [] h k = tt
  both_blind (Credit n rs ∷ xs) h k = (both_rows rs h.0 k.0, both_blind xs h.1 k.1)
  both_blind (Plain p f ∷ xs) h k = (
    (λ more. none_true (a (more ++ p)) (b (more ++ p)) (h.0.0 more) (k.0.0 more), both_items f.items h.0.1 k.0.1),
    both_blind xs
        h.1 k.1,
  )
  both_blind (EndOf s ∷ xs) h k = (tt, both_blind xs h.1 k.1)
  both_blind (Catch s u c r p f ∷ xs) h k = (
    (
      none_true (a s) (b s) h.0.0 k.0.0,
      none_true (a u) (b u) h.0.1 k.0.1,
      (λ more. none_true (a (more ++ p)) (b (more ++ p)) (h.0.2 more) (k.0.2 more)),
      both_items f.items h.0.3 k.0.3,
    ),
    both_blind
        xs h.1 k.1,
  )
  both_blind (Findall s u results l p f ∷ xs) h k = (
    (
      none_true (a s) (b s) h.0.0 k.0.0,
      none_true (a u) (b u) h.0.1 k.0.1,
      (λ more. none_true (a (more ++ p)) (b (more ++ p)) (h.0.2 more) (k.0.2 more)),
      both_items f.items h.0.3 k.0.3,
    ),
    both_blind
        xs h.1 k.1,
  )
  both_blind (End p e ∷ xs) h k = ((λ more. none_true (a (more ++ p)) (b (more ++ p)) (h.0 more) (k.0 more)), both_blind xs h.1 k.1)

-- no findall of the segment is where none of its nodes does
module _ (inside : Name → Bool) where
  abbrev OutOf : ℕ → Type 0
  OutOf m = inside (0 ∷ m ∷ []) ≡ false

  under_element : (a : Step) (way : Way) (e : Entry) → OutOf a.node → IsUnder inside (element_on (a ∷ way) e)
  under_element a way (PlainEntry f) h = tt
  under_element a way (CatchEntry c r f) h = tt
  under_element a way (FindallEntry results l f) h = h
  under_element a way (EndEntry b) h = tt

  mutual
    under_node : (way : Way) (node : Node) → ((m : ℕ) → 1 ≤ count_in m node → OutOf m) → Each (IsUnder inside) (list_in way node)
    under_node way (Numbered n kind alternatives) h = under_among way n kind 0 alternatives
        (h n (let z : one_if (n == n) ≡ 1 = ap one_if (number_same n) in omega (arith, z))) (λ m l. h m (omega (arith, l)))

    pub under_among : (way : Way) (n : ℕ) (kind : Kind) (i : ℕ) (others : Alternatives) → OutOf n
        → ((m : ℕ) → 1 ≤ count_among m others → OutOf m) → Each (IsUnder inside) (list_among way n kind i others)
    under_among way n kind i none o h = tt
    under_among way n kind i (alternative sp status others) o h =
        each-append (IsUnder inside) (list_below (record { node = n; index = i; kind = kind } ∷ way) sp status) _
        (under_status (record { node = n; index = i; kind = kind }) way sp status o (λ m l. h m (omega (arith, l))))
        (tt, under_among way n kind (suc i) others o (λ m l. h m (omega (arith, l))))

    under_status : (a : Step) (way : Way) (sp : ℕ) (status : Status) → OutOf a.node → ((m : ℕ) → 1 ≤ count_below m status → OutOf m)
        → Each (IsUnder inside) (list_below (a ∷ way) sp status)
    under_status a way sp (Inner node) o h = (tt, under_node (a ∷ way) node h)
    under_status a way sp (Closed c) o h = (tt, tt)
    under_status a way sp (Pending Dormant e) o h = (under_element a way e o, tt)
    under_status a way sp (Pending Ready e) o h = (tt, (under_element a way e o, tt))
    under_status a way sp (Pending (TakenBy w) e) o h = (tt, (under_element a way e o, tt))
    under_status a way sp (Pending (Waiting g) e) o h = (tt, (under_element a way e o, tt))

  pub under_back : (levels : List Level) → ((m : ℕ) → 1 ≤ count_around m levels → OutOf m) → Each (IsUnder inside) (back_of levels)
  under_back [] h = tt
  under_back (v ∷ up) h = (
    tt,
    each-append (IsUnder inside) (list_among (way_of up) v.number v.kind (suc (length v.left)) v.right) (back_of up)
        (under_among (way_of up) v.number v.kind (suc (length v.left)) v.right (h v.number (at_least v up))
        (λ m l. h m (omega (arith, l)))) (under_back up (λ m l. h m (omega (arith, l)))),
  )

module _ (next : ℕ) (w : Level) (up : List Level) (a : IsAround (w ∷ up) IsOpen) (free : IsFree next (w ∷ up)) where
  -- below a first alternative
  first_part : w.left ≡ [] → CutPart w up
  first_part empty = record {
    inside = inside;
    ok = is_free_of up;
    right = right;
    under = back_of up;
    grown = are_distinguished.root (is_free_of up);
    front = each-append (IsBlind inside) (front_of up) _ (upper_front up a.1)
        (tt, subst (λ l. Each (IsBlind inside) (list_left (way_of up) w.number w.kind l)) (sym empty) tt);
    named = λ s h. h;
    free = λ m c. zero_free up m (omega (arith, c));
    scope = own;
    parted = refl;
    inner = among_inner inside (is_free_of up) (λ s h. h) (way_of up) w.number w.kind (suc (length w.left)) w.right own
        (λ m l. zero_free up m (let most = free.distinct m in omega (arith, most, l)));
    beyond = blind_is_under inside (back_of up) (upper_back up a.1);
  }
    where
      inside : Name → Bool
      inside = rooted (is_free_of up)

      right : List Element
      right = list_among (way_of up) w.number w.kind (suc (length w.left)) w.right

      own : is_free_of up w.number ≡ true
      own = zero_free up w.number (let most = free.distinct w.number in let one : one_if (w.number == w.number)
          ≡ 1 = ap one_if (number_same w.number) in omega (arith, most, one))

  -- below a later one
  later_part : (length w.left ≡ 0 → ⊥) → CutPart w up
  later_part some = record {
    inside = λ s. made s || low s;
    ok = is_free_of (w ∷ up);
    right = [];
    under = list_among (way_of up) w.number w.kind (suc (length w.left)) w.right ++ back_of up;
    grown = grown;
    front = both_blind made low (front_of (w ∷ up)) (made_front_blind next w up free a) (upper_front (w ∷ up) a);
    named = λ s h. or_right (made s) (low s) h;
    free = λ m c. zero_free (w ∷ up) m c;
    scope = or_left (made (length w.left ∷ w.number ∷ [])) _
        (or_left (extends (length w.left ∷ w.number ∷ []) (length w.left ∷ w.number ∷ [])) _ itself);
    parted = refl;
    inner = tt;
    beyond = (under_back (λ s. made s || low s) (w ∷ up) out).1;
  }
    where
      made : Name → Bool
      made = made_at (length w.left ∷ w.number ∷ []) next

      low : Name → Bool
      low = rooted (is_free_of (w ∷ up))

      itself : extends (length w.left ∷ w.number ∷ []) (length w.left ∷ w.number ∷ []) ≡ true
      itself = or_left _ _ (same-itself (length w.left ∷ w.number ∷ []))

      grown : IsGrown (λ s. made_at (length w.left ∷ w.number ∷ []) next s || rooted (is_free_of (w ∷ up)) s)
      grown i s h = go (made_at (length w.left ∷ w.number ∷ []) next s) refl h
        where
          go : (b : Bool) → made_at (length w.left ∷ w.number ∷ []) next s ≡ b → (b || rooted (is_free_of (w ∷ up)) s) ≡ true
              → (made_at (length w.left ∷ w.number ∷ []) next (i ∷ s) || rooted (is_free_of (w ∷ up)) (i ∷ s)) ≡ true
          go true e k = or_left (made_at (length w.left ∷ w.number ∷ []) next (i ∷ s)) _
              (made_grown (length w.left ∷ w.number ∷ []) next i s e)
          go false e k = or_right (made_at (length w.left ∷ w.number ∷ []) next (i ∷ s)) _
              (are_distinguished.root (is_free_of (w ∷ up)) i s k)

      kept : (m : ℕ) → 1 ≤ count_around m (w ∷ up) → is_free_of (w ∷ up) m ≡ false
      kept m l = go (is_free_of (w ∷ up) m) refl
        where
          go : (b : Bool) → is_free_of (w ∷ up) m ≡ b → b ≡ false
          go false e = refl
          go true e = absurd (let z = free_zero (w ∷ up) m e in omega (arith, z, l))

      out : (m : ℕ) → 1 ≤ count_around m (w ∷ up)
          → (made_at (length w.left ∷ w.number ∷ []) next (0 ∷ m ∷ []) || rooted (is_free_of (w ∷ up)) (0 ∷ m ∷ [])) ≡ false
      out m l = none_true (made_at (length w.left ∷ w.number ∷ []) next (0 ∷ m ∷ [])) (is_free_of (w ∷ up) m)
          (by_number (w.number == m) refl) (kept m l)
        where
          old : suc m ≤ next
          old = is_old next (w ∷ up) free m l

          by_number : (b : Bool) → (w.number == m) ≡ b → made_at (length w.left ∷ w.number ∷ []) next (0 ∷ m ∷ []) ≡ false
          by_number true e = let same : w.number ≡ m = grind arith in out_more (length w.left) w.number next 0 m
              (subst (λ n. Out (length w.left) w.number next 0 n) same
              (out_index (length w.left) w.number next 0 some (subst (λ n. suc n ≤ next) (sym same) old))) []
          by_number false e = out_more (length w.left) w.number next 0 m
              (out_other (length w.left) w.number next m
              (λ z. let no_way : false ≡ true = sym e ∙ (ap (λ n. w.number == n) (sym z)
              ∙ number_same w.number) in false_true no_way) old 0)
              []

  pub cut_part : CutPart w up
  cut_part = go w.left refl
    where
      go : (left : List (ℕ × Status)) → w.left ≡ left → CutPart w up
      go [] e = first_part e
      go (x ∷ left) e = later_part (λ z. let no_way : suc (length left) ≡ 0 = sym (ap length e) ∙ z in absurd (omega (arith, no_way)))
