-- What is round an alternative in the list of a tree names nothing that the alternative and new nodes make.
use Rattle.std.proofs.Common.{◌≡◌, ℕ, suc, ◌+◌, ◌≤◌, ◌==◌, Bool, true, false, cond, List, [], ◌∷◌, ◌++◌, map, length, refl, sym, ap, ◌∙◌}
use Rattle.std.proofs.Common.{arith}
use Rattle.std.specs.Prelude.{◌||◌, nat_le}
use Rattle.au_term.specs.Term.{Term}
use Rattle.au_model.specs.Terms.Each.{Each}
use Rattle.run_model.specs.Machine.Items.{Item, GoalItem, CatchMark, CollectMark, RemovalItem}
use Rattle.run_model.specs.Machine.Entries.{Entry, PlainEntry, CatchEntry, FindallEntry, EndEntry}
use Rattle.tree_model.specs.Elements.{Name, same, Element, EndOf}
use Rattle.interleaving.specs.Roots.{rooted}
use Rattle.interleaving.specs.Views.{IsBeside, IsItemApart, IsRecordApart, IsBlind}
use Rattle.tree_model.specs.Nodes.{Kind, CatchNode, FindallNode, Hold, Ready, TakenBy, Waiting, Dormant, Node, Numbered, Alternatives}
use Rattle.tree_model.specs.Nodes.{none, alternative, Status, Pending, Inner, Closed}
use Rattle.tree_model.specs.Floors.{renamed_item}
use Rattle.tree_model.specs.Pruning.{is_findall}
use Rattle.tree_model.specs.PendingLists.{Step, Way, step_name, scope_on, findall_on, element_at, own_credit, list_in, list_among}
use Rattle.tree_model.specs.PendingLists.{list_below, list_left}
use Rattle.tree_model.specs.Ways.{is_on, way_from, way_above, AreScoped, IsOnWay}
use Rattle.tree_model.specs.SoundTrees.{one_if, count_in, count_among, count_below, IsSoundNode, AreSound, IsSound}
use Rattle.tree_model.proofs.CountLemmas.{count_left}
use Rattle.interleaving.proofs.WayLemmas.{cond-same, reach-on, through-on}
use Rattle.interleaving.proofs.RoundtripLemmas.{part_from, part_above, IsPart}
use Rattle.interleaving.proofs.ContextLemmas.{LeftSound}
use Rattle.interleaving.proofs.AppendLemmas.{each-append, append-assoc}
use Rattle.interleaving.proofs.RootLemmas.{are_distinguished}
use Rattle.interleaving.proofs.BaredLemmas.{made_at}
use Rattle.au_term.proofs.LogicLemmas.{number_same}

module _ (i n next : ℕ) where
  abbrev pub own : Name
  own = i ∷ n ∷ []

  -- the alternative of a node, where it is another and the node isn't new
  abbrev pub Out : ℕ → ℕ → Type 0
  Out j m = (same (i ∷ n ∷ []) (j ∷ m ∷ []) ≡ false) × (nat_le next m ≡ false)

  pub out_more : (j m : ℕ) → Out j m → (more : List ℕ) → made_at (i ∷ n ∷ []) next (more ++ j ∷ m ∷ []) ≡ false
  out_more j m o more =
      ap (λ b. b || rooted (nat_le next) (more ++ j ∷ m ∷ [])) (are_distinguished.by_length (i ∷ n ∷ []) (j ∷ m ∷ []) more refl ∙ o.0)
      ∙ (are_distinguished.by_root (nat_le next) j (m ∷ []) more ∙ o.1)

  pub out_entry : (j m : ℕ) → Out j m → IsBeside (made_at (i ∷ n ∷ []) next) (0 ∷ j ∷ m ∷ [])
  out_entry j m o more = ap (made_at (i ∷ n ∷ []) next) (sym (append-assoc more (0 ∷ []) (j ∷ m ∷ []))) ∙ out_more j m o (more ++ 0 ∷ [])

  abbrev pub OutNode : ℕ → Type 0
  OutNode m = (j : ℕ) → Out j m

  -- a way of other alternatives
  abbrev pub WayOut : Way → Type 0
  WayOut way = Each (λ a. Out a.index a.node × Out 0 a.node) way

  scope_out : (way : Way) (s : ℕ) → WayOut way → is_on way s ≡ true → made_at (i ∷ n ∷ []) next (scope_on way s) ≡ false
  scope_out [] s o h = let no_way : ⊥ = cc in absurd no_way
  scope_out (a ∷ way) s o h = go (a.node == s) (scope_out way s o.1) h
    where
      go : (b : Bool) → (is_on way s ≡ true → made_at (i ∷ n ∷ []) next (scope_on way s) ≡ false) → cond b true (is_on way s) ≡ true
          → made_at (i ∷ n ∷ []) next (cond b (step_name a) (scope_on way s)) ≡ false
      go true f k = out_more a.index a.node o.0.0 []
      go false f k = f k

  findall_out : (way : Way) → WayOut way → made_at (i ∷ n ∷ []) next (findall_on way) ≡ false
  findall_out [] o = refl
  findall_out (a ∷ way) o = go (is_findall a.kind) (a.index == 0) (findall_out way o.1)
    where
      go : (b c : Bool) → made_at (i ∷ n ∷ []) next (findall_on way) ≡ false
          → made_at (i ∷ n ∷ []) next (cond b (cond c (0 ∷ a.node ∷ []) (findall_on way)) (findall_on way)) ≡ false
      go true true f = out_more 0 a.node o.0.1 []
      go true false f = f
      go false c f = f

  items_out : (way part : Way) (items : List (Item ℕ)) → WayOut way → IsPart part way → AreScoped part items
      → Each (IsItemApart (made_at (i ∷ n ∷ []) next)) (map (renamed_item (scope_on way) (scope_on way)) items)
  items_out way part [] o p h = tt
  items_out way part (GoalItem t s ∷ items) o p h =
      (scope_out way s o (p s (reach-on part s h.0)), items_out way (way_from part s) items o (λ r k. p r (part_from part s r k)) h.1)
  items_out way part (CatchMark s ∷ items) o p h = (
    scope_out way s o (p s (through-on CatchNode part s h.0)),
    items_out way (way_above part s) items o
        (λ r k. p r (part_above part s r k)) h.1,
  )
  items_out way part (CollectMark t s ∷ items) o p h = (
    scope_out way s o (p s (through-on FindallNode part s h.0)),
    items_out way (way_above part s) items o
        (λ r k. p r (part_above part s r k)) h.1,
  )
  items_out way part (RemovalItem m ∷ items) o p h = (tt, items_out way part items o p h)

  abbrev pub Blind : Element → Type 0
  Blind x = IsBlind (made_at (i ∷ n ∷ []) next) x

  no_credits : (hold : Hold) (spent : ℕ) → Each (IsBlind (made_at (i ∷ n ∷ []) next)) (own_credit hold spent)
  no_credits Dormant spent = tt
  no_credits Ready spent = (tt, tt)
  no_credits (TakenBy w) spent = (tt, tt)
  no_credits (Waiting g) spent = (tt, tt)

  wider : (a : Step) (w : Way) → IsPart w (a ∷ w)
  wider a w r h = cond-same (a.node == r) true (is_on w r) h

  element_out : (a : Step) (w : Way) (e : Entry) → WayOut (a ∷ w) → IsOnWay (a ∷ w) e
      → IsBlind (made_at (i ∷ n ∷ []) next) (element_at a.node a.index (a ∷ w) e)
  element_out a w (PlainEntry f) o h = (out_entry a.index a.node o.0.0, items_out (a ∷ w) (a ∷ w) f.items o (λ r k. k) h.scoped)
  element_out a w (CatchEntry c r f) o h = (
    out_more 0 a.node o.0.1 [],
    out_more a.index a.node o.0.0 [],
    out_entry a.index a.node o.0.0,
    items_out (a ∷ w) w f.items o
        (wider a w) h.scoped,
  )
  element_out a w (FindallEntry results l f) o h = (
    out_more 0 a.node o.0.1 [],
    out_more a.index a.node o.0.0 [],
    out_entry a.index a.node o.0.0,
    items_out (a ∷ w) w f.items o
        (wider a w) h.scoped,
  )
  element_out a w (EndEntry b) o h = out_entry a.index a.node o.0.0

  records_out : (s : Name) (ts : List Term) → made_at (i ∷ n ∷ []) next s ≡ false → Each (IsRecordApart (made_at (i ∷ n ∷ []) next))
      (map (λ t. (s, t)) ts)
  records_out s [] h = tt
  records_out s (t ∷ ts) h = (h, records_out s ts h)

  pub own_number : (m : ℕ) (k : ℕ) → 1 ≤ one_if (m == m) + k
  own_number m k = let one : one_if (m == m) ≡ 1 = ap one_if (number_same m) in omega (arith, one)

  mutual
    pub blind_in : (way : Way) (node : Node) → WayOut way → IsSoundNode way node → ((m : ℕ) → 1 ≤ count_in m node → OutNode m)
        → Each (IsBlind (made_at (i ∷ n ∷ []) next)) (list_in way node)
    blind_in way (Numbered m kind alternatives) o h c =
        let here : OutNode m = c m (own_number m (count_among m alternatives)) in
        blind_among way m kind 0 alternatives o here h.3 (λ r l. c r (omega (arith, l)))

    pub blind_among : (way : Way) (m : ℕ) (kind : Kind) (j : ℕ) (alternatives : Alternatives) → WayOut way → OutNode m
        → AreSound way m kind j alternatives → ((r : ℕ) → 1 ≤ count_among r alternatives → OutNode r)
        → Each (IsBlind (made_at (i ∷ n ∷ []) next)) (list_among way m kind j alternatives)
    blind_among way m kind j none o here h c = tt
    blind_among way m kind j (alternative spent status others) o here h c =
        each-append (IsBlind (made_at (i ∷ n ∷ []) next)) (list_below (record { node = m; index = j; kind = kind } ∷ way) spent status)
        (EndOf (j ∷ m ∷ []) ∷ list_among way m kind (suc j) others)
        (blind_below (record { node = m; index = j; kind = kind }) way spent status ((here j, here 0), o) h.0
        (λ r l. c r (omega (arith, l))))
        (tt, blind_among way m kind (suc j) others o here h.1 (λ r l. c r (omega (arith, l))))

    pub blind_below : (a : Step) (w : Way) (spent : ℕ) (status : Status) → WayOut (a ∷ w) → IsSound (a ∷ w) status
        → ((m : ℕ) → 1 ≤ count_below m status → OutNode m)
        → Each (IsBlind (made_at (i ∷ n ∷ []) next)) (list_below (a ∷ w) spent status)
    blind_below a w spent (Pending hold e) o h c = each-append (IsBlind (made_at (i ∷ n ∷ []) next)) (own_credit hold spent)
        (element_at a.node a.index (a ∷ w) e ∷ []) (no_credits hold spent) (element_out a w e o h.0, tt)
    blind_below a w spent (Inner node) o h c = (tt, blind_in (a ∷ w) node o h c)
    blind_below a w spent (Closed credit) o h c = (records_out (findall_on (a ∷ w)) credit.records (findall_out (a ∷ w) o), tt)

  -- alternatives to the left
  pub blind_left : (way : Way) (m : ℕ) (kind : Kind) (left : List (ℕ × Status)) → WayOut way
      → ((j : ℕ) → suc j ≤ length left → Out j m × Out 0 m) → LeftSound way m kind left → ((r : ℕ) → 1 ≤ count_left r left → OutNode r)
      → Each (IsBlind (made_at (i ∷ n ∷ []) next)) (list_left way m kind left)
  blind_left way m kind [] o here h c = tt
  blind_left way m kind (a ∷ left) o here h c =
      each-append (IsBlind (made_at (i ∷ n ∷ []) next)) (list_left way m kind left)
      (list_below (record { node = m; index = length left; kind = kind } ∷ way) a.0 a.1 ++ EndOf (length left ∷ m ∷ []) ∷ [])
      (blind_left way m kind left o (λ j l. here j (omega (arith, l))) h.1 (λ r l. c r (omega (arith, l))))
      (each-append (IsBlind (made_at (i ∷ n ∷ []) next))
      (list_below (record { node = m; index = length left; kind = kind } ∷ way) a.0 a.1) (EndOf (length left ∷ m ∷ []) ∷ [])
      (blind_below (record { node = m; index = length left; kind = kind }) way a.0 a.1 (here (length left) (omega arith), o) h.0
      (λ r l. c r (omega (arith, l)))) (tt, tt))
