-- Empty credits may be left out; what follows from one step after another.
use Rattle.std.proofs.Common.{◌≡◌, ℕ, zero, suc, ◌+◌, ◌≤◌, Bool, true, false, List, [], ◌∷◌, ◌++◌, ◌-◌, map, length, take, drop, refl}
use Rattle.std.proofs.Common.{sym, ap, ◌∙◌, subst, arith}
use Rattle.std.specs.Prelude.{◌||◌, nat_le}
use Rattle.au_model.specs.Terms.Each.{Each}
use Rattle.run_model.specs.Programs.Clauses.{Clause}
use Rattle.run_model.specs.Machine.Items.{Continuation}
use Rattle.run_model.specs.Machine.Entries.{Entry, PlainEntry, CatchEntry, FindallEntry, EndEntry}
use Rattle.tree_model.specs.Elements.{Name, Element, Credit, Plain, EndOf, Catch, Findall, End}
use Rattle.interleaving.specs.Laws.{MayBecome}
use Rattle.interleaving.specs.Roots.{extends, rooted}
use Rattle.interleaving.specs.Views.{IsGrown, IsInner}
use Rattle.tree_model.specs.Nodes.{Kind}
use Rattle.tree_model.specs.Floors.{with_nodes}
use Rattle.interleaving.specs.Follows.{lead}
use Rattle.tree_model.specs.Shapes.{further, guard_kind, placed_status}
use Rattle.tree_model.specs.PendingLists.{Step, Way, element_at, list_below}
use Rattle.interleaving.proofs.AppendLemmas.{append-assoc, each-append}
use Rattle.interleaving.proofs.ListChangeLemmas.{no_credit}
use Rattle.interleaving.proofs.RootLemmas.{are_distinguished}
use Rattle.interleaving.proofs.PlacedNameLemmas.{bare, bare-element, olders}
use Rattle.interleaving.proofs.PlacedErasedLemmas.{bare_made}
use Rattle.interleaving.proofs.PlacedShapeLemmas.{made_equal}
use Rattle.au_model.proofs.ApplyLemmas.{or_left, or_right}

pub may_then : (clauses : List Clause) (xs ys zs : List Element) → MayBecome clauses xs ys → MayBecome clauses ys zs
    → MayBecome clauses xs zs
may_then clauses xs ys zs a b = record { alike = λ n w. a.alike n w ∙ b.alike n w; sound = λ s. b.sound (a.sound s) }

pub may_stay : (clauses : List Clause) (xs : List Element) → MayBecome clauses xs xs
may_stay clauses xs = record { alike = λ n w. refl; sound = λ s. s }

behind : (clauses : List Clause) (pre : List Element) (x : Element) (xs ys zs : List Element)
    → MayBecome clauses ((pre ++ (x ∷ [])) ++ (xs ++ zs)) ((pre ++ (x ∷ [])) ++ (ys ++ zs))
    → MayBecome clauses (pre ++ (x ∷ (xs ++ zs))) (pre ++ (x ∷ (ys ++ zs)))
behind clauses pre x xs ys zs m = subst (λ l. MayBecome clauses l (pre ++ (x ∷ (ys ++ zs)))) (append-assoc pre (x ∷ []) (xs ++ zs))
    (subst (λ l. MayBecome clauses ((pre ++ (x ∷ [])) ++ (xs ++ zs)) l) (append-assoc pre (x ∷ []) (ys ++ zs)) m)

pub bare_becomes : (clauses : List Clause) (pre xs zs : List Element) → MayBecome clauses (pre ++ (xs ++ zs)) (pre ++ (bare xs ++ zs))
bare_becomes clauses pre [] zs = may_stay clauses (pre ++ zs)
bare_becomes clauses pre (Credit zero [] ∷ xs) zs = may_then clauses (pre ++ (Credit zero [] ∷ (xs ++ zs))) (pre ++ (xs ++ zs))
    (pre ++ (bare xs ++ zs)) (no_credit clauses pre (xs ++ zs)) (bare_becomes clauses pre xs zs)
bare_becomes clauses pre (Credit zero (r ∷ rs) ∷ xs) zs = behind clauses pre (Credit zero (r ∷ rs)) xs (bare xs) zs
    (bare_becomes clauses (pre ++ (Credit zero (r ∷ rs) ∷ [])) xs zs)
bare_becomes clauses pre (Credit (suc k) rs ∷ xs) zs = behind clauses pre (Credit (suc k) rs) xs (bare xs) zs
    (bare_becomes clauses (pre ++ (Credit (suc k) rs ∷ [])) xs zs)
bare_becomes clauses pre (Plain p f ∷ xs) zs = behind clauses pre (Plain p f) xs (bare xs) zs
    (bare_becomes clauses (pre ++ (Plain p f ∷ [])) xs zs)
bare_becomes clauses pre (EndOf s ∷ xs) zs = behind clauses pre (EndOf s) xs (bare xs) zs
    (bare_becomes clauses (pre ++ (EndOf s ∷ [])) xs zs)
bare_becomes clauses pre (Catch s u c r p f ∷ xs) zs = behind clauses pre (Catch s u c r p f) xs (bare xs) zs
    (bare_becomes clauses (pre ++ (Catch s u c r p f ∷ [])) xs zs)
bare_becomes clauses pre (Findall s u results list p f ∷ xs) zs = behind clauses pre (Findall s u results list p f) xs (bare xs) zs
    (bare_becomes clauses (pre ++ (Findall s u results list p f ∷ [])) xs zs)
bare_becomes clauses pre (End p b ∷ xs) zs = behind clauses pre (End p b) xs (bare xs) zs
    (bare_becomes clauses (pre ++ (End p b ∷ [])) xs zs)

-- no fewer inferences are in front
pub lead_more : (front : List Element) (s k : ℕ) (p : Name) (f : Continuation Name) (xs ys : List Element)
    → lead (front ++ (Credit s [] ∷ Plain p f ∷ xs)) ≤ lead (front ++ (Credit (s + k) [] ∷ ys))
lead_more [] s k p f xs ys = omega arith
lead_more (Credit j rs ∷ front) s k p f xs ys = let h = lead_more front s k p f xs ys in omega (arith, h)
lead_more (EndOf e ∷ front) s k p f xs ys = lead_more front s k p f xs ys
lead_more (Catch e u c r q g ∷ front) s k p f xs ys = lead_more front s k p f xs ys
lead_more (Plain q g ∷ front) s k p f xs ys = omega arith
lead_more (Findall e u results list q g ∷ front) s k p f xs ys = omega arith
lead_more (End q b ∷ front) s k p f xs ys = omega arith

-- the names that an alternative and new nodes make
abbrev pub made_at : Name → ℕ → Name → Bool
made_at top next s = extends top s || rooted (nat_le next) s

pub made_grown : (top : Name) (next : ℕ) → IsGrown (made_at top next)
made_grown top next i s h = go (extends top s) refl h
  where
    go : (b : Bool) → extends top s ≡ b → (b || rooted (nat_le next) s) ≡ true → made_at top next (i ∷ s) ≡ true
    go true e k = or_left (extends top (i ∷ s)) _ (are_distinguished.extend top i s e)
    go false e k = or_right (extends top (i ∷ s)) _ (are_distinguished.root (nat_le next) i s k)

pub new_number : (next n : ℕ) → next ≤ n → nat_le next n ≡ true
new_number next n h = grind arith

pub inner_element : (top : Name) (next n i : ℕ) (way : Way) (e : Entry) → next ≤ n → IsInner (made_at top next) (element_at n i way e)
inner_element top next n i way (PlainEntry f) h = or_right (extends top (0 ∷ i ∷ n ∷ [])) _ (new_number next n h)
inner_element top next n i way (CatchEntry c r f) h =
    (or_right (extends top (0 ∷ n ∷ [])) _ (new_number next n h), or_right (extends top (0 ∷ i ∷ n ∷ [])) _ (new_number next n h))
inner_element top next n i way (FindallEntry results l f) h =
    (or_right (extends top (0 ∷ n ∷ [])) _ (new_number next n h), or_right (extends top (0 ∷ i ∷ n ∷ [])) _ (new_number next n h))
inner_element top next n i way (EndEntry b) h = or_right (extends top (0 ∷ i ∷ n ∷ [])) _ (new_number next n h)

inner_end : (top : Name) (next n i : ℕ) → next ≤ n → made_at top next (i ∷ n ∷ []) ≡ true
inner_end top next n i h = or_right (extends top (i ∷ n ∷ [])) _ (new_number next n h)

inner_olders : (top : Name) (next n : ℕ) (way : Way) (kind : Kind) (i : ℕ) (os : List Entry) → next ≤ n
    → Each (IsInner (made_at top next)) (olders way n kind i os)
inner_olders top next n way kind i [] h = tt
inner_olders top next n way kind i (o ∷ os) h = (
  inner_element top next n i (record { node = n; index = i; kind = kind } ∷ way) o h,
  (inner_end top next n i h, inner_olders top next n way kind (suc i) os h),
)

-- what is placed is made there
inner_node : (top : Name) (low next size : ℕ) (sizes : List ℕ) (way : Way) (name : ℕ → ℕ) (es : List Entry) → low ≤ next →
    ((b : Step) (w : Way) (ds : List Entry) → low ≤ b.node
    → Each (IsInner (made_at top low)) (bare (list_below (b ∷ w) 0 (placed_status (suc next) sizes (map (with_nodes name) ds))))) →
    Each (IsInner (made_at top low)) (bare (list_below way 0 (placed_status next (size ∷ sizes) (map (with_nodes name) es))))
inner_node top low next size sizes way name es k rec =
    let rest = length es - further size in
    let status = placed_status (suc next) sizes (map (with_nodes name) (take rest es)) in
    let news = map (with_nodes name) (drop rest es) in
    let first : Step = record { node = next; index = 0; kind = guard_kind (map (with_nodes name) (drop rest es)) } in
    let list = ap (λ s. bare (list_below way 0 s)) (made_equal (with_nodes name) next size sizes es) ∙ bare_made way next status news in
    subst (Each (IsInner (made_at top low))) (sym list)
    (each-append (IsInner (made_at top low)) (bare (list_below (first ∷ way) 0 status))
    (EndOf (0 ∷ next ∷ []) ∷ olders way next (guard_kind news) 1 news) (rec first way (take rest es) k)
    (inner_end top low next 0 k, inner_olders top low next way (guard_kind news) 1 news k))

inner_placed : (top : Name) (low next : ℕ) (sizes : List ℕ) (a : Step) (w : Way) (name : ℕ → ℕ) (es : List Entry) → low ≤ a.node
    → low ≤ next → Each (IsInner (made_at top low)) (bare (list_below (a ∷ w) 0 (placed_status next sizes (map (with_nodes name) es))))
inner_placed top low next [] a w name [] h k = tt
inner_placed top low next [] a w name (e ∷ es) h k = subst (Each (IsInner (made_at top low)))
    (sym (bare-element a.node a.index (a ∷ w) (with_nodes name e) []))
    (inner_element top low a.node a.index (a ∷ w) (with_nodes name e) h, tt)
inner_placed top low next (size ∷ sizes) a w name es h k = inner_node top low next size sizes (a ∷ w) name es k
    (λ b v ds j. inner_placed top low (suc next) sizes b v name ds j (omega arith))

pub inner_new : (top : Name) (low next size : ℕ) (sizes : List ℕ) (way : Way) (name : ℕ → ℕ) (es : List Entry) → low ≤ next
    → Each (IsInner (made_at top low)) (bare (list_below way 0 (placed_status next (size ∷ sizes) (map (with_nodes name) es))))
inner_new top low next size sizes way name es k = inner_node top low next size sizes way name es k
    (λ b v ds j. inner_placed top low (suc next) sizes b v name ds j (omega arith))
