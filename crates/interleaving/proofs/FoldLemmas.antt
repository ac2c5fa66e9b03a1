-- A node all of whose alternatives have closed is one credit.
use Rattle.std.proofs.Common.{◌≡◌, ℕ, suc, ◌+◌, ◌≤◌, ◌<◌, ◌==◌, ◌⊎◌, inl, inr, Bool, true, false, cond, List, [], ◌∷◌, ◌++◌, map, length}
use Rattle.std.proofs.Common.{Option, Some, None, refl, sym, ap, ◌∙◌, subst, arith}
use Rattle.std.specs.Prelude.{min, nat_le, ◌&&◌}
use Rattle.au_term.specs.Term.{Term}
use Rattle.interleaving.specs.Machine.{free_steps, run, seen}
use Rattle.interleaving.specs.Scopes.{Shared, scoped}
use Rattle.run_model.specs.Programs.Clauses.{Clause}
use Rattle.tree_model.specs.Credits.{Credit as TreeCredit, greatest, added, no_credit}
use Rattle.tree_model.specs.Nodes.{Kind, Alternatives, none, alternative, Status, Pending, Inner, Closed}
use Rattle.tree_model.specs.Levels.{Level, put_left, level_node, plug}
use Rattle.tree_model.specs.Pruning.{is_findall}
use Rattle.tree_model.specs.Closing.{and_then, all_right, all_left, all_closed}
use Rattle.tree_model.specs.Elements.{Name, Record, Element, Credit, Plain, EndOf, Catch, Findall, End}
use Rattle.tree_model.specs.PendingLists.{Way, way_of, findall_on, balance_on, list_among, list_left, list_right, pending_list, spent_at}
use Rattle.tree_model.specs.PendingLists.{front_of, back_of}
use Rattle.tree_model.specs.CaughtTrees.{is_side, IsCaught, AreCaught}
use Rattle.interleaving.specs.Laws.{MayBecome}
use Rattle.interleaving.specs.Quiet.{IsQuiet, inferences, records}
use Rattle.interleaving.specs.Sound.{IsSound}
use Rattle.interleaving.specs.Follows.{lead, Follows}
use Rattle.interleaving.proofs.ListRoundLemmas.{around}
use Rattle.interleaving.proofs.AppendLemmas.{append-assoc, append-nil}
use Rattle.interleaving.proofs.CreditLawLemmas.{as_many_credit, blind_none}
use Rattle.interleaving.proofs.SoundEarlyLemmas.{sound_exchange, sound-after}
use Rattle.interleaving.proofs.LeadLemmas.{lead-bounded, follows_then, follows_becoming, follows_itself}
use Rattle.interleaving.proofs.ClockLemmas.{quiet-append, inferences-append}
use Rattle.interleaving.proofs.EndLemmas.{has_end, steps_end_before}
use Rattle.interleaving.proofs.ListScopeLemmas.{dormant_on}
use Rattle.interleaving.proofs.ListsSoundLemmas.{under_of}
use Rattle.interleaving.proofs.RunFrontLemmas.{some-same}

-- a list follows another, and keeps names sound
pub record Passes (clauses : List Clause) (xs ys : List Element) : Type 0 where
  pub follows : Follows clauses xs ys
  pub sound : IsSound xs → IsSound ys

pub passes_itself : (clauses : List Clause) (xs : List Element) → Passes clauses xs xs
passes_itself clauses xs = record { follows = follows_itself clauses xs; sound = λ i. i }

pub passes_then : (clauses : List Clause) (xs ys zs : List Element) → Passes clauses xs ys → Passes clauses ys zs → Passes clauses xs zs
passes_then clauses xs ys zs h k = record { follows = follows_then clauses xs ys zs h.follows k.follows; sound = λ i. k.sound (h.sound i) }

pub passes_becoming : (clauses : List Clause) (xs ys : List Element) → MayBecome clauses xs ys → lead xs ≤ lead ys → Passes clauses xs ys
passes_becoming clauses xs ys h l = record { follows = follows_becoming clauses xs ys h l; sound = h.sound }

-- before the end of a query a credit is kept at the greatest count
pub credit_counted : (clauses : List Clause) (pre zs : List Element) (k : ℕ) (rs : List Record) → has_end zs ≡ true
    → Passes clauses (pre ++ (Credit k rs ∷ zs)) (pre ++ (Credit (min greatest k) rs ∷ zs))
credit_counted clauses pre zs k rs end = record {
  follows = record {
    alike = λ n w l. go n w l (nat_le k greatest) refl;
    lead = λ m b l. lead-bounded m pre (Credit k rs ∷ zs) (Credit (min greatest k) rs ∷ zs) (λ j a c. omega (arith, a, b, c)) l;
  };
  sound = λ i. let here = sound-after pre (Credit k rs ∷ zs) i in sound_exchange clauses (λ s. false) pre (Credit k rs ∷ [])
      (Credit (min greatest k) rs ∷ []) zs (blind_none clauses pre) (tt, tt) (tt, tt) (omega arith) i here;
}
  where
    go : (n : ℕ) (w : Shared) → n ≤ greatest → (b : Bool) → nat_le k greatest ≡ b
        → seen (run (scoped clauses) n w (free_steps (scoped clauses) [] (pre ++ (Credit k rs ∷ zs))))
        ≡ seen (run (scoped clauses) n w (free_steps (scoped clauses) [] (pre ++ (Credit (min greatest k) rs ∷ zs))))
    go n w l true e = let same : k ≡ min greatest k = let low : k ≤ greatest = grind arith in omega (arith, low) in ap
        (λ j. seen (run (scoped clauses) n w (free_steps (scoped clauses) [] (pre ++ (Credit j rs ∷ zs))))) same
    go n w l false e = let high : greatest < k = grind arith in as_many_credit clauses k (min greatest k) rs rs n w pre zs
        (omega (arith, l, high)) (omega (arith, l, high)) (λ us. steps_end_before clauses us zs end)

-- records that no goal side of the node has
abbrev pub LeftSides : Kind → List (ℕ × Status) → Type 0
LeftSides kind [] = Unit {0}
LeftSides kind ((spent, Closed c) ∷ left) = (is_side kind (length left) ≡ true → c.records ≡ []) × LeftSides kind left
LeftSides kind ((spent, Pending hold e) ∷ left) = LeftSides kind left
LeftSides kind ((spent, Inner node) ∷ left) = LeftSides kind left

abbrev pub HaveNoSideRecords : List Level → Type 0
HaveNoSideRecords [] = Unit {0}
HaveNoSideRecords (v ∷ up) = LeftSides v.kind v.left × HaveNoSideRecords up

abbrev pub CaughtAt : List Level → Status → Type 0
CaughtAt [] status = IsCaught (λ m. false) false false status
CaughtAt (v ∷ up) status = IsCaught (dormant_on (v ∷ up)) (is_side v.kind (length v.left)) (under_of up) status

sides_split : (sleeps : ℕ → Bool) (under : Bool) (n : ℕ) (kind : Kind) (left : List (ℕ × Status)) (others : Alternatives)
    → AreCaught sleeps under n kind 0 (put_left left others) → LeftSides kind left × AreCaught sleeps under n kind (length left) others
sides_split sleeps under n kind [] others h = (tt, h)
sides_split sleeps under n kind ((spent, Closed c) ∷ left) others h =
    let k = sides_split sleeps under n kind left (alternative spent (Closed c) others) h in
    ((λ s. none_at k.1.0 s, k.0), k.1.1)
  where
    none_at : (c.records ≡ []) ⊎ ((is_side kind (length left) ≡ false) × (under ≡ true)) → is_side kind (length left) ≡ true → c.records
        ≡ []
    none_at (inl e) s = e
    none_at (inr e) s = let both : false ≡ true = sym e.0 ∙ s in let no_way : ⊥ = cc in absurd no_way
sides_split sleeps under n kind ((spent, Pending hold e) ∷ left) others h = let k = sides_split sleeps under n kind left
    (alternative spent (Pending hold e) others) h in (k.0, k.1.1)
sides_split sleeps under n kind ((spent, Inner node) ∷ left) others h = let k = sides_split sleeps under n kind left
    (alternative spent (Inner node) others) h in (k.0, k.1.1)

pub caught_out : (levels : List Level) (status : Status) → IsCaught (λ m. false) false false (plug levels status)
    → HaveNoSideRecords levels × CaughtAt levels status
caught_out [] status h = (tt, h)
caught_out (v ∷ []) status h =
    let p = sides_split (λ m. false) false v.number v.kind v.left (alternative v.spent status v.right) h in
    ((p.0, tt), p.1.0)
caught_out (v ∷ u ∷ up) status h =
    let k = caught_out (u ∷ up) (Inner (level_node v status)) h in
    let p = sides_split (dormant_on (u ∷ up)) (under_of (u ∷ up)) v.number v.kind v.left (alternative v.spent status v.right) k.1 in
    ((p.0, k.0), p.1.0)

-- what closed alternatives come to
pub side_name : (way : Way) (n i : ℕ) (kind : Kind) → is_side kind i ≡ false
    → findall_on (record { node = n; index = i; kind = kind } ∷ way) ≡ findall_on way
side_name way n i kind h = go (is_findall kind) (i == 0) h
  where
    go : (b c : Bool) → (b && c) ≡ false → cond b (cond c (0 ∷ n ∷ []) (findall_on way)) (findall_on way) ≡ findall_on way
    go false c h = refl
    go true false h = refl
    go true true h = let no_way : ⊥ = cc in absurd no_way

abbrev pub named_by : Way → List Term → List Record
named_by way ts = map (λ t. (findall_on way, t)) ts

pub named-append : (way : Way) (ts us : List Term) → named_by way (ts ++ us) ≡ named_by way ts ++ named_by way us
named-append way [] us = refl
named-append way (t ∷ ts) us = ap (λ l. (findall_on way, t) ∷ l) (named-append way ts us)

pub records-append : (xs ys : List Element) → records (xs ++ ys) ≡ records xs ++ records ys
records-append [] ys = refl
records-append (Credit k rs ∷ xs) ys = ap (λ l. rs ++ l) (records-append xs ys) ∙ sym (append-assoc rs (records xs) (records ys))
records-append (EndOf s ∷ xs) ys = records-append xs ys
records-append (Catch s u c a p f ∷ xs) ys = records-append xs ys
records-append (Plain p f ∷ xs) ys = records-append xs ys
records-append (Findall s u results list p f ∷ xs) ys = records-append xs ys
records-append (End p b ∷ xs) ys = records-append xs ys

pub closed_records : (way : Way) (n i : ℕ) (kind : Kind) (ts : List Term) → (is_side kind i ≡ true → ts ≡ [])
    → named_by (record { node = n; index = i; kind = kind } ∷ way) ts ≡ named_by way ts
closed_records way n i kind ts h = go (is_side kind i) refl
  where
    go : (b : Bool) → is_side kind i ≡ b → named_by (record { node = n; index = i; kind = kind } ∷ way) ts ≡ named_by way ts
    go true e = ap (named_by (record { node = n; index = i; kind = kind } ∷ way)) (h e) ∙ sym (ap (named_by way) (h e))
    go false e = ap (λ (name : Name). map {B = Record} (λ t. (name, t)) ts) (side_name way n i kind e)

pub record Totals (way : Way) (xs : List Element) (d : TreeCredit) : Type 0 where
  pub quiet : IsQuiet xs
  pub sum : min greatest d.inferences ≡ min greatest (inferences xs)
  pub rows : records xs ≡ named_by way d.records

totals-append : (way : Way) (xs ys : List Element) (a b : TreeCredit) → Totals way xs a → Totals way ys b
    → Totals way (xs ++ ys) (added a b)
totals-append way xs ys a b h k =
    let one = h.sum in let two = k.sum in
    let all : inferences (xs ++ ys) ≡ inferences xs + inferences ys = inferences-append xs ys in
    let here : (added a b).inferences ≡ min greatest (a.inferences + b.inferences) = refl in
    record {
      quiet = quiet-append xs ys h.quiet k.quiet;
      sum = omega (arith, one, two, all, here);
      rows = records-append xs ys
          ∙ (ap (λ l. l ++ records ys) h.rows
          ∙ (ap (λ l. named_by way a.records ++ l) k.rows ∙ sym (named-append way a.records b.records)));
    }

left_totals : (way : Way) (n : ℕ) (kind : Kind) (left : List (ℕ × Status)) (d : TreeCredit) → LeftSides kind left → all_left left
    ≡ Some d → Totals way (list_left way n kind left) d
left_totals way n kind [] d h e = subst (Totals way []) (some-same no_credit d e) (record { quiet = tt; sum = omega arith; rows = refl })
left_totals way n kind ((spent, Pending hold x) ∷ left) d h e = absurd (nothing (all_left left) e)
  where
    nothing : (o : Option TreeCredit) → and_then o None ≡ Some d → ⊥
    nothing None e = cc
    nothing (Some b) e = cc
left_totals way n kind ((spent, Inner node) ∷ left) d h e = absurd (nothing (all_left left) e)
  where
    nothing : (o : Option TreeCredit) → and_then o None ≡ Some d → ⊥
    nothing None e = cc
    nothing (Some b) e = cc
left_totals way n kind ((spent, Closed c) ∷ left) d h e = go (all_left left) refl e (λ b q. left_totals way n kind left b h.1 q)
  where
    go : (o : Option TreeCredit) → all_left left ≡ o → and_then o (Some c) ≡ Some d
        → ((b : TreeCredit) → all_left left ≡ Some b → Totals way (list_left way n kind left) b)
        → Totals way (list_left way n kind ((spent, Closed c) ∷ left)) d
    go None q e f = let no_way : ⊥ = cc in absurd no_way
    go (Some b) q e f = subst (Totals way (list_left way n kind ((spent, Closed c) ∷ left))) (some-same (added b c) d e)
        (totals-append way (list_left way n kind left) _ b c (f b q)
        (record { quiet = tt; sum = bound c; rows = append-nil _ ∙ closed_records way n (length left) kind c.records h.0 }))
      where
        bound : (c : TreeCredit) → min greatest c.inferences ≡ min greatest (c.inferences + 0)
        bound c = omega arith

right_totals : (way : Way) (n : ℕ) (kind : Kind) (i : ℕ) (others : Alternatives) (d : TreeCredit) → all_right others ≡ Some d
    → Totals way (EndOf (i ∷ n ∷ []) ∷ list_among way n kind (suc i) others) d
right_totals way n kind i none d e = subst (Totals way (EndOf (i ∷ n ∷ []) ∷ [])) (some-same no_credit d e)
    (record { quiet = tt; sum = omega arith; rows = refl })
right_totals way n kind i (alternative spent (Pending hold x) others) d e = let no_way : ⊥ = cc in absurd no_way
right_totals way n kind i (alternative spent (Inner node) others) d e = let no_way : ⊥ = cc in absurd no_way
right_totals way n kind i (alternative spent (Closed c) others) d e = go (all_right others) refl e
    (λ b q. right_totals way n kind (suc i) others b q)
  where
    later : is_side kind (suc i) ≡ true → c.records ≡ []
    later h = absurd (no_side (is_findall kind) (suc i == 0) refl h)
      where
        no_side : (b k : Bool) → (suc i == 0) ≡ k → (b && k) ≡ true → ⊥
        no_side b true e h = grind arith
        no_side true false e h = cc
        no_side false false e h = cc

    one : Totals way (EndOf (i ∷ n ∷ []) ∷ (balance_on (record { node = n; index = suc i; kind = kind } ∷ way) c ∷ [])) c
    one = record { quiet = tt; sum = omega arith; rows = append-nil _ ∙ closed_records way n (suc i) kind c.records later }

    go : (o : Option TreeCredit) → all_right others ≡ o → and_then (Some c) o ≡ Some d
        → ((b : TreeCredit) → all_right others ≡ Some b
        → Totals way (EndOf (suc i ∷ n ∷ []) ∷ list_among way n kind (suc (suc i)) others) b)
        → Totals way (EndOf (i ∷ n ∷ []) ∷ list_among way n kind (suc i) (alternative spent (Closed c) others)) d
    go None q e f = let no_way : ⊥ = cc in absurd no_way
    go (Some b) q e f = subst (Totals way (EndOf (i ∷ n ∷ []) ∷ list_among way n kind (suc i) (alternative spent (Closed c) others)))
        (some-same (added c b) d e) (totals-append way
        (EndOf (i ∷ n ∷ []) ∷ (balance_on (record { node = n; index = suc i; kind = kind } ∷ way) c ∷ [])) _ c b one (f b q))

-- the whole node
abbrev pub node_list : List Level → Level → TreeCredit → List Element
node_list up v c = Credit (spent_at up) []
    ∷ (list_left (way_of up) v.number v.kind v.left ++ (balance_on (way_of (v ∷ up)) c ∷ list_right (way_of up) v))

pub node_totals : (up : List Level) (v : Level) (c total : TreeCredit) → LeftSides v.kind v.left → is_side v.kind (length v.left)
    ≡ false → all_closed v c ≡ Some total
    → Totals (way_of up) (list_left (way_of up) v.number v.kind v.left ++ (balance_on (way_of (v ∷ up)) c ∷ list_right (way_of up) v))
    total
node_totals up v c total sides off e = go (all_left v.left) refl (all_right v.right) refl e
  where
    go : (l : Option TreeCredit) → all_left v.left ≡ l → (r : Option TreeCredit) → all_right v.right ≡ r
        → and_then (and_then l (Some c)) r ≡ Some total
        → Totals (way_of up) (list_left (way_of up) v.number v.kind v.left
        ++ (balance_on (way_of (v ∷ up)) c ∷ list_right (way_of up) v)) total
    go None p r q e = let no_way : ⊥ = cc in absurd no_way
    go (Some a) p None q e = let no_way : ⊥ = cc in absurd no_way
    go (Some a) p (Some b) q e =
        let way = way_of up in
        let left = left_totals way v.number v.kind v.left a sides p in
        let mine : Totals way (balance_on (way_of (v ∷ up)) c ∷ []) c = record {
          quiet = tt;
          sum = bound c;
          rows = append-nil _ ∙ closed_records way v.number (length v.left) v.kind c.records
              (λ s. absurd (clash_at s));
        } in
        let right = right_totals way v.number v.kind (length v.left) v.right b q in
        let both = totals-append way (list_left way v.number v.kind v.left ++ (balance_on (way_of (v ∷ up)) c ∷ [])) (list_right way v)
        (added a c) b (totals-append way (list_left way v.number v.kind v.left) (balance_on (way_of (v ∷ up)) c ∷ []) a c left mine)
        right in
        subst (λ d. Totals way (list_left way v.number v.kind v.left ++ (balance_on (way_of (v ∷ up)) c ∷ list_right way v)) d)
        (some-same (added (added a c) b) total e)
        (subst (λ l. Totals way l (added (added a c) b))
        (append-assoc (list_left way v.number v.kind v.left) (balance_on (way_of (v ∷ up)) c ∷ []) (list_right way v)) both)
      where
        bound : (c : TreeCredit) → min greatest c.inferences ≡ min greatest (c.inferences + 0)
        bound c = omega arith

        clash_at : is_side v.kind (length v.left) ≡ true → ⊥
        clash_at s = let both : false ≡ true = sym off ∙ s in cc

-- the list of a tree round a place that closes
pub closed_round : (v : Level) (up : List Level) (c : TreeCredit) → pending_list (plug (v ∷ up) (Closed c))
    ≡ front_of up ++ (node_list up v c ++ back_of up)
closed_round v up c =
    let credit = Credit (spent_at up) [] in
    let left = list_left (way_of up) v.number v.kind v.left in
    let mine = balance_on (way_of (v ∷ up)) c in
    let right = list_right (way_of up) v in
    around (v ∷ up) (Closed c)
    ∙ (append-assoc (front_of up) (credit ∷ left) (mine ∷ (right ++ back_of up))
    ∙ ap (λ l. front_of up ++ (credit ∷ l)) (sym (append-assoc left (mine ∷ right) (back_of up))))
