-- The end of a query, and what follows a findall, wake.
use Rattle.std.proofs.Common.{◌≡◌, ℕ, suc, ◌≤◌, ◌==◌, false, List, [], ◌∷◌, ◌++◌, length, refl, sym, ap, ◌∙◌, subst, arith}
use Rattle.au_model.specs.Terms.Each.{Each}
use Rattle.run_model.specs.Programs.Clauses.{Clause}
use Rattle.run_model.specs.Machine.Entries.{Entry, EndEntry}
use Rattle.tree_model.specs.Credits.{Credit as TreeCredit}
use Rattle.tree_model.specs.Nodes.{ChoiceNode, Dormant, none, alternative, Status, Pending, Inner, Closed, single}
use Rattle.tree_model.specs.Levels.{Level, plug}
use Rattle.tree_model.specs.Closing.{with_right, wakes}
use Rattle.tree_model.specs.Elements.{Element, Credit, EndOf, End}
use Rattle.tree_model.specs.PendingLists.{way_of, balance_on, element_on, list_among, list_below, list_right, pending_list, front_of}
use Rattle.tree_model.specs.PendingLists.{back_of}
use Rattle.tree_model.specs.SoundTrees.{one_if, IsOpen}
use Rattle.tree_model.proofs.CountLemmas.{count_around}
use Rattle.interleaving.specs.Views.{IsBlind}
use Rattle.interleaving.specs.Sound.{IsSound}
use Rattle.interleaving.specs.Erased.{erased}
use Rattle.interleaving.specs.Follows.{lead, Follows}
use Rattle.interleaving.proofs.ContextLemmas.{IsAround}
use Rattle.interleaving.proofs.WayLemmas.{one_if-zero}
use Rattle.interleaving.proofs.AppendLemmas.{append-assoc, each-append}
use Rattle.interleaving.proofs.RunHeightLemmas.{names_are_free}
use Rattle.interleaving.proofs.ListChangeLemmas.{no_credit}
use Rattle.interleaving.proofs.LeadLemmas.{lead-grows}
use Rattle.interleaving.proofs.BlindLemmas.{of_node, beside, front_blind, records_apart, off_levels}
use Rattle.interleaving.proofs.RenameLemmas.{same_front, end_put}
use Rattle.interleaving.proofs.ClosingListLemmas.{Guards, closed_list, EndWakes}
use Rattle.au_term.proofs.LogicLemmas.{number_same}

-- the list after a first alternative, for what is second
pub second_right : (v : Level) (up : List Level) (spent : ℕ) (status : Status) → v.left ≡ [] → v.right ≡ alternative spent status none
    → list_right (way_of up) v ≡ EndOf (0 ∷ v.number ∷ [])
    ∷ (list_below (record { node = v.number; index = 1; kind = v.kind } ∷ way_of up) spent status ++ (EndOf (1 ∷ v.number ∷ []) ∷ []))
second_right v up spent status l r = ap
    (λ x. EndOf (length x ∷ v.number ∷ []) ∷ list_among (way_of up) v.number v.kind (suc (length x)) v.right) l
    ∙ ap (λ x. EndOf (0 ∷ v.number ∷ []) ∷ list_among (way_of up) v.number v.kind 1 x) r

-- the list before and after something wakes
pub before_wake : (v : Level) (up : List Level) (c : TreeCredit) (e : Entry) → Guards v e → pending_list (plug (v ∷ up) (Closed c))
    ≡ (front_of (v ∷ up) ++ (balance_on (way_of (v ∷ up)) c ∷ EndOf (0 ∷ v.number ∷ []) ∷ []))
    ++ (element_on (record { node = v.number; index = 1; kind = v.kind } ∷ way_of up) e ∷ (EndOf (1 ∷ v.number ∷ []) ∷ back_of up))
before_wake v up c e g =
    closed_list (v ∷ up) c
    ∙ (ap (λ l. front_of (v ∷ up) ++ (balance_on (way_of (v ∷ up)) c ∷ (l ++ back_of up)))
    (second_right v up g.spent (Pending Dormant e) g.left g.right)
    ∙ sym (append-assoc (front_of (v ∷ up)) (balance_on (way_of (v ∷ up)) c ∷ EndOf (0 ∷ v.number ∷ []) ∷ []) _))

pub after_wake : (next : ℕ) (v : Level) (up : List Level) (c : TreeCredit) (e : Entry) → v.left ≡ []
    → pending_list (wakes next v up c e).root ≡ (front_of (v ∷ up) ++ (balance_on (way_of (v ∷ up)) c ∷ EndOf (0 ∷ v.number ∷ []) ∷ []))
    ++ (Credit 0 [] ∷ (Credit 0 [] ∷
    (element_on (record { node = next; index = 0; kind = ChoiceNode } ∷ record { node = v.number; index = 1; kind = v.kind } ∷ way_of
    up) e ∷ (EndOf (0 ∷ next ∷ []) ∷ (EndOf (1 ∷ v.number ∷ []) ∷ back_of up)))))
after_wake next v up c e l =
    let w = with_right (Inner (single next e)) v in
    closed_list (w ∷ up) c
    ∙ (ap (λ x. front_of (v ∷ up) ++ (balance_on (way_of (v ∷ up)) c ∷ (x ++ back_of up)))
    (second_right w up 0 (Inner (single next e)) l refl)
    ∙ sym (append-assoc (front_of (v ∷ up)) (balance_on (way_of (v ∷ up)) c ∷ EndOf (0 ∷ v.number ∷ []) ∷ []) _))

-- what is in front is blind to a number that no node has
pub fresh_blind : (next : ℕ) (v : Level) (up : List Level) (c : TreeCredit) → IsAround (v ∷ up) IsOpen → count_around next (v ∷ up) ≡ 0
    → Each (IsBlind (of_node next)) (front_of (v ∷ up) ++ (balance_on (way_of (v ∷ up)) c ∷ EndOf (0 ∷ v.number ∷ []) ∷ []))
fresh_blind next v up c a f = each-append (IsBlind (of_node next)) (front_of (v ∷ up)) _ (front_blind next (v ∷ up) f a)
    (records_apart next (way_of (v ∷ up)) c.records (off_levels next (v ∷ up) f), (tt, tt))

pub not_next : (next : ℕ) (v : Level) (up : List Level) → count_around next (v ∷ up) ≡ 0 → (v.number == next) ≡ false
not_next next v up f = one_if-zero (v.number == next) (let here : one_if (v.number == next) ≡ 0 = omega (arith, f) in here)

-- lists that differ by empty credits and names
pub woken_follow : (clauses : List Clause) (pre xs ys : List Element) → IsSound (pre ++ xs)
    → IsSound (pre ++ (Credit 0 [] ∷ (Credit 0 [] ∷ ys))) → erased (pre ++ xs) ≡ erased (pre ++ ys) → lead xs ≤ lead ys
    → Follows clauses (pre ++ xs) (pre ++ (Credit 0 [] ∷ (Credit 0 [] ∷ ys)))
woken_follow clauses pre xs ys i j e l =
    let one = no_credit clauses pre (Credit 0 [] ∷ ys) in
    let two = no_credit clauses pre ys in
    let free = names_are_free clauses (pre ++ xs) (pre ++ ys) i (two.sound (one.sound j)) e in
    let grows = lead-grows pre xs (Credit 0 [] ∷ (Credit 0 [] ∷ ys)) (omega (arith, l)) in
    record { alike = λ n w b. free n w ∙ (sym (two.alike n w) ∙ sym (one.alike n w)); lead = λ m b k. omega (arith, grows, k) }

pub end_wakes : (clauses : List Clause) → EndWakes clauses
end_wakes clauses next v up c b g a d fresh i j =
    let n = v.number in
    let pre = front_of (v ∷ up) ++ (balance_on (way_of (v ∷ up)) c ∷ EndOf (0 ∷ n ∷ []) ∷ []) in
    let zs = EndOf (1 ∷ n ∷ []) ∷ back_of up in
    let old = End (0 ∷ 1 ∷ n ∷ []) b in
    let new = End (0 ∷ 0 ∷ next ∷ []) b in
    let before = before_wake v up c (EndEntry b) g in
    let after = after_wake next v up c (EndEntry b) g.left in
    let blind : Each (IsBlind (of_node next)) (pre ++ (old ∷ [])) = each-append (IsBlind (of_node next)) pre (old ∷ [])
    (fresh_blind next v up c a fresh) (beside next 1 n (not_next next v up fresh), tt) in
    let put : erased (pre ++ (old ∷ zs)) ≡ erased (pre ++ (old ∷ (EndOf (0 ∷ next ∷ []) ∷ zs))) = ap erased
    (sym (append-assoc pre (old ∷ []) zs))
    ∙ (end_put next 0 (pre ++ (old ∷ [])) zs (number_same next) blind
    ∙ ap erased (append-assoc pre (old ∷ []) (EndOf (0 ∷ next ∷ []) ∷ zs))) in
    let named = (same_front pre (old ∷ (EndOf (0 ∷ next ∷ []) ∷ zs)) (new ∷ (EndOf (0 ∷ next ∷ []) ∷ zs))
    (record { entries = refl; counts = refl; heights = λ s. refl })).entries in
    let follows = woken_follow clauses pre (old ∷ zs) (new ∷ (EndOf (0 ∷ next ∷ []) ∷ zs)) (subst IsSound before i)
    (subst IsSound after j) (put ∙ named) (omega arith) in
    subst (λ l. Follows clauses l (pending_list (wakes next v up c (EndEntry b)).root)) (sym before)
    (subst (Follows clauses (pre ++ (old ∷ zs))) (sym after) follows)
