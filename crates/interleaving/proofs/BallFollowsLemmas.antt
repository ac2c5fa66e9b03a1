-- A ball that is caught: its goal side is one credit, and the recovery wakes.
use Rattle.std.proofs.Common.{◌≡◌, ℕ, ◌+◌, ◌≤◌, ◌<◌, ◌==◌, Bool, true, false, List, [], ◌∷◌, ◌++◌, map, length, Option, Some, refl, sym}
use Rattle.std.proofs.Common.{ap, ◌∙◌, subst, arith}
use Rattle.std.specs.Prelude.{min}
use Rattle.au_term.specs.Term.{Term}
use Rattle.au_model.specs.Terms.Each.{Each}
use Rattle.run_model.specs.Programs.Clauses.{Clause}
use Rattle.au_model.specs.Terms.Substitutions.{Substitution}
use Rattle.au_model.specs.Terms.Copies.{copy_takes}
use Rattle.run_model.specs.Programs.Bodies.{call_of}
use Rattle.run_model.specs.Machine.Items.{GoalItem, Continuation, resolve_item, resolve_named}
use Rattle.run_model.specs.Machine.Entries.{PlainEntry, CatchEntry}
use Rattle.tree_model.specs.Credits.{greatest, credit_of}
use Rattle.tree_model.specs.Nodes.{ChoiceNode, Dormant, Status, Pending}
use Rattle.tree_model.specs.Levels.{Level, plug}
use Rattle.tree_model.specs.Floors.{node_of, with_nodes, floor_of}
use Rattle.tree_model.specs.Orders.{levels_below}
use Rattle.tree_model.specs.CaughtTrees.{is_side}
use Rattle.tree_model.specs.PendingLists.{way_of, findall_on, element_on, list_left, spent_at, front_of, back_of}
use Rattle.tree_model.specs.Ways.{is_on, IsAsked}
use Rattle.tree_model.specs.SoundTrees.{one_if, IsOpen}
use Rattle.tree_model.specs.Elements.{Name, Record, Element, Credit, Plain, Catch, Findall, End, EndOf}
use Rattle.interleaving.specs.Machine.{Machine, Infers, Seek, gives}
use Rattle.interleaving.specs.Scopes.{Shared, Sought, Thrown, act, scoped}
use Rattle.interleaving.specs.Segments.{outer}
use Rattle.interleaving.specs.Quiet.{inferences, records}
use Rattle.interleaving.specs.Roots.{rooted}
use Rattle.interleaving.specs.Views.{IsBlind, IsInner, IsUnder, IsRecordApart}
use Rattle.interleaving.specs.Laws.{is_inner_record, IsSegment}
use Rattle.interleaving.specs.Erased.{element_count, erased}
use Rattle.interleaving.specs.Follows.{lead}
use Rattle.interleaving.proofs.ContextLemmas.{IsAround}
use Rattle.interleaving.proofs.WayLemmas.{cond-false}
use Rattle.interleaving.proofs.RoundtripLemmas.{by_heights}
use Rattle.interleaving.proofs.ClosingSoundLemmas.{IsFree}
use Rattle.interleaving.proofs.AppendLemmas.{append-assoc, each-append, append-nil}
use Rattle.interleaving.proofs.QuietCreditLemmas.{gives-fixed}
use Rattle.tree_model.specs.SoundTrees.{count_among}
use Rattle.tree_model.proofs.CountLemmas.{count_around, count_left}
use Rattle.interleaving.proofs.RootLemmas.{are_distinguished}
use Rattle.interleaving.proofs.ClockLemmas.{AreClear, quiet-append, inferences-append}
use Rattle.interleaving.proofs.ListChangeLemmas.{becomes as private_becomes}
use Rattle.interleaving.proofs.LeadLemmas.{lead-quiet, lead-grows}
use Rattle.interleaving.proofs.EndLemmas.{has_end, end_after, back_end}
use Rattle.interleaving.proofs.FoldLemmas.{Passes, side_name, passes_then, passes_becoming, credit_counted, HaveNoSideRecords, named_by}
use Rattle.interleaving.proofs.FoldLemmas.{records-append}
use Rattle.interleaving.proofs.WakeLemmas.{second_right}
use Rattle.interleaving.proofs.ListEndLemmas.{levels_down}
use Rattle.interleaving.proofs.ListScopeLemmas.{IsDistinct}
use Rattle.interleaving.proofs.ListMarkLemmas.{around-down}
use Rattle.interleaving.proofs.PublishedBareLemmas.{right_of}
use Rattle.interleaving.proofs.FrontCloseLemmas.{bare}
use Rattle.interleaving.proofs.CaughtContextLemmas.{IsCaughtRoot}
use Rattle.interleaving.proofs.CaughtBallLemmas.{catch_no_side}
use Rattle.interleaving.proofs.CaughtClosingLemmas.{dormant_there}
use Rattle.interleaving.proofs.BallLevelLemmas.{ball_credit, FirstShut}
use Rattle.interleaving.proofs.CatchingLemmas.{CaughtBy, catching, MarkIsDormant, IsCatcher}
use Rattle.interleaving.proofs.LowerListLemmas.{lower_front, lower_back, front_split, back_split, lower_quiet, ball_credit_counts}
use Rattle.interleaving.proofs.LowerListLemmas.{ball_credit_low}
use Rattle.interleaving.proofs.LowerListLemmas.{count_lower, count_split, lower_inner}
use Rattle.interleaving.proofs.UpperBlindLemmas.{NoSideTop, blind_is_under, is_free_of, zero_free, upper_front, upper_back, upper_findall}
use Rattle.interleaving.proofs.UpperBlindLemmas.{ball_credit_rows}
use Rattle.interleaving.proofs.BallSearchLemmas.{second_step, catch_element, named_recovery, mark_name}
use Rattle.interleaving.proofs.BallCatchLemmas.{finds}
use Rattle.interleaving.proofs.RecoveryNamesLemmas.{recovery_same}
use Rattle.interleaving.proofs.GatePrivateLemmas.{gate_private}
use Rattle.au_term.proofs.LogicLemmas.{false_true, number_same}

pub some_count : (xs ys : List Element) → 0 < element_count ys → 0 < element_count (xs ++ ys)
some_count [] ys h = h
some_count (Credit k rs ∷ xs) ys h = let i = some_count xs ys h in omega (arith, i)
some_count (Plain p f ∷ xs) ys h = let i = some_count xs ys h in omega (arith, i)
some_count (EndOf s ∷ xs) ys h = some_count xs ys h
some_count (Catch s u c r p f ∷ xs) ys h = let i = some_count xs ys h in omega (arith, i)
some_count (Findall s u rs l p f ∷ xs) ys h = let i = some_count xs ys h in omega (arith, i)
some_count (End p b ∷ xs) ys h = let i = some_count xs ys h in omega (arith, i)

-- the recovery, over what is right of its node
pub recovery_heights : (levels : List Level) (w : Level) (up : List Level) (next : ℕ) (ball r : Term) (f g : Continuation ℕ)
    (o : Substitution) → levels_down levels w.number ≡ w ∷ up → is_on (way_of up) w.number ≡ false → is_on (way_of up) next ≡ false
    → IsAsked (way_of up) f.items
    → g.items ≡ map (resolve_item o) (GoalItem (call_of r) (length (floor_of up)) ∷ by_heights up f.items) → g.named
    ≡ map (resolve_named o) f.named → g.next ≡ f.next + copy_takes ball
    → erased (named_recovery ball w up r f o ∷ (EndOf (1 ∷ w.number ∷ []) ∷ back_of up))
    ≡ erased (element_on (record { node = next; index = 0; kind = ChoiceNode } ∷ second_step w ∷ way_of up)
    (with_nodes (node_of levels) (PlainEntry g)) ∷ (EndOf (0 ∷ next ∷ []) ∷ (EndOf (1 ∷ w.number ∷ []) ∷ back_of up)))
recovery_heights levels w [] next ball r f g o down new fresh asked is named next_is = false_true asked.asked
recovery_heights levels w (u ∷ up) next ball r f g o down new fresh asked is named next_is = recovery_same levels w u up next
    (right_of (u ∷ up)) down new fresh ball r f g o asked is named next_is

pub rows_apart : (inside : Name → Bool) (name : Name) → inside name ≡ false → (ts : List Term)
    → Each (IsRecordApart inside) (map {B = Record} (λ t. (name, t)) ts)
rows_apart inside name h [] = tt
rows_apart inside name h (t ∷ ts) = (h, rows_apart inside name h ts)

-- an entry of a branch, with nothing spent, and what is round it in the list
module _ (clauses : List Clause) (next : ℕ) (v : Level) (above : List Level) (p : Name) (named : Continuation Name)
    (a : IsAround (v ∷ above) IsOpen) (d : IsDistinct (v ∷ above)) (free : IsFree next (v ∷ above)) (sides : HaveNoSideRecords (v ∷ above))
  where
    abbrev levels : List Level
    levels = v ∷ above

    abbrev m : Machine Shared Element Sought Record
    m = scoped clauses

    module _ (w : Level) (up : List Level) (r : Term) (f : Continuation ℕ) (o : Substitution) (ball : Term)
        (c : IsCatcher ball (v ∷ above) w up r f o) where
      abbrev inside : Name → Bool
      inside = rooted (is_free_of up)

      pub top : IsAround (w ∷ up) IsOpen
      top = subst (λ l. IsAround l IsOpen) c.down (around-down levels w.number a)

      free_lower : (k : ℕ) → 1 ≤ count_lower k w.number levels → is_free_of up k ≡ true
      free_lower k l =
          let all = count_split k w.number levels in
          let most = d k in
          let here : count_around k (levels_down levels w.number) ≡ count_around k (w ∷ up) = ap (count_around k) c.down in
          let less : count_around k up ≤ count_around k (w ∷ up) = omega arith in
          zero_free up k (omega (arith, all, most, here, less, l))

      pub free_own : is_free_of up w.number ≡ true
      free_own =
          let all = count_split w.number w.number levels in
          let most = d w.number in
          let here : count_around w.number (levels_down levels w.number) ≡ count_around w.number (w ∷ up) = ap (count_around w.number)
          c.down in
          let one : one_if (w.number == w.number) ≡ 1 = ap one_if (number_same w.number) in
          zero_free up w.number (omega (arith, all, most, here, one))

      pub free_next : is_free_of up next ≡ true
      free_next =
          let all = count_split next w.number levels in
          let none_there = free.fresh next (omega arith) in
          let here : count_around next (levels_down levels w.number) ≡ count_around next (w ∷ up) = ap (count_around next) c.down in
          zero_free up next (omega (arith, all, none_there, here))

      pub free_top : is_free_of up v.number ≡ true
      free_top = go (v.number == w.number) refl
        where
          go : (b : Bool) → (v.number == w.number) ≡ b → is_free_of up v.number ≡ true
          go true e = let same : v.number ≡ w.number = grind arith in subst (λ n. is_free_of up n ≡ true) (sym same) free_own
          go false e =
              let less : count_lower v.number w.number levels
              ≡ count_lower v.number w.number above +
              (one_if (v.number == v.number) + (count_left v.number v.left + count_among v.number v.right)) = cond-false
              (v.number == w.number) 0 _ e in
              let one : one_if (v.number == v.number) ≡ 1 = ap one_if (number_same v.number) in
              free_lower v.number (omega (arith, less, one))

      -- the parts of the list
      abbrev credits : List Element
      credits = lower_front w.number (v ∷ above) ++ (Credit v.spent [] ∷ [])

      abbrev front : List Element
      front = front_of (w ∷ up)

      abbrev back : List Element
      back = back_of up

      abbrev end : Element
      end = EndOf (1 ∷ w.number ∷ [])

      abbrev mid : List Element
      mid = lower_back w.number (v ∷ above)
          ++ (EndOf (0 ∷ w.number ∷ []) ∷ (catch_element w up c.catcher r f ∷ (EndOf (1 ∷ w.number ∷ []) ∷ [])))

      pub list_is : front_of (v ∷ above) ++ (Credit v.spent [] ∷ (Plain p named ∷ back_of (v ∷ above)))
          ≡ front ++ ((credits ++ (Plain p named ∷ mid)) ++ back)
      list_is =
          let low = lower_front w.number levels in
          let tail = Plain p named ∷ back_of levels in
          let behind : back_of levels ≡ mid ++ back = back_split w.number levels
          ∙ (ap (λ l. lower_back w.number levels ++ back_of l) c.down
          ∙ (ap (λ l. lower_back w.number levels ++ (l ++ back))
          (second_right w up c.sleeper.spent (Pending Dormant (CatchEntry c.catcher r f)) c.sleeper.left c.sleeper.right)
          ∙ sym (append-assoc (lower_back w.number levels)
          (EndOf (0 ∷ w.number ∷ []) ∷ (catch_element w up c.catcher r f ∷ (EndOf (1 ∷ w.number ∷ []) ∷ []))) back))) in
          ap (λ l. l ++ (Credit v.spent [] ∷ tail)) (front_split w.number levels ∙ ap (λ l. front_of l ++ low) c.down)
          ∙ (append-assoc front low (Credit v.spent [] ∷ tail)
          ∙ (ap (λ l. front ++ (low ++ (Credit v.spent [] ∷ (Plain p named ∷ l)))) behind
          ∙ ap (λ l. front ++ l) (sym (append-assoc credits (Plain p named ∷ mid) back
          ∙ append-assoc low (Credit v.spent [] ∷ []) (Plain p named ∷ (mid ++ back))))))

      -- the segment
      pub front_blind : Each (IsBlind inside) front
      front_blind = each-append (IsBlind inside) (front_of up) _ (upper_front up top.1)
          (tt, subst (λ l. Each (IsBlind inside) (list_left (way_of up) w.number w.kind l)) (sym c.sleeper.left) tt)

      pub back_under : Each (IsUnder inside) back
      back_under = blind_is_under inside back (upper_back up top.1)

      pub lower : Each (IsInner inside) (lower_front w.number levels) × Each (IsInner inside) (lower_back w.number levels)
      lower = lower_inner inside (is_free_of up) (λ s h. h) w.number levels free_lower

      pub segment : inside p ≡ true → IsSegment inside front (credits ++ (Plain p named ∷ mid)) back
      segment own = record {
        grown = are_distinguished.root (is_free_of up);
        front = front_blind;
        own = each-append (IsInner inside) credits (Plain p named ∷ mid)
            (each-append (IsInner inside) (lower_front w.number levels) (Credit v.spent [] ∷ []) lower.0 (tt, tt)) (
              own,
              each-append (IsInner inside) (lower_back w.number levels)
                  (EndOf (0 ∷ w.number ∷ []) ∷ (catch_element w up c.catcher r f ∷ (EndOf (1 ∷ w.number ∷ []) ∷ []))) lower.1
                  (free_own, ((free_own, free_own), (free_own, tt))),
            );
        under = back_under;
        some = some_count credits (Plain p named ∷ mid) (omega arith);
      }

      abbrev rows : List Record
      rows = outer (is_inner_record inside) (records credits) ++ []

      abbrev first : List Element
      first = named_recovery ball w up r f o ∷ (EndOf (1 ∷ w.number ∷ []) ∷ [])

      -- the end of the query is behind
      pub behind_end : has_end (first ++ back) ≡ true
      behind_end = end_after first back (back_end up top.1 (dormant_there w up IsOpen c.sleeper.spent (CatchEntry c.catcher r f) top.0
          c.sleeper.right).asked)

      -- the ball, taken at once
      pub ball_taken : (status : Status) (mark : Option ℕ) → IsCaughtRoot (plug (v ∷ above) status) → MarkIsDormant (v ∷ above) mark
          → catching ball (v ∷ above) mark ≡ CaughtBy w up r f o → AreClear (levels_below (Some w.number) (v ∷ above)) → inside p ≡ true
          → act clauses (bare clauses p named) ≡ Infers (Seek (Thrown ball (mark_name (way_of (v ∷ above)) mark) p))
          → Passes clauses (front_of (v ∷ above) ++ (Credit v.spent [] ∷ (Plain p named ∷ back_of (v ∷ above))))
          (front ++ (Credit (min greatest (inferences credits + 1)) rows ∷ (first ++ back)))
      ball_taken status mark root sleeps falls clear own takes =
          let quiet = quiet-append (lower_front w.number levels) (Credit v.spent [] ∷ []) (lower_quiet w.number levels clear) tt in
          let found = finds clauses ball p (records credits) levels status mark a d root.caught sleeps w up r f o falls c.catcher
          c.unifies (EndOf (1 ∷ w.number ∷ []) ∷ []) in
          let fixed : map (gives m (records credits)) (EndOf (1 ∷ w.number ∷ []) ∷ []) ≡ EndOf (1 ∷ w.number ∷ []) ∷ [] = ap (λ x. x ∷ [])
          (gives-fixed clauses (records credits) (EndOf (1 ∷ w.number ∷ [])) tt) in
          let run = gate_private clauses (is_inner_record inside) credits p named (Seek (Thrown ball (mark_name (way_of levels) mark) p))
          mid first quiet takes (found ∙ ap (λ l. Some (named_recovery ball w up r f o ∷ l)) fixed) in
          let becomes = private_becomes clauses inside (inferences credits + 1) rows front (credits ++ (Plain p named ∷ mid)) first back
          (segment own) run in
          let total : lead ((credits ++ (Plain p named ∷ mid)) ++ back)
          ≡ inferences credits + 0 = ap lead (append-assoc credits (Plain p named ∷ mid) back)
          ∙ lead-quiet credits (Plain p named ∷ (mid ++ back)) quiet in
          let one : Passes clauses (front ++ ((credits ++ (Plain p named ∷ mid)) ++ back))
          (front ++ (Credit (inferences credits + 1) rows ∷ (first ++ back))) = passes_becoming clauses _ _ becomes
          (lead-grows front ((credits ++ (Plain p named ∷ mid)) ++ back) (Credit (inferences credits + 1) rows ∷ (first ++ back))
          (omega (arith, total))) in
          let two = credit_counted clauses front (first ++ back) (inferences credits + 1) rows behind_end in
          subst (λ l. Passes clauses l (front ++ (Credit (min greatest (inferences credits + 1)) rows ∷ (first ++ back)))) (sym list_is)
          (passes_then clauses _ _ _ one two)

      -- what a ball has left is the credit of its goal side
      pub credit_is : AreClear (levels_below (Some w.number) (v ∷ above)) → v.spent ≡ 0 → min greatest (inferences credits + 1)
          ≡ (ball_credit w.number (v ∷ above) (credit_of 1)).inferences
      credit_is clear unspent =
          let counts = ball_credit_counts w.number levels (credit_of 1) clear (subst FirstShut (sym c.down) c.sleeper.left) in
          let low = ball_credit_low w.number v above (credit_of 1) in
          let joined : inferences credits ≡ inferences (lower_front w.number levels) + (v.spent + 0) = inferences-append
          (lower_front w.number levels) (Credit v.spent [] ∷ []) in
          let here : spent_at levels + (credit_of 1).inferences ≡ v.spent + 1 = refl in
          omega (arith, counts, low, joined, here)

      no_side_top : is_side w.kind (length w.left) ≡ false
      no_side_top = catch_no_side w up top c.catcher r f c.sleeper

      pub findall_above : inside (findall_on (way_of (w ∷ up))) ≡ false
      findall_above = ap inside (side_name (way_of up) w.number (length w.left) w.kind no_side_top) ∙ upper_findall up

      pub rows_are : AreClear (levels_below (Some w.number) (v ∷ above)) → rows
          ≡ named_by (way_of (w ∷ up)) (ball_credit w.number (v ∷ above) (credit_of 1)).records
      rows_are clear =
          let joined : records credits ≡ records (lower_front w.number levels) ++ [] = records-append (lower_front w.number levels)
          (Credit v.spent [] ∷ []) in
          append-nil (outer (is_inner_record inside) (records credits))
          ∙ (ap (outer (is_inner_record inside)) joined
          ∙ (ball_credit_rows inside w.number levels (credit_of 1) clear sides (subst FirstShut (sym c.down) c.sleeper.left)
          (subst NoSideTop (sym c.down) no_side_top) (ap (λ l. inside (findall_on (way_of l))) c.down ∙ findall_above) free_lower
          ∙ ap (λ l. named_by (way_of l) (ball_credit w.number levels (credit_of 1)).records) c.down))
