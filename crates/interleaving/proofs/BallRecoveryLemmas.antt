-- A ball that is caught: the recovery wakes; and where the world threw it.
use Rattle.std.proofs.Common.{◌≡◌, ℕ, ◌+◌, ◌≤◌, Bool, true, false, cond, List, [], ◌∷◌, ◌++◌, map, length, Some, refl, sym, ap, ◌∙◌}
use Rattle.std.proofs.Common.{subst, arith}
use Rattle.std.specs.Prelude.{min}
use Rattle.au_term.specs.Term.{Term}
use Rattle.au_model.specs.Terms.Each.{Each}
use Rattle.run_model.specs.Programs.Clauses.{Clause}
use Rattle.au_model.specs.Terms.Substitutions.{Substitution}
use Rattle.au_model.specs.Terms.Copies.{copy_takes}
use Rattle.run_model.specs.Programs.Bodies.{call_of}
use Rattle.run_model.specs.Machine.Items.{GoalItem, Continuation, resolve_item, resolve_named}
use Rattle.run_model.specs.Machine.Entries.{PlainEntry, CatchEntry}
use Rattle.tree_model.specs.Credits.{greatest, credit_of}
use Rattle.tree_model.specs.Nodes.{ChoiceNode}
use Rattle.tree_model.specs.Levels.{Level}
use Rattle.tree_model.specs.Floors.{node_of, with_nodes, floor_of}
use Rattle.tree_model.specs.Orders.{levels_below}
use Rattle.tree_model.specs.Closing.{wakes}
use Rattle.tree_model.specs.PendingLists.{Way, way_of, findall_on, balance_on, element_on, pending_list, front_of, back_of}
use Rattle.tree_model.specs.Ways.{is_on, IsAsked}
use Rattle.tree_model.specs.SoundTrees.{IsOpen}
use Rattle.tree_model.specs.Elements.{Name, Record, Element, Credit, Plain, EndOf}
use Rattle.interleaving.specs.Machine.{Machine, gives}
use Rattle.interleaving.specs.Scopes.{Shared, Sought, scoped}
use Rattle.interleaving.specs.Segments.{outer}
use Rattle.interleaving.specs.Quiet.{inferences, records}
use Rattle.interleaving.specs.Roots.{rooted}
use Rattle.interleaving.specs.Views.{IsBlind, IsInner}
use Rattle.interleaving.specs.Laws.{is_inner_record, IsSegment}
use Rattle.interleaving.specs.Erased.{erased}
use Rattle.interleaving.specs.Sound.{IsSound}
use Rattle.interleaving.specs.Follows.{lead, Follows}
use Rattle.interleaving.proofs.ContextLemmas.{IsAround}
use Rattle.interleaving.proofs.WayLemmas.{off_way}
use Rattle.interleaving.proofs.RoundtripLemmas.{by_heights}
use Rattle.interleaving.proofs.ClosingSoundLemmas.{IsFree}
use Rattle.interleaving.proofs.AppendLemmas.{append-assoc, each-append, append-nil}
use Rattle.interleaving.proofs.QuietCreditLemmas.{map-fixed, quiet-private}
use Rattle.interleaving.proofs.SoundEarlyLemmas.{sound-after, sound_exchange, private-sound, all-gathered}
use Rattle.interleaving.proofs.SoundStepLemmas.{AllGathered}
use Rattle.interleaving.specs.Segments.{Private}
use Rattle.interleaving.proofs.RootLemmas.{are_distinguished}
use Rattle.interleaving.proofs.ClockLemmas.{AreClear, quiet-append, inferences-append}
use Rattle.interleaving.proofs.ListChangeLemmas.{becomes as private_becomes, no_credit}
use Rattle.interleaving.proofs.RunHeightLemmas.{names_are_free}
use Rattle.interleaving.proofs.FrontSameLemmas.{front_is_same}
use Rattle.interleaving.proofs.LeadLemmas.{lead-quiet, lead-grows}
use Rattle.interleaving.proofs.FoldLemmas.{Passes, passes_then, passes_becoming, credit_counted, HaveNoSideRecords, records-append}
use Rattle.interleaving.proofs.WakeLemmas.{after_wake}
use Rattle.interleaving.proofs.ListScopeLemmas.{IsDistinct}
use Rattle.interleaving.proofs.CaughtClosingLemmas.{dormant_there}
use Rattle.interleaving.proofs.BallLevelLemmas.{ball_credit}
use Rattle.interleaving.proofs.CatchingLemmas.{IsCatcher}
use Rattle.interleaving.proofs.LowerListLemmas.{lower_front, lower_back, front_split, lower_quiet}
use Rattle.interleaving.proofs.UpperBlindLemmas.{is_free_of, free_zero}
use Rattle.interleaving.proofs.BallSearchLemmas.{second_step, catch_element, named_recovery}
use Rattle.interleaving.proofs.BallFollowsLemmas.{some_count, recovery_heights, rows_apart, top, free_own, free_next, list_is}
use Rattle.interleaving.proofs.BallFollowsLemmas.{front_blind, back_under, lower, segment, credit_is, findall_above, rows_are}
use Rattle.interleaving.proofs.BallFollowsLemmas.{behind_end}

module _ (clauses : List Clause) (next : ℕ) (v : Level) (above : List Level) (p : Name) (named : Continuation Name)
    (a : IsAround (v ∷ above) IsOpen) (d : IsDistinct (v ∷ above)) (free : IsFree next (v ∷ above)) (sides : HaveNoSideRecords (v ∷ above))
  where
    abbrev levels : List Level
    levels = v ∷ above

    abbrev m : Machine Shared Element Sought Record
    m = scoped clauses

    module _ (w : Level) (up : List Level) (r : Term) (f : Continuation ℕ) (o : Substitution) (ball : Term)
        (c : IsCatcher ball (v ∷ above) w up r f o) where
      abbrev inside : Name → Bool
      inside = rooted (is_free_of up)

      abbrev credits : List Element
      credits = lower_front w.number (v ∷ above) ++ (Credit v.spent [] ∷ [])

      abbrev front : List Element
      front = front_of (w ∷ up)

      abbrev back : List Element
      back = back_of up

      abbrev mid : List Element
      mid = lower_back w.number (v ∷ above)
          ++ (EndOf (0 ∷ w.number ∷ []) ∷ (catch_element w up c.catcher r f ∷ (EndOf (1 ∷ w.number ∷ []) ∷ [])))

      abbrev rows : List Record
      rows = outer (is_inner_record inside) (records credits) ++ []

      abbrev first : List Element
      first = named_recovery ball w up r f o ∷ (EndOf (1 ∷ w.number ∷ []) ∷ [])

      asked : IsAsked (way_of up) f.items
      asked = dormant_there w up IsOpen c.sleeper.spent (CatchEntry c.catcher r f)
          (top clauses next v above p named a d free sides w up r f o ball c).0 c.sleeper.right

      -- the tree's list
      pub ball_wakes : (g : Continuation ℕ) → g.items
          ≡ map (resolve_item o) (GoalItem (call_of r) (length (floor_of up)) ∷ by_heights up f.items) → g.named
          ≡ map (resolve_named o) f.named → g.next ≡ f.next + copy_takes ball → AreClear (levels_below (Some w.number) (v ∷ above))
          → v.spent ≡ 0
          → IsSound (front ++ (Credit (min greatest (inferences credits + 1)) rows ∷ (first ++ back)))
          → IsSound (pending_list (wakes next w up (ball_credit w.number (v ∷ above) (credit_of 1))
          (with_nodes (node_of (v ∷ above)) (PlainEntry g))).root)
          → Follows clauses (front ++ (Credit (min greatest (inferences credits + 1)) rows ∷ (first ++ back)))
          (pending_list (wakes next w up (ball_credit w.number (v ∷ above) (credit_of 1))
          (with_nodes (node_of (v ∷ above)) (PlainEntry g))).root)
      ball_wakes g is named_is next_is clear unspent i j =
          let e = with_nodes (node_of levels) (PlainEntry g) in
          let cr = ball_credit w.number levels (credit_of 1) in
          let far : Way = record { node = next; index = 0; kind = ChoiceNode } ∷ second_step w ∷ way_of up in
          let y = element_on far e in
          let second = EndOf (0 ∷ w.number ∷ []) ∷ (y ∷ (EndOf (0 ∷ next ∷ []) ∷ (EndOf (1 ∷ w.number ∷ []) ∷ []))) in
          let balance : Credit (min greatest (inferences credits + 1)) rows ≡ balance_on (way_of (w ∷ up)) cr = ap (λ n. Credit n rows)
          ((credit_is clauses next v above p named a d free sides w up r f o ball c) clear unspent)
          ∙ ap (λ l. Credit cr.inferences l) ((rows_are clauses next v above p named a d free sides w up r f o ball c) clear) in
          let pre = front ++ (balance_on (way_of (w ∷ up)) cr ∷ []) in
          let old : front ++ (Credit (min greatest (inferences credits + 1)) rows ∷ (first ++ back))
          ≡ pre ++ (first ++ back) = ap (λ x. front ++ (x ∷ (first ++ back))) balance
          ∙ sym (append-assoc front (balance_on (way_of (w ∷ up)) cr ∷ []) (first ++ back)) in
          let pre2 = front ++ (balance_on (way_of (w ∷ up)) cr ∷ EndOf (0 ∷ w.number ∷ []) ∷ []) in
          let ys = y ∷ (EndOf (0 ∷ next ∷ []) ∷ (EndOf (1 ∷ w.number ∷ []) ∷ back)) in
          let root = (wakes next w up cr e).root in
          let new : pending_list root ≡ pre2 ++ (Credit 0 [] ∷ (Credit 0 [] ∷ ys)) = after_wake next w up cr e c.sleeper.left in
          let shift : pre ++ (second ++ back) ≡ pre2 ++ ys = append-assoc front (balance_on (way_of (w ∷ up)) cr ∷ []) (second ++ back)
          ∙ sym (append-assoc front (balance_on (way_of (w ∷ up)) cr ∷ EndOf (0 ∷ w.number ∷ []) ∷ []) ys) in
          let one = no_credit clauses pre2 (Credit 0 [] ∷ ys) in
          let two = no_credit clauses pre2 ys in
          let sound_new : IsSound (pre2 ++ ys) = two.sound (one.sound (subst IsSound new j)) in
          let off_next : is_on (way_of up) next
          ≡ false = off_way next up (free_zero up next (free_next clauses next v above p named a d free sides w up r f o ball c)) in
          let heights : erased (first ++ back) ≡ erased (second ++ back) = recovery_heights levels w up next ball r f g o c.down
          (top clauses next v above p named a d free sides w up r f o ball c).0.new
          off_next asked is named_is next_is in
          let blind : Each (IsBlind inside) pre = each-append (IsBlind inside) front (balance_on (way_of (w ∷ up)) cr ∷ [])
          (front_blind clauses next v above p named a d free sides w up r f o ball c) (
            rows_apart inside (findall_on (way_of (w ∷ up)))
                (findall_above clauses next v above p named a d free sides w up r f o ball c) cr.records,
            tt,
          ) in
          let same : erased (pre ++ (first ++ back)) ≡ erased (pre2 ++ ys) = front_is_same inside pre first second back blind (
            (free_own clauses next v above p named a d free sides w up r f o ball c),
            ((free_own clauses next v above p named a d free sides w up r f o ball c), tt),
          ) (
            (free_own clauses next v above p named a d free sides w up r f o ball c),
            (
              (free_next clauses next v above p named a d free sides w up r f o ball c),
              (
                (free_next clauses next v above p named a d free sides w up r f o ball c),
                ((free_own clauses next v above p named a d free sides w up r f o ball c), tt),
              ),
            ),
          ) heights ∙ ap erased shift in
          let names = names_are_free clauses (pre ++ (first ++ back)) (pre2 ++ ys) (subst IsSound old i) sound_new same in
          let more : lead (pre ++ (first ++ back)) ≤ lead (pre2 ++ (Credit 0 [] ∷ (Credit 0 [] ∷ ys))) =
          let x = ap lead (append-assoc front (balance_on (way_of (w ∷ up)) cr ∷ []) (first ++ back)) in
          let z = ap lead (append-assoc front (balance_on (way_of (w ∷ up)) cr ∷ EndOf (0 ∷ w.number ∷ []) ∷ [])
          (Credit 0 [] ∷ (Credit 0 [] ∷ ys))) in
          let grows = lead-grows front (balance_on (way_of (w ∷ up)) cr ∷ (first ++ back))
          (balance_on (way_of (w ∷ up)) cr ∷ (EndOf (0 ∷ w.number ∷ []) ∷ (Credit 0 [] ∷ (Credit 0 [] ∷ ys)))) (omega arith) in
          omega (arith, x, z, grows) in
          let follows : Follows clauses (pre ++ (first ++ back)) (pre2 ++ (Credit 0 [] ∷ (Credit 0 [] ∷ ys))) = record {
            alike = λ n x b. names n x ∙ (sym (two.alike n x) ∙ sym (one.alike n x));
            lead = λ n b l. omega (arith, more, l);
          } in
          subst (λ l. Follows clauses l (pending_list root)) (sym old) (subst (Follows clauses (pre ++ (first ++ back))) (sym new) follows)

      first_inner : Each (IsInner inside) first
      first_inner = (
        (free_own clauses next v above p named a d free sides w up r f o ball c),
        ((free_own clauses next v above p named a d free sides w up r f o ball c), tt),
      )

      -- where the world throws, the inference is there already
      pub front_passes : AreClear (levels_below (Some w.number) (v ∷ above))
          → Passes clauses (front_of (v ∷ above) ++ (Credit (v.spent + 1) [] ∷ (first ++ back)))
          (front ++ (Credit (min greatest (inferences credits + 1)) rows ∷ (first ++ back)))
      front_passes clear =
          let low = lower_front w.number levels in
          let ones = low ++ (Credit (v.spent + 1) [] ∷ []) in
          let quiet = quiet-append low (Credit (v.spent + 1) [] ∷ []) (lower_quiet w.number levels clear) tt in
          let list : front_of levels ++ (Credit (v.spent + 1) [] ∷ (first ++ back)) ≡ front ++ ((ones ++ first) ++ back) =
          ap (λ l. l ++ (Credit (v.spent + 1) [] ∷ (first ++ back))) (front_split w.number levels ∙ ap (λ l. front_of l ++ low) c.down)
          ∙ (append-assoc front low (Credit (v.spent + 1) [] ∷ (first ++ back))
          ∙ ap (λ l. front ++ l) (sym (append-assoc ones first back ∙ append-assoc low (Credit (v.spent + 1) [] ∷ [])
          (first ++ back)))) in
          let fixed : map (gives m (records ones)) first ≡ first = map-fixed clauses (records ones) first (tt, (tt, tt)) in
          let same : records ones ≡ records credits = records-append low (Credit (v.spent + 1) [] ∷ [])
          ∙ sym (records-append low (Credit v.spent [] ∷ [])) in
          let out : outer (is_inner_record inside) (records ones) ≡ rows = ap (outer (is_inner_record inside)) same
          ∙ sym (append-nil (outer (is_inner_record inside) (records credits))) in
          let counted : inferences ones ≡ inferences low + (v.spent + 1 + 0) = inferences-append low (Credit (v.spent + 1) [] ∷ []) in
          let counted_old : inferences credits ≡ inferences low + (v.spent + 0) = inferences-append low (Credit v.spent [] ∷ []) in
          let number : inferences ones ≡ inferences credits + 1 = omega (arith, counted, counted_old) in
          let part : IsSegment inside front (ones ++ first) back = record {
            grown = are_distinguished.root (is_free_of up);
            front = (front_blind clauses next v above p named a d free sides w up r f o ball c);
            own = each-append (IsInner inside) ones first
                (each-append (IsInner inside) low (Credit (v.spent + 1) [] ∷ [])
                (lower clauses next v above p named a d free sides w up r f o ball c).0 (tt, tt)) first_inner;
            under = (back_under clauses next v above p named a d free sides w up r f o ball c);
            some = some_count ones first (omega arith);
          } in
          let run = quiet-private clauses (is_inner_record inside) ones first quiet in
          let becomes = private_becomes clauses inside (inferences ones) rows front (ones ++ first) first back part
          (subst (λ l. Private m (is_inner_record inside) (inferences ones) rows (ones ++ first) l) fixed
          (subst (λ rs. Private m (is_inner_record inside) (inferences ones) rs (ones ++ first) (map (gives m (records ones)) first))
          out run)) in
          let total : lead ((ones ++ first) ++ back) ≡ inferences ones + 0 = ap lead (append-assoc ones first back)
          ∙ lead-quiet ones (first ++ back) quiet in
          let one : Passes clauses (front ++ ((ones ++ first) ++ back)) (front ++ (Credit (inferences ones) rows ∷ (first ++ back))) =
          passes_becoming clauses _ _ becomes
          (lead-grows front ((ones ++ first) ++ back) (Credit (inferences ones) rows ∷ (first ++ back)) (omega (arith, total))) in
          let two = credit_counted clauses front (first ++ back) (inferences ones) rows
          (behind_end clauses next v above p named a d free sides w up r f o ball c) in
          subst (λ k. Passes clauses (front_of levels ++ (Credit (v.spent + 1) [] ∷ (first ++ back)))
          (front ++ (Credit (min greatest k) rows ∷ (first ++ back)))) number
          (subst (λ l. Passes clauses l (front ++ (Credit (min greatest (inferences ones)) rows ∷ (first ++ back)))) (sym list)
          (passes_then clauses _ _ _ one two))

      pub front_sound : AreClear (levels_below (Some w.number) (v ∷ above)) → inside p ≡ true
          → IsSound (front_of (v ∷ above) ++ (Credit v.spent [] ∷ (Plain p named ∷ back_of (v ∷ above)))) → IsSound (first ++ back)
          → IsSound (front ++ (Credit (min greatest (inferences credits + 1)) rows ∷ (first ++ back)))
      front_sound clear own i j =
          let inner = is_inner_record inside in
          let quiet = quiet-append (lower_front w.number levels) (Credit v.spent [] ∷ []) (lower_quiet w.number levels clear) tt in
          let old : IsSound (front ++ ((credits ++ (Plain p named ∷ mid)) ++ back)) = subst IsSound
          (list_is clauses next v above p named a d free sides w up r f o ball c) i in
          let run = quiet-private clauses inner credits (Plain p named ∷ mid) quiet in
          let s = (segment clauses next v above p named a d free sides w up r f o ball c) own in
          let gathered = (private-sound clauses inside s.grown back s.under (inferences credits) (outer inner (records credits))
          (credits ++ (Plain p named ∷ mid)) (map (gives m (records credits)) (Plain p named ∷ mid)) run s.own
          (sound-after front _ old)).1 in
          let all = all-gathered clauses inside first back (outer inner (records credits)) first_inner (outer_apart (records credits))
          gathered in
          let whole : AllGathered clauses (first ++ back) rows = subst (AllGathered clauses (first ++ back))
          (sym (append-nil (outer inner (records credits)))) all in
          sound_exchange clauses inside front (credits ++ (Plain p named ∷ mid))
          (Credit (min greatest (inferences credits + 1)) rows ∷ first) back
          (front_blind clauses next v above p named a d free sides w up r f o ball c) s.own (tt, first_inner) s.some old (whole, j)
        where
          outer_apart : (rs : List Record) → Each (λ r. inside r.0 ≡ false) (outer (is_inner_record inside) rs)
          outer_apart [] = tt
          outer_apart (r ∷ rs) = go (inside r.0) refl (outer_apart rs)
            where
              go : (b : Bool) → inside r.0 ≡ b → Each (λ r. inside r.0 ≡ false) (outer (is_inner_record inside) rs)
                  → Each (λ r. inside r.0 ≡ false) (cond b (outer (is_inner_record inside) rs) (r ∷ outer (is_inner_record inside) rs))
              go true e h = h
              go false e h = (e, h)
