-- A private run that leaves nothing takes its place in the list to a credit.
use Rattle.std.proofs.Common.{◌≡◌, ◌+◌, ◌≤◌, ◌⊎◌, inl, inr, true, false, List, [], ◌∷◌, ◌++◌, Option, Some, None, refl, sym, ap, ◌∙◌}
use Rattle.std.proofs.Common.{subst, arith}
use Rattle.run_model.specs.Machine.Entries.{Entry, PlainEntry, CatchEntry, FindallEntry, EndEntry}
use Rattle.tree_model.specs.Credits.{credit_of}
use Rattle.tree_model.specs.Nodes.{Pending, Closed}
use Rattle.tree_model.specs.Levels.{plug, levels_of}
use Rattle.tree_model.specs.Legality.{run_of, run_is_empty}
use Rattle.tree_model.specs.PendingLists.{way_of, element_on, pending_list, front_of, back_of}
use Rattle.tree_model.specs.Ways.{is_on, IsOnWay, IsAwake}
use Rattle.tree_model.specs.CaughtTrees.{IsUnspent}
use Rattle.tree_model.specs.Elements.{Credit}
use Rattle.interleaving.specs.Sound.{IsSound}
use Rattle.interleaving.specs.Follows.{lead, Follows}
use Rattle.interleaving.specs.RunLaws.{Reaches, EmptyReaches}
use Rattle.interleaving.proofs.OpenSpotLemmas.{IsOpenSpot, IsPlaced, placed_at}
use Rattle.interleaving.proofs.SoundClosingLemmas.{free_at}
use Rattle.interleaving.proofs.LegalLemmas.{awake_entry}
use Rattle.interleaving.proofs.WayLemmas.{off_way}
use Rattle.interleaving.proofs.LeadLemmas.{lead-grows}
use Rattle.interleaving.proofs.ClockLemmas.{list_round}
use Rattle.interleaving.proofs.ClosingListLemmas.{closed_list}
use Rattle.interleaving.proofs.FrontCloseLemmas.{unspent_out}
use Rattle.interleaving.proofs.RunEventLemmas.{end_stays}
use Rattle.interleaving.proofs.PublishedBareLemmas.{list_before}
use Rattle.interleaving.proofs.PublishedEndLemmas.{list_closed, closed_sound, emptied_alike}
use Rattle.interleaving.proofs.CollectedRunLemmas.{run_is}
use Rattle.au_term.proofs.LogicLemmas.{false_true}

empty_run : (o : Option (List Entry)) → run_is_empty o ≡ true → o ≡ Some []
empty_run None h = false_true h
empty_run (Some []) h = refl
empty_run (Some (e ∷ es)) h = false_true h

pub empty_reaches : EmptyReaches
empty_reaches t s k i q z place running x = go s.entry refl p.entry.0 (awake_entry s.hold s.entry o.opened p.entry.1)
  where
    o : IsOpenSpot t.root s
    o = record { inside = place.inside; opened = place.opened }

    p : IsPlaced s
    p = placed_at t s i o

    go : (e : Entry) → s.entry ≡ e → IsOnWay (way_of (levels_of s)) e → IsAwake e → Reaches t.job.clauses (pending_list t.root)
        (pending_list (plug (levels_of s) (Closed (credit_of k))))
    go (CatchEntry c r f) e h a = absurd a
    go (FindallEntry results l f) e h a = absurd a
    go (EndEntry b) e h a = stays (end_stays t s b k e)
      where
        stays : (run_of t s k ≡ None) ⊎ (run_of t s k ≡ Some (EndEntry b ∷ [])) → Reaches t.job.clauses (pending_list t.root)
            (pending_list (plug (levels_of s) (Closed (credit_of k))))
        stays (inl y) = false_true (sym (ap run_is_empty y) ∙ x)
        stays (inr y) = false_true (sym (ap run_is_empty y) ∙ x)
    go (PlainEntry f) e h a =
        let v = s.level in
        let up = s.above in
        let free = free_at t s i o in
        let off : is_on (way_of (v ∷ up)) t.next ≡ false = off_way t.next (v ∷ up) (free.fresh t.next (omega arith)) in
        let run = run_is t s k f e ∙ empty_run (run_of t s k) x in
        let unspent : v.spent ≡ 0 = unspent_out v up (Pending s.hold s.entry) (subst (IsUnspent 0) (sym o.inside) (q.unspent running)) in
        let before : pending_list t.root ≡ list_before v up v.spent f = list_round t.root s o.inside o.opened
        ∙ ap (λ y. front_of (v ∷ up) ++ (Credit v.spent [] ∷ (element_on (way_of (v ∷ up)) y ∷ back_of (v ∷ up)))) e in
        let after : list_closed v up (v.spent + k) ≡ pending_list (plug (v ∷ up) (Closed (credit_of k))) =
        (let same : v.spent + k ≡ k = omega (arith, unspent) in ap (λ n. front_of (v ∷ up) ++ (Credit n [] ∷ back_of (v ∷ up)))
        same) ∙ sym (closed_list (v ∷ up) (credit_of k)) in
        let sound = subst IsSound before z in
        let alike = emptied_alike t.job.clauses v up t.next f free p.around h off k run v.spent sound in
        let grows : lead (list_before v up v.spent f) ≤ lead (list_closed v up (v.spent + k)) = lead-grows (front_of (v ∷ up)) _
        (Credit (v.spent + k) [] ∷ back_of (v ∷ up)) (omega arith) in
        let follows : Follows t.job.clauses (list_before v up v.spent f) (list_closed v up (v.spent + k)) = record
        { alike = λ n w b. alike n w; lead = λ m b l. omega (arith, grows, l) } in
        record {
          follows = subst (λ l. Follows t.job.clauses l (pending_list (plug (v ∷ up) (Closed (credit_of k))))) (sym before)
              (subst (Follows t.job.clauses (list_before v up v.spent f)) after follows);
          sound = subst IsSound after (closed_sound t.job.clauses v up t.next f free p.around h off k v.spent sound);
        }
