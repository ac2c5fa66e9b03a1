-- An alternative whose private run leaves a result alone becomes a credit with that record.
use Rattle.std.proofs.Common.{◌≡◌, ℕ, suc, ◌+◌, ◌-◌, ◌≤◌, false, List, [], ◌∷◌, ◌++◌, length, Some, sym, ap, ◌∙◌, subst, arith}
use Rattle.au_model.specs.Terms.Each.{Each}
use Rattle.run_model.specs.Programs.Clauses.{Clause}
use Rattle.run_model.specs.Machine.Items.{Continuation}
use Rattle.run_model.specs.Machine.Entries.{PlainEntry}
use Rattle.interleaving.specs.Machine.{Alike}
use Rattle.interleaving.specs.Scopes.{scoped}
use Rattle.tree_model.specs.Elements.{Name, Element, Credit, Plain, EndOf}
use Rattle.interleaving.specs.Erased.{erased}
use Rattle.interleaving.specs.Sound.{IsSound}
use Rattle.interleaving.specs.Views.{IsBlind, IsInner}
use Rattle.interleaving.specs.Laws.{MayBecome}
use Rattle.tree_model.specs.Levels.{Level}
use Rattle.tree_model.specs.Floors.{with_heights}
use Rattle.tree_model.specs.PrivateRuns.{private_run}
use Rattle.tree_model.specs.PendingLists.{way_of, front_of, back_of}
use Rattle.tree_model.specs.Ways.{is_on, IsOnWay}
use Rattle.tree_model.specs.SoundTrees.{IsOpen}
use Rattle.interleaving.proofs.AppendLemmas.{append-assoc, each-append}
use Rattle.interleaving.proofs.ListChangeLemmas.{credits_add, named_anew}
use Rattle.interleaving.proofs.FrontSameLemmas.{front_is_same}
use Rattle.interleaving.proofs.FloorLemmas.{readable_enough}
use Rattle.interleaving.proofs.ReadableLemmas.{IsReadable, sound_readable, high_present}
use Rattle.interleaving.proofs.ContextLemmas.{IsAround}
use Rattle.interleaving.proofs.ClosingSoundLemmas.{IsFree, free-above}
use Rattle.interleaving.proofs.SideLemmas.{front_blind}
use Rattle.interleaving.proofs.NamedFloorLemmas.{below_named, floor_named, first_low}
use Rattle.interleaving.proofs.BaredLemmas.{may_then, may_stay, made_at}
use Rattle.interleaving.proofs.PublishedBareLemmas.{right_of, own_plain, list_before}
use Rattle.interleaving.proofs.DistinctNameLemmas.{respects_floor, respects_below}
use Rattle.interleaving.proofs.LowListLemmas.{low_entry}
use Rattle.interleaving.proofs.LeadRunLemmas.{lead_segment, run_front, lead_list_sound, lead_list_same, old_sound}
use Rattle.interleaving.proofs.SoundEarlyLemmas.{sound_exchange}
use Rattle.interleaving.proofs.GrowingLemmas.{around_path}
use Rattle.interleaving.proofs.NamedFloorLemmas.{below_erased}
use Rattle.interleaving.proofs.PublishedBareLemmas.{own_entry}
use Rattle.interleaving.proofs.PublishedStepLemmas.{by_names, lead_becomes}
use Rattle.au_term.specs.Term.{Term}
use Rattle.run_model.specs.Machine.Items.{Item, CollectMark}
use Rattle.interleaving.specs.Machine.{Drops}
use Rattle.interleaving.specs.Scopes.{Does, item_act, act}
use Rattle.interleaving.specs.HeightMachine.{HeightCredit, HeightEntry}
use Rattle.interleaving.specs.Erased.{element_count, height}
use Rattle.interleaving.specs.Sound.{IsGathered, IsMarkSound}
use Rattle.tree_model.specs.PendingLists.{findall_on}
use Rattle.tree_model.specs.Ways.{AreScoped}
use Rattle.interleaving.proofs.ListChangeLemmas.{collected_early}
use Rattle.interleaving.proofs.SoundEarlyLemmas.{sound-after}
use Rattle.interleaving.proofs.CollapseLemmas.{as_scopes}
use Rattle.interleaving.proofs.RunSoundLemmas.{height_way, run_sound}
use Rattle.interleaving.proofs.NamedFloorLemmas.{low_height}
use Rattle.interleaving.proofs.ResultMarkLemmas.{AreEnds, ends_erased, ends_read, ends_blind, one_plain, mark_first, findall_here}

-- the list with a credit and a record in the alternative's place
abbrev pub list_result : Level → List Level → ℕ → Term → List Element
list_result v up n t = front_of (v ∷ up) ++ (Credit n ((findall_on (way_of (v ∷ up)), t) ∷ []) ∷ back_of (v ∷ up))

each_at : (P : Element → Type 0) (xs : List Element) (x : Element) (ys : List Element) → Each P (xs ++ (x ∷ ys)) → P x
each_at P [] x ys h = h.0
each_at P (y ∷ xs) x ys h = each_at P xs x ys h.1

each_put : (P : Element → Type 0) (xs : List Element) (x y : Element) (ys : List Element) → P y → Each P (xs ++ (x ∷ ys))
    → Each P (xs ++ (y ∷ ys))
each_put P [] x y ys p h = (p, h.1)
each_put P (z ∷ xs) x y ys p h = (h.0, each_put P xs x y ys p h.1)

module _ (clauses : List Clause) (v : Level) (up : List Level) (next : ℕ) (f : Continuation ℕ) (free : IsFree next (v ∷ up))
    (a : IsAround (v ∷ up) IsOpen)
    (h : IsOnWay (way_of (v ∷ up)) (PlainEntry f)) (off : is_on (way_of (v ∷ up)) next ≡ false) (k : ℕ) (g : Continuation ℕ) (t : Term)
    (hh : ℕ) (gs : List (Item ℕ)) (first : g.items ≡ CollectMark t hh ∷ gs) where
  abbrev fo : Name
  fo = findall_on (way_of (v ∷ up))

  -- the innermost findall
  mark_height : private_run clauses (v ∷ up) (with_heights (v ∷ up) (PlainEntry f)) k ≡ Some (PlainEntry g ∷ [])
      → height (below_named (v ∷ up)) (findall_on (way_of (v ∷ up))) ≡ suc hh
  mark_height run =
      let path = around_path (v ∷ up) IsOpen a in
      let over = (run_sound clauses (v ∷ up) (PlainEntry f) k (PlainEntry g ∷ []) path tt h run).over.0 in
      let scoped = subst (λ is. AreScoped (height_way (v ∷ up)) (as_scopes is)) first over.scoped in
      let here = findall_here (v ∷ up) path (suc hh) scoped.0 in
      ap (height (below_named (v ∷ up))) (here.same ∙ sym here.scope) ∙ (low_height (v ∷ up) here.node ∙ here.high)

  -- one record for another, after ends alone
  same_records : (low : IsSound (own_plain v up f ∷ below_named (v ∷ up))) (behind : List Element) (s : Name) → AreEnds behind
      → IsGathered (behind ++ below_named (v ∷ up)) s → height (behind ++ below_named (v ∷ up)) s - 1 ≡ hh
      → height (below_named (v ∷ up)) (findall_on (way_of (v ∷ up))) ≡ suc hh →
      erased (Credit 0 ((s, t) ∷ []) ∷ (behind ++ back_of (v ∷ up)))
      ≡ erased (Credit 0 ((findall_on (way_of (v ∷ up)), t) ∷ []) ∷ back_of (v ∷ up))
  same_records low behind s e gathered high here =
      let end = EndOf (length v.left ∷ v.number ∷ []) ∷ [] in
      let below = below_named (v ∷ up) in
      let own = findall_on (way_of (v ∷ up)) in
      let floor = append-assoc behind end (floor_named (v ∷ up)) in
      let back = append-assoc behind end (right_of (v ∷ up)) in
      let reads = sound_readable (below_named (v ∷ up)) low.1 in
      let one : height (behind ++ below) s - 1 ≡ height below own - 1 = omega (arith, high, here) in
      let some : 1 ≤ height (behind ++ below) s = omega (arith, ap element_count gathered.found) in
      let some_own : 1 ≤ height below own = omega (arith, here) in
      let whole = ap (λ n. HeightCredit 0 ((n, t) ∷ []) ∷ erased (behind ++ below)) one
      ∙ ap (λ l. HeightCredit 0 ((height below own - 1, t) ∷ []) ∷ l) (ends_erased behind below e) in
      ap (λ l. erased (Credit 0 ((s, t) ∷ []) ∷ l)) (sym back)
      ∙ readable_enough (floor_named (v ∷ up)) (right_of (v ∷ up)) (Credit 0 ((s, t) ∷ []) ∷ (behind ++ end))
      (Credit 0 ((own, t) ∷ []) ∷ end) (first_low (v ∷ up))
      (respects_floor next v up free a (respects_below next up (free-above next v up free) a.1))
      (subst (λ l. IsReadable (Credit 0 ((s, t) ∷ []) ∷ l)) (sym floor) ((((_, gathered.found), some), tt), ends_read behind below e reads))
      (((high_present below own some_own, some_own), tt), reads)
      (ap (λ l. erased (Credit 0 ((s, t) ∷ []) ∷ l)) floor ∙ whole)

  pub collected_alike : private_run clauses (v ∷ up) (with_heights (v ∷ up) (PlainEntry f)) k ≡ Some (PlainEntry g ∷ []) → (spent : ℕ)
      → IsSound (list_before v up spent f) → IsSound (list_result v up (spent + k) t)
      → Alike (scoped clauses) (list_before v up spent f) (list_result v up (spent + k) t)
  collected_alike run spent before after n w =
      let low = low_entry next v up f free a h (old_sound v up next f free a h off spent before) in
      let r = by_names clauses v up next (PlainEntry g ∷ []) f free a h off k low run in
      let below = below_named (v ∷ up) in
      let front = front_of (v ∷ up) in
      let back = back_of (v ∷ up) in
      let own = findall_on (way_of (v ∷ up)) in
      let o = one_plain r.left below g
      (r.stands.entries ∙ ap (λ l. HeightEntry (PlainEntry g) ∷ l) (sym (below_erased (v ∷ up) (around_path (v ∷ up) IsOpen a)))) in
      let m = mark_first o.after.items (height (o.behind ++ below)) t hh gs (ap (λ x. x.items) o.heights ∙ first) in
      let s = m.0 in
      let goes : ◌≡◌ {A = Does} (act clauses (Plain o.name o.after)) (Drops ((m.0, t) ∷ [])) = ap
      (λ is. item_act clauses is o.name o.after) m.2 in
      let sound_left = subst (λ l. IsSound (l ++ below)) o.same r.stands.sound in
      let entry = sound-after o.before (Plain o.name o.after ∷ (o.behind ++ below))
      (subst IsSound (append-assoc o.before (Plain o.name o.after ∷ o.behind) below) sound_left) in
      let gathered = (subst (Each (IsMarkSound (o.behind ++ below))) m.2 entry.0.marks).0 in
      let inner = subst (Each (IsInner (made_at (0 ∷ next ∷ []) next))) o.same r.stands.inner in
      let pre = front ++ (Credit (spent + k) [] ∷ o.before) in
      let zs = o.behind ++ back in
      let lead = front ++ (Credit spent [] ∷ (lead_segment v up next f ++ back)) in
      let mid = front ++ (Credit (spent + k) [] ∷ (r.left ++ back)) in
      let last = pre ++ (Credit 0 ((m.0, t) ∷ []) ∷ zs) in
      let split = ap (λ l. front ++ (Credit (spent + k) [] ∷ (l ++ back))) o.same
      ∙ (ap (λ l. front ++ (Credit (spent + k) [] ∷ l)) (append-assoc o.before (Plain o.name o.after ∷ o.behind) back)
      ∙ sym (append-assoc front (Credit (spent + k) [] ∷ o.before) (Plain o.name o.after ∷ zs))) in
      let early = collected_early clauses (made_at (0 ∷ next ∷ []) next) o.name o.after ((m.0, t) ∷ []) pre zs goes
      (each-append (IsBlind (made_at (0 ∷ next ∷ []) next)) front (Credit (spent + k) [] ∷ o.before)
      (run_front v up next f free a h off) (tt, ends_blind (made_at (0 ∷ next ∷ []) next) o.before o.first))
      (each_at (IsInner (made_at (0 ∷ next ∷ []) next)) o.before (Plain o.name o.after) o.behind inner) in
      let becomes_last = may_then clauses lead mid last (lead_becomes clauses v up next (PlainEntry g ∷ []) f free a h off k r spent)
      (subst (λ l. MayBecome clauses l last) (sym split) early) in
      let b = o.before ++ (Credit 0 ((m.0, t) ∷ []) ∷ o.behind) in
      let target = front ++ (Credit (spent + k) [] ∷ Credit 0 ((own, t) ∷ []) ∷ back) in
      let same_b = ap erased (append-assoc o.before (Credit 0 ((m.0, t) ∷ []) ∷ o.behind) back)
      ∙ (ends_erased o.before (Credit 0 ((m.0, t) ∷ []) ∷ zs) o.first ∙ same_records low o.behind m.0 o.last gathered m.3
      (mark_height run)) in
      let whole = front_is_same (made_at (0 ∷ next ∷ []) next) (front ++ (Credit (spent + k) [] ∷ [])) b (Credit 0 ((own, t) ∷ []) ∷ [])
      back (each-append (IsBlind (made_at (0 ∷ next ∷ []) next)) front (Credit (spent + k) [] ∷ [])
      (run_front v up next f free a h off) (tt, tt))
      (each_put (IsInner (made_at (0 ∷ next ∷ []) next)) o.before (Plain o.name o.after) (Credit 0 ((m.0, t) ∷ [])) o.behind tt
      inner) (tt, tt) same_b in
      let last_same = append-assoc front (Credit (spent + k) [] ∷ o.before) (Credit 0 ((m.0, t) ∷ []) ∷ zs)
      ∙ (ap (λ l. front ++ (Credit (spent + k) [] ∷ l)) (sym (append-assoc o.before (Credit 0 ((m.0, t) ∷ []) ∷ o.behind) back))
      ∙ sym (append-assoc front (Credit (spent + k) [] ∷ []) (b ++ back))) in
      let erases = ap erased (sym (append-assoc front (Credit (spent + k) [] ∷ []) (Credit 0 ((own, t) ∷ []) ∷ back)))
      ∙ (sym whole ∙ ap erased (sym last_same)) in
      let result = sound-after front (Credit (spent + k) ((own, t) ∷ []) ∷ back) after in
      let target_sound = sound_exchange clauses (made_at (length v.left ∷ v.number ∷ []) next) front
      (Credit spent [] ∷ own_plain v up f ∷ []) (Credit (spent + k) [] ∷ Credit 0 ((own, t) ∷ []) ∷ []) back
      (front_blind next v up free a) (tt, (own_entry v next, tt)) (tt, (tt, tt)) (omega arith) before (tt, result) in
      let sound = lead_list_sound v up next f free a h off clauses spent before in
      let one = named_anew clauses lead lead (list_before v up spent f) (may_stay clauses lead) sound before
      (lead_list_same v up next f free a h off spent) n w in
      let two = named_anew clauses lead last target becomes_last sound target_sound erases n w in
      let none : (spent + k) + 0 ≡ spent + k = omega arith in
      let three : MayBecome clauses target (list_result v up (spent + k) t) = subst
      (λ j. MayBecome clauses target (front ++ (Credit j ((own, t) ∷ []) ∷ back))) none
      (credits_add clauses (spent + k) 0 [] ((own, t) ∷ []) front back) in
      sym one ∙ (two ∙ three.alike n w)
