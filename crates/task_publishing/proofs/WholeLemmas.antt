-- Choice points the oldest first, and their groups.
use Rattle.std.proofs.Common.{◌≡◌, ℕ, suc, ◌+◌, List, [], ◌∷◌, ◌++◌, length, length-append, map, reverse, refl, sym, ap, ◌∙◌, subst, arith}
use Rattle.std.proofs.lemmas.List.{reverse-append}
use Rattle.run_model.specs.Machine.Entries.{Entry}
use Rattle.clause_compile.specs.declared.item.Item.{Item as BranchItem}
use Rattle.branch_shapes.specs.Groups.{Groups, nonempty_groups}
use Rattle.branch_shapes.specs.MeantBranches.{Placement}
use Rattle.region_capture.specs.CapturedItems.{ItemLists}
use Rattle.region_capture.specs.CapturedMeanings.{MeantAlternative, AreMeant}
use Rattle.region_capture.specs.CapturedChoices.{BoundThen, MeantChoice, CapturesChoice, CaptureChoices, bound_under}
use Rattle.region_capture.specs.declared.captured.CapturedAlternative.{CapturedAlternative}
use Rattle.region_capture.specs.declared.captured.CapturedChoice.{CapturedChoice}
use Rattle.task_publishing.specs.KeptScopes.{AreGroupsOf}
use Rattle.task_publishing.specs.LiveChoices.{ChoicesMean, live_meant, live_before}
use Rattle.task_publishing.specs.PublishedRuns.{published_group, published_entry}
use Rattle.task_publishing.proofs.BodyMeaningLemmas.{many_mapped}

-- one newer
newer_means : (lists : ItemLists) (under mid : BoundThen) (cut : ℕ) (cs : List CapturedChoice) (ms : List MeantChoice) (c : CapturedChoice)
    (m : MeantChoice) → ChoicesMean lists under cut cs ms mid
    → CapturesChoice lists mid (cut + length ms) c m → ChoicesMean lists under cut (cs ++ c ∷ []) (ms ++ m ∷ []) m.came
newer_means lists under mid cut [] [] c m k h =
    let e : cut + 0 ≡ cut = omega arith in (
      subst (λ n. CapturesChoice lists under n c m) e
          (subst (λ u. CapturesChoice lists u (cut + 0) c m) (sym k) h),
      refl,
    )
newer_means lists under mid cut [] (n ∷ ms) c m k h = elim k [ ]
newer_means lists under mid cut (d ∷ cs) [] c m k h = elim k [ ]
newer_means lists under mid cut (d ∷ cs) (n ∷ ms) c m k h =
    let e : cut + suc (length ms) ≡ suc cut + length ms = omega arith in
    (k.0, newer_means lists n.came mid (suc cut) cs ms c m k.1 (subst (λ x. CapturesChoice lists mid x c m) e h))

pub reverse-cons : {A : Type 0} (x : A) (xs : List A) → reverse (x ∷ xs) ≡ reverse xs ++ x ∷ []
reverse-cons x xs = reverse-append (x ∷ []) xs

pub turned : {A : Type 0} (xs : List A) → length (reverse xs) ≡ length xs
turned [] = refl
turned {A} (x ∷ xs) = ap (λ (ys : List A). length ys) (reverse-cons x xs) ∙ (length-append (reverse xs) (x ∷ [])
    ∙ (let e = turned xs in omega (arith, e)))

pub oldest_first : (lists : ItemLists) (start : BoundThen) (cut : ℕ) (cs : List CapturedChoice) (ms : List MeantChoice)
    → CaptureChoices lists start cut cs ms
    → ChoicesMean lists start cut (reverse cs) (reverse ms) (bound_under start ms)
oldest_first lists start cut [] [] k = refl
oldest_first lists start cut [] (m ∷ ms) k = elim k [ ]
oldest_first lists start cut (c ∷ cs) [] k = elim k [ ]
oldest_first lists start cut (c ∷ cs) (m ∷ ms) k =
    subst (λ (xs : List CapturedChoice). ChoicesMean lists start cut xs (reverse (m ∷ ms)) m.came) (sym (reverse-cons c cs))
    (subst (λ (xs : List MeantChoice). ChoicesMean lists start cut (reverse cs ++ c ∷ []) xs m.came) (sym (reverse-cons m ms))
    (newer_means lists start (bound_under start ms) cut (reverse cs) (reverse ms) c m (oldest_first lists start cut cs ms k.1)
    (subst (λ n. CapturesChoice lists (bound_under start ms) (cut + n) c m) (sym (turned ms)) k.0)))

many_meant : (lists : ItemLists) (s : _) (n cut : ℕ) (taken : List CapturedAlternative) (ms : List MeantAlternative) → AreMeant lists s n cut taken ms
    → length taken ≡ length ms
many_meant lists s n cut [] [] k = refl
many_meant lists s n cut [] (m ∷ ms) k = elim k [ ]
many_meant lists s n cut (a ∷ taken) [] k = elim k [ ]
many_meant lists s n cut (a ∷ taken) (m ∷ ms) k = ap suc (many_meant lists s n cut taken ms k.1)

module _ (p : Placement) (deferred : List BranchItem) where
  abbrev group : MeantChoice → List Entry
  group = published_group p deferred

  pub groups_are : (lists : ItemLists) (under end : BoundThen) (cut : ℕ) (cs : List CapturedChoice) (ms : List MeantChoice)
      → ChoicesMean lists under cut cs ms end → AreGroupsOf cs (map group ms)
  groups_are lists under end cut [] [] k = tt
  groups_are lists under end cut [] (m ∷ ms) k = elim k [ ]
  groups_are lists under end cut (c ∷ cs) [] k = elim k [ ]
  groups_are lists under end cut (c ∷ cs) (m ∷ ms) k = (
    many_meant lists m.came.bound c.next cut c.alternatives.items m.alternatives k.0.alternatives
        ∙ sym (many_mapped (published_entry p deferred m.kind) m.alternatives),
    groups_are lists m.came end (suc cut) cs ms k.1,
  )

  one_live_group : (f : MeantAlternative → Entry) (xs : List MeantAlternative) (m : MeantChoice) (ms : List MeantChoice) (gs : Groups)
      → map f xs ≡ group m → gs ≡ map group ms
      → nonempty_groups (map f xs ∷ []) ++ gs ≡ map group (live_before xs m ms)
  one_live_group f [] m ms gs e h = h
  one_live_group f (x ∷ xs) m ms gs e h = ap (λ g. g ∷ gs) e ∙ ap (λ (hs : Groups). group m ∷ hs) h

  nonempty_first : (g : List Entry) (gs : Groups) → nonempty_groups (g ∷ gs) ≡ nonempty_groups (g ∷ []) ++ nonempty_groups gs
  nonempty_first [] gs = refl
  nonempty_first (x ∷ g) gs = refl

  pub live_groups : (ms : List MeantChoice) → nonempty_groups (map group ms) ≡ map group (live_meant ms)
  live_groups [] = refl
  live_groups (m ∷ ms) =
      nonempty_first (group m) (map group ms) ∙ one_live_group (published_entry p deferred m.kind) m.alternatives m (live_meant ms)
      (nonempty_groups (map group ms)) refl (live_groups ms)
