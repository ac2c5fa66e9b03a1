-- A text that is put out in pieces.
use Rattle.std.proofs.Common.{◌≡◌, inl, inr, ℕ, ◌≤◌, List, ◌++◌, length, take, drop, Option, sym, ap, ◌∙◌, subst, append-nil, arith}
use Rattle.std.proofs.lemmas.List.{take-append-drop, take-append-le, length-append}
use Rattle.std.proofs.Math.Seq.{take-append_seam}
use Rattle.au_io.specs.FaultCounts.{Appended, AppendedPrefix}
use Rattle.run_model.specs.Laws.RunLaws.{IsPrefixOf}
use Rattle.stack_run.proofs.WaitingLemmas.{took_both, front_of_more, front_after}
use Rattle.scheduler.specs.Pieces.{HasPutOut, PutsOn}

module _ (text written : List ℕ) (begins : IsPrefixOf written text) (put : ℕ) (before now : Option (List ℕ)) (h : HasPutOut text put before now) where
  -- what was put out before, by what is written now
  same_front : put ≤ length written → take put text ≡ take put written
  same_front le = ap (take put) begins.joined ∙ take-append-le put written begins.rest le

  fewer : length written ≤ length text
  fewer = let l = ap length begins.joined in let s = length-append written begins.rest in omega (arith, l, s)

  whole : (after : Option (List ℕ)) → put ≤ length written → Appended now after (drop put written) → Appended before after written
  whole after le a =
      subst (Appended before after) (ap (λ front. front ++ drop put written) (same_front le) ∙ take-append-drop put written)
      (took_both before now after (take put text) (drop put written) h.front a)

  -- more of it is put out
  pub puts_on : (least next : ℕ) (after : Option (List ℕ)) → PutsOn written put least next now after → HasPutOut text next before after
  puts_on least next after (inl w) = subst (λ (n : ℕ). HasPutOut text n before after) (sym w.1) (subst (HasPutOut text put before) (sym w.2) h)
  puts_on least next after (inr w) = record {
    front = subst (λ (n : ℕ). Appended before after (take n text)) (sym w.1)
        (subst (Appended before after) (sym (ap (take (length written)) begins.joined ∙ take-append_seam written begins.rest)) (whole after w.0 w.2));
    within = subst (λ (n : ℕ). n ≤ length text) (sym w.1) fewer;
  }

  -- a write fails, and a front of it is out
  pub front_put : (after : Option (List ℕ)) → put ≤ length written → AppendedPrefix now after (drop put written) → AppendedPrefix before after text
  front_put after le a =
      subst (AppendedPrefix before after) (sym begins.joined)
      (front_of_more before after written begins.rest
      (subst (AppendedPrefix before after) (ap (λ front. front ++ drop put written) (same_front le) ∙ take-append-drop put written)
      (front_after before now after (take put text) (drop put written) h.front a)))

-- a text that is written whole is put out whole, where not a byte may wait
pub all_put : (text : List ℕ) (put next : ℕ) (before now after : Option (List ℕ)) → HasPutOut text put before now → PutsOn text put 1 next now after → Appended before after text
all_put text put next before now after h (inl w) =
    let l = h.within in
    let same : put ≡ length text = let lt = w.0 in omega (arith, lt, l) in
    subst (λ (o : Option (List ℕ)). Appended before o text) (sym w.2)
    (subst (Appended before now) (ap (λ (n : ℕ). take n text) same ∙ (sym (ap (take (length text)) (append-nil text)) ∙ take-append_seam text _)) h.front)
all_put text put next before now after h (inr w) =
    whole text text (record { rest = _; joined = sym (append-nil text) }) put before now h after w.0 w.2
