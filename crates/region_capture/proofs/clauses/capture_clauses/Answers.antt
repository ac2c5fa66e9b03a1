use Rattle.std.proofs.Common.{◌≡◌, [], length, sym, ◌∙◌, subst}
use Rattle.clause_index.specs.Cursors.{IsCursorOf, TakesLeast, numbers_left}
use Rattle.region_split.specs.Texts.{TextView}
use Rattle.region_capture.specs.CaptureSteps.{CapturesUpTo}
use Rattle.region_capture.specs.declared.captured.CapturedKind.TheVariants.{Choice}
use Rattle.region_capture.proofs.ClausesLemmas.{next_entries, same_text, clauses_end, clauses_on, next_is, fewer}
use Rattle.region_capture.proofs.MeantLemmas.{captures_none}
use Rattle.region_capture.proofs.clauses.capture_clauses.Goals as goal

pub loop-alternatives-init : goal.loop-alternatives-init
loop-alternatives-init c =
    let r = c.args.region.now in
    let all = next_entries r c.args.first c.args.left in
    record {
      captured = subst (CapturesUpTo Choice r r c.args.items.now c.args.items.now all all) (sym c.new-alternatives.ensures.items) (captures_none Choice r c.args.items.now all);
      next = record { clause = c.requires.clause; goal = c.requires.goal; after = c.requires.after; cursor = c.requires.cursor };
    }

pub take-requires : goal.take-requires
take-requires c =
    let l = c.loop-alternatives in
    let same = same_text c.args.region.now l.region c.capture_clause.new.region c.args.items.now l.items c.capture_clause.new.items (next_entries c.args.region.now c.args.first c.args.left) l.trial l.left l.alternatives.items c.push_captured.new.alternatives.items c.in_ok-captured.captured l.invariant.captured c.in_ok-captured.ensures c.in_ok-push_captured.ensures in
    subst (λ (t : TextView). IsCursorOf t.heads l.left) (sym (c.text.ensures ∙ same)) l.invariant.next.cursor

pub returns-in_default : goal.returns-in_default
returns-in_default c =
    let l = c.loop-alternatives in
    clauses_end c.args.region.now l.region c.capture_clause.new.region c.args.items.now l.items c.capture_clause.new.items (next_entries c.args.region.now c.args.first c.args.left) l.trial l.left l.alternatives.items c.push_captured.new.alternatives.items c.in_ok-captured.captured l.invariant.captured c.in_ok-captured.ensures c.in_ok-push_captured.ensures
    (subst (λ (t : TextView). numbers_left t.heads l.left ≡ []) c.text.ensures c.in_default.ensures.taken.0)

pub loop-alternatives-smaller : goal.loop-alternatives-smaller
loop-alternatives-smaller c =
    let l = c.loop-alternatives in
    fewer c.args.region.now l.region c.capture_clause.new.region c.args.items.now l.items c.capture_clause.new.items (next_entries c.args.region.now c.args.first c.args.left) l.trial l.left l.alternatives.items c.push_captured.new.alternatives.items c.in_ok-captured.captured l.invariant.captured c.in_ok-captured.ensures c.in_ok-push_captured.ensures
    c.in-Some.clause c.take.new.left (subst (λ (t : TextView). TakesLeast t.heads l.left c.take.new.left c.in-Some.clause) c.text.ensures c.in-Some.ensures.taken) (subst (λ (t : TextView). length t.heads ≡ length t.clauses) c.text.ensures c.in-Some.ensures.many)

pub loop-alternatives-preserved : goal.loop-alternatives-preserved
loop-alternatives-preserved c =
    let l = c.loop-alternatives in
    let takes = subst (λ (t : TextView). TakesLeast t.heads l.left c.take.new.left c.in-Some.clause) c.text.ensures c.in-Some.ensures.taken in
    let many = subst (λ (t : TextView). length t.heads ≡ length t.clauses) c.text.ensures c.in-Some.ensures.many in
    record {
      captured = clauses_on c.args.region.now l.region c.capture_clause.new.region c.args.items.now l.items c.capture_clause.new.items (next_entries c.args.region.now c.args.first c.args.left) l.trial l.left l.alternatives.items c.push_captured.new.alternatives.items c.in_ok-captured.captured l.invariant.captured c.in_ok-captured.ensures c.in_ok-push_captured.ensures c.in-Some.clause c.take.new.left takes many;
      next = next_is c.args.region.now l.region c.capture_clause.new.region c.args.items.now l.items c.capture_clause.new.items (next_entries c.args.region.now c.args.first c.args.left) l.trial l.left l.alternatives.items c.push_captured.new.alternatives.items c.in_ok-captured.captured l.invariant.captured c.in_ok-captured.ensures c.in_ok-push_captured.ensures c.in-Some.clause c.take.new.left takes many;
    }
