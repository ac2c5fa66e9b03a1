use Rattle.std.proofs.Common.{◌≡◌, ◌<◌, List, [], ◌∷◌, ◌++◌, length, slice_set, take, sym, ap, ◌∙◌, arith}
use Rattle.std.proofs.Math.Seq.{take-length}
use Rattle.std.specs.Arc.{arc_value}
use Rattle.region_split.specs.ChoicePoints.{frames_kept}
use Rattle.region_split.specs.Regions.{RegionView}
use Rattle.region_split.specs.declared.frame.Frame.{Frame}
use Rattle.region_split.proofs.RegionLemmas.{written_over, frames_within, frame_region, frame_added}
use Rattle.region_split.proofs.region.Region.push_frame.Goals.{After-truncate, In_ok-push}
use Rattle.region_split.proofs.region.Region.push_frame.Goals as goal

module _ (c : After-truncate) where
  abbrev here : RegionView
  here = let s = c.self.inside in record { text = arc_value s.text; store = s.store; frames = s.frames.items; choices = s.choices.items }

  kept : c.frames_kept_by.result ≡ frames_kept 0 here.choices
  kept = c.frames_kept_by.ensures ∙ ap (frames_kept 0) c.deref.ensures.value

  written : c.truncate.new.self.items ≡ take c.max-kept.result here.frames ++ c.args.frame ∷ []
  written =
      let below : c.max-kept.result < length here.frames = let l = c.len.ensures in let t = c.if-at-len.true in omega (arith, l, t) in
      c.truncate.ensures.items ∙ (ap (λ n. take n (slice_set here.frames c.max-kept.result c.args.frame)) c.in-Some.ensures.1 ∙ written_over here.frames c.max-kept.result c.args.frame below)

pub invariant_of-self : goal.invariant_of-self
invariant_of-self c = frame_region (here c) c.args.self.now c.self.view_is c.self.invariant c.args.frame c.frames_kept_by.result c.max-kept.result c.in-Some.number c.requires (kept c) c.max-kept.ensures c.in-Some.ensures.1 c.truncate.new.self.items (written c)

pub returns-then-at-len-clause-ok : goal.returns-then-at-len-clause-ok
returns-then-at-len-clause-ok c = frame_added (here c) c.args.self.now c.self.view_is c.self.invariant c.args.frame c.frames_kept_by.result c.max-kept.result c.in-Some.number c.requires (kept c) c.max-kept.ensures c.in-Some.ensures.1 c.truncate.new.self.items (written c)

module _ (c : In_ok-push) where
  abbrev there : RegionView
  there = let s = c.self.inside in record { text = arc_value s.text; store = s.store; frames = s.frames.items; choices = s.choices.items }

  kept_there : c.frames_kept_by.result ≡ frames_kept 0 there.choices
  kept_there = c.frames_kept_by.ensures ∙ ap (frames_kept 0) c.deref.ensures.value

  all : c.max-kept.result ≡ length there.frames
  all =
      let few = frames_within there c.args.self.now c.self.view_is c.self.invariant c.args.frame c.frames_kept_by.result c.max-kept.result c.in-Some.number c.requires kept_there c.max-kept.ensures c.in-Some.ensures.1 in
      let l = c.len.ensures in let t = c.if-at-len.false in omega (arith, few, l, t)

  pushed : c.push.new.self.items ≡ take c.max-kept.result there.frames ++ c.args.frame ∷ []
  pushed = c.in_ok-push.ensures.items ∙ ap (λ (fs : List Frame). fs ++ c.args.frame ∷ []) (sym (ap (λ n. take n there.frames) all ∙ take-length there.frames))

pub invariant_of-self-in-Continue-1 : goal.invariant_of-self-in-Continue-1
invariant_of-self-in-Continue-1 c = frame_region (there c) c.args.self.now c.self.view_is c.self.invariant c.args.frame c.frames_kept_by.result c.max-kept.result c.in-Some.number c.requires (kept_there c) c.max-kept.ensures c.in-Some.ensures.1 c.push.new.self.items (pushed c)

pub returns-in_ok-push-clause-ok : goal.returns-in_ok-push-clause-ok
returns-in_ok-push-clause-ok c = frame_added (there c) c.args.self.now c.self.view_is c.self.invariant c.args.frame c.frames_kept_by.result c.max-kept.result c.in-Some.number c.requires (kept_there c) c.max-kept.ensures c.in-Some.ensures.1 c.push.new.self.items (pushed c)
