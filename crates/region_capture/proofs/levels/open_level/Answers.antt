use Rattle.std.proofs.Common.{◌<◌, ℕ, List, length, sym, subst, arith}
use Rattle.au_model.specs.Terms.Each.{Each}
use Rattle.au_model.proofs.EachLemmas.{each-more}
use Rattle.region_capture.specs.NeededBindings.{Forgets, SeesThese}
use Rattle.region_capture.proofs.LevelLemmas.{older_below, opens_below, opens_keeps, opens_long}
use Rattle.region_capture.proofs.MarkLemmas.{has_at}
use Rattle.region_capture.proofs.levels.open_level.Goals as goal

pub forget-requires : goal.forget-requires
forget-requires c =
    let st = c.args.store.now in
    subst (λ (vs : List ℕ). Each (λ v. v < length c.args.seen) vs) (sym c.deref.ensures.value)
    (each-more (λ v. v < st.now.next) (λ v. v < length c.args.seen) (λ v lt. let l = c.requires.long in omega (arith, lt, l)) c.in_ok-older.older.items (older_below st c.args.mark c.requires.mark c.in_ok-older.older.items c.in_ok-older.ensures))

pub see_older-requires-clause-there : goal.see_older-requires-clause-there
see_older-requires-clause-there c =
    let st = c.args.store.now in
    subst (λ (vs : List ℕ). Each (λ v. v < st.now.next) vs) (sym c.deref-2.ensures.value) (older_below st c.args.mark c.requires.mark c.in_ok-older.older.items c.in_ok-older.ensures)

pub write_seen-requires-clause-first : goal.write_seen-requires-clause-first
write_seen-requires-clause-first c =
    let at = has_at c.args.store.now.marks c.args.mark c.requires.mark in
    let since = c.in_ok-older.ensures at.before at.after at.element at.are at.long in
    let is = c.next_at.ensures at.before at.after at.element at.are at.long in
    let later = since.later in
    omega (arith, is, later)

pub returns : goal.returns
returns c =
    let st = c.args.store.now in
    let older = c.in_ok-older.older.items in
    let start = c.args.seen in
    let unseen = c.forget.new.seen in
    let mid = c.in_ok-needed.needed in
    let end = c.write_seen.new.needed in
    let f = subst (λ (vs : List ℕ). Forgets vs start unseen) c.deref.ensures.value c.forget.ensures in
    let s = subst (λ (vs : List ℕ). SeesThese st vs unseen mid) c.deref-2.ensures.value c.in_ok-needed.ensures in
    let below = older_below st c.args.mark c.requires.mark older c.in_ok-older.ensures in
    let first = c.next_at.result in
    record {
      below = opens_below st older start unseen mid end f s first c.in_ok-write_seen.ensures below;
      long = opens_long st older start unseen mid end f s first c.in_ok-write_seen.ensures below;
      keeps = λ m marked.
          opens_keeps st older start unseen mid end f s first c.in_ok-write_seen.ensures below c.next-next.ensures.sound m (c.next_at.ensures marked.before marked.after m marked.are marked.over)
          (c.in_ok-older.ensures marked.before marked.after m marked.are marked.over);
    }
