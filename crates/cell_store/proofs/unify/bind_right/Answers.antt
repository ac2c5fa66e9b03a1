use Rattle.std.proofs.Common.{◌∙◌, Result, Ok, Err, IfOk, OnOk, sym}
use Rattle.cell_store.specs.StoreView.{meaning}
use Rattle.cell_store.proofs.FreshLemmas.{fresh_apart, binding_stays, right_stays, falls}
use Rattle.cell_store.proofs.unify.bind_right.Goals as goal

pub bind-requires : goal.bind-requires
bind-requires c = record {
  there = c.requires.there;
  free = c.requires.free;
  value = c.requires.value;
  falling = falls c.args.variable c.args.value c.requires.no_variable;
  apart = fresh_apart c.args.variable c.args.fresh (meaning c.args.store.now c.args.value) (sym c.is_fresh.ensures ∙ c.if-is_fresh.true) c.requires.older;
}

pub returns-then-is_fresh-clause-bound : goal.returns-then-is_fresh-clause-bound
returns-then-is_fresh-clause-bound c = (fresh_apart c.args.variable c.args.fresh (meaning c.args.store.now c.args.value) (sym c.is_fresh.ensures ∙ c.if-is_fresh.true) c.requires.older, c.in_ok-bind.ensures.ok)

pub returns-then-is_fresh-clause-stays : goal.returns-then-is_fresh-clause-stays
returns-then-is_fresh-clause-stays c = binding_stays c.args.store.now c.bind.new.self c.args.fresh c.args.variable (meaning c.args.store.now c.args.value) c.in_ok-bind.ensures.ok c.requires.older

stays_if_ok : {T E : Type 0} (r : Result T E) (P : T → Type 0) (Q : Type 0) → ((x : T) → P x → Q) → IfOk r P → OnOk r Q
stays_if_ok (Ok x) P Q f h = f x h
stays_if_ok (Err e) P Q f h = tt

pub returns-clause-stays : goal.returns-clause-stays
returns-clause-stays c =
    let st = c.args.store.now in
    stays_if_ok c.bind_checked.result _ _ (λ outcome h. right_stays st c.bind_checked.new.store c.args.fresh c.args.variable (meaning st c.args.value) outcome c.requires.older h) c.bind_checked.ensures.bound
