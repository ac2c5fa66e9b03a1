use Rattle.std.proofs.Common.{◌<◌, sym, arith}
use Rattle.region_split.proofs.ToldApartLemmas.{functor_read, place_of_argument, argument_is, no_argument}
use Rattle.region_split.proofs.text.argument_place_in.Goals as goal

pub returns-then-i-count : goal.returns-then-i-count
returns-then-i-count c =
    let code = c.args.code.now in
    let h = functor_read code c.place.result c.args.at c.in-Functor.field-0 c.in-Functor.count c.requires c.len-places.ensures.sound c.place.ensures c.in-Functor.is in
    sym (no_argument code c.args.at c.in-Functor.field-0 c.in-Functor.count c.args.i h c.if-i-count.true)

pub returns : goal.returns
returns c =
    let code = c.args.code.now in
    let h = functor_read code c.place.result c.args.at c.in-Functor.field-0 c.in-Functor.count c.requires c.len-places.ensures.sound c.place.ensures c.in-Functor.is in
    let lt : c.args.i < c.in-Functor.count = let no = c.if-i-count.false in omega (arith, no) in (
      place_of_argument code c.args.at c.in-Functor.field-0 c.in-Functor.count c.args.i h c.place-2.result _ lt c.place-2.ensures,
      sym (argument_is code c.args.at c.in-Functor.field-0 c.in-Functor.count c.args.i h c.place-2.result _ lt c.place-2.ensures),
    )
