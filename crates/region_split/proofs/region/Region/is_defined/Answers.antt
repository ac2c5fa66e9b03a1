use Rattle.std.proofs.Common.{◌≡◌, ◌<◌, length, sym, subst}
use Rattle.std.specs.Arc.{arc_value}
use Rattle.run_model.specs.Programs.Clauses.{is_defined}
use Rattle.clause_compile.specs.AtomNumbers.{name_at}
use Rattle.cell_store.specs.StoreView.{text_in}
use Rattle.region_split.specs.Regions.{RegionView}
use Rattle.region_split.proofs.HeadLemmas.{defined_here}
use Rattle.region_split.proofs.region.Region.is_defined.Goals as goal

pub returns : goal.returns
returns c =
    let s = c.self.inside in
    let r : RegionView = record { text = arc_value s.text; store = s.store; frames = s.frames.items; choices = s.choices.items } in
    let there = subst (λ (x : RegionView). c.args.name < length (text_in x.store).names) (sym c.self.view_is) c.requires in
    subst (λ (x : RegionView). c.has_head.result ≡ is_defined x.text.clauses (name_at (text_in x.store).names c.args.name) c.args.arity) c.self.view_is
    (defined_here r c.deref.result.now c.args.name c.args.arity c.has_head.result c.deref.ensures c.self.invariant.program c.next-next.ensures.sound there c.has_head.ensures.heads c.has_head.ensures.any)
