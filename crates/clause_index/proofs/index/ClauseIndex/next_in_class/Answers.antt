use Rattle.std.proofs.Common.{length, ◌∙◌, ap, arith}
use Rattle.clause_index.specs.Classes.{key_class}
use Rattle.clause_index.proofs.ChainLemmas.{by_own, link_read, links_length}
use Rattle.clause_index.proofs.index.ClauseIndex.next_in_class.Goals as goal

pub index-requires : goal.index-requires
index-requires c =
    let links = ap length c.self.invariant.classes_are ∙ (links_length key_class c.self.inside.heads.items 0 ∙ ap length c.self.view_is) in
    omega (arith, links, c.self.inside.next_of_class.ok.0, c.requires)

pub returns-clause-next : goal.returns-clause-next
returns-clause-next c =
    (link_read key_class by_own c.self.inside.heads.items c.args.self.now c.self.inside.next_of_class.items c.args.number c.index.result.now c.self.invariant.classes_are c.self.view_is c.requires c.index.ensures).next

pub returns-clause-below : goal.returns-clause-below
returns-clause-below c =
    (link_read key_class by_own c.self.inside.heads.items c.args.self.now c.self.inside.next_of_class.items c.args.number c.index.result.now c.self.invariant.classes_are c.self.view_is c.requires c.index.ensures).below
