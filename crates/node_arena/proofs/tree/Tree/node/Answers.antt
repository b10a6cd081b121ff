use Rattle.std.proofs.Common.{arith, ap}
use Rattle.tree_laws.proofs.Surplus.{has-own-parts}
use Rattle.node_arena.specs.Links.{Link}
use Rattle.node_arena.specs.Seen.{seen_fact}
use Rattle.node_arena.proofs.NodeReads.{in_range, read}
use Rattle.node_arena.proofs.tree.Tree.node.Goals as goal

pub index-requires : goal.index-requires
index-requires c = omega (arith, in_range _ _ (seen_fact _ _ _ c.self.view_is) _ c.requires, c.index_of.ensures, c.self.inside.nodes.ok.0)

pub returns-clause-link : goal.returns-clause-link
returns-clause-link c = (read _ _ _ c.index_of.result c.index.result.now (seen_fact _ _ _ c.self.view_is) c.requires c.index_of.ensures c.index.ensures).link

pub returns-clause-shadow_is : goal.returns-clause-shadow_is
returns-clause-shadow_is c = (read _ _ _ c.index_of.result c.index.result.now
    (seen_fact _ _ _ c.self.view_is) c.requires c.index_of.ensures c.index.ensures).shadow_is

pub returns-clause-next_is : goal.returns-clause-next_is
returns-clause-next_is c = (read _ _ _ c.index_of.result c.index.result.now
    (seen_fact _ _ _ c.self.view_is) c.requires c.index_of.ensures c.index.ensures).next_is

pub returns-clause-up : goal.returns-clause-up
returns-clause-up c = (read _ _ _ c.index_of.result c.index.result.now (seen_fact _ _ _ c.self.view_is) c.requires c.index_of.ensures c.index.ensures).up

pub returns-clause-parent : goal.returns-clause-parent
returns-clause-parent c = (read _ _ _ c.index_of.result c.index.result.now
    (seen_fact _ _ _ c.self.view_is) c.requires c.index_of.ensures c.index.ensures).parent

pub returns-clause-host : goal.returns-clause-host
returns-clause-host c = (read _ _ _ c.index_of.result c.index.result.now (seen_fact _ _ _ c.self.view_is) c.requires c.index_of.ensures c.index.ensures).host

pub returns-clause-shadow : goal.returns-clause-shadow
returns-clause-shadow c = (read _ _ _ c.index_of.result c.index.result.now
    (seen_fact _ _ _ c.self.view_is) c.requires c.index_of.ensures c.index.ensures).shadow

pub returns-clause-first : goal.returns-clause-first
returns-clause-first c = (read _ _ _ c.index_of.result c.index.result.now (seen_fact _ _ _ c.self.view_is) c.requires c.index_of.ensures c.index.ensures).first

pub returns-clause-last : goal.returns-clause-last
returns-clause-last c = (read _ _ _ c.index_of.result c.index.result.now (seen_fact _ _ _ c.self.view_is) c.requires c.index_of.ensures c.index.ensures).last

pub returns-clause-previous : goal.returns-clause-previous
returns-clause-previous c = (read _ _ _ c.index_of.result c.index.result.now
    (seen_fact _ _ _ c.self.view_is) c.requires c.index_of.ensures c.index.ensures).previous

pub returns-clause-next : goal.returns-clause-next
returns-clause-next c = (read _ _ _ c.index_of.result c.index.result.now (seen_fact _ _ _ c.self.view_is) c.requires c.index_of.ensures c.index.ensures).next

pub returns-clause-lone : goal.returns-clause-lone
returns-clause-lone c = (read _ _ _ c.index_of.result c.index.result.now (seen_fact _ _ _ c.self.view_is) c.requires c.index_of.ensures c.index.ensures).lone

pub returns-clause-facts : goal.returns-clause-facts
returns-clause-facts c = ap (λ (l : Link). l.facts)
    (read _ _ _ c.index_of.result c.index.result.now (seen_fact _ _ _ c.self.view_is) c.requires c.index_of.ensures c.index.ensures).link

pub returns-clause-parent_is : goal.returns-clause-parent_is
returns-clause-parent_is c = ap (λ (l : Link). l.parent)
    (read _ _ _ c.index_of.result c.index.result.now (seen_fact _ _ _ c.self.view_is) c.requires c.index_of.ensures c.index.ensures).link

pub returns-clause-host_is : goal.returns-clause-host_is
returns-clause-host_is c = ap (λ (l : Link). l.host)
    (read _ _ _ c.index_of.result c.index.result.now (seen_fact _ _ _ c.self.view_is) c.requires c.index_of.ensures c.index.ensures).link

pub returns-clause-first_is : goal.returns-clause-first_is
returns-clause-first_is c = ap (λ (l : Link). l.first)
    (read _ _ _ c.index_of.result c.index.result.now (seen_fact _ _ _ c.self.view_is) c.requires c.index_of.ensures c.index.ensures).link

pub returns-clause-last_is : goal.returns-clause-last_is
returns-clause-last_is c = ap (λ (l : Link). l.last)
    (read _ _ _ c.index_of.result c.index.result.now (seen_fact _ _ _ c.self.view_is) c.requires c.index_of.ensures c.index.ensures).link

pub returns-clause-previous_is : goal.returns-clause-previous_is
returns-clause-previous_is c =
    ap (λ (l : Link). l.previous) (read _ _ _ c.index_of.result c.index.result.now
    (seen_fact _ _ _ c.self.view_is) c.requires c.index_of.ensures c.index.ensures).link

pub returns-clause-parts : goal.returns-clause-parts
returns-clause-parts c = has-own-parts _ _ (seen_fact _ _ _ c.self.view_is).tidy c.requires

pub returns-clause-tidy : goal.returns-clause-tidy
returns-clause-tidy c = (seen_fact _ _ _ c.self.view_is).tidy
