use Rattle.std.specs.Prelude.{nat_eq}
use Rattle.std.specs.List.{list_any}
use Rattle.at_complete.specs.Hierarchies.{listed_at}
use Rattle.at_complete.proofs.Children.{listed_same, listed_put}
use Rattle.at_complete.proofs.hierarchy.list_below.Goals as goal

pub returns-in_default-clause-listed : goal.returns-in_default-clause-listed
returns-in_default-clause-listed c = listed_same (λ x d. list_any (nat_eq d) (listed_at c.args.below.now.items x)) c.args.class c.args.parent c.in_default.is

pub returns-clause-listed : goal.returns-clause-listed
returns-clause-listed c = listed_put c.args.below.now.items c.index.result c.in-Some.parent c.args.class c.push.new.self
    c.index_mut.result.now _ c.args.parent c.requires c.in-Some.is c.index.ensures c.index_mut.ensures.value
    c.in_ok-push.ensures.items
