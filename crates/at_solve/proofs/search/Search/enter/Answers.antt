use Rattle.std.proofs.Common.{◌∙◌, ◌≡◌, ◌++◌, ap, sym, refl, subst, arith, length, length-append, ◌∷◌, []}
use Rattle.std.specs.Prelude.{set}
use Rattle.at_solve.specs.declared.search.Mark.TheVariants.{OnPath}
use Rattle.at_solve.proofs.Entering.{entered_search, entered_weight}
use Rattle.at_solve.proofs.search.Search.enter.Goals as goal

pub returns-clause-searches : goal.returns-clause-searches
returns-clause-searches c =
    let place : c.len-place.result ≡ length c.args.self.now.path.items = omega (arith, c.len-place.ensures, c.args.self.now.path.ok.0) in
    let waits : c.len.result ≡ length c.args.self.now.todo.items = omega (arith, c.len.ensures, c.args.self.now.todo.ok.0) in
    entered_search c.args.edges.now c.args.self.now c.add_targets.new.self c.args.node (record { nodes = c.len-place.result; todo = c.len.result })
    c.requires.searches c.requires.unmet c.requires.lead place waits
    (c.add_targets.ensures.marks ∙ ap (λ n. set c.args.self.now.marks.items c.args.node (OnPath n)) place) (c.add_targets.ensures.path ∙ c.in_ok-push-2.ensures.items)
    (c.in_ok-add_targets.ensures.todo ∙ ap (λ ts. c.args.self.now.todo.items ++ ts) c.targets_of.ensures) (c.add_targets.ensures.groups ∙ c.in_ok-push.ensures.items) c.add_targets.ensures.lists

pub returns-clause-less : goal.returns-clause-less
returns-clause-less c =
    let place : c.len-place.result ≡ length c.args.self.now.path.items = omega (arith, c.len-place.ensures, c.args.self.now.path.ok.0) in
    entered_weight c.args.edges.now c.args.self.now c.add_targets.new.self c.args.node (record { nodes = c.len-place.result; todo = c.len.result }) c.requires.unmet
    (c.add_targets.ensures.marks ∙ ap (λ n. set c.args.self.now.marks.items c.args.node (OnPath n)) place)
    (c.in_ok-add_targets.ensures.todo ∙ ap (λ ts. c.args.self.now.todo.items ++ ts) c.targets_of.ensures) (c.add_targets.ensures.groups ∙ c.in_ok-push.ensures.items)
