use Rattle.std.proofs.Common.{◌∙◌}
use Rattle.std.specs.Map.{keys_of}
use Rattle.at_search.proofs.Groups.{all_told_of, begins, each_at_end, goes_on, groups_at_end, order_at_end, rest_of, told_at_end}
use Rattle.at_search.proofs.solving.solve.Goals as goal

pub loop-group-init : goal.loop-group-init
loop-group-init g c =
    begins (g.K.Known.value_of c.args.known.now) c.args.ended.now.entries (keys_of c.args.seen.now.entries) c.args.start
    c.in_ok-system.system c.in_ok-leave.leave.items c.deref-group-items.result.now c.new-solved.result.items c.in_ok-system.ensures
    c.new-solved.ensures.items

pub loop-group-preserved : goal.loop-group-preserved
loop-group-preserved g c =
    goes_on (g.K.Known.value_of c.args.known.now) c.args.ended.now.entries (keys_of c.args.seen.now.entries) c.args.start
    c.in_ok-system.system c.in_ok-leave.leave.items c.as_slice-in-loop-group.result.now c.in_ok-groups.groups.items
    c.deref-group-items.result.now c.edges.result.now c.loop-group.group-index c.loop-group.system c.add_group.new.system
    c.loop-group.solved.items c.add_group.new.solved.items c.group-item.result c.as_slice-in-loop-group-2.result.now c.in_ok-system.ensures
    c.edges.ensures c.in_ok-groups.ensures c.deref-group-items.ensures.value c.loop-group-test.true c.group-item.is
    c.as_slice-in-loop-group-2.ensures.value c.as_slice-in-loop-group.ensures.value c.in_ok-add_group.ensures c.loop-group.invariant

pub returns-clause-told : goal.returns-clause-told
returns-clause-told g c = λ look forms right.
    told_at_end (g.K.Known.value_of c.args.known.now) c.args.ended.now.entries (keys_of c.args.seen.now.entries) look forms
    c.args.start c.in_ok-system.system c.in_ok-leave.leave.items c.deref-group-items.result.now c.loop-group.group-index c.loop-group.system
    c.loop-group.solved.items c.as_slice.result.now c.in_ok-system.ensures (c.as_slice.ensures.value ∙ c.in_ok-all.ensures)
    c.in_ok-leave.ensures.known c.loop-group.invariant right

pub returns-clause-each : goal.returns-clause-each
returns-clause-each g c =
    each_at_end (g.K.Known.value_of c.args.known.now) c.args.ended.now.entries (keys_of c.args.seen.now.entries) c.args.start
    c.in_ok-system.system c.in_ok-leave.leave.items c.in_ok-groups.groups.items c.deref-group-items.result.now c.edges.result.now
    c.loop-group.group-index c.loop-group.system c.loop-group.solved.items c.in_ok-system.ensures c.edges.ensures c.in_ok-groups.ensures
    c.deref-group-items.ensures.value c.loop-group-test.false c.loop-group.invariant

pub returns-clause-rest : goal.returns-clause-rest
returns-clause-rest g c =
    rest_of (g.K.Known.value_of c.args.known.now) c.args.ended.now.entries (keys_of c.args.seen.now.entries) c.loop-group.solved.items
    (returns-clause-each g c)

pub returns-clause-groups : goal.returns-clause-groups
returns-clause-groups g c =
    groups_at_end (g.K.Known.value_of c.args.known.now) c.args.ended.now.entries (keys_of c.args.seen.now.entries) c.args.start
    c.in_ok-system.system c.in_ok-leave.leave.items c.in_ok-groups.groups.items c.deref-group-items.result.now c.edges.result.now
    c.loop-group.group-index c.loop-group.system c.loop-group.solved.items c.in_ok-system.ensures c.edges.ensures c.in_ok-groups.ensures
    c.deref-group-items.ensures.value c.loop-group.invariant

pub returns-clause-all : goal.returns-clause-all
returns-clause-all g c = λ look forms right marks shut.
    all_told_of (g.K.Known.value_of c.args.known.now) c.args.ended.now.entries (keys_of c.args.seen.now.entries) look forms
    c.loop-group.solved.items (returns-clause-rest g c shut) right.facts marks

pub returns-clause-order : goal.returns-clause-order
returns-clause-order g c =
    order_at_end (g.K.Known.value_of c.args.known.now) c.args.ended.now.entries (keys_of c.args.seen.now.entries) c.args.start
    c.in_ok-system.system c.in_ok-leave.leave.items c.deref-group-items.result.now c.loop-group.group-index c.loop-group.system
    c.loop-group.solved.items c.in_ok-system.ensures c.loop-group.invariant
