use Rattle.std.proofs.Common.{arith, map, refl}
use Rattle.at_model.specs.Machine.{value_named}
use Rattle.at_protocol.specs.LineView.{arguments_view}
use Rattle.at_store.specs.Shown.{path}
use Rattle.at_engine.specs.Seen.{state_seen}
use Rattle.at_engine.proofs.Valued.{so_first, so_all, so_more, so_stop}
use Rattle.at_engine.proofs.engine.view.View.values_named.Goals as goal

pub loop-argument-init : goal.loop-argument-init
loop-argument-init g c =
    let v = c.args.self.now in
    let named = value_named v.rules.now.classes (state_seen v.store.now (g.M.Lookup.marks v.marks.now)) c.args.session in
    so_first (path v.store.now) named (map named (arguments_view c.args.arguments.now)) c.new-values.result.items c.args.arguments.now c.new-values.ensures.items refl

pub loop-argument-preserved : goal.loop-argument-preserved
loop-argument-preserved g c =
    let v = c.args.self.now in
    let named = value_named v.rules.now.classes (state_seen v.store.now (g.M.Lookup.marks v.marks.now)) c.args.session in
    so_more (path v.store.now) named (map named (arguments_view c.args.arguments.now)) c.loop-argument.values.items c.args.arguments.now c.loop-argument.argument-index c.loop-argument.invariant c.argument-item.result (omega arith) c.argument-item.is
    c.in_ok-value.field-0 c.in-Some.value c.in-Some.is c.in_ok-value.ensures c.push.new.self.items c.in_ok-push.ensures.items

pub returns-in_default : goal.returns-in_default
returns-in_default g c =
    let v = c.args.self.now in
    let named = value_named v.rules.now.classes (state_seen v.store.now (g.M.Lookup.marks v.marks.now)) c.args.session in
    so_stop (path v.store.now) named (map named (arguments_view c.args.arguments.now)) c.loop-argument.values.items c.args.arguments.now c.loop-argument.argument-index c.loop-argument.invariant c.argument-item.result (omega arith) c.argument-item.is
    c.in_ok-value.field-0 c.in_default.is c.in_ok-value.ensures

pub returns : goal.returns
returns g c =
    let v = c.args.self.now in
    let named = value_named v.rules.now.classes (state_seen v.store.now (g.M.Lookup.marks v.marks.now)) c.args.session in
    so_all (path v.store.now) named (map named (arguments_view c.args.arguments.now)) c.loop-argument.values.items c.args.arguments.now c.loop-argument.argument-index c.loop-argument.invariant (omega arith)
