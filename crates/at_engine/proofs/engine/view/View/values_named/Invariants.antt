use Rattle.std.proofs.Common.{drop, map}
use Rattle.at_model.specs.Alike.{ValueLike, Names}
use Rattle.at_model.specs.Machine.{value_named}
use Rattle.at_body.specs.Values.{value_view}
use Rattle.at_protocol.specs.LineView.{arguments_view}
use Rattle.at_store.specs.Shown.{path}
use Rattle.at_engine.specs.Collected.{Collected}
use Rattle.at_engine.specs.Seen.{state_seen}
use Rattle.at_engine.proofs.engine.view.View.values_named.Given as goal

-- the values of the arguments before the rest are collected
abbrev pub invariant-loop-argument : goal.invariant-loop-argument
invariant-loop-argument g l =
    let v = l.fn.self in
    let named = value_named v.rules.now.classes (state_seen v.store.now (g.M.Lookup.marks v.marks.now)) l.session in
    Collected (ValueLike (Names (path v.store.now))) (map named (arguments_view l.fn.arguments)) (map value_view l.values.items) (map named (arguments_view (drop l.argument-index l.arguments)))
