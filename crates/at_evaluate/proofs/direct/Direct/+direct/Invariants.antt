use Rattle.std.proofs.Common.{◌≡◌, ◌+◌, ◌*◌, ◌++◌, None, length, map}
use Rattle.at_model.specs.Seeking.{is_in_drawer, those}
use Rattle.at_class.specs.Keys.{key_view}
use Rattle.at_rules.specs.Bodies.{bodies_view, body_view}
use Rattle.at_store.specs.Shown.{contents}
use Rattle.at_body.specs.Rest.{ev_all, over}
use Rattle.at_body.specs.Values.{value_view}
use Rattle.at_evaluate.specs.Place.{place_at}
use Rattle.at_evaluate.specs.InParts.{HasGrown, held}
use Rattle.at_evaluate.specs.Valued.{kept_values}
use Rattle.at_evaluate.proofs.of_parts.Looping.{GoesOn}
use Rattle.at_evaluate.proofs.direct.Direct.+direct.Given as goal

abbrev pub decreases-value : goal.decreases-value
decreases-value g l = 16 * l.above

abbrev pub decreases-operand : goal.decreases-operand
decreases-operand g l = 16 * l.above + 1

abbrev pub decreases-one : goal.decreases-one
decreases-one g l = 16 * l.above + 2

abbrev pub decreases-two : goal.decreases-two
decreases-two g l = 16 * l.above + 2

abbrev pub decreases-either : goal.decreases-either
decreases-either g l = 16 * l.above + 2

abbrev pub decreases-passed : goal.decreases-passed
decreases-passed g l = 16 * l.above + 2

abbrev pub decreases-element : goal.decreases-element
decreases-element g l = 16 * l.above + 2

abbrev pub decreases-each : goal.decreases-each
decreases-each g l = 16 * l.above + 3

abbrev pub decreases-over : goal.decreases-over
decreases-over g l = 16 * l.above + 4

abbrev pub decreases-each_under : goal.decreases-each_under
decreases-each_under g l = 16 * l.above + 3

abbrev pub decreases-under : goal.decreases-under
decreases-under g l = 16 * l.above + 4

abbrev pub decreases-compared : goal.decreases-compared
decreases-compared g l = 16 * l.above + 4

abbrev pub decreases-in_turn : goal.decreases-in_turn
decreases-in_turn g l = 16 * l.above + 3

abbrev pub decreases-beside : goal.decreases-beside
decreases-beside g l = 16 * l.above + 2

abbrev pub decreases-evaluate : goal.decreases-evaluate
decreases-evaluate g l = 16 * l.above + 4

abbrev pub decreases-afresh : goal.decreases-afresh
decreases-afresh g l = 16 * l.above + 5

abbrev pub decreases-verify : goal.decreases-verify
decreases-verify g l = 16 * l.above + 6

abbrev pub decreases-inner : goal.decreases-inner
decreases-inner g l = 16 * l.above + 7

abbrev pub decreases-told : goal.decreases-told
decreases-told g l = 16 * l.above + 8

abbrev pub decreases-call : goal.decreases-call
decreases-call g l = 16 * l.above + 9

abbrev pub invariant-verify-loop : goal.invariant-verify-loop
invariant-verify-loop g l = record {
  grown : HasGrown l.basis.rules.now l.basis.store.now l.needed
      (held (g.K.Keeper.contents l.initial.keeper) (g.K.Keeper.memories l.initial.keeper) l.initial.self.found.entries l.initial.self.work l.initial.self.made)
      (held (g.K.Keeper.contents l.keeper) (g.K.Keeper.memories l.keeper) l.self.found.entries l.self.work l.self.made);
  level : l.level ≡ l.initial.level;
  unkept : kept_values (g.K.Keeper.contents l.keeper) l.needed ≡ None;
}

abbrev pub invariant-passed-loop-argument : goal.invariant-passed-loop-argument
invariant-passed-loop-argument g l = GoesOn l.basis.rules.now l.basis.store.now
    (held (g.K.Keeper.contents l.initial.keeper) (g.K.Keeper.memories l.initial.keeper) l.initial.self.found.entries
    l.initial.self.work l.initial.self.made)
    (held (g.K.Keeper.contents l.keeper) (g.K.Keeper.memories l.keeper) l.self.found.entries l.self.work l.self.made)
    l.initial.level l.level (ev_all l.basis.rules.now.classes (bodies_view l.passed) (place_at l.here))
    (ev_all l.basis.rules.now.classes (bodies_view l.rest) (place_at l.here)) (λ vs. map value_view l.values.items ++ vs)

abbrev pub decreases-passed-loop-argument : goal.decreases-passed-loop-argument
decreases-passed-loop-argument g l = length l.rest

abbrev pub invariant-each-loop-node : goal.invariant-each-loop-node
invariant-each-loop-node g l = record {
  place : place_at l.inside ≡ place_at l.here;
  goes : GoesOn l.basis.rules.now l.basis.store.now
      (held (g.K.Keeper.contents l.initial.keeper) (g.K.Keeper.memories l.initial.keeper) l.initial.self.found.entries
      l.initial.self.work l.initial.self.made)
      (held (g.K.Keeper.contents l.keeper) (g.K.Keeper.memories l.keeper) l.self.found.entries l.self.work l.self.made)
      l.fn.level l.level (over l.basis.rules.now.classes l.initial.going (body_view l.body) (place_at l.here) l.nodes)
      (over l.basis.rules.now.classes l.going (body_view l.body) (place_at l.here) l.rest) (λ v. v);
}

abbrev pub decreases-each-loop-node : goal.decreases-each-loop-node
decreases-each-loop-node g l = length l.rest

abbrev pub invariant-each_under-loop-found : goal.invariant-each_under-loop-found
invariant-each_under-loop-found g l = record {
  place : place_at l.inside ≡ place_at l.here;
  goes : GoesOn l.basis.rules.now l.basis.store.now
      (held (g.K.Keeper.contents l.initial.keeper) (g.K.Keeper.memories l.initial.keeper) l.initial.self.found.entries
      l.initial.self.work l.initial.self.made)
      (held (g.K.Keeper.contents l.keeper) (g.K.Keeper.memories l.keeper) l.self.found.entries l.self.work l.self.made)
      l.initial.level l.level (over l.basis.rules.now.classes l.initial.going (body_view l.body) (place_at l.here)
      (those (is_in_drawer (contents l.basis.store.now) (key_view l.key) l.mark) l.nodes))
      (over l.basis.rules.now.classes l.going (body_view l.body) (place_at l.here)
      (those (is_in_drawer (contents l.basis.store.now) (key_view l.key) l.mark) l.rest)) (λ v. v);
}

abbrev pub decreases-each_under-loop-found : goal.decreases-each_under-loop-found
decreases-each_under-loop-found g l = length l.rest
