use Rattle.at_store.specs.Shown.{path}
use Rattle.at_engine.specs.Marks.{listed}
use Rattle.at_engine.specs.Tallied.{AreTallied, kept_up_to}
use Rattle.at_engine.proofs.marks.changing.discount_all_gone.Given as goal

-- those before whose nodes are gone are counted no more
abbrev pub invariant-loop-position : goal.invariant-loop-position
invariant-loop-position l =
    AreTallied (listed l.items.entries) l.initial.sessions l.initial.nodes → AreTallied (kept_up_to (path l.there.store.now) l.position (listed l.items.entries)) l.sessions l.nodes
