use Rattle.std.proofs.Common.{◌≡◌, ◌<◌, ℕ, true}
use Rattle.at_model.specs.Classes.{fits}
use Rattle.at_class.specs.Keys.{key_view}
use Rattle.at_seek.specs.Finding.{IsKeyedAt}
use Rattle.at_seek.proofs.finder.Finder.are_keyed.Given as goal

abbrev pub invariant-loop-position : goal.invariant-loop-position
invariant-loop-position l = (c : ℕ) → c < l.position → fits l.self.classes.now c l.element ≡ true → IsKeyedAt l.self.classes.now (key_view l.key) c
