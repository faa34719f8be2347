use Rattle.std.proofs.Common.{◌∙◌, ◌-◌, ap, sym, length}
use Rattle.std.specs.List.{slice_get}
use Rattle.at_class.proofs.Descents.{room_all, room_there}
use Rattle.at_class.proofs.way.Way.room.Goals as goal

pub returns-in-None : goal.returns-in-None
returns-in-None c = λ classes w.
    room_all classes c.args.self.now.levels.items (ap (λ ls. slice_get ls (length ls - 1)) (sym c.deref.ensures.value) ∙ sym c.in-None.ensures.value)

pub returns-in-Some : goal.returns-in-Some
returns-in-Some c = λ classes w.
    room_there classes c.args.self.now.levels.items c.in-Some.level.now c.args.self.now.taken (ap (λ ls. slice_get ls (length ls - 1)) (sym c.deref.ensures.value) ∙ sym c.in-Some.ensures.value) w
