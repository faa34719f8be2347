use Rattle.std.proofs.Common.{◌≡◌, ◌<◌, length, arith, refl}
use Rattle.std.proofs.lemmas.Bool.Decides.{nat_tests}
use Rattle.at_engine.proofs.Attempting.{taken, taken_nowhere}
use Rattle.at_engine.proofs.engine.Engine.line.Goals as goal

pub returns-then-is_empty : goal.returns-then-is_empty
returns-then-is_empty g c =
    let e = c.args.self.now in
    let line = c.args.line.now in
    let before = c.args.out.now.items in
    let later = c.reserve.new.self.items in
    let none : length line ≡ 0 = grind (arith, nat_tests) in
    record {
      done = taken_nowhere g.K.Keeper.contents g.K.Keeper.memories e before later line none c.reserve.ensures.items;
      same = tt;
      full = tt;
      err = tt;
      room = c.reserve.ensures.capacity;
      rules = refl;
      settings = refl;
      sound = c.requires.sound;
    }

pub returns : goal.returns
returns g c =
    let e = c.args.self.now in
    let new = c.serve.new.self in
    let line = c.args.line.now in
    let before = c.args.out.now.items in
    let later = c.serve.new.out.items in
    let some : 0 < length line = grind (arith, nat_tests) in
    let s = c.in_ok-serve.ensures in
    record {
      done = taken g.K.Keeper.contents g.K.Keeper.memories e before later new c.in_ok-serve.field-0 line some s.done;
      same = tt;
      full = tt;
      err = tt;
      room = s.room;
      rules = s.rules;
      settings = s.settings;
      sound = s.sound;
    }
