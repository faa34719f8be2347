use Rattle.at_engine.proofs.of_turns.Finishing.{turned_once}
use Rattle.at_engine.proofs.engine.Engine.turn.Goals as goal

pub returns : goal.returns
returns g c =
    let call = c.in_ok-give.ensures in
    record {
      done = turned_once g.K.Keeper.contents g.K.Keeper.memories c.args.self.now c.give.new.self c.args.out.now.items c.give.new.out.items c.in_ok-give.field-0
          c.is_empty-is_settled.result c.is_empty-is_settled.ensures call.done;
      same = tt;
      full = tt;
      err = tt;
      room = call.room;
      rules = call.rules;
      settings = call.settings;
      sound = call.sound;
    }
