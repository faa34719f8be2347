use Rattle.std.proofs.Common.{◌∙◌, ◌++◌, ap, arith, refl}
use Rattle.at_model.specs.Replies.{reply_text}
use Rattle.at_engine.specs.Engines.{rules_of, state_of}
use Rattle.at_engine.specs.Hearing.{IsStep}
use Rattle.at_engine.proofs.Attempting.{answered, said_form, stays_unless, writable_so}
use Rattle.at_engine.proofs.of_keeping.KeepingLemmas.{kept_served, spare_line}
use Rattle.at_engine.proofs.Typing.{typed_served}
use Rattle.at_engine.proofs.engine.Engine.serve.Goals as goal

pub say-requires : goal.say-requires
say-requires g c =
    let e = c.args.self.now in
    let t = c.outcome-told.result in
    record {
      room = c.in_ok-reserve.ensures.ok;
      writable = writable_so (IsStep g.K.Keeper.contents g.K.Keeper.memories c.args.line.now e c.outcome-told.new.self) t.session t.done t.form c.outcome-told.ensures.gets;
    }

pub returns : goal.returns
returns g c =
    let e = c.args.self.now in
    let new = c.outcome-told.new.self in
    let line = c.args.line.now in
    let t = c.outcome-told.result in
    let wants = c.say.result in
    let a = answered (IsStep g.K.Keeper.contents g.K.Keeper.memories line e new) c.reserve.new.self.items c.say.new.out.items t t.form refl wants c.outcome-told.ensures.gets c.say.ensures.said in
    let stays = c.outcome-told.ensures.stays in
    record {
      done = record {
        went = c.outcome-told.ensures.went;
        served = (a.0, a.1, a.2 ∙ ap (λ xs. xs ++ reply_text a.0) c.reserve.ensures.items);
        spare = λ whole spare. spare_line g.K.Keeper.contents e new line t.form wants
            (said_form t wants c.reserve.new.self.items c.say.new.out.items c.say.ensures.said) (c.outcome-told.ensures.spares spare) whole;
        keeps = λ spare.
            kept_served g.K.Keeper.contents e new line t.form wants (c.outcome-told.ensures.spares spare) (said_form t wants c.reserve.new.self.items c.say.new.out.items c.say.ensures.said)
            (λ same none. stays_unless (rules_of e) (state_of e) (state_of new) line (wants, a.0) same a.1.serves none);
      };
      same = tt;
      full = tt;
      err = tt;
      room = omega (arith, c.reserve.ensures.capacity, c.say.ensures.room);
      rules = stays.rules;
      settings = stays.settings;
      sound = record { held = stays.sound; typed = typed_served (rules_of e) (rules_of new) (wants, a.0) (state_of e) (state_of new) line c.requires.sound.held.sound c.requires.sound.typed stays.rules a.1.serves; known = stays.known c.requires.sound.known };
    }
