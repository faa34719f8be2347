use Rattle.std.proofs.Common.{IfOk, subst, sym}
use Rattle.at_protocol.specs.Writable.{IsWritable}
use Rattle.at_engine.specs.Telling.{IsSaid}
use Rattle.at_engine.specs.declared.engine.saying.Told.{Told}
use Rattle.at_engine.proofs.Positions.{there_at}
use Rattle.at_engine.proofs.engine.Engine.tell.Goals as goal

pub say-requires : goal.say-requires
say-requires g c =
    let (p, there) = there_at c.args.self.now.posts.items.items c.args.position c.requires.there.within in
    record { room = c.requires.room; writable = subst (λ (t : Told). IfOk t.form IsWritable) (sym (c.close.ensures.told p there)) c.requires.writable }

pub returns-clause-off : goal.returns-clause-off
returns-clause-off g c = record {
  told = λ p there.
      subst (λ (t : Told). IsSaid t c.say.result c.args.out.now.items c.say.new.out.items) (c.close.ensures.told p there) c.say.ensures.said;
  items = c.close.ensures.items;
  rest = c.close.ensures.rest;
  spare = c.close.ensures.spare;
  sound = c.close.ensures.sound;
}
