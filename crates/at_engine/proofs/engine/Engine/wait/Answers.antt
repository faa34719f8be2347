use Rattle.std.proofs.Common.{ap, ℕ, [], Option, None, Result, Ok, Err, refl, subst, sym}
use Rattle.std.specs.declared.alloc.AllocError.{AllocError}
use Rattle.at_protocol.specs.declared.reply.Form.{Form}
use Rattle.at_demand.specs.Groups.{KeepsGroups}
use Rattle.at_engine.specs.Engines.{rules_of}
use Rattle.at_engine.specs.Turning.{Attends, HasGone}
use Rattle.at_engine.specs.declared.engine.Engine.{Engine}
use Rattle.at_engine.proofs.of_keeping.GoneOn.{went_along}
use Rattle.at_engine.proofs.of_turns.Finishing.{IsResult, never_silent, stays_there, waited}
use Rattle.at_engine.proofs.engine.Engine.wait.Goals as goal

pub close-requires : goal.close-requires
close-requires g c = record {
  sound = c.go_on.ensures.attends.sound;
  within = stays_there g.K.Keeper.contents g.K.Keeper.memories c.args.self.now c.args.position c.requires.within c.go_on.new.self c.go_on.result c.go_on.ensures.attends;
}

pub close-requires-in-Some : goal.close-requires-in-Some
close-requires-in-Some g c = record {
  sound = c.go_on.ensures.attends.sound;
  within = stays_there g.K.Keeper.contents g.K.Keeper.memories c.args.self.now c.args.position c.requires.within c.go_on.new.self c.go_on.result c.go_on.ensures.attends;
}

pub returns-in-Err-clause-attends : goal.returns-in-Err-clause-attends
returns-in-Err-clause-attends g c =
    let is = subst (λ (r : Result (ℕ × Option Form) AllocError). IsResult r (Err c.in-Err.error))
    (sym c.in-Err.is) refl in
    waited g.K.Keeper.contents g.K.Keeper.memories c.args.self.now c.requires.sound c.args.position c.requires.within c.go_on.new.self c.go_on.result
    c.go_on.ensures.attends (Err c.in-Err.error) is c.close.new.self c.close.result c.close.ensures

pub returns-clause-attends : goal.returns-clause-attends
returns-clause-attends g c =
    let some = subst (λ (o : Option Form). IsResult (Ok (c.in-Ok.gone.0, o)) (Ok c.in-Some.form))
    (sym c.in-Some.is) refl in
    let is = subst (λ (r : Result (ℕ × Option Form) AllocError). IsResult r (Ok c.in-Some.form))
    (sym c.in-Ok.is) some in
    waited g.K.Keeper.contents g.K.Keeper.memories c.args.self.now c.requires.sound c.args.position c.requires.within c.go_on.new.self c.go_on.result
    c.go_on.ensures.attends (Ok c.in-Some.form) is c.close-in-Some.new.self c.close-in-Some.result c.close-in-Some.ensures

pub unreachable-requires : goal.unreachable-requires
unreachable-requires g c =
    let e = c.args.self.now in
    let k = g.K.Keeper.contents in
    let i = c.args.position in
    let m = c.go_on.new.self in
    let a = subst (λ (r : Result (ℕ × Option Form) AllocError). Attends k g.K.Keeper.memories e m i
    (λ p. HasGone k g.K.Keeper.memories None e m i p r) (KeepsGroups (rules_of e) r)) c.in-Ok.is
    c.go_on.ensures.attends in
    never_silent k g.K.Keeper.memories e m i c.requires.within c.in-Ok.gone.0 c.in-Ok.gone.1 a c.in-None.is

pub returns-in-Err-clause-went : goal.returns-in-Err-clause-went
returns-in-Err-clause-went g c = went_along g.K.Keeper.contents g.K.Keeper.memories [] c.args.self.now c.go_on.new.self c.close.new.self
    (ap (λ (x : Engine g.row.K.Denot). x.demand) c.close.ensures.rest) c.go_on.ensures.went

pub returns-clause-went : goal.returns-clause-went
returns-clause-went g c = went_along g.K.Keeper.contents g.K.Keeper.memories [] c.args.self.now c.go_on.new.self c.close-in-Some.new.self
    (ap (λ (x : Engine g.row.K.Denot). x.demand) c.close-in-Some.ensures.rest) c.go_on.ensures.went
