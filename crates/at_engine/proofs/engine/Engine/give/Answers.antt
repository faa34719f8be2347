use Rattle.std.proofs.Common.{◌≤◌, ℕ, List, Option, Result, Ok, Err, subst, sym, arith, refl}
use Rattle.std.specs.Prelude.{vec_capacity}
use Rattle.std.specs.declared.alloc.AllocError.{AllocError}
use Rattle.at_protocol.specs.declared.reply.Form.{Form}
use Rattle.at_rules.specs.Circular.{HasNoneCircular}
use Rattle.at_demand.specs.Groups.{KeepsGroups}
use Rattle.at_demand.proofs.of_levels.Resolving.{keeps_groups}
use Rattle.at_engine.specs.Engines.{rules_of}
use Rattle.at_engine.specs.Keeping.{IsSpare}
use Rattle.at_engine.specs.Telling.{IsSaid}
use Rattle.at_engine.specs.Turning.{Came, told_of}
use Rattle.at_engine.proofs.of_turns.Finishing.{called, first_gone, gives_failed, gives_nothing, gives_silent, gives_told}
use Rattle.at_engine.proofs.engine.Engine.give.Goals as goal

pub returns-then-is_empty : goal.returns-then-is_empty
returns-then-is_empty g c =
    let e = c.args.self.now in
    called g.K.Keeper.contents g.K.Keeper.memories e e e c.args.out.now c.reserve.new.self _ _ c.requires.sound refl refl
    c.requires.sound.held c.reserve.ensures.capacity
    (gives_nothing g.K.Keeper.contents g.K.Keeper.memories c.args.limit e c.args.out.now.items c.reserve.new.self.items c.if-is_empty.ensures c.reserve.ensures.items)

pub go_on-requires : goal.go_on-requires
go_on-requires g c = record {
  ready = record { sound = c.requires.sound.held; typed = c.requires.sound.typed; within = c.if-is_empty.ensures };
  some = c.requires.some;
}

pub returns-in-Err : goal.returns-in-Err
returns-in-Err g c =
    let e = c.args.self.now in
    let k = g.K.Keeper.contents in
    let m = c.go_on.new.self in
    let f = first_gone k g.K.Keeper.memories c.args.limit e m c.go_on.result c.if-is_empty.ensures c.go_on.ensures.attends in
    let n = c.tell.new.self in
    let off = c.tell.ensures.off in
    let came = subst (λ (r : Result (ℕ × Option Form) AllocError). Came k g.K.Keeper.memories c.args.limit e m.demand f.p f.now r) c.in-Err.is f.came in
    let said = subst (λ (l : List ℕ). IsSaid (told_of f.p m.version
    (Err c.in-Err.error)) c.tell.result l c.tell.new.out.items) c.reserve.ensures.items
    (off.told (record f.p { question = f.now }) f.still) in
    let room : vec_capacity c.args.out.now ≤ vec_capacity c.tell.new.out = omega
    (arith, c.reserve.ensures.capacity, c.tell.ensures.room) in
    let kept : HasNoneCircular (rules_of e) → IsSpare k e → IsSpare k n =
    λ none spare. off.spare (c.go_on.ensures.attends.spare (keeps_groups (rules_of e) c.go_on.result none) spare) in
    called k g.K.Keeper.memories e m n c.args.out.now c.tell.new.out _ _ c.requires.sound c.go_on.ensures.attends.rest off.rest off.sound room
    (gives_failed k g.K.Keeper.memories e c.requires.sound.held f.p f.others f.least m c.go_on.ensures.attends.rest n off.rest off.items f.now f.reopens c.args.limit c.args.out.now.items c.tell.new.out.items c.in-Err.error came c.requires.some
    c.tell.result said kept c.go_on.ensures.went)

pub tell-requires-clause-there : goal.tell-requires-clause-there
tell-requires-clause-there g c =
    let e = c.args.self.now in
    let k = g.K.Keeper.contents in
    let m = c.go_on.new.self in
    let f = first_gone k g.K.Keeper.memories c.args.limit e m c.go_on.result c.if-is_empty.ensures c.go_on.ensures.attends in
    record { sound = c.go_on.ensures.attends.sound; within = f.within }

pub returns-in-None : goal.returns-in-None
returns-in-None g c =
    let e = c.args.self.now in
    let k = g.K.Keeper.contents in
    let m = c.go_on.new.self in
    let f = first_gone k g.K.Keeper.memories c.args.limit e m c.go_on.result c.if-is_empty.ensures c.go_on.ensures.attends in
    let came = subst (λ (o : Option Form). Came {E = AllocError} k g.K.Keeper.memories c.args.limit e m.demand f.p f.now (Ok
    (c.in-Ok.gone.0, o))) c.in-None.is
    (subst (λ (r : Result (ℕ × Option Form) AllocError). Came k g.K.Keeper.memories c.args.limit e m.demand f.p f.now r) c.in-Ok.is f.came) in
    called k g.K.Keeper.memories e m m c.args.out.now c.reserve.new.self _ _ c.requires.sound c.go_on.ensures.attends.rest refl
    c.go_on.ensures.attends.sound c.reserve.ensures.capacity
    (gives_silent k g.K.Keeper.memories e c.requires.sound.held f.p f.others f.least m c.go_on.ensures.attends.rest c.args.limit f.now f.reopens c.in-Ok.gone.0 c.args.out.now.items c.reserve.new.self.items c.reserve.ensures.items c.requires.some came
    (λ spare. c.go_on.ensures.attends.spare (subst (λ (r : Result (ℕ × Option Form) AllocError). KeepsGroups (rules_of e) r) (sym c.in-Ok.is) tt)
    spare) c.go_on.ensures.went)

pub returns-in-Some : goal.returns-in-Some
returns-in-Some g c =
    let e = c.args.self.now in
    let k = g.K.Keeper.contents in
    let m = c.go_on.new.self in
    let f = first_gone k g.K.Keeper.memories c.args.limit e m c.go_on.result c.if-is_empty.ensures c.go_on.ensures.attends in
    let n = c.tell-in-Some.new.self in
    let off = c.tell-in-Some.ensures.off in
    let came = subst (λ (o : Option Form). Came {E = AllocError} k g.K.Keeper.memories c.args.limit e m.demand f.p f.now (Ok
    (c.in-Ok.gone.0, o))) c.in-Some.is
    (subst (λ (r : Result (ℕ × Option Form) AllocError). Came k g.K.Keeper.memories c.args.limit e m.demand f.p f.now r) c.in-Ok.is f.came) in
    let said = subst (λ (l : List ℕ). IsSaid (told_of f.p m.version
    (Ok c.in-Some.form)) c.tell-in-Some.result l c.tell-in-Some.new.out.items) c.reserve.ensures.items
    (off.told (record f.p { question = f.now }) f.still) in
    let room : vec_capacity c.args.out.now ≤ vec_capacity c.tell-in-Some.new.out = omega
    (arith, c.reserve.ensures.capacity, c.tell-in-Some.ensures.room) in
    let kept : IsSpare k e → IsSpare k n = λ spare. off.spare
    (c.go_on.ensures.attends.spare (subst (λ (r : Result (ℕ × Option Form) AllocError). KeepsGroups (rules_of e) r) (sym c.in-Ok.is) tt) spare) in
    called k g.K.Keeper.memories e m n c.args.out.now c.tell-in-Some.new.out _ _ c.requires.sound c.go_on.ensures.attends.rest off.rest off.sound room
    (gives_told k g.K.Keeper.memories e c.requires.sound.held f.p f.others f.least m c.go_on.ensures.attends.rest n off.rest off.items f.now f.reopens c.args.limit c.args.out.now.items c.tell-in-Some.new.out.items c.in-Ok.gone.0 c.in-Some.form came
    c.tell-in-Some.result said kept c.go_on.ensures.went)

pub tell-requires-in-Some-clause-there : goal.tell-requires-in-Some-clause-there
tell-requires-in-Some-clause-there g c =
    let e = c.args.self.now in
    let k = g.K.Keeper.contents in
    let m = c.go_on.new.self in
    let f = first_gone k g.K.Keeper.memories c.args.limit e m c.go_on.result c.if-is_empty.ensures c.go_on.ensures.attends in
    record { sound = c.go_on.ensures.attends.sound; within = f.within }

pub tell-requires-in-Some-clause-writable : goal.tell-requires-in-Some-clause-writable
tell-requires-in-Some-clause-writable g c =
    let e = c.args.self.now in
    let k = g.K.Keeper.contents in
    let m = c.go_on.new.self in
    let f = first_gone k g.K.Keeper.memories c.args.limit e m c.go_on.result c.if-is_empty.ensures c.go_on.ensures.attends in
    let came = subst (λ (o : Option Form). Came {E = AllocError} k g.K.Keeper.memories c.args.limit e m.demand f.p f.now (Ok
    (c.in-Ok.gone.0, o))) c.in-Some.is
    (subst (λ (r : Result (ℕ × Option Form) AllocError). Came k g.K.Keeper.memories c.args.limit e m.demand f.p f.now r) c.in-Ok.is f.came) in
    came.2.writable
