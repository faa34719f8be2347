use Rattle.std.proofs.Common.{refl}
use Rattle.std.proofs.lemmas.Result.{IfOk-weaker, err_from_is_err_and}
use Rattle.at_model.specs.Machine.{Asks}
use Rattle.at_demand.specs.Known.{answer_view}
use Rattle.at_demand.proofs.of_keeping.CalledLemmas.{keeps_asked}
use Rattle.at_demand.proofs.of_levels.Resolving.{keeps_groups}
use Rattle.at_engine.specs.Engines.{marks_of, rules_of, state_of}
use Rattle.at_engine.proofs.of_keeping.Gained.{grows_asked}
use Rattle.at_engine.proofs.of_keeping.GoneOn.{went_quiet}
use Rattle.at_engine.proofs.of_keeping.KeepingLemmas.{asked_spares, err_spares}
use Rattle.at_engine.proofs.of_keeping.KeptTyped.{basis_held, sound_typed, typed_more}
use Rattle.at_engine.proofs.FollowingLemmas.{asks}
use Rattle.at_engine.proofs.Numbered.{answer_named}
use Rattle.at_engine.proofs.Storing.{on_err}
use Rattle.at_engine.proofs.of_turns.Openings.{sound_grown, spare_grown}
use Rattle.at_engine.proofs.engine.Engine.answer.Goals as goal

pub returns : goal.returns
returns g c q like =
    let e = c.args.self.now in
    let held = c.requires.sound.held in
    let k = g.K.Keeper.contents in
    let new = record e { demand = c.answer.new.self } in
    let told = c.in_ok-answer.ensures.answered in
    let view = answer_view c.in_ok-answer.answer in
    let basis = basis_held k g.K.Keeper.memories e held c.requires.sound.typed in
    let before = k e.demand.keeper in
    let after = k new.demand.keeper in
    let (b, alike, answers) = answer_named (rules_of e) e.store held.idle c.args.inst.now q view like told.answers in
    record {
      obeys = IfOk-weaker c.told.result _ _ (λ f told. asks (rules_of e) (state_of e) (Asks q) q b f refl answers told) (c.told.ensures b alike);
      err = on_err c.told.result _ refl;
      spares = λ it.
          asked_spares k e new q c.told.result
          (λ whole. record {
            unbounded = it.unbounded;
            spare = spare_grown (rules_of e) e.store before after told.worthy.stays (marks_of e) e.posts held (told.spare tt it.spare.kept) it.spare;
          })
          (keeps_asked (rules_of e) e.store held.idle c.args.inst.now q like before after e.demand.work new.demand.work told.worthy
          (told.met it.spare.kept) view told.answers (told.all it.spare.kept) told.counts (state_of e) refl);
      stays = record {
        rules = refl;
        settings = refl;
        known = λ k. k;
        sound = sound_grown (rules_of e) e.store before after told.worthy.stays (marks_of e) e.posts held (told.right c.requires.there held.right)
            (typed_more (rules_of e) e.store basis c.args.inst.now c.requires.well_typed before after told.worthy held.typed)
            (record { justified = c.answer.ensures.traces.justified; there = c.answer.ensures.traces.there c.requires.there held.remembered.there });
      };
      went = went_quiet g.K.Keeper.contents g.K.Keeper.memories _ e new c.answer.ensures.went;
    }

pub returns-in_err-answer : goal.returns-in_err-answer
returns-in_err-answer g c q like =
    let e = c.args.self.now in
    let held = c.requires.sound.held in
    let k = g.K.Keeper.contents in
    let new = record e { demand = c.answer.new.self } in
    let a = c.answer.ensures.answered in
    let basis = basis_held k g.K.Keeper.memories e held c.requires.sound.typed in
    let before = k e.demand.keeper in
    let after = k new.demand.keeper in
    let p = err_from_is_err_and c.from_residual.result c.from_residual.ensures.1 in
    record {
      obeys = rw p.1 tt;
      err = on_err c.from_residual.result _ refl;
      spares = λ it. err_spares k e new (Asks q) c.from_residual.result p.0 p.1 (
        λ none. record {
          unbounded = it.unbounded;
          spare = spare_grown (rules_of e) e.store before after a.worthy.stays (marks_of e) e.posts held
              (a.spare (keeps_groups (rules_of e) c.answer.result none) it.spare.kept) it.spare;
        },
        grows_asked (rules_of e) e.store held.idle c.args.inst.now q like before after e.demand.work new.demand.work a.worthy
            (a.met it.spare.kept) a.counts,
      );
      stays = record {
        rules = refl;
        settings = refl;
        known = λ k. k;
        sound = sound_grown (rules_of e) e.store before after a.worthy.stays (marks_of e) e.posts held (a.right c.requires.there held.right)
            (typed_more (rules_of e) e.store basis c.args.inst.now c.requires.well_typed before after a.worthy held.typed)
            (record { justified = c.answer.ensures.traces.justified; there = c.answer.ensures.traces.there c.requires.there held.remembered.there });
      };
      went = went_quiet g.K.Keeper.contents g.K.Keeper.memories _ e new c.answer.ensures.went;
    }

pub told-requires : goal.told-requires
told-requires g c =
    let e = c.args.self.now in
    let held = c.requires.sound.held in
    let a = c.answer.ensures.answered in
    let before = g.K.Keeper.contents e.demand.keeper in
    let after = g.K.Keeper.contents c.answer.new.self.keeper in
    let basis = basis_held g.K.Keeper.contents g.K.Keeper.memories e held c.requires.sound.typed in
    record {
      sound = sound_grown (rules_of e) e.store before after a.worthy.stays (marks_of e) e.posts held (a.right c.requires.there held.right)
          (typed_more (rules_of e) e.store basis c.args.inst.now c.requires.well_typed before after a.worthy held.typed)
          (record { justified = c.answer.ensures.traces.justified; there = c.answer.ensures.traces.there c.requires.there held.remembered.there });
    }

pub answer-requires : goal.answer-requires
answer-requires g c =
    let e = c.args.self.now in
    let held = c.requires.sound.held in
    let entries = g.K.Keeper.contents e.demand.keeper in
    let basis = basis_held g.K.Keeper.contents g.K.Keeper.memories e held c.requires.sound.typed in
    record {
      answerable = record { basis = basis; right = held.right.values; plain = held.right.plain };
      typed = c.requires.well_typed;
      justified = held.remembered.justified;
      wholes = (sound_typed (rules_of e) e.store basis entries held.right.values held.typed).whole;
    }
