use Rattle.std.proofs.Common.{ℕ, inr, length, sym, ◌∙◌, subst}
use Rattle.std.specs.Prelude.{IsSome}
use Rattle.std.proofs.lemmas.Bool.{ltb-true}
use Rattle.std.proofs.lemmas.Option.{same_Some}
use Rattle.at_model.specs.Run.{Instance}
use Rattle.at_demand.specs.Levels.{known_to}
use Rattle.at_evaluate.proofs.Entered.{none_entered}
use Rattle.at_demand.proofs.Grouped.{get_at}
use Rattle.at_demand.proofs.of_groups.KeptOrFound.{known_after, no_ok}
use Rattle.at_demand.proofs.demand.Demand.keep_other.Goals as goal

pub returns-in_err-_place : goal.returns-in_err-_place
returns-in_err-_place g c =
    let insts = c.args.insts.now in
    let inst = c.in-Some.inst.now in
    let p = c.args.member.position in
    let l = c.in-Some.ensures.lookup in
    record {
      kept = inr (record {
        inst = inst;
        find = c.in_ok-find.find;
        at = get_at insts p inst (ltb-true p (length insts) (sym l.0)) l.1;
        unknown =
            none_entered (known_to (g.K.Keeper.contents c.args.self.now.keeper) c.args.question.now inst) c.is_known.result c.is_known.ensures
            c.if-is_known.false;
        is = c.in_ok-find.ensures;
        kept = c.keep_first.ensures.kept;
      });
      told = no_ok c.from_residual-in_err-_place.result _ _ c.from_residual-in_err-_place.ensures.1;
    }

pub returns : goal.returns
returns g c =
    let before = g.K.Keeper.contents c.args.self.now.keeper in
    let after = g.K.Keeper.contents c.keep_first.new.self.keeper in
    let old = c.args.question.now in
    let new = c.keep_first.new.question in
    let insts = c.args.insts.now in
    let inst = c.in-Some.inst.now in
    let p = c.args.member.position in
    let l = c.in-Some.ensures.lookup in
    let at = get_at insts p inst (ltb-true p (length insts) (sym l.0)) l.1 in
    let unknown = none_entered (known_to before old inst) c.is_known.result c.is_known.ensures c.if-is_known.false in
    let known = known_after c.args.rules.now before after (g.K.Keeper.memories c.args.self.now.keeper)
    (g.K.Keeper.memories c.keep_first.new.self.keeper) c.args.self.now.work c.keep_first.new.self.work old new inst c.in_ok-find.find
    c.keep_first.result c.in_ok-_place._place c.in_ok-_place.was unknown c.keep_first.ensures in
    record {
      kept = inr (record {
        inst = inst;
        find = c.in_ok-find.find;
        at = at;
        unknown = unknown;
        is = c.in_ok-find.ensures;
        kept = c.keep_first.ensures.kept;
      });
      told = λ i e. subst (λ (j : Instance ℕ). IsSome (known_to after new j)) (same_Some inst i (sym at ∙ e)) known;
    }
