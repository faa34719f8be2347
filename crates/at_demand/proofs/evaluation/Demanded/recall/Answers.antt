use Rattle.std.proofs.Common.{ℕ, Some, inl, inr, ◌∙◌, refl, sym, ap}
use Rattle.std.proofs.lemmas.Result.{err_from_is_err_and}
use Rattle.at_model.specs.Run.{Instance}
use Rattle.at_body.specs.Same.{same_instance}
use Rattle.at_body.specs.Values.{value_view}
use Rattle.at_demand.specs.declared.evaluation.Demanded.{Demanded}
use Rattle.at_demand.proofs.Keys.{key_passes}
use Rattle.at_evaluate.proofs.Sameness.{same_true}
use Rattle.at_demand.proofs.Passing.{takes_kept, takes_found}
use Rattle.at_demand.proofs.Recalling.{known_kept, known_found, none_found, unknown, kept_push}
use Rattle.at_demand.proofs.evaluation.Demanded.recall.Goals as goal

pub returns-in_err-push : goal.returns-in_err-push
returns-in_err-push g c =
    let is = (err_from_is_err_and c.from_residual.result c.from_residual.ensures.1).1 in
    record { kept = rw is tt; takes = rw is tt; one = rw is tt; recalled = rw is tt }

pub returns-in_err-copy : goal.returns-in_err-copy
returns-in_err-copy g c =
    let is = (err_from_is_err_and c.from_residual-in_err-copy.result c.from_residual-in_err-copy.ensures.1).1 in
    record { kept = rw is tt; takes = rw is tt; one = rw is tt; recalled = rw is tt }

pub returns-in-Some : goal.returns-in-Some
returns-in-Some g c =
    let entries = g.K.Keeper.contents c.args.keeper.now in
    let old = c.args.self.now in
    let new : Demanded = record { kept = c.push.new.self; finds = old.finds } in
    let found = c.args.found.now.entries in
    let needed = c.args.needed in
    let items = c.in_ok-push.ensures.items in
    let told = value_view c.in-Some.value.now in
    record {
      kept = kept_push entries old.kept.items c.push.new.self.items needed told c.requires.kept items c.in-Some.ensures;
      takes = takes_kept found old new needed items refl;
      one = inl (items, refl);
      recalled = known_kept entries found needed (value_view c.in_ok-copy.field-0) told c.in-Some.ensures c.in_ok-copy.ensures;
    }

pub returns-in_err-push-in-Some-get_full : goal.returns-in_err-push-in-Some-get_full
returns-in_err-push-in-Some-get_full g c =
    let is = (err_from_is_err_and c.from_residual-in_err-push-in-Some-get_full.result c.from_residual-in_err-push-in-Some-get_full.ensures.1).1 in
    record { kept = rw is tt; takes = rw is tt; one = rw is tt; recalled = rw is tt }

pub returns-in_err-copy-in-Some-get_full : goal.returns-in_err-copy-in-Some-get_full
returns-in_err-copy-in-Some-get_full g c =
    let is = (err_from_is_err_and c.from_residual-in_err-copy-in-Some-get_full.result c.from_residual-in_err-copy-in-Some-get_full.ensures.1).1 in
    record { kept = rw is tt; takes = rw is tt; one = rw is tt; recalled = rw is tt }

pub returns-in_ok-copy-in-Some-get_full : goal.returns-in_ok-copy-in-Some-get_full
returns-in_ok-copy-in-Some-get_full g c =
    let entries = g.K.Keeper.contents c.args.keeper.now in
    let old = c.args.self.now in
    let new : Demanded = record { kept = old.kept; finds = c.push-in-Some-get_full.new.self } in
    let found = c.args.found.now.entries in
    let needed = c.args.needed in
    let got = c.in-Some-get_full in
    let same = same_true needed got._inst.now (key_passes (same_instance needed) found got._inst.now (sym got.ensures.key)) in
    let there = got.ensures.entry ∙ ap (λ (i : Instance ℕ). Some (i, got.find.now)) (sym same) in
    let items = c.in_ok-push-in-Some-get_full.ensures.items in
    record {
      kept = c.requires.kept;
      takes = takes_found found old new needed got.position got.find.now there refl items;
      one = inr (got.position, got.find.now, there, refl, items);
      recalled = known_found entries found needed (value_view c.in_ok-copy-in-Some-get_full.field-0) got.find.now c.in_default.ensures got.ensures.value c.in_ok-copy-in-Some-get_full.ensures;
    }

pub returns-then-is_empty : goal.returns-then-is_empty
returns-then-is_empty g c =
    let found = c.args.found.now.entries in
    let none = none_found found c.args.needed (c.is_empty.ensures.0 c.if-is_empty.true) in
    record {
      kept = c.requires.kept;
      takes = refl;
      one = refl;
      recalled = (refl, unknown (g.K.Keeper.contents c.args.keeper.now) found c.args.needed c.in_default.ensures none);
    }

pub returns-in-None : goal.returns-in-None
returns-in-None g c =
    record {
      kept = c.requires.kept;
      takes = refl;
      one = refl;
      recalled = (refl, unknown (g.K.Keeper.contents c.args.keeper.now) c.args.found.now.entries c.args.needed c.in_default.ensures c.in-None.ensures.value);
    }
