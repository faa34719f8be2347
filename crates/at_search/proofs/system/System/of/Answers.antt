use Rattle.std.proofs.Common.{ℕ, List, length, subst, ◌≤◌, ◌∙◌}
use Rattle.std.proofs.lemmas.List.{take_all}
use Rattle.std.specs.Map.{keys_of}
use Rattle.at_model.specs.Run.{Instance}
use Rattle.at_search.specs.Systems.{IsSystemTo}
use Rattle.at_search.proofs.Places.{keys_apart}
use Rattle.at_search.proofs.Placing.{filled_more}
use Rattle.at_search.proofs.system.System.of.Goals as goal

pub loop-inst-preserved : goal.loop-inst-preserved
loop-inst-preserved g c =
    filled_more (g.K.Known.value_of c.args.known.now) c.args.ended.now.entries (keys_of c.args.seen.now.entries) c.loop-inst.system
    c.add.new.self c.loop-inst.inst-index c.args.start c.as_slice-insts.result.now c.inst-item.result
    (c.as_slice-insts.ensures ∙ c.keys.ensures.rest) c.loop-inst-test.true c.inst-item.is c.in_ok-add.ensures c.loop-inst.invariant

pub returns : goal.returns
returns g c = record {
  all = subst (λ (ks : List (Instance ℕ)).
      IsSystemTo (length ks) c.args.start (g.K.Known.value_of c.args.known.now) c.args.ended.now.entries (keys_of c.args.seen.now.entries)
      c.loop-inst.system)
      (take_all c.loop-inst.inst-index (keys_of c.args.seen.now.entries)
      (subst (λ (ks : List (Instance ℕ)). length ks ≤ c.loop-inst.inst-index) (c.as_slice-insts.ensures ∙ c.keys.ensures.rest)
      c.loop-inst-test.false)) c.loop-inst.invariant;
  apart = keys_apart (keys_of c.args.seen.now.entries) c.keys.ensures.unique;
}
