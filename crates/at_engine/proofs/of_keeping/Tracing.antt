-- What can be kept again is right still, where each trace was there, over the same last values.
use Rattle.at_model.specs.Rules.{Rules}
use Rattle.at_store.specs.Shown.{Shown, contents}
use Rattle.at_cache.specs.Traced.{Memories, StayTraced}
use Rattle.at_evaluate.specs.Traces.{IsRemembered}
use Rattle.at_evaluate.proofs.of_traces.Justified.{stay_justified, stay_there}

pub remembered_still : (rules : Rules) (s : Shown) (before later : Memories) → StayTraced before later
    → IsRemembered rules s before → IsRemembered rules s later
remembered_still rules s before later stay h = record {
  justified = stay_justified rules (contents s) before later stay h.justified;
  there = stay_there s before later stay h.there;
}
