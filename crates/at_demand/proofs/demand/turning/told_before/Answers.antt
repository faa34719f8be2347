use Rattle.std.proofs.Common.{◌≡◌, ℕ, Bool, true, false, List, Option, Some, None, Result, Ok, Err, sym, ap, ◌∙◌, true≢false}
use Rattle.std.specs.Prelude.{IfOk, IfSome, IsSome, not}
use Rattle.std.specs.Map.{keys_of, lookup}
use Rattle.std.specs.Option.{option_map}
use Rattle.std.specs.declared.alloc.AllocError.{AllocError}
use Rattle.at_model.specs.Meaning.{Among}
use Rattle.at_model.specs.Run.{Instance}
use Rattle.at_body.specs.Same.{same_instance}
use Rattle.at_search.specs.declared.ended.Ended.{Ended}
use Rattle.at_search.specs.declared.ended.Fault.{Fault}
use Rattle.at_demand.specs.declared.question.Question.{Question}
use Rattle.at_demand.specs.declared.trials.Trials.{Trials}
use Rattle.at_demand.specs.KeptTrials.{IsNotedAs}
use Rattle.at_demand.specs.Searches.{WasTold}
use Rattle.at_demand.proofs.of_levels.Resolving.{key_told}
use Rattle.at_demand.proofs.demand.turning.told_before.Goals as goal

key_of : (o : Option Bool) (ended : List (Instance ℕ × Ended)) (i : Instance ℕ) →
    o ≡ option_map (λ (x : Ended). x.is_whole) (lookup (same_instance i) ended) → IsSome o → Among i (keys_of ended)
key_of None ended i is some = absurd (true≢false (sym some))
key_of (Some b) ended i is some = key_told ended i b is

told : (q : Question) (t : Trials) (i : Instance ℕ) → Among i (keys_of q.ended.entries) → (r : Result (Option Fault)
    AllocError) →
    IfOk r (λ o. IfSome o (IsNotedAs t.noted.entries i)) → IfOk r (λ o. IfSome o (WasTold q t i))
told q t i key (Ok (Some f)) h = (h, key)
told q t i key (Ok None) h = tt
told q t i key (Err e) h = tt

pub returns : goal.returns
returns c = told c.args.question.now c.args.trials.now c.args.inst.now
    (key_of c.is_whole.result c.args.question.now.ended.entries c.args.inst.now c.is_whole.ensures (c.is_none.ensures
    ∙ ap not c.if-is_none.false))
    c.noted_of.result c.noted_of.ensures
