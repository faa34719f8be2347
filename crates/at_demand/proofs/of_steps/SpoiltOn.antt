-- The equation of the last one has a fault: its own, or that of what it waits for.
use Rattle.std.proofs.Common.{◌≡◌, ◌⊎◌, ℕ, [], Ok, inl, inr, sym, subst}
use Rattle.std.specs.Map.{keys_of}
use Rattle.std.specs.declared.alloc.AllocError.{AllocError}
use Rattle.at_model.specs.Meaning.{Among, Faults, Reaches}
use Rattle.at_model.specs.Rules.{Rules}
use Rattle.at_model.specs.Run.{Instance}
use Rattle.at_model.specs.of_fixpoints.Fixpoints.{EndsSo, HasValue, Holds, Spoilt}
use Rattle.at_model.specs.of_fixpoints.Resting.{Comes}
use Rattle.at_model.proofs.of_searching.Turned.{demanded_fault}
use Rattle.at_store.specs.Shown.{Shown, contents}
use Rattle.at_body.specs.Typed.{class_shown}
use Rattle.at_body.specs.Values.{fault_view}
use Rattle.at_cache.specs.Kept.{Entries}
use Rattle.at_cache.specs.Traced.{Memories}
use Rattle.at_search.specs.declared.ended.Fault.{Fault}
use Rattle.at_demand.specs.declared.demand.searching.Resolved.TheVariants as resolved
use Rattle.at_demand.specs.declared.question.Question.{Question}
use Rattle.at_demand.specs.declared.trials.Trials.{Trials}
use Rattle.at_demand.specs.declared.trying.Going.{Going}
use Rattle.at_demand.specs.declared.trying.Trying.{Trying}
use Rattle.at_demand.specs.Attempts.{IsGoing}
use Rattle.at_demand.specs.Forming.{waits_for}
use Rattle.at_evaluate.specs.Valued.{meaning}
use Rattle.at_demand.specs.Searches.{CanSpoil, HasResolved}
use Rattle.at_demand.specs.Turns.{HasMetAll, IsMet}
use Rattle.at_demand.proofs.of_levels.Followed.{comes_waiting}
use Rattle.at_demand.proofs.of_steps.TriedOn.{standing_at, tries_on}
use Rattle.at_demand.proofs.of_steps.TryUnderWay.{IsTrying}
use Rattle.at_demand.proofs.of_steps.WaitsMet.{waits_met}

module _ (rules : Rules) (s : Shown) (before mid : Entries) (f m : Memories) (w x : ℕ) (old q : Question) (t : Trials) (g : Going)
    (c : IsTrying rules s before mid f m w x old q t g) where
  -- its own
  pub can_fail : (fault : Fault) → fault.at ≡ q.inst → EndsSo (contents s) (meaning rules) q.inst (Spoilt (fault_view fault.kind) q.inst) →
      HasMetAll rules (contents s) mid q.found.entries q.inst → CanSpoil rules s mid q t fault
  can_fail fault at ends met = record {
    turns = c.turns;
    none = c.none;
    own = λ none. at;
    followed = λ j b. inl (met j b);
    ends = subst (λ i. EndsSo (contents s) (meaning rules) q.inst (Spoilt (fault_view fault.kind) i)) (sym at) ends;
  }

  -- or that of what it waits for
  module _ (last : Entries) (n : Memories) (y : ℕ) (new : Question) (i : Instance ℕ) (fault : Fault)
      (h : HasResolved {E = AllocError} rules s mid last m n x y q new i (Ok (resolved.Spoilt fault))) (waits : Trying) (is : g ≡ waits_for waits i)
      (demands : Reaches (contents s) (HasValue (contents s) (meaning rules)) ((meaning rules).formula q.inst) i) where
    later : IsTrying rules s before last f n w y old new t g
    later = tries_on rules s before mid f m w x old q t g c last n y new i (resolved.Spoilt fault) h waits i is

    told : Holds (contents s) (meaning rules) i (Faults (fault_view fault.kind) fault.at) × Among i (keys_of new.ended.entries)
    told = h.is

    some_ended : q.ended.entries ≡ [] → ⊥
    some_ended = h.ended

    demands_new : Reaches (contents s) (HasValue (contents s) (meaning rules)) ((meaning rules).formula new.inst) i
    demands_new = let tells = h.tells in
        subst (λ j. Reaches (contents s) (HasValue (contents s) (meaning rules)) ((meaning rules).formula j) i) (sym tells.chain.inst) demands

    ends_so : EndsSo (contents s) (meaning rules) new.inst (Spoilt (fault_view fault.kind) fault.at)
    ends_so = demanded_fault (contents s) (meaning rules) new.inst i (fault_view fault.kind) fault.at ((meaning rules).formula new.inst) demands_new told.0

    followed : (j : Instance ℕ) → Comes (contents s) (meaning rules) new.inst j → IsMet last new.found.entries j ⊎ Among j (keys_of new.ended.entries)
    followed j b = elim (comes_waiting rules (contents s) last new.found.entries new.inst i (fault_view fault.kind) fault.at ends_so told.0
        (waits_met rules (class_shown s) (contents s) last new.found.entries new.inst waits i
        (subst (λ z. IsGoing rules (class_shown s) (contents s) last new.found.entries new.inst z) is (let l = later in l.going))) j b) [
          | inl z ↦ inl z
          | inr e ↦ inr (subst (λ z. Among z (keys_of new.ended.entries)) (sym e) told.1)
        ]

    pub can_spoil : CanSpoil rules s last new t fault
    can_spoil = record {
      turns = let l = later in l.turns;
      none = let l = later in l.none;
      own = λ none. absurd (some_ended (let st = standing_at rules s before mid f m w x old q t g c in let p = st.plainly none in p.ended));
      followed = followed;
      ends = ends_so;
    }
