-- How what can be kept again came to be what it is, over what an engine does.
use Rattle.std.proofs.Common.{◌≡◌, ℕ, List, [], Option, refl, sym, subst}
use Rattle.at_model.specs.Machine.{Verdict}
use Rattle.at_model.specs.Machine as machine
use Rattle.at_store.specs.Shown.{Shown}
use Rattle.at_cache.specs.Kept.{Entries}
use Rattle.at_cache.specs.Traced.{Memories}
use Rattle.at_demand.specs.declared.demand.Demand.{Demand}
use Rattle.at_demand.specs.StateOf.{state_of}
use Rattle.at_demand.specs.Went.{EditMade, Went, begun}
use Rattle.at_demand.proofs.of_traces.TurnsPut.{steps_then}
use Rattle.at_engine.specs.Engines.{most_of}
use Rattle.at_engine.specs.Making.{AreEditsOf, WentFor, WentOn, none_made, one_made, questions_of}
use Rattle.at_engine.specs.Stepping.{GoesBy, by_line, by_turns, edits_in, nowhere}
use Rattle.at_engine.specs.declared.engine.Engine.{Engine}

module _ {K : Type 0} (entries : K → Entries) (memories : K → Memories) where
  -- where questions are the same
  pub went_none : (old new : Engine K) → new.demand ≡ old.demand → WentOn entries memories [] old new
  went_none old new same =
      subst (λ (d : Demand K). Went (questions_of entries memories old) [] (state_of entries memories d)) (sym same) begun

  -- and behind that
  pub went_along : (es : List EditMade) (old mid new : Engine K) → new.demand ≡ mid.demand → WentOn entries memories es old mid
      → WentOn entries memories es old new
  went_along es old mid new same went =
      subst (λ (d : Demand K). Went (questions_of entries memories old) es (state_of entries memories d)) (sym same) went

  -- without an edit
  pub went_quiet : (May : Verdict → Type 0) (old new : Engine K) → WentOn entries memories [] old new → WentFor entries memories May old new
  went_quiet May old new went = ([], none_made, went)

  pub went_same : (May : Verdict → Type 0) (old new : Engine K) → new.demand ≡ old.demand → WentFor entries memories May old new
  went_same May old new same = went_quiet May old new (went_none old new same)

  -- for other verdicts
  pub went_as : (May Other : Verdict → Type 0) (old new : Engine K) → ((v : Verdict) → May v → Other v) → WentFor entries memories May old new
      → WentFor entries memories Other old new
  went_as May Other old new so went = (went.0, edits_as old.store (most_of old) _ _ went.0 went.1, went.2)
    where
      edits_as : (s : Shown) (most : Option ℕ) (before after : machine.State) (es : List EditMade) → AreEditsOf May s most before after es
          → AreEditsOf Other s most before after es
      edits_as s most before after _ none_made = none_made
      edits_as s most before after _ (one_made e t may is) = one_made e t (so _ may) is

  -- over all lines and turns
  pub went_over : (old new : Engine K) (by : GoesBy entries memories old new) → WentOn entries memories (edits_in entries memories old new by) old new
  went_over old _ nowhere = begun
  went_over old _ (by_line mid new line before after wants first served) =
      steps_then (questions_of entries memories old) (questions_of entries memories mid) _ (went_over old mid first)
      (questions_of entries memories new) _ served.went.2
  went_over old _ (by_turns mid new limit before after spent first spends) =
      steps_then (questions_of entries memories old) (questions_of entries memories mid) _ (went_over old mid first)
      (questions_of entries memories new) _ spends.went
