-- What could be kept again is made for a cause alone.
use Rattle.std.proofs.Common.{◌≡◌, ◌⊎◌, inl, inr, ℕ, List, ◌∷◌, Some}
use Rattle.at_model.specs.Run.{Instance}
use Rattle.at_model.specs.Meaning.{Among}
use Rattle.at_cache.specs.Traced.{Trace}
use Rattle.at_demand.specs.State.{State}
use Rattle.at_demand.specs.Went.{
  EditMade,
  HasCause,
  IsAsked,
  IsEdited,
  IsTurned,
  Went,
  asked,
  before_edit,
  before_question,
  before_turns,
  begun,
  edited,
  let_go,
  outdated,
  put_in_turns,
  touched,
  turned,
}
use Rattle.at_demand.proofs.of_traces.TurnsPut.{spared_in_turns}

module _ (old : State) (i : Instance ℕ) (t : Trace) (before : old.memories.traced i ≡ Some t) where
  -- it still can be kept again then
  abbrev IsThere : State → Type 0
  IsThere n = n.memories.traced i ≡ Some t

  at_question : (n o : State) (es : List EditMade) (w : Went old es n) (x : IsAsked n o) → IsThere n ⊎ HasCause old i t es n w
      → IsThere o ⊎ HasCause old i t es o (asked n o es w x)
  at_question n o es w x (inl there) = elim (x.makes.spares i t there) [
    | inl still ↦ inl still
    | inr other ↦ inr (outdated n o es w x other)
  ]
  at_question n o es w x (inr cause) = inr (before_question n o es w x cause)

  at_turns : (n o : State) (es : List EditMade) (w : Went old es n) (x : IsTurned n o) → IsThere n ⊎ HasCause old i t es n w
      → IsThere o ⊎ HasCause old i t es o (turned n o es w x)
  at_turns n o es w x (inl there) = elim (spared_in_turns i t n.memories o.memories x.puts there) [
    | inl still ↦ inl still
    | inr was ↦ inr (put_in_turns n o es w x was)
  ]
  at_turns n o es w x (inr cause) = inr (before_turns n o es w x cause)

  at_edit : (n o : State) (es : List EditMade) (e : EditMade) (w : Went old es n) (h : IsEdited e n o)
      → IsThere n ⊎ HasCause old i t es n w → IsThere o ⊎ HasCause old i t (e ∷ es) o (edited n o es e w h)
  at_edit n o es e w h (inl there) = elim (h.spares i t there) [
    | inl still ↦ inl still
    | inr gone ↦ elim gone [
      | inl at ↦ (let (l, looked, said) = at in inr (touched n o es e w h l looked said))
      | inr off ↦ inr (let_go n o es e w h there off.0 off.1)
    ]
  ]
  at_edit n o es e w h (inr cause) = inr (before_edit n o es e w h cause)

  -- it still can be, or there was a cause
  pub spared_over : (es : List EditMade) (new : State) (w : Went old es new) → IsThere new ⊎ HasCause old i t es new w
  spared_over _ _ begun = inl before
  spared_over _ _ (asked n o es w x) = at_question n o es w x (spared_over es n w)
  spared_over _ _ (turned n o es w x) = at_turns n o es w x (spared_over es n w)
  spared_over _ _ (edited n o es e w h) = at_edit n o es e w h (spared_over es n w)

  -- a question that makes it has a cause itself, or there was one
  pub made_for_a_cause : (new later : State) (es : List EditMade) (w : Went old es new) (x : IsAsked new later) → Among i x.makes.made
      → HasCause old i t es later (asked new later es w x)
  made_for_a_cause new later es w x among = by (spared_over es new w)
    where
      by : IsThere new ⊎ HasCause old i t es new w → HasCause old i t es later (asked new later es w x)
      by (inl still) = outdated new later es w x (x.makes.reason i t among still)
      by (inr cause) = before_question new later es w x cause
