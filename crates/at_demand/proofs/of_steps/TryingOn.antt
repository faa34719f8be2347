-- The loop of a try: what each of its calls asks for, and its ends for want of memory.
use Rattle.std.proofs.Common.{◌≡◌, ◌<◌, ℕ, [], ◌∷◌, ◌++◌, Option, None, Result, Ok, Err, inl, inr, refl, sym, ◌∙◌, subst}
use Rattle.std.specs.Prelude.{IfOk, IsSome}
use Rattle.std.specs.Map.{keys_of}
use Rattle.std.specs.declared.alloc.AllocError.{AllocError}
use Rattle.at_model.specs.Meaning.{Among, Reaches}
use Rattle.at_model.specs.Rules.{Rules, start_of}
use Rattle.at_model.specs.Run.{Instance}
use Rattle.at_model.specs.of_fixpoints.Fixpoints.{EndsSo, HasValue, Spoilt}
use Rattle.at_model.specs.of_fixpoints.Searching.{under}
use Rattle.at_rules.specs.Circular.{HasNoneCircular}
use Rattle.at_store.specs.Shown.{Shown, contents}
use Rattle.at_body.specs.Typed.{class_shown}
use Rattle.at_cache.specs.Kept.{Entries}
use Rattle.at_cache.specs.Traced.{Memories}
use Rattle.at_search.specs.declared.ended.Fault.{Fault}
use Rattle.at_search.specs.declared.ended.Formed.{Formed}
use Rattle.at_body.specs.Values.{FaultCode, fault_view}
use Rattle.at_demand.specs.declared.answer.Answer.{Answer as AnswerCode}
use Rattle.at_demand.specs.declared.demand.searching.Resolved.{Resolved}
use Rattle.at_demand.specs.declared.demand.searching.Resolved.TheVariants as resolved
use Rattle.at_demand.specs.declared.question.Question.{Question}
use Rattle.at_demand.specs.declared.trials.Trials.{Trials}
use Rattle.at_demand.specs.declared.trying.Going.{Going}
use Rattle.at_demand.specs.declared.trying.Tried.{Tried}
use Rattle.at_demand.specs.declared.trying.Tried.TheVariants as tried
use Rattle.at_demand.specs.declared.trying.Trying.{Trying}
use Rattle.at_demand.specs.InTurns.{PutsInTurns}
use Rattle.at_demand.specs.Answerable.{CanTurn}
use Rattle.at_demand.specs.Answered.{HasTurnedOn}
use Rattle.at_demand.specs.Forming.{waits_for}
use Rattle.at_demand.specs.Groups.{Tells}
use Rattle.at_evaluate.specs.Valued.{meaning}
use Rattle.at_demand.specs.LastTried.{CanForm, HasFormed, IsDeeperLast}
use Rattle.at_demand.specs.Levels.{IsFormOf, all_levels, known_to}
use Rattle.at_demand.specs.Searches.{CanClose, CanResolve, CanSpoil, HasClosed, HasResolved, HasSpoilt, IsResolved}
use Rattle.at_demand.specs.Tries.{CanCarryOn, HasCarriedOn, NeedsOther}
use Rattle.at_demand.specs.Turns.{GainsInChain, HasMetAll, under_way}
use Rattle.at_evaluate.proofs.Entered.{not_none}
use Rattle.at_demand.proofs.Keys.{absent, no_key}
use Rattle.at_demand.proofs.of_levels.Resolving.{keeps_groups, still_known}
use Rattle.at_demand.proofs.of_steps.CircleFrom.{can_close, circle_last}
use Rattle.at_demand.proofs.of_steps.Counted.{broken_on}
use Rattle.at_demand.proofs.of_steps.DeeperFrom.{deeper_last}
use Rattle.at_demand.proofs.of_steps.SpoiltFrom.{goes_from, spoilt_from}
use Rattle.at_demand.proofs.of_steps.SpoiltOn.{can_fail, can_spoil}
use Rattle.at_demand.proofs.of_steps.TriedGains.{at_most, carried_most, chain_idle}
use Rattle.at_demand.proofs.of_steps.TriedOn.{gains_since, resolves_at, search_at, sound_at, standing_at, tries_on, turn_at, waits_trying}
use Rattle.at_demand.proofs.of_steps.TryUnderWay.{IsTrying}
use Rattle.at_demand.proofs.of_steps.WaitsMet.{fewer_unknown, unknown_of}

module _ (rules : Rules) (s : Shown) (before mid : Entries) (f m : Memories) (w x : ℕ) (old q : Question) (t : Trials) (g : Going)
    (c : IsTrying rules s before mid f m w x old q t g) where
  pub can_carry : CanCarryOn rules s mid q.found.entries q.inst g
  can_carry =
      let turn = turn_at rules s before mid f m w x old q t g c in
      let (u, st) = search_at rules s mid q turn in
      let facts = st.facts in
      record {
        answerable = turn.answerable;
        going = c.going;
        finds = record { right = facts.values; kept = turn.standing.kept; whole = turn.standing.whole };
        unkept = c.unkept;
      }

  module _ (last : Entries) (l : Memories) (y : ℕ) (traced : PutsInTurns m l) (turn : CanTurn rules s before old) where
    -- memory is wanting as the try goes on
    pub carry_fails : (a : Result Tried AllocError) → HasCarriedOn {E = AllocError} rules s mid last x y q.found.entries q.inst a → (new : Question)
        (u : Trials) (r : Result (Option AnswerCode) AllocError) (e : AllocError) → r ≡ Err e →
        HasTurnedOn {E = AllocError} rules s before last w y old new u r
    carry_fails a h new u r e is = broken_on rules s turn.answerable.basis before last w y old new u r e is (λ none. tt)
        (carried_most rules s before mid last f m l w x y old q t g c a h traced {Whole = Unit {0}})

    -- it fails
    module _ (k : FaultCode) (h : HasCarriedOn {E = AllocError} rules s mid last x y q.found.entries q.inst (Ok (tried.Fails k))) where
      fails : IsTrying rules s before last f l w y old q t g
      fails = let (same, counted) = h.idle in waits_trying rules s before mid f m w x old q t g c last l y traced same counted g c.going

      pub can_fail_last : (fault : Fault) → fault.kind ≡ k → fault.at ≡ q.inst → CanSpoil rules s last q t fault
      can_fail_last fault kind at =
          let (same, counted) = h.idle in
          let (ends, met) = h.tried in
          can_fail rules s before last f l w y old q t g fails fault at
          (subst (λ z. EndsSo (contents s) (meaning rules) q.inst (Spoilt (fault_view z) q.inst)) (sym kind) ends)
          (subst (λ es. HasMetAll rules (contents s) es q.found.entries q.inst) (sym same) met)

      pub fails_last : (end : Entries) (o : Memories) (z : ℕ) (new : Question) (v : Trials) (fault : Fault) (r : Result (Option AnswerCode) AllocError) →
          HasSpoilt {E = AllocError} rules s last end l o y z q new v fault r → HasTurnedOn {E = AllocError} rules s before end w z old new v r
      fails_last end o z new v fault r spoilt = spoilt_from rules s before last end f l o w y z old q t g fails new r turn.answerable.basis
          (sound_at rules s before old turn) turn.standing v fault spoilt

    -- it gives a formula
    module _ (d : Formed) (h : HasCarriedOn {E = AllocError} rules s mid last x y q.found.entries q.inst (Ok (tried.Forms d))) where
      forms : IsTrying rules s before last f l w y old q t g
      forms = let (same, counted) = h.idle in waits_trying rules s before mid f m w x old q t g c last l y traced same counted g c.going

      pub can_form_last : CanForm rules s last q t d
      can_form_last =
          let (same, counted) = h.idle in
          let (ends, is, form, circular) = h.tried in
          record {
            turns = let z = forms in z.turns;
            circular = circular;
            ends = ends;
            is = subst (λ es. IsFormOf rules (contents s) es q.found.entries q.inst d) (sym same) is;
          }

      pub forms_last : (end : Entries) (o : Memories) (z : ℕ) (new : Question) (v : Trials) (r : Result (Option AnswerCode) AllocError) →
          HasFormed {E = AllocError} rules s last end l o y z q new v r → HasTurnedOn {E = AllocError} rules s before end w z old new v r
      forms_last end o z new v r formed = goes_from rules s before last end f l o w y z old q t g forms new r turn.answerable.basis
          (sound_at rules s before old turn) turn.standing v formed.gains formed.leaves formed.turned formed.fit
          (λ none. absurd (not_none (start_of rules q.inst.attribute) (let can = can_form_last in can.circular) (none q.inst.attribute)))

    -- or waits
    module _ (waits : Trying) (i : Instance ℕ) (h : HasCarriedOn {E = AllocError} rules s mid last x y q.found.entries q.inst (Ok (tried.Waits waits i))) where
      pub needs : NeedsOther rules (class_shown s) (contents s) mid q.found.entries q.inst i (waits_for waits i)
      needs = h.tried

      pub waiting : IsTrying rules s before last f l w y old q t (waits_for waits i)
      waiting = let (same, counted) = h.idle in let n = needs in
          waits_trying rules s before mid f m w x old q t g c last l y traced same counted (waits_for waits i) n.waits

      pub can_resolve : CanResolve rules s last q
      can_resolve = resolves_at rules s last q (turn_at rules s before last f l w y old q t (waits_for waits i) waiting)

      pub unknown_yet : known_to last q i ≡ None
      unknown_yet = let (same, counted) = h.idle in let n = needs in subst (λ es. known_to es q i ≡ None) (sym same) n.unknown

      -- memory is wanting as it is resolved
      pub resolve_fails : (end : Entries) (o : Memories) (z : ℕ) (new : Question) (a : Result Resolved AllocError) →
          HasResolved {E = AllocError} rules s last end l o y z q new i a → (u : Trials) (r : Result (Option AnswerCode) AllocError) (e : AllocError) →
          r ≡ Err e → HasTurnedOn {E = AllocError} rules s before end w z old new u r
      resolve_fails end o z new a b u r e is = broken_on rules s turn.answerable.basis before end w z old new u r e is (keeps_groups rules a)
          (at_most rules s before end f o w z old new
          (gains_since rules s before last f l w y old q t (waits_for waits i) waiting end o z new b.tells) idle)
        where
          idle : HasNoneCircular rules → GainsInChain rules before end (under_way old)
          idle none =
              let try = waiting in
              let (one, two) = try.plainly none in
              let st = standing_at rules s before last f l w y old q t (waits_for waits i) waiting in
              let p = st.plainly none in
              let (kept, traces, work, same) = b.idle p.ended in
              chain_idle rules before end old (kept ∙ two)

      -- it is known, and the try goes on
      module _ (end : Entries) (o : Memories) (z : ℕ) (new : Question) where
        pub known_goes : HasResolved {E = AllocError} rules s last end l o y z q new i (Ok resolved.Known) →
            IsTrying rules s before end f o w z old new t (waits_for waits i)
        known_goes b = tries_on rules s before last f l w y old q t (waits_for waits i) waiting end o z new i resolved.Known b waits i refl

        pub known_fewer : HasResolved {E = AllocError} rules s last end l o y z q new i (Ok resolved.Known) →
            unknown_of (known_to end new) (keys_of new.ended.entries) < unknown_of (known_to mid q) (keys_of q.ended.entries)
        known_fewer b =
            let (same, counted) = h.idle in
            let tells = b.tells in
            subst (λ es. unknown_of (known_to end new) (keys_of new.ended.entries) < unknown_of (known_to es q) (keys_of q.ended.entries)) same
            (subst (λ ks. unknown_of (known_to end new) ks < unknown_of (known_to last q) (keys_of q.ended.entries)) (sym tells.ended)
            (fewer_unknown (known_to last q) (known_to end new) (still tells) i unknown_yet b.is (keys_of q.ended.entries) key))
          where
            still : Tells rules s last end l o y z q new (under (all_levels q)) (Unit {0}) → (j : Instance ℕ) → IsSome (known_to last q j) → IsSome (known_to end new j)
            still tells = let (more, grown) = tells.finds in still_known last end q new tells.stays more grown

            key : Among i (keys_of q.ended.entries)
            key = elim (b.since i b.is) [ inl k ↦ absurd (not_none (known_to last q i) k unknown_yet) | inr k ↦ k ]

        -- it has a fault
        module _ (fault : Fault) (b : HasResolved {E = AllocError} rules s last end l o y z q new i (Ok (resolved.Spoilt fault))) where
          pub can_spoil_last : CanSpoil rules s end new t fault
          can_spoil_last = let n = needs in
              can_spoil rules s before last f l w y old q t (waits_for waits i) waiting end o z new i fault b waits refl n.demands

          pub spoilt_last : (stop : Entries) (p : Memories) (a : ℕ) (final : Question) (v : Trials) (r : Result (Option AnswerCode) AllocError) →
              HasSpoilt {E = AllocError} rules s end stop o p z a new final v fault r → HasTurnedOn {E = AllocError} rules s before stop w a old final v r
          spoilt_last stop p a final v r spoilt = spoilt_from rules s before end stop f o p w z a old new t (waits_for waits i)
              (tries_on rules s before last f l w y old q t (waits_for waits i) waiting end o z new i (resolved.Spoilt fault) b waits i refl) final r
              turn.answerable.basis (sound_at rules s before old turn) turn.standing v fault spoilt

        -- it is tried, or under way
        module _ (b : HasResolved {E = AllocError} rules s last end l o y z q new i (Ok resolved.Back)) where
          pub can_close_last : CanClose rules s end new
          can_close_last = let n = needs in
              can_close rules s before last f l w y old q t (waits_for waits i) waiting end o z new i b waits refl unknown_yet n.demands

          pub closed_last : (stop : Entries) (p : Memories) (a : ℕ) (final : Question) (v : Trials) (r : Result (Option AnswerCode) AllocError) →
              HasClosed {E = AllocError} rules s end stop o p z a new final i r → HasTurnedOn {E = AllocError} rules s before stop w a old final v r
          closed_last stop p a final v r closed = let n = needs in
              circle_last rules s before last f l w y old q t (waits_for waits i) waiting end o z new i b waits refl unknown_yet n.demands
              stop p a final r closed turn v

        -- or nothing is known of it
        module _ (b : HasResolved {E = AllocError} rules s last end l o y z q new i (Ok resolved.Open)) where
          opened : IsResolved rules (contents s) last end q new i resolved.Open
          opened = b.is

          pub deeper_from : (final : Question) (v : Trials) (r : Result (Option AnswerCode) AllocError) → IfOk r (λ p. p ≡ None) →
              IfOk r (λ p. IsDeeperLast new final t v waits i) → HasTurnedOn {E = AllocError} rules s before end w z old final v r
          deeper_from final v r none deeper = let n = needs in let tells = b.tells in let (untried, empty, same) = opened in
              deeper_last rules s before end f o w z old new t (waits_for waits i)
              (tries_on rules s before last f l w y old q t (waits_for waits i) waiting end o z new i resolved.Open b waits i refl)
              turn waits i refl (same ∙ unknown_yet)
              (λ a. untried (subst (λ j. Among i (keys_of q.waiting.entries ++ j ∷ [])) tells.chain.inst
              (subst (λ ws. Among i (keys_of ws ++ new.inst ∷ [])) tells.chain.waiting a)))
              (absent new.ended.entries i (λ key. no_key q.ended.entries i empty (subst (λ ks. Among i ks) tells.ended key)))
              (subst (λ j. Reaches (contents s) (HasValue (contents s) (meaning rules)) ((meaning rules).formula j) i) (sym tells.chain.inst) n.demands)
              n.typed final v r none deeper
