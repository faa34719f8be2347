-- The search goes along, level by level, behind a try.
use Rattle.std.proofs.Common.{◌≡◌, ℕ, ◌<◌, ◌^◌, length, Option, Some, None, inl, inr, refl, sym, ◌∙◌, subst}
use Rattle.std.specs.Prelude.{IfNone, IfOk, IfSome, OnOk, Result, Ok, Err, IsSome}
use Rattle.std.specs.declared.alloc.AllocError.{AllocError}
use Rattle.std.specs.Map.{keys_of}
use Rattle.std.specs.Option.{option_map}
use Rattle.at_model.specs.Meaning.{Among, Answer as ModelAnswer, Circle}
use Rattle.at_model.specs.Rules.{Rules}
use Rattle.at_model.specs.Run.{Instance, Value}
use Rattle.at_model.specs.of_fixpoints.Fixpoints.{End, HasValue}
use Rattle.at_model.specs.of_fixpoints.Formulas.{Formula}
use Rattle.at_model.specs.of_fixpoints.Searched.{IsMade}
use Rattle.at_model.specs.of_fixpoints.Searching.{Looked, under}
use Rattle.at_model.proofs.Reached.{back_among, either_among}
use Rattle.at_rules.specs.Circular.{HasNoneCircular}
use Rattle.at_store.specs.Shown.{Shown, contents}
use Rattle.at_body.specs.Typed.{class_shown}
use Rattle.at_cache.specs.Kept.{Entries}
use Rattle.at_cache.specs.Traced.{Memories}
use Rattle.at_search.specs.Recorded.{Recorded}
use Rattle.at_demand.proofs.of_levels.MetKept.{met_kept}
use Rattle.at_demand.proofs.of_steps.Met.{have_more, met_more}
use Rattle.at_evaluate.specs.Sparing.{AreSpare}
use Rattle.at_demand.specs.declared.answer.Answer.{Answer}
use Rattle.at_demand.specs.declared.answer.Answer.TheVariants as answer
use Rattle.at_demand.specs.declared.demand.searching.Left.{Left}
use Rattle.at_demand.specs.declared.demand.searching.Left.TheVariants as left
use Rattle.at_demand.specs.declared.demand.searching.Searched.{Searched}
use Rattle.at_demand.specs.declared.demand.searching.Searched.TheVariants as searched
use Rattle.at_demand.specs.declared.question.Question.{Question}
use Rattle.at_demand.specs.declared.trials.Trials.{Trials}
use Rattle.at_demand.specs.Answered.{HasWorthyFor, HasWorthyMet}
use Rattle.at_demand.specs.ChainSteps.{KeepsChain}
use Rattle.at_evaluate.specs.Valued.{KeepsEntries, meaning}
use Rattle.at_demand.specs.Known.{answer_view}
use Rattle.at_demand.specs.KeptTrials.{AreTrials, Fit, FitAfter, FitAt}
use Rattle.at_demand.specs.Levels.{IsDoneIn, all_levels, asked_by, fault_in, known_to, levels_of, root_in, seen_in}
use Rattle.at_demand.specs.Searches.{AreSoundFinds, CanClose, CanGoAlong, FollowsTo, FromFirst, GainsBetween, GoesDown, GoesOnSo, IsSeenBy, HasClosed, HasGoneAlong, HasLeft, HasLeftSo, HasSearched, HasSearchedTo, LeavesAll, StaysOn, WasSeenBy}
use Rattle.at_demand.specs.Turns.{HaveMet, IsFollowed, IsSparingTurns}
use Rattle.at_evaluate.proofs.Entered.{entered_on}
use Rattle.at_demand.proofs.of_levels.GainedBetween.{gains_nothing, gains_then, gains_where}
use Rattle.at_demand.proofs.of_levels.LeavingSo.{HasAll, IsFollowedSo, leaves_with, spares_on}
use Rattle.at_demand.proofs.of_searches.Moving.{asked_same}
use Rattle.at_demand.proofs.of_levels.Resolving.{keeps_groups, recorded_key}
use Rattle.at_demand.proofs.of_levels.StayingOn.{stays_same, stays_then}
use Rattle.at_demand.proofs.Fitting.{more_trials}

-- The search has gone along so far: what came to be kept meanwhile, and where it stands.
pub record IsAlong (rules : Rules) (s : Shown) (before after : Entries) (former latter : Memories) (earlier later : ℕ)
    (old new : Question) (u : Trials) : Type 0 where
  pub can : CanGoAlong rules s after new u
  pub gains : GainsBetween rules s before after former latter earlier later old new (Unit {0})
  pub stays : StaysOn old new
  pub sound : AreSoundFinds rules s before old
  pub off : HasNoneCircular rules → ⊥
  pub sparing : IsSparingTurns rules (contents s) before old → IsSparingTurns rules (contents s) after new
  pub asked : asked_by new ≡ asked_by old
  pub levels : (i : Instance ℕ) → Among i (under (all_levels new)) → WasSeenBy old i
  pub ended : (i : Instance ℕ) → Among i (keys_of new.ended.entries) → WasSeenBy old i
  pub follows : FromFirst rules s before old (λ first l. GoesOnSo rules s first after l new)

pub begins_along : (rules : Rules) (s : Shown) (entries : Entries) (m : Memories) (w : ℕ) (q : Question) (u : Trials) →
    CanGoAlong rules s entries q u → w < 2 ^ 64 → IsAlong rules s entries entries m m w w q q u
begins_along rules s entries m w q u can small = record {
  can = can;
  gains = gains_nothing rules s entries m w q q (let search = can.search in let st = search.stands in st.can.answerable) small refl;
  stays = stays_same q;
  sound = let search = can.search in let st = search.stands in st.can.finds;
  off = can.off;
  sparing = λ x. x;
  asked = refl;
  levels = λ i h. inl h;
  ended = λ i h. inr h;
  follows = λ first l stay st k. (l, st, k, λ v o y. y);
}

-- The search of the last level has come to this.
module _ (rules : Rules) (s : Shown) (before mid after : Entries) (f m n : Memories) (w x y : ℕ) (old q new : Question) (u : Trials)
    (c : IsAlong rules s before mid f m w x old q u) where
  -- what was told so far, and then so
  abbrev FromMid : (Entries → Looked ℕ → Type 0) → Type 0
  FromMid P = FromFirst rules s mid q P

  gained : {Whole : Type 0} → (any : Question) → GainsBetween rules s mid after m n x y q any Whole → GainsBetween rules s before after f n w y old any Whole
  gained any g = gains_then rules s before mid after f m n w x y old q any c.gains g c.asked c.levels c.ended

  spared : IsSparingTurns rules (contents s) before old → IsFollowed rules (contents s) mid q
  spared x = let y = c.sparing x in y.followed

  stay_mid : (first : Entries) → KeepsEntries first before → KeepsEntries first mid
  stay_mid first stay i some = let gains = c.gains in gains.stays i (entered_on first before stay i some) ∙ stay i some

  told_then : (o : Option (ModelAnswer ℕ)) → FromMid (λ first l. FollowsTo rules s first after l new o) →
      FromFirst rules s before old (λ first l. FollowsTo rules s first after l new o)
  told_then None h first l stay st k =
      let (a, stands, kept, on) = c.follows first l stay st k in
      let (v, there, z) = h first a (stay_mid first stay) stands kept in (v, there, on v None z)
  told_then (Some b) h first l stay st k =
      let (a, stands, kept, on) = c.follows first l stay st k in
      let (v, z) = h first a (stay_mid first stay) stands kept in (v, on v (Some b) z)

  goes_then : FromMid (λ first l. GoesOnSo rules s first after l new) → FromFirst rules s before old (λ first l. GoesOnSo rules s first after l new)
  goes_then h first l stay st k =
      let (a, stands, kept, on) = c.follows first l stay st k in
      let (b, there, told, further) = h first a (stay_mid first stay) stands kept in
      (b, there, told, λ v o z. on v o (further v o z))

  -- to an equation to be tried
  pub along_next : HasSearched {E = AllocError} rules s mid after m n x y q new (Ok searched.Next) →
      HasGoneAlong {E = AllocError} rules s before after f n w y old new u (Ok None)
  along_next h = record {
    gains = gained new h.gains;
    follows = λ first l stay st k. told_then None (λ d a keep there kept. h.follows d a keep there kept) first l stay st k;
    fit = record {
      chain = subst (λ a. FitAt rules s after new u.frames.items a) (sym none) trials;
      noted = (let can =
          c.can in let fit = can.fit in fit.noted);
    };
    leaves = leaves_with rules s before after f n w y old new (Ok None) (gained new h.gains) c.off (stays_then old q new c.stays h.stays)
        (λ x. h.followed (spared x)) c.sound (λ spare x. tt);
  }
    where
      none : u.awaited ≡ None
      none = let can = c.can in can.none

      trials : FitAt rules s after new u.frames.items None
      trials =
          let can = c.can in
          let gains = h.gains in
          subst (λ ws. AreTrials rules (class_shown s) (contents s) after new.found.entries ws (root_in new.level new.inst) u.frames.items) (sym h.waiting)
          (subst (λ r. AreTrials rules (class_shown s) (contents s) after new.found.entries q.waiting.entries r u.frames.items) (sym h.root)
          (more_trials rules (class_shown s) (contents s) mid after gains.stays q.found.entries new.found.entries gains.finds q.waiting.entries
          (root_in q.level q.inst) u.frames.items (subst (λ a. FitAt rules s mid q u.frames.items a) none (let fit =
          can.fit in fit.chain))))

  -- to its end
  pub along_over : HasSearched {E = AllocError} rules s mid after m n x y q new (Ok searched.Over) →
      IsAlong rules s before after f n w y old new u × IsDoneIn new.level
  along_over h = by h.to
    where
      by : HasSearchedTo rules s after q new searched.Over → IsAlong rules s before after f n w y old new u × IsDoneIn new.level
      by (done, can, chain, ended) = (
        record {
          can = record { off = c.off; search = can; none = (let was = c.can in was.none); fit = fit };
          gains = gained new h.gains;
          stays = stays_then old q new c.stays h.stays;
          sound = c.sound;
          off = c.off;
          sparing = λ x. spares_on rules s before after f n w y old new (Ok None) (gained new h.gains) (stays_then old q new c.stays h.stays)
              (h.followed (spared x)) x;
          asked = asked_same q new chain.waiting h.root ∙ c.asked;
          levels = levels;
          ended = λ i k. c.ended i (subst (λ ks. Among i ks) ended k);
          follows = goes_then h.follows;
        },
        done,
      )
        where
          fit : Fit rules s after new u
          fit =
              let was = c.can in
              let gains = h.gains in
              let fitted = was.fit in
              record {
                chain = subst (λ a. FitAt rules s after new u.frames.items a) (sym was.none)
                    (subst (λ ws. AreTrials rules (class_shown s) (contents s) after new.found.entries ws (root_in
                    new.level new.inst) u.frames.items)
                    (sym h.waiting)
                    (subst (λ r. AreTrials rules (class_shown s) (contents s) after new.found.entries
                    q.waiting.entries r u.frames.items) (sym h.root)
                    (more_trials rules (class_shown s) (contents s) mid after gains.stays q.found.entries
                    new.found.entries gains.finds
                    q.waiting.entries (root_in q.level q.inst) u.frames.items
                    (subst (λ a. FitAt rules s mid q u.frames.items a) was.none fitted.chain))));
                noted = fitted.noted;
              }

          of_end : (i : Instance ℕ) → ((e : End ℕ (Formula ℕ)) × Recorded new.ended.entries i e × (fault_in new.level ≡ None → IsMade e)) → WasSeenBy old i
          of_end i (e, r, g) = c.ended i (subst (λ ks. Among i ks) ended (recorded_key new.ended.entries i e r))

          levels : (i : Instance ℕ) → Among i (under (all_levels new)) → WasSeenBy old i
          levels i (inl e) = c.levels i (inl (e ∙ chain.inst))
          levels i (inr a) = elim (either_among i (seen_in new.level) (under (levels_of new.waiting.entries)) a) [
            | inl b ↦ of_end i (let st = can.stands in let covered = st.covered in covered.ends i (subst (λ is. Among i is) (sym st.is.seen) b))
            | inr b ↦ c.levels i (inr (back_among i (seen_in q.level) (under (levels_of q.waiting.entries)) (subst (λ ws. Among i (under (levels_of ws))) chain.waiting b)))
          ]

  -- memory is wanting
  pub along_failed : (r : Result Searched AllocError) → HasSearched {E = AllocError} rules s mid after m n x y q new r →
      (p : Result (Option Answer) AllocError) (e : AllocError) → p ≡ Err e → HasGoneAlong {E = AllocError} rules s before after f n w y old new u p
  along_failed r h p e is = subst (λ z. HasGoneAlong {E = AllocError} rules s before after f n w y old new u z) (sym is)
      (record {
        gains = gains_where rules s before after f n w y old new (keeps_groups rules r) (gained new h.gains);
        follows = λ first l stay st k. tt;
        fit = tt;
        leaves = leaves_with rules s before after f n w y old new (Err e)
            (gains_where rules s before after f n w y old new (keeps_groups rules r) (gained new h.gains)) c.off tt tt c.sound (λ spare x. tt);
      })

  -- the level that was over is left, and the search goes on below
  pub left_down : (v : Trials) → HasLeft {E = AllocError} rules s mid after m n x y q new v (Ok left.Fallen) →
      IsAlong rules s before after f n w y old new v
  left_down v h = down h.so
    where
      down : GoesDown rules s mid after q new v → IsAlong rules s before after f n w y old new v
      down d = record {
        can = d.can;
        gains = gained new h.gains;
        stays = stays_then old q new c.stays h.stays;
        sound = c.sound;
        off = c.off;
        sparing = λ x. spares_on rules s before after f n w y old new (Ok None) (gained new h.gains) (stays_then old q new c.stays h.stays)
            (h.all (c.sparing x)) x;
        asked = d.asked ∙ c.asked;
        levels = λ i a. c.levels i (d.levels i a);
        ended = λ i a. elim (d.ended i a) [ inl k ↦ c.ended i k | inr b ↦ c.levels i b ];
        follows = goes_then d.follows;
      }

  -- there are fewer levels then
  pub left_fewer : (v : Trials) → HasLeft {E = AllocError} rules s mid after m n x y q new v (Ok left.Fallen) →
      length new.waiting.entries < length q.waiting.entries
  left_fewer v h = fewer h.so
    where
      fewer : GoesDown rules s mid after q new v → length new.waiting.entries < length q.waiting.entries
      fewer d = d.fewer

  -- or that is told
  pub left_so : (v : Trials) (o : Option Answer) → HasLeft {E = AllocError} rules s mid after m n x y q new v (Ok (left.Told o)) →
      HasGoneAlong {E = AllocError} rules s before after f n w y old new v (Ok o)
  left_so v o h = so h.so
    where
      so : HasLeftSo rules s mid after q new v (left.Told o) → HasGoneAlong {E = AllocError} rules s before after f n w y old new v (Ok o)
      so (fit, follows) = record {
        gains = gained new h.gains;
        follows = λ first l stay st k. told_then (option_map answer_view o) follows first l stay st k;
        fit = fit;
        leaves = leaves_with rules s before after f n w y old new (Ok o) (gained new h.gains) c.off (stays_then old q new c.stays h.stays)
            (followed_told o h.all) c.sound (all_told o h.all);
      }
        where
          followed_told : (o : Option Answer) → LeavesAll rules s mid after q new (left.Told o) →
              IsFollowedSo rules s before after f n w y old new (Ok o) (gained new h.gains) (Ok o)
          followed_told None more = λ x. more (c.sparing x)
          followed_told (Some a) more = tt

          all_told : (o : Option Answer) → LeavesAll rules s mid after q new (left.Told o) → HasAll rules s before after old (Ok o)
          all_told None more spare x = tt
          all_told (Some a) more spare x = subst (λ j. HasWorthyFor rules (contents s) j (answer_view a) after) c.asked
              (more (let gains = c.gains in gains.spare tt spare x.lean x.settled) (c.sparing x))

  -- or memory is wanting
  pub left_wanting : (v : Trials) (r : Result Left AllocError) → HasLeft {E = AllocError} rules s mid after m n x y q new v r →
      (p : Result (Option Answer) AllocError) (e : AllocError) → p ≡ Err e → HasGoneAlong {E = AllocError} rules s before after f n w y old new v p
  left_wanting v r h p e is = subst (λ z. HasGoneAlong {E = AllocError} rules s before after f n w y old new v z) (sym is)
      (record {
        gains = gains_where rules s before after f n w y old new (keeps_groups rules r) (gained new h.gains);
        follows = λ first l stay st k. tt;
        fit = tt;
        leaves = leaves_with rules s before after f n w y old new (Err e)
            (gains_where rules s before after f n w y old new (keeps_groups rules r) (gained new h.gains)) c.off tt tt c.sound (λ spare x. tt);
      })

  -- the search has come back: that is a circle, which answers the question
  module _ (i : Instance ℕ) (h : HasSearched {E = AllocError} rules s mid after m n x y q new (Ok (searched.Back i))) where
    came_back : HasSearchedTo rules s after q new (searched.Back i)
    came_back = h.to

    chain_back : KeepsChain q new
    chain_back = let (o, close, chain, ended) = came_back in chain

    ended_back : (j : Instance ℕ) → Among j (keys_of new.ended.entries) → WasSeenBy old j
    ended_back j k = let (o, close, chain, ended) = came_back in c.ended j (subst (λ ks. Among j ks) ended k)

    pub close_back : CanClose rules s after new
    close_back = let (o, close, chain, ended) = came_back in close

    levels_back : (j : Instance ℕ) → Among j (under (all_levels new)) → WasSeenBy old j
    levels_back j (inl e) = c.levels j (inl (e ∙ chain_back.inst))
    levels_back j (inr a) = elim (either_among j (seen_in new.level) (under (levels_of new.waiting.entries)) a) [
      | inl b ↦ ended_back j (let level = close_back.levels new.inst new.level (inl refl) in level.recorded j b)
      | inr b ↦ c.levels j (inr (back_among j (seen_in q.level) (under (levels_of q.waiting.entries))
          (subst (λ ws. Among j (under (levels_of ws))) chain_back.waiting b)))
    ]

    -- what the levels had seen, and has a value, is known
    abbrev ToldSeen : Entries → Question → Type 0
    ToldSeen last end = (j : Instance ℕ) (v : Value ℕ) → IsSeenBy new j → HasValue (contents s) (meaning rules) j v →
        IsSome (known_to last end j)

    -- what those that wait have met
    met_back : IsSparingTurns rules (contents s) before old → HaveMet rules
        (contents s) after new.found.entries new.waiting.entries (root_in new.level new.inst)
    met_back x = let gains : GainsBetween rules s before after f n w y old new (Unit {0}) = gained new h.gains in
        let stays = stays_then old q new c.stays h.stays in
        have_more rules (contents s) before after old.found.entries new.found.entries
        (met_more before after gains.stays old.found.entries new.found.entries gains.finds) new.waiting.entries
        (root_in new.level new.inst)
        (stays.met rules (contents s) before old.found.entries x.met)

    pub along_back : (last : Entries) (o : Memories) (z : ℕ) (end : Question) (r : Result (Option Answer) AllocError) →
        HasClosed {E = AllocError} rules s after last n o y z new end i r → HasGoneAlong {E = AllocError} rules s before last f o w z old end u r
    along_back last o z end r d = record {
      gains = gains_then rules s before after last f n o w y z old new end (gained new h.gains) d.gains
          (asked_same q new chain_back.waiting h.root ∙ c.asked) levels_back ended_back;
      follows = λ first l stay st k. follows_so r d.is first l stay st k;
      fit = fit_so r d.is;
      leaves = leaves_with rules s before last f o w z old end r (gains_then rules s before after last f n o w y z old new end (gained new h.gains)
          d.gains (asked_same q new chain_back.waiting h.root ∙ c.asked) levels_back ended_back) c.off (stays_so r d.stays) (followed_so r d.is) c.sound
          (all_circle r d.is d.told);
    }
      where
        worthy_met : AreSpare rules (contents s) before → IsSparingTurns rules (contents s) before old →
            ToldSeen last end →
            HasWorthyMet rules (contents s) (asked_by old) last
        worthy_met spare x told =
            let gains : GainsBetween rules s before after f n w y old new (Unit {0}) = gained new h.gains in
            let closing = d.gains in
            let settled = gains.settled x.settled in
            subst (λ j. HasWorthyMet rules (contents s) j last) (asked_same q new chain_back.waiting h.root ∙ c.asked)
            (met_kept rules s after last new end close_back (h.followed (spared x)) (met_back x) settled
            (gains.spare tt spare x.lean x.settled)
            closing.stays told (closing.settled settled))

        stays_so : (r : Result (Option Answer) AllocError) → OnOk r (StaysOn new end) → OnOk r (StaysOn old end)
        stays_so (Err e) on = tt
        stays_so (Ok a) on = stays_then old new end (stays_then old q new c.stays h.stays) on

        followed_so : (r : Result (Option Answer) AllocError) → IfOk r (λ a. a ≡ Some (answer.Circular i)) →
            IfOk r (λ o. IfNone o (IsSparingTurns rules (contents s) before old → IsFollowed rules (contents s) last end))
        followed_so (Err e) is = tt
        followed_so (Ok a) is = subst (λ o. IfNone o (IsSparingTurns rules (contents s) before old → IsFollowed rules (contents s) last end))
            (sym is) tt

        all_circle : (r : Result (Option Answer) AllocError) → IfOk r (λ a. a ≡ Some (answer.Circular i)) → OnOk r
            (ToldSeen last end) →
            HasAll rules s before last old r
        all_circle (Err e) is told spare x = tt
        all_circle (Ok a) is told spare x =
            subst (λ o. IfSome o (λ b. HasWorthyFor rules (contents s) (asked_by old) (answer_view b) last)) (sym is)
            ((λ none. absurd (c.off none)), worthy_met spare x told)

        follows_so : (r : Result (Option Answer) AllocError) → IfOk r (λ a. a ≡ Some (answer.Circular i)) →
            FromFirst rules s before old (λ first l. IfOk r (λ a. FollowsTo rules s first last l end (option_map answer_view a)))
        follows_so (Err e) is = λ first l stay st k. tt
        follows_so (Ok a) is = λ first l stay st k.
            let (b, stands, kept, on) = c.follows first l stay st k in
            let (v, y) = h.follows first b (stay_mid first stay) stands kept in
            subst (λ z. FollowsTo rules s first last l end (option_map answer_view z)) (sym is) (v, on v (Some (Circle i)) y)

        fit_so : (r : Result (Option Answer) AllocError) → IfOk r (λ a. a ≡ Some (answer.Circular i)) → IfOk r (FitAfter rules s last end u)
        fit_so (Err e) is = tt
        fit_so (Ok a) is = subst (λ a. FitAfter rules s last end u a) (sym is) tt
