-- The equation of the last one has ended, in whatever way: the search goes along behind it.
use Rattle.std.proofs.Common.{◌≡◌, ◌⊎◌, ℕ, ◌<◌, ◌^◌, Option, Some, None, Result, Ok, Err, inl, inr, sym, ◌∙◌, subst}
use Rattle.std.specs.Prelude.{IfOk, IfSome, OnOk}
use Rattle.std.specs.declared.alloc.AllocError.{AllocError}
use Rattle.std.specs.Map.{keys_of}
use Rattle.std.specs.Option.{option_map}
use Rattle.at_model.specs.Meaning.{Among, Reaches}
use Rattle.at_model.specs.Rules.{Rules}
use Rattle.at_model.specs.Run.{Instance}
use Rattle.at_model.specs.of_fixpoints.Fixpoints.{EndsSo, HasValue}
use Rattle.at_model.specs.of_fixpoints.Searched.{IsAt}
use Rattle.at_model.specs.of_fixpoints.Searching.{Level, Search, Turned, behind, under}
use Rattle.at_model.specs.of_fixpoints.Searching as follows
use Rattle.at_model.proofs.Reached.{back_among, either_among, front_among}
use Rattle.at_rules.specs.Circular.{HasNoneCircular}
use Rattle.at_store.specs.Shown.{Shown, contents}
use Rattle.at_body.specs.Typed.{class_shown}
use Rattle.at_cache.specs.Kept.{Entries}
use Rattle.at_cache.specs.Traced.{Memories}
use Rattle.at_search.specs.Recorded.{end_of}
use Rattle.at_search.specs.declared.ended.Ending.{Ending}
use Rattle.at_search.specs.declared.ended.Ending.TheVariants as ending
use Rattle.at_search.specs.declared.ended.Formed.{Formed}
use Rattle.at_demand.proofs.of_levels.Followed.{followed_ended}
use Rattle.at_demand.specs.declared.answer.Answer.{Answer}
use Rattle.at_demand.specs.declared.question.Question.{Question}
use Rattle.at_demand.specs.declared.trials.Trials.{Trials}
use Rattle.at_demand.specs.Answerable.{CanTurnWith}
use Rattle.at_demand.specs.Answered.{HasWorthyFor}
use Rattle.at_demand.specs.ChainSteps.{HasEnded}
use Rattle.at_demand.specs.Groups.{KeepsGroups}
use Rattle.at_demand.specs.Known.{IsFound, answer_view, known_in}
use Rattle.at_evaluate.specs.Valued.{kept_values, meaning}
use Rattle.at_demand.specs.KeptTrials.{AreTrials, FitAt}
use Rattle.at_demand.specs.Levels.{StandsFor, all_levels, level_of, levels_of, root_in, seen_in}
use Rattle.at_demand.specs.Only.{AreLean}
use Rattle.at_demand.specs.Searches.{AreSoundFinds, CanGoAlong, FollowsTo, GainsBetween, HasGoneAlong, LeavesSo, StandsBetween, StaysSo, TurnsBy, WasSeenBy}
use Rattle.at_demand.specs.Worth.{AreSettled}
use Rattle.at_demand.specs.Turns.{HaveMet, IsFollowed, IsSettledBy, IsSparingTurns, IsStanding}
use Rattle.at_demand.proofs.of_levels.Behind.{IsFormHere, key_ended, stands_ended}
use Rattle.at_demand.proofs.of_levels.GainedBetween.{gains_nothing, gains_then}
use Rattle.at_demand.proofs.of_searches.Moving.{asked_same}

module _ (rules : Rules) (s : Shown) (entries : Entries) (m : Memories) (w : ℕ) (q : Question) (t : Trials)
    (turns : CanTurnWith rules s entries q t) (none : t.awaited ≡ None) (small : w < 2 ^ 64) (off : HasNoneCircular rules → ⊥)
    (mid : Question) (e : Ending) (h : HasEnded q e mid) (ends : EndsSo (contents s) (meaning rules) q.inst (end_of e))
    (form : (g : Formed) → e ≡ ending.Formed g → IsFormHere rules (contents s) entries q g)
    (demands : (j : Instance ℕ) → Reaches (contents s) (HasValue (contents s) (meaning rules))
    ((meaning rules).formula q.inst) j →
    IsSettledBy entries q j) where
  standing_is : IsStanding rules s entries q
  standing_is = let turn = turns.turns in turn.standing

  levels_are : (u : Search ℕ) × StandsFor rules s entries q u
  levels_are = let turn = turns.turns in standing_is.levels (record { right = turn.answerable.right; whole = turn.wholes })

  sound : AreSoundFinds rules s entries q
  sound = record { whole = standing_is.whole; took = standing_is.kept }

  stands_mid : (u : Search ℕ) → StandsFor rules s entries q u → StandsBetween rules s entries mid (behind u (end_of e))
  stands_mid u st = stands_ended rules s entries q u st (let turn = turns.turns in turn.answerable) sound e mid h ends form

  pub can_along_behind : CanGoAlong rules s entries mid t
  can_along_behind = let (u, st) = levels_are in record {
    off = off;
    search = record { looked = behind u (end_of e); stands = stands_mid u st };
    none = none;
    fit = record {
      chain = subst (λ a. FitAt rules s entries mid t.frames.items a) (sym none)
          (subst (λ fs. AreTrials rules (class_shown s) (contents s) entries fs mid.waiting.entries (root_in mid.level mid.inst)
          t.frames.items) (sym h.found)
          (subst (λ ws. AreTrials rules (class_shown s) (contents s) entries q.found.entries ws (root_in mid.level mid.inst)
          t.frames.items) (sym h.chain.waiting)
          (subst (λ r. AreTrials rules (class_shown s) (contents s) entries q.found.entries q.waiting.entries r
          t.frames.items) (sym h.root)
          (subst (λ a. FitAt rules s entries q t.frames.items a) none (let fitted = turns.fit in fitted.chain)))));
      noted = (let fitted = turns.fit in fitted.noted);
    };
  }

  under_mid : (i : Instance ℕ) → Among i (under (all_levels mid)) → Among i (under (all_levels q))
  under_mid i (inl a) = inl (a ∙ h.chain.inst)
  under_mid i (inr a) = elim (either_among i (seen_in mid.level) (under (levels_of mid.waiting.entries)) a) [
    | inl b ↦ elim (let x = h.sees in subst (λ is. Among i is) x.seen b) [
      | inl d ↦ inl d
      | inr d ↦ inr (front_among i (seen_in q.level) (under (levels_of q.waiting.entries)) d)
    ]
    | inr b ↦ inr (back_among i (seen_in q.level) (under (levels_of q.waiting.entries))
        (subst (λ ws. Among i (under (levels_of ws))) h.chain.waiting b))
  ]

  key_back : (i : Instance ℕ) → Among i (keys_of mid.ended.entries) → Among i (keys_of q.ended.entries) ⊎ (i ≡ q.inst)
  key_back i k = let (u, st) = levels_are in key_ended rules s entries q u st e mid h i k

  was_mid : (i : Instance ℕ) → WasSeenBy mid i → WasSeenBy q i
  was_mid i (inl a) = inl (under_mid i a)
  was_mid i (inr k) = elim (key_back i k) [ inl a ↦ inr a | inr d ↦ inl (inl d) ]

  followed_mid : IsFollowed rules (contents s) entries q → IsFollowed rules (contents s) entries mid
  followed_mid f =
      let (u, st) = levels_are in
      let between = stands_mid u st in
      let (come, fresh, shut) = at_last u st in
      followed_ended q mid e h rules (contents s) entries key_back demands between.can.facts.wholes ends fresh shut f
    where
      at_last : (u : Search ℕ) → StandsFor rules s entries q u →
          IsAt (contents s) (meaning rules) (under (levels_of q.waiting.entries)) (level_of q.inst q.level)
      at_last u st = subst (λ ls. IsAt (contents s) (meaning rules) (under ls) (level_of q.inst q.level)) st.is.below
          (subst (λ l. IsAt (contents s) (meaning rules) (under u.below) l) st.is.last st.on.last)

  spares_mid : IsSparingTurns rules (contents s) entries q → IsSparingTurns rules (contents s) entries mid
  spares_mid x = record {
    lean = subst (λ fs. AreLean rules (contents s) fs) (sym h.found) x.lean;
    settled = subst (λ fs. AreSettled rules entries fs) (sym h.found) x.settled;
    met = subst (λ fs. HaveMet rules (contents s) entries fs mid.waiting.entries (root_in mid.level mid.inst)) (sym h.found)
        (subst (λ ws. HaveMet rules (contents s) entries q.found.entries ws (root_in mid.level mid.inst)) (sym h.chain.waiting)
        (subst (λ r. HaveMet rules (contents s) entries q.found.entries q.waiting.entries r) (sym h.root) x.met));
    followed = followed_mid x.followed;
  }

  -- and goes along so
  module _ (after : Entries) (n : Memories) (x : ℕ) (new : Question) (u : Trials) (r : Result (Option Answer) AllocError)
      (g : HasGoneAlong {E = AllocError} rules s entries after m n w x mid new u r) where
    pub gains_behind : GainsBetween rules s entries after m n w x q new (KeepsGroups rules r)
    gains_behind = gains_then rules s entries entries after m m n w w x q mid new
        (gains_nothing rules s entries m w q mid (let turn = turns.turns in turn.answerable) small h.found)
        g.gains (asked_same q mid h.chain.waiting h.root) (λ i a. was_mid i (inl a)) (λ i k. was_mid i (inr k))

    pub leaves_behind : LeavesSo {E = AllocError} rules s entries after q new r
    leaves_behind = let l = g.leaves in record {
      stays = stays_on r l.stays;
      last = λ i. elim (l.last i) [ inl d ↦ inl d | inr d ↦ inr (was_mid i d.0, d.1, d.2) ];
      others = λ i some. elim (l.others i some) [
        | inl b ↦ inl b
        | inr d ↦ elim d [
          | inl k ↦ inr (inl k)
          | inr z ↦ elim z [ inl y ↦ inr (inr (inl (subst (λ fs. IsFound fs i) h.found y))) | inr b ↦ inr (inr (inr (was_mid i b))) ]
        ]
      ];
      all = λ spare x. subst (λ j. IfOk r (λ o. IfSome o (λ a. HasWorthyFor rules (contents s) j (answer_view a) after)))
          (asked_same q mid h.chain.waiting h.root) (l.all spare (spares_mid x));
      sparing = λ spare x. l.sparing spare (spares_mid x);
    }
      where
        stays_on : (p : Result (Option Answer) AllocError) → OnOk p (StaysSo rules s after mid new) → OnOk p (StaysSo rules s after q new)
        stays_on (Err d) k = tt
        stays_on (Ok o) k = record { turns = k.turns ∙ h.turns; passed = k.passed ∙ h.passed; finds = k.finds }

    pub turns_behind : TurnsBy {E = AllocError} rules s entries after q new r
    turns_behind = record {
      plainly = λ plain. absurd (off plain);
      searched = λ first v stay st k. searched first r v (g.follows first (behind v (end_of e)) stay (stands_mid v st)
          (λ i y at. k i y (subst (λ fs. known_in entries fs i ≡ Some y) h.found at))) (ends_of v st);
    }
      where
        ends_of : (v : Search ℕ) → StandsFor rules s entries q v → EndsSo (contents s) (meaning rules) v.last.next (end_of e)
        ends_of v st = subst (λ (l : Level ℕ). EndsSo (contents s) (meaning rules) l.next (end_of e)) (sym st.is.last) ends

        searched : (first : Entries) (p : Result (Option Answer) AllocError) (v : Search ℕ) →
            IfOk p (λ o. FollowsTo rules s first after (behind v (end_of e)) new (option_map answer_view o)) →
            EndsSo (contents s) (meaning rules) v.last.next (end_of e) →
            IfOk p (λ o. (z : Search ℕ) × Turned (contents s) (meaning rules) (kept_values first) v z (option_map answer_view o)
            × (o ≡ None → StandsFor rules s after new z))
        searched first (Err d) v y at = tt
        searched first (Ok None) v (z, there, y) at = (z, follows.ends (end_of e) at y, λ d. there)
        searched first (Ok (Some a)) v (z, y) at = (z, follows.ends (end_of e) at y, λ d. absurd cc)
