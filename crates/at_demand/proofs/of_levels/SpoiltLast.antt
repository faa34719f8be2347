-- The equation of the last one has a fault: where no search is under way that is the answer, else the search goes along behind it.
use Rattle.std.proofs.Common.{◌≡◌, ℕ, ◌<◌, ◌^◌, nat_eq, List, [], ◌∷◌, reverse, Option, Some, None, inl, inr, refl, sym, ap, ◌∙◌, subst}
use Rattle.std.specs.Prelude.{Result, Ok, Err}
use Rattle.std.specs.declared.alloc.AllocError.{AllocError}
use Rattle.std.specs.Map.{keys_of}
use Rattle.at_model.specs.Meaning.{Among, Faults, Outcome, Outcomes, Reaches}
use Rattle.at_model.specs.Meaning as plain
use Rattle.at_model.specs.Turning as turning
use Rattle.at_model.specs.Rules.{Rules}
use Rattle.at_model.specs.Run.{Instance, Contents, FaultKind, Known}
use Rattle.at_model.specs.of_fixpoints.Fixpoints.{End, EndsSo, HasValue, Holds, Spoilt}
use Rattle.at_model.specs.of_fixpoints.Formulas.{Formula, Forms}
use Rattle.at_model.specs.of_fixpoints.Searched.{AreStacked, IsMade}
use Rattle.at_model.specs.of_fixpoints.Searching.{Follows, Level, Looked, Search, Turned, behind, fallen_to, gone_to}
use Rattle.at_model.specs.of_fixpoints.Searching as follows
use Rattle.at_model.proofs.of_formulas.PlainForms.{holds_back_all}
use Rattle.at_model.proofs.of_formulas.PlainRules.{rules_plain}
use Rattle.at_model.proofs.of_searching.Turned.{demanded_fault}
use Rattle.at_rules.specs.Circular.{HasNoneCircular}
use Rattle.at_store.specs.Shown.{Shown, contents}
use Rattle.at_body.specs.Values.{fault_view}
use Rattle.at_cache.specs.Kept.{Entries}
use Rattle.at_cache.specs.Traced.{Memories}
use Rattle.at_search.specs.Recorded.{Recorded}
use Rattle.at_search.specs.declared.ended.Ending.TheVariants as ending
use Rattle.at_search.specs.declared.ended.Fault.{Fault}
use Rattle.at_search.specs.declared.ended.Formed.{Formed}
use Rattle.at_search.proofs.Seeing.{reverse_among}
use Rattle.at_demand.specs.declared.answer.Answer.{Answer}
use Rattle.at_demand.specs.declared.question.Question.{Question}
use Rattle.at_demand.specs.declared.trials.Trials.{Trials}
use Rattle.at_demand.specs.Answered.{HasWorthyFor}
use Rattle.at_demand.specs.ChainSteps.{HasEnded}
use Rattle.at_demand.specs.Known.{answer_view}
use Rattle.at_evaluate.specs.Valued.{equations, kept_values, meaning}
use Rattle.at_demand.specs.Levels.{IsLevel, LevelCode, StandsFor, asked_by, fault_in, known_to, level_of, levels_of, root_in, seen_in}
use Rattle.at_demand.specs.Searches.{CanGoAlong, CanSpoil, HasGoneAlong, HasSpoilt}
use Rattle.at_demand.specs.Sound.{AreSound}
use Rattle.at_evaluate.specs.Sparing.{AreSpare, HasWorthy}
use Rattle.at_demand.specs.Turns.{IsSettledBy, IsSparingTurns, IsStanding, under_way}
use Rattle.at_demand.proofs.Coming.{fault_by_end}
use Rattle.at_demand.proofs.Extending.{map_among}
use Rattle.at_demand.proofs.of_levels.Behind.{IsFormHere}
use Rattle.at_demand.proofs.of_levels.ChainWorthy.{asked_root, chain_worthy, fault_worthy}
use Rattle.at_demand.proofs.of_levels.EndedLast.{can_along_behind, gains_behind, leaves_behind, turns_behind}
use Rattle.at_demand.proofs.of_levels.GainedBetween.{gains_nothing}
use Rattle.at_demand.proofs.of_searches.Reaching.{level_at}

-- a level that has looked at nothing but its root, which is tried
abbrev pub IsBare : Level ℕ → Type 0
IsBare l = (l.root ≡ l.next) × (l.todo ≡ [])

-- over such levels a fault is that of what was asked
module _ (look : Contents ℕ) (forms : Forms ℕ) (kept : Known ℕ) (k : FaultKind) (at : Instance ℕ) where
  pub falls_through : (ls : List (Level ℕ)) (s : Looked ℕ) → s.below ≡ ls → ((l : Level ℕ) → Among l ls → IsBare l) → AreStacked look forms s.root ls →
      s.todo ≡ [] → Holds look forms s.root (Faults k at) → (u : Search ℕ) × Follows look forms kept s u (Some (Outcomes (Faults k at)))
  falls_through [] s e bare stacked none h = (
    gone_to s s.root [],
    follows.has_failed (gone_to s s.root []) k at (λ i a. absurd (subst (λ ts. Among i ts) none a)) e h,
  )
  falls_through (l ∷ ls) s e bare (demands, off, here, rest) none h =
      let (root, todo) = bare l (inl refl) in
      let ends : EndsSo look forms l.next (Spoilt k at) = demanded_fault look forms l.next s.root k at (forms.formula l.next) demands h in
      let (u, y) = falls_through ls (behind (fallen_to s l ls ((s.root, Faults k at) ∷ s.told)) (Spoilt k at)) refl (λ d a. bare d (inr a)) rest todo
      (subst (λ z. Holds look forms z (Faults k at)) (sym root) (fault_by_end look forms l.next k at ends)) in
      (u, follows.faults l ls k at (λ i a. absurd (subst (λ ts. Among i ts) none a)) e h y)

-- no equation has ended: so no level is a search
module _ (rules : Rules) (s : Shown) (entries : Entries) (q : Question) (u : Search ℕ) (st : StandsFor rules s entries q u) (empty : q.ended.entries ≡ []) where
  none_seen : (i : Instance ℕ) (d : LevelCode) → IsLevel rules (contents s) (known_to entries q) q.ended.entries i d → (j : Instance ℕ) → Among j (seen_in d) → ⊥
  none_seen i d x j a = let covered = x.covered in by (covered.ends j a)
    where
      by : ((e : End ℕ (Formula ℕ)) × Recorded q.ended.entries j e × (fault_in d ≡ None → IsMade e)) → ⊥
      by (e, r, g) = let (y, at, is) = subst (λ es. Recorded es j e) empty r in absurd cc

  no_search : (i : Instance ℕ) (d : LevelCode) → IsLevel rules (contents s) (known_to entries q) q.ended.entries i d → IsBare (level_of i d)
  no_search i None x = (refl, refl)
  no_search i (Some b) x = absurd (none_seen i (Some b) x b.value.root x.rooted)

  below_bare : (l : Level ℕ) → Among l (levels_of q.waiting.entries) → IsBare l
  below_bare l h = let (e, a, is) = map_among level_at l (reverse q.waiting.entries) h in by e (reverse_among q.waiting.entries e a) is
    where
      by : (e : Instance ℕ × LevelCode) → Among e q.waiting.entries → level_at e ≡ l → IsBare l
      by (i, d) a is = let levels = st.levels in subst (λ (z : Level ℕ). IsBare z) is (no_search i d (levels.below i d a))

  -- a fault of the last one is the answer
  pub fails_plainly : (kept : Known ℕ) (k : FaultKind) (at : Instance ℕ) → EndsSo (contents s) (meaning rules) q.inst (Spoilt k at) →
      (v : Search ℕ) × Turned (contents s) (meaning rules) kept u v (Some (Outcomes (Faults k at)))
  fails_plainly kept k at ends =
      let levels = st.levels in
      let on = st.on in
      let (root, todo) = subst (λ (l : Level ℕ). IsBare l) (sym st.is.last) (no_search q.inst q.level levels.last) in
      let ends_so : EndsSo (contents s) (meaning rules) u.last.next (Spoilt k at) =
      subst (λ (l : Level ℕ). EndsSo (contents s) (meaning rules) l.next (Spoilt k at)) (sym st.is.last) ends in
      let (v, y) = falls_through (contents s) (meaning rules) kept k at u.below (behind u (Spoilt k at)) refl
      (λ l a. below_bare l (subst (λ ls. Among l ls) st.is.below a)) on.stacked todo
      (subst (λ z. Holds (contents s) (meaning rules) z (Faults k at)) (sym root)
      (fault_by_end (contents s) (meaning rules) u.last.next k at ends_so)) in
      (v, follows.ends (Spoilt k at) ends_so y)

-- where no attribute is circular it holds by equations alone
plain_holds : (rules : Rules) → HasNoneCircular rules → (look : Contents ℕ) (i : Instance ℕ) (o : Outcome ℕ) → Holds look (meaning rules) i o →
    plain.Holds look (equations rules) i o
plain_holds rules none look i o = subst (λ (z : Forms ℕ). Holds look z i o → plain.Holds look (equations rules) i o) (sym (rules_plain rules nat_eq none))
    (holds_back_all look (equations rules) i o)

-- the last one isn't seen at its level
pub unseen_inst : (rules : Rules) (s : Shown) (entries : Entries) (q : Question) → AreSound rules s entries → IsStanding rules s entries q →
    Among q.inst (seen_in q.level) → ⊥
unseen_inst rules s entries q sound standing a =
    let (u, st) = standing.levels sound in
    let on = st.on in
    let (come, fresh, shut) = on.last in
    fresh (subst (λ (l : Level ℕ). Among l.next l.seen) (sym st.is.last) a)

module _ (rules : Rules) (s : Shown) (entries : Entries) (m : Memories) (w : ℕ) (q : Question) (t : Trials) (f : Fault)
    (can : CanSpoil rules s entries q t f) (small : w < 2 ^ 64) where
  standing_is : IsStanding rules s entries q
  standing_is = let turns = can.turns in let turn = turns.turns in turn.standing

  levels_are : (u : Search ℕ) × StandsFor rules s entries q u
  levels_are =
      let turns = can.turns in
      let turn = turns.turns in
      standing_is.levels (record { right = turn.answerable.right; whole = turn.wholes })

  -- no search is under way
  pub spoilt_plainly : q.ended.entries ≡ [] → (u : Trials) (a : Answer) → answer_view a ≡ Outcomes (Faults (fault_view f.kind) f.at) →
      HasSpoilt {E = AllocError} rules s entries entries m m w w q q u f (Ok (Some a))
  spoilt_plainly empty u a is = record {
    gains = gains_nothing rules s entries m w q q (let turns = can.turns in let turn = turns.turns in turn.answerable) small refl;
    turned = record { plainly = λ none. by_chain none; searched = λ first v stay st k. by_search first v st };
    fit = tt;
    leaves = record {
      stays = record { turns = refl; passed = refl; finds = record { whole = standing_is.whole; took = standing_is.kept } };
      last = λ i. inl refl;
      others = λ i h. inl h;
      all = λ spare x. subst (λ z. HasWorthyFor rules (contents s) (asked_by q) z entries) (sym is) (worthy spare x);
      sparing = λ spare x none. x;
    };
    plainly = λ none. (refl, refl);
  }
    where
      worthy : AreSpare rules (contents s) entries → IsSparingTurns rules (contents s) entries q → HasWorthy rules (contents s) (asked_by q) entries
      worthy spare x =
          let (v, st) = levels_are in
          let levels = st.levels in
          let turns = can.turns in
          let turn = turns.turns in
          let well = turn.answerable.basis.circular.lazy in
          let fault = fault_by_end (contents s) (meaning rules) q.inst (fault_view f.kind) f.at can.ends in
          let bare = no_search rules s entries q v st empty in
          let here = fault_worthy rules (contents s) entries q.found.entries well standing_is.whole x.settled spare (fault_view f.kind) f.at q.inst fault
          (λ m c. elim (can.followed m c) [ inl y ↦ inl y | inr key ↦ absurd (subst (λ es. Among m (keys_of es)) empty key) ]) in
          let all = chain_worthy rules (contents s) entries q.found.entries well standing_is.whole x.settled spare (fault_view f.kind) f.at
          q.waiting.entries (root_in q.level q.inst) (λ i d a. let b = bare i d (levels.below i d a) in b.0) x.met
          (subst (λ z. Holds (contents s) (meaning rules) z (Faults (fault_view f.kind) f.at) × HasWorthy rules (contents s) z entries)
          (sym (let b = bare q.inst q.level levels.last in b.0)) (fault, here)) in
          subst (λ z. HasWorthy rules (contents s) z entries) (sym (asked_root q.waiting.entries q.level q.inst)) all.1

      by_chain : HasNoneCircular rules →
          turning.Turned (contents s) (equations rules) (kept_values entries) (under_way q) (under_way q) (Some (answer_view a))
      by_chain none = subst (λ z. turning.Turned (contents s) (equations rules) (kept_values entries) (under_way q) (under_way q) (Some z))
          (sym (is ∙ ap (λ i. Outcomes (Faults (fault_view f.kind) i)) (can.own none)))
          (turning.faults (fault_view f.kind) (plain_holds rules none (contents s) q.inst (Faults (fault_view f.kind) q.inst)
          (subst (λ i. Holds (contents s) (meaning rules) q.inst (Faults (fault_view f.kind) i)) (can.own none)
          (fault_by_end (contents s) (meaning rules) q.inst (fault_view f.kind) f.at can.ends))))

      by_search : (first : Entries) (v : Search ℕ) → StandsFor rules s entries q v → (z : Search ℕ)
          × Turned (contents s) (meaning rules) (kept_values first) v z (Some (answer_view a)) × (Some a ≡ None → StandsFor rules s entries q z)
      by_search first v st =
          let (z, y) = fails_plainly rules s entries q v st empty (kept_values first) (fault_view f.kind) f.at can.ends in
          (z, subst (λ b. Turned (contents s) (meaning rules) (kept_values first) v z (Some b)) (sym is) y, λ e. absurd cc)

  -- the search goes along behind that
  module _ (some : q.ended.entries ≡ [] → ⊥) (mid : Question) where
    -- memory is wanting before it does
    pub spoilt_failed : mid.found.entries ≡ q.found.entries → (u : Trials) (r : Result (Option Answer) AllocError) (e : AllocError) → r ≡ Err e →
        HasSpoilt {E = AllocError} rules s entries entries m m w w q mid u f r
    spoilt_failed same u r e is = subst (λ z. HasSpoilt {E = AllocError} rules s entries entries m m w w q mid u f z) (sym is) (record {
      gains = gains_nothing rules s entries m w q mid (let turns = can.turns in let turn = turns.turns in turn.answerable) small same;
      turned = record { plainly = λ none. tt; searched = λ first v stay st k. tt };
      fit = tt;
      leaves = record {
        stays = tt;
        last = λ i. inl refl;
        others = λ i h. inl h;
        all = λ spare x. tt;
        sparing = λ spare x. tt;
      };
      plainly = λ none. absurd (some none);
    })

    module _ (h : HasEnded q (ending.Spoilt f) mid) where
      no_form : (g : Formed) → ending.Spoilt f ≡ ending.Formed g → IsFormHere rules (contents s) entries q g
      no_form g e = absurd cc

      off : HasNoneCircular rules → ⊥
      off none = some (let plainly = standing_is.plainly none in plainly.ended)

      demands : (j : Instance ℕ) → Reaches (contents s) (HasValue (contents s) (meaning rules))
          ((meaning rules).formula q.inst) j →
          IsSettledBy entries q j
      demands j reaches = can.followed j (inl reaches)

      pub can_along : CanGoAlong rules s entries mid t
      can_along = can_along_behind rules s entries m w q t can.turns can.none small off mid
          (ending.Spoilt f) h can.ends no_form demands

      pub spoilt_along : (after : Entries) (n : Memories) (x : ℕ) (new : Question) (u : Trials) (r : Result (Option Answer) AllocError) →
          HasGoneAlong {E = AllocError} rules s entries after m n w x mid new u r → HasSpoilt {E = AllocError} rules s entries after m n w x q new u f r
      spoilt_along after n x new u r g = record {
        gains = gains_behind rules s entries m w q t can.turns can.none small off mid
            (ending.Spoilt f) h can.ends no_form demands after n x new u r g;
        turned = turns_behind rules s entries m w q t can.turns can.none small off mid
            (ending.Spoilt f) h can.ends no_form demands after n x new u r g;
        fit = g.fit;
        leaves = leaves_behind rules s entries m w q t can.turns can.none small off mid
            (ending.Spoilt f) h can.ends no_form demands after n x new u r g;
        plainly = λ none. absurd (some none);
      }
