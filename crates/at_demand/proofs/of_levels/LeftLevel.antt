-- A level whose search is over goes: the one that waits is told its value, or ends by its fault; where none waits, that is the answer.
use Rattle.std.proofs.Common.{◌≡◌, ◌⊎◌, ℕ, ◌<◌, arith, length, List, [], ◌∷◌, ◌++◌, Option, Some, None, inl, inr, refl, sym, ap, ◌∙◌, subst}
use Rattle.std.specs.Prelude.{IsSome, IfOk, Result, Ok, Err}
use Rattle.std.specs.declared.alloc.AllocError.{AllocError}
use Rattle.std.specs.Map.{keys_of}
use Rattle.at_model.proofs.of_searching.PassedCircles.{ends_one}
use Rattle.at_model.specs.Meaning.{Among, Answer as ModelAnswer, Faults, Finds, Outcome, Outcomes, Reaches}
use Rattle.at_model.specs.Rules.{Rules, start_of}
use Rattle.at_model.specs.Run.{Value, Instance, Contents}
use Rattle.at_model.specs.of_fixpoints.Fixpoints.{End, EndsSo, HasValue, Holds, Made, Spoilt}
use Rattle.at_model.specs.of_fixpoints.Formulas.{Formula, Forms}
use Rattle.at_model.specs.of_fixpoints.Resting.{Comes, Leads}
use Rattle.at_model.specs.of_fixpoints.Searched.{AreStacked, IsAt, IsMade}
use Rattle.at_model.specs.of_fixpoints.Searching.{Adds, IsPassed, Level, Looked, Search, gone_to, under}
use Rattle.at_model.specs.of_fixpoints.Searching as follows
use Rattle.at_model.proofs.Reached.{back_among, either_among, front_among}
use Rattle.at_store.specs.Shown.{Shown, contents}
use Rattle.at_body.specs.Typed.{class_shown}
use Rattle.at_body.specs.Values.{fault_view}
use Rattle.at_cache.specs.Kept.{Entries}
use Rattle.at_cache.specs.Traced.{Memories}
use Rattle.at_search.specs.Recorded.{AreWhole, IsMarked, Recorded, end_of}
use Rattle.at_search.specs.declared.ended.Ending.TheVariants as ending
use Rattle.at_search.specs.declared.ended.Fault.{Fault}
use Rattle.at_search.specs.declared.ended.Formed.{Formed}
use Rattle.at_demand.proofs.of_levels.Stuck.{no_value}
use Rattle.at_demand.specs.declared.answer.Answer.{Answer}
use Rattle.at_demand.specs.declared.demand.searching.Left.{Left}
use Rattle.at_demand.specs.declared.demand.searching.Left.TheVariants as left
use Rattle.at_demand.specs.declared.question.Question.{Question}
use Rattle.at_demand.specs.declared.trials.Trials.{Trials}
use Rattle.at_demand.specs.ChainSteps.{HasEnded, HasLostFault, HasLostSeen, HasRisen, IsRisen, IsUnchanged, KeepsFinds}
use Rattle.at_demand.specs.Covering.{AreWhole as AreWholeFinds, Extends}
use Rattle.at_demand.specs.Groups.{Tells}
use Rattle.at_demand.specs.Known.{FoundKept, answer_view, known_in}
use Rattle.at_evaluate.specs.Valued.{KeepsEntries, kept_values, meaning}
use Rattle.at_demand.specs.KeptTrials.{AreTrials, Fit, FitAt, HasDropped}
use Rattle.at_demand.specs.Levels.{IsCovered, IsDoneIn, StandsFor, level_of, all_levels, asked_by, fault_in, known_to, levels_of, root_in, seen_in, todo_in}
use Rattle.at_demand.specs.Searches.{AreKeptOrTold, AreSoundFinds, CanGoAlong, CanLeave, CanResolve, CanSearch, CanSolveLevel, FollowsSo, FollowsTo, GainsBetween, GoesDown, GoesOnSo, HasFallen, LeavesAll, HasLeft, HasLeftSo, HasRisenTo, HasSolvedLevel, IsLastUnseen, IsLevelOver, StandsBetween, StaysOn}
use Rattle.at_demand.specs.Answered.{HasWorthyFor}
use Rattle.at_evaluate.specs.Sparing.{AreSpare, HasWorthy}
use Rattle.at_demand.specs.Turns.{HaveMet, IsFollowed, IsMet, IsSettledBy, IsSparingTurns}
use Rattle.at_demand.proofs.of_steps.Met.{met_last, met_more}
use Rattle.at_evaluate.proofs.Entered.{not_none, there}
use Rattle.at_demand.proofs.of_levels.Behind.{IsFormHere, behind_it, key_back, stands_behind}
use Rattle.at_demand.proofs.of_levels.ClosedLevels.{asked_risen, fewer_wait, risen_levels, under_risen}
use Rattle.at_demand.proofs.of_levels.GainedBetween.{gains_told, gains_where, held_told}
use Rattle.at_demand.proofs.of_levels.LevelOver.{below_is, fallen, is_ready, last_unseen, next_fails, root_fails, root_known, stands_fallen}
use Rattle.at_demand.proofs.of_levels.Followed.{comes_waiting, followed_ended, followed_off, met_known, root_key, settled_more}
use Rattle.at_demand.proofs.of_levels.LeftWorthy.{all_worthy}
use Rattle.at_demand.proofs.of_searches.Moving.{asked_same, can_moved}
use Rattle.at_demand.proofs.of_searches.NextTried.{start_ends}
use Rattle.at_demand.proofs.of_searches.OnceTold.{adds_told, found_as, kept_or_told, stands_told, told_in, told_of}
use Rattle.at_demand.proofs.of_searches.Reaching.{asked_at, led_met, led_under}
use Rattle.at_demand.proofs.of_levels.Resolving.{keeps_groups, key_entry, recorded_key, still_known}
use Rattle.at_demand.proofs.of_searches.Returning.{with_level}
use Rattle.at_demand.proofs.of_levels.StayingOn.{stays_ended, stays_lost, stays_risen, stays_taken, stays_then, stays_told, stays_unchanged}
use Rattle.at_demand.proofs.of_searches.Stepping.{tells_pending}
use Rattle.at_demand.proofs.Fitting.{dropped_trials, more_trials, noted_same}

-- what is told is of more than these
adds_wide : (look : Contents ℕ) (forms : Forms ℕ) (these those : List (Instance ℕ)) (told more : List (Instance ℕ × Outcome ℕ)) →
    ((i : Instance ℕ) → Among i these → Among i those) → Adds look forms these told more → Adds look forms those told more
adds_wide look forms these those told more wide a = record {
  stays = a.stays;
  holds = λ i o h. elim (a.holds i o h) [ inl t ↦ inl t | inr (b, x) ↦ inr (wide i b, x) ];
}

-- a search that stands can have its level solved
pub between_solvable : (rules : Rules) (s : Shown) (entries : Entries) (q : Question) → CanSearch rules s entries q → CanSolveLevel rules s entries q
between_solvable rules s entries q can = record {
  answerable = let st = can.stands in st.can.answerable;
  facts = let st = can.stands in st.can.facts;
  finds = let st = can.stands in st.can.finds;
  last = record {
    alike = λ i j a b. starts i a ∙ sym (starts j b);
    recorded = λ i a. let st = can.stands in let covered = st.covered in key_of i (covered.ends i (subst (λ is. Among i is) (sym st.is.seen) a));
  };
}
  where
    starts : (i : Instance ℕ) → Among i (seen_in q.level) → start_of rules i.attribute ≡ start_of rules can.looked.root.attribute
    starts i a = let st = can.stands in start_ends rules (contents s) can.looked.root i
        (let come = st.come in come.led i (front_among i can.looked.seen can.looked.todo (subst (λ is. Among i is) (sym st.is.seen) a)))

    key_of : (i : Instance ℕ) → ((e : End ℕ (Formula ℕ)) × Recorded q.ended.entries i e × (fault_in q.level ≡ None → IsMade e)) → Among i (keys_of q.ended.entries)
    key_of i (e, y, g) = recorded_key q.ended.entries i e y

pub level_over : (rules : Rules) (s : Shown) (entries : Entries) (q : Question) → CanSearch rules s entries q → IsDoneIn q.level →
    IsLevelOver rules (contents s) entries q
level_over rules s entries q can done = let st = can.stands in record {
  done = done;
  covered = subst (λ r. IsCovered (known_to entries q) q.ended.entries r (seen_in q.level) (todo_in q.level) (fault_in q.level)) st.is.root
      (subst (λ is. IsCovered (known_to entries q) q.ended.entries can.looked.root is (todo_in q.level) (fault_in q.level)) st.is.seen
      (subst (λ ts. IsCovered (known_to entries q) q.ended.entries can.looked.root can.looked.seen ts (fault_in q.level)) st.is.todo st.covered));
  whole = st.can.whole;
}

-- the one that waited is told the value of the root, or that is the answer
abbrev RisesSo : Entries → (old new : Question) → (t u : Trials) → Option Answer → Type 0
RisesSo entries old new t u o = elim o [
  | None ↦ HasRisen old new (Some (root_in old.level old.inst)) × (u ≡ record t { awaited = Some (root_in old.level old.inst) })
  | Some a ↦ (old.waiting.entries ≡ []) × IsUnchanged old new × (v : Value ℕ) × (known_to entries old (root_in old.level old.inst) ≡ Some v)
      × (answer_view a ≡ Outcomes (Finds v))
]

-- what came to be kept as the level was solved
pub gains_level : {Whole : Type 0} → (rules : Rules) (s : Shown) (before after : Entries) (former latter : Memories) (earlier later : ℕ) (old : Question) →
    CanSearch rules s before old → (mid new : Question) → HasLostSeen old mid →
    Tells rules s before after former latter earlier later mid new (seen_in old.level) Whole → (any : Question) → any.found.entries ≡ new.found.entries →
    GainsBetween rules s before after former latter earlier later old any Whole
gains_level rules s before after former latter earlier later old can mid new lost t =
    let st = can.stands in
    gains_told rules s before after former latter earlier later old (record new { level = old.level }) (seen_in old.level)
    (tells_pending rules s before after former latter earlier later old mid new lost.chain lost.finds (seen_in old.level) t) st.can.answerable.basis.idle
    st.can.facts.values (held_told rules s before old can.looked st)
    (λ i a. inr (front_among i (seen_in old.level) (under (levels_of old.waiting.entries)) a))
    (λ i a. led_under rules s before old can.looked st i (inr (front_among i (seen_in old.level) (under (levels_of old.waiting.entries)) a)))

-- What the level had seen was solved, and is marked whole.
module _ (rules : Rules) (s : Shown) (before after : Entries) (former latter : Memories) (earlier later : ℕ) (old : Question)
    (can : CanSearch rules s before old) (done : IsDoneIn old.level) (mid new : Question) (lost : HasLostSeen old mid)
    (t : Tells rules s before after former latter earlier later mid new (seen_in old.level) (Unit {0}))
    (marked : (i : Instance ℕ) → Among i (seen_in old.level) → IsMarked new.ended.entries i) (resolve : CanResolve rules s after new) where
  -- the question with its level as it was
  abbrev pub with_it : Question
  with_it = record new { level = old.level }

  told_with : Tells rules s before after former latter earlier later old with_it (seen_in old.level) (Unit {0})
  told_with = tells_pending rules s before after former latter earlier later old mid new lost.chain lost.finds (seen_in old.level) t

  gains_left : (any : Question) → any.found.entries ≡ new.found.entries → GainsBetween rules s before after former latter earlier later old any (Unit {0})
  gains_left = gains_level rules s before after former latter earlier later old can mid new lost t

  none_seen : (i : Instance ℕ) → Among i (seen_in new.level) → ⊥
  none_seen i a = subst (λ is. Among i is) (ap (λ d. seen_in d) t.level ∙ lost.seen) a

  resolve_with : CanResolve rules s after with_it
  resolve_with = can_moved rules s after new with_it (record { waiting = refl; inst = refl })
      (record { found = refl; passed = refl; ended = refl; turns = refl }) (λ i a. absurd (none_seen i a)) resolve

  waits_same : new.waiting.entries ≡ old.waiting.entries
  waits_same = told_with.chain.waiting

  fault_same : fault_in new.level ≡ fault_in old.level
  fault_same = ap (λ d. fault_in d) t.level ∙ lost.fault

  root_same : root_in new.level new.inst ≡ root_in old.level old.inst
  root_same = ap (λ d. root_in d new.inst) t.level ∙ ap (λ i. root_in mid.level i) t.chain.inst ∙ lost.root

  module _ (first : Entries) (l : Looked ℕ) (stay : KeepsEntries first before) (st : StandsBetween rules s before old l) (k : AreKeptOrTold first before old l) where
    only : (i : Instance ℕ) → IsSome (known_to after with_it i) → IsSome (known_to before old i) ⊎ Among i l.seen
    only i some = elim (told_with.told i some) [ inl b ↦ inl b | inr a ↦ inr (subst (λ is. Among i is) (sym st.is.seen) a) ]

    abbrev pub now : Looked ℕ
    now = record l { told = told_of (known_to after with_it) l.seen ++ l.told }

    -- what is known since had ended
    had_ended : (i : Instance ℕ) → IsSome (known_to after with_it i) → IsSome (known_to before old i) ⊎ Among i (keys_of old.ended.entries)
    had_ended i some = elim (told_with.told i some) [
      | inl b ↦ inl b
      | inr a ↦ (let last = solvable.last in inr (last.recorded i a))
    ]
      where
        solvable : CanSolveLevel rules s before old
        solvable = between_solvable rules s before old can

    pub stands_now : StandsBetween rules s after with_it now
    stands_now = stands_told rules s before after former latter earlier later old with_it (seen_in old.level) told_with l st l.seen only
        (λ i a. led_met rules s before old l st i (front_among i l.seen l.todo a)) had_ended resolve_with

    pub kept_now : AreKeptOrTold first after with_it now
    kept_now = kept_or_told rules s before after former latter earlier later old with_it (seen_in old.level) told_with l st l.seen only first k

    told_first : (u : Search ℕ) (o : Option (ModelAnswer ℕ)) → FollowsSo rules (contents s) first now u o → FollowsSo rules (contents s) first l u o
    told_first u o y = follows.tells now.told (adds_wide (contents s) (meaning rules) l.seen (l.seen ++ under l.below) l.told now.told
        (λ i a. front_among i l.seen (under l.below) a) (adds_told (known_to after with_it) (contents s) (meaning rules) told_with.values l.seen l.told)) y

    over_now : now.todo ≡ []
    over_now = st.is.todo ∙ done

    marked_now : (i : Instance ℕ) → Among i now.seen → IsMarked with_it.ended.entries i
    marked_now i a = marked i (subst (λ is. Among i is) st.is.seen a)

    passed_now : (i : Instance ℕ) → IsSome (known_to after with_it i) → IsPassed (kept_values first) now i
    passed_now i some = by (there (known_to after with_it i) some)
      where
        by : ((v : Value ℕ) × (known_to after with_it i ≡ Some v)) → IsPassed (kept_values first) now i
        by (v, e) = elim (kept_now i v e) [ inl f ↦ inr (v, inl f) | inr a ↦ inr (v, inr a) ]

    none_to_do : (i : Instance ℕ) → Among i now.todo → IsPassed (kept_values first) now i
    none_to_do i h = absurd (subst (λ ts. Among i ts) over_now h)

    -- no fault was met: the root has a value, which is told
    module _ (none : fault_in old.level ≡ None) where
      value_now : (v : Value ℕ) × (known_to after with_it now.root ≡ Some v)
      value_now = there (known_to after with_it now.root) (root_known rules s after with_it now stands_now over_now marked_now none)

      holds_now : (v : Value ℕ) → known_to after with_it now.root ≡ Some v → HasValue (contents s) (meaning rules) now.root v
      holds_now v e = told_with.values now.root v e

      -- it is the answer, where none waits
      pub found_top : now.below ≡ [] → (v : Value ℕ) → known_to after with_it now.root ≡ Some v →
          (u : Search ℕ) × FollowsSo rules (contents s) first l u (Some (Outcomes (Finds v)))
      found_top top v e = (
        gone_to now now.root [],
        told_first (gone_to now now.root []) (Some (Outcomes (Finds v)))
            (follows.has_found (gone_to now now.root []) v none_to_do top (holds_now v e)
            (is_ready rules s after with_it now stands_now over_now (kept_values first) passed_now none)),
      )

      -- the one that waits is told
      pub found_below : (q : Question) → with_it.waiting.entries ≡ q.waiting.entries ++ (q.inst, q.level) ∷ [] → KeepsFinds with_it q →
          (u : Search ℕ) × StandsFor rules s after q u × FollowsSo rules (contents s) first l u None
      found_below q waits finds = let (v, e) = value_now in (
        fallen rules s after with_it now stands_now over_now marked_now q waits finds now.told (λ i o h. h) held_told_now values_now led_now,
        stands_fallen rules s after with_it now stands_now over_now marked_now q waits finds now.told (λ i o h. h) held_told_now values_now led_now,
        told_first (fallen rules s after with_it now stands_now over_now marked_now q waits finds now.told (λ i o h. h) held_told_now values_now led_now) None
            (follows.finds (level_of q.inst q.level) (levels_of q.waiting.entries) v now.told none_to_do
            (below_is rules s after with_it now stands_now over_now marked_now q waits finds) (holds_now v e)
            (is_ready rules s after with_it now stands_now over_now (kept_values first) passed_now none)
            (record { stays = λ i o h. h; holds = λ i o h. inl h })
            (front_among (found_as v now.root) (told_of (known_to after with_it) l.seen) l.told
            (told_in (known_to after with_it) l.seen now.root v e st.rooted))),
      )
        where
          held_told_now : (i : Instance ℕ) (o : Outcome ℕ) → Among (i, o) now.told → Holds (contents s) (meaning rules) i o
          held_told_now = let x = stands_now in x.told

          values_now : (i : Instance ℕ) (v : Value ℕ) → Among (i, Finds v) now.told → known_to after with_it i ≡ Some v
          values_now = let x = stands_now in x.is.told

          led_now : (i : Instance ℕ) (o : Outcome ℕ) → Among (i, o) now.told → Leads (contents s) (meaning rules) (asked_by with_it) i
          led_now = let x = stands_now in x.reached

    -- a fault was met: it is that of the root
    module _ (f : Fault) (some : fault_in old.level ≡ Some f) where
      fails_now : Holds (contents s) (meaning rules) now.root (Faults (fault_view f.kind) f.at)
      fails_now = root_fails rules s after with_it now stands_now over_now marked_now f some

      -- and the answer, where none waits
      pub failed_top : now.below ≡ [] → (u : Search ℕ) × FollowsSo rules (contents s) first l u (Some (Outcomes (Faults (fault_view f.kind) f.at)))
      failed_top top = (
        gone_to now now.root [],
        told_first (gone_to now now.root []) (Some (Outcomes (Faults (fault_view f.kind) f.at)))
            (follows.has_failed (gone_to now now.root []) (fault_view f.kind) f.at none_to_do top fails_now),
      )

      -- and that of the equation that waits: the search goes on behind it
      module _ (q : Question) (waits : with_it.waiting.entries ≡ q.waiting.entries ++ (q.inst, q.level) ∷ []) (finds : KeepsFinds with_it q) where
        abbrev more : List (Instance ℕ × Outcome ℕ)
        more = (now.root, Faults (fault_view f.kind) f.at) ∷ now.told

        holds_more : (i : Instance ℕ) (o : Outcome ℕ) → Among (i, o) more → Holds (contents s) (meaning rules) i o
        holds_more i o (inl e) =
            let same : i ≡ now.root = ap (λ (x : Instance ℕ × Outcome ℕ). x.0) e in
            let is : o ≡ Faults (fault_view f.kind) f.at = ap (λ (x : Instance ℕ × Outcome ℕ). x.1) e in
            subst (λ z. Holds (contents s) (meaning rules) i z) (sym is)
            (subst (λ z. Holds (contents s) (meaning rules) z (Faults (fault_view f.kind) f.at)) (sym same) fails_now)
        holds_more i o (inr h) = let x = stands_now in x.told i o h

        values_more : (i : Instance ℕ) (v : Value ℕ) → Among (i, Finds v) more → known_to after with_it i ≡ Some v
        values_more i v (inl e) = let is : Finds v ≡ Faults (fault_view f.kind) f.at = ap (λ (x : Instance ℕ × Outcome ℕ). x.1) e in absurd cc
        values_more i v (inr h) = let x = stands_now in x.is.told i v h

        led_more : (i : Instance ℕ) (o : Outcome ℕ) → Among (i, o) more → Leads (contents s) (meaning rules) (asked_by with_it) i
        led_more i o (inl e) =
            let same : i ≡ now.root = ap (λ (x : Instance ℕ × Outcome ℕ). x.0) e in
            subst (λ z. Leads (contents s) (meaning rules) (asked_by with_it) z) (sym same)
            (led_met rules s after with_it now stands_now now.root (front_among now.root now.seen now.todo st.rooted))
        led_more i o (inr h) = let x = stands_now in x.reached i o h

        stands_below : StandsFor rules s after q (fallen rules s after with_it now stands_now over_now marked_now q waits finds more (λ i o h. inr h) holds_more
            values_more led_more)
        stands_below = stands_fallen rules s after with_it now stands_now over_now marked_now q waits finds more (λ i o h. inr h) holds_more values_more led_more

        finds_below : AreSoundFinds rules s after q
        finds_below = record {
          whole = subst (λ fs. AreWholeFinds rules (contents s) fs) (sym finds.found) resolve.finds.whole;
          took = subst (λ fs. FoundKept after fs) (sym finds.found) resolve.finds.took;
        }

        module _ (r : Question) (h : HasEnded q (ending.Spoilt f) r) where
          ends_below : EndsSo (contents s) (meaning rules) q.inst (Spoilt (fault_view f.kind) f.at)
          ends_below = next_fails rules s after with_it now stands_now over_now marked_now q waits finds (fault_view f.kind) f.at fails_now

          no_form : (g : Formed) → ending.Spoilt f ≡ ending.Formed g → IsFormHere rules (contents s) after q g
          no_form g e = absurd cc

          pub goes_below : GoesOnSo rules s first after l r
          goes_below = (
            behind_it rules s after q (levels_of q.waiting.entries) now.ended more stands_below resolve.answerable finds_below (ending.Spoilt f) r h ends_below no_form,
            stands_behind rules s after q (levels_of q.waiting.entries) now.ended more stands_below resolve.answerable finds_below (ending.Spoilt f) r h ends_below no_form,
            (λ i v e. elim (kept_now i v (subst (λ fs. known_in after fs i ≡ Some v) (h.found ∙ finds.found) e)) [ inl a ↦ inl a | inr a ↦ inr (inr a) ]),
            λ u o y. told_first u o (follows.faults (level_of q.inst q.level) (levels_of q.waiting.entries) (fault_view f.kind) f.at none_to_do
                (below_is rules s after with_it now stands_now over_now marked_now q waits finds) fails_now y),
          )

          pub key_below : (i : Instance ℕ) → Among i (keys_of r.ended.entries) → Among i (keys_of q.ended.entries) ⊎ (i ≡ q.inst)
          key_below = key_back rules s after q (levels_of q.waiting.entries) now.ended more stands_below resolve.answerable finds_below (ending.Spoilt f) r h
              ends_below no_form

  -- by what is kept now
  held_first : AreKeptOrTold before before old can.looked
  held_first = let st = can.stands in st.is.known

  stay_first : KeepsEntries before before
  stay_first i some = refl

  pub unseen_last : IsLastUnseen new.waiting.entries
  unseen_last front i d e a = last_unseen rules s before old can.looked can.stands front i d (sym waits_same ∙ e) a

  -- the trials of those that wait
  trials_now : (trials : Trials) → Fit rules s before old trials → trials.awaited ≡ None →
      AreTrials rules (class_shown s) (contents s) after new.found.entries old.waiting.entries (root_in old.level old.inst) trials.frames.items
  trials_now trials fit none = more_trials rules (class_shown s) (contents s) before after t.stays old.found.entries new.found.entries told_with.finds
      old.waiting.entries (root_in old.level old.inst) trials.frames.items
      (subst (λ a. FitAt rules s before old trials.frames.items a) none fit.chain)

  -- what was found is found still, and what was recorded recorded
  found_with : Extends old.found.entries new.found.entries
  found_with = told_with.finds

  key_with : (i : Instance ℕ) → Among i (keys_of old.ended.entries) → Among i (keys_of new.ended.entries)
  key_with i k = subst (λ ks. Among i ks) (sym told_with.ended) k

  key_was : (i : Instance ℕ) → Among i (keys_of new.ended.entries) → Among i (keys_of old.ended.entries)
  key_was i k = subst (λ ks. Among i ks) told_with.ended k

  -- where none waits, all that is worthy is kept
  module _ (alone : old.waiting.entries ≡ []) (spare : AreSpare rules (contents s) before) (x : IsSparingTurns rules (contents s) before old) where
    -- what isn't known is marked
    marked_top : (i : Instance ℕ) → Among i (keys_of new.ended.entries) → known_to after new i ≡ None →
        IsMarked new.ended.entries i
    marked_top i key unknown = let whole = resolve.whole in elim (whole.placed i key) [
      | inl a ↦ absurd (not_none (known_to after new i) a unknown)
      | inr d ↦ elim d [ inl m ↦ m | inr u ↦ under_marked u ]
    ]
      where
        last_marked : i ≡ old.inst → IsMarked new.ended.entries i
        last_marked e = let st = can.stands in elim st.tried [
          | inl a ↦ subst (λ z. IsMarked new.ended.entries z) (sym e) (marked old.inst (subst
              (λ is. Among old.inst is) st.is.seen a))
          | inr b ↦ absurd (not_none (known_to after new i)
              (subst (λ z. IsSome (known_to after new z)) (sym e) (let
              (more, g) = told_with.finds in still_known before after old new t.stays more g old.inst b)) unknown)
        ]

        under_marked : Among i (under (all_levels new)) → IsMarked new.ended.entries i
        under_marked (inl e) = last_marked (e ∙ told_with.chain.inst)
        under_marked (inr h) = elim (either_among i (seen_in new.level) (under (levels_of new.waiting.entries)) h) [
          | inl a ↦ absurd (none_seen i a)
          | inr b ↦ absurd (subst (λ ws. Among i (under (levels_of ws))) (told_with.chain.waiting ∙ alone) b)
        ]

    followed_top : (i j : Instance ℕ) → Among i (keys_of new.ended.entries) → known_to after new i ≡ None → Comes
        (contents s) (meaning rules) i j →
        IsSettledBy after new j
    followed_top i j key unknown (inl r) =
        settled_more before after old new t.stays found_with key_with j (let f = x.followed in f.demanded i j
        (key_was i key) r)
    followed_top i j key unknown (inr (f, form, a)) =
        let whole = resolve.whole in
        let facts = resolve.facts in
        let (y, at) = key_entry new.ended.entries i key in
        let same : end_of y.ending ≡ Made f = ends_one (contents s) (meaning rules) i (end_of y.ending) (Made f)
        (facts.ends i (end_of y.ending) (y, at, refl)) form in
        elim (whole.asked i j f (marked_top i key unknown) (y, at, same) a) [
          | inl k ↦ inl
              (met_known after new.found.entries j k)
          | inr b ↦ inr b
        ]

    valueless_top : (i : Instance ℕ) (v : Value ℕ) → Among i (keys_of new.ended.entries) → known_to after new i ≡ None →
        HasValue (contents s) (meaning rules) i v → ⊥
    valueless_top i v key unknown has =
        let whole = resolve.whole in
        let facts = resolve.facts in
        let (j, at, k, l, r) = whole.spoilt i (marked_top i key unknown) unknown in
        no_value (contents s) (meaning rules) (Recorded new.ended.entries) facts.ends i j v k at has l r

    worthy_top : HasWorthy rules (contents s) (asked_by old) after
    worthy_top = subst (λ i. HasWorthy rules (contents s) i after) (sym asked_top)
        (all_worthy rules (contents s) after new (let st = can.stands in st.can.answerable.basis.circular.lazy) resolve.finds.whole
        (told_with.settled x.settled) (told_with.spare tt spare x.lean x.settled) followed_top valueless_top (root_in old.level old.inst)
        (key_with (root_in old.level old.inst) (root_key rules s before old can.looked can.stands)))
      where
        asked_top : asked_by old ≡ root_in old.level old.inst
        asked_top = ap (λ ws. asked_at ws old.level old.inst) alone

  -- the fault is taken out, if there is one
  module _ (q2 : Question) (taken : HasLostFault new q2) where
    root_taken : root_in q2.level q2.inst ≡ root_in old.level old.inst
    root_taken = taken.root ∙ root_same

    stays_off : StaysOn old q2
    stays_off = stays_then old new q2 (stays_then old mid new (stays_lost old mid lost) (stays_told mid new t.chain t.level t.turns t.passed))
        (stays_taken new q2 taken)

    waits_taken : q2.waiting.entries ≡ old.waiting.entries
    waits_taken = taken.chain.waiting ∙ waits_same

    top_of : q2.waiting.entries ≡ [] → (l : Looked ℕ) → StandsBetween rules s before old l → l.below ≡ []
    top_of none l st = st.is.below ∙ ap (λ ws. levels_of ws) (sym waits_taken ∙ none)

    -- where another question has one level less than that
    module _ (q3 : Question) (i : Instance ℕ) (risen : IsRisen q2 q3 i) where
      waits_risen_so : with_it.waiting.entries ≡ q3.waiting.entries ++ (q3.inst, q3.level) ∷ []
      waits_risen_so = sym taken.chain.waiting ∙ risen.waits

      finds_risen : KeepsFinds with_it q3
      finds_risen = record {
        found = risen.finds.found ∙ taken.finds.found;
        passed = risen.finds.passed ∙ taken.finds.passed;
        ended = risen.finds.ended ∙ taken.finds.ended;
        turns = risen.finds.turns ∙ taken.finds.turns;
      }

      levels_risen : levels_of old.waiting.entries ≡ all_levels q3
      levels_risen = ap (λ ws. levels_of ws) (sym told_with.chain.waiting ∙ waits_risen_so) ∙ sym
          (risen_levels q3.waiting.entries q3.inst q3.level)

      followed_risen : IsSparingTurns rules (contents s) before old → IsFollowed rules (contents s) after q3
      followed_risen x = followed_off rules (contents s) before after old q3 t.stays
          (let (more, e) = told_with.finds in (more, finds_risen.found ∙ e))
          (λ j k. subst (λ es. Among j (keys_of es)) (sym finds_risen.ended) (key_with j k))
          (λ j k. key_was j (subst (λ es. Among j (keys_of es)) finds_risen.ended k)) levels_risen x.followed

      trials_risen : (trials : Trials) → Fit rules s before old trials → trials.awaited ≡ None →
          AreTrials rules (class_shown s) (contents s) after q3.found.entries (q3.waiting.entries ++ (q3.inst, q3.level) ∷ []) (root_in q2.level q2.inst)
          trials.frames.items
      trials_risen trials fit none =
          subst (λ fs. AreTrials rules (class_shown s) (contents s) after fs (q3.waiting.entries ++ (q3.inst, q3.level) ∷ []) (root_in q2.level q2.inst)
          trials.frames.items) (sym finds_risen.found)
          (subst (λ ws. AreTrials rules (class_shown s) (contents s) after new.found.entries ws (root_in q2.level q2.inst) trials.frames.items)
          (sym waits_taken ∙ risen.waits)
          (subst (λ r. AreTrials rules (class_shown s) (contents s) after new.found.entries old.waiting.entries r trials.frames.items) (sym root_taken)
          (trials_now trials fit none)))

    -- no fault was met
    module _ (none : fault_in old.level ≡ None) (trials : Trials) (along : CanGoAlong rules s before old trials) (q3 : Question) (u : Trials)
        (same : q3.found.entries ≡ q2.found.entries) where
      told_so : (o : Option Answer) → RisesSo after q2 q3 trials u o → HasLeftSo rules s before after old q3 u (left.Told o)
      told_so None (risen, awaits) = (
        subst (λ z. Fit rules s after q3 z) (sym awaits) (let fit = along.fit in record {
          chain = trials_risen q3 (root_in q2.level q2.inst) risen trials along.fit along.none;
          noted = fit.noted;
        }),
        λ first l stay st k. found_below first l stay st k none q3 (waits_risen_so q3 (root_in q2.level q2.inst) risen)
            (finds_risen q3 (root_in q2.level q2.inst) risen),
      )
      told_so (Some a) (alone, unchanged, v, known, is) = (tt, λ first l stay st k. by first l stay st k)
        where
          by : (first : Entries) (l : Looked ℕ) → KeepsEntries first before → StandsBetween rules s before old l → AreKeptOrTold first before old l →
              FollowsTo rules s first after l q3 (Some (answer_view a))
          by first l stay st k = subst (λ z. (w : Search ℕ) × FollowsSo rules (contents s) first l w (Some z)) (sym is)
              (found_top first l stay st k none (top_of alone l st) v
              (subst (λ r. known_in after new.found.entries r ≡ Some v) (root_taken ∙ sym st.is.root)
              (subst (λ fs. known_in after fs (root_in q2.level q2.inst) ≡ Some v) taken.finds.found known)))

      pub left_told : (o : Option Answer) → RisesSo after q2 q3 trials u o → HasLeft {E = AllocError} rules s before after former latter earlier later old q3 u (Ok (left.Told o))
      left_told o h = record {
        gains = gains_left q3 (same ∙ taken.finds.found);
        stays = stays_then old q2 q3 stays_off (rises o h);
        all = all_told o h;
        so = told_so o h;
      }
        where
          all_told : (a : Option Answer) → RisesSo after q2 q3 trials u a → LeavesAll rules s before after old q3 (left.Told a)
          all_told None (risen, awaits) = λ x. followed_risen q3 (root_in q2.level q2.inst) risen x
          all_told (Some a) (alone, unchanged, v, known, is) = λ spare x. subst (λ z. HasWorthyFor rules (contents s) (asked_by old) z after) (sym is)
              (worthy_top (sym waits_taken ∙ alone) spare x)

          rises : (a : Option Answer) → RisesSo after q2 q3 trials u a → StaysOn q2 q3
          rises None (risen, awaits) = stays_risen q2 q3 (root_in q2.level q2.inst) risen
          rises (Some a) (alone, unchanged, v, known, is) = stays_unchanged q2 q3 unchanged

    pub left_failed : (q3 : Question) (u : Trials) → q3.found.entries ≡ q2.found.entries → (r : Result Left AllocError) (e : AllocError) → r ≡ Err e →
        HasLeft {E = AllocError} rules s before after former latter earlier later old q3 u r
    left_failed q3 u same r e is = subst (λ z. HasLeft {E = AllocError} rules s before after former latter earlier later old q3 u z) (sym is)
        (record { gains = gains_where rules s before after former latter earlier later old q3 (λ none. tt) (gains_left q3 (same ∙ taken.finds.found)); stays = tt; all = tt; so = tt })

    -- a fault was met
    module _ (f : Fault) (some : fault_in old.level ≡ Some f) (trials : Trials) (along : CanGoAlong rules s before old trials) (q4 : Question) (u : Trials)
        (same : q4.found.entries ≡ q2.found.entries) where
      goes_down : (q3 : Question) (i : Instance ℕ) → IsRisen q2 q3 i → HasEnded q3 (ending.Spoilt f) q4 → HasDropped trials u → GoesDown rules s before after old q4 u
      goes_down q3 i risen ended dropped = record {
        can = record {
          off = along.off;
          search =
              let (m, stands, kept, on) = below before can.looked stay_first can.stands held_first in record { looked = m; stands = stands };
          none = dropped.none;
          fit = record {
            chain = subst (λ a. FitAt rules s after q4 u.frames.items a) (sym dropped.none) trials_below;
            noted = noted_same rules (contents s) trials.noted.entries u.noted.entries dropped.noted (let fit =
                along.fit in fit.noted);
          };
        };
        asked = asked_same q3 q4 ended.chain.waiting ended.root ∙ asked_risen_so;
        fewer = fewer_so;
        levels = levels_so;
        ended = λ j k. elim (key_so j k) [
          | inl a ↦ inl (subst (λ ks. Among j ks) told_with.ended (subst (λ es. Among j (keys_of es)) finds_so.ended a))
          | inr p ↦ inr (under_so j (inl p))
        ];
        follows = λ first l stay st k. below first l stay st k;
      }
        where
          waits_so : with_it.waiting.entries ≡ q3.waiting.entries ++ (q3.inst, q3.level) ∷ []
          waits_so = waits_risen_so q3 i risen

          finds_so : KeepsFinds with_it q3
          finds_so = finds_risen q3 i risen

          below : (first : Entries) (l : Looked ℕ) → KeepsEntries first before → StandsBetween rules s before old l → AreKeptOrTold first before old l →
              GoesOnSo rules s first after l q4
          below first l stay st k = goes_below first l stay st k f some q3 waits_so finds_so q4 ended

          key_so : (j : Instance ℕ) → Among j (keys_of q4.ended.entries) → Among j (keys_of q3.ended.entries) ⊎ (j ≡ q3.inst)
          key_so = key_below before can.looked stay_first can.stands held_first f some q3 waits_so finds_so q4 ended

          trials_below : FitAt rules s after q4 u.frames.items None
          trials_below =
              subst (λ fs. AreTrials rules (class_shown s) (contents s) after fs q4.waiting.entries (root_in q4.level q4.inst) u.frames.items) (sym ended.found)
              (subst (λ ws. AreTrials rules (class_shown s) (contents s) after q3.found.entries ws (root_in q4.level q4.inst) u.frames.items) (sym ended.chain.waiting)
              (subst (λ r. AreTrials rules (class_shown s) (contents s) after q3.found.entries q3.waiting.entries r u.frames.items) (sym ended.root)
              (dropped_trials rules (class_shown s) (contents s) after q3.found.entries q3.waiting.entries (with_level q3.level q3.inst) (root_in q2.level q2.inst)
              trials u dropped (trials_risen q3 i risen trials along.fit along.none))))

          asked_risen_so : asked_by q3 ≡ asked_by old
          asked_risen_so = asked_risen q2 q3 i risen ∙ asked_same old q2 waits_taken root_taken

          waits_all : old.waiting.entries ≡ q3.waiting.entries ++ (q3.inst, q3.level) ∷ []
          waits_all = sym waits_taken ∙ risen.waits

          fewer_so : length q4.waiting.entries < length old.waiting.entries
          fewer_so =
              let one = fewer_wait q2 q3 i risen in
              let here : length q2.waiting.entries ≡ length old.waiting.entries = ap length waits_taken in
              let there : length q4.waiting.entries ≡ length q3.waiting.entries = ap length ended.chain.waiting in
              omega (arith, one, here, there)

          under_so : (j : Instance ℕ) → Among j (under (all_levels q3)) → Among j (under (all_levels old))
          under_so j h = inr (back_among j (seen_in old.level) (under (levels_of old.waiting.entries))
              (subst (λ ws. Among j (under (levels_of ws))) waits_taken (under_risen q2 q3 i risen j h)))

          levels_so : (j : Instance ℕ) → Among j (under (all_levels q4)) → Among j (under (all_levels old))
          levels_so j (inl e) = under_so j (inl (e ∙ ended.chain.inst))
          levels_so j (inr h) = elim (either_among j (seen_in q4.level) (under (levels_of q4.waiting.entries)) h) [
            | inl a ↦ seen_so (let x = ended.sees in subst (λ is. Among j is) x.seen a)
            | inr b ↦ under_so j (inr (back_among j (seen_in q3.level) (under (levels_of q3.waiting.entries))
                (subst (λ ws. Among j (under (levels_of ws))) ended.chain.waiting b)))
          ]
            where
              seen_so : Among j (q3.inst ∷ seen_in q3.level) → Among j (under (all_levels old))
              seen_so (inl e) = under_so j (inl e)
              seen_so (inr a) = under_so j (inr (front_among j (seen_in q3.level) (under (levels_of q3.waiting.entries)) a))

      fallen_so : (x : Left) → HasFallen q2 q4 trials u f x → HasLeftSo rules s before after old q4 u x
      fallen_so (left.Told None) h = absurd h
      fallen_so (left.Told (Some a)) (alone, unchanged, is) = (tt, λ first l stay st k. by first l stay st k)
        where
          by : (first : Entries) (l : Looked ℕ) → KeepsEntries first before → StandsBetween rules s before old l → AreKeptOrTold first before old l →
              FollowsTo rules s first after l q4 (Some (answer_view a))
          by first l stay st k = subst (λ z. (w : Search ℕ) × FollowsSo rules (contents s) first l w (Some z)) (sym is)
              (failed_top first l stay st k f some (top_of alone l st))
      fallen_so left.Fallen (q3, i, risen, ended, dropped) = goes_down q3 i risen ended dropped

      pub left_fallen : (r : Result Left AllocError) → IfOk r (HasFallen q2 q4 trials u f) →
          HasLeft {E = AllocError} rules s before after former latter earlier later old q4 u r
      left_fallen (Err e) h = record { gains = gains_where rules s before after former latter earlier later old q4 (λ none. tt) (gains_left q4 (same ∙ taken.finds.found)); stays = tt; all = tt; so = tt }
      left_fallen (Ok x) h = record {
        gains = gains_left q4 (same ∙ taken.finds.found);
        stays = stays_then old q2 q4 stays_off (falls x h);
        all = all_fallen x h;
        so = fallen_so x h;
      }
        where
          ends_at : (q3 : Question) (i : Instance ℕ) → IsRisen q2 q3 i → HasEnded q3 (ending.Spoilt f) q4 →
              EndsSo (contents s) (meaning rules) q3.inst (Spoilt (fault_view f.kind) f.at)
          ends_at q3 i risen ended =
              ends_below before can.looked stay_first can.stands held_first f some q3 (waits_risen_so q3 i risen)
              (finds_risen q3 i risen) q4 ended

          -- the one that waits isn't seen, and isn't under way further below
          at_below : (q3 : Question) (i : Instance ℕ) → IsRisen q2 q3 i →
              IsAt (contents s) (meaning rules) (under (levels_of q3.waiting.entries)) (level_of q3.inst q3.level)
          at_below q3 i risen = let st = can.stands in first_at can.looked.root (levels_of q3.waiting.entries)
              (level_of q3.inst q3.level)
              (subst (λ ls. AreStacked (contents s) (meaning rules) can.looked.root ls)
              (st.is.below ∙ levels_risen q3 i risen) st.stacked)
            where
              first_at : (root : Instance ℕ) (ls : List (Level ℕ)) (l : Level ℕ) → AreStacked (contents s)
                  (meaning rules) root (l ∷ ls) →
                  IsAt (contents s) (meaning rules) (under ls) l
              first_at root ls l (demands, off, at, rest) = at

          ends_last : (q3 : Question) (i : Instance ℕ) (risen : IsRisen q2 q3 i) → HasEnded q3 (ending.Spoilt f) q4 →
              IsSparingTurns rules (contents s) before old → (j : Instance ℕ) →
              Reaches (contents s) (HasValue (contents s) (meaning rules)) ((meaning rules).formula q3.inst) j →
              IsSettledBy after q3 j
          ends_last q3 i risen ended y j c = settle (comes_waiting rules (contents s) before old.found.entries q3.inst (root_in old.level old.inst)
              (fault_view f.kind) f.at
              (ends_at q3 i risen ended)
              (let st = can.stands in subst (λ z. Holds (contents s) (meaning rules) z (Faults (fault_view f.kind) f.at)) st.is.root
              (fails_now before can.looked stay_first can.stands held_first f some))
              (met_last rules (contents s) before old.found.entries q3.waiting.entries (with_level q3.level q3.inst) (root_in old.level old.inst)
              (subst (λ ws. HaveMet rules (contents s) before old.found.entries ws (root_in old.level old.inst))
              (sym told_with.chain.waiting ∙ waits_risen_so q3 i risen) y.met)) j (inl c))
            where
              finds_so : KeepsFinds with_it q3
              finds_so = finds_risen q3 i risen

              settle : IsMet before old.found.entries j ⊎ (j ≡ root_in old.level old.inst) → IsSettledBy after q3 j
              settle (inl m) = inl (met_more before after t.stays old.found.entries q3.found.entries
                  (let (more, e) = told_with.finds in (more, finds_so.found ∙ e)) j m)
              settle (inr e) = inr (subst (λ z. Among z (keys_of q3.ended.entries)) (sym e) (subst (λ es. Among (root_in old.level old.inst) (keys_of es))
                  (sym finds_so.ended) (key_with (root_in old.level old.inst) (root_key rules s before old can.looked can.stands))))

          all_fallen : (x : Left) → HasFallen q2 q4 trials u f x → LeavesAll rules s before after old q4 x
          all_fallen (left.Told None) h = absurd h
          all_fallen (left.Told (Some a)) (alone, unchanged, is) = λ spare y.
              subst (λ z. HasWorthyFor rules (contents s) (asked_by old) z after) (sym is) (worthy_top (sym waits_taken ∙ alone) spare y)
          all_fallen left.Fallen (q3, i, risen, ended, dropped) = λ y.
              let (come, fresh, shut) = at_below q3 i risen in
              followed_ended q3 q4 (ending.Spoilt f) ended rules (contents s) after
              (key_below before can.looked stay_first can.stands held_first f some q3 (waits_risen_so q3 i risen) (finds_risen q3 i risen) q4 ended)
              (ends_last q3 i risen ended y) (wholes_below q3 i risen ended) (ends_at q3 i risen ended) fresh shut
              (followed_risen q3 i risen y)
            where
              wholes_below : (q3 : Question) (i : Instance ℕ) → IsRisen q2 q3 i → HasEnded q3 (ending.Spoilt f) q4 →
                  AreWhole (contents s) (meaning rules) (known_to after q4)
              wholes_below q3 i risen ended = let facts = resolve.facts in
                  subst (λ fs. AreWhole (contents s) (meaning rules) (known_in after fs))
                  (sym (ended.found ∙ let finds = finds_risen q3 i risen in finds.found)) facts.wholes

          falls : (x : Left) → HasFallen q2 q4 trials u f x → StaysOn q2 q4
          falls (left.Told None) h = absurd h
          falls (left.Told (Some a)) (alone, unchanged, is) = stays_unchanged q2 q4 unchanged
          falls left.Fallen (q3, i, risen, ended, dropped) =
              stays_then q2 q3 q4 (stays_risen q2 q3 i risen) (stays_ended q3 q4 (ending.Spoilt f) ended)

-- the level wasn't solved, for want of memory
pub leave_failed : (rules : Rules) (s : Shown) (before after : Entries) (former latter : Memories) (earlier later : ℕ) (old new : Question) →
    CanSearch rules s before old → (q : Result Unit AllocError) → HasSolvedLevel {E = AllocError} rules s before after former latter earlier later old new q →
    (u : Trials) (r : Result Left AllocError) (e : AllocError) → r ≡ Err e → HasLeft {E = AllocError} rules s before after former latter earlier later old new u r
leave_failed rules s before after former latter earlier later old new can q h u r e is =
    subst (λ z. HasLeft {E = AllocError} rules s before after former latter earlier later old new u z) (sym is)
    (record {
      gains = gains_where rules s before after former latter earlier later old new (keeps_groups rules q)
          (gains_level rules s before after former latter earlier later old can h.mid new h.lost h.tells new refl);
      stays = tt;
      all = tt;
      so = tt;
    })

-- what is kept is as it was
left_same : (rules : Rules) (s : Shown) (before after next : Entries) (former latter following : Memories) (earlier later last : ℕ)
    (old new : Question) (u : Trials) (r : Result Left AllocError) → next ≡ after → following ≡ latter → last ≡ later →
    HasLeft {E = AllocError} rules s before after former latter earlier later old new u r →
    HasLeft {E = AllocError} rules s before next former following earlier last old new u r
left_same rules s before after next former latter following earlier later last old new u r e f g h =
    subst (λ z. HasLeft {E = AllocError} rules s before z former following earlier last old new u r) (sym e)
    (subst (λ z. HasLeft {E = AllocError} rules s before after former z earlier last old new u r) (sym f)
    (subst (λ z. HasLeft {E = AllocError} rules s before after former latter earlier z old new u r) (sym g) h))

-- it was solved, and its fault is taken out
module _ (rules : Rules) (s : Shown) (before after : Entries) (former latter : Memories) (earlier later : ℕ) (old new : Question) (trials : Trials)
    (can : CanLeave rules s before old trials) (x : Unit) (h : HasSolvedLevel {E = AllocError} rules s before after former latter earlier later old new (Ok x))
    (q2 : Question) (taken : HasLostFault new q2) (o : Option Fault) (is : o ≡ fault_in new.level) where
  search_is : CanSearch rules s before old
  search_is = let along = can.along in along.search

  resolved : CanResolve rules s after new
  resolved = h.can (level_over rules s before old search_is can.done)

  fault_was : fault_in new.level ≡ fault_in old.level
  fault_was = let t = h.tells in let lost = h.lost in ap (λ d. fault_in d) t.level ∙ lost.fault

  module _ (next : Entries) (following : Memories) (last : ℕ) (q3 : Question) (u : Trials) (same : q3.found.entries ≡ q2.found.entries) where
    pub leaves_told : o ≡ None → (a : Option Answer) → HasRisenTo {E = AllocError} after next latter following later last q2 q3 trials u (Ok a) →
        HasLeft {E = AllocError} rules s before next former following earlier last old q3 u (Ok (left.Told a))
    leaves_told none a r = left_same rules s before after next former latter following earlier later last old q3 u (Ok (left.Told a)) r.entries r.traces
        r.work (left_told rules s before after former latter earlier later old search_is can.done h.mid new h.lost h.tells h.marked resolved q2 taken
        (sym fault_was ∙ sym is ∙ none) trials can.along q3 u same a r.risen)

    pub leaves_failed : (p : Result (Option Answer) AllocError) → HasRisenTo {E = AllocError} after next latter following later last q2 q3 trials u p →
        (r : Result Left AllocError) (e : AllocError) → r ≡ Err e → HasLeft {E = AllocError} rules s before next former following earlier last old q3 u r
    leaves_failed p t r e failed = left_same rules s before after next former latter following earlier later last old q3 u r t.entries t.traces
        t.work (left_failed rules s before after former latter earlier later old search_is can.done h.mid new h.lost h.tells h.marked resolved q2 taken
        q3 u same r e failed)

  pub leaves_unseen : IsLastUnseen q2.waiting.entries
  leaves_unseen front i d e a = unseen_last rules s before after former latter earlier later old search_is can.done h.mid new h.lost h.tells h.marked
      resolved front i d (sym taken.chain.waiting ∙ e) a

  pub leaves_fallen : (f : Fault) → o ≡ Some f → (q4 : Question) (u : Trials) → q4.found.entries ≡ q2.found.entries → (r : Result Left AllocError) →
      IfOk r (HasFallen q2 q4 trials u f) → HasLeft {E = AllocError} rules s before after former latter earlier later old q4 u r
  leaves_fallen f some q4 u same r fallen = left_fallen rules s before after former latter earlier later old search_is can.done h.mid new h.lost h.tells
      h.marked resolved q2 taken f (sym fault_was ∙ sym is ∙ some) trials can.along q4 u same r fallen
