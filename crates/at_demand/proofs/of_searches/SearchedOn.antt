-- A level's search looks at the next one to do, and goes on behind it, or comes to a try, to a circle or to its end.
use Rattle.std.proofs.Common.{◌≡◌, ◌⊎◌, ℕ, ◌<◌, ◌^◌, arith, List, [], ◌∷◌, ◌++◌, Option, Some, None, inl, inr, refl, sym, ap, ◌∙◌, subst, append-nil}
use Rattle.std.specs.Prelude.{IsSome, Result, Ok, Err}
use Rattle.std.specs.declared.alloc.AllocError.{AllocError}
use Rattle.std.specs.Map.{keys_of, lookup}
use Rattle.at_model.proofs.of_searching.LookedSteps.{looked_on}
use Rattle.at_model.specs.Meaning.{Among, Answer, Faults}
use Rattle.at_model.specs.Rules.{Rules, start_of}
use Rattle.at_model.specs.Run.{Value, Instance}
use Rattle.at_model.specs.of_fixpoints.Circles.{HasNone, IsOpen}
use Rattle.at_model.specs.of_fixpoints.Fixpoints.{End, Holds}
use Rattle.at_model.specs.of_fixpoints.Formulas.{Formula}
use Rattle.at_model.specs.of_fixpoints.Met.{HasLookedAt as LooksSoFar}
use Rattle.at_model.specs.of_fixpoints.Resting.{Leads}
use Rattle.at_model.specs.of_fixpoints.Searched.{IsMade}
use Rattle.at_model.specs.of_fixpoints.Searching.{IsPassed, IsStuck, Looked, Search, asked_in, gone_to, under}
use Rattle.at_model.specs.of_fixpoints.Searching as follows
use Rattle.at_model.proofs.Reached.{back_among, either_among, front_among}
use Rattle.at_rules.specs.Circular.{HasNoneCircular}
use Rattle.at_store.specs.Shown.{Shown, contents}
use Rattle.at_body.specs.Same.{same_instance}
use Rattle.at_body.specs.Values.{fault_view}
use Rattle.at_cache.specs.Kept.{Entries}
use Rattle.at_cache.specs.Traced.{Memories}
use Rattle.at_search.specs.LedTo.{LeadsOut}
use Rattle.at_search.specs.Recorded.{AreWhole, IsMarked, IsSettled, MetFrom, Recorded, end_of}
use Rattle.at_search.specs.declared.ended.Ended.{Ended}
use Rattle.at_search.specs.declared.ended.Fault.{Fault}
use Rattle.at_demand.proofs.Marking.{told_among}
use Rattle.at_demand.proofs.of_levels.Stuck.{stuck_levels}
use Rattle.at_demand.proofs.of_searches.LookedAlong.{looked_off}
use Rattle.at_demand.specs.Covering.{Extends}
use Rattle.at_demand.specs.declared.demand.searching.Look.{Look}
use Rattle.at_demand.specs.declared.demand.searching.Look.TheVariants as look_is
use Rattle.at_demand.specs.declared.demand.searching.Searched.{Searched}
use Rattle.at_demand.specs.declared.demand.searching.Searched.TheVariants as searched
use Rattle.at_demand.specs.declared.question.Question.{Question}
use Rattle.at_demand.specs.ChainSteps.{HasGoneOver, HasNext, HasSeen, IsAlike, KeepsRest}
use Rattle.at_demand.specs.Groups.{Tells}
use Rattle.at_evaluate.specs.Valued.{KeepsEntries, kept_values, meaning}
use Rattle.at_demand.specs.Known.{known_in}
use Rattle.at_demand.specs.Levels.{IsCovered, IsDoneIn, LevelCode, all_levels, asked_by, fault_in, known_to, level_of, levels_of, root_in, seen_in, todo_in}
use Rattle.at_demand.specs.Turns.{IsBehind, IsFollowed}
use Rattle.at_demand.specs.Searches.{AreKeptOrTold, CanClose, CanResolve, CanSearch, FollowsSo, GainsBetween, GoesOnSo, GoesSo, HasLookedAt, HasSearchedOn, IsLookedAt, IsSolvable, IsTried, IsUnderWay, FollowsOn, StandsBetween, StaysOn, left_to_do}
use Rattle.at_evaluate.proofs.Entered.{entered_on, is_there, not_none, there, value_on}
use Rattle.at_demand.proofs.Keys.{absent, no_key}
use Rattle.at_demand.proofs.Recalling.{known_kept}
use Rattle.at_demand.proofs.of_searches.Costing.{less_past, less_seen}
use Rattle.at_demand.proofs.of_levels.Followed.{come_about, followed_at, followed_step, looked_between, shut_seen}
use Rattle.at_demand.proofs.of_searches.Following.{follows_less}
use Rattle.at_demand.proofs.of_levels.GainedBetween.{gains_nothing, gains_told, gains_where, held_told}
use Rattle.at_demand.proofs.of_searches.Moving.{asked_same, stands_moved, typed_all}
use Rattle.at_demand.proofs.of_searches.NextTried.{follows_at, root_stays, search_at, stands_at, start_ends}
use Rattle.at_demand.proofs.of_searches.OnceTold.{adds_told, kept_or_told, stands_told, told_of}
use Rattle.at_demand.proofs.of_searches.Overgoing.{follows_over, over_next, sees_next, stands_over}
use Rattle.at_demand.proofs.of_searches.Reaching.{led_below, led_met, led_under}
use Rattle.at_demand.proofs.of_levels.Resolving.{keeps_groups, recorded_key, still_known}
use Rattle.at_demand.proofs.of_levels.StayingOn.{stays_at, stays_then}
use Rattle.at_demand.proofs.of_searches.Returning.{goes_back, is_open, is_stuck, level_among, with_level}
use Rattle.at_demand.proofs.of_searches.Stepping.{can_before, covered_next, follows_past, gone_past, next_pending, seen_before, stands_past, tells_pending, todo_is}

-- nothing is passed that wasn't seen, and isn't known
not_passed : (rules : Rules) (s : Shown) (first entries : Entries) (q : Question) (m : Looked ℕ) → KeepsEntries first entries →
    StandsBetween rules s entries q m → (c : Instance ℕ) → (Among c m.seen → ⊥) → known_to entries q c ≡ None → IsPassed (kept_values first) m c → ⊥
not_passed rules s first entries q m stay st c unseen unknown (inl a) = unseen a
not_passed rules s first entries q m stay st c unseen unknown (inr (v, inl k)) =
    not_none (known_to entries q c)
    (is_there (known_to entries q c) v (known_kept entries q.found.entries c v v (sym (value_on first entries stay c v k)) refl)) unknown
not_passed rules s first entries q m stay st c unseen unknown (inr (v, inr a)) =
    not_none (known_to entries q c) (is_there (known_to entries q c) v (st.is.told c v a)) unknown

-- what is seen as its equation is recorded to have ended
abbrev GoneOverAt : Question → Instance ℕ → Question → Option Ended → Type 0
GoneOverAt old i new o = elim o [ None ↦ new ≡ old | Some x ↦ HasSeen old i x.ending new ]

pub gone_over_so : (old new : Question) (i : Instance ℕ) → HasGoneOver old i new → Among i (keys_of old.ended.entries) →
    (x : Ended) × (lookup (same_instance i) old.ended.entries ≡ Some x) × HasSeen old i x.ending new
gone_over_so old new i h key = by (lookup (same_instance i) old.ended.entries) refl h
  where
    by : (o : Option Ended) → lookup (same_instance i) old.ended.entries ≡ o → GoneOverAt old i new o →
        (x : Ended) × (lookup (same_instance i) old.ended.entries ≡ Some x) × HasSeen old i x.ending new
    by None e g = absurd (no_key old.ended.entries i e key)
    by (Some x) e g = (x, e, g)

-- the search of the last level has nothing to do
module _ (rules : Rules) (s : Shown) (entries : Entries) (old new : Question) (a : IsAlike old new) where
  stands_alike : (l : Looked ℕ) → StandsBetween rules s entries old l → StandsBetween rules s entries new l
  stands_alike l st = stands_moved rules s entries old new a.chain a.finds a.root l st l.seen l.todo (st.is.seen ∙ sym a.seen) (st.is.todo ∙ sym a.todo)
      (λ i h. h) st.come
      (subst (λ f. IsCovered (known_to entries old) old.ended.entries l.root l.seen l.todo f) (sym a.fault) st.covered)
      (subst (λ f. MetFrom (contents s) (meaning rules) l.root l.seen l.todo f) (sym a.fault) st.met)
      (typed_all rules s entries old l st)

  pub over_at_end : (m : Memories) (w : ℕ) → w < 2 ^ 64 → CanSearch rules s entries old → IsDoneIn old.level →
      HasSearchedOn {E = AllocError} rules s entries entries m m w w old new (Ok (Some searched.Over))
  over_at_end m w small can done = record {
    gains = let st = can.stands in gains_nothing rules s entries m w old new st.can.answerable small a.finds.found;
    waiting = a.chain.waiting;
    root = a.root;
    stays = stays_at old new a.finds.turns a.finds.passed a.chain.waiting a.root;
    followed = λ x. followed_step rules s entries old can.looked can.stands entries new (λ i some. refl)
        ([], a.finds.found ∙ sym (append-nil old.found.entries)) (ap
        (λ es. keys_of es) a.finds.ended) a.chain.waiting a.root wholes_new
        (seen_in old.level) (todo_in old.level) a.seen a.todo a.chain.inst (λ i h. h)
        (looked_between rules s entries old can.looked can.stands entries new (λ i some. refl)
        ([], a.finds.found ∙ sym (append-nil old.found.entries))
        (ap (λ es. keys_of es) a.finds.ended) a.chain.waiting a.root wholes_new x) x;
    on = (
      (a.todo ∙ done, record { looked = can.looked; stands = stands_alike can.looked can.stands }, a.chain, ap (λ es. keys_of es) a.finds.ended),
      λ first l stay st k. (l, stands_alike l st, (λ i v e. k i v (subst (λ fs. known_in entries fs i ≡ Some v) a.finds.found e)), λ u o y. y),
    );
  }
    where
      wholes_new : AreWhole (contents s) (meaning rules) (known_to entries new)
      wholes_new = let st = can.stands in
          subst (λ fs. AreWhole (contents s) (meaning rules) (known_in entries fs))
          (sym a.finds.found) st.can.facts.wholes

-- The next one is taken off and looked at: more may be known since.
module _ {Whole : Type 0} (rules : Rules) (s : Shown) (before after : Entries) (former latter : Memories) (earlier later : ℕ) (old mid new : Question)
    (c : Instance ℕ) (n : HasNext old mid c)
    (t : Tells rules s before after former latter earlier later mid new (under (all_levels mid)) Whole) (can : CanSearch rules s before old)
    (since : (i : Instance ℕ) → IsSome (known_to after new i) → IsSome (known_to before mid i) ⊎ Among i (keys_of mid.ended.entries)) where
  -- the question with that one still to do
  abbrev with_it : Question
  with_it = record new { level = old.level }

  told_with : Tells rules s before after former latter earlier later old with_it (under (all_levels mid)) Whole
  told_with = tells_pending rules s before after former latter earlier later old mid new n.chain n.finds (under (all_levels mid)) t

  next_with : HasNext with_it new c
  next_with = next_pending rules s before after former latter earlier later old mid new c n (under (all_levels mid)) t

  gains_with : (any : Question) → any.found.entries ≡ new.found.entries → GainsBetween rules s before after former latter earlier later old any Whole
  gains_with =
      let st = can.stands in
      gains_told rules s before after former latter earlier later old with_it (under (all_levels mid)) told_with st.can.answerable.basis.idle
      st.can.facts.values (held_told rules s before old can.looked st) (seen_before rules s before old mid c n)
      (λ i a. led_under rules s before old can.looked st i (seen_before rules s before old mid c n i a))

  waiting_now : new.waiting.entries ≡ old.waiting.entries
  waiting_now = told_with.chain.waiting

  root_now : root_in new.level new.inst ≡ root_in old.level old.inst
  root_now = next_with.root ∙ ap (λ i. root_in old.level i) told_with.chain.inst

  stays_now : StaysOn old new
  stays_now = stays_at old new told_with.turns told_with.passed waiting_now root_now

  -- What equations demanded is followed by another one that knows the same.
  module _ (resolve : CanResolve rules s after new) (r : Question) (found : r.found.entries ≡ new.found.entries)
      (ended : keys_of r.ended.entries ≡ keys_of new.ended.entries) (waiting : r.waiting.entries ≡ new.waiting.entries)
      (root : root_in r.level r.inst ≡ root_in new.level new.inst) where
    finds_r : Extends old.found.entries r.found.entries
    finds_r = let (more, e) = told_with.finds in (more, found ∙ e)

    wholes_r : AreWhole (contents s) (meaning rules) (known_to after r)
    wholes_r = subst (λ fs. AreWhole (contents s) (meaning rules) (known_in after fs)) (sym found) resolve.facts.wholes

    -- the search has looked so far
    abbrev LooksHere : (seen todo : List (Instance ℕ)) → Type 0
    LooksHere = LooksSoFar (contents s) (meaning rules) (IsBehind (contents s) (meaning rules) (known_to after r))
        (under (levels_of old.waiting.entries))
        (root_in old.level old.inst)

    looks_here : IsFollowed rules (contents s) before old → LooksHere (seen_in old.level) (c ∷ todo_in new.level)
    looks_here x = subst (λ ts. LooksHere (seen_in old.level) ts) next_with.todo
        (looked_between rules s before old can.looked can.stands after r told_with.stays finds_r
        (ended ∙ told_with.ended) (waiting ∙ waiting_now)
        (root ∙ root_now) wholes_r x)

    -- it goes on
    goes_followed : (seen todo : List (Instance ℕ)) → seen_in r.level ≡ seen → todo_in r.level ≡ todo →
        r.inst ≡ new.inst →
        ((i : Instance ℕ) → Among i (seen_in old.level) → Among i seen) →
        (LooksHere (seen_in old.level) (c ∷ todo_in new.level) → LooksHere seen todo) →
        FollowsOn rules s before after old r
    goes_followed seen todo seen_is todo_is inst wider on x = followed_step rules s before old can.looked can.stands
        after r told_with.stays finds_r
        (ended ∙ told_with.ended) (waiting ∙ waiting_now) (root ∙ root_now) wholes_r seen todo seen_is todo_is
        (inst ∙ told_with.chain.inst) wider
        (on (looks_here x)) x

    -- it comes to a try
    comes_followed : seen_in r.level ≡ seen_in new.level → r.inst ∷ todo_in r.level ≡ c ∷ todo_in new.level →
        FollowsOn rules s before after old r
    comes_followed seen_is todo_is x = followed_at rules s before old can.looked can.stands after r told_with.stays
        finds_r
        (ended ∙ told_with.ended) (waiting ∙ waiting_now) (root ∙ root_now) wholes_r (seen_in old.level)
        (c ∷ todo_in new.level)
        (seen_is ∙ next_with.seen) todo_is (looks_here x) x

    -- one that was seen, or is known, is passed
    passes_followed : seen_in r.level ≡ seen_in new.level → todo_in r.level ≡ todo_in new.level → r.inst ≡ new.inst →
        Among c (seen_in old.level) ⊎ IsSome (known_to after r c) → FollowsOn rules s before after old r
    passes_followed seen_is todo_is inst p = goes_followed (seen_in old.level) (todo_in new.level)
        (seen_is ∙ next_with.seen) todo_is inst (λ i a. a)
        (looked_off rules (contents s) (known_to after r) wholes_r (under (levels_of old.waiting.entries))
        (root_in old.level old.inst) (seen_in old.level)
        c (todo_in new.level) (elim p [
          | inl a ↦ inl (a, shut_seen rules s before old can.looked can.stands c a)
          | inr k
              ↦ inr k
        ]))

  unknown_old : known_to after new c ≡ None → known_to before old c ≡ None
  unknown_old none = by (known_to before old c) refl
    where
      by : (o : Option (Value ℕ)) → known_to before old c ≡ o → known_to before old c ≡ None
      by None e = e
      by (Some v) e =
          let (more, grown) = told_with.finds in
          absurd (not_none (known_to after new c)
          (still_known before after old with_it told_with.stays more grown c (is_there (known_to before old c) v e)) none)

  -- memory is wanting
  pub failed_on : (HasNoneCircular rules → Whole) → (any : Question) (e : AllocError) → KeepsRest new any →
      HasSearchedOn {E = AllocError} rules s before after former latter earlier later old any (Err e)
  failed_on on any e rest = record {
    gains = gains_where rules s before after former latter earlier later old any on (gains_with any rest.finds.found);
    waiting = rest.chain.waiting ∙ waiting_now;
    root = rest.root ∙ root_now;
    stays = tt;
    followed = tt;
    on = tt;
  }

  -- for the model that is told, and the question stands with it still to do
  module _ (resolve : CanResolve rules s after new) (first : Entries) (l : Looked ℕ) (stay : KeepsEntries first before)
      (st : StandsBetween rules s before old l) (k : AreKeptOrTold first before old l) where
    abbrev those : List (Instance ℕ)
    those = l.seen ++ under l.below

    only : (i : Instance ℕ) → IsSome (known_to after with_it i) → IsSome (known_to before old i) ⊎ Among i those
    only i some = elim (told_with.told i some) [ inl b ↦ inl b | inr a ↦ at_level (seen_before rules s before old mid c n i a) ]
      where
        at_level : Among i (under (all_levels old)) → IsSome (known_to before old i) ⊎ Among i those
        at_level (inl e) = elim st.tried [
          | inl a ↦ inr (front_among i l.seen (under l.below) (subst (λ z. Among z l.seen) (sym e) a))
          | inr b ↦ inl (subst (λ z. IsSome (known_to before old z)) (sym e) b)
        ]
        at_level (inr h) = elim (either_among i (seen_in old.level) (under (levels_of old.waiting.entries)) h) [
          | inl a ↦ inr (front_among i l.seen (under l.below) (subst (λ is. Among i is) (sym st.is.seen) a))
          | inr b ↦ inr (back_among i l.seen (under l.below) (subst (λ ls. Among i (under ls)) (sym st.is.below) b))
        ]

    abbrev now : Looked ℕ
    now = record l { told = told_of (known_to after with_it) those ++ l.told }

    -- what is known since had ended
    had_ended : (i : Instance ℕ) → IsSome (known_to after with_it i) → IsSome (known_to before old i) ⊎ Among i (keys_of old.ended.entries)
    had_ended i some = elim (since i some) [
      | inl k ↦ inl (subst (λ fs. IsSome (known_in before fs i)) n.finds.found k)
      | inr k ↦ inr (subst (λ es. Among i (keys_of es)) n.finds.ended k)
    ]

    stands_now : StandsBetween rules s after with_it now
    stands_now = stands_told rules s before after former latter earlier later old with_it (under (all_levels mid)) told_with l st those only
        (λ i a. elim (either_among i l.seen (under l.below) a) [
          | inl b ↦ led_met rules s before old l st i (front_among i l.seen l.todo b)
          | inr b ↦ led_below rules s before old l st i b
        ])
        had_ended (can_before rules s after with_it new c next_with resolve)

    kept_now : AreKeptOrTold first after with_it now
    kept_now = kept_or_told rules s before after former latter earlier later old with_it (under (all_levels mid)) told_with l st those only first k

    stay_now : KeepsEntries first after
    stay_now i some = t.stays i (entered_on first before stay i some) ∙ stay i some

    told_first : (u : Search ℕ) (o : Option (Answer ℕ)) → FollowsSo rules (contents s) first now u o → FollowsSo rules (contents s) first l u o
    told_first u o y = follows.tells now.told (adds_told (known_to after with_it) (contents s) (meaning rules) told_with.values those l.told) y

    seen_now : l.seen ≡ seen_in mid.level
    seen_now = st.is.seen ∙ sym n.seen

    -- it was seen, or is known
    module _ (p : Among c (seen_in mid.level) ⊎ IsSome (known_to after new c)) where
      or_known : Among c now.seen ⊎ IsSome (known_to after with_it c)
      or_known = elim p [ inl a ↦ inl (subst (λ is. Among c is) (sym seen_now) a) | inr b ↦ inr b ]

      is_passed : IsPassed (kept_values first) now c
      is_passed = elim or_known [
        | inl a ↦ inl a
        | inr b ↦ let (v, e) = there (known_to after with_it c) b in elim (kept_now c v e) [ inl f ↦ inr (v, inl f) | inr a ↦ inr (v, inr a) ]
      ]

      goes_past : GoesOnSo rules s first after l new
      goes_past = (
        gone_past rules s after with_it new c next_with now stands_now,
        stands_past rules s after with_it new c next_with now stands_now or_known,
        kept_now,
        λ u o y. told_first u o (follows_past rules s after with_it new c next_with now stands_now (kept_values first) is_passed y),
      )

    -- its equation is recorded to have ended, and it has an outcome
    module _ (r : Question) (x : Ended) (at : lookup (same_instance c) new.ended.entries ≡ Some x) (h : HasSeen new c x.ending r)
        (unseen : Among c (seen_in mid.level) → ⊥) (unknown : known_to after new c ≡ None)
        (fault : (f : Fault) × Holds (contents s) (meaning rules) c (Faults (fault_view f.kind) f.at)) where
      unseen_now : Among c now.seen → ⊥
      unseen_now a = unseen (subst (λ is. Among c is) seen_now a)

      shut_now : IsOpen (contents s) (meaning rules) (under now.below) c → ⊥
      shut_now o = let (f, holds) = fault in o.1 (Faults (fault_view f.kind) f.at) holds

      goes_over : Among c (keys_of new.ended.entries) → GoesOnSo rules s first after l r
      goes_over key = (
        over_next rules s after with_it new r c next_with x at h now stands_now unseen_now shut_now,
        stands_over rules s after with_it new r c next_with x at h now stands_now unseen_now shut_now,
        (λ i v e. kept_now i v (subst (λ fs. known_in after fs i ≡ Some v) h.finds.found e)),
        λ u o y. told_first u o (follows_over rules s after with_it new r c next_with x at h now stands_now unseen_now shut_now (kept_values first)
            (not_passed rules s first after with_it now stay_now stands_now c unseen_now unknown) key u o y),
      )

    -- its equation wasn't tried yet
    module _ (unseen : Among c (seen_in mid.level) → ⊥) (untried : IsTried mid c → ⊥) (none : lookup (same_instance c) mid.ended.entries ≡ None)
        (unknown : known_to after new c ≡ None) where
      fresh_now : Among c now.seen → ⊥
      fresh_now a = unseen (subst (λ is. Among c is) seen_now a)

      untried_now : IsTried with_it c → ⊥
      untried_now h = untried (subst (λ i. Among c (keys_of mid.waiting.entries ++ i ∷ [])) t.chain.inst
          (subst (λ ws. Among c (keys_of ws ++ new.inst ∷ [])) t.chain.waiting h))

      none_now : lookup (same_instance c) new.ended.entries ≡ None
      none_now = absent new.ended.entries c (λ key. no_key mid.ended.entries c none (subst (λ ks. Among c ks) t.ended key))

      goes_at : GoesSo rules s first after l (record new { inst = c }) searched.Next
      goes_at = (
        search_at rules s after with_it new c next_with now stands_now fresh_now untried_now none_now unknown,
        stands_at rules s after with_it new c next_with now stands_now fresh_now untried_now none_now unknown,
        told_first (search_at rules s after with_it new c next_with now stands_now fresh_now untried_now none_now unknown) None
            (follows_at rules s after with_it new c next_with now stands_now fresh_now untried_now none_now unknown (kept_values first)
            (not_passed rules s first after with_it now stay_now stands_now c fresh_now unknown)),
      )

  -- by what is kept when it is looked at
  from_now : AreKeptOrTold before before old can.looked
  from_now = let st = can.stands in st.is.known

  same_entries : KeepsEntries before before
  same_entries i some = refl

  pub passed_on : (Unit {0} → Whole) → CanResolve rules s after new → Among c (seen_in mid.level) ⊎ IsSome (known_to after new c) →
      HasSearchedOn {E = AllocError} rules s before after former latter earlier later old new (Ok None)
  passed_on on resolve p = record {
    gains = gains_where rules s before after former latter earlier later old new on (gains_with new refl);
    waiting = waiting_now;
    root = root_now;
    stays = stays_now;
    followed = passes_followed resolve new refl refl refl refl refl refl refl
        (elim p [ inl a ↦ inl (subst (λ is. Among c is) n.seen a) | inr k ↦ inr k ]);
    on = (
      record {
        chain = record { waiting = told_with.chain.waiting; inst = told_with.chain.inst };
        ended = told_with.ended;
        can = let (m, stands, kept, more) = goes_past resolve before can.looked same_entries can.stands from_now p in record { looked = m; stands = stands };
        follows = λ first l stay st k. goes_past resolve first l stay st k p;
      },
      less_past old new c told_with.endings told_with.ended (next_with.seen) next_with.todo,
    );
  }

  pub over_on : (Unit {0} → Whole) → CanResolve rules s after new → (r : Question) → HasGoneOver new c r → Among c (keys_of new.ended.entries) →
      (Among c (seen_in mid.level) → ⊥) → known_to after new c ≡ None → ((f : Fault) × Holds (contents s) (meaning rules) c (Faults (fault_view f.kind) f.at)) →
      HasSearchedOn {E = AllocError} rules s before after former latter earlier later old r (Ok None)
  over_on on resolve r over key unseen unknown fault = by (gone_over_so new r c over key)
    where
      unseen_new : Among c (seen_in new.level) → ⊥
      unseen_new a = unseen (subst (λ (d : LevelCode). Among c (seen_in d)) t.level a)

      by : ((x : Ended) × (lookup (same_instance c) new.ended.entries ≡ Some x) × HasSeen new c x.ending r) →
          HasSearchedOn {E = AllocError} rules s before after former latter earlier later old r (Ok None)
      by (x, at, h) = record {
        gains = gains_where rules s before after former latter earlier later old r on (gains_with r h.finds.found);
        waiting = h.chain.waiting ∙ waiting_now;
        root = h.root ∙ root_now;
        stays = stays_then old new r stays_now (stays_at new r h.finds.turns h.finds.passed h.chain.waiting h.root);
        followed = let sees = sees_next new.level r.level c x.ending next_with.is h.sees in
            goes_followed resolve r h.finds.found (ap (λ es. keys_of es) h.finds.ended) h.chain.waiting h.root
            (c ∷ seen_in old.level)
            (asked_in (end_of x.ending) ++ todo_in new.level) (sees.seen ∙ ap
            (λ is. c ∷ is) next_with.seen) sees.todo h.chain.inst (λ i a. inr a)
            (λ l. looked_on (contents s) (meaning rules) told_among (IsBehind (contents s) (meaning rules)
            (known_to after r))
            (under (levels_of old.waiting.entries)) (root_in old.level old.inst) (seen_in old.level) c
            (todo_in new.level) l (end_of x.ending)
            (resolve.facts.ends c (end_of x.ending) (x, at, refl)) (λ a. unseen (subst (λ is. Among c is)
            (sym n.seen) a))
            (λ o. let (f, holds) = fault in o.1 (Faults (fault_view f.kind) f.at) holds));
        on = (
          record {
            chain = record { waiting = h.chain.waiting ∙ told_with.chain.waiting; inst = h.chain.inst ∙ told_with.chain.inst };
            ended = ap (λ es. keys_of es) h.finds.ended ∙ told_with.ended;
            can =
                let (m, stands, kept, more) = goes_over resolve before can.looked same_entries can.stands from_now r x at h unseen unknown fault key in
                record { looked = m; stands = stands };
            follows = λ first l stay st k. goes_over resolve first l stay st k r x at h unseen unknown fault key;
          },
          less_both (less_seen new r c x h.finds.ended at key unseen_new (sees_next new.level r.level c x.ending next_with.is h.sees))
              (less_past old new c told_with.endings told_with.ended next_with.seen next_with.todo),
        );
      }
        where
          less_both : left_to_do r < left_to_do new → left_to_do new < left_to_do old → left_to_do r < left_to_do old
          less_both a b = omega (arith, a, b)

  pub untried_on : (Unit {0} → Whole) → CanResolve rules s after new → (Among c (seen_in mid.level) → ⊥) → (IsTried mid c → ⊥) →
      lookup (same_instance c) mid.ended.entries ≡ None → known_to after new c ≡ None →
      HasSearchedOn {E = AllocError} rules s before after former latter earlier later old (record new { inst = c }) (Ok (Some searched.Next))
  untried_on on resolve unseen untried none unknown = record {
    gains = gains_where rules s before after former latter earlier later old (record new { inst = c }) on (gains_with (record new { inst = c }) refl);
    waiting = waiting_now;
    root = root_stays new.level c new.inst next_with.is ∙ root_now;
    stays = stays_at old (record new { inst = c }) told_with.turns told_with.passed waiting_now
        (root_stays new.level c new.inst next_with.is ∙ root_now);
    followed = comes_followed resolve (record new { inst = c }) refl refl refl
        (root_stays new.level c new.inst next_with.is) refl refl;
    on = (
      let (u, stands, more) = goes_at resolve before can.looked same_entries can.stands from_now unseen untried none unknown in (u, stands),
      λ first l stay st k. goes_at resolve first l stay st k unseen untried none unknown,
    );
  }

  -- it is under way at a lower level
  tried_old : IsTried mid c ⊎ IsUnderWay before mid c → IsTried old c ⊎ IsUnderWay before old c
  tried_old (inl h) = inl (subst (λ i. Among c (keys_of old.waiting.entries ++ i ∷ [])) n.chain.inst
      (subst (λ ws. Among c (keys_of ws ++ mid.inst ∷ [])) n.chain.waiting h))
  tried_old (inr (key, unmarked, out)) = inr (
    subst (λ es. Among c (keys_of es)) n.finds.ended key,
    (λ m. unmarked (subst (λ es. IsMarked es c) (sym n.finds.ended) m)),
    subst (λ fs. LeadsOut (IsSettled (known_in before fs) old.ended.entries) old.ended.entries c) n.finds.found
        (subst (λ es. LeadsOut (IsSettled (known_to before mid) es) es c) n.finds.ended out),
  )

  can_close : CanResolve rules s after new → IsStuck (contents s) (meaning rules) c → HasNone (contents s)
      (meaning rules) can.looked.root → CanClose rules s after new
  can_close resolve stuck none = record {
    answerable = resolve.answerable;
    facts = resolve.facts;
    finds = resolve.finds;
    levels = levels;
    led = λ i a. subst (λ q. Leads (contents s) (meaning rules) q i) asked_new
        (led_under rules s after with_it (now resolve before can.looked same_entries can.stands from_now) held i (seen_before rules s after with_it new c next_with i a));
    held = λ i some. elim (held_told rules s after with_it (now resolve before can.looked same_entries can.stands from_now) held i some) [
      | inl k ↦ inl k
      | inr l ↦ inr (subst (λ q. Leads (contents s) (meaning rules) q i) asked_new l)
    ];
    last = (
      c,
      record {
        stuck = stuck;
        none = subst (λ r. HasNone (contents s) (meaning rules) r) (held.is.root ∙ sym next_with.root) none;
        covered = covered_last;
      },
    );
    below = λ i d a. record {
      stuck = (stuck_below i d a).0;
      none = (stuck_below i d a).1;
      covered = let x = held.below i d a in x.covered;
    };
  }
    where
      held : StandsBetween rules s after with_it (now resolve before can.looked same_entries can.stands from_now)
      held = stands_now resolve before can.looked same_entries can.stands from_now

      asked_new : asked_by with_it ≡ asked_by new
      asked_new = sym (asked_same with_it new next_with.chain.waiting next_with.root)

      seen_is : can.looked.seen ≡ seen_in new.level
      seen_is = held.is.seen ∙ sym next_with.seen

      key_of : (i : Instance ℕ) (f : Option Fault) → ((e : End ℕ (Formula ℕ)) × Recorded new.ended.entries i e × (f ≡ None → IsMade e)) →
          Among i (keys_of new.ended.entries)
      key_of i f (e, y, g) = recorded_key new.ended.entries i e y

      starts : (i : Instance ℕ) → Among i (seen_in new.level) → start_of rules i.attribute ≡ start_of rules can.looked.root.attribute
      starts i a = let come = held.come in start_ends rules (contents s) can.looked.root i
          (come.led i (front_among i can.looked.seen can.looked.todo (subst (λ is. Among i is) (sym seen_is) a)))

      covered_last : IsCovered (known_to after new) new.ended.entries (root_in new.level new.inst) (seen_in new.level)
          (c ∷ todo_in new.level) (fault_in new.level)
      covered_last = subst (λ f. IsCovered (known_to after new) new.ended.entries (root_in new.level new.inst)
          (seen_in new.level) (c ∷ todo_in new.level) f)
          (sym next_with.fault)
          (subst (λ is. IsCovered (known_to after new) new.ended.entries (root_in new.level new.inst) is
          (c ∷ todo_in new.level) (fault_in old.level)) seen_is
          (subst (λ r. IsCovered (known_to after new) new.ended.entries r can.looked.seen (c ∷ todo_in new.level)
          (fault_in old.level))
          (held.is.root ∙ sym next_with.root)
          (covered_next rules s after with_it new c next_with
          (now resolve before can.looked same_entries can.stands from_now) held)))

      stuck_below : (i : Instance ℕ) (d : LevelCode) → Among (i, d) new.waiting.entries →
          IsStuck (contents s) (meaning rules) i × HasNone (contents s) (meaning rules) (root_in d i)
      stuck_below i d a = stuck_levels (contents s) (meaning rules) can.looked.root can.looked.below held.stacked none
          (level_of i d)
          (subst (λ ls. Among (level_of i d) ls) (sym held.is.below) (level_among new.waiting.entries i d a))

      last : IsSolvable rules new.ended.entries new.level
      last = record {
        alike = λ i j a b. starts i a ∙ sym (starts j b);
        recorded = λ i a. let covered = held.covered in key_of i (fault_in old.level) (covered.ends i (subst (λ is. Among i is) (sym seen_is) a));
      }

      levels : (i : Instance ℕ) (d : LevelCode) → Among (i, d) ((new.inst, new.level) ∷ new.waiting.entries) → IsSolvable rules new.ended.entries d
      levels i d (inl e) = subst (λ (z : Instance ℕ × LevelCode). IsSolvable rules new.ended.entries z.1) (sym here) last
        where
          here : with_level d i ≡ with_level new.level new.inst
          here = e
      levels i d (inr h) = let x = held.below i d h in record {
        alike = λ j k a b. x.alike j (front_among j (seen_in d) (i ∷ todo_in d) a) ∙ sym (x.alike k (front_among k (seen_in d) (i ∷ todo_in d) b));
        recorded = λ j a. let covered = x.covered in key_of j (fault_in d) (covered.ends j a);
      }

  pub back_on : (Unit {0} → Whole) → CanResolve rules s after new → (Among c (seen_in mid.level) → ⊥) → known_to after new c ≡ None → IsTried mid c ⊎ IsUnderWay before mid c →
      HasSearchedOn {E = AllocError} rules s before after former latter earlier later old new (Ok (Some (searched.Back c)))
  back_on on resolve unseen unknown way = record {
    gains = gains_where rules s before after former latter earlier later old new on (gains_with new refl);
    waiting = waiting_now;
    root = root_now;
    stays = stays_now;
    followed = λ x. come_about rules s before old can.looked can.stands after new told_with.stays told_with.finds
        told_with.ended waiting_now root_now
        resolve.facts.wholes c (todo_in new.level) next_with.todo next_with.seen told_with.chain.inst
        (opened can.looked can.stands)
        (lost can.looked can.stands) resolve.whole x;
    on = (
      (
        opened can.looked can.stands,
        (let (stuck, none) = stuck_at can.looked can.stands in can_close resolve stuck none),
        record { waiting = told_with.chain.waiting; inst = told_with.chain.inst },
        told_with.ended,
      ),
      λ first l stay st k. back first l stay st k,
    );
  }
    where
      unseen_at : (l : Looked ℕ) → StandsBetween rules s before old l → Among c l.seen → ⊥
      unseen_at l st a = unseen (subst (λ is. Among c is) (st.is.seen ∙ sym n.seen) a)

      opened : (l : Looked ℕ) → StandsBetween rules s before old l → IsOpen (contents s) (meaning rules) (under (levels_of old.waiting.entries)) c
      opened l st = subst (λ ls. IsOpen (contents s) (meaning rules) (under ls) c) st.is.below
          (is_open rules s before old l st c (todo_in mid.level) (todo_is rules s before old mid c n l st) (unseen_at l st) (unknown_old unknown) (tried_old way))

      stuck_at : (l : Looked ℕ) → StandsBetween rules s before old l → IsStuck (contents s)
          (meaning rules) c × HasNone (contents s) (meaning rules) l.root
      stuck_at l st =
          is_stuck rules s before old l st c (todo_in mid.level) (todo_is rules s before old mid c n l st)
          (unseen_at l st) (unknown_old unknown) (tried_old way)

      lost : (l : Looked ℕ) → StandsBetween rules s before old l → HasNone (contents s) (meaning rules)
          (root_in old.level old.inst)
      lost l st = subst (λ r. HasNone (contents s) (meaning rules) r) st.is.root (stuck_at l st).1

      back : (first : Entries) (l : Looked ℕ) → KeepsEntries first before → StandsBetween rules s before old l → AreKeptOrTold first before old l →
          GoesSo rules s first after l new (searched.Back c)
      back first l stay st k = (
        gone_to l c (todo_in mid.level),
        follows_less (contents s) (meaning rules) (kept_values before) (kept_values first) (value_on first before stay)
            (λ i v e. k i v (known_kept before old.found.entries i v v (sym e) refl))
            (goes_back rules s before old l st c (todo_in mid.level) (todo_is rules s before old mid c n l st) (unseen_at l st) (unknown_old unknown) (tried_old way)),
      )

-- what comes of that, by what was to be done with it
module _ (rules : Rules) (s : Shown) (before after : Entries) (former latter : Memories) (earlier later : ℕ) (old mid new : Question)
    (c : Instance ℕ) (n : HasNext old mid c) (can : CanSearch rules s before old) (l : Look)
    (h : HasLookedAt {E = AllocError} rules s before after former latter earlier later mid new c (Ok l)) where
  looked_as : (k : Look) → l ≡ k → IsLookedAt rules (contents s) before after mid new c k
  looked_as k e = subst (λ z. IsLookedAt rules (contents s) before after mid new c z) e h.is

  pub is_passed_on : l ≡ look_is.Passed → HasSearchedOn {E = AllocError} rules s before after former latter earlier later old new (Ok None)
  is_passed_on e = passed_on rules s before after former latter earlier later old mid new c n h.tells can h.since (λ u. u) h.can (looked_as look_is.Passed e)

  pub is_over_on : l ≡ look_is.Ended → (r : Question) → HasGoneOver new c r →
      HasSearchedOn {E = AllocError} rules s before after former latter earlier later old r (Ok None)
  is_over_on e r over =
      let (unseen, key, unknown, fault) = looked_as look_is.Ended e in
      over_on rules s before after former latter earlier later old mid new c n h.tells can h.since (λ u. u) h.can r over key unseen unknown fault

  pub is_unseen : l ≡ look_is.Ended → Among c (seen_in new.level) → ⊥
  is_unseen e a =
      let (unseen, key, unknown, fault) = looked_as look_is.Ended e in
      let t = h.tells in unseen (subst (λ (d : LevelCode). Among c (seen_in d)) t.level a)

  pub is_failed_on : (any : Question) (r : Result (Option Searched) AllocError) (e : AllocError) → r ≡ Err e → KeepsRest new any →
      HasSearchedOn {E = AllocError} rules s before after former latter earlier later old any r
  is_failed_on any r e is rest = subst (λ z. HasSearchedOn {E = AllocError} rules s before after former latter earlier later old any z) (sym is)
      (failed_on rules s before after former latter earlier later old mid new c n h.tells can h.since (λ none. tt) any e rest)

  pub is_back_on : l ≡ look_is.Back → HasSearchedOn {E = AllocError} rules s before after former latter earlier later old new (Ok (Some (searched.Back c)))
  is_back_on e =
      let (unseen, unknown, way) = looked_as look_is.Back e in
      back_on rules s before after former latter earlier later old mid new c n h.tells can h.since (λ u. u) h.can unseen unknown way

  pub is_untried_on : l ≡ look_is.Untried →
      HasSearchedOn {E = AllocError} rules s before after former latter earlier later old (record new { inst = c }) (Ok (Some searched.Next))
  is_untried_on e =
      let (unseen, untried, none, unknown) = looked_as look_is.Untried e in
      untried_on rules s before after former latter earlier later old mid new c n h.tells can h.since (λ u. u) h.can unseen untried none unknown

-- nothing could be looked at for want of memory
pub look_failed : (rules : Rules) (s : Shown) (before after : Entries) (former latter : Memories) (earlier later : ℕ)
    (old mid new : Question) (c : Instance ℕ) → HasNext old mid c → CanSearch rules s before old → (q : Result Look AllocError) →
    HasLookedAt {E = AllocError} rules s before after former latter earlier later mid new c q → (r : Result (Option Searched) AllocError) (e : AllocError) →
    r ≡ Err e → HasSearchedOn {E = AllocError} rules s before after former latter earlier later old new r
look_failed rules s before after former latter earlier later old mid new c n can q h r e is =
    subst (λ z. HasSearchedOn {E = AllocError} rules s before after former latter earlier later old new z) (sym is)
    (failed_on rules s before after former latter earlier later old mid new c n h.tells can h.since (keeps_groups rules q) new e (record {
      chain = record { waiting = refl; inst = refl };
      finds = record { found = refl; passed = refl; ended = refl; turns = refl };
      root = refl;
    }))
