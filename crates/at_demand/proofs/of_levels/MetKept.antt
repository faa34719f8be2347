-- Where a circle answers a question, all that its search has met and that is worthy is kept.
use Rattle.std.proofs.Common.{◌≡◌, ◌⊎◌, ℕ, List, [], ◌∷◌, map, reverse, Option, Some, None, true, inl, inr, refl, sym, ap, subst}
use Rattle.std.specs.Prelude.{IsSome}
use Rattle.std.specs.Map.{keys_of}
use Rattle.at_model.specs.Meaning.{Among, Finds, Outcome, Reaches}
use Rattle.at_model.specs.Rules.{Rules, is_lazy}
use Rattle.at_model.specs.Run.{Value, Instance, Contents, Demands}
use Rattle.at_model.specs.of_fixpoints.Circles.{HasNone}
use Rattle.at_model.specs.of_fixpoints.Fixpoints.{EndsSo, HasValue, Holds, LeadsOver, Made, goes, stays}
use Rattle.at_model.specs.of_fixpoints.Formulas.{Forms}
use Rattle.at_model.specs.of_fixpoints.Resting.{Comes, Leads}
use Rattle.at_model.specs.of_fixpoints.Resting as led
use Rattle.at_model.specs.of_fixpoints.Searching.{IsStuck, under}
use Rattle.at_model.proofs.Reached.{either_among}
use Rattle.at_model.proofs.of_searching.PassedCircles.{ends_one}
use Rattle.at_model.proofs.of_searching.Strictly.{stuck_none}
use Rattle.at_store.specs.Shown.{Shown, contents}
use Rattle.at_cache.specs.Kept.{Entries}
use Rattle.at_search.specs.Recorded.{IsMarked, Recorded, end_of}
use Rattle.at_search.proofs.Seeing.{reverse_among}
use Rattle.at_demand.specs.Answered.{HasWorthyMet}
use Rattle.at_demand.specs.declared.evaluation.Find.{Find}
use Rattle.at_demand.specs.declared.question.Question.{Question}
use Rattle.at_evaluate.specs.Valued.{IsKept, KeepsEntries, kept_values, meaning}
use Rattle.at_demand.specs.Known.{found_values}
use Rattle.at_demand.specs.Levels.{LevelCode, all_levels, asked_by, known_to, level_of, levels_of, root_in, seen_in, todo_in}
use Rattle.at_demand.specs.Searches.{CanClose, IsSeenBy, IsStuckAt}
use Rattle.at_demand.specs.Worth.{AreSettled}
use Rattle.at_evaluate.specs.Sparing.{AreSpare}
use Rattle.at_demand.specs.Turns.{HasComeAbout, HasMet, HaveMet, IsMet, next_root}
use Rattle.at_evaluate.proofs.Entered.{is_there, kept_on, not_none}
use Rattle.at_demand.proofs.Gaining.{known_below}
use Rattle.at_demand.proofs.Leading.{comes_before}
use Rattle.at_evaluate.proofs.LeadingOn.{leads_on}
use Rattle.at_demand.proofs.Marking.{told_among}
use Rattle.at_demand.proofs.Passing.{past_has, past_more}
use Rattle.at_demand.proofs.of_levels.CameBetween.{value_found}
use Rattle.at_demand.proofs.of_levels.Followed.{met_known}
use Rattle.at_demand.proofs.of_levels.Resolving.{either_known, key_entry, recorded_key}
use Rattle.at_demand.proofs.of_levels.Stuck.{no_value, to_next}
use Rattle.at_demand.proofs.of_searches.Returning.{with_level}

-- levels of those that wait have come to it: it waits, or was seen there
pub under_cases : (vs : List (Instance ℕ × LevelCode)) (x : Instance ℕ) → Among x (under (map (λ
    (e : Instance ℕ × LevelCode). level_of e.0 e.1) vs)) →
    (i : Instance ℕ) × (l : LevelCode) × Among (with_level l i) vs × ((x ≡ i) ⊎ Among x (seen_in l))
under_cases [] x a = absurd a
under_cases (e ∷ es) x a = elim a [
  | inl same ↦ (e.0, e.1, inl refl, inl same)
  | inr b ↦ elim (either_among x (seen_in e.1) (under (map (λ (z : Instance ℕ × LevelCode). level_of z.0 z.1) es)) b) [
    | inl s ↦ (e.0, e.1, inl refl, inr s)
    | inr c ↦ (let (i, l, d, g) = under_cases es x c in (i, l, inr d, g))
  ]
]

-- formulas lead on, so it leads
pub led_leads : (look : Contents ℕ) (forms : Forms ℕ) (i j : Instance ℕ) → LeadsOver (EndsSo look forms) i j →
    Leads look forms i j
led_leads look forms _ j (stays _) = led.stays j
led_leads look forms _ j (goes i m _ f y a l) = led.goes i m j (inr (f, y, a)) (led_leads look forms m j l)

module _ (rules : Rules) (look : Contents ℕ) (entries : Entries) (found : List (Instance ℕ × Find)) where
  -- what an equation demands that has come to the demand of one with no outcome is met, or is that one
  pub reaches_met : (i n : Instance ℕ) → HasMet rules look entries found i n → HasNone look (meaning rules) n →
      (j : Instance ℕ) →
      Reaches look (HasValue look (meaning rules)) ((meaning rules).formula i) j → IsMet entries found j ⊎ (j ≡ n)
  reaches_met i n (js, ls, rest, past) none j reach =
      let run = (meaning rules).formula i in
      let has : Instance ℕ → Value ℕ → Type 0 = λ m v. HasValue look (meaning rules) m v × IsMet entries found m in
      let holds = past_more look has (HasValue look (meaning rules)) (λ m v h. h.0) run (Demands n rest) js ls past in
      elim (comes_before look (meaning rules) run (Demands n rest) n rest js ls j refl (λ v h. none
      (Finds v) h) holds reach) [
        | inl a ↦ inl (let (v, h) = past_has look has run (Demands n rest) js ls j past a in h.1)
        | inr e ↦ inr e
      ]

  first_none : (es : List (Instance ℕ × LevelCode)) (n : Instance ℕ) → ((i : Instance ℕ) (l : LevelCode) → Among
      (with_level l i) es →
      HasNone look (meaning rules) (root_in l i)) → HasNone look (meaning rules) n → HasNone look (meaning rules)
      (next_root es n)
  first_none [] n all none = none
  first_none (e ∷ es) n all none = all e.0 e.1 (inl refl)

  -- each one that waits has come to the demand of one with no outcome
  pub waits_none : (ws : List (Instance ℕ × LevelCode)) (n : Instance ℕ) → HaveMet rules look entries found ws n →
      ((i : Instance ℕ) (l : LevelCode) → Among (with_level l i) ws → HasNone look (meaning rules) (root_in l i)) →
      HasNone look (meaning rules) n →
      (i : Instance ℕ) (l : LevelCode) → Among (with_level l i) ws →
      (m : Instance ℕ) × HasMet rules look entries found i m × HasNone look (meaning rules) m
  waits_none [] n met all none i l a = absurd a
  waits_none (e ∷ es) n met all none i l a = elim a [
    | inl same ↦ (
      next_root es n,
      subst (λ z. HasMet rules look entries found z (next_root es n)) (sym (ap (λ
          (z : Instance ℕ × LevelCode). z.0) same)) met.0,
      first_none es n (λ j d b. all j d (inr b)) none,
    )
    | inr b ↦ waits_none es n met.1 (λ j d c. all j d (inr c)) none i l b
  ]

module _ (rules : Rules) (s : Shown) (before after : Entries) (q new : Question) (can : CanClose rules s before q)
    (about : HasComeAbout rules (contents s) before q)
    (met : HaveMet rules (contents s) before q.found.entries q.waiting.entries (root_in q.level q.inst))
    (settled : AreSettled rules before q.found.entries) (spare : AreSpare rules (contents s) before)
    (grown : KeepsEntries before after)
    (told : (i : Instance ℕ) (v : Value ℕ) → IsSeenBy q i → HasValue (contents s) (meaning rules) i v → IsSome
    (known_to after new i))
    (settles : AreSettled rules after new.found.entries) where
  abbrev IsLazy : Instance ℕ → Type 0
  IsLazy i = is_lazy rules i.attribute ≡ true

  -- what is met leads to what is kept
  below : (i j : Instance ℕ) → IsMet before q.found.entries i → Leads (contents s) (meaning rules) i j → IsLazy j →
      IsKept after j
  below i j m l lazy = kept_on before after grown j
      (known_below rules (contents s) before q.found.entries can.answerable.basis.circular.lazy can.finds.whole settled
      spare.deep i j m l lazy)

  -- its equation has ended, it isn't known, and it leads to nothing that wants what has no outcome
  abbrev IsOpenHere : Instance ℕ → Type 0
  IsOpenHere i = Among i (keys_of q.ended.entries) × (known_to before q i ≡ None)
      × ((n : Instance ℕ) → LeadsOver (EndsSo (contents s) (meaning rules)) i n → IsStuck (contents s)
      (meaning rules) n → ⊥)

  stuck_of : (i : Instance ℕ) (l : LevelCode) → Among (with_level l i) q.waiting.entries → IsStuck (contents s)
      (meaning rules) i
  stuck_of i l a = let x = can.below i l a in x.stuck

  -- one that has an outcome leads to nothing of that kind
  no_stuck : (i : Instance ℕ) (o : Outcome ℕ) → Holds (contents s) (meaning rules) i o → (n : Instance ℕ) →
      LeadsOver (EndsSo (contents s) (meaning rules)) i n → IsStuck (contents s) (meaning rules) n → ⊥
  no_stuck i o holds n l stuck = stuck_none (contents s) (meaning rules) i n l stuck o holds

  met_or_open : (i : Instance ℕ) → Among i (keys_of q.ended.entries) →
      ((n : Instance ℕ) → LeadsOver (EndsSo (contents s) (meaning rules)) i n → IsStuck (contents s)
      (meaning rules) n → ⊥) →
      IsMet before q.found.entries i ⊎ IsOpenHere i
  met_or_open i key free = by (known_to before q i) refl
    where
      by : (o : Option (Value ℕ)) → known_to before q i ≡ o → IsMet before q.found.entries i ⊎ IsOpenHere i
      by None e = inr (key, e, free)
      by (Some v) e = inl (met_known before q.found.entries i (is_there (known_to before q i) v e))

  -- it was seen at a level
  abbrev IsSeenAt : Instance ℕ → Type 0
  IsSeenAt i = (root : Instance ℕ) × (n : Instance ℕ) × (l : LevelCode)
      × IsStuckAt (contents s) (meaning rules) (known_to before q) q.ended.entries root l n × Among i
      (seen_in l) × IsSeenBy q i

  -- one that is open is marked, or was seen at a level
  open_at : (i : Instance ℕ) → IsOpenHere i → IsMarked q.ended.entries i ⊎ IsSeenAt i
  open_at i (key, unknown, free) = elim (about.whole.placed i key) [
    | inl k ↦ absurd (not_none (known_to before q i) k unknown)
    | inr d ↦ elim d [ inl m ↦ inl m | inr u ↦ inr (of_under u) ]
  ]
    where
      of_last : Among i (seen_in q.level) → IsSeenAt i
      of_last a = let (n, x) = can.last in (root_in q.level q.inst, n, q.level, x, a, (q.inst, q.level, inl refl, a))

      of_inst : i ≡ q.inst → IsSeenAt i
      of_inst e = elim about.last [
        | inl d ↦ elim d [
          | inl a ↦ of_last (subst (λ z. Among z (seen_in q.level)) (sym e) a)
          | inr k ↦ absurd (not_none (known_to before q i) (subst (λ z. IsSome (known_to before q z))
              (sym e) k) unknown)
        ]
        | inr (n, m, none, stuck) ↦ absurd (free i (stays i) (subst (λ z. IsStuck (contents s) (meaning rules) z)
            (sym e) stuck))
      ]

      of_below : (j : Instance ℕ) (l : LevelCode) → Among (with_level l j) q.waiting.entries → (i ≡ j) ⊎ Among i
          (seen_in l) → IsSeenAt i
      of_below j l a (inl e) = absurd (free i (stays i) (subst (λ z. IsStuck (contents s) (meaning rules) z) (sym e)
          (stuck_of j l a)))
      of_below j l a (inr b) = (root_in l j, j, l, can.below j l a, b, (j, l, inr a, b))

      of_under : Among i (under (all_levels q)) → IsSeenAt i
      of_under (inl e) = of_inst e
      of_under (inr h) = elim (either_among i (seen_in q.level) (under (levels_of q.waiting.entries)) h) [
        | inl a ↦ of_last a
        | inr b ↦ (let (j, l, a, c) = under_cases (reverse q.waiting.entries) i b in
            of_below j l (reverse_among q.waiting.entries (with_level l j) a) c)
      ]

  -- each step goes to what is met, or stays among those
  next : (i j : Instance ℕ) → IsOpenHere i → Comes (contents s) (meaning rules) i j →
      IsMet before q.found.entries j ⊎ IsOpenHere j
  next i j (key, unknown, free) (inl reach) = elim (about.demanded i j key reach) [
    | inl m ↦ inl m
    | inr k ↦ met_or_open j k (λ n l stuck. free i (stays i)
        (j, record { by = i; led = stays i; demands = reach }, stuck_none (contents s) (meaning rules) j n l stuck))
  ]
  next i j (key, unknown, free) (inr (f, form, a)) = elim (open_at i (key, unknown, free)) [
    | inl m ↦ settle (about.whole.asked i j f m recorded a)
    | inr (root, n, l, x, b, seen) ↦ elim (x.covered.order.covered i j f b recorded a) [
      | inl k ↦ settle (inl k)
      | inr d ↦ elim d [
        | inl c ↦ settle (inr (let (e, r, g) = x.covered.ends j c in recorded_key q.ended.entries j e r))
        | inr c ↦ to_do root n l x b c
      ]
    ]
  ]
    where
      recorded : Recorded q.ended.entries i (Made f)
      recorded =
          let (y, at) = key_entry q.ended.entries i key in (
            y,
            at,
            ends_one (contents s) (meaning rules) i (end_of y.ending) (Made f) (can.facts.ends i
                (end_of y.ending) (y, at, refl)) form,
          )

      free_next : (n : Instance ℕ) → LeadsOver (EndsSo (contents s) (meaning rules)) j n → IsStuck (contents s)
          (meaning rules) n → ⊥
      free_next n l = free n (goes i j n f form a l)

      settle : IsSome (known_to before q j) ⊎ Among j (keys_of q.ended.entries) →
          IsMet before q.found.entries j ⊎ IsOpenHere j
      settle (inl k) = inl (met_known before q.found.entries j k)
      settle (inr k) = met_or_open j k free_next

      to_do : (root n : Instance ℕ) (l : LevelCode) → IsStuckAt (contents s) (meaning rules)
          (known_to before q) q.ended.entries root l n →
          Among i (seen_in l) → Among j (n ∷ todo_in l) → IsMet before q.found.entries j ⊎ IsOpenHere j
      to_do root n l x b c = by (known_to before q j) refl
        where
          by : (o : Option (Value ℕ)) → known_to before q j ≡ o → IsMet before q.found.entries j ⊎ IsOpenHere j
          by (Some v) e = inl (met_known before q.found.entries j (is_there (known_to before q j) v e))
          by None e = elim (told_among j (seen_in l)) [
            | inl d ↦ settle (inr (let (z, r, g) = x.covered.ends j d in recorded_key q.ended.entries j z r))
            | inr d ↦ absurd (free n (to_next (contents s) (meaning rules)
                (known_to before q) q.ended.entries can.facts.ends root l n x (seen_in l)
                (λ k h. h) (λ k h. h) i j f b recorded a e d c) x.stuck)
          ]

  -- one of those that has a value is kept then
  ended_kept : (i : Instance ℕ) (v : Value ℕ) → IsOpenHere i → IsLazy i → HasValue (contents s) (meaning rules) i v →
      IsKept after i
  ended_kept i v o lazy has = elim (open_at i o) [
    | inl m ↦ (let (j, at, k, l, r) = about.whole.spoilt i m o.1 in
        absurd (no_value (contents s) (meaning rules) (Recorded q.ended.entries) can.facts.ends i j v k at has l r))
    | inr (root, n, l, x, b, seen) ↦ elim (either_known (kept_values after i) (found_values new.found.entries i)
        (told i v seen has)) [
          | inl k ↦ k
          | inr f ↦ (let (p, g, at) = value_found new.found.entries i f in let y = settles p i g at in y.lazy lazy)
        ]
  ]

  walk : (i x : Instance ℕ) (v : Value ℕ) → IsOpenHere i → Leads (contents s) (meaning rules) i x → IsLazy x →
      HasValue (contents s) (meaning rules) x v → IsKept after x
  walk _ x v o (led.stays _) lazy has = ended_kept x v o lazy has
  walk _ x v o (led.goes i m _ c l) lazy has = elim (next i m o c) [
    | inl k ↦ below m x k l lazy
    | inr p ↦ walk m x v p l lazy has
  ]

  -- from what is met, or has ended and has an outcome
  from_settled : (y x : Instance ℕ) (o : Outcome ℕ) (v : Value ℕ) → Holds (contents s) (meaning rules) y o →
      IsMet before q.found.entries y ⊎ Among y (keys_of q.ended.entries) → Leads (contents s) (meaning rules) y x →
      IsLazy x →
      HasValue (contents s) (meaning rules) x v → IsKept after x
  from_settled y x o v holds (inl m) l lazy has = below y x m l lazy
  from_settled y x o v holds (inr k) l lazy has = elim (met_or_open y k (no_stuck y o holds)) [
    | inl m ↦ below y x m l lazy
    | inr p ↦ walk y x v p l lazy has
  ]

  -- from one that has ended, or what that demands
  from_ended : (by y x : Instance ℕ) (o : Outcome ℕ) (v : Value ℕ) → Among by (keys_of q.ended.entries) →
      (by ≡ y) ⊎ Reaches (contents s) (HasValue (contents s) (meaning rules)) ((meaning rules).formula by) y → Holds
      (contents s) (meaning rules) y o →
      Leads (contents s) (meaning rules) y x → IsLazy x → HasValue (contents s) (meaning rules) x v → IsKept after x
  from_ended by y x o v key (inl e) holds l lazy has =
      from_settled y x o v holds (inr (subst (λ z. Among z (keys_of q.ended.entries)) e key)) l lazy has
  from_ended by y x o v key (inr reach) holds l lazy has = from_settled y x o v holds
      (about.demanded by y key reach) l lazy has

  -- from one that wants what has no outcome
  from_stuck : (by n y x : Instance ℕ) (o : Outcome ℕ) → HasMet rules (contents s) before q.found.entries by n →
      HasNone (contents s) (meaning rules) n →
      IsStuck (contents s) (meaning rules) by →
      (by ≡ y) ⊎ Reaches (contents s) (HasValue (contents s) (meaning rules)) ((meaning rules).formula by) y → Holds
      (contents s) (meaning rules) y o →
      Leads (contents s) (meaning rules) y x → IsLazy x → IsKept after x
  from_stuck by n y x o m none stuck (inl e) holds l lazy =
      absurd (stuck_none (contents s) (meaning rules) by by (stays by) stuck o (subst (λ z. Holds (contents s)
      (meaning rules) z o) (sym e) holds))
  from_stuck by n y x o m none stuck (inr reach) holds l lazy =
      elim (reaches_met rules (contents s) before q.found.entries by n m none y reach) [
        | inl k ↦ below y x k l lazy
        | inr e ↦ absurd (none o (subst (λ z. Holds (contents s) (meaning rules) z o) e holds))
      ]

  seen_key : (i j : Instance ℕ) (l : LevelCode) → Among (with_level l j) ((q.inst, q.level) ∷ q.waiting.entries) →
      Among i (seen_in l) →
      Among i (keys_of q.ended.entries)
  seen_key i j l a b = let x = can.levels j l a in x.recorded i b

  pub met_kept : HasWorthyMet rules (contents s) (asked_by q) after
  met_kept x w m = elim (about.looked m.by m.looked) [
    | inl (c, known, l) ↦ below c x (met_known before q.found.entries c known)
        (leads_on (contents s) (meaning rules) c m.by x (led_leads (contents s)
        (meaning rules) c m.by l) leads_by) w.lazy
    | inr u ↦ of_under u
  ]
    where
      leads_by : Leads (contents s) (meaning rules) m.by x
      leads_by = elim m.is [
        | inl e ↦ subst (λ z. Leads (contents s) (meaning rules) z x) (sym e) m.led
        | inr reach ↦ led.goes m.by m.settled x (inl reach) m.led
      ]

      ended : Among m.by (keys_of q.ended.entries) → IsKept after x
      ended key = from_ended m.by m.settled x m.outcome w.value key m.is m.holds m.led w.lazy w.has

      of_inst : m.by ≡ q.inst → IsKept after x
      of_inst e = elim about.last [
        | inl d ↦ elim d [
          | inl a ↦ ended (seen_key m.by q.inst q.level (inl refl) (subst (λ z. Among z (seen_in q.level)) (sym e) a))
          | inr k ↦ below m.by x (met_known before q.found.entries m.by (subst (λ z. IsSome (known_to before q z))
              (sym e) k)) leads_by w.lazy
        ]
        | inr (n, has, none, stuck) ↦ from_stuck m.by n m.settled x m.outcome (subst (λ z. HasMet rules
            (contents s) before q.found.entries z n) (sym e) has) none
            (subst (λ z. IsStuck (contents s) (meaning rules) z) (sym e) stuck) m.is m.holds m.led w.lazy
      ]

      of_below : (j : Instance ℕ) (l : LevelCode) → Among (with_level l j) q.waiting.entries → (m.by ≡ j) ⊎ Among m.by
          (seen_in l) → IsKept after x
      of_below j l a (inr b) = ended (seen_key m.by j l (inr a) b)
      of_below j l a (inl e) =
          let none_last = (let (n, y) = can.last in y.none) in
          let (n, has, none) = waits_none rules (contents s) before q.found.entries q.waiting.entries
          (root_in q.level q.inst) met
          (λ i d b. let y = can.below i d b in y.none) none_last j l a in
          from_stuck m.by n m.settled x m.outcome (subst (λ z. HasMet rules (contents s) before q.found.entries z n)
          (sym e) has) none
          (subst (λ z. IsStuck (contents s) (meaning rules) z) (sym e) (stuck_of j l a)) m.is m.holds m.led w.lazy

      of_under : Among m.by (under (all_levels q)) → IsKept after x
      of_under (inl e) = of_inst e
      of_under (inr h) = elim (either_among m.by (seen_in q.level) (under (levels_of q.waiting.entries)) h) [
        | inl a ↦ ended (seen_key m.by q.inst q.level (inl refl) a)
        | inr b ↦ (let (j, l, a, c) = under_cases (reverse q.waiting.entries) m.by b in
            of_below j l (reverse_among q.waiting.entries (with_level l j) a) c)
      ]
