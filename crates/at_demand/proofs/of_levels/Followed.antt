-- What equations that have ended demand is followed: it is met, or has ended; and searches have looked at all that they would have without what is known.
use Rattle.std.proofs.Common.{◌≡◌, ◌⊎◌, ℕ, Bool, true, false, if◌then◌else◌, List, [], ◌∷◌, ◌++◌, None, inl, inr, refl, sym, ap, ◌∙◌, subst, append-nil}
use Rattle.std.specs.Prelude.{IsSome}
use Rattle.std.specs.Map.{keys_of}
use Rattle.indexmap.specs.IndexMap.{insert_entry}
use Rattle.at_model.proofs.Reached.{back_among, front_among}
use Rattle.at_model.proofs.of_searching.LookedAt.{back_alone, wanting_alone}
use Rattle.at_model.proofs.of_searching.LookedLevels.{looked_only}
use Rattle.at_model.proofs.of_searching.Strictly.{stuck_none}
use Rattle.at_model.specs.Meaning.{Among, Faults, Finds, Reaches}
use Rattle.at_model.specs.Rules.{Rules}
use Rattle.at_model.specs.Run.{Contents, Demands, FaultKind, Instance, Known, Value}
use Rattle.at_model.specs.of_fixpoints.Circles.{HasNone, IsOpen}
use Rattle.at_model.specs.of_fixpoints.Fixpoints.{End, EndsSo, HasValue, Holds, Made, Spoilt, stays as stays_there}
use Rattle.at_model.specs.of_fixpoints.Formulas.{Formula}
use Rattle.at_model.specs.of_fixpoints.Met.{HasLookedAt, HaveLookedAt, IsLookedAt, LooksAt}
use Rattle.at_model.specs.of_fixpoints.Resting.{Comes}
use Rattle.at_model.specs.of_fixpoints.Searched.{AreStacked, IsAt, IsMade}
use Rattle.at_model.specs.of_fixpoints.Searching.{IsStuck, Level, Looked, Search, asked_in, begun, root_of, under}
use Rattle.at_model.proofs.of_formulas.UniqueOutcomes.{once}
use Rattle.at_model.proofs.of_searching.LookedSteps.{looked_begun, looked_on}
use Rattle.at_model.proofs.of_searching.PassedCircles.{ends_one}
use Rattle.at_store.specs.Shown.{Shown, contents}
use Rattle.at_body.specs.Same.{same_instance}
use Rattle.at_cache.specs.Kept.{Entries}
use Rattle.at_search.specs.Recorded.{AreWhole, Recorded, end_of}
use Rattle.at_search.specs.declared.ended.Ended.{Ended}
use Rattle.at_search.specs.declared.ended.Ending.{Ending}
use Rattle.at_demand.proofs.of_searches.Moving.{asked_same}
use Rattle.at_demand.proofs.of_searches.Reaching.{starts_at}
use Rattle.at_demand.specs.declared.evaluation.Find.{Find}
use Rattle.at_demand.specs.declared.question.Question.{Question}
use Rattle.at_demand.specs.ChainSteps.{HasEnded}
use Rattle.at_demand.specs.Covering.{Extends}
use Rattle.at_evaluate.specs.Valued.{KeepsEntries, kept_values, meaning}
use Rattle.at_demand.specs.Known.{found_values, known_in}
use Rattle.at_demand.specs.Levels.{AreWholeOrSeen, LevelCode, StandsFor, all_levels, asked_by, fault_in, known_to, level_of, levels_of, root_in, seen_in, todo_in}
use Rattle.at_demand.specs.Searches.{StandsBetween}
use Rattle.at_demand.specs.Turns.{HasComeAbout, HasMet, HaveDemanded, IsBehind, IsFollowed, IsMet, IsSettledBy}
use Rattle.at_evaluate.proofs.Entered.{entered}
use Rattle.at_demand.proofs.Leading.{comes_before}
use Rattle.at_demand.proofs.Marking.{told_among}
use Rattle.at_demand.proofs.Passing.{past_has, past_more}
use Rattle.at_demand.proofs.of_levels.CameBetween.{value_found}
use Rattle.at_demand.proofs.of_levels.Resolving.{either_known, recorded_key, still_known}
use Rattle.at_demand.proofs.of_searches.LookedAlong.{behind_more, have_looked_more, looked_off, looked_on_top}
use Rattle.at_demand.proofs.of_steps.Met.{met_more}

-- what is known is met
pub met_known : (entries : Entries) (found : List (Instance ℕ × Find)) (i : Instance ℕ) → IsSome (known_in entries found i) → IsMet entries found i
met_known entries found i k = elim (either_known (kept_values entries i) (found_values found i) k) [
  | inl a ↦ inl (entered entries i a)
  | inr a ↦ inr (value_found found i a)
]

-- it is settled still
pub settled_more : (before after : Entries) (old new : Question) → KeepsEntries before after →
    Extends old.found.entries new.found.entries →
    ((j : Instance ℕ) → Among j (keys_of old.ended.entries) → Among j (keys_of new.ended.entries)) → (j : Instance ℕ) →
    IsSettledBy before old j →
    IsSettledBy after new j
settled_more before after old new stays finds kept j (inl m) = inl
    (met_more before after stays old.found.entries new.found.entries finds j m)
settled_more before after old new stays finds kept j (inr k) = inr (kept j k)

-- the search of a level, over those that wait, has looked so far, where these are known
abbrev pub HasLookedOver : Rules → Contents ℕ → Known ℕ → List (Instance ℕ × LevelCode) → (root : Instance ℕ) →
    (seen todo : List (Instance ℕ)) → Type 0
HasLookedOver rules look known ws root seen todo =
    HasLookedAt look (meaning rules) (IsBehind look (meaning rules) known) (under (levels_of ws)) root seen todo

-- What levels have looked at is so where more is known.
module _ (rules : Rules) (look : Contents ℕ) (before after : Entries) (old new : Question)
    (stays : KeepsEntries before after)
    (finds : Extends old.found.entries new.found.entries) where
  pub behind_on : (k : Instance ℕ) → IsBehind look (meaning rules) (known_to before old) k → IsBehind look
      (meaning rules) (known_to after new) k
  behind_on = behind_more look (meaning rules) (known_to before old) (known_to after new)
      (let (more, e) = finds in still_known before after old new stays more e)

  pub looked_grown : (ls : List (Level ℕ)) → HaveLookedAt look (meaning rules) (IsBehind look (meaning rules)
      (known_to before old)) ls →
      HaveLookedAt look (meaning rules) (IsBehind look (meaning rules) (known_to after new)) ls
  looked_grown = have_looked_more look (meaning rules) (IsBehind look (meaning rules) (known_to before old))
      (IsBehind look (meaning rules) (known_to after new)) behind_on

  -- what equations demand is settled still, where no more of them have ended
  module _ (kept : (j : Instance ℕ) → Among j (keys_of old.ended.entries) → Among j (keys_of new.ended.entries))
      (back : (i : Instance ℕ) → Among i (keys_of new.ended.entries) → Among i (keys_of old.ended.entries)) where
    pub demanded_on : HaveDemanded rules look before old → HaveDemanded rules look after new
    demanded_on demanded i j k r = settled_more before after old new stays finds kept j (demanded i j (back i k) r)

    -- the levels are as they were
    pub followed_same : all_levels new ≡ all_levels old → IsFollowed rules look before old →
        IsFollowed rules look after new
    followed_same levels f = record {
      demanded = demanded_on f.demanded;
      looked = subst (λ ls. HaveLookedAt look (meaning rules) (IsBehind look (meaning rules) (known_to after new)) ls)
          (sym levels)
          (looked_grown (all_levels old) f.looked);
    }

    -- the last level is off
    pub followed_off : levels_of old.waiting.entries ≡ all_levels new → IsFollowed rules look before old →
        IsFollowed rules look after new
    followed_off levels f = record {
      demanded = demanded_on f.demanded;
      looked = subst (λ ls. HaveLookedAt look (meaning rules) (IsBehind look (meaning rules)
          (known_to after new)) ls) levels
          (looked_grown (levels_of old.waiting.entries) f.looked.1);
    }

    -- and a level more is begun
    pub followed_deeper : (j : Instance ℕ) → level_of new.inst new.level ≡ begun j →
        levels_of new.waiting.entries ≡ all_levels old →
        IsFollowed rules look before old → IsFollowed rules look after new
    followed_deeper j last levels f = record {
      demanded = demanded_on f.demanded;
      looked = subst (λ ls. HaveLookedAt look (meaning rules) (IsBehind look (meaning rules) (known_to after new))
          (level_of new.inst new.level ∷ ls))
          (sym levels)
          (subst (λ (l : Level ℕ). HaveLookedAt look (meaning rules) (IsBehind look (meaning rules)
          (known_to after new)) (l ∷ all_levels old)) (sym last) (
            looked_begun look (meaning rules) told_among (IsBehind look (meaning rules) (known_to after new)) (under
                (all_levels old)) j,
            looked_grown (all_levels old) f.looked,
          ));
    }

-- a search that goes on
module _ (rules : Rules) (s : Shown) (before : Entries) (old : Question) (l : Looked ℕ) (st : StandsBetween rules s before old l) where
  seen_key : (j : Instance ℕ) → Among j (seen_in old.level) → Among j (keys_of old.ended.entries)
  seen_key j a = let covered = st.covered in of_end (covered.ends j (subst (λ is. Among j is) (sym st.is.seen) a))
    where
      of_end : ((e : End ℕ (Formula ℕ)) × Recorded old.ended.entries j e × (fault_in old.level ≡ None → IsMade e)) → Among j (keys_of old.ended.entries)
      of_end (e, r, g) = recorded_key old.ended.entries j e r

  pub root_key : Among (root_in old.level old.inst) (keys_of old.ended.entries)
  root_key = seen_key (root_in old.level old.inst) (subst (λ z. Among z (seen_in old.level)) st.is.root (subst (λ is. Among l.root is) st.is.seen st.rooted))

  -- what was seen isn't under way below, where that has no outcome
  pub shut_seen : (j : Instance ℕ) → Among j (seen_in old.level) → ¬ (IsOpen (contents s) (meaning rules) (under
      (levels_of old.waiting.entries)) j)
  shut_seen j a o = st.come.shut j (subst (λ is. Among j is) (sym st.is.seen) a)
      (subst (λ ls. IsOpen (contents s) (meaning rules) (under ls) j) (sym st.is.below) o)

  -- Another one has the same levels below, and more is known there.
  module _ (after : Entries) (new : Question) (stays : KeepsEntries before after) (finds : Extends old.found.entries new.found.entries)
      (keys : keys_of new.ended.entries ≡ keys_of old.ended.entries)
      (waiting : new.waiting.entries ≡ old.waiting.entries)
      (root : root_in new.level new.inst ≡ root_in old.level old.inst) (wholes : AreWhole (contents s) (meaning rules)
      (known_to after new)) where
    abbrev pub Told : Instance ℕ → Type 0
    Told = IsBehind (contents s) (meaning rules) (known_to after new)

    -- so it has looked at these so far, and has these to do
    abbrev pub LooksNow : (seen todo : List (Instance ℕ)) → Type 0
    LooksNow = HasLookedAt (contents s) (meaning rules) Told (under (levels_of old.waiting.entries))
        (root_in old.level old.inst)

    passed_now : (seen : List (Instance ℕ)) → ((i : Instance ℕ) → Among i (seen_in old.level) → Among i seen) →
        (Among old.inst seen × (¬ (IsOpen (contents s) (meaning rules) (under
        (levels_of old.waiting.entries)) old.inst)))
        ⊎ IsSome (known_to after new old.inst)
    passed_now seen wider = elim st.tried [
      | inl a ↦ (let b = subst (λ is. Among old.inst is) st.is.seen a in inl (wider old.inst b, shut_seen old.inst b))
      | inr k ↦ inr (let (more, e) = finds in still_known before after old new stays more e old.inst k)
    ]

    all_grown : IsFollowed rules (contents s) before old → HaveLookedAt (contents s) (meaning rules) Told
        (all_levels old)
    all_grown f = looked_grown rules (contents s) before after old new stays finds (all_levels old) f.looked

    -- the last one was seen, or is known: without it the search has looked at the same
    pub looked_between : IsFollowed rules (contents s) before old → LooksNow (seen_in old.level) (todo_in old.level)
    looked_between f = looked_off rules (contents s) (known_to after new) wholes (under
        (levels_of old.waiting.entries)) (root_in old.level old.inst)
        (seen_in old.level) old.inst (todo_in old.level) (passed_now (seen_in old.level) (λ i a. a)) ((all_grown f).0)

    pub demanded_so : IsFollowed rules (contents s) before old → HaveDemanded rules (contents s) after new
    demanded_so f = demanded_on rules (contents s) before after old new stays finds (λ j k. subst (λ ks. Among j ks)
        (sym keys) k)
        (λ j k. subst (λ ks. Among j ks) keys k) f.demanded

    pub below_so : IsFollowed rules (contents s) before old → HaveLookedAt (contents s) (meaning rules) Told
        (levels_of old.waiting.entries)
    below_so f = (all_grown f).1

    -- and it has come to the next one
    pub followed_at : (seen todo : List (Instance ℕ)) → seen_in new.level ≡ seen →
        new.inst ∷ todo_in new.level ≡ todo → LooksNow seen todo →
        IsFollowed rules (contents s) before old → IsFollowed rules (contents s) after new
    followed_at seen todo seen_is todo_is h f = record {
      demanded = demanded_so f;
      looked = (
        subst (λ ws. HasLookedOver rules (contents s) (known_to after new) ws (root_in new.level new.inst)
            (seen_in new.level) (new.inst ∷ todo_in new.level))
            (sym waiting)
            (subst (λ z. HasLookedOver rules (contents s) (known_to after new) old.waiting.entries z
            (seen_in new.level) (new.inst ∷ todo_in new.level)) (sym root)
            (subst (λ is. LooksNow is (new.inst ∷ todo_in new.level)) (sym seen_is) (subst (λ is. LooksNow seen is)
            (sym todo_is) h))),
        subst (λ ws. HaveLookedAt (contents s) (meaning rules) Told (levels_of ws)) (sym waiting) (below_so f),
      );
    }

    -- or goes on
    pub followed_step : (seen todo : List (Instance ℕ)) → seen_in new.level ≡ seen → todo_in new.level ≡ todo →
        new.inst ≡ old.inst →
        ((i : Instance ℕ) → Among i (seen_in old.level) → Among i seen) → LooksNow seen todo → IsFollowed rules
        (contents s) before old →
        IsFollowed rules (contents s) after new
    followed_step seen todo seen_is todo_is inst wider h f = followed_at seen (old.inst ∷ todo) seen_is
        (ap (λ ts. new.inst ∷ ts) todo_is ∙ ap (λ i. i ∷ todo) inst)
        (looked_on_top rules (contents s) (known_to after new) wholes (under (levels_of old.waiting.entries))
        (root_in old.level old.inst) seen old.inst todo
        (passed_now seen wider) h) f

    -- or has come back
    pub come_about : (c : Instance ℕ) (rest : List (Instance ℕ)) → todo_in old.level ≡ c ∷ rest →
        seen_in new.level ≡ seen_in old.level →
        new.inst ≡ old.inst → IsOpen (contents s) (meaning rules) (under (levels_of old.waiting.entries)) c →
        HasNone (contents s) (meaning rules) (root_in old.level old.inst) → AreWholeOrSeen rules
        (contents s) after new →
        IsFollowed rules (contents s) before old → HasComeAbout rules (contents s) after new
    come_about c rest todo_is seen_is inst open_at none whole f = record {
      whole = whole;
      last = inl (elim (passed_now (seen_in old.level) (λ i a. a)) [
        | inl a ↦ inl (subst (λ i. Among i (seen_in new.level)) (sym inst) (subst (λ is. Among old.inst is)
            (sym seen_is) a.0))
        | inr k ↦ inr (subst (λ i. IsSome (known_to after new i)) (sym inst) k)
      ]);
      demanded = demanded_so f;
      looked = λ x l. elim (looked_only (contents s) (meaning rules) Told (root_in old.level old.inst)
          (levels_of old.waiting.entries) stacked none (below_so f) x
          (subst (λ q. IsLookedAt (contents s) (meaning rules) q x) asked_is l)) [
            | inl b ↦ inl b
            | inr d ↦ elim d [ inl a ↦ inr (below_now x a) | inr m ↦ at_last x m ]
          ];
    }
      where
        stacked : AreStacked (contents s) (meaning rules) (root_in old.level old.inst) (levels_of old.waiting.entries)
        stacked = subst (λ r. AreStacked (contents s) (meaning rules) r (levels_of old.waiting.entries)) st.is.root
            (subst (λ ls. AreStacked (contents s) (meaning rules) l.root ls) st.is.below st.stacked)

        asked_is : asked_by new ≡ root_of (root_in old.level old.inst) (levels_of old.waiting.entries)
        asked_is = asked_same old new waiting root ∙ sym (starts_at old.waiting.entries old.level old.inst)

        below_now : (x : Instance ℕ) → Among x (under (levels_of old.waiting.entries)) → Among x (under
            (all_levels new))
        below_now x a = inr (back_among x (seen_in new.level) (under (levels_of new.waiting.entries))
            (subst (λ ws. Among x (under (levels_of ws))) (sym waiting) a))

        seen_now : (x : Instance ℕ) → Among x (seen_in old.level) → Among x (under (all_levels new))
        seen_now x a = inr (front_among x (seen_in new.level) (under (levels_of new.waiting.entries)) (subst
            (λ is. Among x is) (sym seen_is) a))

        at_last : (x : Instance ℕ) → LooksAt (contents s) (meaning rules) (under (levels_of old.waiting.entries)) []
            (root_in old.level old.inst ∷ []) x →
            Told x ⊎ Among x (under (all_levels new))
        at_last x m = let h = looked_between f in elim (h.only x m) [
          | inl b ↦ inl b
          | inr d ↦ elim d [
            | inl a ↦ inr (seen_now x a)
            | inr n ↦ inr (below_now x (subst (λ z. Among z (under (levels_of old.waiting.entries)))
                (sym (back_alone (contents s) (meaning rules) (under (levels_of old.waiting.entries))
                (seen_in old.level) rest c x open_at
                (subst (λ ts. LooksAt (contents s) (meaning rules) (under (levels_of old.waiting.entries))
                (seen_in old.level) ts x) todo_is n))) open_at.0))
          ]
        ]

-- what is recorded stays recorded
pub key_stays : (es : List (Instance ℕ × Ended)) (i : Instance ℕ) (x : Ended) (j : Instance ℕ) → Among j (keys_of es) →
    Among j (keys_of (insert_entry same_instance es i x))
key_stays [] i x j h = absurd h
key_stays (e ∷ es) i x j h = by (same_instance i e.0) refl h (key_stays es i x j)
  where
    by : (b : Bool) → same_instance i e.0 ≡ b → Among j (keys_of (e ∷ es)) → (Among j (keys_of es) → Among j (keys_of (insert_entry same_instance es i x))) →
        Among j (keys_of (if b then (e.0, x) ∷ es else e ∷ insert_entry same_instance es i x))
    by true is k on = k
    by false is (inl k) on = inl k
    by false is (inr k) on = inr (on k)

-- where what it waits for has a fault, an equation comes to that, and to what it has met
pub comes_waiting : (rules : Rules) (look : Contents ℕ) (entries : Entries) (found : List (Instance ℕ × Find)) (i n : Instance ℕ) (k : FaultKind)
    (at : Instance ℕ) → EndsSo look (meaning rules) i (Spoilt k at) → Holds look (meaning rules) n (Faults k at) → HasMet rules look entries found i n →
    (j : Instance ℕ) → Comes look (meaning rules) i j → IsMet entries found j ⊎ (j ≡ n)
comes_waiting rules look entries found i n k at ends fault met j (inr (f, form, a)) =
    let same : Made f ≡ Spoilt k at = ends_one look (meaning rules) i (Made f) (Spoilt k at) form ends in absurd cc
comes_waiting rules look entries found i n k at ends fault (js, ls, rest, past) j (inl reach) =
    let run = (meaning rules).formula i in
    let has : Instance ℕ → Value ℕ → Type 0 = λ m v. HasValue look (meaning rules) m v × IsMet entries found m in
    let holds = past_more look has (HasValue look (meaning rules)) (λ m v h. h.0) run (Demands n rest) js ls past in
    elim (comes_before look (meaning rules) run (Demands n rest) n rest js ls j refl none holds reach) [
      | inl a ↦ inl (let (v, h) = past_has look has run (Demands n rest) js ls j past a in h.1)
      | inr e ↦ inr e
    ]
  where
    none : (v : Value ℕ) → HasValue look (meaning rules) n v → ⊥
    none v h = let same : Finds v ≡ Faults k at = once look (meaning rules) n (Finds v) (Faults k at) h fault in absurd cc

-- The last one demands what is under way, and has no outcome.
module _ (rules : Rules) (s : Shown) (entries : Entries) (q : Question) (u : Search ℕ)
    (st : StandsFor rules s entries q u) (j : Instance ℕ)
    (reaches : Reaches (contents s) (HasValue (contents s) (meaning rules)) ((meaning rules).formula q.inst) j)
    (opens : IsOpen (contents s) (meaning rules) (under (all_levels q)) j) where
  abbrev below_last : List (Instance ℕ)
  below_last = under (levels_of q.waiting.entries)

  at_last : IsAt (contents s) (meaning rules) below_last (level_of q.inst q.level)
  at_last = subst (λ ls. IsAt (contents s) (meaning rules) (under ls) (level_of q.inst q.level)) st.is.below
      (subst (λ l. IsAt (contents s) (meaning rules) (under u.below) l) st.is.last st.on.last)

  stacked_last : AreStacked (contents s) (meaning rules) (root_in q.level q.inst) (levels_of q.waiting.entries)
  stacked_last = subst (λ ls. AreStacked (contents s) (meaning rules) (root_in q.level q.inst) ls) st.is.below
      (subst (λ (l : Level ℕ). AreStacked (contents s) (meaning rules) l.root u.below) st.is.last st.on.stacked)

  pub last_stuck : IsStuck (contents s) (meaning rules) q.inst
  last_stuck = (j, record { by = q.inst; led = stays_there q.inst; demands = reaches }, opens.1)

  root_none : HasNone (contents s) (meaning rules) (root_in q.level q.inst)
  root_none =
      let (come, fresh, shut) = at_last in
      stuck_none (contents s) (meaning rules) (root_in q.level q.inst) q.inst
      (come.led q.inst (back_among q.inst (seen_in q.level) (q.inst ∷ todo_in q.level) (inl refl))) last_stuck

  pub come_waiting : HasMet rules (contents s) entries q.found.entries q.inst j → IsFollowed rules
      (contents s) entries q →
      HasComeAbout rules (contents s) entries q
  come_waiting met f = record {
    whole = st.whole;
    last = inr (j, met, opens.1, last_stuck);
    demanded = f.demanded;
    looked = λ x l. elim (looked_only (contents s) (meaning rules) (IsBehind (contents s) (meaning rules)
        (known_to entries q)) (root_in q.level q.inst)
        (levels_of q.waiting.entries) stacked_last root_none f.looked.1 x
        (subst (λ i. IsLookedAt (contents s) (meaning rules) i x) (sym
        (starts_at q.waiting.entries q.level q.inst)) l)) [
          | inl b ↦ inl b
          | inr d ↦ elim d [
            | inl a ↦ inr (inr (back_among x (seen_in q.level) below_last a))
            | inr m ↦ of_last x m
          ]
        ];
  }
    where
      of_last : (x : Instance ℕ) → LooksAt (contents s) (meaning rules) below_last [] (root_in q.level q.inst ∷ []) x →
          IsBehind (contents s) (meaning rules) (known_to entries q) x ⊎ Among x (under (all_levels q))
      of_last x m = let h = f.looked.0 in elim (h.only x m) [
        | inl b ↦ inl b
        | inr d ↦ elim d [
          | inl a ↦ inr (inr (front_among x (seen_in q.level) below_last a))
          | inr n ↦ inr (inl (let (come, fresh, shut) = at_last in
              wanting_alone (contents s) (meaning rules) below_last (seen_in q.level) (todo_in q.level) q.inst x j
              (reaches, opens.1) opens.0 fresh n))
        ]
      ]

-- The equation of the last one has ended so.
module _ (q r : Question) (e : Ending) (h : HasEnded q e r) where
  pub key_ends : (j : Instance ℕ) → Among j (keys_of q.ended.entries) → Among j (keys_of r.ended.entries)
  key_ends j k = subst (λ es. Among j (keys_of es)) (sym h.ended) (key_stays q.ended.entries q.inst _ j k)

  same_found : Extends q.found.entries r.found.entries
  same_found = ([], h.found ∙ sym (append-nil q.found.entries))

  pub followed_ended : (rules : Rules) (look : Contents ℕ) (entries : Entries) →
      ((i : Instance ℕ) → Among i (keys_of r.ended.entries) → Among i (keys_of q.ended.entries) ⊎ (i ≡ q.inst)) →
      ((j : Instance ℕ) → Reaches look (HasValue look (meaning rules)) ((meaning rules).formula q.inst) j →
      IsSettledBy entries q j) →
      AreWhole look (meaning rules) (known_to entries r) → EndsSo look (meaning rules) q.inst (end_of e) → (¬
      (Among q.inst (seen_in q.level))) →
      (¬ (IsOpen look (meaning rules) (under (levels_of q.waiting.entries)) q.inst)) →
      IsFollowed rules look entries q → IsFollowed rules look entries r
  followed_ended rules look entries back last wholes ends fresh off f = record {
    demanded = λ i j k c. settled_more entries entries q r (λ m some. refl) same_found key_ends j (elim (back i k) [
      | inl a ↦ f.demanded i j a c
      | inr same ↦ last j (subst (λ z. Reaches look (HasValue look (meaning rules))
          ((meaning rules).formula z) j) same c)
    ]);
    looked = (
      (let sees = h.sees in
          subst (λ ws. HasLookedOver rules look (known_to entries r) ws (root_in r.level r.inst) (seen_in r.level)
          (r.inst ∷ todo_in r.level)) (sym h.chain.waiting)
          (subst (λ z. HasLookedOver rules look (known_to entries r) q.waiting.entries z (seen_in r.level)
          (r.inst ∷ todo_in r.level)) (sym h.root)
          (subst (λ is. HasLookedOver rules look (known_to entries r) q.waiting.entries (root_in q.level q.inst) is
          (r.inst ∷ todo_in r.level)) (sym sees.seen)
          (subst (λ ts. HasLookedOver rules look (known_to entries r) q.waiting.entries (root_in q.level q.inst)
          (q.inst ∷ seen_in q.level) (r.inst ∷ ts))
          (sym sees.todo)
          (subst (λ z. HasLookedOver rules look (known_to entries r) q.waiting.entries (root_in q.level q.inst)
          (q.inst ∷ seen_in q.level)
          (z ∷ (asked_in (end_of e) ++ todo_in q.level))) (sym h.chain.inst) seen_now))))),
      subst (λ ws. HaveLookedAt look (meaning rules) (IsBehind look (meaning rules) (known_to entries r))
          (levels_of ws)) (sym h.chain.waiting) more.1,
    );
  }
    where
      more : HaveLookedAt look (meaning rules) (IsBehind look (meaning rules) (known_to entries r)) (all_levels q)
      more = looked_grown rules look entries entries q r (λ m some. refl) same_found (all_levels q) f.looked

      seen_now : HasLookedOver rules look (known_to entries r) q.waiting.entries (root_in q.level q.inst)
          (q.inst ∷ seen_in q.level)
          (q.inst ∷ (asked_in (end_of e) ++ todo_in q.level))
      seen_now = looked_on_top rules look (known_to entries r) wholes (under (levels_of q.waiting.entries))
          (root_in q.level q.inst)
          (q.inst ∷ seen_in q.level) q.inst (asked_in (end_of e) ++ todo_in q.level) (inl (inl refl, off))
          (looked_on look (meaning rules) told_among (IsBehind look (meaning rules) (known_to entries r)) (under
          (levels_of q.waiting.entries))
          (root_in q.level q.inst) (seen_in q.level) q.inst (todo_in q.level) more.0 (end_of e) ends fresh off)
