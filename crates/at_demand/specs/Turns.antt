-- Questions that are given turns, as code has them.
use Rattle.std.specs.Prelude.{◌≡◌, ◌⊎◌, ℕ, ◌+◌, ◌<◌, ◌≤◌, true, List, [], ◌∷◌, ◌++◌, map, Option, Some, None, IsSome, IfOk, Result}
use Rattle.std.specs.Option.{option_map}
use Rattle.std.specs.Map.{keys_of}
use Rattle.at_model.specs.Run.{Value, Instance, Location, Contents, Known, Run, Demands}
use Rattle.at_model.specs.Follow.{Past}
use Rattle.at_model.specs.Rules.{Rules, is_lazy}
use Rattle.at_model.specs.Meaning.{Answer, Equations, Among, Outcome, Reaches}
use Rattle.at_model.specs.of_fixpoints.Circles.{HasNone}
use Rattle.at_model.specs.of_fixpoints.Fixpoints.{EndsSo, HasValue, LeadsOver}
use Rattle.at_model.specs.Turning.{UnderWay, asked, keys, turns_of}
use Rattle.at_model.specs.Turning.{IsOn as ChainIsOn, Silent as ChainSilent, Turned as ChainTurned}
use Rattle.at_model.specs.of_fixpoints.Formulas.{Formula, Forms}
use Rattle.at_model.specs.of_fixpoints.Met.{HaveLookedAt, IsLookedAt}
use Rattle.at_model.specs.of_fixpoints.Resting.{Comes}
use Rattle.at_model.specs.of_fixpoints.Searching.{IsStuck, Search, Silent, Turned, under}
use Rattle.at_store.specs.Shown.{Shown, contents}
use Rattle.at_body.specs.Values.{value_view}
use Rattle.at_body.specs.declared.value.Value.{Value as ValueCode}
use Rattle.at_cache.specs.Kept.{Entries}
use Rattle.at_cache.specs.Traced.{Memories}
use Rattle.at_demand.specs.Again.{KeepsAgain}
use Rattle.at_demand.specs.declared.evaluation.Find.{Find}
use Rattle.at_demand.specs.declared.question.Question.{Question}
use Rattle.at_rules.specs.Circular.{HasNoneCircular}
use Rattle.at_demand.specs.declared.answer.Answer.{Answer as AnswerCode}
use Rattle.at_demand.specs.Known.{answer_view, FoundKept, IsFound}
use Rattle.at_evaluate.specs.Valued.{equations, meaning, kept_values, IsKept}
use Rattle.at_demand.specs.Levels.{AreWholeOrSeen, LevelCode, StandsByLevels, StandsFor, all_levels, asked_by, known_to, root_in, seen_in}
use Rattle.at_demand.specs.Covering.{AreWhole}
use Rattle.at_evaluate.specs.Meant.{AreRightValues}
use Rattle.at_demand.specs.Only.{AreLean}
use Rattle.at_evaluate.specs.Led.{AreLed}
use Rattle.at_demand.specs.Sound.{AreSound}
use Rattle.at_demand.specs.Worth.{AreSettled, MayAddLazy}

-- the values that were found
abbrev pub found_of : List (Instance ℕ × Find) → List (Instance ℕ × Value ℕ)
found_of fs = map (λ (e : Instance ℕ × Find). (e.0, value_view e.1.value)) fs

-- the values that came to be kept
abbrev pub passed_of : List (Instance ℕ × ValueCode) → List (Instance ℕ × Value ℕ)
passed_of ps = map (λ (e : Instance ℕ × ValueCode). (e.0, value_view e.1)) ps

-- how far the question has come
abbrev pub under_way : Question → UnderWay ℕ
under_way q = record { waiting = keys_of q.waiting.entries; last = q.inst; found = found_of q.found.entries ++ passed_of q.passed.entries }

-- Where no attribute is circular, no equation ends but by a value or by the answer, no level is a search, and the question is a chain of
-- demands, which was given so many turns.
pub record IsStandingPlainly (rules : Rules) (s : Shown) (q : Question) : Type 0 where
  pub ended : q.ended.entries ≡ []
  pub level : q.level ≡ None
  pub levels : (i : Instance ℕ) (l : LevelCode) → Among (i, l) q.waiting.entries → l ≡ None
  pub on : ChainIsOn (contents s) (equations rules) (asked (under_way q)) (under_way q)
  pub turns : q.turns ≡ turns_of (under_way q)

-- The question was posted on the tree as it is, where that is kept: as long as what is kept is sound it stands for a search, of well-typed
-- instances; what was found holds, and what it took of what is kept is kept; all that it rests on stands with it.
pub record IsStanding (rules : Rules) (s : Shown) (entries : Entries) (q : Question) : Type 0 where
  pub levels : AreSound rules s entries → StandsByLevels rules s entries q
  pub plainly : HasNoneCircular rules → IsStandingPlainly rules s q
  pub kept : FoundKept entries q.found.entries
  pub passed : (i : Instance ℕ) (v : Value ℕ) → Among (i, v) (passed_of q.passed.entries) → kept_values entries i ≡ Some v
  pub whole : AreWhole rules (contents s) q.found.entries

-- an instance that has an entry, or was found
abbrev pub IsMet : Entries → List (Instance ℕ × Find) → Instance ℕ → Type 0
IsMet entries found j = IsSome (entries j) ⊎ IsFound found j

-- the evaluation of i has come to the demand of n, past values of what is met
abbrev pub HasMet : Rules → Contents ℕ → Entries → List (Instance ℕ × Find) → (i n : Instance ℕ) → Type 0
HasMet rules look entries found i n = (js : List (Instance ℕ)) × (ls : List (Location ℕ)) × (rest : Value ℕ → Run ℕ (Formula ℕ))
    × Past look (λ j v. HasValue look (meaning rules) j v × IsMet entries found j) ((meaning rules).formula i) js ls (Demands n rest)

-- the root of the level of the first of these, or that one
abbrev pub next_root : List (Instance ℕ × LevelCode) → Instance ℕ → Instance ℕ
next_root [] n = n
next_root (e ∷ es) n = root_in e.1 e.0

-- so each of these has come to the demand of the root of the next one's level, and the last one to that of n
abbrev pub HaveMet : Rules → Contents ℕ → Entries → List (Instance ℕ × Find) → List (Instance ℕ × LevelCode) → Instance ℕ → Type 0
HaveMet rules look entries found [] n = Unit {0}
HaveMet rules look entries found (e ∷ es) n = HasMet rules look entries found e.0 (next_root es n) × HaveMet rules look entries found es n

-- the equation of i comes to what is met alone
abbrev pub HasMetAll : Rules → Contents ℕ → Entries → List (Instance ℕ × Find) → Instance ℕ → Type 0
HasMetAll rules look entries found i = (j : Instance ℕ) → Comes look (meaning rules) i j → IsMet entries found j

-- it is met, or its equation has ended
abbrev pub IsSettledBy : Entries → Question → Instance ℕ → Type 0
IsSettledBy entries q j = IsMet entries q.found.entries j ⊎ Among j (keys_of q.ended.entries)

-- so is each one that an equation demands that has ended
abbrev pub HaveDemanded : Rules → Contents ℕ → Entries → Question → Type 0
HaveDemanded rules look entries q = (i j : Instance ℕ) → Among i (keys_of q.ended.entries)
    → Reaches look (HasValue look (meaning rules)) ((meaning rules).formula i) j → IsSettledBy entries q j

-- formulas lead to it from one that is known
abbrev pub IsBehind : Contents ℕ → Forms ℕ → Known ℕ → Instance ℕ → Type 0
IsBehind look forms known k = (c : Instance ℕ) × IsSome (known c) × LeadsOver (EndsSo look forms) c k

-- What equations demand that have ended is met, or has ended. And the searches of the levels, which pass what is known, have looked at what they
-- look at where they pass nothing, so far as they have come, but for what is behind known ones.
pub record IsFollowed (rules : Rules) (look : Contents ℕ) (entries : Entries) (q : Question) : Type 0 where
  pub demanded : HaveDemanded rules look entries q
  pub looked : HaveLookedAt look (meaning rules) (IsBehind look (meaning rules) (known_to entries q)) (all_levels q)

-- The last one was seen at its level, or is known; or its equation, which is tried, has come to the demand of one that has no outcome.
abbrev pub IsLastDone : Rules → Contents ℕ → Entries → Question → Type 0
IsLastDone rules look entries q = (Among q.inst (seen_in q.level) ⊎ IsSome (known_to entries q q.inst))
    ⊎ ((n : Instance ℕ) × HasMet rules look entries q.found.entries q.inst n × HasNone look (meaning rules) n
    × IsStuck look (meaning rules) q.inst)

-- So it is where the question is answered by a circle: all at which the search for what was asked looks is behind a known one, or the levels have
-- come to it.
pub record HasComeAbout (rules : Rules) (look : Contents ℕ) (entries : Entries) (q : Question) : Type 0 where
  pub whole : AreWholeOrSeen rules look entries q
  pub last : IsLastDone rules look entries q
  pub demanded : HaveDemanded rules look entries q
  pub looked : (x : Instance ℕ) → IsLookedAt look (meaning rules) (asked_by q) x
      → IsBehind look (meaning rules) (known_to entries q) x ⊎ Among x (under (all_levels q))

-- nothing else stands with what was found than what its instances rest on and lead to, what was found of lazy attributes is
-- kept, those that wait have met nothing else, and all to which equations have come that have ended is followed
pub record IsSparingTurns (rules : Rules) (look : Contents ℕ) (entries : Entries) (q : Question) : Type 0 where
  pub lean : AreLean rules look q.found.entries
  pub settled : AreSettled rules entries q.found.entries
  pub met : HaveMet rules look entries q.found.entries q.waiting.entries (root_in q.level q.inst)
  pub followed : IsFollowed rules look entries q

-- It was given a turn so, where these values were kept before: where no attribute is circular, a turn of its chain, and else of the search for
-- which it stood. For that it stands then, where it isn't answered.
pub record HasTurnedBy {E : Type 0} (rules : Rules) (s : Shown) (before after : Entries) (old new : Question) (r : Result (Option AnswerCode) E)
    : Type 0 where
  pub plainly : HasNoneCircular rules → IfOk r (λ o. ChainTurned (contents s) (equations rules) (kept_values before) (under_way old) (under_way new)
      (option_map answer_view o))
  pub searched : (u : Search ℕ) → StandsFor rules s before old u → IfOk r (λ o. (v : Search ℕ)
      × Turned (contents s) (meaning rules) (kept_values before) u v (option_map answer_view o) × (o ≡ None → StandsFor rules s after new v))

-- It was given so many turns: as many as it may be, without an answer; or none of them was answered but the last.
abbrev pub HasGiven : Contents ℕ → Equations ℕ → (limit given : ℕ) → UnderWay ℕ → UnderWay ℕ → Option (Answer ℕ) → Type 0
HasGiven look equation limit given u new None = (given ≡ limit) × ChainSilent look equation given u new
HasGiven look equation limit given u new (Some a) = (before : ℕ) × (mid : UnderWay ℕ) × (kept : Known ℕ) × (given ≡ before + 1) × (given ≤ limit)
    × ChainSilent look equation before u mid × ChainTurned look equation kept mid new (Some a)

-- so many of the search
abbrev pub HasGivenBy : Contents ℕ → Forms ℕ → (limit given : ℕ) → Search ℕ → Search ℕ → Option (Answer ℕ) → Type 0
HasGivenBy look forms limit given u new None = (given ≡ limit) × Silent look forms given u new
HasGivenBy look forms limit given u new (Some a) = (before : ℕ) × (mid : Search ℕ) × (kept : Known ℕ) × (given ≡ before + 1) × (given ≤ limit)
    × Silent look forms before u mid × Turned look forms kept mid new (Some a)

-- one of these, whose values may come to be kept in a turn: the last one, what levels under way have seen, and what the last level goes over,
-- since its equation has ended before
abbrev pub MayComeIn : Search ℕ → Instance ℕ → Type 0
MayComeIn u j = Among j (under (u.last ∷ u.below)) ⊎ Among j u.ended

-- What a turn of the search lets come to what is kept: values of lazy ones among these, and entries without a value of them, or of instances
-- that had been found. Of these, how many come also hangs on how many turns go on with one trial.
pub record GainsInTurn (rules : Rules) (old new : Entries) (u : Search ℕ) : Type 0 where
  pub last : (j : Instance ℕ) → (kept_values new j ≡ kept_values old j) ⊎ (MayComeIn u j × IsKept new j × (is_lazy rules j.attribute ≡ true))
  pub others : (j : Instance ℕ) → IsSome (new j) → IsSome (old j) ⊎ (IsKept new j ⊎ (((o : Outcome ℕ) × Among (j, o) u.told) ⊎ MayComeIn u j))

-- where no attribute is circular: the value of the instance to which the chain had come, and entries without a value
pub record GainsInChain (rules : Rules) (old new : Entries) (u : UnderWay ℕ) : Type 0 where
  pub last : MayAddLazy rules old new u.last
  pub others : (j : Instance ℕ) → IsSome (new j) → IsSome (old j) ⊎ (IsKept new j ⊎ Among j (keys u.found))

-- So many single turns were given, one behind the other: each tried the one equation to which the question had come, and lets no more
-- come to what is kept than a turn may. None but the last one answers it. Before each, where turns keep again, what could be kept again
-- at the beginning may come to be kept, with no evaluation, of the one that is tried, of what it used, and so on; demands lead there. What
-- is kept is right behind each.
pub data AreTurns (rules : Rules) (s : Shown) (m : Memories) : (given : ℕ) → (before : Entries) → Search ℕ → (after : Entries) → Search ℕ
    → Option (Answer ℕ) → Type 0 where
  none : (e : Entries) (u : Search ℕ) → AreTurns rules s m 0 e u e u None
  again : (n : ℕ) (d e f : Entries) (u v : Search ℕ) → AreTurns rules s m n d u e v None → m.in_turns ≡ true → KeepsAgain m v.last.next e f
      → AreLed rules s v.last.next e f → AreRightValues (contents s) (meaning rules) (kept_values f) → AreTurns rules s m n d u f v None
  more : (n : ℕ) (d e f : Entries) (u v w : Search ℕ) (o : Option (Answer ℕ)) → AreTurns rules s m n d u e v None
      → Turned (contents s) (meaning rules) (kept_values e) v w o → GainsInTurn rules e f v
      → AreRightValues (contents s) (meaning rules) (kept_values f) → AreTurns rules s m (n + 1) d u f w o

-- the same of a chain
pub data AreTurnsOfChain (rules : Rules) (s : Shown) (m : Memories) : (given : ℕ) → (before : Entries) → UnderWay ℕ → (after : Entries) → UnderWay ℕ
    → Option (Answer ℕ) → Type 0 where
  none : (e : Entries) (u : UnderWay ℕ) → AreTurnsOfChain rules s m 0 e u e u None
  again : (n : ℕ) (d e f : Entries) (u v : UnderWay ℕ) → AreTurnsOfChain rules s m n d u e v None → m.in_turns ≡ true → KeepsAgain m v.last e f
      → AreTurnsOfChain rules s m n d u f v None
  more : (n : ℕ) (d e f : Entries) (u v w : UnderWay ℕ) (o : Option (Answer ℕ)) → AreTurnsOfChain rules s m n d u e v None
      → ChainTurned (contents s) (equations rules) (kept_values e) v w o → GainsInChain rules e f v → AreTurnsOfChain rules s m (n + 1) d u f w o

-- Memory ran out in one of so many turns at most. Those before it were given so, and that one lets no more come to what is kept than
-- a turn may.
pub record BreaksOff (rules : Rules) (s : Shown) (m : Memories) (limit : ℕ) (before : Entries) (u : Search ℕ) (after : Entries) : Type 0 where
  pub given : ℕ
  pub fewer : given < limit
  pub mid : Entries
  pub way : Search ℕ
  pub turns : AreTurns rules s m given before u mid way None
  pub last : GainsInTurn rules mid after way

-- the same of a chain
pub record BreaksOffChain (rules : Rules) (s : Shown) (m : Memories) (limit : ℕ) (before : Entries) (u : UnderWay ℕ) (after : Entries) : Type 0 where
  pub given : ℕ
  pub fewer : given < limit
  pub mid : Entries
  pub way : UnderWay ℕ
  pub turns : AreTurnsOfChain rules s m given before u mid way None
  pub last : GainsInChain rules mid after way
