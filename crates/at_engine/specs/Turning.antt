-- What turns come to, by the position of their question.
use Rattle.std.specs.declared.alloc.AllocError.{AllocError}
use Rattle.std.specs.Prelude.{◌≡◌, ◌⊎◌, ℕ, ◌+◌, ◌<◌, ◌≤◌, Bool, true, false, List, Option, Some, None, Result, Ok, Err, IfNone, IfSome, length, remove, slice_get, slice_set}
use Rattle.at_model.specs.Alike.{AnswerLike, InstanceLike, Names}
use Rattle.at_model.specs.Lines.{Command}
use Rattle.at_model.specs.Machine.{State, Asks, Refuses, Waits, answer_form, obeyed}
use Rattle.at_model.specs.Meaning.{Answer}
use Rattle.at_model.specs.Paths.{Node}
use Rattle.at_model.specs.Replies.{Code, Form as FormOf, Reply}
use Rattle.at_model.specs.Rules.{Rules}
use Rattle.at_model.specs.Run.{Contents, Instance}
use Rattle.at_model.specs.Turning.{posted}
use Rattle.at_model.specs.of_fixpoints.Searching.{Search, posted as search_posted}
use Rattle.at_protocol.specs.ReplyView.{code_view}
use Rattle.at_protocol.specs.declared.reply.Form.{Form}
use Rattle.at_rules.specs.Circular.{HasNoneCircular}
use Rattle.at_store.specs.Shown.{Shown, contents, path, tree}
use Rattle.at_cache.specs.Kept.{Entries}
use Rattle.at_cache.specs.Traced.{Memories}
use Rattle.at_demand.specs.Answered.{HasWorthyFor}
use Rattle.at_demand.specs.Levels.{StandsFor, asked_by}
use Rattle.at_demand.specs.Turns.{AreTurns as AreTurnsOfSearch, AreTurnsOfChain, BreaksOff as BreaksOffSearch, BreaksOffChain, IsSparingTurns, under_way}
use Rattle.at_demand.specs.declared.demand.Demand.{Demand}
use Rattle.at_demand.specs.declared.question.Question.{Question}
use Rattle.at_engine.specs.Engines.{rules_of, state_of, IsHeld, IsSound, IsTyped}
use Rattle.at_engine.specs.Holding.{IsBegunFor, words_verdict}
use Rattle.at_engine.specs.Keeping.{IsSpare}
use Rattle.at_engine.specs.Posted.{came_to, posted_view, turns_given, IsRenewed}
use Rattle.at_engine.specs.Telling.{IsAnswerTo}
use Rattle.at_engine.specs.declared.engine.Engine.{Engine}
use Rattle.at_engine.specs.declared.engine.saying.Told.{Told}
use Rattle.at_engine.specs.declared.engine.turning.Begun.{Begun}
use Rattle.at_engine.specs.declared.engine.turning.Begun.TheVariants as begun
use Rattle.at_engine.specs.declared.posts.Posted.{Posted}
use Rattle.at_engine.specs.declared.posts.Posts.{Posts}

-- the question stands at the position
abbrev pub StandsAt : List Posted → ℕ → Posted → Type 0
StandsAt items position p = slice_get items position ≡ Some p

-- The question at the position has come so far; the others are as they were.
pub record Reopens (position : ℕ) (old new : Posts) (p : Posted) (o : Option Question) : Type 0 where
  pub count : new.count ≡ old.count
  pub items : new.items.items ≡ slice_set old.items.items position (record p { question = o })

-- What was done for the question at the position was taken out of it, and all else is as it was; where no question stands
-- there, all is.
pub record TakesOut (position : ℕ) (old new : Posts) (taken : Option Question) : Type 0 where
  pub count : new.count ≡ old.count
  pub there : (p : Posted) → StandsAt old.items.items position p → (taken ≡ p.question) × Reopens position old new p None
  pub none : slice_get old.items.items position ≡ None → (taken ≡ None) × (new.items.items ≡ old.items.items)

-- The question at the position has that done for it, and all else is as it was; where no question stands there, all is.
pub record PutsBack (position : ℕ) (old new : Posts) (q : Question) : Type 0 where
  pub count : new.count ≡ old.count
  pub there : (p : Posted) → StandsAt old.items.items position p → Reopens position old new p (Some q)
  pub none : slice_get old.items.items position ≡ None → new.items.items ≡ old.items.items

-- The question at the position has begun anew; where none stands there, all is as it was.
pub record Renews (look : ℕ → Option Node) (position : ℕ) (old new : Posts) : Type 0 where
  pub count : new.count ≡ old.count
  pub renewed : (p : Posted) → slice_get old.items.items position ≡ Some p → IsRenewed look position p old.items.items new.items.items
  pub none : slice_get old.items.items position ≡ None → new.items.items ≡ old.items.items

-- the question for the instance stands for that search, which is posted where nothing was done for it
abbrev pub StandsAs : Rules → Shown → Entries → Option Question → Instance ℕ → Search ℕ → Type 0
StandsAs rules s entries None i u = u ≡ search_posted i
StandsAs rules s entries (Some q) i u = StandsFor rules s entries q u

-- it is the one for which that was done; or nothing was, and it stands for what is posted
abbrev pub CameFrom : Rules → Shown → Entries → Option Question → Question → Type 0
CameFrom rules s entries None q = (under_way q ≡ posted (asked_by q)) × StandsFor rules s entries q (search_posted (asked_by q))
CameFrom rules s entries (Some p) q = q ≡ p

-- what is done for the question: that which was, or what there is of a question for the instance
pub record IsBegun (rules : Rules) (s : Shown) (entries : Entries) (p : Posted) (o : Option Question) (q : Question) : Type 0 where
  pub begun : IsBegunFor rules s entries p q
  pub came : CameFrom rules s entries o q

-- a turn begins so
abbrev pub Begins : Rules → Shown → Entries → Posted → Option Question → Begun → Type 0
Begins rules s entries p o (begun.Question q) = IsBegun rules s entries p o q
Begins rules s entries p o (begun.Refused r) = words_verdict rules (tree s) (posted_view (path s) p) ≡ Refuses (code_view r)

-- and where what is kept is spare, so is what was done for it
abbrev pub BeginsSparing : Rules → Contents ℕ → Entries → Begun → Type 0
BeginsSparing rules look entries (begun.Question q) = IsSparingTurns rules look entries q
BeginsSparing rules look entries (begun.Refused r) = Unit {0}

-- the words of the question are refused
pub record AreRefused {K : Type 0} (e : Engine K) (p : Posted) : Type 0 where
  pub code : Code
  pub words : words_verdict (rules_of e) (tree e.store) (posted_view (path e.store) p) ≡ Refuses code

-- they ask for an instance, and for that one it holds
pub record AreAsked {K : Type 0} (e : Engine K) (p : Posted) (Holds : Instance ℕ → Type 0) : Type 0 where
  pub inst : Instance ℕ
  pub named : Instance Node
  pub words : words_verdict (rules_of e) (tree e.store) (posted_view (path e.store) p) ≡ Asks named
  pub like : InstanceLike (Names (path e.store)) inst named
  pub holds : Holds inst

-- no more turns than may be given: any number, where there is no limit
abbrev pub IsWithin : (limit : Option ℕ) → ℕ → Type 0
IsWithin None n = Unit {0}
IsWithin (Some limit) n = n ≤ limit

-- So many turns were given, and counted so: as many as may be, where none had an answer, or up to the one that had. Where there is no
-- limit one has, and they aren't counted.
abbrev pub CountsTurns : {A : Type 0} → (limit : Option ℕ) → (given counted : ℕ) → Option A → Type 0
CountsTurns None given counted None = ⊥
CountsTurns None given counted (Some a) = Unit {0}
CountsTurns (Some limit) given counted None = (counted ≡ given) × (given ≡ limit)
CountsTurns (Some limit) given counted (Some a) = (counted ≡ given) × (given ≤ limit)

-- So many single turns were given to the question for the instance, and led there, and to these values that are kept. It stood for a
-- search, and they are turns of each one for which it stood; and where no attribute is circular, turns of its chain. Where none of
-- them answers it, it stands for where these have come, and so many turns more are counted. Before each what these memories have may be
-- kept again.
pub record AreTurns (rules : Rules) (s : Shown) (m : Memories) (given : ℕ) (before : Entries) (o : Option Question) (i : Instance ℕ)
    (after : Entries) (end : Question) (a : Option (Answer ℕ)) : Type 0 where
  pub stood : (u : Search ℕ) × StandsAs rules s before o i u
  pub searched : (u : Search ℕ) → StandsAs rules s before o i u
      → (v : Search ℕ) × AreTurnsOfSearch rules s m given before u after v a × IfNone a (StandsFor rules s after end v)
  pub plainly : HasNoneCircular rules → AreTurnsOfChain rules s m given before (came_to o i) after (under_way end) a
  pub counted : IfNone a (end.turns ≡ turns_given o + given)

-- memory ran out in one of so many turns at most, and those before it were given so
pub record BreaksOff (rules : Rules) (s : Shown) (m : Memories) (limit : ℕ) (before : Entries) (o : Option Question) (i : Instance ℕ)
    (after : Entries) : Type 0 where
  pub stood : (u : Search ℕ) × StandsAs rules s before o i u
  pub searched : (u : Search ℕ) → StandsAs rules s before o i u → BreaksOffSearch rules s m limit before u after
  pub plainly : HasNoneCircular rules → BreaksOffChain rules s m limit before (came_to o i) after

-- memory ran out in one of the turns that may be given
abbrev pub BreaksOffIn : Rules → Shown → Memories → (limit : Option ℕ) → Entries → Option Question → Instance ℕ → Entries
    → Type 0
BreaksOffIn rules s m limit before o i after = (n : ℕ) × IsWithin limit n × BreaksOff rules s m n before o i after

-- From where the question for the instance had come the turns led there, and to these values that are kept.
abbrev pub TurnsLead : {K : Type 0} → (entries : K → Entries) → (memories : K → Memories) → Engine K → Demand K → Posted
    → (given : ℕ) → Instance ℕ → Question → Option (Answer ℕ) → Type 0
TurnsLead entries memories e d p given i end o =
    AreTurns (rules_of e) e.store (memories e.demand.keeper) given (entries e.demand.keeper) p.question i
    (entries d.keeper) end o

-- They led to the answer that is told so. Where what is kept was spare, all that is worthy of the instance is kept; for a circle, where
-- no attribute is circular.
pub record ComesToEnd {K : Type 0} (entries : K → Entries) (memories : K → Memories) (e : Engine K) (d : Demand K)
    (p : Posted) (given : ℕ) (told : FormOf) (i : Instance ℕ) : Type 0 where
  pub end : Question
  pub answer : Answer ℕ
  pub named : Answer Node
  pub turns : TurnsLead entries memories e d p given i end (Some answer)
  pub like : AnswerLike (Names (path e.store)) answer named
  pub form : told ≡ answer_form (rules_of e) (tree e.store) named
  pub all : IsSpare entries e → HasWorthyFor (rules_of e) (contents e.store) i answer (entries d.keeper)

-- By so many turns the question is answered so: its words are refused, and nothing was tried; or each tried one equation.
abbrev pub EndsSo : {K : Type 0} → (entries : K → Entries) → (memories : K → Memories) → Engine K → Demand K
    → Posted → (given : ℕ) → FormOf → Type 0
EndsSo entries memories e d p given told = (AreRefused e p × (d ≡ e.demand) × (given ≡ 1))
    ⊎ AreAsked e p (ComesToEnd entries memories e d p given told)

-- Memory ran out: before its words were looked at, and nothing was tried; or in a turn, or behind the last one.
abbrev pub RunsOut : {K : Type 0} → (entries : K → Entries) → (memories : K → Memories) → (limit : Option ℕ) → Engine K
    → Demand K → Posted → Type 0
RunsOut entries memories limit e d p = (d ≡ e.demand)
    ⊎ AreAsked e p (λ i. BreaksOffIn (rules_of e) e.store (memories e.demand.keeper) limit (entries e.demand.keeper)
    p.question i (entries d.keeper))

-- the question has no answer by so many turns, each of which tried one equation
abbrev pub StaysOpen : {K : Type 0} → (entries : K → Entries) → (memories : K → Memories) → Engine K → Demand K → Posted
    → (given : ℕ) → Option Question → Type 0
StaysOpen entries memories e d p given now =
    AreAsked e p (λ i. (q : Question) × (now ≡ Some q) × TurnsLead entries memories e d p given i q None)

-- what turns of the question have done, and how many are counted
abbrev pub Came : {K E : Type 0} → (entries : K → Entries) → (memories : K → Memories) → (limit : Option ℕ)
    → Engine K → Demand K → Posted → Option Question → Result (ℕ × Option Form) E → Type 0
Came entries memories limit e d p now (Ok (counted, None)) =
    (given : ℕ) × CountsTurns {A = Form} limit given counted None × StaysOpen entries memories e d p given now
Came entries memories limit e d p now (Ok (counted, Some f)) =
    (given : ℕ) × CountsTurns limit given counted (Some f) × (said : IsAnswerTo (rules_of e) (state_of e) (posted_view (path e.store) p) f)
    × EndsSo entries memories e d p given said.form
Came entries memories limit e d p now (Err e') = RunsOut entries memories limit e d p

-- so it is of the question at the position, which has come so far now
pub record HasGone {K E : Type 0} (entries : K → Entries) (memories : K → Memories) (limit : Option ℕ)
    (old new : Engine K) (position : ℕ) (p : Posted) (r : Result (ℕ × Option Form) E) : Type 0 where
  pub now : Option Question
  pub reopens : Reopens position old.posts new.posts p now
  pub came : Came entries memories limit old new.demand p now r

-- So many turns of the question have answered it, and it is told so; or they ended for want of memory.
abbrev pub AnswersIn : {K : Type 0} → (entries : K → Entries) → (memories : K → Memories) → (limit : Option ℕ)
    → Engine K → Demand K → Posted → (given : ℕ) → Bool × Reply → Type 0
AnswersIn entries memories limit e d p given (false, reply) = EndsSo entries memories e d p given reply.form
AnswersIn entries memories limit e d p given (true, reply) = RunsOut entries memories limit e d p

-- so all turns have done that a question needs, whose answer is told
abbrev pub HasEnded : {K E : Type 0} → (entries : K → Entries) → (memories : K → Memories) → Engine K → Demand K
    → Posted → Result Form E → Type 0
HasEnded entries memories e d p (Ok f) =
    (given : ℕ) × (said : IsAnswerTo (rules_of e) (state_of e) (posted_view (path e.store) p) f)
    × EndsSo entries memories e d p given said.form
HasEnded entries memories e d p (Err e') = RunsOut entries memories None e d p

-- what is told of the question, where this is its answer, on the tree of that version
abbrev pub told_of : Posted → (version : ℕ) → Result Form AllocError → Told
told_of p version r = record { session = Some p.session; done = Some (record { number = p.number; version = version }); form = r }

-- the command waits for the question at the position
pub record IsAwaited (rules : Rules) (s : State) (session : ℕ) (c : Command) (items : List Posted) (position : ℕ) : Type 0 where
  pub question : Posted
  pub there : StandsAt items position question
  pub waits : obeyed rules s session c ≡ Waits question.number

-- the engine is held, and a question stands at the position
pub record IsHeldAt {K : Type 0} (entries : K → Entries) (memories : K → Memories)
    (e : Engine K) (position : ℕ) : Type 0 where
  pub sound : IsHeld entries memories e
  pub within : position < length e.posts.items.items

-- that question can be given turns
pub record CanTurn {K : Type 0} (entries : K → Entries) (memories : K → Memories)
    (e : Engine K) (position : ℕ) : Type 0 where
  pub sound : IsHeld entries memories e
  pub typed : IsTyped (rules_of e) (state_of e)
  pub within : position < length e.posts.items.items

-- and there are some to give
pub record CanGoOn {K : Type 0} (entries : K → Entries) (memories : K → Memories)
    (e : Engine K) (position : ℕ) (limit : Option ℕ) : Type 0 where
  pub ready : CanTurn entries memories e position
  pub some : IfSome limit (λ n. 0 < n)

-- turns can be given to whichever question is the first
pub record CanSpend {K : Type 0} (entries : K → Entries) (memories : K → Memories)
    (e : Engine K) (limit : Option ℕ) : Type 0 where
  pub sound : IsSound entries memories e
  pub some : IfSome limit (λ n. 0 < n)

-- That was done with the question at the position: nothing but questions and what is kept has changed, the engine is held, and
-- what was kept spare is so still, where groups are kept whole.
pub record Attends {K : Type 0} (entries : K → Entries) (memories : K → Memories)
    (old new : Engine K) (position : ℕ) (Done : Posted → Type 0) (Whole : Type 0) : Type 0 where
  pub done : (p : Posted) → StandsAt old.posts.items.items position p → Done p
  pub rest : new ≡ record old { demand = new.demand; posts = new.posts }
  pub spare : Whole → IsSpare entries old → IsSpare entries new
  pub sound : IsHeld entries memories new

-- The question at the position was taken off, and that was told of it.
pub record TakesOff {K : Type 0} (entries : K → Entries) (memories : K → Memories)
    (old new : Engine K) (position : ℕ) (IsTold : Posted → Type 0) : Type 0 where
  pub told : (p : Posted) → StandsAt old.posts.items.items position p → IsTold p
  pub items : new.posts.items.items ≡ remove old.posts.items.items position
  pub rest : new ≡ record old { posts = record new.posts { count = old.posts.count } }
  pub spare : IsSpare entries old → IsSpare entries new
  pub sound : IsHeld entries memories new
