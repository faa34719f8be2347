-- Evaluations in one go, part by part: what an expression comes to, and what comes to what is kept meanwhile.
use Rattle.std.specs.Prelude.{◌≡◌, ◌⊎◌, ⊤, ℕ, Bool, List, ◌++◌, [], Option, None, Some, false, true, IsSome, IfNone, IfOk, OnOk, Result}
use Rattle.at_model.specs.Run.{Value, Instance, Location, Contents, Known, Run, Gives, Demands}
use Rattle.at_model.specs.Classes.{Classes}
use Rattle.at_model.specs.Rules.{Rules, is_inherited, is_lazy, start_of}
use Rattle.at_model.specs.Meaning.{Reaches}
use Rattle.at_model.specs.of_fixpoints.Fixpoints.{HasValue}
use Rattle.at_model.specs.Nested.{Evaluates}
use Rattle.at_store.specs.Shown.{Shown, contents}
use Rattle.at_rules.specs.Bodies.{body_view}
use Rattle.at_rules.specs.declared.body.Body.{Body}
use Rattle.at_body.specs.Rest.{ev}
use Rattle.at_body.specs.Standing.{Place}
use Rattle.at_body.specs.Values.{value_view}
use Rattle.at_body.specs.declared.todo.Fold.{Fold}
use Rattle.at_body.specs.declared.todo.Fold.TheVariants as fold
use Rattle.at_body.specs.declared.value.Value.{Value as ValueCode}
use Rattle.at_evaluate.specs.Near.{AsksEach, asked}
use Rattle.at_evaluate.specs.Passing.{ArePassedBy}
use Rattle.at_cache.specs.Kept.{Entries}
use Rattle.at_cache.specs.Traced.{Memories}
use Rattle.at_evaluate.specs.declared.direct.Direct.{Direct}
use Rattle.at_evaluate.specs.declared.direct.Level.{Level}
use Rattle.at_evaluate.specs.Valued.{equations, meaning, kept_values, IsKept, KeepsEntries}
use Rattle.at_evaluate.specs.Inner.{AreKnown, Gains, HasRecalled, HasTold, IsEvaluated, StayRemembered, is_inner, known_by}
use Rattle.at_evaluate.specs.Made.{Makes}
use Rattle.at_evaluate.specs.Right.{AreRight, IsThere}
use Rattle.at_evaluate.specs.Led.{AreLed, DemandsOn}
use Rattle.at_evaluate.specs.Sparing.{AreSpare, Counts, IsWorthy}
use Rattle.at_evaluate.specs.Traces.{AreJustified, AreOfTree, StayJustified}

-- What an evaluation in one go goes by: what is kept, what can be kept again, what is remembered for the question, and the work up to now, with
-- how many values were made.
pub record Held : Type 0 where
  pub entries : Entries
  pub memories : Memories
  pub found : List (Instance ℕ × ValueCode)
  pub work : ℕ
  pub made : ℕ

abbrev pub held : Entries → Memories → List (Instance ℕ × ValueCode) → (work made : ℕ) → Held
held entries memories found work made = record { entries = entries; memories = memories; found = found; work = work; made = made }

-- what those of a question go by now
abbrev pub held_by : {K : Type 0} → (K → Entries) → (K → Memories) → K → Direct → Held
held_by entries memories keeper d = held (entries keeper) (memories keeper) d.found.entries d.work d.made

-- the values that are known
abbrev pub values_in : Held → Known ℕ
values_in h = known_by h.entries h.found

-- All of that is right.
pub record IsHeld (rules : Rules) (look : Contents ℕ) (h : Held) : Type 0 where
  pub known : AreKnown rules look h.entries h.found
  pub justified : AreJustified rules look h.memories

-- no value of the instance is kept
abbrev pub IsUnkept : Held → Instance ℕ → Type 0
IsUnkept h i = kept_values h.entries i ≡ None

-- the demand of an instance
abbrev pub demand : Instance ℕ → Run ℕ (Value ℕ)
demand j = Demands j (λ v. Gives v)

-- From `old` to `new` the evaluation r has come to a: what it and its inner ones looked at and took stands with the level now, behind what
-- stood there. What it took is known.
pub record HasCome {A : Type 0} (rules : Rules) (look : Contents ℕ) (h : Held) (old new : Level) (r : Run ℕ A) (a : A) : Type 0 where
  pub depth : ℕ
  pub looks : List (Location ℕ)
  pub takes : List (Instance ℕ)
  pub evaluates : Evaluates look (equations rules) (values_in h) (is_inner rules) depth r a looks takes
  pub reads : new.reads ≡ old.reads ++ looks
  pub uses : new.uses.items ≡ old.uses.items ++ takes

-- whatever is known, the evaluation has come to the value, or nothing has changed
abbrev pub MayHaveCome : Rules → Contents ℕ → (old new : Level) → Run ℕ (Value ℕ) → Option ValueCode → Type 0
MayHaveCome rules look old new r None = new ≡ old
MayHaveCome rules look old new r (Some v) = (h : Held) → HasCome rules look h old new r (value_view v)

-- Within a fold at that place the expression asks each element for the attribute, which is evaluated by the element's own equation in the
-- one that asks.
pub record AsksEachInner (rules : Rules) (p : Place) (b : Body) (attribute : ℕ) : Type 0 where
  pub asks : AsksEach p b attribute
  pub inner : is_lazy rules attribute ≡ false
  pub own : is_inherited rules attribute ≡ false

-- so it does at that place, which is within the fold, at the element n
pub record AsksInner (rules : Rules) (p : Place) (b : Body) (n attribute : ℕ) : Type 0 where
  pub asks : (classes : Classes) → ev classes (body_view b) p ≡ demand (asked n attribute p.passed)
  pub inner : is_lazy rules attribute ≡ false
  pub own : is_inherited rules attribute ≡ false

-- the evaluation demands m, behind demands that have values
abbrev pub Demanded : {A : Type 0} → Rules → Contents ℕ → Run ℕ A → Instance ℕ → Type 0
Demanded rules look r m = Reaches look (HasValue look (meaning rules)) r m

-- each instance that it demands so is one of the tree
abbrev pub AreDemandedThere : {A : Type 0} → Rules → Shown → Run ℕ A → Type 0
AreDemandedThere rules s r = (m : Instance ℕ) → Demanded rules (contents s) r m → IsThere s m

-- a fold that goes on as it was where its expression comes to false
abbrev pub Seeks : Fold → Type 0
Seeks (fold.Sum total) = ⊥
Seeks f = ⊤

-- A fold at that place, which seeks, asks each element for the attribute; those in front of the rest came to false, and nothing was taken.
pub record HasPassedBy (rules : Rules) (look : Contents ℕ) (p : Place) (f : Fold) (b : Body) (attribute : ℕ) (old new : Level)
    (nodes rest : List ℕ) : Type 0 where
  pub seeks : Seeks f
  pub asks : AsksEachInner rules p b attribute
  pub passed : ArePassedBy rules look attribute p.passed old.reads new.reads nodes rest
  pub uses : new ≡ record old { reads = new.reads }

-- so it is, or nothing has changed
abbrev pub MayHavePassedBy : Rules → Contents ℕ → Place → Fold → Body → (old new : Level) → (nodes rest : List ℕ) → Type 0
MayHavePassedBy rules look p f b old new nodes rest =
    ((rest ≡ nodes) × (new ≡ old)) ⊎ ((attribute : ℕ) × HasPassedBy rules look p f b attribute old new nodes rest)

-- this is held, and all is right with it, where nothing is remembered
abbrev pub AreHeld : Rules → Shown → Entries → Memories → (work made : ℕ) → Type 0
AreHeld rules s entries m work made = IsHeld rules (contents s) (held entries m [] work made)

-- What was held stays; what came to be kept is worthy of an instance that the evaluation demands, and from which demands lead to it,
-- and the work counts it; all is right still, and spare where it was.
pub record HasGained {A : Type 0} (rules : Rules) (s : Shown) (r : Run ℕ A) (old new : Held) : Type 0 where
  pub keeps : KeepsEntries old.entries new.entries
  pub still : StayRemembered old.found new.found
  pub worthy : (j : Instance ℕ) → kept_values old.entries j ≡ None → IsKept new.entries j
      → (m : Instance ℕ) × Demanded rules (contents s) r m × IsWorthy rules (contents s) m j
  pub demanded : (j : Instance ℕ) → kept_values old.entries j ≡ None → IsKept new.entries j
      → (m : Instance ℕ) × Demanded rules (contents s) r m × DemandsOn (contents s) (meaning rules) m j
  pub right : IsHeld rules (contents s) new
  pub stays : AreDemandedThere rules s r → AreRight rules s old.entries → AreRight rules s new.entries
  pub there : AreDemandedThere rules s r → AreOfTree s old.memories → AreOfTree s new.memories
  pub spare : AreSpare rules (contents s) old.entries → AreSpare rules (contents s) new.entries
  pub counts : Counts old.entries new.entries old.work new.work
  pub makes : Makes old.entries new.entries old.memories new.memories old.made new.made

-- What was held was `old` and is `new` now, for the instance that is asked for: what came to be kept is worthy of it, and demands
-- lead from it to that; what was remembered is so still, and all is right, what can be kept again, too.
pub record HasGrown (rules : Rules) (s : Shown) (i : Instance ℕ) (old new : Held) : Type 0 where
  pub gains : Gains rules s i old.entries new.entries old.found new.found old.work new.work
  pub demanded : AreLed rules s i old.entries new.entries
  pub traces : StayJustified rules s i old.memories new.memories
  pub makes : Makes old.entries new.entries old.memories new.memories old.made new.made

-- all is right, for an instance whose attribute is lazy, or isn't, and isn't circular
pub record IsHeldFor (rules : Rules) (look : Contents ℕ) (h : Held) (lazily : Bool) (i : Instance ℕ) : Type 0 where
  pub lazy : is_lazy rules i.attribute ≡ lazily
  pub own : start_of rules i.attribute ≡ None
  pub held : IsHeld rules look h

-- so it is for one whose attribute isn't circular
pub record IsHeldFrom (rules : Rules) (look : Contents ℕ) (h : Held) (i : Instance ℕ) : Type 0 where
  pub own : start_of rules i.attribute ≡ None
  pub held : IsHeld rules look h

-- all is right, for a lazy instance that isn't circular, and of which no value is kept
pub record IsHeldAfresh (rules : Rules) (look : Contents ℕ) (h : Held) (i : Instance ℕ) : Type 0 where
  pub lazy : is_lazy rules i.attribute ≡ true
  pub own : start_of rules i.attribute ≡ None
  pub unkept : IsUnkept h i
  pub held : IsHeld rules look h

-- and its evaluation has come to v, with what stands with the level
pub record IsEvaluatedFor (rules : Rules) (look : Contents ℕ) (h : Held) (lazily : Bool) (i : Instance ℕ) (v : Value ℕ) (below : Level) : Type 0 where
  pub lazy : is_lazy rules i.attribute ≡ lazily
  pub own : start_of rules i.attribute ≡ None
  pub held : IsHeld rules look h
  pub come : IsEvaluated rules look (values_in h) i v below.reads below.uses.items

-- a lazy one that has no entry was evaluated so
pub record IsEvaluatedAfresh (rules : Rules) (look : Contents ℕ) (h : Held) (i : Instance ℕ) (v : Value ℕ) (below : Level) : Type 0 where
  pub absent : h.entries i ≡ None
  pub evaluated : IsEvaluatedFor rules look h true i v below

-- the instance is told what comes out, and what was held has grown for it
pub record EndsTold {E : Type 0} (rules : Rules) (s : Shown) (i : Instance ℕ) (old new : Held) (before after : Level)
    (r : Result ValueCode E) : Type 0 where
  pub told : IfOk r (λ v. HasTold rules (contents s) (values_in new) before after i (value_view v))
  pub grown : HasGrown rules s i old new

-- so it is where the value is known before
pub record EndsTaken {A E : Type 0} (rules : Rules) (s : Shown) (i : Instance ℕ) (v : Value ℕ) (old new : Held) (before after : Level)
    (r : Result A E) : Type 0 where
  pub told : OnOk r (HasTold rules (contents s) (values_in new) before after i v)
  pub grown : HasGrown rules s i old new

-- and where it may be known; else no value of it is kept
pub record EndsRecalled {E : Type 0} (rules : Rules) (s : Shown) (i : Instance ℕ) (old new : Held) (before after : Level)
    (r : Result (Option ValueCode) E) : Type 0 where
  pub recalled : IfOk r (HasRecalled rules (contents s) (values_in new) before after i)
  pub unkept : IfOk r (λ o. IfNone o (IsUnkept new i))
  pub grown : HasGrown rules s i old new

-- The evaluation of the instance comes to what comes out, and what was held has grown for it. If it comes to a value, none came to be kept
-- of the instance itself.
pub record EndsEvaluated {E : Type 0} (rules : Rules) (s : Shown) (i : Instance ℕ) (old new : Held) (before after : Level)
    (r : Result ValueCode E) : Type 0 where
  pub come : IfOk r (λ v. HasCome rules (contents s) new before after (equations rules i) (value_view v))
  pub unkept : OnOk r (IsUnkept old i → IsUnkept new i)
  pub grown : HasGrown rules s i old new

-- the evaluation r of an expression comes to the view of what comes out, and what was held has gained what r demands
pub record EvaluatesTo {A C E : Type 0} (rules : Rules) (s : Shown) (r : Run ℕ A) (view : C → A) (old new : Held)
    (before after : Level) (x : Result C E) : Type 0 where
  pub come : IfOk x (λ v. HasCome rules (contents s) new before after r (view v))
  pub gains : HasGained rules s r old new

-- the instance has an entry, and what was held has grown for it; nothing is remembered
pub record HasEntered {A E : Type 0} (rules : Rules) (s : Shown) (i : Instance ℕ) (old new : Held) (r : Result A E) : Type 0 where
  pub stands : OnOk r (IsSome (new.entries i))
  pub found : new.found ≡ old.found
  pub grown : HasGrown rules s i old new

-- nothing was looked at or taken
pub record IsEmptied (l : Level) : Type 0 where
  pub reads : l.reads ≡ []
  pub uses : l.uses.items ≡ []

-- what was found stays, and the work, and what was made
pub record LeavesFinds (old new : Direct) : Type 0 where
  pub work : new.work ≡ old.work
  pub made : new.made ≡ old.made
  pub found : new.found.entries ≡ old.found.entries

-- so it does, and the level is empty
pub record GivesLevel (old new : Direct) (l : Level) : Type 0 where
  pub work : new.work ≡ old.work
  pub made : new.made ≡ old.made
  pub found : new.found.entries ≡ old.found.entries
  pub reads : l.reads ≡ []
  pub uses : l.uses.items ≡ []
