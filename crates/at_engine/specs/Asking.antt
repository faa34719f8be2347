-- What the words of a question ask for.
use Rattle.std.specs.Prelude.{◌≡◌, ℕ, List, Some}
use Rattle.at_model.specs.Alike.{InstanceLike, Names}
use Rattle.at_model.specs.Instances.{AnyText}
use Rattle.at_model.specs.Paths.{Node}
use Rattle.at_model.specs.Rules.{Rules}
use Rattle.at_model.specs.Run.{Instance}
use Rattle.at_model.specs.TypedRuns.{IsWellTyped}
use Rattle.at_model.specs.Lines.{Place}
use Rattle.at_model.specs.Machine.{Verdict, Asks, Refuses, node_named}
use Rattle.at_model.specs.Names.{IsName}
use Rattle.at_protocol.specs.ReplyView.{code_view}
use Rattle.at_store.specs.Shown.{Shown, path}
use Rattle.at_cache.specs.Kept.{Entries}
use Rattle.at_cache.specs.Traced.{Memories}
use Rattle.at_body.specs.Typed.{class_shown}
use Rattle.at_evaluate.specs.Right.{IsThere}
use Rattle.at_engine.specs.Engines.{rules_of, state_of, IsHeld, IsSound}
use Rattle.at_engine.specs.Marks.{Mark, AreThere}
use Rattle.at_engine.specs.Naming.{IsNumberOf}
use Rattle.at_engine.specs.declared.engine.Engine.{Engine}
use Rattle.at_engine.specs.declared.engine.asking.Asked.{Asked}
use Rattle.at_engine.specs.declared.engine.asking.Asked.TheVariants as asked

-- the number's instance is the one that is asked for, and well typed
pub record IsInstanceOf (rules : Rules) (s : Shown) (v : Verdict) (i : Instance ℕ) : Type 0 where
  pub named : Instance Node
  pub asks : v ≡ Asks named
  pub like : InstanceLike (Names (path s)) i named
  pub typed : IsWellTyped rules (class_shown s) AnyText i

-- the verdict asks for the instance, or refuses so
abbrev pub IsAskedBy : Rules → Shown → Verdict → Asked → Type 0
IsAskedBy rules s v (asked.Instance i) = IsInstanceOf rules s v i
IsAskedBy rules s v (asked.Refused r) = v ≡ Refuses (code_view r)

-- places can be looked up by these marks: the engine is held, and the node of each mark is there
pub record CanLookUp {K : Type 0} (entries : K → Entries) (memories : K → Memories)
    (e : Engine K) (marks : List Mark) : Type 0 where
  pub sound : IsHeld entries memories e
  pub there : AreThere (path e.store) marks

-- the instance can be evaluated: the engine is sound, and its tree has the instance, well typed
pub record CanEvaluate {K : Type 0} (entries : K → Entries) (memories : K → Memories)
    (e : Engine K) (i : Instance ℕ) : Type 0 where
  pub sound : IsSound entries memories e
  pub there : IsThere e.store i
  pub well_typed : IsWellTyped (rules_of e) (class_shown e.store) AnyText i

-- an attribute can be asked for: the engine is sound, and the attribute can have that name
pub record CanAsk {K : Type 0} (entries : K → Entries) (memories : K → Memories)
    (e : Engine K) (attribute : List ℕ) : Type 0 where
  pub sound : IsSound entries memories e
  pub named : IsName attribute

-- it can be asked for of the node, which a place of the session names
pub record CanAskOf {K : Type 0} (entries : K → Entries) (memories : K → Memories)
    (e : Engine K) (session node : ℕ) (attribute : List ℕ) : Type 0 where
  pub asks : CanAsk entries memories e attribute
  pub place : Place
  pub number : IsNumberOf e.store (node_named (rules_of e).classes (state_of e) session place) (Some node)
