-- How far an evaluation comes by itself, and how it goes on when it is told a value.
use Rattle.std.specs.Prelude.{◌≡◌, List, [], ◌∷◌, ◌++◌, Some}
use Rattle.at_model.specs.Run.{Value, Instance, Location, Content, Contents, FaultKind, Run, Gives, Fails, Looks, Demands, Known}

-- how far an evaluation comes without the value of another instance
pub data Reached (N : Type 0) (A : Type 0) : Type 0 where
  Ends : A → Reached N A
  Stops : FaultKind → Reached N A
  Waits : Instance N → (Value N → Run N A) → Reached N A

-- that, and the locations looked at up to there, behind those from before
abbrev pub follow : {N A : Type 0} → Contents N → List (Location N) → Run N A → Reached N A × List (Location N)
follow look seen (Gives a) = (Ends a, seen)
follow look seen (Fails f) = (Stops f, seen)
follow look seen (Looks l k) = follow look (seen ++ l ∷ []) (k (look l))
follow look seen (Demands j k) = (Waits j k, seen)

-- an evaluation comes to another: past demands, each told a value that its instance has, and past looks
pub data Past {N A : Type 0} (tree : Contents N) (has : Instance N → Value N → Type 0) : Run N A → List (Instance N) → List (Location N) → Run N A
    → Type 0 where
  here : (r : Run N A) → Past tree has r [] [] r
  looked : (l : Location N) (k : Content l → Run N A) {js : List (Instance N)} {ls : List (Location N)} {s : Run N A} → Past tree has (k (tree l)) js ls s
      → Past tree has (Looks l k) js (l ∷ ls) s
  told : (j : Instance N) (k : Value N → Run N A) (v : Value N) {js : List (Instance N)} {ls : List (Location N)} {s : Run N A} → has j v
      → Past tree has (k v) js ls s → Past tree has (Demands j k) (j ∷ js) ls s

-- the value is the one that is known of the instance
abbrev pub Has : {N : Type 0} → Known N → Instance N → Value N → Type 0
Has known j v = known j ≡ Some v
