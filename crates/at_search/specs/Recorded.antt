-- What is recorded of how equations ended, and how far a search has come, in the words of `at_model`.
use Rattle.std.specs.Prelude.{◌≡◌, ◌⊎◌, ℕ, suc, ◌+◌, Bool, true, false, ◌||◌, cond, List, [], ◌∷◌, Option, None, Some, IsSome, length, reverse}
use Rattle.std.specs.Map.{keys_of, lookup}
use Rattle.at_model.specs.Run.{Instance, Contents, FaultKind, Known}
use Rattle.at_model.specs.Meaning.{Among}
use Rattle.at_model.specs.of_fixpoints.Formulas.{Formula, Forms}
use Rattle.at_model.specs.of_fixpoints.Fixpoints.{End, Made, Spoilt, AreFormed, Meets, EndsSo}
use Rattle.at_model.specs.of_fixpoints.Searching.{asked_in}
use Rattle.at_model.specs.of_fixpoints.Searched.{IsWhole}
use Rattle.at_body.specs.Same.{same_instance}
use Rattle.at_body.specs.Values.{fault_view}
use Rattle.at_search.specs.declared.ended.Ended.{Ended}
use Rattle.at_search.specs.declared.ended.Ending.{Ending}
use Rattle.at_search.specs.declared.ended.Ending.TheVariants as ending
use Rattle.at_search.specs.declared.ended.Fault.{Fault}
use Rattle.at_search.specs.declared.ended.Formed.{Formed}
use Rattle.at_search.specs.declared.search.Search.{Search}

-- the end that it stands for
abbrev pub end_of : Ending → End ℕ (Formula ℕ)
end_of (ending.Formed f) = Made f.formula
end_of (ending.Spoilt s) = Spoilt (fault_view s.kind) s.at

-- both stand for one fault
abbrev pub copied_from : (old new : Fault) → Type 0
copied_from old new = (new.kind ≡ old.kind) × (new.at ≡ old.at)

-- the equation of the instance is recorded to have ended so
abbrev pub Recorded : List (Instance ℕ × Ended) → Instance ℕ → End ℕ (Formula ℕ) → Type 0
Recorded ended i e = (x : Ended) × (lookup (same_instance i) ended ≡ Some x) × (end_of x.ending ≡ e)

-- it is recorded to have come to that formula, with what it looked at and took
abbrev pub IsRecordedForm : List (Instance ℕ × Ended) → Instance ℕ → Formed → Type 0
IsRecordedForm ended i f = (x : Ended) × (lookup (same_instance i) ended ≡ Some x) × (x.ending ≡ ending.Formed f)

-- it is marked whole there
abbrev pub IsMarked : List (Instance ℕ × Ended) → Instance ℕ → Type 0
IsMarked ended i = (x : Ended) × (lookup (same_instance i) ended ≡ Some x) × (x.is_whole ≡ true)

-- it is known, or marked whole: nothing is to be looked at there
abbrev pub IsSettled : Known ℕ → List (Instance ℕ × Ended) → Instance ℕ → Type 0
IsSettled known ended i = IsSome (known i) ⊎ IsMarked ended i

-- what is recorded is how equations end
abbrev pub AreFacts : Contents ℕ → Forms ℕ → List (Instance ℕ × Ended) → Type 0
AreFacts look forms ended = (i : Instance ℕ) (e : End ℕ (Formula ℕ)) → Recorded ended i e → EndsSo look forms i e

-- what is known is whole: formulas lead from it to finitely many formulas
abbrev pub AreWhole : Contents ℕ → Forms ℕ → Known ℕ → Type 0
AreWhole look forms known = (i : Instance ℕ) → IsSome (known i) → IsWhole look forms i

-- what is marked whole and isn't known leads to an equation that gives no formula
abbrev pub AreMarksRight : Contents ℕ → Forms ℕ → Known ℕ → List (Instance ℕ × Ended) → Type 0
AreMarksRight look forms known ended = (i : Instance ℕ) → IsMarked ended i → known i ≡ None → AreFormed (EndsSo look forms) i → ⊥

-- those that a search has seen, the last one first
abbrev pub seen_by : Search → List (Instance ℕ)
seen_by s = reverse (keys_of s.seen.entries)

-- those that it has to do, the next one first
abbrev pub todo_of : Search → List (Instance ℕ)
todo_of s = reverse s.todo.items

-- the fault was met, perhaps as the first one
abbrev pub HasMetFirst : Fault → (old new : Option Fault) → Type 0
HasMetFirst fault None new = (f : Fault) × (new ≡ Some f) × copied_from fault f
HasMetFirst fault (Some f) new = new ≡ Some f

-- so was that of an ending, if it is one
abbrev pub HasMetIn : Ending → (old new : Option Fault) → Type 0
HasMetIn (ending.Formed f) old new = new ≡ old
HasMetIn (ending.Spoilt s) old new = HasMetFirst s old new

-- From the root a search meets this fault; or, where it has met none, what is met from here is met from the root.
abbrev pub MetFrom : Contents ℕ → Forms ℕ → Instance ℕ → (seen todo : List (Instance ℕ)) → Option Fault → Type 0
MetFrom look forms root seen todo None =
    (k : FaultKind) (at : Instance ℕ) → Meets (EndsSo look forms) seen todo k at → Meets (EndsSo look forms) [] (root ∷ []) k at
MetFrom look forms root seen todo (Some f) = Meets (EndsSo look forms) [] (root ∷ []) (fault_view f.kind) f.at

-- so it is still; or there is an equation that hasn't ended
abbrev pub HasLooked : Contents ℕ → Forms ℕ → Instance ℕ → Search → Bool → Type 0
HasLooked look forms root s true = MetFrom look forms root (seen_by s) (todo_of s) s.fault
HasLooked look forms root s false = Unit {0}

-- it is among these
abbrev pub is_in : List (Instance ℕ) → Instance ℕ → Bool
is_in [] i = false
is_in (j ∷ js) i = same_instance i j || is_in js i

-- what it takes to go over what is recorded of an equation, with what that leads to
abbrev pub cost_of : Ended → ℕ
cost_of x = suc (length (asked_in (end_of x.ending)))

-- and over all that wasn't seen
abbrev pub left_by : List (Instance ℕ) → List (Instance ℕ × Ended) → ℕ
left_by seen [] = 0
left_by seen (p ∷ ps) = cond (is_in seen p.0) 0 (cost_of p.1) + left_by seen ps

-- how much a search over what is recorded still has to go through
abbrev pub work_left : List (Instance ℕ × Ended) → (seen todo : List (Instance ℕ)) → ℕ
work_left ended seen todo = left_by seen ended + length todo
