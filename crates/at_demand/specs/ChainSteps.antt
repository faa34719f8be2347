-- What the steps of a question lead to.
use Rattle.std.specs.Prelude.{◌≡◌, ℕ, true, false, [], ◌∷◌, ◌++◌, List, Option, Some, None}
use Rattle.std.specs.Global.{Box}
use Rattle.std.specs.Map.{keys_of, lookup}
use Rattle.indexmap.specs.IndexMap.{insert_entry}
use Rattle.at_model.specs.Run.{Instance}
use Rattle.at_model.specs.Meaning.{Among}
use Rattle.at_model.specs.of_fixpoints.Searching.{asked_in}
use Rattle.at_body.specs.Same.{same_instance}
use Rattle.at_body.specs.declared.value.Value.{Value as ValueCode}
use Rattle.at_search.specs.Recorded.{HasMetIn, end_of}
use Rattle.at_search.specs.declared.ended.Ended.{Ended}
use Rattle.at_search.specs.declared.ended.Ending.{Ending}
use Rattle.at_search.specs.declared.ended.Ending.TheVariants as ending
use Rattle.at_search.specs.declared.search.Search.{Search as SearchCode}
use Rattle.at_demand.specs.declared.answer.Answer.{Answer as AnswerCode}
use Rattle.at_demand.specs.declared.answer.Answer.TheVariants as answer
use Rattle.at_demand.specs.declared.evaluation.Find.{Find}
use Rattle.at_demand.specs.declared.question.Question.{Question}
use Rattle.at_demand.specs.Levels.{LevelCode, fault_in, root_in, seen_in, todo_in}

-- what was found stays, what came to be kept, how equations ended, and the turns
pub record KeepsFinds (old new : Question) : Type 0 where
  pub found : new.found.entries ≡ old.found.entries
  pub passed : new.passed.entries ≡ old.passed.entries
  pub ended : new.ended.entries ≡ old.ended.entries
  pub turns : new.turns ≡ old.turns

-- the chain stays
pub record KeepsChain (old new : Question) : Type 0 where
  pub waiting : new.waiting.entries ≡ old.waiting.entries
  pub inst : new.inst ≡ old.inst

-- nothing has changed of it
pub record IsUnchanged (old new : Question) : Type 0 where
  pub chain : KeepsChain old new
  pub level : new.level ≡ old.level
  pub finds : KeepsFinds old new

-- the last level is off the chain, and the one that waited for its root is the last
pub record IsRisen (old new : Question) (i : Instance ℕ) : Type 0 where
  pub taken : i ≡ root_in old.level old.inst
  pub waits : old.waiting.entries ≡ new.waiting.entries ++ (new.inst, new.level) ∷ []
  pub finds : KeepsFinds old new

-- so it is, or none waited for it
abbrev pub HasRisen : (old new : Question) → Option (Instance ℕ) → Type 0
HasRisen old new None = (old.waiting.entries ≡ []) × IsUnchanged old new
HasRisen old new (Some i) = IsRisen old new i

-- the last level is off the chain, and its root is one more of those that were found
pub record IsSettledTo (old new : Question) (f : Find) : Type 0 where
  pub waits : old.waiting.entries ≡ new.waiting.entries ++ (new.inst, new.level) ∷ []
  pub found : new.found.entries ≡ insert_entry same_instance old.found.entries (root_in old.level old.inst) f
  pub passed : new.passed.entries ≡ old.passed.entries
  pub ended : new.ended.entries ≡ old.ended.entries
  pub turns : new.turns ≡ old.turns

-- none waited for it, and its value is the answer
pub record IsEnded (old new : Question) (v : ValueCode) (a : AnswerCode) : Type 0 where
  pub alone : old.waiting.entries ≡ []
  pub same : IsUnchanged old new
  pub is : a ≡ answer.Value v

-- the one or the other
abbrev pub HasSettled : Question → Find → Question → Option AnswerCode → Type 0
HasSettled old f new None = IsSettledTo old new f
HasSettled old f new (Some a) = IsEnded old new f.value a

-- the last level is off the chain, and its root is one more of those that came to be kept
pub record IsPassedTo (old new : Question) (v : ValueCode) : Type 0 where
  pub waits : old.waiting.entries ≡ new.waiting.entries ++ (new.inst, new.level) ∷ []
  pub found : new.found.entries ≡ old.found.entries
  pub passed : new.passed.entries ≡ insert_entry same_instance old.passed.entries (root_in old.level old.inst) v
  pub ended : new.ended.entries ≡ old.ended.entries
  pub turns : new.turns ≡ old.turns

-- so it is, or its value is the answer
abbrev pub HasPassedOn : Question → ValueCode → Question → Option AnswerCode → Type 0
HasPassedOn old v new None = IsPassedTo old new v
HasPassedOn old v new (Some a) = IsEnded old new v a

-- the last one waits in its level for one that is tried now, at a level of its own
pub record IsDeeper (old new : Question) (j : Instance ℕ) : Type 0 where
  pub waiting : new.waiting.entries ≡ insert_entry same_instance old.waiting.entries old.inst old.level
  pub inst : new.inst ≡ j
  pub level : new.level ≡ None
  pub finds : KeepsFinds old new

-- nothing has changed of it, however its last level is held
pub record IsAlike (old new : Question) : Type 0 where
  pub chain : KeepsChain old new
  pub finds : KeepsFinds old new
  pub root : root_in new.level new.inst ≡ root_in old.level old.inst
  pub seen : seen_in new.level ≡ seen_in old.level
  pub todo : todo_in new.level ≡ todo_in old.level
  pub fault : fault_in new.level ≡ fault_in old.level

-- and the last level is a search
pub record IsSearched (old new : Question) : Type 0 where
  pub alike : IsAlike old new
  pub is : (b : Box SearchCode) × (new.level ≡ Some b)

-- the search of a level has seen the instance, whose equation ended so
pub record SeesNext (old new : LevelCode) (i : Instance ℕ) (e : Ending) : Type 0 where
  pub seen : seen_in new ≡ i ∷ seen_in old
  pub todo : todo_in new ≡ asked_in (end_of e) ++ todo_in old
  pub met : HasMetIn e (fault_in old) (fault_in new)

-- so it has, if the level is a search
abbrev pub SeesIn : (old new : LevelCode) → Instance ℕ → Ending → Type 0
SeesIn None new i e = new ≡ None
SeesIn (Some b) new i e = SeesNext (Some b) new i e

-- that of the last level has, if it is a search
pub record HasSeen (old : Question) (i : Instance ℕ) (e : Ending) (new : Question) : Type 0 where
  pub chain : KeepsChain old new
  pub finds : KeepsFinds old new
  pub root : root_in new.level new.inst ≡ root_in old.level old.inst
  pub sees : SeesIn old.level new.level i e

-- an equation is whole as it ends by a fault
abbrev pub ended_by : Ending → Ended
ended_by (ending.Formed f) = record { ending = ending.Formed f; is_whole = false }
ended_by (ending.Spoilt s) = record { ending = ending.Spoilt s; is_whole = true }

-- The equation of the last instance ended so: that is recorded, and the search of its level has seen it.
pub record HasEnded (old : Question) (e : Ending) (new : Question) : Type 0 where
  pub chain : KeepsChain old new
  pub root : root_in new.level new.inst ≡ root_in old.level old.inst
  pub sees : SeesNext old.level new.level old.inst e
  pub ended : new.ended.entries ≡ insert_entry same_instance old.ended.entries old.inst (ended_by e)
  pub found : new.found.entries ≡ old.found.entries
  pub passed : new.passed.entries ≡ old.passed.entries
  pub turns : new.turns ≡ old.turns

-- but for what the search of its last level has seen, and has to do, it is as it was
pub record KeepsRest (old new : Question) : Type 0 where
  pub chain : KeepsChain old new
  pub finds : KeepsFinds old new
  pub root : root_in new.level new.inst ≡ root_in old.level old.inst

-- the search of the last level has seen an instance as its equation is recorded to have ended
abbrev pub HasGoneOver : Question → Instance ℕ → Question → Type 0
HasGoneOver old i new = elim (lookup (same_instance i) old.ended.entries) [ None ↦ new ≡ old | Some x ↦ HasSeen old i x.ending new ]

-- the next one that it is to look at is taken off, so it is a search
pub record HasNext (old new : Question) (i : Instance ℕ) : Type 0 where
  pub is : (b : Box SearchCode) × (new.level ≡ Some b)
  pub chain : KeepsChain old new
  pub finds : KeepsFinds old new
  pub root : root_in new.level new.inst ≡ root_in old.level old.inst
  pub todo : todo_in old.level ≡ i ∷ todo_in new.level
  pub seen : seen_in new.level ≡ seen_in old.level
  pub fault : fault_in new.level ≡ fault_in old.level

-- the last level has no fault any more
pub record HasLostFault (old new : Question) : Type 0 where
  pub chain : KeepsChain old new
  pub finds : KeepsFinds old new
  pub root : root_in new.level new.inst ≡ root_in old.level old.inst
  pub todo : todo_in new.level ≡ todo_in old.level
  pub seen : seen_in new.level ≡ seen_in old.level
  pub fault : fault_in new.level ≡ None

-- it has seen nothing any more
pub record HasLostSeen (old new : Question) : Type 0 where
  pub chain : KeepsChain old new
  pub finds : KeepsFinds old new
  pub root : root_in new.level new.inst ≡ root_in old.level old.inst
  pub todo : todo_in new.level ≡ todo_in old.level
  pub seen : seen_in new.level ≡ []
  pub fault : fault_in new.level ≡ fault_in old.level

-- just these are marked whole beside those that were, where their equations have ended
pub record HasMarkedAll (these : List (Instance ℕ)) (old new : Question) : Type 0 where
  pub chain : KeepsChain old new
  pub level : new.level ≡ old.level
  pub found : new.found.entries ≡ old.found.entries
  pub passed : new.passed.entries ≡ old.passed.entries
  pub turns : new.turns ≡ old.turns
  pub keys : keys_of new.ended.entries ≡ keys_of old.ended.entries
  pub marked : (i : Instance ℕ) (x : Ended) → Among i these → lookup (same_instance i) old.ended.entries ≡ Some x
      → lookup (same_instance i) new.ended.entries ≡ Some (record x { is_whole = true })
  pub others : (i : Instance ℕ) → (Among i these → ⊥) → lookup (same_instance i) new.ended.entries ≡ lookup (same_instance i) old.ended.entries

abbrev pub HasMarked : Instance ℕ → Question → Question → Type 0
HasMarked i old new = HasMarkedAll (i ∷ []) old new
