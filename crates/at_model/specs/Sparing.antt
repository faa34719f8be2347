-- What is kept of the values of attributes that are declared lazy (JastAdd2 reference manual, "Caching"), and how much of it a question adds.
use Rattle.std.specs.Prelude.{◌≡◌, ◌⊎◌, ◌↔◌, ℕ, true, List, length, None}
use Rattle.at_model.specs.Trees.{Tree}
use Rattle.at_model.specs.Paths.{Node}
use Rattle.at_model.specs.Run.{Value, Instance}
use Rattle.at_model.specs.Rules.{Rules, is_lazy, start_of}
use Rattle.at_model.specs.Meaning.{Among, Distinct, content}
use Rattle.at_model.specs.Alike.{InstanceLike, Names}
use Rattle.at_model.specs.Edits.{carried}
use Rattle.at_model.specs.Machine.{State, Verdict, Refuses, Tells, Leaves, Edits, Asks, Posts, Waits}
use Rattle.at_model.specs.Enduring.{AreTokens}
use Rattle.at_model.specs.WellFormed.{AreWellFormed}
use Rattle.at_model.specs.of_fixpoints.Circles.{Circular}
use Rattle.at_model.specs.of_fixpoints.Evaluations.{forms}
use Rattle.at_model.specs.of_fixpoints.Fixpoints.{HasValue}
use Rattle.at_model.specs.of_fixpoints.Met.{IsMet}
use Rattle.at_model.specs.of_fixpoints.Resting.{IsUntouched, Leads}

-- The question leads to the instance, which is lazy and has a value; and where a circle answers the question, its search has met the
-- instance before that.
pub record IsWorthKeeping (rules : Rules) (t : Tree) (q i : Instance Node) : Type 0 where
  pub reached : Leads (content t) (forms rules) q i
  pub lazy : is_lazy rules i.attribute ≡ true
  pub value : Value Node
  pub has : HasValue (content t) (forms rules) i value
  pub before : (c : Instance Node) → Circular (content t) (forms rules) q c → IsMet (content t) (forms rules) q i

-- What has a value leads to what has values: no attribute is circular, or the rules are well formed and tokens can be written.
abbrev pub SpreadsValues : Rules → Tree → Type 0
SpreadsValues rules t = ((attribute : ℕ) → start_of rules attribute ≡ None) ⊎ (AreWellFormed rules × AreTokens t)

-- The instances that are kept after a line, where those of `Kept` were kept before: a question adds what is worth keeping;
-- of an edit remains what it doesn't touch, under the paths to which the nodes are carried. With each stands what supports it.
-- A line that waits is meant without the turns that follow it.
abbrev pub KeptAfter : Rules → State → Verdict → (Instance Node → Type 0) → Instance Node → Type 0
KeptAfter rules s (Refuses refusal) Kept j = Kept j
KeptAfter rules s (Tells shown) Kept j = Kept j
KeptAfter rules s (Leaves marks) Kept j = Kept j
KeptAfter rules s (Edits e t) Kept j = (i : Instance Node) × Kept i × IsUntouched rules s.tree e i × InstanceLike (Names (carried e)) i j
KeptAfter rules s (Asks q) Kept j = Kept j ⊎ IsWorthKeeping rules s.tree q j
KeptAfter rules s (Posts q) Kept j = Kept j
KeptAfter rules s (Waits number) Kept j = Kept j

-- what is kept is lazy and has a value, and with each instance all lazy instances to which it leads are kept
pub record AreWellKept (rules : Rules) (t : Tree) (Kept : Instance Node → Type 0) : Type 0 where
  pub lazy : (i : Instance Node) → Kept i → is_lazy rules i.attribute ≡ true
  pub valued : (i : Instance Node) → Kept i → (v : Value Node) × HasValue (content t) (forms rules) i v
  pub deep : (i j : Instance Node) → Kept i → Leads (content t) (forms rules) i j → is_lazy rules j.attribute ≡ true → Kept j

-- the list has each instance once that is worth keeping and was not kept
pub record AreAdded (rules : Rules) (t : Tree) (q : Instance Node) (Kept : Instance Node → Type 0) (added : List (Instance Node)) : Type 0 where
  pub distinct : Distinct added
  pub exactly : (i : Instance Node) → Among i added ↔ (IsWorthKeeping rules t q i × (¬ (Kept i)))

-- the work of a line: how many instances a question adds; other lines have none
abbrev pub IsWork : Rules → State → Verdict → (Instance Node → Type 0) → ℕ → Type 0
IsWork rules s (Refuses refusal) Kept work = work ≡ 0
IsWork rules s (Tells shown) Kept work = work ≡ 0
IsWork rules s (Leaves marks) Kept work = work ≡ 0
IsWork rules s (Edits e t) Kept work = work ≡ 0
IsWork rules s (Asks q) Kept work = (added : List (Instance Node)) × AreAdded rules s.tree q Kept added × (work ≡ length added)
IsWork rules s (Posts q) Kept work = work ≡ 0
IsWork rules s (Waits number) Kept work = work ≡ 0
