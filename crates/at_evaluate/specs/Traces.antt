-- When what can be kept again is right: its evaluation would go the same way.
use Rattle.std.specs.Prelude.{◌≡◌, ℕ, List, Bool, true, None, Some}
use Rattle.at_model.specs.Run.{Instance, Location, Contents, Known}
use Rattle.at_model.specs.Paths.{Node}
use Rattle.at_model.specs.Rules.{Rules, is_lazy, start_of}
use Rattle.at_model.specs.Meaning.{Among, Equations}
use Rattle.at_model.specs.Nested.{Evaluates}
use Rattle.at_model.specs.Touches.{node_of}
use Rattle.at_store.specs.Shown.{Shown, contents, path}
use Rattle.at_cache.specs.Traced.{Memories, Trace}
use Rattle.at_evaluate.specs.Valued.{equations}
use Rattle.at_evaluate.specs.Inner.{is_inner}
use Rattle.at_evaluate.specs.Right.{IsThere}

-- Over the last values of what it took, and this tree, the evaluation of i comes to the value of the trace; what it looked at is the reads,
-- and what it took is the uses, in order.
pub record IsJustified (look : Contents ℕ) (equation : Equations ℕ) (last : Known ℕ) (inner : Instance ℕ → Bool) (i : Instance ℕ) (t : Trace)
    : Type 0 where
  pub depth : ℕ
  pub looks : List (Location ℕ)
  pub evaluates : Evaluates look equation last inner depth (equation i) t.value looks t.uses
  pub reads : (l : Location ℕ) → Among l looks → t.reads l ≡ true
  pub looked : (l : Location ℕ) → t.reads l ≡ true → Among l looks

-- Each trace is of a lazy attribute that isn't circular, has its value last, and is justified on the tree as it is.
pub record AreJustified (rules : Rules) (look : Contents ℕ) (m : Memories) : Type 0 where
  pub lazily : (i : Instance ℕ) (t : Trace) → m.traced i ≡ Some t → is_lazy rules i.attribute ≡ true
  pub own : (i : Instance ℕ) (t : Trace) → m.traced i ≡ Some t → start_of rules i.attribute ≡ None
  pub value : (i : Instance ℕ) (t : Trace) → m.traced i ≡ Some t → m.last i ≡ Some t.value
  pub justified : (i : Instance ℕ) (t : Trace) → m.traced i ≡ Some t → IsJustified look (equations rules) m.last (is_inner rules) i t

-- each location that was looked at for a trace is one of a node of the tree
abbrev pub AreOfTree : Shown → Memories → Type 0
AreOfTree s m = (i : Instance ℕ) (t : Trace) (l : Location ℕ) → m.traced i ≡ Some t → t.reads l ≡ true → (n : Node) × (path s (node_of l) ≡ Some n)

-- what can be kept again is right on the tree as it is
pub record IsRemembered (rules : Rules) (s : Shown) (m : Memories) : Type 0 where
  pub justified : AreJustified rules (contents s) m
  pub there : AreOfTree s m

-- What can be kept again is right; and what was looked at for it is of the tree still, where i is.
pub record StayJustified (rules : Rules) (s : Shown) (i : Instance ℕ) (before after : Memories) : Type 0 where
  pub justified : AreJustified rules (contents s) after
  pub there : IsThere s i → AreOfTree s before → AreOfTree s after
