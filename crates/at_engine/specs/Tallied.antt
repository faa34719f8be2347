-- How many marks there are of each session, and of each node.
use Rattle.std.specs.Prelude.{◌≡◌, ℕ, List, ◌∷◌, ◌++◌, length, not, nat_eq, count_by, filter, take, drop, Option, is_some}
use Rattle.at_engine.specs.Marks.{Mark, is_named}
use Rattle.at_engine.specs.Tally.{counted}
use Rattle.at_engine.specs.declared.marks.tally.Tally.{Tally}

-- of each session and of each node there are as many marks as are counted
pub record AreTallied (ms : List Mark) (sessions nodes : Tally) : Type 0 where
  pub by_session : (session : ℕ) → counted sessions.counts.entries session ≡ count_by (λ (m : Mark). nat_eq session m.session) ms
  pub by_node : (node : ℕ) → counted nodes.counts.entries node ≡ count_by (λ (m : Mark). nat_eq node m.node) ms

-- of those before the number the marks whose nodes are there, and all behind
abbrev pub kept_up_to : {N : Type 0} → (ℕ → Option N) → ℕ → List Mark → List Mark
kept_up_to look i ms = filter (λ (m : Mark). is_some (look m.node)) (take i ms) ++ drop i ms

-- it is the session's mark, of that node
pub record IsOf (session node : ℕ) (m : Mark) : Type 0 where
  pub session' : m.session ≡ session
  pub node' : m.node ≡ node

-- a mark of the session and of the node was taken out of the old ones
pub record IsTaken (session node : ℕ) (old new : List Mark) : Type 0 where
  pub front : List Mark
  pub mark : Mark
  pub back : List Mark
  pub is : IsOf session node mark
  pub before : old ≡ front ++ mark ∷ back
  pub after : new ≡ front ++ back

-- the session's only mark of that name stands there
pub record IsPlaceOf (session : ℕ) (name : List ℕ) (ms : List Mark) (place : ℕ) : Type 0 where
  pub front : List Mark
  pub mark : Mark
  pub back : List Mark
  pub is : mark.session ≡ session
  pub split : ms ≡ front ++ mark ∷ back
  pub at : length front ≡ place
  pub others : filter (λ (m : Mark). not (is_named session name m)) ms ≡ front ++ back
