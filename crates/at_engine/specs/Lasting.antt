-- Where the last question was asked.
use Rattle.std.specs.Prelude.{◌≡◌, ◌<◌, ℕ, List, Some, length}
use Rattle.at_model.specs.Classes.{Classes}
use Rattle.at_model.specs.Lines.{max_sessions}
use Rattle.at_model.specs.Paths.{Path, IsPath, node_at}
use Rattle.at_protocol.specs.Again.{front_text}
use Rattle.at_store.specs.Shown.{Shown, tree}
use Rattle.at_engine.specs.Naming.{IsNumberOf}
use Rattle.at_engine.specs.declared.engine.lasting.Last.{Last}

-- the front stands before the attribute of a question of the session at the node
pub record LeadsTo (classes : Classes) (s : Shown) (front : List ℕ) (session node : ℕ) : Type 0 where
  pub steps : Path
  pub exists : session < max_sessions
  pub is_path : IsPath steps
  pub text : front ≡ front_text session steps
  pub named : IsNumberOf s (node_at classes (tree s) steps) (Some node)

-- what is remembered leads to its node, if anything is
abbrev pub IsKnown : Classes → Shown → Last → Type 0
IsKnown classes s last = 0 < length last.front.items → LeadsTo classes s last.front.items last.session last.node
