-- What the words of a command come to, in whatever state shows the tree and the marks over which they are read.
use Rattle.std.specs.Prelude.{◌≡◌, ⊤, ℕ, List, Some, Result, Ok, Err, is_some, true}
use Rattle.at_model.specs.Lines.{Command}
use Rattle.at_model.specs.Machine.{changed, obeyed}
use Rattle.at_model.specs.Paths.{Node}
use Rattle.at_model.specs.Rules.{Rules}
use Rattle.at_protocol.specs.declared.reply.Form.{Form}
use Rattle.at_protocol.specs.declared.reply.Form.TheVariants as form
use Rattle.at_cache.specs.Kept.{Entries}
use Rattle.at_cache.specs.Traced.{Memories}
use Rattle.at_store.specs.Refusing.{edit_at, node_of, target_of}
use Rattle.at_store.specs.Shown.{Shown, path}
use Rattle.at_store.specs.declared.edit.Edit.{Edit}
use Rattle.at_engine.specs.Engines.{IsHeld}
use Rattle.at_engine.specs.Holding.{state_in}
use Rattle.at_engine.specs.Marks.{Mark}
use Rattle.at_engine.specs.Telling.{Obeys}
use Rattle.at_engine.specs.declared.engine.Engine.{Engine}
use Rattle.at_engine.specs.declared.engine.editing.Obstacle.{Obstacle}
use Rattle.at_engine.specs.declared.engine.editing.Obstacle.TheVariants as obstacle
use Rattle.at_engine.specs.declared.posts.Posts.{Posts}

-- the command is obeyed so, and changes nothing
abbrev pub Reports : Rules → Shown → List Mark → (session : ℕ) → Command → Form → Type 0
Reports rules s marks session c value =
    (version : ℕ) (posts : Posts) → Obeys rules (state_in s version marks posts) session c value (state_in s version marks posts)

-- the command means the edit, of nodes that are there
pub record IsMeant (rules : Rules) (s : Shown) (marks : List Mark) (session : ℕ) (c : Command) (e : Edit) : Type 0 where
  pub node : Node
  pub target : Node
  pub found : path s (node_of e) ≡ Some node
  pub there : path s (target_of e) ≡ Some target
  pub meant : (version : ℕ) (posts : Posts) → obeyed rules (state_in s version marks posts) session c
      ≡ changed rules.classes (state_in s version marks posts) (edit_at node target e)

-- so it is, or the command is refused so
abbrev pub Means : Rules → Shown → List Mark → (session : ℕ) → Command → Result Edit Obstacle → Type 0
Means rules s marks session c (Ok e) = IsMeant rules s marks session c e
Means rules s marks session c (Err (obstacle.Refused r)) = Reports rules s marks session c (form.Refused r)
Means rules s marks session c (Err obstacle.Memory) = ⊤

-- the engine is held, and the nodes of the edit are there
pub record CanEdit {K : Type 0} (entries : K → Entries) (memories : K → Memories)
    (e : Engine K) (edit : Edit) : Type 0 where
  pub sound : IsHeld entries memories e
  pub there : is_some (path e.store (node_of edit)) ≡ true
  pub target : is_some (path e.store (target_of edit)) ≡ true
