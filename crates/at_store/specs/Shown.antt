-- What a contract sees of a store: the tree, and which number each node has.
use Rattle.std.specs.Prelude.{◌≡◌, ℕ, Option, None, nat_le, true}
use Rattle.at_model.specs.Trees.{Tree, nodes}
use Rattle.at_model.specs.Paths.{Node}
use Rattle.at_model.specs.Run.{Contents}
use Rattle.at_model.specs.Edits.{is_within_limits}
use Rattle.at_store.specs.Numbers.{path_in, relabel, contents as shown_contents}
use Rattle.at_store.specs.Memory.{Keeps, class_in}
use Rattle.at_store.specs.Grown.{grown}
use Rattle.at_store.specs.View.{IsUnmarked, memory_of}
use Rattle.at_store.specs.declared.store.Store.{Store}

abbrev pub Shown : Type 0
Shown = Store

-- the tree with the number of each node in the place of its class, and the tree itself
abbrev pub numbers : Shown → Tree
numbers s = grown (memory_of s.slab) 512 s.root

abbrev pub tree : Shown → Tree
tree s = relabel (class_in (memory_of s.slab)) (numbers s)

-- what is shown at each location, named by numbers
abbrev pub contents : Shown → Contents ℕ
contents s = shown_contents (numbers s) (tree s)

-- where a number stands
abbrev pub path : Shown → ℕ → Option Node
path s k = path_in k (numbers s)

-- No edit is prepared and waits: what is kept is the tree, and nothing else, and no node is marked. It has no more nodes than it may.
pub record IsIdle (s : Shown) : Type 0 where
  pub waiting : s.waiting ≡ None
  pub leaving : s.leaving ≡ None
  pub keeps : Keeps (memory_of s.slab) (numbers s) None
  pub limits : is_within_limits (tree s) ≡ true
  pub allowed : nat_le (nodes (tree s)) s.limit ≡ true
  pub unmarked : IsUnmarked s.slab
