-- What is looked at of a node by the same entries has one list of edges.
use Rattle.std.specs.Prelude.{◌≡◌, ◌<◌, ◌||◌, ℕ, List, Some, Contains, slice_get}
use Rattle.at_model.specs.Run.{Location}
use Rattle.at_index.specs.declared.edge.Edge.{Edge}
use Rattle.at_index.specs.declared.facet.Facet.{Facet}
use Rattle.at_index.specs.declared.facet.Readers.{Readers}
use Rattle.at_index.specs.Edges.{edges_in}
use Rattle.at_index.specs.Readers.{edges_among, stands_for}

-- Both have the same edges, and the facet stands for what theirs stand for.
pub record AreJoint (some more : Readers) (f : Facet) : Type 0 where
  pub same : edges_in some.edges ≡ edges_in more.edges
  pub both : (n : ℕ) (l : Location ℕ) → stands_for n f l ≡ (stands_for n some.facet l || stands_for n more.facet l)

-- They stand at these places, the one before the other.
pub record Joins (rs : List Readers) (before place : ℕ) (f : Facet) : Type 0 where
  pub less : before < place
  pub joint : (r : Readers) × (q : Readers) × (slice_get rs before ≡ Some r) × (slice_get rs place ≡ Some q) × AreJoint r q f

-- Each location has the edges that it had, in whatever order and however often.
pub record HaveSame (old new : List Readers) : Type 0 where
  pub kept : (n : ℕ) (l : Location ℕ) (x : Edge) → Contains (edges_among n old l) x → Contains (edges_among n new l) x
  pub from : (n : ℕ) (l : Location ℕ) (x : Edge) → Contains (edges_among n new l) x → Contains (edges_among n old l) x
