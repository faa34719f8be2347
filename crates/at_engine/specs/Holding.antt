-- What a store, a version, marks and open questions hold.
use Rattle.std.specs.Prelude.{◌≡◌, ℕ, List, [], map, true, Option, Some, None, string_bytes}
use Rattle.std.specs.List.{AllByRecursion}
use Rattle.at_model.specs.Alike.{InstanceLike, Names}
use Rattle.at_model.specs.Classes.{AreSound}
use Rattle.at_model.specs.Edits.{max_nodes}
use Rattle.at_model.specs.Enduring.{AreNumbered}
use Rattle.at_model.specs.Instances.{AnyText}
use Rattle.at_model.specs.Names.{IsName}
use Rattle.at_model.specs.Paths.{Node}
use Rattle.at_model.specs.Run.{Instance}
use Rattle.at_model.specs.Trees.{Tree, conforms}
use Rattle.at_model.specs.TypedRuns.{IsWellTyped}
use Rattle.at_model.specs.Rules.{Rules}
use Rattle.at_model.specs.Machine.{State, Verdict, Asks, Posted as PostedOf, line_of, verdict}
use Rattle.at_store.specs.Shown.{IsIdle, Shown, tree, path}
use Rattle.at_body.specs.Typed.{class_shown}
use Rattle.at_cache.specs.Kept.{Entries}
use Rattle.at_cache.specs.Traced.{Memories}
use Rattle.at_evaluate.specs.Valued.{IsKept}
use Rattle.at_demand.specs.Levels.{asked_by}
use Rattle.at_evaluate.specs.Right.{AreRight}
use Rattle.at_evaluate.specs.Traces.{IsRemembered}
use Rattle.at_demand.specs.Turns.{IsStanding}
use Rattle.at_demand.specs.declared.question.Question.{Question}
use Rattle.at_engine.specs.Marks.{Mark, marks_view, AreThere}
use Rattle.at_engine.specs.Posted.{posted_view}
use Rattle.at_engine.specs.declared.posts.Posted.{Posted}
use Rattle.at_engine.specs.declared.posts.Posts.{Posts}

-- the state that they stand for
abbrev pub state_in : Shown → ℕ → List Mark → Posts → State
state_in s version marks posts = record {
  tree = tree s;
  limit = s.limit;
  version = version;
  marks = marks_view (path s) marks;
  posts = posts.count;
  posted = map (posted_view (path s)) posts.items.items;
}

-- what becomes of a question's words on that tree, by the marks that it has: nothing else of a state counts for it
abbrev pub words_verdict : Rules → Tree → PostedOf → Verdict
words_verdict rules t q = verdict rules (record { tree = t; limit = max_nodes; version = 0; marks = q.marks; posts = 0; posted = [] }) (line_of q)

-- the question's words ask for the instance for which that was begun
pub record IsBegunFor (rules : Rules) (s : Shown) (entries : Entries) (p : Posted) (q : Question) : Type 0 where
  pub standing : IsStanding rules s entries q
  pub named : Instance Node
  pub asks : words_verdict rules (tree s) (posted_view (path s) p) ≡ Asks named
  pub like : InstanceLike (Names (path s)) (asked_by q) named

-- what is done for the question, if anything is, stands on the tree as it is
abbrev pub HasBegun : Rules → Shown → Entries → Posted → Option Question → Type 0
HasBegun rules s entries p None = Unit {0}
HasBegun rules s entries p (Some q) = IsBegunFor rules s entries p q

-- the attribute that the question names can have that name, the node of each of its marks is there
pub record IsPostedOn (rules : Rules) (s : Shown) (entries : Entries) (p : Posted) : Type 0 where
  pub named : IsName (string_bytes p.attribute)
  pub marked : AreThere (path s) p.marks.items.items
  pub begun : HasBegun rules s entries p p.question

-- each kept instance is well typed
abbrev pub AreKeptTyped : Rules → Shown → Entries → Type 0
AreKeptTyped rules s entries = (i : Instance ℕ) → IsKept entries i → IsWellTyped rules (class_shown s) AnyText i

-- No edit waits. The classes are sound, the tree conforms to the start class, the node of each mark is there, and what is
-- kept is right and well typed, and so is what can be kept again. The open questions stand on the tree, and their numbers increase.
pub record IsSoundWith (rules : Rules) (s : Shown) (marks : List Mark) (posts : Posts)
    (entries : Entries) (m : Memories) : Type 0 where
  pub idle : IsIdle s
  pub sound : AreSound rules.classes
  pub conforming : conforms rules.classes (tree s) 0 ≡ true
  pub marked : AreThere (path s) marks
  pub right : AreRight rules s entries
  pub typed : AreKeptTyped rules s entries
  pub remembered : IsRemembered rules s m
  pub posted : AllByRecursion (IsPostedOn rules s entries) posts.items.items
  pub numbered : AreNumbered 0 (map (posted_view (path s)) posts.items.items) posts.count
