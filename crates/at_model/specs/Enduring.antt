-- What holds of a state over all lines, beside that it is sound.
use Rattle.std.specs.Prelude.{ℕ, ◌<◌, ◌≤◌, nat_eq, List, [], ◌∷◌, map, count_by}
pub use Rattle.at_model.specs.SyntaxTrees.{AreTokens, CellsAreTokens, CellIsTokens, TreesAreTokens}
use Rattle.at_model.specs.Meaning.{Distinct}
use Rattle.at_model.specs.Lines.{last_version, last_post}
use Rattle.at_model.specs.Machine.{State, Marked, Posted, max_marks, max_posted}

-- whose mark it is, and its name
abbrev pub key : Marked → ℕ × List ℕ
key m = (m.session, m.name)

-- the numbers of the questions increase, from above the least on up to the greatest
abbrev pub AreNumbered : (least : ℕ) → List Posted → (greatest : ℕ) → Type 0
AreNumbered least [] greatest = least ≤ greatest
AreNumbered least (q ∷ qs) greatest = (least < q.number) × AreNumbered q.number qs greatest

-- No session has two marks of one name or more marks than there may be, and the version is one that there can be. The numbers of
-- open questions increase up to that of the last one, which is one that there can be, and no session has more than there may be.
pub record IsOrderly (s : State) : Type 0 where
  pub apart : Distinct (map key s.marks)
  pub few : (session : ℕ) → count_by (λ m. nat_eq session m.session) s.marks ≤ max_marks
  pub version : s.version ≤ last_version
  pub numbered : AreNumbered 0 s.posted s.posts
  pub posts : s.posts ≤ last_post
  pub few_posted : (session : ℕ) → count_by (λ q. nat_eq session q.session) s.posted ≤ max_posted
