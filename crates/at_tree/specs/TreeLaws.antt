-- Laws of trees and the terms that they are written as.
use Rattle.std.specs.Prelude.{◌≡◌, ℕ, ◌≤◌, true}
use Rattle.at_model.specs.Classes.{Classes}
use Rattle.at_model.specs.Trees.{Tree, conforms, depth}
use Rattle.at_model.specs.Terms.{IsTerm, max_depth, term_of}
use Rattle.at_model.specs.Enduring.{AreTokens}

-- two trees that conform under one class are the same, where they are written as the same term
abbrev pub OneTreeForATerm : Classes → Type 0
OneTreeForATerm classes = (t u : Tree) (b : ℕ) → conforms classes t b ≡ true → conforms classes u b ≡ true → term_of classes t ≡ term_of classes u → t ≡ u

-- a conforming tree that isn't too deep, and whose token values can be written, is written as a term
abbrev pub TreesAreTerms : Classes → Type 0
TreesAreTerms classes = (t : Tree) (b : ℕ) → conforms classes t b ≡ true → AreTokens t → depth t ≤ max_depth → IsTerm (term_of classes t)
