-- What is found on the way up from a class.
use Rattle.std.specs.Prelude.{◌≡◌, ◌⊎◌, ℕ, List, [], ◌∷◌, Option, None, IsSome}

-- the first of the classes that has an answer gives it; none is given where none has one
abbrev pub AnswersFirst : {A : Type 0} → (ℕ → Option A → Type 0) → List ℕ → Option A → Type 0
AnswersFirst Answers [] found = found ≡ None
AnswersFirst Answers (c ∷ cs) found = (IsSome found × Answers c found) ⊎ (Answers c None × AnswersFirst Answers cs found)
