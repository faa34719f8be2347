-- What is appended to an output.
use Rattle.std.specs.Prelude.{◌≡◌, ◌++◌, ℕ, List, OnErr, OnOk, Result, length, take}

-- the text is appended; for want of memory perhaps a part of it, or more, and nothing in front is lost
pub record Appends (text : List ℕ) {A E : Type 0} (result : Result A E) (before later : List ℕ) : Type 0 where
  pub ok : OnOk result (later ≡ before ++ text)
  pub err : OnErr result (take (length before) later ≡ before)
