-- What is put behind the bytes that are there.
use Rattle.std.specs.Prelude.{◌≡◌, ◌≤◌, ◌<◌, ◌+◌, ◌++◌, ⊤, ℕ, List, OnErr, OnOk, Result, Vec, vec_capacity, vec_len}
use Rattle.std.specs.Global.{Global}
use Rattle.std.specs.declared.alloc.AllocError.{AllocError}
use Rattle.at_text.specs.Quoted.{Extends}

-- the bytes, or a part of them where memory is wanting
abbrev pub Appends : List ℕ → (old new : Vec ℕ Global) → Result ⊤ AllocError → Type 0
Appends bytes old new answer = OnOk answer (new.items ≡ old.items ++ bytes) × Extends old.items new.items × (vec_capacity old ≤ vec_capacity new)

-- so many bytes at most: memory is wanting only where there is no room for them
abbrev pub TakesRoom : ℕ → (old new : Vec ℕ Global) → Result ⊤ AllocError → Type 0
TakesRoom room old new answer = OnErr answer (vec_capacity old < vec_len old + room) × OnOk answer (vec_len new ≤ vec_len old + room)
