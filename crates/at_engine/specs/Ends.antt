-- What is known of the calls of a reader or a writer.
use Rattle.std.specs.Prelude.{◌≡◌, ℕ, ◌+◌, ◌^◌, ◌<◌, ◌||◌, nat_eq, Bool, true, false, ⊤, Option, Some, None, Result, Ok, Err, OnOk}

-- where it is known whether a call failed before, it is known after, and it is so where one failed meanwhile; and likewise
-- whether a read brought no byte
abbrev pub Remembers : (before after : Option Bool) → (fails : Bool) → Type 0
Remembers None after fails = ⊤
Remembers (Some before) after fails = after ≡ Some (before || fails)

-- where it is known how many calls there were before, it is known after so many more, unless they are too many to be counted
abbrev pub Counted : (before after : Option ℕ) → (calls : ℕ) → Type 0
Counted None after calls = ⊤
Counted (Some before) after calls = before + calls < 2 ^ 128 → after ≡ Some (before + calls)

-- a read brought no byte
abbrev pub brings_none : {E : Type 0} → Result ℕ E → Bool
brings_none (Ok n) = nat_eq n 0
brings_none (Err e) = false

-- a write failed, or took no byte
abbrev pub takes_none : {E : Type 0} → Result ℕ E → Bool
takes_none (Ok n) = nat_eq n 0
takes_none (Err e) = true

-- where it went well and nothing waited before, all that was written is sent on
abbrev pub SendsOn : {T E : Type 0} → Result T E → (waited waits : Bool) → Type 0
SendsOn result waited waits = OnOk result (waited ≡ false → waits ≡ false)
