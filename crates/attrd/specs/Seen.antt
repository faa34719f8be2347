-- What is known of a door, and what becomes of it where a connection comes and ends.
use Rattle.std.specs.Prelude.{◌≡◌, ℕ, ⊤, Bool, false, List, [], ◌∷◌, ◌++◌, Option, Some, None}
use Rattle.at_engine.specs.Ends.{Counted}

-- What those that come will send, each in its turn; what was written to each that has come and was served; and how many
-- weren't accepted.
pub record Seen : Type 0 where
  pub coming : Option (List (List ℕ))
  pub sent : Option (List (List ℕ))
  pub refused : Option ℕ

-- nothing is known
abbrev pub unseen : Seen
unseen = record { coming = None; sent = None; refused = None }

-- where it is known what those that come will send, the first of them has come, and that can be read from it
abbrev pub IsFirst : (before after : Option (List (List ℕ))) → (readable : Option (List ℕ)) → Type 0
IsFirst None after readable = ⊤
IsFirst (Some []) after readable = ⊥
IsFirst (Some (sent ∷ rest)) after readable = (readable ≡ Some sent) × (after ≡ Some rest)

-- where it is known what was written to those that came, nothing was written to this one
abbrev pub IsUnwritten : Option (List (List ℕ)) → (written : Option (List ℕ)) → Type 0
IsUnwritten None written = ⊤
IsUnwritten (Some sent) written = written ≡ Some []

-- where both are known, what was written to this one stands behind that
abbrev pub IsWritten : (before after : Option (List (List ℕ))) → (written : Option (List ℕ)) → Type 0
IsWritten None after written = ⊤
IsWritten (Some sent) after None = ⊤
IsWritten (Some sent) after (Some bytes) = after ≡ Some (sent ++ bytes ∷ [])

-- The first of those that come has come: that can be read from it, and nothing was written to it.
pub record Comes (before after : Seen) (readable written : Option (List ℕ)) : Type 0 where
  pub first : IsFirst before.coming after.coming readable
  pub unwritten : IsUnwritten before.sent written
  pub sent : after.sent ≡ before.sent
  pub refused : after.refused ≡ before.refused

-- where it is known whether something happened, it didn't
abbrev pub IsUnset : Option Bool → Type 0
IsUnset None = ⊤
IsUnset (Some happened) = happened ≡ false

-- both ends of a connection that has come: no call has failed, no read has brought no byte, where these are known, and nothing waits
abbrev pub AreFresh : (misread ended failure : Option Bool) → (waits : Bool) → Type 0
AreFresh misread ended failure waits = IsUnset misread × IsUnset ended × IsUnset failure × (waits ≡ false)

-- none came, and that is counted
pub record IsRefused (before after : Seen) : Type 0 where
  pub coming : after.coming ≡ before.coming
  pub sent : after.sent ≡ before.sent
  pub refused : Counted before.refused after.refused 1

-- one that has come was served, and that was written to it
pub record IsServed (before after : Seen) (written : Option (List ℕ)) : Type 0 where
  pub coming : after.coming ≡ before.coming
  pub sent : IsWritten before.sent after.sent written
  pub refused : after.refused ≡ before.refused
