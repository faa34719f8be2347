-- The names that components take: their own, and those of the accessors of lists.
use Rattle.std.specs.Prelude.{◌≡◌, ◌++◌, ℕ, ◌<◌, Bool, true, false, List, length, take, Option, Some, None, String, string_bytes, cond}
use Rattle.std.specs.List.{list_any, slice_get}
use Rattle.std.specs.Str.{bytes_eq}
use Rattle.at_model.specs.Classes.{Component}
use Rattle.at_model.specs.Declarations.{is_taken, takes}
use Rattle.at_class.specs.declared.taken.TakenNames.{TakenNames}

abbrev pub has_key : {A : Type 0} → List (String A) → List ℕ → Bool
has_key keys text = list_any (λ k. bytes_eq text (string_bytes k)) keys

-- the names are just those of these components, and of the accessors of the lists among them
pub record AreTaken {A : Type 0} (before : List Component) (named taking : List (String A)) : Type 0 where
  pub names : (text : List ℕ) → has_key named text ≡ list_any (λ q. bytes_eq text q.name) before
  pub accessors : (text : List ℕ) → has_key taking text ≡ list_any (λ q. takes q text) before

-- the one begins with the other
abbrev pub Begins : {A : Type 0} → List A → List A → Type 0
Begins old new = take (length old) new ≡ old

-- names came behind those that were there
abbrev pub Grows : TakenNames → TakenNames → Type 0
Grows old new = Begins old.names.keys new.names.keys × Begins old.accessors.keys new.accessors.keys

-- the component at that position is taken by these, or by one before it
abbrev pub is_taken_at : List Component → List Component → ℕ → Bool
is_taken_at before ps i = elim (slice_get ps i) [ None ↦ false | Some p ↦ is_taken (before ++ take i ps) p ]

-- the first position that passes the test
abbrev pub IsFirst : (ℕ → Bool) → Option ℕ → Type 0
IsFirst test None = (i : ℕ) → test i ≡ false
IsFirst test (Some i) = (test i ≡ true) × ((j : ℕ) → j < i → test j ≡ false)

-- among those below n
abbrev pub IsFirstBelow : (ℕ → Bool) → ℕ → Option ℕ → Type 0
IsFirstBelow test n None = (i : ℕ) → i < n → test i ≡ false
IsFirstBelow test n (Some i) = (test i ≡ true) × ((j : ℕ) → j < i → test j ≡ false)

-- the first one, where one more is looked at
abbrev pub or_this : Option ℕ → Bool → ℕ → Option ℕ
or_this (Some i) passes n = Some i
or_this None passes n = cond passes (Some n) None
