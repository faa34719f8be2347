-- What holds of what is judged, if it is found.
use Rattle.std.specs.Prelude.{⊤}
use Rattle.at_kinds.specs.Judging.{Judgement, Is, Wrong, and_then}

abbrev pub Holds : {A : Type 0} → (A → Type 0) → Judgement A → Type 0
Holds P (Is a) = P a
Holds P (Wrong c at) = ⊤

-- what is made of a part of which something holds
pub then_holds : {A B : Type 0} (P : A → Type 0) (Q : B → Type 0) (f : A → Judgement B) (j : Judgement A) → Holds P j → ((a : A) → P a → Holds Q (f a)) → Holds Q (and_then f j)
then_holds P Q f (Is a) h g = g a h
then_holds P Q f (Wrong c at) h g = tt

-- nothing is found
pub none_holds : {A B : Type 0} (Q : B → Type 0) (f : A → Judgement B) (j : Judgement A) → ((a : A) → Holds Q (f a)) → Holds Q (and_then f j)
none_holds Q f (Is a) g = g a
none_holds Q f (Wrong c at) g = tt
