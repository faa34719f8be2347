-- Tries of like evaluations end alike, and read like locations.
use Rattle.std.proofs.Common.{List, [], Option, Some, None}
use Rattle.at_model.specs.Run.{Value, Instance, Location, Contents, Run, Known, Tried, Needs, tried, reads}
use Rattle.at_model.specs.Alike.{OptionLike, neither, both, ListLike, end, more, ValueLike, InstanceLike, LocationLike, RunLike, gives, fails, looks, demands, AlikeAt, KnownLike, TriedLike, valued, faulted, needs}

ended : {N M A B : Type 0} {R : N → M → Type 0} {Q : A → B → Type 0} (look : Contents N) (also : Contents M)
    (known : Known N) (other : Known M) {i : Instance N} {j : Instance M} (k : Value N → Run N A)
    (h : Value M → Run M B) → InstanceLike R i j →
    ((v : Value N) (w : Value M) → ValueLike R v w → TriedLike R Q (tried look known (k v)) (tried also other (h w))) → {o : Option (Value N)} {p : Option (Value M)} → OptionLike (ValueLike R) o p →
    TriedLike R Q (elim o as (λ _. Tried N A) [ None ↦ Needs i | Some v ↦ tried look known (k v) ]) (elim p as (λ _. Tried M B) [ None ↦ Needs j | Some w ↦ tried also other (h w) ])
ended look also known other k h t step neither = needs t
ended look also known other k h t step (both e) = step _ _ e

pub tried-like : {N M A B : Type 0} {R : N → M → Type 0} {Q : A → B → Type 0} (look : Contents N) (also : Contents M)
    (known : Known N) (other : Known M) → ((l : Location N) → AlikeAt R look also l) → KnownLike R known other →
    {r : Run N A} {s : Run M B} → RunLike R Q r s → TriedLike R Q (tried look known r) (tried also other s)
tried-like look also known other a d (gives q) = valued q
tried-like look also known other a d (fails f) = faulted f
tried-like look also known other a d (looks {l = l} {m = m} e step) = tried-like look also known other a d (step (look l) (also m) (a l m e))
tried-like look also known other a d (demands {k = k} {h = h} t step) = ended look also known other k h t (λ v w e. tried-like look also known other a d (step v w e)) (d _ _ t)

looked : {N M A B : Type 0} {R : N → M → Type 0} (look : Contents N) (also : Contents M) (known : Known N) (other : Known M) (k : Value N → Run N A) (h : Value M → Run M B) →
    ((v : Value N) (w : Value M) → ValueLike R v w → ListLike (LocationLike R) (reads look known (k v))
    (reads also other (h w))) → {o : Option (Value N)} {p : Option (Value M)} → OptionLike (ValueLike R) o p →
    ListLike (LocationLike R) (elim o as (λ _. List (Location N)) [ None ↦ [] | Some v ↦ reads look known (k v) ]) (elim p as (λ _. List (Location M)) [ None ↦ [] | Some w ↦ reads also other (h w) ])
looked look also known other k h step neither = end
looked look also known other k h step (both e) = step _ _ e

pub reads-like : {N M A B : Type 0} {R : N → M → Type 0} {Q : A → B → Type 0} (look : Contents N) (also : Contents M)
    (known : Known N) (other : Known M) → ((l : Location N) → AlikeAt R look also l) → KnownLike R known other →
    {r : Run N A} {s : Run M B} → RunLike R Q r s → ListLike (LocationLike R) (reads look known r) (reads also other s)
reads-like look also known other a d (gives q) = end
reads-like look also known other a d (fails f) = end
reads-like look also known other a d (looks {l = l} {m = m} e step) = more e (reads-like look also known other a d (step (look l) (also m) (a l m e)))
reads-like look also known other a d (demands {k = k} {h = h} t step) = looked look also known other k h (λ v w e. reads-like look also known other a d (step v w e)) (d _ _ t)
