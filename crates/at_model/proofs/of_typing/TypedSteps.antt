-- Typed runs, one after the other.
use Rattle.std.proofs.Common.{Bool, true, false, cond}
use Rattle.at_model.specs.Run.{Contents, Run, Gives, Fails, Looks, Demands, ◌>>=◌}
use Rattle.at_model.specs.Rules.{Rules}
use Rattle.at_model.specs.TypedRuns.{ClassAt, Texts, IsTypedRun}

module _ {N : Type 0} (rules : Rules) (at : ClassAt N) (Allowed : Texts) (look : Contents N) where
  -- one after the other
  pub then_typed : {A B : Type 0} (Q : A → Type 0) (P : B → Type 0) (r : Run N A) (k : A → Run N B)
      → IsTypedRun rules at Allowed look Q r → ((a : A) → Q a → IsTypedRun rules at Allowed look P (k a))
      → IsTypedRun rules at Allowed look P (r >>= k)
  then_typed Q P (Gives a) k h g = g a h
  then_typed Q P (Fails f) k h g = tt
  then_typed Q P (Looks l m) k (s, h) g = (s, then_typed Q P (m (look l)) k h g)
  then_typed Q P (Demands i m) k (w, h) g = (w, λ v kind. then_typed Q P (m v) k (h v kind) g)

  -- what is less is typed as well
  pub less_typed : {A : Type 0} (Q P : A → Type 0) (r : Run N A) → ((a : A) → Q a → P a) → IsTypedRun rules at Allowed look Q r → IsTypedRun rules at Allowed look P r
  less_typed Q P (Gives a) g h = g a h
  less_typed Q P (Fails f) g h = tt
  less_typed Q P (Looks l m) g (s, h) = (s, less_typed Q P (m (look l)) g h)
  less_typed Q P (Demands i m) g (w, h) = (w, λ v kind. less_typed Q P (m v) g (h v kind))

  pub either_typed : {A : Type 0} (Q : A → Type 0) (b : Bool) (r s : Run N A) → IsTypedRun rules at Allowed look Q r
      → IsTypedRun rules at Allowed look Q s → IsTypedRun rules at Allowed look Q (cond b r s)
  either_typed Q true r s g h = g
  either_typed Q false r s g h = h
