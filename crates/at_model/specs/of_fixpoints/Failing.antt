-- Whose own equation it is that has a fault.
use Rattle.std.specs.Prelude.{◌≡◌}
use Rattle.at_model.specs.Run.{Value, Instance, Contents, FaultKind, Run, Gives, Fails, Looks, Demands}

-- an evaluation fails so by itself, and each demand before that has a value
abbrev pub FailsItself : {N A : Type 0} → Contents N → (Instance N → Value N → Type 0) → Run N A → FaultKind → Type 0
FailsItself look Has (Gives a) f = ⊥
FailsItself look Has (Fails g) f = g ≡ f
FailsItself look Has (Looks l k) f = FailsItself look Has (k (look l)) f
FailsItself {N} look Has (Demands i k) f = (v : Value N) × Has i v × FailsItself look Has (k v) f
