use Rattle.at_cache.proofs.Common.{Option, None, Some, IfSome, true}
use Rattle.at_cache.proofs.of_cut.InTurns.{next_in_turns}
use Rattle.at_cache.proofs.keep_in_turns.KeepInTurnsKeeper.blocker.Goals as goal

weaker : {A : Type 0} (P Q : A → Type 0) → ((a : A) → P a → Q a) → (o : Option A) → IfSome o P → IfSome o Q
weaker P Q h None none = none
weaker P Q h (Some a) some = h a some

pub returns : goal.returns
returns g c = weaker _ _ (λ b next. next_in_turns true _ _ c.args.inst.now b.now next) c.blocker.result c.blocker.ensures
