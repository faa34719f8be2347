-- Texts behind each other, and their limit.
use Rattle.std.proofs.Common.{◌≡◌, ◌+◌, ℕ, Bool, List, ◌++◌, length, nat_le, cond, ap, ◌∙◌, sym}
use Rattle.std.proofs.lemmas.List.{length-append}
use Rattle.at_model.specs.Run.{Text, Long, Gives, Fails}
use Rattle.at_model.specs.Bodies.{joined, max_text}

pub by_length : (s t : List ℕ) (b : Bool) → b ≡ nat_le (length s + length t) max_text → joined {N = ℕ} (s ++ t) ≡ cond b (Gives (Text (s ++ t))) (Fails Long)
by_length s t b is = ap (λ n. cond (nat_le n max_text) (Gives (Text (s ++ t))) (Fails Long)) (length-append s t) ∙ ap (λ c. cond c (Gives (Text (s ++ t))) (Fails Long)) (sym is)
