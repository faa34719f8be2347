-- How much the search of a level still has to go through: less with each that it looks at.
use Rattle.std.proofs.Common.{◌≡◌, ◌+◌, ◌<◌, ◌≤◌, ℕ, suc, arith, Bool, true, false, ◌||◌, cond, List, [], ◌∷◌, length, Option, Some, None, inl, inr, refl, sym, ap, ◌∙◌}
use Rattle.std.proofs.lemmas.List.{length-append}
use Rattle.std.specs.Map.{keys_of, lookup}
use Rattle.at_model.specs.Meaning.{Among}
use Rattle.at_model.specs.Run.{Instance}
use Rattle.at_model.specs.of_fixpoints.Searching.{asked_in}
use Rattle.at_body.specs.Same.{same_instance}
use Rattle.at_search.specs.Recorded.{cost_of, end_of, is_in}
use Rattle.at_search.specs.declared.ended.Ended.{Ended}
use Rattle.at_search.specs.declared.ended.Ending.{Ending}
use Rattle.at_search.proofs.Working.{is_out}
use Rattle.at_demand.specs.declared.question.Question.{Question}
use Rattle.at_demand.specs.ChainSteps.{SeesNext}
use Rattle.at_demand.specs.Levels.{seen_in, todo_in}
use Rattle.at_demand.specs.Searches.{cost_at, cost_left, left_to_do}
use Rattle.at_evaluate.proofs.Sameness.{same_refl}
use Rattle.at_demand.proofs.of_levels.Resolving.{EndingsStay, key_entry}

abbrev cost_or : Option Ended → ℕ
cost_or o = elim o [ None ↦ 0 | Some x ↦ cost_of x ]

-- marks cost nothing
module _ (old new : List (Instance ℕ × Ended)) (on : EndingsStay old new) where
  cost_same : (k : Instance ℕ) → Among k (keys_of old) → cost_at new k ≡ cost_at old k
  cost_same k h =
      let (x, at) = key_entry old k h in
      let (y, here, same) = on k x at in
      ap cost_or here ∙ ap (λ (e : Ending). suc (length (asked_in (end_of e)))) same ∙ sym (ap cost_or at)

  left_same : (seen ks : List (Instance ℕ)) → ((k : Instance ℕ) → Among k ks → Among k (keys_of old)) → cost_left new seen ks ≡ cost_left old seen ks
  left_same seen [] all = refl
  left_same seen (k ∷ ks) all =
      ap (λ z. cond (is_in seen k) 0 z + cost_left new seen ks) (cost_same k (all k (inl refl)))
      ∙ ap (λ z. cond (is_in seen k) 0 (cost_at old k) + z) (left_same seen ks (λ j h. all j (inr h)))

-- what was seen costs nothing more
less_cost : (a b : Bool) (n : ℕ) → cond (a || b) 0 n ≤ cond b 0 n
less_cost true true n = omega arith
less_cost true false n = omega arith
less_cost false b n = omega arith

less_left : (ended : List (Instance ℕ × Ended)) (c : Instance ℕ) (seen ks : List (Instance ℕ)) → cost_left ended (c ∷ seen) ks ≤ cost_left ended seen ks
less_left ended c seen [] = omega arith
less_left ended c seen (k ∷ ks) =
    let here = less_cost (same_instance k c) (is_in seen k) (cost_at ended k) in
    let rest = less_left ended c seen ks in
    omega (arith, here, rest)

fewer_left : (ended : List (Instance ℕ × Ended)) (c : Instance ℕ) (x : Ended) (seen ks : List (Instance ℕ)) → lookup (same_instance c) ended ≡ Some x →
    (Among c seen → ⊥) → Among c ks → cost_left ended (c ∷ seen) ks + cost_of x ≤ cost_left ended seen ks
fewer_left ended c x seen [] at out h = absurd h
fewer_left ended c x seen (k ∷ ks) at out (inl e) =
    let there : same_instance k c ≡ true = ap (λ z. same_instance z c) (sym e) ∙ same_refl c in
    let gone : is_in seen k ≡ false = ap (is_in seen) (sym e) ∙ is_out seen c out in
    let cost : cost_at ended k ≡ cost_of x = ap (cost_at ended) (sym e) ∙ ap cost_or at in
    let new : cond (same_instance k c || is_in seen k) 0 (cost_at ended k) ≡ 0 = ap (λ b. cond (b || is_in seen k) 0 (cost_at ended k)) there in
    let old : cond (is_in seen k) 0 (cost_at ended k) ≡ cost_at ended k = ap (λ b. cond b 0 (cost_at ended k)) gone in
    let rest = less_left ended c seen ks in
    omega (arith, rest, cost, new, old)
fewer_left ended c x seen (k ∷ ks) at out (inr h) =
    let here = less_cost (same_instance k c) (is_in seen k) (cost_at ended k) in
    let rest = fewer_left ended c x seen ks at out h in
    omega (arith, here, rest)

-- one to do is taken off
pub less_past : (old new : Question) (c : Instance ℕ) → EndingsStay old.ended.entries new.ended.entries → keys_of new.ended.entries ≡ keys_of old.ended.entries →
    seen_in new.level ≡ seen_in old.level → todo_in old.level ≡ c ∷ todo_in new.level → left_to_do new < left_to_do old
less_past old new c on keys seen todo =
    let costs : cost_left new.ended.entries (seen_in new.level) (keys_of new.ended.entries) ≡ cost_left old.ended.entries (seen_in old.level) (keys_of old.ended.entries) =
    ap (λ ks. cost_left new.ended.entries (seen_in new.level) ks) keys ∙ ap (λ is. cost_left new.ended.entries is (keys_of old.ended.entries)) seen
    ∙ left_same old.ended.entries new.ended.entries on (seen_in old.level) (keys_of old.ended.entries) (λ k h. h) in
    let long : length (todo_in old.level) ≡ suc (length (todo_in new.level)) = ap length todo in
    omega (arith, costs, long)

-- one is seen, and what its formula asks is to do
pub less_seen : (old new : Question) (c : Instance ℕ) (x : Ended) → new.ended.entries ≡ old.ended.entries → lookup (same_instance c) old.ended.entries ≡ Some x →
    Among c (keys_of old.ended.entries) → (Among c (seen_in old.level) → ⊥) → SeesNext old.level new.level c x.ending → left_to_do new < left_to_do old
less_seen old new c x same at key out h =
    let costs : cost_left new.ended.entries (seen_in new.level) (keys_of new.ended.entries) ≡ cost_left old.ended.entries (c ∷ seen_in old.level) (keys_of old.ended.entries) =
    ap (λ es. cost_left es (seen_in new.level) (keys_of es)) same ∙ ap (λ is. cost_left old.ended.entries is (keys_of old.ended.entries)) h.seen in
    let left = fewer_left old.ended.entries c x (seen_in old.level) (keys_of old.ended.entries) at out key in
    let long : length (todo_in new.level) ≡ length (asked_in (end_of x.ending)) + length (todo_in old.level) =
    ap length h.todo ∙ length-append (asked_in (end_of x.ending)) (todo_in old.level) in
    omega (arith, costs, left, long)
