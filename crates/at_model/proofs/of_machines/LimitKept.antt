-- How many nodes the tree may have stays over lines and turns, and it never has more.
use Rattle.std.proofs.Common.{◌≡◌, ℕ, Bool, true, List, Option, Some, None, refl, ap, ◌∙◌, subst}
use Rattle.std.specs.Prelude.{nat_le}
use Rattle.at_model.specs.Trees.{nodes}
use Rattle.at_model.specs.Replies.{Reply}
use Rattle.at_model.specs.Rules.{Rules}
use Rattle.at_model.specs.Machine.{State, Verdict, Refuses, Tells, Leaves, Edits, Asks, Posts, Waits, after, verdict, Turns, stays, answers, runs_out, Given, spent, none_open, silent, telling, Handles, obeys, waits, refuses, Serves, handles, Runs, end, next, IsSound}
use Rattle.at_model.proofs.of_machines.Sound.{sound_given, sound_served}
use Rattle.at_model.proofs.of_machines.Machines.{waited as when_waited}

limit_after : (s : State) (v : Verdict) → (after s v).limit ≡ s.limit
limit_after s (Refuses c) = refl
limit_after s (Tells shown) = refl
limit_after s (Leaves marks) = refl
limit_after s (Edits e t) = refl
limit_after s (Asks q) = refl
limit_after s (Posts q) = refl
limit_after s (Waits number) = refl

limit_turn : (rules : Rules) (old : State) (number : ℕ) (new : State) (o : Option (Bool × Reply)) →
    Turns rules old number new o → new.limit ≡ old.limit
limit_turn rules old number _ _ (stays q is) = refl
limit_turn rules old number _ _ (answers q form is a) = refl
limit_turn rules old number _ _ (runs_out q is) = refl

limit_given : (rules : Rules) (n : ℕ) (old : State) (told : List (Bool × Reply)) (new : State) →
    Given rules n old told new → new.limit ≡ old.limit
limit_given rules _ _ _ _ (spent s) = refl
limit_given rules _ _ _ _ (none_open n s e) = refl
limit_given rules _ _ _ new (silent {limit = n} {s = s} {mid = mid} {told = told} q is turn rest) =
    limit_given rules n mid told new rest ∙ limit_turn rules s q.number mid None turn
limit_given rules _ _ _ new (telling {limit = n} {s = s} {mid = mid} {said = said} {told = told} q is turn rest) =
    limit_given rules n mid told new rest ∙ limit_turn rules s q.number mid (Some said) turn

limit_handled : (rules : Rules) (old : State) (bytes : List ℕ) (new : State) (said : Bool × Reply) →
    Handles rules old bytes new said → new.limit ≡ old.limit
limit_handled rules old bytes new _ (obeys l spells step) =
    ap (λ (s : State). s.limit) step.state ∙ limit_after old (verdict rules old l)
limit_handled rules old bytes new said (waits l number spells is answered) =
    ap (λ (s : State). s.limit) (when_waited rules number old new said answered).state
limit_handled rules old bytes _ _ (refuses none session) = refl

limit_served : (rules : Rules) (old : State) (bytes : List ℕ) (new : State) (said : Bool × Reply) →
    Serves rules old bytes new said → new.limit ≡ old.limit
limit_served rules old bytes new said (handles h) = limit_handled rules old bytes new said h
limit_served rules old bytes _ _ (runs_out session) = refl

-- lines, one after the other
pub limit_kept : (rules : Rules) (slice : ℕ) (old : State) (ls : List (List ℕ)) (told : List (Bool × Reply)) (new : State) →
    Runs rules slice old ls told new → new.limit ≡ old.limit
limit_kept rules slice _ _ _ _ (end s) = refl
limit_kept rules slice old _ _ new (next {mid = mid} {turned = turned} {line = line} {rest = rest} {said = said} {told = told} {more = more} served given runs) =
    limit_kept rules slice turned rest more new runs ∙ limit_given rules slice mid told turned given ∙ limit_served rules old line mid said served

sound_run : (rules : Rules) (slice : ℕ) (old : State) (ls : List (List ℕ)) (told : List (Bool × Reply)) (new : State) →
    IsSound rules.classes old →
    Runs rules slice old ls told new → IsSound rules.classes new
sound_run rules slice _ _ _ _ sound (end s) = sound
sound_run rules slice old _ _ new sound (next {mid = mid} {turned = turned} {line = line} {rest = rest} {said = said} {told = told} {more = more} served given runs) =
    sound_run rules slice turned rest more new (sound_given rules slice mid told turned (sound_served rules old line mid said sound served) given) runs

pub never_more : (rules : Rules) (slice : ℕ) (old : State) (ls : List (List ℕ)) (told : List (Bool × Reply)) (new : State) →
    IsSound rules.classes old →
    Runs rules slice old ls told new → nat_le (nodes new.tree) old.limit ≡ true
never_more rules slice old ls told new sound runs =
    subst (λ (n : ℕ). nat_le (nodes new.tree) n ≡ true) (limit_kept rules slice old ls told new runs) (sound_run rules slice old ls told new sound runs).tree_allowed
