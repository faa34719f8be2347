-- Evaluations that look at locations first: what stands behind the looks is theirs, too.
use Rattle.std.proofs.Common.{◌≡◌, ℕ, List, [], ◌∷◌, ◌++◌, sym, ap, ◌∙◌, subst, append_assoc, append-nil}
use Rattle.at_model.specs.Run.{Value, Instance, Location, Contents, Run, Gives, Fails, Looks, Demands, LooksTo}
use Rattle.at_model.specs.Follow.{Reached, Ends, Stops, Waits}
use Rattle.at_model.specs.Meaning.{Reaches}
use Rattle.at_model.specs.Nested.{Passes, gives, looks}
use Rattle.at_evaluate.specs.Looking.{HasLooked}

-- what demands are told
abbrev pub Telling : Type 1
Telling = Instance ℕ → Value ℕ → List (Location ℕ) → List (Instance ℕ) → Type 0

ends : {A : Type 0} (a b : A) (xs ys : List (Location ℕ)) →
    ◌≡◌ {A = Reached ℕ A × List (Location ℕ)} (Ends a, xs) (Ends b, ys) → (a ≡ b) × (xs ≡ ys)
ends {A} a b xs ys e =
    let f : ◌≡◌ {A = Reached ℕ A} (Ends a) (Ends b) = ap (λ (p : Reached ℕ A × List (Location ℕ)). p.0) e in
    (cc, ap (λ (p : Reached ℕ A × List (Location ℕ)). p.1) e)

-- what comes to a value by looks alone
pub looked : {A : Type 0} (look : Contents ℕ) (tells : Telling) (seen new : List (Location ℕ)) (r : Run ℕ A) (a : A) →
    HasLooked look seen new r a → (ls : List (Location ℕ)) × Passes look tells r a ls [] × (new ≡ seen ++ ls)
looked look tells seen new (Gives b) a e =
    let h = ends b a seen new e in
    ([], subst (λ x. Passes look tells (Gives b) x [] []) h.0 (gives b), sym h.1 ∙ sym (append-nil seen))
looked {A} look tells seen new (Fails f) a e =
    let h : ◌≡◌ {A = Reached ℕ A} (Stops f) (Ends a) = ap (λ (p : Reached ℕ A × List (Location ℕ)). p.0) e in absurd cc
looked look tells seen new (Looks l k) a e =
    let (ls, p, is) = looked look tells (seen ++ l ∷ []) new (k (look l)) a e in
    (l ∷ ls, looks l k a ls [] p, is ∙ append_assoc seen (l ∷ []) ls)
looked {A} look tells seen new (Demands j k) a e =
    let h : ◌≡◌ {A = Reached ℕ A} (Waits j k) (Ends a) = ap (λ (p : Reached ℕ A × List (Location ℕ)). p.0) e in
    absurd cc

-- behind looks
pub passes_behind : {A : Type 0} (look : Contents ℕ) (tells : Telling) (r : Run ℕ A) (ls : List (Location ℕ))
    (q : Run ℕ A) (a : A) (ms : List (Location ℕ)) (us : List (Instance ℕ)) → LooksTo look r ls q →
    Passes look tells q a ms us → Passes look tells r a (ls ++ ms) us
passes_behind look tells r [] q a ms us e p = subst (λ x. Passes look tells x a ms us) (sym e) p
passes_behind look tells (Gives b) (l ∷ ls) q a ms us h p = absurd h
passes_behind look tells (Fails f) (l ∷ ls) q a ms us h p = absurd h
passes_behind look tells (Looks m k) (l ∷ ls) q a ms us (e, h) p =
    subst (λ x. Passes look tells (Looks m k) a (x ∷ ls ++ ms) us) e
    (looks m k a (ls ++ ms) us (passes_behind look tells (k (look m)) ls q a ms us h p))
passes_behind look tells (Demands j k) (l ∷ ls) q a ms us h p = absurd h

pub reaches_past : {A : Type 0} (look : Contents ℕ) (has : Instance ℕ → Value ℕ → Type 0) (r : Run ℕ A)
    (ls : List (Location ℕ)) (q : Run ℕ A) (m : Instance ℕ) → LooksTo look r ls q → Reaches look has q m →
    Reaches look has r m
reaches_past look has r [] q m e d = subst (λ x. Reaches look has x m) (sym e) d
reaches_past look has (Gives b) (l ∷ ls) q m h d = absurd h
reaches_past look has (Fails f) (l ∷ ls) q m h d = absurd h
reaches_past look has (Looks n k) (l ∷ ls) q m (e, h) d = reaches_past look has (k (look n)) ls q m h d
reaches_past look has (Demands j k) (l ∷ ls) q m h d = absurd h
