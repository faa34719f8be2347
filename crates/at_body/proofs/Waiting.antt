-- What a trial that waits has come past.
use Rattle.std.proofs.Common.{◌≡◌, List, [], ◌∷◌, ◌++◌, ◌∙◌, sym, subst, append_assoc, append-nil}
use Rattle.at_model.specs.Run.{Value, Location, FaultKind, Run, Gives, Fails, Looks, Demands, Instance, Contents}
use Rattle.at_model.specs.Follow.{Ends, Stops, Waits, follow, Past, here, looked, told}

abbrev pub Onward : {N A : Type 0} → Contents N → (Instance N → Value N → Type 0) → Run N A → List (Location N) → List (Location N) → Instance N → Run N A → Type 0
Onward {N} tree has r seen end j s = (new : List (Location N)) × (end ≡ seen ++ new) × Past tree has r (j ∷ []) new s

at_once : {N A : Type 0} (tree : Contents N) (has : Instance N → Value N → Type 0) (i j : Instance N) (h k : Value N → Run N A) (v : Value N) → has j v → i ≡ j → h ≡ k → Past tree has (Demands i h) (j ∷ []) [] (k v)
at_once tree has i j h k v is e f = rw (e, f) (told j k v is (here (k v)))

pub waits : {N A : Type 0} (tree : Contents N) (has : Instance N → Value N → Type 0) (seen : List (Location N)) (s : Run N A) (j : Instance N) (k : Value N → Run N A) (v : Value N) →
    (follow tree seen s).0 ≡ Waits j k → has j v → Onward tree has s seen (follow tree seen s).1 j (k v)
waits tree has seen (Gives a) j k v e is = absurd (cc)
waits tree has seen (Fails f) j k v e is = absurd (cc)
waits tree has seen (Demands i h) j k v e is = ([], sym (append-nil seen), at_once tree has i j h k v is (cc) (cc))
waits tree has seen (Looks l h) j k v e is =
    let (new, grows, past) = waits tree has (seen ++ l ∷ []) (h (tree l)) j k v e is in (l ∷ new, grows ∙ append_assoc seen (l ∷ []) new, looked l h past)

pub goes_past : {N A : Type 0} (tree : Contents N) (has : Instance N → Value N → Type 0) (r s t : Run N A) (js is : List (Instance N)) (ls ms : List (Location N)) →
    Past tree has r js ls s → Past tree has s is ms t → Past tree has r (js ++ is) (ls ++ ms) t
goes_past tree has r s t js is ls ms (here _) q = q
goes_past tree has r s t js is ls ms (looked l k p) q = looked l k (goes_past tree has _ s t _ is _ ms p q)
goes_past tree has r s t js is ls ms (told j k v h p) q = told j k v h (goes_past tree has _ s t _ is _ ms p q)

-- an evaluation comes to where it waits
abbrev pub To : {N A : Type 0} → Contents N → (Instance N → Value N → Type 0) → Run N A → List (Location N) → List (Location N) → Run N A → Type 0
To {N} tree has r seen end s = (new : List (Location N)) × (end ≡ seen ++ new) × Past tree has r [] new s

there : {N A : Type 0} (tree : Contents N) (has : Instance N → Value N → Type 0) (i j : Instance N) (h k : Value N → Run N A) → i ≡ j → h ≡ k → Past tree has (Demands i h) [] [] (Demands j k)
there tree has i j h k e f = rw (e, f) (here (Demands j k))

pub stands : {N A : Type 0} (tree : Contents N) (has : Instance N → Value N → Type 0) (seen : List (Location N)) (s : Run N A) (j : Instance N) (k : Value N → Run N A) →
    (follow tree seen s).0 ≡ Waits j k → To tree has s seen (follow tree seen s).1 (Demands j k)
stands tree has seen (Gives a) j k e = absurd (cc)
stands tree has seen (Fails f) j k e = absurd (cc)
stands tree has seen (Demands i h) j k e = ([], sym (append-nil seen), there tree has i j h k (cc) (cc))
stands tree has seen (Looks l h) j k e =
    let (new, grows, past) = stands tree has (seen ++ l ∷ []) (h (tree l)) j k e in (l ∷ new, grows ∙ append_assoc seen (l ∷ []) new, looked l h past)

pub then_stands : {N A : Type 0} (tree : Contents N) (has : Instance N → Value N → Type 0) (r s t : Run N A) (js : List (Instance N)) (ls ms : List (Location N)) → Past tree has r js ls s → Past tree has s [] ms t → Past tree has r js (ls ++ ms) t
then_stands {N} tree has r s t js ls ms p q = let P : List (Instance N) → Type 0 = λ is. Past tree has r is (ls ++ ms) t in subst P (append-nil js) (goes_past tree has r s t js [] ls ms p q)

given : {N A : Type 0} (tree : Contents N) (has : Instance N → Value N → Type 0) (a b : A) → a ≡ b → Past tree has (Gives a) [] [] (Gives b)
given tree has a b e = rw e (here (Gives b))

failed : {N A : Type 0} (tree : Contents N) (has : Instance N → Value N → Type 0) (f g : FaultKind) → f ≡ g → Past {N = N} {A = A} tree has (Fails f) [] [] (Fails g)
failed tree has f g e = rw e (here (Fails g))

pub gives_there : {N A : Type 0} (tree : Contents N) (has : Instance N → Value N → Type 0) (seen : List (Location N)) (s : Run N A) (v : A) →
    (follow tree seen s).0 ≡ Ends v → To tree has s seen (follow tree seen s).1 (Gives v)
gives_there tree has seen (Gives a) v e = ([], sym (append-nil seen), given tree has a v (cc))
gives_there tree has seen (Fails f) v e = absurd (cc)
gives_there tree has seen (Demands i h) v e = absurd (cc)
gives_there tree has seen (Looks l h) v e =
    let (new, grows, past) = gives_there tree has (seen ++ l ∷ []) (h (tree l)) v e in (l ∷ new, grows ∙ append_assoc seen (l ∷ []) new, looked l h past)

pub fails_there : {N A : Type 0} (tree : Contents N) (has : Instance N → Value N → Type 0) (seen : List (Location N)) (s : Run N A) (f : FaultKind) →
    (follow tree seen s).0 ≡ Stops f → To tree has s seen (follow tree seen s).1 (Fails f)
fails_there tree has seen (Gives a) f e = absurd (cc)
fails_there tree has seen (Fails g) f e = ([], sym (append-nil seen), failed tree has g f (cc))
fails_there tree has seen (Demands i h) f e = absurd (cc)
fails_there tree has seen (Looks l h) f e =
    let (new, grows, past) = fails_there tree has (seen ++ l ∷ []) (h (tree l)) f e in (l ∷ new, grows ∙ append_assoc seen (l ∷ []) new, looked l h past)
