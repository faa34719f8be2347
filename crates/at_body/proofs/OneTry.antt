-- A try goes as far as no value is wanted, and on from there.
use Rattle.std.proofs.Common.{◌≡◌, List, [], ◌∷◌, ◌++◌, ◌∙◌, refl, ap, sym, append_assoc, append-nil, Option, Some, None}
use Rattle.at_model.specs.Run.{Value, Location, Run, Gives, Fails, Looks, Demands, Instance, Contents, Known, Tried, Needs, tried, reads}
use Rattle.at_model.specs.Follow.{Reached, Waits, follow}
use Rattle.at_body.specs.Trying.{onward}

abbrev pub whole : {N A : Type 0} → Contents N → Known N → List (Location N) → Run N A → Tried N A × List (Location N)
whole tree known seen r = (tried tree known r, seen ++ reads tree known r)

-- at a demand, by whether its value is known
at_demand : {N A : Type 0} (tree : Contents N) (known : Known N) (seen : List (Location N)) (j : Instance N) (k : Value N → Run N A) (o : Option (Value N)) →
    ◌≡◌ {A = Tried N A × List (Location N)} (elim o [ None ↦ Needs j | Some v ↦ tried tree known (k v) ], seen ++ elim o [ None ↦ [] | Some v ↦ reads tree known (k v) ]) (elim o [ None ↦ (Needs j, seen) | Some v ↦ (tried tree known (k v), seen ++ reads tree known (k v)) ])
at_demand tree known seen j k None = ap (λ ls. (Needs j, ls)) (append-nil seen)
at_demand tree known seen j k (Some v) = refl

pub goes_on : {N A : Type 0} (tree : Contents N) (known : Known N) (seen : List (Location N)) (r : Run N A) → whole tree known seen r ≡ onward tree known (follow tree seen r)
goes_on tree known seen (Gives a) = ap (λ ls. (tried tree known (Gives a), ls)) (append-nil seen)
goes_on tree known seen (Fails f) = ap (λ ls. (tried tree known (Fails f), ls)) (append-nil seen)
goes_on tree known seen (Looks l k) = ap (λ ls. (tried tree known (k (tree l)), ls)) (sym (append_assoc seen (l ∷ []) (reads tree known (k (tree l))))) ∙ goes_on tree known (seen ++ l ∷ []) (k (tree l))
goes_on tree known seen (Demands j k) = at_demand tree known seen j k (known j)

-- a demand that is met
pub next_step : {N A : Type 0} (tree : Contents N) (known : Known N) (seen : List (Location N)) (j : Instance N) (k : Value N → Run N A) (v : Value N) (end : Reached N A × List (Location N)) →
    Some v ≡ known j → follow tree seen (k v) ≡ end → onward tree known (Waits j k, seen) ≡ onward tree known end
next_step {N} {A} tree known seen j k v end e h =
    let on : Option (Value N) → Tried N A × List (Location N) = elim [ None ↦ (Needs j, seen) | Some w ↦ (tried tree known (k w), seen ++ reads tree known (k w)) ] in
    ap on (sym e) ∙ goes_on tree known seen (k v) ∙ ap (onward tree known) h
