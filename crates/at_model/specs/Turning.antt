-- A question that is given turns: how far it has come, what one turn may do, and how many turns it was given.
use Rattle.std.specs.Prelude.{◌≡◌, ◌⊎◌, ℕ, suc, List, [], ◌∷◌, ◌++◌, ◌+◌, ◌*◌, get_or, length, map, Option, Some, None}
use Rattle.at_model.specs.Run.{Value, Instance, Contents, FaultKind, Known}
use Rattle.at_model.specs.Meaning.{Equations, Holds, HasValue, Comes, Walks, Leads, Among, Distinct, Answer, Outcomes, Finds, Faults, Circle}

-- The instances under way, each of which demanded the next: those that wait, and the last one, which is tried. And the values
-- that were found.
pub record UnderWay (N : Type 0) : Type 0 where
  pub waiting : List (Instance N)
  pub last : Instance N
  pub found : List (Instance N × Value N)

-- the question as it is posted
abbrev pub posted : {N : Type 0} → Instance N → UnderWay N
posted q = record { waiting = []; last = q; found = [] }

-- all that are under way
abbrev pub chain : {N : Type 0} → UnderWay N → List (Instance N)
chain u = u.waiting ++ u.last ∷ []

-- the first of them: what was asked
abbrev pub asked : {N : Type 0} → UnderWay N → Instance N
asked u = get_or u.waiting 0 u.last

-- the instances whose values were found
abbrev pub keys : {N : Type 0} → List (Instance N × Value N) → List (Instance N)
keys {N} found = map (λ (p : Instance N × Value N). p.0) found

-- its value is kept, or was found
abbrev pub IsKnown : {N : Type 0} → Known N → List (Instance N × Value N) → Instance N → Type 0
IsKnown {N} kept found j = ((v : Value N) × (kept j ≡ Some v)) ⊎ Among j (keys found)

-- the instance is kept with this value, or the value of each that it comes to is known
abbrev pub IsReady : {N : Type 0} → Contents N → Equations N → Known N → List (Instance N × Value N) → Instance N → Value N → Type 0
IsReady {N} look equation kept found i v = (kept i ≡ Some v) ⊎ ((j : Instance N) → Comes look equation i j → IsKnown kept found j)

-- the last one waits, too, and j is the last
abbrev pub deeper : {N : Type 0} → UnderWay N → Instance N → UnderWay N
deeper u j = record { waiting = chain u; last = j; found = u.found }

-- the one before the last is the last
abbrev pub higher : {N : Type 0} → List (Instance N) → Instance N → List (Instance N × Value N) → UnderWay N
higher rest i found = record { waiting = rest; last = i; found = found }

-- the second list has a beside what the first one has
pub data IsOneMore {A : Type 0} (a : A) : List A → List A → Type 0 where
  between : (front back : List A) → IsOneMore a (front ++ back) (front ++ a ∷ back)

-- One turn, where these values are kept. It answers the question: by its value, where that is kept, or where the question is
-- the last one and is ready; by the fault of the last one's own equation; or by a circle, where the last one comes to one of
-- the chain. Else it adds to the chain one that the last one comes to, or takes the last one off, with its value.
pub data Turned {N : Type 0} (look : Contents N) (equation : Equations N) (kept : Known N) (u : UnderWay N) : UnderWay N → Option (Answer N) → Type 0 where
  is_kept : (v : Value N) → kept (asked u) ≡ Some v → HasValue look equation (asked u) v → Turned look equation kept u u (Some (Outcomes (Finds v)))
  finds : (v : Value N) → u.waiting ≡ [] → HasValue look equation u.last v → IsReady look equation kept u.found u.last v →
      Turned look equation kept u u (Some (Outcomes (Finds v)))
  faults : (f : FaultKind) → Holds look equation u.last (Faults f u.last) → Turned look equation kept u u (Some (Outcomes (Faults f u.last)))
  closes : (j : Instance N) → Comes look equation u.last j → Among j (chain u) → Turned look equation kept u u (Some (Circle j))
  deepens : (j : Instance N) → Comes look equation u.last j → (¬ (Among j (chain u))) → (¬ (IsKnown kept u.found j)) →
      Turned look equation kept u (deeper u j) None
  ascends : (rest : List (Instance N)) (i : Instance N) (v : Value N) (found : List (Instance N × Value N)) → u.waiting ≡ rest ++ i ∷ [] →
      HasValue look equation u.last v → IsReady look equation kept u.found u.last v → IsOneMore (u.last, v) u.found found →
      Turned look equation kept u (higher rest i found) None

-- demand leads from the first of those that wait over the others to i
abbrev pub Chains : {N : Type 0} → Contents N → Equations N → List (Instance N) → Instance N → Type 0
Chains look equation [] i = Unit {0}
Chains look equation (w ∷ ws) i = Walks look equation w ws i

-- The question q has come so far on this tree: its chain is one of demands, the values hold, and no instance stands twice in the
-- chain, twice among those that were found, or in both.
pub record IsOn {N : Type 0} (look : Contents N) (equation : Equations N) (q : Instance N) (u : UnderWay N) : Type 0 where
  pub starts : asked u ≡ q
  pub chains : Chains look equation u.waiting u.last
  pub holds : (i : Instance N) (v : Value N) → Among (i, v) u.found → HasValue look equation i v
  pub led : (i : Instance N) → Among i (keys u.found) → Leads look equation q i
  pub distinct : Distinct (chain u)
  pub once : Distinct (keys u.found)
  pub apart : (i : Instance N) → Among i (chain u) → Among i (keys u.found) → ⊥

-- so many turns without an answer, whatever is kept at each of them
pub data Silent {N : Type 0} (look : Contents N) (equation : Equations N) : ℕ → UnderWay N → UnderWay N → Type 0 where
  none : (u : UnderWay N) → Silent look equation 0 u u
  one_more : {n : ℕ} {u mid new : UnderWay N} (kept : Known N) → Silent look equation n u mid → Turned look equation kept mid new None →
      Silent look equation (suc n) u new

-- how many those since the post were: two for each instance that was found, and one for each that waits
abbrev pub turns_of : {N : Type 0} → UnderWay N → ℕ
turns_of u = 2 * length u.found + length u.waiting
