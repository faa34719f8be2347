-- What a try reads and demands is what the evaluation sees and comes to.
use Rattle.std.proofs.Common.{◌≡◌, Bool, true, false, cond, List, [], ◌∷◌, Option, Some, None, ◌↔◌, inl, inr, refl, sym}
use Rattle.at_model.specs.Run.{Value, Instance, Location, Run, Gives, Fails, Looks, Demands, Tried, Needs, Contents, Known, tried, reads, demands, has_ended}
use Rattle.at_model.specs.Meaning.{Equations, HasValue, Reaches, Among, Right}
use Rattle.at_model.specs.Support.{Sees}
use Rattle.at_model.proofs.Reached.{AreLost, onto, demanded, reaches_in, sees_in, in_sees}

-- where nothing is lost
abbrev nowhere : {N : Type 0} → Instance N → Bool
nowhere i = false

none_lost : {N : Type 0} (look : Contents N) (equation : Equations N) → AreLost look equation nowhere
none_lost look equation i v e h = absurd cc

-- a try that ends is told a value for each demand
told_at : {N A : Type 0} (look : Contents N) (known : Known N) (i : Instance N) (k : Value N → Run N A) (o : Option
    (Value N)) → has_ended (elim o as (λ _. Tried N A) [ None ↦ Needs i | Some v ↦ tried look known (k v) ]) ≡ true →
    ((v : Value N) → has_ended (tried look known (k v)) ≡ true → demanded look known nowhere (k v) ≡ Some (demands look known (k v))) →
    elim o [ None ↦ cond (nowhere i) (Some (i ∷ [])) None | Some v ↦ onto i (demanded look known nowhere (k v)) ]
    ≡ Some (i ∷ elim o as (λ _. List (Instance N)) [ None ↦ [] | Some v ↦ demands look known (k v) ])
told_at look known i k None e more = absurd cc
told_at look known i k (Some v) e more = rw (more v e) refl

all_told : {N A : Type 0} (look : Contents N) (known : Known N) (r : Run N A) → has_ended (tried look known r) ≡ true → demanded look known nowhere r ≡ Some (demands look known r)
all_told look known (Gives a) e = refl
all_told look known (Fails f) e = refl
all_told look known (Looks l k) e = all_told look known (k (look l)) e
all_told look known (Demands i k) e = told_at look known i k (known i) e (λ v. all_told look known (k v))

-- what a try demands its evaluation comes to
come_at : {N A : Type 0} (look : Contents N) (equation : Equations N) (known : Known N) → Right look equation known → (i j : Instance N) (k : Value N → Run N A) (o : Option (Value N)) → known i ≡ o →
    Among j (elim o as (λ _. List (Instance N)) [ None ↦ [] | Some v ↦ demands look known (k v) ])
    → ((v : Value N) → Among j (demands look known (k v)) → Reaches look (HasValue look equation) (k v) j) →
    (v : Value N) × HasValue look equation i v × Reaches look (HasValue look equation) (k v) j
come_at look equation known right i j k None is h more = absurd h
come_at look equation known right i j k (Some v) is h more = (v, right i v is, more v h)

pub comes_to : {N A : Type 0} (look : Contents N) (equation : Equations N) (known : Known N) → Right look equation known
    → (r : Run N A) (j : Instance N) → Among j (demands look known r) → Reaches look (HasValue look equation) r j
comes_to look equation known right (Gives a) j h = absurd h
comes_to look equation known right (Fails f) j h = absurd h
comes_to look equation known right (Looks l k) j h = comes_to look equation known right (k (look l)) j h
comes_to look equation known right (Demands i k) j (inl same) = inl (sym same)
comes_to look equation known right (Demands i k) j (inr h) = inr (come_at look equation known right i j k (known i) refl h (λ v. comes_to look equation known right (k v) j))

pub reads_exact : {N A : Type 0} (look : Contents N) (equation : Equations N) (known : Known N) → Right look equation known → (r : Run N A) → has_ended (tried look known r) ≡ true → (l : Location N) →
    Among l (reads look known r) ↔ Sees look (HasValue look equation) r l
reads_exact look equation known right r ended l = (
  in_sees look equation known right r l,
  sees_in look equation known
      nowhere right (none_lost look equation) r l (demands look known r) (all_told look known r ended),
)

pub demands_exact : {N A : Type 0} (look : Contents N) (equation : Equations N) (known : Known N)
    → Right look equation known → (r : Run N A) → has_ended (tried look known r) ≡ true → (j : Instance N) →
    Among j (demands look known r) ↔ Reaches look (HasValue look equation) r j
demands_exact look equation known right r ended j = (
  comes_to look equation known right r j,
  reaches_in look equation
      known nowhere right (none_lost look equation) r j (demands look known r) (all_told look known r ended),
)
