-- Evaluations that are shortened close the same circles.
use Rattle.std.proofs.Common.{◌≡◌, List, [], ◌∷◌, sym, subst, ◌⊎◌, inl, inr}
use Rattle.at_model.specs.Run.{Value, Instance, Contents, Run, Gives, Fails, Looks, Demands}
use Rattle.at_model.specs.Meaning.{Finds, Equations, HasValue, Reaches, Comes, Walks, Among, Circular, Answer, Outcomes, Circle, Answers}
use Rattle.at_model.specs.Seeking.{Looking, Shortens, gives, fails, demands, looks_less, looks_more, demands_less, IsPlain, AreShortened}
use Rattle.at_model.proofs.Outcomes.{once}
use Rattle.at_model.proofs.of_seeking.Shortened.{plainly, shortened_holds, lengthened_holds}

-- what comes to its value by looks alone comes to no demand
no_demand : {N A : Type 0} (look : Contents N) (Has : Instance N → Value N → Type 0) (r : Run N A) (a : A) (j : Instance N) → Looking look r a → Reaches look Has r j → ⊥
no_demand look Has (Gives b) a j e h = h
no_demand look Has (Fails f) a j e h = h
no_demand look Has (Looks l k) a j e h = no_demand look Has (k (look l)) a j e h
no_demand look Has (Demands i k) a j e h = e

same_value : {N : Type 0} (v w : Value N) → Finds v ≡ Finds w → v ≡ w
same_value v w e = cc

module _ {N : Type 0} (look : Contents N) (equation also : Equations N) (short : AreShortened look equation also) where
  abbrev Plain : Instance N → Value N → Type 0
  Plain i v = IsPlain look equation also i v

  plain_value : (i : Instance N) (v : Value N) → Plain i v → HasValue look equation i v
  plain_value i v plain = (1, plainly look equation also short 0 i v plain)

  one_value : (i : Instance N) (v w : Value N) → HasValue look equation i v → HasValue look equation i w → v ≡ w
  one_value i v w h k = same_value v w (once look equation i (Finds v) (Finds w) h k)

  -- what the shorter one comes to the longer one does, too
  longer_reaches : {A : Type 0} (r s : Run N A) (j : Instance N) → Shortens look Plain r s → Reaches look (HasValue look also) s j → Reaches look (HasValue look equation) r j
  longer_reaches _ _ j (gives a) h = h
  longer_reaches _ _ j (fails f) h = h
  longer_reaches _ _ j (demands i k m below) (inl e) = inl e
  longer_reaches _ _ j (demands i k m below) (inr (v, has, rest)) = inr (v, lengthened_holds look equation also short i (Finds v) has, longer_reaches (k v) (m v) j (below v) rest)
  longer_reaches _ _ j (looks_less l k s rest) h = longer_reaches (k (look l)) s j rest h
  longer_reaches _ _ j (looks_more l r m rest) h = longer_reaches r (m (look l)) j rest h
  longer_reaches _ _ j (demands_less i v k s plain rest) h = inr (v, plain_value i v plain, longer_reaches (k v) s j rest h)

  -- and the other way round, or it is one that is left out
  shorter_reaches : {A : Type 0} (r s : Run N A) (j : Instance N) → Shortens look Plain r s → Reaches look (HasValue look equation) r j
      → Reaches look (HasValue look also) s j ⊎ ((v : Value N) × Plain j v)
  shorter_reaches _ _ j (gives a) h = inl h
  shorter_reaches _ _ j (fails f) h = inl h
  shorter_reaches _ _ j (demands i k m below) (inl e) = inl (inl e)
  shorter_reaches _ _ j (demands i k m below) (inr (v, has, rest)) = deeper (shorter_reaches (k v) (m v) j (below v) rest)
    where
      deeper : Reaches look (HasValue look also) (m v) j ⊎ ((w : Value N) × Plain j w)
          → ((i ≡ j) ⊎ ((w : Value N) × HasValue look also i w × Reaches look (HasValue look also) (m w) j)) ⊎ ((w : Value N) × Plain j w)
      deeper (inl more) = inl (inr (v, shortened_holds look equation also short i (Finds v) has, more))
      deeper (inr plain) = inr plain
  shorter_reaches _ _ j (looks_less l k s rest) h = shorter_reaches (k (look l)) s j rest h
  shorter_reaches _ _ j (looks_more l r m rest) h = shorter_reaches r (m (look l)) j rest h
  shorter_reaches _ _ j (demands_less i v k s plain rest) (inl e) = inr (v, subst (λ (x : Instance N). Plain x v) e plain)
  shorter_reaches _ _ j (demands_less i v k s plain rest) (inr (w, has, more)) =
      shorter_reaches (k v) s j rest (subst (λ (x : Value N). Reaches look (HasValue look equation) (k x) j) (one_value i w v has (plain_value i v plain)) more)

  -- whatever comes to another one isn't left out
  abbrev GoesOn : Instance N → Type 0
  GoesOn i = (m : Instance N) × Comes look equation i m

  not_plain : (i : Instance N) (v : Value N) → Plain i v → GoesOn i → ⊥
  not_plain i v plain (m, comes) = no_demand look (HasValue look equation) (equation i) v m plain.0 comes

  comes_shorter : (i j : Instance N) → GoesOn j → Comes look equation i j → Comes look also i j
  comes_shorter i j on h = by_reach (shorter_reaches (equation i) (also i) j (short i) h)
    where
      by_reach : Reaches look (HasValue look also) (also i) j ⊎ ((v : Value N) × Plain j v) → Comes look also i j
      by_reach (inl more) = more
      by_reach (inr (v, plain)) = absurd (not_plain j v plain on)

  starts : (i : Instance N) (is : List (Instance N)) (j : Instance N) → Walks look equation i is j → GoesOn i
  starts i [] j h = (j, h)
  starts i (m ∷ ms) j h = (m, h.0)

  on_the_way : (i : Instance N) (is : List (Instance N)) (j k : Instance N) → Walks look equation i is j → Among k (i ∷ is) → GoesOn k
  on_the_way i is j k h (inl e) = subst GoesOn (sym e) (starts i is j h)
  on_the_way i [] j k h (inr e) = absurd e
  on_the_way i (m ∷ ms) j k h (inr among) = on_the_way m ms j k h.1 among

  walks_shorter : (i : Instance N) (is : List (Instance N)) (j : Instance N) → GoesOn j → Walks look equation i is j → Walks look also i is j
  walks_shorter i [] j on h = comes_shorter i j on h
  walks_shorter i (m ∷ ms) j on h = (comes_shorter i m (starts m ms j h.1) h.0, walks_shorter m ms j on h.1)

  walks_longer : (i : Instance N) (is : List (Instance N)) (j : Instance N) → Walks look also i is j → Walks look equation i is j
  walks_longer i [] j h = longer_reaches (equation i) (also i) j (short i) h
  walks_longer i (m ∷ ms) j h = (longer_reaches (equation i) (also i) m (short i) h.0, walks_longer m ms j h.1)

  circle_shorter : (q j : Instance N) → Circular look equation q j → Circular look also q j
  circle_shorter q j (is, apart, walks, among) = (is, apart, walks_shorter q is j (on_the_way q is j j walks among) walks, among)

  circle_longer : (q j : Instance N) → Circular look also q j → Circular look equation q j
  circle_longer q j (is, apart, walks, among) = (is, apart, walks_longer q is j walks, among)

  pub answers_shorter : (q : Instance N) (a : Answer N) → Answers look equation q a → Answers look also q a
  answers_shorter q (Outcomes o) h = shortened_holds look equation also short q o h
  answers_shorter q (Circle j) h = circle_shorter q j h

  pub answers_longer : (q : Instance N) (a : Answer N) → Answers look also q a → Answers look equation q a
  answers_longer q (Outcomes o) h = lengthened_holds look equation also short q o h
  answers_longer q (Circle j) h = circle_longer q j h
