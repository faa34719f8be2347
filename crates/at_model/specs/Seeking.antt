-- Folds over a drawer in the place of folds over a list: when they come to the same, and by less.
use Rattle.std.specs.Prelude.{◌≡◌, ℕ, Bool, true, false, cond, List, [], ◌∷◌}
use Rattle.at_model.specs.Drawers.{Key, stands_under}
use Rattle.at_model.specs.Trees.{Token}
use Rattle.at_model.specs.Trees as tree
use Rattle.at_model.specs.Run.{Value, Instance, Location, Is, Tok, Slot, Drawer, Content, Contents, FaultKind, Run, Gives, Fails, Looks, Demands, ◌>>=◌}
use Rattle.at_model.specs.Bodies.{Expr, TruthLiteral, This, Name, Equals, TokenOf, truth_of}
use Rattle.at_model.specs.Meaning.{Among, Equations}

-- those of the list for which the test is true
abbrev pub those : {A : Type 0} → (A → Bool) → List A → List A
those f [] = []
those f (a ∷ as') = cond (f a) (a ∷ those f as') (those f as')

-- a fold over those to which the evaluation comes
abbrev pub over_those : {N : Type 0} → Run N (List N) → (List N → Run N (Value N)) → Run N (Value N)
over_those r fold = r >>= fold

-- what stands in a drawer, said by what stands at the other locations: the children in the component that stand under the mark
abbrev pub is_in_drawer : {N : Type 0} → Contents N → Key → ℕ → N → Bool
is_in_drawer look key m n = stands_under key m (look (Is n)) (look (Tok n key.token))

abbrev pub AreDrawn : {N : Type 0} → Contents N → Type 0
AreDrawn {N} look = (n : N) (part : ℕ) (key : Key) (m : ℕ) → look (Drawer n part key m) ≡ those (is_in_drawer look key m) (look (Slot n part))

-- an evaluation comes to the value by looks alone
abbrev pub Looking : {N A : Type 0} → Contents N → Run N A → A → Type 0
Looking look (Gives a) b = a ≡ b
Looking look (Fails f) b = ⊥
Looking look (Looks l k) b = Looking look (k (look l)) b
Looking look (Demands i k) b = ⊥

-- it comes to the value by looks, and by demands of instances that come to theirs by looks alone
abbrev pub Silent : {N A : Type 0} → Contents N → (Instance N → Value N → Type 0) → Run N A → A → Type 0
Silent look Plain (Gives a) b = a ≡ b
Silent look Plain (Fails f) b = ⊥
Silent look Plain (Looks l k) b = Silent look Plain (k (look l)) b
Silent {N} look Plain (Demands i k) b = (v : Value N) × Plain i v × Silent look Plain (k v) b

-- The second evaluation goes as the first one does, but for looks, which may be others, and for demands of the first one that it leaves
-- out: each of an instance with that value.
pub data Shortens {N A : Type 0} (look : Contents N) (Plain : Instance N → Value N → Type 0) : Run N A → Run N A → Type 0 where
  gives : (a : A) → Shortens look Plain (Gives a) (Gives a)
  fails : (f : FaultKind) → Shortens look Plain (Fails f) (Fails f)
  demands : (i : Instance N) (k h : Value N → Run N A) → ((v : Value N) → Shortens look Plain (k v) (h v)) → Shortens look Plain (Demands i k) (Demands i h)
  looks_less : (l : Location N) (k : Content l → Run N A) (s : Run N A) → Shortens look Plain (k (look l)) s → Shortens look Plain (Looks l k) s
  looks_more : (l : Location N) (r : Run N A) (h : Content l → Run N A) → Shortens look Plain r (h (look l)) → Shortens look Plain r (Looks l h)
  demands_less : (i : Instance N) (v : Value N) (k : Value N → Run N A) (s : Run N A) → Plain i v → Shortens look Plain (k v) s →
      Shortens look Plain (Demands i k) s

-- both equations of the instance come to the value by looks alone
abbrev pub IsPlain : {N : Type 0} → Contents N → Equations N → Equations N → Instance N → Value N → Type 0
IsPlain look equation also i v = Looking look (equation i) v × Looking look (also i) v

-- each equation of the second kind shortens that of the first
abbrev pub AreShortened : {N : Type 0} → Contents N → Equations N → Equations N → Type 0
AreShortened {N} look equation also = (i : Instance N) → Shortens look (IsPlain look equation also) (equation i) (also i)

-- at each child that doesn't stand under the mark the test comes to `false` without a fault
abbrev pub IsByKey : {N : Type 0} → Contents N → (Instance N → Value N → Type 0) → Key → ℕ → (N → Run N (Value N)) → List N → Type 0
IsByKey {N} look Plain key m test ns = (n : N) → Among n ns → is_in_drawer look key m n ≡ false →
    (v : Value N) × Silent look Plain (test n) v × (truth_of v ≡ false)

-- An equation that tests by the key: `false`, where the class has none; or a comparison of the key's token of the node with the argument.
pub data IsTest (key : Key) (has : Bool) : Expr → Type 0 where
  never : IsTest key has (TruthLiteral false)
  token : has ≡ true → IsTest key has (Equals (TokenOf This key.token) (Name 0))
  turned : has ≡ true → IsTest key has (Equals (Name 0) (TokenOf This key.token))

-- the token is a text
abbrev pub IsText : Token → Type 0
IsText v = (bytes : List ℕ) × (v ≡ tree.Text bytes)
