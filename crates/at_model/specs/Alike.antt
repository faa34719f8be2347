-- Two trees whose nodes are related, and what is alike in them: a tree of numbered nodes and one of paths, or a tree before
-- and after an edit.
use Rattle.std.specs.Prelude.{◌≡◌, ℕ, ℤ, Bool, List, [], ◌∷◌, Option, Some, None}
use Rattle.at_model.specs.Drawers.{Key}
use Rattle.at_model.specs.Run.{Value, Int, Truth, Text, Ref, Nodes, Instance, Location, Is, Tok, Slot, Up, Idx, Drawer, Content, Contents, FaultKind, Run, Gives, Fails, Looks, Demands, Known, Tried, Valued, Faulted, Needs}
use Rattle.at_model.specs.Bodies.{Scope}
use Rattle.at_model.specs.Meaning.{Outcome, Finds, Faults, Answer, Outcomes, Circle, Equations}
use Rattle.at_model.specs.Support.{Supports}

-- two that are related, or none
pub data OptionLike {A B : Type 0} (R : A → B → Type 0) : Option A → Option B → Type 0 where
  neither : OptionLike R None None
  both : {a : A} {b : B} → R a b → OptionLike R (Some a) (Some b)

-- as many, each related to the one in its place
pub data ListLike {A B : Type 0} (R : A → B → Type 0) : List A → List B → Type 0 where
  end : ListLike R [] []
  more : {a : A} {b : B} {as' : List A} {bs : List B} → R a b → ListLike R as' bs → ListLike R (a ∷ as') (b ∷ bs)

-- the same value, up to the nodes to which it refers
pub data ValueLike {N M : Type 0} (R : N → M → Type 0) : Value N → Value M → Type 0 where
  int : (n : ℤ) → ValueLike R (Int n) (Int n)
  truth : (b : Bool) → ValueLike R (Truth b) (Truth b)
  text : (bytes : List ℕ) → ValueLike R (Text bytes) (Text bytes)
  ref : {n : Option N} {m : Option M} → OptionLike R n m → ValueLike R (Ref n) (Ref m)
  nodes : {ns : List N} {ms : List M} → ListLike R ns ms → ValueLike R (Nodes ns) (Nodes ms)

-- the same attribute of related nodes, with like arguments
pub record InstanceLike {N M : Type 0} (R : N → M → Type 0) (i : Instance N) (j : Instance M) : Type 0 where
  pub node : R i.node j.node
  pub attribute : i.attribute ≡ j.attribute
  pub arguments : ListLike (ValueLike R) i.arguments j.arguments

-- the same location of related nodes
pub data LocationLike {N M : Type 0} (R : N → M → Type 0) : Location N → Location M → Type 0 where
  is : {n : N} {m : M} → R n m → LocationLike R (Is n) (Is m)
  tok : {n : N} {m : M} (part : ℕ) → R n m → LocationLike R (Tok n part) (Tok m part)
  slot : {n : N} {m : M} (part : ℕ) → R n m → LocationLike R (Slot n part) (Slot m part)
  up : {n : N} {m : M} → R n m → LocationLike R (Up n) (Up m)
  idx : {n : N} {m : M} → R n m → LocationLike R (Idx n) (Idx m)
  drawer : {n : N} {m : M} (part : ℕ) (key : Key) (mark : ℕ) → R n m → LocationLike R (Drawer n part key mark) (Drawer m part key mark)

-- the same content, up to the nodes in it
abbrev pub ContentLike : {N M : Type 0} (R : N → M → Type 0) {l : Location N} {m : Location M} → LocationLike R l m → Content l → Content m → Type 0
ContentLike R (is r) c d = c ≡ d
ContentLike R (tok part r) c d = c ≡ d
ContentLike R (slot part r) c d = ListLike R c d
ContentLike R (up r) c d = OptionLike (λ p q. R p.0 q.0 × (p.1 ≡ q.1)) c d
ContentLike R (idx r) c d = c ≡ d
ContentLike R (drawer part key mark r) c d = ListLike R c d

-- evaluations that go the same way wherever they are told the same
pub data RunLike {N M A B : Type 0} (R : N → M → Type 0) (Q : A → B → Type 0) : Run N A → Run M B → Type 0 where
  gives : {a : A} {b : B} → Q a b → RunLike R Q (Gives a) (Gives b)
  fails : (f : FaultKind) → RunLike R Q (Fails f) (Fails f)
  looks : {l : Location N} {m : Location M} {k : Content l → Run N A} {h : Content m → Run M B} (s : LocationLike R l m) →
      ((c : Content l) (d : Content m) → ContentLike R s c d → RunLike R Q (k c) (h d)) → RunLike R Q (Looks l k) (Looks m h)
  demands : {i : Instance N} {j : Instance M} {k : Value N → Run N A} {h : Value M → Run M B} → InstanceLike R i j →
      ((v : Value N) (w : Value M) → ValueLike R v w → RunLike R Q (k v) (h w)) → RunLike R Q (Demands i k) (Demands j h)

-- related nodes, and like values under each name
pub record ScopeLike {N M : Type 0} (R : N → M → Type 0) (e : Scope N) (f : Scope M) : Type 0 where
  pub this : R e.this f.this
  pub names : ListLike (ValueLike R) e.names f.names
  pub child : OptionLike R e.child f.child

-- the two tests whether nodes are the same agree on related nodes
abbrev pub SameLike : {N M : Type 0} → (N → M → Type 0) → (N → N → Bool) → (M → M → Bool) → Type 0
SameLike {N} {M} R same other = (a b : N) (c d : M) → R a c → R b d → same a b ≡ other c d

-- what a partial map relates
abbrev pub Names : {N M : Type 0} → (N → Option M) → N → M → Type 0
Names name n m = name n ≡ Some m

-- no two have the same name
abbrev pub IsInjective : {N M : Type 0} → (N → Option M) → Type 0
IsInjective {N} {M} name = (a b : N) (c : M) → name a ≡ Some c → name b ≡ Some c → a ≡ b

-- like values, or the same fault of like instances
pub data OutcomeLike {N M : Type 0} (R : N → M → Type 0) : Outcome N → Outcome M → Type 0 where
  find : {v : Value N} {w : Value M} → ValueLike R v w → OutcomeLike R (Finds v) (Finds w)
  fault : (f : FaultKind) {i : Instance N} {j : Instance M} → InstanceLike R i j → OutcomeLike R (Faults f i) (Faults f j)

-- like instances are evaluated alike
abbrev pub EquationsLike : {N M : Type 0} → (N → M → Type 0) → Equations N → Equations M → Type 0
EquationsLike {N} {M} R equation other = (i : Instance N) (j : Instance M) → InstanceLike R i j → RunLike R (ValueLike R) (equation i) (other j)

-- the two trees show the same at a location
abbrev pub AlikeAt : {N M : Type 0} → (N → M → Type 0) → Contents N → Contents M → Location N → Type 0
AlikeAt {N} {M} R look other l = (m : Location M) (s : LocationLike R l m) → ContentLike R s (look l) (other m)

-- and they do at all that supports the instance
abbrev pub AlikeBelow : {N M : Type 0} → (N → M → Type 0) → Contents N → Contents M → Equations N → Instance N → Type 0
AlikeBelow {N} R look other equation i = (l : Location N) → Supports look equation l i → AlikeAt R look other l

-- an outcome like o is there
abbrev pub HasLike : {N M : Type 0} → (N → M → Type 0) → Outcome N → Option (Outcome M) → Type 0
HasLike {N} {M} R o p = (q : Outcome M) × (p ≡ Some q) × OutcomeLike R o q

-- like answers: like outcomes, or circles at like instances
pub data AnswerLike {N M : Type 0} (R : N → M → Type 0) : Answer N → Answer M → Type 0 where
  outcome : {o : Outcome N} {p : Outcome M} → OutcomeLike R o p → AnswerLike R (Outcomes o) (Outcomes p)
  circle : {i : Instance N} {j : Instance M} → InstanceLike R i j → AnswerLike R (Circle i) (Circle j)

-- like ends of a try
pub data TriedLike {N M A B : Type 0} (R : N → M → Type 0) (Q : A → B → Type 0) : Tried N A → Tried M B → Type 0 where
  valued : {a : A} {b : B} → Q a b → TriedLike R Q (Valued a) (Valued b)
  faulted : (f : FaultKind) → TriedLike R Q (Faulted f) (Faulted f)
  needs : {i : Instance N} {j : Instance M} → InstanceLike R i j → TriedLike R Q (Needs i) (Needs j)

-- of like instances the like value is known, or none
abbrev pub KnownLike : {N M : Type 0} → (N → M → Type 0) → Known N → Known M → Type 0
KnownLike {N} {M} R known other = (i : Instance N) (j : Instance M) → InstanceLike R i j → OptionLike (ValueLike R) (known i) (other j)
