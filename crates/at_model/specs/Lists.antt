-- Lists of nodes in which each stands once.
use Rattle.std.specs.Prelude.{◌≡◌, List, ⊤}
use Rattle.std.specs.List.{AllByRecursion}
use Rattle.at_model.specs.Run.{Value, Nodes, Contents, Known, Run, Valued, tried}
use Rattle.at_model.specs.Bodies.{nodes_of}
use Rattle.at_model.specs.Meaning.{Among, Distinct}

-- in a list of nodes each stands once
abbrev pub IsApart : {N : Type 0} → Value N → Type 0
IsApart (Nodes ns) = Distinct ns
IsApart v = ⊤

-- in each of the lists
abbrev pub AreApart : {N : Type 0} → List (Value N) → Type 0
AreApart vs = AllByRecursion IsApart vs

-- the node is one of these, or one that a reached node gives
pub data IsReached {N : Type 0} (look : Contents N) (known : Known N) (what : N → Run N (Value N)) (ns : List N) : N → Type 0 where
  first : (n : N) → Among n ns → IsReached look known what ns n
  next : (n m : N) (v : Value N) → IsReached look known what ns n → tried look known (what n) ≡ Valued v → Among m (nodes_of v) →
      IsReached look known what ns m
