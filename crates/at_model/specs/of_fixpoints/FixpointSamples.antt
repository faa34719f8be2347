-- A worked grammar with circular attributes, A ::= <On:boolean> [B:A], as values.
use Rattle.std.specs.Prelude.{ℕ, pos, Bool, true, false, List, [], ◌∷◌, Option, Some, None}
use lib.Chars.{codes}
use Rattle.at_model.specs.Classes.{Classes, Maybe, Token}
use Rattle.at_model.specs.Classes as token
use Rattle.at_model.specs.Trees.{Tree, Holds, Empty, Filled}
use Rattle.at_model.specs.Trees as node
use Rattle.at_model.specs.Paths.{Node}
use Rattle.at_model.specs.Run.{Instance, Truth}
use Rattle.at_model.specs.Bodies.{Expr, IntLiteral, TruthLiteral, Same, Not, And, Or, Choose, Child, Has, This, TokenOf}
use Rattle.at_model.specs.Rules.{Rules, Attribute, OwnEquation}
use Rattle.at_model.specs.Rules as kind
use Rattle.at_model.specs.Meaning.{Answer, Outcomes, Finds, content}
use Rattle.at_model.specs.Samples.{component, class, branch, own, call, one_by_zero, root, of_node}
use Rattle.at_model.specs.of_fixpoints.Evaluations.{forms}
use Rattle.at_model.specs.of_fixpoints.Circles.{Answers}

-- the class is 0 A, its components are 0 On and 1 B
abbrev pub ring_classes : Classes
ring_classes = class (codes "A") None (component (codes "On") (Token token.Truth) ∷ component (codes "B") (Maybe 0) ∷ []) ∷ []

-- syn boolean A.name() circular [start], or with no start an attribute that isn't circular
abbrev pub starting : List ℕ → Option Bool → Attribute
starting name start =
    record { name = name; class = 0; parameters = []; result = kind.Truth; is_lazy = false; is_inherited = false; start = start }

-- 0 j, 1 b, 2 c, 3 m, 4 n, 5 self, 6 top, 7 not, 8 twice, 9 x, 10 y, 11 u, 12 v, 13 deep, 14 guard, 15 fa, 16 fx, 17 fk, 18 fc,
-- 19 ff, 20 ga, 21 gx
abbrev pub ring_attributes : List Attribute
ring_attributes =
    starting (codes "j") (Some false) ∷ starting (codes "b") (Some false) ∷ starting (codes "c") (Some false)
    ∷ starting (codes "m") (Some false) ∷ starting (codes "n") (Some false) ∷ starting (codes "self") (Some false)
    ∷ starting (codes "top") (Some true) ∷ starting (codes "not") (Some false) ∷ starting (codes "twice") (Some false)
    ∷ starting (codes "x") (Some false) ∷ starting (codes "y") None ∷ starting (codes "u") (Some false)
    ∷ starting (codes "v") (Some true) ∷ starting (codes "deep") (Some false) ∷ starting (codes "guard") (Some false)
    ∷ starting (codes "fa") (Some false) ∷ starting (codes "fx") (Some false) ∷ starting (codes "fk") (Some false)
    ∷ starting (codes "fc") (Some false) ∷ starting (codes "ff") (Some false) ∷ starting (codes "ga") (Some false)
    ∷ starting (codes "gx") (Some false) ∷ []

-- getOn()
abbrev pub on : Expr
on = TokenOf This 0

-- 1 / 0 == 0
abbrev pub broken : Expr
broken = Same one_by_zero (IntLiteral (pos 0))

abbrev pub ring_own : List OwnEquation
ring_own =
    -- j() = b() || c(), b() = j(), c() = getOn()
    own 0 0 (Or (call This 1) (call This 2)) ∷ own 0 1 (call This 0) ∷ own 0 2 on
    -- m() = n() || 1 / 0 == 0, n() = m() || getOn()
    ∷ own 0 3 (Or (call This 4) broken) ∷ own 0 4 (Or (call This 3) on)
    -- self() = self(), and top() = top() from true
    ∷ own 0 5 (call This 5) ∷ own 0 6 (call This 6)
    -- not() = !not(), twice() = !!twice() || getOn()
    ∷ own 0 7 (Not (call This 7)) ∷ own 0 8 (Or (Not (Not (call This 8))) on)
    -- x() = y() || getOn(), y() = x(), which isn't circular
    ∷ own 0 9 (Or (call This 10) on) ∷ own 0 10 (call This 9)
    -- u() = v() || getOn(), v() = u() from true
    ∷ own 0 11 (Or (call This 12) on) ∷ own 0 12 (call This 11)
    -- deep() = getB().deep() || getOn()
    ∷ own 0 13 (Or (call (Child This 1) 13) on)
    -- guard() = hasB() && getB().guard() || getOn()
    ∷ own 0 14 (Or (And (Has This 1) (call (Child This 1) 14)) on)
    -- fa() = fx(), fx() = fk() || ff(), fk() = fx() || fc(), fc() = fk() ? true : false, ff() = 1 / 0 == 0
    ∷ own 0 15 (call This 16) ∷ own 0 16 (Or (call This 17) (call This 19)) ∷ own 0 17 (Or (call This 16) (call This 18))
    ∷ own 0 18 (Choose (call This 17) (TruthLiteral true) (TruthLiteral false)) ∷ own 0 19 broken
    -- ga() = gx() || ff(), gx() = ga() || j()
    ∷ own 0 20 (Or (call This 21) (call This 19)) ∷ own 0 21 (Or (call This 20) (call This 0))
    ∷ []

abbrev pub ring : Rules
ring = record { classes = ring_classes; attributes = ring_attributes; own = ring_own; inherited = [] }

-- A(on,A(false,-))
abbrev pub ring_tree : Bool → Tree
ring_tree on = branch 0 (Holds (node.Truth on) ∷ Filled (branch 0 (Holds (node.Truth false) ∷ Empty ∷ [])) ∷ [])

-- /B
abbrev pub inner_ring : Node
inner_ring = (1, 0) ∷ []

-- it answers the question about the tree with this truth value of On at its root
abbrev pub Tells : Bool → Instance Node → Answer Node → Type 0
Tells on q answer = Answers (content (ring_tree on)) (forms ring) q answer

-- the value of the attribute of the root
abbrev pub IsValue : Bool → ℕ → Bool → Type 0
IsValue on attribute b = Tells on (of_node root attribute) (Outcomes (Finds (Truth b)))
