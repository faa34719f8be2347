-- Equations of circular attributes. What is looked at and what other demands tell is evaluated as in any equation; what is
-- left is a formula of circular instances, in which more that is true only makes more true.
use Rattle.std.specs.Prelude.{ℕ, Bool, true, false, ◌&&◌, ◌||◌, cond, not, List, [], ◌∷◌, ◌++◌, Option, Some, None}
use Rattle.at_model.specs.Classes.{Classes}
use Rattle.at_model.specs.Run.{Value, Truth, Instance, Run, Gives, Demands, ◌>>=◌}
use Rattle.at_model.specs.Bodies.{Expr, Not, And, Or, Choose, Call, Exists, SeekAny, AnyOf, Over, Scope, bound, truth_of, node_of, bool_eq, elements_of, drawer_of, nodes_of, eval, eval_all}

-- a value, or a formula of instances
pub data Formula (N : Type 0) : Type 0 where
  Known : Value N → Formula N
  Asks : Instance N → Formula N
  Both : Formula N → Formula N → Formula N
  Either : Formula N → Formula N → Formula N

-- the formula has this truth value, whatever its instances have
abbrev pub is_surely : {N : Type 0} → Bool → Formula N → Bool
is_surely b (Known v) = bool_eq b (truth_of v)
is_surely b (Asks i) = false
is_surely true (Both f g) = is_surely true f && is_surely true g
is_surely false (Both f g) = is_surely false f || is_surely false g
is_surely true (Either f g) = is_surely true f || is_surely true g
is_surely false (Either f g) = is_surely false f && is_surely false g

-- it is just that truth value
abbrev pub is_known_as : {N : Type 0} → Bool → Formula N → Bool
is_known_as b (Known v) = bool_eq b (truth_of v)
is_known_as b f = false

-- both of them, or (false) either of them; a value that leaves the other one to decide is left out
abbrev pub joined : {N : Type 0} → Bool → Formula N → Formula N → Formula N
joined true f g = cond (is_known_as true f) g (cond (is_known_as true g) f (Both f g))
joined false f g = cond (is_known_as false f) g (cond (is_known_as false g) f (Either f g))

-- the instances in a formula, from left to right
abbrev pub atoms : {N : Type 0} → Formula N → List (Instance N)
atoms (Known v) = []
atoms (Asks i) = i ∷ []
atoms (Both f g) = atoms f ++ atoms g
atoms (Either f g) = atoms f ++ atoms g

-- the attributes that are circular, with the value from which each starts
abbrev pub Starts : Type 0
Starts = ℕ → Option Bool

-- the attribute is circular and starts from this value
abbrev pub starts_from : Bool → Option Bool → Bool
starts_from b None = false
starts_from b (Some c) = bool_eq b c

-- the value as it is, or (false) the other truth value
abbrev pub turned : {N : Type 0} → Bool → Value N → Value N
turned true v = v
turned false v = Truth (not (truth_of v))

-- The demand of an instance in a positive place: a circular one with the same start is left in the formula. Any other one,
-- and each in a place that isn't positive, is told a value.
abbrev pub demanded : {N : Type 0} → Starts → (start positive : Bool) → Instance N → Run N (Formula N)
demanded starts b p i =
    cond (p && starts_from b (starts i.attribute)) (Gives (Asks i)) (Demands i (λ v. Gives (Known (turned p v))))

-- the elements of a fold, each in turn, up to the first at which it is surely decided: `exists`, or (false) that none is there
abbrev pub fold_form : {N : Type 0} → Bool → (N → Run N (Formula N)) → List N → Run N (Formula N)
fold_form p test [] = Gives (Known (Truth (not p)))
fold_form p test (n ∷ ns) =
    test n >>= λ f. cond (is_surely p f) (Gives f) (fold_form p test ns >>= λ g. Gives (joined (not p) f g))

-- the left side, and then the right one where the left one surely doesn't decide: a conjunction (true) is decided by false
abbrev pub two_sides : {N : Type 0} → Bool → Run N (Formula N) → Run N (Formula N) → Run N (Formula N)
two_sides conjunction r s =
    r >>= λ f. cond (is_surely (not conjunction) f) (Gives f) (s >>= λ g. Gives (joined conjunction f g))

-- The formula of an expression, or (positive false) of its negation, in an equation of an attribute that starts from b: below
-- `&&`, `||`, `!`, the sides of `?:` and `exists`. All else is evaluated as ever, and what it demands is told its value.
abbrev pub form : {N : Type 0} → Classes → (N → N → Bool) → Starts → (start positive : Bool) → Expr → Scope N → Run N (Formula N)
form classes same starts b p (Not e) scope = form classes same starts b (not p) e scope
form classes same starts b p (And e f) scope =
    two_sides p (form classes same starts b p e scope) (form classes same starts b p f scope)
form classes same starts b p (Or e f) scope =
    two_sides (not p) (form classes same starts b p e scope) (form classes same starts b p f scope)
form classes same starts b p (Choose c e f) scope = eval classes same c scope
    >>= λ v. cond (truth_of v) (form classes same starts b p e scope) (form classes same starts b p f scope)
form classes same starts b p (Call e attribute es) scope = eval classes same e scope
    >>= λ v. eval_all classes same es scope >>= λ vs. node_of v
    >>= λ n. demanded starts b p (record { node = n; attribute = attribute; arguments = vs })
form classes same starts b p (Exists e part f) scope = eval classes same e scope
    >>= λ v. elements_of part v >>= fold_form p (λ n. form classes same starts b p f (bound scope n))
form classes same starts b p (Over AnyOf e f) scope = eval classes same e scope
    >>= λ v. fold_form p (λ n. form classes same starts b p f (bound scope n)) (nodes_of v)
form classes same starts b p (SeekAny e part key t f) scope = eval classes same e scope
    >>= λ v. eval classes same t scope >>= λ w. drawer_of part key v w >>= fold_form p (λ n. form classes same starts b p f (bound scope n))
form classes same starts b p e scope = eval classes same e scope >>= λ v. Gives (Known (turned p v))

-- the formula of each instance, a value for one that isn't circular; and which attributes are circular
pub record Forms (N : Type 0) : Type 0 where
  pub starts : Starts
  pub formula : Instance N → Run N (Formula N)
