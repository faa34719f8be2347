-- The kinds of expressions. A class kind has null and the nodes of the class and of every class below.
use Rattle.std.specs.Prelude.{ℕ, Bool, true, false, ◌&&◌, nat_eq, Option, Some, None, is_some, option_map, if◌then◌else◌}
use Rattle.at_model.specs.Classes.{Classes, is_sub}
use Rattle.at_rules.specs.declared.body.Kind.{Kind}
use Rattle.at_rules.specs.declared.body.Kind.TheVariants as kind
use Rattle.at_kinds.specs.declared.signatures.WrittenKind.{WrittenKind}
use Rattle.at_kinds.specs.declared.signatures.WrittenKind.TheVariants as written
use Rattle.at_kinds.specs.declared.typing.kinds.ExprKind.{ExprKind}
use Rattle.at_kinds.specs.declared.typing.kinds.ExprKind.TheVariants.{Int, Bool as Truth, Text, Class, Strange, Null}

-- the kind of a value of that kind
abbrev pub known : Kind → ExprKind
known kind.Int = Int
known kind.Bool = Truth
known kind.Text = Text
known (kind.Class c) = Class c

-- the kind of a value that is declared so
abbrev pub of_written : WrittenKind → ExprKind
of_written (written.Known k) = known k
of_written (written.Strange first) = Strange first

abbrev pub is_int : ExprKind → Bool
is_int Int = true
is_int k = false

abbrev pub is_truth : ExprKind → Bool
is_truth Truth = true
is_truth k = false

abbrev pub is_text : ExprKind → Bool
is_text Text = true
is_text k = false

-- nodes and null
abbrev pub is_node : ExprKind → Bool
is_node (Class c) = true
is_node (Strange first) = true
is_node Null = true
is_node k = false

-- null, or nodes of that class or below
abbrev pub is_within : Classes → ℕ → ExprKind → Bool
is_within classes b (Class c) = is_sub classes c b
is_within classes b Null = true
is_within classes b k = false

abbrev pub fits_known : Classes → ExprKind → Kind → Bool
fits_known classes k kind.Int = is_int k
fits_known classes k kind.Bool = is_truth k
fits_known classes k kind.Text = is_text k
fits_known classes k (kind.Class b) = is_within classes b k

-- where two are one class that isn't there: the same attribute is the first with values of that kind
abbrev pub common_word : Option ℕ → Option ℕ → Option ℕ
common_word None second = None
common_word (Some a) None = None
common_word (Some a) (Some b) = if nat_eq a b then Some a else None

-- null, or nodes of that class which isn't there
abbrev pub is_of_word : Option ℕ → ExprKind → Bool
is_of_word first (Strange second) = is_some (common_word first second)
is_of_word first Null = true
is_of_word first k = false

-- each of its values is one of the wanted kind; a class that isn't there is one of its own, without any below it
abbrev pub fits : Classes → ExprKind → WrittenKind → Bool
fits classes k (written.Known wanted) = fits_known classes k wanted
fits classes k (written.Strange first) = is_of_word first k

abbrev pub only_if : Bool → ExprKind → Option ExprKind
only_if b k = if b then Some k else None

-- of two classes the one that is the other or above it
abbrev pub upper : Classes → ℕ → ℕ → Option ExprKind
upper classes c b = if is_sub classes b c then Some (Class c) else only_if (is_sub classes c b) (Class b)

abbrev pub wider_class : Classes → ℕ → ExprKind → Option ExprKind
wider_class classes c (Class b) = upper classes c b
wider_class classes c Null = Some (Class c)
wider_class classes c k = None

abbrev pub wider_strange : Option ℕ → ExprKind → Option ExprKind
wider_strange first Null = Some (Strange first)
wider_strange first (Strange second) = option_map (λ word. Strange (Some word)) (common_word first second)
wider_strange first k = None

-- the wider of two kinds that are equal, or of which one has all values of the other
abbrev pub wider : Classes → ExprKind → ExprKind → Option ExprKind
wider classes Int k = only_if (is_int k) k
wider classes Truth k = only_if (is_truth k) k
wider classes Text k = only_if (is_text k) k
wider classes (Class c) k = wider_class classes c k
wider classes (Strange first) k = wider_strange first k
wider classes Null k = only_if (is_node k) k

abbrev pub are_ints : ExprKind → ExprKind → Bool
are_ints j k = is_int j && is_int k

abbrev pub are_truths : ExprKind → ExprKind → Bool
are_truths j k = is_truth j && is_truth k

-- `==` may stand between them: two ints, two truth values, two nodes or null
abbrev pub are_alike : ExprKind → ExprKind → Bool
are_alike Int k = is_int k
are_alike Truth k = is_truth k
are_alike Text k = false
are_alike (Class c) k = is_node k
are_alike (Strange first) k = is_node k
are_alike Null k = is_node k
