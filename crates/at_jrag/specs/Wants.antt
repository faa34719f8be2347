-- What a reader of aspects may still want.
use Rattle.std.specs.Prelude.{ℕ, List, Bool}
use Rattle.at_jrag.specs.declared.Forms.{Forms}

-- Each form of an expression carries how deep it may nest. Operators between two are counted from the strongest: rank 1
-- is `*` and its like, rank 6 is `||`, and rank 0 stands for no operator.
pub data Want : Type 0 where
  Expression : (budget : ℕ) → Want
  Binary : (rank budget : ℕ) → Want
  -- behind a left operand: operators of one rank more than this
  Links : (rank budget : ℕ) → Want
  -- ["?" expr ":" expr], and from its ":" on, behind parts of this depth
  Choice : (budget : ℕ) → Want
  Otherwise : (budget deepest : ℕ) → Want
  Unary : (budget : ℕ) → Want
  -- behind a `-` in the place of a unary
  Minus : (budget : ℕ) → Want
  -- behind a `(` in the place of a unary; then behind a name, and behind the `)` after that
  Opened : (budget : ℕ) → Want
  Enclosed : (is_get_child : Bool) → (budget : ℕ) → Want
  Parenthesized : (budget : ℕ) → Want
  -- { "." name "(" [args] ")" }, and behind its "."
  Calls : (budget : ℕ) → Want
  Called : (budget : ℕ) → Want
  -- "(" [args] ")", behind its "(", and behind an argument
  Arguments : (is_get_child : Bool) → (budget : ℕ) → Want
  FirstArgument : (is_get_child : Bool) → (budget : ℕ) → Want
  MoreArguments : (budget : ℕ) → Want
  Primary : (budget : ℕ) → Want
  -- ["(" [args] ")"] behind a name
  Named : (is_get_child : Bool) → (budget : ℕ) → Want
  -- the "{" of a fold and what follows
  FoldBody : (budget : ℕ) → Want
  -- no symbol, but the register: one more than it is; one more than the deeper of it and this; the deeper of both; this
  Deeper : Want
  Join : (depth : ℕ) → Want
  Deepest : (depth : ℕ) → Want
  Counts : (depth : ℕ) → Want
  Name : Want
  Mark : (text : List ℕ) → Want
  -- ---- declarations
  -- { aspect }, up to the end
  File : (forms : Forms) → Want
  -- { decl } "}"
  Decls : (forms : Forms) → Want
  -- ["lazy"], and behind it
  Lazy : Want
  NotNta : Want
  -- behind that, up to the ending
  Attribute : (forms : Forms) → Want
  Kind : Want
  -- name "(" [params] ")", behind the name, and behind the "("; the register is 0 behind what may be a getter's
  Signed : Want
  Opening : (is_get_child : Bool) → Want
  Params : (is_get_child : Bool) → Want
  -- behind an `int` alone, and behind other parameters
  OneParam : Want
  MoreParams : Want
  -- behind the parameters of a declared attribute: ["circular" "[" ("true" | "false") "]"], where it may stand; from its "[" on,
  -- and behind that
  Circular : (may_stand : Bool) → Want
  Bracket : Want
  Start : Want
  Ending : Want
  Body : Want
  -- behind the parameters of an equation
  Defined : Want
  Return : Want
  Close : Want
