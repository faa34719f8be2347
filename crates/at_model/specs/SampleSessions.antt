-- States, rules and lines for worked sessions on the samples.
use Rattle.std.specs.Prelude.{ℕ, zero, suc, pos, false, List, [], ◌∷◌, ◌++◌, decimal, replicate}
use lib.Chars.{codes}
use Rattle.at_model.specs.Bodies.{Same, Child, This, Name, IntLiteral, Arithmetic, Add, Multiply, Call, Passed, no_exprs, expr}
use Rattle.at_model.specs.Rules.{Rules, name_by}
use Rattle.at_model.specs.Rules as kind
use Rattle.at_model.specs.Lines.{Command, From_root, Post, last_version}
use Rattle.at_model.specs.Machine.{State, Marked, Posted}
use Rattle.at_model.specs.Samples.{calc, one_by_zero, synthesized, own}
use Rattle.at_model.specs.SampleLines.{opened, mark, printed_path}
use Rattle.at_model.specs.Playing.{Exchange}

-- the machine with the sample, after as many edits as there can be
abbrev pub at_last_version : State
at_last_version = record opened { version = last_version }

-- so many marks of session 0 on the root: m0, m1 and so on
abbrev pub numbered_marks : ℕ → List Marked
numbered_marks zero = []
numbered_marks (suc n) = numbered_marks n ++ record { session = 0; name = codes "m" ++ decimal n; node = [] } ∷ []

-- a hundred of those, and a mark of session 1
abbrev pub full_of_marks : State
full_of_marks = record opened { marks = numbered_marks 100 ++ mark 1 "u" [] ∷ [] }

-- the lines that make so many marks, each of which is made
abbrev pub marking : ℕ → List Exchange
marking zero = []
marking (suc n) = marking n ++ record { line = codes "0 mark m" ++ decimal n ++ codes " /"; reply = codes "0 ok 0" } ∷ []

-- marks of two sessions, two of them of one name
abbrev pub some_marks : List Marked
some_marks = mark 0 "u" [] ∷ mark 1 "u" [] ∷ mark 0 "v" [] ∷ mark 1 "w" [] ∷ []

-- post /Block/Stmt:1/Expr value()
abbrev pub posting : Command
posting = Post (From_root printed_path) (codes "value") []

-- the question that session 0 posts by it, under that number
abbrev pub value_posted : ℕ → Posted
value_posted number = record { number = number; session = 0; place = From_root printed_path; attribute = codes "value"; arguments = []; marks = []; turns = 0 }

-- so many of these that are open
abbrev pub open_questions : ℕ → List Posted
open_questions zero = []
open_questions (suc n) = open_questions n ++ value_posted (suc n) ∷ []

-- the machine with the sample, and so many questions that are open
abbrev pub with_questions : ℕ → State
with_questions n = record opened { posts = n; posted = open_questions n }

-- calc.jrag with syn boolean Add.begins(Expr e) = getLeft() == e;
abbrev pub calc_with_argument : Rules
calc_with_argument = record calc {
  attributes = calc.attributes ++ synthesized (codes "begins") 8 (kind.Class 5 ∷ []) kind.Truth false ∷ [];
  own = calc.own ++ own 8 17 (Same (Child This 0) (Name 0)) ∷ [];
}

-- calc.jrag with syn int Program.next(int n) = n + 1; and syn int Program.far(int n) = next(n * 1000000);
abbrev pub calc_with_numbers : Rules
calc_with_numbers = record calc {
  attributes = calc.attributes ++ (synthesized (codes "next") 0 (kind.Int ∷ []) kind.Int false
      ∷ synthesized (codes "far") 0 (kind.Int ∷ []) kind.Int false ∷ []);
  own = calc.own ++ (own 0 17 (Arithmetic Add (Name 0) (IntLiteral (pos 1)))
      ∷ own 0 18 (Call This 17 (expr (Passed (Arithmetic Multiply (Name 0) (IntLiteral (pos 1000000)))) no_exprs)) ∷ []);
}

-- calc.jrag with syn int Program.next() = 1 / 0; and syn int Program.next(int n) = n + 1;
abbrev pub calc_overloaded : Rules
calc_overloaded = record calc {
  attributes = calc.attributes ++ (synthesized (name_by (codes "next") 0) 0 [] kind.Int false
      ∷ synthesized (name_by (codes "next") 1) 0 (kind.Int ∷ []) kind.Int false ∷ []);
  own = calc.own ++ (own 0 17 one_by_zero ∷ own 0 18 (Arithmetic Add (Name 0) (IntLiteral (pos 1))) ∷ []);
}

-- a declaration's name of so many letters
abbrev pub letters : ℕ → List ℕ
letters n = replicate n 97

-- the line that writes it
abbrev pub renaming : ℕ → List ℕ
renaming n = codes "0 token /Block/Stmt:0 ID \"" ++ (letters n ++ codes "\"")
