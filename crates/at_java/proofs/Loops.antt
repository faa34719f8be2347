-- Loops that read a chain or a list: one more turn, and each end.
use Rattle.std.proofs.Common.{◌≡◌, ℕ, zero, suc, ◌-◌, ◌<◌, ◌≤◌, List, [], ◌∷◌, ◌++◌, Some, None, refl, sym, ap, ◌∙◌, arith, append_assoc}
use lib.Chars.{codes}
use Rattle.at_text.specs.Rows.{Row}
use Rattle.at_text.specs.declared.place.Place.{Place}
use Rattle.at_text.specs.declared.fault.Failure.{Failure}
use Rattle.at_text.specs.declared.fault.Failure.TheVariants.{For, Memory}
use Rattle.at_jrag.specs.Syntax.{Expr}
use Rattle.at_java.specs.declared.reader.Breach.{Breach}
use Rattle.at_java.specs.declared.reader.Breach.TheVariants.{Here, At}
use Rattle.at_java.specs.declared.JavaCode.TheVariants.{Limit}
use Rattle.at_java.specs.Read.{Read, got, fails, here, then_read, map_read, Fails}
use Rattle.at_java.specs.Tokens.{sign_here}
use Rattle.at_java.specs.Operands.{Readers, if_next, sign_next, more_items, items, call_of, calls}
use Rattle.at_java.specs.Operators.{Link, link_next, linked, links}
use Rattle.at_java.proofs.Then.{then_fails, fails_as}

less : (n : ℕ) → suc n - 1 ≡ n
less n = omega arith

pub some_left : (n : ℕ) → 0 < n → n ≡ 0 → ⊥
some_left n h e = omega (arith, h, e)

pub none_left : (n : ℕ) → n ≤ 0 → n ≡ 0
none_left n h = omega (arith, h)

-- ---- calls behind a receiver

abbrev goes_on : Readers → ℕ → Expr → Place → Row → Read Expr
goes_on r n e at rest = then_read (call_of r e rest) (λ f more. calls r n f more)

pub one_call : (r : Readers) (n : ℕ) (e f : Expr) (at : Place) (row rest next : Row) → (n ≡ 0 → ⊥) → sign_next (codes ".") row ≡ Some (at, rest)
    → call_of r e rest ≡ got f next → calls r n e row ≡ calls r (n - 1) f next
one_call r zero e f at row rest next some dot call = absurd (some refl)
one_call r (suc n) e f at row rest next some dot call =
    ap (λ o. if_next o (goes_on r n e) (got e row)) dot ∙ ap (λ q. then_read q (λ g more. calls r n g more)) call ∙ ap (λ k. calls r k f next) (sym (less n))

pub no_call : (r : Readers) (n : ℕ) (e : Expr) (row : Row) → sign_next (codes ".") row ≡ None → calls r n e row ≡ got e row
no_call r zero e row none = ap (λ o. if_next o (λ at rest. fails (here Limit rest)) (got e row)) none
no_call r (suc n) e row none = ap (λ o. if_next o (goes_on r n e) (got e row)) none

pub too_many_calls : (r : Readers) (n : ℕ) (e : Expr) (at : Place) (row rest : Row) → n ≡ 0 → sign_next (codes ".") row ≡ Some (at, rest) → calls r n e row ≡ fails (here Limit rest)
too_many_calls r zero e at row rest none dot = ap (λ o. if_next o (λ at rest. fails (here Limit rest)) (got e row)) dot
too_many_calls r (suc n) e at row rest none dot = absurd cc

pub call_fails : (x : Failure Breach) (r : Readers) (n : ℕ) (e : Expr) (at : Place) (row rest next : Row) → (n ≡ 0 → ⊥) → sign_next (codes ".") row ≡ Some (at, rest)
    → Fails x next (call_of r e rest) → Fails x next (calls r n e row)
call_fails x r zero e at row rest next some dot f = absurd (some refl)
call_fails x r (suc n) e at row rest next some dot f =
    fails_as x next (calls r (suc n) e row) (goes_on r n e at rest) (ap (λ o. if_next o (goes_on r n e) (got e row)) dot)
    (then_fails x next (call_of r e rest) (λ g more. calls r n g more) f)

-- ---- operators of one rank

abbrev links_on : (Row → Read Expr) → ℕ → ℕ → Expr → Link → Row → Read Expr
links_on operand at_rank n e l rest = then_read (linked operand e l rest) (λ f more. links operand at_rank n f more)

pub one_link : (operand : Row → Read Expr) (at_rank n : ℕ) (e f : Expr) (l : Link) (row rest next : Row) → (n ≡ 0 → ⊥) → link_next at_rank row ≡ Some (l, rest)
    → linked operand e l rest ≡ got f next → links operand at_rank n e row ≡ links operand at_rank (n - 1) f next
one_link operand at_rank zero e f l row rest next some link read = absurd (some refl)
one_link operand at_rank (suc n) e f l row rest next some link read =
    ap (λ o. if_next o (links_on operand at_rank n e) (got e row)) link ∙ ap (λ q. then_read q (λ g more. links operand at_rank n g more)) read
    ∙ ap (λ k. links operand at_rank k f next) (sym (less n))

pub no_link : (operand : Row → Read Expr) (at_rank n : ℕ) (e : Expr) (row : Row) → link_next at_rank row ≡ None → links operand at_rank n e row ≡ got e row
no_link operand at_rank zero e row none = ap (λ o. if_next o (λ l rest. fails (here Limit rest)) (got e row)) none
no_link operand at_rank (suc n) e row none = ap (λ o. if_next o (links_on operand at_rank n e) (got e row)) none

pub too_many_links : (operand : Row → Read Expr) (at_rank n : ℕ) (e : Expr) (l : Link) (row rest : Row) → n ≡ 0 → link_next at_rank row ≡ Some (l, rest)
    → links operand at_rank n e row ≡ fails (here Limit rest)
too_many_links operand at_rank zero e l row rest none link = ap (λ o. if_next o (λ l rest. fails (here Limit rest)) (got e row)) link
too_many_links operand at_rank (suc n) e l row rest none link = absurd cc

pub link_fails : (x : Failure Breach) (operand : Row → Read Expr) (at_rank n : ℕ) (e : Expr) (l : Link) (row rest next : Row) → (n ≡ 0 → ⊥)
    → link_next at_rank row ≡ Some (l, rest) → Fails x next (linked operand e l rest) → Fails x next (links operand at_rank n e row)
link_fails x operand at_rank zero e l row rest next some link f = absurd (some refl)
link_fails x operand at_rank (suc n) e l row rest next some link f =
    fails_as x next (links operand at_rank (suc n) e row) (links_on operand at_rank n e l rest) (ap (λ o. if_next o (links_on operand at_rank n e) (got e row)) link)
    (then_fails x next (linked operand e l rest) (λ g more. links operand at_rank n g more) f)

-- ---- arguments

-- what was read so far, in front of what is read next
abbrev pub in_front : {A : Type 0} → List A → Read (List A) → Read (List A)
in_front front read = map_read (λ more. front ++ more) read

pub none_in_front : {A : Type 0} (read : Read (List A)) → in_front [] read ≡ read
none_in_front (got xs rest) = refl
none_in_front (fails f) = refl

-- what stands for what was read fails where that does
pub map_fails : {A B : Type 0} (x : Failure Breach) (rest : Row) (f : A → B) (read : Read A) → Fails x rest read → Fails x rest (map_read f read)
map_fails (For (Here code)) rest f read e = ap (map_read f) e
map_fails (For (At code at)) rest f read e = ap (map_read f) e
map_fails Memory rest f read e = e

pub one_in_front : {A : Type 0} (front : List A) (a : A) (read : Read (List A)) → in_front front (map_read (λ xs. a ∷ xs) read) ≡ in_front (front ++ a ∷ []) read
one_in_front front a (got xs rest) = ap (λ l. got l rest) (sym (append_assoc front (a ∷ []) xs))
one_in_front front a (fails f) = refl

abbrev items_on : {A : Type 0} → (Row → Read A) → ℕ → A → Row → Read (List A)
items_on expression n e rest = map_read (λ es. e ∷ es) (more_items (λ next. items expression n next) rest)

-- behind an item stands a comma
pub one_item : {A : Type 0} (expression : Row → Read A) (n : ℕ) (front : List A) (e : A) (at : Place) (row rest next : Row) → (n ≡ 0 → ⊥) → expression row ≡ got e rest
    → sign_next (codes ")") rest ≡ None → sign_here (codes ",") rest ≡ got at next
    → in_front front (items expression n row) ≡ in_front (front ++ e ∷ []) (items expression (n - 1) next)
one_item expression zero front e at row rest next some read end comma = absurd (some refl)
one_item expression (suc n) front e at row rest next some read end comma =
    ap (λ q. in_front front (then_read q (items_on expression n))) read
    ∙ ap (λ o. in_front front (map_read (λ es. e ∷ es) (if_next o (λ end rest. got [] rest) (then_read (sign_here (codes ",") rest) (λ at rest. items expression n rest))))) end
    ∙ ap (λ q. in_front front (map_read (λ es. e ∷ es) (then_read q (λ at rest. items expression n rest)))) comma
    ∙ one_in_front front e (items expression n next)
    ∙ ap (λ k. in_front (front ++ e ∷ []) (items expression k next)) (sym (less n))

-- behind the last item the parenthesis closes
pub last_item : {A : Type 0} (expression : Row → Read A) (n : ℕ) (front : List A) (e : A) (at : Place) (row rest next : Row) → (n ≡ 0 → ⊥) → expression row ≡ got e rest
    → sign_next (codes ")") rest ≡ Some (at, next) → in_front front (items expression n row) ≡ got (front ++ e ∷ []) next
last_item expression zero front e at row rest next some read end = absurd (some refl)
last_item expression (suc n) front e at row rest next some read end =
    ap (λ q. in_front front (then_read q (items_on expression n))) read
    ∙ ap (λ o. in_front front (map_read (λ es. e ∷ es) (if_next o (λ end rest. got [] rest) (then_read (sign_here (codes ",") rest) (λ at rest. items expression n rest))))) end

pub item_fails : {A : Type 0} (x : Failure Breach) (expression : Row → Read A) (n : ℕ) (front : List A) (row next : Row) → (n ≡ 0 → ⊥) → Fails x next (expression row)
    → Fails x next (in_front front (items expression n row))
item_fails x expression zero front row next some f = absurd (some refl)
item_fails x expression (suc n) front row next some f =
    map_fails x next (λ more. front ++ more) (items expression (suc n) row) (then_fails x next (expression row) (items_on expression n) f)

pub comma_fails : {A : Type 0} (x : Failure Breach) (expression : Row → Read A) (n : ℕ) (front : List A) (e : A) (row rest next : Row) → (n ≡ 0 → ⊥)
    → expression row ≡ got e rest → sign_next (codes ")") rest ≡ None → Fails x next (sign_here (codes ",") rest) → Fails x next (in_front front (items expression n row))
comma_fails x expression zero front e row rest next some read end f = absurd (some refl)
comma_fails x expression (suc n) front e row rest next some read end f =
    map_fails x next (λ more. front ++ more) (items expression (suc n) row) (fails_as x next (items expression (suc n) row) (items_on expression n e rest)
    (ap (λ q. then_read q (items_on expression n)) read)
    (map_fails x next (λ es. e ∷ es) (more_items (λ more. items expression n more) rest)
    (fails_as x next (more_items (λ more. items expression n more) rest) (then_read (sign_here (codes ",") rest) (λ at rest. items expression n rest))
    (ap (λ o. if_next o (λ end rest. got [] rest) (then_read (sign_here (codes ",") rest) (λ at rest. items expression n rest))) end)
    (then_fails x next (sign_here (codes ",") rest) (λ at rest. items expression n rest) f))))

pub first_items : {A : Type 0} (expression : Row → Read A) (most n : ℕ) (front : List A) (row : Row) → most ≡ n → front ≡ []
    → items expression most row ≡ in_front front (items expression n row)
first_items expression most n front row limit none =
    ap (λ k. items expression k row) limit ∙ sym (none_in_front (items expression n row)) ∙ ap (λ l. in_front l (items expression n row)) (sym none)

pub too_many_items : {A : Type 0} (expression : Row → Read A) (n : ℕ) (front : List A) (row : Row) → n ≡ 0 → in_front front (items expression n row) ≡ fails (here Limit row)
too_many_items expression zero front row none = refl
too_many_items expression (suc n) front row none = absurd cc
