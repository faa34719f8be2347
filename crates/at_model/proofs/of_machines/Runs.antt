-- Runs of lines and rows of turns: one after the other, and one more line at the end.
use Rattle.std.proofs.Common.{◌≡◌, ℕ, ◌+◌, Bool, List, [], ◌∷◌, ◌++◌, refl, sym, ap, ◌∙◌, subst, append_assoc, arith}
use Rattle.at_model.specs.Rules.{Rules}
use Rattle.at_model.specs.Replies.{Reply, reply_text}
use Rattle.at_model.specs.Machine.{State, Serves, Given, spent, none_open, silent, telling, Runs, end, next, text_of}
use Rattle.at_model.proofs.of_machines.Machines.{none_given}

pub append_nil : {A : Type 0} (xs : List A) → xs ++ [] ≡ xs
append_nil [] = refl
append_nil (x ∷ xs) = ap (λ ys. x ∷ ys) (append_nil xs)

-- the text of two rows
pub text_append : (told more : List (Bool × Reply)) → text_of (told ++ more) ≡ text_of told ++ text_of more
text_append [] more = refl
text_append (x ∷ told) more = ap (λ z. reply_text x.1 ++ z) (text_append told more) ∙ sym (append_assoc (reply_text x.1) (text_of told) (text_of more))

-- turns behind turns
none_more : (rules : Rules) (m n : ℕ) (s : State) (more : List (Bool × Reply)) (new : State) → s.posted ≡ [] → Given rules n s more new → Given rules (m + n) s more new
none_more rules m n s more new none given =
    let (nothing, same) = none_given rules n s more new none given in
    subst (λ told. Given rules (m + n) s told new) (sym nothing) (subst (λ x. Given rules (m + n) s [] x) (sym same) (none_open (m + n) s none))

as_many : (rules : Rules) (m n : ℕ) (s : State) (told : List (Bool × Reply)) (new : State) → m ≡ n → Given rules m s told new → Given rules n s told new
as_many rules m n s told new e given = subst (λ k. Given rules k s told new) e given

pub given_on : (rules : Rules) (m n : ℕ) (s mid new : State) (told more : List (Bool × Reply)) → Given rules m s told mid → Given rules n mid more new → Given rules (m + n) s (told ++ more) new
given_on rules _ n _ mid new _ more (spent s) given = as_many rules n (0 + n) s more new (omega arith) given
given_on rules _ n _ mid new _ more (none_open m s none) given = none_more rules m n s more new none given
given_on rules _ n _ mid new _ more (silent {limit = m} {s = s} {mid = first} {told = told} q is turn rest) given =
    as_many rules ((m + n) + 1) ((m + 1) + n) s (told ++ more) new (omega arith) (silent q is turn (given_on rules m n first mid new told more rest given))
given_on rules _ n _ mid new _ more (telling {limit = m} {s = s} {mid = first} {said = said} {told = told} q is turn rest) given =
    as_many rules ((m + n) + 1) ((m + 1) + n) s (said ∷ (told ++ more)) new (omega arith) (telling q is turn (given_on rules m n first mid new told more rest given))

-- lines behind lines
pub runs_on : (rules : Rules) (slice : ℕ) (old mid new : State) (ls ms : List (List ℕ)) (told more : List (Bool × Reply)) →
    Runs rules slice old ls told mid → Runs rules slice mid ms more new → Runs rules slice old (ls ++ ms) (told ++ more) new
runs_on rules slice _ mid new _ ms _ more (end s) rest = rest
runs_on rules slice old mid new _ ms _ behind (next {mid = first} {turned = turned} {line = line} {rest = ls} {said = said} {told = told} {more = more} serves given runs) rest =
    subst (λ whole. Runs rules slice old (line ∷ (ls ++ ms)) (said ∷ whole) new) (sym (append_assoc told more behind))
    (next serves given (runs_on rules slice turned mid new ls ms more behind runs rest))

pub one_more : (rules : Rules) (slice : ℕ) (old mid after new : State) (ls : List (List ℕ)) (told : List (Bool × Reply)) (line : List ℕ) (said : Bool × Reply) (more : List (Bool × Reply)) →
    Runs rules slice old ls told mid → Serves rules mid line after said → Given rules slice after more new → Runs rules slice old (ls ++ line ∷ []) (told ++ said ∷ more) new
one_more rules slice old mid after new ls told line said more runs serves given =
    runs_on rules slice old mid new ls (line ∷ []) told (said ∷ more) runs (subst (λ whole. Runs rules slice mid (line ∷ []) (said ∷ whole) new) (append_nil more) (next serves given (end new)))
