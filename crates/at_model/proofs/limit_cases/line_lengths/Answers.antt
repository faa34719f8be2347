use Rattle.std.proofs.Common.{◌≡◌, ℕ, zero, suc, ◌+◌, ◌≤◌, true, ◌∷◌, ◌++◌, length, codes, refl, sym, ap, ◌∙◌, arith}
use Rattle.std.specs.List.{flat_map, list_all}
use Rattle.std.proofs.lemmas.List.{length-append}
use Rattle.std.specs.Fmt.{digits}
use Rattle.at_model.specs.Names.{reserved_words}
use Rattle.at_model.specs.Texts.{escaped}
use Rattle.at_model.specs.SampleSessions.{letters, renaming}
use Rattle.at_model.specs.SampleLines.{statement_path}
use Rattle.at_model.proofs.of_texts.PlainLines.{is_low, low_utf8, named, path}
use Rattle.at_model.proofs.limit_cases.line_lengths.Goals as goal

low_letters : (n : ℕ) → list_all is_low (letters n) ≡ true
low_letters zero = refl
low_letters (suc n) = low_letters n

plain_letters : (n : ℕ) → flat_map escaped (letters n) ≡ letters n
plain_letters zero = refl
plain_letters (suc n) = ap (λ z. 97 ∷ z) (plain_letters n)

closed : (n : ℕ) → length (letters n ++ codes "\"") ≡ n + 1
closed zero = refl
closed (suc n) = let h : length (letters n ++ codes "\"") ≡ n + 1 = closed n in ap suc h ∙ omega arith

size : (n : ℕ) → length (renaming n) ≡ n + 27
size n = let h = closed n in let e : length (renaming n) ≡ 26 + length (letters n ++ codes "\"") = length-append (codes "0 token /Block/Stmt:0 ID \"") (letters n ++ codes "\"") in omega arith

pub returns-clause-line : goal.returns-clause-line
unfolding digits reserved_words
returns-clause-line c = λ n h. record {
  is_line = record { session = omega arith; expected = tt; command = (path (statement_path 0) refl, named (codes "ID") refl, low_utf8 (letters n) (low_letters n)) };
  text = ap (λ text. codes "0 token /Block/Stmt:0 ID \"" ++ (text ++ codes "\"")) (sym (plain_letters n));
  short = let e = size n in omega arith;
}

pub returns-clause-too_long : goal.returns-clause-too_long
returns-clause-too_long c = λ n l h spelled. let e = size n in let s : length (renaming n) ≤ 65535 = spelled.short in omega arith
