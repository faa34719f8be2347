-- How a run goes on: by bytes of a line, by a whole line, by more bytes.
use Rattle.std.proofs.Common.{◌≡◌, ℕ, Bool, true, cond, List, [], ◌∷◌, ◌++◌, filter, length, refl, sym, ap, ◌∙◌, append_assoc, append-nil, subst, arith, length-append}
use Rattle.at_model.specs.Lines.{pieces, is_filled}
use Rattle.at_model.specs.Rules.{Rules}
use Rattle.at_model.specs.Replies.{Reply}
use Rattle.at_model.specs.Machine.{State, Serves, Given, Runs, end}
use Rattle.at_model.proofs.of_machines.Runs.{one_more, runs_on}
use Rattle.at_engine.specs.Loop.{IsOpen, Progress}
use Rattle.at_engine.proofs.Pieces.{splits_open, splits_newline, splits_on, filter-append}

pub one_line : (rest : List ℕ) → is_filled rest ≡ true → filter is_filled (rest ∷ []) ≡ rest ∷ []
one_line rest h = ap (λ t. cond t (rest ∷ []) []) h

-- an empty line more is none, a filled one is one more
pub empty_behind : (fulls : List (List ℕ)) → filter is_filled (fulls ++ [] ∷ []) ≡ filter is_filled fulls
empty_behind fulls = filter-append is_filled fulls ([] ∷ []) ∙ append-nil (filter is_filled fulls)

pub filled_behind : (fulls : List (List ℕ)) (rest : List ℕ) → is_filled rest ≡ true → filter is_filled (fulls ++ rest ∷ []) ≡ filter is_filled fulls ++ rest ∷ []
filled_behind fulls rest h = filter-append is_filled fulls (rest ∷ []) ∙ ap (λ l. filter is_filled fulls ++ l) (one_line rest h)

module _ (rules : Rules) (slice : ℕ) where
  -- nothing came yet
  abbrev pub nothing_came : (old : State) (front : List ℕ) → IsOpen front → Progress rules slice old front [] [] old front
  nothing_came old front o = record {
    fulls = [];
    splits = ap pieces (append-nil front) ∙ o;
    open' = o;
    runs = end old;
    few = omega arith;
  }

  -- bytes of a line came
  abbrev pub open_came : (old new : State) (front bytes : List ℕ) (told : List (Bool × Reply)) (rest more : List ℕ) → IsOpen more → Progress rules slice old front bytes told new rest → Progress rules slice old front (bytes ++ more) told new (rest ++ more)
  open_came old new front bytes told rest more o p = record {
    fulls = p.fulls;
    splits = ap pieces (sym (append_assoc front bytes more)) ∙ splits_open (front ++ bytes) p.fulls rest more o p.splits;
    open' = splits_open rest [] rest more o p.open';
    runs = p.runs;
    few = omega (arith, p.few, length-append bytes more);
  }

  -- a newline came behind an empty line
  abbrev pub empty_line_came : (old new : State) (front bytes : List ℕ) (told : List (Bool × Reply)) → Progress rules slice old front bytes told new [] → Progress rules slice old front (bytes ++ 10 ∷ []) told new []
  empty_line_came old new front bytes told p = record {
    fulls = p.fulls ++ [] ∷ [];
    splits = ap pieces (sym (append_assoc front bytes (10 ∷ []))) ∙ splits_newline (front ++ bytes) p.fulls [] p.splits;
    open' = refl;
    runs = subst (λ (l : List (List ℕ)). Runs rules slice old l told new) (sym (empty_behind p.fulls)) p.runs;
    few = omega (arith, p.few, ap length (empty_behind p.fulls), length-append bytes (10 ∷ []));
  }

  -- a newline came behind a line, the line was served, and turns followed
  abbrev pub line_came : (old mid after new : State) (front bytes : List ℕ) (told : List (Bool × Reply)) (rest : List ℕ) (said : Bool × Reply) (more : List (Bool × Reply)) → is_filled rest ≡ true → Serves rules mid rest after said → Given rules slice after more new
      → Progress rules slice old front bytes told mid rest → Progress rules slice old front (bytes ++ 10 ∷ []) (told ++ said ∷ more) new []
  line_came old mid after new front bytes told rest said more h serves given p = record {
    fulls = p.fulls ++ rest ∷ [];
    splits = ap pieces (sym (append_assoc front bytes (10 ∷ []))) ∙ splits_newline (front ++ bytes) p.fulls rest p.splits;
    open' = refl;
    runs = subst (λ (l : List (List ℕ)). Runs rules slice old l (told ++ said ∷ more) new) (sym (filled_behind p.fulls rest h)) (one_more rules slice old mid after new (filter is_filled p.fulls) told rest said more p.runs serves given);
    few = omega (arith, p.few, ap length (filled_behind p.fulls rest h), length-append (filter is_filled p.fulls) (rest ∷ []), length-append bytes (10 ∷ []));
  }

  -- more bytes came
  abbrev pub more_came : (old mid new : State) (front bytes more : List ℕ) (told on : List (Bool × Reply)) (rest last : List ℕ) → Progress rules slice old front bytes told mid rest → Progress rules slice mid rest more on new last → Progress rules slice old front (bytes ++ more) (told ++ on) new last
  more_came old mid new front bytes more told on rest last p q =
      let whole = filter-append is_filled p.fulls q.fulls in
      record {
        fulls = p.fulls ++ q.fulls;
        splits = ap pieces (sym (append_assoc front bytes more)) ∙ splits_on (front ++ bytes) more p.fulls q.fulls rest last p.splits p.open' q.splits;
        open' = q.open';
        runs = subst (λ (l : List (List ℕ)). Runs rules slice old l (told ++ on) new) (sym whole) (runs_on rules slice old mid new (filter is_filled p.fulls) (filter is_filled q.fulls) told on p.runs q.runs);
        few = omega (arith, p.few, q.few, ap length whole, length-append (filter is_filled p.fulls) (filter is_filled q.fulls), length-append bytes more);
      }
