-- The reader of terms keeps the laws of a reader.
use Rattle.std.proofs.Common.{◌≡◌, List, [], ◌∷◌, ◌++◌, Some, refl, ap, sym, ◌∙◌, append-nil}
use Rattle.std.specs.Prelude.{chars}
use Rattle.std.proofs.lemmas.Str.{chars-nil}
use Rattle.at_model.specs.Terms.{Term, IsTerm, term_text}
use Rattle.at_tree.specs.Partial.{Level, Place, Start, InWord, Dash, Digits, InText, Escape, Whole, Item, Done, Partial, at, nothing_read, step, term_at, whole_term}
use Rattle.at_tree.proofs.Machine.{Machine, run}
use Rattle.at_tree.proofs.TermSpelled.{openings, place_text, spelled}
use Rattle.at_tree.proofs.TermSteps.{PlaceFits, PartialFits, steps}
use Rattle.at_tree.proofs.TermAlive.{alive}
use Rattle.at_tree.proofs.TermRuns.{run_term}

pub ends_at : (fs : List Level) (place : Place) (t : Term) → PlaceFits fs place → term_at place ≡ Some t → IsTerm t × (term_text t ≡ openings fs ++ place_text place)
ends_at fs Start t h e = cc
ends_at fs (InWord word) t h e = cc
ends_at fs Dash t h e = cc
ends_at fs (Digits minus n) t h e = cc
ends_at fs (InText text) t h e = cc
ends_at fs (Escape text) t h e = cc
ends_at fs (Whole x) t h e = cc
ends_at fs (Item u) t h e = cc
ends_at [] (Done u) t h e = let is : u ≡ t = cc in rw (← is) (h.1, refl)
ends_at (f ∷ fs) (Done u) t h e = absurd h.0

pub completes : (t : Term) → IsTerm t → (p : Partial) × (run step (Some nothing_read) (chars (term_text t)) ≡ Some p) × (whole_term p ≡ Some t)
completes t h = (at [] (Done t), ap (λ y. run step (Some nothing_read) (chars y)) (sym (append-nil (term_text t))) ∙ run_term t [] [] h ∙ rw chars-nil refl, refl)

abbrev pub term_machine : Machine Partial Term
term_machine = record {
  step = step;
  start = nothing_read;
  whole = whole_term;
  text_of = term_text;
  IsValue = IsTerm;
  spelled = spelled;
  Fits = PartialFits;
  start_fits = record { levels = tt; place = tt };
  start_text = refl;
  steps = steps;
  alive = alive;
  ends = λ p t f e. ends_at p.levels p.place t f.place e;
  completes = completes;
}
