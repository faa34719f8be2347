use Rattle.std.proofs.Common.{◌≡◌, List, [], ◌∷◌, ◌++◌, refl, sym, ◌∙◌, true≢false}
use Rattle.at_demand.proofs.Orderly.{none_there}
use Rattle.at_demand.proofs.question.Question.rise.Goals as goal

no_front : {A : Type 0} (xs ys : List A) → xs ++ ys ≡ [] → xs ≡ []
no_front [] ys e = refl
no_front (x ∷ xs) ys e = absurd cc

pub returns-in_default : goal.returns-in_default
returns-in_default c =
    let none = none_there c.args.self.now.waiting.entries (λ less. true≢false (sym (c.in_default.ensures.found.1 less))) in
    let gone = no_front c.pop.new.self.entries _ (sym c.in_default.ensures.entries ∙ none) in (
      none,
      record {
        chain = record { waiting = gone ∙ sym none; inst = refl };
        level = refl;
        finds = record { found = refl; passed = refl; ended = refl; turns = refl };
      },
    )
