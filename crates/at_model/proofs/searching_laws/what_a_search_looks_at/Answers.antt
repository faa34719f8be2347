use Rattle.std.proofs.Common.{◌≡◌, true}
use Rattle.at_model.proofs.of_searching.ByRules.{told}
use Rattle.at_model.proofs.of_searching.LookedAt.{back_alone, looked_led}
use Rattle.at_model.proofs.of_searching.LookedLevels.{looked_only, under_looked}
use Rattle.at_model.proofs.of_searching.LookedSteps.{looked_again, looked_begun, looked_on, looked_past}
use Rattle.at_model.proofs.searching_laws.what_a_search_looks_at.Goals as goal

pub returns-clause-led : goal.returns-clause-led
returns-clause-led c look forms q i l = looked_led look forms q i l

pub returns-clause-begun : goal.returns-clause-begun
returns-clause-begun c look forms known below q = looked_begun look forms told (λ k. known k ≡ true) below q

pub returns-clause-seen : goal.returns-clause-seen
returns-clause-seen c look forms known below q seen i todo s off a = looked_again look forms told (λ k. known k ≡ true) below q seen i todo s off a

pub returns-clause-passed : goal.returns-clause-passed
returns-clause-passed c look forms known below q seen i todo s these closed valued all a =
    looked_past look forms told (λ k. known k ≡ true) below q seen i todo s these closed valued all a

pub returns-clause-ended : goal.returns-clause-ended
returns-clause-ended c look forms known below q seen i todo s e y fresh off =
    looked_on look forms told (λ k. known k ≡ true) below q seen i todo s e y fresh off

pub returns-clause-levels : goal.returns-clause-levels
returns-clause-levels c look forms known root levels s none h x a = under_looked look forms (λ k. known k ≡ true) root levels s none h x a

pub returns-clause-only : goal.returns-clause-only
returns-clause-only c look forms known root levels s none h x l = looked_only look forms (λ k. known k ≡ true) root levels s none h x l

pub returns-clause-back : goal.returns-clause-back
returns-clause-back c look forms under seen todo i x o l = back_alone look forms under seen todo i x o l
