use Rattle.at_model.specs.Meaning.{content}
use Rattle.at_model.specs.of_fixpoints.Evaluations.{forms}
use Rattle.at_model.proofs.of_formulas.CarriedByFormulas.{leads_there, leads_back, supports_there, supports_back}
use Rattle.at_model.proofs.of_formulas.CarriedSearches.{answer_there}
use Rattle.at_model.proofs.of_formulas.Untouched.{agree, below, like}
use Rattle.at_model.proofs.fixpoint_laws.what_is_not_touched_stays_by_formulas.Goals as goal

pub returns-clause-answer : goal.returns-clause-answer
returns-clause-answer c = λ rules t u e i j a ok is free same h.
    answer_there (agree e) (content t) (content u) (forms rules) (forms rules) (like rules e) i j a same
    (below rules t u e i ok is free) h

pub returns-clause-demands : goal.returns-clause-demands
returns-clause-demands c = λ rules t u e i j k ok is free same h.
    let (m, s, l) = leads_there (agree e) (content t) (content u) (forms rules) (forms rules) (like rules e)
    i k j (same, below rules t u e i ok is free) h in (m, s.0, l)

pub returns-clause-no_other_demands : goal.returns-clause-no_other_demands
returns-clause-no_other_demands c = λ rules t u e i j m ok is free same h.
    let (k, s, l) = leads_back (agree e) (content t) (content u) (forms rules) (forms rules) (like rules e)
    i j m (same, below rules t u e i ok is free) h in (k, s.0, l)

pub returns-clause-support : goal.returns-clause-support
returns-clause-support c = λ rules t u e i j l ok is free same h.
    supports_there (agree e) (content t) (content u) (forms rules) (forms rules) (like rules e) i j l
    (same, below rules t u e i ok is free) h

pub returns-clause-no_other_support : goal.returns-clause-no_other_support
returns-clause-no_other_support c = λ rules t u e i j m ok is free same h.
    supports_back (agree e) (content t) (content u) (forms rules) (forms rules) (like rules e) i j m
    (same, below rules t u e i ok is free) h
