use Rattle.at_model.specs.Meaning.{content, equations}
use Rattle.at_model.proofs.of_likeness.EquationsAlike.{equations-like}
use Rattle.at_model.proofs.of_likeness.CarryingSupport.{leads_there, leads_here}
use Rattle.at_model.proofs.laws.carried_demands.Goals as goal

pub returns-clause-kept : goal.returns-clause-kept
returns-clause-kept c = λ carry injective rules before after. leads_there (content before) (content after) (equations rules) (equations rules) (equations-like carry injective rules)

pub returns-clause-no_others : goal.returns-clause-no_others
returns-clause-no_others c = λ carry injective rules before after i j m o like alike (n, h) leads.
    let (k, s, v, d, x) = leads_here (content before) (content after) (equations rules) (equations rules) (equations-like carry injective rules) n i j m (o, h) alike like leads in (k, s, v)
