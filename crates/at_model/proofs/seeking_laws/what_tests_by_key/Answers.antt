use Rattle.at_model.specs.Seeking.{IsPlain}
use Rattle.at_model.proofs.of_seeking.ByKey.{by_own_token, by_attribute}
use Rattle.at_model.proofs.seeking_laws.what_tests_by_key.Goals as goal

pub returns-clause-token : goal.returns-clause-token
returns-clause-token c = λ look equation also classes same scope key i bytes ns is each. by_own_token look (IsPlain look equation also) classes same scope key i bytes ns is each

pub returns-clause-attribute : goal.returns-clause-attribute
returns-clause-attribute c = λ look same rules also scope key attribute i bytes ns own own' is each. by_attribute look same rules also scope key attribute i bytes ns own own' is each
