use Rattle.std.proofs.Common.{◌≡◌, true}
use Rattle.at_model.proofs.of_seeking.Shortened.{first_shortens, exists_shortens, itself}
use Rattle.at_model.proofs.seeking_laws.a_fold_over_a_drawer.Goals as goal

pub returns-clause-first : goal.returns-clause-first
returns-clause-first c = λ look plain key m test ns by_key. first_shortens look (λ i v. plain i v ≡ true) key m test test (λ n. itself look (λ i v. plain i v ≡ true) (test n)) ns by_key

pub returns-clause-exists : goal.returns-clause-exists
returns-clause-exists c = λ look plain key m test ns by_key. exists_shortens look (λ i v. plain i v ≡ true) key m test test (λ n. itself look (λ i v. plain i v ≡ true) (test n)) ns by_key
