use Rattle.at_model.specs.Drawers.{mark_of}
use Rattle.at_model.specs.Bodies.{text_of, exists_in, first_in}
use Rattle.at_model.specs.Run.{Slot}
use Rattle.at_model.specs.Seeking.{IsPlain}
use Rattle.at_model.proofs.of_seeking.Shortened.{first_shortens, exists_shortens}
use Rattle.at_model.proofs.of_seeking.Folded.{folded}
use Rattle.at_model.proofs.seeking_laws.a_search_shortens_its_fold.Goals as goal

pub returns-clause-first : goal.returns-clause-first
returns-clause-first c = λ look equation also part key v w test short drawn same by_key.
    folded look (IsPlain look equation also) drawn part key v w (first_in test) (first_in short)
    (λ n is. first_shortens look (IsPlain look equation also) key (mark_of (text_of w)) test short same (look (Slot n part)) (by_key n is))

pub returns-clause-exists : goal.returns-clause-exists
returns-clause-exists c = λ look equation also part key v w test short drawn same by_key.
    folded look (IsPlain look equation also) drawn part key v w (exists_in test) (exists_in short)
    (λ n is. exists_shortens look (IsPlain look equation also) key (mark_of (text_of w)) test short same (look (Slot n part)) (by_key n is))
