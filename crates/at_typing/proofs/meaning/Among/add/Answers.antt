use Rattle.at_typing.proofs.meaning.Among.add.Goals as goal

pub returns : goal.returns
returns c = c.add_form.ensures
