use Rattle.at_model.proofs.of_edits.Larger.{allowed_edit, more_room, why_refused, within_edited}
use Rattle.at_model.proofs.refusal_laws.more_room_accepts_more.Goals as goal

pub returns-clause-more : goal.returns-clause-more
returns-clause-more c = more_room

pub returns-clause-same : goal.returns-clause-same
returns-clause-same c = within_edited

pub returns-clause-accepted : goal.returns-clause-accepted
returns-clause-accepted c = allowed_edit

pub returns-clause-refused : goal.returns-clause-refused
returns-clause-refused c = why_refused
