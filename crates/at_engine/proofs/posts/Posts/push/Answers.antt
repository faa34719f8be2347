use Rattle.at_engine.proofs.posts.Posts.push.Goals as goal

pub returns-clause-items : goal.returns-clause-items
returns-clause-items c = c.in_ok-push.ensures.items
