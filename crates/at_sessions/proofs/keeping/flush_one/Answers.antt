use Rattle.at_sessions.proofs.keeping.flush_one.Goals as goal

-- of what the closure answers `false` for nothing is said
pub flush-requires-clause-named : goal.flush-requires-clause-named
flush-requires-clause-named g c x unnamed = (c.args.touched, λ yes. absurd cc)
