use Rattle.std.proofs.Common.{inl}
use Rattle.at_grammar.proofs.Files.{cut_fault}
use Rattle.at_grammar.proofs.scan_fault.Goals as goal

pub returns-in-Bad : goal.returns-in-Bad
returns-in-Bad c = inl (c.args.fault, cut_fault _ _ _ _ c.of.ensures c.in-Bad.is c.requires.fault)
