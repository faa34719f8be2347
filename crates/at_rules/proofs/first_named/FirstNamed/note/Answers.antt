use Rattle.std.proofs.Common.{sym, ◌∙◌}
use Rattle.std.specs.Prelude.{ℕ, nat_eq, ◌&&◌}
use Rattle.indexmap.proofs.CallerLemmas.{insert_entry-new}
use Rattle.at_rules.proofs.FirstNaming.{noted_before, noted_now, none_where}
use Rattle.at_rules.proofs.Starting.{noted_or_not}
use Rattle.at_rules.proofs.first_named.FirstNamed.note.Goals as goal

pub returns-then-contains_key-clause-noted : goal.returns-then-contains_key-clause-noted
returns-then-contains_key-clause-noted c = λ ks number are. noted_before c.args.self.now.first.entries ks c.args.class c.args.name (sym c.contains_key.ensures ∙ c.if-contains_key.true) are

pub returns-clause-noted : goal.returns-clause-noted
returns-clause-noted c =
    let absent = none_where _ (sym c.contains_key.ensures ∙ c.if-contains_key.false) in
    λ ks number are. noted_now c.args.self.now.first.entries _ ks c.args.class c.args.name c.args.attribute
    (c.in_ok-insert.ensures.entries ∙ insert_entry-new (λ (a b : ℕ × ℕ). nat_eq a.0 b.0 && nat_eq a.1 b.1) c.args.self.now.first (c.args.class, c.args.name) c.args.attribute absent) number are

pub invariant_of-self-2 : goal.invariant_of-self-2
invariant_of-self-2 c =
    let m = c.args.self.now in
    let eq = λ (a b : ℕ × ℕ). nat_eq a.0 b.0 && nat_eq a.1 b.1 in
    let absent = none_where _ (sym c.contains_key.ensures ∙ c.if-contains_key.false) in
    let put = insert_entry-new eq m.first (c.args.class, c.args.name) c.args.attribute absent in
    let noted = noted_or_not c.insert.result m.begins.entries c.begin.new.begins.entries m.first.entries in
    record {
      begun = noted c.insert.new.self.entries _ c.args.class c.args.name c.len.result c.args.attribute c.len.ensures.len
          c.in_ok-begin.ensures.kept put c.insert.ensures.entries c.insert.ensures.err m.begun;
    }
