use Rattle.at_index.proofs.Common.{◌≡◌, ◌∙◌, arith, eqb-true, length, refl, rules, sym, Run}
use Rattle.at_index.proofs.of_runs.Seats.{lent, none_long, set_idle, set_keeps}
use Rattle.at_index.proofs.tells.Adding.is_idle.Goals as goal

pub returns-in-Some : goal.returns-in-Some
returns-in-Some g c =
    let xs = c.args.runs.now.items in
    let was = c.in-Some.found.now in
    let there = lent xs c.args.run was c.in-Some.ensures.item.0 c.in-Some.ensures.value in
    let v : Run = record { count = was.count; edges = c.trim.new.edges } in
    record {
      keeps = set_keeps xs _ c.args.run was v there refl refl c.trim.ensures;
      idle = λ h.
          let none = eqb-true _ 0 (sym c.is_empty.ensures ∙ h) in
          let ok = c.trim.new.edges.ok.0 in
          let empty : length v.edges.items ≡ 0 = omega (arith, none, ok) in
          set_idle xs _ c.args.run was v there refl (none_long v.edges.items empty);
      there = search rules;
    }
