use Rattle.std.proofs.Common.{◌≡◌, ◌≤◌, length, take, refl, ap, sym, ◌∙◌, arith, None, Some, map, string_bytes, take_all}
use Rattle.std.proofs.lemmas.List.{drop_all}
use Rattle.std.specs.Prelude.{not}
use Rattle.std.specs.List.{list_any}
use Rattle.std.specs.Str.{bytes_eq}
use Rattle.at_model.specs.Declarations.{class_twice, is_predefined, first_given}
use Rattle.at_class.specs.Grammar.{declaration_view, declarations_view, place_view}
use Rattle.at_class.proofs.Firsts.{twice_test, twice_predefined, twice_there, twice_nowhere, names_same, names_more, first_given_here, first_given_more}
use Rattle.at_class.proofs.names.put_names.Goals as goal
use Rattle.at_class.proofs.names.put_names.Goals.{then-not-is_new-via-then-not-is_new, then-not-is_new-via-else-not-is_new+then-is_predefined}

pub returns-then-not-is_new-clause-err : goal.returns-then-not-is_new-clause-err
unfolding class_twice
returns-then-not-is_new-clause-err c =
    let xs = c.args.declarations.now in
    let ds = declarations_view xs in
    let k = c.loop-declaration.declaration-index in
    let d = c.declaration-item.result in
    let there : list_any (λ e. bytes_eq (string_bytes d.name) e.name) (take k ds) ≡ not c.in_ok-is_new.is_new =
    names_same c.loop-declaration.names.keys xs k c.in_ok-name.name (string_bytes d.name) c.in_ok-is_new.is_new
    c.loop-declaration.invariant.0 (c.in_ok-name.ensures.ok ∙ c.as_str.ensures.value)
    c.in_ok-is_new.ensures.added in
    let given : twice_test ds k (declaration_view d) ≡ Some (place_view d.at) =
    elim c.then-not-is_new.branch [
      | then-not-is_new-via-then-not-is_new w ↦ twice_there ds k (declaration_view d) (there ∙ ap not w.if-not-is_new.true)
      | then-not-is_new-via-else-not-is_new+then-is_predefined w ↦
          twice_predefined ds k (declaration_view d) (ap is_predefined (sym w.as_str-else-not-is_new.ensures.value)
          ∙ sym w.is_predefined.ensures ∙ w.if-is_predefined.true)
    ] in
    (refl, c.loop-declaration.invariant.1 ∙ first_given_here (twice_test ds) declaration_view xs k d (place_view d.at) (omega arith) c.declaration-item.is given)

pub loop-declaration-preserved : goal.loop-declaration-preserved
loop-declaration-preserved c =
    let xs = c.args.declarations.now in
    let ds = declarations_view xs in
    let k = c.loop-declaration.declaration-index in
    let d = c.declaration-item.result in
    let text : string_bytes c.in_ok-name.name ≡ string_bytes d.name = c.in_ok-name.ensures.ok ∙ c.as_str.ensures.value in
    let there : list_any (λ e. bytes_eq (string_bytes d.name) e.name) (take k ds) ≡ not c.in_ok-is_new.is_new =
    names_same c.loop-declaration.names.keys xs k c.in_ok-name.name (string_bytes d.name) c.in_ok-is_new.is_new c.loop-declaration.invariant.0 text c.in_ok-is_new.ensures.added in
    let none : twice_test ds k (declaration_view d) ≡ None =
    twice_nowhere ds k (declaration_view d) (ap is_predefined (sym c.as_str-else-not-is_new.ensures.value)
    ∙ sym c.is_predefined.ensures ∙ c.if-is_predefined.false) (there ∙ ap not c.if-not-is_new.false) in (
      names_more c.loop-declaration.names.keys c.insert_full.new.self.keys xs k d c.in_ok-name.name (omega arith)
          c.declaration-item.is text (sym c.if-not-is_new.false ∙ c.in_ok-is_new.ensures.added)
          c.in_ok-is_new.ensures.keys c.loop-declaration.invariant.0,
      c.loop-declaration.invariant.1 ∙ first_given_more (twice_test ds) declaration_view xs k d (omega arith) c.declaration-item.is none,
    )

pub returns-clause-ok : goal.returns-clause-ok
unfolding class_twice
returns-clause-ok c =
    let xs = c.args.declarations.now in
    let k = c.loop-declaration.declaration-index in
    let past : length xs ≤ k = c.loop-declaration-test.false in (
      c.loop-declaration.invariant.1 ∙ ap (λ ys. first_given (twice_test (declarations_view xs)) k (map declaration_view ys)) (drop_all k xs past),
      c.loop-declaration.invariant.0 ∙ ap (map (λ d. string_bytes d.name)) (take_all k xs past),
    )
