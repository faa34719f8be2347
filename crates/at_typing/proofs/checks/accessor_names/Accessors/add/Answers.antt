use Rattle.std.proofs.Common.{List, ℕ, Bor, ap, sym, ◌∙◌, cond, inl, inr}
use Rattle.std.proofs.lemmas.Result.{on_ok_weaker}
use Rattle.at_class.specs.View.{shape_view, part_view}
use Rattle.at_class.specs.declared.part.PartShape.{PartShape}
use Rattle.at_kinds.specs.Accessors.{is_optional, is_list}
use Rattle.indexmap.specs.IndexSet.{insert_key}
use Rattle.at_typing.specs.AccessorNames.{same_name}
use Rattle.at_typing.proofs.AccessorNaming.{adds_one}
use Rattle.at_typing.proofs.checks.accessor_names.Accessors.add.Goals as goal

abbrev optionals_at : List (Bor (List ℕ)) → Bor (List ℕ) → PartShape → List (Bor (List ℕ))
optionals_at keys k s = cond (is_optional (shape_view s)) (insert_key same_name keys k) keys

abbrev lists_at : List (Bor (List ℕ)) → Bor (List ℕ) → PartShape → List (Bor (List ℕ))
lists_at keys k s = cond (is_list (shape_view s)) (insert_key same_name keys k) keys

pub returns-in-Maybe : goal.returns-in-Maybe
returns-in-Maybe c =
    let old = c.args.self.now in
    let k = c.as_bytes-name.result in
    on_ok_weaker c.add-in-Maybe.result (λ new. adds_one (part_view c.args.part.now) k old _ c.as_bytes-name.ensures.value c.in_ok-add.ensures
    (new ∙ sym (ap (optionals_at old.optionals.texts.keys k) c.in-Maybe.is))
    (sym (ap (lists_at old.lists.texts.keys k) c.in-Maybe.is))) c.add-in-Maybe.ensures

pub returns-in-Many : goal.returns-in-Many
returns-in-Many c =
    let old = c.args.self.now in
    let k = c.as_bytes-name.result in
    on_ok_weaker c.add-in-Many.result (λ new. adds_one (part_view c.args.part.now) k old _ c.as_bytes-name.ensures.value c.in_ok-add.ensures
    (sym (ap (optionals_at old.optionals.texts.keys k) c.in-Many.is))
    (new ∙ sym (ap (lists_at old.lists.texts.keys k) c.in-Many.is))) c.add-in-Many.ensures

pub returns-in-One : goal.returns-in-One
returns-in-One c =
    let old = c.args.self.now in
    let k = c.as_bytes-name.result in
    adds_one (part_view c.args.part.now) k old _ c.as_bytes-name.ensures.value c.in_ok-add.ensures
    (elim c.in-One.is [ inl h ↦ sym (ap (optionals_at old.optionals.texts.keys k) h.1) | inr h ↦ sym (ap (optionals_at old.optionals.texts.keys k) h.1) ])
    (elim c.in-One.is [ inl h ↦ sym (ap (lists_at old.lists.texts.keys k) h.1) | inr h ↦ sym (ap (lists_at old.lists.texts.keys k) h.1) ])
