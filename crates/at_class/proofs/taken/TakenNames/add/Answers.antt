use Rattle.std.proofs.Common.{◌∙◌, ◌++◌, ap, sym}
use Rattle.std.specs.Prelude.{◌||◌, codes, string_bytes}
use Rattle.std.specs.Str.{bytes_eq}
use Rattle.at_class.specs.Taken.{has_key}
use Rattle.at_class.specs.View.{part_view}
use Rattle.at_class.proofs.Taking.{begins_on, begins_same, one_taken, takes_none, takes_two}
use Rattle.at_class.proofs.taken.TakenNames.add.Goals as goal

pub returns-then-not-is_list : goal.returns-then-not-is_list
returns-then-not-is_list c =
    let p = part_view c.args.part.now in
    let old = c.args.self.now in
    let text = c.in_ok-from_str.ensures.ok ∙ c.as_str-name.ensures.value in (
      (c.in_ok-insert.ensures.0, begins_same old.accessors.keys),
      λ before k. one_taken p old (record { names = c.insert.new.set; accessors = old.accessors }) before k
          (λ n. c.in_ok-insert.ensures.1 n ∙ ap (λ t. has_key old.names.keys n || bytes_eq n t) text)
          (λ n. takes_none p (has_key old.accessors.keys n) n (sym c.is_list.ensures ∙ c.if-not-is_list.true)),
    )

pub returns : goal.returns
returns c =
    let p = part_view c.args.part.now in
    let old = c.args.self.now in
    let text = c.in_ok-from_str.ensures.ok ∙ c.as_str-name.ensures.value in (
      (c.in_ok-insert.ensures.0, begins_on old.accessors.keys c.insert-2.new.set.keys c.insert-3.new.set.keys c.in_ok-insert-2.ensures.0 c.in_ok-insert-3.ensures.0),
      λ before k. one_taken p old (record { names = c.insert.new.set; accessors = c.insert-3.new.set }) before k
          (λ n. c.in_ok-insert.ensures.1 n ∙ ap (λ t. has_key old.names.keys n || bytes_eq n t) text)
          (λ n. takes_two p (has_key old.accessors.keys n) (has_key c.insert-2.new.set.keys n)
          (has_key c.insert-3.new.set.keys n) n (string_bytes c.in_ok-count_name.field-0)
          (string_bytes c.in_ok-list_name.field-0)
          (sym c.is_list.ensures ∙ c.if-not-is_list.false)
          (c.in_ok-count_name.ensures ∙ ap (λ t. codes "Num" ++ t) c.as_str-name.ensures.value)
          (c.in_ok-list_name.ensures ∙ ap (λ t. t ++ codes "List") c.as_str-name.ensures.value)
          (c.in_ok-insert-2.ensures.1 n) (c.in_ok-insert-3.ensures.1 n)),
    )
