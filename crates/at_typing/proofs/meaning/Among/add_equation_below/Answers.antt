use Rattle.std.proofs.Common.{map, Err}
use Rattle.std.specs.Option.{option_map}
use Rattle.std.proofs.lemmas.Result.{err_from_is_err_and}
use Rattle.at_jrag.specs.View.{body_view, word_view}
use Rattle.at_typing.specs.Meanings.{below_class, below_component}
use Rattle.at_typing.specs.Numbering.{numbered_view}
use Rattle.at_typing.specs.Ruling.{class_named, component_got}
use Rattle.at_typing.proofs.Adding.{adds_fault, adds_then, index_fault, adds_equation_below}
use Rattle.at_typing.proofs.meaning.Among.add_equation_below.Goals as goal

pub returns-in_err-class : goal.returns-in_err-class
returns-in_err-class c = λ ds about.
    let p = err_from_is_err_and c.from_residual.result c.from_residual.ensures.1 in
    rw (p.1, p.2) (adds_fault (numbered_view c.args.numbered.now) c.args.numbered.now.name c.args.meant.now c.args.meant.now (λ k. k) _ _ _ c.in_err-class.ensures)

pub returns-in_err-part : goal.returns-in_err-part
returns-in_err-part c = λ ds about.
    let classes = c.args.self.now.classes.now in
    let d = numbered_view c.args.numbered.now in
    let n = c.args.numbered.now.name in
    let old = c.args.meant.now in
    let index = option_map (λ w. word_view w.now) c.args.index in
    let body = body_view c.args.body.now in
    let getter = word_view c.args.getter.now in
    let e = c.in_err-part.field-0.0 in
    let p = err_from_is_err_and c.from_residual-in_err-part.result c.from_residual-in_err-part.ensures.1 in
    rw (p.1, p.2) (adds_then d n old old (below_class c.args.self.now.arguments classes
    (map numbered_view ds) d getter index body)
    (class_named classes (word_view c.args.class.now)) c.in_ok-class.class (Err e) c.in_ok-class.ensures
    (adds_fault d n old old (λ k. k) (below_component c.args.self.now.arguments classes
    (map numbered_view ds) d index body c.in_ok-class.class) (component_got classes c.in_ok-class.class getter) e
    c.in_err-part.ensures))

pub returns-in_err-index_of_list : goal.returns-in_err-index_of_list
returns-in_err-index_of_list c = λ ds about.
    let classes = c.args.self.now.classes.now in
    let d = numbered_view c.args.numbered.now in
    let n = c.args.numbered.now.name in
    let old = c.args.meant.now in
    let index = option_map (λ w. word_view w.now) c.args.index in
    let body = body_view c.args.body.now in
    let getter = word_view c.args.getter.now in
    let e = c.in_err-index_of_list.field-0.0 in
    let p = err_from_is_err_and c.from_residual-in_err-index_of_list.result c.from_residual-in_err-index_of_list.ensures.1 in
    let fault = index_fault c.args.self.now.arguments classes
    (map numbered_view ds) d n old old c.in_ok-class.class c.in_ok-part.part index body e c.in_err-index_of_list.ensures
    in
    rw (p.1, p.2) (adds_then d n old old (below_class c.args.self.now.arguments classes
    (map numbered_view ds) d getter index body)
    (class_named classes (word_view c.args.class.now)) c.in_ok-class.class (Err e) c.in_ok-class.ensures
    (adds_then d n old old (below_component c.args.self.now.arguments classes
    (map numbered_view ds) d index body c.in_ok-class.class)
    (component_got classes c.in_ok-class.class getter) c.in_ok-part.part (Err e) c.in_ok-part.ensures fault))

pub returns : goal.returns
returns c = λ ds about.
    let classes = c.args.self.now.classes.now in
    let d = numbered_view c.args.numbered.now in
    let n = c.args.numbered.now.name in
    let old = c.args.meant.now in
    let new = c.add_inherited.new.meant in
    let index = option_map (λ w. word_view w.now) c.args.index in
    let body = body_view c.args.body.now in
    let getter = word_view c.args.getter.now in
    let equation = adds_equation_below c.args.self.now.arguments classes
    (map numbered_view ds) d body c.args.self.now.signatures.now
    c.in_ok-class.class c.inherited.result about.signatures n old new c.add_inherited.result c.in_ok-part.part index
    (c.inherited.ensures ds about) c.in_ok-index_of_list.ensures c.add_inherited.ensures.added c.add_inherited.ensures.attributes c.add_inherited.ensures.own in
    adds_then d n old new (below_class c.args.self.now.arguments classes (map numbered_view ds) d getter index body)
    (class_named classes
    (word_view c.args.class.now)) c.in_ok-class.class c.add_inherited.result c.in_ok-class.ensures
    (adds_then d n old new (below_component c.args.self.now.arguments classes
    (map numbered_view ds) d index body c.in_ok-class.class)
    (component_got classes c.in_ok-class.class getter) c.in_ok-part.part c.add_inherited.result
    c.in_ok-part.ensures equation)
