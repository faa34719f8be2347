-- What the reader's parts of declarations stand for.
use Rattle.std.specs.Prelude.{map, option_map}
use Rattle.at_tree.specs.View.{cell_view, term_view}
use Rattle.at_jrag.specs.View.{word_view, kind_word_view, params_view, decl_view, aspect_view}
use Rattle.at_java.specs.Written.{Statement}
use Rattle.at_java.specs.View.{statement_view}
use Rattle.at_java.specs.Items.{Closed}
use Rattle.at_java.specs.Outsets.{Shape, Component, Outset}
use Rattle.at_java.specs.Making.{Making, Made, Local}
use Rattle.at_java.specs.Declarations.{Target, Head, Constant, Declared}
use Rattle.at_java.specs.Files.{Declarations, Part, Contents}
use Rattle.at_java.specs.declared.constants.Constant.{Constant as ConstantValue}
use Rattle.at_java.specs.declared.constants.Contents.{Contents as ContentsValue}
use Rattle.at_java.specs.declared.reader.constants.Declared.{Declared as DeclaredValue}
use Rattle.at_java.specs.declared.reader.outsets.Shape.{Shape as ShapeValue}
use Rattle.at_java.specs.declared.reader.outsets.Component.{Component as ComponentValue}
use Rattle.at_java.specs.declared.reader.outsets.Outset.{Outset as OutsetValue}
use Rattle.at_java.specs.declared.reader.making.Making.{Making as MakingValue}
use Rattle.at_java.specs.declared.reader.making.Made.{Made as MadeValue}
use Rattle.at_java.specs.declared.reader.making.Local.{Local as LocalValue}
use Rattle.at_java.specs.declared.reader.files.Part.{Part as PartValue}
use Rattle.at_java.specs.declared.reader.statements.Block.{Block as BlockValue}
use Rattle.at_java.specs.declared.reader.headings.Target.{Target as TargetValue}
use Rattle.at_java.specs.declared.reader.headings.Head.{Head as HeadValue}
use Rattle.at_java.specs.declared.reader.files.Declarations.{Declarations as DeclarationsValue}

abbrev pub block_view : BlockValue → Closed Statement
block_view b = record { items = map statement_view b.items.items; end = b.end }

abbrev pub target_view : TargetValue → Target
target_view t = record { class = word_view t.class; name = word_view t.name; params = params_view t.params }

abbrev pub head_view : HeadValue → Head
head_view h = record { kind = kind_word_view h.kind; target = target_view h.target; start = h.start }

abbrev pub shape_view : ShapeValue → Shape
shape_view s = record { class = word_view s.class; is_list = s.is_list; at = s.at }

abbrev pub component_view : ComponentValue → Component
component_view c = record { name = word_view c.name; is_accessor = c.is_accessor }

abbrev pub outset_view : OutsetValue → Outset
outset_view o = record {
  kind = word_view o.kind;
  is_list = o.is_list;
  class = word_view o.class;
  name = word_view o.name;
  is_accessor = o.is_accessor;
  end = o.end;
}

abbrev pub making_view : MakingValue → Making
making_view m = record { at = m.at; made_at = m.made_at; is_block = m.is_block }

abbrev pub made_view : MadeValue → Made
made_view m = record { at = m.at; items = map term_view m.items.items }

abbrev pub local_view : LocalValue → Local
local_view l = record { name = word_view l.name; at = l.at }

abbrev pub constant_view : ConstantValue → Constant
constant_view c = record { class = word_view c.class; name = word_view c.name; kind = word_view c.kind; cell = cell_view c.cell; at = c.at }

abbrev pub declared_view : DeclaredValue → Declared
declared_view d = record { decl = option_map decl_view d.decl; constant = option_map constant_view d.constant }

abbrev pub declarations_view : DeclarationsValue → Declarations
declarations_view d = record { decls = map decl_view d.decls.items; constants = map constant_view d.constants.items; end = d.end }

abbrev pub part_view : PartValue → Part
part_view p = record { aspect = aspect_view p.aspect; constants = map constant_view p.constants.items }

abbrev pub contents_view : ContentsValue → Contents
contents_view c = record { aspects = map aspect_view c.aspects.items; constants = map constant_view c.constants.items }
