-- What the operators of the code stand for.
use Rattle.at_jrag.specs.View.{operator_view}
use Rattle.at_java.specs.Operators.{Link, Between, InstanceOf}
use Rattle.at_java.specs.declared.reader.operators.Link.{Link as LinkValue}
use Rattle.at_java.specs.declared.reader.operators.Link.TheVariants as link

abbrev pub link_view : LinkValue → Link
link_view (link.Operator o) = Between (operator_view o.operator) o.at
link_view (link.InstanceOf at) = InstanceOf at
