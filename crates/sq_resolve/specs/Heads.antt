-- What the program's values stand for.
use Rattle.sq_resolve.specs.declared.head.Resolver.{Resolver}
use Rattle.sq_resolve.specs.declared.judge.Moment.{Moment as Held}
use Rattle.sq_resolve.specs.declared.judge.Moment.TheVariants as m
use Rattle.sq_resolve.specs.declared.judge.Value.{Value as HeldValue}
use Rattle.sq_resolve.specs.declared.judge.Value.TheVariants as v
use Rattle.sq_term.specs.Symbols.{kind_of}
use Rattle.sq_term.specs.View.{ts_tree}
use Rattle.sq_resolve.specs.Scopes.{Context, context}
use Rattle.sq_resolve.specs.Resolved.{Moment, moment, instance, Value, schema_variable, name_symbol}
use Rattle.sq_resolve.specs.Resolved.{function}

abbrev pub context_of : Resolver → Context
context_of r = context r.scope.now r.table.now r.env.now

abbrev pub moment_of : Held → Moment
moment_of (m.Time t) = moment (ts_tree t)
moment_of (m.Instance a) = instance a

abbrev pub value_of : HeldValue → Value
value_of (v.Schema k) = schema_variable k
value_of (v.Name n) = name_symbol n
value_of (v.Function f i) = function (kind_of f) i
