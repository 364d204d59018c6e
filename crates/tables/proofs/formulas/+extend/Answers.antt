use Rattle.std.proofs.Common.{◌∙◌, ap₂, arith}
use Rattle.fields.specs.Fields.{elements}
use Rattle.tables.specs.Formulas.{between}
use Rattle.tables.proofs.Halves.{rest, first_and_rest, value_halves, read_two, read_four}
use Rattle.tables.proofs.formulas.+extend.Goals as goal

pub returns-in-len1 : goal.returns-in-len1
returns-in-len1 g t c =
    c.line_at.ensures
    ∙ read_two g.F.Field.field c.args.items.now c.args.point.now _ _ _ (omega arith) c.requires c.x-item.is c.index-items-0-in-len1.is c.index-items-1.is

pub returns-in-len2 : goal.returns-in-len2
returns-in-len2 g t c =
    c.line_at-in-len2-3.ensures
    ∙ ap₂ (between g.F.Field.field (elements g.F.Field.field) _) c.line_at-in-len2.ensures c.line_at-in-len2-2.ensures
    ∙ read_four g.F.Field.field c.args.items.now c.args.point.now _ _ _ _ _ _ (omega arith) c.requires c.x-item-then-point-lt3.is c.y-item.is c.index-items-0-in-len2.is c.index-items-1-in-len2.is c.index-items-2.is c.index-items-3.is

pub returns-in-len1-up : goal.returns-in-len1-up
returns-in-len1-up g t c =
    let p = c.args.point.now in
    c.line_at-in-len1-up.ensures
    ∙ value_halves g.F.Field.field c.args.items.now _ _ p (rest p) _ _ _ c.split_at.ensures.front c.split_at.ensures.back (first_and_rest p _ (omega arith) c.x-item-2.is) c.requires
    c.extend.ensures c.extend-in-len1-up.ensures
