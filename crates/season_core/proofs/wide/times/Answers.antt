-- `times` meets its contract: column by column.
use native.Mathlib.Omega.{arith}
use mathlib.Core.Path.{◌∙◌}
use Prim.Native.Nat.{◌/◌, ◌%◌}
use Rattle.season_core.specs.Laws.Columns.{product_le, columns, whole, t_fits, w_fits, top_fits, high_fits}
use Rattle.season_core.proofs.wide.times.Goals as goal

pub overflow_mul-w0 : goal.overflow_mul-w0
overflow_mul-w0 c = let p = product_le (c.args.a % 4294967296) (c.args.b % 4294967296) (omega arith) (omega arith) in omega arith

pub overflow_mul-t : goal.overflow_mul-t
overflow_mul-t c = let h = c.ranges.a.fits in let p = product_le (c.args.a / 4294967296) (c.args.b % 4294967296) (omega arith) (omega arith) in omega arith

pub overflow_add-t : goal.overflow_add-t
overflow_add-t c = let p = t_fits c.args.a c.args.b c.ranges.a.fits c.ranges.b.fits in omega arith

pub overflow_mul-w1 : goal.overflow_mul-w1
overflow_mul-w1 c = let h = c.ranges.b.fits in let p = product_le (c.args.a % 4294967296) (c.args.b / 4294967296) (omega arith) (omega arith) in omega arith

pub overflow_add-w1 : goal.overflow_add-w1
overflow_add-w1 c = let p = w_fits c.args.a c.args.b c.ranges.a.fits c.ranges.b.fits in omega arith

pub overflow_mul-high : goal.overflow_mul-high
overflow_mul-high c = let h = c.ranges.a.fits in let k = c.ranges.b.fits in let p = product_le (c.args.a / 4294967296) (c.args.b / 4294967296) (omega arith) (omega arith) in omega arith

pub overflow_add-high : goal.overflow_add-high
overflow_add-high c = let p = top_fits c.args.a c.args.b c.ranges.a.fits c.ranges.b.fits in omega arith

pub overflow_add-high-2 : goal.overflow_add-high-2
overflow_add-high-2 c = let p = high_fits c.args.a c.args.b c.ranges.a.fits c.ranges.b.fits in omega arith

pub returns : goal.returns
returns c = columns (c.args.a / 4294967296) (c.args.a % 4294967296) (c.args.b / 4294967296) (c.args.b % 4294967296) ∙ whole c.args.a c.args.b
