-- `format_read::classes::class_of` meets its contract: at each arm the law of its class.
use mathlib.Core.Path.{sym}
use native.Mathlib.Omega.{arith}
use Rattle.format_read.proofs.Laws.Byte.{class_zero, class_digit, class_line_end, class_comma, class_colon, class_keep, class_also, class_low, class_high}
use Rattle.format_read.proofs.classes.class_of.Goals as goal

pub returns-in-48 : goal.returns-in-48
returns-in-48 c = sym (class_zero c.in-48.is)

pub returns-in-10 : goal.returns-in-10
returns-in-10 c = sym (class_line_end c.in-10.is)

pub returns-in-44 : goal.returns-in-44
returns-in-44 c = sym (class_comma c.in-44.is)

pub returns-in-58 : goal.returns-in-58
returns-in-58 c = sym (class_colon c.in-58.is)

pub returns-in-107 : goal.returns-in-107
returns-in-107 c = sym (class_keep c.in-107.is)

pub returns-in-97 : goal.returns-in-97
returns-in-97 c = sym (class_also c.in-97.is)

pub returns-in-49-to-57 : goal.returns-in-49-to-57
returns-in-49-to-57 c = sym (class_digit _ (omega arith) (omega arith) (λ e. omega arith))

pub returns-in_default : goal.returns-in_default
returns-in_default c = sym (class_low _ (omega arith) (λ e. omega arith) (λ e. omega arith))

pub returns-in_default-2 : goal.returns-in_default-2
returns-in_default-2 c = sym (class_high _ (omega arith) (λ e. omega arith) (λ e. omega arith) (λ e. omega arith))
