-- Lines as they are printed, computed.
use Rattle.std.specs.Prelude.{Some}
use mathlib.Core.Path.{◌≡◌, refl}
use native.Mathlib.Omega.{arith}
use Rattle.layout.specs.Letters.{ascii}
use Rattle.lines.specs.Decimals.{spelt, decimal}
use Rattle.lines.specs.Lines.{running_text, sets_text, line}
use Rattle.lines.specs.Printed.{answer_with, LinesPrinted}
use Rattle.lines.proofs.DecimalLaws.{decimal_splits}

-- Numbers of ten digits, and the short ones beside them.
half : decimal 2147483648 ≡ ascii "2147483648"
unfolding ascii spelt
half = decimal_splits 9 2147483648 (omega arith)

all : decimal 4294967295 ≡ ascii "4294967295"
unfolding ascii spelt
all = decimal_splits 9 4294967295 (omega arith)

none : decimal 0 ≡ ascii "0"
unfolding ascii decimal spelt
none = refl

last : decimal 31 ≡ ascii "31"
unfolding ascii decimal spelt
last = refl

long_line : line (answer_with 0 (Some 31) 0 2147483648 0 0 4294967295) ≡ ascii "0 31 0 2147483648 0 0 4294967295\n"
unfolding ascii line sets_text running_text
long_line = rw (half, all, none, last)

pub lines_printed : LinesPrinted
unfolding ascii line sets_text running_text decimal spelt
lines_printed = record { sets_in_order = refl; nothing_runs = refl; ten_digits = long_line }
