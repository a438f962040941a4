-- One digit, or the number without its last digit and then that.
use native.Mathlib.Omega.{arith}
use Rattle.files.proofs.LaidDigits.{fits_front, fits_short, laid_long, laid_short}
use Rattle.files.proofs.+put_decimal.Goals as goal

pub put_byte-requires : goal.put_byte-requires
put_byte-requires t c = fits_short c.args.n c.args.at c.if-n-lt10.true c.requires

pub returns-then-n-lt10 : goal.returns-then-n-lt10
returns-then-n-lt10 t c = laid_short c.args.n c.if-n-lt10.true c.put_byte.ensures

pub put_decimal-next-requires : goal.put_decimal-next-requires
put_decimal-next-requires t c = (omega arith, omega (arith, fits_front c.args.n c.args.at c.if-n-lt10.false c.requires))

pub put_byte-requires-2 : goal.put_byte-requires-2
put_byte-requires-2 t c =
    omega (arith, c.put_decimal-next.ensures.next, fits_front c.args.n c.args.at c.if-n-lt10.false c.requires)

pub returns : goal.returns
returns t c = laid_long c.args.n c.if-n-lt10.false c.put_decimal-next.ensures c.put_byte-2.ensures
