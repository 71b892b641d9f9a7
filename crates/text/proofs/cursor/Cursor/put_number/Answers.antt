use Rattle.std.proofs.Common.{arith, refl}
use Rattle.text.specs.Decimal.{decimal_small, all_digits}
use Rattle.text.proofs.cursor.Cursor.put_number.Goals as goal

pub put_digits-self-requires : goal.put_digits-self-requires
put_digits-self-requires c = omega (arith, c.places-k.ensures.few)

pub returns-then-n-lt10 : goal.returns-then-n-lt10
returns-then-n-lt10 c = (rw (decimal_small _ c.if-n-lt10.true) c.put_byte.ensures, omega (arith, c.put_byte.ensures.put.size))

pub returns : goal.returns
returns c = (
  record { same_buffer = refl; same_length = c.put_digits-self.auto.out; put = rw (← all_digits _ _ c.places-k.ensures) c.put_digits-self.ensures.0 },
  omega (arith, c.put_digits-self.ensures.1, c.places-k.ensures.few),
)
