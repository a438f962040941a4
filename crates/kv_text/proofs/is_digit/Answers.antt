-- The library's digits.
use Rattle.definitions.specs.Numbers.{is_digit}
use Rattle.kv_text.proofs.is_digit.Goals as goal

pub returns : goal.returns
unfolding is_digit
returns c = c.is_ascii_digit.ensures.value
