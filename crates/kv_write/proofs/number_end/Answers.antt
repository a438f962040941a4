-- By how many powers of ten the number reaches.
use borrow.Author.Rules.{rules}
use native.Mathlib.Omega.{arith}
use Rattle.kv_write.proofs.StoredDigits.{length_few, length_many}
use Rattle.kv_write.proofs.number_end.Goals as goal

pub overflow_add-result : goal.overflow_add-result
overflow_add-result c = omega (arith, length_few c.args.n (omega arith) c.at_least-two.ensures.1 c.at_least-three.ensures.1 c.at_least-four.ensures.1)

pub overflow_add-result-then-n-lt10000 : goal.overflow_add-result-then-n-lt10000
overflow_add-result-then-n-lt10000 c = omega (arith, length_few c.args.n (omega arith) c.at_least-two.ensures.1 c.at_least-three.ensures.1 c.at_least-four.ensures.1)

pub overflow_add-result-then-n-lt10000-2 : goal.overflow_add-result-then-n-lt10000-2
overflow_add-result-then-n-lt10000-2 c = omega (arith, length_few c.args.n (omega arith) c.at_least-two.ensures.1 c.at_least-three.ensures.1 c.at_least-four.ensures.1)

pub overflow_add-result-then-n-lt10000-3 : goal.overflow_add-result-then-n-lt10000-3
overflow_add-result-then-n-lt10000-3 c = omega (arith, length_few c.args.n (omega arith) c.at_least-two.ensures.1 c.at_least-three.ensures.1 c.at_least-four.ensures.1)

pub returns-then-n-lt10000 : goal.returns-then-n-lt10000
returns-then-n-lt10000 c = omega (arith, length_few c.args.n (omega arith) c.at_least-two.ensures.1 c.at_least-three.ensures.1 c.at_least-four.ensures.1)

pub overflow_add-result-7 : goal.overflow_add-result-7
overflow_add-result-7 c = omega (arith, length_many c.args.n (omega arith) (omega arith) c.at_least-six.ensures.1 c.at_least-seven.ensures.1 c.at_least-eight.ensures.1 c.at_least-nine.ensures.1 c.at_least-ten.ensures.1)

pub returns : goal.returns
returns c = omega (arith, length_many c.args.n (omega arith) (omega arith) c.at_least-six.ensures.1 c.at_least-seven.ensures.1 c.at_least-eight.ensures.1 c.at_least-nine.ensures.1 c.at_least-ten.ensures.1)
