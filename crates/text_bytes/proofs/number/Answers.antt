-- `text_bytes::number` meets its contract. Laws: ByteLaws.
use Rattle.text_bytes.proofs.ByteLaws.{digits_from, number-none, number-one, number-zero, number-two}
use borrow.Author.Tests.{not-true, not-false}
use borrow.Author.Rules.{rules}
use Rattle.text_bytes.proofs.number.Goals as goal

pub returns-then-not-is_digit : goal.returns-then-not-is_digit
returns-then-not-is_digit c = search (rules, number-none)

pub overflow_sub-result : goal.overflow_sub-result
overflow_sub-result c = search (rules, digits_from, not-true, not-false)

pub returns-then-not-is_digit-2 : goal.returns-then-not-is_digit-2
returns-then-not-is_digit-2 c = search (rules, number-one)

pub returns-then-b-eq48 : goal.returns-then-b-eq48
returns-then-b-eq48 c = search (rules, number-zero)

pub overflow_sub-result-2 : goal.overflow_sub-result-2
overflow_sub-result-2 c = search (rules, digits_from, not-true, not-false)

pub overflow_sub-result-3 : goal.overflow_sub-result-3
overflow_sub-result-3 c = search (rules, digits_from, not-true, not-false)

pub returns : goal.returns
returns c = search (rules, number-two)
