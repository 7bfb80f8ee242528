-- `comparison_words::spot_at` meets its contract by the laws of Moving.
use native.Mathlib.Omega.{arith}
use Rattle.comparison_words.proofs.Moving.{moved_asks, product_fits, spot_fits, spot_is}
use Rattle.comparison_words.proofs.spot_at.Goals as goal

pub moved-requires : goal.moved-requires
moved-requires c = moved_asks _ _ c.signed_byte.ensures.0 c.signed_byte.ensures.1 c.requires.2

pub overflow_mul-result : goal.overflow_mul-result
overflow_mul-result c =
    product_fits _ _ c.signed_byte.ensures.0 c.signed_byte.ensures.1 _ c.moved.ensures _ c.requires.0

pub overflow_add-result : goal.overflow_add-result
overflow_add-result c =
    spot_fits _ _ c.signed_byte.ensures.0 c.signed_byte.ensures.1 _ c.moved.ensures _
    c.requires.0 _ (omega arith)

pub returns : goal.returns
returns c =
    spot_is _ _ c.signed_byte.ensures.0 c.signed_byte.ensures.1 _ c.moved.ensures _
    c.requires.0 _ _ c.from.ensures (omega arith)
