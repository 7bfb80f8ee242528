-- `tests::put_tests` meets its contract by the laws of Lettering.
use Rattle.tests.proofs.Lettering.{none-room, prepared}
use Rattle.tests.proofs.put_tests.Goals as goal

pub put_none-requires : goal.put_none-requires
put_none-requires c = none-room _ _ _ _ _ _ _ c.requires c.put_letters.ensures

pub returns : goal.returns
returns c = prepared _ _ _ _ _ _ _ c.requires c.put_letters.ensures _ c.put_none.ensures
