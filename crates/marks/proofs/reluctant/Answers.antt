-- `marks::reluctant` meets its contract. Laws: MarkLaws.
use Rattle.marks.proofs.MarkLaws.{reluctant-to, reluctant-is}
use Rattle.marks.proofs.reluctant.Goals as goal

pub skip-to-requires : goal.skip-to-requires
skip-to-requires c = reluctant-to _ _ _ c.peek-lazy.ensures _ c.requires c.from.ensures

pub returns : goal.returns
returns c = reluctant-is _ _ _ c.peek-lazy.ensures _ _ _ _ _ c.from.ensures c.skip-to.ensures
