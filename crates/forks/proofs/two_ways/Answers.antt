-- `forks::two_ways` meets its contract. Laws: ForkLaws, TableLaws.
use Rattle.forks.proofs.ForkLaws.{two-first, two-second, two-needs, two-done}
use Rattle.forks.proofs.two_ways.Goals as goal

pub put_way-one-requires : goal.put_way-one-requires
put_way-one-requires c = two-first _ _ _ _ _ c.requires

pub put_way-both-requires : goal.put_way-both-requires
put_way-both-requires c = two-second _ _ _ _ _ c.requires _ _ c.put_way-one.ensures

pub put_fork-requires : goal.put_fork-requires
put_fork-requires c = two-needs _ _ _ _ _ c.requires _ _
    c.put_way-one.ensures _ _ c.put_way-both.ensures

pub returns : goal.returns
returns c = two-done _ _ _ _ _ c.requires _ _
    c.put_way-one.ensures _ _ c.put_way-both.ensures _ _ c.put_fork.ensures
