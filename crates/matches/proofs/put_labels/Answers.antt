-- `matches::put_labels` meets its contract by the laws of Labelled.
use Rattle.matches.proofs.Labelled.{labelling_none, labelling_all, labelling_puts, labelling_more}
use Rattle.matches.proofs.put_labels.Goals as goal

pub loop-k-init : goal.loop-k-init
loop-k-init c = labelling_none _ _ _ _ _ c.requires

pub put_label-e-requires : goal.put_label-e-requires
put_label-e-requires c = labelling_puts _ _ _ _ _ _ _ _ c.loop-k.invariant c.loop-k-test.true _ c.open_at.ensures _ c.place_of.ensures

pub loop-k-preserved : goal.loop-k-preserved
loop-k-preserved c = labelling_more _ _ _ _ _ _ _ _ c.loop-k.invariant c.loop-k-test.true _ c.open_at.ensures _ c.place_of.ensures _ _ c.put_label-e.ensures

pub returns : goal.returns
returns c = labelling_all _ _ _ _ _ _ _ _ c.loop-k.invariant c.loop-k-test.false
