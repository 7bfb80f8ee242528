-- `text_bytes::reaching` meets its contract. Laws: ByteLaws.
use Rattle.text_bytes.proofs.ByteLaws.{reach-below, reach-above, reach-short, reach-never, reach-less, reach-found}
use borrow.Author.Rules.{rules}
use Rattle.text_bytes.proofs.reaching.Goals as goal
use Rattle.text_bytes.proofs.reaching.Goals.{then-b-lt49-via-then-b-lt49, then-b-lt49-via-else-b-lt49+then-b-gt57}

pub returns-then-b-lt49 : goal.returns-then-b-lt49
returns-then-b-lt49 c =
    elim c.then-b-lt49.branch [
      | then-b-lt49-via-then-b-lt49 w ↦ reach-below _ _ _ _ c.peek-b.ensures c.requires w.if-b-lt49.true
      | then-b-lt49-via-else-b-lt49+then-b-gt57 w ↦ reach-above _ _ _ _ c.peek-b.ensures c.requires w.if-b-gt57.true
    ]

pub returns-then-wide8-low : goal.returns-then-wide8-low
returns-then-wide8-low c = search (rules, reach-short)

pub returns-in_err-m : goal.returns-in_err-m
returns-in_err-m c = absurd (reach-never _ _ _ _ c.peek-b.ensures c.if-b-lt49.false c.if-b-gt57.false _ (search rules) c.if-wide8-low.false _ c.in_err-m.ensures)

pub returns-then-m-low : goal.returns-then-m-low
returns-then-m-low c = search (rules, reach-less)

pub returns : goal.returns
returns c = search (rules, reach-found)
