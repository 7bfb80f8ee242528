-- `marks::shut` meets its contract. Laws: MarkLaws.
use Rattle.marks.proofs.MarkLaws.{shut_open, shut_none, shut-fine}
use Rattle.text_bytes.proofs.ByteLaws.{next-in}
use borrow.Author.Rules.{rules}
use Rattle.marks.proofs.shut.Goals as goal
use Rattle.marks.proofs.shut.Goals.{then-peek-ne125-via-then-peek-ne125, then-peek-ne125-via-else-peek-ne125+then-high-lt1}

pub returns-then-peek-ne125 : goal.returns-then-peek-ne125
returns-then-peek-ne125 c =
    elim c.then-peek-ne125.branch [
      | then-peek-ne125-via-then-peek-ne125 w ↦ shut_open _ _ _ c.peek.ensures _ _ _ c.requires.0 w.if-peek-ne125.true
      | then-peek-ne125-via-else-peek-ne125+then-high-lt1 w ↦ shut_none _ _ _ c.peek.ensures _ _ _ c.requires.0 w.if-peek-ne125.false w.if-high-lt1.true
    ]

pub reluctant-requires : goal.reluctant-requires
reluctant-requires c = search (rules, next-in)

pub returns : goal.returns
returns c = search (rules, shut-fine)
