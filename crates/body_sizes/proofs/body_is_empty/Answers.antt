-- `body_sizes::body_is_empty` meets its contract at a group; the other sorts by laws of SizeLaws.
use Rattle.body_sizes.proofs.SizeLaws.{empty_group}
use Rattle.body_sizes.proofs.body_is_empty.Goals as goal

pub returns-in-Group : goal.returns-in-Group
returns-in-Group c = empty_group _ _ _ c.node_at-n.ensures _ c.in-Group.is c.can_be_empty.ensures
