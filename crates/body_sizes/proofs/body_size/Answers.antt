-- `body_sizes::body_size` meets its contract at a group; the other sorts by laws of SizeLaws.
use Rattle.body_sizes.proofs.SizeLaws.{size_group}
use Rattle.body_sizes.proofs.body_size.Goals as goal

pub returns-in-Group : goal.returns-in-Group
returns-in-Group c = size_group _ _ _ c.node_at-n.ensures _ c.in-Group.is c.whole_size.ensures
