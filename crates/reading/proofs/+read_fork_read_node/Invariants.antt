-- The brackets that may still open and the text left fall: twice both, and one more in a fork.
use Rattle.std.proofs.Common.{◌+◌, ◌-◌, ◌*◌, length}
use Rattle.reading.proofs.+read_fork_read_node.Given as goal

abbrev pub decreases-read_node : goal.decreases-read_node
decreases-read_node l = 2 * (l.room + (length l.s.now - l.from))

abbrev pub decreases-read_fork : goal.decreases-read_fork
decreases-read_fork l = 2 * (l.room + (length l.s.now - l.from)) + 1
