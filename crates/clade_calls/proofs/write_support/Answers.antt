-- The clades are listed, and the majority tree is written.
use Rattle.clade_calls.proofs.Supporting.{list-room, text-room, support-written}
use Rattle.clade_calls.proofs.write_support.Goals as goal

pub list_support-n-requires : goal.list_support-n-requires
list_support-n-requires c = list-room c.requires

pub write_majority-bytes-requires : goal.write_majority-bytes-requires
write_majority-bytes-requires c = text-room c.requires c.list_support-n.ensures

pub returns : goal.returns
returns c ts H = support-written c.requires c.list_support-n.ensures c.write_majority-bytes.ensures ts H H.count
