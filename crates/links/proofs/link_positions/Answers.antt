-- The links of firsts are those asked for, or they are copied to all positions.
use Rattle.std.proofs.Common.{rules, List, ℕ, Bool, false, replicate}
use Rattle.meaning.specs.Limits.{max_trees}
use Rattle.held.specs.declared.Table.{Table}
use Rattle.sharing.specs.Links.{NoneLinked}
use Rattle.sharing.proofs.Links.{none-square, none-linked}
use Rattle.links.specs.Copies.{FirstsRoom}
use Rattle.links.proofs.Linked.{merged-linked, copy-room, kept-linked}
use Rattle.links.proofs.link_positions.Goals as goal

-- a new square has the room of the one that is lent
new-room : {table : Table} {firsts : List ℕ} {links : List (List Bool)} → FirstsRoom table firsts links
    → FirstsRoom table firsts (replicate max_trees (replicate max_trees false)) × NoneLinked (replicate max_trees (replicate max_trees false))
new-room p = (record { kept = p.kept; noted = p.noted; lent = p.lent; square = none-square }, none-linked)

pub returns-in-Merged : goal.returns-in-Merged
returns-in-Merged c = merged-linked c.args.by c.link_firsts.new.links c.in-Merged.is c.link_firsts.ensures

pub link_firsts-requires-in-KeptApart : goal.link_firsts-requires-in-KeptApart
link_firsts-requires-in-KeptApart c = search (rules, new-room)

pub copy_links-requires : goal.copy_links-requires
copy_links-requires c = copy-room c.requires.0

pub returns-in-KeptApart : goal.returns-in-KeptApart
returns-in-KeptApart c =
    kept-linked c.args.by c.args.firsts.now _ _ c.in-KeptApart.is c.requires.0.noted c.link_firsts-in-KeptApart.ensures c.copy_links.ensures
