use Rattle.std.proofs.Common.{rules}
use Rattle.calls.specs.declared.call.Call.TheVariants.{Unposted, LockedWrite}
use Rattle.book.specs.Tables.{unlocked, locked}
use Rattle.book.proofs.Taking.{read_called, write_called, outside_called, through_called, lock_called, advance_called, snoop_called, flush_called}
use Rattle.board.proofs.board.Board.call.Goals as goal

pub returns-in_err-read-in-Read-Free : goal.returns-in_err-read-in-Read-Free
returns-in_err-read-in-Read-Free g c = search (rules, read_called)

pub returns-in_ok-read-in-Read-Free : goal.returns-in_ok-read-in-Read-Free
returns-in_ok-read-in-Read-Free g c = search (rules, read_called)

pub returns-in_err-write-in-Write-Free : goal.returns-in_err-write-in-Write-Free
returns-in_err-write-in-Write-Free g c = search (rules, write_called)

pub returns-in_ok-write-in-Write-Free : goal.returns-in_ok-write-in-Write-Free
returns-in_ok-write-in-Write-Free g c = search (rules, write_called)

pub returns-in_err-outside_write-in-MasterWrite-Granted : goal.returns-in_err-outside_write-in-MasterWrite-Granted
returns-in_err-outside_write-in-MasterWrite-Granted g c = search (rules, outside_called)

pub returns-in_ok-outside_write-in-MasterWrite-Granted : goal.returns-in_ok-outside_write-in-MasterWrite-Granted
returns-in_ok-outside_write-in-MasterWrite-Granted g c = search (rules, outside_called)

pub returns-in-Lock-Free : goal.returns-in-Lock-Free
returns-in-Lock-Free g c = search (rules, lock_called)

pub returns-in-Advance-default : goal.returns-in-Advance-default
returns-in-Advance-default g c = search (rules, advance_called)

pub returns-in_err-snoop-in-Snoop-default : goal.returns-in_err-snoop-in-Snoop-default
returns-in_err-snoop-in-Snoop-default g c = search (rules, snoop_called)

pub returns-in_ok-snoop-in-Snoop-default : goal.returns-in_ok-snoop-in-Snoop-default
returns-in_ok-snoop-in-Snoop-default g c = search (rules, snoop_called)

pub returns-in-Flush-default : goal.returns-in-Flush-default
returns-in-Flush-default g c = search (rules, flush_called)

pub returns-in_ok-write_through-in-Unposted-Free : goal.returns-in_ok-write_through-in-Unposted-Free
returns-in_ok-write_through-in-Unposted-Free g c =
    let b = c.args.self.now in
    search (rules, through_called g.P.Port b.mode b.port (Unposted c.in-Unposted-Free.write) unlocked)

pub returns-in_ok-write_through-in-LockedWrite-Locked : goal.returns-in_ok-write_through-in-LockedWrite-Locked
returns-in_ok-write_through-in-LockedWrite-Locked g c =
    let b = c.args.self.now in
    search (rules, through_called g.P.Port b.mode b.port (LockedWrite c.in-LockedWrite-Locked.write) locked)
