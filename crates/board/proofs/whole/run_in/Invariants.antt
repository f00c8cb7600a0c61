use Rattle.std.proofs.Common.{◌≡◌, length, take, drop}
use Rattle.book.proofs.Running.{Made}
use Rattle.board.proofs.whole.run_in.Given as goal

abbrev pub invariant-loop-i : goal.invariant-loop-i
invariant-loop-i g l = record {
  made : Made g.P.Port l.initial.board.mode l.initial.board.port (take l.i l.calls) (take l.i l.room) l.board.mode l.board.port;
  size : length l.room ≡ length l.initial.room;
  beyond : drop (length l.calls) l.room ≡ drop (length l.calls) l.initial.room;
}
