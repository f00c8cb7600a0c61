-- The encoding tried on numbers.
use Rattle.std.proofs.Common.{refl}
use Rattle.calls.specs.Encoding.{bytes_of, WorkedList}

pub worked_list : WorkedList
unfolding bytes_of
worked_list = record {
  read = refl;
  write = refl;
  unposted = refl;
  advance = refl;
  lock = refl;
  locked_read = refl;
  locked_write = refl;
  unlock = refl;
  ask = refl;
  master_read = refl;
  master_write = refl;
  give = refl;
  snoop = refl;
  flush = refl;
  longest = refl;
  low_byte_first = refl;
}
