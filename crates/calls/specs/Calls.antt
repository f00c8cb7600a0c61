-- What each call carries, and how it is named.
use Rattle.std.specs.Prelude.{ℕ, List, codes}
use Rattle.calls.specs.declared.call.Call.{Call}
use Rattle.calls.specs.declared.call.Call.TheVariants.{Read, Write, Unposted, Advance, Lock, LockedRead, LockedWrite, Unlock, Ask, MasterRead, MasterWrite, Give, Snoop, Flush}
use Rattle.calls.specs.declared.call.Cargo.{Cargo}
use Rattle.calls.specs.declared.call.Cargo.TheVariants.{Nothing, Word, Store}

abbrev pub cargo_of : Call → Cargo
cargo_of (Read w) = Word w
cargo_of (Write s) = Store s
cargo_of (Unposted s) = Store s
cargo_of Advance = Nothing
cargo_of Lock = Nothing
cargo_of (LockedRead w) = Word w
cargo_of (LockedWrite s) = Store s
cargo_of Unlock = Nothing
cargo_of Ask = Nothing
cargo_of (MasterRead w) = Word w
cargo_of (MasterWrite s) = Store s
cargo_of Give = Nothing
cargo_of (Snoop w) = Word w
cargo_of Flush = Nothing

abbrev pub name_of : Call → List ℕ
name_of (Read w) = codes "read"
name_of (Write s) = codes "write"
name_of (Unposted s) = codes "unposted"
name_of Advance = codes "advance"
name_of Lock = codes "lock"
name_of (LockedRead w) = codes "locked-read"
name_of (LockedWrite s) = codes "locked-write"
name_of Unlock = codes "unlock"
name_of Ask = codes "ask"
name_of (MasterRead w) = codes "master-read"
name_of (MasterWrite s) = codes "master-write"
name_of Give = codes "give"
name_of (Snoop w) = codes "snoop"
name_of Flush = codes "flush"

-- A call takes one list word, and a second one for its data where it stores.
abbrev pub size_with : Cargo → ℕ
size_with Nothing = 1
size_with (Word w) = 1
size_with (Store s) = 2

abbrev pub size_of : Call → ℕ
size_of call = size_with (cargo_of call)
