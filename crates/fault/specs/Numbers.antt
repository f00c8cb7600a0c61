-- The number of each reason for which a call or a list is turned down.
use Rattle.std.specs.Prelude.{ℕ}
use Rattle.fault.specs.declared.Refusal.{Refusal}
use Rattle.fault.specs.declared.Refusal.TheVariants.{PastEnd, BadLanes, Unreadable, Locked, Granted, NotLocked, NotGranted, UnfitSize, ListLength, ListWord}

-- Two reasons share the number 6: in both the board is not in the mode that the call needs.
abbrev pub number_of : Refusal → ℕ
number_of PastEnd = 1
number_of BadLanes = 2
number_of Unreadable = 3
number_of Locked = 4
number_of Granted = 5
number_of NotLocked = 6
number_of NotGranted = 6
number_of UnfitSize = 7
number_of ListLength = 8
number_of ListWord = 9
