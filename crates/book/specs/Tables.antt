-- Which calls a board takes, and what each of them does if it is taken.
use Rattle.std.specs.Prelude.{ℕ, cond, List, [], ◌∷◌, Some, None, Option, nat_lt}
use Rattle.fault.specs.declared.Fault.{Fault}
use Rattle.fault.specs.declared.Refusal.{Refusal}
use Rattle.fault.specs.declared.Refusal.TheVariants.{PastEnd, BadLanes, Locked as IsLocked, Granted as IsGranted, NotLocked, NotGranted}
use Rattle.calls.specs.declared.call.Call.{Call}
use Rattle.calls.specs.declared.call.Call.TheVariants.{Read, Write as Post, Unposted, Advance, Lock, LockedRead, LockedWrite, Unlock, Ask, MasterRead, MasterWrite, Give, Snoop, Flush}
use Rattle.calls.specs.declared.call.Cargo.{Cargo}
use Rattle.calls.specs.declared.call.Cargo.TheVariants.{Nothing, Word as OfWord, Store as OfStore}
use Rattle.calls.specs.Calls.{cargo_of}
use Rattle.port.specs.declared.Store.{Store}
use Rattle.port.specs.Memory.{floor_above}
use Rattle.port.specs.Meaning.{laned}
use Rattle.book.specs.declared.answer.Mode.{Mode}
use Rattle.book.specs.declared.answer.Mode.TheVariants.{Free, Locked, Granted}

-- What each mode turns down, by what a call asks of it.
abbrev pub unless_locked : Mode → Option Refusal
unless_locked Free = None
unless_locked Locked = Some IsLocked
unless_locked Granted = None

abbrev pub if_free : Mode → Option Refusal
if_free Free = None
if_free Locked = Some IsLocked
if_free Granted = Some IsGranted

abbrev pub if_locked : Mode → Option Refusal
if_locked Free = Some NotLocked
if_locked Locked = None
if_locked Granted = Some NotLocked

abbrev pub if_granted : Mode → Option Refusal
if_granted Free = Some NotGranted
if_granted Locked = Some NotGranted
if_granted Granted = None

-- How many of the waiting writes settle at a call.
pub data Rule : Type 0 where
  none some one_or_more all : Rule

-- What the port is asked for. A write that is sent through has settled, with all before it, when the call returns.
pub data Asks : Type 0 where
  nothing drain advance flush : Asks
  read peek snoop : ℕ → Asks
  write through outside : Store → Asks

-- The modes that take a call.
pub data Takers : Type 0 where
  every unlocked free locked granted : Takers

-- A call, in one line: which modes take it, what it asks of the port, and the mode that it leads to, where it leads to another.
pub record Deed : Type 0 where
  pub takers : Takers
  pub asks : Asks
  pub leads : Option Mode

abbrev pub deed_by : Takers → Asks → Option Mode → Deed
deed_by takers asks leads = record { takers = takers; asks = asks; leads = leads }

abbrev pub deed : Call → Deed
deed (Read w) = deed_by unlocked (read w) None
deed (Post s) = deed_by unlocked (write s) None
deed (Unposted s) = deed_by unlocked (through s) None
deed Advance = deed_by every advance None
deed Lock = deed_by free drain (Some Locked)
deed (LockedRead w) = deed_by locked (peek w) None
deed (LockedWrite s) = deed_by locked (through s) None
deed Unlock = deed_by locked nothing (Some Free)
deed Ask = deed_by free nothing (Some Granted)
deed (MasterRead w) = deed_by granted (peek w) None
deed (MasterWrite s) = deed_by granted (outside s) None
deed Give = deed_by granted nothing (Some Free)
deed (Snoop w) = deed_by every (snoop w) None
deed Flush = deed_by every flush None

-- The refusal of the board itself, for its mode.
abbrev pub stopped : Takers → Mode → Option Refusal
stopped every m = None
stopped unlocked m = unless_locked m
stopped free m = if_free m
stopped locked m = if_locked m
stopped granted m = if_granted m

abbrev pub stop : Mode → Call → Option Refusal
stop m c = stopped (deed c).takers m

-- The refusals of a port of so many words, but for an unreadable word.
abbrev pub in_range : ℕ → ℕ → Option Refusal
in_range words w = cond (nat_lt w words) None (Some PastEnd)

abbrev pub or_else : Option Refusal → Option Refusal → Option Refusal
or_else None r = r
or_else (Some x) r = Some x

abbrev pub fits : ℕ → Cargo → Option Refusal
fits words Nothing = None
fits words (OfWord w) = in_range words w
fits words (OfStore s) = or_else (in_range words s.word) (cond (laned s.lanes) None (Some BadLanes))

-- The first reason to turn a call down, the mode before the port. Whether a word can be read is not looked at here.
abbrev pub refusal : Mode → ℕ → Call → Option Refusal
refusal m words c = or_else (stop m c) (fits words (cargo_of c))

-- A refusal is told at the word of the call, or at 0 if it has none.
abbrev pub place_in : Cargo → ℕ
place_in Nothing = 0
place_in (OfWord w) = w
place_in (OfStore s) = s.word

-- The board tells what its mode refuses, its port what is past the end or of no known lanes, a bank what cannot be read.
abbrev pub floor_for : ℕ → Refusal → ℕ
floor_for floor PastEnd = floor
floor_for floor BadLanes = floor
floor_for floor IsLocked = floor_above floor
floor_for floor IsGranted = floor_above floor
floor_for floor NotLocked = floor_above floor
floor_for floor NotGranted = floor_above floor
floor_for floor other = 0

abbrev pub fault_of : ℕ → Call → Refusal → Fault
fault_of floor c r = record { refusal = r; place = place_in (cargo_of c); floor = floor_for floor r }

-- One thing of a call that is taken, another of one that is refused.
abbrev pub if_taken : {X : Type 0} → Option Refusal → X → X → X
if_taken None taken refused = taken
if_taken (Some r) taken refused = refused

-- The processor's write that a call brings.
abbrev pub joining : Asks → List Store
joining nothing = []
joining drain = []
joining advance = []
joining flush = []
joining (read w) = []
joining (peek w) = []
joining (snoop w) = []
joining (write s) = s ∷ []
joining (through s) = s ∷ []
joining (outside s) = []

abbrev pub posts : Call → List Store
posts c = joining (deed c).asks

-- The master's write that a call brings.
abbrev pub passing : Asks → List Store
passing nothing = []
passing drain = []
passing advance = []
passing flush = []
passing (read w) = []
passing (peek w) = []
passing (snoop w) = []
passing (write s) = []
passing (through s) = []
passing (outside s) = s ∷ []

abbrev pub masters_writes : Call → List Store
masters_writes c = passing (deed c).asks

-- The mode that a call leads to.
abbrev pub led : Option Mode → Mode → Mode
led None m = m
led (Some n) m = n

abbrev pub goes_to : Mode → Call → Mode
goes_to m c = led (deed c).leads m

abbrev pub settling_at : Asks → Rule
settling_at nothing = none
settling_at drain = all
settling_at advance = one_or_more
settling_at flush = none
settling_at (read w) = some
settling_at (peek w) = none
settling_at (snoop w) = none
settling_at (write s) = some
settling_at (through s) = all
settling_at (outside s) = none

abbrev pub settles_by : Call → Rule
settles_by c = settling_at (deed c).asks
