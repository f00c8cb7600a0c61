-- What a call list means: its calls, or why and where it is refused.
use Rattle.std.specs.Prelude.{ℕ, ◌+◌, ◌/◌, ◌%◌, ◌^◌, Bool, true, false, cond, List, [], ◌∷◌, length, Some, None, Ok, Err, Option, Result, ◌==◌, nat_le}
use Rattle.std.specs.Result.{result_and}
use Rattle.fault.specs.declared.Fault.{Fault}
use Rattle.fault.specs.declared.Refusal.TheVariants.{ListLength, ListWord}
use Rattle.calls.specs.declared.call.Call.{Call}
use Rattle.calls.specs.declared.call.Call.TheVariants.{Read, Write as Post, Unposted, Advance, Lock, LockedRead, LockedWrite, Unlock, Ask, MasterRead, MasterWrite, Give, Snoop, Flush}
use Rattle.port.specs.declared.Store.{Store}
use Rattle.calls.specs.Calls.{size_of}
use Rattle.calls.specs.Words.{most_bytes, words, words_from}

-- The number in the bits of w from low on, count of them.
abbrev pub bits : ℕ → ℕ → ℕ → ℕ
bits w low count = w / 2 ^ low % 2 ^ count

-- Bits 31 to 28 of a list word are its kind, bits 24 and 23 its lanes, bits 22 to 0 the word it names.
abbrev pub kind_of : ℕ → ℕ
kind_of w = bits w 28 4

abbrev pub lanes_of : ℕ → ℕ
lanes_of w = bits w 23 2

abbrev pub target_of : ℕ → ℕ
target_of w = bits w 0 23

-- Bits 15 to 0 of a data word are its value.
abbrev pub value_of : ℕ → ℕ
value_of w = bits w 0 16

abbrev pub malformed : ℕ → Fault
malformed i = record { refusal = ListWord; place = i; floor = 0 }

abbrev pub unfit_length : Fault
unfit_length = record { refusal = ListLength; place = 0; floor = 0 }

-- x where the test holds, else the list word at i is malformed
abbrev pub given : {X : Type 0} → Bool → ℕ → X → Result X Fault
given true i x = Ok x
given false i x = Err (malformed i)

abbrev pub map_ok : {X Y : Type 0} → (X → Y) → Result X Fault → Result Y Fault
map_ok f (Ok x) = Ok (f x)
map_ok f (Err e) = Err e

-- Bits 27 to 0 of a call without a word are 0.
abbrev pub bare_call : ℕ → ℕ → Call → Result Call Fault
bare_call i w call = given (bits w 0 28 == 0) i call

-- Bits 27 to 23 of a call with a word alone are 0.
abbrev pub target_in : ℕ → ℕ → Result ℕ Fault
target_in i w = given (bits w 23 5 == 0) i (target_of w)

-- The value of the word after the call at i. One that is not of kind 15 is no data word, and so the call's own word is malformed;
-- a data word whose bits 27 to 16 are not 0 is malformed itself.
abbrev pub value_in : ℕ → Option ℕ → Result ℕ Fault
value_in i None = Err (malformed i)
value_in i (Some v) = cond (kind_of v == 15) (given (bits v 16 12 == 0) (i + 1) (value_of v)) (Err (malformed i))

-- Bits 27 to 25 of a call that stores are 0, and its data word follows.
abbrev pub store_in : ℕ → ℕ → Option ℕ → Result Store Fault
store_in i w next =
    cond (bits w 25 3 == 0)
    (map_ok (λ v. record { word = target_of w; lanes = lanes_of w; value = v }) (value_in i next))
    (Err (malformed i))

-- The call of that kind in the list word w at index i, where next is the list word after it. Kind 15 is a data word, and no call.
abbrev pub call_of_kind : ℕ → ℕ → ℕ → Option ℕ → Result Call Fault
call_of_kind kind i w next =
    cond (kind == 0) (map_ok Read (target_in i w))
    (cond (kind == 1) (map_ok Post (store_in i w next))
    (cond (kind == 2) (map_ok Unposted (store_in i w next))
    (cond (kind == 3) (bare_call i w Advance)
    (cond (kind == 4) (bare_call i w Lock)
    (cond (kind == 5) (map_ok LockedRead (target_in i w))
    (cond (kind == 6) (map_ok LockedWrite (store_in i w next))
    (cond (kind == 7) (bare_call i w Unlock)
    (cond (kind == 8) (bare_call i w Ask)
    (cond (kind == 9) (map_ok MasterRead (target_in i w))
    (cond (kind == 10) (map_ok MasterWrite (store_in i w next))
    (cond (kind == 11) (bare_call i w Give)
    (cond (kind == 12) (map_ok Snoop (target_in i w))
    (cond (kind == 13) (bare_call i w Flush)
    (Err (malformed i)))))))))))))))

abbrev pub call_in : ℕ → ℕ → Option ℕ → Result Call Fault
call_in i w next = call_of_kind (kind_of w) i w next

abbrev pub first_of : List ℕ → Option ℕ
first_of [] = None
first_of (w ∷ ws) = Some w

-- What the words ws, the first of them with index i, begin with: a call, a malformed word, or nothing at the end.
abbrev pub front : ℕ → List ℕ → Result (Option Call) Fault
front i [] = Ok None
front i (w ∷ ws) = map_ok Some (call_in i w (first_of ws))

-- How far a reader goes on by that answer: past the call, and nowhere at the end or at a malformed word.
abbrev pub stride : Result (Option Call) Fault → ℕ
stride (Ok None) = 0
stride (Ok (Some call)) = size_of call
stride (Err e) = 0

-- All calls from a front on, where `one` are the calls from the next list word on, and `two` those from the word after it.
abbrev pub followed : Result (Option Call) Fault → Result (List Call) Fault → Result (List Call) Fault → Result (List Call) Fault
followed (Ok None) one two = Ok []
followed (Ok (Some call)) one two = map_ok (λ calls. call ∷ calls) (cond (size_of call == 2) two one)
followed (Err e) one two = Err e

-- All the calls of the words ws, the first of them with index i, or the first malformed word.
unfoldable pub calls_from : ℕ → List ℕ → Result (List Call) Fault
calls_from i [] = Ok []
calls_from i (w ∷ []) = followed (front i (w ∷ [])) (Ok []) (Ok [])
calls_from i (w ∷ v ∷ vs) = followed (front i (w ∷ v ∷ vs)) (calls_from (i + 1) (v ∷ vs)) (calls_from (i + 2) vs)

-- A list has whole words, and no more than the most bytes.
abbrev pub length_in : ℕ → Result (Unit {0}) Fault
length_in n =
    cond (n % 4 == 0) (cond (nat_le n most_bytes) (Ok tt) (Err unfit_length)) (Err unfit_length)

-- What stands at index i of a list: a call, nothing at the end, or a refusal.
abbrev pub next_in : ℕ → List ℕ → Result (Option Call) Fault
next_in i bytes = result_and (length_in (length bytes)) (front i (words_from i bytes))

-- What a list means: its calls, or its refusal.
abbrev pub meaning : List ℕ → Result (List Call) Fault
meaning bytes = result_and (length_in (length bytes)) (calls_from 0 (words bytes))
