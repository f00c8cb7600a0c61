-- By which calls on its two sides a map does each of its own.
use Rattle.std.specs.Prelude.{◌≡◌, ℕ, ◌-◌, Ok, Err, MatchBool, Result, nat_lt}
use Rattle.fault.specs.declared.Fault.{Fault}
use Rattle.port.specs.declared.Port.{Ghosts}
use Rattle.port.specs.declared.Store.{Store}
use Rattle.port.specs.Steps.{Step, reads, writes, advances, outsides, snoops, flushes, Through}
use Rattle.joined_map.specs.declared.JoinedMap.{JoinedMap}
use Rattle.joined_map.specs.Joint.{joint_state, shifted, lowered}

-- A read of the high side, whose fault is shifted.
pub record ReadHigh {P : Type 0} (does : P → Step → P → Type 0) (by : ℕ) (p : P) (w : ℕ) (r : Result ℕ Fault) (q : P) : Type 0 where
  pub answer : Result ℕ Fault
  pub told : r ≡ shifted by answer
  pub reads : does p (reads (w - by) answer) q

module _ {L H : Type 0} {l : Ghosts L} {h : Ghosts H} where
  abbrev pub split : JoinedMap L H l h → ℕ
  split b = (l.state b.low).facts.words

  abbrev pub end : JoinedMap L H l h → ℕ
  end b = (joint_state (l.state b.low) (h.state b.high)).facts.words

  -- A call with a word goes to the side that has the word, and leaves the other as it is.
  abbrev pub ToSide : JoinedMap L H l h → ℕ → (L → Type 0) → (H → Type 0) → JoinedMap L H l h → Type 0
  ToSide b w low high c = MatchBool (nat_lt w (split b)) (low c.low × (c.high ≡ b.high)) ((c.low ≡ b.low) × high c.high)

  abbrev pub MapReads : JoinedMap L H l h → ℕ → Result ℕ Fault → JoinedMap L H l h → Type 0
  MapReads b w r c =
      MatchBool (nat_lt w (end b))
      (ToSide b w (l.does b.low (reads w r)) (ReadHigh h.does (split b) b.high w r) c)
      (c ≡ b)

  -- A write goes through on its side: when it returns, nothing waits there.
  abbrev pub MapWrites : JoinedMap L H l h → Store → Result (Unit {0}) Fault → JoinedMap L H l h → Type 0
  MapWrites b w (Ok _) c =
      ToSide b w.word (Through l.state l.does w (Ok tt) b.low) (Through h.state h.does (lowered (split b) w) (Ok tt) b.high) c
  MapWrites b w (Err _) c = c ≡ b

  abbrev pub MapOutside : JoinedMap L H l h → Store → Result (Unit {0}) Fault → JoinedMap L H l h → Type 0
  MapOutside b w (Ok _) c = ToSide b w.word (l.does b.low (outsides w (Ok tt))) (h.does b.high (outsides (lowered (split b) w) (Ok tt))) c
  MapOutside b w (Err _) c = c ≡ b

  abbrev pub MapSnoops : JoinedMap L H l h → ℕ → Result (Unit {0}) Fault → JoinedMap L H l h → Type 0
  MapSnoops b w (Ok _) c = ToSide b w (l.does b.low (snoops w (Ok tt))) (h.does b.high (snoops (w - split b) (Ok tt))) c
  MapSnoops b w (Err _) c = c ≡ b

  -- Advance and flush go to both sides.
  abbrev pub MapDoes : JoinedMap L H l h → Step → JoinedMap L H l h → Type 0
  MapDoes b (reads w r) c = MapReads b w r c
  MapDoes b (writes w r) c = MapWrites b w r c
  MapDoes b advances c = l.does b.low advances c.low × h.does b.high advances c.high
  MapDoes b (outsides w r) c = MapOutside b w r c
  MapDoes b (snoops w r) c = MapSnoops b w r c
  MapDoes b flushes c = l.does b.low flushes c.low × h.does b.high flushes c.high
