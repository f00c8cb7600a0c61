-- Each side of a map gets its own.
use Rattle.std.proofs.Common.{◌≡◌, ℕ, ◌+◌, ◌-◌, ◌<◌, Bool, true, false, cond, not, List, [], ◌∷◌, ◌++◌, length, Ok, Err, Result, refl, ◌∙◌, ap₂, arith}
use Rattle.std.specs.Prelude.{MatchBool, nat_lt}
use Rattle.std.proofs.lemmas.List.Concat.{flat_map-append}
use Rattle.fault.specs.declared.Fault.{Fault}
use Rattle.port.specs.declared.Port.{Ghosts}
use Rattle.port.specs.declared.Store.{Store}
use Rattle.port.specs.Memory.{State}
use Rattle.port.specs.Steps.{Step, reads, writes, advances, outsides, snoops, flushes, Chain, done, then, Drains, empty, more, Through, sort, asked, word_read, advances_as}
use Rattle.port.proofs.Chains.{advances-append, idle_append, idle_few, busy_alone, gets_one, gets_then}
use Rattle.joined_map.specs.declared.JoinedMap.{JoinedMap}
use Rattle.joined_map.specs.Joint.{lowered}
use Rattle.joined_map.specs.Steps.{ReadHigh, split, end, MapDoes}
use Rattle.joined_map.specs.Runs.{low_by, high_by, low_words, high_words, SideGets, EachSideGetsItsOwn}

-- ---- one side

module _ {P : Type 0} {state : P → State} {does : P → Step → P → Type 0} where
  nothing : {p q : P} → q ≡ p → SideGets state does [] [] 0 p q
  nothing e = rw e (record { gets = record { calls = []; chain = done; counted = refl }; read = refl; advanced = omega arith; idle = omega arith })

  one : {p q : P} (d : Step) → does p d q → SideGets state does (asked d ++ []) (word_read d ++ []) (advances_as (sort d).kind) p q
  one {p} {q} d h =
      let alone : Chain does p (d ∷ []) q = then h done in
      let few = idle_few state alone in record { gets = gets_one d h; read = refl; advanced = omega arith; idle = omega (arith, few) }

  -- an advance while something waits
  more_advanced : {p q : P} → 0 < length (state p).waiting → does p advances q → SideGets state does [] [] 0 p q
  more_advanced {p} {q} waits h =
      let alone : Chain does p (advances ∷ []) q = then h done in
      let busy = busy_alone state alone waits in record { gets = gets_one advances h; read = refl; advanced = omega arith; idle = omega (arith, busy) }

  both : {ds es : List Step} {ws vs : List ℕ} {n k : ℕ} {p q r : P} → SideGets state does ds ws n p q → SideGets state does es vs k q r → SideGets state does (ds ++ es) (ws ++ vs) (n + k) p r
  both x y = record {
    gets = gets_then x.gets y.gets;
    read = flat_map-append word_read x.gets.calls y.gets.calls ∙ ap₂ (λ (xs ys : List ℕ). xs ++ ys) x.read y.read;
    advanced = let sum = advances-append x.gets.calls y.gets.calls in let a = x.advanced in let b = y.advanced in omega (arith, sum, a, b);
    idle = let sum = idle_append state x.gets.chain y.gets.chain in let a = x.idle in let b = y.idle in omega (arith, sum, a, b);
  }

  drains_get : {p q : P} → Drains state does p q → SideGets state does [] [] 0 p q
  drains_get (empty none) = nothing refl
  drains_get (more waits h rest) = both (more_advanced waits h) (drains_get rest)

  through_gets : {p q : P} (w : Store) → Through state does w (Ok tt) p q → SideGets state does (writes w (Ok tt) ∷ []) [] 0 p q
  through_gets w x = both (one (writes w (Ok tt)) x.wrote) (drains_get x.drains)

-- ---- both sides

module _ {L H : Type 0} {l : Ghosts L} {h : Ghosts H} (b c : JoinedMap L H l h) where
  abbrev Both : List Step → List Step → List ℕ → List ℕ → ℕ → Type 0
  Both ds es ws vs n = SideGets l.state l.does ds ws n b.low c.low × SideGets h.state h.does es vs n b.high c.high

  untouched : c ≡ b → Both [] [] [] [] 0
  untouched e = (nothing (cc), nothing (cc))

  -- a call for the low side where a test says so, and for the high side where not
  by_test : (t : Bool) (d e : Step) (A B : Type 0) → (A → Both (d ∷ []) [] [] [] 0) → (B → Both [] (e ∷ []) [] [] 0) → MatchBool t A B →
      Both (cond t (d ∷ []) []) (cond (not t) (e ∷ []) []) [] [] 0
  by_test true d e A B f g x = f x
  by_test false d e A B f g x = g x

  read_gets : (w : ℕ) (r : Result ℕ Fault) (t u : Bool) →
      MatchBool t (MatchBool u (l.does b.low (reads w r) c.low × (c.high ≡ b.high)) ((c.low ≡ b.low) × ReadHigh h.does (split b) b.high w r c.high)) (c ≡ b) →
      Both [] [] (cond t (cond u (w ∷ []) []) [] ++ []) (cond t (cond u [] ((w - split b) ∷ [])) [] ++ []) 0
  read_gets w r true true x = (one (reads w r) x.0, nothing x.1)
  read_gets w r true false x = (nothing x.0, one (reads (w - split b) x.1.answer) x.1.reads)
  read_gets w r false u x = untouched x

  call_gets : (d : Step) → MapDoes b d c → Both (low_by b d) (high_by b d) (low_words b d) (high_words b d) (advances_as (sort d).kind)
  call_gets (reads w r) x = read_gets w r (nat_lt w (end b)) (nat_lt w (split b)) x
  call_gets (writes w (Ok _)) x =
      by_test (nat_lt w.word (split b)) (writes w (Ok tt)) (writes (lowered (split b) w) (Ok tt)) _ _
      (λ y. (through_gets w y.0, nothing y.1))
      (λ y. (nothing y.0, through_gets (lowered (split b) w) y.1)) x
  call_gets (writes w (Err _)) x = untouched x
  call_gets advances x = (one advances x.0, one advances x.1)
  call_gets (outsides w (Ok _)) x =
      by_test (nat_lt w.word (split b)) (outsides w (Ok tt)) (outsides (lowered (split b) w) (Ok tt)) _ _
      (λ y. (one (outsides w (Ok tt)) y.0, nothing y.1))
      (λ y. (nothing y.0, one (outsides (lowered (split b) w) (Ok tt)) y.1)) x
  call_gets (outsides w (Err _)) x = untouched x
  call_gets (snoops w (Ok _)) x =
      by_test (nat_lt w (split b)) (snoops w (Ok tt)) (snoops (w - split b) (Ok tt)) _ _
      (λ y. (one (snoops w (Ok tt)) y.0, nothing y.1))
      (λ y. (nothing y.0, one (snoops (w - split b) (Ok tt)) y.1)) x
  call_gets (snoops w (Err _)) x = untouched x
  call_gets flushes x = (one flushes x.0, one flushes x.1)

pub each_side_gets_its_own : {L H : Type 0} {l : Ghosts L} {h : Ghosts H} → EachSideGetsItsOwn l h
each_side_gets_its_own b c [] done = untouched b b refl
each_side_gets_its_own b c (d ∷ ds) (then {q = m} call rest) =
    let first = call_gets b m d call in
    let others = each_side_gets_its_own m c ds rest in
    (both first.0 others.0, both first.1 others.1)
