-- Calls of a port, one after another.
use Rattle.std.proofs.Common.{◌≡◌, ℕ, ◌+◌, ◌<◌, ◌≤◌, List, [], ◌∷◌, ◌++◌, length, refl, ◌∙◌, ap₂, arith}
use Rattle.std.proofs.lemmas.List.Concat.{flat_map-append}
use Rattle.port.specs.declared.Store.{Store}
use Rattle.port.specs.Memory.{State}
use Rattle.port.specs.Steps.{Step, advances, Chain, done, then, sort, advances_as, advances_in, if_none_waits, idle_advances, Gets}

abbrev pub chain_append : {P : Type 0} {does : P → Step → P → Type 0} {p q r : P} {ds es : List Step} → Chain does p ds q → Chain does q es r → Chain does p (ds ++ es) r
chain_append done c = c
chain_append (then h c) d = then h (chain_append c d)

pub advances-append : (xs ys : List Step) → advances_in (xs ++ ys) ≡ advances_in xs + advances_in ys
advances-append [] ys = omega arith
advances-append (x ∷ xs) ys = let more = advances-append xs ys in omega (arith, more)

-- ---- advances where nothing waits

fewer_idle : (ws : List Store) (n : ℕ) → if_none_waits ws n ≤ n
fewer_idle [] n = omega arith
fewer_idle (w ∷ ws) n = omega arith

module _ {P : Type 0} {does : P → Step → P → Type 0} (state : P → State) where
  pub idle_append : {p q r : P} {ds es : List Step} (x : Chain does p ds q) (y : Chain does q es r) → idle_advances state (chain_append x y) ≡ idle_advances state x + idle_advances state y
  idle_append done y = omega arith
  idle_append (then h x) y = let more = idle_append x y in omega (arith, more)

  pub idle_few : {p q : P} {ds : List Step} (x : Chain does p ds q) → idle_advances state x ≤ advances_in ds
  idle_few done = omega arith
  idle_few (then {p = p} {d = d} h x) = let more = idle_few x in let first = fewer_idle (state p).waiting (advances_as (sort d).kind) in omega (arith, more, first)

  pub busy_alone : {p q : P} (x : Chain does p (advances ∷ []) q) → 0 < length (state p).waiting → idle_advances state x ≡ 0
  busy_alone {p} (then h done) waits = by_waiting (state p).waiting waits
    where
      by_waiting : (ws : List Store) → 0 < length ws → if_none_waits ws 1 + 0 ≡ 0
      by_waiting [] w = absurd (omega arith)
      by_waiting (a ∷ ws) w = refl

-- ---- those that count

module _ {P : Type 0} {does : P → Step → P → Type 0} {counts : Step → List Step} where
  pub gets_none : {p q : P} → q ≡ p → Gets does counts [] p q
  gets_none e = rw e (record { calls = []; chain = done; counted = refl })

  abbrev pub gets_one : {p q : P} (d : Step) → does p d q → Gets does counts (counts d ++ []) p q
  gets_one d h = record { calls = d ∷ []; chain = then h done; counted = refl }

  abbrev pub gets_then : {ds es : List Step} {p q r : P} → Gets does counts ds p q → Gets does counts es q r → Gets does counts (ds ++ es) p r
  gets_then x y = record {
    calls = x.calls ++ y.calls;
    chain = chain_append x.chain y.chain;
    counted = flat_map-append counts x.calls y.calls ∙ ap₂ (λ (xs ys : List Step). xs ++ ys) x.counted y.counted;
  }
