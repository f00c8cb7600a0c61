-- Which advances of a side are idle.
use Rattle.std.proofs.Common.{◌≡◌, ℕ, ◌<◌, List, [], ◌∷◌, length, sym, refl, subst, arith}
use Rattle.port.specs.declared.Port.{Ghosts}
use Rattle.port.specs.declared.Store.{Store}
use Rattle.port.specs.Steps.{if_none_waits}
use Rattle.joined_map.specs.Runs.{IdleAdvancesCount}

no_wait : (ws : List Store) (n : ℕ) → ws ≡ [] → if_none_waits ws n ≡ n
no_wait ws n e = subst (λ (x : List Store). if_none_waits x n ≡ n) (sym e) refl

a_wait : (ws : List Store) (n : ℕ) → 0 < length ws → if_none_waits ws n ≡ 0
a_wait [] n h = elim h [ ]
a_wait (w ∷ ws) n h = refl

pub idle_advances_count : {P : Type 0} (G : Ghosts P) → IdleAdvancesCount G
idle_advances_count G = record {
  none = λ p. refl;
  idle = λ p q r ds h x e. let a = no_wait (G.state p).waiting 1 e in omega (arith, a);
  busy = λ p q r ds h x e. let a = a_wait (G.state p).waiting 1 e in omega (arith, a);
}
