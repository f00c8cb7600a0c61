-- What a port settles, as a number of its waiting writes.
use Rattle.std.proofs.Common.{◌≡◌, ℕ, ◌+◌, ◌≤◌, List, [], ◌++◌, length, take, drop, sym, refl, ap, ◌∙◌, ap₂, append-nil, arith, length-append, length-drop, take_at, drop_at}
use lib.Seq.{take-length, drop-length}
use Rattle.calls.specs.declared.call.Call.{Call}
use Rattle.port.specs.declared.Store.{Store}
use Rattle.port.specs.Memory.{State, posted, settling, drained}
use Rattle.port.specs.Meaning.{Settles, Advances}
use Rattle.port.proofs.Settling.{posted_none}
use Rattle.book.specs.Tables.{posts, masters_writes, settles_by, one_or_more}
use Rattle.book.specs.Book.{settle, mastered, Admits}

pub settle_none : (s : State) → settle 0 (posted [] s) ≡ s
settle_none s = posted_none s

pub settle_all : (s : State) → drained s ≡ settle (length s.waiting) s
settle_all s = ap₂ (λ (gone rest : List Store). settling gone rest s) (sym (take-length s.waiting)) (sym (drop-length s.waiting))

-- A number of the oldest writes, and the state that they leave.
pub record Settled (s t : State) : Type 0 where
  pub count : ℕ
  pub within : count ≤ length s.waiting
  pub left : t ≡ settle count s

pub counted : (s t : State) → Settles s t → Settled s t
counted s t a = record {
  count = length a.gone;
  within = omega (arith, ap length a.split ∙ length-append a.gone a.rest);
  left = a.after
      ∙ ap₂ (λ (gone rest : List Store). settling gone rest s)
      (sym (ap (λ (l : List Store). take (length a.gone) l) a.split ∙ take_at a.gone a.rest (length a.gone) refl))
      (sym (ap (λ (l : List Store). drop (length a.gone) l) a.split ∙ drop_at a.gone a.rest (length a.gone) refl));
}

-- A call that is taken settles a number that its kind admits.
pub record Landed (c : Call) (s t : State) : Type 0 where
  pub count : ℕ
  pub admitted : Admits (settles_by c) (length (s.waiting ++ posts c)) count
  pub left : t ≡ settle count (posted (posts c) (mastered (masters_writes c) s))

-- An advance settles at least one, if any waits.
pub advanced : (s t : State) → Advances s t → (k : ℕ) × (Admits one_or_more (length (s.waiting ++ [])) k × (t ≡ settle k (posted [] s)))
advanced s t a =
    let k = counted s t a.settles in
    let same : length (s.waiting ++ []) ≡ length s.waiting = ap length (append-nil s.waiting) in
    let rest : length t.waiting + k.count ≡ length s.waiting = omega (arith, ap (λ (x : State). length x.waiting) k.left ∙ length-drop k.count s.waiting, k.within) in
    (k.count, ((omega (arith, k.within), λ h. omega (arith, a.some (omega arith))), k.left ∙ ap (settle k.count) (sym (posted_none s))))
