-- A lock that is handed out: nothing waits any more.
use Rattle.std.proofs.Common.{◌≡◌, ℕ, [], Ok, sym, ap, ◌∙◌}
use Rattle.calls.specs.declared.call.Call.TheVariants.{Lock}
use Rattle.port.specs.declared.Port.{Ghosts}
use Rattle.port.specs.Memory.{posted, drained}
use Rattle.port.proofs.Settling.{posted_none}
use Rattle.book.specs.declared.answer.Mode.{Mode}
use Rattle.book.specs.declared.answer.Mode.TheVariants.{Free, Locked, Granted}
use Rattle.book.specs.declared.answer.Answer.TheVariants.{Done}
use Rattle.book.specs.Book.{Book, settle}
use Rattle.book.specs.Calling.{Called}
use Rattle.book.proofs.Counts.{settle_all}

pub lock_settles : {P : Type 0} (G : Ghosts P) (m n : Mode) (p q : P) → Called G m p Lock (Ok Done) n q → G.state q ≡ drained (G.state p)
lock_settles G Free n p q h =
    ap (λ (b : Book). b.state) h.left
    ∙ ap (λ (k : ℕ). settle k (posted [] (G.state p))) h.allowed
    ∙ sym (settle_all (posted [] (G.state p)))
    ∙ ap drained (posted_none (G.state p))
lock_settles G Locked n p q h = let z = h.answered in absurd (cc)
lock_settles G Granted n p q h = let z = h.answered in absurd (cc)
