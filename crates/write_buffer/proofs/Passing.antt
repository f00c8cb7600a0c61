-- What a call that is passed on does, and when two buffers are the same.
use Rattle.std.proofs.Common.{◌≡◌, Ok, sym, ap, subst, ◌∙◌}
use Rattle.port.specs.declared.Port.{Ghosts}
use Rattle.port.specs.Meaning.{ByAnswer}
use Rattle.port.specs.Steps.{Step, done, then}
use Rattle.port.proofs.Checking.{Answer, as_ok}
use Rattle.write_buffer.specs.declared.buffer.WriteBuffer.{WriteBuffer}
use Rattle.write_buffer.specs.declared.queue.Queue.{Queue}
use Rattle.write_buffer.specs.Queues.{queued}
use Rattle.write_buffer.specs.Taking.{Takes, Takes-prop}
use Rattle.write_buffer.specs.Buffering.{PassesOn}

pub did_answered : {P : Type 0} {G : Ghosts P} (d : Step) (b c : WriteBuffer P G) (r x : Answer) (Y : Type 0) → r ≡ x → x ≡ Ok tt →
    c.queue ≡ b.queue → G.does b.below d c.below → ByAnswer r (PassesOn d b c) Y
did_answered d b c r x Y e p q h = as_ok _ Y r (e ∙ p) (record { queue = q; below = then h done })

-- a queue that was put back as it was
pub same_buffer : {P : Type 0} {G : Ghosts P} (b : WriteBuffer P G) (k : Queue) (taken : Takes (G.state b.below).facts (queued k)) → k ≡ b.queue →
    ◌≡◌ {A = WriteBuffer P G} (record { below = b.below; queue = k; taken = taken }) b
same_buffer {P} {G} b k taken e =
    let F : Queue → Type 0 = λ x. (t : Takes (G.state b.below).facts (queued x)) → ◌≡◌ {A = WriteBuffer P G} (record { below = b.below; queue = x; taken = t }) b in
    let same : (t : Takes (G.state b.below).facts (queued b.queue)) → t ≡ b.taken = λ t. Takes-prop (G.state b.below).facts (queued b.queue) t b.taken in
    subst F (sym e) (λ t. ap (λ (u : Takes (G.state b.below).facts (queued b.queue)). record { below = b.below; queue = b.queue; taken = u }) (same t)) taken
