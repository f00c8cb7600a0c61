-- How a queue over a port sends its writes below.
use Rattle.std.proofs.Common.{◌≡◌, ◌<◌, ◌≤◌, List, [], ◌∷◌, ◌++◌, length, Ok, Option, sym, refl, ap, ◌∙◌, subst, append_assoc, arith, length-append}
use Rattle.std.specs.Option.{option_to_list as left}
use Rattle.port.specs.declared.Store.{Store}
use Rattle.port.specs.Memory.{State, posted, raised}
use Rattle.port.specs.Meaning.{Settles, Advances}
use Rattle.port.specs.Steps.{Step, writes, Chain, done, then}
use Rattle.port.proofs.Settling.{applied-append, settles_then, settles_under, settles_raised, settles_length, posted_none, seen_kept}
use Rattle.write_buffer.specs.Queues.{leaving}
use Rattle.write_buffer.specs.Buffering.{buffered, sends, HoldingBackIsNeverSeen}

pub settles_facts : (s t : State) → Settles s t → t.facts ≡ s.facts
settles_facts s t a = ap (λ (x : State). x.facts) a.after

-- a line that goes on twice
pub posted_twice : (s : State) (vs ws : List Store) → posted ws (posted vs s) ≡ posted (vs ++ ws) s
posted_twice s vs ws =
    ap (λ (l : List Store). record s { waiting = l }) (append_assoc s.waiting vs ws)

-- what is sent from the front of a queue settles in the line that goes on with the rest of it
pub send_one : (s t : State) (w : Store) (ws : List Store) → Settles (posted (w ∷ []) s) t → Settles (posted (w ∷ ws) s) (posted ws t)
send_one s t w ws a =
    let F : State → Type 0 = λ x. Settles x (posted ws t) in subst F (posted_twice s (w ∷ []) ws) (settles_under (posted (w ∷ []) s) t ws a)

pub send_buffered : (s t : State) (w : Store) (ws : List Store) → Settles (posted (w ∷ []) s) t → Settles (buffered s (w ∷ ws)) (buffered t ws)
send_buffered s t w ws a = settles_raised (posted (w ∷ ws) s) (posted ws t) (send_one s t w ws a)

pub holding_back_is_never_seen : HoldingBackIsNeverSeen
holding_back_is_never_seen = record {
  sees = λ s ws. applied-append s.protected s.waiting ws s.settled;
  unseen = λ s t w ws a. seen_kept _ _ (send_buffered s t w ws a);
  waiting = λ s ws. refl;
  facts = λ s ws. refl;
  protected = λ s ws. refl;
  settled = λ s ws. refl;
}

-- one turn of sending a queue below
pub turn_settles : (x s t : State) (ws rest : List Store) (w : Store) → ws ≡ w ∷ rest →
    Settles x (posted ws s) → Settles (posted (w ∷ []) s) t → Settles x (posted rest t)
turn_settles x s t ws rest w e a b =
    let F : List Store → Type 0 = λ l. Settles x (posted l s) in settles_then x (posted (w ∷ rest) s) (posted rest t) (subst F e a) (send_one s t w rest b)

pub turn_sends : {P : Type 0} {does : P → Step → P → Type 0} {p q end : P} (ws rest : List Store) (w : Store) → ws ≡ w ∷ rest →
    does p (writes w (Ok tt)) q → Chain does q (sends rest) end → Chain does p (sends ws) end
turn_sends {P} {does} {p} {q} {end} ws rest w e d c = let F : List Store → Type 0 = λ l. Chain does p (sends l) end in subst F (sym e) (then d c)

pub none_sent : {P : Type 0} {does : P → Step → P → Type 0} {p : P} (ws : List Store) → ws ≡ [] → Chain does p (sends ws) p
none_sent {P} {does} {p} ws e = let F : List Store → Type 0 = λ l. Chain does p (sends l) p in subst F (sym e) done

pub sends_left : {P : Type 0} {does : P → Step → P → Type 0} {p q : P} (ws : List Store) (o : Option Store) → o ≡ leaving ws →
    Chain does p (sends (left o)) q → Chain does p (sends (left (leaving ws))) q
sends_left {P} {does} {p} {q} ws o e c = let F : Option Store → Type 0 = λ x. Chain does p (sends (left x)) q in subst F e c

-- a write that joins stands last in the line
pub joins_line : (s u : State) (ws line : List Store) (w : Store) → line ≡ ws ++ (w ∷ []) → Settles (buffered s line) u → Settles (posted (w ∷ []) (buffered s ws)) u
joins_line s u ws line w e a =
    let F : State → Type 0 = λ x. Settles x u in
    subst F (ap (λ (l : List Store). buffered s l) e ∙ sym (posted_twice (raised s) ws (w ∷ []))) a

-- an emptied queue
pub settles_emptied : (s u : State) (ws vs : List Store) → vs ≡ [] → Settles (posted ws s) u → Settles (buffered s ws) (buffered u vs)
settles_emptied s u ws vs e a =
    let F : State → Type 0 = λ x. Settles (buffered s ws) x in
    subst F (sym (ap (λ (l : List Store). buffered u l) e ∙ posted_none (raised u))) (settles_raised (posted ws s) u a)

-- the write that was sent waits below, where an advance settles it
pub sent_settles : (s m u : State) (w : Store) → Settles (posted (w ∷ []) s) m → 0 < length m.waiting → Advances m u → Settles (posted (w ∷ []) s) u × (length u.waiting ≤ length s.waiting)
sent_settles s m u w a h b =
    let less = b.some h in
    (settles_then (posted (w ∷ []) s) m u a b.settles, omega (arith, simp length-append at (settles_length (posted (w ∷ []) s) m a)))
