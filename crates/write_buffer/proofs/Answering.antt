-- What a buffer reads through the port below, and which writes that port takes.
use Rattle.std.proofs.Common.{◌≡◌, ℕ, cond, List, [], ◌∷◌, ◌++◌, Ok, Err, Option, Result, sym, ap, ◌∙◌, subst}
use Rattle.std.specs.Option.{option_to_list as left}
use Rattle.std.specs.Result.{result_and}
use Rattle.fault.specs.declared.Fault.{Fault}
use Rattle.port.specs.declared.Store.{Store}
use Rattle.port.specs.Memory.{Memory, Facts, State, seen, posted}
use Rattle.port.specs.Meaning.{within, writable, told, read_answer, unreadable, Settles}
use Rattle.port.proofs.Settling.{seen_kept}
use Rattle.port.proofs.Checking.{Answer}
use Rattle.write_buffer.specs.Queues.{leaving, joined}
use Rattle.write_buffer.specs.Taking.{Takes}
use Rattle.write_buffer.proofs.Queueing.{left_line}

-- what is told of a word within range, whatever the floor
pub told_within : (f : Facts) (m : Memory) (w : ℕ) → within w f.words f.floor ≡ Ok tt →
    told f m w ≡ cond (m.readable w) (Ok (m.word w)) (Err (unreadable w))
told_within f m w e = ap (λ (r : Answer). result_and r (cond (m.readable w) (Ok (m.word w)) (Err (unreadable w)))) e

-- what is read below once all was sent there
pub reads_through : (s t : State) (ws : List Store) (w : ℕ) (r : Result ℕ Fault) → Settles (posted ws s) t →
    within w s.facts.words s.facts.floor ≡ Ok tt → r ≡ read_answer t w →
    r ≡ cond ((seen (posted ws s)).readable w) (Ok ((seen (posted ws s)).word w)) (Err (unreadable w))
reads_through s t ws w r a e h =
    let F : Facts → Type 0 = λ f. within w f.words f.floor ≡ Ok tt in
    h ∙ told_within t.facts (seen t) w (subst F (sym (ap (λ (x : State). x.facts) a.after)) e) ∙
    ap (λ (m : Memory). cond (m.readable w) (Ok (m.word w)) (Err (unreadable w))) (seen_kept (posted ws s) t a)

pub takes_kept : (f h : Facts) (ws : List Store) → h ≡ f → Takes f ws → Takes h ws
takes_kept f h ws e t = let F : Facts → Type 0 = λ x. Takes x ws in subst F (sym e) t

pub takes_line : (f : Facts) (vs ws : List Store) → vs ≡ ws → Takes f vs → Takes f ws
takes_line f vs ws e t = let F : List Store → Type 0 = λ l. Takes f l in subst F e t

pub takes_more : (f : Facts) (w : Store) (ws : List Store) → Takes f ws → writable w.word w.lanes f.words f.floor ≡ Ok tt → Takes f (ws ++ (w ∷ []))
takes_more f w [] t e = (e, tt)
takes_more f w (v ∷ ws) t e = (t.0, takes_more f w ws t.1 e)

-- a write that the port below takes has joined: it takes the one that left, and those that stay
pub takes_joined : (f : Facts) (o : Option Store) (w : Store) (ws vs : List Store) → o ≡ leaving ws → vs ≡ joined w ws →
    Takes f ws → writable w.word w.lanes f.words f.floor ≡ Ok tt → Takes f (left o ++ vs)
takes_joined f o w ws vs e h t ok = takes_line f _ _ (sym (left_line o w ws vs e h)) (takes_more f w ws t ok)
