-- How settling composes.
use Rattle.std.proofs.Common.{◌≡◌, ℕ, ◌≤◌, Bool, List, [], ◌∷◌, ◌++◌, length, Ok, Err, Result, sym, refl, ap, ◌∙◌, append_assoc, append-nil, arith, length-append}
use Rattle.fault.specs.declared.Fault.{Fault}
use Rattle.port.specs.declared.Store.{Store}
use Rattle.port.specs.Memory.{Memory, State, stored, applied, seen, posted, settling, drained, outside, raised}
use Rattle.port.specs.Meaning.{Settles, ByAnswer}
use Rattle.port.specs.Laws.{SettlingIsNeverSeen, MarksAndFlagsStay}

pub applied-append : (p : ℕ → Bool) (xs ys : List Store) (m : Memory) → applied p (xs ++ ys) m ≡ applied p ys (applied p xs m)
applied-append p [] ys m = refl
applied-append p (x ∷ xs) ys m = applied-append p xs ys (stored p x m)

pub applied_readable : (p : ℕ → Bool) (ws : List Store) (m : Memory) → (applied p ws m).readable ≡ m.readable
applied_readable p [] m = refl
applied_readable p (w ∷ ws) m = applied_readable p ws (stored p w m)

pub settles_none : (s : State) → Settles s s
settles_none s = record { gone = []; rest = s.waiting; split = refl; after = refl }

pub settles_then : (s t u : State) → Settles s t → Settles t u → Settles s u
settles_then s t u a b =
    let kept : a.rest ≡ b.gone ++ b.rest = ap (λ (x : State). x.waiting) (sym a.after) ∙ b.split in
    record {
      gone = a.gone ++ b.gone;
      rest = b.rest;
      split = a.split ∙ ap (λ l. a.gone ++ l) kept ∙ sym (append_assoc a.gone b.gone b.rest);
      after = b.after ∙ ap (settling b.gone b.rest) a.after ∙
          ap (λ m. record s { settled = m; waiting = b.rest }) (sym (applied-append s.protected a.gone b.gone s.settled));
    }

pub seen_kept : (s t : State) → Settles s t → seen t ≡ seen s
seen_kept s t a =
    ap seen a.after ∙ sym (applied-append s.protected a.gone a.rest s.settled) ∙ ap (λ l. applied s.protected l s.settled) (sym a.split)

pub settles_under : (s t : State) (ws : List Store) → Settles s t → Settles (posted ws s) (posted ws t)
settles_under s t ws a =
    record { gone = a.gone; rest = a.rest ++ ws; split = ap (λ l. l ++ ws) a.split ∙ append_assoc a.gone a.rest ws; after = ap (posted ws) a.after }

-- and one floor up
pub settles_raised : (s t : State) → Settles s t → Settles (raised s) (raised t)
settles_raised s t a = record { gone = a.gone; rest = a.rest; split = a.split; after = ap raised a.after }

pub posted_none : (s : State) → posted [] s ≡ s
posted_none s = ap (λ (l : List Store). record s { waiting = l }) (append-nil s.waiting)

pub settles_length : (s t : State) → Settles s t → length t.waiting ≤ length s.waiting
settles_length s t a =
    let rest : length t.waiting ≡ length a.rest = ap (λ (x : State). length x.waiting) a.after in
    omega (arith, simp length-append at (ap length a.split))

pub settles_all : (s t : State) → Settles s t → t.waiting ≡ [] → t ≡ drained s
settles_all s t a e =
    let none : a.rest ≡ [] = ap (λ (x : State). x.waiting) (sym a.after) ∙ e in
    let all : a.gone ≡ s.waiting = sym (append-nil a.gone) ∙ ap (λ l. a.gone ++ l) (sym none) ∙ sym a.split in
    a.after ∙ ap (λ r. settling a.gone r s) none ∙ ap (λ g. settling g [] s) all

pub settling_is_never_seen : SettlingIsNeverSeen
settling_is_never_seen = record { composes = settles_then; unseen = seen_kept; commutes = settles_under; ends = settles_all }

pub marks_and_flags_stay : MarksAndFlagsStay
marks_and_flags_stay = record {
  joining = λ s ws. (refl, refl, refl);
  settling = λ s t a. (
    ap (λ (x : State). x.facts) a.after,
    ap (λ (x : State). x.protected) a.after,
    ap (λ (x : State). x.settled.readable) a.after ∙ applied_readable s.protected a.gone s.settled,
  );
  from_outside = λ s w. (refl, refl, refl);
}

-- where nothing waits, a write that is stored at once has joined and settled
pub stored_at_once : (s t : State) (w : Store) → s.waiting ≡ [] → t ≡ outside w s → Settles (posted (w ∷ []) s) t
stored_at_once s t w none e =
    let line : s.waiting ++ (w ∷ []) ≡ w ∷ [] = ap (λ l. l ++ (w ∷ [])) none in
    record {
      gone = w ∷ [];
      rest = [];
      split = line;
      after = e ∙ ap (λ l. record s { settled = stored s.protected w s.settled; waiting = l }) none;
    }

pub accepted_at_once : (Q : Type 0) (r : Result (Unit {0}) Fault) (s t : State) (w : Store) → s.waiting ≡ [] →
    ByAnswer r (t ≡ outside w s) Q → ByAnswer r (Settles (posted (w ∷ []) s) t) Q
accepted_at_once Q (Ok _) s t w none e = stored_at_once s t w none e
accepted_at_once Q (Err _) s t w none q = q

-- Where nothing waits.

no_parts : {A : Type 0} (xs ys : List A) → [] ≡ xs ++ ys → (xs ≡ []) × (ys ≡ [])
no_parts [] ys e = (refl, sym e)
no_parts (x ∷ xs) ys e = let z : ◌≡◌ {A = ℕ} 0 1 = cc in absurd (omega arith)

pub settles_still : (s t : State) → s.waiting ≡ [] → Settles s t → t ≡ s
settles_still s t none a =
    let parts = no_parts a.gone a.rest (sym none ∙ a.split) in
    a.after ∙ ap (λ g. settling g a.rest s) parts.0 ∙ ap (λ r. settling [] r s) (parts.1 ∙ sym none)

pub settles_drained : (s t : State) → Settles s t → drained t ≡ drained s
settles_drained s t a =
    ap (λ (x : State). record x { settled = seen t; waiting = [] }) a.after ∙
    ap (λ m. record s { settled = m; waiting = [] }) (seen_kept s t a)

-- a write to a port on which nothing waits, after which all settles
pub written_drained : (s t u : State) (w : Store) → s.waiting ≡ [] → Settles (posted (w ∷ []) s) t → u ≡ drained t → u ≡ outside w s
written_drained s t u w none a e =
    e ∙ settles_drained (posted (w ∷ []) s) t a ∙
    ap (λ l. record s { settled = applied s.protected (l ++ (w ∷ [])) s.settled; waiting = [] }) none ∙
    ap (λ l. record s { settled = stored s.protected w s.settled; waiting = l }) (sym none)

-- and one that has gone through is stored at once
pub through_at_once : (Q : Type 0) (r : Result (Unit {0}) Fault) (s t : State) (w : Store) → s.waiting ≡ [] →
    ByAnswer r (t ≡ drained (posted (w ∷ []) s)) Q → ByAnswer r (t ≡ outside w s) Q
through_at_once Q (Ok _) s t w none e = written_drained s (posted (w ∷ []) s) t w none (settles_none (posted (w ∷ []) s)) e
through_at_once Q (Err _) s t w none q = q
