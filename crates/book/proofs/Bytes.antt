-- What a byte of a memory is, after a list of writes.
use Rattle.std.proofs.Common.{◌≡◌, ℕ, ◌+◌, ◌*◌, ◌/◌, ◌%◌, ◌<◌, Bool, true, false, cond, not, ◌&&◌, eqb, List, [], ◌∷◌, ◌++◌, sym, refl, ap, ◌∙◌, arith, true-eqb}
use Rattle.port.specs.declared.Store.{Store}
use Rattle.port.specs.Lanes.{Lane, low, high, byte, covers, merged_byte, merged}
use Rattle.port.specs.Memory.{Memory, line_of, stored, applied}
use Rattle.book.specs.Runs.{Entry, entry_of, marked}
use Rattle.book.specs.Promise.{writes_byte, Unwritten, Youngest, Comes, from_waiting, from_settled, from_first}

-- A number of two bytes.
low_of : (x y : ℕ) → y < 256 → (x * 256 + y) % 256 ≡ y
low_of x y h = omega arith

high_of : (x y : ℕ) → y < 256 → (x * 256 + y) / 256 ≡ x
high_of x y h = omega arith

small : (b : Bool) (x y : ℕ) → cond b (byte low x) (byte low y) < 256
small true x y = omega arith
small false x y = omega arith

byte_merged : (lane : Lane) (lanes old new : ℕ) → byte lane (merged lanes old new) ≡ cond (covers lanes lane) (byte lane new) (byte lane old)
byte_merged low lanes old new = low_of (merged_byte high lanes old new) (merged_byte low lanes old new) (small (covers lanes low) new old)
byte_merged high lanes old new = high_of (merged_byte high lanes old new) (merged_byte low lanes old new) (small (covers lanes low) new old)

-- One write, by bytes.
byte_stored : (p : ℕ → Bool) (lane : Lane) (a : ℕ) (m : Memory) (w : Store)
    → byte lane ((stored p w m).word a) ≡ cond (writes_byte lane a (entry_of p w)) (byte lane w.value) (byte lane (m.word a))
byte_stored p lane a m w = go (eqb a w.word) refl
  where
    by_mark : (x : Bool) → byte lane (cond x (m.word a) (merged w.lanes (m.word a) w.value)) ≡ cond (not x && covers w.lanes lane) (byte lane w.value) (byte lane (m.word a))
    by_mark true = refl
    by_mark false = byte_merged lane w.lanes (m.word a) w.value

    go : (t : Bool) → eqb a w.word ≡ t → byte lane (cond (eqb a w.word) (cond (p (line_of a)) (m.word a) (merged w.lanes (m.word a) w.value)) (m.word a))
        ≡ cond (eqb a w.word && (not (p (line_of w.word)) && covers w.lanes lane)) (byte lane w.value) (byte lane (m.word a))
    go true e =
        ap (λ (t : Bool). byte lane (cond t (cond (p (line_of a)) (m.word a) (merged w.lanes (m.word a) w.value)) (m.word a))) e
        ∙ by_mark (p (line_of a))
        ∙ ap (λ (x : ℕ). cond (not (p (line_of x)) && covers w.lanes lane) (byte lane w.value) (byte lane (m.word a))) (true-eqb a w.word (sym e))
        ∙ ap (λ (t : Bool). cond (t && (not (p (line_of w.word)) && covers w.lanes lane)) (byte lane w.value) (byte lane (m.word a))) (sym e)
    go false e =
        ap (λ (t : Bool). byte lane (cond t (cond (p (line_of a)) (m.word a) (merged w.lanes (m.word a) w.value)) (m.word a))) e
        ∙ ap (λ (t : Bool). cond (t && (not (p (line_of w.word)) && covers w.lanes lane)) (byte lane w.value) (byte lane (m.word a))) (sym e)

-- After a list of writes a byte is the youngest's, or what it was.
pub data Found (lane : Lane) (a : ℕ) (es : List Entry) (old x : ℕ) : Type 0 where
  kept : Unwritten lane a es → x ≡ old → Found lane a es old x
  youngest : (e : Entry) → Youngest lane a es e → x ≡ byte lane e.write.value → Found lane a es old x

pub found : (p : ℕ → Bool) (lane : Lane) (a : ℕ) (ws : List Store) (m : Memory) → Found lane a (marked p ws) (byte lane (m.word a)) (byte lane ((applied p ws m).word a))
found p lane a [] m = kept tt refl
found p lane a (w ∷ ws) m = more (found p lane a ws (stored p w m)) (writes_byte lane a (entry_of p w)) refl
  where
    more : Found lane a (marked p ws) (byte lane ((stored p w m).word a)) (byte lane ((applied p ws (stored p w m)).word a))
        → (b : Bool) → writes_byte lane a (entry_of p w) ≡ b
        → Found lane a (marked p (w ∷ ws)) (byte lane (m.word a)) (byte lane ((applied p ws (stored p w m)).word a))
    more (youngest y h e) b t =
        youngest y (record { older = entry_of p w ∷ h.older; younger = h.younger; splits = ap {B = List Entry} (λ r. entry_of p w ∷ r) h.splits; counts = h.counts; last = h.last }) e
    more (kept n e) true t =
        youngest (entry_of p w) (record { older = []; younger = marked p ws; splits = refl; counts = t; last = n })
        (e ∙ byte_stored p lane a m w ∙ ap (λ (b : Bool). cond b (byte lane w.value) (byte lane (m.word a))) t)
    more (kept n e) false t =
        kept (t, n) (e ∙ byte_stored p lane a m w ∙ ap (λ (b : Bool). cond b (byte lane w.value) (byte lane (m.word a))) t)

-- A byte of what is seen, over what has settled, over the first content.
pub comes : (p : ℕ → Bool) (lane : Lane) (a : ℕ) (waiting settled : List Store) (m : Memory)
    → Comes lane a (marked p waiting) (marked p settled) (m.word a) (byte lane ((applied p waiting (applied p settled m)).word a))
comes p lane a waiting settled m = over (found p lane a waiting (applied p settled m))
  where
    under : Unwritten lane a (marked p waiting) → (x : ℕ) → x ≡ byte lane ((applied p settled m).word a)
        → Found lane a (marked p settled) (byte lane (m.word a)) (byte lane ((applied p settled m).word a))
        → Comes lane a (marked p waiting) (marked p settled) (m.word a) x
    under n x e (kept n' e') = from_first n n' (e ∙ e')
    under n x e (youngest w y e') = from_settled n w y (e ∙ e')

    over : Found lane a (marked p waiting) (byte lane ((applied p settled m).word a)) (byte lane ((applied p waiting (applied p settled m)).word a))
        → Comes lane a (marked p waiting) (marked p settled) (m.word a) (byte lane ((applied p waiting (applied p settled m)).word a))
    over (youngest w y e) = from_waiting w y e
    over (kept n e) = under n (byte lane ((applied p waiting (applied p settled m)).word a)) e (found p lane a settled m)

-- The byte that entries leave, by a fold.
abbrev left : Lane → ℕ → List Entry → ℕ → ℕ
left lane a [] d = d
left lane a (e ∷ es) d = left lane a es (cond (writes_byte lane a e) (byte lane e.write.value) d)

left_none : (lane : Lane) (a : ℕ) (es : List Entry) (d : ℕ) → Unwritten lane a es → left lane a es d ≡ d
left_none lane a [] d n = refl
left_none lane a (e ∷ es) d n = ap (λ (b : Bool). left lane a es (cond b (byte lane e.write.value) d)) n.0 ∙ left_none lane a es d n.1

left-append : (lane : Lane) (a : ℕ) (xs ys : List Entry) (d : ℕ) → left lane a (xs ++ ys) d ≡ left lane a ys (left lane a xs d)
left-append lane a [] ys d = refl
left-append lane a (x ∷ xs) ys d = left-append lane a xs ys (cond (writes_byte lane a x) (byte lane x.write.value) d)

left_youngest : (lane : Lane) (a : ℕ) (es : List Entry) (e : Entry) (d : ℕ) → Youngest lane a es e → left lane a es d ≡ byte lane e.write.value
left_youngest lane a es e d y =
    ap (λ (xs : List Entry). left lane a xs d) y.splits
    ∙ left-append lane a y.older (e ∷ y.younger) d
    ∙ left_none lane a y.younger (cond (writes_byte lane a e) (byte lane e.write.value) (left lane a y.older d)) y.last
    ∙ ap (λ (b : Bool). cond b (byte lane e.write.value) (left lane a y.older d)) y.counts

source : (lane : Lane) (a : ℕ) (waiting settled : List Entry) (content x : ℕ)
    → Comes lane a waiting settled content x → x ≡ left lane a waiting (left lane a settled (byte lane content))
source lane a waiting settled content x (from_waiting e y q) = q ∙ sym (left_youngest lane a waiting e (left lane a settled (byte lane content)) y)
source lane a waiting settled content x (from_settled n e y q) =
    q ∙ sym (left_youngest lane a settled e (byte lane content) y) ∙ sym (left_none lane a waiting (left lane a settled (byte lane content)) n)
source lane a waiting settled content x (from_first n n' q) =
    q ∙ sym (left_none lane a settled (byte lane content) n') ∙ sym (left_none lane a waiting (left lane a settled (byte lane content)) n)

pub one_source : (lane : Lane) (a : ℕ) (waiting settled : List Entry) (content x y : ℕ)
    → Comes lane a waiting settled content x → Comes lane a waiting settled content y → x ≡ y
one_source lane a waiting settled content x y p q = source lane a waiting settled content x p ∙ sym (source lane a waiting settled content y q)
