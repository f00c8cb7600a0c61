-- A list and its calls determine each other.
use Rattle.std.proofs.Common.{◌≡◌, ℕ, zero, suc, ◌+◌, ◌*◌, ◌/◌, ◌%◌, ◌<◌, ◌≤◌, Bool, true, false, cond, eqb, ◌⊎◌, List, [], ◌∷◌, ◌++◌, length, get_or, drop, Some, None, Ok, Err, Option, Result, sym, refl, ap, ◌∙◌, subst, inl, inr, ⊎_elim, arith, lit<, eqb-true}
use Rattle.std.specs.Result.{result_and}
use Rattle.std.proofs.lemmas.Bool.Decides.{nat_tests}
use Rattle.fault.specs.declared.Fault.{Fault}
use Rattle.calls.specs.declared.call.Call.{Call}
use Rattle.calls.specs.declared.call.Call.TheVariants.{Read, Write, Unposted, Advance, Lock, LockedRead, LockedWrite, Unlock, Ask, MasterRead, MasterWrite, Give, Snoop, Flush}
use Rattle.port.specs.declared.Store.{Store as StoreRecord}
use Rattle.calls.specs.declared.call.Cargo.{Cargo}
use Rattle.calls.specs.declared.call.Cargo.TheVariants.{Nothing, Word, Store}
use Rattle.calls.specs.Calls.{cargo_of, size_with, size_of}
use Rattle.calls.specs.Words.{word_of, words}
use Rattle.calls.specs.Format.{bits, kind_of, lanes_of, target_of, value_of, malformed, given, map_ok, bare_call, target_in, value_in, store_in, call_of_kind, call_in, first_of, front, stride, calls_from, length_in, meaning}
use Rattle.calls.specs.Encoding.{packed, kind_for, words_with, call_words, list_words, bytes_of, encode, CargoFits, CallsFit, ListEncodesItsCalls}
use Rattle.calls.proofs.Reading.{one_or_two, continued, calls_step}

-- The bytes of list words.

bytes_length : (ws : List ℕ) → length (bytes_of ws) ≡ length ws * 4
unfolding bytes_of
bytes_length [] = refl
bytes_length (w ∷ ws) = let h = bytes_length ws in omega arith

words_of_bytes : (ws : List ℕ) → words (bytes_of ws) ≡ ws
unfolding bytes_of words
words_of_bytes [] = refl
words_of_bytes (w ∷ ws) =
    let e : word_of (w % 256) (w / 256 % 256) (w / 65536 % 256) (w / 16777216) ≡ w = omega arith in
    rw (e, words_of_bytes ws)

-- Each byte of a list of bytes is below 256.
abbrev pub Bytes : List ℕ → Type 0
Bytes bytes = (i : ℕ) → get_or bytes i 0 < 256

bytes_of_words : (bytes : List ℕ) → Bytes bytes → length bytes % 4 ≡ 0 → bytes ≡ bytes_of (words bytes)
unfolding bytes_of words
bytes_of_words [] small whole = refl
bytes_of_words (a ∷ []) small whole = absurd (omega arith)
bytes_of_words (a ∷ b ∷ []) small whole = absurd (omega arith)
bytes_of_words (a ∷ b ∷ c ∷ []) small whole = absurd (omega arith)
bytes_of_words (a ∷ b ∷ c ∷ d ∷ rest) small whole =
    let ha : a < 256 = small 0 in
    let hb : b < 256 = small 1 in
    let hc : c < 256 = small 2 in
    let hd : d < 256 = small 3 in
    let w : ℕ = word_of a b c d in
    let ea : a ≡ w % 256 = omega arith in
    let qb : w / 256 ≡ b + c * 256 + d * 65536 = omega arith in
    let eb : b ≡ w / 256 % 256 = rw qb (omega arith) in
    let qc : w / 65536 ≡ c + d * 256 = omega arith in
    let ec : c ≡ w / 65536 % 256 = rw qc (omega arith) in
    let ed : d ≡ w / 16777216 = omega arith in
    let tail : rest ≡ bytes_of (words rest) = bytes_of_words rest (λ i. small (suc (suc (suc (suc i))))) (omega arith) in
    cc

-- The parts of a packed list word.

module _ (k l w : ℕ) (hk : k < 16) (hl : l < 4) (hw : w < 8388608) where
  pub kind_packed : kind_of (packed k l w) ≡ k
  kind_packed = omega arith

  pub spare_packed : bits (packed k l w) 25 3 ≡ 0
  spare_packed = omega arith

  lanes_packed : lanes_of (packed k l w) ≡ l
  lanes_packed = omega arith

  target_packed : target_of (packed k l w) ≡ w
  target_packed = omega arith

-- A packed list word is read back.

bare_back : (i k : ℕ) (call : Call) → k < 16 → bare_call i (packed k 0 0) call ≡ Ok call
bare_back i k call hk = grind (arith, nat_tests)

target_back : (i k w : ℕ) → k < 16 → w < 8388608 → target_in i (packed k 0 w) ≡ Ok w
target_back i k w hk hw =
    let e : bits (packed k 0 w) 23 5 ≡ 0 = omega arith in
    rw (e, target_packed k 0 w hk (omega arith) hw)

value_back : (i v : ℕ) → v < 65536 → value_in i (Some (packed 15 0 v)) ≡ Ok v
value_back i v hv =
    let k : kind_of (packed 15 0 v) ≡ 15 = omega arith in
    let b : bits (packed 15 0 v) 16 12 ≡ 0 = omega arith in
    let e : value_of (packed 15 0 v) ≡ v = omega arith in
    rw (k, b, e)

store_back : (i k : ℕ) (s : StoreRecord) → k < 16 → CargoFits (Store s) → store_in i (packed k s.lanes s.word) (Some (packed 15 0 s.value)) ≡ Ok s
store_back i k s hk (hw, hl, hv) =
    rw (spare_packed k s.lanes s.word hk hl hw, value_back i s.value hv, lanes_packed k s.lanes s.word hk hl hw, target_packed k s.lanes s.word hk hl hw)

-- The words of a call that fits give back the call, whatever follows them.

module _ (i k : ℕ) (hk : k < 16) (next : Option ℕ) where
  bare_front : (call : Call) → ((x : ℕ) → call_of_kind k i x next ≡ bare_call i x call) → call_in i (packed k 0 0) next ≡ Ok call
  bare_front call row = rw (kind_packed k 0 0 hk (omega arith) (omega arith)) (row (packed k 0 0) ∙ bare_back i k call hk)

  target_front : (f : ℕ → Call) (w : ℕ) → w < 8388608 → ((x : ℕ) → call_of_kind k i x next ≡ map_ok f (target_in i x)) → call_in i (packed k 0 w) next ≡ Ok (f w)
  target_front f w hw row = rw (kind_packed k 0 w hk (omega arith) hw) (row (packed k 0 w) ∙ ap (map_ok f) (target_back i k w hk hw))

store_front : (i k : ℕ) (f : StoreRecord → Call) (s : StoreRecord) → k < 16 → CargoFits (Store s) →
    ((x : ℕ) (next : Option ℕ) → call_of_kind k i x next ≡ map_ok f (store_in i x next)) → call_in i (packed k s.lanes s.word) (Some (packed 15 0 s.value)) ≡ Ok (f s)
store_front i k f s hk (hw, hl, hv) row =
    rw (kind_packed k s.lanes s.word hk hl hw) (row (packed k s.lanes s.word) (Some (packed 15 0 s.value)) ∙ ap (map_ok f) (store_back i k s hk (hw, hl, hv)))

pub call_front : (i : ℕ) (call : Call) (ws : List ℕ) → CargoFits (cargo_of call) → front i (call_words call ++ ws) ≡ Ok (Some call)
call_front i (Read w) ws h = ap (map_ok Some) (target_front i 0 (lit< tt) (first_of ws) Read w h (λ x. refl))
call_front i (Write s) ws h = ap (map_ok Some) (store_front i 1 Write s (lit< tt) h (λ x next. refl))
call_front i (Unposted s) ws h = ap (map_ok Some) (store_front i 2 Unposted s (lit< tt) h (λ x next. refl))
call_front i Advance ws h = ap (map_ok Some) (bare_front i 3 (lit< tt) (first_of ws) Advance (λ x. refl))
call_front i Lock ws h = ap (map_ok Some) (bare_front i 4 (lit< tt) (first_of ws) Lock (λ x. refl))
call_front i (LockedRead w) ws h = ap (map_ok Some) (target_front i 5 (lit< tt) (first_of ws) LockedRead w h (λ x. refl))
call_front i (LockedWrite s) ws h = ap (map_ok Some) (store_front i 6 LockedWrite s (lit< tt) h (λ x next. refl))
call_front i Unlock ws h = ap (map_ok Some) (bare_front i 7 (lit< tt) (first_of ws) Unlock (λ x. refl))
call_front i Ask ws h = ap (map_ok Some) (bare_front i 8 (lit< tt) (first_of ws) Ask (λ x. refl))
call_front i (MasterRead w) ws h = ap (map_ok Some) (target_front i 9 (lit< tt) (first_of ws) MasterRead w h (λ x. refl))
call_front i (MasterWrite s) ws h = ap (map_ok Some) (store_front i 10 MasterWrite s (lit< tt) h (λ x next. refl))
call_front i Give ws h = ap (map_ok Some) (bare_front i 11 (lit< tt) (first_of ws) Give (λ x. refl))
call_front i (Snoop w) ws h = ap (map_ok Some) (target_front i 12 (lit< tt) (first_of ws) Snoop w h (λ x. refl))
call_front i Flush ws h = ap (map_ok Some) (bare_front i 13 (lit< tt) (first_of ws) Flush (λ x. refl))

-- past a call's words
pub past_call : (k : ℕ) (cargo : Cargo) (ws : List ℕ) → drop (size_with cargo) (words_with k cargo ++ ws) ≡ ws
past_call k Nothing ws = refl
past_call k (Word w) ws = refl
past_call k (Store s) ws = refl

calls_back : (i : ℕ) (calls : List Call) → CallsFit calls → calls_from i (list_words calls) ≡ Ok calls
unfolding calls_from list_words
calls_back i [] h = refl
calls_back i (call ∷ calls) (h, hs) =
    calls_step i (call_words call ++ list_words calls) ∙
    ap (λ (r : Result (Option Call) Fault). continued r (calls_from (i + stride r) (drop (stride r) (call_words call ++ list_words calls)))) (call_front i call (list_words calls) h) ∙
    ap (λ ws. map_ok (λ more. call ∷ more) (calls_from (i + size_of call) ws)) (past_call (kind_for call) (cargo_of call) (list_words calls)) ∙
    ap (map_ok (λ more. call ∷ more)) (calls_back (i + size_of call) calls hs)

pub fit_length : (n : ℕ) → n % 4 ≡ 0 → n ≤ 16384 → length_in n ≡ Ok tt
fit_length n e h = grind (arith, nat_tests)

encoded_back : (calls : List Call) → CallsFit calls → length (encode calls) ≤ 16384 → meaning (encode calls) ≡ Ok calls
encoded_back calls fit short =
    let whole : length (encode calls) % 4 ≡ 0 = omega (arith, bytes_length (list_words calls)) in
    ap (λ (l : Result (Unit {0}) Fault). result_and l (calls_from 0 (words (encode calls)))) (fit_length (length (encode calls)) whole short) ∙
    ap (calls_from 0) (words_of_bytes (list_words calls)) ∙
    calls_back 0 calls fit

-- A list word that is read is the packed word of its parts.

given_ok : {X : Type 0} (b : Bool) (i : ℕ) (x y : X) → given b i x ≡ Ok y → (b ≡ true) × (x ≡ y)
given_ok true i x y e = (refl, cc)
given_ok false i x y e = let z : ◌≡◌ {A = ℕ} 0 1 = cc in absurd (omega arith)

map_ok_lem : {X Y : Type 0} (f : X → Y) (r : Result X Fault) (y : Y) → map_ok f r ≡ Ok y → (x : X) × (r ≡ Ok x) × (y ≡ f x)
map_ok_lem f (Ok x) y e = (x, refl, cc)
map_ok_lem f (Err g) y e = let z : ◌≡◌ {A = ℕ} 0 1 = cc in absurd (omega arith)

cond_split : {X : Type 0} (t : Bool) (r q : Result X Fault) (x : X) → cond t r q ≡ Ok x → ((t ≡ true) × (r ≡ Ok x)) ⊎ (q ≡ Ok x)
cond_split true r q x e = inl (refl, e)
cond_split false r q x e = inr e

-- one row of a table of kinds
row_split : {X : Type 0} (a b : ℕ) (r q : Result X Fault) (x : X) → cond (eqb a b) r q ≡ Ok x → ((a ≡ b) × (r ≡ Ok x)) ⊎ (q ≡ Ok x)
row_split a b r q x e = ⊎_elim (λ h. inl (eqb-true a b h.0, h.1)) inr (cond_split (eqb a b) r q x e)

row_ok : {X : Type 0} (a b : ℕ) (r : Result X Fault) (f : Fault) (x : X) → cond (eqb a b) r (Err f) ≡ Ok x → (a ≡ b) × (r ≡ Ok x)
row_ok a b r f x e = ⊎_elim (λ h. h) (λ (bad : Err f ≡ Ok x). let z : ◌≡◌ {A = ℕ} 0 1 = cc in absurd (omega arith)) (row_split a b r (Err f) x e)

abbrev pub Word32 : ℕ → Type 0
Word32 w = w < 4294967296

bare_ok : (i w : ℕ) (call made : Call) → Word32 w → bare_call i w call ≡ Ok made → (made ≡ call) × (w ≡ packed (kind_of w) 0 0)
bare_ok i w call made h e =
    let g = given_ok (eqb (bits w 0 28) 0) i call made e in
    let z : bits w 0 28 ≡ 0 = grind (arith, nat_tests) in
    (sym g.1, omega arith)

target_ok : (i w t : ℕ) → Word32 w → target_in i w ≡ Ok t → (t < 8388608) × (w ≡ packed (kind_of w) 0 t)
target_ok i w t h e =
    let g = given_ok (eqb (bits w 23 5) 0) i (target_of w) t e in
    let z : bits w 23 5 ≡ 0 = grind (arith, nat_tests) in
    (omega arith, omega arith)

value_ok : (i v d : ℕ) → value_in i (Some d) ≡ Ok v → (kind_of d ≡ 15) × (bits d 16 12 ≡ 0) × (value_of d ≡ v)
value_ok i v d e =
    let h = row_ok (kind_of d) 15 (given (eqb (bits d 16 12) 0) (i + 1) (value_of d)) (malformed i) v e in
    let g = given_ok (eqb (bits d 16 12) 0) (i + 1) (value_of d) v h.1 in
    (h.0, eqb-true (bits d 16 12) 0 g.0, g.1)

-- The call of that kind and cargo is what the words w ∷ ws begin with.
abbrev pub MadeOf : ℕ → Cargo → ℕ → List ℕ → Type 0
MadeOf k cargo w ws = CargoFits cargo × (w ∷ ws ≡ words_with k cargo ++ drop (size_with cargo) (w ∷ ws))

abbrev pub Made : Call → ℕ → List ℕ → Type 0
Made call w ws = MadeOf (kind_for call) (cargo_of call) w ws

-- every word of a list is below 2 ^ 32
abbrev pub Words : List ℕ → Type 0
Words ws = (i : ℕ) → get_or ws i 0 < 4294967296

store_ok : (i w : ℕ) (ws : List ℕ) (s : StoreRecord) → Words (w ∷ ws) → store_in i w (first_of ws) ≡ Ok s → MadeOf (kind_of w) (Store s) w ws
store_ok i w [] s h e =
    let make : ℕ → StoreRecord = λ v. record { word = target_of w; lanes = lanes_of w; value = v } in
    let r = row_ok (bits w 25 3) 0 (map_ok make (value_in i None)) (malformed i) s e in
    let z : ◌≡◌ {A = ℕ} 0 1 = cc in
    absurd (omega arith)
store_ok i w (d ∷ ds) s h e =
    let make : ℕ → StoreRecord = λ v. record { word = target_of w; lanes = lanes_of w; value = v } in
    let r = row_ok (bits w 25 3) 0 (map_ok make (value_in i (Some d))) (malformed i) s e in
    let m = map_ok_lem make (value_in i (Some d)) s r.1 in
    let q = value_ok i m.0 d m.1 in
    let hw : w < 4294967296 = h 0 in
    let hd : d < 4294967296 = h 1 in
    let head : w ≡ packed (kind_of w) (lanes_of w) (target_of w) = omega arith in
    let tail : d ≡ packed 15 0 m.0 = omega arith in
    subst (λ t. MadeOf (kind_of w) (Store t) w (d ∷ ds)) (sym m.2)
    ((omega arith, omega arith, omega arith), ap (λ x. x ∷ d ∷ ds) head ∙ ap (λ x. packed (kind_of w) (lanes_of w) (target_of w) ∷ x ∷ ds) tail)

module _ (i w : ℕ) (ws : List ℕ) (call : Call) (h : Words (w ∷ ws)) where
  bare_row : (k : ℕ) (made : Call) → (MadeOf k Nothing w ws → Made made w ws) → kind_of w ≡ k → bare_call i w made ≡ Ok call → Made call w ws
  bare_row k made is e r =
      let b = bare_ok i w made call (h 0) r in
      subst (λ c. Made c w ws) (sym b.0) (is (tt, ap (λ x. x ∷ ws) (b.1 ∙ ap (λ n. packed n 0 0) e)))

  target_row : (k : ℕ) (f : ℕ → Call) → ((t : ℕ) → MadeOf k (Word t) w ws → Made (f t) w ws) → kind_of w ≡ k → map_ok f (target_in i w) ≡ Ok call → Made call w ws
  target_row k f is e r =
      let m = map_ok_lem f (target_in i w) call r in
      let b = target_ok i w m.0 (h 0) m.1 in
      subst (λ c. Made c w ws) (sym m.2) (is m.0 (b.0, ap (λ x. x ∷ ws) (b.1 ∙ ap (λ n. packed n 0 m.0) e)))

  store_row : (k : ℕ) (f : StoreRecord → Call) → ((s : StoreRecord) → MadeOf k (Store s) w ws → Made (f s) w ws) → kind_of w ≡ k → map_ok f (store_in i w (first_of ws)) ≡ Ok call → Made call w ws
  store_row k f is e r =
      let m = map_ok_lem f (store_in i w (first_of ws)) call r in
      subst (λ c. Made c w ws) (sym m.2) (is m.0 (subst (λ n. MadeOf n (Store m.0) w ws) e (store_ok i w ws m.0 h m.1)))

  row : (k : ℕ) (r q : Result Call Fault) → (kind_of w ≡ k → r ≡ Ok call → Made call w ws) → (q ≡ Ok call → Made call w ws) → cond (eqb (kind_of w) k) r q ≡ Ok call → Made call w ws
  row k r q here later e = ⊎_elim (λ t. here t.0 t.1) later (row_split (kind_of w) k r q call e)

  pub call_ok : call_in i w (first_of ws) ≡ Ok call → Made call w ws
  call_ok =
      row 0 _ _ (target_row 0 Read (λ t m. m))
      (row 1 _ _ (store_row 1 Write (λ s m. m))
      (row 2 _ _ (store_row 2 Unposted (λ s m. m))
      (row 3 _ _ (bare_row 3 Advance (λ m. m))
      (row 4 _ _ (bare_row 4 Lock (λ m. m))
      (row 5 _ _ (target_row 5 LockedRead (λ t m. m))
      (row 6 _ _ (store_row 6 LockedWrite (λ s m. m))
      (row 7 _ _ (bare_row 7 Unlock (λ m. m))
      (row 8 _ _ (bare_row 8 Ask (λ m. m))
      (row 9 _ _ (target_row 9 MasterRead (λ t m. m))
      (row 10 _ _ (store_row 10 MasterWrite (λ s m. m))
      (row 11 _ _ (bare_row 11 Give (λ m. m))
      (row 12 _ _ (target_row 12 Snoop (λ t m. m))
      (row 13 _ _ (bare_row 13 Flush (λ m. m))
      (λ (bad : Err (malformed i) ≡ Ok call). let z : ◌≡◌ {A = ℕ} 0 1 = cc in absurd (omega arith)))))))))))))))

-- The calls of words that are read are those that the words were written for.

pub front_ok : (i w : ℕ) (ws : List ℕ) (o : Option Call) → Words (w ∷ ws) → front i (w ∷ ws) ≡ Ok o → (call : Call) × (o ≡ Some call) × Made call w ws
front_ok i w ws o h e =
    let m = map_ok_lem Some (call_in i w (first_of ws)) o e in
    (m.0, m.2, call_ok i w ws m.0 h m.1)

abbrev Written : List Call → List ℕ → Type 0
Written calls ws = CallsFit calls × (ws ≡ list_words calls)

-- one call before calls that were written
written_more : (call : Call) (calls : List Call) (w : ℕ) (ws rest : List ℕ) → Made call w ws → drop (size_of call) (w ∷ ws) ≡ rest → Written calls rest → Written (call ∷ calls) (w ∷ ws)
unfolding list_words
written_more call calls w ws rest m e (fit, is) =
    ((m.0, fit), m.1 ∙ ap (λ t. call_words call ++ t) (e ∙ is))

-- a front that is read, and the calls after it
continued_ok : (call : Call) (more : Result (List Call) Fault) (calls : List Call) → continued (Ok (Some call)) more ≡ Ok calls → (rest : List Call) × (more ≡ Ok rest) × (calls ≡ call ∷ rest)
continued_ok call more calls e = map_ok_lem (λ rest. call ∷ rest) more calls e

front_read : (r : Result (Option Call) Fault) (more : Result (List Call) Fault) (calls : List Call) → continued r more ≡ Ok calls → (o : Option Call) × (r ≡ Ok o)
front_read (Ok o) more calls e = (o, refl)
front_read (Err f) more calls e = let z : ◌≡◌ {A = ℕ} 0 1 = cc in absurd (omega arith)

-- what is shown of the words after one list word, and after two
abbrev After : ℕ → ℕ → List ℕ → Type 0
After n i ws = (calls : List Call) → calls_from (i + n) (drop n ws) ≡ Ok calls → Written calls (drop n ws)

step_ok : (i w : ℕ) (ws : List ℕ) (calls : List Call) → Words (w ∷ ws) → calls_from i (w ∷ ws) ≡ Ok calls → After 1 i (w ∷ ws) → After 2 i (w ∷ ws) → Written calls (w ∷ ws)
step_ok i w ws calls h e one two =
    let next : Result (Option Call) Fault → Result (List Call) Fault = λ r. continued r (calls_from (i + stride r) (drop (stride r) (w ∷ ws))) in
    let read : next (front i (w ∷ ws)) ≡ Ok calls = sym (calls_step i (w ∷ ws)) ∙ e in
    let f = front_read (front i (w ∷ ws)) (calls_from (i + stride (front i (w ∷ ws))) (drop (stride (front i (w ∷ ws))) (w ∷ ws))) calls read in
    let m = front_ok i w ws f.0 h f.1 in
    let call : Call = m.0 in
    let is : front i (w ∷ ws) ≡ Ok (Some call) = f.1 ∙ ap Ok m.1 in
    let c = continued_ok call (calls_from (i + size_of call) (drop (size_of call) (w ∷ ws))) calls (sym (ap next is) ∙ read) in
    let after : After (size_of call) i (w ∷ ws) =
    ⊎_elim (λ k. subst (λ n. After n i (w ∷ ws)) (sym k) one) (λ k. subst (λ n. After n i (w ∷ ws)) (sym k) two) (one_or_two (cargo_of call)) in
    subst (λ cs. Written cs (w ∷ ws)) (sym c.2)
    (written_more call c.0 w ws (drop (size_of call) (w ∷ ws)) m.2 refl (after c.0 c.1))

none_ok : (i : ℕ) (calls : List Call) → calls_from i [] ≡ Ok calls → Written calls []
unfolding calls_from list_words
none_ok i calls e = let z : calls ≡ [] = cc in subst (λ cs. Written cs []) (sym z) (tt, refl)

calls_ok : (i : ℕ) (ws : List ℕ) (calls : List Call) → Words ws → calls_from i ws ≡ Ok calls → Written calls ws
calls_ok i [] calls h e = none_ok i calls e
calls_ok i (w ∷ []) calls h e = step_ok i w [] calls h e (none_ok (i + 1)) (none_ok (i + 2))
calls_ok i (w ∷ v ∷ vs) calls h e =
    step_ok i w (v ∷ vs) calls h e (λ cs. calls_ok (i + 1) (v ∷ vs) cs (λ k. h (suc k))) (λ cs. calls_ok (i + 2) vs cs (λ k. h (suc (suc k))))

pub words_below : (bytes : List ℕ) → Bytes bytes → Words (words bytes)
unfolding words
words_below [] small i = omega arith
words_below (a ∷ []) small i = omega arith
words_below (a ∷ b ∷ []) small i = omega arith
words_below (a ∷ b ∷ c ∷ []) small i = omega arith
words_below (a ∷ b ∷ c ∷ d ∷ rest) small zero =
    let ha : a < 256 = small 0 in
    let hb : b < 256 = small 1 in
    let hc : c < 256 = small 2 in
    let hd : d < 256 = small 3 in
    omega arith
words_below (a ∷ b ∷ c ∷ d ∷ rest) small (suc i) = words_below rest (λ k. small (suc (suc (suc (suc k))))) i

result_and_lem : {X Y : Type 0} (l : Result X Fault) (r : Result Y Fault) (y : Y) → result_and l r ≡ Ok y → (x : X) × (l ≡ Ok x) × (r ≡ Ok y)
result_and_lem (Ok x) r y e = (x, refl, e)
result_and_lem (Err f) r y e = let z : ◌≡◌ {A = ℕ} 0 1 = cc in absurd (omega arith)

whole_length : (n : ℕ) (u : Unit {0}) → length_in n ≡ Ok u → n % 4 ≡ 0
whole_length n u e = grind (arith, nat_tests)

decoded_ok : (bytes : List ℕ) → Bytes bytes → (calls : List Call) → meaning bytes ≡ Ok calls → CallsFit calls × (bytes ≡ encode calls)
decoded_ok bytes small calls e =
    let l = result_and_lem (length_in (length bytes)) (calls_from 0 (words bytes)) calls e in
    let w = calls_ok 0 (words bytes) calls (words_below bytes small) l.2 in
    (w.0, bytes_of_words bytes small (whole_length (length bytes) l.0 l.1) ∙ ap bytes_of w.1)

pub list_encodes_its_calls : (bytes : List ℕ) → Bytes bytes → ListEncodesItsCalls bytes (meaning bytes)
list_encodes_its_calls bytes small =
    record {
      encoded = λ calls fit is short. subst (λ bs. meaning bs ≡ Ok calls) (sym is) (encoded_back calls fit (subst (λ bs. length bs ≤ 16384) is short));
      decoded = decoded_ok bytes small;
    }
