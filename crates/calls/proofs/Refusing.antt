-- A list is refused exactly for what is wrong with it.
use Rattle.std.proofs.Common.{◌≡◌, ℕ, zero, suc, ◌+◌, ◌%◌, ◌<◌, ◌≤◌, Bool, true, false, cond, eqb, ◌⊎◌, List, [], ◌∷◌, ◌++◌, length, get_or, drop, Some, None, Ok, Err, Option, Result, sym, refl, ap, ◌∙◌, subst, inl, inr, ⊎_elim, append_assoc, append-nil, add-zero, arith, lit<, length-append, get_or-append-add}
use Rattle.std.specs.Result.{result_and}
use Rattle.std.proofs.lemmas.Bool.Decides.{nat_tests}
use native.Mathlib.Decide.{dec_lt}
use Rattle.fault.specs.declared.Fault.{Fault}
use Rattle.calls.specs.declared.call.Call.{Call}
use Rattle.calls.specs.declared.call.Call.TheVariants.{Read, Write, Unposted, Advance, Lock, LockedRead, LockedWrite, Unlock, Ask, MasterRead, MasterWrite, Give, Snoop, Flush}
use Rattle.port.specs.declared.Store.{Store as StoreRecord}
use Rattle.calls.specs.declared.call.Cargo.{Cargo}
use Rattle.calls.specs.declared.call.Cargo.TheVariants.{Nothing, Word, Store}
use Rattle.calls.specs.Calls.{cargo_of, size_with, size_of}
use Rattle.calls.specs.Words.{words}
use Rattle.calls.specs.Format.{bits, kind_of, lanes_of, target_of, value_of, malformed, unfit_length, given, map_ok, bare_call, target_in, value_in, store_in, call_of_kind, call_in, first_of, front, stride, calls_from, length_in, meaning}
use Rattle.calls.specs.Encoding.{packed, kind_for, words_with, call_words, list_words, CargoFits, CallsFit}
use Rattle.calls.specs.Malformed.{NoCall, Stores, NoData, BadData, BadCallWord, BadDataWord, FirstMalformed, LengthFits, WrongWith, FirstMalformedWordIsTold}
use Rattle.calls.proofs.Reading.{one_or_two, continued, calls_step}
use Rattle.calls.proofs.Codec.{Bytes, Words, Word32, Made, kind_packed, spare_packed, call_front, past_call, call_ok, front_ok, words_below, fit_length}

-- Nothing is both read and refused, and nothing is refused in two ways.

apart : {X : Type 0} (x : X) (f : Fault) → Ok x ≡ Err f → ⊥
apart x f e = cc

err_same : {X : Type 0} (r : Result X Fault) (f g : Fault) → r ≡ Err f → r ≡ Err g → f ≡ g
err_same r f g e d = cc

map_ok_err : {X Y : Type 0} (g : X → Y) (r : Result X Fault) (f : Fault) → map_ok g r ≡ Err f → r ≡ Err f
map_ok_err g (Ok x) f e = absurd (apart (g x) f e)
map_ok_err g (Err h) f e = cc

-- The value of a storing call: where it is refused, and why.

no_value : (i : ℕ) (after : List ℕ) → NoData after → value_in i (first_of after) ≡ Err (malformed i)
no_value i [] none = refl
no_value i (v ∷ vs) none = let k : kind_of v < 15 = omega arith in grind (arith, nat_tests)

bad_value : (i : ℕ) (after : List ℕ) → Words after → BadData after → value_in i (first_of after) ≡ Err (malformed (i + 1))
bad_value i [] small bad = absurd bad
bad_value i (v ∷ vs) small bad =
    let h : v < 4294967296 = small 0 in
    let k : kind_of v ≡ 15 = omega arith in
    let b : 0 < bits v 16 12 = omega arith in
    grind (arith, nat_tests)

good_value : (i v : ℕ) → packed 15 0 0 ≤ v → v ≤ packed 15 0 65535 → value_in i (Some v) ≡ Ok (value_of v)
good_value i v low high =
    let k : kind_of v ≡ 15 = omega arith in
    let b : bits v 16 12 ≡ 0 = omega arith in
    rw (k, b)

value_told : (i : ℕ) (after : List ℕ) (f : Fault) → Words after → value_in i (first_of after) ≡ Err f →
    (NoData after × (f ≡ malformed i)) ⊎ (BadData after × (f ≡ malformed (i + 1)))
value_told i [] f small e = inl (tt, err_same (value_in i None) f (malformed i) e (no_value i [] tt))
value_told i (v ∷ vs) f small e =
    elim (dec_lt v (packed 15 0 0)) [
      | yes h ↦ inl (h, err_same (value_in i (Some v)) f (malformed i) e (no_value i (v ∷ vs) h))
      | no h ↦ elim (dec_lt (packed 15 0 65535) v) [
        | yes d ↦ inr (d, err_same (value_in i (Some v)) f (malformed (i + 1)) e (bad_value i (v ∷ vs) small d))
        | no d ↦ absurd (apart (value_of v) f (sym (good_value i v (omega arith) (omega arith)) ∙ e))
      ]
    ]

-- A storing call is refused exactly where its value is.

abbrev AsItsValue : ℕ → Type 0
AsItsValue w = (g : ℕ → Call) × ((i : ℕ) (next : Option ℕ) → call_in i w next ≡ map_ok g (value_in i next))

map_map : (make : ℕ → StoreRecord) (g : StoreRecord → Call) (r : Result ℕ Fault) → map_ok g (map_ok make r) ≡ map_ok (λ v. g (make v)) r
map_map make g (Ok v) = refl
map_map make g (Err f) = refl

store_as_its_value : (k : ℕ) (g : StoreRecord → Call) (s : StoreRecord) (w d : ℕ) → k < 16 → CargoFits (Store s) →
    ((i x : ℕ) (next : Option ℕ) → call_of_kind k i x next ≡ map_ok g (store_in i x next)) → words_with k (Store s) ≡ w ∷ d ∷ [] → AsItsValue w
store_as_its_value k g s w d hk (hw, hl, hv) row e =
    let make : ℕ → StoreRecord = λ v. record { word = target_of w; lanes = lanes_of w; value = v } in
    let is : packed k s.lanes s.word ≡ w = cc in
    let kind : kind_of w ≡ k = ap kind_of (sym is) ∙ kind_packed k s.lanes s.word hk hl hw in
    let spare : bits w 25 3 ≡ 0 = ap (λ x. bits x 25 3) (sym is) ∙ spare_packed k s.lanes s.word hk hl hw in (
      λ v. g (make v),
      λ i next.
          ap (λ n. call_of_kind n i w next) kind ∙ row i w next ∙
          ap (λ n. map_ok g (cond (eqb n 0) (map_ok make (value_in i next)) (Err (malformed i)))) spare ∙
          map_map make g (value_in i next),
    )

one_is_not_two : (x w d : ℕ) → x ∷ [] ≡ w ∷ d ∷ [] → ⊥
one_is_not_two x w d e = cc

call_as_its_value : (call : Call) (w d : ℕ) → CargoFits (cargo_of call) → call_words call ≡ w ∷ d ∷ [] → AsItsValue w
call_as_its_value (Read t) w d fit e = absurd (one_is_not_two _ w d e)
call_as_its_value (Write s) w d fit e = store_as_its_value 1 Write s w d (lit< tt) fit (λ i x next. refl) e
call_as_its_value (Unposted s) w d fit e = store_as_its_value 2 Unposted s w d (lit< tt) fit (λ i x next. refl) e
call_as_its_value Advance w d fit e = absurd (one_is_not_two _ w d e)
call_as_its_value Lock w d fit e = absurd (one_is_not_two _ w d e)
call_as_its_value (LockedRead t) w d fit e = absurd (one_is_not_two _ w d e)
call_as_its_value (LockedWrite s) w d fit e = store_as_its_value 6 LockedWrite s w d (lit< tt) fit (λ i x next. refl) e
call_as_its_value Unlock w d fit e = absurd (one_is_not_two _ w d e)
call_as_its_value Ask w d fit e = absurd (one_is_not_two _ w d e)
call_as_its_value (MasterRead t) w d fit e = absurd (one_is_not_two _ w d e)
call_as_its_value (MasterWrite s) w d fit e = store_as_its_value 10 MasterWrite s w d (lit< tt) fit (λ i x next. refl) e
call_as_its_value Give w d fit e = absurd (one_is_not_two _ w d e)
call_as_its_value (Snoop t) w d fit e = absurd (one_is_not_two _ w d e)
call_as_its_value Flush w d fit e = absurd (one_is_not_two _ w d e)

as_its_value : (w : ℕ) → Stores w → AsItsValue w
as_its_value w (call, d, fit, is) = call_as_its_value call w d fit is

-- A word that is refused even before a good data word is malformed itself, whatever comes next.

-- a data word of value 0
abbrev plain : ℕ
plain = packed 15 0 0

module _ (w i : ℕ) (next : Option ℕ) (f : Fault) where
  abbrev Also : Result Call Fault → Result Call Fault → Type 0
  Also r q = r ≡ Err f → q ≡ Err (malformed i)

  also_given : {X : Type 0} (b : Bool) (g : X → Call) (x : X) → Also (map_ok g (given b 0 x)) (map_ok g (given b i x))
  also_given true g x e = absurd (apart (g x) f e)
  also_given false g x e = refl

  also_bare : (b : Bool) (call : Call) → Also (given b 0 call) (given b i call)
  also_bare true call e = absurd (apart call f e)
  also_bare false call e = refl

  also_store : (b : Bool) (g : StoreRecord → Call) (make : ℕ → StoreRecord) →
      Also (map_ok g (cond b (map_ok make (Ok 0)) (Err (malformed 0)))) (map_ok g (cond b (map_ok make (value_in i next)) (Err (malformed i))))
  also_store true g make e = absurd (apart (g (make 0)) f e)
  also_store false g make e = refl

  also_row : (b : Bool) (r q more most : Result Call Fault) → Also r q → Also more most → Also (cond b r more) (cond b q most)
  also_row true r q more most here later e = here e
  also_row false r q more most here later e = later e

  bare : (call : Call) → Also (bare_call 0 w call) (bare_call i w call)
  bare call = also_bare (eqb (bits w 0 28) 0) call

  target : (g : ℕ → Call) → Also (map_ok g (target_in 0 w)) (map_ok g (target_in i w))
  target g = also_given (eqb (bits w 23 5) 0) g (target_of w)

  store : (g : StoreRecord → Call) → Also (map_ok g (store_in 0 w (Some plain))) (map_ok g (store_in i w next))
  store g = also_store (eqb (bits w 25 3) 0) g (λ v. record { word = target_of w; lanes = lanes_of w; value = v })

  row : (k : ℕ) (r q more most : Result Call Fault) → Also r q → Also more most → Also (cond (eqb (kind_of w) k) r more) (cond (eqb (kind_of w) k) q most)
  row k = also_row (eqb (kind_of w) k)

  refused_anyway : Also (call_in 0 w (Some plain)) (call_in i w next)
  refused_anyway =
      row 0 _ _ _ _ (target Read)
      (row 1 _ _ _ _ (store Write)
      (row 2 _ _ _ _ (store Unposted)
      (row 3 _ _ _ _ (bare Advance)
      (row 4 _ _ _ _ (bare Lock)
      (row 5 _ _ _ _ (target LockedRead)
      (row 6 _ _ _ _ (store LockedWrite)
      (row 7 _ _ _ _ (bare Unlock)
      (row 8 _ _ _ _ (bare Ask)
      (row 9 _ _ _ _ (target MasterRead)
      (row 10 _ _ _ _ (store MasterWrite)
      (row 11 _ _ _ _ (bare Give)
      (row 12 _ _ _ _ (target Snoop)
      (row 13 _ _ _ _ (bare Flush)
      (λ e. refl))))))))))))))

-- Each word is a call's only word, a storing call's first word, or no call's first word.

abbrev Alone : ℕ → Type 0
Alone w = (call : Call) × CargoFits (cargo_of call) × (call_words call ≡ w ∷ [])

alone_is_read : (w i : ℕ) (after : List ℕ) (f : Fault) → Alone w → front i (w ∷ after) ≡ Err f → ⊥
alone_is_read w i after f (call, fit, is) e =
    apart (Some call) f (sym (call_front i call after fit) ∙ ap (λ ws. front i (ws ++ after)) is ∙ e)

one_or_both : (k : ℕ) (cargo : Cargo) (w : ℕ) (ws more : List ℕ) → words_with k cargo ++ ws ≡ w ∷ more →
    (words_with k cargo ≡ w ∷ []) ⊎ ((d : ℕ) × (words_with k cargo ≡ w ∷ d ∷ []))
one_or_both k Nothing w ws more e = let z : packed k 0 0 ≡ w = cc in inl (ap (λ x. x ∷ []) z)
one_or_both k (Word t) w ws more e = let z : packed k 0 t ≡ w = cc in inl (ap (λ x. x ∷ []) z)
one_or_both k (Store s) w ws more e =
    let z : packed k s.lanes s.word ≡ w = cc in inr (packed 15 0 s.value, ap (λ x. x ∷ packed 15 0 s.value ∷ []) z)

of_call : (call : Call) (w : ℕ) (ws more : List ℕ) → CargoFits (cargo_of call) → call_words call ++ ws ≡ w ∷ more → Alone w ⊎ Stores w
of_call call w ws more fit is =
    ⊎_elim (λ e. inl (call, fit, e)) (λ e. inr (call, e.0, fit, e.1)) (one_or_both (kind_for call) (cargo_of call) w ws more is)

before_plain : (w : ℕ) → Word32 w → Words (w ∷ plain ∷ [])
before_plain w h zero = h
before_plain w h (suc zero) = lit< tt
before_plain w h (suc (suc i)) = lit< tt

of_read : (w : ℕ) (call : Call) → Word32 w → call_in 0 w (Some plain) ≡ Ok call → Alone w ⊎ Stores w
of_read w call h e =
    let m = call_ok 0 w (plain ∷ []) call (before_plain w h) e in of_call call w (drop (size_of call) (w ∷ plain ∷ [])) (plain ∷ []) m.0 (sym m.1)

of_refused : (w : ℕ) (f : Fault) → call_in 0 w (Some plain) ≡ Err f → NoCall w
of_refused w f e call more fit is =
    let stores = λ (s : Stores w). let g = as_its_value w s in apart (g.0 0) f (sym (g.1 0 (Some plain)) ∙ e) in
    ⊎_elim (λ a. alone_is_read w 0 (plain ∷ []) f a (ap (map_ok Some) e)) stores (of_call call w [] more fit (append-nil (call_words call) ∙ is))

-- no call's first word, which is refused even before a good data word
abbrev Refused : ℕ → Type 0
Refused w = NoCall w × ((f : Fault) × (call_in 0 w (Some plain) ≡ Err f))

three_ways : (w : ℕ) (r : Result Call Fault) → Word32 w → call_in 0 w (Some plain) ≡ r → (Alone w ⊎ Stores w) ⊎ Refused w
three_ways w (Ok call) h e = inl (of_read w call h e)
three_ways w (Err f) h e = inr (of_refused w f e, (f, e))

no_call_refused : (i w : ℕ) (next : Option ℕ) → Word32 w → NoCall w → call_in i w next ≡ Err (malformed i)
no_call_refused i w next h none =
    let some : Alone w ⊎ Stores w → ⊥ = ⊎_elim (λ c. none c.0 [] c.1 c.2) (λ c. none c.0 (c.1 ∷ []) c.2 c.3) in
    ⊎_elim (λ a. absurd (some a)) (λ n. refused_anyway w i next n.1.0 n.1.1) (three_ways w (call_in 0 w (Some plain)) h refl)

-- The word at index i, or the data word after it, is malformed exactly if it is refused.

abbrev BadFront : ℕ → Fault → List ℕ → Type 0
BadFront i f ws = (BadCallWord ws × (f ≡ malformed i)) ⊎ (BadDataWord ws × (f ≡ malformed (i + 1)))

module _ (i w : ℕ) (after : List ℕ) (f : Fault) (small : Words (w ∷ after)) where
  store_told : Stores w → call_in i w (first_of after) ≡ Err f → BadFront i f (w ∷ after)
  store_told s e =
      let g = as_its_value w s in
      let v = value_told i after f (λ k. small (suc k)) (map_ok_err g.0 (value_in i (first_of after)) f (sym (g.1 i (first_of after)) ∙ e)) in
      ⊎_elim (λ n. inl (inr (s, n.0), n.1)) (λ b. inr ((s, b.0), b.1)) v

  no_call_told : NoCall w → call_in i w (first_of after) ≡ Err f → BadFront i f (w ∷ after)
  no_call_told n e = inl (inl n, err_same (call_in i w (first_of after)) f (malformed i) e (no_call_refused i w (first_of after) (small 0) n))

  front_told : front i (w ∷ after) ≡ Err f → BadFront i f (w ∷ after)
  front_told e =
      let c : call_in i w (first_of after) ≡ Err f = map_ok_err Some (call_in i w (first_of after)) f e in
      ⊎_elim (⊎_elim (λ a. absurd (alone_is_read w i after f a e)) (λ s. store_told s c)) (λ n. no_call_told n.0 c)
      (three_ways w (call_in 0 w (Some plain)) (small 0) refl)

  store_refused : (g : Fault) → Stores w → value_in i (first_of after) ≡ Err g → f ≡ g → front i (w ∷ after) ≡ Err f
  store_refused g s v is =
      let t = as_its_value w s in
      ap (map_ok Some) (t.1 i (first_of after) ∙ ap (map_ok t.0) v) ∙ ap Err (sym is)

  front_refused : BadFront i f (w ∷ after) → front i (w ∷ after) ≡ Err f
  front_refused =
      ⊎_elim
      (λ b. ⊎_elim
      (λ n. ap (map_ok Some) (no_call_refused i w (first_of after) (small 0) n) ∙ ap Err (sym b.1))
      (λ s. store_refused (malformed i) s.0 (no_value i after s.1) b.1) b.0)
      (λ b. store_refused (malformed (i + 1)) b.0.0 (bad_value i after (λ k. small (suc k)) b.0.1) b.1)

-- What the words of a call and of more calls add up to.

words_size : (k : ℕ) (cargo : Cargo) → length (words_with k cargo) ≡ size_with cargo
words_size k Nothing = refl
words_size k (Word w) = refl
words_size k (Store s) = refl

more_size : (call : Call) (calls : List Call) → length (list_words (call ∷ calls)) ≡ size_of call + length (list_words calls)
unfolding list_words
more_size call calls =
    length-append (call_words call) (list_words calls) ∙ ap (λ k. k + length (list_words calls)) (words_size (kind_for call) (cargo_of call))

-- Words that are refused have a first malformed one at that place, where n is the index of the first of them.

abbrev Told : ℕ → Fault → List ℕ → Type 0
Told n f ws = (i : ℕ) × FirstMalformed ws i × (f ≡ malformed (n + i))

told_here : (n : ℕ) (f : Fault) (ws : List ℕ) → BadFront n f ws → Told n f ws
unfolding list_words
told_here n f ws =
    ⊎_elim
    (λ b. (0, record { calls = []; fit = tt; rest = ws; split = refl; place = inl (b.0, refl) }, b.1 ∙ ap malformed (omega arith)))
    (λ b. (1, record { calls = []; fit = tt; rest = ws; split = refl; place = inr (b.0, refl) }, b.1))

told_later : (n w : ℕ) (ws : List ℕ) (call : Call) (f : Fault) → Made call w ws → Told (n + size_of call) f (drop (size_of call) (w ∷ ws)) → Told n f (w ∷ ws)
unfolding list_words
told_later n w ws call f made (i, m, e) =
    let size = more_size call m.calls in (
      size_of call + i,
      record {
        calls = call ∷ m.calls;
        fit = (made.0, m.fit);
        rest = m.rest;
        split = made.1 ∙ ap (λ t. call_words call ++ t) m.split ∙ sym (append_assoc (call_words call) (list_words m.calls) m.rest);
        place = ⊎_elim (λ b. inl (b.0, omega arith)) (λ b. inr (b.0, omega arith)) m.place;
      },
      e ∙ ap malformed (omega arith),
    )

-- what is shown of the words after one list word, and after two
abbrev After : ℕ → ℕ → Fault → List ℕ → Type 0
After k n f ws = calls_from (n + k) (drop k ws) ≡ Err f → Told (n + k) f (drop k ws)

module _ (n w : ℕ) (ws : List ℕ) (f : Fault) (small : Words (w ∷ ws)) (one : After 1 n f (w ∷ ws)) (two : After 2 n f (w ∷ ws)) where
  after_call : (call : Call) → After (size_of call) n f (w ∷ ws)
  after_call call =
      ⊎_elim (λ k. subst (λ s. After s n f (w ∷ ws)) (sym k) one) (λ k. subst (λ s. After s n f (w ∷ ws)) (sym k) two) (one_or_two (cargo_of call))

  told_front : (r : Result (Option Call) Fault) → front n (w ∷ ws) ≡ r → continued r (calls_from (n + stride r) (drop (stride r) (w ∷ ws))) ≡ Err f → Told n f (w ∷ ws)
  told_front (Ok None) is e = absurd (apart {X = List Call} [] f e)
  told_front (Ok (Some call)) is e =
      let m = front_ok n w ws (Some call) small is in
      let same : m.0 ≡ call = cc in
      let later = map_ok_err (λ more. call ∷ more) (calls_from (n + size_of call) (drop (size_of call) (w ∷ ws))) f e in
      told_later n w ws call f (subst (λ c. Made c w ws) same m.2) (after_call call later)
  told_front (Err g) is e = let same : g ≡ f = cc in told_here n f (w ∷ ws) (front_told n w ws f small (is ∙ ap Err same))

  told_step : calls_from n (w ∷ ws) ≡ Err f → Told n f (w ∷ ws)
  told_step e = told_front (front n (w ∷ ws)) refl (sym (calls_step n (w ∷ ws)) ∙ e)

told_none : (n : ℕ) (f : Fault) → calls_from n [] ≡ Err f → Told n f []
unfolding calls_from
told_none n f e = absurd (apart {X = List Call} [] f e)

told_from : (n : ℕ) (ws : List ℕ) (f : Fault) → Words ws → calls_from n ws ≡ Err f → Told n f ws
told_from n [] f small e = told_none n f e
told_from n (w ∷ []) f small e = told_step n w [] f small (told_none (n + 1) f) (told_none (n + 2) f) e
told_from n (w ∷ v ∷ vs) f small e =
    told_step n w (v ∷ vs) f small (told_from (n + 1) (v ∷ vs) f (λ k. small (suc k))) (told_from (n + 2) vs f (λ k. small (suc (suc k)))) e

-- Words with a first malformed one are refused at its place.

refused_here : (n : ℕ) (f : Fault) (ws : List ℕ) → Words ws → BadFront n f ws → calls_from n ws ≡ Err f
refused_here n f [] small bad = absurd (⊎_elim (λ b. b.0) (λ b. b.0) bad)
refused_here n f (w ∷ ws) small bad =
    calls_step n (w ∷ ws) ∙
    ap (λ (r : Result (Option Call) Fault). continued r (calls_from (n + stride r) (drop (stride r) (w ∷ ws)))) (front_refused n w ws f small bad)

refused_after : (n : ℕ) (calls : List Call) (rest : List ℕ) (f : Fault) → CallsFit calls → Words rest →
    BadFront (n + length (list_words calls)) f rest → calls_from n (list_words calls ++ rest) ≡ Err f
unfolding list_words
refused_after n [] rest f fit small bad = refused_here n f rest small (rw add-zero at bad)
refused_after n (call ∷ calls) rest f (fits, fit) small bad =
    let ws : List ℕ = list_words calls ++ rest in
    let size = more_size call calls in
    let place : n + length (list_words (call ∷ calls)) ≡ n + size_of call + length (list_words calls) = omega arith in
    ap (calls_from n) (append_assoc (call_words call) (list_words calls) rest) ∙
    calls_step n (call_words call ++ ws) ∙
    ap (λ (r : Result (Option Call) Fault). continued r (calls_from (n + stride r) (drop (stride r) (call_words call ++ ws)))) (call_front n call ws fits) ∙
    ap (λ t. map_ok (λ more. call ∷ more) (calls_from (n + size_of call) t)) (past_call (kind_for call) (cargo_of call) ws) ∙
    ap (map_ok (λ more. call ∷ more)) (refused_after (n + size_of call) calls rest f fit small (subst (λ m. BadFront m f rest) place bad))

rest_below : (ws before rest : List ℕ) → Words ws → ws ≡ before ++ rest → Words rest
rest_below ws before rest small is i =
    subst (λ v. v < 4294967296) (ap (λ l. get_or l (length before + i) 0) is ∙ get_or-append-add before rest i 0) (small (length before + i))

refused_from : (ws : List ℕ) (i : ℕ) → Words ws → FirstMalformed ws i → calls_from 0 ws ≡ Err (malformed i)
refused_from ws i small m =
    let bad : BadFront (0 + length (list_words m.calls)) (malformed i) m.rest =
    ⊎_elim (λ b. inl (b.0, ap malformed (omega arith))) (λ b. inr (b.0, ap malformed (omega arith))) m.place in
    ap (calls_from 0) m.split ∙ refused_after 0 m.calls m.rest (malformed i) m.fit (rest_below ws (list_words m.calls) m.rest small m.split) bad

-- The length first, and then the words.

fits_or_not : (bytes : List ℕ) → LengthFits bytes ⊎ ((LengthFits bytes → ⊥) × (length_in (length bytes) ≡ Err unfit_length))
fits_or_not bytes =
    let n : ℕ = length bytes in
    elim (dec_lt 0 (n % 4)) [
      | yes part ↦ inr (λ h. let z : n % 4 ≡ 0 = h.0 in omega arith, grind (arith, nat_tests))
      | no part ↦ elim (dec_lt 16384 n) [
        | yes long ↦ inr (λ h. let z : n ≤ 16384 = h.1 in omega arith, grind (arith, nat_tests))
        | no long ↦ inl (omega arith, omega arith)
      ]
    ]

module _ (bytes : List ℕ) (small : Bytes bytes) where
  by_length : (l : Result (Unit {0}) Fault) → length_in (length bytes) ≡ l → meaning bytes ≡ result_and l (calls_from 0 (words bytes))
  by_length l e = ap (λ (r : Result (Unit {0}) Fault). result_and r (calls_from 0 (words bytes))) e

  by_words : LengthFits bytes → meaning bytes ≡ calls_from 0 (words bytes)
  by_words h = by_length (Ok tt) (fit_length (length bytes) h.0 h.1)

  list_refused : (fault : Fault) → WrongWith bytes fault → meaning bytes ≡ Err fault
  list_refused fault =
      ⊎_elim
      (λ l. ⊎_elim (λ fits. absurd (l.0 fits)) (λ u. by_length (Err unfit_length) u.1 ∙ ap Err (sym l.1)) (fits_or_not bytes))
      (λ w. by_words w.0 ∙ refused_from (words bytes) w.1.0 (words_below bytes small) w.1.1 ∙ ap Err (sym w.1.2))

  list_told : (fault : Fault) → meaning bytes ≡ Err fault → WrongWith bytes fault
  list_told fault e =
      let word : LengthFits bytes → Told 0 fault (words bytes) = λ fits. told_from 0 (words bytes) fault (words_below bytes small) (sym (by_words fits) ∙ e) in
      ⊎_elim
      (λ fits. inr (fits, ((word fits).0, (word fits).1, (word fits).2 ∙ ap malformed (omega arith))))
      (λ u. inl (u.0, err_same (meaning bytes) fault unfit_length e (by_length (Err unfit_length) u.1))) (fits_or_not bytes)

  pub first_malformed_word_is_told : FirstMalformedWordIsTold bytes (meaning bytes)
  first_malformed_word_is_told = record { refused = list_refused; told = list_told }
