-- Where the words of a list stand among its bytes, and how a reader goes from one call to the next.
use Rattle.std.proofs.Common.{◌≡◌, ℕ, zero, suc, ◌+◌, ◌-◌, ◌*◌, ◌/◌, ◌<◌, ◌≤◌, ◌⊎◌, List, [], ◌∷◌, ◌++◌, length, get_or, drop, Some, None, Ok, Err, Option, Result, sym, refl, ap, ◌∙◌, inl, inr, ⊎_elim, append_assoc, append-nil, add-zero, arith, get_or-drop, drop-drop}
use Rattle.std.specs.Result.{result_and}
use native.Mathlib.Decide.{dec_lt}
use Rattle.fault.specs.declared.Fault.{Fault}
use Rattle.calls.specs.declared.call.Call.{Call}
use Rattle.calls.specs.declared.call.Cargo.{Cargo}
use Rattle.calls.specs.declared.call.Cargo.TheVariants.{Nothing, Word, Store}
use Rattle.calls.specs.Calls.{cargo_of, size_with, size_of}
use Rattle.calls.specs.Words.{word_of, words, words_from}
use Rattle.calls.specs.Format.{map_ok, call_in, first_of, front, stride, followed, calls_from, length_in, next_in}

-- the word with that index, where there is one
abbrev pub word_at : List ℕ → ℕ → ℕ
word_at bytes i =
    word_of (get_or bytes (i * 4) 0) (get_or bytes (i * 4 + 1) 0) (get_or bytes (i * 4 + 2) 0) (get_or bytes (i * 4 + 3) 0)

-- the word with index i + 1 is the one with index i four bytes on
at_four : (a b c d : ℕ) (rest : List ℕ) (i : ℕ) → word_at (a ∷ b ∷ c ∷ d ∷ rest) (suc i) ≡ word_at rest i
at_four a b c d rest i =
    let byte : (k : ℕ) → get_or (a ∷ b ∷ c ∷ d ∷ rest) (suc i * 4 + k) 0 ≡ get_or rest (i * 4 + k) 0 =
    λ k. let e : suc i * 4 + k ≡ 4 + (i * 4 + k) = omega arith in rw e (sym (get_or-drop 4 (a ∷ b ∷ c ∷ d ∷ rest) (i * 4 + k) 0)) in
    let first : get_or (a ∷ b ∷ c ∷ d ∷ rest) (suc i * 4) 0 ≡ get_or rest (i * 4) 0 = rw (← add-zero (suc i * 4), ← add-zero (i * 4)) (byte 0) in
    rw (first, byte 1, byte 2, byte 3)

pub words_end : (xs : List ℕ) (i : ℕ) → length xs < i * 4 + 4 → words_from i xs ≡ []
unfolding words
words_end [] zero h = refl
words_end (a ∷ []) zero h = refl
words_end (a ∷ b ∷ []) zero h = refl
words_end (a ∷ b ∷ c ∷ []) zero h = refl
words_end (a ∷ b ∷ c ∷ d ∷ rest) zero h = absurd (omega arith)
words_end [] (suc i) h = refl
words_end (a ∷ []) (suc i) h = refl
words_end (a ∷ b ∷ []) (suc i) h = refl
words_end (a ∷ b ∷ c ∷ []) (suc i) h = refl
words_end (a ∷ b ∷ c ∷ d ∷ rest) (suc i) h = words_end rest i (omega arith)

pub words_more : (xs : List ℕ) (i : ℕ) → i * 4 + 4 ≤ length xs → words_from i xs ≡ word_at xs i ∷ words_from (suc i) xs
unfolding words
words_more [] i h = absurd (omega arith)
words_more (a ∷ []) i h = absurd (omega arith)
words_more (a ∷ b ∷ []) i h = absurd (omega arith)
words_more (a ∷ b ∷ c ∷ []) i h = absurd (omega arith)
words_more (a ∷ b ∷ c ∷ d ∷ rest) zero h = refl
words_more (a ∷ b ∷ c ∷ d ∷ rest) (suc i) h =
    words_more rest i (omega arith) ∙ ap (λ w. w ∷ drop (suc i) (words rest)) (sym (at_four a b c d rest i))

-- what word_at answers
pub word_there : (xs : List ℕ) (i : ℕ) → i < length xs / 4 → first_of (words_from i xs) ≡ Some (word_at xs i)
word_there xs i h = let k : i * 4 + 4 ≤ length xs = omega arith in ap first_of (words_more xs i k)

pub word_past : (xs : List ℕ) (i : ℕ) → length xs / 4 ≤ i → first_of (words_from i xs) ≡ None
word_past xs i h = let k : length xs < i * 4 + 4 = omega arith in ap first_of (words_end xs i k)

-- the front of some words, by their first two
pub front_none : (i : ℕ) (ws : List ℕ) → None ≡ first_of ws → front i ws ≡ Ok None
front_none i [] e = refl
front_none i (w ∷ ws) e = cc

pub front_some : (i w : ℕ) (ws : List ℕ) (next : Option ℕ) → Some w ≡ first_of ws → next ≡ first_of (drop 1 ws) → front i ws ≡ map_ok Some (call_in i w next)
front_some i w [] next e d = cc
front_some i w (v ∷ vs) next e d =
    let f : w ≡ v = cc in
    ap (λ (x : ℕ). map_ok Some (call_in i x (first_of vs))) (sym f) ∙ ap (λ (o : Option ℕ). map_ok Some (call_in i w o)) (sym d)

pub one_or_two : (cargo : Cargo) → (size_with cargo ≡ 1) ⊎ (size_with cargo ≡ 2)
one_or_two Nothing = inl refl
one_or_two (Word w) = inl refl
one_or_two (Store s) = inr refl

pub size_bounds : (call : Call) → (1 ≤ size_of call) × (size_of call ≤ 2)
size_bounds call = ⊎_elim (λ e. (omega arith, omega arith)) (λ e. (omega arith, omega arith)) (one_or_two (cargo_of call))

-- what next_call answers once it has a call's word and the one after it
pub next_there : (bytes : List ℕ) (i w : ℕ) (next : Option ℕ) (r : Result Call Fault) → Ok tt ≡ length_in (length bytes) →
    Some w ≡ first_of (words_from i bytes) → next ≡ first_of (words_from (i + 1) bytes) → r ≡ call_in i w next → next_in i bytes ≡ map_ok Some r
next_there bytes i w next r fit here after is =
    ap (λ (l : Result (Unit {0}) Fault). result_and l (front i (words_from i bytes))) (sym fit) ∙
    front_some i w (words_from i bytes) next here (after ∙ ap first_of (sym (drop-drop 1 i (words bytes)))) ∙
    ap (map_ok Some) (sym is)

-- A call, and then what the rest of the list gives.
abbrev pub continued : Result (Option Call) Fault → Result (List Call) Fault → Result (List Call) Fault
continued (Ok None) more = Ok []
continued (Ok (Some call)) more = map_ok (λ calls. call ∷ calls) more
continued (Err e) more = Err e

followed_one : (i w : ℕ) (r : Result (Option Call) Fault) →
    followed r (Ok []) (Ok []) ≡ continued r (calls_from (i + stride r) (drop (stride r) (w ∷ [])))
unfolding calls_from
followed_one i w (Ok None) = refl
followed_one i w (Ok (Some call)) = ⊎_elim (λ e. rw e) (λ e. rw e) (one_or_two (cargo_of call))
followed_one i w (Err e) = refl

followed_more : (i w v : ℕ) (vs : List ℕ) (r : Result (Option Call) Fault) →
    followed r (calls_from (i + 1) (v ∷ vs)) (calls_from (i + 2) vs) ≡ continued r (calls_from (i + stride r) (drop (stride r) (w ∷ v ∷ vs)))
followed_more i w v vs (Ok None) = refl
followed_more i w v vs (Ok (Some call)) = ⊎_elim (λ e. rw e) (λ e. rw e) (one_or_two (cargo_of call))
followed_more i w v vs (Err e) = refl

-- The calls of some words are the first of them and then those of the words after it.
pub calls_step : (i : ℕ) (ws : List ℕ) → calls_from i ws ≡ continued (front i ws) (calls_from (i + stride (front i ws)) (drop (stride (front i ws)) ws))
unfolding calls_from
calls_step i [] = refl
calls_step i (w ∷ []) = followed_one i w (front i (w ∷ []))
calls_step i (w ∷ v ∷ vs) = followed_more i w v vs (front i (w ∷ v ∷ vs))

-- What the list gives from index i on.
abbrev pub rest : ℕ → List ℕ → Result (List Call) Fault
rest i bytes = result_and (length_in (length bytes)) (calls_from i (words_from i bytes))

length_step : (l : Result (Unit {0}) Fault) (i : ℕ) (ws : List ℕ) (r : Result (Option Call) Fault) → r ≡ result_and l (front i ws) →
    result_and l (calls_from i ws) ≡ continued r (result_and l (calls_from (i + stride r) (drop (stride r) ws)))
length_step (Ok u) i ws r e = rw e (calls_step i ws)
length_step (Err f) i ws r e = rw e

rest_step : (bytes : List ℕ) (i : ℕ) (r : Result (Option Call) Fault) → r ≡ next_in i bytes → rest i bytes ≡ continued r (rest (i + stride r) bytes)
rest_step bytes i r e =
    length_step (length_in (length bytes)) i (words_from i bytes) r e ∙
    ap (λ ws. continued r (result_and (length_in (length bytes)) (calls_from (i + stride r) ws))) (drop-drop (stride r) i (words bytes))

-- Some calls, and then those of a reading.
abbrev pub onto : List Call → Result (List Call) Fault → Result (List Call) Fault
onto calls (Ok more) = Ok (calls ++ more)
onto calls (Err e) = Err e

onto_more : (calls : List Call) (call : Call) (r : Result (List Call) Fault) → onto calls (map_ok (λ more. call ∷ more) r) ≡ onto (calls ++ (call ∷ [])) r
onto_more calls call (Ok more) = ap Ok (sym (append_assoc calls (call ∷ []) more))
onto_more calls call (Err e) = refl

-- The turns of a loop over a reader: m is what the whole list means, i the reader's place, o or e its answer.
module _ (m : Result (List Call) Fault) (bytes ys : List ℕ) (i : ℕ) (calls : List Call) (same : ys ≡ bytes) (inv : m ≡ onto calls (rest i bytes)) where
  turn : (r : Result (Option Call) Fault) → r ≡ next_in i ys → m ≡ onto calls (continued r (rest (i + stride r) bytes))
  turn r e = inv ∙ ap (onto calls) (rest_step bytes i r (e ∙ ap (next_in i) same))

  pub turn_more : (j : ℕ) (more : List Call) (o : Option Call) (call : Call) → Ok o ≡ next_in i ys → j ≡ i + stride (Ok o) → o ≡ Some call →
      more ≡ calls ++ (call ∷ []) → m ≡ onto more (rest j bytes)
  turn_more j more o call e moved is d =
      turn (Ok (Some call)) (ap Ok (sym is) ∙ e) ∙ onto_more calls call (rest (i + size_of call) bytes) ∙
      ap (λ k. onto (calls ++ (call ∷ [])) (rest k bytes)) (sym (moved ∙ ap (λ (p : Option Call). i + stride (Ok p)) is)) ∙
      ap (λ cs. onto cs (rest j bytes)) (sym d)

  pub turn_end : (o : Option Call) → Ok o ≡ next_in i ys → o ≡ None → m ≡ Ok calls
  turn_end o e is = turn (Ok None) (ap Ok (sym is) ∙ e) ∙ ap Ok (append-nil calls)

  pub turn_stop : (f : Fault) → Err f ≡ next_in i ys → m ≡ Err f
  turn_stop f e = turn (Err f) e

-- a call lies within the list, so that a reader comes to its end
some_within : (l : Result (Unit {0}) Fault) (r : Result (Option Call) Fault) (call : Call) → Ok (Some call) ≡ result_and l r → r ≡ Ok None → ⊥
some_within (Ok u) r call e d = let z : ◌≡◌ {A = ℕ} 0 1 = cc in omega arith
some_within (Err f) r call e d = let z : ◌≡◌ {A = ℕ} 0 1 = cc in omega arith

pub turn_less : (bytes ys : List ℕ) (i j : ℕ) (o : Option Call) (call : Call) → ys ≡ bytes → Ok o ≡ next_in i ys → j ≡ i + stride (Ok o) →
    o ≡ Some call → length bytes / 4 - j < length bytes / 4 - i
turn_less bytes ys i j o call same e moved is =
    let there : Ok (Some call) ≡ next_in i bytes = ap Ok (sym is) ∙ e ∙ ap (next_in i) same in
    let step : j ≡ i + size_of call = moved ∙ ap (λ (p : Option Call). i + stride (Ok p)) is in
    let size : 1 ≤ size_of call = (size_bounds call).0 in
    elim (dec_lt i (length bytes / 4)) [
      | yes h ↦ omega arith
      | no h ↦ absurd (some_within (length_in (length bytes)) (front i (words_from i bytes)) call there (front_none i (words_from i bytes) (sym (word_past bytes i (omega arith)))))
    ]
