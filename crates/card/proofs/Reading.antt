-- What a reader that stops after some bytes gives.
use Rattle.std.proofs.Common.{◌≡◌, ℕ, List, [], ◌++◌, take, None, Some, IfSome, Option, ap, ◌∙◌, subst₂}
use Rattle.std.specs.declared.io.traits.Take.{Take}
use Rattle.std.specs.Io.Take.{take_limit, take_inner, take_remaining}

first_ones : (given : Option (List ℕ)) (n : ℕ) (old new : List ℕ) → old ≡ [] → IfSome (take_remaining (λ (o : Option (List ℕ)). o) (record { inner = given; limit = n })) (λ xs. new ≡ old ++ xs)
    → IfSome given (λ xs. new ≡ take n xs)
first_ones None n old new e h = tt
first_ones (Some xs) n old new e h = h ∙ ap (λ (l : List ℕ). l ++ take n xs) e

-- All of what a limited reader gives is the first bytes of what the reader inside gives.
pub first_bytes : {R : Type 0} (remaining : R → Option (List ℕ)) (t : Take R) (r : R) (n : ℕ) (old new : List ℕ) → take_limit t ≡ n → take_inner t ≡ r → old ≡ []
    → IfSome (take_remaining remaining t) (λ xs. new ≡ old ++ xs) → IfSome (remaining r) (λ given. new ≡ take n given)
first_bytes remaining t r n old new limit inner empty h =
    subst₂ (λ m s. IfSome (remaining s) (λ given. new ≡ take m given)) limit inner (first_ones (remaining (take_inner t)) (take_limit t) old new empty h)
