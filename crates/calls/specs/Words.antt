-- The 32-bit words of a list, four bytes each, the low byte first.
use Rattle.std.specs.Prelude.{ℕ, ◌+◌, ◌*◌, List, [], ◌∷◌, drop, ◌^◌}

-- The most bytes of a list.
abbrev pub most_bytes : ℕ
most_bytes = 2 ^ 14

abbrev pub word_of : ℕ → ℕ → ℕ → ℕ → ℕ
word_of a b c d = a + b * 2 ^ 8 + c * 2 ^ 16 + d * 2 ^ 24

-- all words of a list; fewer than four bytes at its end make none
unfoldable pub words : List ℕ → List ℕ
words [] = []
words (a ∷ []) = []
words (a ∷ b ∷ []) = []
words (a ∷ b ∷ c ∷ []) = []
words (a ∷ b ∷ c ∷ d ∷ rest) = word_of a b c d ∷ words rest

-- the words from that index on
abbrev pub words_from : ℕ → List ℕ → List ℕ
words_from i bytes = drop i (words bytes)
