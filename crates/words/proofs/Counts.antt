-- The words of a slice, by how many they are. Assumes nothing.
use Rattle.std.proofs.Common.{◌≡◌, ℕ, List, [], ◌∷◌, length, get_or, Bor, refl, arith}
use Rattle.words.specs.Words.{texts}

pub one : (ws : List (Bor (List ℕ))) (d : Bor (List ℕ)) → length ws ≡ 1 → texts ws ≡ (get_or ws 0 d).now ∷ []
one [] d n = absurd (omega arith)
one (w ∷ []) d n = refl
one (w ∷ v ∷ ws) d n = absurd (omega arith)

pub two : (ws : List (Bor (List ℕ))) (d e : Bor (List ℕ)) → length ws ≡ 2 → texts ws ≡ (get_or ws 0 d).now ∷ (get_or ws 1 e).now ∷ []
two [] d e n = absurd (omega arith)
two (w ∷ []) d e n = absurd (omega arith)
two (w ∷ v ∷ []) d e n = refl
two (w ∷ v ∷ u ∷ ws) d e n = absurd (omega arith)

pub three : (ws : List (Bor (List ℕ))) (d e f : Bor (List ℕ)) → length ws ≡ 3 → texts ws ≡ (get_or ws 0 d).now ∷ (get_or ws 1 e).now ∷ (get_or ws 2 f).now ∷ []
three [] d e f n = absurd (omega arith)
three (w ∷ []) d e f n = absurd (omega arith)
three (w ∷ v ∷ []) d e f n = absurd (omega arith)
three (w ∷ v ∷ u ∷ []) d e f n = refl
three (w ∷ v ∷ u ∷ t ∷ ws) d e f n = absurd (omega arith)
