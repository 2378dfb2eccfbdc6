-- The shapes that the words after `stack` have. Assumes nothing.
use Rattle.std.proofs.Common.{◌≡◌, ◌≢◌, ℕ, ◌<◌, List, [], ◌∷◌, length, get_or, Err, Bor, codes, refl, sym, inl, inr, arith}
use Rattle.std.specs.Str.{bytes_eq}
use Rattle.std.proofs.lemmas.Bool.{cases_Bool, cond-false}
use Rattle.std.proofs.lemmas.Slice.Eq.{bytes_eq-Decides}
use Rattle.words.specs.Words.{texts}
use Rattle.storescript.specs.declared.expectations.Expected.TheVariants.{StackWords}
use Rattle.storeparsing.specs.Stacks.{read_stack}

pub too_few : (ws : List (Bor (List ℕ))) → length ws < 2 → Err StackWords ≡ read_stack (texts ws)
too_few [] n = refl
too_few (w ∷ []) n = refl
too_few (w ∷ v ∷ ws) n = absurd (omega arith)

pub not_mirrored : (ws : List (Bor (List ℕ))) (d : Bor (List ℕ)) → length ws ≡ 3 → (get_or ws 0 d).now ≢ codes "mirror" → Err StackWords ≡ read_stack (texts ws)
not_mirrored [] d n differs = absurd (omega arith)
not_mirrored (w ∷ []) d n differs = absurd (omega arith)
not_mirrored (w ∷ v ∷ []) d n differs = absurd (omega arith)
not_mirrored (w ∷ v ∷ u ∷ []) d n differs =
    elim (cases_Bool (bytes_eq w.now (codes "mirror"))) [
      | inl e ↦ absurd (differs ((bytes_eq-Decides w.now (codes "mirror")).0 e))
      | inr e ↦ sym (cond-false _ _ _ e)
    ]
not_mirrored (w ∷ v ∷ u ∷ t ∷ ws) d n differs = absurd (omega arith)
