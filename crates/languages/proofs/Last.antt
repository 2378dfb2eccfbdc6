-- The last scenario changes, or may not. Assumes nothing.
use Rattle.std.proofs.Common.{◌≡◌, ℕ, suc, zero, ◌+◌, ◌-◌, ◌<◌, List, [], ◌∷◌, map, length, get_or, slice_set, Ok, Err, Result, ap, arith}
use Rattle.failures.specs.Answers.{UnlessMemory}
use Rattle.failures.specs.declared.Failure.{Failure}
use Rattle.failures.specs.declared.Failure.TheVariants.{Because, Memory}
use Rattle.languages.specs.Expecting.{shown}
use Rattle.languages.specs.Scripts.{change_last, Added}

module _ {S P E : Type 0} (plan : S → P) (e : E) (change : P → Result P E) (d : S) where
  last_set : (y : S) (xs : List S) (i : ℕ) → i + 1 ≡ length xs → change (plan (get_or xs i d)) ≡ Ok (plan y) → change_last e change (map plan xs) ≡ Ok (map plan (slice_set xs i y))
  last_set y [] i n h = absurd (omega arith)
  last_set y (x ∷ []) zero n h = ap (λ (r : Result P E). shown (λ q. q ∷ []) r) h
  last_set y (x ∷ []) (suc i) n h = absurd (omega arith)
  last_set y (x ∷ z ∷ xs) zero n h = absurd (omega arith)
  last_set y (x ∷ z ∷ xs) (suc i) n h = ap (λ (r : Result (List P) E). shown (λ more. plan x ∷ more) r) (last_set y (z ∷ xs) i (omega arith) h)

  last_bad : (f : E) (xs : List S) (i : ℕ) → i + 1 ≡ length xs → change (plan (get_or xs i d)) ≡ Err f → change_last e change (map plan xs) ≡ Err f
  last_bad f [] i n h = absurd (omega arith)
  last_bad f (x ∷ []) zero n h = ap (λ (r : Result P E). shown (λ q. q ∷ []) r) h
  last_bad f (x ∷ []) (suc i) n h = absurd (omega arith)
  last_bad f (x ∷ z ∷ xs) zero n h = absurd (omega arith)
  last_bad f (x ∷ z ∷ xs) (suc i) n h = ap (λ (r : Result (List P) E). shown (λ more. plan x ∷ more) r) (last_bad f (z ∷ xs) i (omega arith) h)

  pub last_changed : (y : S) (xs : List S) (n : ℕ) (r : Result (Unit {0}) (Failure E)) → n ≡ length xs → 0 < n → UnlessMemory (λ _. plan y) (change (plan (get_or xs (n - 1) d))) r → Added plan (change_last e change (map plan xs)) (slice_set xs (n - 1) y) r
  last_changed y xs n (Ok u) l some h = last_set y xs (n - 1) (omega arith) h
  last_changed y xs n (Err (Because f)) l some h = last_bad f xs (n - 1) (omega arith) h
  last_changed y xs n (Err Memory) l some h = tt
