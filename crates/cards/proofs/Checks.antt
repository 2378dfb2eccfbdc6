-- Checks that are made one after another. Assumes nothing.
use Rattle.std.proofs.Common.{◌≡◌, ℕ, zero, suc, ◌<◌, ◌≤◌, Bool, true, false, Ok, Err, Result, refl, ◌∙◌, ap, ⊎_elim, arith}
use Rattle.std.proofs.lemmas.Bool.{cases_lt, cases_eq}
use Rattle.faults.specs.declared.faults.Fault.{Fault}
use Rattle.stores.specs.Outcomes.{Answer}
use Rattle.cards.specs.Verdicts.{and_then, check, each}

-- what two checks accept, each accepts
pub then_ok : {A B : Type 0} (r : Result A Fault) (f : A → Result B Fault) (y : B) → and_then r f ≡ Ok y → (x : A) × (r ≡ Ok x) × (f x ≡ Ok y)
then_ok (Ok x) f y e = (x, refl, e)
then_ok (Err g) f y e = absurd cc

pub ok_then : {A B : Type 0} (r : Result A Fault) (f : A → Result B Fault) (x : A) (y : B) → r ≡ Ok x → f x ≡ Ok y → and_then r f ≡ Ok y
ok_then r f x y p q = rw p q

-- checks that all pass
pub each_ok : (f : ℕ → Answer) (n i : ℕ) → each f n ≡ Ok tt → i < n → f i ≡ Ok tt
unfolding each
each_ok f zero i e h = absurd (omega arith)
each_ok f (suc n) i e h =
    let p = then_ok (each f n) (λ _. f n) tt e in
    ⊎_elim (λ same. ap f same ∙ p.2) (λ ne. each_ok f n i p.1 (omega arith)) (cases_eq i n)

pub ok_each : (f : ℕ → Answer) (n : ℕ) → ((i : ℕ) → i < n → f i ≡ Ok tt) → each f n ≡ Ok tt
unfolding each
ok_each f zero h = refl
ok_each f (suc n) h = ok_then (each f n) (λ _. f n) tt tt (ok_each f n (λ i l. h i (omega arith))) (h n (omega arith))

-- a check that passes
pub check_ok : (b : Bool) (e : Fault) → check b e ≡ Ok tt → b ≡ true
check_ok true e h = refl
check_ok false e h = absurd cc

-- one after another
pub each_none : (f : ℕ → Answer) → each f 0 ≡ Ok tt
unfolding each
each_none f = refl

each_step : (f : ℕ → Answer) (i : ℕ) → each f (suc i) ≡ and_then (each f i) (λ _. f i)
unfolding each
each_step f i = refl

pub each_more : (f : ℕ → Answer) (i : ℕ) (r : Answer) → each f i ≡ Ok tt → f i ≡ r → each f (suc i) ≡ r
each_more f i r before here = rw (each_step, before) here

-- the first refusal is that of them all
pub each_stops : (f : ℕ → Answer) (i n : ℕ) (e : Fault) → each f i ≡ Ok tt → f i ≡ Err e → i < n → each f n ≡ Err e
each_stops f i zero e before here l = absurd (omega arith)
each_stops f i (suc n) e before here l =
    ⊎_elim
    (λ (k : i < n). rw (each_step, each_stops f i n e before here k) refl)
    (λ (k : n ≤ i). let same : i ≡ n = omega arith in rw (← same) (each_more f i (Err e) before here))
    (cases_lt i n)
